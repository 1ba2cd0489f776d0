-- Ways to own exits whose records are at hand, wherever they stand: the activation has the registers that their code names.
use Rattle.std.proofs.Common.{◌≡◌, ℕ, ◌+◌, ◌≤◌, [], ◌∷◌, ◌++◌, length, Some, refl, subst, arith}
use Rattle.std.specs.Prelude.{drop, slice_get}
use Rattle.flat_language.specs.declared.place.ExitPlace.TheVariants.{Own}
use Rattle.mid_code.specs.MidCode.{cut_to, code_of}
use Rattle.mid_arena.specs.Tags.{nil_word}
use Rattle.back_lowering.specs.declared.scope.OwnExit.{OwnExit}
use Rattle.back_lowering.specs.declared.scope.Reach.{Reach}
use Rattle.back_lowering.specs.declared.scope.Reach.TheVariants.{AtOnce, ByTransfer, BySearch}
use Rattle.back_lowering.specs.declared.scope.Scope.{Scope}
use Rattle.back_lowering.specs.Codes.{lower, exit_code}
use Rattle.back_lowering.specs.Records.{landing_kept}
use Rattle.back_lowering.specs.Registers.{of_code, enough_for}
use Rattle.back_lowering.specs.Routines.{transfer_routine}
use Rattle.back_lowering.specs.Steps.{Steps, constant, call}
use Rattle.back_relation.specs.Setting.{Setting}
use Rattle.back_relation.proofs.Fitting.{registers_front, registers_behind}
use Rattle.back_relation.proofs.Points.{does_here}
use Rattle.back_exits.proofs.Whole.{second_register}
use Rattle.back_exits.specs.Exits.{IsAtHand}
use Rattle.back_exits.specs.Whole.{LawOfWholeReturns, LawOfWholeGoes}
use Rattle.back_exits.proofs.WaysToExits.{returns_law, goes_law}

-- the code keeps the landing first
keeps_landing :
    (setting : Setting) (s : Scope) (d landing i : ℕ) (x : OwnExit) → slice_get s.exits i ≡ Some x → IsAtHand x.reach
    → (ss : Steps) × (exit_code setting.names setting.at setting.program s d landing (Own i) ≡ landing_kept (d + 1) landing ++ ss)
keeps_landing setting s d landing i x found at_hand = by x.reach refl at_hand
  where
    by : (o : Reach) → x.reach ≡ o → IsAtHand o → (ss : Steps) × (exit_code setting.names setting.at setting.program s d landing (Own i) ≡ landing_kept (d + 1) landing ++ ss)
    by AtOnce same h = (cut_to x.record_register d ∷ [], rw found (rw same refl))
    by ByTransfer same h = (call d (transfer_routine setting.at) (x.record_register ∷ d ∷ []) ∷ [], rw found (rw same refl))
    by BySearch same h = absurd h

exit_registers :
    (setting : Setting) (s : Scope) (d landing i size : ℕ) (x : OwnExit) → slice_get s.exits i ≡ Some x → IsAtHand x.reach
    → enough_for (of_code (code_of (exit_code setting.names setting.at setting.program s d landing (Own i)))) ≤ size → d + 3 ≤ size
exit_registers setting s d landing i size x found at_hand fits =
    let kept = keeps_landing setting s d landing i x found at_hand in
    let all : enough_for (of_code (code_of (landing_kept (d + 1) landing ++ kept.0))) ≤ size = subst (λ (ss : Steps). enough_for (of_code (code_of ss)) ≤ size) kept.1 fits in
    let front : enough_for (of_code (code_of (landing_kept (d + 1) landing))) ≤ size = registers_front (landing_kept (d + 1) landing) kept.0 size all in
    let wide : d + 1 + 1 + 1 ≤ size = second_register (d + 1) (d + 1 + 1) (of_code (code_of (drop 2 (landing_kept (d + 1) landing)))) size front in
    omega (arith, wide)

pub whole_returns_law : LawOfWholeReturns
unfolding lower
whole_returns_law setting k turns i f placed does rs valid s d n first w env around z regs y x found at_hand stands begins registers words =
    let size : ℕ = length regs in
    let f_code : Steps = (lower setting.names setting.at setting.program s.code d f).value in
    let leaving : Steps = exit_code setting.names setting.at setting.program s.code d 0 (Own i) in
    let f_fits : enough_for (of_code (code_of f_code)) ≤ size = registers_front f_code leaving size registers in
    let leaving_fits : enough_for (of_code (code_of leaving)) ≤ size = registers_behind f_code leaving size registers in
    returns_law setting s d n size k turns i x f placed (exit_registers setting s.code d 0 i size x found at_hand leaving_fits) (omega (arith, words)) found at_hand stands.leads.0
    (does_here setting s d n size k turns f first does
    (record { stands = stands.stands.1; fits = stands.fits; leads = stands.leads.1; placed = stands.placed; forms_known = stands.forms_known }) f_fits (omega (arith, words)))
    (record { rs = rs; valid = valid; w = w; env = env; around = around; z = z; regs = regs; y = y; begins = begins; count = refl })

pub whole_goes_law : LawOfWholeGoes
unfolding lower
whole_goes_law setting k turns i segment placed rs valid s d n first w env around z regs y x found at_hand stands begins registers words =
    let size : ℕ = length regs in
    let leaving : Steps = exit_code setting.names setting.at setting.program s.code d segment (Own i) in
    let leaving_fits : enough_for (of_code (code_of leaving)) ≤ size = registers_behind (constant d nil_word ∷ []) leaving size registers in
    goes_law setting s d n size k turns i segment x placed (exit_registers setting s.code d segment i size x found at_hand leaving_fits) words found at_hand stands.leads
    (record { rs = rs; valid = valid; w = w; env = env; around = around; z = z; regs = regs; y = y; begins = begins; count = refl })
