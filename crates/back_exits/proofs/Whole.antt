-- From points in one scope to all of them: a block wherever it stands.
use Rattle.std.proofs.Common.{ℕ, ◌+◌, ◌≤◌, List, [], ◌∷◌, ◌++◌, length, refl, ap, ◌∙◌, arith, length-append}
use Rattle.std.specs.Prelude.{drop}
use Rattle.lang_meaning.specs.declared.scope.ExitForm.TheVariants.{Block}
use Rattle.mid_code.specs.MidCode.{code_of}
use Rattle.back_lowering.specs.Codes.{lower}
use Rattle.back_lowering.specs.ControlWords.{exit_kind}
use Rattle.back_lowering.specs.Records.{exit_laid}
use Rattle.back_lowering.specs.Registers.{of_code, enough_for}
use Rattle.back_lowering.specs.Steps.{Steps}
use Rattle.back_relation.specs.Room.{words_for}
use Rattle.back_relation.specs.Activation.{FormScope, with_exit}
use Rattle.back_relation.proofs.Fitting.{enough_front, registers_front, registers_behind}
use Rattle.back_relation.proofs.Points.{does_here}
use Rattle.back_exits.specs.Blocks.{LawOfWholeBlocks}
use Rattle.back_exits.proofs.Blocks.{blocks_law}
use Rattle.back_exits.proofs.Landing.{behind_body, landing_steps}

-- registers of the code inside a record, and of the second of some
pub inside_registers : (b w : ℕ) (is ls : List ℕ) (size : ℕ) → enough_for (b ∷ w ∷ ((is ++ ls) ++ [])) ≤ size → enough_for is ≤ size
inside_registers b w is ls size h =
    let whole = enough_front (is ++ ls) [] in
    let inner = enough_front is ls in
    omega (arith, h, whole, inner)

pub second_register : (r s : ℕ) (rs : List ℕ) (size : ℕ) → enough_for (r ∷ s ∷ rs) ≤ size → s + 1 ≤ size
second_register r s rs size h = omega (arith, h)

pub whole_blocks_law : LawOfWholeBlocks
unfolding lower
whole_blocks_law setting k turns body placed does rs valid s d n first w env around z regs y stands begins registers words =
    let scope : FormScope = with_exit Block d (d + 1) s in
    let size : ℕ = length regs in
    let laying : Steps = exit_laid d (d + 1) (d + 6) exit_kind in
    let steps : Steps = (lower setting.names setting.at setting.program scope.code (d + 6) body).value in
    let inside : enough_for (of_code (code_of (laying ++ (steps ++ behind_body d)))) ≤ size =
    inside_registers (d + 1) d (of_code (code_of (laying ++ (steps ++ behind_body d)))) (of_code (code_of (landing_steps d))) size registers in
    let front : enough_for (of_code (code_of laying)) ≤ size = registers_front laying (steps ++ behind_body d) size inside in
    let wide : d + 6 + 1 + 1 ≤ size = second_register (d + 6) (d + 6 + 1) (of_code (code_of (drop 2 laying))) size front in
    let own : enough_for (of_code (code_of steps)) ≤ size = registers_front steps (behind_body d) size (registers_behind laying (steps ++ behind_body d) size inside) in
    blocks_law setting s d (words_for setting.names setting.program body) n size k turns body placed stands.forms_known (omega (arith, wide)) (omega (arith, words))
    (does_here setting scope (d + 6) (words_for setting.names setting.program body) size k turns body first does
    (record {
      stands = stands.stands;
      fits = stands.fits;
      leads = stands.leads;
      placed = stands.placed;
      forms_known = length-append s.exits.own (Block ∷ []) ∙ ap (λ n. n + 1) stands.forms_known;
    })
    own (omega arith))
    (record { rs = rs; valid = valid; w = w; env = env; around = around; z = z; regs = regs; y = y; begins = begins; count = refl })
