-- The branch of a serial number: it goes on where there is a number, and else leads to itself, so that the machine waits there for ever.
use Rattle.std.proofs.Common.{◌≡◌, ℕ, zero, suc, ◌+◌, ◌*◌, ◌^◌, ◌<◌, false, List, [], ◌∷◌, refl, ap, ◌∙◌, arith}
use Rattle.std.specs.Prelude.{slice_index, ◌==◌}
use Rattle.base.specs.Arithmetic.{sum32}
use Rattle.rv_encode.specs.declared.instruction.Instr.{Instr}
use Rattle.rv_encode.specs.declared.instruction.Instr.TheVariants.{Beq}
use Rattle.rv_machine.specs.declared.ending.Ending.TheVariants.{Budget}
use Rattle.rv_machine.specs.Memory.{bytes_of}
use Rattle.rv_machine.specs.State.{State}
use Rattle.rv_machine.specs.Step.{next, branch, step_of}
use Rattle.rv_machine.specs.Run.{act, run_from}
use Rattle.mid_code.specs.State.{MidState}
use Rattle.back_places.specs.Relation.{HasCode, WaitsForEver}
use Rattle.back_emission.specs.Moments.{state_at, Beside, later, moment, AreSmall, Sets}
use Rattle.back_emission.proofs.Coming.{one_step, step_at, next_place}

-- a step that leads to the state it comes from, again and again
stays_there :
    (s : State) (n : ℕ) (o : Beside) → step_of s ≡ next s
    → ((run_from n (moment s o)).ending ≡ Budget) × ((run_from n (moment s o)).at.printed ≡ o.printed)
unfolding run_from
stays_there s zero o e = (refl, refl)
stays_there s (suc n) o e =
    let again = stays_there s n (later 1 o) e in
    let one : run_from (suc n) (moment s o) ≡ run_from n (moment s (later 1 o)) = ap (λ r. act (run_from n) r (moment s o)) e in
    (ap (λ x. x.ending) one ∙ again.0, ap (λ x. x.at.printed) one ∙ again.1)

-- where register 5 is 0, the machine waits
pub waits :
    (words registers : List ℕ) (i : ℕ) (o : Beside) (z : MidState) (more : List Instr) → HasCode words i (Beq 5 0 0 ∷ more) → slice_index words i < 2 ^ 32
    → i < 2 ^ 25 → slice_index registers 5 ≡ 0 → slice_index registers 0 ≡ 0 → o.printed ≡ z.printed → WaitsForEver z (moment (state_at i registers words) o)
waits words registers i o z more has small low five none printed =
    let s = state_at i registers words in
    let p : sum32 (4 * i) 0 ≡ 4 * i = omega (arith, low) in
    let e : step_of s ≡ next s =
    step_at i registers words (Beq 5 0 0) more has small
    ∙ ap (λ x. branch (x == slice_index registers 0) 0 s) five
    ∙ ap (λ x. branch (0 == x) 0 s) none
    ∙ ap (λ x. next (record { pc = x; registers = registers; memory = bytes_of words })) p in
    record { goes_on = λ n. (stays_there s n o e).0; printed = λ n. (stays_there s n o e).1 ∙ printed }

-- where it is not, the machine goes on
pub passes :
    (words registers : List ℕ) → AreSmall words → (slice_index registers 5 == slice_index registers 0) ≡ false → Sets words (Beq 5 0 0 ∷ []) registers registers
passes words registers small some = record {
  by = λ i o has room.
      let p : sum32 (4 * i) 4 ≡ 4 * (i + 1) = next_place i (omega (arith, room)) in
      one_step (state_at i registers words) (state_at (i + 1) registers words) o
      (step_at i registers words (Beq 5 0 0) [] has (small i)
      ∙ ap (λ t. branch t 0 (state_at i registers words)) some
      ∙ ap (λ x. next (record { pc = x; registers = registers; memory = bytes_of words })) p);
}
