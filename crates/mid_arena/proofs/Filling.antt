-- The loop that stores the same word again and again: with a turn for each word, it falls out where all were stored. And the code that
-- ends with it.
use Rattle.std.proofs.Common.{◌≡◌, ℕ, zero, suc, ◌+◌, ◌*◌, ◌%◌, ◌^◌, ◌<◌, ◌≤◌, true, false, List, [], ◌∷◌, ◌++◌, replicate, Option, Some, refl, ap, ◌∙◌, arith}
use Rattle.std.specs.Prelude.{pos, nat_lt}
use Rattle.std.proofs.lemmas.Bool.Decides.{nat_tests}
use Rattle.mid_code.specs.declared.operation.Arithmetic.TheVariants as which
use Rattle.mid_code.specs.declared.program.MidProcedure.{MidProcedure}
use Rattle.mid_code.specs.MidCode.{MidStep, return_word, code_of}
use Rattle.mid_code.specs.State.{Registers, MidState, MidOutcome, falls, returns, ends}
use Rattle.mid_code.specs.Meaning.{Task, Context}
use Rattle.mid_arena.specs.Steps as steps
use Rattle.mid_arena.proofs.Memory.{with_words}
use Rattle.mid_arena.proofs.Running.{StepsTo, turning, none_left, and_then, constant_falls, compute_known, store_in_heap}
use Rattle.mid_arena.proofs.Running.{address_above, repeat_falls, repeat_turn, RunsTo, and_ends, costing, return_ends}
use Rattle.mid_arena.proofs.WordFacts.{sum_fits}

-- the step with the loop, and what is done in a turn
abbrev turn_of_fill : List MidStep
turn_of_fill = steps.store 4 7 (pos 8) ∷ steps.compute_by 7 which.Add 7 4

abbrev pub fill : MidStep
fill = steps.while_below 7 5 turn_of_fill

-- register 6 after so many turns
abbrev pub six_after : ℕ → Option ℕ → Option ℕ
six_after zero before = before
six_after (suc count) before = Some 4

-- the same step, with what it costs in one sum, and its registers in another form
known_falls :
    {c : Context} {s : MidStep} {rs rs' rs'' : Registers} {z z' : MidState} {n : ℕ} → StepsTo c s rs z (ends falls rs' z') → rs' ≡ rs'' → z'.cost ≡ n
    → StepsTo c s rs z (ends falls rs'' (record z' { cost = n }))
known_falls {rs'' = rs''} {z' = z'} g same cost =
    record { same = g.same ∙ ap (λ rs. ends falls rs z') same ∙ ap (λ n. ends falls rs'' (record z' { cost = n })) cost }

module _ (procedures : List MidProcedure) (below : Task → MidState → MidOutcome) where
  -- So many words are stored from an address on, which is 8 behind the one in register 7; register 5 has the address at which the latter ends.
  pub fill_falls :
      (count n x from end w : ℕ) (a b c d six : Option ℕ) (z : MidState) → count ≤ n → from ≡ x + 8 → end ≡ x + 4 * count → from % 4 ≡ 0
      → z.arena.heap_from ≤ from → from + 4 * count ≤ z.arena.heap_to → z.arena.heap_to < 2 ^ 32
      → StepsTo (turning procedures below n) fill (a ∷ b ∷ c ∷ d ∷ Some w ∷ Some end ∷ six ∷ Some x ∷ []) z
      (ends falls (a ∷ b ∷ c ∷ d ∷ Some w ∷ Some end ∷ six_after count six ∷ Some end ∷ [])
      (record z { arena = with_words from (replicate count w) z.arena; cost = z.cost + (12 + 38 * count) }))
  fill_falls zero n x from end w a b c d six z turns first last aligned low high small =
      let same : x ≡ end = omega arith in
      let not_below : nat_lt x end ≡ false = grind (arith, nat_tests) in
      known_falls (repeat_falls none_left refl refl not_below)
      (ap (λ p. a ∷ b ∷ c ∷ d ∷ Some w ∷ Some end ∷ six ∷ Some p ∷ []) same) (omega arith)
  fill_falls (suc count) zero x from end w a b c d six z turns first last aligned low high small = absurd (omega arith)
  fill_falls (suc count) (suc n) x from end w a b c d six z turns first last aligned low high small =
      let is_below : nat_lt x end ≡ true = grind (arith, nat_tests) in
      known_falls
      (repeat_turn procedures below n none_left refl refl is_below
      (and_then (store_in_heap refl refl (address_above x 8 from (omega arith) (omega arith)) aligned low (omega arith))
      (and_then constant_falls
      (and_then (compute_known {x = x + 4} refl refl (omega arith)) none_left)))
      (fill_falls count n (x + 4) (from + 4) end w a b c d (Some 4) _
      (omega arith) (omega arith) (omega arith) (omega arith) (omega arith) (omega arith) small))
      (ap (λ s. a ∷ b ∷ c ∷ d ∷ Some w ∷ Some end ∷ s ∷ Some end ∷ []) (still count)) (omega arith)
    where
      still : (count : ℕ) → six_after count (Some 4) ≡ Some 4
      still zero = refl
      still (suc count) = refl

-- the words are stored behind the first two, and the pointer to them is returned
abbrev pub filling_code : List MidStep
filling_code = fill ∷ steps.compute_by 3 which.Add 3 2 ++ return_word 3 ∷ []

pub filling_ends :
    {r0 r1 r2 r6 : Option ℕ} (procedures : List MidProcedure) (below : Task → MidState → MidOutcome) (n count heap w k : ℕ) (y : MidState) → count ≤ n → heap % 4 ≡ 0
    → y.arena.heap_from ≤ heap → heap + 4 * (2 + count) ≤ y.arena.heap_to → y.arena.heap_to ≤ 2 ^ 26
    → RunsTo (turning procedures below n) (code_of filling_code) (r0 ∷ r1 ∷ r2 ∷ Some heap ∷ Some w ∷ Some (heap + 4 * count) ∷ r6 ∷ Some heap ∷ []) (record y { cost = k })
    (ends (returns (heap + 2)) (r0 ∷ r1 ∷ r2 ∷ Some (heap + 2) ∷ Some w ∷ Some (heap + 4 * count) ∷ Some 2 ∷ Some (heap + 4 * count) ∷ [])
    (record y { arena = with_words (heap + 4 + 4) (replicate count w) y.arena; cost = k + 42 + 38 * count }))
filling_ends procedures below n count heap w k y turns aligned low high small =
    costing
    (and_then
    (fill_falls procedures below count n heap (heap + 4 + 4) (heap + 4 * count) _ _ _ _ _ _ _ turns (omega arith) refl (omega arith) (omega arith) (omega arith) (omega arith))
    (and_then constant_falls
    (and_then (compute_known refl refl (sum_fits heap 2 (omega arith)))
    (and_ends tt (return_ends refl))))) (omega arith)
