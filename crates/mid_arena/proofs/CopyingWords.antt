-- The line that copies words: what its loop comes to.
use Rattle.std.proofs.Common.{◌≡◌, ℕ, zero, suc, ◌+◌, ◌*◌, ◌%◌, ◌<◌, ◌≤◌, pos, List, [], ◌∷◌, ◌++◌, length, Option, Some, refl, sym, ap, ◌∙◌, arith}
use Rattle.std.specs.Prelude.{slice_get}
use Rattle.std.proofs.lemmas.Option.{slice_get_within}
use Rattle.mid_code.specs.declared.operation.Arithmetic.TheVariants as which
use Rattle.mid_code.specs.declared.program.MidProcedure.{MidProcedure}
use Rattle.mid_code.specs.Arena.{word_at, with_word}
use Rattle.mid_code.specs.MidCode.{MidStep}
use Rattle.mid_code.specs.State.{MidState, MidOutcome, falls, ends}
use Rattle.mid_code.specs.Meaning.{Task}
use Rattle.mid_arena.specs.Standing.{ArenaStands}
use Rattle.mid_arena.specs.Steps as steps
use Rattle.mid_arena.proofs.Memory.{heap_below, word_elsewhere, stands_with_word, with_words}
use Rattle.mid_arena.proofs.Running.{StepsTo, turning, none_left, and_then, constant_falls, compute_known, load_falls, store_in_heap, address_above, repeat_falls, repeat_turn}
use Rattle.std.proofs.lemmas.Bool.{lt-ltb, le-ltb, ne_eqb}
use Rattle.mid_arena.proofs.WordFacts.{sum_fits}

-- the loop
abbrev pub copy_words : MidStep
copy_words =
    steps.while_below 7 5 (steps.load 6 4 (pos 6) ∷ steps.store 6 7 (pos 8) ∷ steps.compute_by 7 which.Add 7 4 ++ steps.compute_by 4 which.Add 4 4)

module _ (procedures : List MidProcedure) (below : Task → MidState → MidOutcome) where
  -- With so many turns, these words are stored from an address on. What is left in the registers that the loop uses does not matter.
  pub record Copies (n : ℕ) (ws : List ℕ) (at : ℕ) (r0 r1 r2 r3 r4 r5 r6 r7 : Option ℕ) (x : MidState) : Type 0 where
    pub four : Option ℕ
    pub six : Option ℕ
    pub seven : Option ℕ
    pub paid : ℕ
    pub steps :
        StepsTo (turning procedures below n) copy_words (r0 ∷ r1 ∷ r2 ∷ r3 ∷ r4 ∷ r5 ∷ r6 ∷ r7 ∷ []) x
        (ends falls (r0 ∷ r1 ∷ r2 ∷ r3 ∷ four ∷ r5 ∷ six ∷ seven ∷ []) (record x { arena = with_words at ws x.arena; cost = paid }))
    pub cost : paid ≡ x.cost + 12 + 62 * length ws

  -- one word is stored, and then the others are
  one_more :
      (w : ℕ) (ws : List ℕ) (n s d e from at : ℕ) (r0 r1 r2 r3 r6 : Option ℕ) (x : MidState) → ArenaStands x.arena → from ≡ s + 6 → at ≡ d + 8 → d < e
      → at % 4 ≡ 0 → x.arena.heap_from ≤ at → at + 4 ≤ x.arena.heap_to → from ≤ at → word_at x.arena from ≡ Some w
      → Copies n ws (at + 4) r0 r1 r2 r3 (Some (s + 4)) (Some e) (Some 4) (Some (d + 4))
      (record x { arena = with_word at w x.arena; cost = x.cost + 12 + 8 + 8 + 6 + 10 + 6 + 10 + 2 })
      → Copies (suc n) (w ∷ ws) at r0 r1 r2 r3 (Some s) (Some e) r6 (Some d) x
  one_more w ws n s d e from at r0 r1 r2 r3 r6 x h from_is at_is more aligned low high apart found rest =
      let small = heap_below h in
      record {
        four = rest.four;
        six = rest.six;
        seven = rest.seven;
        paid = rest.paid;
        steps =
            repeat_turn procedures below n none_left refl refl (lt-ltb d e more)
            (and_then (load_falls refl (address_above s 6 from (sym from_is) (omega arith)) found)
            (and_then (store_in_heap refl refl (address_above d 8 at (sym at_is) (omega arith)) aligned low (omega arith))
            (and_then constant_falls
            (and_then (compute_known refl refl (sum_fits d 4 (omega arith)))
            (and_then constant_falls
            (and_then (compute_known refl refl (sum_fits s 4 (omega arith)))
            none_left))))))
            rest.steps;
        cost = omega (arith, rest.cost);
      }

  -- The words stand one after another from an address on, below those where they are stored.
  pub copies :
      (ws : List ℕ) (n s d e from at : ℕ) (r0 r1 r2 r3 r6 : Option ℕ) (x : MidState) → ArenaStands x.arena → from ≡ s + 6 → at ≡ d + 8
      → e ≡ d + 4 * length ws → at % 4 ≡ 0 → x.arena.heap_from ≤ at → at + 4 * length ws ≤ x.arena.heap_to → from + 4 * length ws ≤ at
      → length ws ≤ n → ((i w : ℕ) → slice_get ws i ≡ Some w → word_at x.arena (from + 4 * i) ≡ Some w)
      → Copies n ws at r0 r1 r2 r3 (Some s) (Some e) r6 (Some d) x
  copies [] n s d e from at r0 r1 r2 r3 r6 x h from_is at_is end aligned low high apart turns found = record {
    four = Some s;
    six = r6;
    seven = Some d;
    paid = x.cost + 12;
    steps = repeat_falls none_left refl refl (le-ltb d e (omega arith));
    cost = omega arith;
  }
  copies (w ∷ ws) zero s d e from at r0 r1 r2 r3 r6 x h from_is at_is end aligned low high apart turns found = absurd (omega arith)
  copies (w ∷ ws) (suc n) s d e from at r0 r1 r2 r3 r6 x h from_is at_is end aligned low high apart turns found =
      one_more w ws n s d e from at r0 r1 r2 r3 r6 x h from_is at_is (omega arith) aligned low (omega arith) (omega arith)
      (ap (word_at x.arena) (omega arith) ∙ found 0 w refl)
      (copies ws n (s + 4) (d + 4) e (from + 4) (at + 4) r0 r1 r2 r3 (Some 4) _ (stands_with_word at w h) (omega arith) (omega arith) (omega arith)
      (omega arith) (omega arith) (omega arith) (omega arith) (omega arith) behind)
    where
      -- the words behind the first one are as they were
      behind : (i v : ℕ) → slice_get ws i ≡ Some v → word_at (with_word at w x.arena) (from + 4 + 4 * i) ≡ Some v
      behind i v e =
          let within : i < length ws = slice_get_within ws i v e in
          word_elsewhere x.arena at w (from + 4 + 4 * i) aligned (ne_eqb at (from + 4 + 4 * i) (λ same. omega arith))
          ∙ ap (word_at x.arena) (omega arith) ∙ found (suc i) v e
