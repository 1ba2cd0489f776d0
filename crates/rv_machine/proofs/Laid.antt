-- An image's words in an arena, place by place.
use Rattle.std.proofs.Common.{◌≡◌, ℕ, ◌-◌, ◌<◌, ◌≤◌, List, ◌++◌, length, take, drop, get_or, ap, arith, ◌∙◌, sym, inl, inr, refl, append-nil}
use Rattle.std.proofs.lemmas.List.{take_all, drop_all, get_or-replicate, get_or_append_left, get_or-append_right, get_or_past}
use Rattle.std.proofs.lemmas.Bool.{cases_lt}
use Rattle.std.proofs.lemmas.Grind.{same_number_lists, common_steps}
use Rattle.rv_machine.specs.State.{laid}

pub length-laid : (words : List ℕ) (n : ℕ) → length words ≤ n → length (laid words n) ≡ n
length-laid words n h = grind (arith, common_steps)

pub get_or-laid : (words : List ℕ) (n k : ℕ) → k < n → length words ≤ n → get_or (laid words n) k 0 ≡ get_or words k 0
get_or-laid words n k h fits = elim (cases_lt k (length words)) [
  | inl within ↦ get_or_append_left words _ 0 k within
  | inr behind ↦
      get_or-append_right words _ (length words) k 0 refl behind
      ∙ (get_or-replicate (n - length words) (k - length words) 0 0 (omega arith)
      ∙ sym (get_or_past words k 0 behind))
]

-- an arena that reads so is the image's words and 0 behind them
pub laid_from_reads :
    (words arena : List ℕ) → length words ≤ length arena
    → ((k : ℕ) → k < length arena → get_or arena k 0 ≡ get_or words k 0) → arena ≡ laid words (length arena)
laid_from_reads words arena fits reads =
    same_number_lists _ _ (sym (length-laid words (length arena) fits))
    (λ k h. reads k h ∙ sym (get_or-laid words (length arena) k h fits))

-- as many words written over a list of words
pub overwritten : (items written : List ℕ) (n : ℕ) → length written ≡ length items → n ≡ length items → take n (written ++ drop (length written) items) ≡ written
overwritten items written n same e =
    ap (λ rest. take n (written ++ rest)) (drop_all (length written) items (omega arith))
    ∙ (ap (take n) (append-nil written) ∙ take_all n written (omega arith))
