-- A program's own words before the first form: where their spots are, and that they stay where the words there do.
use Rattle.std.proofs.Common.{◌≡◌, ℕ, zero, suc, ◌+◌, ◌*◌, ◌≤◌, List, ◌∷◌, ◌++◌, length, Some, refl, ◌∙◌, ap, arith}
use Rattle.std.specs.Prelude.{slice_get}
use Rattle.std.proofs.lemmas.Option.{slice_get_within}
use Rattle.base.specs.Names.{slice_get-behind}
use Rattle.mid_code.specs.Arena.{Arena}
use Rattle.mid_arena.specs.FixedWords.{low_address}
use Rattle.mid_arena.specs.Places.{Spot, Places}
use Rattle.mid_arena.specs.Standing.{SameWords}
use Rattle.mid_start.specs.StaticData.{fixed_spot, spot_for, own_spots, OwnWordsAt}

-- the low words have the spot behind the fixed one
pub low_found : (low : ℕ) (more : List Spot) → 1 ≤ low
    → slice_get (fixed_spot ∷ (spot_for low_address low ++ more)) 1 ≡ Some (record { address = low_address; words = low; tag = 0 })
low_found zero more h = absurd (omega arith)
low_found (suc n) more h = refl

-- and the further words the one behind both
pub further_found : (low at n : ℕ) → 1 ≤ n
    → slice_get (fixed_spot ∷ (spot_for low_address low ++ spot_for at n)) (suc (length (spot_for low_address low))) ≡ Some (record { address = at; words = n; tag = 0 })
further_found low at zero h = absurd (omega arith)
further_found low at (suc n) h = slice_get-behind (spot_for low_address low) (record { address = at; words = suc n; tag = 0 })

-- where the words of these spots stay, the program's own words stand as they stood
pub own_words_kept :
    (low further : List ℕ) (at : ℕ) (places : Places) (a b : Arena) → places.others ≡ own_spots low further at
    → ((n : ℕ) (s : Spot) → slice_get places.others n ≡ Some s → SameWords a b s) → OwnWordsAt low further at a → OwnWordsAt low further at b
own_words_kept low further at places a b others same own = record {
  low_words = λ i w there.
      let within = slice_get_within low i w there in
      same 1 (record { address = low_address; words = length low; tag = 0 })
      (ap (λ ss. slice_get ss 1) others ∙ low_found (length low) (spot_for at (length further)) (omega arith)) (low_address + 4 * i) (omega arith) (omega arith)
      ∙ own.low_words i w there;
  further_words = λ i w there.
      let within = slice_get_within further i w there in
      same (suc (length (spot_for low_address (length low)))) (record { address = at; words = length further; tag = 0 })
      (ap (λ ss. slice_get ss (suc (length (spot_for low_address (length low))))) others ∙ further_found (length low) at (length further) (omega arith)) (at + 4 * i) (omega arith)
      (omega arith)
      ∙ own.further_words i w there;
}
