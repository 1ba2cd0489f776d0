-- What holds of each part that a right side writes.
use Rattle.std.specs.Prelude.{ℕ, ◌+◌, List, [], ◌∷◌, Option, Some, None}
use Rattle.base.specs.Data.{Item}
use Rattle.base.specs.AllOf.{AllOf, all_both}
use Rattle.lang_derived.specs.Pieces.{Piece}
use Rattle.lang_derived.specs.Patterns.{Patterns, Parts, fit_all}
use Rattle.lang_derived.specs.RightSides.{before_others, repeated}
use Rattle.lang_derived.proofs.Parts.{GoesDown, OfParts, OfPartsSome, fit_all_too}

module _ (P : Item → Type 0) (Q : Piece → Type 0) (down : GoesDown P) where
  before_each : (f : ℕ → Parts → List Piece) → ((n : ℕ) (parts : Parts) → OfParts P parts → AllOf Q (f n parts)) → (own : ℕ) (found : Option Parts)
      (more : ℕ → List Piece) → OfPartsSome P found → ((n : ℕ) → AllOf Q (more n)) → AllOf Q (before_others f own found more)
  before_each f g own None more p h = h own
  before_each f g own (Some parts) more p h = all_both Q (f own parts) (more (own + 1)) (g own parts p) (h (own + 1))

  pub repeated_each : (names : List (List ℕ)) (ps : Patterns) (f : ℕ → Parts → List Piece) → ((n : ℕ) (parts : Parts) → OfParts P parts → AllOf Q (f n parts))
      → (ds : List Item) → AllOf P ds → (own : ℕ) → AllOf Q (repeated names ps f ds own)
  repeated_each names ps f g [] h own = tt
  repeated_each names ps f g (d ∷ ds) h own =
      before_each f g own (fit_all names ps (d ∷ [])) (λ n. repeated names ps f ds n)
      (fit_all_too P down names ps (d ∷ []) (h.0, tt)) (repeated_each names ps f g ds h.1)
