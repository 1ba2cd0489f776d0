-- Steps of derived forms end: what a step leaves to be derived is smaller than the form that it was made of.
use Rattle.std.specs.Prelude.{◌≡◌, ◌≢◌, ℕ, ◌+◌, Bool, true, false, List}
use Rattle.base.specs.declared.place.Place.{Place}
use Rattle.base.specs.Data.{Item}
use Rattle.base.specs.DataMeasures.{size_of}
use Rattle.base.specs.DataParts.{AllParts}
use Rattle.lang_derived.specs.Pieces.{Piece, word, made, taken, parens, Pieces, no_piece, piece_and, Right, Builds}
use Rattle.lang_derived.specs.Table.{is_derived}
use Rattle.lang_derived.specs.Derived.{becomes, derivation}

-- the size of the datum that is built of a part of a right side
abbrev mutual
  pub piece_weight : Piece → ℕ
  piece_weight (word text) = 1
  piece_weight (made serial) = 1
  piece_weight (taken d) = size_of d
  piece_weight (parens xs) = 1 + pieces_weight xs

  pub pieces_weight : Pieces → ℕ
  pieces_weight no_piece = 0
  pieces_weight (piece_and x xs) = piece_weight x + pieces_weight xs

-- whether parts in parentheses stand behind a derived name
abbrev pub has_derived_name : Pieces → Bool
has_derived_name no_piece = false
has_derived_name (piece_and (word text) xs) = is_derived text
has_derived_name (piece_and (made serial) xs) = false
has_derived_name (piece_and (taken d) xs) = false
has_derived_name (piece_and (parens ys) xs) = false

-- behind a derived name it holds
abbrev pub IfDerived : Bool → Type 0 → Type 0
IfDerived false P = Unit {0}
IfDerived true P = P

-- it holds of each part of a right side that may be derived again: what the step takes over, and what it
-- writes in parentheses under a derived name
abbrev mutual
  pub AllFurther : (Piece → Type 0) → Piece → Type 0
  AllFurther P (word text) = Unit {0}
  AllFurther P (made serial) = Unit {0}
  AllFurther P (taken d) = P (taken d)
  AllFurther P (parens xs) = IfDerived (has_derived_name xs) (P (parens xs)) × AllFurtherIn P xs

  pub AllFurtherIn : (Piece → Type 0) → Pieces → Type 0
  AllFurtherIn P no_piece = Unit {0}
  AllFurtherIn P (piece_and x xs) = AllFurther P x × AllFurtherIn P xs

-- `Leaves d e`: e is built of some part that may be derived again after a step of d, under some table of
-- names, or e is a part of d. "Some" is said as "not all are something else".
pub data LeavesForm (d : Item) (e : Item) : Type 0 where
  by_step : (names : List (List ℕ)) (s : ℕ) (r : Right) (p : Place) → derivation names s d ≡ becomes r
      → (AllFurther (λ x. Builds names p x e → ⊥) r.piece → ⊥) → LeavesForm d e
  by_part : (AllParts (λ x. x ≢ e) d → ⊥) → LeavesForm d e
