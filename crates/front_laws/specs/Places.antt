-- Places: whether one is that of a datum or of one inside it, and whether it is one of a text.
use Rattle.std.specs.Prelude.{◌≡◌, ◌≤◌, ◌⊎◌}
use Rattle.base.specs.declared.place.Place.{Place}
use Rattle.base.specs.Data.{Item, item, Content, integer, character, symbol, string, vector, nil, list, Items, no_item, item_and, Tail, no_tail, dotted}

-- lines and columns of a text begin at 1
pub record InText (p : Place) : Type 0 where
  pub line : 1 ≤ p.line
  pub column : 1 ≤ p.column

-- `IsPlaceIn q d`: a datum stands at the place q, d itself or one inside it
unfoldable mutual
  pub IsPlaceIn : Place → Item → Type 0
  IsPlaceIn q (item p c) = (q ≡ p) ⊎ IsPlaceInside q c

  pub IsPlaceInside : Place → Content → Type 0
  IsPlaceInside q (integer n) = ⊥
  IsPlaceInside q (character c) = ⊥
  IsPlaceInside q (symbol s) = ⊥
  IsPlaceInside q (string bytes) = ⊥
  IsPlaceInside q (vector ds) = IsPlaceAmong q ds
  IsPlaceInside q nil = ⊥
  IsPlaceInside q (list ds t) = IsPlaceAmong q ds ⊎ IsPlaceBehind q t

  pub IsPlaceAmong : Place → Items → Type 0
  IsPlaceAmong q no_item = ⊥
  IsPlaceAmong q (item_and d ds) = IsPlaceIn q d ⊎ IsPlaceAmong q ds

  -- behind the dot of a list
  pub IsPlaceBehind : Place → Tail → Type 0
  IsPlaceBehind q no_tail = ⊥
  IsPlaceBehind q (dotted d) = IsPlaceIn q d
