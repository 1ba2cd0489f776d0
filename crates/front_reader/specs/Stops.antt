-- Where a text stops being one: its longest open front, and what comes next, one case a reason.
use Rattle.std.specs.Prelude.{◌≡◌, ℕ, suc, ◌<◌, ◌≤◌, Bool, true, false, not, ◌||◌, ◌==◌, List, [], ◌∷◌, ◌++◌, length, map, codes}
use Rattle.std.specs.List.{list_any, list_all}
use Rattle.std.specs.Str.{bytes_eq}
use Rattle.base.specs.declared.place.Place.{Place}
use Rattle.base.specs.declared.reason.Reason.{Reason}
use Rattle.base.specs.declared.reason.Reason.TheVariants.{BadByte, UnclosedList, UnclosedString, UnclosedComment, StrayClose, BadDot, BadSharp, FloatLiteral, IntegerTooWide, NestTooDeep, NameTooLong}
use Rattle.front_reader.specs.Characters.{is_blank, is_token, is_printed, folded, begins, place_behind}
use Rattle.front_reader.specs.Gaps.{WithinComment}
use Rattle.front_reader.specs.Tokens.{IsToken, is_integer, is_wide, is_float}
use Rattle.front_reader.specs.Atoms.{Inside, Base}
use Rattle.front_reader.specs.Trees.{Tree, Trees, no_tree, then_tree, spelled, Stands}
use Rattle.front_reader.specs.Fronts.{Level, in_list, at_dot, at_tail, in_vector, at_prefix, Front, opening_place, dot_after, levels_behind, front_behind, IsFront}

-- no spelling, blank or comment begins with the byte
unfoldable pub begins_nothing : ℕ → Bool
begins_nothing b = not (is_token b || is_blank b || list_any (λ c. b == c) (40 ∷ 41 ∷ 34 ∷ 39 ∷ 44 ∷ 59 ∷ 35 ∷ 124 ∷ 96 ∷ []))

-- a `(`, a `#(` or a prefix comes next
pub data BeginsOpening : List ℕ → Type 0 where
  list_next : (bs : List ℕ) → BeginsOpening (40 ∷ bs)
  vector_next : (bs : List ℕ) → BeginsOpening (35 ∷ 40 ∷ bs)
  quote_next : (bs : List ℕ) → BeginsOpening (39 ∷ bs)
  quasiquote_next : (bs : List ℕ) → BeginsOpening (96 ∷ bs)
  unquote_next : (bs : List ℕ) → BeginsOpening (44 ∷ bs)
  function_next : (bs : List ℕ) → BeginsOpening (35 ∷ 39 ∷ bs)

-- nothing is open, or a prefix waits for its datum
abbrev pub TakesNoClose : List Level → Type 0
TakesNoClose [] = Unit {0}
TakesNoClose (in_list g ts ∷ ls) = ⊥
TakesNoClose (at_dot g ts h ∷ ls) = ⊥
TakesNoClose (at_tail g ts h i t ∷ ls) = ⊥
TakesNoClose (in_vector g ts ∷ ls) = ⊥
TakesNoClose (at_prefix g x ∷ ls) = Unit {0}

-- a dot may come next only in a list, behind a datum and no dot
abbrev pub TakesNoDot : List Level → Type 0
TakesNoDot [] = Unit {0}
TakesNoDot (in_list g no_tree ∷ ls) = Unit {0}
TakesNoDot (in_list g (then_tree ts h t) ∷ ls) = ⊥
TakesNoDot (at_dot g ts h ∷ ls) = Unit {0}
TakesNoDot (at_tail g ts h i t ∷ ls) = Unit {0}
TakesNoDot (in_vector g ts ∷ ls) = Unit {0}
TakesNoDot (at_prefix g x ∷ ls) = Unit {0}

-- the dot behind which nothing stands yet, or one datum, is at this place; the text begins at place p
pub data EndsAtDot (p : Place) (ts : Trees) : List Level → Place → Type 0 where
  ends_at_dot : (g : List ℕ) (us : Trees) (h : List ℕ) (ls : List Level)
      → EndsAtDot p ts (at_dot g us h ∷ ls) (dot_after (levels_behind p ts ls) g us h)

pub data EndsAtTail (p : Place) (ts : Trees) : List Level → Place → Type 0 where
  ends_at_tail : (g : List ℕ) (us : Trees) (h i : List ℕ) (t : Tree) (ls : List Level)
      → EndsAtTail p ts (at_tail g us h i t ∷ ls) (dot_after (levels_behind p ts ls) g us h)

-- the place of the innermost opening
pub data InnermostAt (p : Place) (ts : Trees) : List Level → Place → Type 0 where
  innermost_at : (l : Level) (ls : List Level) → InnermostAt p ts (l ∷ ls) (opening_place (levels_behind p ts ls) l)

-- what follows a `#` that begins no spelling
pub data IsBadSharp : List ℕ → Type 0 where
  sharp_ends : IsBadSharp []
  no_row : (b : ℕ) (bs : List ℕ) → list_any (λ c. b == c) (codes "('|\\box") ≡ false → IsBadSharp (b ∷ bs)
  no_digits : (letter base : ℕ) (w after : List ℕ) → Base letter base → list_all is_token w ≡ true
      → begins is_token after ≡ false → is_integer base w ≡ false → IsBadSharp (letter ∷ (w ++ after))
  no_character : IsBadSharp (92 ∷ [])
  no_name : (w after : List ℕ) → IsToken w after → 1 < length w → bytes_eq (map folded w) (codes "space") ≡ false
      → bytes_eq (map folded w) (codes "newline") ≡ false → IsBadSharp (92 ∷ (w ++ after))

-- `Row p ts ls q rest at r`: behind a front with these levels, of a text that begins at place p with these
-- data, comes at place q what reason r describes, whose place is `at`
pub data Row (p : Place) (ts : Trees) (ls : List Level) (q : Place) : List ℕ → Place → Reason → Type 0 where
  bad_byte : (b : ℕ) (bs : List ℕ) → begins_nothing b ≡ true → Row p ts ls q (b ∷ bs) q BadByte
  -- between bars
  bad_byte_in_bars : (bs content : List ℕ) (b : ℕ) (more : List ℕ) → Inside 124 bs content → is_printed b ≡ false
      → Row p ts ls q (124 ∷ (bs ++ b ∷ more)) (place_behind q (124 ∷ bs)) BadByte
  bad_byte_escaped : (bs content : List ℕ) (b : ℕ) (more : List ℕ) → Inside 124 bs content → is_printed b ≡ false
      → Row p ts ls q (124 ∷ (bs ++ 92 ∷ b ∷ more)) (place_behind q (124 ∷ (bs ++ 92 ∷ []))) BadByte
  unclosed_list : (at : Place) → InnermostAt p ts ls at → Row p ts ls q [] at UnclosedList
  unclosed_string : (bs content : List ℕ) → Inside 34 bs content → Row p ts ls q (34 ∷ bs) q UnclosedString
  unclosed_string_escaped : (bs content : List ℕ) → Inside 34 bs content
      → Row p ts ls q (34 ∷ (bs ++ 92 ∷ [])) q UnclosedString
  unclosed_bar : (bs content : List ℕ) → Inside 124 bs content → Row p ts ls q (124 ∷ bs) q UnclosedString
  unclosed_bar_escaped : (bs content : List ℕ) → Inside 124 bs content
      → Row p ts ls q (124 ∷ (bs ++ 92 ∷ [])) q UnclosedString
  unclosed_comment : (bs : List ℕ) (n : ℕ) → WithinComment 1 bs (suc n) → Row p ts ls q (35 ∷ 124 ∷ bs) q UnclosedComment
  stray_close : (bs : List ℕ) → TakesNoClose ls → Row p ts ls q (41 ∷ bs) q StrayClose
  -- a dot that the front does not take
  bad_dot : (bs : List ℕ) → TakesNoDot ls → begins is_token bs ≡ false → Row p ts ls q (46 ∷ bs) q BadDot
  -- no datum behind the dot
  dot_closed : (bs : List ℕ) (at : Place) → EndsAtDot p ts ls at → Row p ts ls q (41 ∷ bs) at BadDot
  -- a second datum behind the dot
  dot_second : (t : Tree) (after : List ℕ) (at : Place) → EndsAtTail p ts ls at → Stands (length ls) t after
      → Row p ts ls q (spelled t after) at BadDot
  -- an opening behind the dot's one datum
  dot_opening : (bs : List ℕ) (at : Place) → EndsAtTail p ts ls at → BeginsOpening bs → length ls < 256
      → Row p ts ls q bs at BadDot
  bad_sharp : (bs : List ℕ) → IsBadSharp bs → Row p ts ls q (35 ∷ bs) q BadSharp
  float_literal : (w after : List ℕ) → IsToken w after → is_integer 10 w ≡ false → is_float w ≡ true
      → Row p ts ls q (w ++ after) q FloatLiteral
  integer_too_wide : (w after : List ℕ) → IsToken w after → is_integer 10 w ≡ true → is_wide 10 w ≡ true
      → Row p ts ls q (w ++ after) q IntegerTooWide
  based_too_wide : (letter base : ℕ) (w after : List ℕ) → Base letter base → IsToken w after
      → is_integer base w ≡ true → is_wide base w ≡ true → Row p ts ls q (35 ∷ letter ∷ (w ++ after)) q IntegerTooWide
  nest_too_deep : (bs : List ℕ) → BeginsOpening bs → length ls ≡ 256 → Row p ts ls q bs q NestTooDeep
  token_too_long : (w after : List ℕ) → IsToken w after → is_integer 10 w ≡ false → is_float w ≡ false
      → 256 < length w → Row p ts ls q (w ++ after) q NameTooLong
  bar_too_long : (bs name after : List ℕ) → Inside 124 bs name → 256 < length name
      → Row p ts ls q (124 ∷ (bs ++ 124 ∷ after)) q NameTooLong

-- a text that begins at place p stops at a place with a reason: no front of it is longer than this one, and
-- what comes next is described by that reason's row
pub record Stops (p : Place) (text : List ℕ) (at : Place) (r : Reason) : Type 0 where
  pub front : Front
  pub rest : List ℕ
  pub is_front : IsFront text front rest
  pub is_longest : (f : Front) (left : List ℕ) → IsFront text f left → length rest ≤ length left
  pub row : Row p front.data_before front.levels (front_behind p front) rest at r

-- the text stops before its first datum is whole
pub record StopsFirst (p : Place) (text : List ℕ) (at : Place) (r : Reason) : Type 0 where
  pub stops : Stops p text at r
  pub first : stops.front.data_before ≡ no_tree
