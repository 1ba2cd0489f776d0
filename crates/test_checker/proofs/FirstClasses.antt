-- The built-in classes are looked at one by one.
use Rattle.std.proofs.Common.{◌≡◌, ◌∙◌, ℕ, zero, suc, Some, slice_get, ◌+◌, ◌<◌, ◌≤◌, Bool, false, ◌&&◌, List, [], ◌∷◌, length, drop, slice_index_or, arith, ap, sym}
use Rattle.std.proofs.lemmas.List.{drop_all}
use Rattle.std.proofs.lemmas.Option.{slice_get-get_or}
use Rattle.lang_meaning.specs.declared.program.ClassRow.{ClassRow}
use Rattle.lang_meaning.specs.BuiltIn.{built_in_precedence, built_in_slots}
use Rattle.lang_meaning.specs.Facts.{is_row, begins_with_built_in}
use Rattle.base.specs.model.DataRest.{rest_at}

-- whether the classes from a number on are the others
abbrev pub begins_from : List ClassRow → ℕ → Bool
begins_from cs i = begins_with_built_in (drop i cs) (drop i built_in_precedence) (drop i built_in_slots)

abbrev pub is_built_in : ClassRow → ℕ → Bool
is_built_in c i = is_row c (slice_index_or built_in_precedence i []) (slice_index_or built_in_slots i 0)

from_at : {X : Type 0} (xs : List X) (i : ℕ) (d : X) → i < length xs → drop i xs ≡ slice_index_or xs i d ∷ drop (i + 1) xs
from_at xs i d h = rest_at xs i (slice_index_or xs i d) (slice_get-get_or xs i d h)

precedence_from : (i : ℕ) → i < 34 → drop i built_in_precedence ≡ slice_index_or built_in_precedence i [] ∷ drop (i + 1) built_in_precedence
precedence_from i h = from_at built_in_precedence i [] (omega (arith, h))

slots_from : (i : ℕ) → i < 34 → drop i built_in_slots ≡ slice_index_or built_in_slots i 0 ∷ drop (i + 1) built_in_slots
slots_from i h = from_at built_in_slots i 0 (omega (arith, h))

class_from : (cs : List ClassRow) (i : ℕ) (c : ClassRow) → i < length cs → c ≡ slice_index_or cs i c → drop i cs ≡ c ∷ drop (i + 1) cs
class_from cs i c h e = from_at cs i c h ∙ ap (λ x. x ∷ drop (i + 1) cs) (sym e)

three : (cs ds : List ClassRow) (ps qs : List (List ℕ)) (ns ms : List ℕ) → cs ≡ ds → ps ≡ qs → ns ≡ ms
    → begins_with_built_in cs ps ns ≡ begins_with_built_in ds qs ms
three cs ds ps qs ns ms a b e =
    ap (λ x. begins_with_built_in x ps ns) a
    ∙ ap (λ x. begins_with_built_in ds x ns) b
    ∙ ap (λ x. begins_with_built_in ds qs x) e

pub turn : (cs : List ClassRow) (i : ℕ) (c : ClassRow) → i < 34 → i < length cs → c ≡ slice_index_or cs i c
    → begins_from cs i ≡ (is_built_in c i && begins_from cs (i + 1))
turn cs i c h l e =
    three (drop i cs) (c ∷ drop (i + 1) cs) (drop i built_in_precedence) (slice_index_or built_in_precedence i [] ∷ drop (i + 1) built_in_precedence)
    (drop i built_in_slots) (slice_index_or built_in_slots i 0 ∷ drop (i + 1) built_in_slots)
    (class_from cs i c l e) (precedence_from i h) (slots_from i h)

pub no_class_left : (cs : List ClassRow) (i : ℕ) → i < 34 → length cs ≤ i → begins_from cs i ≡ false
no_class_left cs i h l =
    three (drop i cs) [] (drop i built_in_precedence) _ (drop i built_in_slots) _
    (drop_all i cs l) (precedence_from i h) (slots_from i h)

-- an item that is there
pub item_at : {X : Type 0} (xs : List X) (i : ℕ) (x d : X) → slice_get xs i ≡ Some x → slice_index_or xs i d ≡ x
item_at [] i x d h = absurd (cc)
item_at (y ∷ ys) zero x d h = cc
item_at (y ∷ ys) (suc i) x d h = item_at ys i x d h
