-- Sets of parts, when parts come or go.
use Rattle.std.proofs.Common.{◌≡◌, ℕ, ◌<◌, Bool, true, false, not, ◌&&◌, ◌||◌, List, [], ◌∷◌, ◌+◌, Some, take, length, get_or, refl, sym, ap, ◌∙◌}
use Rattle.std.specs.Prelude.{slice_get}
use Rattle.std.specs.BTreeSet.{BTreeSet, contains}
use Rattle.std.specs.Ordering.{nat_cmp}
use Rattle.std.specs.List.{list_any}
use Rattle.std.proofs.lemmas.Option.{slice_get_read}
use Rattle.std.proofs.lemmas.List.Folds.{list_any-append}
use Rattle.base.specs.model.DataRest.{take_at}
use Rattle.lang_meaning.specs.declared.capture.Capture.{Capture}
use Rattle.front_elaboration.specs.declared.mentioned.Mentioned.{Mentioned}
use Rattle.front_elaboration.specs.Mentioned.{IsUnion, AreParts}

pub or_false : (a : Bool) → (a || false) ≡ a
or_false true = refl
or_false false = refl

-- the same parts by another test
pub same_parts : (m : Mentioned) (s t : Capture → Bool) → ((p : Capture) → s p ≡ t p) → AreParts m s → AreParts m t
same_parts m s t e h = record { so = λ p. h.so p ∙ e p }

-- what a loop reads is there
pub read_there : {X : Type 0} (xs ys : List X) (i : ℕ) (x : X) → ys ≡ xs → i < length ys → x ≡ get_or ys i x → slice_get xs i ≡ Some x
read_there xs ys i x e l h = ap (λ zs. slice_get zs i) (sym e) ∙ slice_get_read ys (length ys) i x refl l h

-- variables less, one after another

pub not_more : (a b x : Bool) → (not b && (not a && x)) ≡ (not (a || b) && x)
not_more true true x = refl
not_more true false x = refl
not_more false true x = refl
not_more false false x = refl

pub one_more : {X : Type 0} (q : X → Bool) (xs : List X) (i : ℕ) (x : X) → slice_get xs i ≡ Some x → (list_any q (take i xs) || q x) ≡ list_any q (take (i + 1) xs)
one_more q xs i x h =
    ap (λ b. list_any q (take i xs) || b) (sym (or_false (q x))) ∙ sym (list_any-append q (take i xs) (x ∷ [])) ∙ ap (list_any q) (sym (take_at xs i x h))

-- the parts of two sets

or_swap : (a b : Bool) → (a || b) ≡ (b || a)
or_swap true true = refl
or_swap true false = refl
or_swap false true = refl
or_swap false false = refl

pub swapped : (s t all : BTreeSet ℕ) → IsUnion t s all → IsUnion s t all
swapped s t all u = λ v. u v ∙ or_swap (contains nat_cmp t v) (contains nat_cmp s v)

pub same_union : (s t x y all : BTreeSet ℕ) → x ≡ s → y ≡ t → IsUnion x y all → IsUnion s t all
same_union s t x y all e d u = λ v.
    u v ∙ ap (λ (z : BTreeSet ℕ). contains nat_cmp z v || contains nat_cmp y v) e ∙ ap (λ (z : BTreeSet ℕ). contains nat_cmp s v || contains nat_cmp z v) d
