-- Lists that are mapped, or tested, item by item.
use Rattle.std.proofs.Common.{◌≡◌, ℕ, ◌+◌, ◌≤◌, List, [], ◌∷◌, ◌++◌, length, take, map, Some, refl, sym, subst, ◌∙◌, ap, append_assoc}
use Rattle.std.specs.Prelude.{slice_get}
use Rattle.std.proofs.lemmas.List.{take_all}
use Rattle.base.specs.AllOf.{AllOf, all_both}
use Rattle.base.specs.model.DataRest.{take_at}

map_behind : {X Y : Type 0} (f : X → Y) (xs : List X) (x : X) → map f (xs ++ x ∷ []) ≡ map f xs ++ f x ∷ []
map_behind f [] x = refl
map_behind f (y ∷ ys) x = ap (λ zs. f y ∷ zs) (map_behind f ys x)

-- one item more
pub mapped_more : {X Y : Type 0} (f : X → Y) (before now next : List Y) (xs : List X) (i : ℕ) (x : X) → slice_get xs i ≡ Some x
    → now ≡ before ++ map f (take i xs) → next ≡ now ++ f x ∷ [] → next ≡ before ++ map f (take (i + 1) xs)
mapped_more f before now next xs i x here so_far more =
    more ∙ ap (λ l. l ++ f x ∷ []) so_far ∙ append_assoc before (map f (take i xs)) (f x ∷ [])
    ∙ ap (λ l. before ++ l) (sym (map_behind f (take i xs) x) ∙ ap (map f) (sym (take_at xs i x here)))

-- and at the end all
pub mapped_all : {X Y : Type 0} (f : X → Y) (before now : List Y) (xs : List X) (i : ℕ) → length xs ≤ i → now ≡ before ++ map f (take i xs)
    → now ≡ before ++ map f xs
mapped_all f before now xs i past so_far = so_far ∙ ap (λ l. before ++ map f l) (take_all i xs past)

-- what holds of those so far, and of one more; and at the end of all
pub all_more : {X : Type 0} (P : X → Type 0) (xs : List X) (i : ℕ) (x : X) → slice_get xs i ≡ Some x → P x → AllOf P (take i xs) → AllOf P (take (i + 1) xs)
all_more P xs i x here holds so_far = subst (AllOf P) (sym (take_at xs i x here)) (all_both P (take i xs) (x ∷ []) so_far (holds, tt))

pub all_done : {X : Type 0} (P : X → Type 0) (xs : List X) (i : ℕ) → length xs ≤ i → AllOf P (take i xs) → AllOf P xs
all_done P xs i past so_far = subst (AllOf P) (take_all i xs past) so_far
