-- Class after class: what the groups so far are.
use Rattle.std.specs.Prelude.{◌≡◌, ◌≢◌, ℕ, zero, suc, ◌+◌, ◌<◌, ◌==◌, Bool, true, false, ◌&&◌, List, [], ◌∷◌, ◌++◌, map, length, slice_get, Some, if◌then◌else◌, refl, ◌||◌}
use Rattle.std.specs.Str.{bytes_eq}
use Rattle.std.specs.List.{range_with_len, list_any}
use Rattle.std.proofs.Common.{◌∙◌, sym, ap, arith, ⊎_elim, append_assoc, append-nil, length-append, add-one}
use Rattle.std.proofs.lemmas.Bool.Decides.{nat_tests}
use Rattle.std.proofs.lemmas.Slice.Eq.{bytes_eq-Decides}
use Rattle.std.proofs.lemmas.Option.{slice_get-map}
use Rattle.base.specs.Names.{slice_get-front, slice_get-behind, slice_get-push}
use Rattle.lang_meaning.specs.Cells.{one_of_each}
use Rattle.lang_dispatch.specs.declared.groups.Grouping.{Grouping}
use Rattle.lang_dispatch.specs.GroupNumbers.{NumbersGroups, IsClassGrouped}

bytes_eq-itself : (a : List ℕ) → bytes_eq a a ≡ true
bytes_eq-itself a = (bytes_eq-Decides a a).1 refl

both : (a b : Bool) → (a && b) ≡ true → (a ≡ true) × (b ≡ true)
both true b h = (refl, h)
both false b h = absurd (cc)

pub bytes_eq-is : (a b : List ℕ) → bytes_eq a b ≡ true → a ≡ b
bytes_eq-is a b h = (bytes_eq-Decides a b).0 h

bytes_eq-not : (a b : List ℕ) → (a ≡ b → ⊥) → bytes_eq a b ≡ false
bytes_eq-not a b h = by (bytes_eq a b) refl
  where
    by : (v : Bool) → bytes_eq a b ≡ v → v ≡ false
    by true e = absurd (h (bytes_eq-is a b e))
    by false e = refl

-- the classes below one, the last first
abbrev pub below : ℕ → List ℕ
below zero = []
below (suc n) = n ∷ below n

some-below : (p : ℕ → Bool) (n r : ℕ) → r < n → p r ≡ true → list_any p (below n) ≡ true
some-below p zero r h k = absurd (omega arith)
some-below p (suc n) r h k = by (p n) refl (r == n) refl (λ l. some-below p n r l k)
  where
    by : (b : Bool) → p n ≡ b → (c : Bool) → (r == n) ≡ c → (r < n → list_any p (below n) ≡ true) → (b || list_any p (below n)) ≡ true
    by true e c f g = refl
    by false e true f g = let same : r ≡ n = grind (arith) in let yes : p n ≡ true = ap p (sym same) ∙ k in absurd (cc)
    by false e false f g = g (grind (arith))

none-below : (p : ℕ → Bool) (n : ℕ) → ((r : ℕ) → r < n → p r ≡ false) → list_any p (below n) ≡ false
none-below p zero h = refl
none-below p (suc n) h =
    let here : p n ≡ false = h n (omega arith) in
    let rest : list_any p (below n) ≡ false = none-below p n (λ r l. h r (omega arith)) in
    rw (here, rest) refl

-- so far: the firsts with their groups, and the numbers of the classes below one
pub record Progress (group : ℕ → List ℕ) (n : ℕ) (firsts : List ℕ) (kept : List (List ℕ)) (numbers : List ℕ) (at : ℕ) : Type 0 where
  pub count : length numbers ≡ at
  pub left : (m : ℕ) → at + m ≡ n → firsts ++ one_of_each group (below at) (range_with_len at m) ≡ one_of_each group [] (range_with_len 0 n)
  pub groups : kept ≡ map group firsts
  pub earlier : (k r : ℕ) → slice_get firsts k ≡ Some r → r < at
  pub numbered : NumbersGroups group firsts numbers

pub progress_none : (group : ℕ → List ℕ) (n : ℕ) → Progress group n [] [] [] 0
progress_none group n = record {
  count = refl;
  left = λ m e. let same : m ≡ n = omega arith in rw same refl;
  groups = refl;
  earlier = λ k r h. absurd (cc);
  numbered = record { numbered = λ c k h. absurd (cc) };
}

-- at the end the firsts are one of each group
pub progress_all : (group : ℕ → List ℕ) (n : ℕ) (firsts : List ℕ) (kept : List (List ℕ)) (numbers : List ℕ) (at : ℕ)
    → Progress group n firsts kept numbers at → at ≡ n → firsts ≡ one_of_each group [] (range_with_len 0 n)
progress_all group n firsts kept numbers at x e = sym (append-nil firsts) ∙ x.left 0 (omega arith)

slice_get_there : (xs : List ℕ) (i : ℕ) → i < length xs → (x : ℕ) × (slice_get xs i ≡ Some x)
slice_get_there [] i h = absurd (omega arith)
slice_get_there (x ∷ xs) zero h = (x, refl)
slice_get_there (x ∷ xs) (suc i) h = slice_get_there xs i (omega arith)

map-append : (f : ℕ → List ℕ) (xs ys : List ℕ) → map f (xs ++ ys) ≡ map f xs ++ map f ys
map-append f [] ys = refl
map-append f (x ∷ xs) ys = ap (λ l. f x ∷ l) (map-append f xs ys)

-- the group of a first one
kept_at : (group : ℕ → List ℕ) (firsts : List ℕ) (k r : ℕ) → slice_get firsts k ≡ Some r → slice_get (map group firsts) k ≡ Some (group r)
kept_at group firsts k r h = slice_get-map group firsts k ∙ rw h refl

first_at : (group : ℕ → List ℕ) (firsts : List ℕ) (k : ℕ) (g : List ℕ) → slice_get (map group firsts) k ≡ Some g
    → (r : ℕ) × (slice_get firsts k ≡ Some r) × (group r ≡ g)
first_at group [] k g h = absurd (cc)
first_at group (x ∷ xs) zero g h = (x, refl, cc)
first_at group (x ∷ xs) (suc k) g h = first_at group xs k g h

-- a turn passes a class, and keeps it where it is the first of its group
turn : (group : ℕ → List ℕ) (firsts : List ℕ) (at m : ℕ) (b : Bool) → list_any (λ d. bytes_eq (group at) (group d)) (below at) ≡ b
    → (firsts ++ (if b then [] else at ∷ [])) ++ one_of_each group (below (at + 1)) (range_with_len (at + 1) m)
    ≡ firsts ++ one_of_each group (below at) (range_with_len at (suc m))
turn group firsts at m b e =
    let next : below (at + 1) ≡ at ∷ below at = ap below (add-one at) in
    rw (e, next) (append_assoc firsts (if b then [] else at ∷ []) (one_of_each group (at ∷ below at) (range_with_len (at + 1) m)))

group_is_there : (group : ℕ → List ℕ) (firsts : List ℕ) (kept : List (List ℕ)) (at k : ℕ) → kept ≡ map group firsts
    → ((j r : ℕ) → slice_get firsts j ≡ Some r → r < at) → slice_get kept k ≡ Some (group at)
    → (r : ℕ) × (slice_get firsts k ≡ Some r) × (group r ≡ group at)
group_is_there group firsts kept at k is earlier h = first_at group firsts k (group at) (rw is at h)

numbers_push : (group : ℕ → List ℕ) (firsts numbers : List ℕ) (at k r : ℕ) → NumbersGroups group firsts numbers → length numbers ≡ at
    → slice_get firsts k ≡ Some r → group r ≡ group at → NumbersGroups group firsts (numbers ++ k ∷ [])
numbers_push group firsts numbers at k r x count h e = record {
  numbered = λ c j g.
      ⊎_elim
      (λ a. x.numbered c j a)
      (λ (p : (c ≡ length numbers) × (k ≡ j)).
      let first : slice_get firsts j ≡ Some r = rw p.1 at h in
      let same : at ≡ c = sym count ∙ sym p.0 in
      (r, first, e ∙ ap group same))
      (slice_get-push numbers k c j g);
}

numbers_more : (group : ℕ → List ℕ) (firsts numbers more : List ℕ) → NumbersGroups group firsts numbers → NumbersGroups group (firsts ++ more) numbers
numbers_more group firsts numbers more x = record {
  numbered = λ c k h.
      let p : (r : ℕ) × (slice_get firsts k ≡ Some r) × (group r ≡ group c) = x.numbered c k h in
      (p.0, slice_get-front firsts more k p.0 p.1, p.2);
}

-- a class whose group is there
pub progress_found : (group : ℕ → List ℕ) (n : ℕ) (firsts : List ℕ) (kept : List (List ℕ)) (numbers : List ℕ) (at k : ℕ)
    → Progress group n firsts kept numbers at → slice_get kept k ≡ Some (group at)
    → Progress group n firsts kept (numbers ++ k ∷ []) (at + 1)
progress_found group n firsts kept numbers at k x h =
    let there : (r : ℕ) × (slice_get firsts k ≡ Some r) × (group r ≡ group at) = group_is_there group firsts kept at k x.groups x.earlier h in
    let same : bytes_eq (group at) (group there.0) ≡ true = ap (λ g. bytes_eq (group at) g) there.2 ∙ bytes_eq-itself (group at) in
    let seen : list_any (λ d. bytes_eq (group at) (group d)) (below at) ≡ true =
    some-below (λ d. bytes_eq (group at) (group d)) at there.0 (x.earlier k there.0 there.1) same in
    record {
      count = omega (arith, length-append numbers (k ∷ []), x.count);
      left = λ m e.
          let whole : firsts ++ one_of_each group (below at) (range_with_len at (suc m)) ≡ one_of_each group [] (range_with_len 0 n) = x.left (suc m) (omega arith) in
          ap (λ f. f ++ one_of_each group (below (at + 1)) (range_with_len (at + 1) m)) (sym (append-nil firsts)) ∙ turn group firsts at m true seen ∙ whole;
      groups = x.groups;
      earlier = λ j r g. let l : r < at = x.earlier j r g in omega arith;
      numbered = numbers_push group firsts numbers at k there.0 x.numbered x.count there.1 there.2;
    }

-- a class whose group is new
pub progress_new : (group : ℕ → List ℕ) (n : ℕ) (firsts : List ℕ) (kept : List (List ℕ)) (numbers : List ℕ) (at : ℕ)
    → Progress group n firsts kept numbers at → ((k : ℕ) (g : List ℕ) → slice_get kept k ≡ Some g → g ≡ group at → ⊥)
    → Progress group n (firsts ++ at ∷ []) (kept ++ group at ∷ []) (numbers ++ length firsts ∷ []) (at + 1)
progress_new group n firsts kept numbers at x h =
    let seen : list_any (λ d. bytes_eq (group at) (group d)) (below at) ≡ false =
    none-below (λ d. bytes_eq (group at) (group d)) at
    (λ r l. bytes_eq-not (group at) (group r) (λ e. new_group r l e)) in
    record {
      count = omega (arith, length-append numbers (length firsts ∷ []), x.count);
      left = λ m e.
          let whole : firsts ++ one_of_each group (below at) (range_with_len at (suc m)) ≡ one_of_each group [] (range_with_len 0 n) = x.left (suc m) (omega arith) in
          turn group firsts at m false seen ∙ whole;
      groups = rw x.groups (sym (map-append group firsts (at ∷ [])));
      earlier = λ j r g.
          ⊎_elim
          (λ a. let l : r < at = x.earlier j r a in let t : r < at + 1 = omega arith in t)
          (λ (p : (j ≡ length firsts) × (at ≡ r)). let t : r < at + 1 = omega arith in t)
          (slice_get-push firsts at j r g);
      numbered = numbers_push group (firsts ++ at ∷ []) numbers at (length firsts) at
          (numbers_more group firsts numbers (at ∷ []) x.numbered) x.count (slice_get-behind firsts at) refl;
    }
  where
    new_group : (r : ℕ) → r < at → group at ≡ group r → ⊥
    new_group r l e =
        let place : (k : ℕ) × (slice_get numbers r ≡ Some k) = slice_get_there numbers r (let f : r < length numbers = omega (arith, x.count) in f) in
        let first : (q : ℕ) × (slice_get firsts place.0 ≡ Some q) × (group q ≡ group r) = x.numbered.numbered r place.0 place.1 in
        let is : slice_get kept place.0 ≡ Some (group first.0) = rw x.groups (kept_at group firsts place.0 first.0 first.1) in
        h place.0 (group first.0) is (first.2 ∙ sym e)

-- a class that is taken
pub progress_taken : (group : ℕ → List ℕ) (n : ℕ) (old new : Grouping) (at : ℕ) (found : List ℕ)
    → Progress group n old.firsts old.kept old.numbers at → IsClassGrouped old new at found → found ≡ group at
    → Progress group n new.firsts new.kept new.numbers (at + 1)
progress_taken group n old new at found x taken e =
    ⊎_elim
    (λ (p : (k : ℕ) × (slice_get old.kept k ≡ Some found) × (new ≡ record old { numbers = old.numbers ++ k ∷ [] })).
    rw p.2 (progress_found group n old.firsts old.kept old.numbers at p.0 x (p.1 ∙ ap Some e)))
    (λ (p : ((k : ℕ) → (g : List ℕ) → slice_get old.kept k ≡ Some g → g ≢ found) × (new ≡ record {
      firsts = old.firsts ++ at ∷ [];
      kept = old.kept ++ found ∷ [];
      numbers = old.numbers ++ length old.firsts ∷ [];
    })).
    rw (p.1, e) (progress_new group n old.firsts old.kept old.numbers at x (λ k g h same. p.0 k g h (same ∙ sym e))))
    taken
