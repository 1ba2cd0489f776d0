-- Tests: what they say of lists, and behind a choice.
use Rattle.std.proofs.Common.{◌≡◌, Bool, true, false, ◌||◌, List, [], ◌∷◌, refl}
use Rattle.std.specs.List.{list_all}
use Rattle.std.proofs.lemmas.Bool.{and_parts, and_from}

-- what holds behind a choice that fails
pub or_else : (a b c : Bool) → (a ≡ false → b ≡ true → c ≡ true) → (a || b) ≡ true → (a || c) ≡ true
or_else true b c f h = refl
or_else false b c f h = f refl h

-- what passes a test passes one that asks for less
pub all_more : {X : Type 0} (p q : X → Bool) → ((x : X) → p x ≡ true → q x ≡ true) → (xs : List X) → list_all p xs ≡ true → list_all q xs ≡ true
all_more p q f [] h = refl
all_more p q f (x ∷ xs) h =
    let e : (p x ≡ true) × (list_all p xs ≡ true) = and_parts (p x) (list_all p xs) h in
    and_from (q x) (list_all q xs) (f x e.0) (all_more p q f xs e.1)
