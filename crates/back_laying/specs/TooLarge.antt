-- What does not fit into words.
use Rattle.std.specs.Prelude.{ℕ, ◌+◌, ◌*◌, ◌^◌, ◌≤◌, ◌⊎◌, List, [], ◌∷◌, length}

-- what holds of one of the items of a list
abbrev pub SomeOf : {X : Type 0} → (X → Type 0) → List X → Type 0
SomeOf P [] = ⊥
SomeOf P (x ∷ xs) = P x ⊎ SomeOf P xs

abbrev pub IsLarge : ℕ → Type 0
IsLarge word = 2 ^ 31 ≤ word

-- words from an address on end at 2^32 or above, or one of them is 2^31 or more
abbrev pub DoNotFit : (address : ℕ) → List ℕ → Type 0
DoNotFit address words = (2 ^ 32 ≤ address + 4 * length words) ⊎ SomeOf IsLarge words
