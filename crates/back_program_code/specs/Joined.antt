-- What is made of each item of a list and of its number, one behind the other.
use Rattle.std.specs.Prelude.{ℕ, ◌+◌, List, [], ◌∷◌, ◌++◌}

abbrev pub joined : {X Y : Type 0} → (make : (number : ℕ) → X → List Y) → (from : ℕ) → List X → List Y
joined make from [] = []
joined make from (x ∷ more) = make from x ++ joined make (from + 1) more
