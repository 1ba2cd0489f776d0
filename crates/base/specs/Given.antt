-- What a sink was given.
use Rattle.std.specs.Prelude.{◌≡◌, ℕ, List, ◌++◌, Option, Some, IfSome}

-- a sink that is observed now was observed before, and was given these bytes since
abbrev pub WasGiven : Option (List ℕ) → List ℕ → Option (List ℕ) → Type 0
WasGiven given bytes given' = IfSome given' (λ after. (before : List ℕ) × (given ≡ Some before) × (after ≡ before ++ bytes))

-- the same of a front of the bytes alone
abbrev pub WasGivenFront : Option (List ℕ) → List ℕ → Option (List ℕ) → Type 0
WasGivenFront given bytes given' = (front rest : List ℕ) × ((front ++ rest ≡ bytes) × WasGiven given front given')
