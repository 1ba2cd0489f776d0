-- Blocks of words behind one another.
use Rattle.std.specs.Prelude.{ℕ, ◌+◌, ◌*◌, List, [], ◌∷◌, ◌++◌, length}

-- the words of each of a list, which may depend on the address where they stand, from an address on; and where those of each stand
abbrev pub blocks : {X : Type 0} → (words : X → ℕ → List ℕ) → List X → ℕ → List ℕ
blocks words [] address = []
blocks words (x ∷ xs) address = words x address ++ blocks words xs (address + 4 * length (words x address))

abbrev pub block_addresses : {X : Type 0} → (words : X → ℕ → List ℕ) → List X → ℕ → List ℕ
block_addresses words [] address = []
block_addresses words (x ∷ xs) address = address ∷ block_addresses words xs (address + 4 * length (words x address))
