-- Which register is asked of one argument.
use Rattle.std.specs.Prelude.{ℕ, List, [], ◌∷◌, Option, Some, None}

-- none, where it is known that the argument is an integer
abbrev pub asked_one : (known : Option ℕ) → (d : ℕ) → List ℕ
asked_one (Some word) d = []
asked_one None d = d ∷ []
