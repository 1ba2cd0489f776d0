-- The first one of each group is kept.
use Rattle.std.specs.Prelude.{◌≡◌, ℕ, ◌==◌, List, [], ◌∷◌, ◌++◌, length, if◌then◌else◌}
use Rattle.back_words.specs.Variables.{number_among}

-- one is kept behind the others, unless there is one of its group
abbrev pub IsKept : (group : ℕ → List ℕ) → (old : List ℕ) → ℕ → (new : List ℕ) → Type 0
IsKept group old n new = new ≡ (if number_among group old n == length old then old ++ n ∷ [] else old)
