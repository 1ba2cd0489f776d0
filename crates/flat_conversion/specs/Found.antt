-- Variables that were found.
use Rattle.std.specs.Prelude.{ℕ, ◌==◌, Bool, List}
use Rattle.std.specs.List.{list_any}

-- whether a variable is one of these
abbrev pub has_variable : ℕ → List ℕ → Bool
has_variable v vs = list_any (λ w. v == w) vs
