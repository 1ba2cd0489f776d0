-- Lists that the code reads from the front on: what was found, in front of what the rest gives.
use Rattle.std.specs.Prelude.{ℕ, ◌+◌, List, [], ◌∷◌, ◌++◌, Option, Some, None}
use Rattle.base.specs.declared.datum.Symbol.{Symbol}
use Rattle.front_profile.specs.declared.parameters.Parameters.{Parameters}
use Rattle.front_profile.specs.MethodShapes.{Asked, Specialised}

abbrev pub parameters_behind : List Symbol → Option Parameters → Option Parameters
parameters_behind xs None = None
parameters_behind xs (Some ps) = Some (record { required = xs ++ ps.required; rest = ps.rest })

abbrev pub specialised_behind : List Symbol → List Asked → Option Specialised → Option Specialised
specialised_behind xs cs None = None
specialised_behind xs cs (Some m) =
    Some (record { parameters = record { required = xs ++ m.parameters.required; rest = m.parameters.rest }; classes = cs ++ m.classes })

abbrev pub all_behind : {X : Type 0} → List X → Option (List X) → Option (List X)
all_behind xs None = None
all_behind xs (Some ys) = Some (xs ++ ys)

-- lengths of segments, the first of which is so much longer
abbrev pub longer_by : ℕ → List ℕ → List ℕ
longer_by n [] = []
longer_by n (m ∷ ms) = (n + m) ∷ ms

-- a number among the rest, which begins at that place
abbrev pub from : ℕ → Option ℕ → Option ℕ
from n None = None
from n (Some m) = Some (n + m)
