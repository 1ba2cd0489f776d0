-- What is bound around a form, as the code keeps it.
use Rattle.std.specs.Prelude.{ℕ, ◌+◌, List, ◌∷◌, ◌++◌, length}
use Rattle.flat_language.specs.declared.place.ExitPlace.TheVariants as exit_place
use Rattle.flat_language.specs.Scope.{Scope}
use Rattle.flat_conversion.specs.declared.places.Places.{Places}
use Rattle.flat_conversion.specs.declared.variables.NewVariable.{NewVariable}
use Rattle.flat_conversion.specs.NewVariables.{slots_of}

abbrev pub scope_of : Places → Scope
scope_of p = record {
  variables = p.variables;
  exits = p.exits;
  method = p.method;
  slots = p.slots;
  own_exits = p.own_exits;
}

-- with new variables
abbrev pub places_with : List NewVariable → Places → Places
places_with xs p = record p { variables = slots_of xs p.slots ++ p.variables; slots = p.slots + length xs }

-- with an exit more
abbrev pub places_around : ℕ → Places → Places
places_around x p = record p { exits = (x, exit_place.Own p.own_exits) ∷ p.exits; own_exits = p.own_exits + 1 }
