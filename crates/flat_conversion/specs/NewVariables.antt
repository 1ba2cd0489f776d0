-- The variables that a body binds, as the translation to flat forms has them.
use Rattle.std.specs.Prelude.{ℕ, ◌+◌, not, List, [], ◌∷◌, ◌++◌, Option, Some, None, length}
use Rattle.lang_meaning.specs.Form.{Form}
use Rattle.lang_meaning.specs.Captured.{sets}
use Rattle.flat_language.specs.declared.place.Home.{Home}
use Rattle.flat_language.specs.declared.place.Home.TheVariants as home
use Rattle.flat_language.specs.declared.place.Known.{Known}
use Rattle.flat_language.specs.Scope.{Scope, home_of, slot_at}
use Rattle.flat_conversion.specs.declared.variables.NewVariable.{NewVariable}

-- a variable of a body
abbrev pub new_variable : Form → ℕ → NewVariable
new_variable body v = record { var = v; home = home_of v body; fixed = not (sets v body) }

abbrev pub new_variables : List ℕ → Form → List NewVariable
new_variables [] body = []
new_variables (v ∷ vs) body = new_variable body v ∷ new_variables vs body

abbrev pub homes_of_new : List NewVariable → List Home
homes_of_new [] = []
homes_of_new (x ∷ xs) = x.home ∷ homes_of_new xs

-- where a variable lives, in a slot where there is none
abbrev pub home_or_slot : Option Home → Home
home_or_slot None = home.Slot
home_or_slot (Some h) = h

abbrev pub known_in_slot : NewVariable → ℕ → Known
known_in_slot x n = record { place = slot_at x.home n; fixed = x.fixed }

-- new variables in slots from a number on
abbrev pub slots_of : List NewVariable → ℕ → List (ℕ × Known)
slots_of [] n = []
slots_of (x ∷ xs) n = (x.var, known_in_slot x n) ∷ slots_of xs (n + 1)

-- a scope with new variables
abbrev pub with_new : List NewVariable → Scope → Scope
with_new xs s = record s { variables = slots_of xs s.slots ++ s.variables; slots = s.slots + length xs }
