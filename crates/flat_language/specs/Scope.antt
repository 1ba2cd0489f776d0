-- Where the code of a procedure finds what is bound around it: the scope in which a form is made flat.
use Rattle.std.specs.Prelude.{ℕ, ◌+◌, false, not, List, [], ◌∷◌, ◌++◌, Option, Some, None, length, if◌then◌else◌}
use Rattle.lang_meaning.specs.declared.capture.Capture.{Capture}
use Rattle.lang_meaning.specs.declared.capture.Capture.TheVariants.{Variable, Exit, Method}
use Rattle.lang_meaning.specs.Form.{Form}
use Rattle.lang_meaning.specs.Captured.{has_box, sets}
use Rattle.flat_language.specs.declared.place.CapturedKind.{CapturedKind}
use Rattle.flat_language.specs.declared.place.CapturedKind.TheVariants as kind
use Rattle.flat_language.specs.declared.place.Home.{Home}
use Rattle.flat_language.specs.declared.place.Home.TheVariants as home
use Rattle.flat_language.specs.declared.place.Known.{Known}
use Rattle.flat_language.specs.declared.place.VariablePlace.{VariablePlace}
use Rattle.flat_language.specs.declared.place.VariablePlace.TheVariants.{Slot, SlotBox, CapturedValue, CapturedBox}
use Rattle.flat_language.specs.declared.place.ExitPlace.{ExitPlace}
use Rattle.flat_language.specs.declared.place.ExitPlace.TheVariants as exit_place
use Rattle.flat_language.specs.declared.place.MethodPlace.{MethodPlace}
use Rattle.flat_language.specs.declared.place.MethodPlace.TheVariants as method_place
use Rattle.flat_language.specs.declared.place.FlatCapture.{FlatCapture}
use Rattle.flat_language.specs.declared.place.FlatCapture.TheVariants as part
use Rattle.flat_language.specs.FlatState.{under, kind_of_place}

-- the variables and exits around, innermost first, and the method around; and how many slots and exits of the same
-- procedure there are
pub record Scope : Type 0 where
  pub variables : List (ℕ × Known)
  pub exits : List (ℕ × ExitPlace)
  pub method : Option MethodPlace
  pub slots : ℕ
  pub own_exits : ℕ

-- the scope of a body without variables
abbrev pub no_scope : Scope
no_scope = record { variables = []; exits = []; method = Some method_place.Own; slots = 0; own_exits = 0 }

-- places, where something is bound; in a program each name is
abbrev pub known_or : Option Known → Known
known_or (Some k) = k
known_or None = record { place = Slot 0; fixed = false }

abbrev pub known_of : Scope → ℕ → Known
known_of s v = known_or (under v s.variables)

abbrev pub place_of : Scope → ℕ → VariablePlace
place_of s v = (known_of s v).place

abbrev pub exit_or : Option ExitPlace → ExitPlace
exit_or (Some p) = p
exit_or None = exit_place.Own 0

abbrev pub exit_place_of : Scope → ℕ → ExitPlace
exit_place_of s x = exit_or (under x s.exits)

abbrev pub method_or : Option MethodPlace → MethodPlace
method_or (Some p) = p
method_or None = method_place.Own

abbrev pub method_place_of : Scope → MethodPlace
method_place_of s = method_or s.method

-- where a variable lives whose scope is that body
abbrev pub home_of : ℕ → Form → Home
home_of v body = if has_box v body then home.Boxed else home.Slot

abbrev pub homes_of : List ℕ → Form → List Home
homes_of [] body = []
homes_of (v ∷ vs) body = home_of v body ∷ homes_of vs body

abbrev pub slot_at : Home → ℕ → VariablePlace
slot_at home.Slot n = Slot n
slot_at home.Boxed n = SlotBox n

-- new variables in slots from a number on
abbrev pub in_slots : List ℕ → Form → ℕ → List (ℕ × Known)
in_slots [] body n = []
in_slots (v ∷ vs) body n =
    (v, record { place = slot_at (home_of v body) n; fixed = not (sets v body) }) ∷ in_slots vs body (n + 1)

abbrev pub with_bound : List ℕ → Form → Scope → Scope
with_bound vs body s = record s { variables = in_slots vs body s.slots ++ s.variables; slots = s.slots + length vs }

-- an exit more
abbrev pub with_around : ℕ → Scope → Scope
with_around x s =
    record s { exits = (x, exit_place.Own s.own_exits) ∷ s.exits; own_exits = s.own_exits + 1 }

-- what a function captures, by the places where it is made
abbrev pub flat_part : Scope → Capture → FlatCapture
flat_part s (Variable v) = part.Variable (place_of s v)
flat_part s (Exit x) = part.Exit (exit_place_of s x)
flat_part s Method = part.Method (method_place_of s)

abbrev pub flat_parts : Scope → List Capture → List FlatCapture
flat_parts s [] = []
flat_parts s (p ∷ ps) = flat_part s p ∷ flat_parts s ps

abbrev pub kind_of : Scope → Capture → CapturedKind
kind_of s (Variable v) = kind_of_place (place_of s v)
kind_of s (Exit x) = kind.Exit
kind_of s Method = kind.Method

abbrev pub kinds_of : Scope → List Capture → List CapturedKind
kinds_of s [] = []
kinds_of s (p ∷ ps) = kind_of s p ∷ kinds_of s ps

-- and by its places inside, the captured ones from a number on
abbrev pub captured_place : VariablePlace → ℕ → VariablePlace
captured_place (Slot m) n = CapturedValue n
captured_place (SlotBox m) n = CapturedBox n
captured_place (CapturedValue m) n = CapturedValue n
captured_place (CapturedBox m) n = CapturedBox n

abbrev pub captured_known : Known → ℕ → Known
captured_known k n = record { place = captured_place k.place n; fixed = k.fixed }

abbrev pub captured_variables : Scope → List Capture → ℕ → List (ℕ × Known)
captured_variables s [] n = []
captured_variables s (Variable v ∷ ps) n = (v, captured_known (known_of s v) n) ∷ captured_variables s ps (n + 1)
captured_variables s (Exit x ∷ ps) n = captured_variables s ps (n + 1)
captured_variables s (Method ∷ ps) n = captured_variables s ps (n + 1)

abbrev pub captured_exits : List Capture → ℕ → List (ℕ × ExitPlace)
captured_exits [] n = []
captured_exits (Variable v ∷ ps) n = captured_exits ps (n + 1)
captured_exits (Exit x ∷ ps) n = (x, exit_place.Captured n) ∷ captured_exits ps (n + 1)
captured_exits (Method ∷ ps) n = captured_exits ps (n + 1)

abbrev pub captured_method : List Capture → ℕ → Option MethodPlace
captured_method [] n = None
captured_method (Variable v ∷ ps) n = captured_method ps (n + 1)
captured_method (Exit x ∷ ps) n = captured_method ps (n + 1)
captured_method (Method ∷ ps) n = Some (method_place.Captured n)

-- what a function sees of where it is made: just what it captures
abbrev pub seen : Scope → List Capture → Scope
seen s parts = record {
  variables = captured_variables s parts 0;
  exits = captured_exits parts 0;
  method = captured_method parts 0;
  slots = 0;
  own_exits = 0;
}
