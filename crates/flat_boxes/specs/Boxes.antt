-- Variables that have a box, and what the functions made in a form capture.
use Rattle.std.specs.Prelude.{ℕ, ◌+◌, ◌≤◌, List, [], ◌∷◌}
use Rattle.base.specs.AllOf.{AllOf}
use Rattle.flat_language.specs.declared.place.FlatCapture.{FlatCapture}
use Rattle.flat_language.specs.declared.place.FlatCapture.TheVariants.{Variable, Exit, Method}
use Rattle.flat_language.specs.declared.place.Home.{Home}
use Rattle.flat_language.specs.declared.place.Home.TheVariants.{Slot, Boxed}
use Rattle.flat_language.specs.declared.program.FlatProcedure.{FlatProcedure}
use Rattle.flat_language.specs.declared.program.FlatProgram.{FlatProgram}
use Rattle.flat_language.specs.FlatForm.{FlatForm, make_function}
use Rattle.flat_language.specs.FlatNodes.{homes}
use Rattle.flat_boxes.specs.Totals.{total}

-- how many of these variables have a box
abbrev pub boxes : List Home → ℕ
boxes [] = 0
boxes (Slot ∷ hs) = boxes hs
boxes (Boxed ∷ hs) = 1 + boxes hs

-- how many of the captured parts are variables
abbrev pub variables_among : List FlatCapture → ℕ
variables_among [] = 0
variables_among (Variable p ∷ ps) = 1 + variables_among ps
variables_among (Exit x ∷ ps) = variables_among ps
variables_among (Method m ∷ ps) = variables_among ps

abbrev pub captures_itself : FlatForm → ℕ
captures_itself (make_function p parts) = variables_among parts
captures_itself f = 0

-- how many variables the functions that are made in a form capture, each as often as it is captured
abbrev pub captured_variables : FlatForm → ℕ
captured_variables f = total captures_itself f

-- A variable of a function has a box only where a function that is made in its body captures it. So there are no more such variables than are
-- captured there.
abbrev pub BoxesAreCaptured : FlatProcedure → Type 0
BoxesAreCaptured q = boxes (homes q) ≤ captured_variables q.body

pub record ProgramBoxes (program : FlatProgram) : Type 0 where
  pub procedures : AllOf BoxesAreCaptured program.procedures
  pub lambdas : AllOf BoxesAreCaptured program.lambdas
