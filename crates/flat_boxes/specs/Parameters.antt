-- The parameters of a function are different variables.
use Rattle.std.specs.Prelude.{◌≡◌, ℕ, ◌==◌, Bool, true, ◌&&◌, List}
use Rattle.std.specs.List.{list_all}
use Rattle.lang_meaning.specs.declared.program.Procedure.{Procedure}
use Rattle.lang_meaning.specs.declared.program.ProgramRows.{ProgramRows}
use Rattle.lang_meaning.specs.Form.{Form, lambda, parameters}
use Rattle.lang_meaning.specs.Lookup.{all_differ}
use Rattle.lang_meaning.specs.Subforms.{fold}

abbrev pub variables_differ : List ℕ → Bool
variables_differ vs = all_differ (λ v w. v == w) vs

-- those of a form that is itself a function
abbrev pub own_differ : Form → Bool
own_differ (lambda required rest body parts) = variables_differ (parameters required rest)
own_differ f = true

abbrev pub all_true : List Bool → Bool
all_true bs = list_all (λ b. b) bs

-- and of all functions in a form
abbrev pub differ_step : Form → List Bool → List Bool → Bool
differ_step f outer inner = own_differ f && all_true outer && all_true inner

abbrev pub parameters_differ : Form → Bool
parameters_differ f = fold differ_step f

abbrev pub procedure_differs : Procedure → Bool
procedure_differs p = variables_differ (parameters p.required p.rest) && parameters_differ p.body

-- and of all procedures of a program
pub record ParametersDiffer (program : ProgramRows) : Type 0 where
  pub procedures : list_all procedure_differs program.procedures ≡ true
  pub main : list_all parameters_differ program.main ≡ true
