-- The binders of a form: what each form that binds variables binds, in the order in which the walk meets them.
use Rattle.std.specs.Prelude.{ℕ, List, [], ◌∷◌, ◌++◌, Option}
use Rattle.lang_meaning.specs.declared.capture.Capture.TheVariants.{Method}
use Rattle.lang_meaning.specs.declared.program.Procedure.{Procedure}
use Rattle.lang_meaning.specs.Captured.{captures}
use Rattle.lang_meaning.specs.Form.{Form, Forms, ClauseForms, MaybeForm, BindingForms, DynamicForms, let_form, lambda, parameters}
use Rattle.lang_meaning.specs.Meaning.{bound_variables}
use Rattle.lang_meaning.specs.Subforms.{fold, fold_forms, fold_clauses, fold_body, fold_values, fold_dynamics}
use Rattle.flat_conversion.specs.declared.variables.Binder.{Binder}
use Rattle.flat_conversion.specs.NewVariables.{new_variables}

-- a body in which variables are bound
abbrev pub binder : List ℕ → Form → Binder
binder vs body = record { variables = new_variables vs body; keeps_method = captures Method body }

-- what a form binds itself
abbrev pub own_binders : Form → List Binder
own_binders (let_form bs body) = binder (bound_variables bs) body ∷ []
own_binders (lambda required rest body parts) = binder (parameters required rest) body ∷ []
own_binders f = []

-- lists put in front of one another
abbrev pub all_before : List (List Binder → List Binder) → List Binder → List Binder
all_before [] behind = behind
all_before (f ∷ fs) behind = f (all_before fs behind)

-- a form's own, those of the forms that stand where it stands, and those of the forms inside what it binds
abbrev pub binders_step : Form → List (List Binder → List Binder) → List (List Binder → List Binder) → List Binder → List Binder
binders_step f outer inner behind = own_binders f ++ all_before outer (all_before inner behind)

-- the binders of a form, in front of those behind it
abbrev pub binders : Form → List Binder → List Binder
binders f = fold binders_step f

-- those of the parts of forms
abbrev pub binders_of_forms : Forms → List Binder → List Binder
binders_of_forms fs = all_before (fold_forms binders_step fs)

abbrev pub binders_of_clauses : ClauseForms → List Binder → List Binder
binders_of_clauses cs = all_before (fold_clauses binders_step cs)

abbrev pub binders_of_body : MaybeForm → List Binder → List Binder
binders_of_body b = all_before (fold_body binders_step b)

abbrev pub binders_of_values : BindingForms → List Binder → List Binder
binders_of_values bs = all_before (fold_values binders_step bs)

abbrev pub binders_of_dynamics : DynamicForms → List Binder → List Binder
binders_of_dynamics ds = all_before (fold_dynamics binders_step ds)

-- those of functions, procedures and main forms
abbrev pub binders_of_function : List ℕ → Option ℕ → Form → List Binder → List Binder
binders_of_function required rest body behind = binder (parameters required rest) body ∷ binders body behind

abbrev pub binders_of_procedures : List Procedure → List Binder → List Binder
binders_of_procedures [] behind = behind
binders_of_procedures (p ∷ ps) behind = binders_of_function p.required p.rest p.body (binders_of_procedures ps behind)

abbrev pub binders_of_mains : List Form → List Binder → List Binder
binders_of_mains [] behind = behind
binders_of_mains (f ∷ fs) behind = binders f (binders_of_mains fs behind)
