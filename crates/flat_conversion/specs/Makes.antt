-- What the walk makes, by the translation: of a form, of the parts of one, and of functions.
use Rattle.std.specs.Prelude.{◌≡◌, ◌≤◌, ℕ, ◌+◌, List, ◌∷◌, ◌++◌, Option, length, drop, option_map}
use Rattle.lang_meaning.specs.Form.{Form, Forms, ClauseForms, BindingForms, DynamicForms}
use Rattle.lang_meaning.specs.Meaning.{bound_variables}
use Rattle.lang_meaning.specs.declared.capture.Capture.{Capture}
use Rattle.lang_meaning.specs.model.View.{maybe_form}
use Rattle.flat_language.specs.declared.place.CapturedKind.{CapturedKind}
use Rattle.flat_language.specs.declared.program.FlatProcedure.{FlatProcedure}
use Rattle.flat_language.specs.FlatForm.{FlatForm, FlatForms, FlatClauses, FlatBindings, FlatDynamics}
use Rattle.flat_language.specs.Scope.{Scope, with_bound, kinds_of, seen}
use Rattle.flat_language.specs.Flatten.{functions, functions_of_values, flat, flat_forms, flat_clauses, flat_bindings, flat_dynamics, flat_procedure, body_scope, inner_procedures, procedures_of_forms, procedures_of_clauses, procedures_of_body, procedures_of_values, procedures_of_dynamics}
use Rattle.flat_conversion.specs.declared.places.Places.{Places}
use Rattle.flat_conversion.specs.declared.progress.Progress.{Progress}
use Rattle.flat_conversion.specs.declared.variables.Binder.{Binder}
use Rattle.flat_conversion.specs.declared.variables.NewVariable.{NewVariable}
use Rattle.flat_conversion.specs.Binders.{binders, binders_of_forms, binders_of_clauses, binders_of_body, binders_of_values, binders_of_dynamics, binders_of_function, binder}
use Rattle.flat_conversion.specs.NewVariables.{new_variables, with_new}
use Rattle.flat_conversion.specs.Places.{scope_of}

-- what is made where functions have numbers from how many procedures there are: the procedures of the functions inside come
-- behind those, and so many binders are left
pub record MakesSo {X : Type 0} (one : ℕ → X) (inside : ℕ → List FlatProcedure) (table : List Binder) (before after : Progress) (made : X) (rest : List Binder) : Type 0 where
  pub made_so : made ≡ one (length before.lambdas)
  pub inside_so : after.lambdas ≡ before.lambdas ++ inside (length before.lambdas)
  pub left_so : drop after.binders table ≡ rest

-- what is made in a scope where its binders are the first of those that are left; the places around are as they were
pub record Makes {X : Type 0} (one : Scope → ℕ → X) (inside : Scope → ℕ → List FlatProcedure) (front : List Binder → List Binder) (table : List Binder) (around left : Places) (before after : Progress) (made : X) : Type 0 where
  pub same : left ≡ around
  pub longer : length before.lambdas ≤ length after.lambdas
  pub so : (rest : List Binder) → drop before.binders table ≡ front rest → MakesSo (one (scope_of around)) (inside (scope_of around)) table before after made rest

-- a form, and two one after another
abbrev pub MakesForm : Form → List Binder → Places → Places → Progress → Progress → FlatForm → Type 0
MakesForm f = Makes (λ s n. flat s n f) (λ s n. inner_procedures s n f) (binders f)

abbrev pub MakesTwo : Form → Form → List Binder → Places → Places → Progress → Progress → FlatForm × FlatForm → Type 0
MakesTwo f g =
    Makes (λ s n. (flat s n f, flat s (n + functions f) g)) (λ s n. inner_procedures s n f ++ inner_procedures s (n + functions f) g)
    (λ rest. binders f (binders g rest))

-- forms, clauses, and the body of a clause
abbrev pub MakesForms : Forms → List Binder → Places → Places → Progress → Progress → FlatForms → Type 0
MakesForms fs = Makes (λ s n. flat_forms s n fs) (λ s n. procedures_of_forms s n fs) (binders_of_forms fs)

abbrev pub MakesClauses : ClauseForms → List Binder → Places → Places → Progress → Progress → FlatClauses → Type 0
MakesClauses cs = Makes (λ s n. flat_clauses s n cs) (λ s n. procedures_of_clauses s n cs) (binders_of_clauses cs)

abbrev pub MakesBody : Option Form → List Binder → Places → Places → Progress → Progress → Option FlatForm → Type 0
MakesBody b = Makes (λ s n. option_map (flat s n) b) (λ s n. procedures_of_body s n (maybe_form b)) (binders_of_body (maybe_form b))

-- bindings and the body in which their variables are bound
abbrev pub MakesLet : BindingForms → Form → List Binder → Places → Places → Progress → Progress → FlatBindings × FlatForm → Type 0
MakesLet bs body =
    Makes (λ s n. (flat_bindings s n body bs, flat (with_bound (bound_variables bs) body s) (n + functions_of_values bs) body))
    (λ s n. procedures_of_values s n bs ++ inner_procedures (with_bound (bound_variables bs) body s) (n + functions_of_values bs) body)
    (λ rest. binder (bound_variables bs) body ∷ binders_of_values bs (binders body rest))

-- bindings, where the new variables are those of the body in which they are bound
pub record MakesValues (news : List NewVariable) (bs : BindingForms) (table : List Binder) (around left : Places) (before after : Progress) (made : FlatBindings) : Type 0 where
  pub same : left ≡ around
  pub longer : length before.lambdas ≤ length after.lambdas
  pub so : (body : Form) → news ≡ new_variables (bound_variables bs) body → (rest : List Binder) → drop before.binders table ≡ binders_of_values bs rest
      → MakesSo (λ n. flat_bindings (scope_of around) n body bs) (λ n. procedures_of_values (scope_of around) n bs) table before after made rest

-- a body in which these variables are new
abbrev pub MakesInside : List NewVariable → Form → List Binder → Places → Places → Progress → Progress → FlatForm → Type 0
MakesInside news body = Makes (λ s n. flat (with_new news s) n body) (λ s n. inner_procedures (with_new news s) n body) (binders body)

-- dynamic bindings
abbrev pub MakesDynamics : DynamicForms → List Binder → Places → Places → Progress → Progress → FlatDynamics → Type 0
MakesDynamics ds = Makes (λ s n. flat_dynamics s n ds) (λ s n. procedures_of_dynamics s n ds) (binders_of_dynamics ds)

-- a function: its number; its procedure comes before those of the functions inside it
abbrev pub MakesFunction : List ℕ → Option ℕ → Form → List Capture → List Binder → Places → Places → Progress → Progress → ℕ → Type 0
MakesFunction required rest body parts =
    Makes (λ s n. n)
    (λ s n. flat_procedure (seen s parts) (n + 1) (kinds_of s parts) required rest body ∷ inner_procedures (body_scope required rest body (seen s parts)) (n + 1) body)
    (binders_of_function required rest body)

-- a procedure, and those of the functions inside it
abbrev pub MakesProcedure : List CapturedKind → List ℕ → Option ℕ → Form → List Binder → Places → Places → Progress → Progress → FlatProcedure → Type 0
MakesProcedure captured required rest body =
    Makes (λ s n. flat_procedure s n captured required rest body) (λ s n. inner_procedures (body_scope required rest body s) n body)
    (binders_of_function required rest body)
