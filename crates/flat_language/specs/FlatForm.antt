-- Flat forms: core forms without inner functions and without names of variables and exits. A variable and an exit are
-- named by their places, and a `lambda` by the number of its procedure and the places of what it captures.
use Rattle.std.specs.Prelude.{ℕ, ◌+◌, List}
use Rattle.lang_meaning.specs.declared.primitive.Primitive.{Primitive}
use Rattle.flat_language.specs.declared.place.Home.{Home}
use Rattle.flat_language.specs.declared.place.VariablePlace.{VariablePlace}
use Rattle.flat_language.specs.declared.place.ExitPlace.{ExitPlace}
use Rattle.flat_language.specs.declared.place.FlatCapture.{FlatCapture}
use Rattle.flat_language.specs.declared.place.MethodPlace.{MethodPlace}

mutual
  pub data FlatForm : Type 0 where
    literal : ℕ → FlatForm
    local : VariablePlace → FlatForm
    set_local : VariablePlace → FlatForm → FlatForm
    global : ℕ → FlatForm
    set_global : ℕ → FlatForm → FlatForm
    def_global : ℕ → FlatForm → FlatForm
    clauses : FlatClauses → FlatForm
    sequence : FlatForms → FlatForm
    let_form : FlatBindings → FlatForm → FlatForm
    -- the function of a procedure, and what it captures
    make_function : (procedure : ℕ) → List FlatCapture → FlatForm
    call : ℕ → FlatForms → FlatForm
    call_value : FlatForms → FlatForm
    apply : FlatForm → FlatForm → FlatForm
    prim : Primitive → FlatForms → FlatForm
    while_form : FlatForm → FlatForm → FlatForm
    block : FlatForm → FlatForm
    return_from : ExitPlace → FlatForm → FlatForm
    tagbody : FlatForms → FlatForm
    go : ExitPlace → ℕ → FlatForm
    catch_form : FlatForm → FlatForm → FlatForm
    throw : FlatForm → FlatForm → FlatForm
    unwind : FlatForm → FlatForm → FlatForm
    dynamic_let : FlatDynamics → FlatForm → FlatForm
    dynamic : ℕ → FlatForm
    set_dynamic : ℕ → FlatForm → FlatForm
    def_dynamic : ℕ → FlatForm → FlatForm
    with_handler : FlatForm → FlatForm → FlatForm
    signal_form : FlatForm → FlatForm → FlatForm
    continue_form : FlatForm → FlatForm → FlatForm
    next_method : MethodPlace → FlatForm
    has_next : MethodPlace → FlatForm
    sited : ℕ → FlatForm → FlatForm

  pub data FlatForms : Type 0 where
    no_form : FlatForms
    form_and : FlatForm → FlatForms → FlatForms

  pub data FlatClauses : Type 0 where
    no_clause : FlatClauses
    clause_and : FlatForm → FlatBody → FlatClauses → FlatClauses

  pub data FlatBody : Type 0 where
    no_body : FlatBody
    with_body : FlatForm → FlatBody

  -- where new variables live, and their values; their slots come after those that are there
  pub data FlatBindings : Type 0 where
    no_binding : FlatBindings
    binding_and : Home → FlatForm → FlatBindings → FlatBindings

  -- dynamic variables, by their names, and their values
  pub data FlatDynamics : Type 0 where
    no_dynamic : FlatDynamics
    dynamic_and : ℕ → FlatForm → FlatDynamics → FlatDynamics

abbrev mutual
  pub form_size : FlatForm → ℕ
  form_size (literal i) = 1
  form_size (local p) = 1
  form_size (set_local p f) = form_size f + 1
  form_size (global n) = 1
  form_size (set_global n f) = form_size f + 1
  form_size (def_global n f) = form_size f + 1
  form_size (clauses cs) = clauses_size cs + 1
  form_size (sequence fs) = forms_size fs + 1
  form_size (let_form bs body) = bindings_size bs + form_size body + 1
  form_size (make_function p parts) = 1
  form_size (call n fs) = forms_size fs + 1
  form_size (call_value fs) = forms_size fs + 1
  form_size (apply function list) = form_size function + form_size list + 1
  form_size (prim which fs) = forms_size fs + 1
  form_size (while_form test body) = form_size test + form_size body + 1
  form_size (block body) = form_size body + 1
  form_size (return_from x f) = form_size f + 1
  form_size (tagbody segments) = forms_size segments + 1
  form_size (go x segment) = 1
  form_size (catch_form tag body) = form_size tag + form_size body + 1
  form_size (throw tag f) = form_size tag + form_size f + 1
  form_size (unwind form cleanup) = form_size form + form_size cleanup + 1
  form_size (dynamic_let ds body) = dynamics_size ds + form_size body + 1
  form_size (dynamic n) = 1
  form_size (set_dynamic n f) = form_size f + 1
  form_size (def_dynamic n f) = form_size f + 1
  form_size (with_handler handler body) = form_size handler + form_size body + 1
  form_size (signal_form condition continuable) = form_size condition + form_size continuable + 1
  form_size (continue_form condition f) = form_size condition + form_size f + 1
  form_size (next_method m) = 1
  form_size (has_next m) = 1
  form_size (sited s inner) = form_size inner + 1

  pub forms_size : FlatForms → ℕ
  forms_size no_form = 1
  forms_size (form_and f fs) = form_size f + forms_size fs + 1

  pub clauses_size : FlatClauses → ℕ
  clauses_size no_clause = 1
  clauses_size (clause_and t b cs) = form_size t + body_size b + clauses_size cs + 3

  pub body_size : FlatBody → ℕ
  body_size no_body = 1
  body_size (with_body f) = form_size f + 1

  pub bindings_size : FlatBindings → ℕ
  bindings_size no_binding = 1
  bindings_size (binding_and h f bs) = form_size f + bindings_size bs + 3

  pub dynamics_size : FlatDynamics → ℕ
  dynamics_size no_dynamic = 1
  dynamics_size (dynamic_and n f ds) = form_size f + dynamics_size ds + 3
