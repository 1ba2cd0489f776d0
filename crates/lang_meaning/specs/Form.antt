-- Core forms as contracts see them: the forms of ISO/IEC 13816:2007, 12, 14, 15 and 29 that all others stand for.
-- `sited` is this profile's own; it marks the place of a form.
use Rattle.std.specs.Prelude.{ℕ, ◌+◌, List, [], ◌∷◌, ◌++◌, Option, option_to_list}
use Rattle.lang_meaning.specs.declared.primitive.Primitive.{Primitive}
use Rattle.lang_meaning.specs.declared.capture.Capture.{Capture}

mutual
  -- variables, exits, names and sites are named by their numbers
  pub data Form : Type 0 where
    literal : ℕ → Form
    local : ℕ → Form
    set_local : ℕ → Form → Form
    global : ℕ → Form
    set_global : ℕ → Form → Form
    def_global : ℕ → Form → Form
    clauses : ClauseForms → Form
    sequence : Forms → Form
    let_form : BindingForms → Form → Form
    -- a function of these required variables, this rest variable and this body, and the parts that it captures
    lambda : List ℕ → Option ℕ → Form → List Capture → Form
    call : ℕ → Forms → Form
    call_value : Forms → Form
    apply : Form → Form → Form
    prim : Primitive → Forms → Form
    while_form : Form → Form → Form
    block : ℕ → Form → Form
    return_from : ℕ → Form → Form
    tagbody : ℕ → Forms → Form
    go : ℕ → ℕ → Form
    catch_form : Form → Form → Form
    throw : Form → Form → Form
    unwind : Form → Form → Form
    dynamic_let : DynamicForms → Form → Form
    dynamic : ℕ → Form
    set_dynamic : ℕ → Form → Form
    def_dynamic : ℕ → Form → Form
    with_handler : Form → Form → Form
    signal_form : Form → Form → Form
    continue_form : Form → Form → Form
    next_method : Form
    has_next : Form
    sited : ℕ → Form → Form

  pub data Forms : Type 0 where
    no_form : Forms
    form_and : Form → Forms → Forms

  pub data ClauseForms : Type 0 where
    no_clause : ClauseForms
    clause_and : Form → MaybeForm → ClauseForms → ClauseForms

  pub data MaybeForm : Type 0 where
    no_body : MaybeForm
    with_body : Form → MaybeForm

  -- variables and their values
  pub data BindingForms : Type 0 where
    no_binding : BindingForms
    binding_and : ℕ → Form → BindingForms → BindingForms

  -- dynamic variables, by their names, and their values
  pub data DynamicForms : Type 0 where
    no_dynamic : DynamicForms
    dynamic_and : ℕ → Form → DynamicForms → DynamicForms

-- the variables of a function: the required ones, and the rest variable
abbrev pub parameters : List ℕ → Option ℕ → List ℕ
parameters required rest = required ++ option_to_list rest

abbrev pub parts_size : List Capture → ℕ
parts_size [] = 1
parts_size (p ∷ ps) = parts_size ps + 1

abbrev mutual
  pub form_size : Form → ℕ
  form_size (literal i) = 1
  form_size (local v) = 1
  form_size (set_local v f) = form_size f + 1
  form_size (global n) = 1
  form_size (set_global n f) = form_size f + 1
  form_size (def_global n f) = form_size f + 1
  form_size (clauses fs) = clauses_size fs + 1
  form_size (sequence fs) = forms_size fs + 1
  form_size (let_form bs body) = bindings_size bs + form_size body + 1
  form_size (lambda vs rest body ps) = form_size body + parts_size ps + 2
  form_size (call n fs) = forms_size fs + 1
  form_size (call_value fs) = forms_size fs + 1
  form_size (apply function fs) = form_size function + form_size fs + 1
  form_size (prim p fs) = forms_size fs + 1
  form_size (while_form test body) = form_size test + form_size body + 1
  form_size (block x body) = form_size body + 1
  form_size (return_from x f) = form_size f + 1
  form_size (tagbody x ss) = forms_size ss + 1
  form_size (go x segment) = 1
  form_size (catch_form tag body) = form_size tag + form_size body + 1
  form_size (throw tag f) = form_size tag + form_size f + 1
  form_size (unwind form cleanup) = form_size form + form_size cleanup + 1
  form_size (dynamic_let bs body) = dynamics_size bs + form_size body + 1
  form_size (dynamic n) = 1
  form_size (set_dynamic n f) = form_size f + 1
  form_size (def_dynamic n f) = form_size f + 1
  form_size (with_handler handler body) = form_size handler + form_size body + 1
  form_size (signal_form condition continuable) = form_size condition + form_size continuable + 1
  form_size (continue_form condition f) = form_size condition + form_size f + 1
  form_size next_method = 1
  form_size has_next = 1
  form_size (sited s inner) = form_size inner + 1

  pub forms_size : Forms → ℕ
  forms_size no_form = 1
  forms_size (form_and f fs) = form_size f + forms_size fs + 1

  pub clauses_size : ClauseForms → ℕ
  clauses_size no_clause = 1
  clauses_size (clause_and t b cs) = form_size t + maybe_size b + clauses_size cs + 3

  pub maybe_size : MaybeForm → ℕ
  maybe_size no_body = 1
  maybe_size (with_body f) = form_size f + 1

  pub bindings_size : BindingForms → ℕ
  bindings_size no_binding = 1
  bindings_size (binding_and v f bs) = form_size f + bindings_size bs + 3

  pub dynamics_size : DynamicForms → ℕ
  dynamics_size no_dynamic = 1
  dynamics_size (dynamic_and n f bs) = form_size f + dynamics_size bs + 3
