-- What a core form and a program mean (ISO/IEC 13816:2007, 12 and 14). Levels, units and words are this profile's
-- own: they bound a run, and no program can tell them.
use Rattle.std.specs.Prelude.{ℕ, zero, suc, ◌+◌, ◌-◌, Bool, true, false, List, [], ◌∷◌, ◌++◌, Option, Some, None, length, slice_get, slice_index_or, if◌then◌else◌}
use Rattle.std.specs.Str.{bytes_eq}
use Rattle.base.specs.declared.place.Place.{Place}
use Rattle.lang_meaning.specs.declared.program.LiteralRow.{LiteralRow}
use Rattle.lang_meaning.specs.declared.program.LiteralRow.TheVariants as row
use Rattle.lang_meaning.specs.declared.program.ProgramRows.{ProgramRows}
use Rattle.lang_meaning.specs.Form.{Form, literal, local, set_local, global, set_global, def_global, clauses, sequence, let_form, lambda, call, call_value, apply, prim, while_form, block, return_from, tagbody, go, catch_form, throw, unwind, dynamic_let, dynamic, set_dynamic, def_dynamic, with_handler, signal_form, continue_form, next_method, has_next, sited}
use Rattle.lang_meaning.specs.Form.{Forms, no_form, form_and, ClauseForms, no_clause, clause_and, MaybeForm, no_body, with_body}
use Rattle.lang_meaning.specs.Form.{BindingForms, no_binding, binding_and, DynamicForms, no_dynamic, dynamic_and}
use Rattle.lang_meaning.specs.Counts.{own_nodes, nodes, application_words}
use Rattle.lang_meaning.specs.Values.{Value, symbol, named, nil, object, truth, is_true}
use Rattle.lang_meaning.specs.Objects.{Called, Environment, no_environment, Object, cons, closure, function_class, list_class, serious_condition_class, control_error_class}
use Rattle.lang_meaning.specs.State.{State, first_state, DynamicContext, main_context, no_place, block_exit, tagbody_exit, catch_exit, Landing, at_segment, at_site, Outcome, value, exit, full, more, Evaluated, gives, Act, go_on, landed, caught, cleaned, inside, exit_made, Limit, request, charged, make}
use Rattle.lang_meaning.specs.Lookup.{text, is_in, under_text, under_number, value_at, set_at, numbered, with_variables, with_values, with_exit}
use Rattle.lang_meaning.specs.Classes.{class_of_object, fetch, is_condition}
use Rattle.lang_meaning.specs.Literals.{function_row}
use Rattle.lang_meaning.specs.InitialHeap.{class_value, function_value, literal_value, objects_at_start}
use Rattle.lang_meaning.specs.Primitives.{primitive, is_function}
use Rattle.lang_meaning.specs.Signals.{Context, Task, nothing, form, turn, methods, Evaluation, with_some, run_chain, apply_value, apply_row, undefined_function, unbound_variable, signal_domain_error, signal_under, signal, answered, search, transfer, throw_to, continue_with, with_boxes}

-- the place of a site, counted from 1
abbrev pub place_of_site : List Place → ℕ → Place
place_of_site sites site = slice_index_or sites (site - 1) no_place

-- a form is charged what it counts by itself when its evaluation begins
abbrev pub charged_for : Form → State → State
charged_for f z = charged (own_nodes f) z

-- the test's value where it is not nil, else what follows
abbrev pub unless_nil : Value → Evaluated → Evaluated → Evaluated
unless_nil v then_do else_do = if is_true v then then_do else else_do

-- the segments from one on
abbrev pub from_segment : ℕ → Forms → Forms
from_segment zero fs = fs
from_segment (suc n) no_form = no_form
from_segment (suc n) (form_and f fs) = from_segment n fs

abbrev pub segment_of : Landing → ℕ
segment_of (at_segment i) = i
segment_of (at_site place) = 0

-- the exit of a tagbody, innermost
abbrev pub with_turns : ℕ → DynamicContext → DynamicContext
with_turns e around = record around { exits = record { number = e; kind = tagbody_exit } ∷ around.exits }

-- the variables of bindings, and the texts of dynamic ones
abbrev pub bound_variables : BindingForms → List ℕ
bound_variables no_binding = []
bound_variables (binding_and v f bs) = v ∷ bound_variables bs

abbrev pub bound_names : List (List ℕ) → DynamicForms → List (List ℕ)
bound_names names no_dynamic = []
bound_names names (dynamic_and n f bs) = text names n ∷ bound_names names bs

-- the elements of a list, from cons to cons, each cons once; and whether the list is a proper one
pub record Spread : Type 0 where
  pub elements : List Value
  pub proper : Bool

abbrev pub spread_at : (ℕ → Value → Spread) → List ℕ → Value → Option Object → Spread
spread_at others seen nil o = record { elements = []; proper = true }
spread_at others seen (object i) (Some (cons a d)) =
    if is_in i seen then record { elements = []; proper = false }
    else record { elements = a ∷ (others i d).elements; proper = (others i d).proper }
spread_at others seen v o = record { elements = []; proper = false }

abbrev pub spread : ℕ → State → List ℕ → Value → Spread
spread zero z seen v = record { elements = []; proper = false }
spread (suc n) z seen v = spread_at (λ i d. spread n z (i ∷ seen) d) seen v (fetch z v)

-- whether a method is left to run
abbrev pub is_next : Option Called → Bool
is_next None = false
is_next (Some called) = by called.rest.primary
  where
    by : List ℕ → Bool
    by [] = false
    by (p ∷ ps) = true

-- forms and tasks, in a context
module _ (context : Context) where
  -- a literal: an atom, or an object that is there from the start; a name without a function is undefined
  abbrev pub mean_literal : ℕ → Option LiteralRow → Act
  mean_literal id None around z = gives nil z
  mean_literal id (Some (row.Datum d)) around z =
      gives (literal_value context.names context.program id d) z
  mean_literal id (Some (row.Class c)) around z = gives (class_value context.names context.program c) z
  mean_literal id (Some (row.Function name)) around z =
      with_some (function_row context.names context.program.functions (text context.names name.0))
      (undefined_function (signal context) (text context.names name.0))
      (λ f a y. gives (function_value context.names context.program (text context.names name.0)) y)
      around z

  -- a global variable (ISO/IEC 13816:2007, 14.2) has no value before its definition has run
  abbrev pub mean_global : List ℕ → Act
  mean_global name around z =
      with_some (under_text name z.globals) (unbound_variable (signal context) name)
      (λ v a y. gives v y) around z

  abbrev pub set_global_to : List ℕ → Value → Act
  set_global_to name v around z =
      with_some (under_text name z.globals) (unbound_variable (signal context) name)
      (λ old a y. gives v (record y { globals = (name, v) ∷ y.globals })) around z

  -- a dynamic variable (ISO/IEC 13816:2007, 14.3): the innermost binding, else the outermost value
  abbrev pub mean_dynamic : List ℕ → Act
  mean_dynamic name around z =
      search (λ (b : List ℕ × ℕ). bytes_eq name b.0) (λ b y. gives (value_at (Some b.1) y) y)
      (λ y. with_some (under_text name y.dynamics) (unbound_variable (signal context) name)
      (λ v a x. gives v x) around y)
      around.bindings z

  abbrev pub set_dynamic_to : List ℕ → Value → Act
  set_dynamic_to name v around z =
      search (λ (b : List ℕ × ℕ). bytes_eq name b.0) (λ b y. gives v (set_at (Some b.1) v y))
      (λ y. with_some (under_text name y.dynamics) (unbound_variable (signal context) name)
      (λ old a x. gives v (record x { dynamics = (name, v) ∷ x.dynamics })) around y)
      around.bindings z

  -- a function is applied to the elements of a list; the function is judged first, then the list
  abbrev pub mean_apply : Value → Value → Act
  mean_apply f list around z =
      if is_function (fetch z f) then
      (let s = spread (length z.store + 1) z [] list in
      if s.proper then apply_value context (signal context) f s.elements around (charged (length s.elements) z)
      else signal_domain_error context (signal context) list list_class around (charged (length s.elements) z))
      else signal_domain_error context (signal context) f function_class around z

  -- the first value is applied to the others
  abbrev pub mean_call_value : List Value → Act
  mean_call_value [] around z = gives nil z
  mean_call_value (f ∷ vs) around z = apply_value context (signal context) f vs around z

  -- a condition is signalled; what is no condition is a domain error
  abbrev pub mean_signal : Value → Value → Act
  mean_signal c mark around z =
      if is_condition context.program z c then signal_under context around.handlers c mark around z
      else signal_domain_error context (signal context) c serious_condition_class around z

  -- a body inside a handler, which is to be a function
  abbrev pub with_handler_value : Value → (Act) → Act
  with_handler_value h body around z =
      if is_function (fetch z h) then body (record around { handlers = h ∷ around.handlers }) z
      else signal_domain_error context (signal context) h function_class around z

  -- the rest of the chain of the method around, with the arguments of this one
  abbrev pub mean_next : Option Called → Act
  mean_next None = signal context control_error_class []
  mean_next (Some called) = run_chain context (signal context) called.rest called.arguments

  -- the segments of a tagbody, whose exit is the innermost one while they run: a transfer to it goes on from a segment,
  -- one level below
  abbrev pub turned : ℕ → Forms → Environment → DynamicContext → Evaluated → Evaluated
  turned e all env around r =
      landed e (λ v landing z. context.below (turn e (from_segment (segment_of landing) all) all) env around z)
      (go_on r (λ v after. gives nil after))

  unfoldable mutual
    -- the meaning of a form
    pub mean : Form → Evaluation
    mean (literal id) env around z = mean_literal id (slice_get context.program.literals id) around (charged_for (literal id) z)
    mean (local v) env around z = gives (value_at (under_number v env.variables) z) (charged_for (local v) z)
    mean (set_local v f) env around z =
        go_on (mean f env around (charged_for (set_local v f) z)) (λ x after. gives x (set_at (under_number v env.variables) x after))
    mean (global n) env around z = mean_global (text context.names n) around (charged_for (global n) z)
    mean (set_global n f) env around z =
        go_on (mean f env around (charged_for (set_global n f) z)) (λ x after. set_global_to (text context.names n) x around after)
    mean (def_global n f) env around z =
        go_on (mean f env around (charged_for (def_global n f) z)) (λ x after.
        gives (symbol (named (text context.names n))) (record after { globals = (text context.names n, x) ∷ after.globals }))
    mean (clauses cs) env around z = mean_clauses cs env around (charged_for (clauses cs) z)
    mean (sequence fs) env around z = mean_sequence nil fs env around (charged_for (sequence fs) z)
    mean (let_form bs body) env around z =
        mean_bindings bs [] env around (charged_for (let_form bs body) z) (λ vs after.
        with_boxes context.limit (bound_variables bs) body after (λ ready.
        mean body (with_variables (bound_variables bs) ready env) around (with_values vs ready)))
    mean (lambda required rest body parts) env around z =
        make context.limit (2 + length parts) 0 (closure required rest body env) (charged_for (lambda required rest body parts) z) (λ v after. gives v after)
    mean (call n fs) env around z =
        mean_arguments fs [] env around (charged_for (call n fs) z) (λ vs after.
        apply_row context (signal context) (text context.names n) (function_row context.names context.program.functions (text context.names n)) vs around after)
    mean (call_value fs) env around z =
        mean_arguments fs [] env around (charged_for (call_value fs) z) (λ vs after. mean_call_value vs around after)
    mean (apply f list) env around z =
        go_on (mean f env around (charged_for (apply f list) z)) (λ function after.
        go_on (mean list env around after) (λ v ready. mean_apply function v around ready))
    mean (prim which fs) env around z =
        mean_arguments fs [] env around (charged_for (prim which fs) z) (λ vs after.
        answered context (primitive context.names context.program which vs after) around after)
    mean (while_form test body) env around z =
        go_on (mean test env around (charged_for (while_form test body) z)) (λ v after.
        unless_nil v
        (go_on (mean body env around after) (λ ignored again. context.below (form (while_form test body)) env around again))
        (gives nil after))
    mean (block x body) env around z =
        caught z.exits (mean body (with_exit x z env) (inside block_exit around z) (exit_made (charged_for (block x body) z)))
    mean (return_from x f) env around z =
        go_on (mean f env around (charged_for (return_from x f) z)) (λ v after.
        transfer context (under_number x env.exits) v (at_segment 0) around after)
    mean (tagbody x segments) env around z =
        turned z.exits segments (with_exit x z env) around
        (mean_sequence nil segments (with_exit x z env) (with_turns z.exits around)
        (exit_made (charged_for (tagbody x segments) z)))
    mean (go x segment) env around z =
        transfer context (under_number x env.exits) nil (at_segment segment) around (charged_for (go x segment) z)
    mean (catch_form tag body) env around z =
        go_on (mean tag env around (charged_for (catch_form tag body) z)) (λ v after.
        caught after.exits (mean body env (inside (catch_exit v) around after) (exit_made after)))
    mean (throw tag f) env around z =
        go_on (mean tag env around (charged_for (throw tag f) z)) (λ v after.
        go_on (mean f env around after) (λ x ready. throw_to context v x around ready))
    mean (unwind f cleanup) env around z =
        cleaned (λ within after. mean cleanup env within after) around (mean f env around (charged_for (unwind f cleanup) z))
    mean (dynamic_let bs body) env around z =
        mean_dynamics bs [] env around (charged_for (dynamic_let bs body) z) (λ vs after.
        mean body env
        (record around { bindings = numbered (bound_names context.names bs) (length after.variables) ++ around.bindings })
        (with_values vs after))
    mean (dynamic n) env around z = mean_dynamic (text context.names n) around (charged_for (dynamic n) z)
    mean (set_dynamic n f) env around z =
        go_on (mean f env around (charged_for (set_dynamic n f) z)) (λ x after. set_dynamic_to (text context.names n) x around after)
    mean (def_dynamic n f) env around z =
        go_on (mean f env around (charged_for (def_dynamic n f) z)) (λ x after.
        gives (symbol (named (text context.names n))) (record after { dynamics = (text context.names n, x) ∷ after.dynamics }))
    mean (with_handler handler body) env around z =
        go_on (mean handler env around (charged_for (with_handler handler body) z)) (λ h after.
        with_handler_value h (λ within ready. mean body env within ready) around after)
    mean (signal_form condition continuable) env around z =
        go_on (mean condition env around (charged_for (signal_form condition continuable) z)) (λ c after.
        go_on (mean continuable env around after) (λ mark ready. mean_signal c mark around ready))
    mean (continue_form condition f) env around z =
        go_on (mean condition env around (charged_for (continue_form condition f) z)) (λ c after.
        go_on (mean f env around after) (λ v ready. continue_with context c v around ready))
    mean next_method env around z = mean_next env.method around (charged_for next_method z)
    mean has_next env around z = gives (truth (is_next env.method)) (charged_for has_next z)
    mean (sited site f) env around z =
        mean f env (record around { site = place_of_site context.program.sites site }) z

    -- forms in order; the value is the last one's, or the given one where there is none
    pub mean_sequence : Value → Forms → Evaluation
    mean_sequence last no_form env around z = gives last z
    mean_sequence last (form_and f fs) env around z =
        go_on (mean f env around z) (λ v after. mean_sequence v fs env around after)

    -- arguments from left to right, after those already evaluated
    pub mean_arguments : Forms → List Value → Environment → DynamicContext → State → (List Value → State → Evaluated) → Evaluated
    mean_arguments no_form vs env around z next = next vs z
    mean_arguments (form_and f fs) vs env around z next =
        go_on (mean f env around z) (λ v after. mean_arguments fs (vs ++ v ∷ []) env around after next)

    -- the first clause whose test is not nil: its body, or the test's value where it has none; else nil
    pub mean_clauses : ClauseForms → Evaluation
    mean_clauses no_clause env around z = gives nil z
    mean_clauses (clause_and test body cs) env around z =
        go_on (mean test env around z) (λ v after.
        unless_nil v (mean_body v body env around after) (mean_clauses cs env around after))

    pub mean_body : Value → MaybeForm → Evaluation
    mean_body v no_body env around z = gives v z
    mean_body v (with_body f) env around z = mean f env around z

    -- the values of bindings, after those already evaluated
    pub mean_bindings : BindingForms → List Value → Environment → DynamicContext → State → (List Value → State → Evaluated) → Evaluated
    mean_bindings no_binding vs env around z next = next vs z
    mean_bindings (binding_and x f bs) vs env around z next =
        go_on (mean f env around z) (λ v after. mean_bindings bs (vs ++ v ∷ []) env around after next)

    pub mean_dynamics : DynamicForms → List Value → Environment → DynamicContext → State → (List Value → State → Evaluated) → Evaluated
    mean_dynamics no_dynamic vs env around z next = next vs z
    mean_dynamics (dynamic_and n f bs) vs env around z next =
        go_on (mean f env around z) (λ v after. mean_dynamics bs (vs ++ v ∷ []) env around after next)

  -- a task with the meaning one level below
  abbrev pub mean_task : Task → Evaluation
  mean_task nothing env around z = gives nil z
  mean_task (form f) env around z = mean f env around z
  mean_task (turn e rest all) env around z =
      turned e all env around (mean_sequence nil rest env (with_turns e around) z)
  mean_task (methods c vs) env around z = run_chain context (signal context) c vs around z

-- below the last level there is no meaning
abbrev pub none_below : Task → Evaluation
none_below task env around z = record { outcome = more; state = z }

abbrev pub context_of : List (List ℕ) → ProgramRows → Limit → (below : Task → Evaluation) → Context
context_of names program limit below = record { names = names; program = program; limit = limit; below = below }

-- the meaning with so many levels
unfoldable pub meaning_at : List (List ℕ) → ProgramRows → Limit → ℕ → Task → Evaluation
meaning_at names program limit zero = mean_task (context_of names program limit none_below)
meaning_at names program limit (suc k) = mean_task (context_of names program limit (meaning_at names program limit k))

-- a main form is charged as the body of an application without arguments, and takes no level
abbrev pub mean_main : List (List ℕ) → ProgramRows → Limit → ℕ → Form → State → Evaluated
mean_main names program limit k f z =
    request limit 0 (application_words (nodes f)) z (λ entered.
    go_on (meaning_at names program limit k (form f) no_environment main_context entered) (λ v after.
    gives v (record after { stack = z.stack })))

-- the main forms in order, after a last value
abbrev pub mean_mains : List (List ℕ) → ProgramRows → Limit → ℕ → List Form → Value → State → Evaluated
mean_mains names program limit k [] last z = gives last z
mean_mains names program limit k (f ∷ fs) last z =
    go_on (mean_main names program limit k f z) (λ v after. mean_mains names program limit k fs v after)

-- how a program ends: with the value of its last form, by an unhandled condition, for want of words, or
-- not within its levels. A transfer that leaves a main form goes to exit 0.
pub data End : Type 0 where
  ended_value : Value → End
  ended_unhandled : Value → Place → End
  ended_full : (asked left : ℕ) → End
  ended_more : End

abbrev pub end_of : Outcome → End
end_of (value v) = ended_value v
end_of (exit e v (at_site site)) = ended_unhandled v site
end_of (exit e v (at_segment segment)) = ended_unhandled v no_place
end_of (full asked left) = ended_full asked left
end_of more = ended_more

-- what a program does: the end, the bytes printed, the input left, the units, the peak of words, and the store,
-- which says what the objects are
pub record Meant : Type 0 where
  pub end : End
  pub printed : List ℕ
  pub left : List ℕ
  pub units : ℕ
  pub peak : ℕ
  pub store : List Object

abbrev pub meant : Evaluated → Meant
meant r = record {
  end = end_of r.outcome;
  printed = r.state.printed;
  left = r.state.input;
  units = r.state.units;
  peak = r.state.peak;
  store = r.state.store;
}

-- how it ended, by the class of the condition where it is unhandled
pub data Ending : Type 0 where
  with_value : Value → Ending
  by_class : (class : ℕ) → Place → Ending
  for_words : (asked left : ℕ) → Ending
  for_levels : Ending

abbrev pub class_in : List Object → Value → ℕ
class_in store (object i) = class_of_object (slice_get store i)
class_in store v = 0

abbrev pub ending_of : End → List Object → Ending
ending_of (ended_value v) store = with_value v
ending_of (ended_unhandled c place) store = by_class (class_in store c) place
ending_of (ended_full asked left) store = for_words asked left
ending_of ended_more store = for_levels

-- the meaning of a program with an input, at k levels and with so many words
unfoldable pub meaning : List (List ℕ) → ProgramRows → List ℕ → ℕ → Limit → Meant
meaning names program input k limit =
    meant (mean_mains names program limit k program.main nil (first_state (objects_at_start names program) input))
