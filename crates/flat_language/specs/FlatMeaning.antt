-- What flat forms and flat programs mean: a row for each form, as in the meaning of core forms, with the same levels, units
-- and words.
use Rattle.std.specs.Prelude.{ℕ, zero, suc, ◌+◌, List, [], ◌∷◌, ◌++◌, Option, Some, None, length, map, slice_get, if◌then◌else◌}
use Rattle.std.specs.Str.{bytes_eq}
use Rattle.lang_meaning.specs.declared.program.LiteralRow.{LiteralRow}
use Rattle.lang_meaning.specs.declared.program.LiteralRow.TheVariants as row
use Rattle.lang_meaning.specs.Counts.{application_words}
use Rattle.lang_meaning.specs.Values.{Value, symbol, named, nil, truth, is_true}
use Rattle.lang_meaning.specs.Objects.{Called, function_class, list_class, serious_condition_class, control_error_class}
use Rattle.lang_meaning.specs.State.{State, first_state, DynamicContext, main_context, block_exit, catch_exit, at_segment, more, Limit}
use Rattle.lang_meaning.specs.Lookup.{text, under_text, value_at, set_at, numbered}
use Rattle.lang_meaning.specs.Classes.{fetch, is_condition}
use Rattle.lang_meaning.specs.Literals.{function_row}
use Rattle.lang_meaning.specs.InitialHeap.{class_value, function_value, literal_value, objects_at_start}
use Rattle.lang_meaning.specs.Primitives.{primitive, is_function}
use Rattle.lang_meaning.specs.Meaning.{place_of_site, segment_of, with_turns, spread, is_next, Meant, end_of}
use Rattle.flat_language.specs.declared.place.Home.{Home}
use Rattle.flat_language.specs.FlatForm.{FlatForm, literal, local, set_local, global, set_global, def_global, clauses, sequence, let_form, make_function, call, call_value, apply, prim, while_form, block, return_from, tagbody, go, catch_form, throw, unwind, dynamic_let, dynamic, set_dynamic, def_dynamic, with_handler, signal_form, continue_form, next_method, has_next, sited}
use Rattle.flat_language.specs.FlatForm.{FlatForms, no_form, form_and, FlatClauses, no_clause, clause_and, FlatBody, no_body, with_body}
use Rattle.flat_language.specs.FlatForm.{FlatBindings, no_binding, binding_and, FlatDynamics, no_dynamic, dynamic_and}
use Rattle.flat_language.specs.declared.program.FlatProgram.{FlatProgram}
use Rattle.flat_language.specs.FlatNodes.{tables, own_nodes, nodes}
use Rattle.flat_language.specs.FlatState.{FlatEnvironment, no_environment, FlatState, FlatEvaluated, FlatAct, on_state, value_of, set_to, exit_of, method_of, captured_part, gives, go_on, landed, caught, cleaned, charged, exit_made, with_values, request, make_closure, in_new_slots, in_own_frame}
use Rattle.flat_language.specs.FlatSignals.{FlatContext, FlatTask, nothing, form, turn, methods, FlatEvaluation, with_some, inside, run_chain, apply_value, apply_row, undefined_function, unbound_variable, signal_domain_error, signal_under, signal, answered, search, transfer, throw_to, continue_with, with_boxes}

-- a form is charged what it counts by itself when its evaluation begins
abbrev pub charged_for : FlatForm → FlatState → FlatState
charged_for f z = charged (own_nodes f) z

-- the test's value where it is not nil, else what follows
abbrev pub unless_nil : Value → FlatEvaluated → FlatEvaluated → FlatEvaluated
unless_nil v then_do else_do = if is_true v then then_do else else_do

-- the segments from one on
abbrev pub from_segment : ℕ → FlatForms → FlatForms
from_segment zero fs = fs
from_segment (suc n) no_form = no_form
from_segment (suc n) (form_and f fs) = from_segment n fs

-- where the variables of bindings live, and the texts of dynamic ones
abbrev pub binding_homes : FlatBindings → List Home
binding_homes no_binding = []
binding_homes (binding_and h f bs) = h ∷ binding_homes bs

abbrev pub bound_names : List (List ℕ) → FlatDynamics → List (List ℕ)
bound_names names no_dynamic = []
bound_names names (dynamic_and n f bs) = text names n ∷ bound_names names bs

-- the exit that is made next, innermost
abbrev pub with_exit : FlatState → FlatEnvironment → FlatEnvironment
with_exit z env = record env { exits = env.exits ++ z.state.exits ∷ [] }

-- forms and tasks, in a context
module _ (context : FlatContext) where
  -- a literal: an atom, or an object that is there from the start; a name without a function is undefined
  abbrev pub mean_literal : ℕ → Option LiteralRow → FlatAct
  mean_literal id None around z = gives nil z
  mean_literal id (Some (row.Datum d)) around z =
      gives (literal_value context.names (tables context.program) id d) z
  mean_literal id (Some (row.Class c)) around z = gives (class_value context.names (tables context.program) c) z
  mean_literal id (Some (row.Function name)) around z =
      with_some (function_row context.names context.program.functions (text context.names name.0))
      (undefined_function (signal context) (text context.names name.0))
      (λ f a y. gives (function_value context.names (tables context.program) (text context.names name.0)) y)
      around z

  -- a global variable (ISO/IEC 13816:2007, 14.2) has no value before its definition has run
  abbrev pub mean_global : List ℕ → FlatAct
  mean_global name around z =
      with_some (under_text name z.state.globals) (unbound_variable (signal context) name)
      (λ v a y. gives v y) around z

  abbrev pub set_global_to : List ℕ → Value → FlatAct
  set_global_to name v around z =
      with_some (under_text name z.state.globals) (unbound_variable (signal context) name)
      (λ old a y. gives v (on_state (λ (x : State). record x { globals = (name, v) ∷ x.globals }) y)) around z

  -- a dynamic variable (ISO/IEC 13816:2007, 14.3): the innermost binding, else the outermost value
  abbrev pub mean_dynamic : List ℕ → FlatAct
  mean_dynamic name around z =
      search (λ (b : List ℕ × ℕ). bytes_eq name b.0) (λ b y. gives (value_at (Some b.1) y.state) y)
      (λ y. with_some (under_text name y.state.dynamics) (unbound_variable (signal context) name)
      (λ v a x. gives v x) around y)
      around.bindings z

  abbrev pub set_dynamic_to : List ℕ → Value → FlatAct
  set_dynamic_to name v around z =
      search (λ (b : List ℕ × ℕ). bytes_eq name b.0) (λ b y. gives v (on_state (λ x. set_at (Some b.1) v x) y))
      (λ y. with_some (under_text name y.state.dynamics) (unbound_variable (signal context) name)
      (λ old a x. gives v (on_state (λ (w : State). record w { dynamics = (name, v) ∷ w.dynamics }) x)) around y)
      around.bindings z

  -- a function is applied to the elements of a list; the function is judged first, then the list
  abbrev pub mean_apply : Value → Value → FlatAct
  mean_apply f list around z =
      if is_function (fetch z.state f) then
      (let s = spread (length z.state.store + 1) z.state [] list in
      if s.proper then apply_value context (signal context) f s.elements around (charged (length s.elements) z)
      else signal_domain_error context (signal context) list list_class around (charged (length s.elements) z))
      else signal_domain_error context (signal context) f function_class around z

  -- the first value is applied to the others
  abbrev pub mean_call_value : List Value → FlatAct
  mean_call_value [] around z = gives nil z
  mean_call_value (f ∷ vs) around z = apply_value context (signal context) f vs around z

  -- a condition is signalled; what is no condition is a domain error
  abbrev pub mean_signal : Value → Value → FlatAct
  mean_signal c mark around z =
      if is_condition (tables context.program) z.state c then signal_under context around.handlers c mark around z
      else signal_domain_error context (signal context) c serious_condition_class around z

  -- a body inside a handler, which is to be a function
  abbrev pub with_handler_value : Value → (FlatAct) → FlatAct
  with_handler_value h body around z =
      if is_function (fetch z.state h) then body (record around { handlers = h ∷ around.handlers }) z
      else signal_domain_error context (signal context) h function_class around z

  -- the rest of the chain of the method around, with the arguments of this one
  abbrev pub mean_next : Option Called → FlatAct
  mean_next None = signal context control_error_class []
  mean_next (Some called) = run_chain context (signal context) called.rest called.arguments

  -- the segments of a tagbody, whose exit is the innermost one while they run: a transfer to it goes on from a segment,
  -- one level below
  abbrev pub turned : ℕ → FlatForms → FlatEnvironment → DynamicContext → FlatEvaluated → FlatEvaluated
  turned e all env around r =
      landed e (λ v landing z. context.below (turn e (from_segment (segment_of landing) all) all) env around z)
      (go_on r (λ v after. gives nil after))

  unfoldable mutual
    -- the meaning of a form
    pub mean : FlatForm → FlatEvaluation
    mean (literal id) env around z = mean_literal id (slice_get context.program.literals id) around (charged_for (literal id) z)
    mean (local p) env around z = gives (value_of p env z) (charged_for (local p) z)
    mean (set_local p f) env around z =
        go_on (mean f env around (charged_for (set_local p f) z)) (λ x after. gives x (set_to p x env after))
    mean (global n) env around z = mean_global (text context.names n) around (charged_for (global n) z)
    mean (set_global n f) env around z =
        go_on (mean f env around (charged_for (set_global n f) z)) (λ x after. set_global_to (text context.names n) x around after)
    mean (def_global n f) env around z =
        go_on (mean f env around (charged_for (def_global n f) z)) (λ x after.
        gives (symbol (named (text context.names n))) (on_state (λ (y : State). record y { globals = (text context.names n, x) ∷ y.globals }) after))
    mean (clauses cs) env around z = mean_clauses cs env around (charged_for (clauses cs) z)
    mean (sequence fs) env around z = mean_sequence nil fs env around (charged_for (sequence fs) z)
    mean (let_form bs body) env around z =
        mean_bindings bs [] env around (charged_for (let_form bs body) z) (λ vs after.
        with_boxes context.limit (binding_homes bs) after (λ ready.
        in_new_slots (binding_homes bs) vs (λ inner. mean body env around inner) ready))
    mean (make_function p parts) env around z =
        make_closure context.limit p (map (captured_part env z) parts) (charged_for (make_function p parts) z) (λ v after. gives v after)
    mean (call n fs) env around z =
        mean_arguments fs [] env around (charged_for (call n fs) z) (λ vs after.
        apply_row context (signal context) (text context.names n) (function_row context.names context.program.functions (text context.names n)) vs around after)
    mean (call_value fs) env around z =
        mean_arguments fs [] env around (charged_for (call_value fs) z) (λ vs after. mean_call_value vs around after)
    mean (apply f list) env around z =
        go_on (mean f env around (charged_for (apply f list) z)) (λ function after.
        go_on (mean list env around after) (λ v ready. mean_apply function v around ready))
    mean (prim which fs) env around z =
        mean_arguments fs [] env around (charged_for (prim which fs) z) (λ vs after.
        answered context (primitive context.names (tables context.program) which vs after.state) around after)
    mean (while_form test body) env around z =
        go_on (mean test env around (charged_for (while_form test body) z)) (λ v after.
        unless_nil v
        (go_on (mean body env around after) (λ ignored again. context.below (form (while_form test body)) env around again))
        (gives nil after))
    mean (block body) env around z =
        caught z.state.exits (mean body (with_exit z env) (inside block_exit around z) (exit_made (charged_for (block body) z)))
    mean (return_from x f) env around z =
        go_on (mean f env around (charged_for (return_from x f) z)) (λ v after.
        transfer context (exit_of x env) v (at_segment 0) around after)
    mean (tagbody segments) env around z =
        turned z.state.exits segments (with_exit z env) around
        (mean_sequence nil segments (with_exit z env) (with_turns z.state.exits around)
        (exit_made (charged_for (tagbody segments) z)))
    mean (go x segment) env around z =
        transfer context (exit_of x env) nil (at_segment segment) around (charged_for (go x segment) z)
    mean (catch_form tag body) env around z =
        go_on (mean tag env around (charged_for (catch_form tag body) z)) (λ v after.
        caught after.state.exits (mean body env (inside (catch_exit v) around after) (exit_made after)))
    mean (throw tag f) env around z =
        go_on (mean tag env around (charged_for (throw tag f) z)) (λ v after.
        go_on (mean f env around after) (λ x ready. throw_to context v x around ready))
    mean (unwind f cleanup) env around z =
        cleaned (λ within after. mean cleanup env within after) around (mean f env around (charged_for (unwind f cleanup) z))
    mean (dynamic_let bs body) env around z =
        mean_dynamics bs [] env around (charged_for (dynamic_let bs body) z) (λ vs after.
        mean body env
        (record around { bindings = numbered (bound_names context.names bs) (length after.state.variables) ++ around.bindings })
        (with_values vs after))
    mean (dynamic n) env around z = mean_dynamic (text context.names n) around (charged_for (dynamic n) z)
    mean (set_dynamic n f) env around z =
        go_on (mean f env around (charged_for (set_dynamic n f) z)) (λ x after. set_dynamic_to (text context.names n) x around after)
    mean (def_dynamic n f) env around z =
        go_on (mean f env around (charged_for (def_dynamic n f) z)) (λ x after.
        gives (symbol (named (text context.names n))) (on_state (λ (y : State). record y { dynamics = (text context.names n, x) ∷ y.dynamics }) after))
    mean (with_handler handler body) env around z =
        go_on (mean handler env around (charged_for (with_handler handler body) z)) (λ h after.
        with_handler_value h (λ within ready. mean body env within ready) around after)
    mean (signal_form condition continuable) env around z =
        go_on (mean condition env around (charged_for (signal_form condition continuable) z)) (λ c after.
        go_on (mean continuable env around after) (λ mark ready. mean_signal c mark around ready))
    mean (continue_form condition f) env around z =
        go_on (mean condition env around (charged_for (continue_form condition f) z)) (λ c after.
        go_on (mean f env around after) (λ v ready. continue_with context c v around ready))
    mean (next_method m) env around z = mean_next (method_of m env) around (charged_for (next_method m) z)
    mean (has_next m) env around z = gives (truth (is_next (method_of m env))) (charged_for (has_next m) z)
    mean (sited site f) env around z =
        mean f env (record around { site = place_of_site context.program.sites site }) z

    -- forms in order; the value is the last one's, or the given one where there is none
    pub mean_sequence : Value → FlatForms → FlatEvaluation
    mean_sequence last no_form env around z = gives last z
    mean_sequence last (form_and f fs) env around z =
        go_on (mean f env around z) (λ v after. mean_sequence v fs env around after)

    -- arguments from left to right, after those already evaluated
    pub mean_arguments : FlatForms → List Value → FlatEnvironment → DynamicContext → FlatState → (List Value → FlatState → FlatEvaluated) → FlatEvaluated
    mean_arguments no_form vs env around z next = next vs z
    mean_arguments (form_and f fs) vs env around z next =
        go_on (mean f env around z) (λ v after. mean_arguments fs (vs ++ v ∷ []) env around after next)

    -- the first clause whose test is not nil: its body, or the test's value where it has none; else nil
    pub mean_clauses : FlatClauses → FlatEvaluation
    mean_clauses no_clause env around z = gives nil z
    mean_clauses (clause_and test body cs) env around z =
        go_on (mean test env around z) (λ v after.
        unless_nil v (mean_body v body env around after) (mean_clauses cs env around after))

    pub mean_body : Value → FlatBody → FlatEvaluation
    mean_body v no_body env around z = gives v z
    mean_body v (with_body f) env around z = mean f env around z

    -- the values of bindings, after those already evaluated
    pub mean_bindings : FlatBindings → List Value → FlatEnvironment → DynamicContext → FlatState → (List Value → FlatState → FlatEvaluated) → FlatEvaluated
    mean_bindings no_binding vs env around z next = next vs z
    mean_bindings (binding_and x f bs) vs env around z next =
        go_on (mean f env around z) (λ v after. mean_bindings bs (vs ++ v ∷ []) env around after next)

    pub mean_dynamics : FlatDynamics → List Value → FlatEnvironment → DynamicContext → FlatState → (List Value → FlatState → FlatEvaluated) → FlatEvaluated
    mean_dynamics no_dynamic vs env around z next = next vs z
    mean_dynamics (dynamic_and n f bs) vs env around z next =
        go_on (mean f env around z) (λ v after. mean_dynamics bs (vs ++ v ∷ []) env around after next)

  -- a task with the meaning one level below
  abbrev pub mean_task : FlatTask → FlatEvaluation
  mean_task nothing env around z = gives nil z
  mean_task (form f) env around z = mean f env around z
  mean_task (turn e rest all) env around z =
      turned e all env around (mean_sequence nil rest env (with_turns e around) z)
  mean_task (methods c vs) env around z = run_chain context (signal context) c vs around z

-- below the last level there is no meaning
abbrev pub none_below : FlatTask → FlatEvaluation
none_below task env around z = record { outcome = more; state = z }

abbrev pub context_of : List (List ℕ) → FlatProgram → Limit → (below : FlatTask → FlatEvaluation) → FlatContext
context_of names program limit below = record { names = names; program = program; limit = limit; below = below }

-- the meaning with so many levels
unfoldable pub flat_meaning_at : List (List ℕ) → FlatProgram → Limit → ℕ → FlatTask → FlatEvaluation
flat_meaning_at names program limit zero = mean_task (context_of names program limit none_below)
flat_meaning_at names program limit (suc k) = mean_task (context_of names program limit (flat_meaning_at names program limit k))

-- a main form is charged as the body of an application without arguments, and takes no level; it has a frame of its own
abbrev pub mean_main : List (List ℕ) → FlatProgram → Limit → ℕ → FlatForm → FlatState → FlatEvaluated
mean_main names program limit k f z =
    request limit 0 (application_words (nodes f)) z (λ entered.
    go_on (in_own_frame (λ inner. flat_meaning_at names program limit k (form f) no_environment main_context inner) entered) (λ v after.
    gives v (on_state (λ (y : State). record y { stack = z.state.stack }) after)))

-- the main forms in order, after a last value
abbrev pub mean_mains : List (List ℕ) → FlatProgram → Limit → ℕ → List FlatForm → Value → FlatState → FlatEvaluated
mean_mains names program limit k [] last z = gives last z
mean_mains names program limit k (f ∷ fs) last z =
    go_on (mean_main names program limit k f z) (λ v after. mean_mains names program limit k fs v after)

-- what a program does, as a program of core forms does it
abbrev pub meant : FlatEvaluated → Meant
meant r = record {
  end = end_of r.outcome;
  printed = r.state.state.printed;
  left = r.state.state.input;
  units = r.state.state.units;
  peak = r.state.state.peak;
  store = r.state.state.store;
}

-- the meaning of a flat program with an input, at k levels and with so many words
unfoldable pub flat_meaning : List (List ℕ) → FlatProgram → List ℕ → ℕ → Limit → Meant
flat_meaning names program input k limit =
    meant (mean_mains names program limit k program.main nil
    (record { state = first_state (objects_at_start names (tables program)) input; frame = []; captured = [] }))
