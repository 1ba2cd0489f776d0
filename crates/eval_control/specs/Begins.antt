-- What a form does as it begins, once it is charged.
use Rattle.std.specs.Prelude.{◌≡◌, Bool, true, false, List, [], ◌∷◌, Option, Some, None, is_some, map, slice_get}
use Rattle.lang_meaning.specs.Values.{nil, truth}
use Rattle.lang_meaning.specs.State.{block_exit, at_segment}
use Rattle.lang_meaning.specs.Lookup.{text}
use Rattle.lang_meaning.specs.Meaning.{place_of_site, is_next}
use Rattle.flat_language.specs.FlatForm.{FlatForm, FlatForms, literal, local, set_local, global, set_global, def_global, clauses, sequence, let_form, make_function, call, call_value, apply, prim, while_form, block, return_from, tagbody, go, catch_form, throw, unwind, dynamic_let, dynamic, set_dynamic, def_dynamic, with_handler, signal_form, continue_form, next_method, has_next, sited}
use Rattle.flat_language.specs.FlatState.{FlatState, value_of, exit_of, method_of, captured_part, gives, exit_made, make_closure}
use Rattle.flat_language.specs.FlatSignals.{inside}
use Rattle.flat_language.specs.FlatMeaning.{with_exit}
use Rattle.eval_machine.specs.Configuration.{Setting, Situation, ContinuationFrame, Transition, configuration, ended, evaluate, awaits, catches, cleans, call_name, call_first, compute, set_local_value, set_global_value, def_global_value, applied_function, while_test, return_value, catch_tag, throw_tag, set_dynamic_value, def_dynamic_value, handler_value, signal_condition, continue_condition}
use Rattle.eval_machine.specs.Applications.{transfer}
use Rattle.eval_machine.specs.Step.{literal_step, global_step, clauses_step, sequence_step, bindings_step, arguments_step, segments_step, dynamics_step, dynamic_step, next_method_step}

-- whether a form wants an application as it begins, or what stands beside the machine
abbrev pub FormWantsMore : FlatForm → Bool
FormWantsMore (global n) = true
FormWantsMore (dynamic n) = true
FormWantsMore (call n fs) = true
FormWantsMore (call_value fs) = true
FormWantsMore (prim which fs) = true
FormWantsMore (next_method m) = true
FormWantsMore f = false

module _ (s : Setting) where
  -- a block, and a tagbody, with a new exit
  abbrev pub block_begins : FlatForm → Situation → Transition
  block_begins body at frames z =
      configuration (evaluate body (record at { environment = with_exit z at.environment; around = inside block_exit at.around z })) (catches z.state.exits ∷ frames) (exit_made z)

  abbrev pub tagbody_begins : FlatForms → Situation → Transition
  tagbody_begins segments at frames z =
      segments_step s z.state.exits segments segments (record at { environment = with_exit z at.environment }) frames (exit_made z)

  abbrev pub begins : FlatForm → Situation → Transition
  begins (literal id) at frames z = literal_step s id (slice_get s.program.literals id) at frames z
  begins (local p) at frames z = ended (gives (value_of p at.environment z) z) frames
  begins (set_local p f) at frames z = configuration (evaluate f at) (awaits (set_local_value p at) ∷ frames) z
  begins (global n) at frames z = global_step s (text s.names n) at frames z
  begins (set_global n f) at frames z = configuration (evaluate f at) (awaits (set_global_value n at) ∷ frames) z
  begins (def_global n f) at frames z = configuration (evaluate f at) (awaits (def_global_value n) ∷ frames) z
  begins (clauses cs) at frames z = clauses_step s cs at frames z
  begins (sequence fs) at frames z = sequence_step s nil fs at frames z
  begins (let_form bs body) at frames z = bindings_step s bs [] bs body at frames z
  begins (make_function p parts) at frames z = ended (make_closure s.limit p (map (captured_part at.environment z) parts) z (λ v after. gives v after)) frames
  begins (call n fs) at frames z = arguments_step s (call_name n) fs [] at frames z
  begins (call_value fs) at frames z = arguments_step s call_first fs [] at frames z
  begins (apply f list) at frames z = configuration (evaluate f at) (awaits (applied_function list at) ∷ frames) z
  begins (prim which fs) at frames z = arguments_step s (compute which) fs [] at frames z
  begins (while_form test body) at frames z = configuration (evaluate test at) (awaits (while_test test body at) ∷ frames) z
  begins (block body) at frames z = block_begins body at frames z
  begins (return_from x f) at frames z = configuration (evaluate f at) (awaits (return_value x at) ∷ frames) z
  begins (tagbody segments) at frames z = tagbody_begins segments at frames z
  begins (go x segment) at frames z = transfer s (exit_of x at.environment) nil (at_segment segment) at.level at.around frames z
  begins (catch_form tag body) at frames z = configuration (evaluate tag at) (awaits (catch_tag body at) ∷ frames) z
  begins (throw tag f) at frames z = configuration (evaluate tag at) (awaits (throw_tag f at) ∷ frames) z
  begins (unwind f cleanup) at frames z = configuration (evaluate f at) (cleans cleanup at ∷ frames) z
  begins (dynamic_let bs body) at frames z = dynamics_step s bs [] bs body at frames z
  begins (dynamic n) at frames z = dynamic_step s (text s.names n) at frames z
  begins (set_dynamic n f) at frames z = configuration (evaluate f at) (awaits (set_dynamic_value n at) ∷ frames) z
  begins (def_dynamic n f) at frames z = configuration (evaluate f at) (awaits (def_dynamic_value n) ∷ frames) z
  begins (with_handler handler body) at frames z = configuration (evaluate handler at) (awaits (handler_value body at) ∷ frames) z
  begins (signal_form condition continuable) at frames z = configuration (evaluate condition at) (awaits (signal_condition continuable at) ∷ frames) z
  begins (continue_form condition f) at frames z = configuration (evaluate condition at) (awaits (continue_condition f at) ∷ frames) z
  begins (next_method m) at frames z = next_method_step s (method_of m at.environment) at frames z
  begins (has_next m) at frames z = ended (gives (truth (is_next (method_of m at.environment))) z) frames
  begins (sited site f) at frames z = configuration (evaluate f (record at { around = record at.around { site = place_of_site s.program.sites site } })) frames z
