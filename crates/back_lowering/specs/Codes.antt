-- **The code of flat forms.** The result comes in the register d; only d and those behind it are used, but for the registers of slots.
use Rattle.std.specs.Prelude.{ℕ, zero, suc, ◌+◌, ◌*◌, ◌-◌, ◌==◌, Bool, true, false, not, List, [], ◌∷◌, ◌++◌, Option, Some, None, length, slice_get}
use Rattle.lang_meaning.specs.declared.program.LiteralRow.{LiteralRow}
use Rattle.lang_meaning.specs.declared.program.LiteralRow.TheVariants as row
use Rattle.lang_meaning.specs.declared.program.FunctionRow.{FunctionRow}
use Rattle.lang_meaning.specs.Objects.{function_class, undefined_function_class, unbound_variable_class, control_error_class}
use Rattle.lang_meaning.specs.Lookup.{text}
use Rattle.lang_meaning.specs.Literals.{function_row}
use Rattle.flat_language.specs.declared.place.VariablePlace.{VariablePlace}
use Rattle.flat_language.specs.declared.place.ExitPlace.{ExitPlace}
use Rattle.flat_language.specs.declared.place.ExitPlace.TheVariants as exit_place
use Rattle.flat_language.specs.declared.place.MethodPlace.{MethodPlace}
use Rattle.flat_language.specs.declared.place.MethodPlace.TheVariants as method_place
use Rattle.flat_language.specs.declared.place.FlatCapture.{FlatCapture}
use Rattle.flat_language.specs.declared.place.FlatCapture.TheVariants as part
use Rattle.flat_language.specs.declared.program.FlatProgram.{FlatProgram}
use Rattle.flat_language.specs.FlatForm.{FlatForm, literal, local, set_local, global, set_global, def_global, clauses, sequence, let_form, make_function, call, call_value, apply, prim, while_form, block, return_from, tagbody, go, catch_form, throw, unwind, dynamic_let, dynamic, set_dynamic, def_dynamic, with_handler, signal_form, continue_form, next_method, has_next, sited}
use Rattle.flat_language.specs.FlatForm.{FlatForms, no_form, form_and, FlatClauses, no_clause, clause_and, FlatBody, no_body, with_body}
use Rattle.flat_language.specs.FlatForm.{FlatBindings, no_binding, binding_and, FlatDynamics, no_dynamic, dynamic_and}
use Rattle.flat_language.specs.FlatMeaning.{binding_homes}
use Rattle.flat_language.specs.FlatNodes.{count_forms, count_dynamics}
use Rattle.mid_code.specs.declared.operation.Arithmetic.TheVariants as which
use Rattle.mid_code.specs.declared.operation.Comparison.TheVariants.{Different}
use Rattle.mid_code.specs.declared.operation.Counted.TheVariants.{Level}
use Rattle.mid_code.specs.MidCode.{repeat, with_block, choose, no_step, code_of, MidCodes, no_code, code_and}
use Rattle.mid_arena.specs.Tags.{nil_word, unbound_word, object_tag, function_header}
use Rattle.mid_arena.specs.FixedWords.{true_address}
use Rattle.back_lowering.specs.ControlWords.{current_address, handlers_address, bindings_address, handler_function, handler_outer, handler_words, binding_variable, binding_value, binding_outer, binding_words, function_number, chain_end}
use Rattle.back_lowering.specs.Scope.{with_slots, with_exit, inside_cleanup, in_cleanup, at_site, registers_from}
use Rattle.back_lowering.specs.declared.scope.SitePlace.{SitePlace}
use Rattle.back_lowering.specs.declared.scope.OwnExit.{OwnExit}
use Rattle.back_lowering.specs.declared.scope.Scope.{Scope}
use Rattle.back_lowering.specs.Placement.{entry_of_lambda, literal_word, symbol_word, global_address, dynamic_address}
use Rattle.back_lowering.specs.declared.placement.Placement.{Placement}
use Rattle.back_lowering.specs.Routines.{throw_routine, continue_routine, signal_routine, apply_routine, next_routine, binding_routine, is_function_routine}
use Rattle.back_lowering.specs.Steps.{Steps, move, constant, compute, load, store, request, if_equal, if_different, load_from, store_to, load_far, store_far}
use Rattle.back_lowering.specs.Steps as steps
use Rattle.back_lowering.specs.Leaves.{site_stored, failing, failing_with, domain_error, variable_into, variable_from, captured_variable, captured_into, exit_into, boxes_made}
use Rattle.back_lowering.specs.Primitives.{Judged, value_judged, apply_primitive, judge_primitive}
use Rattle.back_lowering.specs.Records.{block_code, catch_code, tagbody_code, unwind_code, by_serial, to_own}
use Rattle.back_lowering.specs.Calls.{call_name, call_value_code}

-- the code of a form whose value comes in d, and what is judged where a form branches on it
pub record Lowered : Type 0 where
  pub value : Steps
  pub judged : Judged

-- the value itself is judged
abbrev pub by_value : (d : ℕ) → Steps → Lowered
by_value d steps = record { value = steps; judged = record { ready = steps ++ (value_judged d).ready; test = (value_judged d).test } }

-- a primitive whose arguments have that code
abbrev pub behind_arguments : Steps → Steps → Judged → Lowered
behind_arguments arguments applied judged = record {
  value = arguments ++ applied;
  judged = record { ready = arguments ++ judged.ready; test = judged.test };
}

-- A test that is a literal datum is known when its code is written: nil is false, and every other datum is true.
abbrev pub truth_in : Placement → ℕ → Option LiteralRow → Option Bool
truth_in at i (Some (row.Datum d)) = Some (not (literal_word at i == nil_word))
truth_in at i other = None

abbrev pub known_truth : Placement → List LiteralRow → FlatForm → Option Bool
known_truth at literals (literal i) = truth_in at i (slice_get literals i)
known_truth at literals f = None

-- the innermost of dynamic bindings whose cells begin at b, where another one was
abbrev pub innermost : (b old : ℕ) → FlatDynamics → ℕ
innermost b old no_dynamic = old
innermost b old (dynamic_and name f ds) = b

module _ (names : List (List ℕ)) (at : Placement) (program : FlatProgram) where
  abbrev pub literal_code : SitePlace → (d id : ℕ) → Option LiteralRow → Steps
  literal_code site d id (Some (row.Function name)) = by (function_row names program.functions (text names name.0))
    where
      by : Option FunctionRow → Steps
      by (Some f) = constant d (literal_word at id) ∷ []
      by None = failing_with at site d undefined_function_class (symbol_word at name.0)
  literal_code site d id other = constant d (literal_word at id) ∷ []

  -- the value of a variable that may have none, in d
  abbrev pub if_bound : SitePlace → (d name : ℕ) → Steps
  if_bound site d name =
      constant (d + 1) unbound_word ∷ if_equal d (d + 1) (failing_with at site d unbound_variable_class (symbol_word at name)) [] ∷ []

  abbrev pub global_code : SitePlace → (d name : ℕ) → Steps
  global_code site d name = load_from d d (global_address at name) ++ if_bound site d name

  -- the word in d is the variable's, where it has a value
  abbrev pub set_global_code : SitePlace → (d name : ℕ) → Steps
  set_global_code site d name =
      load_from (d + 1) (d + 1) (global_address at name)
      ++ (constant (d + 2) unbound_word
      ∷ if_equal (d + 1) (d + 2) (failing_with at site d unbound_variable_class (symbol_word at name))
      (store_to d (d + 1) (global_address at name)) ∷ [])

  abbrev pub def_global_code : (d name : ℕ) → Steps
  def_global_code d name = store_to d (d + 1) (global_address at name) ++ (constant d (symbol_word at name) ∷ [])

  -- the address of the value of a dynamic variable comes to t
  abbrev pub binding_into : (t name : ℕ) → Steps
  binding_into t name = constant t (dynamic_address at name) ∷ steps.call t (binding_routine at) (t ∷ []) ∷ []

  abbrev pub dynamic_code : SitePlace → (d name : ℕ) → Steps
  dynamic_code site d name = binding_into d name ++ (load d d 0 ∷ if_bound site d name)

  abbrev pub set_dynamic_code : SitePlace → (d name : ℕ) → Steps
  set_dynamic_code site d name =
      binding_into (d + 1) name
      ++ (load (d + 2) (d + 1) 0 ∷ constant (d + 3) unbound_word
      ∷ if_equal (d + 2) (d + 3) (failing_with at site d unbound_variable_class (symbol_word at name)) (store d (d + 1) 0 ∷ []) ∷ [])

  abbrev pub def_dynamic_code : (d name : ℕ) → Steps
  def_dynamic_code d name = store_to d (d + 1) (dynamic_address at name) ++ (constant d (symbol_word at name) ∷ [])

  -- what a function captures of its surroundings comes to t
  abbrev pub part_into : Scope → (t : ℕ) → FlatCapture → Steps
  part_into s t (part.Variable p) = captured_variable s t p
  part_into s t (part.Exit p) = exit_into s t p
  part_into s t (part.Method p) = method_into p
    where
      method_into : MethodPlace → Steps
      method_into method_place.Own = own_method s.method
        where
          own_method : Option ℕ → Steps
          own_method None = constant t 0 ∷ []
          -- the chain and the number of arguments stand in front of the arguments in the heap
          own_method (Some m) =
              constant t 0
              ∷ if_equal m t [] (constant t 8 ∷ compute t which.Subtract (m + 2) t ∷ []) ∷ []
      method_into (method_place.Captured n) = captured_into s t n

  abbrev pub parts_stored : Scope → (d t offset : ℕ) → List FlatCapture → Steps
  parts_stored s d t offset [] = []
  parts_stored s d t offset (p ∷ ps) = part_into s t p ++ (store_far t d (t + 1) offset ++ parts_stored s d t (offset + 4) ps)

  -- a new function: its header, its number, and what it captures
  abbrev pub function_code : Scope → (d p : ℕ) → List FlatCapture → Steps
  function_code s d p parts =
      constant d (2 + length parts) ∷ request d d
      ∷ constant (d + 1) function_header ∷ store (d + 1) d 0
      ∷ constant (d + 1) (entry_of_lambda at p) ∷ store (d + 1) d 4
      ∷ (parts_stored s d (d + 1) 8 parts
      ++ (constant (d + 1) object_tag ∷ compute d which.Add d (d + 1) ∷ []))

  -- the chain, the number of arguments and the arguments of a method, in registers from t on
  abbrev pub method_into : Scope → (t : ℕ) → MethodPlace → Steps
  method_into s t method_place.Own = own s.method
    where
      own : Option ℕ → Steps
      own None = constant t 0 ∷ constant (t + 1) 0 ∷ constant (t + 2) 0 ∷ []
      own (Some m) = move t m ∷ move (t + 1) (m + 1) ∷ move (t + 2) (m + 2) ∷ []
  method_into s t (method_place.Captured n) =
      captured_into s (t + 2) n
      ++ (constant t 0
      ∷ if_equal (t + 2) t (constant (t + 1) 0 ∷ [])
      (load t (t + 2) 0 ∷ load (t + 1) (t + 2) 4 ∷ constant (t + 3) 8 ∷ compute (t + 2) which.Add (t + 2) (t + 3) ∷ []) ∷ [])

  abbrev pub next_code : Scope → (d : ℕ) → MethodPlace → Steps
  next_code s d m =
      method_into s d m
      ++ (site_stored s.site (d + 3) (d + 4) ++ (steps.call d (next_routine at) (d ∷ (d + 1) ∷ (d + 2) ∷ []) ∷ []))

  -- whether a method is left: there is a chain, which is not at its end
  abbrev pub has_next_code : Scope → (d : ℕ) → MethodPlace → Steps
  has_next_code s d m =
      method_into s d m
      ++ (constant (d + 1) 0
      ∷ if_equal d (d + 1) (constant d nil_word ∷ [])
      (load d d 0 ∷ constant (d + 1) chain_end
      ∷ if_equal d (d + 1) (constant d nil_word ∷ []) (load_from d d true_address) ∷ []) ∷ [])

  -- the word in d goes to an exit
  abbrev pub exit_code : Scope → (d landing : ℕ) → ExitPlace → Steps
  exit_code s d landing (exit_place.Own n) = own (slice_get s.exits n)
    where
      own : Option OwnExit → Steps
      own None = by_serial at s.site (constant (d + 1) 0 ∷ []) d (d + 1) landing
      own (Some x) = to_own at s.site x d (d + 1) landing
  exit_code s d landing (exit_place.Captured n) = by_serial at s.site (captured_into s (d + 1) n) d (d + 1) landing

  -- Dynamic bindings of the words in registers from d on, as cells of a block whose address is in b, each in front of the next one, and the last
  -- in front of the one that is in `old`; t and the next one are used.
  abbrev pub bindings_laid : (d b old t offset : ℕ) → FlatDynamics → Steps
  bindings_laid d b old t offset no_dynamic = []
  bindings_laid d b old t offset (dynamic_and name f ds) =
      constant t (dynamic_address at name)
      ∷ (store_far t b (t + 1) (offset + binding_variable)
      ++ (store_far d b (t + 1) (offset + binding_value)
      ++ (outer_into ds
      ++ (store_far t b (t + 1) (offset + binding_outer)
      ++ bindings_laid (d + 1) b old t (offset + 4 * binding_words) ds))))
    where
      outer_into : FlatDynamics → Steps
      outer_into no_dynamic = move t old ∷ []
      outer_into (dynamic_and name f ds) = constant t (offset + 4 * binding_words) ∷ compute t which.Add t b ∷ []

  -- the values are in registers from d on, their cells come behind, and the body, whose code is given for that register, is inside
  abbrev pub dynamic_let_code : (d count : ℕ) → FlatDynamics → (body : Steps) → Steps
  dynamic_let_code d count ds body =
      with_block (d + count) (binding_words * count) d
      (code_of (constant (d + count + 2) 0 ∷ load (d + count + 1) (d + count + 2) bindings_address
      ∷ (bindings_laid d (d + count) (d + count + 1) (d + count + 2) 0 ds
      ++ (constant (d + count + 2) 0 ∷ store (innermost (d + count) (d + count + 1) ds) (d + count + 2) bindings_address
      ∷ (body
      ++ (constant d 0 ∷ store (d + count + 1) d bindings_address ∷ move d (d + count + 2) ∷ []))))))
      (code_of []) ∷ []

  -- the handler is in d, its cell comes behind, and the body, whose code is given for d + 3, is inside
  abbrev pub with_handler_code : SitePlace → (d : ℕ) → (body : Steps) → Steps
  with_handler_code site d body =
      steps.call (d + 1) (is_function_routine at) (d ∷ []) ∷ constant (d + 2) 0
      ∷ if_equal (d + 1) (d + 2) (domain_error at site (d + 1) d function_class ++ (move d (d + 1) ∷ []))
      (with_block (d + 1) handler_words d
      (code_of (store d (d + 1) handler_function
      ∷ constant d 0 ∷ load (d + 2) d handlers_address ∷ store (d + 2) (d + 1) handler_outer ∷ store (d + 1) d handlers_address
      ∷ (body
      ++ (constant d 0 ∷ store (d + 2) d handlers_address ∷ move d (d + 3) ∷ []))))
      (code_of []) ∷ []) ∷ []

  -- a routine is called with the words in d and the next register
  abbrev pub with_two : SitePlace → (d routine : ℕ) → Steps
  with_two site d routine = site_stored site (d + 2) (d + 3) ++ (steps.call d routine (d ∷ (d + 1) ∷ []) ∷ [])

  unfoldable mutual
    pub lower : Scope → (d : ℕ) → FlatForm → Lowered
    lower s d (literal i) = by_value d (literal_code s.site d i (slice_get program.literals i))
    lower s d (local p) = by_value d (variable_into s d p)
    lower s d (set_local p f) = by_value d ((lower s d f).value ++ variable_from s d (d + 1) p)
    lower s d (global n) = by_value d (global_code s.site d n)
    lower s d (set_global n f) = by_value d ((lower s d f).value ++ set_global_code s.site d n)
    lower s d (def_global n f) = by_value d ((lower s d f).value ++ def_global_code d n)
    lower s d (clauses cs) = by_value d (lower_clauses s d cs)
    lower s d (sequence fs) = by_value d (lower_sequence s d fs)
    lower s d (let_form bs body) =
        by_value d
        (lower_bindings s d bs
        ++ (boxes_made (binding_homes bs) d (d + length (binding_homes bs))
        ++ ((lower (with_slots (registers_from d (length (binding_homes bs))) s) (d + length (binding_homes bs)) body).value
        ++ (move d (d + length (binding_homes bs)) ∷ []))))
    lower s d (make_function p parts) = by_value d (function_code s d p parts)
    lower s d (call n fs) =
        by_value d
        (lower_arguments s d fs
        ++ call_name at program n (function_row names program.functions (text names n)) (count_forms fs) d s.site)
    lower s d (call_value fs) = by_value d (lower_call_value s d fs)
    lower s d (apply f list) = by_value d ((lower s d f).value ++ ((lower s (d + 1) list).value ++ with_two s.site d (apply_routine at)))
    lower s d (prim which fs) =
        behind_arguments (lower_arguments s d fs)
        (apply_primitive at program.literals which fs (count_forms fs) d s.site)
        (judge_primitive at program.literals which fs (count_forms fs) d s.site)
    lower s d (while_form test body) =
        by_value d
        (repeat Level (code_of (lower s d test).judged.ready) (lower s d test).judged.test (code_of (lower s d body).value)
        ∷ constant d nil_word ∷ [])
    lower s d (block body) = by_value d (block_code d (lower (with_exit d (d + 1) s) (d + 6) body).value)
    lower s d (return_from x f) = by_value d ((lower s d f).value ++ exit_code s d 0 x)
    lower s d (tagbody segments) =
        by_value d (tagbody_code d (count_forms segments) (lower_segments (with_exit d (d + 1) s) (d + 7) segments))
    lower s d (go x segment) = by_value d (constant d nil_word ∷ exit_code s d segment x)
    lower s d (catch_form tag body) = by_value d ((lower s d tag).value ++ catch_code d (lower s (d + 6) body).value)
    lower s d (throw tag f) = by_value d ((lower s d tag).value ++ ((lower s (d + 1) f).value ++ with_two s.site d (throw_routine at)))
    lower s d (unwind f cleanup) =
        by_value d (unwind_code at d (lower (inside_cleanup s) (d + 6) f).value (lower (in_cleanup s) (d + 3) cleanup).value)
    lower s d (dynamic_let ds body) =
        by_value d
        (lower_dynamics s d ds
        ++ dynamic_let_code d (count_dynamics ds) ds (lower s (d + count_dynamics ds + 2) body).value)
    lower s d (dynamic n) = by_value d (dynamic_code s.site d n)
    lower s d (set_dynamic n f) = by_value d ((lower s d f).value ++ set_dynamic_code s.site d n)
    lower s d (def_dynamic n f) = by_value d ((lower s d f).value ++ def_dynamic_code d n)
    lower s d (with_handler handler body) = by_value d ((lower s d handler).value ++ with_handler_code s.site d (lower s (d + 3) body).value)
    lower s d (signal_form condition mark) =
        by_value d ((lower s d condition).value ++ ((lower s (d + 1) mark).value ++ with_two s.site d (signal_routine at)))
    lower s d (continue_form condition f) =
        by_value d ((lower s d condition).value ++ ((lower s (d + 1) f).value ++ with_two s.site d (continue_routine at)))
    lower s d (next_method m) = by_value d (next_code s d m)
    lower s d (has_next m) = by_value d (has_next_code s d m)
    lower s d (sited site f) = lower (at_site site s) d f

    -- forms in order, the last one's value in d
    pub lower_sequence : Scope → (d : ℕ) → FlatForms → Steps
    lower_sequence s d no_form = constant d nil_word ∷ []
    lower_sequence s d (form_and f fs) = (lower s d f).value ++ lower_behind s d fs

    -- forms behind one whose value is in d
    pub lower_behind : Scope → (d : ℕ) → FlatForms → Steps
    lower_behind s d no_form = []
    lower_behind s d (form_and f fs) = (lower s d f).value ++ lower_behind s d fs

    -- the values of forms in registers from d on
    pub lower_arguments : Scope → (d : ℕ) → FlatForms → Steps
    lower_arguments s d no_form = []
    lower_arguments s d (form_and f fs) = (lower s d f).value ++ lower_arguments s (d + 1) fs

    pub lower_call_value : Scope → (d : ℕ) → FlatForms → Steps
    lower_call_value s d no_form = constant d nil_word ∷ []
    lower_call_value s d (form_and f fs) =
        (lower s d f).value ++ (lower_arguments s (d + 1) fs ++ call_value_code at program (count_forms fs) d s.site)

    pub lower_segments : Scope → (d : ℕ) → FlatForms → MidCodes
    lower_segments s d no_form = no_code
    lower_segments s d (form_and f fs) = code_and (code_of (lower s d f).value) (lower_segments s d fs)

    -- the first clause whose test is true: its body, or the test's value where it has none
    pub lower_clauses : Scope → (d : ℕ) → FlatClauses → Steps
    lower_clauses s d no_clause = constant d nil_word ∷ []
    lower_clauses s d (clause_and test body cs) =
        lower_clause s d (known_truth at program.literals test) (lower s d test) body (lower_clauses s d cs)

    -- A clause in front of others. Where its test is known nothing is asked: one that is true leaves out the others, and one that is false
    -- leaves out the clause.
    pub lower_clause : Scope → (d : ℕ) → (known : Option Bool) → Lowered → FlatBody → (others : Steps) → Steps
    lower_clause s d (Some true) test no_body others = test.value
    lower_clause s d (Some true) test (with_body f) others = (lower s d f).value
    lower_clause s d (Some false) test body others = others
    lower_clause s d None test no_body others =
        test.value ++ (value_judged d).ready ++ (choose (value_judged d).test no_step (code_of others) ∷ [])
    lower_clause s d None test (with_body f) others =
        test.judged.ready ++ (choose test.judged.test (code_of (lower s d f).value) (code_of others) ∷ [])

    pub lower_bindings : Scope → (d : ℕ) → FlatBindings → Steps
    lower_bindings s d no_binding = []
    lower_bindings s d (binding_and h f bs) = (lower s d f).value ++ lower_bindings s (d + 1) bs

    pub lower_dynamics : Scope → (d : ℕ) → FlatDynamics → Steps
    lower_dynamics s d no_dynamic = []
    lower_dynamics s d (dynamic_and n f ds) = (lower s d f).value ++ lower_dynamics s (d + 1) ds
