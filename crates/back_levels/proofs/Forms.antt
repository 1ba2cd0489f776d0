-- **All forms at a level**: by induction on the form, with each law for the form of its kind.
use Rattle.std.proofs.Common.{◌≡◌, ℕ, zero, suc, ◌+◌, ◌<◌, ◌≤◌, Bool, true, false, List, [], ◌∷◌, length, Option, Some, None, refl, sym, ap, ◌∙◌, subst, ◌⊎◌, inl, inr, arith}
use Rattle.std.specs.Prelude.{slice_get, is_some}
use Rattle.std.proofs.lemmas.Bool.{cases_lt, leb-true, eqb-true}
use Rattle.lang_meaning.specs.declared.program.FunctionRow.{FunctionRow}
use Rattle.lang_meaning.specs.declared.program.GenericRow.{GenericRow}
use Rattle.lang_meaning.specs.declared.program.Callee.{Callee}
use Rattle.lang_meaning.specs.declared.program.Callee.TheVariants.{Procedure, Generic}
use Rattle.lang_meaning.specs.Literals.{function_row}
use Rattle.lang_meaning.specs.Lookup.{text}
use Rattle.lang_meaning.specs.Signals.{takes}
use Rattle.flat_language.specs.declared.place.Home.{Home}
use Rattle.flat_language.specs.declared.program.FlatProcedure.{FlatProcedure}
use Rattle.flat_language.specs.FlatForm.{FlatForm, literal, local, set_local, global, set_global, def_global, clauses, sequence, let_form, make_function, call, call_value, apply, prim, while_form, block, return_from, tagbody, go, catch_form, throw, unwind, dynamic_let, dynamic, set_dynamic, def_dynamic, with_handler, signal_form, continue_form, next_method, has_next, sited}
use Rattle.flat_language.specs.FlatForm.{FlatForms, no_form, form_and, FlatClauses, no_clause, clause_and, FlatBody, no_body, with_body}
use Rattle.flat_language.specs.FlatForm.{FlatBindings, no_binding, binding_and, FlatDynamics, no_dynamic, dynamic_and}
use Rattle.flat_language.specs.FlatNodes.{count_forms}
use Rattle.mid_arena.proofs.Arguments.{item_there}
use Rattle.back_relation.specs.Setting.{Setting}
use Rattle.back_relation.specs.Placed.{IsPlaced, CallPlaced, CalleeThere}
use Rattle.back_relation.specs.Right.{ProgramIsRight}
use Rattle.back_relation.specs.Forms.{DoesForm, JudgesForm, FormDoes, context_at, code_at}
use Rattle.back_relation.specs.FormLaws.{AllDo, ClausesDo}
use Rattle.back_relation.proofs.Branches.{whole_clauses, whole_whiles}
use Rattle.back_relation.proofs.Wholes.{whole_sequences_law}
use Rattle.back_values.specs.Bindings.{forms_of}
use Rattle.back_values.specs.Wholes.{IsByValue, Does}
use Rattle.back_values.proofs.Literals.{whole_literals}
use Rattle.back_values.proofs.NextMethods.{whole_next_methods}
use Rattle.back_values.proofs.Sites.{sites_law}
use Rattle.back_values.proofs.Wholes.{judged_forms, whole_variables, whole_setting, whole_bindings, whole_functions, whole_globals, whole_setting_globals, whole_definitions}
use Rattle.back_exits.proofs.Catches.{whole_catches_law}
use Rattle.back_exits.proofs.Whole.{whole_blocks_law}
use Rattle.back_exits.proofs.Down.{tagbodies_at_levels_law}
use Rattle.back_exits.proofs.Cleanups.{whole_unwinding_law}
use Rattle.back_sought_exits.proofs.Called.{returns_law, goes_law}
use Rattle.back_conditions.specs.Forms.{DynamicsDo}
use Rattle.back_conditions.proofs.DynamicForms.{dynamic_lets_law}
use Rattle.back_conditions.proofs.Dynamics.{dynamics_law}
use Rattle.back_conditions.proofs.HandlerForms.{handlers_law}
use Rattle.back_conditions.proofs.TwoWords.{continuing_law, signals_law, throws_law}
use Rattle.back_conditions.proofs.Definitions.{definitions_law}
use Rattle.back_conditions.proofs.Settings.{settings_law}
use Rattle.back_function_entries.proofs.Bodies.{bodies_law}
use Rattle.back_function_entries.specs.KnownCalls.{BodiesBelow}
use Rattle.back_function_entries.proofs.Applies.{applies_law}
use Rattle.back_function_entries.proofs.KnownCalls.{known_calls_law}
use Rattle.back_function_entries.proofs.Undefined.{undefined_calls_law}
use Rattle.back_function_entries.proofs.Wrong.{wrong_calls_law}
use Rattle.back_function_entries.proofs.RestForms.{rest_forms_law}
use Rattle.back_primitives.proofs.Forms.{primitive_forms_law}
use Rattle.back_generics.proofs.GenericCalls.{generic_calls_law}
use Rattle.back_generics.proofs.NextForms.{next_forms_law}
use Rattle.back_generics.proofs.ValueCalls.{value_calls_law}
use Rattle.back_levels.specs.Levels.{FormsDo, RoutinesDo, LawOfForms}

module _ (setting : Setting) (k : ℕ) (right : ProgramIsRight setting) (routines : (turns : ℕ) → turns ≤ setting.turns_each → RoutinesDo setting k turns)
    (below : (j : ℕ) → j < k → FormsDo setting j) where
  placed : IsPlaced setting
  placed = right.placed.placed

  -- bodies do what their forms mean, which run a level below
  bodies : BodiesBelow setting k
  bodies j same entry extra q is = bodies_law setting j entry extra q right (below j (omega (arith, same)) setting.turns_each (omega arith) q.body).value

  -- a form that is judged by its value
  by_value : (f : FlatForm) (t : ℕ) → IsByValue f → Does setting k t f → FormDoes setting k t f
  by_value f t is does = record { value = does; test = judged_forms setting k t f is does }

  -- ---- calls of names

  module _ (name : ℕ) (fs : FlatForms) (t : ℕ) (fewer : t ≤ setting.turns_each) (all : AllDo setting k t fs) where
    abbrev named : Option FunctionRow
    named = function_row setting.names setting.program.functions (text setting.names name)

    -- a function that takes as many arguments, with further ones or without
    taken : (row : FunctionRow) → named ≡ Some row → (p : ℕ) → row.callee ≡ Procedure p → (q : FlatProcedure) → slice_get setting.program.procedures p ≡ Some q
        → takes (length q.required) (is_some q.rest) (count_forms fs) ≡ true → Does setting k t (call name fs)
    taken row there p callee q found many = by q.rest refl
      where
        by : (o : Option Home) → q.rest ≡ o → Does setting k t (call name fs)
        by None none =
            known_calls_law setting k t name fs right fewer
            (record {
              row = row;
              there = there;
              number = p;
              callee = callee;
              function = q;
              found = found;
              no_rest = none;
              many = sym (eqb-true (length q.required) (count_forms fs) (sym (ap (λ r. takes (length q.required) (is_some r) (count_forms fs)) none) ∙ many));
            }) all bodies
        by (Some r) some =
            rest_forms_law setting k t name fs right fewer
            (record {
              row = row;
              there = there;
              number = p;
              callee = callee;
              function = q;
              found = found;
              takes_more = ap is_some some;
              enough = leb-true (length q.required) (count_forms fs) (sym (ap (λ r. takes (length q.required) (is_some r) (count_forms fs)) some) ∙ many);
            }) all bodies

    procedure : (row : FunctionRow) → named ≡ Some row → (p : ℕ) → row.callee ≡ Procedure p → (q : FlatProcedure) → slice_get setting.program.procedures p ≡ Some q
        → Does setting k t (call name fs)
    procedure row there p callee q found = by (takes (length q.required) (is_some q.rest) (count_forms fs)) refl
      where
        by : (b : Bool) → takes (length q.required) (is_some q.rest) (count_forms fs) ≡ b → Does setting k t (call name fs)
        by true e = taken row there p callee q found e
        by false e =
            wrong_calls_law setting k t name fs placed
            (record { row = row; there = there; number = p; callee = callee; function = q; found = found; takes_others = e }) all
            (λ rs valid w around z y. ((routines t fewer).errors rs valid w around z y).failing)

    function : (row : FunctionRow) → named ≡ Some row → (c : Callee) → row.callee ≡ c → CalleeThere setting c → Does setting k t (call name fs)
    function row there (Procedure p) callee less = let q = item_there setting.program.procedures p less in procedure row there p callee q.0 q.1
    function row there (Generic g) callee less =
        let q = item_there setting.program.generics g less in
        generic_calls_law setting k t name fs placed (record { row = row; there = there; number = g; callee = callee; generic = q.0; found = q.1 }) all
        (λ rs valid w around z y. (routines t fewer).generic rs valid w around z y) (λ rs valid w around z y. ((routines t fewer).errors rs valid w around z y).failing)

    call_by : (o : Option FunctionRow) → named ≡ o → CallPlaced setting name o → Does setting k t (call name fs)
    call_by None none is = undefined_calls_law setting k t name fs none all (λ rs valid w around z y. ((routines t fewer).errors rs valid w around z y).failing_with)
    call_by (Some row) there is = function row there row.callee refl is

    call_does : Does setting k t (call name fs)
    call_does rs valid s d n first w env around z regs y stands begins registers words =
        call_by named refl stands.placed.0 rs valid s d n first w env around z regs y stands begins registers words

  -- new conditions with no more turns
  fails_within : (t : ℕ) → t ≤ setting.turns_each → (u : ℕ) → u ≤ t → RoutinesDo setting k u
  fails_within t fewer u less = routines u (omega (arith, fewer, less))

  -- ---- what runs at this level and at those below

  loops_at :
      (test body : FlatForm) → ((n : ℕ) → n ≤ setting.turns_each → JudgesForm setting n (context_at setting k) (code_at setting k n) test)
      → ((n : ℕ) → n ≤ setting.turns_each → DoesForm setting n (context_at setting k) (code_at setting k n) body) → (j n : ℕ) → j ≤ k → n ≤ setting.turns_each
      → JudgesForm setting n (context_at setting j) (code_at setting j n) test × DoesForm setting n (context_at setting j) (code_at setting j n) body
  loops_at test body judges does j n low few = by (cases_lt j k)
    where
      by : j < k ⊎ k ≤ j → JudgesForm setting n (context_at setting j) (code_at setting j n) test × DoesForm setting n (context_at setting j) (code_at setting j n) body
      by (inl less) = ((below j less n few test).test, (below j less n few body).value)
      by (inr high) =
          let same : k ≡ j = omega (arith, low, high) in
          subst (λ i. JudgesForm setting n (context_at setting i) (code_at setting i n) test × DoesForm setting n (context_at setting i) (code_at setting i n) body) same
          (judges n few, does n few)

  forms_below : (j : ℕ) → j < k → (n : ℕ) → n ≤ setting.turns_each → (fs : FlatForms) → AllDo setting j n fs
  forms_below j less n few no_form = tt
  forms_below j less n few (form_and f fs) = ((below j less n few f).value, forms_below j less n few fs)

  segments_at : (fs : FlatForms) → ((n : ℕ) → n ≤ setting.turns_each → AllDo setting k n fs) → (j n : ℕ) → j ≤ k → n ≤ setting.turns_each → AllDo setting j n fs
  segments_at fs does j n low few = by (cases_lt j k)
    where
      by : j < k ⊎ k ≤ j → AllDo setting j n fs
      by (inl less) = forms_below j less n few fs
      by (inr high) = let same : k ≡ j = omega (arith, low, high) in subst (λ i. AllDo setting i n fs) same (does n few)

  mutual
    form_does : (f : FlatForm) (t : ℕ) → t ≤ setting.turns_each → FormDoes setting k t f
    form_does (literal i) t l = by_value (literal i) t tt (whole_literals setting k t i (λ rs valid w around z y. ((routines t l).errors rs valid w around z y).failing_with))
    form_does (local p) t l = by_value (local p) t tt (whole_variables setting k t p)
    form_does (set_local p f) t l = by_value (set_local p f) t tt (whole_setting setting k t p f placed (form_does f t l).value)
    form_does (global n) t l =
        by_value (global n) t tt (whole_globals setting k t n placed (λ rs valid w around z y. ((routines t l).errors rs valid w around z y).failing_with))
    form_does (set_global n f) t l =
        by_value (set_global n f) t tt
        (whole_setting_globals setting k t n f placed (λ rs valid w around z y. ((routines t l).errors rs valid w around z y).failing_with) (form_does f t l).value)
    form_does (def_global n f) t l = by_value (def_global n f) t tt (whole_definitions setting k t n f placed (form_does f t l).value)
    form_does (clauses cs) t l = by_value (clauses cs) t tt (whole_clauses setting k t cs (clauses_do cs t l))
    form_does (sequence fs) t l = by_value (sequence fs) t tt (whole_sequences_law setting k t fs (forms_do fs t l))
    form_does (let_form bs body) t l = by_value (let_form bs body) t tt (whole_bindings setting k t bs body placed (bindings_do bs t l) (form_does body t l).value)
    form_does (make_function p parts) t l = by_value (make_function p parts) t tt (whole_functions setting k t p parts placed)
    form_does (call n fs) t l = by_value (call n fs) t tt (call_does n fs t l (forms_do fs t l))
    form_does (call_value fs) t l =
        by_value (call_value fs) t tt (value_calls_law setting k t fs placed (forms_do fs t l) (λ rs valid w around z y. (routines t l).function rs valid w around z y))
    form_does (apply f list) t l =
        by_value (apply f list) t tt
        (applies_law setting k t f list (form_does f t l).value (form_does list t l).value (λ rs valid w around z y. (routines t l).apply rs valid w around z y))
    form_does (prim which fs) t l =
        primitive_forms_law setting k t which fs (record { placed = placed; pending = λ rs valid around w z y. ((routines t l).errors rs valid w around z y).pending }) (forms_do fs t l)
    form_does (while_form test body) t l =
        by_value (while_form test body) t tt (whole_whiles setting k t test body l (loops_at test body (λ n few. (form_does test n few).test) (λ n few. (form_does body n few).value)))
    form_does (block body) t l = by_value (block body) t tt (whole_blocks_law setting k t body placed (form_does body t l).value)
    form_does (return_from x f) t l =
        by_value (return_from x f) t tt
        (returns_law setting k t x f placed (λ u less rs valid w around z y. ((fails_within t l u less).errors rs valid w around z y).failing) (form_does f t l).value)
    form_does (tagbody fs) t l = by_value (tagbody fs) t tt (tagbodies_at_levels_law setting k t fs placed l (segments_at fs (λ n few. forms_do fs n few)))
    form_does (go x segment) t l =
        by_value (go x segment) t tt (goes_law setting k t x segment placed (λ u less rs valid w around z y. ((fails_within t l u less).errors rs valid w around z y).failing))
    form_does (catch_form tag body) t l =
        by_value (catch_form tag body) t tt (whole_catches_law setting k t tag body placed (form_does tag t l).value (form_does body t l).value)
    form_does (throw tag f) t l =
        by_value (throw tag f) t tt
        (throws_law setting k t tag f (λ rs valid w around z y. ((routines t l).errors rs valid w around z y).throw) (form_does tag t l).value (form_does f t l).value)
    form_does (unwind f cleanup) t l =
        by_value (unwind f cleanup) t tt (whole_unwinding_law setting k t f cleanup placed (form_does f t l).value (form_does cleanup t l).value)
    form_does (dynamic_let ds body) t l = by_value (dynamic_let ds body) t tt (dynamic_lets_law setting k t ds body placed (dynamics_do ds t l) (form_does body t l).value)
    form_does (dynamic n) t l =
        by_value (dynamic n) t tt (dynamics_law setting k t n placed (λ rs valid w around z y. ((routines t l).errors rs valid w around z y).failing_with))
    form_does (set_dynamic n f) t l =
        by_value (set_dynamic n f) t tt
        (settings_law setting k t n f placed (λ rs valid w around z y. ((routines t l).errors rs valid w around z y).failing_with) (form_does f t l).value)
    form_does (def_dynamic n f) t l = by_value (def_dynamic n f) t tt (definitions_law setting k t n f placed (form_does f t l).value)
    form_does (with_handler handler body) t l =
        by_value (with_handler handler body) t tt
        (handlers_law setting k t handler body placed (λ rs valid w around z y. ((routines t l).errors rs valid w around z y).domain) (form_does handler t l).value (form_does body t l).value)
    form_does (signal_form condition mark) t l =
        by_value (signal_form condition mark) t tt
        (signals_law setting k t condition mark (λ rs valid w around z y. ((routines t l).errors rs valid w around z y).signal) (form_does condition t l).value (form_does mark t l).value)
    form_does (continue_form condition f) t l =
        by_value (continue_form condition f) t tt
        (continuing_law setting k t condition f (λ rs valid w around z y. ((routines t l).errors rs valid w around z y).continue) (form_does condition t l).value (form_does f t l).value)
    form_does (next_method m) t l = by_value (next_method m) t tt (next_forms_law setting k t m (λ rs valid w around z y. (routines t l).next rs valid w around z y))
    form_does (has_next m) t l = by_value (has_next m) t tt (whole_next_methods setting k t m)
    form_does (sited site f) t l =
        let inner = form_does f t l in
        record { value = (sites_law setting k t).value site f inner.value; test = (sites_law setting k t).test site f inner.test }

    forms_do : (fs : FlatForms) (t : ℕ) → t ≤ setting.turns_each → AllDo setting k t fs
    forms_do no_form t l = tt
    forms_do (form_and f fs) t l = ((form_does f t l).value, forms_do fs t l)

    clauses_do : (cs : FlatClauses) (t : ℕ) → t ≤ setting.turns_each → ClausesDo setting k t cs
    clauses_do no_clause t l = tt
    clauses_do (clause_and test no_body cs) t l = ((form_does test t l).value, clauses_do cs t l)
    clauses_do (clause_and test (with_body f) cs) t l = ((form_does test t l).test, (form_does f t l).value, clauses_do cs t l)

    bindings_do : (bs : FlatBindings) (t : ℕ) → t ≤ setting.turns_each → AllDo setting k t (forms_of bs)
    bindings_do no_binding t l = tt
    bindings_do (binding_and h f bs) t l = ((form_does f t l).value, bindings_do bs t l)

    dynamics_do : (ds : FlatDynamics) (t : ℕ) → t ≤ setting.turns_each → DynamicsDo setting k t ds
    dynamics_do no_dynamic t l = tt
    dynamics_do (dynamic_and n f ds) t l = ((form_does f t l).value, dynamics_do ds t l)

pub forms_law : LawOfForms
forms_law setting k right routines below turns fewer f = form_does setting k right routines below f turns fewer
