-- How the forms of a function's body are evaluated inside its application: one rule a form.
use Rattle.std.proofs.Common.{◌≡◌, ℕ, zero, suc, ◌+◌, Bool, true, false, List, [], ◌∷◌, ◌++◌, refl, sym, ap, subst, ◌∙◌, Some, length, slice_get, slice_set, slice_index_or, if◌then◌else◌, ◌⊎◌, ⊎_elim, length-append, append_assoc}
use Rattle.std.proofs.lemmas.List.{get_or-append-add}
use Rattle.base.specs.Data as datum
use Rattle.lang_meaning.specs.declared.primitive.Primitive.{Primitive}
use Rattle.lang_meaning.specs.declared.program.ProgramRows.{ProgramRows}
use Rattle.lang_meaning.specs.declared.program.LiteralRow.TheVariants as row
use Rattle.lang_meaning.specs.Form.{Form, Forms, no_form, form_and, ClauseForms, no_clause, clause_and, MaybeForm, no_body, with_body, literal, local, set_local, sequence, clauses, prim, while_form, BindingForms, no_binding, binding_and, let_form}
use Rattle.lang_meaning.specs.Values.{Value, nil, object, integer, character, symbol, is_true}
use Rattle.lang_meaning.specs.Objects.{Object, Environment, cons}
use Rattle.lang_meaning.specs.State.{State, DynamicContext, Evaluated, gives, go_on, Limit, words, unlimited, has_room, room_left, request, charged, with_words, full}
use Rattle.lang_meaning.specs.Lookup.{under_number, value_at, set_at, numbered, with_variables, with_values}
use Rattle.lang_meaning.specs.Captured.{has_box}
use Rattle.lang_meaning.specs.Classes.{fetch}
use Rattle.lang_meaning.specs.InitialHeap.{class_value, literal_value}
use Rattle.lang_meaning.specs.Primitives.{result, primitive}
use Rattle.lang_meaning.specs.Signals.{Evaluation, form, answered, with_boxes}
use Rattle.lang_meaning.specs.Meaning.{charged_for, meaning_at, mean, mean_literal, mean_arguments, mean_clauses, mean_body, mean_bindings, bound_variables}
use Rattle.lang_library_laws.specs.Structures.{object_in}
use Rattle.lang_library_laws.specs.Applications.{IsLimited, at_level}
use Rattle.lang_library_laws.proofs.Frames.{set_behind, Places, shifted, numbered_shifted, found_shifted, Setting, at, InFrame, Stays, kept_in_frame, Runs, After, on, ComesPrinting, a_form, in_order, some_clauses, a_body, one_below, given}

-- the meaning of a form at a level
meaning_is : (names : List (List ℕ)) (program : ProgramRows) (limit : Limit) (k : ℕ) (f : Form)
    → meaning_at names program limit k (form f) ≡ mean (at_level names program limit k) f
unfolding meaning_at
meaning_is names program limit zero f = refl
meaning_is names program limit (suc k) f = refl

-- words are asked for
limited : (l : Limit) (n : ℕ) → has_room l n ≡ false → IsLimited l
limited (words w) n h = tt
limited unlimited n h = absurd (cc h)

pub requests : {s : Setting} {Q : Value → State → Type 0} (heap stack : ℕ) (z : State) (next : State → Evaluated) → Stays s z
    → Runs s Q (next (with_words heap stack z)) → Runs s Q (request s.limit heap stack z next)
requests {s} {Q} heap stack z next kept r =
    by (has_room s.limit (z.heap + z.stack + heap + stack)) refl
  where
    by : (b : Bool) → has_room s.limit (z.heap + z.stack + heap + stack) ≡ b
        → Runs s Q (if b then next (with_words heap stack z) else record { outcome = full (heap + stack) (room_left s.limit (z.heap + z.stack)); state = z })
    by true h = r
    by false h = record { ends = (limited s.limit (z.heap + z.stack + heap + stack) h, kept) }

-- a cons in the store
pub record Cell (store : List Object) (x : Value) : Type 0 where
  pub number : ℕ
  pub first : Value
  pub rest : Value
  pub is : x ≡ object number
  pub there : slice_get store number ≡ Some (cons first rest)

pub fetched : {s : Setting} {said : List ℕ} {frame : List Value} {store : List Object} (z : State) → InFrame s said frame store z → (x : Value) → fetch z x ≡ object_in store x
fetched {s} {said} {frame} {store} z h (object i) = ap (λ os. slice_get os i) h.objects_are
fetched {s} {said} {frame} {store} z h nil = refl
fetched {s} {said} {frame} {store} z h (integer n) = refl
fetched {s} {said} {frame} {store} z h (character c) = refl
fetched {s} {said} {frame} {store} z h (symbol x) = refl

pub cell_in : {store : List Object} {x : Value} (c : Cell store x) → object_in store x ≡ Some (cons c.first c.rest)
cell_in {store} {x} c = ap (object_in store) c.is ∙ c.there

-- arguments from left to right, behind those that were evaluated, and what is done with all of them
pub record Arguments (s : Setting) (said said' : List ℕ) (places : Places) (k : ℕ) (fs : Forms) (done : List Value) (frame : List Value) (store : List Object) (next : DynamicContext → List Value → State → Evaluated) (Q : Value → List Value → List Object → Type 0) : Type 0 where
  pub runs : (env : Environment) (around : DynamicContext) (z : State) → env.variables ≡ shifted (length s.base.variables) places
      → InFrame s said frame store z → Runs s (After s said' Q) (mean_arguments (at s k) fs done env around z (next around))

-- what a primitive gives wherever the frame and the store are these
abbrev pub Results : Setting → List ℕ → List Value → List Object → Primitive → List Value → Value → Type 0
Results s said frame store which vs y = (z : State) → InFrame s said frame store z → primitive s.names s.program which vs z ≡ result y z

module _ {s : Setting} {said : List ℕ} {places : Places} {k : ℕ} {frame : List Value} {store : List Object} {Q : Value → List Value → List Object → Type 0} where
  -- a variable has its value
  pub comes_local : (v : ℕ) (i : ℕ) → under_number v places ≡ Some i → Q (slice_index_or frame i nil) frame store
      → ComesPrinting s said said places (a_form k (local v)) frame store Q
  unfolding mean
  comes_local v i f q = record {
    runs = λ env around z e h.
        let at_place : under_number v env.variables ≡ Some (length s.base.variables + i) =
        subst (λ vs. under_number v vs ≡ Some (length s.base.variables + i)) (sym e) (found_shifted v (length s.base.variables) places i f) in
        let there : slice_index_or z.variables (length s.base.variables + i) nil ≡ slice_index_or frame i nil =
        subst (λ vs. slice_index_or vs (length s.base.variables + i) nil ≡ slice_index_or frame i nil) (sym h.variables_are)
        (get_or-append-add s.base.variables frame i nil) in
        let same : value_at (under_number v env.variables) z ≡ slice_index_or frame i nil =
        ap (λ o. value_at o z) at_place ∙ there in
        given (value_at (under_number v env.variables) z) (charged_for (local v) z) h (subst (λ x. Q x frame store) (sym same) q);
  }

  -- and that may be known as another one
  pub comes_known : (v : ℕ) (i : ℕ) (x : Value) → under_number v places ≡ Some i → slice_index_or frame i nil ≡ x → Q x frame store
      → ComesPrinting s said said places (a_form k (local v)) frame store Q
  comes_known v i x found is q = comes_local v i found (subst (λ u. Q u frame store) (sym is) q)

  -- a literal has the value of its datum
  pub comes_literal : (id : ℕ) (d : datum.Item) (x : Value) → slice_get s.program.literals id ≡ Some (row.Datum d) → literal_value s.names s.program id d ≡ x
      → Q x frame store → ComesPrinting s said said places (a_form k (literal id)) frame store Q
  unfolding mean
  comes_literal id d x there is q = record {
    runs = λ env around z e h.
        subst (λ o. Runs s (After s said Q) (mean_literal (at s k) id o around (charged_for (literal id) z))) (sym there)
        (given (literal_value s.names s.program id d) (charged_for (literal id) z) h (subst (λ y. Q y frame store) (sym is) q));
  }

  -- one that is a class has the object that stands for it
  pub comes_class : (id class : ℕ) (x : Value) → slice_get s.program.literals id ≡ Some (row.Class class) → class_value s.names s.program class ≡ x
      → Q x frame store → ComesPrinting s said said places (a_form k (literal id)) frame store Q
  unfolding mean
  comes_class id class x there is q = record {
    runs = λ env around z e h.
        subst (λ o. Runs s (After s said Q) (mean_literal (at s k) id o around (charged_for (literal id) z))) (sym there)
        (given (class_value s.names s.program class) (charged_for (literal id) z) h (subst (λ y. Q y frame store) (sym is) q));
  }

  pub then_nothing : {last : Value} → Q last frame store → ComesPrinting s said said places (in_order k last no_form) frame store Q
  unfolding mean
  then_nothing {last} q = record { runs = λ env around z e h. given last z h q }

  pub test_value : {v : Value} → Q v frame store → ComesPrinting s said said places (a_body k v no_body) frame store Q
  unfolding mean
  test_value {v} q = record { runs = λ env around z e h. given v z h q }

  pub no_clause_left : Q nil frame store → ComesPrinting s said said places (some_clauses k no_clause) frame store Q
  unfolding mean
  no_clause_left q = record { runs = λ env around z e h. given nil z h q }

  -- loops: a test that is nil ends them; after another one and a turn they go on one level below
  pub while_runs : {test body : Form}
      → ComesPrinting s said said places (a_form k test) frame store (λ v fr st.
      ((is_true v ≡ true) × ComesPrinting s said said places (a_form k body) fr st (λ ignored fr st. ComesPrinting s said said places (one_below k (while_form test body)) fr st Q))
      ⊎ ((is_true v ≡ false) × Q nil fr st))
      → ComesPrinting s said said places (a_form k (while_form test body)) frame store Q
  unfolding mean
  while_runs {test} {body} c = record {
    runs = λ env around z e h.
        let choose : Value → State → Bool → Evaluated = λ v after b.
        if b then go_on (mean (at s k) body env around after) (λ ignored again. (at s k).below (form (while_form test body)) env around again) else gives nil after in
        on (mean (at s k) test env around (charged_for (while_form test body) z)) (c.runs env around (charged_for (while_form test body) z) e h) (λ v after a.
        ⊎_elim
        (λ t. subst (λ b. Runs s (After s said Q) (choose v after b)) (sym t.0)
        (on (mean (at s k) body env around after) (t.1.runs env around after e a.holds) (λ ignored again b. b.is.runs env around again e b.holds)))
        (λ n. subst (λ b. Runs s (After s said Q) (choose v after b)) (sym n.0) (given nil after a.holds n.1))
        a.is);
  }

module _ {s : Setting} {said said' : List ℕ} {places : Places} {k : ℕ} {frame : List Value} {store : List Object} {Q : Value → List Value → List Object → Type 0} where
  -- a variable is set
  pub comes_set : {f : Form} (v : ℕ) (i : ℕ) → under_number v places ≡ Some i
      → ComesPrinting s said said' places (a_form k f) frame store (λ x fr st. Q x (slice_set fr i x) st)
      → ComesPrinting s said said' places (a_form k (set_local v f)) frame store Q
  unfolding mean
  comes_set {f} v i found c = record {
    runs = λ env around z e h.
        let at_place : under_number v env.variables ≡ Some (length s.base.variables + i) =
        subst (λ vs. under_number v vs ≡ Some (length s.base.variables + i)) (sym e) (found_shifted v (length s.base.variables) places i found) in
        on (mean (at s k) f env around (charged_for (set_local v f) z)) (c.runs env around (charged_for (set_local v f) z) e h) (λ x after a.
        given x (set_at (under_number v env.variables) x after)
        (subst (λ o. InFrame s said' (slice_set a.frame i x) a.store (set_at o x after)) (sym at_place)
        (record {
          objects_are = a.holds.objects_are;
          extended = a.holds.extended;
          variables_are = ap (λ vs. slice_set vs (length s.base.variables + i) x) a.holds.variables_are ∙ set_behind s.base.variables a.frame i x;
          printed_are = a.holds.printed_are;
          may_be = a.holds.may_be;
          input_is = a.holds.input_is;
          globals_are = a.holds.globals_are;
          dynamics_are = a.holds.dynamics_are;
          symbols_are = a.holds.symbols_are;
        }))
        a.is);
  }

  -- forms in order
  pub comes_sequence : {fs : Forms} → ComesPrinting s said said' places (in_order k nil fs) frame store Q → ComesPrinting s said said' places (a_form k (sequence fs)) frame store Q
  unfolding mean
  comes_sequence {fs} c = record { runs = λ env around z e h. c.runs env around (charged_for (sequence fs) z) e h }

  pub first_then : {between : List ℕ} {last : Value} {f : Form} {fs : Forms}
      → ComesPrinting s said between places (a_form k f) frame store (λ v fr st. ComesPrinting s between said' places (in_order k v fs) fr st Q)
      → ComesPrinting s said said' places (in_order k last (form_and f fs)) frame store Q
  unfolding mean
  first_then {between} {last} {f} {fs} c = record {
    runs = λ env around z e h.
        on (mean (at s k) f env around z) (c.runs env around z e h) (λ v after a. a.is.runs env around after e a.holds);
  }

  -- clauses
  pub comes_clauses : {cs : ClauseForms} → ComesPrinting s said said' places (some_clauses k cs) frame store Q → ComesPrinting s said said' places (a_form k (clauses cs)) frame store Q
  unfolding mean
  comes_clauses {cs} c = record { runs = λ env around z e h. c.runs env around (charged_for (clauses cs) z) e h }

  pub clause_taken : {between : List ℕ} {test : Form} {body : MaybeForm} {cs : ClauseForms}
      → ComesPrinting s said between places (a_form k test) frame store (λ v fr st. (is_true v ≡ true) × ComesPrinting s between said' places (a_body k v body) fr st Q)
      → ComesPrinting s said said' places (some_clauses k (clause_and test body cs)) frame store Q
  unfolding mean
  clause_taken {between} {test} {body} {cs} c = record {
    runs = λ env around z e h.
        on (mean (at s k) test env around z) (c.runs env around z e h) (λ v after a.
        subst (λ (b : Bool). Runs s (After s said' Q) (if b then mean_body (at s k) v body env around after else mean_clauses (at s k) cs env around after)) (sym a.is.0)
        (a.is.1.runs env around after e a.holds));
  }

  pub clause_passed : {between : List ℕ} {test : Form} {body : MaybeForm} {cs : ClauseForms}
      → ComesPrinting s said between places (a_form k test) frame store (λ v fr st. (is_true v ≡ false) × ComesPrinting s between said' places (some_clauses k cs) fr st Q)
      → ComesPrinting s said said' places (some_clauses k (clause_and test body cs)) frame store Q
  unfolding mean
  clause_passed {between} {test} {body} {cs} c = record {
    runs = λ env around z e h.
        on (mean (at s k) test env around z) (c.runs env around z e h) (λ v after a.
        subst (λ (b : Bool). Runs s (After s said' Q) (if b then mean_body (at s k) v body env around after else mean_clauses (at s k) cs env around after)) (sym a.is.0)
        (a.is.1.runs env around after e a.holds));
  }

  pub body_form : {v : Value} {f : Form} → ComesPrinting s said said' places (a_form k f) frame store Q → ComesPrinting s said said' places (a_body k v (with_body f)) frame store Q
  unfolding mean
  body_form {v} {f} c = record { runs = λ env around z e h. c.runs env around z e h }

  -- arguments
  pub no_arguments_left : {done : List Value} {next : DynamicContext → List Value → State → Evaluated}
      → ((around : DynamicContext) (z : State) → InFrame s said frame store z → Runs s (After s said' Q) (next around done z))
      → Arguments s said said' places k no_form done frame store next Q
  unfolding mean
  no_arguments_left {done} {next} c = record { runs = λ env around z e h. c around z h }

  pub argument_and : {between : List ℕ} {f : Form} {fs : Forms} {done : List Value} {next : DynamicContext → List Value → State → Evaluated}
      → ComesPrinting s said between places (a_form k f) frame store (λ v fr st. Arguments s between said' places k fs (done ++ v ∷ []) fr st next Q)
      → Arguments s said said' places k (form_and f fs) done frame store next Q
  unfolding mean
  argument_and {between} {f} {fs} {done} {next} c = record {
    runs = λ env around z e h.
        on (mean (at s k) f env around z) (c.runs env around z e h) (λ v after a. a.is.runs env around after e a.holds);
  }

  -- primitives
  pub comes_prim : {which : Primitive} {fs : Forms}
      → Arguments s said said' places k fs [] frame store (λ around vs after. answered (at s k) (primitive s.names s.program which vs after) around after) Q
      → ComesPrinting s said said' places (a_form k (prim which fs)) frame store Q
  unfolding mean
  comes_prim {which} {fs} c = record { runs = λ env around z e h. c.runs env around (charged_for (prim which fs) z) e h }

  -- a level below
  pub below_one : {f : Form} → ComesPrinting s said said' places (a_form k f) frame store Q → ComesPrinting s said said' places (one_below (suc k) f) frame store Q
  below_one {f} c = record {
    runs = λ env around z e h.
        subst (λ (m : Evaluation). Runs s (After s said' Q) (m env around z)) (sym (meaning_is s.names s.program s.limit k f)) (c.runs env around z e h);
  }

pub none_to_go_below : {s : Setting} {said said' : List ℕ} {places : Places} {f : Form} {frame : List Value} {store : List Object} {Q : Value → List Value → List Object → Type 0}
    → s.short → ComesPrinting s said said' places (one_below zero f) frame store Q
none_to_go_below {s} {said} {said'} {places} {f} {frame} {store} {Q} short = record { runs = λ env around z e h. record { ends = (short, kept_in_frame h) } }

-- bindings from left to right, behind those that were evaluated, and the body where all of them are bound
pub record Bindings (s : Setting) (said said' : List ℕ) (places : Places) (k : ℕ) (bs : BindingForms) (done : List Value) (vars : List ℕ) (body : Form) (frame : List Value) (store : List Object) (Q : Value → List Value → List Object → Type 0) : Type 0 where
  pub runs : (env : Environment) (around : DynamicContext) (z : State) → env.variables ≡ shifted (length s.base.variables) places
      → InFrame s said frame store z → Runs s (After s said' Q) (mean_bindings (at s k) bs done env around z (λ vs after.
      with_boxes s.limit vars body after (λ ready. mean (at s k) body (with_variables vars ready env) around (with_values vs ready))))

-- where no variable has a box
pub without_boxes : (limit : Limit) (vars : List ℕ) (body : Form) (z : State) (next : State → Evaluated) → ((v : ℕ) → has_box v body ≡ false)
    → with_boxes limit vars body z next ≡ next z
without_boxes limit [] body z next none = refl
without_boxes limit (v ∷ vars) body z next none =
    ap (λ (b : Bool). if b then request limit 1 0 z (λ entered. with_boxes limit vars body (charged 1 entered) next) else with_boxes limit vars body z next) (none v)
    ∙ without_boxes limit vars body z next none

shifted_both : (n : ℕ) (ps qs : Places) → shifted n (ps ++ qs) ≡ shifted n ps ++ shifted n qs
shifted_both n [] qs = refl
shifted_both n (p ∷ ps) qs = ap (λ us. (p.0, n + p.1) ∷ us) (shifted_both n ps qs)

module _ {s : Setting} {said said' : List ℕ} {places : Places} {k : ℕ} {frame : List Value} {store : List Object} {Q : Value → List Value → List Object → Type 0} where
  pub no_bindings_left : {done : List Value} {vars : List ℕ} {body : Form} → ((v : ℕ) → has_box v body ≡ false)
      → ComesPrinting s said said' (numbered vars (length frame) ++ places) (a_form k body) (frame ++ done) store Q
      → Bindings s said said' places k no_binding done vars body frame store Q
  unfolding mean
  no_bindings_left {done} {vars} {body} none c = record {
    runs = λ env around z e h.
        let size : length z.variables ≡ length s.base.variables + length frame = ap length h.variables_are ∙ length-append s.base.variables frame in
        subst (λ r. Runs s (After s said' Q) r) (sym (without_boxes s.limit vars body z (λ ready. mean (at s k) body (with_variables vars ready env) around (with_values done ready)) none))
        (c.runs (with_variables vars z env) around (with_values done z)
        (ap (λ n. numbered vars n ++ env.variables) size
        ∙ ap (λ us. us ++ env.variables) (numbered_shifted vars (length s.base.variables) (length frame))
        ∙ ap (λ us. shifted (length s.base.variables) (numbered vars (length frame)) ++ us) e
        ∙ sym (shifted_both (length s.base.variables) (numbered vars (length frame)) places))
        (record {
          objects_are = h.objects_are;
          extended = h.extended;
          variables_are = ap (λ vs. vs ++ done) h.variables_are ∙ append_assoc s.base.variables frame done;
          printed_are = h.printed_are;
          may_be = h.may_be;
          input_is = h.input_is;
          globals_are = h.globals_are;
          dynamics_are = h.dynamics_are;
          symbols_are = h.symbols_are;
        }));
  }

  pub value_and : {between : List ℕ} {x : ℕ} {f : Form} {bs : BindingForms} {done : List Value} {vars : List ℕ} {body : Form}
      → ComesPrinting s said between places (a_form k f) frame store (λ v fr st. Bindings s between said' places k bs (done ++ v ∷ []) vars body fr st Q)
      → Bindings s said said' places k (binding_and x f bs) done vars body frame store Q
  unfolding mean
  value_and {between} {x} {f} {bs} {done} {vars} {body} c = record {
    runs = λ env around z e h.
        on (mean (at s k) f env around z) (c.runs env around z e h) (λ v after a. a.is.runs env around after e a.holds);
  }

  pub comes_let : {bs : BindingForms} {body : Form} → Bindings s said said' places k bs [] (bound_variables bs) body frame store Q
      → ComesPrinting s said said' places (a_form k (let_form bs body)) frame store Q
  unfolding mean
  comes_let {bs} {body} c = record { runs = λ env around z e h. c.runs env around (charged_for (let_form bs body) z) e h }
