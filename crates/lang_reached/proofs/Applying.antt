-- Applications, signals and transfers side by side, over meanings one level below that agree.
use Rattle.std.proofs.Common.{◌≡◌, ℕ, ◌+◌, Bool, false, List, [], ◌∷◌, length, refl, sym, subst, Option, Some, None, map, take, zero-add}
use Rattle.std.specs.Prelude.{⊤, is_some, slice_get}
use Rattle.base.specs.AllOf.{AllOf}
use Rattle.base.specs.Data.{Item}
use Rattle.lang_meaning.specs.declared.program.Procedure.{Procedure}
use Rattle.lang_meaning.specs.declared.program.GenericRow.{GenericRow}
use Rattle.lang_meaning.specs.declared.program.FunctionRow.{FunctionRow}
use Rattle.lang_meaning.specs.declared.program.Callee.{Callee}
use Rattle.lang_meaning.specs.declared.program.Callee.TheVariants as callee
use Rattle.lang_meaning.specs.Form.{Form, parameters}
use Rattle.lang_meaning.specs.Counts.{nodes, application_words}
use Rattle.lang_meaning.specs.Values.{Value, integer, character, symbol, named, nil, object}
use Rattle.lang_meaning.specs.Objects.{Chain, Called, Environment, no_environment, Object, cons, string, vector, instance, function, closure, generic_function, class_object, input_stream, output_stream, fresh_symbol, function_class, control_error_class, program_error_class, undefined_function_class}
use Rattle.lang_meaning.specs.State.{State, Exit, signal_exit, Landing, at_segment, at_site, Evaluated, gives, leaves, Act, inside, exit_made, Limit, charged}
use Rattle.lang_meaning.specs.InitialHeap.{class_value, standard_input, standard_output, initargs_value, initform_value, literal_value, function_value}
use Rattle.lang_meaning.specs.Literals.{function_row}
use Rattle.lang_meaning.specs.Lookup.{text, with_variables, with_values}
use Rattle.lang_meaning.specs.Classes.{class_of, chain}
use Rattle.lang_meaning.specs.Signals.{Context, Task, form, methods, Evaluation, Signals, with_some, takes, marked, marked_at, enter, apply_procedure, apply_closure, apply_method, apply_each, run_primary, run_around, run_chain, apply_chain, apply_generic_row, apply_generic, apply_object, apply_value, apply_callee, apply_row, undefined_function, signal_domain_error, new_condition, signal_under, signal, is_catch, is_signal, is_continuable, to_exit, transfer, throw_to, continue_with}
use Rattle.lang_reached.specs.LeftOut.{IsClosed, KeepsProcedure, KeepsGeneric, KeepsCallee, KeepsRow, KeepsMethods, without_others}
use Rattle.lang_reached.proofs.Live.{Setting, is_lost_at, Live, AllLive, SlotLive, Keeps, ChainFine, CalledFine, MethodFine, FormFine, ObjectFine, StateFine, EnvironmentFine}
use Rattle.lang_reached.proofs.States.{changed_fine, values_fine}
use Rattle.lang_reached.proofs.Agreeing.{Agrees, Continues, Acts, Within, itself, given, on, tests, catches, some, made, framed, descends, gathers, boxes, records, searches}
use Rattle.lang_reached.proofs.Chains.{kept_there, chain_fine}

-- all that is reached is kept, and what stands for classes, streams, slots and literals is live, and for names of functions that are kept
pub record Grounded (t : Setting) : Type 0 where
  pub closed : IsClosed t.names t.program t.kept
  pub class_live : (c : ℕ) → Live t (class_value t.names t.program c)
  pub input_live : Live t (standard_input t.names t.program)
  pub output_live : Live t (standard_output t.names t.program)
  pub initargs_live : (c place : ℕ) → Live t (initargs_value t.names t.program c place)
  pub initform_live : (c place : ℕ) → Live t (initform_value t.names t.program c place)
  pub literal_live : (id : ℕ) (d : Item) → Live t (literal_value t.names t.program id d)
  pub function_live : (name : List ℕ) (f : FunctionRow) → function_row t.names t.program.functions name ≡ Some f → KeepsCallee t.kept f.callee
      → Live t (function_value t.names t.program name)

-- what is known of an object that is applied
abbrev Applied : Setting → Object → Type 0
Applied t (function p) = Keeps t p
Applied t (generic_function g) = KeepsGeneric t.kept g
Applied t (closure required rest body env) = FormFine t body × MethodFine t env.method
Applied t o = ⊤

-- a live one is so, if it is fine
applied : (t : Setting) (i : ℕ) (o : Object) → is_lost_at t i ≡ false → ObjectFine t i o → Applied t o
applied t i (function p) l h = h l
applied t i (generic_function g) l h = h l
applied t i (closure required rest body env) l h = h
applied t i o l h = tt

-- two contexts: the whole program, and what is left of it
pub record Beside (t : Setting) : Type 0 where
  pub limit : Limit
  pub below : Task → Evaluation
  pub below_left : Task → Evaluation
  pub within : Within t below below_left

module _ {t : Setting} (g : Grounded t) (b : Beside t) where
  abbrev pub whole : Context
  whole = record { names = t.names; program = t.program; limit = b.limit; below = b.below }

  abbrev pub left : Context
  left = record { names = t.names; program = without_others t.kept t.program; limit = b.limit; below = b.below_left }

  abbrev pub Both : (Context → Act) → Type 0
  Both act = Acts t (act whole) (act left)

  -- signals of conditions
  abbrev pub Signs : (Context → Signals) → Type 0
  Signs wrong = (class : ℕ) (slots : List Value) → AllLive t slots → Both (λ context. wrong context class slots)

  module _ (wrong : Context → Signals) (s : Signs wrong) where
    pub domain_signals : (v : Value) (expected : ℕ) → Live t v → Both (λ context. signal_domain_error context (wrong context) v expected)
    domain_signals v expected l around z a f = s _ _ (l, (g.class_live expected, tt)) around z a f

    enters : (required : List ℕ) (rest : Option ℕ) (body : Form) (env : Environment) (called : Option Called) (vs : List Value)
        → FormFine t body → EnvironmentFine t env → AllLive t vs
        → Both (λ context. enter context (wrong context) required rest body env called vs)
    enters required rest body env called vs fb fe fv around z a f =
        tests (takes (length required) (is_some rest) (length vs))
        (framed b.limit (application_words (nodes body) + length vs) z f (λ entered f1.
        gathers b.limit (length required) rest vs (charged (length vs) entered) fv f1 (λ ws gone l f2.
        records b.limit called body gone f2 (λ recorded f3.
        boxes b.limit (parameters required rest) body recorded f3 (λ ready f4.
        b.within (form body) (with_variables (parameters required rest) ready env) fb fe around (with_values ws ready) a (values_fine ready f4 ws l))))))
        (s program_error_class [] tt around z a f)

    pub applies : (i : ℕ) (called : Option Called) (vs : List Value) → Keeps t i → MethodFine t called → AllLive t vs
        → Both (λ context. apply_procedure context (wrong context) i called vs)
    applies i called vs kp fc fv around z a f =
        let same = kept_there t.kept.procedures 0 t.program.procedures i (subst (λ m. KeepsProcedure t.kept m) (sym (zero-add i)) kp) in
        descends b.within around z a f (λ entered f'.
        subst
        (λ o. Agrees t
        (with_some (slice_get t.program.procedures i) (λ a y. gives nil y) (λ p. enter whole (wrong whole) p.required p.rest p.body (record no_environment { method = called }) called vs) around entered)
        (with_some o (λ a y. gives nil y) (λ p. enter left (wrong left) p.required p.rest p.body (record no_environment { method = called }) called vs) around entered))
        (sym same)
        (some (slice_get t.program.procedures i) (λ a' y a'' fy. given nil y tt fy)
        (λ (p : Procedure) e. enters p.required p.rest p.body (record no_environment { method = called }) called vs (g.closed.bodies i p e kp) fc fv)
        around entered a f'))

    closure_applies : (required : List ℕ) (rest : Option ℕ) (body : Form) (env : Environment) (vs : List Value)
        → FormFine t body → EnvironmentFine t env → AllLive t vs
        → Both (λ context. apply_closure context (wrong context) required rest body env vs)
    closure_applies required rest body env vs fb fe fv around z a f =
        descends b.within around z a f (λ entered f'. enters required rest body env None vs fb fe fv around entered a f')

    method_applies : (i : ℕ) (called : Called) → Keeps t i → CalledFine t called
        → Both (λ context. apply_method context (wrong context) i called)
    method_applies i called kp fc = applies i (Some called) called.arguments kp fc fc.arguments

    each_applies : (ms : List ℕ) (vs : List Value) → AllOf (Keeps t) ms → AllLive t vs
        → Both (λ context. apply_each context (wrong context) ms vs)
    each_applies [] vs km fv around z a f = given nil z tt f
    each_applies (m ∷ ms) vs km fv around z a f =
        on (applies m None vs km.0 tt fv around z a f) (λ v after l f'. each_applies ms vs km.1 fv around after a f')

    primary_runs : (c : Chain) (ps : List ℕ) (vs : List Value) → ChainFine t c → AllOf (Keeps t) ps → AllLive t vs
        → Both (λ context. run_primary context (wrong context) c ps vs)
    primary_runs c [] vs fc kp fv around z a f = s control_error_class [] tt around z a f
    primary_runs c (p ∷ ps) vs fc kp fv around z a f =
        on (each_applies c.before vs fc.before fv around z a f) (λ ignored before l1 f1.
        on (method_applies p (record { arguments = vs; rest = record { around = []; before = []; primary = ps; after = [] } }) kp.0
        (record { arguments = fv; rest = record { around = tt; before = tt; primary = kp.1; after = tt } }) around before a f1) (λ v primary l2 f2.
        on (each_applies c.after vs fc.after fv around primary a f2) (λ ignored after l3 f3.
        given v after l2 f3)))

    around_runs : (c : Chain) (ms : List ℕ) (vs : List Value) → ChainFine t c → AllOf (Keeps t) ms → AllLive t vs
        → Both (λ context. run_around context (wrong context) c ms vs)
    around_runs c [] vs fc km fv around z a f = primary_runs c c.primary vs fc fc.primary fv around z a f
    around_runs c (m ∷ ms) vs fc km fv around z a f =
        method_applies m (record { arguments = vs; rest = record c { around = ms } }) km.0
        (record { arguments = fv; rest = record { around = km.1; before = fc.before; primary = fc.primary; after = fc.after } }) around z a f

    pub chain_runs : (c : Chain) (vs : List Value) → ChainFine t c → AllLive t vs
        → Both (λ context. run_chain context (wrong context) c vs)
    chain_runs c vs fc fv around z a f = around_runs c c.around vs fc fc.around fv around z a f

    pub undefined : (name : List ℕ) → Both (λ context. undefined_function (wrong context) name)
    undefined name around z a f = s undefined_function_class (symbol (named name) ∷ []) (tt, tt) around z a f

    chain_applies : (row : GenericRow) (c : Option Chain) (vs : List Value) → ((d : Chain) → c ≡ Some d → ChainFine t d) → AllLive t vs
        → Both (λ context. apply_chain context (wrong context) row c vs)
    chain_applies row None vs fc fv around z a f = undefined (text t.names row.name.0) around z a f
    chain_applies row (Some c) vs fc fv around z a f =
        descends b.within around z a f (λ entered f1.
        framed b.limit (16 + length vs) entered f1 (λ inner f2.
        b.within (methods c vs) no_environment (fc c refl, fv) tt around (charged (length vs) inner) a f2))

    generic_row_applies : (row : Option GenericRow) (vs : List Value) → ((r : GenericRow) → row ≡ Some r → KeepsMethods t.names t.program t.kept r) → AllLive t vs
        → Both (λ context. apply_generic_row context (wrong context) row vs)
    generic_row_applies None vs km fv around z a f = given nil z tt f
    generic_row_applies (Some row) vs km fv around z a f =
        let classes = map (class_of z) (take row.required vs) in
        tests (takes row.required row.rest (length vs))
        (chain_applies row (chain t.program row classes) vs (chain_fine t t.program row classes (km row refl)) fv around z a f)
        (s program_error_class [] tt around z a f)

    generic_applies : (i : ℕ) (vs : List Value) → KeepsGeneric t.kept i → AllLive t vs
        → Both (λ context. apply_generic context (wrong context) i vs)
    generic_applies i vs kg fv around z a f =
        generic_row_applies (slice_get t.program.generics i) vs (λ r e. g.closed.methods i r e kg) fv around z a f

    -- an object is applied, which is fine, and whose value is live
    object_applies : (o : Option Object) (v : Value) (vs : List Value) → ((p : Object) → o ≡ Some p → Applied t p) → Live t v → AllLive t vs
        → Both (λ context. apply_object context (wrong context) o v vs)
    object_applies (Some (function p)) v vs h l fv around z a f = applies p None vs (h (function p) refl) tt fv around z a f
    object_applies (Some (closure required rest body env)) v vs h l fv around z a f =
        let c = h (closure required rest body env) refl in
        closure_applies required rest body env vs c.0 c.1 fv around z a f
    object_applies (Some (generic_function n)) v vs h l fv around z a f = generic_applies n vs (h (generic_function n) refl) fv around z a f
    object_applies (Some (cons a d)) v vs h l fv around z c f = s _ _ (l, (g.class_live function_class, tt)) around z c f
    object_applies (Some (string bytes)) v vs h l fv around z a f = s _ _ (l, (g.class_live function_class, tt)) around z a f
    object_applies (Some (vector us)) v vs h l fv around z a f = s _ _ (l, (g.class_live function_class, tt)) around z a f
    object_applies (Some (instance c us mark)) v vs h l fv around z a f = s _ _ (l, (g.class_live function_class, tt)) around z a f
    object_applies (Some (class_object c)) v vs h l fv around z a f = s _ _ (l, (g.class_live function_class, tt)) around z a f
    object_applies (Some input_stream) v vs h l fv around z a f = s _ _ (l, (g.class_live function_class, tt)) around z a f
    object_applies (Some output_stream) v vs h l fv around z a f = s _ _ (l, (g.class_live function_class, tt)) around z a f
    object_applies (Some (fresh_symbol n)) v vs h l fv around z a f = s _ _ (l, (g.class_live function_class, tt)) around z a f
    object_applies None v vs h l fv around z a f = s _ _ (l, (g.class_live function_class, tt)) around z a f

    pub value_applies : (v : Value) (vs : List Value) → Live t v → AllLive t vs
        → Both (λ context. apply_value context (wrong context) v vs)
    value_applies (object i) vs l fv around z a f =
        object_applies (slice_get z.store i) (object i) vs (λ p e. applied t i p l (f.store.each i p e)) l fv around z a f
    value_applies (integer n) vs l fv around z a f = object_applies None (integer n) vs (λ p e. absurd (cc)) l fv around z a f
    value_applies (character c) vs l fv around z a f = object_applies None (character c) vs (λ p e. absurd (cc)) l fv around z a f
    value_applies (symbol x) vs l fv around z a f = object_applies None (symbol x) vs (λ p e. absurd (cc)) l fv around z a f
    value_applies nil vs l fv around z a f = object_applies None nil vs (λ p e. absurd (cc)) l fv around z a f

    callee_applies : (c : Callee) (vs : List Value) → KeepsCallee t.kept c → AllLive t vs
        → Both (λ context. apply_callee context (wrong context) c vs)
    callee_applies (callee.Procedure p) vs kc fv around z a f = applies p None vs kc tt fv around z a f
    callee_applies (callee.Generic n) vs kc fv around z a f = generic_applies n vs kc fv around z a f

    pub row_applies : (name : List ℕ) (row : Option FunctionRow) (vs : List Value) → KeepsRow t.names t.program t.kept row → AllLive t vs
        → Both (λ context. apply_row context (wrong context) name row vs)
    row_applies name None vs kr fv around z a f = undefined name around z a f
    row_applies name (Some r) vs kr fv around z a f = callee_applies r.callee vs kr fv around z a f

  slots_live : (vs : List Value) → AllLive t vs → AllOf (SlotLive t) (map Some vs)
  slots_live [] h = tt
  slots_live (v ∷ vs) h = (h.0, slots_live vs h.1)

  pub conditions : (class : ℕ) (slots : List Value) (z : State) {next next' : Value → State → Evaluated} → AllLive t slots → StateFine t z
      → Continues t next next' → Agrees t (new_condition whole class slots z next) (new_condition left class slots z next')
  conditions class slots z h f c = made b.limit _ 0 (instance class (map Some slots) nil) z f (λ i. (slots_live slots h, tt)) c

  marks : (c mark : Value) (z : State) → Live t mark → StateFine t z → StateFine t (marked c mark z)
  marks (object i) mark z l f = by (slice_get z.store i) (λ p e. f.store.each i p e)
    where
      by : (o : Option Object) → ((p : Object) → o ≡ Some p → ObjectFine t i p) → StateFine t (marked_at (object i) mark o z)
      by (Some (instance n slots old)) h = changed_fine z f i (instance n slots mark) ((h (instance n slots old) refl).0, l)
      by o h = f
  marks v mark z l f = f

  -- the signals under handlers, from the outermost handler on
  pub signals_under : (hs : List Value) (c mark : Value) → AllLive t hs → Live t c → Live t mark
      → Both (λ context. signal_under context hs c mark)
  signals_under [] c mark fh lc lm around z a f = itself (leaves 0 c (at_site around.site) (exit_made (marked c mark z))) lc (marks c mark z lm f)
  signals_under (h ∷ hs) c mark fh lc lm around z a f =
      catches z.exits
      (on
      (value_applies (λ context class slots inner y. new_condition context class slots y (λ e after. signal_under context hs e nil inner after))
      (λ class slots ls inner y a' f'. conditions class slots y ls f' (λ e after le fe. signals_under hs e nil fh.1 le tt inner after a' fe))
      h (c ∷ []) fh.0 (lc, tt) (record (inside (signal_exit c mark) around z) { handlers = hs }) (charged 1 (exit_made (marked c mark z))) fh.1 (marks c mark z lm f))
      (λ v after lv fv. conditions control_error_class [] after tt fv
      (λ e made le fe. signals_under hs e nil fh.1 le tt (record (inside (signal_exit c mark) around z) { handlers = hs }) made fh.1 fe)))

  pub signals : Signs signal
  signals class slots h around z a f =
      conditions class slots z h f (λ c made lc fc. signals_under around.handlers c nil a lc tt around made a fc)

  -- transfers
  exit_left : (p : Exit → Bool) (go go' : Exit → Act) → ((x : Exit) → Acts t (go x) (go' x))
      → Acts t (to_exit whole p go) (to_exit left p go')
  exit_left p go go' h around z a f =
      searches p (λ x y fy. h x around y a fy) (λ y fy. signals control_error_class [] tt around y a fy) around.exits z f

  leaving : (x : Exit) (v : Value) (landing : Landing) → Live t v → Acts t (λ around z. leaves x.number v landing z) (λ around z. leaves x.number v landing z)
  leaving x v landing l around z a f = itself (leaves x.number v landing z) l f

  pub transfers : (e : Option ℕ) (v : Value) (landing : Landing) → Live t v → Both (λ context. transfer context e v landing)
  transfers None v landing l around z a f = signals control_error_class [] tt around z a f
  transfers (Some e) v landing l around z a f = exit_left _ _ _ (λ x around y a' fy. leaving x v landing l around y a' fy) around z a f

  pub throws : (tag v : Value) → Live t v → Both (λ context. throw_to context tag v)
  throws tag v l around z a f = exit_left (λ x. is_catch tag x.kind) _ _ (λ x around y a' fy. leaving x v (at_segment 0) l around y a' fy) around z a f

  pub continues : (c v : Value) → Live t v → Both (λ context. continue_with context c v)
  continues c v l around z a f =
      exit_left (λ x. is_signal c x.kind) _ _
      (λ x around y a' fy. tests (is_continuable x.kind) (leaving x v (at_segment 0) l around y a' fy) (signals control_error_class [] tt around y a' fy))
      around z a f
