-- Applications, signals and transfers, over the meaning one level below.
use Rattle.base.specs.AllOf.{AllOf}
use Rattle.std.proofs.lemmas.Bool.{eqb-true}
use Rattle.std.proofs.Common.{◌≡◌, ℕ, arith, refl, sym, subst, ◌∙◌, ◌+◌, Bool, true, false, List, [], ◌∷◌, ◌++◌, Option, Some, None, length, map, take, drop}
use Rattle.std.specs.Prelude.{is_some, slice_get}
use Rattle.lang_meaning.specs.declared.program.GenericRow.{GenericRow}
use Rattle.lang_meaning.specs.declared.program.FunctionRow.{FunctionRow}
use Rattle.lang_meaning.specs.declared.program.Callee.{Callee}
use Rattle.lang_meaning.specs.declared.program.Callee.TheVariants as callee
use Rattle.lang_meaning.specs.Counts.{application_words}
use Rattle.lang_meaning.specs.Values.{Value, integer, character, symbol, named, nil, object}
use Rattle.lang_meaning.specs.Objects.{Chain, Called, Object, cons, instance, function, generic_function, control_error_class, program_error_class, undefined_function_class}
use Rattle.lang_meaning.specs.State.{DynamicContext, Exit, ExitKind, block_exit, tagbody_exit, catch_exit, signal_exit, end_exit, at_segment, at_site, Limit}
use Rattle.lang_meaning.specs.Lookup.{text}
use Rattle.lang_meaning.specs.Classes.{class_of, fetch, chain}
use Rattle.lang_meaning.specs.Primitives.{instance_words}
use Rattle.lang_meaning.specs.Signals.{takes, marked_at, is_catch, is_signal, is_continuable}
use Rattle.flat_language.specs.declared.place.Home.{Home}
use Rattle.flat_language.specs.declared.place.Home.TheVariants.{Slot, Boxed}
use Rattle.flat_language.specs.declared.program.FlatProcedure.{FlatProcedure}
use Rattle.flat_language.specs.FlatNodes.{tables, homes, nodes}
use Rattle.flat_language.specs.FlatState.{Captured, no_environment, FlatState, FlatEvaluated, FlatAct, on_state, leaves, go_on, with_slots, captured_by, exit_made, charged}
use Rattle.flat_language.specs.FlatSignals.{FlatContext, FlatTask, nothing, form, methods, FlatEvaluation, FlatSignals, descend, make_list, gathered, with_boxes, with_record, inside, marked, search, undefined_function, signal_domain_error, enter, apply_procedure, apply_function, apply_method, apply_each, run_primary, run_around, run_chain, apply_chain, apply_generic_row, apply_generic, apply_object, apply_value, apply_callee, apply_row, new_condition, signal_under, signal, to_exit, transfer, throw_to, continue_with}
use Rattle.flat_language.proofs.Lists.{changed_place}
use Rattle.flat_ends.specs.Laws.{IsInstance}
use Rattle.flat_ends.specs.Leaving.{CaptureOnly, NamesOnly, is_sought}
use Rattle.flat_ends.proofs.Combined.{Named, Kept, Hidden, Comes, Continues, Follows, Acts, Tasks, instance_same, kept_later, kept_as, raised, lowered, is_new, given, leaves_other, on, tests, chosen, catches, some, requests, made, instance_made, framed, own_slots_left}

-- where nothing is named
pub nothing_named : {P : ℕ → Type 0} → NamesOnly P no_environment
nothing_named = record { own = λ n e x. absurd (cc x); captured = λ n e x. absurd (cc x) }

module _ {R : ℕ → Type 0} {C : Type 0} {floor : ℕ} where
  pub descends : {below : FlatTask → FlatEvaluation} → Tasks R C below → (around : DynamicContext) → Hidden R around.exits → (z : FlatState) {next : FlatState → FlatEvaluated}
      → Kept R C floor z → Follows R C floor next → Comes R C floor (descend below next around z)
  descends w around hidden z h c =
      on (w _ nothing no_environment tt nothing_named around hidden z h) (λ v after s. c after s)

  pub lists : (limit : Limit) (vs : List Value) (z : FlatState) {next : Value → FlatState → FlatEvaluated} → Kept R C floor z → Continues R C floor next → Comes R C floor (make_list limit vs z next)
  lists limit [] z h c = c nil z h
  lists limit (v ∷ vs) z h c = lists limit vs z h (λ tail after s. made limit 2 0 (cons v tail) after s c)

  pub gathers : (limit : Limit) (required : ℕ) (rest : Bool) (vs : List Value) (z : FlatState) {next : List Value → FlatState → FlatEvaluated}
      → Kept R C floor z → ((ws : List Value) → Follows R C floor (next ws)) → Comes R C floor (gathered limit required rest vs z next)
  gathers limit required false vs z h c = c vs z h
  gathers limit required true vs z h c = lists limit (drop required vs) z h (λ tail after s. c (take required vs ++ tail ∷ []) after s)

  pub boxes : (limit : Limit) (hs : List Home) (z : FlatState) {next : FlatState → FlatEvaluated} → Kept R C floor z → Follows R C floor next → Comes R C floor (with_boxes limit hs z next)
  boxes limit [] z h c = c z h
  boxes limit (Slot ∷ hs) z h c = boxes limit hs z h c
  boxes limit (Boxed ∷ hs) z h c = requests limit 1 0 z h (λ entered s. boxes limit hs (charged 1 entered) (kept_as s refl refl) c)

  pub records : (limit : Limit) (called : Option Called) (keeps : Bool) (z : FlatState) {next : FlatState → FlatEvaluated}
      → Kept R C floor z → Follows R C floor next → Comes R C floor (with_record limit called keeps z next)
  records limit None keeps z h c = c z h
  records limit (Some called) keeps z h c =
      tests keeps (requests limit (2 + length called.arguments) 0 z h (λ entered s. c (charged (2 + length called.arguments) entered) (kept_as s refl refl))) (c z h)

  -- a search, of which it is known what is found
  pub searches : {X : Type 0} (p : X → Bool) (P : X → Type 0) {found : X → FlatState → FlatEvaluated} {otherwise : FlatState → FlatEvaluated}
      → ((x : X) → P x → p x ≡ true → Follows R C floor (found x)) → Follows R C floor otherwise → (xs : List X) → AllOf P xs → (z : FlatState) → Kept R C floor z → Comes R C floor (search p found otherwise xs z)
  searches p P f o [] all z h = o z h
  searches p P f o (x ∷ xs) all z h =
      chosen (p x) (λ e. f x all.0 e (charged 1 z) (kept_as h refl refl)) (λ e. searches p P f o xs all.1 (charged 1 z) (kept_as h refl refl))

-- exits that are left without a name
catch_sought : (tag : Value) (kind : ExitKind) → is_catch tag kind ≡ true → is_sought kind ≡ true
catch_sought tag (catch_exit other) e = refl
catch_sought tag (signal_exit c mark) e = absurd (cc e)
catch_sought tag block_exit e = absurd (cc e)
catch_sought tag tagbody_exit e = absurd (cc e)
catch_sought tag end_exit e = absurd (cc e)

signal_sought : (kind : ExitKind) → is_continuable kind ≡ true → is_sought kind ≡ true
signal_sought (signal_exit c mark) e = e
signal_sought (catch_exit tag) e = absurd (cc e)
signal_sought block_exit e = absurd (cc e)
signal_sought tagbody_exit e = absurd (cc e)
signal_sought end_exit e = absurd (cc e)

-- a mark makes no exit
pub marks_same : (c mark : Value) (z : FlatState) → (marked c mark z).state.exits ≡ z.state.exits
marks_same c mark z = by c (fetch z.state c)
  where
    by : (v : Value) (o : Option Object) → (on_state (λ y. marked_at v mark o y) z).state.exits ≡ z.state.exits
    by (object i) (Some (instance class slots old)) = refl
    by v o = refl

-- what goes wrong in a handler is signalled under those outside it
abbrev pub wrong_under : FlatContext → List Value → FlatSignals
wrong_under context hs class slots inner y = new_condition context class slots y (λ condition after. signal_under context hs condition nil inner after)

module _ {R : ℕ → Type 0} {C : Type 0} (context : FlatContext) (w : Tasks R C context.below) where
  -- how conditions are signalled
  abbrev pub Signs : FlatSignals → Type 0
  Signs wrong = (floor : ℕ) (class : ℕ) (slots : List Value) → Acts R C floor (wrong class slots)

  module _ (wrong : FlatSignals) (s : Signs wrong) where
    pub domain_signals : {floor : ℕ} (v : Value) (expected : ℕ) → Acts R C floor (signal_domain_error context wrong v expected)
    domain_signals v expected around hidden z h = s _ _ _ around hidden z h

    pub enters : {floor : ℕ} (p : FlatProcedure) (captured : List Captured) (called : Option Called) (vs : List Value) → CaptureOnly (Named R C floor) captured
        → Acts R C floor (enter context wrong p captured called vs)
    enters p captured called vs only around hidden z h =
        tests (takes (length p.required) (is_some p.rest) (length vs))
        (framed context.limit (application_words (nodes p.body) + length vs) z h (λ entered h1.
        gathers context.limit (length p.required) (is_some p.rest) vs (charged (length vs) entered) (kept_as h1 refl refl) (λ ws gone h2.
        records context.limit called p.keeps_method gone h2 (λ recorded h3.
        boxes context.limit (homes p) recorded h3 (λ ready h4.
        own_slots_left ready h4 (λ inner h5.
        w _ (form p.body) (record no_environment { captured = captured; method = called }) tt (record { own = λ n e x. absurd (cc x); captured = only }) around hidden
        (with_slots (homes p) ws inner) (kept_as h5 refl refl)))))))
        (s _ program_error_class [] around hidden z h)

    pub applies : {floor : ℕ} (i : ℕ) (called : Option Called) (vs : List Value) → Acts R C floor (apply_procedure context wrong i called vs)
    applies i called vs around hidden z h =
        descends w around hidden z h (λ entered h1.
        some _ (λ a k y hy. given nil y hy) (λ (p : FlatProcedure). enters p [] called vs (λ n e x. absurd (cc x))) around hidden entered h1)

    pub function_applies : {floor : ℕ} (i : ℕ) (captured : List Captured) (vs : List Value) → CaptureOnly (Named R C floor) captured → Acts R C floor (apply_function context wrong i captured vs)
    function_applies i captured vs only around hidden z h =
        descends w around hidden z h (λ entered h1.
        some _ (λ a k y hy. given nil y hy) (λ (p : FlatProcedure). enters p captured None vs only) around hidden entered h1)

    pub method_applies : {floor : ℕ} (i : ℕ) (called : Called) → Acts R C floor (apply_method context wrong i called)
    method_applies i called = applies i (Some called) called.arguments

    pub each_applies : {floor : ℕ} (ms : List ℕ) (vs : List Value) → Acts R C floor (apply_each context wrong ms vs)
    each_applies [] vs around hidden z h = given nil z h
    each_applies (m ∷ ms) vs around hidden z h = on (applies m None vs around hidden z h) (λ v after h1. each_applies ms vs around hidden after h1)

    pub primary_runs : {floor : ℕ} (c : Chain) (ps : List ℕ) (vs : List Value) → Acts R C floor (run_primary context wrong c ps vs)
    primary_runs c [] vs around hidden z h = s _ control_error_class [] around hidden z h
    primary_runs c (p ∷ ps) vs around hidden z h =
        on (each_applies c.before vs around hidden z h) (λ ignored before h1.
        on (method_applies p (record { arguments = vs; rest = record { around = []; before = []; primary = ps; after = [] } }) around hidden before h1) (λ v primary h2.
        on (each_applies c.after vs around hidden primary h2) (λ ignored after h3. given v after h3)))

    pub around_runs : {floor : ℕ} (c : Chain) (ms : List ℕ) (vs : List Value) → Acts R C floor (run_around context wrong c ms vs)
    around_runs c [] vs around hidden z h = primary_runs c c.primary vs around hidden z h
    around_runs c (m ∷ ms) vs around hidden z h = method_applies m (record { arguments = vs; rest = record c { around = ms } }) around hidden z h

    pub chain_runs : {floor : ℕ} (c : Chain) (vs : List Value) → Acts R C floor (run_chain context wrong c vs)
    chain_runs c vs around hidden z h = around_runs c c.around vs around hidden z h

    pub undefined : {floor : ℕ} (name : List ℕ) → Acts R C floor (undefined_function wrong name)
    undefined name around hidden z h = s _ undefined_function_class (symbol (named name) ∷ []) around hidden z h

    pub chain_applies : {floor : ℕ} (g : GenericRow) (c : Option Chain) (vs : List Value) → Acts R C floor (apply_chain context wrong g c vs)
    chain_applies g None vs around hidden z h = undefined (text context.names g.name.0) around hidden z h
    chain_applies g (Some c) vs around hidden z h =
        descends w around hidden z h (λ entered h1.
        framed context.limit (16 + length vs) entered h1 (λ inner h2.
        w _ (methods c vs) no_environment tt nothing_named around hidden (charged (length vs) inner) (kept_as h2 refl refl)))

    pub generic_row_applies : {floor : ℕ} (g : Option GenericRow) (vs : List Value) → Acts R C floor (apply_generic_row context wrong g vs)
    generic_row_applies None vs around hidden z h = given nil z h
    generic_row_applies (Some g) vs around hidden z h =
        tests (takes g.required g.rest (length vs))
        (chain_applies g (chain (tables context.program) g (map (class_of z.state) (take g.required vs))) vs around hidden z h)
        (s _ program_error_class [] around hidden z h)

    pub generic_applies : {floor : ℕ} (i : ℕ) (vs : List Value) → Acts R C floor (apply_generic context wrong i vs)
    generic_applies i vs around hidden z h = generic_row_applies (slice_get context.program.generics i) vs around hidden z h

    pub object_applies : {floor : ℕ} (o : Option Object) (captured : Option (List Captured)) (f : Value) (vs : List Value)
        → ((cs : List Captured) → captured ≡ Some cs → CaptureOnly (Named R C floor) cs) → Acts R C floor (apply_object context wrong o captured f vs)
    object_applies (Some (function p)) None f vs only around hidden z h = applies p None vs around hidden z h
    object_applies (Some (function p)) (Some captured) f vs only around hidden z h = function_applies p captured vs (only captured refl) around hidden z h
    object_applies (Some (generic_function g)) captured f vs only around hidden z h = generic_applies g vs around hidden z h
    object_applies o captured f vs only around hidden z h = s _ _ _ around hidden z h

    captured_named : {floor : ℕ} (f : Value) (z : FlatState) → Kept R C floor z → (cs : List Captured) → captured_by f z ≡ Some cs → CaptureOnly (Named R C z.state.exits) cs
    captured_named (object i) z h cs e = h.captured i cs e
    captured_named (integer n) z h cs e = absurd (cc e)
    captured_named (character c) z h cs e = absurd (cc e)
    captured_named (symbol c) z h cs e = absurd (cc e)
    captured_named nil z h cs e = absurd (cc e)

    pub value_applies : {floor : ℕ} (f : Value) (vs : List Value) → Acts R C floor (apply_value context wrong f vs)
    value_applies f vs around hidden z h =
        lowered h.up h.first (object_applies (fetch z.state f) (captured_by f z) f vs (captured_named f z h) around hidden z (raised h))

    pub callee_applies : {floor : ℕ} (c : Callee) (vs : List Value) → Acts R C floor (apply_callee context wrong c vs)
    callee_applies (callee.Procedure p) vs around hidden z h = applies p None vs around hidden z h
    callee_applies (callee.Generic g) vs around hidden z h = generic_applies g vs around hidden z h

    pub row_applies : {floor : ℕ} (name : List ℕ) (row : Option FunctionRow) (vs : List Value) → Acts R C floor (apply_row context wrong name row vs)
    row_applies name None vs around hidden z h = undefined name around hidden z h
    row_applies name (Some f) vs around hidden z h = callee_applies f.callee vs around hidden z h

  pub conditions : {floor : ℕ} (class : ℕ) (slots : List Value) (z : FlatState) {next : Value → FlatState → FlatEvaluated} → Kept R C floor z
      → ((v : Value) (y : FlatState) → Kept R C floor y → IsInstance y v → Comes R C floor (next v y)) → Comes R C floor (new_condition context class slots z next)
  conditions class slots z h c = instance_made context.limit (instance_words (tables context.program) class (length slots)) 0 class (map Some slots) nil z h c

  -- a marked condition is an instance still
  marked_instance : (c mark : Value) (z : FlatState) → IsInstance z c → IsInstance (marked c mark z) c
  marked_instance c mark z i =
      subst (λ (v : Value). IsInstance (marked v mark z) v) (sym i.is)
      (subst (λ (o : Option Object). IsInstance (on_state (λ y. marked_at (object i.number) mark o y) z) (object i.number)) (sym i.stands)
      (record {
        number = i.number;
        is = refl;
        class = i.class;
        slots = i.slots;
        mark = mark;
        stands = changed_place z.state.store i.number (instance i.class i.slots i.mark) (instance i.class i.slots mark) i.stands;
      }))

  unhandled : {floor : ℕ} (c mark : Value) (around : DynamicContext) (z : FlatState) → Kept R C floor z → (R 0 → IsInstance z c)
      → Comes R C floor (leaves 0 c (at_site around.site) (exit_made (marked c mark z)))
  unhandled c mark around z h i = record {
    kept = kept_later h (let same = marks_same c mark z in omega (arith, same)) refl;
    goes = record { site = λ place same. refl; end = λ r. (refl, around.site, refl, instance_same c refl (marked_instance c mark z (i r))) };
  }

  -- an exit that is made is not reserved
  pub hidden_inside : {floor : ℕ} (kind : ExitKind) (around : DynamicContext) (z : FlatState) → Kept R C floor z → Hidden R around.exits → Hidden R (inside kind around z).exits
  hidden_inside kind around z h hidden = ((λ e. absurd (is_new h e)), hidden)

  -- signals under handlers, from the outermost handler on
  abbrev pub SignsUnder : List Value → Type 0
  SignsUnder hs =
      (floor : ℕ) (c mark : Value) (around : DynamicContext) → Hidden R around.exits → (z : FlatState) → Kept R C floor z → (R 0 → IsInstance z c)
      → Comes R C floor (signal_under context hs c mark around z)

  -- a handler is applied under those outside it; and where it returns, that is a control error
  pub handler_applies : {floor : ℕ} (hs : List Value) → SignsUnder hs → (x : Value) (vs : List Value) → Acts R C floor (apply_value context (wrong_under context hs) x vs)
  handler_applies hs outside =
      value_applies (wrong_under context hs) (λ inner_floor class slots inner k y hy.
      conditions class slots y hy (λ condition after ha ia. outside _ condition nil inner k after ha (λ r. ia)))

  pub handled : {floor : ℕ} (hs : List Value) → SignsUnder hs → (x c : Value) (within : DynamicContext) → Hidden R within.exits → (z : FlatState) → Kept R C floor z
      → Comes R C floor (go_on (apply_value context (wrong_under context hs) x (c ∷ []) within z) (λ v after.
      new_condition context control_error_class [] after (λ condition made_then. signal_under context hs condition nil within made_then)))
  handled hs outside x c within hidden z h =
      on (handler_applies hs outside x (c ∷ []) within hidden z h) (λ v after ha.
      conditions control_error_class [] after ha (λ condition made_then hm im. outside _ condition nil within hidden made_then hm (λ r. im)))

  pub signals_under : (hs : List Value) → SignsUnder hs
  signals_under [] floor c mark around hidden z h i = unhandled c mark around z h i
  signals_under (x ∷ hs) floor c mark around hidden z h i =
      catches z.state.exits
      (handled hs (signals_under hs) x c (record (inside (signal_exit c mark) around z) { handlers = hs }) (hidden_inside (signal_exit c mark) around z h hidden)
      (charged 1 (exit_made (marked c mark z))) (kept_later h (let same = marks_same c mark z in omega (arith, same)) refl))

  pub signals : Signs (signal context)
  signals floor class slots around hidden z h =
      conditions class slots z h (λ c made_then hm im. signals_under around.handlers _ c nil around hidden made_then hm (λ r. im))

  -- transfers
  abbrev pub IsHidden : Exit → Type 0
  IsHidden x = R x.number → is_sought x.kind ≡ false

  hidden_exits : (xs : List Exit) → Hidden R xs → AllOf IsHidden xs
  hidden_exits [] h = tt
  hidden_exits (x ∷ xs) h = (h.0, hidden_exits xs h.1)

  pub exit_left : {floor : ℕ} (p : Exit → Bool) (go : Exit → FlatAct) → ((x : Exit) → IsHidden x → p x ≡ true → Acts R C floor (go x)) → Acts R C floor (to_exit context p go)
  exit_left p go f around hidden z h =
      searches p IsHidden (λ x real e y hy. f x real e around hidden y hy) (λ y hy. signals _ control_error_class [] around hidden y hy) around.exits
      (hidden_exits around.exits hidden) z h

  pub transfers : {floor : ℕ} (x : Option ℕ) (v : Value) (segment : ℕ) → ((e : ℕ) → x ≡ Some e → R e → ⊥) → Acts R C floor (transfer context x v (at_segment segment))
  transfers None v segment free around hidden z h = signals _ control_error_class [] around hidden z h
  transfers (Some e) v segment free around hidden z h =
      exit_left _ _ (λ y real same a k z' h'.
      leaves_other y.number v segment z' (λ r. free e refl (subst R (eqb-true y.number e same) r)) h')
      around hidden z h

  -- what is sought is not reserved
  free_kind : (x : Exit) → IsHidden x → is_sought x.kind ≡ true → R x.number → ⊥
  free_kind x hides sought r = absurd (cc (sym sought ∙ hides r))

  pub throws : {floor : ℕ} (tag v : Value) → Acts R C floor (throw_to context tag v)
  throws tag v around hidden z h =
      exit_left (λ x. is_catch tag x.kind) _
      (λ x hides e a k y hy. leaves_other x.number v 0 y (free_kind x hides (catch_sought tag x.kind e)) hy) around hidden z h

  pub continues : {floor : ℕ} (c v : Value) → Acts R C floor (continue_with context c v)
  continues c v around hidden z h =
      exit_left (λ x. is_signal c x.kind) _
      (λ x hides e a k y hy.
      chosen (is_continuable x.kind) (λ may. leaves_other x.number v 0 y (free_kind x hides (signal_sought x.kind may)) hy)
      (λ may. signals _ control_error_class [] a k y hy))
      around hidden z h
