-- Bindings of `let`: values, boxes, the body in more slots, and what was there before.
use Rattle.std.proofs.Common.{◌≡◌, ℕ, ◌+◌, ◌*◌, ◌<◌, ◌≤◌, List, [], ◌∷◌, ◌++◌, length, take, refl, sym, ap, ◌∙◌, subst, arith}
use Rattle.lang_meaning.specs.State.{DynamicContext, Outcome, value, exit, full, more}
use Rattle.lang_meaning.specs.Values.{Value}
use Rattle.lang_meaning.specs.Counts.{unit_cost}
use Rattle.flat_language.specs.declared.place.Home.{Home}
use Rattle.flat_language.specs.FlatForm.{FlatForm, let_form, FlatBindings, no_binding, binding_and}
use Rattle.flat_language.specs.FlatMeaning.{mean, mean_arguments, mean_bindings, binding_homes}
use Rattle.flat_language.specs.FlatNodes.{count_forms, count_bindings}
use Rattle.flat_language.specs.FlatSignals.{FlatContext, with_boxes}
use Rattle.flat_language.specs.FlatState.{FrameSlot, FlatEnvironment, FlatState, FlatEvaluated, go_on_from, go_on, gives, charged, new_slots, new_boxes, in_new_slots, without_slots_from, under}
use Rattle.flat_language.specs.FlatState.{with_slots as with_frame_slots}
use Rattle.mid_code.specs.Arena.{word_in}
use Rattle.mid_code.specs.Meaning.{exec}
use Rattle.mid_code.specs.MidCode.{code_of}
use Rattle.mid_code.specs.State.{Registers, End, falls, no_room, no_level, no_turn, halts, unhandled, exhausted, stuck, returns, cuts, MidState, MidOutcome, Next}
use Rattle.mid_code.specs.State.{go_on as mid_go_on}
use Rattle.mid_arena.proofs.Running.{and_then, none_left, move_falls, in_two_parts}
use Rattle.back_lowering.specs.Codes.{lower, lower_arguments, lower_bindings}
use Rattle.back_lowering.specs.Leaves.{boxes_made}
use Rattle.back_lowering.specs.Registers.{of_code, enough_for}
use Rattle.back_lowering.specs.Scope.{registers_from}
use Rattle.back_lowering.specs.declared.scope.Scope.{Scope}
use Rattle.back_lowering.specs.Steps.{Steps, move}
use Rattle.back_relation.specs.Setting.{Setting}
use Rattle.back_relation.specs.Worlds.{World, Standing}
use Rattle.back_relation.specs.Activation.{FormScope, with_slots, ActivationStands}
use Rattle.back_relation.specs.Placed.{IsPlaced}
use Rattle.back_relation.specs.Room.{words_for_handler}
use Rattle.back_relation.specs.Ends.{Reached, Ends, done, left_by, full_there, stopped, few_turns, Because, Left, form_credit}
use Rattle.back_relation.specs.Forms.{context_at, code_at}
use Rattle.back_relation.specs.Points.{Point, start_at, run, value_steps, Here}
use Rattle.back_relation.specs.Starts.{FlatGrown, Start, EndsAt, FellFrom, ReachedFrom}
use Rattle.back_relation.proofs.Activations.{activation_later}
use Rattle.back_relation.proofs.Choices.{go_gives}
use Rattle.back_relation.proofs.FormGrowth.{form_grows}
use Rattle.back_relation.proofs.Growth.{same_flat, then_value}
use Rattle.back_relation.proofs.Parts.{go_on_falls}
use Rattle.back_relation.proofs.Points.{point_after, code_grows}
use Rattle.back_relation.proofs.Starts.{start_charged, ends_sparing, ends_spared, gives_run, behind}
use Rattle.back_relation.proofs.Stops.{stopped_less}
use Rattle.back_relation.proofs.Then.{ends_go_on, same_world}
use Rattle.mid_arena.specs.Places.{WordsOf}
use Rattle.back_values.proofs.WordLists.{of_values_later}
use Rattle.back_values.specs.Arguments.{WordsIn, ArgumentsHere}
use Rattle.back_values.proofs.Arguments.{arguments_law}
use Rattle.back_values.specs.Bindings.{forms_of, HomesAsSlots, LawOfBindings}
use Rattle.back_values.specs.Boxes.{SlotsIn, extended, BoxesMade, BoxesEnd, made, no_words, no_space}
use Rattle.back_values.proofs.BoxesMade.{boxes_law, boxes_grow}
use Rattle.back_values.proofs.Cleaning.{is_clean, reached_clean}
use Rattle.back_values.proofs.Frames.{framed, ended_framed, call_framed, world_framed, around_framed, transfers_framed}
use Rattle.back_values.proofs.Slots.{activation_extended, activation_dropped, scope_extended, registers_dropped}

-- ---- the forms of bindings are as arguments

flat_same : (r : FlatEvaluated) (f g : Value → FlatState → FlatEvaluated) → ((v : Value) (z : FlatState) → f v z ≡ g v z) → go_on r f ≡ go_on r g
flat_same r f g h = by r.outcome
  where
    by : (o : Outcome) → go_on_from o r.state f ≡ go_on_from o r.state g
    by (value v) = h v r.state
    by (exit e v landing) = refl
    by (full asked left_then) = refl
    by more = refl

bindings_mean :
    (context : FlatContext) (bs : FlatBindings) (vs : List Value) (env : FlatEnvironment) (around : DynamicContext) (z : FlatState)
    (next : List Value → FlatState → FlatEvaluated)
    → mean_bindings context bs vs env around z next ≡ mean_arguments context (forms_of bs) vs env around z next
unfolding mean
bindings_mean context no_binding vs env around z next = refl
bindings_mean context (binding_and h f bs) vs env around z next =
    flat_same (mean context f env around z) (λ v x. mean_bindings context bs (vs ++ v ∷ []) env around x next)
    (λ v x. mean_arguments context (forms_of bs) (vs ++ v ∷ []) env around x next) (λ v x. bindings_mean context bs (vs ++ v ∷ []) env around x next)

pub bindings_steps :
    (setting : Setting) (s : Scope) (d : ℕ) (bs : FlatBindings)
    → lower_bindings setting.names setting.at setting.program s d bs ≡ lower_arguments setting.names setting.at setting.program s d (forms_of bs)
unfolding lower
bindings_steps setting s d no_binding = refl
bindings_steps setting s d (binding_and h f bs) =
    ap (λ ss. (lower setting.names setting.at setting.program s d f).value ++ ss) (bindings_steps setting s (d + 1) bs)

forms_count : (bs : FlatBindings) → count_forms (forms_of bs) ≡ length (binding_homes bs)
forms_count no_binding = refl
forms_count (binding_and h f bs) = let inner = forms_count bs in omega (arith, inner)

-- ---- what the body came to, without its slots

module _ (setting : Setting) where
  because_framed : (gs : List FrameSlot) (r : FlatEvaluated) (e : End) → Because setting r e → Because setting (ended_framed gs r) e
  because_framed gs r (no_room asked left_then) h = h
  because_framed gs r no_level h = h
  because_framed gs r exhausted h = h
  because_framed gs r falls h = h
  because_framed gs r (returns w) h = h
  because_framed gs r (cuts n w) h = h
  because_framed gs r no_turn h = h
  because_framed gs r (halts w) h = h
  because_framed gs r (unhandled class site condition) h = h
  because_framed gs r stuck h = h

  module _ (s : FormScope) (d n m : ℕ) {rs valid : List Standing} {w : World} {env : FlatEnvironment} {around : DynamicContext} {z : FlatState} {regs : Registers} {y : MidState}
      (hs : List Home) (fs : List FrameSlot) (before : ActivationStands setting s rs valid w env around z regs y) where
    abbrev inner : FormScope
    inner = with_slots hs (registers_from d n) s

    abbrev k : ℕ
    k = length z.frame

    reached_dropped :
        {credit : ℕ} {w' : World} {z' : FlatState} {regs' : Registers} {y' : MidState}
        → Reached setting credit inner (d + n) rs valid w w' env around (framed fs z) z' regs regs' y y'
        → Reached setting credit s d rs valid w w' env around z (framed (take k z'.frame) z') regs regs' y y'
    reached_dropped {credit} {w'} {z'} {regs'} {y'} x = record {
      kept = record {
        world = world_framed setting z.frame (take k z'.frame) x.kept.world;
        activation = activation_dropped setting d hs (registers_from d n) k refl before x.kept.activation;
        registers = registers_dropped s.code d n regs regs' x.kept.registers;
      };
      back = around_framed setting z.frame (take k z'.frame) x.back;
    }

    left_dropped :
        {credit : ℕ} {r : FlatEvaluated} {q : MidOutcome} → Left setting credit rs valid inner (d + n) w env around (framed fs z) regs y r q
        → Left setting credit rs valid s d w env around z regs y (without_slots_from k r) q
    unfolding transfers_framed
    left_dropped {credit} {r} {q} x = record {
      transfer = transfers_framed setting z.frame (take k r.state.frame) x.transfer;
      activation = activation_dropped setting d hs (registers_from d n) k refl before x.activation;
      registers = registers_dropped s.code d n regs q.registers x.registers;
    }

    ends_dropped :
        {D : Type 0} {credit turns : ℕ} {r : FlatEvaluated} {q : MidOutcome}
        → Ends setting (credit + unit_cost) D (Left setting credit rs valid inner (d + n) w env around (framed fs z) regs y r q) turns (framed fs z) y r q
        → Ends setting (credit + unit_cost) D (Left setting credit rs valid s d w env around z regs y (without_slots_from k r) q) turns z y (without_slots_from k r) q
    ends_dropped (done x) = done x
    ends_dropped (left_by x) = left_by (left_dropped x)
    ends_dropped (full_there x) =
        full_there (record { asked = x.asked; left_then = x.left_then; outcome = x.outcome; printed = x.printed })
    ends_dropped {r = r} {q = q} (stopped x) =
        stopped (record { because = because_framed (take k r.state.frame) r q.end x.because; printed = x.printed; paid = x.paid })
    ends_dropped (few_turns x) = few_turns x

module _ (setting : Setting) (placed : IsPlaced setting) (s : FormScope) (d m size k turns : ℕ) (bs : FlatBindings) (body : FlatForm) (homes : HomesAsSlots s) where
  abbrev hs : List Home
  hs = binding_homes bs

  abbrev many : ℕ
  many = length hs

  abbrev inside : FormScope
  inside = with_slots hs (registers_from d many) s

  abbrev start : Point setting s d m size → Start setting
  start p = start_at setting s d m size turns p

  abbrev body_steps : Steps
  body_steps = value_steps setting inside (d + many) m size k turns body

  abbrev last_steps : Steps
  last_steps = move d (d + many) ∷ []

  abbrev running : Steps → Registers → MidState → MidOutcome
  running ss g y = exec (code_at setting k turns) (code_of ss) g y

  -- the body, behind which its value is moved to d
  module _ (p : Point setting s d m size) (there : d + many < size) (here : Here setting inside (d + many) m size k turns body) (vs : List Value) (i : ℕ)
      (count : length vs ≡ length hs) (slots : SlotsIn p.w d (new_slots hs vs i) p.regs) where
    abbrev fs : List FrameSlot
    fs = p.z.frame ++ new_slots hs vs i

    abbrev inner_point : Point setting inside (d + many) m size
    inner_point = record {
      rs = p.rs;
      valid = p.valid;
      w = p.w;
      env = p.env;
      around = p.around;
      z = framed fs p.z;
      regs = p.regs;
      y = p.y;
      begins = record {
        call = call_framed setting fs p.begins.call;
        activation = activation_extended setting d hs vs i count homes slots p.begins.activation;
        scope = scope_extended s.code d many p.begins.scope;
        method_there = p.begins.method_there;
        first = omega (arith, there, p.count);
      };
      count = p.count;
    }

    abbrev body_means : FlatEvaluated
    body_means = mean (context_at setting k) body p.env p.around (framed fs p.z)

    abbrev left_out : FlatEvaluated
    left_out = without_slots_from (length p.z.frame) body_means

    abbrev body_runs : MidOutcome
    body_runs = running body_steps p.regs p.y

    moved :
        (x : FellFrom setting 0 (start_at setting inside (d + many) m size turns inner_point) (d + many) body_means body_runs)
        → EndsAt setting 6 (start p) (gives x.result left_out.state) (running last_steps body_runs.registers body_runs.state)
    moved x =
        let r : ReachedFrom setting 0 (start p) d x.w' left_out.state body_runs.registers body_runs.state =
        reached_dropped setting s d many m hs fs p.begins.activation x.reached in
        behind setting {c1 = 0} {c2 = 6} (start p) d (omega arith) r (omega arith) (form_grows setting k body p.env p.around (framed fs p.z)).units
        (gives_run setting {credit = 6} (start_at setting s d m size turns (point_after setting s d m size turns p r)) x.result (omega arith) x.of_value
        (and_then (move_falls x.in_register) none_left))

    body_here : EndsAt setting 6 (start p) left_out (running (body_steps ++ last_steps) p.regs p.y)
    body_here =
        let next : Next = λ g y. running last_steps g y in
        subst (λ q. EndsAt setting 6 (start p) left_out q) (sym (in_two_parts (code_at setting k turns) body_steps last_steps p.regs p.y))
        (subst (λ r. EndsAt setting 6 (start p) r (mid_go_on body_runs next)) (go_gives left_out)
        (ends_go_on setting {D = FellFrom setting 0 (start_at setting inside (d + many) m size turns inner_point) (d + many) body_means body_runs} {c1 = 0} {d1 = d} {r = left_out} {q = body_runs}
        (λ v z. gives v z) next (omega arith) (omega arith)
        (ends_dropped setting s d many m hs fs p.begins.activation (ends_spared setting (start_at setting inside (d + many) m size turns inner_point) (here inner_point)))
        (λ v z. same_flat z) (λ g y. code_grows setting s d m size k turns last_steps g y)
        (λ x.
        subst (λ r. EndsAt setting 6 (start p) r (mid_go_on body_runs next)) (sym (then_value left_out (λ v z. gives v z) x.result x.outcome))
        (subst (λ q. EndsAt setting 6 (start p) (gives x.result left_out.state) q) (sym (go_on_falls body_runs next x.end)) (moved x)))))

  -- ---- where the values are there

  -- the state with the new slots, whichever way it is made
  with_slots_is :
      (vs all : List Value) (z : FlatState) (i : ℕ) → all ≡ z.state.variables ++ new_boxes hs vs → i ≡ length z.state.variables
      → framed (z.frame ++ new_slots hs vs i) (extended all z) ≡ with_frame_slots hs vs z
  with_slots_is vs all z i same at =
      ap (λ (xs : List Value). framed (z.frame ++ new_slots hs vs i) (extended xs z)) same
      ∙ ap (λ j. framed (z.frame ++ new_slots hs vs j) (extended (z.state.variables ++ new_boxes hs vs) z)) at

  module _ (there : d + many < size) (fits : enough_for (of_code (code_of (boxes_made hs d (d + many)))) ≤ size)
      (here : Here setting inside (d + many) m size k turns body) where
    abbrev next_of : FlatEnvironment → DynamicContext → List Value → FlatState → FlatEvaluated
    next_of env around vs z =
        with_boxes setting.limit hs z (λ ready. in_new_slots hs vs (λ inner. mean (context_at setting k) body env around inner) ready)

    inner_grows : (env : FlatEnvironment) (around : DynamicContext) (vs : List Value) (z : FlatState)
        → FlatGrown z (in_new_slots hs vs (λ inner. mean (context_at setting k) body env around inner) z).state
    inner_grows env around vs z =
        let g = form_grows setting k body env around (with_frame_slots hs vs z) in record { printed = g.printed; units = g.units; exits = g.exits }

    next_grows : (env : FlatEnvironment) (around : DynamicContext) (vs : List Value) (z : FlatState) → FlatGrown z (next_of env around vs z).state
    next_grows env around vs z =
        boxes_grow setting.limit hs z (λ ready. in_new_slots hs vs (λ inner. mean (context_at setting k) body env around inner) ready)
        (λ ready. inner_grows env around vs ready)

    -- the boxes are made from a clean point, and the body is inside
    behind_boxes :
        (p : Point setting s d m size) (vs : List Value) (w' : World) (z' : FlatState) (regs' : Registers) (y' : MidState) → length vs ≡ length hs
        → BoxesMade setting hs vs d p.z.state.variables p.w w' p.z z' p.regs regs' p.y y'
        → EndsAt setting form_credit (start p) (in_new_slots hs vs (λ inner. mean (context_at setting k) body p.env p.around inner) z') (running (body_steps ++ last_steps) regs' y')
    behind_boxes p vs w' z' regs' y' count b =
        let later = b.world.later in
        let r : ReachedFrom setting 0 (start p) d w' (extended b.variables z') regs' y' = record {
          kept = record {
            world = b.world;
            activation =
                activation_later setting {d = d} {y = p.y} later (same_world setting b.world b.back) b.frame
                (λ n cs e. ap (λ l. under n l) b.captured ∙ e) (λ i few. ap word_in (b.below i few)) p.begins.scope p.begins.activation;
            registers = record { count = b.count; same = λ i few free. b.below i few };
          };
          back = b.back;
        } in
        let q : Point setting s d m size = point_after setting s d m size turns p r in
        let same : framed (z'.frame ++ new_slots hs vs (length p.z.state.variables)) (extended b.variables z') ≡ with_frame_slots hs vs z' =
        with_slots_is vs b.variables z' (length p.z.state.variables) (b.are ∙ ap (λ xs. xs ++ new_boxes hs vs) (sym b.same_variables)) (ap length (sym b.same_variables)) in
        behind setting {c1 = 0} {c2 = 6} (start p) d (omega arith) r (omega arith) b.up
        (subst (λ x. EndsAt setting 6 (start q) (without_slots_from (length z'.frame) (mean (context_at setting k) body p.env p.around x)) (running (body_steps ++ last_steps) regs' y'))
        same (body_here q there here vs (length p.z.state.variables) count b.slots))

    behind_values :
        (p : Point setting s d m size) (vs : List Value) (ws : List ℕ) → length vs ≡ length hs → WordsOf p.w.places vs ws → WordsIn d ws p.regs
        → EndsAt setting form_credit (start p) (next_of p.env p.around vs p.z) (running (boxes_made hs d (d + many) ++ (body_steps ++ last_steps)) p.regs p.y)
    behind_values p vs ws count is inside_registers =
        let r = reached_clean setting (start p) in
        let q : Point setting s d m size = point_after setting s d m size turns p r in
        behind setting {c1 = 0} {c2 = form_credit} (start p) d (omega arith) r (omega arith) (omega arith)
        (by q
        (boxes_law setting k turns (m + words_for_handler * length p.around.handlers) hs vs ws d (d + many) q.w q.z q.regs q.y (body_steps ++ last_steps)
        (λ ready. in_new_slots hs vs (λ inner. mean (context_at setting k) body p.env p.around inner) ready) placed q.begins.call.things
        (is_clean setting p.begins.call.things) q.begins.call.room count (of_values_later r.kept.world.later vs ws is) inside_registers (omega arith)
        (subst (λ i. enough_for (of_code (code_of (boxes_made hs d (d + many)))) ≤ i) (sym q.count) fits) (λ ready. inner_grows p.env p.around vs ready)))
      where
        by :
            (q : Point setting s d m size) {r : FlatEvaluated} {o : MidOutcome}
            → BoxesEnd setting hs vs d q.w q.z q.regs q.y (λ ready. in_new_slots hs vs (λ inner. mean (context_at setting k) body q.env q.around inner) ready)
            (λ g x. running (body_steps ++ last_steps) g x) r o
            → EndsAt setting form_credit (start q) r o
        by q {r} {o} (made w' z' regs' y' b same run) =
            subst (λ x. EndsAt setting form_credit (start q) x o) (sym same)
            (subst (λ x. EndsAt setting form_credit (start q) (in_new_slots hs vs (λ inner. mean (context_at setting k) body q.env q.around inner) z') x) (sym run)
            (behind_boxes q vs w' z' regs' y' count b))
        by q (no_words f) = full_there f
        by q (no_space f) = stopped (stopped_less setting (omega arith) f)

    -- **bindings of `let`**
    pub bindings_here : ArgumentsHere setting s d m size k turns (forms_of bs) → Here setting s d m size k turns (let_form bs body)
    unfolding mean lower
    bindings_here values p =
        let units : ℕ = 1 + count_bindings bs in
        let a : Start setting = start_charged setting (start p) units in
        let c : Point setting s d m size = record {
          rs = p.rs;
          valid = p.valid;
          w = p.w;
          env = p.env;
          around = p.around;
          z = charged units p.z;
          regs = p.regs;
          y = p.y;
          begins = a.begins;
          count = p.count;
        } in
        let rest : Steps = boxes_made hs d (d + many) ++ (body_steps ++ last_steps) in
        ends_sparing setting {c1 = form_credit} (start p) units (omega arith) (omega arith)
        (subst (λ r. EndsAt setting form_credit a r (running (lower_bindings setting.names setting.at setting.program s.code d bs ++ rest) p.regs p.y))
        (sym (bindings_mean (context_at setting k) bs [] p.env p.around (charged units p.z) (next_of p.env p.around)))
        (subst (λ ss. EndsAt setting form_credit a (mean_arguments (context_at setting k) (forms_of bs) [] p.env p.around (charged units p.z) (next_of p.env p.around)) (running (ss ++ rest) p.regs p.y))
        (sym (bindings_steps setting s.code d bs))
        (arguments_law setting s d m size k turns form_credit (forms_of bs) c (next_of p.env p.around) rest (omega (arith, there, forms_count bs)) values
        (next_grows p.env p.around)
        (λ vs z regs y x.
        behind_values (point_after setting s d m size turns c x.reached) vs x.words (x.value_count ∙ forms_count bs) x.of_values x.in_registers))))

pub bindings_law : LawOfBindings
bindings_law setting s d m size k turns bs body placed homes there fits values here =
    bindings_here setting placed s d m size k turns bs body homes there fits here values
