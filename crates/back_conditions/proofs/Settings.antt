-- **Dynamic variables are set**: in their innermost binding, or the outermost value.
use Rattle.std.proofs.Common.{◌≡◌, ℕ, ◌+◌, ◌*◌, ◌^◌, ◌<◌, ◌≤◌, true, List, [], ◌∷◌, length, Option, Some, None, refl, sym, ap, ◌∙◌, subst, arith}
use Rattle.std.specs.Prelude.{slice_get, slice_set}
use Rattle.std.specs.Str.{bytes_eq}
use Rattle.std.proofs.Math.ListN.{length-set}
use Rattle.std.proofs.lemmas.Bool.{ne_eqb}
use Rattle.lang_meaning.specs.Lookup.{text, under_text, passed, set_at, value_at}
use Rattle.lang_meaning.specs.Objects.{unbound_variable_class}
use Rattle.lang_meaning.specs.State.{State, DynamicContext}
use Rattle.lang_meaning.specs.Values.{Value, symbol, named}
use Rattle.flat_language.specs.FlatMeaning.{mean, set_dynamic_to}
use Rattle.flat_language.specs.FlatNodes.{tables}
use Rattle.flat_language.specs.FlatSignals.{signal, unbound_variable}
use Rattle.flat_language.specs.FlatSignals.{with_some as flat_with_some}
use Rattle.flat_language.specs.FlatState.{FlatState, FlatEvaluated, on_state, charged, gives, go_on}
use Rattle.mid_code.specs.declared.operation.Comparison.TheVariants.{Equal}
use Rattle.mid_code.specs.Arena.{begin_of, stack_from, is_lent, word_at, with_word}
use Rattle.mid_code.specs.Meaning.{Context, exec, exec_step}
use Rattle.mid_code.specs.MidCode.{code_of}
use Rattle.mid_code.specs.State.{Registers, register, falls, ends, MidState, with_arena}
use Rattle.mid_code.specs.State.{charged as mid_charged}
use Rattle.mid_arena.specs.Places.{word_of}
use Rattle.mid_arena.specs.Standing.{SlotAt}
use Rattle.mid_arena.specs.Tags.{unbound_word}
use Rattle.mid_arena.proofs.Lists.{set_elsewhere}
use Rattle.mid_arena.proofs.Registers.{register_here, register_beside}
use Rattle.mid_arena.proofs.Running.{RunsTo, and_then, none_left, costing, constant_falls, load_falls, store_falls, choose_second_falls, address_above, in_two_parts}
use Rattle.mid_arena.proofs.ValueWords.{tells_value}
use Rattle.back_lowering.specs.Codes.{lower, set_dynamic_code}
use Rattle.back_lowering.specs.ControlWords.{site_address}
use Rattle.back_lowering.specs.Leaves.{failing_with}
use Rattle.back_lowering.specs.Placement.{symbol_word, dynamic_address}
use Rattle.back_lowering.specs.Steps.{Steps, constant, load, store, if_equal, test_of}
use Rattle.back_relation.specs.Setting.{Setting}
use Rattle.back_relation.specs.Ends.{WorldKept, Around, done}
use Rattle.back_relation.specs.Placed.{IsPlaced, HasDynamic, HasSymbol}
use Rattle.back_relation.specs.Worlds.{on_stack}
use Rattle.back_relation.specs.Forms.{context_at, code_at}
use Rattle.back_relation.specs.Room.{routine_words}
use Rattle.back_relation.specs.RoutineClaims.{routine_credit}
use Rattle.back_relation.specs.Starts.{FlatGrown, Start, EndsAt, ReachedFrom}
use Rattle.back_relation.proofs.Choices.{choice, tested}
use Rattle.back_relation.proofs.Fitting.{registers_front, registers_behind}
use Rattle.back_relation.proofs.FormGrowth.{form_grows}
use Rattle.back_relation.proofs.Growth.{same_prefix, both_flat, grown_later}
use Rattle.back_relation.proofs.Parts.{single_step}
use Rattle.back_relation.proofs.Starts.{start_after, start_charged, ends_charged, behind, two, ends_sparing}
use Rattle.back_calling.specs.Storing.{stored_at, standing_world}
use Rattle.back_calling.proofs.Growing.{signal_later}
use Rattle.back_calling.proofs.Sited.{failing_law}
use Rattle.back_values.specs.Boxes.{Clean}
use Rattle.back_values.proofs.Cleaning.{is_clean, reached_clean, start_clean}
use Rattle.back_conditions.specs.Looking.{PlaceOf, binding_under}
use Rattle.back_conditions.specs.Forms.{FailingWithClaims}
use Rattle.back_conditions.proofs.DynamicForms.{from_here}
use Rattle.back_conditions.proofs.Dynamics.{settled, search_settles, unbound_credit}
use Rattle.back_conditions.proofs.Points.{code_grows, reached_registers, binding_goes, form_spared}
use Rattle.back_conditions.specs.ValueForms.{LawOfSettingDynamics}
use Rattle.back_conditions.proofs.Definitions.{reached_new}
use Rattle.back_conditions.proofs.NewBound.{cell_lent, world_bound, around_bound}
use Rattle.back_conditions.proofs.NewOutermost.{new_outermost}

-- ---- the word is set

module _ (setting : Setting) (placed : IsPlaced setting) (k : ℕ) where
  -- where the register of the result has the value, and the one behind it the address
  module _ (a : Start setting) (n address word : ℕ) (v : Value) (low : address + 4 ≤ 2 ^ 32) (held : register a.d a.regs ≡ Some word) (is : word_of a.w.places v ≡ Some word)
      (held_place : register (a.d + 1) a.regs ≡ Some address) (fits : a.d + 3 < length a.regs) (room : routine_words ≤ a.n) (clean : Clean a.w a.y) (has_place : HasDynamic setting n)
      (has : HasSymbol setting n) (claims : FailingWithClaims setting k a.turns) where
    abbrev c : Context
    c = code_at setting k a.turns

    abbrev unbound : FlatEvaluated
    unbound = unbound_variable (signal (context_at setting k)) (text setting.names n) a.around a.z

    abbrev failing : Steps
    failing = failing_with setting.at a.s.code.site a.d unbound_variable_class (symbol_word setting.at n)

    abbrev storing : Steps
    storing = store a.d (a.d + 1) 0 ∷ []

    abbrev pub read : Steps
    read = load (a.d + 2) (a.d + 1) 0 ∷ constant (a.d + 3) unbound_word ∷ if_equal (a.d + 2) (a.d + 3) failing storing ∷ []

    abbrev loaded : ℕ → Registers
    loaded old = slice_set (slice_set a.regs (a.d + 2) (Some old)) (a.d + 3) (Some unbound_word)

    loaded_count : (old : ℕ) → length (loaded old) ≡ length a.regs
    loaded_count old = length-set (slice_set a.regs (a.d + 2) (Some old)) (a.d + 3) (Some unbound_word) ∙ length-set a.regs (a.d + 2) (Some old)

    loaded_same : (old i : ℕ) → i < a.d → slice_get (loaded old) i ≡ slice_get a.regs i
    loaded_same old i few =
        set_elsewhere (slice_set a.regs (a.d + 2) (Some old)) (a.d + 3) i (Some unbound_word) (λ e. omega (arith, e, few))
        ∙ set_elsewhere a.regs (a.d + 2) i (Some old) (λ e. omega (arith, e, few))

    loaded_beside : (old r x : ℕ) → r < a.d + 2 → register r a.regs ≡ Some x → register r (loaded old) ≡ Some x
    loaded_beside old r x few there =
        register_beside (slice_set a.regs (a.d + 2) (Some old)) (a.d + 3) r (Some unbound_word) (λ e. omega (arith, e, few))
        ∙ register_beside a.regs (a.d + 2) r (Some old) (λ e. omega (arith, e, few)) ∙ there

    loaded_word : (old : ℕ) → register (a.d + 2) (loaded old) ≡ Some old
    loaded_word old =
        register_beside (slice_set a.regs (a.d + 2) (Some old)) (a.d + 3) (a.d + 2) (Some unbound_word) (λ e. omega (arith, e))
        ∙ register_here a.regs (a.d + 2) old (omega (arith, fits))

    loaded_unbound : (old : ℕ) → register (a.d + 3) (loaded old) ≡ Some unbound_word
    loaded_unbound old =
        register_here (slice_set a.regs (a.d + 2) (Some old)) (a.d + 3) unbound_word (omega (arith, fits, length-set a.regs (a.d + 2) (Some old)))

    abbrev after : MidState
    after = with_arena (with_word address word a.y.arena) (mid_charged 36 a.y)

    -- a value is there, and another one comes
    stored : (old : ℕ) → word_at a.y.arena address ≡ Some old → (old ≡ unbound_word → ⊥) → is_lent a.y.arena address ≡ true → RunsTo c (code_of read) a.regs a.y (ends falls (loaded old) after)
    stored old at other lent =
        costing {n = a.y.cost + 36}
        (and_then (load_falls held_place (address_above address 0 address (omega arith) (omega (arith, low))) at)
        (and_then constant_falls
        (and_then
        (choose_second_falls (loaded_word old) (loaded_unbound old) (ne_eqb old unbound_word other)
        (and_then
        (store_falls (loaded_beside old a.d word (omega arith) held) (loaded_beside old (a.d + 1) address (omega arith) held_place)
        (address_above address 0 address (omega arith) (omega (arith, low))) lent) none_left)) none_left)))
        (omega arith)

    -- and that is what is meant
    gives_new :
        (z : State → State) {y : MidState} (old : ℕ) → WorldKept setting a.w a.w a.z (on_state z a.z) a.y y → Around setting unbound_credit a.z (on_state z a.z) a.y y
        → EndsAt setting unbound_credit a (gives v (on_state z a.z)) (ends falls (loaded old) y)
    gives_new z old world back = done (record {
      result = v;
      outcome = refl;
      end = refl;
      w' = a.w;
      reached = reached_new setting {credit = unbound_credit} a z (loaded old) world back (loaded_count old) (λ i few. loaded_same old i few);
      word = word;
      in_register = loaded_beside old a.d word (omega arith) held;
      of_value = is;
    })

    no_unbound : (u : Value) (old : ℕ) → word_of a.w.places u ≡ Some old → old ≡ unbound_word → ⊥
    no_unbound u old e =
        let tells = tells_value setting.names (tables setting.program) a.w.places a.z.state a.y a.begins.call.things.represents u old e in
        tells.no_unbound

    pub bound_stored :
        (i : ℕ) → slice_get a.w.boxes i ≡ Some (on_stack address)
        → EndsAt setting unbound_credit a (gives v (on_state (λ s. set_at (Some i) v s) a.z)) (exec c (code_of read) a.regs a.y)
    bound_stored i box =
        let old = a.begins.call.things.boxes i (on_stack address) box in
        let run = stored old.word old.stands (no_unbound (value_at (Some i) a.z.state) old.word old.of_value) (cell_lent setting placed a.begins.call.things clean i address box v word 36 is) in
        subst (λ q. EndsAt setting unbound_credit a (gives v (on_state (λ s. set_at (Some i) v s) a.z)) q) (sym run.same)
        (gives_new (λ s. set_at (Some i) v s) old.word (world_bound setting placed a.begins.call.things clean i address box v word 36 is)
        (around_bound setting placed a.begins.call.things clean i address box v word 36 is {credit = unbound_credit} (omega arith)))

    abbrev given : FlatState → FlatState
    given z = on_state (λ (y : State). record y { dynamics = (text setting.names n, v) ∷ y.dynamics }) z

    -- there is none
    abbrev asked : Start setting
    asked =
        start_after setting a a.d a.d a.n (omega arith) (omega arith) (omega arith) a.begins.first
        (reached_registers setting {credit = 14} a (loaded unbound_word) 14 (loaded_count unbound_word) (λ i few. loaded_same unbound_word i few) (omega arith))

    none_stored : word_at a.y.arena address ≡ Some unbound_word → EndsAt setting unbound_credit a unbound (exec c (code_of read) a.regs a.y)
    none_stored at =
        let run : RunsTo c (code_of read) a.regs a.y (exec_step c (if_equal (a.d + 2) (a.d + 3) failing storing) (loaded unbound_word) (mid_charged 14 a.y)) =
        and_then (load_falls held_place (address_above address 0 address (omega arith) (omega (arith, low))) at)
        (and_then constant_falls
        (record {
          same =
              single_step c (if_equal (a.d + 2) (a.d + 3) failing storing) (loaded unbound_word) _
              ∙ ap (λ m. exec_step c (if_equal (a.d + 2) (a.d + 3) failing storing) (loaded unbound_word) (record a.y { cost = m }))
              (let sum : a.y.cost + 8 + 6 ≡ a.y.cost + 14 = omega arith in sum);
        }))
        in
        let grows = signal_later setting k unbound_variable_class (symbol (named (text setting.names n)) ∷ []) a.around a.z in
        subst (λ q. EndsAt setting unbound_credit a unbound q) (sym run.same)
        (behind setting {c1 = 14} {c2 = routine_credit + 100} a a.d (omega arith)
        (reached_registers setting {credit = 14} a (loaded unbound_word) 14 (loaded_count unbound_word) (λ i few. loaded_same unbound_word i few) (omega arith)) (omega arith) (omega arith)
        (choice setting {c1 = routine_credit + 84} {credit = routine_credit + 100} c asked (test_of Equal (a.d + 2) (a.d + 3)) (code_of failing) (code_of storing) unbound_word unbound_word true unbound unbound
        (loaded_word unbound_word) (loaded_unbound unbound_word) refl (omega arith) grows.later.units grows.later.units
        (λ e.
        (failing_law setting).with_word k routine_credit (tested setting asked) a.d unbound_variable_class (symbol_word setting.at n) (symbol (named (text setting.names n))) (omega arith)
        (omega (arith, fits, loaded_count unbound_word)) (omega (arith, room))
        (λ number paid.
        claims a.rs a.valid (standing_world (tested setting asked).w (tested setting asked).y) a.around a.z (stored_at site_address number paid (tested setting asked).y)
        unbound_variable_class (symbol (named (text setting.names n))) (symbol_word setting.at n)
        (record { low = omega arith; high = omega arith; slots = refl }) (a.begins.call.things.symbols n has)))
        (λ e. absurd (cc e))))

    pub outermost_stored :
        (o : Option Value) → SlotAt a.w.places a.y.arena address o → address ≡ dynamic_address setting.at n
        → EndsAt setting unbound_credit a (flat_with_some o (unbound_variable (signal (context_at setting k)) (text setting.names n)) (λ old inner x. gives v (given x)) a.around a.z)
        (exec c (code_of read) a.regs a.y)
    outermost_stored None at same = none_stored at
    outermost_stored (Some u) at same =
        let new = new_outermost setting placed a.begins.call.things clean n has_place v word 36 is in
        let lent : is_lent a.y.arena address ≡ true = subst (λ q. is_lent a.y.arena q ≡ true) (sym same) new.lent in
        let run = stored at.word at.stands (no_unbound u at.word at.of_value) lent in
        subst (λ q. EndsAt setting unbound_credit a (gives v (given a.z)) q) (sym run.same)
        (subst (λ q. EndsAt setting unbound_credit a (gives v (given a.z)) (ends falls (loaded at.word) (with_arena (with_word q word a.y.arena) (mid_charged 36 a.y)))) (sym same)
        (gives_new (λ (y : State). record y { dynamics = (text setting.names n, v) ∷ y.dynamics }) at.word new.world (new.around unbound_credit (omega arith))))

-- ---- the place is sought

-- what it costs to seek the place, beside what is paid for each binding that is passed, and to set the value
abbrev set_credit : ℕ
set_credit = 150 + unbound_credit

module _ (setting : Setting) (placed : IsPlaced setting) (k n : ℕ) (has_place : HasDynamic setting n) (has : HasSymbol setting n) where
  abbrev name : List ℕ
  name = text setting.names n

  module _ (v : Value) (around : DynamicContext) where
    abbrev found : ℕ → FlatState → FlatEvaluated
    found i x = gives v (on_state (λ s. set_at (Some i) v s) x)

    abbrev otherwise : FlatState → FlatEvaluated
    otherwise x =
        flat_with_some (under_text name x.state.dynamics) (unbound_variable (signal (context_at setting k)) name)
        (λ old inner q. gives v (on_state (λ (y : State). record y { dynamics = (name, v) ∷ y.dynamics }) q)) around x

    abbrev count : ℕ
    count = passed (λ (b : List ℕ × ℕ). bytes_eq name b.0) around.bindings

    means : (z : FlatState) → set_dynamic_to (context_at setting k) name v around z ≡ settled found otherwise (binding_under name around.bindings) (charged count z)
    means z = search_settles name found otherwise around.bindings z

    settled_grows : (o : Option ℕ) (z : FlatState) → FlatGrown z (settled found otherwise o z).state
    settled_grows None z = by (under_text name z.state.dynamics)
      where
        by :
            (o : Option Value)
            → FlatGrown z
            (flat_with_some o (unbound_variable (signal (context_at setting k)) name)
            (λ old inner q. gives v (on_state (λ (y : State). record y { dynamics = (name, v) ∷ y.dynamics }) q)) around z).state
        by None = grown_later (signal_later setting k unbound_variable_class (symbol (named name) ∷ []) around z)
        by (Some u) = record { printed = same_prefix z.state.printed; units = omega arith; exits = omega arith }
    settled_grows (Some i) z = record { printed = same_prefix z.state.printed; units = omega arith; exits = omega arith }

    pub set_grows : (z : FlatState) → FlatGrown z (set_dynamic_to (context_at setting k) name v around z).state
    set_grows z =
        subst (λ (r : FlatEvaluated). FlatGrown z r.state) (sym (means z))
        (both_flat (record { printed = same_prefix z.state.printed; units = omega arith; exits = omega arith }) (settled_grows (binding_under name around.bindings) (charged count z)))

  module _ (a : Start setting) (claims : FailingWithClaims setting k a.turns) (room : routine_words ≤ a.n) (clean : Clean a.w a.y) (v : Value) (word : ℕ) (fits : a.d + 3 < length a.regs)
      (held : register a.d a.regs ≡ Some word) (is : word_of a.w.places v ≡ Some word) where
    abbrev b : Start setting
    b = start_charged setting a (count v a.around)

    abbrev rest : Steps
    rest =
        load (a.d + 2) (a.d + 1) 0 ∷ constant (a.d + 3) unbound_word
        ∷ if_equal (a.d + 2) (a.d + 3) (failing_with setting.at a.s.code.site a.d unbound_variable_class (symbol_word setting.at n)) (store a.d (a.d + 1) 0 ∷ []) ∷ []

    abbrev with_place : ℕ → Registers
    with_place address = slice_set (slice_set a.regs (a.d + 1) (Some (dynamic_address setting.at n))) (a.d + 1) (Some address)

    abbrev set_first : Registers
    set_first = slice_set a.regs (a.d + 1) (Some (dynamic_address setting.at n))

    module _ (address : ℕ) (y2 : MidState) (low : address + 4 ≤ 2 ^ 32)
        (x : ReachedFrom setting (150 + 70 * count v a.around) b (a.d + 1) a.w b.z (with_place address) y2) where
      abbrev p : Start setting
      p = start_after setting b (a.d + 1) a.d a.n (omega arith) (omega arith) (omega arith) a.begins.first x

      size : length (with_place address) ≡ length a.regs
      size = length-set set_first (a.d + 1) (Some address) ∙ length-set a.regs (a.d + 1) (Some (dynamic_address setting.at n))

      p_held : register a.d (with_place address) ≡ Some word
      p_held =
          register_beside set_first (a.d + 1) a.d (Some address) (λ e. omega (arith, e))
          ∙ register_beside a.regs (a.d + 1) a.d (Some (dynamic_address setting.at n)) (λ e. omega (arith, e)) ∙ held

      p_place : register (a.d + 1) (with_place address) ≡ Some address
      p_place = register_here set_first (a.d + 1) address (omega (arith, fits, length-set a.regs (a.d + 1) (Some (dynamic_address setting.at n))))

      p_clean : Clean a.w y2
      p_clean i q e =
          let blocks : stack_from y2.arena ≡ stack_from a.y.arena =
          ap (λ m. begin_of m y2.arena.blocks) x.kept.world.same_size ∙ ap (λ bs. begin_of (length a.y.arena.memory) bs) x.back.blocks
          in
          let from = clean i q e in
          omega (arith, blocks, from)

      p_goes :
          (o : Option ℕ) → PlaceOf setting a.w n address o
          → EndsAt setting unbound_credit p (settled (found v a.around) (otherwise v a.around) o b.z) (exec (code_at setting k a.turns) (code_of rest) (with_place address) y2)
      p_goes (Some i) at =
          bound_stored setting placed k p n address word v low p_held is p_place (omega (arith, fits, size)) room p_clean has_place has claims i at
      p_goes None at =
          outermost_stored setting placed k p n address word v low p_held is p_place (omega (arith, fits, size)) room p_clean has_place has claims
          (under_text name a.z.state.dynamics)
          (subst (λ q. SlotAt a.w.places y2.arena q (under_text name a.z.state.dynamics)) (sym at) (p.begins.call.things.dynamics n has_place)) at

    clean_set :
        EndsAt setting set_credit a (set_dynamic_to (context_at setting k) name v a.around a.z)
        (exec (code_at setting k a.turns) (code_of (set_dynamic_code setting.names setting.at setting.program a.s.code.site a.d n)) a.regs a.y)
    clean_set =
        subst (λ r. EndsAt setting set_credit a r (exec (code_at setting k a.turns) (code_of (set_dynamic_code setting.names setting.at setting.program a.s.code.site a.d n)) a.regs a.y))
        (sym (means v a.around a.z))
        (ends_charged setting {c1 = 150 + 70 * count v a.around + unbound_credit} {c2 = set_credit} a (count v a.around) (omega arith)
        (binding_goes setting placed k b n (a.d + 1) (150 + 70 * count v a.around + unbound_credit) unbound_credit rest {r = settled (found v a.around) (otherwise v a.around) (binding_under name a.around.bindings) b.z}
        has_place (omega arith) (omega (arith, fits)) (omega (arith, room)) (settled_grows v a.around (binding_under name a.around.bindings) b.z) (omega arith)
        (λ address y2 low place x. p_goes address y2 low x (binding_under name a.around.bindings) place)))

  pub set :
      (a : Start setting) → FailingWithClaims setting k a.turns → routine_words ≤ a.n → (v : Value) (word : ℕ) → a.d + 3 < length a.regs → register a.d a.regs ≡ Some word
      → word_of a.w.places v ≡ Some word
      → EndsAt setting set_credit a (set_dynamic_to (context_at setting k) name v a.around a.z)
      (exec (code_at setting k a.turns) (code_of (set_dynamic_code setting.names setting.at setting.program a.s.code.site a.d n)) a.regs a.y)
  set a claims room v word fits held is =
      behind setting {c1 = 0} {c2 = set_credit} a a.d (omega arith) (reached_clean setting a) (omega arith) (omega arith)
      (clean_set (start_clean setting a) claims room (is_clean setting a.begins.call.things) v word fits held is)

-- ---- the form

pub settings_law : LawOfSettingDynamics
unfolding mean lower
settings_law setting k turns n f placed claims f_does rs valid s d m first w env around z regs y stands begins registers words =
    ends_sparing setting {c1 = set_credit} (from_here setting k turns rs valid s d m env around w z regs y begins) 2 (omega arith) (omega arith)
    (subst (λ q. EndsAt setting set_credit a (go_on (mean (context_at setting k) f env around (charged 2 z)) (λ v after. set_dynamic_to (context_at setting k) (text setting.names n) v around after)) q)
    (sym (in_two_parts (code_at setting k turns) value code regs y))
    (two setting {c1 = 0} {c2 = set_credit} a d (λ v after. set_dynamic_to (context_at setting k) (text setting.names n) v around after) (λ r v. exec (code_at setting k turns) (code_of code) r v) (omega arith) (omega arith)
    (form_grows setting k f env around (charged 2 z)).units
    (form_spared setting turns a.begins
    (f_does rs valid s d m first w env around (charged 2 z) regs y
    (record { stands = stands.stands; fits = stands.fits; leads = stands.leads; placed = stands.placed.2; forms_known = stands.forms_known }) a.begins (registers_front value code (length regs) registers) (omega (arith, words))))
    (λ v x. set_grows setting placed k n stands.placed.0 stands.placed.1 v around x) (λ r v. code_grows setting k turns (code_of code) r v)
    (λ x.
    let size = x.reached.kept.registers.count in
    set setting placed k n stands.placed.0 stands.placed.1 (start_after setting a d d m (omega arith) (omega arith) (omega arith) begins.first x.reached) claims (omega (arith, words)) x.result x.word
    (omega (arith, fits, size)) x.in_register x.of_value)))
  where
    a : Start setting
    a = start_charged setting (from_here setting k turns rs valid s d m env around w z regs y begins) 2

    value : Steps
    value = (lower setting.names setting.at setting.program s.code d f).value

    code : Steps
    code = set_dynamic_code setting.names setting.at setting.program s.code.site d n

    fits : d + 3 < length regs
    fits = let h = registers_behind value code (length regs) registers in omega (arith, h)
