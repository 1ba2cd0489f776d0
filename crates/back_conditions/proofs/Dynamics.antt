-- **The value of a dynamic variable**: that of its innermost binding, or the outermost one; where it has none, that is signalled.
use Rattle.std.proofs.Common.{◌≡◌, ℕ, ◌+◌, ◌*◌, ◌^◌, ◌<◌, ◌≤◌, Bool, true, false, List, [], ◌∷◌, length, Option, Some, None, refl, sym, ap, ◌∙◌, subst, arith}
use Rattle.std.specs.Prelude.{slice_get, slice_set, if◌then◌else◌}
use Rattle.std.specs.Str.{bytes_eq}
use Rattle.std.proofs.Math.ListN.{length-set}
use Rattle.std.proofs.lemmas.Bool.{ne_eqb}
use Rattle.lang_meaning.specs.Lookup.{text, under_text, value_at, passed}
use Rattle.lang_meaning.specs.Objects.{unbound_variable_class}
use Rattle.lang_meaning.specs.Values.{Value, symbol, named}
use Rattle.flat_language.specs.FlatMeaning.{mean, mean_dynamic}
use Rattle.flat_language.specs.FlatNodes.{tables}
use Rattle.flat_language.specs.FlatSignals.{search, signal, unbound_variable}
use Rattle.flat_language.specs.FlatSignals.{with_some as flat_with_some}
use Rattle.flat_language.specs.FlatState.{FlatState, FlatEvaluated, on_state, charged, gives}
use Rattle.mid_code.specs.declared.operation.Comparison.TheVariants.{Equal}
use Rattle.mid_code.specs.Arena.{word_at}
use Rattle.mid_code.specs.Meaning.{Context, exec, exec_step}
use Rattle.mid_code.specs.MidCode.{no_step, code_of}
use Rattle.mid_code.specs.State.{Registers, register, falls, ends, MidState}
use Rattle.mid_code.specs.State.{charged as mid_charged}
use Rattle.mid_arena.specs.Standing.{ValueAt, SlotAt}
use Rattle.mid_arena.specs.Tags.{unbound_word}
use Rattle.mid_arena.proofs.Lists.{set_elsewhere}
use Rattle.mid_arena.proofs.Registers.{register_here, register_beside}
use Rattle.mid_arena.proofs.Running.{RunsTo, and_then, none_left, costing, constant_falls, load_falls, choose_second_falls, address_above}
use Rattle.mid_arena.proofs.ValueWords.{tells_value}
use Rattle.back_lowering.specs.Codes.{lower}
use Rattle.back_lowering.specs.ControlWords.{site_address}
use Rattle.back_lowering.specs.Leaves.{failing_with}
use Rattle.back_lowering.specs.Placement.{symbol_word, dynamic_address}
use Rattle.back_lowering.specs.Routines.{binding_routine}
use Rattle.back_lowering.specs.Steps.{Steps, constant, load, call, if_equal, test_of}
use Rattle.back_relation.specs.Setting.{Setting}
use Rattle.back_relation.specs.Placed.{IsPlaced, HasSymbol}
use Rattle.back_relation.specs.Worlds.{on_stack}
use Rattle.back_relation.specs.Forms.{FormEnds, context_at, code_at}
use Rattle.back_relation.specs.Room.{routine_words}
use Rattle.back_relation.specs.RoutineClaims.{routine_credit}
use Rattle.back_relation.specs.Starts.{FlatGrown, Start, EndsAt, ReachedFrom}
use Rattle.back_relation.proofs.Choices.{choice, tested}
use Rattle.back_relation.proofs.Growth.{grown_later, same_flat}
use Rattle.back_relation.proofs.Parts.{single_step}
use Rattle.back_relation.proofs.Starts.{start_after, start_charged, ends_charged, behind, ends_sparing}
use Rattle.back_calling.specs.Storing.{stored_at, standing_world}
use Rattle.back_calling.proofs.Growing.{signal_later}
use Rattle.back_calling.proofs.Sited.{failing_law}
use Rattle.back_conditions.specs.Looking.{PlaceOf, binding_under}
use Rattle.back_conditions.specs.Forms.{FailingWithClaims, LawOfDynamics}
use Rattle.back_conditions.proofs.DynamicForms.{from_here}
use Rattle.back_conditions.proofs.Points.{reached_registers, gives_registers, binding_goes}

-- ---- the search of the meaning

charged_both : (m n : ℕ) (z : FlatState) → charged m (charged n z) ≡ charged (n + m) z
charged_both m n z = ap (λ u. on_state (λ x. record x { units = u }) z) (let same : z.state.units + n + m ≡ z.state.units + (n + m) = omega arith in same)

charged_none : (z : FlatState) → charged 0 z ≡ z
charged_none z = ap (λ u. on_state (λ x. record x { units = u }) z) (let same : z.state.units + 0 ≡ z.state.units = omega arith in same)

-- what is done with the binding that is found, or without one
abbrev pub settled : (ℕ → FlatState → FlatEvaluated) → (FlatState → FlatEvaluated) → Option ℕ → FlatState → FlatEvaluated
settled found otherwise None z = otherwise z
settled found otherwise (Some i) z = found i z

pub search_settles :
    (name : List ℕ) (found : ℕ → FlatState → FlatEvaluated) (otherwise : FlatState → FlatEvaluated) (bs : List (List ℕ × ℕ)) (z : FlatState)
    → search (λ (b : List ℕ × ℕ). bytes_eq name b.0) (λ b y. found b.1 y) otherwise bs z
    ≡ settled found otherwise (binding_under name bs) (charged (passed (λ (b : List ℕ × ℕ). bytes_eq name b.0) bs) z)
search_settles name found otherwise [] z = ap otherwise (sym (charged_none z))
search_settles name found otherwise (b ∷ bs) z = by (bytes_eq name b.0) (search_settles name found otherwise bs (charged 1 z))
  where
    by :
        (t : Bool)
        → search (λ (b : List ℕ × ℕ). bytes_eq name b.0) (λ b y. found b.1 y) otherwise bs (charged 1 z)
        ≡ settled found otherwise (binding_under name bs) (charged (passed (λ (b : List ℕ × ℕ). bytes_eq name b.0) bs) (charged 1 z))
        → (if t then found b.1 (charged 1 z) else search (λ (b : List ℕ × ℕ). bytes_eq name b.0) (λ b y. found b.1 y) otherwise bs (charged 1 z))
        ≡ settled found otherwise (if t then Some b.1 else binding_under name bs)
        (charged (if t then 1 else 1 + passed (λ (b : List ℕ × ℕ). bytes_eq name b.0) bs) z)
    by true inner = refl
    by false inner =
        inner ∙ ap (λ y. settled found otherwise (binding_under name bs) y) (charged_both (passed (λ (b : List ℕ × ℕ). bytes_eq name b.0) bs) 1 z)

-- ---- the word is read

-- what it costs to read a word and to test it, and the signal where it says that there is no value
abbrev pub unbound_credit : ℕ
unbound_credit = routine_credit + 114

module _ (setting : Setting) (placed : IsPlaced setting) (k : ℕ) where
  -- where the register of the result has the address of the value
  module _ (a : Start setting) (n address : ℕ) (low : address + 4 ≤ 2 ^ 32) (held : register a.d a.regs ≡ Some address) (fits : a.d + 1 < length a.regs) (room : routine_words ≤ a.n)
      (has : HasSymbol setting n) (claims : FailingWithClaims setting k a.turns) where
    abbrev c : Context
    c = code_at setting k a.turns

    abbrev unbound : FlatEvaluated
    unbound = unbound_variable (signal (context_at setting k)) (text setting.names n) a.around a.z

    abbrev pub read : Steps
    read =
        load a.d a.d 0 ∷ constant (a.d + 1) unbound_word
        ∷ if_equal a.d (a.d + 1) (failing_with setting.at a.s.code.site a.d unbound_variable_class (symbol_word setting.at n)) [] ∷ []

    abbrev loaded : ℕ → Registers
    loaded word = slice_set (slice_set a.regs a.d (Some word)) (a.d + 1) (Some unbound_word)

    loaded_count : (word : ℕ) → length (loaded word) ≡ length a.regs
    loaded_count word = length-set (slice_set a.regs a.d (Some word)) (a.d + 1) (Some unbound_word) ∙ length-set a.regs a.d (Some word)

    loaded_same : (word i : ℕ) → i < a.d → slice_get (loaded word) i ≡ slice_get a.regs i
    loaded_same word i few =
        set_elsewhere (slice_set a.regs a.d (Some word)) (a.d + 1) i (Some unbound_word) (λ e. omega (arith, e, few)) ∙ set_elsewhere a.regs a.d i (Some word) (λ e. omega (arith, e, few))

    loaded_word : (word : ℕ) → register a.d (loaded word) ≡ Some word
    loaded_word word = register_beside (slice_set a.regs a.d (Some word)) (a.d + 1) a.d (Some unbound_word) (λ e. omega (arith, e)) ∙ register_here a.regs a.d word (omega (arith, fits))

    loaded_unbound : (word : ℕ) → register (a.d + 1) (loaded word) ≡ Some unbound_word
    loaded_unbound word = register_here (slice_set a.regs a.d (Some word)) (a.d + 1) unbound_word (omega (arith, fits, length-set a.regs a.d (Some word)))

    -- a value is there
    value_read : (v : Value) → ValueAt a.w.places a.y.arena address v → EndsAt setting unbound_credit a (gives v a.z) (exec c (code_of read) a.regs a.y)
    value_read v at =
        let tells = tells_value setting.names (tables setting.program) a.w.places a.z.state a.y a.begins.call.things.represents v at.word at.of_value in
        let run : RunsTo c (code_of read) a.regs a.y (ends falls (loaded at.word) (mid_charged 28 a.y)) =
        costing {n = a.y.cost + 28}
        (and_then (load_falls held (address_above address 0 address (omega arith) (omega (arith, low))) at.stands)
        (and_then constant_falls
        (and_then (choose_second_falls (loaded_word at.word) (loaded_unbound at.word) (ne_eqb at.word unbound_word tells.no_unbound) none_left) none_left)))
        (omega arith)
        in
        subst (λ q. EndsAt setting unbound_credit a (gives v a.z) q) (sym run.same)
        (gives_registers setting a (loaded at.word) 28 at.word v (loaded_count at.word) (λ i few. loaded_same at.word i few) (omega arith) (loaded_word at.word) at.of_value)

    -- there is none
    abbrev asked : Start setting
    asked =
        start_after setting a a.d a.d a.n (omega arith) (omega arith) (omega arith) a.begins.first
        (reached_registers setting {credit = 14} a (loaded unbound_word) 14 (loaded_count unbound_word) (λ i few. loaded_same unbound_word i few) (omega arith))

    none_read : word_at a.y.arena address ≡ Some unbound_word → EndsAt setting unbound_credit a unbound (exec c (code_of read) a.regs a.y)
    none_read at =
        let run :
        RunsTo c (code_of read) a.regs a.y
        (exec_step c (if_equal a.d (a.d + 1) (failing_with setting.at a.s.code.site a.d unbound_variable_class (symbol_word setting.at n)) []) (loaded unbound_word) (mid_charged 14 a.y)) =
        and_then (load_falls held (address_above address 0 address (omega arith) (omega (arith, low))) at)
        (and_then constant_falls
        (record {
          same =
              single_step c (if_equal a.d (a.d + 1) (failing_with setting.at a.s.code.site a.d unbound_variable_class (symbol_word setting.at n)) []) (loaded unbound_word) _
              ∙ ap (λ m. exec_step c (if_equal a.d (a.d + 1) (failing_with setting.at a.s.code.site a.d unbound_variable_class (symbol_word setting.at n)) []) (loaded unbound_word) (record a.y { cost = m }))
              (let sum : a.y.cost + 8 + 6 ≡ a.y.cost + 14 = omega arith in sum);
        }))
        in
        let grows = signal_later setting k unbound_variable_class (symbol (named (text setting.names n)) ∷ []) a.around a.z in
        subst (λ q. EndsAt setting unbound_credit a unbound q) (sym run.same)
        (behind setting {c1 = 14} {c2 = routine_credit + 100} a a.d (omega arith)
        (reached_registers setting {credit = 14} a (loaded unbound_word) 14 (loaded_count unbound_word) (λ i few. loaded_same unbound_word i few) (omega arith)) (omega arith) (omega arith)
        (choice setting {c1 = routine_credit + 84} {credit = routine_credit + 100} c asked (test_of Equal a.d (a.d + 1)) (code_of (failing_with setting.at a.s.code.site a.d unbound_variable_class (symbol_word setting.at n)))
        no_step unbound_word unbound_word true unbound unbound (loaded_word unbound_word) (loaded_unbound unbound_word) refl (omega arith) grows.later.units grows.later.units
        (λ e.
        (failing_law setting).with_word k routine_credit (tested setting asked) a.d unbound_variable_class (symbol_word setting.at n) (symbol (named (text setting.names n))) (omega arith)
        (omega (arith, fits, loaded_count unbound_word)) (omega (arith, room))
        (λ number paid.
        claims a.rs a.valid (standing_world (tested setting asked).w (tested setting asked).y) a.around a.z (stored_at site_address number paid (tested setting asked).y)
        unbound_variable_class (symbol (named (text setting.names n))) (symbol_word setting.at n)
        (record { low = omega arith; high = omega arith; slots = refl }) (a.begins.call.things.symbols n has)))
        (λ e. absurd (cc e))))

    -- what there is of the outermost value
    outermost_read :
        (o : Option Value) → SlotAt a.w.places a.y.arena address o
        → EndsAt setting unbound_credit a (flat_with_some o (unbound_variable (signal (context_at setting k)) (text setting.names n)) (λ v around z. gives v z) a.around a.z) (exec c (code_of read) a.regs a.y)
    outermost_read None at = none_read at
    outermost_read (Some v) at = value_read v at

-- ---- the form

-- **the value of a dynamic variable**
pub dynamics_law : LawOfDynamics
unfolding mean lower
dynamics_law setting k turns n placed claims rs valid s d m first w env around z regs y stands begins registers words =
    ends_sparing setting {c1 = 150 + unbound_credit} (from_here setting k turns rs valid s d m env around w z regs y begins) 2 (omega arith) (omega arith)
    (ends_charged setting {c1 = 150 + 70 * count + unbound_credit} {c2 = 150 + unbound_credit} a count (omega arith)
    (subst (λ r. EndsAt setting (150 + 70 * count + unbound_credit) b r (exec (code_at setting k turns) (code_of code) regs y)) (sym means)
    (binding_goes setting placed k b n d (150 + 70 * count + unbound_credit) unbound_credit rest stands.placed.0 (omega arith) (omega (arith, fits)) (omega (arith, words)) (subst (λ (r : FlatEvaluated). FlatGrown b.z r.state) means grown)
    (omega arith) (λ address y2 low place x. by (binding_under name around.bindings) address y2 low place x))))
  where
    name : List ℕ
    name = text setting.names n

    count : ℕ
    count = passed (λ (b : List ℕ × ℕ). bytes_eq (text setting.names n) b.0) around.bindings

    a : Start setting
    a = start_charged setting (from_here setting k turns rs valid s d m env around w z regs y begins) 2

    b : Start setting
    b = start_charged setting a count

    found : ℕ → FlatState → FlatEvaluated
    found i x = gives (value_at (Some i) x.state) x

    otherwise : FlatState → FlatEvaluated
    otherwise x =
        flat_with_some (under_text (text setting.names n) x.state.dynamics) (unbound_variable (signal (context_at setting k)) (text setting.names n)) (λ v inner q. gives v q) around x

    rest : Steps
    rest =
        load d d 0 ∷ constant (d + 1) unbound_word
        ∷ if_equal d (d + 1) (failing_with setting.at s.code.site d unbound_variable_class (symbol_word setting.at n)) [] ∷ []

    code : Steps
    code = constant d (dynamic_address setting.at n) ∷ call d (binding_routine setting.at) (d ∷ []) ∷ rest

    fits : d + 1 < length regs
    fits = omega (arith, registers)

    means : mean_dynamic (context_at setting k) name around (charged 2 z) ≡ settled found otherwise (binding_under name around.bindings) (charged count (charged 2 z))
    means = search_settles name found otherwise around.bindings (charged 2 z)

    grown : FlatGrown (charged count (charged 2 z)) (mean_dynamic (context_at setting k) name around (charged 2 z)).state
    grown = subst (λ (r : FlatEvaluated). FlatGrown (charged count (charged 2 z)) r.state) (sym means) (settled_grows (binding_under name around.bindings))
      where
        outermost_grows :
            (o : Option Value) (x : FlatState)
            → FlatGrown x (flat_with_some o (unbound_variable (signal (context_at setting k)) (text setting.names n)) (λ v inner q. gives v q) around x).state
        outermost_grows None x = grown_later (signal_later setting k unbound_variable_class (symbol (named (text setting.names n)) ∷ []) around x)
        outermost_grows (Some v) x = same_flat x

        settled_grows : (o : Option ℕ) → FlatGrown (charged count (charged 2 z)) (settled found otherwise o (charged count (charged 2 z))).state
        settled_grows None = outermost_grows (under_text (text setting.names n) z.state.dynamics) (charged count (charged 2 z))
        settled_grows (Some i) = same_flat (charged count (charged 2 z))

    by :
        (o : Option ℕ) (address : ℕ) (y2 : MidState) → address + 4 ≤ 2 ^ 32 → PlaceOf setting w n address o
        → (x : ReachedFrom setting (150 + 70 * count) b d w b.z (slice_set (slice_set regs d (Some (dynamic_address setting.at n))) d (Some address)) y2)
        → FormEnds setting unbound_credit turns rs valid s d w env around b.z (slice_set (slice_set regs d (Some (dynamic_address setting.at n))) d (Some address)) y2
        (settled found otherwise o b.z) (exec (code_at setting k turns) (code_of rest) (slice_set (slice_set regs d (Some (dynamic_address setting.at n))) d (Some address)) y2)
    by o address y2 low place x = go o place
      where
        set : Registers
        set = slice_set regs d (Some (dynamic_address setting.at n))

        p : Start setting
        p = start_after setting b d d m (omega arith) (omega arith) (omega arith) begins.first x

        held : register d (slice_set set d (Some address)) ≡ Some address
        held = register_here set d address (omega (arith, fits, length-set regs d (Some (dynamic_address setting.at n))))

        fits_there : d + 1 < length (slice_set set d (Some address))
        fits_there = omega (arith, fits, length-set set d (Some address), length-set regs d (Some (dynamic_address setting.at n)))

        go :
            (o : Option ℕ) → PlaceOf setting w n address o
            → EndsAt setting unbound_credit p (settled found otherwise o b.z) (exec (code_at setting k turns) (code_of rest) (slice_set set d (Some address)) y2)
        go (Some i) at = value_read setting placed k p n address low held fits_there (omega (arith, words)) stands.placed.1 claims (value_at (Some i) b.z.state) (p.begins.call.things.boxes i (on_stack address) at)
        go None at =
            outermost_read setting placed k p n address low held fits_there (omega (arith, words)) stands.placed.1 claims (under_text (text setting.names n) z.state.dynamics)
            (subst (λ q. SlotAt w.places y2.arena q (under_text (text setting.names n) z.state.dynamics)) (sym at) (p.begins.call.things.dynamics n stands.placed.0))
