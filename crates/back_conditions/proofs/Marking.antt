-- The mark of a condition is set: the words of the instance, and what stands behind.
use Rattle.std.proofs.Common.{◌≡◌, ℕ, suc, ◌+◌, ◌*◌, ◌<◌, ◌≤◌, Bool, true, false, List, ◌∷◌, ◌++◌, length, Option, Some, None, refl, sym, ap, ◌∙◌, subst, arith}
use Rattle.std.specs.Prelude.{slice_get, slice_index_or, nat_le, if◌then◌else◌, ◌%◌, ◌/◌, ◌^◌, ◌≢◌}
use Rattle.std.proofs.Math.ListN.{length-set}
use Rattle.lang_meaning.specs.declared.program.ProgramRows.{ProgramRows}
use Rattle.lang_meaning.specs.BuiltIn.{built_in_precedence, built_in_slots}
use Rattle.lang_meaning.specs.Facts.{begins_with_built_in}
use Rattle.lang_meaning.specs.Classes.{is_condition, fetch, class_of_object, is_below}
use Rattle.lang_meaning.specs.Objects.{Object, cons, string, vector, instance, function, closure, generic_function, class_object, input_stream, output_stream, fresh_symbol, serious_condition_class, built_in_class_class, standard_class_class}
use Rattle.lang_meaning.specs.Signals.{marked, marked_at}
use Rattle.lang_meaning.specs.State.{Limit, words, unlimited, changed}
use Rattle.lang_meaning.specs.State as meaning
use Rattle.lang_meaning.specs.Values.{Value, integer, character, symbol, nil, object}
use Rattle.flat_language.specs.FlatNodes.{tables}
use Rattle.flat_language.specs.FlatState.{FlatState}
use Rattle.mid_code.specs.Arena.{Arena, word_at, with_word}
use Rattle.mid_code.specs.Meaning.{Context, exec}
use Rattle.mid_code.specs.MidCode.{code_of}
use Rattle.mid_code.specs.State.{Registers, MidState, MidOutcome}
use Rattle.back_lowering.specs.ControlWords.{control_address, control_words}
use Rattle.back_lowering.specs.RoutineCodes.{mark_set}
use Rattle.back_lowering.specs.Steps.{Steps}
use Rattle.mid_arena.specs.Places.{end_of, word_of}
use Rattle.mid_arena.specs.Standing.{SlotAt}
use Rattle.mid_arena.specs.Layouts.{InstanceAt}
use Rattle.mid_arena.specs.Growing.{Changes}
use Rattle.mid_arena.proofs.Arguments.{ObjectFound, object_found}
use Rattle.mid_arena.proofs.FixedChanges.{one_word}
use Rattle.mid_arena.proofs.Growing.{changes_part, spot_below}
use Rattle.mid_arena.proofs.Keeping.{words_of_condition}
use Rattle.mid_arena.proofs.Lists.{set_elsewhere}
use Rattle.mid_arena.proofs.Making.{changes_stored}
use Rattle.mid_arena.proofs.Owners.{SetOrNot, at_place, elsewhere, set_or_not}
use Rattle.mid_arena.proofs.Memory.{stored_in_spot, others_in_spot, in_spot_lent}
use Rattle.mid_arena.proofs.Representing.{represents_changed, kept_changed}
use Rattle.mid_arena.proofs.Slots.{instance_low}
use Rattle.mid_arena.proofs.WordFacts.{header_without_kind, four_times_count, sum_fits}
use Rattle.mid_arena.proofs.Running.{and_then, constant_falls, compute_known, load_falls, store_falls, address_above, address_below}
use Rattle.mid_arena.proofs.BuiltInFacts.{no_condition_class}
use Rattle.mid_arena.specs.Answers.{KeepsWords}
use Rattle.back_relation.specs.Setting.{Setting, control_spot}
use Rattle.back_relation.specs.Worlds.{World}
use Rattle.back_relation.specs.Things.{Things, WithinLimit}
use Rattle.back_relation.proofs.Fresh.{fresh_from}
use Rattle.back_relation.proofs.Standing.{StandsBehind}

-- a condition is an instance
pub record ConditionIs (program : ProgramRows) (z : meaning.State) (c : Value) : Type 0 where
  pub class : ℕ
  pub slots : List (Option Value)
  pub mark : Value
  pub stored : fetch z c ≡ Some (instance class slots mark)
  pub below : is_below program class serious_condition_class ≡ true

pub condition_of :
    (program : ProgramRows) (z : meaning.State) (built_in : begins_with_built_in program.classes built_in_precedence built_in_slots ≡ true) (c : Value) → is_condition program z c ≡ true
    → ConditionIs program z c
condition_of program z built_in c h = by c h
  where
    none : (class : ℕ) {A : Type 0} → class < serious_condition_class → is_below program class serious_condition_class ≡ true → A
    none class low e = let other = no_condition_class program built_in class low in absurd (cc (other, e))

    of_object : (i : ℕ) (o : Option Object) → slice_get z.store i ≡ o → is_below program (class_of_object o) serious_condition_class ≡ true → ConditionIs program z (object i)
    of_object i None e h = none 0 (omega arith) h
    of_object i (Some (cons a d)) e h = none _ (omega arith) h
    of_object i (Some (string bytes)) e h = none _ (omega arith) h
    of_object i (Some (vector vs)) e h = none _ (omega arith) h
    of_object i (Some (instance class slots mark)) e h = record { class = class; slots = slots; mark = mark; stored = e; below = h }
    of_object i (Some (function p)) e h = none _ (omega arith) h
    of_object i (Some (closure vs rest body env)) e h = none _ (omega arith) h
    of_object i (Some (generic_function g)) e h = none _ (omega arith) h
    of_object i (Some (class_object c)) e h = of_class (nat_le c 16) h
      where
        of_class : (b : Bool) → is_below program (if b then built_in_class_class else standard_class_class) serious_condition_class ≡ true → ConditionIs program z (object i)
        of_class true h = none _ (omega arith) h
        of_class false h = none _ (omega arith) h
    of_object i (Some input_stream) e h = none _ (omega arith) h
    of_object i (Some output_stream) e h = none _ (omega arith) h
    of_object i (Some (fresh_symbol s)) e h = none _ (omega arith) h

    by : (c : Value) → is_condition program z c ≡ true → ConditionIs program z c
    by (integer n) h = none _ (omega arith) h
    by (character n) h = none _ (omega arith) h
    by (symbol s) h = none _ (omega arith) h
    by nil h = none _ (omega arith) h
    by (object i) h = of_object i (slice_get z.store i) refl h

module _ (setting : Setting) {w : World} {z : FlatState} {y : MidState} (t : Things setting w z y) (c mark : Value) (c_word mark_word : ℕ)
    (condition : ConditionIs (tables setting.program) z.state c) (of_condition : word_of w.places c ≡ Some c_word) (of_mark : word_of w.places mark ≡ Some mark_word) where
  pub it : ObjectFound setting.names (tables setting.program) w.places z.state y t.represents c c_word (instance condition.class condition.slots condition.mark)
  it = object_found setting.names (tables setting.program) w.places z.state y t.represents c c_word (instance condition.class condition.slots condition.mark) of_condition condition.stored

  abbrev pub count : ℕ
  count = length condition.slots

  abbrev pub place : ℕ
  place = it.spot.address + 4 * (2 + count)

  abbrev pub now : Object
  now = instance condition.class condition.slots mark

  abbrev pub z_marked : meaning.State
  z_marked = changed it.number now z.state

  pub marked_is : marked c mark z.state ≡ z_marked
  marked_is = ap (λ o. marked_at c mark o z.state) condition.stored ∙ ap (λ v. marked_at v mark (Some (instance condition.class condition.slots condition.mark)) z.state) it.value

  words_are : it.spot.words ≡ 3 + count
  words_are = it.stands.size.words ∙ words_of_condition (tables setting.program) condition.class count condition.below

  abbrev pub a_marked : Arena
  a_marked = with_word place mark_word y.arena

  aligned : place % 4 ≡ 0
  aligned = let e = it.spot_stands.aligned in omega (arith, e)

  within : place + 4 ≤ end_of it.spot
  within = let e = words_are in omega (arith, e)

  beside : (x : ℕ) → place ≢ x → word_at a_marked x ≡ word_at y.arena x
  beside x other = others_in_spot (2 + count) mark_word x it.spot_stands other

  instance_marked : InstanceAt setting.names (tables setting.program) w.places a_marked it.spot condition.class condition.slots mark
  instance_marked = record {
    size = it.stands.size;
    count = it.stands.count;
    header = beside it.spot.address (λ e. omega arith) ∙ it.stands.header;
    class = record { word = it.stands.class.word; of_value = it.stands.class.of_value; stands = beside (it.spot.address + 4) (λ e. omega arith) ∙ it.stands.class.stands };
    values_there = λ j h. moved j h (slice_index_or condition.slots j None) (it.stands.values_there j h);
    mark = λ e. record {
      word = mark_word;
      of_value = of_mark;
      stands = stored_in_spot (2 + count) mark_word (it.spot.address + 8 + 4 * count) t.represents.arena it.spot_stands (let e = words_are in omega (arith, e)) (omega arith);
    };
  }
    where
      moved : (j : ℕ) → j < count → (o : Option Value) → SlotAt w.places y.arena (it.spot.address + 8 + 4 * j) o → SlotAt w.places a_marked (it.spot.address + 8 + 4 * j) o
      moved j h None at = beside (it.spot.address + 8 + 4 * j) (λ e. omega (arith, e, h)) ∙ at
      moved j h (Some u) at = record { word = at.word; of_value = at.of_value; stands = beside (it.spot.address + 8 + 4 * j) (λ e. omega (arith, e, h)) ∙ at.stands }

  known : condition.class < length (tables setting.program).classes
  known = t.represents.classes.instances it.number condition.class condition.slots condition.mark it.stored

  spot_changes : Changes it.spot y.arena a_marked
  spot_changes =
      let stands = it.spot_stands in
      let high = within in
      changes_part it.spot (one_word place) y.arena a_marked (omega arith) (omega (arith, high))
      (changes_stored place mark_word t.represents.arena aligned (omega (arith, spot_below t.represents.arena stands, high)))

  kept : KeepsWords w.places z.state y.arena a_marked
  kept = kept_changed setting.names (tables setting.program) w.places z.state y t.represents it.number it.spot it.found a_marked spot_changes (instance condition.class condition.slots condition.mark) it.stored (λ p e. cc e)

  -- control words are as they were
  pub control_kept : (x : ℕ) → control_address ≤ x → x < control_address + 4 * (control_words + setting.variable_words) → word_at a_marked x ≡ word_at y.arena x
  control_kept x low high = kept.others 0 (control_spot setting) t.control x low high

  abbrev pub marked_state : ℕ → MidState
  marked_state cost = record y { arena = a_marked; cost = cost }

  -- **all stands with the mark set**
  pub marked_behind : (cost : ℕ) → StandsBehind setting w z y w.places z_marked (marked_state cost)
  marked_behind cost = record {
    represents =
        represents_changed setting.names (tables setting.program) w.places z.state y t.represents it.number it.spot (instance condition.class condition.slots condition.mark) now (marked_state cost) it.stored known known
        it.found spot_changes instance_marked refl refl;
    spots = λ p s e. e;
    kept = record {
      functions = kept.functions;
      others = λ n s e. kept.others (suc n) s e;
      control = λ x low high other. kept.others 0 (control_spot setting) t.control x low high;
      stack = kept.stack;
    };
    within = limit setting.limit t.within_limit;
    variables = refl;
    globals = refl;
    dynamics = refl;
    exits = refl;
    laid_symbols = refl;
    fresh_symbols =
        fresh_from (λ i serial e. no_fresh i serial (set_or_not z.state.store it.number now i (fresh_symbol serial) e)) refl (omega arith)
        t.fresh_symbols;
    functions = λ i p s e f. (no_function i p (set_or_not z.state.store it.number now i (function p) e), f);
    still = λ i p e. set_elsewhere z.state.store it.number i now (λ same. absurd (cc (sym e ∙ ap (slice_get z.state.store) (sym same) ∙ it.stored))) ∙ e;
    generics = λ i g e. no_generic i g (set_or_not z.state.store it.number now i (generic_function g) e);
    size = length-set y.arena.memory (place / 4) (Some mark_word);
    blocks = refl;
  }
    where
      limit : (l : Limit) → WithinLimit l z.state → WithinLimit l z_marked
      limit unlimited h = tt
      limit (words m) h = h

      no_function : (i p : ℕ) → SetOrNot z.state.store it.number now i (function p) → slice_get z.state.store i ≡ Some (function p)
      no_function i p (at_place e same) = absurd (cc same)
      no_function i p (elsewhere other e) = e

      no_generic : (i g : ℕ) → SetOrNot z.state.store it.number now i (generic_function g) → slice_get z.state.store i ≡ Some (generic_function g)
      no_generic i g (at_place e same) = absurd (cc same)
      no_generic i g (elsewhere other e) = e

      no_fresh : (i serial : ℕ) → SetOrNot z.state.store it.number now i (fresh_symbol serial) → slice_get z.state.store i ≡ Some (fresh_symbol serial)
      no_fresh i serial (at_place e same) = absurd (cc same)
      no_fresh i serial (elsewhere other e) = e

  -- the code that sets it
  module _ (cx : Context) (r2 r3 : Option ℕ) (rest : Registers) where
    low : c_word + 4 * count + 8 < 2 ^ 27
    low = instance_low setting.names (tables setting.program) w.places z.state y t.represents c c_word condition.class condition.slots condition.mark it

    pub mark_runs :
        (steps : Steps) {q : MidOutcome}
        → exec cx (code_of steps) (Some c_word ∷ Some mark_word ∷ Some (4 * count + c_word) ∷ Some 2 ∷ rest) (marked_state (y.cost + 58)) ≡ q
        → exec cx (code_of (mark_set setting.at ++ steps)) (Some c_word ∷ Some mark_word ∷ r2 ∷ r3 ∷ rest) y ≡ q
    mark_runs steps {q = q} same =
        let small = low in
        let word = it.word in
        let cost : y.cost + 8 + 6 + 10 + 6 + 10 + 10 + 8 ≡ y.cost + 58 = omega arith in
        (and_then (load_falls refl (address_below c_word 1 it.spot.address it.word (omega (arith, small))) it.stands.header)
        (and_then constant_falls
        (and_then (compute_known refl refl (header_without_kind count))
        (and_then constant_falls
        (and_then (compute_known refl refl (four_times_count count (omega (arith, small))))
        (and_then (compute_known refl refl (sum_fits (4 * count) c_word (omega (arith, small))))
        (and_then
        (store_falls refl refl (address_above (4 * count + c_word) 6 place (omega (arith, word)) (omega (arith, small, word)))
        (in_spot_lent place it.spot_stands aligned (omega arith) (let h = within in omega (arith, h))))
        (record { same = subst (λ n. exec cx (code_of steps) (Some c_word ∷ Some mark_word ∷ Some (4 * count + c_word) ∷ Some 2 ∷ rest) (marked_state n) ≡ q) (sym cost) same })))))))).same
