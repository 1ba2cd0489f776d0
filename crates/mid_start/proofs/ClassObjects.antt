-- The words of streams and classes.
use Rattle.std.proofs.Common.{◌≡◌, ℕ, zero, suc, ◌+◌, ◌*◌, ◌%◌, ◌<◌, Bool, true, false, List, [], ◌∷◌, ◌++◌, length, Some, refl, sym, ◌∙◌, ap, subst, append_assoc, length-append, lit<, lit≤, arith}
use Rattle.std.specs.Prelude.{slice_get, slice_index_or, option_map}
use Rattle.std.proofs.lemmas.List.{length-map}
use Rattle.std.proofs.lemmas.Option.{slice_get_within, slice_get-get_or, slice_get-map}
use Rattle.base.specs.Names.{slice_get-front}
use Rattle.lang_meaning.specs.declared.program.ProgramRows.{ProgramRows}
use Rattle.lang_meaning.specs.declared.program.ClassRow.{ClassRow}
use Rattle.lang_meaning.specs.declared.program.SlotRow.{SlotRow}
use Rattle.lang_meaning.specs.Values.{Value, t, truth, symbol, named}
use Rattle.lang_meaning.specs.Objects.{Object, input_stream, output_stream, serious_condition_class}
use Rattle.lang_meaning.specs.Lookup.{text, is_in}
use Rattle.lang_meaning.specs.Classes.{precedence, precedence_of, slots, slots_of, is_below}
use Rattle.lang_meaning.specs.Primitives.{class_name}
use Rattle.lang_meaning.specs.Primitives as primitives
use Rattle.mid_code.specs.Arena.{word_at}
use Rattle.mid_arena.specs.Tags.{object_tag, class_header, input_header, output_header}
use Rattle.mid_arena.specs.Places.{Spot, Places, word_of}
use Rattle.mid_arena.specs.Standing.{ValueAt}
use Rattle.mid_arena.specs.Layouts.{ClassAt, SlotRowAt, ObjectAt}
use Rattle.mid_arena.proofs.Arguments.{item_there}
use Rattle.mid_start.specs.declared.words.ArenaWords.{ArenaWords}
use Rattle.mid_start.specs.LaidArena.{end_address, arena_of}
use Rattle.mid_start.proofs.Lists.{item_behind}
use Rattle.mid_start.proofs.LaidWords.{Appended}
use Rattle.mid_start.proofs.Made.{spot_behind}
use Rattle.mid_start.specs.declared.slots.SlotWords.{SlotWords}
use Rattle.mid_start.specs.Settling.{is_condition, can_be_made, truth_word, slot_words, precedence_words, class_heading, class_words, SlotStands, Settles, ClassGiven}
use Rattle.mid_start.proofs.FunctionObjects.{first_behind, later_behind}
use Rattle.mid_start.proofs.Numbered.{IsNoFunction}
use Rattle.mid_start.proofs.Settle.{settled}

-- ---- streams

stream_settles :
    (names : List (List ℕ)) (program : ProgramRows) (o : Object) (header : ℕ) (before after : ArenaWords) (w : ℕ) → Appended before after (header ∷ [])
    → ((places : Places) (s : Spot) → s.words ≡ 1 → s.tag ≡ object_tag → word_at (arena_of after) s.address ≡ Some header → ObjectAt names program places (arena_of after) s o)
    → IsNoFunction o → w ≡ end_address before + 2 → Settles names program o (λ places. Unit {0}) before after w
stream_settles names program o header before after w more made no_function word = record {
  there = λ places store i h stored none given.
      settled names program places store before after i o (header ∷ []) object_tag h stored none more (lit≤ tt) (lit< tt) w
      (made _ _ refl refl (first_behind before after (header ∷ []) h.aligned more header refl)) no_function word;
}

pub input_settles :
    (names : List (List ℕ)) (program : ProgramRows) (before after : ArenaWords) (w : ℕ) → Appended before after (input_header ∷ []) → w ≡ end_address before + 2
    → Settles names program input_stream (λ places. Unit {0}) before after w
input_settles names program before after w more word =
    stream_settles names program input_stream input_header before after w more (λ places s n k e. record { size = record { words = n; tag = k }; header = e }) tt word

pub output_settles :
    (names : List (List ℕ)) (program : ProgramRows) (before after : ArenaWords) (w : ℕ) → Appended before after (output_header ∷ []) → w ≡ end_address before + 2
    → Settles names program output_stream (λ places. Unit {0}) before after w
output_settles names program before after w more word =
    stream_settles names program output_stream output_header before after w more (λ places s n k e. record { size = record { words = n; tag = k }; header = e }) tt word

-- ---- classes

-- the word of a truth value
pub truth_found : (places : Places) (truth_of_t : ℕ) (b : Bool) → word_of places t ≡ Some truth_of_t → word_of places (truth b) ≡ Some (truth_word truth_of_t b)
truth_found places w true e = e
truth_found places w false e = refl

-- the words of slots
pub slots_length : (ss : List SlotWords) → length (slot_words ss) ≡ 3 * length ss
slots_length [] = refl
slots_length (s ∷ ss) = let others : length (slot_words ss) ≡ 3 * length ss = slots_length ss in omega (arith, others)

record SlotThere (ss : List SlotWords) (i : ℕ) (s : SlotWords) : Type 0 where
  name : slice_get (slot_words ss) (3 * i) ≡ Some s.name
  initargs : slice_get (slot_words ss) (3 * i + 1) ≡ Some s.initargs
  initform : slice_get (slot_words ss) (3 * i + 2) ≡ Some s.initform

slot_there : (ss : List SlotWords) (i : ℕ) (s : SlotWords) → slice_get ss i ≡ Some s → SlotThere ss i s
slot_there [] i s e = absurd (cc)
slot_there (r ∷ ss) zero s e =
    let same : r ≡ s = cc in
    record { name = ap (λ x. Some x.name) same; initargs = ap (λ x. Some x.initargs) same; initform = ap (λ x. Some x.initform) same }
slot_there (r ∷ ss) (suc i) s e =
    let others = slot_there ss i s e in
    let first : 3 * suc i ≡ suc (suc (suc (3 * i))) = omega arith in
    let second : 3 * suc i + 1 ≡ suc (suc (suc (3 * i + 1))) = omega arith in
    let third : 3 * suc i + 2 ≡ suc (suc (suc (3 * i + 2))) = omega arith in
    record {
      name = ap (slice_get (slot_words (r ∷ ss))) first ∙ others.name;
      initargs = ap (slice_get (slot_words (r ∷ ss))) second ∙ others.initargs;
      initform = ap (slice_get (slot_words (r ∷ ss))) third ∙ others.initform;
    }

module _
    (names : List (List ℕ)) (program : ProgramRows) (class : ℕ) (row : ClassRow) (name truth_of_t : ℕ) (ss : List SlotWords) (before after : ArenaWords) (places : Places)
    (here : slice_get program.classes class ≡ Some row) (aligned : before.first % 4 ≡ 0) (more : Appended before after (class_words class name truth_of_t row ss))
    (given : ClassGiven names program class row truth_of_t ss places) (name_word : word_of places (symbol (named (text names row.name.0))) ≡ Some name)
  where
    abbrev words : List ℕ
    words = class_words class name truth_of_t row ss

    abbrev base : ℕ
    base = end_address before

    above_same : precedence program class ≡ row.precedence
    above_same = ap precedence_of here

    slots_same : slots program class ≡ row.slots
    slots_same = ap slots_of here

    pub words_length : length words ≡ 7 + length row.precedence + 3 * length row.slots
    words_length =
        let heading = class_heading class name truth_of_t row in
        omega (
          arith,
          length-append (heading ++ precedence_words row.precedence) (slot_words ss),
          length-append heading (precedence_words row.precedence),
          length-map row.precedence (λ c. 4 * c),
          slots_length ss,
          given.slots_stand.count,
        )

    value_at : (address i w : ℕ) (v : Value) → address ≡ base + 4 * i → slice_get words i ≡ Some w → word_of places v ≡ Some w → ValueAt places (arena_of after) address v
    value_at address i w v same e of = record { word = w; of_value = of; stands = later_behind before after words aligned more address i w same e }

    -- behind the heading stand the numbers of classes, and behind these the words of slots
    above_there : (i : ℕ) → i < length row.precedence → slice_get words (7 + i) ≡ Some (4 * slice_index_or row.precedence i 0)
    above_there i low =
        let heading = class_heading class name truth_of_t row in
        let numbers = precedence_words row.precedence in
        let number : slice_get numbers i ≡ Some (4 * slice_index_or row.precedence i 0) =
        slice_get-map (λ c. 4 * c) row.precedence i ∙ ap (λ o. option_map (λ c. 4 * c) o) (slice_get-get_or row.precedence i 0 low) in
        ap (λ ws. slice_get ws (7 + i)) (append_assoc heading numbers (slot_words ss)) ∙ item_behind heading (numbers ++ slot_words ss) i
        ∙ slice_get-front numbers (slot_words ss) i _ number

    slot_behind : (j w : ℕ) → slice_get (slot_words ss) j ≡ Some w → slice_get words (7 + length row.precedence + j) ≡ Some w
    slot_behind j w e =
        let heading = class_heading class name truth_of_t row in
        let front = heading ++ precedence_words row.precedence in
        let count : length front ≡ 7 + length row.precedence = omega (arith, length-append heading (precedence_words row.precedence), length-map row.precedence (λ c. 4 * c)) in
        ap (λ n. slice_get words (n + j)) (sym count) ∙ item_behind front (slot_words ss) j ∙ e

    slot_at : (i : ℕ) (r : SlotRow) → slice_get row.slots i ≡ Some r → SlotRowAt names program places (arena_of after) (base + 28 + 4 * length row.precedence + 12 * i) class i r
    slot_at i r e =
        let inside = slice_get_within row.slots i r e in
        let found = item_there ss i (omega (arith, given.slots_stand.count, inside)) in
        let s : SlotWords = found.0 in
        let stand : SlotStands names program places class i r s = given.slots_stand.each i r s e found.1 in
        let there = slot_there ss i s found.1 in
        record {
          name = value_at _ (7 + length row.precedence + 3 * i) s.name _ (omega arith) (slot_behind (3 * i) s.name there.name) stand.name;
          initargs = value_at _ (7 + length row.precedence + (3 * i + 1)) s.initargs _ (omega arith) (slot_behind (3 * i + 1) s.initargs there.initargs) stand.initargs;
          initform = value_at _ (7 + length row.precedence + (3 * i + 2)) s.initform _ (omega arith) (slot_behind (3 * i + 2) s.initform there.initform) stand.initform;
        }

    pub class_at : ClassAt names program places (arena_of after) (spot_behind before (length words) object_tag) class
    class_at = record {
      size = record { words = rw (above_same, slots_same) words_length; tag = refl };
      header = first_behind before after words aligned more class_header refl;
      number = later_behind before after words aligned more (base + 4) 1 (4 * class) refl refl;
      name = value_at (base + 8) 2 name _ refl refl (rw here name_word);
      made = value_at (base + 12) 3 (truth_word truth_of_t (can_be_made class row)) _ refl refl
          (ap (λ b. word_of places (truth b)) made_same ∙ truth_found places truth_of_t (can_be_made class row) given.truth_stands);
      condition = value_at (base + 16) 4 (truth_word truth_of_t (is_condition row)) _ refl refl
          (ap (λ b. word_of places (truth b)) condition_same ∙ truth_found places truth_of_t (is_condition row) given.truth_stands);
      above = later_behind before after words aligned more (base + 20) 5 _ refl (rw above_same refl);
      count = later_behind before after words aligned more (base + 24) 6 _ refl (rw slots_same refl);
      classes = λ i low.
          let inside : i < length row.precedence = subst (λ cs. i < length cs) above_same low in
          later_behind before after words aligned more (base + 28 + 4 * i) (7 + i) _ (omega arith)
          (above_there i inside ∙ ap (λ cs. Some (4 * slice_index_or cs i 0)) (sym above_same));
      rows = λ i r e.
          let there : slice_get row.slots i ≡ Some r = ap (λ xs. slice_get xs i) (sym slots_same) ∙ e in
          rw above_same (slot_at i r there);
    }
      where
        condition_same : is_below program class serious_condition_class ≡ is_condition row
        condition_same = ap (λ cs. is_in serious_condition_class cs) above_same

        made_same : primitives.can_be_made program class ≡ can_be_made class row
        made_same = rw here refl
