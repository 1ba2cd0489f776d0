-- What is told of a value, of slots, and of a condition.
use Rattle.std.proofs.Common.{◌≡◌, ℕ, ◌+◌, ◌/◌, ◌<◌, ◌≤◌, List, [], ◌∷◌, ◌++◌, length, drop, Option, Some, None, refl, sym, ap, subst, ◌∙◌, append_assoc, arith}
use Rattle.std.specs.Prelude.{slice_get, slice_index_or, codes}
use Rattle.std.proofs.lemmas.Option.{slice_get-get_or}
use Rattle.std.proofs.lemmas.List.{append-nil, drop_all}
use Rattle.base.specs.model.DataRest.{rest_at}
use Rattle.lang_meaning.specs.declared.program.ClassRow.{ClassRow}
use Rattle.lang_meaning.specs.Values.{Value}
use Rattle.lang_meaning.specs.Primitives.{class_name}
use Rattle.lang_meaning.specs.State as meaning
use Rattle.mid_arena.specs.Tags.{unbound_word}
use Rattle.mid_arena.specs.Places.{word_of}
use Rattle.mid_arena.proofs.ValueWords.{tells_value}
use Rattle.lang_told.specs.Told.{most_parts, which_class, class_at, slots_at, TellsValue, tells_class, tells_datum, tells_other}
use Rattle.lang_told.specs.Told.{TellsSlot, TellsSlots, no_slot, a_slot, behind_colon}
use Rattle.lang_told.specs.Told as told
use Rattle.mid_told.specs.declared.telling.Memory.{Memory}
use Rattle.mid_told.specs.Reading.{read_at, header_in}
use Rattle.mid_told.specs.Stands.{Stands}
use Rattle.mid_told.specs.Classes.{class_in, which_class_in}
use Rattle.mid_told.specs.Slots.{slot_count_of}
use Rattle.mid_told.specs.Writing.{WordWritten, WordUnwritten}
use Rattle.mid_told.specs.StandsFor.{StandsFor, IsTold}
use Rattle.mid_told.specs.Telling.{StandsIn, IsSlotWord, ValueTold, SlotTold, SlotsTold, behind}
use Rattle.mid_told.proofs.ClassesFound.{class_told, which_told}
use Rattle.mid_told.proofs.SlotsFound.{SlotsIn, slots_told}

-- ---- values

-- what a word is, by the words
which_is :
    (from : Memory) (word : ℕ) (which : Option ℕ) → which ≡ which_class_in from.words.now word (header_in from.words.now word)
    → (z : meaning.State) (m : StandsIn from z) (v : Value) → word_of m.places v ≡ Some word → which_class z.store v ≡ which
which_is from word which is z m v e = sym (which_told from.names.now from.classes.now z from.words.now m v word e) ∙ sym is

pub class_value_told :
    (from : Memory) (word class : ℕ) (which : Option ℕ) (before after : List ℕ) → which ≡ which_class_in from.words.now word (header_in from.words.now word)
    → which ≡ Some class → after ≡ before ++ class_name from.names.now (slice_get from.classes.now class) → ValueTold from word before after
class_value_told from word class which before after is some appended = record {
  text = class_name from.names.now (slice_get from.classes.now class);
  appended = appended;
  there = λ z m v e. tells_class v class (which_is from word which is z m v e ∙ some);
}

pub datum_told :
    (from : Memory) (word rest : ℕ) (text before after : List ℕ) → WordWritten from.words.now word most_parts [] text rest → after ≡ before ++ text
    → ValueTold from word before after
datum_told from word rest text before after w appended = record {
  text = w.text;
  appended = appended ∙ ap (λ x. before ++ x) w.appended;
  there = λ z m v e. tells_datum v w.text rest (w.there from.names.now from.classes.now z m v e);
}

pub other_told :
    (from : Memory) (word class : ℕ) (before marked after : List ℕ) → which_class_in from.words.now word (header_in from.words.now word) ≡ None
    → WordUnwritten from.words.now word most_parts → class ≡ class_in from.words.now word → marked ≡ before ++ codes "#"
    → after ≡ marked ++ class_name from.names.now (slice_get from.classes.now class) → ValueTold from word before after
other_told from word class before marked after none w is mark appended = record {
  text = codes "#" ++ class_name from.names.now (slice_get from.classes.now class);
  appended = appended ∙ ap (λ x. x ++ class_name from.names.now (slice_get from.classes.now class)) mark ∙ simp append_assoc;
  there = λ z m v e.
      let same : class_at z.store v ≡ class = sym (is ∙ class_told from.names.now from.classes.now z from.words.now m v word e) in
      let P : ℕ → Type 0 = λ c. TellsValue from.names.now from.classes.now z.store v (codes "#" ++ class_name from.names.now (slice_get from.classes.now c)) in
      subst P same
      (tells_other v (which_is from word None (sym none) z m v e) (w.there from.names.now from.classes.now z m v e));
}

-- ---- slots

pub unbound_told : (from : Memory) (word : ℕ) (before after : List ℕ) → word ≡ unbound_word → after ≡ before ++ codes "#<unbound>" → SlotTold from word before after
unbound_told from word before after is appended = record {
  text = codes "#<unbound>";
  appended = appended;
  there = λ z m slot h. by z m slot h;
}
  where
    by : (z : meaning.State) (m : StandsIn from z) (slot : Option Value) → IsSlotWord m.places slot word
        → TellsSlot from.names.now from.classes.now z.store slot (codes "#<unbound>")
    by z m None h = told.tells_unbound
    by z m (Some v) h =
        let no = tells_value from.names.now m.program m.places z m.machine m.represents v word h in absurd (no.no_unbound is)

pub bound_told : (from : Memory) (word : ℕ) (before after : List ℕ) → (word ≡ unbound_word → ⊥) → ValueTold from word before after → SlotTold from word before after
bound_told from word before after some t = record {
  text = t.text;
  appended = t.appended;
  there = λ z m slot h. by z m slot h;
}
  where
    by : (z : meaning.State) (m : StandsIn from z) (slot : Option Value) → IsSlotWord m.places slot word
        → TellsSlot from.names.now from.classes.now z.store slot t.text
    by z m None h = absurd (some h)
    by z m (Some v) h = told.tells_value v t.text (t.there z m v h)

-- the slots that are told so far
pub record SlotsPassed (from : Memory) (at count : ℕ) (before after : List ℕ) (k : ℕ) : Type 0 where
  pub text : List ℕ
  pub appended : after ≡ before ++ text
  pub there :
      (z : meaning.State) (m : StandsIn from z) (slots : List (Option Value)) → SlotsIn m.places from.words.now at count slots
      → (texts : List ℕ) → TellsSlots from.names.now from.classes.now z.store (drop k slots) texts
      → TellsSlots from.names.now from.classes.now z.store slots (text ++ texts)

pub no_slot_passed : (from : Memory) (at count : ℕ) (before : List ℕ) → SlotsPassed from at count before before 0
no_slot_passed from at count before = record { text = []; appended = sym (append-nil before); there = λ z m slots h texts t. t }

pub slot_passed :
    (from : Memory) (at count : ℕ) (before after : List ℕ) (k : ℕ) → SlotsPassed from at count before after k → k < count
    → (word : ℕ) (with_blank now : List ℕ) → word ≡ read_at from.words.now (at + k) → with_blank ≡ after ++ codes " " → SlotTold from word with_blank now
    → SlotsPassed from at count before now (k + 1)
slot_passed from at count before after k p below word with_blank now read blank t = record {
  text = p.text ++ (codes " " ++ t.text);
  appended = t.appended ∙ ap (λ x. x ++ t.text) (blank ∙ ap (λ x. x ++ codes " ") p.appended) ∙ simp append_assoc;
  there = λ z m slots h texts rest.
      let slot : Option Value = slice_index_or slots k None in
      let low : k < length slots = omega (arith, below, h.count_is) in
      let here : drop k slots ≡ slot ∷ drop (k + 1) slots = rest_at slots k slot (slice_get-get_or slots k None low) in
      let one : TellsSlot from.names.now from.classes.now z.store slot t.text =
      t.there z m slot (subst (λ w. IsSlotWord m.places slot w) (sym read) (h.each k low)) in
      let P : List (Option Value) → Type 0 = λ us. TellsSlots from.names.now from.classes.now z.store us (codes " " ++ (t.text ++ texts)) in
      let both : P (drop k slots) = subst P (sym here) (a_slot slot (drop (k + 1) slots) t.text texts one rest) in
      let regrouped : p.text ++ (codes " " ++ (t.text ++ texts)) ≡ (p.text ++ (codes " " ++ t.text)) ++ texts = simp append_assoc in
      subst (λ x. TellsSlots from.names.now from.classes.now z.store slots x) regrouped (p.there z m slots h (codes " " ++ (t.text ++ texts)) both);
}

pub all_told :
    (from : Memory) (word at count : ℕ) (before after : List ℕ) (k : ℕ) → at ≡ word / 4 + 2 → count ≡ slot_count_of (header_in from.words.now word)
    → SlotsPassed from at count before after k → count ≤ k → SlotsTold from word before after
all_told from word at count before after k place number p all = record {
  text = p.text;
  appended = p.appended;
  there = λ z m v e.
      let slots : List (Option Value) = slots_at z.store v in
      let found : SlotsIn m.places from.words.now (word / 4 + 2) (slot_count_of (header_in from.words.now word)) slots =
      slots_told from.names.now from.classes.now z from.words.now m v word e in
      let P : ℕ → Type 0 = λ n. SlotsIn m.places from.words.now n count slots in
      let Q : ℕ → Type 0 = λ n. SlotsIn m.places from.words.now (word / 4 + 2) n slots in
      let there : SlotsIn m.places from.words.now at count slots = subst P (sym place) (subst Q (sym number) found) in
      let none : drop k slots ≡ [] = drop_all k slots (omega (arith, all, there.count_is)) in
      let R : List (Option Value) → Type 0 = λ us. TellsSlots from.names.now from.classes.now z.store us [] in
      subst (λ x. TellsSlots from.names.now from.classes.now z.store slots x) (append-nil p.text) (p.there z m slots there [] (subst R (sym none) no_slot));
}

-- ---- conditions

behind_is : (names : List (List ℕ)) (classes : List ClassRow) (z : meaning.State) (text : List ℕ) → behind text ≡ behind_colon names classes z.store text
behind_is names classes z [] = refl
behind_is names classes z (b ∷ bs) = refl

-- the words that stand for a value of a state represent the state
stands_in :
    (names : List (List ℕ)) (classes : List ClassRow) (z : meaning.State) (v : Value) (words : List ℕ) (word : ℕ) → StandsFor names classes z v words word
    → Stands names classes z words
stands_in names classes z v words word t = record {
  program = t.program;
  classes_are = t.classes_are;
  places = t.places;
  machine = t.machine;
  represents = t.represents;
  same_words = t.same_words;
}

pub condition_told :
    (from : Memory) (word : ℕ) (text out : List ℕ) → SlotsTold from word [] text → out ≡ behind text → IsTold from.names.now from.classes.now from.words.now word out
unfolding stands_in
condition_told from word text out t is = record {
  there = λ z v s. record {
    text = t.text;
    slots = t.there z (stands_in from.names.now from.classes.now z v from.words.now word s) v s.of_value;
    told_is = is ∙ ap behind t.appended ∙ behind_is from.names.now from.classes.now z t.text;
  };
}
