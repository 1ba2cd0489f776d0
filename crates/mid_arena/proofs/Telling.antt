-- What tests of a word's tag and of the header behind it find out of the value, one case for each way that the tests go.
use Rattle.std.proofs.Common.{◌≡◌, ℕ, ◌+◌, ◌-◌, ◌*◌, ◌%◌, ◌^◌, ◌<◌, ◌≤◌, ℤ, Bool, true, false, List, length, Option, Some, None, refl, sym, ap, ◌∙◌, arith}
use Rattle.std.specs.Prelude.{◌==◌, ◌||◌, not, is_some, slice_get}
use Rattle.std.proofs.lemmas.Bool.Decides.{nat_tests}
use Rattle.lang_meaning.specs.declared.program.ProgramRows.{ProgramRows}
use Rattle.lang_meaning.specs.Values.{SymbolValue, named, unnamed, Value, integer, character, symbol, nil, object, in_range, same, truth}
use Rattle.lang_meaning.specs.Objects.{Object, cons, string, vector, instance, class_object, fresh_symbol}
use Rattle.lang_meaning.specs.State as meaning
use Rattle.lang_meaning.specs.Classes.{fetch}
use Rattle.lang_meaning.specs.Primitives.{as_integer, as_character, as_cons, as_string, as_vector, as_class, as_instance, as_stream, fresh_in, as_symbol, Spelt, by_serial}
use Rattle.mid_code.specs.Arena.{Arena, word_at}
use Rattle.mid_code.specs.State.{MidState}
use Rattle.mid_arena.specs.Tags.{cons_tag, object_tag, integer_word, nil_word, character_word, string_header, vector_header}
use Rattle.mid_arena.specs.Tags.{class_header, input_header, output_header, symbol_header, fresh_header, tag_of}
use Rattle.mid_arena.specs.Places.{Places, word_of}
use Rattle.mid_arena.specs.Represents.{Represents}
use Rattle.mid_arena.proofs.Keeping.{header_of, tag_low}
use Rattle.mid_arena.proofs.Arguments.{integer_word_is, character_word_is, tag_in, header_in, value_tag, value_header, tag_told, header_told, symbol_there, object_there, object_found}
use Rattle.mid_arena.proofs.HeaderKinds.{IsKindOf, string_kind, vector_kind, class_kind, instance_kind, stream_kind}
use Rattle.mid_arena.proofs.HeaderKinds.{instance_of, stream_of, string_is, vector_is, class_is, instance_is, stream_is}

-- ---- cases

-- An answer that the header decides: the header is of the kind, it is of another kind, or the tag is not that of what has a header.
pub data ByHeader (a : Arena) (w : ℕ) (is_kind : ℕ → Bool) (answer : Bool) : Type 0 where
  of_kind :
      (h : ℕ) → answer ≡ true → (w % 4 == object_tag) ≡ true → word_at a (w - 2) ≡ Some h → is_kind h ≡ true → ByHeader a w is_kind answer
  of_other_kind :
      (h : ℕ) → answer ≡ false → (w % 4 == object_tag) ≡ true → word_at a (w - 2) ≡ Some h → is_kind h ≡ false → ByHeader a w is_kind answer
  of_other_tag : answer ≡ false → (w % 4 == object_tag) ≡ false → ByHeader a w is_kind answer

-- the same, where an object of the kind is made of something that is found in it
pub data FoundByHeader {X : Type 0} (part : Option Object → Option X) (make : X → Object) (is_kind : ℕ → Bool) (a : Arena) (found : Option Object) (w : ℕ) : Type 0 where
  found_kind :
      (x : X) → found ≡ Some (make x) → part found ≡ Some x → (w % 4 == object_tag) ≡ true
      → word_at a (w - 2) ≡ Some (header_of (make x)) → is_kind (header_of (make x)) ≡ true → FoundByHeader part make is_kind a found w
  found_other_kind :
      (h : ℕ) → part found ≡ None → (w % 4 == object_tag) ≡ true → word_at a (w - 2) ≡ Some h → is_kind h ≡ false
      → FoundByHeader part make is_kind a found w
  found_other_tag : part found ≡ None → (w % 4 == object_tag) ≡ false → FoundByHeader part make is_kind a found w

-- an integer by its tag, or none
pub data IntegerTold (v : Value) (w : ℕ) : Type 0 where
  integer_found : (n : ℤ) → v ≡ integer n → as_integer v ≡ Some n → in_range n ≡ true → w ≡ integer_word n → (w % 4 == 0) ≡ true → IntegerTold v w
  no_integer : as_integer v ≡ None → (w % 4 == 0) ≡ false → IntegerTold v w

-- a character by its lowest byte, or none
pub data CharacterTold (v : Value) (w : ℕ) : Type 0 where
  character_found :
      (c : ℕ) → v ≡ character c → as_character v ≡ Some c → c ≤ 255 → w ≡ character_word c → (w % 256 == 15) ≡ true → CharacterTold v w
  no_character : as_character v ≡ None → (w % 256 == 15) ≡ false → CharacterTold v w

-- a cons by its tag, or none
pub data ConsTold (found : Option Object) (w : ℕ) : Type 0 where
  cons_found : (car cdr : Value) → found ≡ Some (cons car cdr) → as_cons found ≡ Some (car, cdr) → (w % 4 == cons_tag) ≡ true → ConsTold found w
  no_cons : as_cons found ≡ None → (w % 4 == cons_tag) ≡ false → ConsTold found w

-- A symbol: nil by its word, one with a name and one without by their headers, behind which the latter have their serials; or none, with
-- another header or with another tag.
pub data SymbolTold (a : Arena) (v : Value) (answer : Option Spelt) (w : ℕ) : Type 0 where
  nil_found : v ≡ nil → (w == nil_word) ≡ true → SymbolTold a v answer w
  name_found :
      (name : List ℕ) → v ≡ symbol (named name) → (w == nil_word) ≡ false → (w % 4 == object_tag) ≡ true
      → word_at a (w - 2) ≡ Some symbol_header → SymbolTold a v answer w
  serial_found :
      (serial : ℕ) → answer ≡ Some (by_serial serial) → (w == nil_word) ≡ false → (w % 4 == object_tag) ≡ true
      → word_at a (w - 2) ≡ Some fresh_header → word_at a (w + 2) ≡ Some (4 * (serial % 2 ^ 29)) → SymbolTold a v answer w
  no_symbol_header :
      (h : ℕ) → answer ≡ None → (w == nil_word) ≡ false → (w % 4 == object_tag) ≡ true
      → word_at a (w - 2) ≡ Some h → (h == symbol_header) ≡ false → (h == fresh_header) ≡ false → SymbolTold a v answer w
  no_symbol_tag : answer ≡ None → (w == nil_word) ≡ false → (w % 4 == object_tag) ≡ false → SymbolTold a v answer w

-- the header of an object that is fetched
pub fetched_header : (z : meaning.State) (v : Value) (o : Object) → fetch z v ≡ Some o → value_header z v ≡ header_of o
fetched_header z (object i) o e = ap header_in e
fetched_header z v o e = absurd (cc e)

pub is_none : {X : Type 0} (o : Option X) → is_some o ≡ false → o ≡ None
is_none None e = refl
is_none (Some x) e = absurd (cc e)

-- words whose tag is not 3
pub not_nil : (w : ℕ) → w % 4 < 3 → (w == nil_word) ≡ false
not_nil w h = grind (arith, nat_tests)

not_character : (w : ℕ) → w % 4 < 3 → (w % 256 == 15) ≡ false
not_character w h = grind (arith, nat_tests)

pub character_not_nil : (c w : ℕ) → w ≡ 256 * c + 15 → (w == nil_word) ≡ false
character_not_nil c w h = grind (arith, nat_tests)

instance_not_named : (n : ℕ) → (16 * n + 3 == symbol_header) ≡ false
instance_not_named n = grind (arith, nat_tests)

instance_not_fresh : (n : ℕ) → (16 * n + 3 == fresh_header) ≡ false
instance_not_fresh n = grind (arith, nat_tests)

-- ---- what the tag and the header decide

module _ (names : List (List ℕ)) (program : ProgramRows) (places : Places) (z : meaning.State) (y : MidState) (r : Represents names program places z y) where
  module _ (p : Option Object → Bool) (is_kind : ℕ → Bool) (k : IsKindOf p is_kind) where
    -- what has another tag
    by_other_tag :
        (v : Value) (w : ℕ) → word_of places v ≡ Some w → p (fetch z v) ≡ false → (value_tag z v == object_tag) ≡ false
        → ByHeader y.arena w is_kind (p (fetch z v))
    by_other_tag v w e none tag = of_other_tag none (rw (tag_told names program places z y r v w e) tag)

    -- what has a header
    by_header :
        (v : Value) (w : ℕ) → word_of places v ≡ Some w → value_tag z v ≡ object_tag → p (fetch z v) ≡ is_kind (value_header z v)
        → ByHeader y.arena w is_kind (p (fetch z v))
    by_header v w e tag answer = by (is_kind (value_header z v)) refl
      where
        tested : (w % 4 == object_tag) ≡ true
        tested = rw (tag_told names program places z y r v w e, tag) refl

        by : (b : Bool) → is_kind (value_header z v) ≡ b → ByHeader y.arena w is_kind (p (fetch z v))
        by true h = of_kind (value_header z v) (answer ∙ h) tested (header_told names program places z y r v w e tag) h
        by false h = of_other_kind (value_header z v) (answer ∙ h) tested (header_told names program places z y r v w e tag) h

    by_object : (i w : ℕ) → word_of places (object i) ≡ Some w → (o : Object) → slice_get z.store i ≡ Some o → ByHeader y.arena w is_kind (p (slice_get z.store i))
    by_object i w e (cons car cdr) stored =
        by_other_tag (object i) w e (ap p stored ∙ k.each (cons car cdr) ∙ k.cons) (rw stored refl)
    by_object i w e o stored =
        by_header (object i) w e (ap tag_in stored) (ap p stored ∙ k.each o ∙ ap (λ x. is_kind (header_in x)) (sym stored))

    -- by its header, what the object of a value is
    pub header_decides : (v : Value) (w : ℕ) → word_of places v ≡ Some w → ByHeader y.arena w is_kind (p (fetch z v))
    header_decides (integer n) w e = by_other_tag (integer n) w e k.none refl
    header_decides (character c) w e = by_other_tag (character c) w e k.none refl
    header_decides (symbol (named name)) w e = by_header (symbol (named name)) w e refl (k.none ∙ sym k.symbol)
    header_decides (symbol (unnamed expansion serial)) w e = by_header (symbol (unnamed expansion serial)) w e refl (k.none ∙ sym k.fresh)
    header_decides nil w e = by_other_tag nil w e k.none refl
    header_decides (object i) w e = let there = object_there names program places z y r i w e in by_object i w e there.one there.stored

  module _
      {X : Type 0} (part : Option Object → Option X) (make : X → Object) (is_kind : ℕ → Bool) (k : IsKindOf (λ o. is_some (part o)) is_kind)
      (back : (o : Option Object) (x : X) → part o ≡ Some x → o ≡ Some (make x))
    where
      -- by its header, what is found in the object of a value
      pub header_finds : (v : Value) (w : ℕ) → word_of places v ≡ Some w → FoundByHeader part make is_kind y.arena (fetch z v) w
      header_finds v w e = by (part (fetch z v)) refl (header_decides (λ o. is_some (part o)) is_kind k v w e)
        where
          by : (o : Option X) → part (fetch z v) ≡ o → ByHeader y.arena w is_kind (is_some (part (fetch z v))) → FoundByHeader part make is_kind y.arena (fetch z v) w
          by o same (of_other_tag none tag) = found_other_tag (is_none (part (fetch z v)) none) tag
          by o same (of_other_kind h none tag at kind) = found_other_kind h (is_none (part (fetch z v)) none) tag at kind
          by None same (of_kind h some tag at kind) = absurd (cc (ap (λ o. is_some o) same))
          by (Some x) same (of_kind h some tag at kind) =
              let it : fetch z v ≡ Some (make x) = back (fetch z v) x same in
              let tag_is : value_tag z v ≡ object_tag = grind (arith, nat_tests, tag_told names program places z y r v w e) in
              found_kind x it same tag
              (header_told names program places z y r v w e tag_is ∙ ap (λ h. Some h) (fetched_header z v (make x) it))
              (sym (k.each (make x)) ∙ ap (λ o. is_some (part o)) (sym it) ∙ ap (λ o. is_some o) same)

  pub string_told : (v : Value) (w : ℕ) → word_of places v ≡ Some w → FoundByHeader as_string string (λ h. h == string_header) y.arena (fetch z v) w
  string_told = header_finds as_string string _ string_kind string_is

  pub vector_told : (v : Value) (w : ℕ) → word_of places v ≡ Some w → FoundByHeader as_vector vector (λ h. h == vector_header) y.arena (fetch z v) w
  vector_told = header_finds as_vector vector _ vector_kind vector_is

  pub class_told : (v : Value) (w : ℕ) → word_of places v ≡ Some w → FoundByHeader as_class class_object (λ h. h == class_header) y.arena (fetch z v) w
  class_told = header_finds as_class class_object _ class_kind class_is

  pub instance_told : (v : Value) (w : ℕ) → word_of places v ≡ Some w → FoundByHeader as_instance instance_of (λ h. h % 16 == 3) y.arena (fetch z v) w
  instance_told = header_finds as_instance instance_of _ instance_kind instance_is

  pub stream_told :
      (v : Value) (w : ℕ) → word_of places v ≡ Some w
      → FoundByHeader as_stream stream_of (λ h. h == input_header || h == output_header) y.arena (fetch z v) w
  stream_told = header_finds as_stream stream_of _ stream_kind stream_is

  pub integer_told : (v : Value) (w : ℕ) → word_of places v ≡ Some w → IntegerTold v w
  integer_told (integer n) w e =
      let h = integer_word_is places n w e in
      integer_found n refl refl h.0 h.1 (rw (tag_told names program places z y r (integer n) w e) refl)
  integer_told (character c) w e = no_integer refl (rw (tag_told names program places z y r (character c) w e) refl)
  integer_told (symbol s) w e = no_integer refl (rw (tag_told names program places z y r (symbol s) w e) refl)
  integer_told nil w e = no_integer refl (rw (tag_told names program places z y r nil w e) refl)
  integer_told (object i) w e = no_integer refl (rw (tag_told names program places z y r (object i) w e) (by (slice_get z.store i)))
    where
      by : (o : Option Object) → (tag_in o == 0) ≡ false
      by None = refl
      by (Some (cons car cdr)) = refl
      by (Some o) = refl

  -- the tags of integers, symbols and objects
  pub integer_low : (n : ℤ) (w : ℕ) → word_of places (integer n) ≡ Some w → w % 4 < 3
  integer_low n w e = omega (arith, tag_told names program places z y r (integer n) w e)

  pub symbol_low : (s : SymbolValue) (w : ℕ) → word_of places (symbol s) ≡ Some w → w % 4 < 3
  symbol_low s w e = omega (arith, tag_told names program places z y r (symbol s) w e)

  pub object_low : (i w : ℕ) → word_of places (object i) ≡ Some w → w % 4 < 3
  object_low i w e =
      let there = object_there names program places z y r i w e in
      let told : w % 4 ≡ tag_of there.one = tag_told names program places z y r (object i) w e ∙ ap tag_in there.stored in
      omega (arith, told, tag_low there.one)

  pub character_told : (v : Value) (w : ℕ) → word_of places v ≡ Some w → CharacterTold v w
  character_told (character c) w e =
      let h = character_word_is places c w e in
      let low : w % 256 ≡ 15 = omega (arith, h.1) in
      character_found c refl refl h.0 h.1 (rw low refl)
  character_told (integer n) w e = no_character refl (not_character w (integer_low n w e))
  character_told (symbol s) w e = no_character refl (not_character w (symbol_low s w e))
  character_told nil w e = let h : nil_word ≡ w = cc e in no_character refl (rw (← h) refl)
  character_told (object i) w e = no_character refl (not_character w (object_low i w e))

  pub cons_told : (v : Value) (w : ℕ) → word_of places v ≡ Some w → ConsTold (fetch z v) w
  cons_told (integer n) w e = no_cons refl (rw (tag_told names program places z y r (integer n) w e) refl)
  cons_told (character c) w e = no_cons refl (rw (tag_told names program places z y r (character c) w e) refl)
  cons_told (symbol s) w e = no_cons refl (rw (tag_told names program places z y r (symbol s) w e) refl)
  cons_told nil w e = no_cons refl (rw (tag_told names program places z y r nil w e) refl)
  cons_told (object i) w e = by (slice_get z.store i) (tag_told names program places z y r (object i) w e)
    where
      by : (o : Option Object) → w % 4 ≡ tag_in o → ConsTold o w
      by None told = no_cons refl (rw told refl)
      by (Some (cons car cdr)) told = cons_found car cdr refl refl (rw told refl)
      by (Some o) told = no_cons refl (rw told refl)

  -- whether a value is nil
  pub nil_told : (v : Value) (w : ℕ) → word_of places v ≡ Some w → (w == nil_word) ≡ same v nil
  nil_told (integer n) w e = not_nil w (integer_low n w e)
  nil_told (character c) w e = character_not_nil c w (character_word_is places c w e).1
  nil_told (symbol s) w e = not_nil w (symbol_low s w e)
  nil_told nil w e = let h : nil_word ≡ w = cc e in rw (← h) refl
  nil_told (object i) w e = not_nil w (object_low i w e)

  -- t or nil, by its word
  pub truth_told : (b : Bool) (word : ℕ) → word_of places (truth b) ≡ Some word → not (word == nil_word) ≡ b
  truth_told b word e = ap not (nil_told (truth b) word e) ∙ turned b
    where
      turned : (b : Bool) → not (same (truth b) nil) ≡ b
      turned true = refl
      turned false = refl

  -- the serial of an unnamed symbol and of a fresh one stands behind the header
  serial_behind : (w address serial : ℕ) → w ≡ address + object_tag → word_at y.arena (address + 4) ≡ Some (4 * (serial % 2 ^ 29)) → word_at y.arena (w + 2) ≡ Some (4 * (serial % 2 ^ 29))
  serial_behind w address serial e h = let same : w + 2 ≡ address + 4 = omega arith in rw same h

  header_behind : (w address h : ℕ) → w ≡ address + object_tag → word_at y.arena address ≡ Some h → word_at y.arena (w - 2) ≡ Some h
  header_behind w address h e at = let same : w - 2 ≡ address = omega arith in rw same at

  pub symbol_told : (v : Value) (w : ℕ) → word_of places v ≡ Some w → SymbolTold y.arena v (as_symbol z v) w
  symbol_told (integer n) w e =
      no_symbol_tag refl (not_nil w (integer_low n w e)) (rw (tag_told names program places z y r (integer n) w e) refl)
  symbol_told (character c) w e =
      no_symbol_tag refl (character_not_nil c w (character_word_is places c w e).1) (rw (tag_told names program places z y r (character c) w e) refl)
  symbol_told (symbol (named name)) w e =
      let there = symbol_there names program places z y r (named name) w e in
      name_found name refl (not_nil w (symbol_low (named name) w e)) (rw (tag_told names program places z y r (symbol (named name)) w e) refl)
      (header_behind w there.spot.address symbol_header there.word there.stands.header)
  symbol_told (symbol (unnamed expansion serial)) w e =
      let there = symbol_there names program places z y r (unnamed expansion serial) w e in
      serial_found serial refl (not_nil w (symbol_low (unnamed expansion serial) w e)) (rw (tag_told names program places z y r (symbol (unnamed expansion serial)) w e) refl)
      (header_behind w there.spot.address fresh_header there.word there.stands.header)
      (serial_behind w there.spot.address serial there.word there.stands.word)
  symbol_told nil w e = let h : nil_word ≡ w = cc e in nil_found refl (rw (← h) refl)
  symbol_told (object i) w e =
      let there = object_there names program places z y r i w e in
      by there.one there.stored
    where
      tag : (o : Object) → slice_get z.store i ≡ Some o → w % 4 ≡ tag_of o
      tag o stored = tag_told names program places z y r (object i) w e ∙ ap tag_in stored

      other : (o : Object) → slice_get z.store i ≡ Some o → tag_of o ≡ object_tag → fresh_in (Some o) ≡ None → (header_of o == symbol_header) ≡ false → (header_of o == fresh_header) ≡ false
          → SymbolTold y.arena (object i) (as_symbol z (object i)) w
      other o stored object_is none first second =
          no_symbol_header (header_of o) (ap fresh_in stored ∙ none) (not_nil w (object_low i w e)) (rw (tag o stored, object_is) refl)
          (header_told names program places z y r (object i) w e (ap tag_in stored ∙ object_is) ∙ ap (λ x. Some (header_in x)) stored)
          first second

      by : (o : Object) → slice_get z.store i ≡ Some o → SymbolTold y.arena (object i) (as_symbol z (object i)) w
      by (cons car cdr) stored =
          no_symbol_tag (ap fresh_in stored) (not_nil w (object_low i w e)) (rw (tag (cons car cdr) stored) refl)
      by (fresh_symbol serial) stored =
          let it = object_found names program places z y r (object i) w (fresh_symbol serial) e stored in
          serial_found serial (ap fresh_in stored) (not_nil w (object_low i w e)) (rw (tag (fresh_symbol serial) stored) refl)
          (header_behind w it.spot.address fresh_header it.word it.stands.header)
          (serial_behind w it.spot.address serial it.word it.stands.word)
      by (instance c values mark) stored =
          other (instance c values mark) stored refl refl (instance_not_named (length values)) (instance_not_fresh (length values))
      by o stored = other o stored refl refl refl refl
