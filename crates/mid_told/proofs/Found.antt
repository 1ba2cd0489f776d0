-- What is found by tag and header is what the value of the word is at its outermost.
use Rattle.std.proofs.Common.{◌≡◌, ℕ, ◌+◌, ◌*◌, ◌/◌, ◌%◌, ◌^◌, ◌≤◌, ℤ, pos, false, List, length, Some, refl, sym, ap, subst, ◌∙◌, arith}
use Rattle.std.specs.Prelude.{◌==◌, ◌++◌, codes, ◌*ℤ◌, int_div, slice_get, slice_index_or}
use Rattle.std.specs.Fmt.{decimal}
use Rattle.std.proofs.lemmas.Bool.Decides.{nat_tests}
use Rattle.std.proofs.lemmas.Int.{ints}
use Rattle.base.specs.Arithmetic.{signed}
use Rattle.lang_meaning.specs.declared.program.ClassRow.{ClassRow}
use Rattle.lang_meaning.specs.Values.{SymbolValue, named, unnamed, Value, integer, character, symbol, nil, object}
use Rattle.lang_meaning.specs.Objects.{Object, cons, string, vector, instance, closure, fresh_symbol}
use Rattle.lang_meaning.specs.State as meaning
use Rattle.mid_arena.specs.Tags.{object_tag, instance_header, string_header, vector_header, symbol_header, fresh_header, tag_of}
use Rattle.mid_arena.specs.Places.{Spot, word_of}
use Rattle.mid_arena.specs.Layouts.{packed, TextAt, ObjectAt}
use Rattle.mid_arena.proofs.Arguments.{integer_word_is, character_word_is, tag_in, tag_told, symbol_there, object_there}
use Rattle.mid_arena.proofs.Arguments as arguments
use Rattle.mid_arena.proofs.Keeping.{header_of}
use Rattle.mid_arena.proofs.WordFacts.{signed_integer_word}
use Rattle.lang_taken.specs.Shapes.{Shape, shape_of, shape_of_object}
use Rattle.lang_taken.specs.Shapes as shape
use Rattle.lang_told.specs.Spelled.{fresh_text}
use Rattle.mid_told.specs.declared.parts.Atom.TheVariants.{Int, Char, Name, Fresh, Str}
use Rattle.mid_told.specs.declared.parts.Part.{Part}
use Rattle.mid_told.specs.declared.parts.Part.TheVariants as part
use Rattle.mid_told.specs.Reading.{read_at, header_in, second_in}
use Rattle.mid_told.specs.Stands.{Stands}
use Rattle.mid_told.specs.Parts.{part_in, object_part, immediate_part, IsPart, IsText}
use Rattle.mid_told.proofs.Reading.{word_there, value_read, word_is, second_is, header_is}

-- ---- by the tag

part_zero : (words : List ℕ) (w : ℕ) → w % 4 ≡ 0 → part_in words w ≡ part.Atom (Int (int_div (signed w) (pos 4)))
unfolding part_in
part_zero words w tag = rw tag refl

part_cons : (words : List ℕ) (w : ℕ) → w % 4 ≡ 1 → part_in words w ≡ part.Cons (read_at words (w / 4)) (second_in words w)
unfolding part_in
part_cons words w tag = rw tag refl

part_object : (words : List ℕ) (w : ℕ) → w % 4 ≡ 2 → part_in words w ≡ object_part (header_in words w) (second_in words w) (w / 4 + 2)
unfolding part_in
part_object words w tag = rw tag refl

part_immediate : (words : List ℕ) (w : ℕ) → w % 4 ≡ 3 → part_in words w ≡ immediate_part w
unfolding part_in
part_immediate words w tag = rw tag refl

-- a character
character_part : (w c : ℕ) → c ≤ 255 → w ≡ 256 * c + 15 → immediate_part w ≡ part.Atom (Char c)
character_part w c small is =
    let other : (w == 3) ≡ false = test w c is in
    let code : w / 256 % 256 ≡ c = omega (arith, small, is) in
    rw other (ap (λ x. part.Atom (Char x)) code)
  where
    test : (w c : ℕ) → w ≡ 256 * c + 15 → (w == 3) ≡ false
    test w c is = grind (arith, nat_tests)

-- an instance is no datum
instance_part : (n second inside : ℕ) → object_part (instance_header n) second inside ≡ part.NoDatum
instance_part n second inside =
    let first : (16 * n + 3 == 1) ≡ false = grind (arith, nat_tests) in
    let next : (16 * n + 3 == 2) ≡ false = grind (arith, nat_tests) in
    let third : (16 * n + 3 == 9) ≡ false = grind (arith, nat_tests) in
    let last : (16 * n + 3 == 10) ≡ false = grind (arith, nat_tests) in
    rw (first, next, third, last) refl

-- a fourth of four times an integer
quarter : (n : ℤ) → int_div (pos 4 *ℤ n) (pos 4) ≡ n
quarter n = omega (arith, ints)

fresh_again : (serial second : ℕ) → second ≡ 4 * (serial % 2 ^ 29) → fresh_text serial ≡ fresh_text (second / 4)
fresh_again serial second is =
    let same : serial % 2 ^ 29 ≡ second / 4 % 2 ^ 29 = omega (arith, is) in
    ap (λ n. codes "#:g" ++ decimal n) same

-- ---- by the value

module _ (names : List (List ℕ)) (classes : List ClassRow) (z : meaning.State) (words : List ℕ) (m : Stands names classes z words) where
  -- a value that was found to be of that part
  found : (s : Shape) (w : ℕ) (p : Part) → part_in words w ≡ p → IsPart m.places words s p → IsPart m.places words s (part_in words w)
  found s w p is h = subst (λ q. IsPart m.places words s q) (sym is) h

  -- an object or a symbol with that header
  by_header :
      (w h second : ℕ) → w % 4 ≡ 2 → header_in words w ≡ h → second_in words w ≡ second → part_in words w ≡ object_part h second (w / 4 + 2)
  by_header w h second low header next =
      part_object words w low ∙ ap (λ x. object_part x (second_in words w) (w / 4 + 2)) header ∙ ap (λ x. object_part h x (w / 4 + 2)) next

  -- bytes behind a header
  text_there :
      (w kind : ℕ) (spot : Spot) (bytes : List ℕ) (make : List ℕ → Shape) → w ≡ spot.address + 2 → spot.address % 4 ≡ 0
      → TextAt m.machine.arena spot kind bytes → IsText words (w / 4 + 2) (4 * length bytes / 4) make (make bytes)
  text_there w kind spot bytes make pointer aligned t = record {
    bytes = bytes;
    shape_is = refl;
    count_is = omega arith;
    there = record {
      are_bytes = t.bytes;
      each = λ i h.
          word_there words (w / 4 + 2 + i) ((spot.address + 8 + 4 * i) / 4) (packed bytes (4 * i)) (omega (arith, pointer, aligned))
          (m.same_words (spot.address + 8 + 4 * i) (packed bytes (4 * i)) (t.words i h));
    };
  }

  symbol_told : (s : SymbolValue) (w : ℕ) → word_of m.places (symbol s) ≡ Some w → IsPart m.places words (shape.symbol s) (part_in words w)
  symbol_told (named name) w e =
      let it = symbol_there names m.program m.places z m.machine m.represents (named name) w e in
      let low : w % 4 ≡ 2 = omega (arith, it.word, it.spot_stands.aligned) in
      let next : second_in words w ≡ 4 * length name =
      second_is names classes z words m w it.spot.address 2 (4 * length name) it.word it.spot_stands.aligned low it.stands.count in
      found (shape.symbol (named name)) w (part.Atom (Name (w / 4 + 2) (4 * length name / 4)))
      (by_header w symbol_header (4 * length name) low (header_is names classes z words m (symbol (named name)) w e) next)
      (text_there w symbol_header it.spot name (λ bytes. shape.symbol (named bytes)) it.word it.spot_stands.aligned it.stands)
  symbol_told (unnamed expansion serial) w e =
      let it = symbol_there names m.program m.places z m.machine m.represents (unnamed expansion serial) w e in
      let low : w % 4 ≡ 2 = omega (arith, it.word, it.spot_stands.aligned) in
      let next : second_in words w ≡ 4 * (serial % 2 ^ 29) =
      second_is names classes z words m w it.spot.address 2 (4 * (serial % 2 ^ 29)) it.word it.spot_stands.aligned low it.stands.word in
      found (shape.symbol (unnamed expansion serial)) w (part.Atom (Fresh (4 * (serial % 2 ^ 29) / 4)))
      (by_header w fresh_header (4 * (serial % 2 ^ 29)) low (header_is names classes z words m (symbol (unnamed expansion serial)) w e) next)
      (record { atom = refl; text = fresh_again serial (4 * (serial % 2 ^ 29)) refl; size = refl; no_list = refl })

  object_told : (i w : ℕ) → word_of m.places (object i) ≡ Some w → IsPart m.places words (shape_of z.store (object i)) (part_in words w)
  object_told i w e =
      let it = object_there names m.program m.places z m.machine m.represents i w e in
      subst (λ s. IsPart m.places words s (part_in words w)) (sym (ap shape_of_object it.stored))
      (by it.one it.spot it.stored it.stands it.spot_stands.aligned it.word)
    where
      low_is : (o : Object) → slice_get z.store i ≡ Some o → w % 4 ≡ tag_of o
      low_is o stored = tag_told names m.program m.places z m.machine m.represents (object i) w e ∙ ap tag_in stored

      head : (o : Object) → slice_get z.store i ≡ Some o → header_in words w ≡ header_of o
      head o stored = header_is names classes z words m (object i) w e ∙ ap arguments.header_in stored

      no_datum : (o : Object) → slice_get z.store i ≡ Some o → tag_of o ≡ object_tag → object_part (header_of o) (second_in words w) (w / 4 + 2) ≡ part.NoDatum
          → shape_of_object (Some o) ≡ shape.no_datum → IsPart m.places words (shape_of_object (Some o)) (part_in words w)
      no_datum o stored tag is none =
          found (shape_of_object (Some o)) w part.NoDatum
          (by_header w (header_of o) (second_in words w) (low_is o stored ∙ tag) (head o stored) refl ∙ is) none

      by : (o : Object) (spot : Spot) → slice_get z.store i ≡ Some o → ObjectAt names m.program m.places m.machine.arena spot o → spot.address % 4 ≡ 0
          → w ≡ spot.address + tag_of o → IsPart m.places words (shape_of_object (Some o)) (part_in words w)
      by (cons car cdr) spot stored stands aligned pointer =
          found (shape.cons car cdr) w (part.Cons (read_at words (w / 4)) (second_in words w)) (part_cons words w (low_is (cons car cdr) stored))
          (record {
            first = car;
            second = cdr;
            shape_is = refl;
            car_is =
                word_is names classes z words m (w / 4) car
                (value_read names classes z words m spot.address (w / 4) car stands.car (omega (arith, pointer, aligned)));
            cdr_is =
                word_is names classes z words m (w / 4 + 1) cdr
                (value_read names classes z words m (spot.address + 4) (w / 4 + 1) cdr stands.cdr (omega (arith, pointer, aligned)));
          })
      by (string bytes) spot stored stands aligned pointer =
          let low : w % 4 ≡ 2 = low_is (string bytes) stored in
          found (shape.string bytes) w (part.Atom (Str (w / 4 + 2) (4 * length bytes / 4)))
          (by_header w string_header (4 * length bytes) low (head (string bytes) stored)
          (second_is names classes z words m w spot.address 2 (4 * length bytes) pointer aligned low stands.count))
          (text_there w string_header spot bytes shape.string pointer aligned stands)
      by (vector vs) spot stored stands aligned pointer =
          let low : w % 4 ≡ 2 = low_is (vector vs) stored in
          found (shape.vector vs) w (part.Vector (w / 4 + 2) (4 * length vs / 4))
          (by_header w vector_header (4 * length vs) low (head (vector vs) stored)
          (second_is names classes z words m w spot.address 2 (4 * length vs) pointer aligned low stands.count))
          (record {
            values = vs;
            shape_is = refl;
            count_is = omega arith;
            there = record {
              each = λ i h.
                  value_read names classes z words m (spot.address + 8 + 4 * i) (w / 4 + 2 + i) (slice_index_or vs i nil) (stands.values i h)
                  (omega (arith, pointer, aligned));
            };
          })
      by (fresh_symbol serial) spot stored stands aligned pointer =
          let low : w % 4 ≡ 2 = low_is (fresh_symbol serial) stored in
          found (shape.new_symbol serial) w (part.Atom (Fresh (4 * (serial % 2 ^ 29) / 4)))
          (by_header w fresh_header (4 * (serial % 2 ^ 29)) low (head (fresh_symbol serial) stored)
          (second_is names classes z words m w spot.address 2 (4 * (serial % 2 ^ 29)) pointer aligned low stands.word))
          (record { atom = refl; text = fresh_again serial (4 * (serial % 2 ^ 29)) refl; size = refl; no_list = refl })
      by (instance c values mark) spot stored stands aligned pointer =
          no_datum (instance c values mark) stored refl (instance_part (length values) (second_in words w) (w / 4 + 2)) refl
      by (closure required rest body env) spot stored stands aligned pointer = absurd stands
      by o spot stored stands aligned pointer = no_datum o stored refl refl refl

  pub part_told : (v : Value) (w : ℕ) → word_of m.places v ≡ Some w → IsPart m.places words (shape_of z.store v) (part_in words w)
  part_told (integer n) w e =
      let is = integer_word_is m.places n w e in
      let tag : w % 4 ≡ 0 = tag_told names m.program m.places z m.machine m.represents (integer n) w e in
      let quotient : int_div (signed w) (pos 4) ≡ n =
      ap (λ x. int_div (signed x) (pos 4)) is.1 ∙ ap (λ x. int_div x (pos 4)) (signed_integer_word n is.0) ∙ quarter n in
      found (shape.integer n) w (part.Atom (Int n)) (part_zero words w tag ∙ ap (λ x. part.Atom (Int x)) quotient) refl
  part_told (character c) w e =
      let is = character_word_is m.places c w e in
      found (shape.character c) w (part.Atom (Char c))
      (part_immediate words w (tag_told names m.program m.places z m.machine m.represents (character c) w e) ∙ character_part w c is.0 is.1) refl
  part_told (symbol s) w e = symbol_told s w e
  part_told nil w e =
      let is : 3 ≡ w = cc e in
      found shape.nil w part.Nil
      (part_immediate words w (tag_told names m.program m.places z m.machine m.represents nil w e) ∙ ap immediate_part (sym is)) refl
  part_told (object i) w e = object_told i w e
