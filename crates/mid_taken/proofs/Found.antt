-- What is found where a word points is what the value of the word is at its outermost.
use Rattle.std.proofs.Common.{◌≡◌, ℕ, ◌+◌, ◌*◌, ◌/◌, ◌%◌, ◌^◌, ℤ, pos, true, false, List, [], length, Some, None, refl, sym, ap, subst, ◌∙◌, arith}
use Rattle.std.specs.Prelude.{◌==◌, ◌&&◌, int_div, slice_get, slice_index_or}
use Rattle.std.specs.Option.{unwrap_or}
use Rattle.std.proofs.lemmas.Bool.Decides.{nat_tests}
use Rattle.std.proofs.lemmas.Option.{slice_get-get_or}
use Rattle.std.proofs.lemmas.Slice.Eq.{bytes_eq-Decides}
use Rattle.base.specs.Arithmetic.{signed}
use Rattle.base.specs.DataMeasures.{SymbolBelow}
use Rattle.base.specs.declared.datum.Symbol.{Symbol}
use Rattle.base.specs.declared.datum.Symbol.TheVariants.{Named, Fresh}
use Rattle.lang_meaning.specs.Lookup.{text}
use Rattle.lang_meaning.specs.Literals.{symbol_of}
use Rattle.lang_meaning.specs.Values.{SymbolValue, named, unnamed, same_symbol, Value, integer, character, symbol, nil, object, in_range, same}
use Rattle.lang_meaning.specs.Objects.{Object, cons, string, vector, fresh_symbol}
use Rattle.lang_meaning.specs.State as meaning
use Rattle.lang_meaning.specs.Classes.{fetch}
use Rattle.mid_code.specs.Arena.{word_at}
use Rattle.mid_arena.specs.Tags.{cons_tag, object_tag, string_header, vector_header, fresh_header, tag_of}
use Rattle.mid_arena.specs.Places.{Spot, Places, word_of}
use Rattle.mid_arena.specs.Layouts.{packed, ObjectAt}
use Rattle.mid_arena.specs.Standing.{ValueAt}
use Rattle.mid_arena.proofs.Arguments.{character_word_is, object_found}
use Rattle.mid_arena.proofs.Keeping.{header_of}
use Rattle.mid_arena.proofs.Owners.{same_number}
use Rattle.mid_arena.proofs.Telling.{IntegerTold, integer_found, no_integer, integer_told, ConsTold, cons_found, no_cons, cons_told, nil_told, integer_low, symbol_low, object_low}
use Rattle.mid_arena.proofs.Sameness.{same_value_same_word}
use Rattle.mid_arena.proofs.WordFacts.{signed_integer_word}
use Rattle.mid_start.proofs.Joining.{symbol_told}
use Rattle.lang_taken.specs.Shapes.{Shape, shape_of, shape_of_object}
use Rattle.lang_taken.specs.Shapes as shape
use Rattle.lang_taken.specs.Taken.{SymbolFor, of_name, of_other_expansion, of_this_expansion}
use Rattle.mid_taken.specs.declared.parts.Part.{Part}
use Rattle.mid_taken.specs.declared.parts.Part.TheVariants.{Int, Char, Sym, Str, Vector, Nil, Cons, NoDatum}
use Rattle.mid_taken.specs.declared.memory.Memory.{Memory}
use Rattle.mid_taken.specs.Index.{Index, symbol_at}
use Rattle.mid_taken.specs.Stands.{Stands}
use Rattle.mid_taken.specs.Parts.{IsPart, IsPartAt, ValueIn}
use Rattle.mid_taken.proofs.Reading.{word_read, word_there, nil_is, quarter, ObjectRead, object_read}

-- ---- integers, characters, nil

int_part :
    (from : Memory) (objects : List Object) (names : List (List ℕ)) (m_places : Places) (v : Value) (w : ℕ) (n : ℤ) → w % 4 ≡ 0
    → n ≡ int_div (signed w) (pos 4) → IntegerTold v w → IsPart names m_places from.words.now from.expansion (shape_of objects v) (Int n)
int_part from objects names places v w n tag is (integer_found k value _ range word _) =
    let quotient : k ≡ n = sym (is ∙ ap (λ x. int_div (signed x) (pos 4)) word ∙ ap (λ x. int_div x (pos 4)) (signed_integer_word k range) ∙ quarter k) in
    (ap (shape_of objects) value ∙ ap shape.integer quotient, ap in_range (sym quotient) ∙ range)
int_part from objects names places v w n tag is (no_integer _ test) = absurd (tag_is w tag test)
  where
    tag_is : (w : ℕ) → w % 4 ≡ 0 → (w % 4 == 0) ≡ false → ⊥
    tag_is w tag test = grind (arith, nat_tests)

pub int_told : (w : ℕ) (n : ℤ) → w % 4 ≡ 0 → n ≡ int_div (signed w) (pos 4) → (from : Memory) → IsPartAt from w (Int n)
int_told w n tag is from = record {
  there = λ names z m v e.
      int_part from z.store names m.places v w n tag is (integer_told names m.program m.places z m.machine m.represents v w e);
}

pub nil_told_at : (w : ℕ) → w ≡ 3 → (from : Memory) → IsPartAt from w Nil
nil_told_at w is from = record {
  there = λ names z m v e.
      let test : (w == 3) ≡ true = rw is refl in
      ap (shape_of z.store) (nil_is v (sym (nil_told names m.program m.places z m.machine m.represents v w e) ∙ test));
}

pub char_told : (w code : ℕ) → w % 4 ≡ 3 → (w ≡ 3 → ⊥) → code ≡ w / 256 % 256 → (from : Memory) → IsPartAt from w (Char code)
char_told w code tag other is from = record { there = λ names z m v e. by names z m v e }
  where
    by : (names : List (List ℕ)) (z : meaning.State) (m : Stands names z from.words.now from.symbols.now) (v : Value) → word_of m.places v ≡ Some w
        → IsPart names m.places from.words.now from.expansion (shape_of z.store v) (Char code)
    by names z m (character c) e =
        let h = character_word_is m.places c w e in
        let same : c ≡ code = omega (arith, h.0, h.1, is) in
        (ap shape.character same, omega (arith, h.0, same))
    by names z m nil e = let same : 3 ≡ w = cc e in absurd (other (sym same))
    by names z m (integer n) e = absurd (omega (arith, tag, integer_low names m.program m.places z m.machine m.represents n w e))
    by names z m (symbol s) e = absurd (omega (arith, tag, symbol_low names m.program m.places z m.machine m.represents s w e))
    by names z m (object i) e = absurd (omega (arith, tag, object_low names m.program m.places z m.machine m.represents i w e))

-- ---- conses

-- a value that stands in the arena is read
pub value_read :
    (names : List (List ℕ)) (z : meaning.State) (words : List ℕ) (index : Index) (m : Stands names z words index) (address at : ℕ) (v : Value)
    → ValueAt m.places m.machine.arena address v → address / 4 ≡ at → ValueIn m.places words at v
value_read names z words index m address at v stands same = record {
  word = stands.word;
  stands = word_there words at (address / 4) stands.word same (m.same_words address stands.word stands.stands);
  of_value = stands.of_value;
}

-- and its word is the one that was read
pub word_is :
    (places : Places) (words : List ℕ) (at got : ℕ) (v : Value) → ValueIn places words at v → got ≡ unwrap_or (slice_get words at) 0
    → word_of places v ≡ Some got
word_is places words at got v there read =
    there.of_value ∙ ap (λ w. Some w) (sym (word_read words at at got there.word read refl there.stands))

pub cons_told_at :
    (from : Memory) (w at car cdr : ℕ) → w % 4 ≡ cons_tag → at ≡ w / 4 → car ≡ unwrap_or (slice_get from.words.now at) 0
    → cdr ≡ unwrap_or (slice_get from.words.now (at + 1)) 0 → IsPartAt from w (Cons car cdr)
cons_told_at from w at car cdr tag place first second = record {
  there = λ names z m v e. by names z m v e (cons_told names m.program m.places z m.machine m.represents v w e);
}
  where
    tag_is : (w : ℕ) → w % 4 ≡ 1 → (w % 4 == 1) ≡ false → ⊥
    tag_is w tag test = grind (arith, nat_tests)

    by : (names : List (List ℕ)) (z : meaning.State) (m : Stands names z from.words.now from.symbols.now) (v : Value) → word_of m.places v ≡ Some w
        → ConsTold (fetch z v) w → IsPart names m.places from.words.now from.expansion (shape_of z.store v) (Cons car cdr)
    by names z m v e (cons_found a b is _ _) =
        let it = object_found names m.program m.places z m.machine m.represents v w (cons a b) e is in
        let low : it.spot.address / 4 ≡ at = omega (arith, it.word, it.spot_stands.aligned, place) in
        let high : (it.spot.address + 4) / 4 ≡ at + 1 = omega (arith, it.word, it.spot_stands.aligned, place) in
        record {
          first = a;
          second = b;
          shape_is = ap (shape_of z.store) it.value ∙ ap shape_of_object it.stored;
          car_is =
              word_is m.places from.words.now at car a
              (value_read names z from.words.now from.symbols.now m it.spot.address at a it.stands.car low) first;
          cdr_is =
              word_is m.places from.words.now (at + 1) cdr b
              (value_read names z from.words.now from.symbols.now m (it.spot.address + 4) (at + 1) b it.stands.cdr high) second;
        }
    by names z m v e (no_cons _ test) = absurd (tag_is w tag test)

-- ---- symbols that were there before the run

-- what is the same as a symbol is that symbol
symbol_is : (v : Value) (s : SymbolValue) → same v (symbol s) ≡ true → v ≡ symbol s
symbol_is (symbol a) s e = ap symbol (symbol_told a s e)
symbol_is nil s e = absurd (cc e)
symbol_is (integer n) s e = absurd (cc e)
symbol_is (character c) s e = absurd (cc e)
symbol_is (object i) s e = absurd (cc e)

symbol_for :
    (names : List (List ℕ)) (expansion : ℕ) (s : Symbol) → SymbolBelow (length names) s → SymbolFor names expansion (shape.symbol (symbol_of names s)) s
symbol_for names expansion (Named name) below = of_name (text names name.0) name (slice_get-get_or names name.0 [] below)
symbol_for names expansion (Fresh other serial) below = of_other_expansion other serial

pub symbol_told_at : (from : Memory) (w : ℕ) (s : Symbol) → symbol_at w from.symbols.now ≡ Some s → IsPartAt from w (Sym s)
symbol_told_at from w s found = record {
  there = λ names z m v e.
      let there : word_of m.places (symbol (symbol_of names s)) ≡ Some w = m.found w s found in
      let test : (w == w) ≡ true = same_number w in
      let same_is : same v (symbol (symbol_of names s)) ≡ true =
      sym (same_value_same_word names m.program m.places z m.machine m.represents v (symbol (symbol_of names s)) w w e there) ∙ test in
      let value : v ≡ symbol (symbol_of names s) = symbol_is v (symbol_of names s) same_is in
      let P : Value → Type 0 = λ u. SymbolFor names from.expansion (shape_of z.store u) s in
      subst P (sym value) (symbol_for names from.expansion s (m.below w s found));
}

-- ---- strings, vectors, symbols of the run, and what is no datum

-- what the header and the word behind it say
module _
    (from : Memory) (w at header second : ℕ) (tag : w % 4 ≡ object_tag) (none : symbol_at w from.symbols.now ≡ None) (place : at ≡ w / 4)
    (first_read : header ≡ unwrap_or (slice_get from.words.now at) 0) (second_read : second ≡ unwrap_or (slice_get from.words.now (at + 1)) 0)
  where
    module _ (names : List (List ℕ)) (z : meaning.State) (m : Stands names z from.words.now from.symbols.now) (v : Value) where
      read : word_of m.places v ≡ Some w → ObjectRead names z from.words.now from.symbols.now m v w header
      read e = object_read names z from.words.now from.symbols.now m v w at header e tag none place first_read

      -- the word behind the header
      second_is : (address word : ℕ) → w ≡ address + 2 → address % 4 ≡ 0 → word_at m.machine.arena (address + 4) ≡ Some word → second ≡ word
      second_is address word pointer aligned stands =
          word_read from.words.now (at + 1) ((address + 4) / 4) second word second_read (omega (arith, pointer, aligned, place))
          (m.same_words (address + 4) word stands)

      string_by :
          (one : Object) (spot : Spot) → ObjectAt names m.program m.places m.machine.arena spot one → tag_of one ≡ object_tag → spot.address % 4 ≡ 0 → w ≡ spot.address + 2
          → header ≡ header_of one → header ≡ string_header → IsPart names m.places from.words.now from.expansion (shape_of_object (Some one)) (Str (at + 2) (second / 4))
      string_by (string bytes) spot stands tagged aligned pointer is kind =
          let count : second ≡ 4 * length bytes = second_is spot.address (4 * length bytes) pointer aligned stands.count in
          record {
            bytes = bytes;
            shape_is = refl;
            count_is = omega (arith, count);
            there = record {
              are_bytes = stands.bytes;
              each = λ i h.
                  word_there from.words.now (at + 2 + i) ((spot.address + 8 + 4 * i) / 4) (packed bytes (4 * i)) (omega (arith, pointer, aligned, place))
                  (m.same_words (spot.address + 8 + 4 * i) (packed bytes (4 * i)) (stands.words i h));
            };
          }
      string_by (cons a b) spot stands tagged aligned pointer is kind = absurd (omega (arith, tagged))
      string_by one spot stands tagged aligned pointer is kind = absurd (omega (arith, is, kind))

      vector_by :
          (one : Object) (spot : Spot) → ObjectAt names m.program m.places m.machine.arena spot one → tag_of one ≡ object_tag → spot.address % 4 ≡ 0 → w ≡ spot.address + 2
          → header ≡ header_of one → header ≡ vector_header → IsPart names m.places from.words.now from.expansion (shape_of_object (Some one)) (Vector (at + 2) (second / 4))
      vector_by (vector vs) spot stands tagged aligned pointer is kind =
          let count : second ≡ 4 * length vs = second_is spot.address (4 * length vs) pointer aligned stands.count in
          record {
            values = vs;
            shape_is = refl;
            count_is = omega (arith, count);
            there = record {
              each = λ i h.
                  value_read names z from.words.now from.symbols.now m (spot.address + 8 + 4 * i) (at + 2 + i) (slice_index_or vs i nil) (stands.values i h)
                  (omega (arith, pointer, aligned, place));
            };
          }
      vector_by (cons a b) spot stands tagged aligned pointer is kind = absurd (omega (arith, tagged))
      vector_by one spot stands tagged aligned pointer is kind = absurd (omega (arith, is, kind))

      fresh_by :
          (one : Object) (spot : Spot) (number : ℕ) → slice_get z.store number ≡ Some one → ObjectAt names m.program m.places m.machine.arena spot one → tag_of one ≡ object_tag
          → spot.address % 4 ≡ 0 → w ≡ spot.address + 2 → header ≡ header_of one → header ≡ fresh_header
          → IsPart names m.places from.words.now from.expansion (shape_of_object (Some one)) (Sym (Fresh from.expansion (second / 4)))
      fresh_by (fresh_symbol serial) spot number stored stands tagged aligned pointer is kind =
          let word : second ≡ 4 * (serial % 2 ^ 29) = second_is spot.address (4 * (serial % 2 ^ 29)) pointer aligned stands.word in
          let same : serial ≡ second / 4 = omega (arith, word, m.serials number serial stored) in
          subst (λ k. SymbolFor names from.expansion (shape.new_symbol serial) (Fresh from.expansion k)) same (of_this_expansion serial)
      fresh_by (cons a b) spot number stored stands tagged aligned pointer is kind = absurd (omega (arith, tagged))
      fresh_by one spot number stored stands tagged aligned pointer is kind = absurd (omega (arith, is, kind))

      other_by :
          (one : Object) → tag_of one ≡ object_tag → header ≡ header_of one → (header ≡ string_header → ⊥) → (header ≡ vector_header → ⊥) → (header ≡ fresh_header → ⊥)
          → shape_of_object (Some one) ≡ shape.no_datum
      other_by (cons a b) tagged is no_string no_vector no_fresh = absurd (omega (arith, tagged))
      other_by (string bytes) tagged is no_string no_vector no_fresh = absurd (no_string is)
      other_by (vector vs) tagged is no_string no_vector no_fresh = absurd (no_vector is)
      other_by (fresh_symbol serial) tagged is no_string no_vector no_fresh = absurd (no_fresh is)
      other_by one tagged is no_string no_vector no_fresh = refl

      part_by : (s : Shape) (part : Part) → shape_of z.store v ≡ s → IsPart names m.places from.words.now from.expansion s part
          → IsPart names m.places from.words.now from.expansion (shape_of z.store v) part
      part_by s part same h = subst (λ q. IsPart names m.places from.words.now from.expansion q part) (sym same) h

    pub string_told_at : header ≡ string_header → IsPartAt from w (Str (at + 2) (second / 4))
    string_told_at kind = record {
      there = λ names z m v e.
          let o = read names z m v e in
          part_by names z m v (shape_of_object (Some o.one)) (Str (at + 2) (second / 4)) o.shape_is
          (string_by names z m v o.one o.spot o.stands o.tag o.aligned o.word o.header_is kind);
    }

    pub vector_told_at : header ≡ vector_header → IsPartAt from w (Vector (at + 2) (second / 4))
    vector_told_at kind = record {
      there = λ names z m v e.
          let o = read names z m v e in
          part_by names z m v (shape_of_object (Some o.one)) (Vector (at + 2) (second / 4)) o.shape_is
          (vector_by names z m v o.one o.spot o.stands o.tag o.aligned o.word o.header_is kind);
    }

    pub fresh_told_at : header ≡ fresh_header → IsPartAt from w (Sym (Fresh from.expansion (second / 4)))
    fresh_told_at kind = record {
      there = λ names z m v e.
          let o = read names z m v e in
          part_by names z m v (shape_of_object (Some o.one)) (Sym (Fresh from.expansion (second / 4))) o.shape_is
          (fresh_by names z m v o.one o.spot o.number o.stored o.stands o.tag o.aligned o.word o.header_is kind);
    }

    pub other_told_at : (header ≡ string_header → ⊥) → (header ≡ vector_header → ⊥) → (header ≡ fresh_header → ⊥) → IsPartAt from w NoDatum
    other_told_at no_string no_vector no_fresh = record {
      there = λ names z m v e.
          let o = read names z m v e in o.shape_is ∙ other_by names z m v o.one o.tag o.header_is no_string no_vector no_fresh;
    }
