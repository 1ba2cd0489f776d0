-- What is read of words that represent a state.
use Rattle.std.proofs.Common.{◌≡◌, ℕ, ◌+◌, ◌-◌, ◌/◌, ◌%◌, List, Some, refl, sym, ap, ◌∙◌, arith}
use Rattle.std.specs.Prelude.{slice_get}
use Rattle.std.specs.Option.{unwrap_or}
use Rattle.lang_meaning.specs.declared.program.ClassRow.{ClassRow}
use Rattle.lang_meaning.specs.Values.{Value, integer, character, symbol, nil, object}
use Rattle.lang_meaning.specs.Objects.{Object, cons}
use Rattle.lang_meaning.specs.State as meaning
use Rattle.mid_code.specs.Arena.{word_at}
use Rattle.mid_arena.specs.Tags.{object_tag}
use Rattle.mid_arena.specs.Places.{word_of}
use Rattle.mid_arena.specs.Standing.{ValueAt}
use Rattle.mid_arena.proofs.Arguments.{tag_in, value_tag, value_header, tag_told, header_told, object_there}
use Rattle.mid_told.specs.Reading.{read_at, header_in, second_in}
use Rattle.mid_told.specs.Stands.{Stands}
use Rattle.mid_told.specs.Parts.{ValueIn}

-- a word that is read at the place of an address
pub word_read :
    (words : List ℕ) (at place got word : ℕ) → got ≡ unwrap_or (slice_get words at) 0 → at ≡ place → slice_get words place ≡ Some word → got ≡ word
word_read words at place got word read same there =
    read ∙ ap (λ k. unwrap_or (slice_get words k) 0) same ∙ ap (λ o. unwrap_or o 0) there

pub word_there : (words : List ℕ) (at place word : ℕ) → place ≡ at → slice_get words place ≡ Some word → slice_get words at ≡ Some word
word_there words at place word same there = ap (slice_get words) (sym same) ∙ there

module _ (names : List (List ℕ)) (classes : List ClassRow) (z : meaning.State) (words : List ℕ) (m : Stands names classes z words) where
  pub reads : (address at word : ℕ) → word_at m.machine.arena address ≡ Some word → address / 4 ≡ at → read_at words at ≡ word
  reads address at word stands same =
      ap (λ k. read_at words k) (sym same) ∙ ap (λ o. unwrap_or o 0) (m.same_words address word stands)

  -- a value that stands in the arena is read
  pub value_read : (address at : ℕ) (v : Value) → ValueAt m.places m.machine.arena address v → address / 4 ≡ at → ValueIn m.places words at v
  value_read address at v stands same = record {
    word = stands.word;
    stands = word_there words at (address / 4) stands.word same (m.same_words address stands.word stands.stands);
    of_value = stands.of_value;
  }

  -- and the word that is read is its word
  pub word_is : (at : ℕ) (v : Value) → ValueIn m.places words at v → word_of m.places v ≡ Some (read_at words at)
  word_is at v there = there.of_value ∙ ap (λ w. Some w) (sym (ap (λ o. unwrap_or o 0) there.stands))

  -- what stands behind the first word of what a word points to
  pub second_is :
      (w address tag word : ℕ) → w ≡ address + tag → address % 4 ≡ 0 → w % 4 ≡ tag → word_at m.machine.arena (address + 4) ≡ Some word
      → second_in words w ≡ word
  second_is w address tag word pointer aligned low stands = reads (address + 4) (w / 4 + 1) word stands (omega (arith, pointer, aligned, low))

  -- the header
  tagged : (v : Value) (w : ℕ) → word_of m.places v ≡ Some w → value_tag z v ≡ object_tag → header_in words w ≡ value_header z v
  tagged v w e tag =
      let low : w % 4 ≡ object_tag = tag_told names m.program m.places z m.machine m.represents v w e ∙ tag in
      let stands : word_at m.machine.arena (w - 2) ≡ Some (value_header z v) = header_told names m.program m.places z m.machine m.represents v w e tag in
      let read : read_at words (w / 4) ≡ value_header z v = reads (w - 2) (w / 4) (value_header z v) stands (omega (arith, low)) in
      rw low read

  pub header_is : (v : Value) (w : ℕ) → word_of m.places v ≡ Some w → header_in words w ≡ value_header z v
  header_is (integer n) w e = rw (tag_told names m.program m.places z m.machine m.represents (integer n) w e) refl
  header_is (character c) w e = rw (tag_told names m.program m.places z m.machine m.represents (character c) w e) refl
  header_is nil w e = rw (tag_told names m.program m.places z m.machine m.represents nil w e) refl
  header_is (symbol s) w e = tagged (symbol s) w e refl
  header_is (object i) w e =
      let there = object_there names m.program m.places z m.machine m.represents i w e in
      by there.one there.stored
    where
      by : (o : Object) → slice_get z.store i ≡ Some o → header_in words w ≡ value_header z (object i)
      by (cons car cdr) stored =
          let low : w % 4 ≡ 1 = tag_told names m.program m.places z m.machine m.represents (object i) w e ∙ ap tag_in stored in
          rw (low, stored) refl
      by o stored = tagged (object i) w e (ap tag_in stored)
