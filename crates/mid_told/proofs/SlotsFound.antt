-- The slots that are found where a word points are those of the value.
use Rattle.std.proofs.Common.{◌≡◌, ℕ, ◌+◌, ◌*◌, ◌/◌, ◌%◌, ◌<◌, List, [], length, Option, Some, None, refl, sym, ap, subst, ◌∙◌, arith}
use Rattle.std.specs.Prelude.{slice_get, slice_index_or}
use Rattle.lang_meaning.specs.declared.program.ClassRow.{ClassRow}
use Rattle.lang_meaning.specs.Values.{Value, integer, character, symbol, named, unnamed, nil, object}
use Rattle.lang_meaning.specs.Objects.{Object, instance}
use Rattle.lang_meaning.specs.State as meaning
use Rattle.mid_arena.specs.Tags.{instance_header, tag_of}
use Rattle.mid_arena.specs.Places.{Spot, Places, word_of}
use Rattle.mid_arena.specs.Layouts.{ObjectAt}
use Rattle.mid_arena.specs.Standing.{SlotAt}
use Rattle.mid_arena.proofs.Arguments.{tag_in, tag_told, object_there}
use Rattle.mid_arena.proofs.Arguments as arguments
use Rattle.mid_arena.proofs.Keeping.{header_of}
use Rattle.lang_told.specs.Told.{slots_at, slots_of_object}
use Rattle.mid_told.specs.Reading.{read_at, header_in}
use Rattle.mid_told.specs.Stands.{Stands}
use Rattle.mid_told.specs.Slots.{slot_count_of}
use Rattle.mid_told.specs.Telling.{IsSlotWord}
use Rattle.mid_told.proofs.Reading.{reads, header_is}

-- so many slots have their words from a place on
pub record SlotsIn (places : Places) (words : List ℕ) (at count : ℕ) (slots : List (Option Value)) : Type 0 where
  pub count_is : length slots ≡ count
  pub each : (k : ℕ) → k < length slots → IsSlotWord places (slice_index_or slots k None) (read_at words (at + k))

instance_count : (n : ℕ) → slot_count_of (instance_header n) ≡ n
instance_count n =
    let low : (16 * n + 3) % 16 ≡ 3 = omega arith in
    let high : (16 * n + 3) / 16 ≡ n = omega arith in
    rw low high

no_slots : (places : Places) (words : List ℕ) (at count : ℕ) → count ≡ 0 → SlotsIn places words at count []
no_slots places words at count none = record { count_is = sym none; each = λ k h. absurd (omega arith) }

module _ (names : List (List ℕ)) (classes : List ClassRow) (z : meaning.State) (words : List ℕ) (m : Stands names classes z words) where
  slot_word : (address at : ℕ) (slot : Option Value) → SlotAt m.places m.machine.arena address slot → address / 4 ≡ at → IsSlotWord m.places slot (read_at words at)
  slot_word address at None stands same = reads names classes z words m address at 7 stands same
  slot_word address at (Some v) stands same =
      stands.of_value ∙ ap (λ w. Some w) (sym (reads names classes z words m address at stands.word stands.stands same))

  none_by : (w h : ℕ) → header_in words w ≡ h → slot_count_of h ≡ 0 → SlotsIn m.places words (w / 4 + 2) (slot_count_of (header_in words w)) []
  none_by w h header none = no_slots m.places words (w / 4 + 2) (slot_count_of (header_in words w)) (ap slot_count_of header ∙ none)

  object_slots :
      (i w : ℕ) → word_of m.places (object i) ≡ Some w
      → SlotsIn m.places words (w / 4 + 2) (slot_count_of (header_in words w)) (slots_at z.store (object i))
  object_slots i w e =
      let it = object_there names m.program m.places z m.machine m.represents i w e in
      subst (λ slots. SlotsIn m.places words (w / 4 + 2) (slot_count_of (header_in words w)) slots) (sym (ap slots_of_object it.stored))
      (by it.one it.spot it.stored it.stands it.spot_stands.aligned it.word)
    where
      head : (o : Object) → slice_get z.store i ≡ Some o → header_in words w ≡ header_of o
      head o stored = header_is names classes z words m (object i) w e ∙ ap arguments.header_in stored

      by : (o : Object) (spot : Spot) → slice_get z.store i ≡ Some o → ObjectAt names m.program m.places m.machine.arena spot o → spot.address % 4 ≡ 0
          → w ≡ spot.address + tag_of o → SlotsIn m.places words (w / 4 + 2) (slot_count_of (header_in words w)) (slots_of_object (Some o))
      by (instance c values mark) spot stored stands aligned pointer = record {
        count_is = sym (ap slot_count_of (head (instance c values mark) stored) ∙ instance_count (length values));
        each = λ k h.
            slot_word (spot.address + 8 + 4 * k) (w / 4 + 2 + k) (slice_index_or values k None) (stands.values_there k h) (omega (arith, pointer, aligned));
      }
      by o spot stored stands aligned pointer = none_by w (header_of o) (head o stored) refl

  pub slots_told :
      (v : Value) (w : ℕ) → word_of m.places v ≡ Some w
      → SlotsIn m.places words (w / 4 + 2) (slot_count_of (header_in words w)) (slots_at z.store v)
  slots_told (integer n) w e = none_by w 0 (header_is names classes z words m (integer n) w e) refl
  slots_told (character c) w e = none_by w 0 (header_is names classes z words m (character c) w e) refl
  slots_told (symbol (named name)) w e = none_by w 9 (header_is names classes z words m (symbol (named name)) w e) refl
  slots_told (symbol (unnamed expansion serial)) w e =
      none_by w 10 (header_is names classes z words m (symbol (unnamed expansion serial)) w e) refl
  slots_told nil w e = none_by w 0 (header_is names classes z words m nil w e) refl
  slots_told (object i) w e = object_slots i w e
