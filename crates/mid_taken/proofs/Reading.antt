-- What is read of words that represent a state.
use Rattle.std.proofs.Common.{◌≡◌, ℕ, ◌+◌, ◌-◌, ◌/◌, ◌%◌, ℤ, pos, true, List, Option, Some, None, refl, sym, ap, ◌∙◌, arith}
use Rattle.std.specs.Prelude.{◌*ℤ◌, int_div, slice_get, IsSome}
use Rattle.std.specs.Option.{unwrap_or}
use Rattle.std.proofs.lemmas.Int.{ints}
use Rattle.base.specs.declared.datum.Symbol.{Symbol}
use Rattle.lang_meaning.specs.Values.{Value, integer, character, symbol, nil, object, same}
use Rattle.lang_meaning.specs.Objects.{Object}
use Rattle.lang_meaning.specs.State as meaning
use Rattle.mid_code.specs.Arena.{word_at}
use Rattle.mid_arena.specs.Tags.{object_tag, tag_of}
use Rattle.mid_arena.specs.Places.{Spot, word_of}
use Rattle.mid_arena.specs.Layouts.{ObjectAt}
use Rattle.mid_arena.proofs.Arguments.{tag_in, header_in, value_tag, value_header, tag_told, header_told, object_there}
use Rattle.mid_arena.proofs.Keeping.{header_of}
use Rattle.lang_taken.specs.Shapes.{shape_of, shape_of_object}
use Rattle.mid_taken.specs.Index.{Index, symbol_at}
use Rattle.mid_taken.specs.Stands.{Stands}

-- a word that is read at the place of an address
pub word_read :
    (words : List ℕ) (at place got word : ℕ) → got ≡ unwrap_or (slice_get words at) 0 → at ≡ place → slice_get words place ≡ Some word → got ≡ word
word_read words at place got word read same there =
    read ∙ ap (λ k. unwrap_or (slice_get words k) 0) same ∙ ap (λ o. unwrap_or o 0) there

pub word_there : (words : List ℕ) (at place word : ℕ) → place ≡ at → slice_get words place ≡ Some word → slice_get words at ≡ Some word
word_there words at place word same there = ap (slice_get words) (sym same) ∙ there

-- only nil is nil
pub nil_is : (v : Value) → same v nil ≡ true → v ≡ nil
nil_is nil e = refl
nil_is (integer n) e = absurd (cc e)
nil_is (character c) e = absurd (cc e)
nil_is (symbol s) e = absurd (cc e)
nil_is (object i) e = absurd (cc e)

pub not_none : (o : Option Symbol) → IsSome o → o ≡ None → ⊥
not_none None some none = absurd (cc some)
not_none (Some s) some none = absurd (cc none)

-- a fourth of four times an integer
pub quarter : (n : ℤ) → int_div (pos 4 *ℤ n) (pos 4) ≡ n
quarter n = omega (arith, ints)

-- an object to which a word points that is no cons and no symbol that was there before the run
pub record ObjectRead (names : List (List ℕ)) (z : meaning.State) (words : List ℕ) (index : Index) (m : Stands names z words index) (v : Value) (w header : ℕ) : Type 0 where
  pub one : Object
  pub number : ℕ
  pub stored : slice_get z.store number ≡ Some one
  pub shape_is : shape_of z.store v ≡ shape_of_object (Some one)
  pub spot : Spot
  pub stands : ObjectAt names m.program m.places m.machine.arena spot one
  pub tag : tag_of one ≡ object_tag
  pub aligned : spot.address % 4 ≡ 0
  pub word : w ≡ spot.address + 2
  pub header_is : header ≡ header_of one

module _ (names : List (List ℕ)) (z : meaning.State) (words : List ℕ) (index : Index) (m : Stands names z words index) where
  pub object_read :
      (v : Value) (w at header : ℕ) → word_of m.places v ≡ Some w → w % 4 ≡ object_tag → symbol_at w index ≡ None → at ≡ w / 4
      → header ≡ unwrap_or (slice_get words at) 0 → ObjectRead names z words index m v w header
  object_read (integer n) w at header e tag none place read =
      absurd (omega (arith, tag, tag_told names m.program m.places z m.machine m.represents (integer n) w e))
  object_read (character c) w at header e tag none place read =
      absurd (omega (arith, tag, tag_told names m.program m.places z m.machine m.represents (character c) w e))
  object_read (symbol s) w at header e tag none place read = absurd (not_none (symbol_at w index) (m.there s w e) none)
  object_read nil w at header e tag none place read =
      absurd (omega (arith, tag, tag_told names m.program m.places z m.machine m.represents nil w e))
  object_read (object i) w at header e tag none place read =
      let there = object_there names m.program m.places z m.machine m.represents i w e in
      let told : w % 4 ≡ value_tag z (object i) = tag_told names m.program m.places z m.machine m.represents (object i) w e in
      let is : value_tag z (object i) ≡ tag_of there.one = ap tag_in there.stored in
      let tag_is : tag_of there.one ≡ object_tag = omega (arith, told, is, tag) in
      let stands : word_at m.machine.arena (w - 2) ≡ Some (value_header z (object i)) =
      header_told names m.program m.places z m.machine m.represents (object i) w e (is ∙ tag_is) in
      record {
        one = there.one;
        number = i;
        stored = there.stored;
        shape_is = ap shape_of_object there.stored;
        spot = there.spot;
        stands = there.stands;
        tag = tag_is;
        aligned = there.spot_stands.aligned;
        word = omega (arith, there.word, tag_is);
        header_is =
            word_read words at ((w - 2) / 4) header (value_header z (object i)) read (omega (arith, place, tag)) (m.same_words (w - 2) _ stands)
            ∙ ap header_in there.stored;
      }
