-- The class that is found by tag and header is that of the value.
use Rattle.std.proofs.Common.{◌≡◌, ℕ, ◌+◌, ◌*◌, ◌%◌, false, List, length, Some, None, refl, sym, ap, ◌∙◌, arith}
use Rattle.std.specs.Prelude.{◌==◌, slice_get}
use Rattle.std.proofs.lemmas.Bool.Decides.{nat_tests}
use Rattle.lang_meaning.specs.declared.program.ClassRow.{ClassRow}
use Rattle.lang_meaning.specs.Values.{Value, integer, character, symbol, named, unnamed, nil, object}
use Rattle.lang_meaning.specs.Objects.{Object, cons, instance, closure, class_object}
use Rattle.lang_meaning.specs.Classes.{class_of_object, fetch}
use Rattle.lang_meaning.specs.State as meaning
use Rattle.lang_meaning.specs.InitialHeap.{class_value}
use Rattle.mid_arena.specs.Tags.{object_tag, instance_header, class_header, symbol_header, fresh_header, tag_of}
use Rattle.mid_arena.specs.Places.{Spot, word_of}
use Rattle.mid_arena.specs.Layouts.{ObjectAt}
use Rattle.mid_arena.proofs.Arguments.{character_word_is, tag_in, tag_told, object_there, object_found}
use Rattle.mid_arena.proofs.Arguments as arguments
use Rattle.mid_arena.proofs.Keeping.{header_of}
use Rattle.lang_told.specs.Told.{class_at, which_class, class_of_class as class_in_object}
use Rattle.mid_told.specs.Reading.{header_in, second_in}
use Rattle.mid_told.specs.Stands.{Stands}
use Rattle.mid_told.specs.Classes.{class_in, class_of_class, class_of_object_in, number_in, which_class_in}
use Rattle.mid_told.proofs.Reading.{second_is, header_is}

-- ---- by the tag

class_zero : (words : List ℕ) (w : ℕ) → w % 4 ≡ 0 → class_in words w ≡ 13
unfolding class_in
class_zero words w tag = rw tag refl

class_cons : (words : List ℕ) (w : ℕ) → w % 4 ≡ 1 → class_in words w ≡ 9
unfolding class_in
class_cons words w tag = rw tag refl

class_object_tag : (words : List ℕ) (w : ℕ) → w % 4 ≡ 2 → class_in words w ≡ class_of_object_in words w (header_in words w)
unfolding class_in
class_object_tag words w tag = rw tag refl

class_nil : (words : List ℕ) (w : ℕ) → w ≡ 3 → class_in words w ≡ 11
unfolding class_in
class_nil words w is = rw is refl

class_character : (words : List ℕ) (w c : ℕ) → w ≡ 256 * c + 15 → class_in words w ≡ 5
unfolding class_in
class_character words w c is =
    let tag : w % 4 ≡ 3 = omega (arith, is) in
    let other : (w == 3) ≡ false = test w c is in
    rw (tag, other) refl
  where
    test : (w c : ℕ) → w ≡ 256 * c + 15 → (w == 3) ≡ false
    test w c is = grind (arith, nat_tests)

-- ---- by the header

instance_class : (words : List ℕ) (w n : ℕ) → class_of_object_in words w (instance_header n) ≡ number_in words (second_in words w)
instance_class words w n = let low : (16 * n + 3) % 16 ≡ 3 = omega arith in rw low refl

no_class_header : (words : List ℕ) (w n : ℕ) → which_class_in words w (instance_header n) ≡ None
no_class_header words w n = let other : (16 * n + 3 == 6) ≡ false = grind (arith, nat_tests) in rw other refl

module _ (names : List (List ℕ)) (classes : List ClassRow) (z : meaning.State) (words : List ℕ) (m : Stands names classes z words) where
  by_header : (w h : ℕ) → w % 4 ≡ 2 → header_in words w ≡ h → class_in words w ≡ class_of_object_in words w h
  by_header w h low header = class_object_tag words w low ∙ ap (λ x. class_of_object_in words w x) header

  -- the number of the class to whose object a word points
  number_is : (v : Value) (w c : ℕ) → word_of m.places v ≡ Some w → fetch z v ≡ Some (class_object c) → number_in words w ≡ c
  number_is v w c e f =
      let it = object_found names m.program m.places z m.machine m.represents v w (class_object c) e f in
      let low : w % 4 ≡ 2 = omega (arith, it.word, it.spot_stands.aligned) in
      let next : second_in words w ≡ 4 * c =
      second_is names classes z words m w it.spot.address 2 (4 * c) it.word it.spot_stands.aligned low it.stands.number in
      omega (arith, next)

  object_class : (i w : ℕ) → word_of m.places (object i) ≡ Some w → class_in words w ≡ class_at z.store (object i)
  object_class i w e =
      let it = object_there names m.program m.places z m.machine m.represents i w e in
      by it.one it.spot it.stored it.stands it.spot_stands.aligned it.word ∙ sym (ap class_of_object it.stored)
    where
      low_is : (o : Object) → slice_get z.store i ≡ Some o → w % 4 ≡ tag_of o
      low_is o stored = tag_told names m.program m.places z m.machine m.represents (object i) w e ∙ ap tag_in stored

      head : (o : Object) → slice_get z.store i ≡ Some o → header_in words w ≡ header_of o
      head o stored = header_is names classes z words m (object i) w e ∙ ap arguments.header_in stored

      simple :
          (o : Object) → slice_get z.store i ≡ Some o → tag_of o ≡ object_tag → class_of_object_in words w (header_of o) ≡ class_of_object (Some o)
          → class_in words w ≡ class_of_object (Some o)
      simple o stored tag is = by_header w (header_of o) (low_is o stored ∙ tag) (head o stored) ∙ is

      by : (o : Object) (spot : Spot) → slice_get z.store i ≡ Some o → ObjectAt names m.program m.places m.machine.arena spot o → spot.address % 4 ≡ 0
          → w ≡ spot.address + tag_of o → class_in words w ≡ class_of_object (Some o)
      by (cons car cdr) spot stored stands aligned pointer = class_cons words w (low_is (cons car cdr) stored)
      by (instance c values mark) spot stored stands aligned pointer =
          let low : w % 4 ≡ 2 = low_is (instance c values mark) stored in
          let next : second_in words w ≡ stands.class.word =
          second_is names classes z words m w spot.address 2 stands.class.word pointer aligned low stands.class.stands in
          let there : fetch z (class_value names m.program c) ≡ Some (class_object c) =
          m.represents.classes.objects c (m.represents.classes.instances i c values mark stored) in
          by_header w (instance_header (length values)) low (head (instance c values mark) stored) ∙ instance_class words w (length values)
          ∙ ap (λ x. number_in words x) next ∙ number_is (class_value names m.program c) stands.class.word c stands.class.of_value there
      by (class_object c) spot stored stands aligned pointer =
          by_header w class_header (low_is (class_object c) stored) (head (class_object c) stored) ∙ ap class_of_class (number_is (object i) w c e stored)
      by (closure required rest body env) spot stored stands aligned pointer = absurd stands
      by o spot stored stands aligned pointer = simple o stored refl refl

  pub class_told : (v : Value) (w : ℕ) → word_of m.places v ≡ Some w → class_in words w ≡ class_at z.store v
  class_told (integer n) w e = class_zero words w (tag_told names m.program m.places z m.machine m.represents (integer n) w e)
  class_told (character c) w e = class_character words w c (character_word_is m.places c w e).1
  class_told (symbol (named name)) w e =
      by_header w symbol_header (tag_told names m.program m.places z m.machine m.represents (symbol (named name)) w e)
      (header_is names classes z words m (symbol (named name)) w e)
  class_told (symbol (unnamed expansion serial)) w e =
      by_header w fresh_header (tag_told names m.program m.places z m.machine m.represents (symbol (unnamed expansion serial)) w e)
      (header_is names classes z words m (symbol (unnamed expansion serial)) w e)
  class_told nil w e = let is : 3 ≡ w = cc e in class_nil words w (sym is)
  class_told (object i) w e = object_class i w e

  -- which class it is

  which_by : (w h : ℕ) → header_in words w ≡ h → which_class_in words w (header_in words w) ≡ which_class_in words w h
  which_by w h header = ap (λ x. which_class_in words w x) header

  object_which : (i w : ℕ) → word_of m.places (object i) ≡ Some w → which_class_in words w (header_in words w) ≡ which_class z.store (object i)
  object_which i w e =
      let it = object_there names m.program m.places z m.machine m.represents i w e in by it.one it.stored ∙ sym (ap class_in_object it.stored)
    where
      head : (o : Object) → slice_get z.store i ≡ Some o → header_in words w ≡ header_of o
      head o stored = header_is names classes z words m (object i) w e ∙ ap arguments.header_in stored

      by : (o : Object) → slice_get z.store i ≡ Some o → which_class_in words w (header_in words w) ≡ class_in_object (Some o)
      by (class_object c) stored =
          which_by w class_header (head (class_object c) stored) ∙ ap (λ n. Some n) (number_is (object i) w c e stored)
      by (instance c values mark) stored =
          which_by w (instance_header (length values)) (head (instance c values mark) stored) ∙ no_class_header words w (length values)
      by o stored = which_by w (header_of o) (head o stored)

  pub which_told : (v : Value) (w : ℕ) → word_of m.places v ≡ Some w → which_class_in words w (header_in words w) ≡ which_class z.store v
  which_told (integer n) w e = which_by w 0 (header_is names classes z words m (integer n) w e)
  which_told (character c) w e = which_by w 0 (header_is names classes z words m (character c) w e)
  which_told (symbol (named name)) w e =
      which_by w symbol_header (header_is names classes z words m (symbol (named name)) w e)
  which_told (symbol (unnamed expansion serial)) w e =
      which_by w fresh_header (header_is names classes z words m (symbol (unnamed expansion serial)) w e)
  which_told nil w e = which_by w 0 (header_is names classes z words m nil w e)
  which_told (object i) w e = object_which i w e
