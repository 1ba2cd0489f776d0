-- The line that finds the word of the class of a value, beside the meaning's class of it; and the primitive that gives a value's class.
use Rattle.std.proofs.Common.{◌≡◌, ℕ, ◌+◌, ◌*◌, ◌%◌, ◌^◌, ◌<◌, ◌≤◌, pos, true, false, List, [], ◌∷◌, length, Option, Some, refl, ap, ◌∙◌, arith}
use Rattle.std.specs.Prelude.{◌==◌, nat_le, slice_get, slice_set, if◌then◌else◌}
use Rattle.std.proofs.lemmas.Bool.Decides.{nat_tests}
use Rattle.lang_meaning.specs.declared.program.ProgramRows.{ProgramRows}
use Rattle.lang_meaning.specs.declared.primitive.Primitive.TheVariants.{ClassOf}
use Rattle.lang_meaning.specs.Objects.{Object, cons, string, vector, instance, function, closure, generic_function, class_object, input_stream, output_stream, fresh_symbol, character_class}
use Rattle.lang_meaning.specs.Objects.{cons_class, null_class, integer_class, built_in_class_class, standard_class_class}
use Rattle.lang_meaning.specs.State as meaning
use Rattle.lang_meaning.specs.Values.{named, unnamed, Value, integer, character, symbol, nil, object}
use Rattle.lang_meaning.specs.Classes.{class_of, class_of_object as class_of_stored}
use Rattle.mid_code.specs.declared.operation.Comparison.TheVariants.{Equal}
use Rattle.mid_code.specs.Arena.{word_at}
use Rattle.base.specs.Arithmetic.{shift_left}
use Rattle.mid_code.specs.MidCode.{return_word, MidStep, code_of}
use Rattle.mid_code.specs.State.{first_registers, Registers, MidState, register}
use Rattle.mid_arena.specs.Tags.{nil_word, class_header, tag_of}
use Rattle.mid_arena.specs.Places.{Spot, Places, word_of}
use Rattle.mid_arena.specs.Standing.{SpotStands}
use Rattle.mid_arena.specs.Layouts.{ObjectAt}
use Rattle.mid_arena.specs.FixedWords.{class_address}
use Rattle.mid_arena.specs.Steps as steps
use Rattle.mid_arena.specs.Steps.{class_of_object, class_word}
use Rattle.mid_arena.proofs.Keeping.{header_of}
use Rattle.mid_arena.proofs.WordFacts.{tag_tested}
use Rattle.mid_arena.proofs.Arguments.{character_word_is, tag_in, header_in, value_tag, value_header, tag_told, header_told, word_told, object_there, object_found}
use Rattle.mid_arena.proofs.Running.{constant_falls, compute_falls}
use Rattle.mid_arena.proofs.Doing.{alike_self, part_then, returns_value}
use Rattle.mid_arena.proofs.Taking.{does_one}
use Rattle.mid_arena.proofs.ClassHeaders.{KindHeader, of_string, of_vector, of_function, of_generic, of_input, of_output, of_symbol, of_fresh, Seeking, OnTheWay, Finds, finds_within, seeking_first}
use Rattle.mid_arena.proofs.ClassHeaders.{finds_after, finds_first, finds_second, six, six_there, finds_fixed, finds_where, finds_otherwise, finds_by_header, finds_of_class}
use Rattle.mid_arena.proofs.ClassHeaders.{finds_of_instance, finds_of_other}
use Rattle.mid_arena.proofs.Telling.{character_not_nil}
use Rattle.mid_arena.proofs.Registers.{register_beside, register_here, same_size}
use Rattle.mid_arena.proofs.Memory.{spot_low}
use Rattle.mid_arena.proofs.Entering.{InEveryFrame}

module _ {names : List (List ℕ)} {program : ProgramRows} {places : Places} {z : meaning.State} {y : MidState} (here : Seeking names program places z y) where
  -- ---- by the tag

  -- the code behind that of integers, behind that of conses, and behind that of objects
  abbrev behind_objects : List MidStep
  behind_objects = steps.class_where here.to here.of nil_word (pos (class_address null_class)) (steps.fixed_class here.to (pos (class_address character_class)))

  abbrev behind_conses : List MidStep
  behind_conses = steps.constant 6 (2 ^ 31) ∷ steps.either (steps.comparing Equal 7 6) (class_of_object here.to here.of) behind_objects ∷ []

  abbrev behind_integers : List MidStep
  behind_integers = steps.class_where here.to 7 (2 ^ 30) (pos (class_address cons_class)) behind_conses

  abbrev by_tag : List MidStep
  by_tag = steps.class_where here.to 7 0 (pos (class_address integer_class)) behind_integers

  -- the tag is put into register 7
  finds_by_tag :
      {class k bound : ℕ} → length here.start ≡ 8
      → ((k : ℕ) (rs : Registers) → OnTheWay here (shift_left here.word 30) rs → Finds here class (code_of by_tag) rs k bound)
      → Finds here class (code_of (class_word here.to here.of)) here.start k (22 + bound)
  unfolding class_word
  finds_by_tag {k = k} size f =
      finds_within here
      (finds_after here 6 constant_falls
      (finds_after here 6 constant_falls
      (finds_after here 10 (compute_falls (others here.of here.of_low ∙ here.held) (register_here (slice_set here.start 5 (Some 0)) 6 30 (omega (arith, zeroed)))) (f _ _ way)))) (omega arith)
    where
      zeroed : length (slice_set here.start 5 (Some 0)) ≡ 8
      zeroed = same_size here.start 5 (Some 0) size

      put : length (slice_set (slice_set here.start 5 (Some 0)) 6 (Some 30)) ≡ 8
      put = same_size (slice_set here.start 5 (Some 0)) 6 (Some 30) zeroed

      others : (i : ℕ) → i < 3 → register i (slice_set (slice_set here.start 5 (Some 0)) 6 (Some 30)) ≡ register i here.start
      others i h = register_beside (slice_set here.start 5 (Some 0)) 6 i (Some 30) (omega arith) ∙ register_beside here.start 5 i (Some 0) (omega arith)

      way : OnTheWay here (shift_left here.word 30) (slice_set (slice_set (slice_set here.start 5 (Some 0)) 6 (Some 30)) 7 (Some (shift_left here.word 30)))
      way = record {
        size = same_size (slice_set (slice_set here.start 5 (Some 0)) 6 (Some 30)) 7 (Some (shift_left here.word 30)) put;
        others = λ i h. register_beside (slice_set (slice_set here.start 5 (Some 0)) 6 (Some 30)) 7 i (Some (shift_left here.word 30)) (omega arith) ∙ others i h;
        zero_there =
            register_beside (slice_set (slice_set here.start 5 (Some 0)) 6 (Some 30)) 7 5 (Some (shift_left here.word 30)) (omega arith)
            ∙ register_beside (slice_set here.start 5 (Some 0)) 6 5 (Some 30) (omega arith) ∙ register_here here.start 5 0 (omega (arith, size));
        seven = register_here (slice_set (slice_set here.start 5 (Some 0)) 6 (Some 30)) 7 (shift_left here.word 30) (omega (arith, put));
      }

  -- what a tag says to the tests
  tag_says : (v : Value) (tag : ℕ) → word_of places v ≡ Some here.word → (shift_left here.word 30 == 2 ^ 30 * tag) ≡ (value_tag z v == tag)
  tag_says v tag e = tag_tested here.word tag ∙ ap (λ t. t == tag) (tag_told names program places z y here.represents v here.word e)

  module _ (v : Value) (e : word_of places v ≡ Some here.word) {rs : Registers} (o : OnTheWay here (shift_left here.word 30) rs) where
    finds_integer : {k : ℕ} → value_tag z v ≡ 0 → Finds here integer_class (code_of by_tag) rs k 232
    finds_integer tag = finds_within here (finds_where here 7 0 integer_class behind_integers o (six here _ o).seven (omega arith) (tag_says v 0 e ∙ ap (λ t. t == 0) tag)) (omega arith)

    finds_cons : {k : ℕ} → value_tag z v ≡ 1 → Finds here cons_class (code_of by_tag) rs k 232
    finds_cons tag =
        finds_within here (finds_otherwise here 7 0 integer_class behind_integers o (six here _ o).seven (tag_says v 0 e ∙ ap (λ t. t == 0) tag)
        (finds_where here 7 (2 ^ 30) cons_class behind_conses (six here _ o) (six here _ (six here _ o)).seven (omega arith) (tag_says v 1 e ∙ ap (λ t. t == 1) tag))) (omega arith)

    finds_object :
        {k class : ℕ} → value_tag z v ≡ 2
        → ((u k : ℕ) (rs : Registers) → OnTheWay here u rs → Finds here class (code_of (class_of_object here.to here.of)) rs k 172) → Finds here class (code_of by_tag) rs k 232
    finds_object tag f =
        finds_within here (finds_otherwise here 7 0 integer_class behind_integers o (six here _ o).seven (tag_says v 0 e ∙ ap (λ t. t == 0) tag)
        (finds_otherwise here 7 (2 ^ 30) cons_class behind_conses (six here _ o) (six here _ (six here _ o)).seven (tag_says v 1 e ∙ ap (λ t. t == 1) tag)
        (finds_after here 6 constant_falls (finds_first here (six here _ (six here _ (six here _ o))).seven (six_there here _ (six here _ (six here _ o))) (tag_says v 2 e ∙ ap (λ t. t == 2) tag)
        (f _ _ _ (six here _ (six here _ (six here _ o)))))))) (omega arith)

    finds_other :
        {k class : ℕ} → value_tag z v ≡ 3
        → ((u k : ℕ) (rs : Registers) → OnTheWay here u rs → Finds here class (code_of behind_objects) rs k 30) → Finds here class (code_of by_tag) rs k 232
    finds_other tag f =
        finds_within here (finds_otherwise here 7 0 integer_class behind_integers o (six here _ o).seven (tag_says v 0 e ∙ ap (λ t. t == 0) tag)
        (finds_otherwise here 7 (2 ^ 30) cons_class behind_conses (six here _ o) (six here _ (six here _ o)).seven (tag_says v 1 e ∙ ap (λ t. t == 1) tag)
        (finds_after here 6 constant_falls (finds_second here (six here _ (six here _ (six here _ o))).seven (six_there here _ (six here _ (six here _ o))) (tag_says v 2 e ∙ ap (λ t. t == 2) tag)
        (f _ _ _ (six here _ (six here _ (six here _ o)))))))) (omega arith)

  -- ---- by the value

  -- what has the tag of objects has a word of at least 2
  tag_high : (v : Value) → word_of places v ≡ Some here.word → value_tag z v ≡ 2 → 2 ≤ here.word
  tag_high v e tag = omega (arith, tag_told names program places z y here.represents v here.word e, tag)

  -- another object than an instance and a class, or a symbol
  finds_by_kind :
      {h class k : ℕ} {rs : Registers} (v : Value) → word_of places v ≡ Some here.word → value_tag z v ≡ 2 → value_header z v ≡ h → KindHeader h class
      → (h % 16 == 3) ≡ false → (h == class_header) ≡ false → OnTheWay here (shift_left here.word 30) rs → Finds here class (code_of by_tag) rs k 232
  finds_by_kind v e tag header kind no_instance no_class o =
      finds_object v e o tag (λ u k rs p.
      finds_of_other here p (tag_high v e tag) (word_told names program places z y here.represents v here.word e)
      (header_told names program places z y here.represents v here.word e tag ∙ ap (λ h. Some h) header) no_instance (λ k rs later. finds_by_header here kind no_class later))

  module _ (i : ℕ) (e : word_of places (object i) ≡ Some here.word) {rs : Registers} (o : OnTheWay here (shift_left here.word 30) rs) where
    -- the words behind the header of an object that has one
    second_bounded : (s : Spot) → SpotStands y.arena s → here.word ≡ s.address + 2 → here.word + 2 < 2 ^ 32
    second_bounded s stands at = omega (arith, at, stands.some, spot_low here.represents.arena stands)

    second_of : (s : Spot) (x : ℕ) → here.word ≡ s.address + 2 → word_at y.arena (s.address + 4) ≡ Some x → word_at y.arena (here.word + 2) ≡ Some x
    second_of s x at f = let same : here.word + 2 ≡ s.address + 4 = omega (arith, at) in rw same f

    finds_kind_object :
        {h class k : ℕ} (one : Object) → slice_get z.store i ≡ Some one → tag_of one ≡ 2 → header_of one ≡ h → KindHeader h class
        → (h % 16 == 3) ≡ false → (h == class_header) ≡ false → Finds here class (code_of by_tag) rs k 232
    finds_kind_object one stored tag header kind no_instance no_class =
        finds_by_kind (object i) e (ap tag_in stored ∙ tag) (ap header_in stored ∙ header) kind no_instance no_class o

    finds_instance :
        {k : ℕ} (c : ℕ) (values : List (Option Value)) (mark : Value) → slice_get z.store i ≡ Some (instance c values mark)
        → Finds here c (code_of by_tag) rs k 232
    finds_instance c values mark stored =
        let it = object_found names program places z y here.represents (object i) here.word (instance c values mark) e stored in
        let tag : value_tag z (object i) ≡ 2 = ap tag_in stored in
        let header = header_told names program places z y here.represents (object i) here.word e tag ∙ ap (λ x. Some (header_in x)) stored in
        finds_object (object i) e o tag (λ u k rs p.
        finds_of_instance here p (tag_high (object i) e tag) (second_bounded it.spot it.spot_stands it.word) header (is_instance (length values))
        (second_of it.spot it.stands.class.word it.word it.stands.class.stands) it.stands.class.of_value)
      where
        is_instance : (n : ℕ) → ((16 * n + 3) % 16 == 3) ≡ true
        is_instance n = grind (arith, nat_tests)

    finds_class_object :
        {k : ℕ} (c : ℕ) → slice_get z.store i ≡ Some (class_object c)
        → Finds here (if nat_le c 16 then built_in_class_class else standard_class_class) (code_of by_tag) rs k 232
    finds_class_object c stored =
        let it = object_found names program places z y here.represents (object i) here.word (class_object c) e stored in
        let tag : value_tag z (object i) ≡ 2 = ap tag_in stored in
        let header = header_told names program places z y here.represents (object i) here.word e tag ∙ ap (λ x. Some (header_in x)) stored in
        finds_object (object i) e o tag (λ u k rs p.
        finds_of_other here p (tag_high (object i) e tag) (word_told names program places z y here.represents (object i) here.word e) header refl
        (λ k rs later. finds_of_class here c (second_bounded it.spot it.spot_stands it.word) (second_of it.spot (4 * c) it.word it.stands.number) later))

  -- by what the object is
  finds_stored :
      {k : ℕ} {rs : Registers} (i : ℕ) → word_of places (object i) ≡ Some here.word → OnTheWay here (shift_left here.word 30) rs → (one : Object) → slice_get z.store i ≡ Some one
      → (spot : Spot) → ObjectAt names program places y.arena spot one → Finds here (class_of_stored (Some one)) (code_of by_tag) rs k 232
  finds_stored i e o (cons car cdr) stored spot at = finds_cons (object i) e o (ap tag_in stored)
  finds_stored i e o (string bytes) stored spot at = finds_kind_object i e o _ stored refl refl of_string refl refl
  finds_stored i e o (vector vs) stored spot at = finds_kind_object i e o _ stored refl refl of_vector refl refl
  finds_stored i e o (instance c values mark) stored spot at = finds_instance i e o c values mark stored
  finds_stored i e o (function p) stored spot at = finds_kind_object i e o _ stored refl refl of_function refl refl
  finds_stored i e o (closure required rest body env) stored spot at = absurd at
  finds_stored i e o (generic_function g) stored spot at = finds_kind_object i e o _ stored refl refl of_generic refl refl
  finds_stored i e o (class_object c) stored spot at = finds_class_object i e o c stored
  finds_stored i e o input_stream stored spot at = finds_kind_object i e o _ stored refl refl of_input refl refl
  finds_stored i e o output_stream stored spot at = finds_kind_object i e o _ stored refl refl of_output refl refl
  finds_stored i e o (fresh_symbol serial) stored spot at = finds_kind_object i e o _ stored refl refl of_fresh refl refl

  finds_value : {k : ℕ} {rs : Registers} (v : Value) → word_of places v ≡ Some here.word → OnTheWay here (shift_left here.word 30) rs → Finds here (class_of z v) (code_of by_tag) rs k 232
  finds_value (integer n) e o = finds_integer (integer n) e o refl
  finds_value (character c) e o =
      let tag = tag_told names program places z y here.represents (character c) here.word e in
      let at = character_word_is places c here.word e in
      finds_other (character c) e o refl (λ u k rs p.
      finds_within here (finds_otherwise here here.of nil_word null_class (steps.fixed_class here.to (pos (class_address character_class))) p
      ((six here _ p).others here.of here.of_low ∙ here.held) (character_not_nil c here.word at.1) (finds_fixed here character_class (six here _ p) (omega arith))) (omega arith))
  finds_value (symbol (named name)) e o = finds_by_kind (symbol (named name)) e refl refl of_symbol refl refl o
  finds_value (symbol (unnamed expansion serial)) e o = finds_by_kind (symbol (unnamed expansion serial)) e refl refl of_fresh refl refl o
  finds_value nil e o =
      let at : nil_word ≡ here.word = cc e in
      finds_other nil e o refl (λ u k rs p.
      finds_within here (finds_where here here.of nil_word null_class (steps.fixed_class here.to (pos (class_address character_class))) p ((six here _ p).others here.of here.of_low ∙ here.held)
      (omega arith) (rw (← at) refl)) (omega arith))
  finds_value (object i) e o =
      let there = object_there names program places z y here.represents i here.word e in
      rw there.stored (finds_stored i e o there.one there.stored there.spot there.stands)

  -- the line finds the word of the class of the value
  pub class_of_found : {k : ℕ} (v : Value) → word_of places v ≡ Some here.word → length here.start ≡ 8 → Finds here (class_of z v) (code_of (class_word here.to here.of)) here.start k 254
  class_of_found v e size = finds_by_tag size (λ k rs o. finds_value v e o)

-- ---- the primitive that gives the class of a value

pub class_of_does : InEveryFrame ClassOf
class_of_does = does_one ClassOf refl (λ v w names program places z y procedures below n r are units.
    let here : Seeking names program places z y = seeking_first r procedures below n w (first_registers 8 (w ∷ [])) refl in
    let f = class_of_found here {k = y.cost} v are.0 refl in
    part_then names program places z y procedures below (class_word 2 0) (return_word 2 ∷ []) f.runs
    (returns_value names program places z y procedures below r f.there f.of_class (alike_self z) (omega (arith, f.within))))
