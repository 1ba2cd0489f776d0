-- The lines that test an argument, beside the meaning's tests of it.
use Rattle.std.proofs.Common.{◌≡◌, ℕ, ◌+◌, ◌-◌, ◌*◌, ◌%◌, ◌^◌, ◌<◌, ◌≤◌, ℤ, pos, true, false, List, ◌++◌, length, Some, sym, ◌∙◌, arith}
use Rattle.std.specs.Prelude.{negsuc, ◌==◌, nat_lt, slice_set}
use Rattle.std.proofs.lemmas.Bool.Decides.{nat_tests}
use Rattle.lang_meaning.specs.declared.program.ProgramRows.{ProgramRows}
use Rattle.lang_meaning.specs.Values.{Value, integer, character, symbol, nil, object, named, unnamed, in_range}
use Rattle.lang_meaning.specs.Objects.{Object, cons, instance, integer_class, character_class, cons_class}
use Rattle.lang_meaning.specs.State as meaning
use Rattle.lang_meaning.specs.Classes.{fetch}
use Rattle.lang_meaning.specs.Primitives.{Answer, domain_error, an_integer, a_character, a_cons}
use Rattle.mid_code.specs.declared.program.MidProcedure.{MidProcedure}
use Rattle.mid_code.specs.Arena.{word_at}
use Rattle.base.specs.Arithmetic.{shift_left, difference32}
use Rattle.mid_code.specs.MidCode.{MidStep, code_of}
use Rattle.mid_code.specs.State.{Registers, MidState, MidOutcome, falls, ends, register}
use Rattle.mid_code.specs.Meaning.{Task}
use Rattle.mid_arena.specs.Tags.{object_tag, integer_word, character_word}
use Rattle.mid_arena.specs.Places.{Spot, Places, word_of}
use Rattle.mid_arena.specs.Standing.{SpotStands}
use Rattle.mid_arena.specs.Layouts.{ObjectAt}
use Rattle.mid_arena.proofs.Keeping.{header_of}
use Rattle.mid_arena.specs.FixedWords.{class_address}
use Rattle.mid_arena.specs.Represents.{Represents}
use Rattle.mid_arena.specs.Steps as steps
use Rattle.mid_arena.specs.Steps.{need_header, steps_of}
use Rattle.mid_arena.specs.declared.line.Line.TheVariants as line
use Rattle.mid_arena.proofs.Running.{RunsTo, StepsTo, turning, none_left, and_then, parts_then, constant_falls, compute_falls, load_falls, choose_first_falls, address_below}
use Rattle.mid_arena.proofs.WordFacts.{tag_tested, low_byte_tested}
use Rattle.mid_arena.proofs.Arguments.{value_tag, value_header, tag_told, header_told, object_there, word_told}
use Rattle.mid_arena.proofs.Telling.{integer_told, character_told, cons_told, IntegerTold, CharacterTold, ConsTold, integer_found, no_integer, character_found, no_character, cons_found, no_cons}
use Rattle.mid_arena.proofs.Doing.{alike_self, Run, goes_on, test_passes, second_answers, part_then, part_answers, paid}
use Rattle.mid_arena.proofs.Conditions.{domain_error_run}
use Rattle.mid_arena.proofs.Registers.{Scratched, not_scratched, scratched_seven, scratched_six, seven_behind_six, six_here}
use Rattle.mid_arena.proofs.Memory.{spot_low}

-- registers behind a test of the tag
abbrev pub tag_registers : (w bits : ℕ) → Registers → Registers
tag_registers w bits rs = slice_set (slice_set (slice_set rs 6 (Some 30)) 7 (Some (shift_left w 30))) 6 (Some bits)

-- registers behind a test of the header
abbrev pub header_registers : (w h header count : ℕ) → Registers → Registers
header_registers w h header count rs =
    slice_set (slice_set (slice_set (slice_set (tag_registers w (2 ^ 31) rs) 7 (Some h)) 6 (Some header)) 7 (Some (difference32 h header))) 6 (Some count)

-- behind a test that the lowest four bits of the header are those of an instance
abbrev pub instance_registers : (w h : ℕ) → Registers → Registers
instance_registers w h rs =
    slice_set (slice_set (slice_set (slice_set (tag_registers w (2 ^ 31) rs) 7 (Some h)) 6 (Some 28)) 7 (Some (shift_left h 28))) 6 (Some (3 * 2 ^ 28))

-- behind a test of the lowest byte
abbrev pub byte_registers : (w : ℕ) → Registers → Registers
byte_registers w rs = slice_set (slice_set (slice_set rs 6 (Some 24)) 7 (Some (shift_left w 24))) 6 (Some (15 * 2 ^ 24))

module _
    (names : List (List ℕ)) (program : ProgramRows) (places : Places) (z : meaning.State) (y : MidState) (r : Represents names program places z y)
    (procedures : List MidProcedure) (below : Task → MidState → MidOutcome)
  where
    -- An argument whose word is in one of the first registers, and the class that it is expected to be of. Where a test of it fails, the
    -- answer is a domain error.
    module _
        (n of w expected : ℕ) (v : Value) (rs : Registers) (low : of < 3) (size : length rs ≡ 8) (held : register of rs ≡ Some w)
        (word : word_of places v ≡ Some w) (class : expected < 34)
      where
        -- a domain error of the argument
        pub errs :
            (budget k : ℕ) (rs' : Registers) → Scratched rs rs' → k + 160 + 250 * z.units ≤ budget + 250 * (z.units + 5)
            → Run names program places z y procedures below n budget (domain_error v expected z) (code_of (steps.domain_error of (pos (class_address expected)))) rs' k
        errs budget k rs' s cost =
            domain_error_run names program places z y r procedures below n budget k of w expected v z rs' low s.size
            (s.others of (omega arith) ∙ held) word class (alike_self z) cost

        -- the registers where the tag is tested
        pub tag_scratched : (bits : ℕ) → Scratched rs (tag_registers w bits rs)
        tag_scratched bits = scratched_six _ _ _ (scratched_seven _ _ _ (scratched_six _ _ _ (not_scratched rs size)))

        -- the tag is that one
        pub tag_passes :
            (bits k : ℕ) → (shift_left w 30 == bits) ≡ true
            → RunsTo (turning procedures below n) (code_of (steps.need_tag of bits (pos (class_address expected)))) rs (paid y k)
            (ends falls (tag_registers w bits rs) (paid y (k + 6 + 10 + 6 + 12 + 2)))
        tag_passes bits k e =
            let first : Scratched rs (slice_set rs 6 (Some 30)) = scratched_six _ _ _ (not_scratched rs size) in
            let second : Scratched rs (slice_set (slice_set rs 6 (Some 30)) 7 (Some (shift_left w 30))) = scratched_seven _ _ _ first in
            and_then constant_falls
            (and_then (compute_falls (first.others of (omega arith) ∙ held) (six_here rs 30 size))
            (and_then constant_falls
            (and_then (choose_first_falls (seven_behind_six (slice_set rs 6 (Some 30)) (shift_left w 30) bits first.size) (six_here _ bits second.size) e none_left) none_left)))

        -- it is not
        pub tag_errs :
            (bits budget k : ℕ) → (shift_left w 30 == bits) ≡ false → k + 210 + 250 * z.units ≤ budget + 250 * (z.units + 5)
            → Run names program places z y procedures below n budget (domain_error v expected z) (code_of (steps.need_tag of bits (pos (class_address expected)))) rs k
        tag_errs bits budget k e cost =
            let first : Scratched rs (slice_set rs 6 (Some 30)) = scratched_six _ _ _ (not_scratched rs size) in
            let second : Scratched rs (slice_set (slice_set rs 6 (Some 30)) 7 (Some (shift_left w 30))) = scratched_seven _ _ _ first in
            goes_on names program places z y procedures below constant_falls
            (goes_on names program places z y procedures below (compute_falls (first.others of (omega arith) ∙ held) (six_here rs 30 size))
            (goes_on names program places z y procedures below constant_falls
            (second_answers names program places z y procedures below (seven_behind_six (slice_set rs 6 (Some 30)) (shift_left w 30) bits first.size)
            (six_here _ bits second.size) e
            (errs budget (k + 6 + 10 + 6 + 12) (tag_registers w bits rs) (tag_scratched bits) (omega (arith, cost))))))

        -- the header of what has the tag of objects is loaded
        pub header_loaded :
            (h k : ℕ) → (w % 4 == 2) ≡ true → word_at y.arena (w - 2) ≡ Some h
            → StepsTo (turning procedures below n) (steps.load 7 of (negsuc 1)) (tag_registers w (2 ^ 31) rs) (paid y k)
            (ends falls (slice_set (tag_registers w (2 ^ 31) rs) 7 (Some h)) (paid y (k + 8)))
        header_loaded h k tag at =
            let tag_is : w % 4 ≡ 2 = grind (arith, nat_tests) in
            load_falls ((tag_scratched (2 ^ 31)).others of (omega arith) ∙ held)
            (address_below w 1 (w - 2) (omega arith) (word_told names program places z y r v w word)) at

        -- it is among so many headers from that one on
        module _ (h header count k : ℕ) (tag : (w % 4 == 2) ≡ true) (at : word_at y.arena (w - 2) ≡ Some h) where
          loaded : Scratched rs (slice_set (tag_registers w (2 ^ 31) rs) 7 (Some h))
          loaded = scratched_seven _ _ _ (tag_scratched (2 ^ 31))

          header_put : Scratched rs (slice_set (slice_set (tag_registers w (2 ^ 31) rs) 7 (Some h)) 6 (Some header))
          header_put = scratched_six _ _ _ loaded

          differing : Scratched rs (slice_set (slice_set (slice_set (tag_registers w (2 ^ 31) rs) 7 (Some h)) 6 (Some header)) 7 (Some (difference32 h header)))
          differing = scratched_seven _ _ _ header_put

          pub header_passes :
              nat_lt (difference32 h header) count ≡ true
              → RunsTo (turning procedures below n) (code_of (steps.need_header of header count (pos (class_address expected)))) rs (paid y k)
              (ends falls (header_registers w h header count rs) (paid y (k + 6 + 10 + 6 + 12 + 2 + 8 + 6 + 10 + 6 + 12 + 2)))
          unfolding need_header
          header_passes e =
              parts_then (steps.need_tag of (2 ^ 31) (pos (class_address expected))) (steps.need_header_of of header count (pos (class_address expected)))
              (tag_passes (2 ^ 31) k (tag_tested w 2 ∙ tag))
              (and_then (header_loaded h (k + 6 + 10 + 6 + 12 + 2) tag at)
              (and_then constant_falls
              (and_then (compute_falls (seven_behind_six (tag_registers w (2 ^ 31) rs) h header (tag_scratched (2 ^ 31)).size) (six_here _ header loaded.size))
              (and_then constant_falls
              (and_then (choose_first_falls (seven_behind_six _ (difference32 h header) count header_put.size) (six_here _ count differing.size) e none_left) none_left)))))

          pub header_errs :
              (budget : ℕ) → nat_lt (difference32 h header) count ≡ false → k + 250 + 250 * z.units ≤ budget + 250 * (z.units + 5)
              → Run names program places z y procedures below n budget (domain_error v expected z) (code_of (steps.need_header of header count (pos (class_address expected)))) rs k
          unfolding need_header
          header_errs budget e cost =
              part_then names program places z y procedures below (steps.need_tag of (2 ^ 31) (pos (class_address expected)))
              (steps.need_header_of of header count (pos (class_address expected))) (tag_passes (2 ^ 31) k (tag_tested w 2 ∙ tag))
              (goes_on names program places z y procedures below (header_loaded h (k + 6 + 10 + 6 + 12 + 2) tag at)
              (goes_on names program places z y procedures below constant_falls
              (goes_on names program places z y procedures below
              (compute_falls (seven_behind_six (tag_registers w (2 ^ 31) rs) h header (tag_scratched (2 ^ 31)).size) (six_here _ header loaded.size))
              (goes_on names program places z y procedures below constant_falls
              (second_answers names program places z y procedures below (seven_behind_six _ (difference32 h header) count header_put.size) (six_here _ count differing.size) e
              (errs budget _ (header_registers w h header count rs) (scratched_six _ _ _ differing) (omega (arith, cost))))))))

        -- the tag is not that of objects
        pub header_errs_by_tag :
            (header count budget k : ℕ) → (w % 4 == 2) ≡ false → k + 210 + 250 * z.units ≤ budget + 250 * (z.units + 5)
            → Run names program places z y procedures below n budget (domain_error v expected z) (code_of (steps.need_header of header count (pos (class_address expected)))) rs k
        unfolding need_header
        header_errs_by_tag header count budget k e cost =
            part_answers names program places z y procedures below (steps.need_tag of (2 ^ 31) (pos (class_address expected)))
            (steps.need_header_of of header count (pos (class_address expected))) (tag_errs (2 ^ 31) budget k (tag_tested w 2 ∙ e) cost)

    -- the header behind a word with the tag of objects is a word
    pub header_bounded : (v : Value) (w h : ℕ) → word_of places v ≡ Some w → (w % 4 == 2) ≡ true → word_at y.arena (w - 2) ≡ Some h → h < 2 ^ 32
    header_bounded v w h word tag at =
        let tag_is : w % 4 ≡ 2 = grind (arith, nat_tests) in
        let kind : value_tag z v ≡ object_tag = sym (tag_told names program places z y r v w word) ∙ tag_is in
        let same : h ≡ value_header z v = cc (at, header_told names program places z y r v w word kind) in
        rw same (by v word kind)
      where
        of_one : (o : Object) (s : Spot) → SpotStands y.arena s → ObjectAt names program places y.arena s o → header_of o < 2 ^ 32
        of_one (instance c values mark) s stands at =
            omega (arith, at.size.words, spot_low r.arena stands)
        of_one (cons car cdr) s stands at = omega arith
        of_one o s stands at = omega arith

        by : (v : Value) → word_of places v ≡ Some w → value_tag z v ≡ object_tag → value_header z v < 2 ^ 32
        by (integer i) e k = omega arith
        by (character c) e k = omega arith
        by (symbol (named name)) e k = omega arith
        by (symbol (unnamed x serial)) e k = omega arith
        by nil e k = omega arith
        by (object i) e k =
            let there = object_there names program places z y r i w e in
            rw there.stored (of_one there.one there.spot there.spot_stands there.stands)

    -- the argument is an integer
    pub integer_needed :
        (n budget k of w : ℕ) (v : Value) (next : ℤ → Answer) (rest : List MidStep) (rs : Registers) → of < 3 → length rs ≡ 8 → register of rs ≡ Some w
        → word_of places v ≡ Some w → k + 210 + 250 * z.units ≤ budget + 250 * (z.units + 5)
        → ((i : ℤ) → v ≡ integer i → in_range i ≡ true → w ≡ integer_word i
        → Run names program places z y procedures below n budget (next i) (code_of rest) (tag_registers w 0 rs) (k + 6 + 10 + 6 + 12 + 2))
        → Run names program places z y procedures below n budget (an_integer v z next) (code_of (steps.need_integer of ++ rest)) rs k
    integer_needed n budget k of w v next rest rs low size held word cost more = by (integer_told names program places z y r v w word)
      where
        by :
            IntegerTold v w
            → Run names program places z y procedures below n budget (an_integer v z next) (code_of (steps.need_integer of ++ rest)) rs k
        by (integer_found i same found range at tag) =
            rw found
            (part_then names program places z y procedures below (steps.need_integer of) rest
            (tag_passes n of w integer_class v rs low size held word (omega arith) 0 k (tag_tested w 0 ∙ tag)) (more i same range at))
        by (no_integer none tag) =
            rw none
            (part_answers names program places z y procedures below (steps.need_integer of) rest
            (tag_errs n of w integer_class v rs low size held word (omega arith) 0 budget k (tag_tested w 0 ∙ tag) cost))

    -- it is a cons
    pub cons_needed :
        (n budget k of w : ℕ) (v : Value) (next : Value × Value → Answer) (rest : List MidStep) (rs : Registers) → of < 3 → length rs ≡ 8 → register of rs ≡ Some w
        → word_of places v ≡ Some w → k + 210 + 250 * z.units ≤ budget + 250 * (z.units + 5)
        → ((car cdr : Value) → fetch z v ≡ Some (cons car cdr)
        → Run names program places z y procedures below n budget (next (car, cdr)) (code_of rest) (tag_registers w (2 ^ 30) rs) (k + 6 + 10 + 6 + 12 + 2))
        → Run names program places z y procedures below n budget (a_cons v z next) (code_of (steps.need_tag of (2 ^ 30) (pos (class_address cons_class)) ++ rest)) rs k
    cons_needed n budget k of w v next rest rs low size held word cost more = by (cons_told names program places z y r v w word)
      where
        by :
            ConsTold (fetch z v) w
            → Run names program places z y procedures below n budget (a_cons v z next) (code_of (steps.need_tag of (2 ^ 30) (pos (class_address cons_class)) ++ rest)) rs k
        by (cons_found car cdr same found tag) =
            rw found
            (part_then names program places z y procedures below (steps.need_tag of (2 ^ 30) (pos (class_address cons_class))) rest
            (tag_passes n of w cons_class v rs low size held word (omega arith) (2 ^ 30) k (tag_tested w 1 ∙ tag)) (more car cdr same))
        by (no_cons none tag) =
            rw none
            (part_answers names program places z y procedures below (steps.need_tag of (2 ^ 30) (pos (class_address cons_class))) rest
            (tag_errs n of w cons_class v rs low size held word (omega arith) (2 ^ 30) budget k (tag_tested w 1 ∙ tag) cost))

    -- it is a character
    pub character_needed :
        (n budget k of w : ℕ) (v : Value) (next : ℕ → Answer) (rest : List MidStep) (rs : Registers) → of < 3 → length rs ≡ 8 → register of rs ≡ Some w
        → word_of places v ≡ Some w → k + 210 + 250 * z.units ≤ budget + 250 * (z.units + 5)
        → ((c : ℕ) → v ≡ character c → c ≤ 255 → w ≡ character_word c
        → Run names program places z y procedures below n budget (next c) (code_of rest) (byte_registers w rs) (k + 6 + 10 + 6 + 12 + 2))
        → Run names program places z y procedures below n budget (a_character v z next) (code_of (steps_of (line.NeedCharacter of) ++ rest)) rs k
    character_needed n budget k of w v next rest rs low size held word cost more = by (character_told names program places z y r v w word)
      where
        first : Scratched rs (slice_set rs 6 (Some 24))
        first = scratched_six _ _ _ (not_scratched rs size)

        second : Scratched rs (slice_set (slice_set rs 6 (Some 24)) 7 (Some (shift_left w 24)))
        second = scratched_seven _ _ _ first

        by : CharacterTold v w → Run names program places z y procedures below n budget (a_character v z next) (code_of (steps_of (line.NeedCharacter of) ++ rest)) rs k
        by (character_found c same found small at tag) =
            rw found
            (goes_on names program places z y procedures below constant_falls
            (goes_on names program places z y procedures below (compute_falls (first.others of (omega arith) ∙ held) (six_here rs 24 size))
            (goes_on names program places z y procedures below constant_falls
            (test_passes names program places z y procedures below (seven_behind_six (slice_set rs 6 (Some 24)) (shift_left w 24) (15 * 2 ^ 24) first.size)
            (six_here _ (15 * 2 ^ 24) second.size) (low_byte_tested w 15 ∙ tag) (more c same small at)))))
        by (no_character none tag) =
            rw none
            (goes_on names program places z y procedures below constant_falls
            (goes_on names program places z y procedures below (compute_falls (first.others of (omega arith) ∙ held) (six_here rs 24 size))
            (goes_on names program places z y procedures below constant_falls
            (second_answers names program places z y procedures below (seven_behind_six (slice_set rs 6 (Some 24)) (shift_left w 24) (15 * 2 ^ 24) first.size)
            (six_here _ (15 * 2 ^ 24) second.size) (low_byte_tested w 15 ∙ tag)
            (errs n of w character_class v rs low size held word (omega arith) budget (k + 6 + 10 + 6 + 12) (byte_registers w rs) (scratched_six _ _ _ second) (omega (arith, cost)))))))
