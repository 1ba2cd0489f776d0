-- The lines that need an object of a kind, beside the meaning's tests of it.
use Rattle.std.proofs.Common.{◌≡◌, ℕ, ◌+◌, ◌-◌, ◌*◌, ◌%◌, ◌^◌, ◌<◌, ◌≤◌, pos, Bool, true, false, List, ◌++◌, length, Option, Some, ◌∙◌, arith}
use Rattle.std.specs.Prelude.{◌==◌, ◌||◌, nat_lt, slice_set}
use Rattle.lang_meaning.specs.declared.program.ProgramRows.{ProgramRows}
use Rattle.lang_meaning.specs.Values.{Value}
use Rattle.lang_meaning.specs.Objects.{Object, string, vector, instance, class_object, string_class, vector_class, standard_class_class, stream_class}
use Rattle.lang_meaning.specs.State as meaning
use Rattle.lang_meaning.specs.Classes.{fetch}
use Rattle.lang_meaning.specs.Primitives.{Answer, domain_error, needs, as_string, as_vector, as_class, as_instance, as_stream, a_string, a_vector, a_class}
use Rattle.mid_code.specs.declared.program.MidProcedure.{MidProcedure}
use Rattle.mid_code.specs.Arena.{word_at}
use Rattle.base.specs.Arithmetic.{shift_left, difference32}
use Rattle.mid_code.specs.MidCode.{MidStep, code_of}
use Rattle.mid_code.specs.State.{Registers, MidState, MidOutcome, falls, ends, register}
use Rattle.mid_code.specs.Meaning.{Task}
use Rattle.mid_arena.specs.Tags.{instance_header, string_header, vector_header, class_header, input_header, output_header}
use Rattle.mid_arena.specs.Places.{Places, word_of}
use Rattle.mid_arena.specs.FixedWords.{class_address}
use Rattle.mid_arena.specs.Represents.{Represents}
use Rattle.mid_arena.specs.Steps as steps
use Rattle.mid_arena.specs.Steps.{steps_of}
use Rattle.mid_arena.proofs.Keeping.{header_of}
use Rattle.mid_arena.proofs.WordFacts.{tag_tested, low_four_bits_tested, equal_bit, two_headers_tested}
use Rattle.mid_arena.proofs.HeaderKinds.{instance_of, stream_of}
use Rattle.mid_arena.proofs.Telling.{FoundByHeader, found_kind, found_other_kind, found_other_tag, string_told, vector_told, class_told, instance_told, stream_told}
use Rattle.mid_arena.proofs.Doing.{Run, goes_on, second_answers, part_then, part_answers, paid}
use Rattle.mid_arena.proofs.Checking.{tag_registers, header_registers, instance_registers, errs, tag_scratched, tag_passes, tag_errs}
use Rattle.mid_arena.proofs.Checking.{header_loaded, header_passes, header_errs, header_errs_by_tag, header_bounded}
use Rattle.mid_arena.proofs.Running.{RunsTo, turning, none_left, and_then, parts_then, constant_falls, compute_falls, choose_first_falls}
use Rattle.mid_arena.proofs.Registers.{Scratched, scratched_seven, scratched_six, seven_behind_six, six_here}

module _
    (names : List (List ℕ)) (program : ProgramRows) (places : Places) (z : meaning.State) (y : MidState) (r : Represents names program places z y)
    (procedures : List MidProcedure) (below : Task → MidState → MidOutcome)
  where
    -- An object that the header decides. It costs 80 to find it.
    module _
        {X : Type 0} (part : Option Object → Option X) (make : X → Object) (is_kind : ℕ → Bool) (header count expected : ℕ)
        (tested : (h : ℕ) → h < 2 ^ 32 → nat_lt (difference32 h header) count ≡ is_kind h) (class : expected < 34)
      where
        kind_needed :
            (n budget k of w : ℕ) (v : Value) (next : X → Answer) (rest : List MidStep) (rs : Registers) → of < 3 → length rs ≡ 8 → register of rs ≡ Some w
            → word_of places v ≡ Some w → FoundByHeader part make is_kind y.arena (fetch z v) w → k + 250 + 250 * z.units ≤ budget + 250 * (z.units + 5)
            → ((x : X) → fetch z v ≡ Some (make x) → word_at y.arena (w - 2) ≡ Some (header_of (make x))
            → Run names program places z y procedures below n budget (next x) (code_of rest) (header_registers w (header_of (make x)) header count rs)
            (k + 6 + 10 + 6 + 12 + 2 + 8 + 6 + 10 + 6 + 12 + 2))
            → Run names program places z y procedures below n budget (needs (part (fetch z v)) (domain_error v expected z) next)
            (code_of (steps.need_header of header count (pos (class_address expected)) ++ rest)) rs k
        kind_needed n budget k of w v next rest rs low size held word told cost more = by told
          where
            by :
                FoundByHeader part make is_kind y.arena (fetch z v) w
                → Run names program places z y procedures below n budget (needs (part (fetch z v)) (domain_error v expected z) next)
                (code_of (steps.need_header of header count (pos (class_address expected)) ++ rest)) rs k
            by (found_kind x same found tag at kind) =
                rw found
                (part_then names program places z y procedures below (steps.need_header of header count (pos (class_address expected))) rest
                (header_passes names program places z y r procedures below n of w expected v rs low size held word class (header_of (make x)) header count k tag at
                (tested (header_of (make x)) (header_bounded names program places z y r procedures below v w (header_of (make x)) word tag at) ∙ kind)) (more x same at))
            by (found_other_kind h none tag at kind) =
                rw none
                (part_answers names program places z y procedures below (steps.need_header of header count (pos (class_address expected))) rest
                (header_errs names program places z y r procedures below n of w expected v rs low size held word class h header count k tag at budget
                (tested h (header_bounded names program places z y r procedures below v w h word tag at) ∙ kind) cost))
            by (found_other_tag none tag) =
                rw none
                (part_answers names program places z y procedures below (steps.need_header of header count (pos (class_address expected))) rest
                (header_errs_by_tag names program places z y r procedures below n of w expected v rs low size held word class header count budget k tag (omega (arith, cost))))

    pub string_needed :
        (n budget k of w : ℕ) (v : Value) (next : List ℕ → Answer) (rest : List MidStep) (rs : Registers) → of < 3 → length rs ≡ 8 → register of rs ≡ Some w
        → word_of places v ≡ Some w → k + 250 + 250 * z.units ≤ budget + 250 * (z.units + 5)
        → ((bytes : List ℕ) → fetch z v ≡ Some (string bytes)
        → Run names program places z y procedures below n budget (next bytes) (code_of rest) (header_registers w string_header string_header 1 rs)
        (k + 6 + 10 + 6 + 12 + 2 + 8 + 6 + 10 + 6 + 12 + 2))
        → Run names program places z y procedures below n budget (a_string v z next) (code_of (steps.need_header of string_header 1 (pos (class_address string_class)) ++ rest)) rs k
    string_needed n budget k of w v next rest rs low size held word cost more =
        kind_needed as_string string (λ h. h == string_header) string_header 1 string_class (λ h g. equal_bit h string_header g (omega arith)) (omega arith)
        n budget k of w v next rest rs low size held word (string_told names program places z y r v w word) cost (λ bytes found at. more bytes found)

    pub vector_needed :
        (n budget k of w : ℕ) (v : Value) (next : List Value → Answer) (rest : List MidStep) (rs : Registers) → of < 3 → length rs ≡ 8 → register of rs ≡ Some w
        → word_of places v ≡ Some w → k + 250 + 250 * z.units ≤ budget + 250 * (z.units + 5)
        → ((vs : List Value) → fetch z v ≡ Some (vector vs)
        → Run names program places z y procedures below n budget (next vs) (code_of rest) (header_registers w vector_header vector_header 1 rs)
        (k + 6 + 10 + 6 + 12 + 2 + 8 + 6 + 10 + 6 + 12 + 2))
        → Run names program places z y procedures below n budget (a_vector v z next) (code_of (steps.need_header of vector_header 1 (pos (class_address vector_class)) ++ rest)) rs k
    vector_needed n budget k of w v next rest rs low size held word cost more =
        kind_needed as_vector vector (λ h. h == vector_header) vector_header 1 vector_class (λ h g. equal_bit h vector_header g (omega arith)) (omega arith)
        n budget k of w v next rest rs low size held word (vector_told names program places z y r v w word) cost (λ vs found at. more vs found)

    pub class_needed :
        (n budget k of w : ℕ) (v : Value) (next : ℕ → Answer) (rest : List MidStep) (rs : Registers) → of < 3 → length rs ≡ 8 → register of rs ≡ Some w
        → word_of places v ≡ Some w → k + 250 + 250 * z.units ≤ budget + 250 * (z.units + 5)
        → ((c : ℕ) → fetch z v ≡ Some (class_object c)
        → Run names program places z y procedures below n budget (next c) (code_of rest) (header_registers w class_header class_header 1 rs)
        (k + 6 + 10 + 6 + 12 + 2 + 8 + 6 + 10 + 6 + 12 + 2))
        → Run names program places z y procedures below n budget (a_class v z next) (code_of (steps.need_header of class_header 1 (pos (class_address standard_class_class)) ++ rest)) rs k
    class_needed n budget k of w v next rest rs low size held word cost more =
        kind_needed as_class class_object (λ h. h == class_header) class_header 1 standard_class_class (λ h g. equal_bit h class_header g (omega arith)) (omega arith)
        n budget k of w v next rest rs low size held word (class_told names program places z y r v w word) cost (λ c found at. more c found)

    -- a stream, which is the standard output or not; its header is in register 7's difference
    pub stream_needed :
        (n budget k of w : ℕ) (v : Value) (next : Bool → Answer) (rest : List MidStep) (rs : Registers) → of < 3 → length rs ≡ 8 → register of rs ≡ Some w
        → word_of places v ≡ Some w → k + 250 + 250 * z.units ≤ budget + 250 * (z.units + 5)
        → ((is_output : Bool) → fetch z v ≡ Some (stream_of is_output) → word_at y.arena (w - 2) ≡ Some (header_of (stream_of is_output))
        → Run names program places z y procedures below n budget (next is_output) (code_of rest) (header_registers w (header_of (stream_of is_output)) input_header 2 rs)
        (k + 6 + 10 + 6 + 12 + 2 + 8 + 6 + 10 + 6 + 12 + 2))
        → Run names program places z y procedures below n budget (needs (as_stream (fetch z v)) (domain_error v stream_class z) next)
        (code_of (steps.need_header of input_header 2 (pos (class_address stream_class)) ++ rest)) rs k
    stream_needed n budget k of w v next rest rs low size held word cost more =
        kind_needed as_stream stream_of (λ h. h == input_header || h == output_header) input_header 2 stream_class
        (λ h g. two_headers_tested h input_header g (omega arith)) (omega arith)
        n budget k of w v next rest rs low size held word (stream_told names program places z y r v w word) cost more

    -- An instance, of which the lowest four bits of the header tell: or it is a domain error of that class.
    module _
        (n of w expected : ℕ) (v : Value) (rs : Registers) (low : of < 3) (size : length rs ≡ 8) (held : register of rs ≡ Some w)
        (word : word_of places v ≡ Some w) (class : expected < 34)
      where
        -- what the test of the bits does, behind that of the tag
        module _ (h k : ℕ) (tag : (w % 4 == 2) ≡ true) (at : word_at y.arena (w - 2) ≡ Some h) where
          loaded : Scratched rs (slice_set (tag_registers w (2 ^ 31) rs) 7 (Some h))
          loaded = scratched_seven _ _ _ (tag_scratched names program places z y r procedures below n of w expected v rs low size held word class (2 ^ 31))

          put : Scratched rs (slice_set (slice_set (tag_registers w (2 ^ 31) rs) 7 (Some h)) 6 (Some 28))
          put = scratched_six _ _ _ loaded

          shifted : Scratched rs (slice_set (slice_set (slice_set (tag_registers w (2 ^ 31) rs) 7 (Some h)) 6 (Some 28)) 7 (Some (shift_left h 28)))
          shifted = scratched_seven _ _ _ put

          pub instance_passes :
              (h % 16 == 3) ≡ true
              → RunsTo (turning procedures below n) (code_of (steps.need_instance of (pos (class_address expected)))) rs (paid y k)
              (ends falls (instance_registers w h rs) (paid y (k + 6 + 10 + 6 + 12 + 2 + 8 + 6 + 10 + 6 + 12 + 2)))
          instance_passes e =
              parts_then (steps.need_tag of (2 ^ 31) (pos (class_address expected))) (steps.need_instance_of of (pos (class_address expected)))
              (tag_passes names program places z y r procedures below n of w expected v rs low size held word class (2 ^ 31) k (tag_tested w 2 ∙ tag))
              (and_then (header_loaded names program places z y r procedures below n of w expected v rs low size held word class h (k + 6 + 10 + 6 + 12 + 2) tag at)
              (and_then constant_falls
              (and_then
              (compute_falls
              (seven_behind_six (tag_registers w (2 ^ 31) rs) h 28 (tag_scratched names program places z y r procedures below n of w expected v rs low size held word class (2 ^ 31)).size)
              (six_here _ 28 loaded.size))
              (and_then constant_falls
              (and_then (choose_first_falls (seven_behind_six _ (shift_left h 28) (3 * 2 ^ 28) put.size) (six_here _ (3 * 2 ^ 28) shifted.size) (low_four_bits_tested h 3 ∙ e) none_left) none_left)))))

          pub instance_errs :
              (budget : ℕ) → (h % 16 == 3) ≡ false → k + 250 + 250 * z.units ≤ budget + 250 * (z.units + 5)
              → Run names program places z y procedures below n budget (domain_error v expected z) (code_of (steps.need_instance of (pos (class_address expected)))) rs k
          instance_errs budget e cost =
              part_then names program places z y procedures below (steps.need_tag of (2 ^ 31) (pos (class_address expected))) (steps.need_instance_of of (pos (class_address expected)))
              (tag_passes names program places z y r procedures below n of w expected v rs low size held word class (2 ^ 31) k (tag_tested w 2 ∙ tag))
              (goes_on names program places z y procedures below
              (header_loaded names program places z y r procedures below n of w expected v rs low size held word class h (k + 6 + 10 + 6 + 12 + 2) tag at)
              (goes_on names program places z y procedures below constant_falls
              (goes_on names program places z y procedures below
              (compute_falls
              (seven_behind_six (tag_registers w (2 ^ 31) rs) h 28 (tag_scratched names program places z y r procedures below n of w expected v rs low size held word class (2 ^ 31)).size)
              (six_here _ 28 loaded.size))
              (goes_on names program places z y procedures below constant_falls
              (second_answers names program places z y procedures below (seven_behind_six _ (shift_left h 28) (3 * 2 ^ 28) put.size) (six_here _ (3 * 2 ^ 28) shifted.size)
              (low_four_bits_tested h 3 ∙ e)
              (errs names program places z y r procedures below n of w expected v rs low size held word class budget _ (instance_registers w h rs) (scratched_six _ _ _ shifted)
              (omega (arith, cost))))))))

        pub instance_needed :
            (budget k : ℕ) (next : ℕ × List (Option Value) × Value → Answer) (rest : List MidStep) → k + 250 + 250 * z.units ≤ budget + 250 * (z.units + 5)
            → ((c : ℕ) (values : List (Option Value)) (mark : Value) → fetch z v ≡ Some (instance c values mark)
            → Run names program places z y procedures below n budget (next (c, values, mark)) (code_of rest) (instance_registers w (instance_header (length values)) rs)
            (k + 6 + 10 + 6 + 12 + 2 + 8 + 6 + 10 + 6 + 12 + 2))
            → Run names program places z y procedures below n budget (needs (as_instance (fetch z v)) (domain_error v expected z) next)
            (code_of (steps.need_instance of (pos (class_address expected)) ++ rest)) rs k
        instance_needed budget k next rest cost more = by (instance_told names program places z y r v w word)
          where
            by :
                FoundByHeader as_instance instance_of (λ h. h % 16 == 3) y.arena (fetch z v) w
                → Run names program places z y procedures below n budget (needs (as_instance (fetch z v)) (domain_error v expected z) next)
                (code_of (steps.need_instance of (pos (class_address expected)) ++ rest)) rs k
            by (found_kind i same found tag at kind) =
                rw found
                (part_then names program places z y procedures below (steps.need_instance of (pos (class_address expected))) rest (instance_passes (instance_header (length i.1)) k tag at kind)
                (more i.0 i.1 i.2 same))
            by (found_other_kind h none tag at kind) =
                rw none (part_answers names program places z y procedures below (steps.need_instance of (pos (class_address expected))) rest (instance_errs h k tag at budget kind cost))
            by (found_other_tag none tag) =
                rw none
                (part_answers names program places z y procedures below (steps.need_instance of (pos (class_address expected))) rest
                (part_answers names program places z y procedures below (steps.need_tag of (2 ^ 31) (pos (class_address expected))) (steps.need_instance_of of (pos (class_address expected)))
                (tag_errs names program places z y r procedures below n of w expected v rs low size held word class (2 ^ 31) budget k (tag_tested w 2 ∙ tag) (omega (arith, cost)))))
