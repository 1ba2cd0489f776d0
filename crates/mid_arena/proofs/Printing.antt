-- A character that is put on a stream does what the meaning says of it.
use Rattle.std.proofs.Common.{◌≡◌, ℕ, ◌+◌, ◌-◌, ◌*◌, ◌%◌, ◌^◌, ◌<◌, ◌≤◌, pos, Bool, true, false, List, [], ◌∷◌, ◌++◌, Option, Some, None, refl, ap, ◌∙◌, arith}
use Rattle.std.specs.Prelude.{negsuc, ◌==◌, if◌then◌else◌}
use Rattle.lang_meaning.specs.declared.program.ProgramRows.{ProgramRows}
use Rattle.lang_meaning.specs.declared.primitive.Primitive.TheVariants.{PutChar}
use Rattle.lang_meaning.specs.Values.{Value, nil, t, truth}
use Rattle.lang_meaning.specs.Objects.{stream_class}
use Rattle.lang_meaning.specs.State as meaning
use Rattle.lang_meaning.specs.Classes.{fetch}
use Rattle.lang_meaning.specs.Primitives.{result, domain_error, needs, as_stream, a_character, is_fresh_line}
use Rattle.mid_code.specs.declared.program.MidProcedure.{MidProcedure}
use Rattle.mid_code.specs.declared.operation.Arithmetic.TheVariants as which
use Rattle.mid_code.specs.declared.operation.Comparison.TheVariants as comparison
use Rattle.mid_code.specs.declared.operation.Operation.TheVariants as operation
use Rattle.base.specs.Arithmetic.{difference32, one_if_less}
use Rattle.mid_code.specs.Arena.{word_at, with_word}
use Rattle.mid_code.specs.MidCode.{MidStep, perform, return_word, code_of}
use Rattle.mid_code.specs.State.{Registers, MidState, MidOutcome, returns, ends, first_registers}
use Rattle.mid_code.specs.Meaning.{Task}
use Rattle.mid_arena.specs.declared.line.Line.TheVariants as line
use Rattle.mid_arena.specs.Tags.{nil_word, character_word, input_header, output_header}
use Rattle.mid_arena.specs.Places.{Places, word_of}
use Rattle.mid_arena.specs.FixedWords.{class_address, true_address, line_address}
use Rattle.mid_arena.specs.Represents.{Represents}
use Rattle.mid_arena.specs.Steps as steps
use Rattle.mid_arena.specs.Steps.{steps_of}
use Rattle.mid_arena.proofs.WordFacts.{character_code, equal_bit, word_or_nil}
use Rattle.mid_arena.proofs.Running.{constant_falls, compute_falls, compute_known, load_falls, store_falls, put_falls, and_then, and_ends, return_ends, address_up, address_below}
use Rattle.mid_arena.proofs.Keeping.{header_of}
use Rattle.mid_arena.proofs.HeaderKinds.{stream_of}
use Rattle.mid_arena.proofs.Arguments.{object_found, word_told}
use Rattle.mid_arena.proofs.FixedChanges.{represents_printed}
use Rattle.mid_arena.proofs.Making.{changes_stored, fixed_below, fixed_lent, stored_fixed}
use Rattle.mid_arena.proofs.Doing.{alike_self, Run, goes_on, test_passes, second_answers}
use Rattle.mid_arena.proofs.Conditions.{domain_error_run}
use Rattle.mid_arena.proofs.Checking.{header_registers, character_needed}
use Rattle.mid_arena.proofs.Needing.{stream_needed}
use Rattle.mid_arena.proofs.Taking.{does_two}
use Rattle.mid_arena.proofs.Streams.{returns_stored}
use Rattle.mid_arena.proofs.Entering.{InEveryFrame}

-- ---- whether the output is at the start of a line

-- it is where the last byte is a newline
fresh_behind : (bytes : List ℕ) (c : ℕ) → is_fresh_line (bytes ++ c ∷ []) ≡ (c == 10)
fresh_behind [] c = refl
fresh_behind (b ∷ []) c = refl
fresh_behind (b ∷ d ∷ bytes) c = fresh_behind (d ∷ bytes) c

-- 1 for a newline, and 0 for another byte
newline_bit : (c : ℕ) → c ≤ 255 → one_if_less (difference32 c 10) 1 ≡ (if c == 10 then 1 else 0)
newline_bit c h = ap (λ (b : Bool). if◌then◌else◌ {A = ℕ} b 1 0) (equal_bit c 10 (omega arith) (omega arith))

module _
    (names : List (List ℕ)) (program : ProgramRows) (places : Places) (z : meaning.State) (y : MidState) (r : Represents names program places z y)
  where
    -- the word of t, or of nil
    abbrev truth_word : Bool → ℕ
    truth_word b = if b then r.fixed.true_value.word else nil_word

    truth_is : (b : Bool) → word_of places (truth b) ≡ Some (truth_word b)
    truth_is true = r.fixed.true_value.of_value
    truth_is false = refl

    true_low : r.fixed.true_value.word < 2 ^ 32
    true_low = word_told names program places z y r t r.fixed.true_value.word r.fixed.true_value.of_value

    -- the state where a byte was put
    abbrev put_state : (c k : ℕ) → MidState
    put_state c k = record y {
      arena = with_word line_address (truth_word (c == 10)) y.arena;
      printed = y.printed ++ c % 256 ∷ [];
      cost = k;
    }

    represents_put : (c k : ℕ) → c ≤ 255 → Represents names program places (record z { printed = z.printed ++ c ∷ [] }) (put_state c k)
    represents_put c k small =
        represents_printed names program places z y r (z.printed ++ c ∷ []) (put_state c k) (changes_stored line_address (truth_word (c == 10)) r.arena refl (omega (arith, fixed_below names program places z y r)))
        (record {
          word = truth_word (c == 10);
          of_value = ap (λ b. word_of places (truth b)) (fresh_behind z.printed c) ∙ truth_is (c == 10);
          stands = stored_fixed names program places z y r line_address (truth_word (c == 10)) refl (omega arith);
        })
        (ap (λ l. l ++ c % 256 ∷ []) r.printed ∙ ap (λ n. z.printed ++ n ∷ []) (same c small)) refl
      where
        same : (c : ℕ) → c ≤ 255 → c % 256 ≡ c
        same c h = omega arith

-- ---- the code

-- the byte is put, and whether the output is then at the start of a line is stored
abbrev putting : List MidStep
putting =
    steps.compute_by 5 which.ShiftRight 1 8 ++ perform (operation.Put 5) ∷ steps.compute_by 7 which.Subtract 5 10
    ++ steps.compute_by 7 which.LessUnsigned 7 1 ++ steps.constant 4 0 ∷ steps.load 4 4 (pos true_address)
    ∷ steps.compute_by 4 which.Subtract 4 nil_word ++ steps.compute 4 which.Multiply 4 7 ∷ steps.compute_by 4 which.Add 4 nil_word
    ++ steps.constant 6 0 ∷ steps.store 4 6 (pos line_address) ∷ steps.constant 4 nil_word ∷ return_word 4 ∷ []

-- where the stream is the standard output
abbrev putting_on_output : List MidStep
putting_on_output =
    steps.load 7 0 (negsuc 1) ∷ steps.constant 6 output_header
    ∷ steps.either (steps.comparing comparison.Equal 7 6) [] (steps.domain_error 0 (pos (class_address stream_class))) ∷ putting

module _
    (names : List (List ℕ)) (program : ProgramRows) (places : Places) (z : meaning.State) (y : MidState) (r : Represents names program places z y)
    (procedures : List MidProcedure) (below : Task → MidState → MidOutcome)
  where
    -- the registers with both arguments
    abbrev both : (w x : ℕ) → (seventh eighth : Option ℕ) → Registers
    both w x seventh eighth = Some w ∷ Some x ∷ None ∷ None ∷ None ∷ None ∷ seventh ∷ eighth ∷ []

    puts_byte :
        (n budget k w c : ℕ) (seventh eighth : Option ℕ) → c ≤ 255 → k + 160 ≤ budget
        → Run names program places z y procedures below n budget (result nil (record z { printed = z.printed ++ c ∷ [] }))
        (code_of putting) (both w (character_word c) seventh eighth) k
    puts_byte n budget k w c seventh eighth small cost = record {
      outcome = ends (returns nil_word) _ (put_state names program places z y r c (k + 6 + 10 + 8 + 6 + 10 + 6 + 10 + 6 + 8 + 6 + 10 + 10 + 6 + 10 + 6 + 8 + 6 + 14));
      runs =
          and_then constant_falls
          (and_then (compute_known refl refl (character_code c))
          (and_then (put_falls refl)
          (and_then constant_falls
          (and_then (compute_falls refl refl)
          (and_then constant_falls
          (and_then (compute_known refl refl (newline_bit c small))
          (and_then constant_falls
          (and_then (load_falls refl (address_up 0 true_address (omega arith)) r.fixed.true_value.stands)
          (and_then constant_falls
          (and_then (compute_falls refl refl)
          (and_then (compute_falls refl refl)
          (and_then constant_falls
          (and_then (compute_known refl refl (word_or_nil r.fixed.true_value.word (c == 10) (true_low names program places z y r)))
          (and_then constant_falls
          (and_then (store_falls refl refl (address_up 0 line_address (omega arith)) (fixed_lent names program places z y r line_address refl (omega arith)))
          (and_then constant_falls
          (and_ends tt (return_ends refl))))))))))))))))));
      answers =
          returns_stored names program places z y r budget line_address (truth_word names program places z y r (c == 10)) nil_word nil
          (record z { printed = z.printed ++ c ∷ [] })
          (put_state names program places z y r c (k + 6 + 10 + 8 + 6 + 10 + 6 + 10 + 6 + 8 + 6 + 10 + 10 + 6 + 10 + 6 + 8 + 6 + 14)) _ refl (omega arith) refl refl
          (represents_put names program places z y r c _ small) (omega (arith, cost));
    }

    puts_on :
        (n budget k w c : ℕ) (v : Value) (is_output : Bool) (seventh eighth : Option ℕ) → word_of places v ≡ Some w → fetch z v ≡ Some (stream_of is_output)
        → word_at y.arena (w - 2) ≡ Some (header_of (stream_of is_output)) → c ≤ 255 → k + 200 ≤ budget
        → Run names program places z y procedures below n budget
        (if is_output then result nil (record z { printed = z.printed ++ c ∷ [] }) else domain_error v stream_class z)
        (code_of putting_on_output) (both w (character_word c) seventh eighth) k
    puts_on n budget k w c v true seventh eighth word found at small cost =
        let it = object_found names program places z y r v w (stream_of true) word found in
        goes_on names program places z y procedures below
        (load_falls refl (address_below w 1 (w - 2) (omega (arith, it.word)) (word_told names program places z y r v w word)) at)
        (goes_on names program places z y procedures below constant_falls
        (test_passes names program places z y procedures below refl refl refl
        (puts_byte n budget (k + 8 + 6 + 12 + 2) w c (Some output_header) (Some output_header) small (omega (arith, cost)))))
    puts_on n budget k w c v false seventh eighth word found at small cost =
        let it = object_found names program places z y r v w (stream_of false) word found in
        goes_on names program places z y procedures below
        (load_falls refl (address_below w 1 (w - 2) (omega (arith, it.word)) (word_told names program places z y r v w word)) at)
        (goes_on names program places z y procedures below constant_falls
        (second_answers names program places z y procedures below refl refl refl
        (domain_error_run names program places z y r procedures below n budget (k + 8 + 6 + 12) 0 w stream_class v z
        (both w (character_word c) (Some output_header) (Some input_header)) (omega arith) refl refl word (omega arith) (alike_self z) (omega (arith, cost)))))

    puts_char :
        (n w x : ℕ) (v u : Value) → word_of places v ≡ Some w → word_of places u ≡ Some x
        → Run names program places z y procedures below n (y.cost + 130 + 244 * 2)
        (needs (as_stream (fetch z v)) (domain_error v stream_class z) (λ is_output. a_character u z (λ c.
        if is_output then result nil (record z { printed = z.printed ++ c ∷ [] }) else domain_error v stream_class z)))
        (code_of (steps.need_header 0 input_header 2 (pos (class_address stream_class)) ++ (steps_of (line.NeedCharacter 1) ++ putting_on_output)))
        (first_registers 8 (w ∷ x ∷ [])) y.cost
    puts_char n w x v u first second =
        stream_needed names program places z y r procedures below n (y.cost + 130 + 244 * 2) y.cost 0 w v
        (λ is_output. a_character u z (λ c.
        if is_output then result nil (record z { printed = z.printed ++ c ∷ [] }) else domain_error v stream_class z))
        (steps_of (line.NeedCharacter 1) ++ putting_on_output) (first_registers 8 (w ∷ x ∷ [])) (omega arith) refl refl first (omega arith)
        (λ is_output found at.
        character_needed names program places z y r procedures below n (y.cost + 130 + 244 * 2) (y.cost + 6 + 10 + 6 + 12 + 2 + 8 + 6 + 10 + 6 + 12 + 2) 1 x u
        (λ c. if is_output then result nil (record z { printed = z.printed ++ c ∷ [] }) else domain_error v stream_class z) putting_on_output
        (header_registers w (header_of (stream_of is_output)) input_header 2 (first_registers 8 (w ∷ x ∷ []))) (omega arith) refl refl second (omega arith)
        (λ c is small word.
        rw word
        (puts_on n (y.cost + 130 + 244 * 2) (y.cost + 6 + 10 + 6 + 12 + 2 + 8 + 6 + 10 + 6 + 12 + 2 + 6 + 10 + 6 + 12 + 2) w c v is_output _ _ first found at small (omega arith))))

pub put_char_does : InEveryFrame PutChar
put_char_does = does_two PutChar refl (λ v u w x names program places z y procedures below n r are units.
    puts_char names program places z y r procedures below n w x v u are.0 are.1.0)
