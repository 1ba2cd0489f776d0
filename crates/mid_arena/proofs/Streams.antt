-- The standard streams, a byte that is got or looked at, and whether the output is at the start of a line, do what the meaning says of them.
use Rattle.std.proofs.Common.{◌≡◌, ℕ, suc, ◌+◌, ◌-◌, ◌*◌, ◌/◌, ◌%◌, ◌^◌, ◌<◌, ◌≤◌, ℤ, pos, true, false, List, [], ◌∷◌, ◌++◌, length, Some, refl, sym, ap, ◌∙◌, arith}
use Rattle.std.specs.Prelude.{negsuc, ◌==◌, not, slice_set}
use Rattle.std.proofs.lemmas.Bool.Decides.{nat_tests}
use Rattle.std.proofs.Math.ListN.{length-set}
use Rattle.lang_meaning.specs.declared.program.ProgramRows.{ProgramRows}
use Rattle.lang_meaning.specs.declared.primitive.Primitive.TheVariants.{StandardInput, StandardOutput, IsFreshLine, GetByte, PeekByte}
use Rattle.lang_meaning.specs.Values.{Value, integer, truth}
use Rattle.lang_meaning.specs.State as meaning
use Rattle.lang_meaning.specs.InitialHeap.{standard_input, standard_output}
use Rattle.lang_meaning.specs.Primitives.{result, first_byte, other_bytes, is_fresh_line}
use Rattle.mid_code.specs.declared.program.MidProcedure.{MidProcedure}
use Rattle.mid_code.specs.declared.operation.Arithmetic.TheVariants as which
use Rattle.mid_code.specs.declared.operation.Comparison.TheVariants as comparison
use Rattle.mid_code.specs.declared.operation.Operation.TheVariants as operation
use Rattle.base.specs.Arithmetic.{shift_left}
use Rattle.mid_code.specs.Arena.{Arena, word_at, with_word}
use Rattle.mid_code.specs.MidCode.{MidStep, perform, return_word, code_of}
use Rattle.mid_code.specs.State.{Registers, MidState, MidOutcome, falls, returns, ends, first_registers}
use Rattle.mid_code.specs.Meaning.{Task, Context}
use Rattle.mid_arena.specs.Tags.{nil_word, integer_word}
use Rattle.mid_arena.specs.Places.{Places, word_of}
use Rattle.mid_arena.specs.Standing.{ValueAt}
use Rattle.mid_arena.specs.FixedWords.{input_address, output_address, line_address, peeked_address, InputIs, untouched, looked_at}
use Rattle.mid_arena.specs.Layouts.{AreBytes}
use Rattle.mid_arena.specs.Represents.{Represents}
use Rattle.mid_arena.specs.Answers.{done}
use Rattle.mid_arena.specs.Steps as steps
use Rattle.mid_arena.proofs.WordFacts.{integer_word_tag, integer_word_of_pos, integer_word_of_negsuc, byte_read, end_read, in_range_is}
use Rattle.mid_arena.proofs.Running.{StepsTo, constant_falls, compute_known, load_falls, store_falls, get_falls, get_at_end}
use Rattle.mid_arena.proofs.Running.{choose_first_ends, choose_second_falls, none_left, and_then, and_ends, return_ends, address_up, address_above}
use Rattle.mid_arena.proofs.Representing.{represents_same, kept_fixed}
use Rattle.mid_arena.proofs.FixedChanges.{word_of_fixed, represents_read}
use Rattle.mid_arena.proofs.Making.{changes_stored, fixed_below, fixed_lent, stored_fixed}
use Rattle.mid_arena.proofs.Doing.{alike_self, Answers, Run, goes_on, returns_value, first_answers, test_fails}
use Rattle.mid_arena.proofs.Taking.{does_none}
use Rattle.mid_arena.proofs.Telling.{not_nil}
use Rattle.mid_arena.proofs.Arguments.{integer_word_there}
use Rattle.mid_arena.proofs.Entering.{InEveryFrame}

-- ---- values at fixed addresses

module _
    (names : List (List ℕ)) (program : ProgramRows) (places : Places) (z : meaning.State) (y : MidState) (r : Represents names program places z y)
    (procedures : List MidProcedure) (below : Task → MidState → MidOutcome)
  where
    returns_fixed :
        (n address : ℕ) (v : Value) → address < 184 → ValueAt places y.arena address v
        → Run names program places z y procedures below n (y.cost + 130 + 244 * 0) (result v z)
        (code_of (steps.constant 5 0 ∷ steps.load 5 5 (pos address) ∷ return_word 5 ∷ [])) (first_registers 8 []) y.cost
    returns_fixed n address v low at =
        goes_on names program places z y procedures below constant_falls
        (goes_on names program places z y procedures below (load_falls refl (address_above 0 address address (omega arith) (omega arith)) at.stands)
        (returns_value names program places z y procedures below r refl at.of_value (alike_self z) (omega arith)))

pub standard_input_does : InEveryFrame StandardInput
standard_input_does = does_none StandardInput refl (λ names program places z y procedures below n r are units.
    returns_fixed names program places z y r procedures below n input_address (standard_input names program) (omega arith) r.fixed.input_stream)

pub standard_output_does : InEveryFrame StandardOutput
standard_output_does = does_none StandardOutput refl (λ names program places z y procedures below n r are units.
    returns_fixed names program places z y r procedures below n output_address (standard_output names program) (omega arith) r.fixed.output_stream)

pub is_fresh_line_does : InEveryFrame IsFreshLine
is_fresh_line_does = does_none IsFreshLine refl (λ names program places z y procedures below n r are units.
    returns_fixed names program places z y r procedures below n line_address (truth (is_fresh_line z.printed)) (omega arith) r.fixed.line)

-- ---- bytes that are read

-- what is got of an input, and the word of the integer that it is
abbrev got : List ℕ → ℕ
got [] = 2 ^ 32 - 1
got (byte ∷ bytes) = byte

abbrev word_got : List ℕ → ℕ
word_got [] = integer_word (negsuc 0)
word_got (byte ∷ bytes) = integer_word (pos byte)

get_left :
    {c : Context} {rs : Registers} {x : MidState} (left : List ℕ) → x.input ≡ left
    → StepsTo c (perform (operation.Get 5)) rs x (ends falls (slice_set rs 5 (Some (got left))) (record x { input = other_bytes left; cost = x.cost + 8 }))
get_left {rs = rs} {x = x} [] e =
    record { same = (get_at_end e).same ∙ ap (λ l. ends falls (slice_set rs 5 (Some (2 ^ 32 - 1))) (record x { input = l; cost = x.cost + 8 })) e }
get_left (byte ∷ bytes) e = get_falls e

got_shifted : (left : List ℕ) → AreBytes left → shift_left (got left) 2 ≡ word_got left
got_shifted [] bytes = end_read
got_shifted (byte ∷ more) bytes = byte_read byte (bytes 0 (omega arith))

other_are_bytes : (left : List ℕ) → AreBytes left → AreBytes (other_bytes left)
other_are_bytes [] bytes = bytes
other_are_bytes (byte ∷ more) bytes = λ i h. bytes (suc i) (omega arith)

-- the integer of a byte, and of the end, has its word
byte_value : (places : Places) (byte : ℕ) → byte < 256 → word_of places (integer (pos byte)) ≡ Some (integer_word (pos byte))
byte_value places byte h = integer_word_there places (pos byte) (in_range_is (pos byte) (omega arith) (omega arith))

value_got : (places : Places) (left : List ℕ) → AreBytes left → word_of places (first_byte left) ≡ Some (word_got left)
value_got places [] bytes = refl
value_got places (byte ∷ more) bytes = byte_value places byte (bytes 0 (omega arith))

-- a word of an integer is not that of nil
integer_not_nil : (i : ℤ) → (integer_word i == nil_word) ≡ false
integer_not_nil i = not_nil (integer_word i) (omega (arith, integer_word_tag i))

-- the input where a byte was looked at, and where none was
data Peeked (a : Arena) (left bytes : List ℕ) : Type 0 where
  none_peeked : word_at a peeked_address ≡ Some nil_word → bytes ≡ left → Peeked a left bytes
  one_peeked : (byte : ℕ) → word_at a peeked_address ≡ Some (integer_word (pos byte)) → bytes ≡ byte ∷ left → Peeked a left bytes

peeked : (a : Arena) (left bytes : List ℕ) → InputIs a left bytes → Peeked a left bytes
peeked a left bytes (untouched e) = none_peeked e refl
peeked a left bytes (looked_at byte e) = one_peeked byte e refl

-- ---- a fixed word is stored

module _ (names : List (List ℕ)) (program : ProgramRows) (places : Places) (z : meaning.State) (y : MidState) (r : Represents names program places z y) where
  -- a value is returned where a word was stored at a fixed address, which is for words that change
  pub returns_stored :
      (budget address word w : ℕ) (v : Value) (z' : meaning.State) (y' : MidState) (rs : Registers) → address % 4 ≡ 0 → address ≤ 160
      → y'.arena ≡ with_word address word y.arena → word_of places v ≡ Some w → Represents names program places z' y'
      → y'.cost + 250 * z.units ≤ budget + 250 * z'.units
      → Answers names program places z y budget (result v z') (ends (returns w) rs y')
  returns_stored budget address word w v z' y' rs aligned low arena value represents cost = record {
    comes = done (record {
      word = w;
      end = refl;
      of_value = value;
      represents = represents;
      arena = record {
        size = ap (λ a. length a.memory) arena ∙ length-set y.arena.memory (address / 4) (Some word);
        laid_from = ap (λ a. a.laid_from) arena;
        laid_to = ap (λ a. a.laid_to) arena;
        heap_from = ap (λ a. a.heap_from) arena;
        heap_to = ap (λ a. a.heap_to) arena ∙ omega arith;
      };
      blocks = ap (λ a. a.blocks) arena;
      kept =
          rw arena
          (kept_fixed names program places z y r (with_word address word y.arena)
          (word_of_fixed names program places z y r address (with_word address word y.arena) low (changes_stored address word r.arena aligned (omega (arith, low, fixed_below names program places z y r)))));
    });
    cost = cost;
  }

-- ---- a byte is got

module _
    (names : List (List ℕ)) (program : ProgramRows) (places : Places) (z : meaning.State) (y : MidState) (r : Represents names program places z y)
    (procedures : List MidProcedure) (below : Task → MidState → MidOutcome)
  where
    abbrev getting : List MidStep
    getting =
        steps.constant 5 0 ∷ steps.load 5 5 (pos peeked_address) ∷ steps.constant 4 nil_word ∷ steps.constant 6 0 ∷ steps.store 4 6 (pos peeked_address)
        ∷ steps.return_if (steps.comparing comparison.Different 5 4) 5 ∷ perform (operation.Get 5) ∷ steps.compute_by 5 which.ShiftLeft 5 2
        ++ return_word 5 ∷ []

    -- the arena where no byte was looked at
    abbrev none_left_behind : Arena
    none_left_behind = with_word peeked_address nil_word y.arena

    -- the input goes on behind the byte that was looked at, or behind the one that is got
    represents_got :
        (left : List ℕ) (k : ℕ) → AreBytes left
        → Represents names program places (record z { input = left }) (record y { arena = none_left_behind; input = left; cost = k })
    represents_got left k bytes =
        represents_read names program places z y r left (record y { arena = none_left_behind; input = left; cost = k }) (changes_stored peeked_address nil_word r.arena refl (omega (arith, fixed_below names program places z y r)))
        (untouched (stored_fixed names program places z y r peeked_address nil_word refl (omega arith))) bytes refl

    gets_byte :
        (n : ℕ) (left : List ℕ) → AreBytes left → Peeked y.arena y.input left
        → Run names program places z y procedures below n (y.cost + 130 + 244 * 0) (result (first_byte left) (record z { input = other_bytes left }))
        (code_of getting) (first_registers 8 []) y.cost
    gets_byte n left are (one_peeked byte at is) =
        let bytes : AreBytes (byte ∷ y.input) = rw is at are in
        rw is (record {
          outcome = ends (returns (integer_word (pos byte))) _ (record y { arena = none_left_behind; cost = y.cost + 6 + 8 + 6 + 6 + 8 + 12 + 14 });
          runs =
              and_then constant_falls
              (and_then (load_falls refl (address_up 0 peeked_address (omega arith)) at)
              (and_then constant_falls
              (and_then constant_falls
              (and_then (store_falls refl refl (address_up 0 peeked_address (omega arith)) (fixed_lent names program places z y r peeked_address refl (omega arith)))
              (and_ends tt (choose_first_ends tt refl refl (ap not (integer_not_nil (pos byte))) (and_ends tt (return_ends refl))))))));
          answers =
              returns_stored names program places z y r (y.cost + 130 + 244 * 0) peeked_address nil_word (integer_word (pos byte)) (integer (pos byte)) (record z { input = y.input })
              (record y { arena = none_left_behind; cost = y.cost + 6 + 8 + 6 + 6 + 8 + 12 + 14 }) _ refl (omega arith) refl
              (byte_value places byte (bytes 0 (omega arith))) (represents_got y.input _ (other_are_bytes (byte ∷ y.input) bytes)) (omega arith);
        })
    gets_byte n left are (none_peeked at is) =
        let bytes : AreBytes y.input = rw is at are in
        rw is (record {
          outcome =
              ends (returns (word_got y.input)) _
              (record y { arena = none_left_behind; input = other_bytes y.input; cost = y.cost + 6 + 8 + 6 + 6 + 8 + 12 + 2 + 8 + 6 + 10 + 14 });
          runs =
              and_then constant_falls
              (and_then (load_falls refl (address_up 0 peeked_address (omega arith)) at)
              (and_then constant_falls
              (and_then constant_falls
              (and_then (store_falls refl refl (address_up 0 peeked_address (omega arith)) (fixed_lent names program places z y r peeked_address refl (omega arith)))
              (and_then (choose_second_falls refl refl refl none_left)
              (and_then (get_left y.input refl)
              (and_then constant_falls
              (and_then (compute_known refl refl (got_shifted y.input bytes))
              (and_ends tt (return_ends refl))))))))));
          answers =
              returns_stored names program places z y r (y.cost + 130 + 244 * 0) peeked_address nil_word (word_got y.input) (first_byte y.input) (record z { input = other_bytes y.input })
              (record y { arena = none_left_behind; input = other_bytes y.input; cost = y.cost + 6 + 8 + 6 + 6 + 8 + 12 + 2 + 8 + 6 + 10 + 14 }) _ refl (omega arith) refl
              (value_got places y.input bytes) (represents_got (other_bytes y.input) _ (other_are_bytes y.input bytes)) (omega arith);
        })

pub get_byte_does : InEveryFrame GetByte
get_byte_does = does_none GetByte refl (λ names program places z y procedures below n r are units.
    gets_byte names program places z y r procedures below n z.input r.input (peeked y.arena y.input z.input r.fixed.input))

-- ---- a byte is looked at

abbrev peeking : List MidStep
peeking =
    steps.constant 5 0 ∷ steps.load 5 5 (pos peeked_address) ∷ steps.constant 4 nil_word ∷ steps.return_if (steps.comparing comparison.Different 5 4) 5
    ∷ perform (operation.Get 5) ∷ steps.compute_by 5 which.ShiftLeft 5 2
    ++ steps.constant 4 (2 ^ 32 - 4) ∷ steps.return_if (steps.comparing comparison.Equal 5 4) 5
    ∷ steps.constant 6 0 ∷ steps.store 5 6 (pos peeked_address) ∷ return_word 5 ∷ []

-- only the word of the end is that of the integer -1
end_tells : (integer_word (negsuc 0) == 2 ^ 32 - 4) ≡ true
end_tells = rw (integer_word_of_negsuc 0 (omega arith)) refl

byte_tells : (byte : ℕ) → byte < 256 → (integer_word (pos byte) == 2 ^ 32 - 4) ≡ false
byte_tells byte h = rw (integer_word_of_pos byte (omega arith)) (by byte h)
  where
    by : (byte : ℕ) → byte < 256 → (4 * byte == 2 ^ 32 - 4) ≡ false
    by byte h = grind (arith, nat_tests)

module _
    (names : List (List ℕ)) (program : ProgramRows) (places : Places) (z : meaning.State) (y : MidState) (r : Represents names program places z y)
    (procedures : List MidProcedure) (below : Task → MidState → MidOutcome)
  where
    -- the byte that is got is kept
    peeks_left :
        (n : ℕ) (left : List ℕ) → z.input ≡ left → y.input ≡ left → word_at y.arena peeked_address ≡ Some nil_word
        → Run names program places z y procedures below n (y.cost + 130 + 244 * 0) (result (first_byte left) z) (code_of peeking) (first_registers 8 []) y.cost
    peeks_left n [] is same at =
        goes_on names program places z y procedures below constant_falls
        (goes_on names program places z y procedures below (load_falls refl (address_up 0 peeked_address (omega arith)) at)
        (goes_on names program places z y procedures below constant_falls
        (test_fails names program places z y procedures below refl refl refl
        (goes_on names program places z y procedures below (get_at_end same)
        (goes_on names program places z y procedures below constant_falls
        (goes_on names program places z y procedures below (compute_known refl refl end_read)
        (goes_on names program places z y procedures below constant_falls
        (first_answers names program places z y procedures below refl refl end_tells
        (returns_value names program places z y procedures below r refl refl (alike_self z) (omega arith))))))))))
    peeks_left n (byte ∷ bytes) is same at =
        let are : AreBytes (byte ∷ bytes) = rw is at r.input in
        let low : byte < 256 = are 0 (omega arith) in
        record {
          outcome = ends (returns (integer_word (pos byte))) _ (after bytes byte);
          runs =
              and_then constant_falls
              (and_then (load_falls refl (address_up 0 peeked_address (omega arith)) at)
              (and_then constant_falls
              (and_then (choose_second_falls refl refl refl none_left)
              (and_then (get_falls same)
              (and_then constant_falls
              (and_then (compute_known refl refl (byte_read byte low))
              (and_then constant_falls
              (and_then (choose_second_falls refl refl (byte_tells byte low) none_left)
              (and_then constant_falls
              (and_then (store_falls refl refl (address_up 0 peeked_address (omega arith)) (fixed_lent names program places z y r peeked_address refl (omega arith)))
              (and_ends tt (return_ends refl))))))))))));
          answers =
              returns_stored names program places z y r (y.cost + 130 + 244 * 0) peeked_address (integer_word (pos byte)) (integer_word (pos byte))
              (integer (pos byte)) z (after bytes byte) _ refl (omega arith) refl (byte_value places byte low)
              (represents_same names program places (record z { input = byte ∷ bytes }) z (after bytes byte) refl refl refl is
              (represents_read names program places z y r (byte ∷ bytes) (after bytes byte) (changes_stored peeked_address (integer_word (pos byte)) r.arena refl (omega (arith, fixed_below names program places z y r)))
              (looked_at byte (stored_fixed names program places z y r peeked_address (integer_word (pos byte)) refl (omega arith))) are refl))
              (omega arith);
        }
      where
        after : List ℕ → ℕ → MidState
        after bytes byte = record y {
          arena = with_word peeked_address (integer_word (pos byte)) y.arena;
          input = bytes;
          cost = y.cost + 6 + 8 + 6 + 12 + 2 + 8 + 6 + 10 + 6 + 12 + 2 + 6 + 8 + 14;
        }

    -- a byte that was looked at stays, or one is got
    peeks_byte :
        (n : ℕ) (left : List ℕ) → z.input ≡ left → Peeked y.arena y.input left
        → Run names program places z y procedures below n (y.cost + 130 + 244 * 0) (result (first_byte left) z) (code_of peeking) (first_registers 8 []) y.cost
    peeks_byte n left input (none_peeked at is) = peeks_left n left input (sym is) at
    peeks_byte n left input (one_peeked byte at is) =
        let are : AreBytes (byte ∷ y.input) = rw (input ∙ is) at r.input in
        rw is
        (goes_on names program places z y procedures below constant_falls
        (goes_on names program places z y procedures below (load_falls refl (address_up 0 peeked_address (omega arith)) at)
        (goes_on names program places z y procedures below constant_falls
        (first_answers names program places z y procedures below refl refl (ap not (integer_not_nil (pos byte)))
        (returns_value names program places z y procedures below r refl (byte_value places byte (are 0 (omega arith))) (alike_self z) (omega arith))))))

pub peek_byte_does : InEveryFrame PeekByte
peek_byte_does = does_none PeekByte refl (λ names program places z y procedures below n r are units.
    peeks_byte names program places z y r procedures below n z.input refl (peeked y.arena y.input z.input r.fixed.input))
