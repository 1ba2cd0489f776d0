-- The length of a string, a character of it, and a character that is set do what the meaning says of them.
use Rattle.std.proofs.Common.{◌≡◌, Option, ℕ, ◌+◌, ◌*◌, ◌/◌, ◌%◌, ◌^◌, ◌<◌, ◌≤◌, pos, List, [], ◌∷◌, ◌++◌, length, Some, ⊎_elim, refl, sym, ap, ◌∙◌, arith}
use Rattle.std.specs.Prelude.{slice_set, slice_index_or, ◌≢◌}
use Rattle.std.proofs.lemmas.Bool.{cases_eq}
use Rattle.std.proofs.Math.ListN.{length-set}
use Rattle.lang_meaning.specs.declared.program.ProgramRows.{ProgramRows}
use Rattle.lang_meaning.specs.declared.primitive.Primitive.TheVariants.{StringLength, CharAt, SetCharAt}
use Rattle.lang_meaning.specs.Values.{Value, integer, character}
use Rattle.lang_meaning.specs.Objects.{string, string_class}
use Rattle.lang_meaning.specs.State as meaning
use Rattle.lang_meaning.specs.Primitives.{result, an_integer, a_string, an_index, change}
use Rattle.mid_code.specs.declared.program.MidProcedure.{MidProcedure}
use Rattle.mid_code.specs.Meaning.{Task, Context}
use Rattle.mid_code.specs.declared.operation.Arithmetic.TheVariants as which
use Rattle.base.specs.Arithmetic.{sum32, shift_left, shift_right}
use Rattle.mid_code.specs.Arena.{Arena, word_at, with_word}
use Rattle.mid_code.specs.MidCode.{MidStep, return_word, code_of}
use Rattle.mid_code.specs.State.{MidState, MidOutcome, falls, ends, first_registers}
use Rattle.mid_arena.specs.Tags.{string_header, character_word}
use Rattle.mid_arena.specs.Places.{Spot, Places, word_of}
use Rattle.mid_arena.specs.Standing.{ArenaStands, SpotStands}
use Rattle.mid_arena.specs.FixedWords.{class_address}
use Rattle.mid_arena.specs.Layouts.{byte_words, byte_at, packed, TextAt}
use Rattle.mid_arena.specs.Represents.{Represents}
use Rattle.mid_arena.specs.Steps as steps
use Rattle.mid_arena.specs.Steps.{steps_of}
use Rattle.mid_arena.proofs.WordFacts.{character_code}
use Rattle.mid_arena.proofs.ArithmeticBytes.{byte_below, changed_bytes, byte_offset, byte_shift, byte_in, word_changed, byte_in_is, character_in_is, word_changed_is, other_packed}
use Rattle.mid_arena.proofs.ArithmeticBytes.{byte_offset_is, byte_shift_is, word_of_byte_there}
use Rattle.mid_arena.proofs.Running.{RunsTo, and_then, none_left, costing, constant_falls, compute_falls, load_falls, compute_known, address_above}
use Rattle.mid_arena.proofs.Memory.{stored_in_spot, spot_low, others_in_spot}
use Rattle.mid_arena.proofs.Arguments.{ObjectFound, object_found, character_word_there, length_word_is}
use Rattle.mid_arena.proofs.Doing.{alike_self, paid, Run, goes_on, returns_value, part_then}
use Rattle.mid_arena.proofs.Checking.{integer_needed, character_needed}
use Rattle.mid_arena.proofs.Needing.{string_needed}
use Rattle.mid_arena.proofs.Arrays.{index_needed, stores_changed}
use Rattle.mid_arena.proofs.Taking.{does_one, does_two, does_three}
use Rattle.mid_arena.proofs.Entering.{InEveryFrame}

-- a string in whose spot the word with a byte was changed
pub string_set :
    (a : Arena) (s : Spot) (bytes : List ℕ) (i c : ℕ) → ArenaStands a → SpotStands a s → i < length bytes → c < 256 → TextAt a s string_header bytes
    → TextAt (with_word (s.address + 4 * (2 + i / 4)) (packed (slice_set bytes i c) (4 * (i / 4))) a) s string_header (slice_set bytes i c)
string_set a s bytes i c arena stands low small t =
    let same : length (slice_set bytes i c) ≡ length bytes = length-set bytes i c in
    record {
      size = record { words = t.size.words ∙ ap (λ n. 2 + byte_words n) (sym same); tag = t.size.tag };
      bytes = changed_bytes bytes i c t.bytes small;
      header = elsewhere s.address (omega arith) ∙ t.header;
      count = elsewhere (s.address + 4) (omega arith) ∙ t.count ∙ ap (λ n. Some (4 * n)) (sym same);
      words = λ j h. ⊎_elim (here j) (beside j (omega (arith, same))) (cases_eq j (i / 4));
    }
  where
    now : ℕ
    now = packed (slice_set bytes i c) (4 * (i / 4))

    elsewhere : (x : ℕ) → s.address + 4 * (2 + i / 4) ≢ x → word_at (with_word (s.address + 4 * (2 + i / 4)) now a) x ≡ word_at a x
    elsewhere x other = others_in_spot (2 + i / 4) now x stands other

    here : (j : ℕ) → j ≡ i / 4 → word_at (with_word (s.address + 4 * (2 + i / 4)) now a) (s.address + 8 + 4 * j) ≡ Some (packed (slice_set bytes i c) (4 * j))
    here j e =
        stored_in_spot (2 + i / 4) now (s.address + 8 + 4 * j) arena stands (omega (arith, t.size.words, word_of_byte_there (length bytes) i low)) (omega arith)
        ∙ ap (λ k. Some (packed (slice_set bytes i c) (4 * k))) (sym e)

    beside :
        (j : ℕ) → j < byte_words (length bytes) → j ≢ i / 4
        → word_at (with_word (s.address + 4 * (2 + i / 4)) now a) (s.address + 8 + 4 * j) ≡ Some (packed (slice_set bytes i c) (4 * j))
    beside j h other =
        elsewhere (s.address + 8 + 4 * j) (λ e. other (omega arith)) ∙ t.words j h ∙ ap (λ w. Some w) (sym (other_packed bytes i c j other))

module _ (names : List (List ℕ)) (program : ProgramRows) (places : Places) (z : meaning.State) (y : MidState) (r : Represents names program places z y) where
  -- a string stands in the heap or beside the code, so its word and its length are not large
  string_low : (v : Value) (w : ℕ) (bytes : List ℕ) → ObjectFound names program places z y r v w (string bytes) → w + length bytes + 8 < 2 ^ 27
  string_low v w bytes it =
      let high = spot_low r.arena it.spot_stands in
      omega (arith, it.word, it.stands.size.words, high)

pub string_length_does : InEveryFrame StringLength
string_length_does = does_one StringLength refl (λ v a names program places z y procedures below n r are units.
    string_needed names program places z y r procedures below n (y.cost + 130 + 244 * 1) y.cost 0 a v (λ bytes. result (integer (pos (length bytes))) z)
    (steps.load 5 0 (pos 2) ∷ return_word 5 ∷ []) (first_registers 8 (a ∷ [])) (omega arith) refl refl are.0 (omega arith)
    (λ bytes found.
    let it = object_found names program places z y r v a (string bytes) are.0 found in
    let low = string_low names program places z y r v a bytes it in
    goes_on names program places z y procedures below
    (load_falls refl (address_above a 2 (it.spot.address + 4) (omega (arith, it.word)) (omega (arith, it.word, low))) it.stands.count)
    (returns_value names program places z y procedures below r refl (length_word_is places (length bytes) (omega (arith, low))) (alike_self z) (omega arith))))

-- ---- the code behind the tests of the string and the index

-- the address of the word with the byte comes into register 5, but for an offset
abbrev word_before : (index text : ℕ) → List MidStep → List MidStep
word_before index text rest = steps.compute_by 5 which.ShiftRight index 4 ++ steps.compute_by 5 which.ShiftLeft 5 2 ++ steps.compute 5 which.Add 5 text ∷ rest

-- the character is taken out of the word, and returned
abbrev character_taking : List MidStep
character_taking =
    steps.load 5 5 (pos 6) ∷ steps.compute_by 4 which.ShiftLeft 1 28 ++ steps.compute_by 4 which.ShiftRight 4 27 ++ steps.compute 5 which.ShiftRight 5 4
    ∷ steps.compute_by 5 which.ShiftLeft 5 24 ++ steps.compute_by 5 which.ShiftRight 5 16 ++ steps.compute_by 5 which.Add 5 15 ++ return_word 5 ∷ []

-- the old byte is taken away from the word in register 4, and the new one added
abbrev word_changing : List MidStep
word_changing =
    steps.compute_by 3 which.ShiftLeft 2 28 ++ steps.compute_by 3 which.ShiftRight 3 27 ++ steps.compute 7 which.ShiftRight 4 3
    ∷ steps.compute_by 7 which.ShiftLeft 7 24 ++ steps.compute_by 7 which.ShiftRight 7 24 ++ steps.compute 7 which.ShiftLeft 7 3 ∷ steps.compute 4 which.Subtract 4 7
    ∷ steps.compute_by 7 which.ShiftRight 0 8 ++ steps.compute 7 which.ShiftLeft 7 3 ∷ steps.compute 4 which.Add 4 7 ∷ []

-- the word is stored with the character in it, which is returned
abbrev character_setting : List MidStep
character_setting = steps.load 4 5 (pos 6) ∷ word_changing ++ (steps.store 4 5 (pos 6) ∷ return_word 0 ∷ [])

-- what the word is then
changing_falls :
    {context : Context} {r1 r3 r5 r6 r7 : Option ℕ} {k : ℕ} (y : MidState) (a c word old new : ℕ) → byte_in word (byte_shift c) ≡ old → shift_right a 8 ≡ new
    → RunsTo context (code_of word_changing) (Some a ∷ r1 ∷ Some c ∷ r3 ∷ Some word ∷ r5 ∷ r6 ∷ r7 ∷ []) (paid y k)
    (ends falls
    (Some a ∷ r1 ∷ Some c ∷ Some (byte_shift c) ∷ Some (word_changed word old new (byte_shift c)) ∷ r5 ∷ Some 8 ∷ Some (shift_left new (byte_shift c)) ∷ [])
    (paid y (k + 130)))
changing_falls y a c word old new old_is new_is =
    costing
    (and_then constant_falls
    (and_then (compute_falls refl refl)
    (and_then constant_falls
    (and_then (compute_falls refl refl)
    (and_then (compute_falls refl refl)
    (and_then constant_falls
    (and_then (compute_falls refl refl)
    (and_then constant_falls
    (and_then (compute_known refl refl old_is)
    (and_then (compute_falls refl refl)
    (and_then (compute_falls refl refl)
    (and_then constant_falls
    (and_then (compute_known refl refl new_is)
    (and_then (compute_falls refl refl)
    (and_then (compute_falls refl refl) none_left))))))))))))))) (omega arith)

module _
    (names : List (List ℕ)) (program : ProgramRows) (places : Places) (z : meaning.State) (y : MidState) (r : Represents names program places z y)
    (procedures : List MidProcedure) (below : Task → MidState → MidOutcome)
  where
    -- a character is returned
    character_run :
        (n budget k a b i : ℕ) (v : Value) (bytes : List ℕ) (r2 r3 r4 r5 r6 r7 : Option ℕ) → ObjectFound names program places z y r v a (string bytes)
        → i < length bytes → b ≡ 4 * i → k + 154 ≤ budget
        → Run names program places z y procedures below n budget (result (character (slice_index_or bytes i 0)) z) (code_of (word_before 1 0 character_taking))
        (Some a ∷ Some b ∷ r2 ∷ r3 ∷ r4 ∷ r5 ∷ r6 ∷ r7 ∷ []) k
    character_run n budget k a b i v bytes r2 r3 r4 r5 r6 r7 it inside index cost =
        let low = string_low names program places z y r v a bytes it in
        let offset : byte_offset b ≡ 4 * (i / 4) = ap byte_offset index ∙ byte_offset_is i (omega (arith, low, inside)) in
        let shift : byte_shift b % 32 ≡ 8 * (i % 4) = ap (λ x. byte_shift x % 32) index ∙ byte_shift_is i in
        let sum : sum32 (4 * (i / 4)) a ≡ it.spot.address + 2 + 4 * (i / 4) = omega (arith, it.word, low, inside) in
        goes_on names program places z y procedures below constant_falls
        (goes_on names program places z y procedures below (compute_falls refl refl)
        (goes_on names program places z y procedures below constant_falls
        (goes_on names program places z y procedures below (compute_known refl refl offset)
        (goes_on names program places z y procedures below (compute_known refl refl sum)
        (goes_on names program places z y procedures below
        (load_falls refl (address_above (it.spot.address + 2 + 4 * (i / 4)) 6 (it.spot.address + 8 + 4 * (i / 4)) (omega arith) (omega (arith, it.word, low, inside)))
        (it.stands.words (i / 4) (word_of_byte_there (length bytes) i inside)))
        (goes_on names program places z y procedures below constant_falls
        (goes_on names program places z y procedures below (compute_falls refl refl)
        (goes_on names program places z y procedures below constant_falls
        (goes_on names program places z y procedures below (compute_falls refl refl)
        (goes_on names program places z y procedures below (compute_falls refl refl)
        (goes_on names program places z y procedures below constant_falls
        (goes_on names program places z y procedures below (compute_falls refl refl)
        (goes_on names program places z y procedures below constant_falls
        (goes_on names program places z y procedures below (compute_falls refl refl)
        (goes_on names program places z y procedures below constant_falls
        (goes_on names program places z y procedures below (compute_known refl refl (character_in_is bytes i (byte_shift b) it.stands.bytes shift))
        (returns_value names program places z y procedures below r refl (character_word_there places (byte_at bytes i) (omega (arith, byte_below bytes i it.stands.bytes))) (alike_self z)
        (omega (arith, cost)))))))))))))))))))

    -- a character is set, and returned
    setting_run :
        (n budget k a b c i x : ℕ) (v w : Value) (bytes : List ℕ) (r3 r4 r5 r6 r7 : Option ℕ) → ObjectFound names program places z y r w b (string bytes)
        → i < length bytes → c ≡ 4 * i → x < 256 → a ≡ character_word x → word_of places v ≡ Some a → k + 202 ≤ budget
        → Run names program places z y procedures below n budget (result v (change w (string (slice_set bytes i x)) z)) (code_of (word_before 2 1 character_setting))
        (Some a ∷ Some b ∷ Some c ∷ r3 ∷ r4 ∷ r5 ∷ r6 ∷ r7 ∷ []) k
    setting_run n budget k a b c i x v w bytes r3 r4 r5 r6 r7 it inside index small a_is word cost =
        let low = string_low names program places z y r w b bytes it in
        let there : i / 4 < byte_words (length bytes) = word_of_byte_there (length bytes) i inside in
        let offset : byte_offset c ≡ 4 * (i / 4) = ap byte_offset index ∙ byte_offset_is i (omega (arith, low, inside)) in
        let shift : byte_shift c % 32 ≡ 8 * (i % 4) = ap (λ x. byte_shift x % 32) index ∙ byte_shift_is i in
        let sum : sum32 (4 * (i / 4)) b ≡ it.spot.address + 2 + 4 * (i / 4) = omega (arith, it.word, low, inside) in
        let code : shift_right a 8 ≡ x = ap (λ w. shift_right w 8) a_is ∙ character_code x in
        goes_on names program places z y procedures below constant_falls
        (goes_on names program places z y procedures below (compute_falls refl refl)
        (goes_on names program places z y procedures below constant_falls
        (goes_on names program places z y procedures below (compute_known refl refl offset)
        (goes_on names program places z y procedures below (compute_known refl refl sum)
        (goes_on names program places z y procedures below
        (load_falls refl (address_above (it.spot.address + 2 + 4 * (i / 4)) 6 (it.spot.address + 8 + 4 * (i / 4)) (omega arith) (omega (arith, it.word, low, inside)))
        (it.stands.words (i / 4) there))
        (part_then names program places z y procedures below word_changing (steps.store 4 5 (pos 6) ∷ return_word 0 ∷ [])
        (changing_falls y a c (packed bytes (4 * (i / 4))) (byte_at bytes i) x (byte_in_is bytes i (byte_shift c) it.stands.bytes shift) code)
        (stores_changed names program places z y r procedures below n budget _ it.number 4 5 0 (it.spot.address + 2 + 4 * (i / 4))
        (it.spot.address + 4 * (2 + i / 4)) (packed (slice_set bytes i x) (4 * (i / 4))) a (pos 6) it.spot (string bytes) (string (slice_set bytes i x)) v w _
        (ap (λ w. Some w) (word_changed_is bytes i x (byte_shift c) it.stands.bytes inside small shift)) refl
        (address_above (it.spot.address + 2 + 4 * (i / 4)) 6 (it.spot.address + 4 * (2 + i / 4)) (omega arith) (omega (arith, it.word, low, inside)))
        refl word (omega (arith, it.spot_stands.aligned)) (omega arith) (omega (arith, it.stands.size.words, there)) it.stored tt tt (λ p e. cc e) it.found it.value
        (string_set y.arena it.spot bytes i x r.arena it.spot_stands inside small it.stands) (omega (arith, cost)))))))))

pub char_at_does : InEveryFrame CharAt
char_at_does = does_two CharAt refl (λ v w a b names program places z y procedures below n r are units.
    string_needed names program places z y r procedures below n (y.cost + 130 + 244 * 2) y.cost 0 a v
    (λ bytes. an_integer w z (λ m. an_index m (length bytes) z (λ i. result (character (slice_index_or bytes i 0)) z)))
    (steps.need_integer 1 ++ steps.load 7 0 (pos 2) ∷ steps.need_below 1 7 ∷ (word_before 1 0 character_taking))
    (first_registers 8 (a ∷ b ∷ [])) (omega arith) refl refl are.0 (omega arith)
    (λ bytes found.
    let it = object_found names program places z y r v a (string bytes) are.0 found in
    let low = string_low names program places z y r v a bytes it in
    integer_needed names program places z y r procedures below n (y.cost + 130 + 244 * 2) _ 1 b w
    (λ m. an_index m (length bytes) z (λ i. result (character (slice_index_or bytes i 0)) z))
    (steps.load 7 0 (pos 2) ∷ steps.need_below 1 7 ∷ (word_before 1 0 character_taking)) _ (omega arith) refl refl are.1.0 (omega arith)
    (λ m m_is range m_word.
    goes_on names program places z y procedures below
    (load_falls refl (address_above a 2 (it.spot.address + 4) (omega (arith, it.word)) (omega (arith, it.word, low))) it.stands.count)
    (index_needed names program places z y r procedures below n (y.cost + 130 + 244 * 2) _ 1 (length bytes) m (λ i. result (character (slice_index_or bytes i 0)) z)
    (word_before 1 0 character_taking) _ refl (ap (λ x. Some x) m_word) refl range (omega (arith, low)) (omega arith)
    (λ i inside i_word.
    character_run names program places z y r procedures below n (y.cost + 130 + 244 * 2) _ a b i v bytes _ _ _ _ _ _ it inside (m_word ∙ i_word) (omega arith))))))

pub set_char_at_does : InEveryFrame SetCharAt
set_char_at_does = does_three SetCharAt refl (λ v w u a b c names program places z y procedures below n r are units.
    character_needed names program places z y r procedures below n (y.cost + 130 + 244 * 3) y.cost 0 a v
    (λ x. a_string w z (λ bytes. an_integer u z (λ m. an_index m (length bytes) z (λ i. result v (change w (string (slice_set bytes i x)) z)))))
    (steps.need_header 1 string_header 1 (pos (class_address string_class))
    ++ (steps.need_integer 2 ++ steps.load 7 1 (pos 2) ∷ steps.need_below 2 7 ∷ (word_before 2 1 character_setting)))
    (first_registers 8 (a ∷ b ∷ c ∷ [])) (omega arith) refl refl are.0 (omega arith)
    (λ x x_is x_low x_word.
    string_needed names program places z y r procedures below n (y.cost + 130 + 244 * 3) _ 1 b w
    (λ bytes. an_integer u z (λ m. an_index m (length bytes) z (λ i. result v (change w (string (slice_set bytes i x)) z))))
    (steps.need_integer 2 ++ steps.load 7 1 (pos 2) ∷ steps.need_below 2 7 ∷ (word_before 2 1 character_setting))
    _ (omega arith) refl refl are.1.0 (omega arith)
    (λ bytes found.
    let it = object_found names program places z y r w b (string bytes) are.1.0 found in
    let low = string_low names program places z y r w b bytes it in
    integer_needed names program places z y r procedures below n (y.cost + 130 + 244 * 3) _ 2 c u
    (λ m. an_index m (length bytes) z (λ i. result v (change w (string (slice_set bytes i x)) z)))
    (steps.load 7 1 (pos 2) ∷ steps.need_below 2 7 ∷ (word_before 2 1 character_setting)) _ (omega arith) refl refl are.1.1.0 (omega arith)
    (λ m m_is range m_word.
    goes_on names program places z y procedures below
    (load_falls refl (address_above b 2 (it.spot.address + 4) (omega (arith, it.word)) (omega (arith, it.word, low))) it.stands.count)
    (index_needed names program places z y r procedures below n (y.cost + 130 + 244 * 3) _ 2 (length bytes) m
    (λ i. result v (change w (string (slice_set bytes i x)) z))
    (word_before 2 1 character_setting) _ refl (ap (λ x. Some x) m_word) refl range (omega (arith, low)) (omega arith)
    (λ i inside i_word.
    setting_run names program places z y r procedures below n (y.cost + 130 + 244 * 3) _ a b c i x v w bytes _ _ _ _ _ it inside (m_word ∙ i_word)
    (omega (arith, x_low)) x_word are.0 (omega arith)))))))
