-- The name of a symbol is copied into a new string, as the meaning says.
use Rattle.std.proofs.Common.{◌≡◌, ℕ, ◌+◌, ◌*◌, ◌^◌, ◌<◌, ◌≤◌, pos, List, [], ◌∷◌, ◌++◌, length, Option, Some, None, refl, sym, ◌∙◌, arith}
use Rattle.std.specs.Prelude.{negsuc, slice_get}
use Rattle.std.proofs.lemmas.Option.{slice_get_within}
use Rattle.lang_meaning.specs.declared.program.ProgramRows.{ProgramRows}
use Rattle.lang_meaning.specs.declared.primitive.Primitive.TheVariants.{SymbolName}
use Rattle.lang_meaning.specs.Values.{Value, named}
use Rattle.lang_meaning.specs.Objects.{string}
use Rattle.lang_meaning.specs.State as meaning
use Rattle.lang_meaning.specs.Primitives.{Spelt, by_name, by_serial, makes_string}
use Rattle.mid_code.specs.declared.program.MidProcedure.{MidProcedure}
use Rattle.mid_code.specs.declared.operation.Arithmetic.TheVariants as which
use Rattle.mid_code.specs.declared.operation.Comparison.TheVariants.{Equal}
use Rattle.mid_code.specs.declared.operation.Operation.TheVariants.{Move, Request}
use Rattle.mid_code.specs.Arena.{Arena, left, word_at}
use Rattle.base.specs.Arithmetic.{sum32}
use Rattle.mid_code.specs.MidCode.{MidStep, perform, return_word, code_of}
use Rattle.mid_code.specs.State.{MidState, MidOutcome, returns, no_room, ends, first_registers}
use Rattle.mid_code.specs.Meaning.{Task, Context}
use Rattle.mid_arena.specs.Tags.{object_tag, nil_word, string_header, symbol_header, fresh_header}
use Rattle.mid_arena.specs.Places.{Spot, end_of, Places, word_of}
use Rattle.mid_arena.specs.FixedWords.{nil_text, nil_name_address, no_name_address}
use Rattle.mid_arena.specs.Layouts.{byte_words, TextAt}
use Rattle.mid_arena.specs.Represents.{Represents}
use Rattle.mid_arena.specs.Answers.{units_after}
use Rattle.mid_arena.specs.Steps as steps
use Rattle.mid_arena.proofs.Memory.{heap_below}
use Rattle.mid_arena.proofs.Arguments.{word_told, symbol_there}
use Rattle.mid_arena.proofs.Running.{RunsTo, turning, none_left, and_then, and_ends, costing, move_falls, constant_falls, compute_known}
use Rattle.mid_arena.proofs.Running.{load_falls, store_in_heap, request_falls, request_wanting, compute_falls}
use Rattle.mid_arena.proofs.Running.{return_ends, choose_first_falls, address_above, address_below, address_here}
use Rattle.mid_arena.proofs.Making.{Room, is_left, is_wanting, room_for, begun, begun_grows, begun_heap, begun_blocks, fixed_below, answers_wanting, answers_made}
use Rattle.mid_arena.proofs.Doing.{alike_self, Run, goes_on, test_fails, paid}
use Rattle.mid_arena.proofs.NeedingSymbols.{SymbolFound, is_nil, is_named, is_fresh, header_address, symbol_needed}
use Rattle.mid_arena.proofs.NewTexts.{words_from_count, text_words, text_word_there, string_begun}
use Rattle.mid_arena.proofs.CopyingWords.{copy_words, Copies, copies}
use Rattle.mid_arena.proofs.Growing.{spot_below}
use Rattle.mid_arena.proofs.Taking.{does_one}
use Rattle.mid_arena.proofs.Registers.{last_two}
use Rattle.mid_arena.proofs.WordFacts.{four_times_count}
use Rattle.mid_arena.proofs.ArithmeticBytes.{byte_words_is}
use Rattle.mid_arena.proofs.Entering.{InEveryFrame}

-- ---- the code

-- a text is copied, to which the word in register 4 points
abbrev copy_lines : List MidStep
copy_lines =
    steps.load 1 4 (pos 2) ∷ steps.compute_by 5 which.Add 1 12 ++ steps.compute_by 5 which.ShiftRight 5 4 ++ steps.compute_by 7 which.Add 5 2
    ++ perform (Request 3 7) ∷ steps.constant 7 string_header ∷ steps.store 7 3 (pos 0) ∷ steps.store 1 3 (pos 4) ∷ steps.compute_by 5 which.ShiftLeft 5 2
    ++ steps.compute 5 which.Add 5 3 ∷ perform (Move 7 3) ∷ copy_words ∷ steps.compute_by 3 which.Add 3 object_tag ++ return_word 3 ∷ []

-- it is found for a symbol
abbrev find_lines : List MidStep
find_lines =
    perform (Move 4 0) ∷ steps.constant 6 nil_word ∷ steps.either (steps.comparing Equal 0 6) (steps.constant 4 (nil_name_address + object_tag) ∷ []) []
    ∷ steps.load 7 4 (negsuc 1) ∷ steps.constant 6 fresh_header
    ∷ steps.either (steps.comparing Equal 7 6) (steps.constant 4 (no_name_address + object_tag) ∷ []) [] ∷ copy_lines

module _
    (names : List (List ℕ)) (program : ProgramRows) (places : Places) (z : meaning.State) (y : MidState) (r : Represents names program places z y)
    (procedures : List MidProcedure) (below : Task → MidState → MidOutcome)
  where
    -- a text that stands in a spot is copied
    module _ (n p : ℕ) (bytes : List ℕ) (s : Spot) (points : p ≡ s.address + 2) (high : end_of s ≤ y.arena.heap_to) (text : TextAt y.arena s symbol_header bytes) where
      -- how many words the bytes take, and where they are stored
      abbrev count : ℕ
      count = byte_words (length bytes)

      abbrev heap : ℕ
      heap = y.arena.heap_to

      -- the arena where the header and the count of the string were stored, and the one where all was
      abbrev begun_arena : Arena
      begun_arena = begun (2 + count) (string_header ∷ 4 * length bytes ∷ []) y.arena

      abbrev string_arena : Arena
      string_arena = begun (2 + count) (string_header ∷ 4 * length bytes ∷ text_words bytes) y.arena

      -- the words are not left
      copy_wanting :
          {c : Context} {r0 r6 r7 : Option ℕ} (k : ℕ) → left y.arena < 2 + count
          → RunsTo c (code_of copy_lines) (r0 ∷ None ∷ None ∷ None ∷ Some p ∷ None ∷ r6 ∷ r7 ∷ []) (paid y k)
          (ends (no_room (2 + count) (left y.arena))
          (r0 ∷ Some (4 * length bytes) ∷ None ∷ None ∷ Some p ∷ Some count ∷ Some 2 ∷ Some (2 + count) ∷ []) (paid y (k + 76)))
      copy_wanting k lacking =
          let small = heap_below r.arena in
          let size = text.size.words in
          costing
          (and_then (load_falls refl (address_above p 2 (s.address + 4) (omega arith) (omega arith)) text.count)
          (and_then constant_falls
          (and_then (compute_falls refl refl)
          (and_then constant_falls
          (and_then (compute_known refl refl (byte_words_is (length bytes) (omega arith)))
          (and_then constant_falls
          (and_then (compute_known refl refl (omega arith))
          (and_ends tt (request_wanting refl lacking))))))))) (omega arith)

      -- or they are, and the words of the text are copied
      module _ (r0 r7 : Option ℕ) (k : ℕ) (room : 2 + count ≤ left y.arena) (turns : count ≤ n) where
        -- the state where the loop begins
        abbrev loop_state : MidState
        loop_state = record y { arena = begun_arena; cost = k + 8 + 6 + 10 + 6 + 10 + 6 + 10 + 20 + 6 + 8 + 8 + 6 + 10 + 10 + 6 }

        as_many : length (text_words bytes) ≡ count
        as_many = words_from_count bytes 0 count

        -- the words of the text stand in the arena that grew
        text_stands : (i w : ℕ) → slice_get (text_words bytes) i ≡ Some w → word_at begun_arena (s.address + 8 + 4 * i) ≡ Some w
        text_stands i w found =
            let low : i < count = omega (arith, as_many, slice_get_within (text_words bytes) i w found) in
            (begun_grows (2 + count) (string_header ∷ 4 * length bytes ∷ []) r.arena room (omega arith)).words (s.address + 8 + 4 * i) (omega (arith, text.size.words))
            ∙ text.words i low ∙ sym (text_word_there bytes i low) ∙ found

        -- so they are copied behind the header and the count
        copied : Copies procedures below n (text_words bytes) (heap + 4 + 4) r0 (Some (4 * length bytes)) None (Some heap) (Some p) (Some (heap + 4 * count)) (Some 2) (Some heap) loop_state
        copied =
            copies procedures below (text_words bytes) n p heap (heap + 4 * count) (s.address + 8) (heap + 4 + 4) r0 (Some (4 * length bytes)) None (Some heap) (Some 2) loop_state
            (begun_grows (2 + count) (string_header ∷ 4 * length bytes ∷ []) r.arena room (omega arith)).stands (omega arith) (omega arith) (omega (arith, as_many))
            (omega (arith, r.arena.aligned)) (omega (arith, r.arena.heap)) (omega (arith, as_many)) (omega (arith, as_many, text.size.words)) (omega (arith, as_many)) text_stands

        copy_ends :
            RunsTo (turning procedures below n) (code_of copy_lines) (r0 ∷ None ∷ None ∷ None ∷ Some p ∷ None ∷ Some fresh_header ∷ r7 ∷ []) (paid y k)
            (ends (returns (heap + 2))
            (r0 ∷ Some (4 * length bytes) ∷ None ∷ Some (heap + 2) ∷ copied.four ∷ Some (heap + 4 * count) ∷ Some 2 ∷ copied.seven ∷ [])
            (record y { arena = string_arena; cost = k + 172 + 62 * count }))
        copy_ends =
            let small = heap_below r.arena in
            let size = text.size.words in
            let end_is : sum32 (4 * count) heap ≡ heap + 4 * count = omega arith in
            costing
            (and_then (load_falls refl (address_above p 2 (s.address + 4) (omega arith) (omega arith)) text.count)
            (and_then constant_falls
            (and_then (compute_falls refl refl)
            (and_then constant_falls
            (and_then (compute_known refl refl (byte_words_is (length bytes) (omega arith)))
            (and_then constant_falls
            (and_then (compute_known refl refl (omega arith))
            (and_then (request_falls refl room)
            (and_then constant_falls
            (and_then (store_in_heap refl refl (address_here heap (omega arith)) r.arena.aligned (omega (arith, r.arena.heap)) (omega arith))
            (and_then (store_in_heap refl refl (address_above heap 4 (heap + 4) refl (omega arith)) (omega (arith, r.arena.aligned)) (omega (arith, r.arena.heap)) (omega arith))
            (and_then constant_falls
            (and_then (compute_known refl refl (four_times_count count (omega arith)))
            (and_then (compute_known refl refl end_is)
            (and_then (move_falls refl)
            (and_then copied.steps
            (and_then constant_falls
            (and_then (compute_known refl refl (omega arith))
            (and_ends tt (return_ends refl)))))))))))))))))))) (omega (arith, copied.cost, as_many))

      -- the string is made, or its words are not left
      copy_run :
          (budget k : ℕ) (r0 r7 : Option ℕ) → count ≤ n → k ≤ budget
          → Run names program places z y procedures below n budget (makes_string bytes z) (code_of copy_lines) (r0 ∷ None ∷ None ∷ None ∷ Some p ∷ None ∷ Some fresh_header ∷ r7 ∷ []) k
      copy_run budget k r0 r7 turns cost = by (room_for (2 + count) y.arena)
        where
          by :
              Room (2 + count) y.arena
              → Run names program places z y procedures below n budget (makes_string bytes z) (code_of copy_lines) (r0 ∷ None ∷ None ∷ None ∷ Some p ∷ None ∷ Some fresh_header ∷ r7 ∷ []) k
          by (is_wanting lacking) = record {
            outcome = _;
            runs = copy_wanting k lacking;
            answers = answers_wanting names program places z y r (2 + count) _ (k + 76) lacking refl (omega (arith, cost));
          }
          by (is_left room) =
              let all : List ℕ = string_header ∷ 4 * length bytes ∷ text_words bytes in
              record {
                outcome = _;
                runs = copy_ends r0 r7 k room turns;
                answers =
                    answers_made names program places z y r (2 + count) (length bytes) (string bytes) z (record y { arena = string_arena; cost = k + 172 + 62 * count }) _
                    (alike_self z) (begun_grows (2 + count) all r.arena room (omega (arith, as_many))) (begun_heap (2 + count) all y.arena) (begun_blocks (2 + count) all y.arena) refl refl (omega arith)
                    (string_begun bytes r.arena room text.bytes) tt (omega (arith, cost));
              }

-- ---- symbols

-- how the meaning spells a symbol in a string
abbrev name_of : Spelt → List ℕ
name_of (by_name name) = name
name_of (by_serial serial) = []

module _
    (names : List (List ℕ)) (program : ProgramRows) (places : Places) (z : meaning.State) (y : MidState) (r : Represents names program places z y)
    (procedures : List MidProcedure) (below : Task → MidState → MidOutcome)
  where
    -- the text is that of nil, that of the symbol, or an empty one
    find_run :
        (n budget k w : ℕ) (v : Value) (s : Spelt) (a b : Option ℕ) → word_of places v ≡ Some w → SymbolFound y.arena v w s
        → byte_words (length (name_of s)) ≤ n → k + 66 ≤ budget
        → Run names program places z y procedures below n budget (makes_string (name_of s) z) (code_of find_lines)
        (Some w ∷ None ∷ None ∷ None ∷ None ∷ None ∷ a ∷ b ∷ []) k
    find_run n budget k w v s a b word found turns cost = by found
      where
        small : w < 2 ^ 32
        small = word_told names program places z y r v w word

        fixed : 184 ≤ y.arena.heap_to
        fixed = fixed_below names program places z y r

        by :
            SymbolFound y.arena v w s
            → Run names program places z y procedures below n budget (makes_string (name_of s) z) (code_of find_lines)
            (Some w ∷ None ∷ None ∷ None ∷ None ∷ None ∷ a ∷ b ∷ []) k
        by (is_nil v_is spelt same) =
            rw spelt
            (goes_on names program places z y procedures below (move_falls refl)
            (goes_on names program places z y procedures below constant_falls
            (goes_on names program places z y procedures below (choose_first_falls refl refl same (and_then constant_falls none_left))
            (goes_on names program places z y procedures below (load_falls refl (address_below 166 1 nil_name_address refl (omega arith)) r.fixed.nil_name.header)
            (goes_on names program places z y procedures below constant_falls
            (test_fails names program places z y procedures below refl refl refl
            (copy_run names program places z y r procedures below n 166 nil_text _ refl (omega (arith, fixed)) r.fixed.nil_name budget _ (Some w) (Some symbol_header)
            (rw spelt at turns) (omega (arith, cost)))))))))
        by (is_named name v_is spelt other tag at) =
            let there = symbol_there names program places z y r (named name) w (rw v_is at word) in
            rw spelt
            (goes_on names program places z y procedures below (move_falls refl)
            (goes_on names program places z y procedures below constant_falls
            (test_fails names program places z y procedures below refl refl other
            (goes_on names program places z y procedures below (load_falls refl (header_address w small tag) at)
            (goes_on names program places z y procedures below constant_falls
            (test_fails names program places z y procedures below refl refl refl
            (copy_run names program places z y r procedures below n w name there.spot there.word (spot_below r.arena there.spot_stands) there.stands budget _ (Some w) (Some symbol_header)
            (rw spelt at turns) (omega (arith, cost)))))))))
        by (is_fresh serial spelt other tag low at behind) =
            rw spelt
            (goes_on names program places z y procedures below (move_falls refl)
            (goes_on names program places z y procedures below constant_falls
            (test_fails names program places z y procedures below refl refl other
            (goes_on names program places z y procedures below (load_falls refl (header_address w small tag) at)
            (goes_on names program places z y procedures below constant_falls
            (goes_on names program places z y procedures below (choose_first_falls refl refl refl (and_then constant_falls none_left))
            (copy_run names program places z y r procedures below n 178 [] _ refl (omega (arith, fixed)) r.fixed.no_name budget _ (Some w) (Some fresh_header)
            (rw spelt at turns) (omega (arith, cost)))))))))

pub symbol_name_does : InEveryFrame SymbolName
symbol_name_does = does_one SymbolName refl (λ v w names program places z y procedures below n r are units.
    symbol_needed names program places z y r procedures below n (y.cost + 130 + 244) y.cost 0 w v (λ s. makes_string (name_of s) z) find_lines
    (first_registers 8 (w ∷ [])) (omega arith) refl refl are.0 (omega arith)
    (λ s rs k spelt found scratched paid.
    let last = last_two scratched in
    let charged : units_after names program (makes_string (name_of s) z) ≤ z.units + n = rw spelt at units in
    rw last.same
    (find_run names program places z y r procedures below n (y.cost + 130 + 244) k w v s last.six last.seven are.0 found (omega (arith, charged)) (omega (arith, paid)))))
