-- The line that needs a symbol, beside the meaning's test of it.
use Rattle.std.proofs.Common.{◌≡◌, ℕ, ◌+◌, ◌-◌, ◌*◌, ◌%◌, ◌^◌, ◌<◌, ◌≤◌, true, false, List, ◌++◌, length, Some, refl, sym, ap, ◌∙◌, arith}
use Rattle.std.specs.Prelude.{negsuc, ◌==◌, ◌||◌, slice_set}
use Rattle.std.proofs.lemmas.Bool.Decides.{nat_tests}
use Rattle.lang_meaning.specs.declared.program.ProgramRows.{ProgramRows}
use Rattle.lang_meaning.specs.Values.{Value, integer, character, symbol, nil, object, named}
use Rattle.lang_meaning.specs.Objects.{symbol_class}
use Rattle.lang_meaning.specs.State as meaning
use Rattle.lang_meaning.specs.Primitives.{Answer, Spelt, by_name, by_serial, as_symbol, a_symbol}
use Rattle.mid_code.specs.declared.program.MidProcedure.{MidProcedure}
use Rattle.mid_code.specs.Arena.{Arena, word_at}
use Rattle.mid_code.specs.Words.{address}
use Rattle.mid_code.specs.MidCode.{MidStep, code_of}
use Rattle.mid_code.specs.State.{Registers, MidState, MidOutcome, register}
use Rattle.mid_code.specs.Meaning.{Task}
use Rattle.mid_arena.specs.Tags.{nil_word, symbol_header, fresh_header}
use Rattle.mid_arena.specs.Places.{Places, word_of}
use Rattle.mid_arena.specs.FixedWords.{nil_text}
use Rattle.mid_arena.specs.Represents.{Represents}
use Rattle.mid_arena.specs.Steps.{steps_of}
use Rattle.mid_arena.specs.declared.line.Line.TheVariants as line
use Rattle.mid_arena.proofs.WordFacts.{two_headers_tested}
use Rattle.mid_arena.proofs.Memory.{spot_low}
use Rattle.mid_arena.proofs.Arguments.{value_tag, tag_told, symbol_there, object_there}
use Rattle.mid_arena.proofs.Telling.{SymbolTold, nil_found, name_found, serial_found, no_symbol_header, no_symbol_tag, symbol_told}
use Rattle.mid_arena.proofs.Running.{constant_falls, choose_second_falls, address_below}
use Rattle.mid_arena.proofs.Doing.{Run, goes_on, test_passes, second_answers}
use Rattle.mid_arena.proofs.Checking.{header_registers, header_passes, header_errs}
use Rattle.mid_arena.proofs.Checking.{header_errs_by_tag, header_bounded}
use Rattle.mid_arena.proofs.Registers.{Scratched, not_scratched, register_beside, same_size, scratched_seven, scratched_six, six_here}

-- A symbol that was found, and how it is spelt: nil by its word, one with a name and one without by their headers, behind which the
-- latter has its serial. A pointer is far from the end of all words.
pub data SymbolFound (a : Arena) (v : Value) (w : ℕ) (s : Spelt) : Type 0 where
  is_nil : v ≡ nil → s ≡ by_name nil_text → (w == nil_word) ≡ true → SymbolFound a v w s
  is_named :
      (name : List ℕ) → v ≡ symbol (named name) → s ≡ by_name name → (w == nil_word) ≡ false → (w % 4 == 2) ≡ true
      → word_at a (w - 2) ≡ Some symbol_header → SymbolFound a v w s
  is_fresh :
      (serial : ℕ) → s ≡ by_serial serial → (w == nil_word) ≡ false → (w % 4 == 2) ≡ true → w < 2 ^ 27 → word_at a (w - 2) ≡ Some fresh_header
      → word_at a (w + 2) ≡ Some (4 * (serial % 2 ^ 29)) → SymbolFound a v w s

-- the header of what has the tag of objects stands behind its word
pub header_address : (w : ℕ) → w < 2 ^ 32 → (w % 4 == 2) ≡ true → address w (negsuc 1) ≡ w - 2
header_address w small tag =
    let tag_is : w % 4 ≡ 2 = grind (arith, nat_tests) in
    address_below w 1 (w - 2) (omega arith) small

module _
    (names : List (List ℕ)) (program : ProgramRows) (places : Places) (z : meaning.State) (y : MidState) (r : Represents names program places z y)
    (procedures : List MidProcedure) (below : Task → MidState → MidOutcome)
  where
    -- the word of what has the tag of objects is the address of a spot, and the tag
    pointer_small : (v : Value) (w : ℕ) → word_of places v ≡ Some w → (w % 4 == 2) ≡ true → w < 2 ^ 27
    pointer_small v w e tag =
        let tag_is : w % 4 ≡ 2 = grind (arith, nat_tests) in
        by v e (sym (tag_told names program places z y r v w e) ∙ tag_is)
      where
        by : (v : Value) → word_of places v ≡ Some w → value_tag z v ≡ 2 → w < 2 ^ 27
        by (integer n) e h = absurd (omega (arith, h))
        by (character c) e h = absurd (omega (arith, h))
        by (symbol s) e h =
            let there = symbol_there names program places z y r s w e in
            omega (arith, there.word, spot_low r.arena there.spot_stands)
        by nil e h = absurd (omega (arith, h))
        by (object i) e h =
            let there = object_there names program places z y r i w e in
            omega (arith, there.word, there.tag, there.spot_stands.tag, spot_low r.arena there.spot_stands)

    -- the argument is a symbol, with which the code behind goes on, or a domain error
    pub symbol_needed :
        (n budget k of w : ℕ) (v : Value) (next : Spelt → Answer) (rest : List MidStep) (rs : Registers) → of < 3 → length rs ≡ 8 → register of rs ≡ Some w
        → word_of places v ≡ Some w → k + 268 + 250 * z.units ≤ budget + 250 * (z.units + 5)
        → ((s : Spelt) (rs' : Registers) (k' : ℕ) → as_symbol z v ≡ Some s → SymbolFound y.arena v w s → Scratched rs rs' → k' ≤ k + 100
        → Run names program places z y procedures below n budget (next s) (code_of rest) rs' k')
        → Run names program places z y procedures below n budget (a_symbol v z next) (code_of (steps_of (line.NeedSymbol of) ++ rest)) rs k
    symbol_needed n budget k of w v next rest rs low size held word cost more = by (symbol_told names program places z y r v w word)
      where
        nil_put : Registers
        nil_put = slice_set rs 6 (Some nil_word)

        put_size : length nil_put ≡ 8
        put_size = same_size rs 6 (Some nil_word) size

        still_held : register of nil_put ≡ Some w
        still_held = register_beside rs 6 of (Some nil_word) (omega arith) ∙ held

        put_scratched : Scratched rs nil_put
        put_scratched = scratched_six rs rs (Some nil_word) (not_scratched rs size)

        -- a symbol with that header
        with_header :
            (h : ℕ) (s : Spelt) → as_symbol z v ≡ Some s → (w == nil_word) ≡ false → (w % 4 == 2) ≡ true → word_at y.arena (w - 2) ≡ Some h
            → (h == symbol_header || h == fresh_header) ≡ true → SymbolFound y.arena v w s
            → Run names program places z y procedures below n budget (a_symbol v z next) (code_of (steps_of (line.NeedSymbol of) ++ rest)) rs k
        with_header h s found other tag at kind it =
            rw found
            (goes_on names program places z y procedures below constant_falls
            (goes_on names program places z y procedures below
            (choose_second_falls still_held (six_here rs nil_word size) other
            (header_passes names program places z y r procedures below n of w symbol_class v nil_put low put_size still_held word (omega arith) h symbol_header 2 (k + 6 + 12) tag at
            (two_headers_tested h symbol_header (header_bounded names program places z y r procedures below v w h word tag at) (omega arith) ∙ kind)))
            (more s (header_registers w h symbol_header 2 nil_put) _ found it
            (scratched_six _ _ _ (scratched_seven _ _ _ (scratched_six _ _ _ (scratched_seven _ _ _ (scratched_six _ _ _ (scratched_seven _ _ _ (scratched_six _ _ _ put_scratched)))))))
            (omega arith))))

        by :
            SymbolTold y.arena v (as_symbol z v) w
            → Run names program places z y procedures below n budget (a_symbol v z next) (code_of (steps_of (line.NeedSymbol of) ++ rest)) rs k
        by (nil_found v_is same) =
            let found : as_symbol z v ≡ Some (by_name nil_text) = ap (as_symbol z) v_is in
            rw found
            (goes_on names program places z y procedures below constant_falls
            (test_passes names program places z y procedures below still_held (six_here rs nil_word size) same
            (more (by_name nil_text) nil_put (k + 6 + 12 + 2) found (is_nil v_is refl same) put_scratched (omega arith))))
        by (name_found name v_is other tag at) =
            with_header symbol_header (by_name name) (ap (as_symbol z) v_is) other tag at refl (is_named name v_is refl other tag at)
        by (serial_found serial found other tag at behind) =
            with_header fresh_header (by_serial serial) found other tag at refl (is_fresh serial refl other tag (pointer_small v w word tag) at behind)
        by (no_symbol_header h none other tag at first second) =
            rw none
            (goes_on names program places z y procedures below constant_falls
            (second_answers names program places z y procedures below still_held (six_here rs nil_word size) other
            (header_errs names program places z y r procedures below n of w symbol_class v nil_put low put_size still_held word (omega arith) h symbol_header 2 (k + 6 + 12) tag at budget
            (two_headers_tested h symbol_header (header_bounded names program places z y r procedures below v w h word tag at) (omega arith) ∙ (λ i. first i || second i)) (omega (arith, cost)))))
        by (no_symbol_tag none other tag) =
            rw none
            (goes_on names program places z y procedures below constant_falls
            (second_answers names program places z y procedures below still_held (six_here rs nil_word size) other
            (header_errs_by_tag names program places z y r procedures below n of w symbol_class v nil_put low put_size still_held word (omega arith) symbol_header 2 budget (k + 6 + 12) tag
            (omega (arith, cost)))))
