-- A representation goes on where one of the fixed words that change is stored: the serial, the line, the byte that was looked at, or the
-- condition that is to be signalled.
use Rattle.std.proofs.Common.{◌≡◌, ℕ, ◌*◌, ◌%◌, ◌^◌, ◌<◌, ◌≤◌, List, Some, refl, ◌∙◌, arith, ◌+◌, []}
use Rattle.lang_meaning.specs.declared.program.ProgramRows.{ProgramRows}
use Rattle.lang_meaning.specs.Values.{Value, truth}
use Rattle.lang_meaning.specs.State as meaning
use Rattle.lang_meaning.specs.Primitives.{is_fresh_line}
use Rattle.mid_code.specs.Arena.{Arena, word_at}
use Rattle.mid_code.specs.State.{MidState}
use Rattle.mid_arena.specs.Tags.{object_tag, symbol_header}
use Rattle.mid_arena.specs.Places.{Spot, Places}
use Rattle.mid_arena.specs.Standing.{Apart, in_front, behind, ValueAt}
use Rattle.mid_arena.specs.FixedWords.{nil_text, class_address, input_address, output_address, true_address, serial_address, line_address}
use Rattle.mid_arena.specs.FixedWords.{peeked_address, pending_address, InputIs, untouched, looked_at, FixedStand}
use Rattle.mid_arena.specs.Layouts.{AreBytes, TextAt}
use Rattle.mid_arena.specs.Represents.{Represents}
use Rattle.mid_arena.proofs.Keeping.{text_kept}
use Rattle.mid_arena.specs.Growing.{Changes}
use Rattle.mid_arena.proofs.Growing.{changes_part, spot_below}
use Rattle.mid_arena.proofs.Representing.{fixed_spot, fixed_stands, represents_fixed}

-- the spot of one word at an address
abbrev pub one_word : ℕ → Spot
one_word address = record { address = address; words = 1; tag = 0 }

module _ (names : List (List ℕ)) (program : ProgramRows) (places : Places) (z : meaning.State) (y : MidState) (r : Represents names program places z y) where
  -- another fixed word is as before
  module _ (changed : ℕ) (b : Arena) (c : Changes (one_word changed) y.arena b) where
    word_kept : (address : ℕ) → address < 184 → Apart (one_word address) (one_word changed) → word_at b address ≡ word_at y.arena address
    word_kept address low (in_front h) = c.before address (omega arith)
    word_kept address low (behind h) =
        let below = spot_below r.arena (fixed_stands names program places z y r) in c.after address (omega arith) (omega arith)

    fixed_value_kept : (address : ℕ) (v : Value) → address < 184 → Apart (one_word address) (one_word changed) → ValueAt places y.arena address v → ValueAt places b address v
    fixed_value_kept address v low apart at = record { word = at.word; of_value = at.of_value; stands = word_kept address low apart ∙ at.stands }

    line_kept : Apart (one_word line_address) (one_word changed) → ValueAt places b line_address (truth (is_fresh_line z.printed))
    line_kept apart = fixed_value_kept line_address (truth (is_fresh_line z.printed)) (omega arith) apart r.fixed.line

    serial_kept : Apart (one_word serial_address) (one_word changed) → word_at b serial_address ≡ Some (4 * (z.symbols % 2 ^ 29))
    serial_kept apart = word_kept serial_address (omega arith) apart ∙ r.fixed.serial

    input_kept : Apart (one_word peeked_address) (one_word changed) → InputIs b y.input z.input
    input_kept apart = by y.input z.input r.fixed.input
      where
        by : (left bytes : List ℕ) → InputIs y.arena left bytes → InputIs b left bytes
        by left bytes (untouched e) = untouched (word_kept peeked_address (omega arith) apart ∙ e)
        by left bytes (looked_at byte e) = looked_at byte (word_kept peeked_address (omega arith) apart ∙ e)

    -- the texts at fixed addresses stand behind all words that change
    name_kept :
        (address words : ℕ) (bytes : List ℕ) → changed ≤ 160 → 164 ≤ address → address + 4 * words ≤ 184
        → TextAt y.arena (record { address = address; words = words; tag = object_tag }) symbol_header bytes
        → TextAt b (record { address = address; words = words; tag = object_tag }) symbol_header bytes
    name_kept address words bytes low from to t =
        text_kept y.arena b (record { address = address; words = words; tag = object_tag }) (λ x below above. word_kept x (omega arith) (behind (omega arith))) symbol_header bytes t

    -- the fixed words, where the serial, the line and the input are said
    fixed_from :
        (symbols : ℕ) (printed bytes left : List ℕ) → 148 ≤ changed → changed ≤ 160 → word_at b serial_address ≡ Some (4 * (symbols % 2 ^ 29))
        → ValueAt places b line_address (truth (is_fresh_line printed)) → InputIs b left bytes
        → FixedStand names program places b symbols printed bytes left
    fixed_from symbols printed bytes left low high serial line input = record {
      spot = r.fixed.spot;
      classes = λ class h. fixed_value_kept (class_address class) _ (omega arith) (in_front (omega arith)) (r.fixed.classes class h);
      input_stream = fixed_value_kept input_address _ (omega arith) (in_front (omega arith)) r.fixed.input_stream;
      output_stream = fixed_value_kept output_address _ (omega arith) (in_front (omega arith)) r.fixed.output_stream;
      true_value = fixed_value_kept true_address _ (omega arith) (in_front (omega arith)) r.fixed.true_value;
      serial = serial;
      line = line;
      input = input;
      nil_name = name_kept 164 3 nil_text high (omega arith) (omega arith) r.fixed.nil_name;
      no_name = name_kept 176 2 [] high (omega arith) (omega arith) r.fixed.no_name;
    }

  -- a change of a fixed word is one of the fixed spot
  pub word_of_fixed : (changed : ℕ) (b : Arena) → changed ≤ 160 → Changes (one_word changed) y.arena b → Changes fixed_spot y.arena b
  word_of_fixed changed b low c = changes_part fixed_spot (one_word changed) y.arena b (omega arith) (omega arith) c

  -- a condition is to be signalled
  pub represents_pending :
      (y' : MidState) → Changes (one_word pending_address) y.arena y'.arena → y'.printed ≡ y.printed → y'.input ≡ y.input
      → Represents names program places z y'
  represents_pending y' c printed input =
      represents_fixed names program places z y r z y' (word_of_fixed pending_address y'.arena (omega arith) c) refl
      (rw input (fixed_from pending_address y'.arena c z.symbols z.printed z.input y.input (omega arith) (omega arith)
      (serial_kept pending_address y'.arena c (in_front (omega arith))) (line_kept pending_address y'.arena c (in_front (omega arith)))
      (input_kept pending_address y'.arena c (in_front (omega arith)))))
      r.input (printed ∙ r.printed)

  -- bytes were printed
  pub represents_printed :
      (printed : List ℕ) (y' : MidState) → Changes (one_word line_address) y.arena y'.arena
      → ValueAt places y'.arena line_address (truth (is_fresh_line printed)) → y'.printed ≡ printed → y'.input ≡ y.input
      → Represents names program places (record z { printed = printed }) y'
  represents_printed printed y' c line same input =
      represents_fixed names program places z y r (record z { printed = printed }) y' (word_of_fixed line_address y'.arena (omega arith) c) refl
      (rw input (fixed_from line_address y'.arena c z.symbols printed z.input y.input (omega arith) (omega arith)
      (serial_kept line_address y'.arena c (in_front (omega arith))) line (input_kept line_address y'.arena c (behind (omega arith)))))
      r.input same

  -- so many fresh symbols were made
  pub represents_serial :
      (symbols : ℕ) (y' : MidState) → Changes (one_word serial_address) y.arena y'.arena
      → word_at y'.arena serial_address ≡ Some (4 * (symbols % 2 ^ 29)) → y'.printed ≡ y.printed → y'.input ≡ y.input
      → Represents names program places (record z { symbols = symbols }) y'
  represents_serial symbols y' c serial printed input =
      represents_fixed names program places z y r (record z { symbols = symbols }) y' (word_of_fixed serial_address y'.arena (omega arith) c) refl
      (rw input (fixed_from serial_address y'.arena c symbols z.printed z.input y.input (omega arith) (omega arith)
      serial (line_kept serial_address y'.arena c (behind (omega arith))) (input_kept serial_address y'.arena c (behind (omega arith)))))
      r.input (printed ∙ r.printed)

  -- a byte was read, or looked at
  pub represents_read :
      (bytes : List ℕ) (y' : MidState) → Changes (one_word peeked_address) y.arena y'.arena → InputIs y'.arena y'.input bytes → AreBytes bytes
      → y'.printed ≡ y.printed → Represents names program places (record z { input = bytes }) y'
  represents_read bytes y' c input are_bytes printed =
      represents_fixed names program places z y r (record z { input = bytes }) y' (word_of_fixed peeked_address y'.arena (omega arith) c) refl
      (fixed_from peeked_address y'.arena c z.symbols z.printed bytes y'.input (omega arith) (omega arith)
      (serial_kept peeked_address y'.arena c (in_front (omega arith))) (line_kept peeked_address y'.arena c (in_front (omega arith))) input)
      are_bytes (printed ∙ r.printed)
