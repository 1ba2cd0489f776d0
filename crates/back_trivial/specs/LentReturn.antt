-- A program in form for whose lines nothing is decided well: it returns while a block is lent, and the frame is not found from the stack pointer.
use Rattle.std.specs.Prelude.{◌≡◌, ℕ, Bool, true, [], ◌∷◌, Some}
use Rattle.mid_code.specs.declared.operation.Counted.TheVariants.{Level}
use Rattle.mid_code.specs.declared.program.MidProgram.{MidProgram}
use Rattle.mid_code.specs.Checked.{is_checked_program}
use Rattle.mid_code.specs.MidCode.{lend, return_word, no_step, step_and}
use Rattle.mid_lines.specs.declared.line.Line.{Line}
use Rattle.mid_lines.specs.Lines.{line_of}
use Rattle.mid_lines.specs.Flattened.{program_lines}
use Rattle.back_places.specs.declared.place.Place.{Place}
use Rattle.back_places.specs.Places.{Located}
use Rattle.back_places.specs.Facts.{GoodLine}
use Rattle.back_places.specs.StepLaw.{Known}

-- as many words are lent as the argument says, and inside the number is returned
abbrev pub returns_while_lent : MidProgram
returns_while_lent = record {
  procedures =
      record { counted = Level; parameters = 1; registers = 2; frame = 3; body = lend 1 0 (step_and (return_word 0) no_step) ∷ [] } ∷ [];
  laid = [];
}

-- it is in form, and whatever is decided and known, some line is not good
pub record LentReturnIsNotGood : Type 0 where
  pub in_form : is_checked_program returns_while_lent ≡ true
  pub not_good :
      (l : Located) (known : (number line register : ℕ) → Place → Bool)
      → ¬ ((number line : ℕ) (x : Line) → line_of (program_lines returns_while_lent) number line ≡ Some x → GoodLine l (Known known) number line x)
