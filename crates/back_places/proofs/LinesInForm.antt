-- What a program of lines in form says of a line that is there: its registers, constants and blocks are as they have to be.
use Rattle.std.proofs.Common.{◌≡◌, ℕ, zero, suc, ◌<◌, ◌^◌, Bool, true, List, [], ◌∷◌, length, Option, Some, None, refl, sym, ap, ◌∙◌, arith}
use Rattle.std.specs.Prelude.{nat_lt, nat_le, slice_get}
use Rattle.std.specs.List.{list_all}
use Rattle.std.proofs.lemmas.Bool.Decides.{nat_tests}
use Rattle.mid_code.specs.Checked.{is_register}
use Rattle.mid_lines.proofs.Conjunctions.{front_true, back_true}
use Rattle.mid_lines.specs.declared.line.Line.{Line}
use Rattle.mid_lines.specs.declared.line.LineProcedure.{LineProcedure}
use Rattle.mid_lines.specs.declared.line.LineProgram.{LineProgram}
use Rattle.mid_lines.specs.Lines.{lines_in, line_of}
use Rattle.mid_lines.specs.LinesChecked.{line_fits, is_sound_in, is_checked_line_program}
use Rattle.mid_lines.specs.StackLaw.{frame_in, frame_of}

pub all_at : {X : Type 0} (test : X → Bool) (xs : List X) (i : ℕ) (x : X) → list_all test xs ≡ true → slice_get xs i ≡ Some x → test x ≡ true
all_at test [] i x h e = absurd (cc e)
all_at test (y ∷ ys) zero x h e = let same : y ≡ x = cc e in ap test (sym same) ∙ front_true (test y) (list_all test ys) h
all_at test (y ∷ ys) (suc i) x h e = all_at test ys i x (back_true (test y) (list_all test ys) h) e

-- the procedure of a line that is there, with what is tested of it
pub record LineIs (program : LineProgram) (number line : ℕ) (x : Line) : Type 0 where
  pub procedure : LineProcedure
  pub there : slice_get program.procedures number ≡ Some procedure
  pub line_there : slice_get procedure.lines line ≡ Some x
  pub sound : is_sound_in program.procedures procedure ≡ true

pub line_is :
    (program : LineProgram) (number line : ℕ) (x : Line) → is_checked_line_program program ≡ true → line_of program number line ≡ Some x
    → LineIs program number line x
line_is program number line x checked e = by (slice_get program.procedures number) refl
  where
    by : (o : Option LineProcedure) → slice_get program.procedures number ≡ o → LineIs program number line x
    by None h = absurd (cc (sym (ap (λ u. slice_get (lines_in u) line) h) ∙ e))
    by (Some p) h = record {
      procedure = p;
      there = h;
      line_there = sym (ap (λ u. slice_get (lines_in u) line) h) ∙ e;
      sound = all_at (is_sound_in program.procedures) program.procedures number p checked h;
    }

pub line_in_form :
    (program : LineProgram) (number line : ℕ) (x : Line) (i : LineIs program number line x)
    → line_fits i.procedure.registers (length i.procedure.lines) x ≡ true
line_in_form program number line x i =
    let p = i.procedure in
    let rest = back_true (nat_le p.parameters p.registers) _ i.sound in
    let both = back_true (nat_lt p.frame (2 ^ 24)) _ rest in
    all_at (line_fits p.registers (length p.lines)) p.lines line x (front_true (list_all (line_fits p.registers (length p.lines)) p.lines) _ both) i.line_there

pub frame_is_small :
    (program : LineProgram) (number : ℕ) (p : LineProcedure) → is_checked_line_program program ≡ true → slice_get program.procedures number ≡ Some p
    → p.frame < 2 ^ 24
frame_is_small program number p checked h =
    let sound = all_at (is_sound_in program.procedures) program.procedures number p checked h in
    let rest = back_true (nat_le p.parameters p.registers) _ sound in
    let small = front_true (nat_lt p.frame (2 ^ 24)) _ rest in
    grind (arith, nat_tests, small)

-- the frame of a procedure that is there
pub frame_words : (program : LineProgram) (number : ℕ) (p : LineProcedure) → slice_get program.procedures number ≡ Some p → (frame_of program number).words ≡ p.frame
frame_words program number p h = ap (λ o. (frame_in o).words) h

-- a register among so many
pub register_below : (count r : ℕ) → is_register count r ≡ true → r < count
register_below count r h = grind (arith, nat_tests, h)
