-- Where places fit a program, and there are as many words for arguments as the longest call has, the layout is good whole.
use Rattle.std.proofs.Common.{◌≡◌, ℕ, zero, suc, ◌≤◌, max, List, [], ◌∷◌, Option, Some, None, refl, ap, arith}
use Rattle.std.specs.Prelude.{slice_get}
use Rattle.mid_code.specs.declared.operation.Operation.{Operation}
use Rattle.mid_code.specs.declared.operation.Operation.TheVariants as operation
use Rattle.mid_code.specs.declared.program.MidProgram.{MidProgram}
use Rattle.mid_lines.specs.declared.line.Line.{Line}
use Rattle.mid_lines.specs.declared.line.Line.TheVariants.{Do}
use Rattle.mid_lines.specs.declared.line.LineProcedure.{LineProcedure}
use Rattle.mid_lines.specs.Lines.{lines_in}
use Rattle.mid_lines.specs.Flattened.{program_lines}
use Rattle.back_places.specs.Places.{Located}
use Rattle.back_places.specs.StepLaw.{Known}
use Rattle.back_places.specs.Trivial.{ArgumentsFit}
use Rattle.back_trivial.specs.OwnSlots.{PassesArguments}
use Rattle.back_allocation.specs.declared.placing.RegisterPlaces.{RegisterPlaces}
use Rattle.back_allocation.proofs.ProgramPlaces.{law_of_program_places}
use Rattle.back_layout.specs.ChosenPlaces.{arguments_passed, most_in_lines, most_arguments, placed_decided, placed_laid_out}
use Rattle.back_layout.specs.Laws.{LawOfPlacedLaidOut}
use Rattle.back_layout.proofs.LaidOut.{law_of_laid_out, good_with}

most_of_line : (xs : List Line) (i : ℕ) (x : Line) → slice_get xs i ≡ Some x → arguments_passed x ≤ most_in_lines xs
most_of_line [] i x h = absurd (cc h)
most_of_line (y ∷ ys) zero x h =
    let same : y ≡ x = cc h in
    let e = ap arguments_passed same in
    omega (arith, e)
most_of_line (y ∷ ys) (suc i) x h = let k = most_of_line ys i x h in omega (arith, k)

most_of_procedure : (ps : List LineProcedure) (n : ℕ) (p : LineProcedure) → slice_get ps n ≡ Some p → max p.parameters (most_in_lines p.lines) ≤ most_arguments ps
most_of_procedure [] n p h = absurd (cc h)
most_of_procedure (q ∷ qs) zero p h =
    let same : q ≡ p = cc h in
    let e = ap (λ z. max z.parameters (most_in_lines z.lines)) same in
    omega (arith, e)
most_of_procedure (q ∷ qs) (suc n) p h = let k = most_of_procedure qs n p h in omega (arith, k)

fits_operation : (l : Located) (o : Operation) → arguments_passed (Do o) ≤ l.argument_words → ArgumentsFit l (Do o)
fits_operation l (operation.Call to callee arguments) h = h
fits_operation l o h = tt

fits : (l : Located) (x : Line) → arguments_passed x ≤ l.argument_words → ArgumentsFit l x
fits l (Do o) h = fits_operation l o h
fits l x h = tt

module _ (program : MidProgram) (chosen : List RegisterPlaces) where
  most : (number line : ℕ) (o : Option LineProcedure) (x : Line) → slice_get (program_lines program).procedures number ≡ o → slice_get (lines_in o) line ≡ Some x
      → arguments_passed x ≤ most_arguments (program_lines program).procedures
  most number line None x h e = absurd (cc e)
  most number line (Some p) x h e =
      let a = most_of_line p.lines line x e in
      let b = most_of_procedure (program_lines program).procedures number p h in
      omega (arith, a, b)

  passes : PassesArguments (program_lines program) (placed_laid_out program chosen)
  passes = record {
    calls = λ number line x e. fits (placed_laid_out program chosen) x (most number line (slice_get (program_lines program).procedures number) x refl e);
    entries = λ number p h. let b = most_of_procedure (program_lines program).procedures number p h in omega (arith, b);
  }

pub law_of_placed_laid_out : LawOfPlacedLaidOut
law_of_placed_laid_out program chosen fit low =
    let w = law_of_program_places program chosen (placed_laid_out program chosen) fit (passes program chosen) in
    record {
      known = w.known;
      good =
          good_with (program_lines program) (placed_laid_out program chosen) (Known w.known) w.well
          (law_of_laid_out (program_lines program) (placed_decided program chosen) low);
    }
