-- The shapes of procedures, one more; and what they are once all are there: those of the program with places that fit it.
use Rattle.std.proofs.Common.{◌≡◌, ℕ, zero, suc, ◌+◌, ◌<◌, Bool, true, false, List, [], ◌∷◌, ◌++◌, length, take, get_or, Some, refl, sym, ap, subst, ◌∙◌, arith}
use Rattle.std.specs.Prelude.{slice_get, nat_le}
use Rattle.std.specs.List.{list_all}
use Rattle.std.proofs.lemmas.Bool.Decides.{nat_tests}
use Rattle.std.proofs.lemmas.List.{length-map}
use Rattle.std.proofs.lemmas.Option.{slice_get_read}
use Rattle.mid_code.specs.declared.program.MidProcedure.{MidProcedure}
use Rattle.mid_code.specs.declared.program.MidProgram.{MidProgram}
use Rattle.mid_code.specs.Checked.{is_block_size, is_checked_program}
use Rattle.mid_lines.specs.Flattened.{procedure_lines, program_lines}
use Rattle.mid_lines.specs.LinesChecked.{line_fits, line_calls, is_sound_in}
use Rattle.mid_lines.proofs.Checking.{law_of_form}
use Rattle.mid_lines.proofs.Conjunctions.{front_true, back_true}
use Rattle.back_places.proofs.LinesInForm.{all_at}
use Rattle.back_trivial.specs.FrameFound.{procedure_finds, finds_frames}
use Rattle.back_allocation.specs.declared.placing.RegisterPlaces.{RegisterPlaces}
use Rattle.back_allocation.specs.ProgramPlaces.{places_for, FitsProcedure, PlacesFit}
use Rattle.back_allocation.proofs.GivenRegisters.{line_given}
use Rattle.back_program_code.specs.declared.shapes.Shape.{Shape}
use Rattle.back_program_code.specs.Joined.{joined}
use Rattle.back_program_code.specs.Shapes.{shape_of, shapes_of, chosen_in, chosen_for}
use Rattle.back_program_code.specs.ShapesMade.{IsShapeOf, AreShapesOf, HasRegisters}
use Rattle.back_program_code.proofs.NamedLines.{line_read}
use Rattle.back_program_code.proofs.Agreeing.{procedure_there}

-- the item at which a loop stands
pub item_there :
    {X : Type 0} (xs items : List X) (i : ℕ) (x : X) → items ≡ xs → i < length items → x ≡ get_or items i x → slice_get xs i ≡ Some x
item_there xs items i x same lt e = ap (λ k. slice_get k i) (sym same) ∙ slice_get_read items (length items) i x refl lt e

-- one more
pub shapes_more :
    (i n : ℕ) (procedures : List MidProcedure) (shapes : List Shape) (p : MidProcedure) (s : Shape) → n ≡ i + 1 → slice_get procedures i ≡ Some p
    → AreShapesOf (take i procedures) shapes → IsShapeOf p s → AreShapesOf (take n procedures) (shapes ++ s ∷ [])
shapes_more i n [] shapes p s next e a is = absurd (cc e)
shapes_more i zero (q ∷ qs) shapes p s next e a is = absurd (omega (arith, next))
shapes_more zero (suc n) (q ∷ qs) [] p s next e a is =
    let same : p ≡ q = cc (sym e) in
    let none : 0 ≡ n = omega (arith, next) in
    (subst (λ r. IsShapeOf r s) same is, subst (λ k. AreShapesOf (take k qs) []) none tt)
shapes_more zero (suc n) (q ∷ qs) (t ∷ ts) p s next e a is = absurd a
shapes_more (suc i) (suc n) (q ∷ qs) [] p s next e a is = absurd a
shapes_more (suc i) (suc n) (q ∷ qs) (t ∷ ts) p s next e a is = (a.0, shapes_more i n qs ts p s (omega (arith, next)) e a.1 is)

-- what was chosen, by the number of a shape
chosen_at : (shapes : List Shape) (number : ℕ) (s : Shape) → slice_get shapes number ≡ Some s → places_for (chosen_in shapes) number ≡ s.chosen
chosen_at [] number s h = absurd (cc h)
chosen_at (t ∷ ts) zero s h = let same : t ≡ s = cc h in ap chosen_for same
chosen_at (t ∷ ts) (suc number) s h = chosen_at ts number s h

shapes_same :
    (chosen : List RegisterPlaces) (from : ℕ) (procedures : List MidProcedure) (shapes : List Shape) → AreShapesOf procedures shapes
    → ((i number : ℕ) (s : Shape) → number ≡ from + i → slice_get shapes i ≡ Some s → places_for chosen number ≡ s.chosen)
    → shapes ≡ joined (λ number p. shape_of (places_for chosen number) p ∷ []) from procedures
shapes_same chosen from [] [] a h = refl
shapes_same chosen from [] (s ∷ ss) a h = absurd a
shapes_same chosen from (p ∷ ps) [] a h = absurd a
shapes_same chosen from (p ∷ ps) (s ∷ ss) a h =
    ap (λ k. k ∷ ss) (a.0.is ∙ ap (λ c. shape_of c p) (sym (h 0 from s (omega arith) refl)))
    ∙ ap (λ k. shape_of (places_for chosen from) p ∷ k) (shapes_same chosen (from + 1) ps ss a.1 (λ i number t e g. h (suc i) number t (omega (arith, e)) g))

as_many : (procedures : List MidProcedure) (shapes : List Shape) → AreShapesOf procedures shapes → length shapes ≡ length procedures
as_many [] [] a = refl
as_many [] (s ∷ ss) a = absurd a
as_many (p ∷ ps) [] a = absurd a
as_many (p ∷ ps) (s ∷ ss) a = ap suc (as_many ps ss a.1)

fits_at :
    (procedures : List MidProcedure) (shapes : List Shape) → AreShapesOf procedures shapes → (number : ℕ) (p : MidProcedure)
    → slice_get procedures number ≡ Some p → FitsProcedure p (places_for (chosen_in shapes) number)
fits_at [] shapes a number p h = absurd (cc h)
fits_at (q ∷ qs) [] a number p h = absurd a
fits_at (q ∷ qs) (s ∷ ss) a zero p h = let same : q ≡ p = cc h in subst (λ r. FitsProcedure r s.chosen) same a.0.fits
fits_at (q ∷ qs) (s ∷ ss) a (suc number) p h = fits_at qs ss a.1 number p h

-- all shapes of a program
module _ (program : MidProgram) (shapes : List Shape) (a : AreShapesOf program.procedures shapes) where
  pub shapes_are : shapes ≡ shapes_of program (chosen_in shapes)
  shapes_are =
      shapes_same (chosen_in shapes) 0 program.procedures shapes a
      (λ i number s e g.
      let same : number ≡ i = omega (arith, e) in
      ap (places_for (chosen_in shapes)) same ∙ chosen_at shapes i s g)

  pub places_fit : PlacesFit program (chosen_in shapes)
  places_fit = record { count = length-map shapes chosen_for ∙ as_many program.procedures shapes a; each = fits_at program.procedures shapes a }

-- a procedure of a program in form gives words to its own registers
pub has_registers : (program : MidProgram) (number : ℕ) (p : MidProcedure) → is_checked_program program ≡ true → slice_get program.procedures number ≡ Some p → HasRegisters (procedure_lines p)
has_registers program number p checked h =
    let q = procedure_lines p in
    let procedures = (program_lines program).procedures in
    let sound = all_at (is_sound_in procedures) procedures number q (law_of_form program checked) (procedure_there program number p h) in
    let passed = front_true (nat_le q.parameters q.registers) _ sound in
    let both = back_true (is_block_size q.frame) _ (back_true (nat_le q.parameters q.registers) _ sound) in
    let lines = front_true (list_all (line_fits q.registers (length q.lines)) q.lines) (list_all (line_calls procedures) q.lines) both in
    record {
      given = λ line to x e g. line_given q.registers (length q.lines) x to (all_at (line_fits q.registers (length q.lines)) q.lines line x lines e) g;
      read = λ line v x e g. line_read q.registers (length q.lines) x (all_at (line_fits q.registers (length q.lines)) q.lines line x lines e) v g;
      parameters = grind (arith, nat_tests, passed);
    }

-- where the frame of one procedure is not found, those of the program are not
not_all : {X : Type 0} (test : X → Bool) (xs : List X) (i : ℕ) (x : X) → slice_get xs i ≡ Some x → test x ≡ false → list_all test xs ≡ false
not_all test xs i x h e = by (list_all test xs) refl
  where
    by : (b : Bool) → list_all test xs ≡ b → b ≡ false
    by false k = refl
    by true k = absurd (cc (sym (all_at test xs i x k h) ∙ e))

pub not_found : (program : MidProgram) (number : ℕ) (p : MidProcedure) → slice_get program.procedures number ≡ Some p → procedure_finds p ≡ false → finds_frames program ≡ false
not_found program number p h e = not_all procedure_finds program.procedures number p h e
