-- Why there is no image: from a lowering, from a program that was made flat, and from tests.
use Rattle.std.proofs.Common.{inl, inr, ◌≡◌, ℕ, ◌+◌, ◌≤◌, Bool, true, false, List, length, refl, sym, ap, subst, ◌∙◌, arith}
use Rattle.std.specs.Prelude.{◌↔◌, IsTrue, slice_get, Some, [], ◌∷◌}
use Rattle.base.specs.declared.datum.Name.{Name}
use Rattle.lang_meaning.specs.declared.program.ProgramRows.{ProgramRows}
use Rattle.flat_language.specs.declared.program.FlatProgram.{FlatProgram}
use Rattle.flat_language.specs.Flatten.{flat_program}
use Rattle.flat_boxes.specs.Boxes.{BoxesAreCaptured, ProgramBoxes}
use Rattle.flat_language.specs.declared.program.FlatProcedure.{FlatProcedure}
use Rattle.base.specs.AllOf.{AllOf}
use Rattle.std.specs.List.{list_all}
use Rattle.std.proofs.lemmas.Bool.{leb-true, le-leb}
use Rattle.mid_start.specs.Rows.{NamesThere}
use Rattle.back_lowered.specs.declared.lowering.LoweredProgram.{LoweredProgram}
use Rattle.back_lowered.specs.Lowered.{IsLoweredProgram}
use Rattle.back_lowered.specs.declared.faults.LoweringFault.{LoweringFault}
use Rattle.back_lowered.specs.declared.faults.LoweringFault.TheVariants as lowering_fault
use Rattle.back_lowered.specs.TooLarge as lowering_too_large
use Rattle.back_build.specs.declared.faults.BuildFault.{BuildFault}
use Rattle.back_build.specs.declared.faults.BuildFault.TheVariants as fault
use Rattle.back_build.specs.Built.{entry_of}
use Rattle.back_build.specs.Counted.{has_boxes_captured, are_boxes_captured}
use Rattle.back_build.specs.Faults.{IsFaultOfLowering, FailsWhenLowered, FailsFlat, Fails}
use Rattle.back_build.proofs.Entry.{lowered_long}
use Rattle.back_build.proofs.Named.{first_true, second_true, both_true}

module _ (names : List (List ℕ)) where
  module _ (program : FlatProgram) where
    pub of_lowering : (e : BuildFault) → FailsWhenLowered names program e → FailsFlat names program e
    of_lowering fault.NoMemory h = tt
    of_lowering fault.TooLarge h = inr h
    of_lowering fault.FrameTooSmall h = h
    of_lowering fault.NotInForm h = inr (inr h)

    -- a fault of lowering
    pub of_fault : (given : LoweringFault) (e : BuildFault) → IsFaultOfLowering given e
        → (given ≡ lowering_fault.TooLarge → lowering_too_large.IsTooLarge names program) → FailsFlat names program e
    of_fault lowering_fault.NoMemory e is large = subst (FailsFlat names program) (sym is) tt
    of_fault lowering_fault.TooLarge e is large = subst (FailsFlat names program) (sym is) (inl (large refl))

    -- a lowered program has a procedure
    pub some_procedures : (l : LoweredProgram) → IsLoweredProgram names program l → 1 ≤ length l.procedures
    some_procedures l low =
        let long : length l.procedures ≡ entry_of names program l + 1 =
        ap length low.procedures
        ∙ lowered_long names l.words.placement program (ap (λ p. p.procedures) low.words.placement) (ap (λ p. p.lambdas) low.words.placement) in
        omega (arith, long)

  pub of_flat : (program : ProgramRows) (e : BuildFault) → FailsFlat names (flat_program program) e → Fails names program e
  of_flat program fault.NoMemory h = tt
  of_flat program fault.TooLarge h = h
  of_flat program fault.FrameTooSmall h = h
  of_flat program fault.NotInForm h = inr h

  -- names that are there for one name of t are there for another
  pub no_other : (one other : Name) (program : ProgramRows) → slice_get names one.0 ≡ Some (116 ∷ []) → NamesThere names other program
      → NamesThere names one program
  no_other one other program here h = record {
    true_text = here;
    no_nil = h.no_nil;
    classes = h.classes;
    slots = h.slots;
    initargs = h.initargs;
    literals = h.literals;
  }

-- what is tested of boxes, and what is asked of them

captured : (qs : List FlatProcedure) → list_all has_boxes_captured qs ≡ true → AllOf BoxesAreCaptured qs
captured [] h = tt
captured (q ∷ qs) h = (
  leb-true _ _ (first_true (has_boxes_captured q) (list_all has_boxes_captured qs) h),
  captured qs (second_true (has_boxes_captured q) (list_all has_boxes_captured qs) h),
)

tested : (qs : List FlatProcedure) → AllOf BoxesAreCaptured qs → list_all has_boxes_captured qs ≡ true
tested [] h = refl
tested (q ∷ qs) h = both_true (has_boxes_captured q) (list_all has_boxes_captured qs) (le-leb _ _ h.0) (tested qs h.1)

pub boxes_captured : (program : FlatProgram) (are : Bool) → are ≡ are_boxes_captured program → are ≡ true → ProgramBoxes program
boxes_captured program are is h =
    let both : are_boxes_captured program ≡ true = sym is ∙ h in
    record {
      procedures = captured program.procedures
          (first_true (list_all has_boxes_captured program.procedures) (list_all has_boxes_captured program.lambdas) both);
      lambdas = captured program.lambdas
          (second_true (list_all has_boxes_captured program.procedures) (list_all has_boxes_captured program.lambdas) both);
    }

pub boxes_tested : (program : FlatProgram) (are : Bool) → are ≡ are_boxes_captured program → are ≡ false → ProgramBoxes program → ⊥
boxes_tested program are is h boxes =
    let both : are_boxes_captured program ≡ true =
    both_true (list_all has_boxes_captured program.procedures) (list_all has_boxes_captured program.lambdas) (tested program.procedures boxes.procedures)
    (tested program.lambdas boxes.lambdas) in
    let no : false ≡ true = sym h ∙ is ∙ both in
    absurd (cc no)

-- a test that failed
pub failed : {P : Type 0} (b : Bool) → (IsTrue b ↔ P) → b ≡ false → P → ⊥
failed b is h p = let yes = is.1 p in let no : false ≡ true = sym h ∙ yes in absurd (cc no)
