-- The cells of dynamic bindings and the parts of functions, one after another.
use Rattle.std.proofs.Common.{◌≡◌, ℕ, zero, suc, ◌+◌, ◌-◌, ◌*◌, ◌<◌, ◌≤◌, Bool, true, false, List, [], ◌∷◌, ◌++◌, Option, Some, length, drop, slice_get, refl, ap, sym, ◌∙◌, append_assoc, add-one, arith}
use Rattle.flat_language.specs.FlatForm.{FlatForm, FlatDynamics, no_dynamic, dynamic_and}
use Rattle.flat_language.specs.declared.flat_core.FlatDynBinding.{FlatDynBinding}
use Rattle.flat_language.specs.declared.place.FlatCapture.{FlatCapture}
use Rattle.flat_language.specs.declared.program.FlatProgram.{FlatProgram}
use Rattle.flat_language.specs.model.View.{dynamics_of}
use Rattle.back_lowering.specs.declared.placement.Placement.{Placement}
use Rattle.back_lowering.specs.declared.scope.Scope.{Scope}
use Rattle.back_lowering.specs.Steps.{Steps, store_far}
use Rattle.back_lowering.specs.Codes.{innermost, bindings_laid, part_into, parts_stored}
use Rattle.back_lowering.proofs.Rests.{there}
use Rattle.back_calls.specs.Cells.{no_more, cell_laid}

module _ (names : List (List ℕ)) (at : Placement) (program : FlatProgram) where
  -- a cell, and those behind it
  pub laid_next : (d b old t offset name : ℕ) (f : FlatForm) (ds : FlatDynamics)
      → bindings_laid names at program d b old t offset (dynamic_and name f ds)
      ≡ cell_laid at name (no_more ds) d b old t offset ++ bindings_laid names at program (d + 1) b old t (offset + 12) ds
  laid_next d b old t offset name f no_dynamic = simp append_assoc
  laid_next d b old t offset name f (dynamic_and n g ds) = simp append_assoc

  pub laid_step : (total code new : Steps) (list : List FlatDynBinding) (d b old t i : ℕ) (x : FlatDynBinding) (last : Bool)
      → slice_get list i ≡ Some x
      → last ≡ no_more (dynamics_of (drop (i + 1) list))
      → code ++ bindings_laid names at program (d + i) b old t (12 * i) (dynamics_of (drop i list)) ≡ total
      → new ≡ code ++ cell_laid at x.name.0 last (d + i) b old t (12 * i)
      → new ++ bindings_laid names at program (d + (i + 1)) b old t (12 * (i + 1)) (dynamics_of (drop (i + 1) list)) ≡ total
  laid_step total code new list d b old t i x last here ends so is =
      let r : d + (i + 1) ≡ (d + i) + 1 = omega arith in
      let o : 12 * (i + 1) ≡ 12 * i + 12 = omega arith in
      let rest : FlatDynamics = dynamics_of (drop (i + 1) list) in
      let n : drop i list ≡ x ∷ drop (i + 1) list = there list i x here ∙ sym (ap (λ (k : ℕ). x ∷ drop k list) (add-one i)) in
      ap (λ (c : Steps). c ++ bindings_laid names at program (d + (i + 1)) b old t (12 * (i + 1)) rest) is
      ∙ append_assoc code (cell_laid at x.name.0 last (d + i) b old t (12 * i)) (bindings_laid names at program (d + (i + 1)) b old t (12 * (i + 1)) rest)
      ∙ ap (λ (k : ℕ). code ++ (cell_laid at x.name.0 last (d + i) b old t (12 * i) ++ bindings_laid names at program k b old t (12 * (i + 1)) rest)) r
      ∙ ap (λ (k : ℕ). code ++ (cell_laid at x.name.0 last (d + i) b old t (12 * i) ++ bindings_laid names at program ((d + i) + 1) b old t k rest)) o
      ∙ ap (λ (w : Bool). code ++ (cell_laid at x.name.0 w (d + i) b old t (12 * i) ++ bindings_laid names at program ((d + i) + 1) b old t (12 * i + 12) rest)) ends
      ∙ sym (ap (λ (c : Steps). code ++ c) (laid_next (d + i) b old t (12 * i) x.name.0 x.value rest))
      ∙ sym (ap (λ (xs : List FlatDynBinding). code ++ bindings_laid names at program (d + i) b old t (12 * i) (dynamics_of xs)) n)
      ∙ so

  pub part_step : (total code between new : Steps) (s : Scope) (parts : List FlatCapture) (d t i : ℕ) (p : FlatCapture)
      → slice_get parts i ≡ Some p
      → code ++ parts_stored names at program s d t (8 + 4 * i) (drop i parts) ≡ total
      → between ≡ code ++ part_into names at program s t p
      → new ≡ between ++ store_far t d (t + 1) (8 + 4 * i)
      → new ++ parts_stored names at program s d t (8 + 4 * (i + 1)) (drop (i + 1) parts) ≡ total
  part_step total code between new s parts d t i p here so first second =
      let o : 8 + 4 * (i + 1) ≡ (8 + 4 * i) + 4 = omega arith in
      let rest : List FlatCapture = drop (i + 1) parts in
      let n : drop i parts ≡ p ∷ drop (i + 1) parts = there parts i p here ∙ sym (ap (λ (k : ℕ). p ∷ drop k parts) (add-one i)) in
      ap (λ (c : Steps). c ++ parts_stored names at program s d t (8 + 4 * (i + 1)) rest) (second ∙ ap (λ (c : Steps). c ++ store_far t d (t + 1) (8 + 4 * i)) first)
      ∙ append_assoc (code ++ part_into names at program s t p) (store_far t d (t + 1) (8 + 4 * i)) (parts_stored names at program s d t (8 + 4 * (i + 1)) rest)
      ∙ append_assoc code (part_into names at program s t p) (store_far t d (t + 1) (8 + 4 * i) ++ parts_stored names at program s d t (8 + 4 * (i + 1)) rest)
      ∙ ap (λ (k : ℕ). code ++ (part_into names at program s t p ++ (store_far t d (t + 1) (8 + 4 * i) ++ parts_stored names at program s d t k rest))) o
      ∙ sym (ap (λ (xs : List FlatCapture). code ++ parts_stored names at program s d t (8 + 4 * i) xs) n)
      ∙ so

-- the innermost of bindings, by whether there is one

pub innermost_there : (b old : ℕ) (ds : List FlatDynBinding) (x : FlatDynBinding) → slice_get ds 0 ≡ Some x → b ≡ innermost b old (dynamics_of ds)
innermost_there b old [] x e = absurd (cc)
innermost_there b old (y ∷ ds) x e = refl

pub innermost_none : (b old : ℕ) (ds : List FlatDynBinding) → length ds ≤ 0 → old ≡ innermost b old (dynamics_of ds)
innermost_none b old [] h = refl
innermost_none b old (y ∷ ds) h = absurd (omega arith)
