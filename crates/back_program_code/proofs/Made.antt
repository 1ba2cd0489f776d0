-- The words that are made are those of the program's image, and what it does is by its law.
use Rattle.std.proofs.Common.{inl, inr, ◌⊎◌, get_or, ◌≡◌, ◌≤◌, ℕ, ◌+◌, ◌*◌, ◌^◌, ◌<◌, true, List, [], length, Some, None, refl, sym, ap, subst, ◌∙◌, arith}
use Rattle.std.specs.Prelude.{slice_get}
use Rattle.std.proofs.lemmas.Option.{slice_get_cases}
use Rattle.rv_machine.specs.declared.image.Image.{Image}
use Rattle.rv_machine.specs.State.{start}
use Rattle.rv_machine.specs.Run.{first, run_from}
use Rattle.mid_code.specs.declared.program.MidProcedure.{MidProcedure}
use Rattle.mid_code.specs.declared.program.MidProgram.{MidProgram}
use Rattle.mid_code.specs.Checked.{is_checked_program}
use Rattle.mid_code.specs.Meaning.{runs}
use Rattle.mid_lines.specs.Flattened.{procedure_lines, program_lines}
use Rattle.back_allocation.specs.declared.placing.RegisterPlaces.{RegisterPlaces}
use Rattle.back_allocation.specs.ProgramPlaces.{PlacesFit, ArePlacedWell}
use Rattle.back_layout.specs.ChosenPlaces.{placed_decided, placed_laid_out}
use Rattle.back_layout.proofs.ChosenPlaces.{law_of_placed_laid_out}
use Rattle.back_layout.proofs.Words.{law_of_words}
use Rattle.back_runs.specs.Ends.{EndsAs}
use Rattle.back_runs.specs.ProgramRuns.{DoesAs}
use Rattle.back_runs.specs.Images.{IsFirst, first_state}
use Rattle.back_runs.specs.Laws.{loaded}
use Rattle.back_images.specs.Laws.{LaidAreWords, emitted, emitted_start, EmittedRuns}
use Rattle.back_images.proofs.Images.{placed_well, law_of_first_states, law_of_emitted_runs}
use Rattle.back_emit.specs.declared.errors.EmitError.{EmitError}
use Rattle.back_emit.specs.declared.errors.EmitError.TheVariants as emit
use Rattle.back_program_code.specs.declared.errors.ImageError.{ImageError}
use Rattle.back_program_code.specs.declared.errors.ImageError.TheVariants as image
use Rattle.back_program_code.specs.Errors.{image_error}
use Rattle.back_program_code.specs.TooLarge.{IsTooLarge}
use Rattle.back_program_code.proofs.Long.{from_large}
use Rattle.back_program_code.specs.declared.plans.Plan.{Plan}
use Rattle.back_program_code.specs.Shapes.{shapes_of, front_of, near_lefts, code_end}
use Rattle.back_program_code.specs.ShapedImage.{shaped_image}
use Rattle.back_program_code.specs.Made.{IsPlan, IsImageOf, loaded_with, LawOfFirstOfImage, LawOfRunsOfImage}
use Rattle.back_program_code.proofs.Agreeing.{procedure_there}
use Rattle.back_program_code.proofs.ShapedImage.{law_of_shaped_image}

-- decisions by places that fit are good but for positions, as some test tells
well :
    (program : MidProgram) (chosen : List RegisterPlaces) → PlacesFit program chosen → (placed_laid_out program chosen).code_to < 2 ^ 24
    → ArePlacedWell (program_lines program) (placed_laid_out program chosen)
well program chosen fit low =
    let decided = law_of_placed_laid_out program chosen fit low in
    record { known = decided.known; well = placed_well (program_lines program) (placed_laid_out program chosen) decided.known decided.good }

long :
    (program : MidProgram) (chosen : List RegisterPlaces) (entry : ℕ) → PlacesFit program chosen → (placed_laid_out program chosen).code_to < 2 ^ 24
    → length (emitted program chosen entry) ≡ (placed_laid_out program chosen).code_to
long program chosen entry fit low =
    let w = well program chosen fit low in
    (law_of_words (program_lines program) (placed_decided program chosen) w.known entry w.well).long

module _ (program : MidProgram) (chosen : List RegisterPlaces) (plan : Plan) (is : IsPlan program chosen plan) (entry : ℕ) (checked : is_checked_program program ≡ true) (there : entry < length program.procedures) where
  ends : code_end plan.front plan.lefts plan.shapes ≡ (placed_laid_out program chosen).code_to
  ends =
      ap (λ f. code_end f plan.lefts plan.shapes) is.front ∙ ap (λ l. code_end (front_of program) l plan.shapes) is.lefts
      ∙ ap (λ s. code_end (front_of program) (near_lefts (front_of program) (shapes_of program chosen)) s) is.shapes
      ∙ (law_of_shaped_image program chosen entry checked is.places there).1

  pub made_low : (placed_laid_out program chosen).code_to < 2 ^ 24
  made_low = let e = ends in let low = is.ends_low in omega (arith, e, low)

  pub made_words : (words : List ℕ) → words ≡ shaped_image program chosen entry → words ≡ emitted program chosen entry
  made_words words e = e ∙ (law_of_shaped_image program chosen entry checked is.places there).0

  pub made_long : (words : List ℕ) → words ≡ shaped_image program chosen entry → (plan.front.start_at < length words) × (length words < 2 ^ 24)
  made_long words e =
      let n : length words ≡ (placed_laid_out program chosen).code_to = ap length (made_words words e) ∙ long program chosen entry is.places made_low in
      let k = ends in
      (omega (arith, n, k), let low = made_low in omega (arith, n, low))

  pub made_start : plan.front.start_at ≡ emitted_start program
  made_start = ap (λ f. f.start_at) is.front

  pub made :
      (image : Image) (words : List ℕ) → words ≡ shaped_image program chosen entry → image.words ≡ words → image.entry ≡ 4 * plan.front.start_at
      → LaidAreWords program.laid → IsImageOf program entry image
  made image words e same starts laid = record {
    chosen = chosen;
    places = is.places;
    words = same ∙ made_words words e;
    starts = starts ∙ ap (λ n. 4 * n) made_start;
    low = made_low;
    laid = laid;
  }

  -- words that were to be made of a plan are not too many
  pub words_large :
      (from : EmitError) (e : ImageError) → e ≡ image_error from → (from ≡ emit.TooLarge → 2 ^ 24 ≤ length (shaped_image program chosen entry)) → e ≡ image.TooLarge
      → IsTooLarge program
  words_large from e h long large =
      let many = long (from_large from e h large) in
      let few = (made_long (shaped_image program chosen entry) refl).1 in
      absurd (omega (arith, many, few))

pub law_of_first_of_image : LawOfFirstOfImage
law_of_first_of_image program entry arena image input checked made room small bytes =
    let chosen = made.chosen in
    let l = placed_laid_out program chosen in
    let n = long program chosen entry made.places made.low in
    let w = ap length made.words in
    let decided = well program chosen made.places made.low in
    let begins : IsFirst l (emitted program chosen entry) arena input (first_state program.laid l.code_to arena input) =
    law_of_first_states (program_lines program) (placed_decided program chosen) decided.known entry arena input
    decided.well made.low made.laid (omega (arith, n, w, room)) small bytes in
    subst (λ ws. IsFirst l ws arena input (first_state program.laid (length ws) arena input)) (sym made.words)
    (subst (λ k. IsFirst l (emitted program chosen entry) arena input (first_state program.laid k arena input)) (sym n) begins)

entry_there : (program : MidProgram) (entry : ℕ) → entry < length program.procedures → (p : MidProcedure) × (slice_get program.procedures entry ≡ Some p)
entry_there program entry h = by (slice_get_cases program.procedures entry).1
  where
    by :
        ((p : MidProcedure) × (entry < length program.procedures) × (slice_get program.procedures entry ≡ Some p) × (get_or program.procedures entry p ≡ p))
        ⊎ ((length program.procedures ≤ entry) × (slice_get program.procedures entry ≡ None))
        → (p : MidProcedure) × (slice_get program.procedures entry ≡ Some p)
    by (inl k) = (k.0, k.2)
    by (inr k) = let past = k.0 in absurd (omega (arith, h, past))

pub law_of_runs_of_image : LawOfRunsOfImage
law_of_runs_of_image program entry arena image input z checked made h begins =
    let p = entry_there program entry h in
    let first_one : IsFirst (placed_laid_out program made.chosen) (emitted program made.chosen entry) arena input z =
    subst (λ ws. IsFirst (placed_laid_out program made.chosen) ws arena input z) made.words begins in
    let e : EmittedRuns program made.chosen entry arena input z =
    law_of_emitted_runs program made.chosen entry arena input z (procedure_lines p.0) checked made.places made.low made.laid (procedure_there program entry p.0 p.1) first_one in
    let same : loaded (emitted program made.chosen entry) (emitted_start program) arena input ≡ loaded_with image arena input =
    ap (λ at. first (start (emitted program made.chosen entry) at arena) input) (sym made.starts) ∙ ap (λ ws. first (start ws image.entry arena) input) (sym made.words) in
    record {
      does = λ n k turns_each le lt lawful.
          subst (λ m. DoesAs (runs program k turns_each entry [] z) m (2 + n)) same (e.lawful n k turns_each le lt lawful);
      in_time = λ n k turns_each said costs.
          subst (λ m. EndsAs (runs program k turns_each entry [] z).end (runs program k turns_each entry [] z).state (run_from n m)) same
          (e.runs_as.in_time n k turns_each said costs);
    }
