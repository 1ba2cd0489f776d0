-- How many words an image has that was made of the code of a whole program: its words end where its code does, and the words laid beside it are
-- within their bounds.
use Rattle.std.proofs.Common.{◌≡◌, ℕ, ◌^◌, ◌<◌, ◌≤◌, ◌-◌, List, length, sym, ap, subst, ◌∙◌, arith}
use Rattle.flat_language.specs.Flatten.{flat_program}
use Rattle.flat_language.specs.Law.{LawOfFlatPrograms}
use Rattle.mid_code.specs.declared.program.MidProcedure.{MidProcedure}
use Rattle.mid_code.specs.declared.program.MidProgram.{MidProgram}
use Rattle.mid_lines.specs.Flattened.{program_lines}
use Rattle.back_allocation.specs.declared.placing.RegisterPlaces.{RegisterPlaces}
use Rattle.back_allocation.specs.ProgramPlaces.{PlacesFit}
use Rattle.back_layout.specs.ChosenPlaces.{placed_decided, placed_laid_out}
use Rattle.back_layout.proofs.ChosenPlaces.{law_of_placed_laid_out}
use Rattle.back_layout.proofs.Words.{law_of_words}
use Rattle.back_images.specs.Laws.{emitted}
use Rattle.back_images.proofs.Images.{placed_well}
use Rattle.back_words.specs.Start.{laid_symbols}
use Rattle.back_words.specs.Words.{further_words}
use Rattle.back_image_sizes.specs.Sizes.{most_laid_words, image_words}
use Rattle.back_image_sizes.proofs.Images.{law_of_image_sizes}
use Rattle.back_image_sizes.proofs.Flat.{law_of_program_image_sizes}
use Rattle.back_build.specs.Compiled.{LawOfBuiltSize}

-- an image ends where its code does
ends_there :
    (program : MidProgram) (chosen : List RegisterPlaces) (entry : ℕ) → PlacesFit program chosen → (placed_laid_out program chosen).code_to < 2 ^ 24
    → length (emitted program chosen entry) ≡ (placed_laid_out program chosen).code_to
ends_there program chosen entry fit low =
    let decided = law_of_placed_laid_out program chosen fit low in
    let well = placed_well (program_lines program) (placed_laid_out program chosen) decided.known decided.good in
    (law_of_words (program_lines program) (placed_decided program chosen) decided.known entry well).long

-- **the law of the sizes of built images**
pub law_of_built_size : LawOfFlatPrograms → LawOfBuiltSize
law_of_built_size flat names program l image whole low made =
    let f = flat_program program in
    let laid = l.words.data.arena.words in
    let symbols = laid_symbols names l.words.data.arena.symbols in
    let chosen = made.made.chosen in
    let fits = (flat program whole).1 in
    let further : length low.words.further ≡ length (further_words f symbols low.words.start.further_at) = ap length low.words.further_is in
    let within : length laid ≤ most_laid_words names f symbols low.words.start.further_at = omega (arith, low.words.within, further) in
    let sized =
    subst
    (λ (ps : List MidProcedure). PlacesFit (record { procedures = ps; laid = laid }) chosen
    → (placed_laid_out (record { procedures = ps; laid = laid }) chosen).code_to ≤ image_words f)
    (sym low.procedures)
    (law_of_image_sizes names l.words.placement f symbols low.words.start.further_at laid chosen fits within)
    made.made.places in
    let long =
    ap length made.made.words
    ∙ ends_there (record { procedures = l.procedures; laid = laid }) chosen (length l.procedures - 1) made.made.places made.made.low in
    let same = law_of_program_image_sizes program in
    omega (arith, sized, long, same)
