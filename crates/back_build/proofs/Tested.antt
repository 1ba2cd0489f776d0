-- From what was tested of a program to what its lowering asks, and to its image.
use Rattle.std.proofs.Common.{◌≡◌, ℕ, List, sym, subst}
use Rattle.std.specs.Prelude.{true}
use Rattle.base.specs.Names.{IsTable}
use Rattle.base.specs.declared.datum.Name.{Name}
use Rattle.lang_meaning.specs.declared.program.ProgramRows.{ProgramRows}
use Rattle.lang_meaning.specs.Facts.{is_whole}
use Rattle.flat_language.specs.declared.program.FlatProgram.{FlatProgram}
use Rattle.flat_language.specs.Flatten.{flat_program}
use Rattle.flat_boxes.specs.Boxes.{ProgramBoxes}
use Rattle.mid_start.specs.Law.{LawOfWholeRows}
use Rattle.mid_start.specs.Rows.{NamesThere, RowsFit}
use Rattle.back_words.specs.Asked.{NamesAsked}
use Rattle.back_lowered.specs.declared.lowering.LoweredProgram.{LoweredProgram}
use Rattle.back_lowered.specs.Lowered.{IsLoweredProgram}
use Rattle.back_build.specs.declared.building.Built.{Built}
use Rattle.back_build.specs.Means.{IsBuilt}
use Rattle.back_build.specs.Compiled.{IsMade, LawOfBuilt}

pub rows_fit : LawOfWholeRows → (names : List (List ℕ)) (true_name : Name) (program rows : ProgramRows) (flat : FlatProgram) → is_whole program ≡ true
    → rows ≡ program → NamesThere names true_name rows → flat ≡ flat_program program → RowsFit names true_name flat.classes flat.functions flat.literals
rows_fit law names true_name program rows flat whole same there made =
    subst (λ (f : FlatProgram). RowsFit names true_name f.classes f.functions f.literals) (sym made)
    (law names true_name program whole (subst (λ (p : ProgramRows). NamesThere names true_name p) same there))

pub built_of : LawOfBuilt → (names : List (List ℕ)) (flat : FlatProgram) (l : LoweredProgram) (built : Built) → IsTable names → NamesAsked names flat
    → ProgramBoxes flat → IsLoweredProgram names flat l → IsMade l built
    → (program : ProgramRows) → is_whole program ≡ true → flat ≡ flat_program program → IsBuilt names program built.symbols built.image
built_of law names flat l built table asked boxes low made program whole same =
    subst (λ symbols. IsBuilt names program symbols built.image) (sym made.symbols)
    (law names program l built.image whole table (subst (λ (f : FlatProgram). NamesAsked names f) same asked)
    (subst (λ (f : FlatProgram). ProgramBoxes f) same boxes) (subst (λ (f : FlatProgram). IsLoweredProgram names f l) same low) made.image)
