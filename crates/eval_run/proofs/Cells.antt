-- The cells of a whole program are few, and a program made flat has as many.
use Rattle.std.proofs.Common.{◌≡◌, ◌≤◌, ℕ, nat_le, Bool, true, false, ◌&&◌, sym, subst}
use Rattle.std.specs.List.{sum_by}
use Rattle.std.proofs.lemmas.Bool.{false≢true, leb-true}
use Rattle.base.specs.bridge.Counted.{sum_alike}
use Rattle.lang_meaning.specs.declared.program.ProgramRows.{ProgramRows}
use Rattle.lang_meaning.specs.Cells.{generic_cells, program_cells}
use Rattle.lang_meaning.specs.Facts.{rows_fit, bodies_stand, is_whole}
use Rattle.flat_language.specs.declared.program.FlatProgram.{FlatProgram}
use Rattle.flat_language.specs.Flatten.{flat_program}
use Rattle.lang_dispatch.specs.OfClasses.{with_classes, cells_by_classes}

both_last : (a b : Bool) → (a && b) ≡ true → b ≡ true
both_last true b h = h
both_last false b h = absurd (false≢true h)

below : (a b : ℕ) → nat_le a b ≡ true → a ≤ b
below a b h = leb-true a b h

few_cells : (rows : ProgramRows) → is_whole rows ≡ true → sum_by (generic_cells (with_classes rows.classes)) rows.generics ≤ 262144
few_cells rows h =
    let alike : sum_by (generic_cells (with_classes rows.classes)) rows.generics ≡ program_cells rows =
    sym (sum_alike (generic_cells rows) (generic_cells (with_classes rows.classes)) (cells_by_classes rows) rows.generics) in
    let few : program_cells rows ≤ 262144 = below (program_cells rows) 262144 (both_last (rows_fit rows && bodies_stand rows) (nat_le (program_cells rows) 262144) h) in
    subst (λ n. n ≤ 262144) (sym alike) few

pub few_flat_cells : (flat : FlatProgram) (rows : ProgramRows) → flat ≡ flat_program rows → is_whole rows ≡ true
    → sum_by (generic_cells (with_classes flat.classes)) flat.generics ≤ 262144
few_flat_cells flat rows made h =
    subst (λ (p : FlatProgram). sum_by (generic_cells (with_classes p.classes)) p.generics ≤ 262144) (sym made) (few_cells rows h)
