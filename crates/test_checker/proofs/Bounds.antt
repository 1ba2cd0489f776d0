-- Comparisons: what is cut off above a bound passes it just where the number does.
use Rattle.std.proofs.Common.{◌≡◌, ℕ, ◌<◌, nat_le, min, arith, sym}
use Rattle.std.specs.List.{sum_by}
use Rattle.std.proofs.lemmas.Bool.Decides.{nat_tests}
use Rattle.lang_meaning.specs.declared.program.ProgramRows.{ProgramRows}
use Rattle.lang_meaning.specs.Cells.{generic_cells, program_cells}
use Rattle.lang_dispatch.specs.OfClasses.{with_classes, cells_by_classes}
use Rattle.base.specs.bridge.Counted.{sum_alike}

cut_off : (d r bound most : ℕ) → r ≡ min d most → bound < most → nat_le r bound ≡ nat_le d bound
cut_off d r bound most h b = grind (arith, nat_tests)

pub depth_within : (d r : ℕ) → r ≡ min d 4294967295 → nat_le r 1000 ≡ nat_le d 1000
depth_within d r h = cut_off d r 1000 4294967295 h (omega arith)

pub nodes_within : (d r : ℕ) → r ≡ min d 18446744073709551615 → nat_le r 100000 ≡ nat_le d 100000
nodes_within d r h = cut_off d r 100000 18446744073709551615 h (omega arith)

pub cells_within : (d r : ℕ) → r ≡ min d 262145 → nat_le r 262144 ≡ nat_le d 262144
cells_within d r h = cut_off d r 262144 262145 h (omega arith)

-- the cells of a program depend on its classes alone
pub cells_alike : (rows : ProgramRows) → sum_by (generic_cells (with_classes rows.classes)) rows.generics ≡ program_cells rows
cells_alike rows = sym (sum_alike (generic_cells rows) (generic_cells (with_classes rows.classes)) (cells_by_classes rows) rows.generics)
