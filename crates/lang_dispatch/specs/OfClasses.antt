-- What dispatch asks of a program: its classes and nothing else.
use Rattle.std.specs.Prelude.{◌≡◌, ℕ, List, [], refl}
use Rattle.lang_meaning.specs.declared.program.ProgramRows.{ProgramRows}
use Rattle.lang_meaning.specs.declared.program.ClassRow.{ClassRow}
use Rattle.lang_meaning.specs.declared.program.GenericRow.{GenericRow}
use Rattle.lang_meaning.specs.Classes.{chain}
use Rattle.lang_meaning.specs.Cells.{generic_cells}

-- the program that has these classes and nothing else
abbrev pub with_classes : List ClassRow → ProgramRows
with_classes rows = record {
  literals = [];
  procedures = [];
  classes = rows;
  generics = [];
  functions = [];
  main = [];
  sites = [];
}

pub chain_by_classes : (program : ProgramRows) (g : GenericRow) (cs : List ℕ)
    → chain program g cs ≡ chain (with_classes program.classes) g cs
chain_by_classes program g cs = refl

pub cells_by_classes : (program : ProgramRows) (g : GenericRow)
    → generic_cells program g ≡ generic_cells (with_classes program.classes) g
cells_by_classes program g = refl
