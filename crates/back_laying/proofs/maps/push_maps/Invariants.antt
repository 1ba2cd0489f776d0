-- The maps so far.
use Rattle.std.proofs.Common.{◌≡◌, ◌++◌, take}
use Rattle.std.specs.Prelude.{flat_map}
use Rattle.lang_meaning.specs.declared.program.ProgramRows.{ProgramRows}
use Rattle.lang_meaning.specs.declared.program.GenericRow.{GenericRow}
use Rattle.back_words.specs.Generics.{map_words}
use Rattle.back_laying.specs.Grouped.{arguments_of, AreGrouped}
use Rattle.back_laying.proofs.maps.push_maps.Given as goal

abbrev pub invariant-loop-at : goal.invariant-loop-at
invariant-loop-at l =
    (program : ProgramRows) → (g : GenericRow) → AreGrouped program g g.required l.groups
    → l.words ≡ l.fn.words ++ flat_map (map_words program g) (arguments_of (take l.at l.groups.specialised))
