-- The classes so far have their words.
use Rattle.std.proofs.Common.{◌≡◌, length, take}
use Rattle.std.specs.List.{sum_by}
use Rattle.lang_meaning.specs.declared.program.ProgramRows.{ProgramRows}
use Rattle.mid_start.specs.Making.{IsWithin}
use Rattle.mid_start.specs.Rows.{most_class_words}
use Rattle.mid_start.specs.Settling.{ClassesSettle}
use Rattle.mid_start.proofs.classes.lay_classes.Given as goal

abbrev pub invariant-loop-class : goal.invariant-loop-class
invariant-loop-class l = record {
  within : IsWithin l.fn.words l.words (sum_by most_class_words (take l.class l.rows));
  many : length l.laid ≡ l.class;
  settle : (program : ProgramRows) → program.classes ≡ l.rows → ClassesSettle l.names program l.truth l.slots l.fn.words l.words l.class l.laid;
}
