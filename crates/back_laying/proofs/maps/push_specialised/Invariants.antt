-- The words so far, and those to come; and where the next map is.
use Rattle.std.proofs.Common.{◌≡◌, ◌+◌, ◌*◌, ◌++◌, drop, length}
use Rattle.lang_meaning.specs.declared.program.ProgramRows.{ProgramRows}
use Rattle.lang_meaning.specs.declared.program.GenericRow.{GenericRow}
use Rattle.back_relation.specs.Chains.{specialised_words}
use Rattle.back_words.specs.Generics.{specialised_at}
use Rattle.back_laying.specs.Grouped.{arguments_of}
use Rattle.back_laying.proofs.maps.push_specialised.Given as goal

abbrev pub invariant-loop-at : goal.invariant-loop-at
invariant-loop-at l =
    record {
      words : (program : ProgramRows) → (g : GenericRow) → length program.classes ≡ l.classes
          → l.words ++ specialised_words (specialised_at program g (arguments_of (drop l.at l.specialised)) l.address)
          ≡ l.fn.words ++ specialised_words (specialised_at program g (arguments_of l.specialised) l.maps);
      address : l.address ≡ l.maps + 4 * (l.classes * l.at);
    }
