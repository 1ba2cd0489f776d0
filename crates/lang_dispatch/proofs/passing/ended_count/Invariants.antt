-- What is counted so far, and then the methods of the rest that have ended.
use Rattle.std.proofs.Common.{◌≡◌, ◌+◌, ◌≤◌, length, drop, filter, nat_le}
use Rattle.lang_meaning.specs.declared.program.Qualifier.TheVariants.{Primary}
use Rattle.lang_dispatch.proofs.ChainCounts.{count_of}
use Rattle.lang_dispatch.proofs.passing.ended_count.Given as goal

abbrev pub invariant-loop-method : goal.invariant-loop-method
invariant-loop-method l =
    record {
      fits : l.found ≤ l.method-index;
      primaries : l.primary ≤ l.found;
      all : l.found + length (filter (λ m. nat_le (length m.classes) l.argument) (drop l.method-index l.methods))
          ≡ length (filter (λ m. nat_le (length m.classes) l.argument) l.methods);
      some : l.primary + count_of Primary (filter (λ m. nat_le (length m.classes) l.argument) (drop l.method-index l.methods))
          ≡ count_of Primary (filter (λ m. nat_le (length m.classes) l.argument) l.methods);
    }
