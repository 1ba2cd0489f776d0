-- What is counted so far, and then the methods of the rest that apply.
use Rattle.std.proofs.Common.{◌≡◌, ◌+◌, ◌≤◌, length, drop, filter}
use Rattle.lang_meaning.specs.declared.program.Qualifier.TheVariants.{Primary}
use Rattle.lang_meaning.specs.Classes.{applies}
use Rattle.lang_dispatch.specs.OfClasses.{with_classes}
use Rattle.lang_dispatch.proofs.ChainCounts.{count_of}
use Rattle.lang_dispatch.proofs.applying.chain_length.Given as goal

abbrev pub invariant-loop-method : goal.invariant-loop-method
invariant-loop-method l =
    record {
      fits : l.found ≤ l.method-index;
      primaries : l.primary ≤ l.found;
      all : l.found + length (filter (λ m. applies (with_classes l.classes) l.tuple m.classes) (drop l.method-index l.generic.methods))
          ≡ length (filter (λ m. applies (with_classes l.classes) l.tuple m.classes) l.generic.methods);
      some : l.primary + count_of Primary (filter (λ m. applies (with_classes l.classes) l.tuple m.classes) (drop l.method-index l.generic.methods))
          ≡ count_of Primary (filter (λ m. applies (with_classes l.classes) l.tuple m.classes) l.generic.methods);
    }
