-- The law is the lemma, with the laws of texts and of forms: where no macro is defined, of all verdicts; else of those that are exact.
use Rattle.std.proofs.Common.{ap, length}
use Rattle.front_profile.specs.Cuts.{opened}
use Rattle.front_files.proofs.Told.{AnyEnd, AnyTables, IsExactReason, before_without, any_left, counts_exact, exact_counts, any_counts}
use Rattle.front_files.specs.WithoutMacros.{WithoutMacros}
use Rattle.front_files.specs.bridge.Once.{one_verdict}
use Rattle.front_files.proofs.laws.law_one_verdict.Goals as goal

pub returns-clause-without : goal.returns-clause-without
returns-clause-without c = λ names prelude text mode v w table g h.
    one_verdict WithoutMacros AnyEnd names prelude text mode v w (record {
      table = table;
      before = λ origin s d t none x. before_without c.law_growth.ensures names origin s d t none x;
      form = λ a s d v w none x y h k. c.law_one_verdict.ensures.without names a (opened s) d v w table (ap length none) h k;
      next = λ rest p d e after left x y. c.law_one_datum.ensures names rest p d e after left x y;
      stop = c.law_one_stop.ensures;
      next_or_stop = λ rest p d after at r x y. c.law_next_or_stops.ensures names rest p d after at r x y;
      end_or_next = λ rest p d after g x. c.law_end.ensures.datum names rest p d after g x;
      end_or_stop = c.law_end.ensures.stop;
    }) (any_counts v) (any_counts w) g.verdict h g.none

pub returns-clause-exact : goal.returns-clause-exact
returns-clause-exact c = λ names prelude text mode v w table one x y g h.
    one_verdict AnyTables IsExactReason names prelude text mode v w (record {
      table = table;
      before = λ origin s d t x g. tt;
      form = λ a s d v w any x y h k. c.law_one_verdict.ensures.exact names a (opened s) d v w table one (counts_exact v x) (counts_exact w y) h k;
      next = λ rest p d e after left x y. c.law_one_datum.ensures names rest p d e after left x y;
      stop = c.law_one_stop.ensures;
      next_or_stop = λ rest p d after at r x y. c.law_next_or_stops.ensures names rest p d after at r x y;
      end_or_next = λ rest p d after g x. c.law_end.ensures.datum names rest p d after g x;
      end_or_stop = c.law_end.ensures.stop;
    }) (exact_counts v x) (exact_counts w y) g h (any_left names prelude text mode v g)
