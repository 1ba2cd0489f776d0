-- What is taken by the index of the symbols is the datum of the value.
use Rattle.std.proofs.lemmas.Result.{IfOk-weaker, IfErr-weaker}
use Rattle.mid_taken.proofs.Takes.{stops_weaker}
use Rattle.mid_taken.proofs.Indexed.{stands_of}
use Rattle.mid_taken.proofs.datum.take_datum.Goals as goal

pub returns-clause-takes : goal.returns-clause-takes
returns-clause-takes c =
    IfOk-weaker c.take_word.result _ _
    (λ d h. record {
      there = λ names z v t. record {
        rest = c.take_word.new.left;
        taken =
            h.there names z (stands_of names z v c.args.words.now c.args.word c.args.symbols.now c.in_ok-index.index c.in_ok-index.ensures t) v t.of_value;
      };
    })
    c.take_word.ensures.takes

pub returns-clause-stops : goal.returns-clause-stops
returns-clause-stops c =
    IfErr-weaker c.take_word.result _ _
    (λ stop h.
    stops_weaker c.args.place _ _
    (λ r f. record {
      there = λ names z v t.
          f.there names z (stands_of names z v c.args.words.now c.args.word c.args.symbols.now c.in_ok-index.index c.in_ok-index.ensures t) v t.of_value;
    })
    stop h)
    c.take_word.ensures.stops
