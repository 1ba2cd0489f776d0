-- One name more is passed, or kept.
use Rattle.lang_meaning.specs.Lookup.{text}
use Rattle.back_laying.proofs.Distinct.{one_taken}
use Rattle.back_laying.proofs.naming.first_names.Goals as goal

pub loop-at-preserved : goal.loop-at-preserved
loop-at-preserved c =
    one_taken (text c.args.names.now) c.args.used.now c.loop-at.firsts c.keep_first.new.firsts c.loop-at.at c.in-Some.name.now c.in-Some.ensures
    c.in_ok-keep_first.ensures c.loop-at.invariant
