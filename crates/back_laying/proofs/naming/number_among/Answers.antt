-- One name more is passed, or found.
use Rattle.std.proofs.Common.{sym, ◌∙◌}
use Rattle.lang_meaning.specs.Lookup.{text}
use Rattle.back_laying.proofs.Numbers.{number_here, number_later}
use Rattle.back_laying.proofs.naming.number_among.Goals as goal

pub loop-at-preserved : goal.loop-at-preserved
loop-at-preserved c =
    number_later (text c.args.names.now) c.args.firsts.now c.args.name c.loop-at.at c.in-Some.first.now c.in-Some.ensures
    (sym c.same_text.ensures ∙ c.if-same_text.false) c.loop-at.invariant

pub returns-then-same_text : goal.returns-then-same_text
returns-then-same_text c =
    number_here (text c.args.names.now) c.args.firsts.now c.args.name c.loop-at.at c.in-Some.first.now c.in-Some.ensures
    (sym c.same_text.ensures ∙ c.if-same_text.true) c.loop-at.invariant
