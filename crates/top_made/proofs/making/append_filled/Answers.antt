-- One letter more.
use Rattle.std.proofs.Common.{refl}
use Rattle.top_made.proofs.Filling.{none_filled, more_filled}
use Rattle.top_made.proofs.making.append_filled.Goals as goal

pub loop-letter-init : goal.loop-letter-init
loop-letter-init c = none_filled c.args.number c.args.text.now c.args.lines.now

pub loop-letter-preserved : goal.loop-letter-preserved
loop-letter-preserved c =
    more_filled c.args.number c.args.lines.now _ _ _ _ c.loop-letter.letter-index _ c.loop-letter-test.true refl refl c.loop-letter.invariant c.in_ok-append_letter.ensures
