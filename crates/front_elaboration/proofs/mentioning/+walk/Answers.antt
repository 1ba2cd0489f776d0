-- The form mentions what those right inside it do, and what it names.
use Rattle.front_elaboration.proofs.Walks.{walked}
use Rattle.front_elaboration.proofs.mentioning.+walk.Goals as goal

pub walk-returns : goal.walk-returns
walk-returns t c =
    walked c.gather.result c.args.form.now c.in_ok-outer.outer c.in_ok-inner.inner c.outer.result c.inner.result c.outer.ensures c.inner.ensures
    c.in_ok-outer.ensures c.in_ok-inner.ensures c.gather.ensures
