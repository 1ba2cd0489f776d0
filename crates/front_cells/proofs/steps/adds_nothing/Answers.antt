-- An argument more.
use Rattle.front_cells.proofs.Fewer.{nothing_more, one_group}
use Rattle.front_cells.proofs.steps.adds_nothing.Goals as goal

pub loop-argument-preserved : goal.loop-argument-preserved
loop-argument-preserved c = record {
  cleared = c.is_copy_at.ensures.cleared;
  nothing =
      nothing_more c.args.classes.now c.args.generic.now c.args.class c.loop-argument.argument c.loop-argument.invariant.nothing
      (c.is_copy_at.ensures.copy c.if-not-is_copy_at.false);
}

pub returns-then-has_one_group-clause-nothing : goal.returns-then-has_one_group-clause-nothing
returns-then-has_one_group-clause-nothing c = λ _. one_group c.args.classes.now c.args.generic.now c.args.class (c.has_one_group.ensures c.if-has_one_group.true)
