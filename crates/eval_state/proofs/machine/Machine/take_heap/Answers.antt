-- The words are asked for, and then counted as units.
use Rattle.eval_state.proofs.Doing.{heap_given, heap_filled}
use Rattle.eval_state.proofs.machine.Machine.take_heap.Goals as goal

pub returns-then-not-branch : goal.returns-then-not-branch
returns-then-not-branch c = heap_filled c.args.self.now c.ask.new.self c.args.words _ c.in_ok-ask.ensures c.if-not-branch.true

pub returns : goal.returns
returns c = heap_given c.args.self.now c.ask.new.self c.charge.new.self c.args.words _ c.in_ok-ask.ensures c.if-not-branch.false c.in_ok-charge.ensures
