-- A box has a word.
use Rattle.eval_state.proofs.Boxes.{one_box_taken}
use Rattle.eval_state.proofs.machine.Machine.take_home.Goals as goal

pub returns-in-Boxed : goal.returns-in-Boxed
returns-in-Boxed c = one_box_taken c.args.self.now c.take_heap.new.self c.args.home c.take_heap.result c.in-Boxed.is c.take_heap.ensures
