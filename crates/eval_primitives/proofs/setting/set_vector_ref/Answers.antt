-- The element is another one.
use Rattle.eval_primitives.proofs.Changing.{element_is_set}
use Rattle.eval_primitives.proofs.setting.set_vector_ref.Goals as goal

pub returns-in-Ok : goal.returns-in-Ok
returns-in-Ok c = element_is_set c.args.store.now c.set_element.new.self c.args.value c.args.word c.args.place c.len.result c.in-Ok.at c.in-Some.elements.now c.in-Some.ensures c.len.ensures c.in-Ok.ensures c.set_element.ensures.set
