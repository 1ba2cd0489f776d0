-- The boxes of the required variables, and then that of the rest.
use Rattle.std.specs.Prelude.{option_to_list}
use Rattle.eval_application.proofs.BoxWords.{rest_taken, rest_filled, no_rest}
use Rattle.eval_application.proofs.boxes.take_procedure_boxes.Goals as goal

pub returns-then-not-branch : goal.returns-then-not-branch
returns-then-not-branch c = rest_filled c.args.machine.now c.take_boxes.new.machine c.args.procedure.now.required (option_to_list c.args.procedure.now.rest) _ c.in_ok-take_boxes.ensures c.if-not-branch.true

pub returns-in-Some : goal.returns-in-Some
returns-in-Some c = rest_taken c.args.machine.now c.take_boxes.new.machine c.take_home.new.self c.args.procedure.now.required c.args.procedure.now.rest c.in-Some.home _ c.take_home.result c.in-Some.is c.in_ok-take_boxes.ensures c.if-not-branch.false c.take_home.ensures

pub returns-in-None : goal.returns-in-None
returns-in-None c = no_rest c.args.machine.now c.take_boxes.new.machine c.args.procedure.now.required c.args.procedure.now.rest _ c.in-None.is c.in_ok-take_boxes.ensures c.if-not-branch.false
