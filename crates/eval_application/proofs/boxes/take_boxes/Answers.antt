-- The words of the boxes are asked for one by one.
use Rattle.std.proofs.Common.{arith}
use Rattle.eval_store.specs.declared.word.Word.TheVariants.{Nil}
use Rattle.eval_state.proofs.Doing.{nothing_done}
use Rattle.eval_state.proofs.Boxes.{one_more, none_more, all_taken}
use Rattle.eval_application.proofs.boxes.take_boxes.Goals as goal

pub returns-then-not-branch : goal.returns-then-not-branch
returns-then-not-branch c = none_more c.args.machine.now c.loop-at.machine c.take_home.new.self c.args.homes.now c.loop-at.at c.in-Some.home.now _ c.in-Some.ensures c.loop-at.invariant c.in_ok-take_home.ensures c.if-not-branch.true

pub loop-at-init : goal.loop-at-init
loop-at-init c = nothing_done c.args.machine.now Nil

pub loop-at-preserved : goal.loop-at-preserved
loop-at-preserved c = one_more c.args.machine.now c.loop-at.machine c.take_home.new.self c.args.homes.now c.loop-at.at c.in-Some.home.now _ c.in-Some.ensures c.loop-at.invariant c.in_ok-take_home.ensures c.if-not-branch.false

pub returns : goal.returns
returns c = all_taken c.args.machine.now c.loop-at.machine c.args.homes.now c.loop-at.at (omega arith) c.loop-at.invariant
