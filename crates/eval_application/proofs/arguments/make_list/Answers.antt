-- The list is made from its end.
use Rattle.std.proofs.Common.{◌≡◌, ◌+◌, Some, ap, arith}
use Rattle.eval_machine.specs.Applications.{listed}
use Rattle.eval_store.specs.View.{limit_of}
use Rattle.eval_state.specs.View.{top}
use Rattle.eval_state.proofs.Doing.{alike, does_some, does_none}
use Rattle.eval_application.proofs.Listed.{one_listed, list_filled, none_listed}
use Rattle.eval_application.proofs.arguments.make_list.Goals as goal

pub loop-taken-init : goal.loop-taken-init
loop-taken-init c = none_listed c.args.machine.now

pub loop-taken-preserved : goal.loop-taken-preserved
loop-taken-preserved c =
    does_some c.args.machine.now c.make_cons.new.machine _ c.in_ok-word.field-0 c.in-Some.word
    (one_listed c.args.machine.now c.loop-taken.machine c.make_cons.new.machine c.loop-taken.taken _ c.operand_at-item.result c.loop-taken.tail c.in_ok-word.field-0 (omega arith) (omega arith) c.operand_at-item.ensures c.loop-taken.invariant c.in_ok-word.ensures)
    c.in-Some.is

pub returns-in-None : goal.returns-in-None
returns-in-None c =
    list_filled c.args.machine.now c.make_cons.new.machine c.args.count (c.loop-taken.taken + 1) (omega arith) c.requires
    (does_none c.args.machine.now c.make_cons.new.machine _ c.in_ok-word.field-0
    (one_listed c.args.machine.now c.loop-taken.machine c.make_cons.new.machine c.loop-taken.taken _ c.operand_at-item.result c.loop-taken.tail c.in_ok-word.field-0 (omega arith) (omega arith) c.operand_at-item.ensures c.loop-taken.invariant c.in_ok-word.ensures)
    c.in-None.is)

pub returns : goal.returns
returns c =
    let e : c.loop-taken.taken ≡ c.args.count = omega arith in
    alike c.args.machine.now c.loop-taken.machine _ _ (Some c.loop-taken.tail) (λ names z. ap (λ n. listed (limit_of c.args.machine.now.given.limit) (top names c.args.machine.now n) z) e) c.loop-taken.invariant
