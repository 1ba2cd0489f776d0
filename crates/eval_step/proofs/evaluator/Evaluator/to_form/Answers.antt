-- It has come to the next form, or to the end.
use Rattle.std.proofs.Common.{◌≡◌, ◌+◌, suc, subst, arith}
use Rattle.eval_step.specs.Advanced.{HasReached}
use Rattle.eval_step.proofs.Onwards.{reached_more, reached_end, stopped, quiet_next, no_form, a_form, went_on, went_not}
use Rattle.eval_step.proofs.evaluator.Evaluator.to_form.Goals as goal

pub returns-then-begins_form : goal.returns-then-begins_form
returns-then-begins_form c = record {
  count = c.loop.counter;
  reached = c.loop.invariant;
  stopped = a_form c.loop.self c.begins_form.result c.begins_form.ensures c.if-begins_form.true;
}

pub step-requires : goal.step-requires
step-requires c = quiet_next c.loop.self c.begins_form.result c.begins_form.ensures c.if-begins_form.false

pub returns-then-not-went : goal.returns-then-not-went
returns-then-not-went c =
    let h = went_not c.loop.self c.step.new.self c.in_ok-went.went c.if-not-went.true c.in_ok-went.ensures in
    record {
      count = c.loop.counter;
      reached = reached_end c.args.self.now c.loop.self c.step.new.self c.loop.counter c.loop.invariant h;
      stopped = stopped c.loop.self c.step.new.self h;
    }

pub loop-preserved : goal.loop-preserved
loop-preserved c =
    let e : suc c.loop.counter ≡ c.loop.counter + 1 = omega arith in
    subst (HasReached c.args.self.now c.step.new.self) e (reached_more c.args.self.now c.loop.self c.step.new.self c.loop.counter c.loop.invariant
    (no_form c.loop.self c.begins_form.result c.begins_form.ensures c.if-begins_form.false)
    (went_on c.loop.self c.step.new.self c.in_ok-went.went c.if-not-went.false c.in_ok-went.ensures))
