-- One binding after another.
use Rattle.std.proofs.Common.{sym, ◌∙◌, arith}
use Rattle.eval_control.proofs.BindingsFound.{seeking_begins, seeking_goes, is_there, is_nowhere}
use Rattle.eval_control.proofs.bound.place_in.Goals as goal

pub returns-then-same_name : goal.returns-then-same_name
returns-then-same_name c names s =
    is_there names c.args.name.0 c.args.list.now c.loop-at.at c.in-Some.binding.now c.in-Some.ensures
    (c.loop-at.invariant names s) (sym (c.same_name.ensures names s) ∙ c.if-same_name.true)

pub loop-at-init : goal.loop-at-init
loop-at-init c names s = seeking_begins names c.args.name.0 c.args.list.now

pub loop-at-preserved : goal.loop-at-preserved
loop-at-preserved c names s =
    seeking_goes names c.args.name.0 c.args.list.now c.loop-at.at c.in-Some.binding.now c.in-Some.ensures
    (c.loop-at.invariant names s) (sym (c.same_name.ensures names s) ∙ c.if-same_name.false)

pub returns : goal.returns
returns c names s = is_nowhere names c.args.name.0 c.args.list.now c.loop-at.at (omega arith) (c.loop-at.invariant names s)
