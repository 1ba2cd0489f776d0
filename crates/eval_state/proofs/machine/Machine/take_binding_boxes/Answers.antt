-- The words of the boxes are asked for one by one.
use Rattle.std.proofs.Common.{sym, ◌∙◌, arith}
use Rattle.flat_language.specs.FlatMeaning.{binding_homes}
use Rattle.flat_language.specs.model.View.{bindings_of}
use Rattle.eval_store.specs.declared.word.Word.TheVariants.{Nil}
use Rattle.eval_state.proofs.BindingHomes.{homes_counted, home_there}
use Rattle.eval_state.proofs.Doing.{nothing_done}
use Rattle.eval_state.proofs.Boxes.{one_more, none_more, all_taken}
use Rattle.eval_state.proofs.machine.Machine.take_binding_boxes.Goals as goal

pub unreachable-requires : goal.unreachable-requires
unreachable-requires c = home_there c.args.list.now c.loop-at.at (omega arith) (sym c.binding_home.ensures ∙ c.in_default.is)

pub returns-then-not-branch : goal.returns-then-not-branch
returns-then-not-branch c =
    none_more c.args.self.now c.loop-at.self c.take_home.new.self (binding_homes (bindings_of c.args.list.now)) c.loop-at.at c.in-Some.home _
    (sym c.binding_home.ensures ∙ c.in-Some.is) c.loop-at.invariant c.in_ok-take_home.ensures c.if-not-branch.true

pub loop-at-init : goal.loop-at-init
loop-at-init c = nothing_done c.args.self.now Nil

pub loop-at-preserved : goal.loop-at-preserved
loop-at-preserved c =
    one_more c.args.self.now c.loop-at.self c.take_home.new.self (binding_homes (bindings_of c.args.list.now)) c.loop-at.at c.in-Some.home _
    (sym c.binding_home.ensures ∙ c.in-Some.is) c.loop-at.invariant c.in_ok-take_home.ensures c.if-not-branch.false

pub returns : goal.returns
returns c =
    all_taken c.args.self.now c.loop-at.self (binding_homes (bindings_of c.args.list.now)) c.loop-at.at
    (omega (arith, homes_counted c.args.list.now)) c.loop-at.invariant
