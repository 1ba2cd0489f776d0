-- The words of the boxes are granted, or they do not fit.
use Rattle.flat_language.specs.FlatMeaning.{binding_homes}
use Rattle.flat_language.specs.model.View.{bindings_of}
use Rattle.eval_machine.specs.Applications.{boxes_requested}
use Rattle.eval_store.specs.declared.word.Word.TheVariants.{Nil}
use Rattle.eval_state.specs.View.{at, top, frames}
use Rattle.eval_state.proofs.Doing.{over_ok, effect_done, effect_wanting, then_filled}
use Rattle.eval_control.specs.LetBodies.{let_enters}
use Rattle.eval_control.proofs.LetEntered.{given_at}
use Rattle.eval_control.proofs.let_bodies.let_body.Goals as goal

pub returns-then-branch : goal.returns-then-branch
returns-then-branch c =
    let m = c.args.machine.now in
    let all = bindings_of c.args.list.now in
    over_ok c.enter_let.result
    (given_at m c.take_binding_boxes.new.self c.enter_let.new.machine c.args.count c.args.situation (λ names s z. boxes_requested s.limit (binding_homes all) z) Nil
    (λ names s vs q v. let_enters all c.args.body.now vs q)
    (effect_done m c.take_binding_boxes.new.self _ _ c.in_ok-take_binding_boxes.ensures c.if-branch.true))
    c.enter_let.ensures

pub returns-else-branch : goal.returns-else-branch
returns-else-branch c =
    let m = c.args.machine.now in
    let all = bindings_of c.args.list.now in
    then_filled m c.take_binding_boxes.new.self c.drop_operands.new.self c.args.count (λ names s z. boxes_requested s.limit (binding_homes all) z)
    (λ names s b v after. let_enters all c.args.body.now (top names m c.args.count) (at names m c.args.situation) (frames names m c.args.count) after)
    (effect_wanting m c.take_binding_boxes.new.self _ _ c.in_ok-take_binding_boxes.ensures c.if-branch.false) c.drop_operands.ensures
