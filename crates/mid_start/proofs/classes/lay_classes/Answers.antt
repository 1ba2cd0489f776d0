-- One class more.
use Rattle.std.proofs.Common.{◌≡◌, ◌≤◌, [], ◌∷◌, Some, length, ap, ◌∙◌, subst, length-append, arith}
use Rattle.std.specs.Prelude.{slice_get}
use Rattle.mid_start.specs.Rows.{most_class_words}
use Rattle.mid_start.specs.Settling.{ClassesSettle}
use Rattle.mid_start.proofs.ClassSteps.{settle_more}
use Rattle.mid_start.proofs.Steps.{room_next, within_next, within_all}
use Rattle.mid_start.proofs.classes.lay_classes.Goals as goal

pub lay_class-requires-clause-room : goal.lay_class-requires-clause-room
lay_class-requires-clause-room c =
    room_next most_class_words c.args.rows.now c.loop-class.class c.in-Some.row.now c.args.words.now c.loop-class.words c.in-Some.ensures c.requires.room c.loop-class.invariant.within

pub loop-class-preserved : goal.loop-class-preserved
loop-class-preserved c = record {
  within = within_next most_class_words c.args.rows.now c.loop-class.class c.in-Some.row.now c.args.words.now c.loop-class.words c.lay_class.new.words c.in-Some.ensures
      c.loop-class.invariant.within c.in_ok-word.ensures.within;
  many = omega (arith, ap (λ xs. length xs) c.in_ok-push.ensures.ok, length-append c.loop-class.laid (c.in_ok-word.word ∷ []), c.loop-class.invariant.many);
  settle = λ program same.
      let here : slice_get program.classes c.loop-class.class ≡ Some c.in-Some.row.now = ap (λ xs. slice_get xs c.loop-class.class) same ∙ c.in-Some.ensures in
      settle_more c.args.names.now program c.args.truth c.args.slots.now c.loop-class.class c.in-Some.row.now c.in-Some-get.of_class.now c.args.words.now c.loop-class.words c.lay_class.new.words
      c.loop-class.laid c.push.new.self c.in_ok-word.word here c.in-Some-get.ensures c.in_ok-push.ensures.ok (c.loop-class.invariant.settle program same) (c.in_ok-word.ensures.settles program here);
}

pub returns-clause-within : goal.returns-clause-within
returns-clause-within c =
    let past : length c.args.rows.now ≤ c.loop-class.class = omega (arith, c.len-class-end.ensures) in
    within_all most_class_words c.args.rows.now c.loop-class.class c.args.words.now c.loop-class.words past c.loop-class.invariant.within

pub returns-clause-settle : goal.returns-clause-settle
returns-clause-settle c program same =
    let end : c.loop-class.class ≡ length c.args.rows.now = omega (arith, c.len-class-end.ensures, c.loop-class.auto.class-end, c.loop-class-test.false) in
    subst (λ n. ClassesSettle c.args.names.now program c.args.truth c.args.slots.now c.args.words.now c.loop-class.words n c.loop-class.laid) end
    (c.loop-class.invariant.settle program same)
