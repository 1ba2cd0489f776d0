-- The words of the boxes of the variables that are passed are there.
use Rattle.std.proofs.Common.{take}
use Rattle.eval_machine.specs.Applications.{boxes_requested}
use Rattle.eval_store.specs.declared.word.Word.TheVariants.{Nil}
use Rattle.eval_store.specs.View.{limit_of}
use Rattle.eval_state.specs.Doing.{Gives}
use Rattle.eval_application.proofs.boxes.take_boxes.Given as goal

abbrev pub invariant-loop-at : goal.invariant-loop-at
invariant-loop-at l = Gives l.initial.machine l.machine (λ names z. boxes_requested (limit_of l.initial.machine.given.limit) (take l.at l.homes) z) Nil
