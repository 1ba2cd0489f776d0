-- The words of the boxes of the variables that are passed are there.
use Rattle.std.proofs.Common.{take}
use Rattle.flat_language.specs.FlatMeaning.{binding_homes}
use Rattle.flat_language.specs.model.View.{bindings_of}
use Rattle.eval_machine.specs.Applications.{boxes_requested}
use Rattle.eval_store.specs.declared.word.Word.TheVariants.{Nil}
use Rattle.eval_store.specs.View.{limit_of}
use Rattle.eval_state.specs.Doing.{Gives}
use Rattle.eval_state.proofs.machine.Machine.take_binding_boxes.Given as goal

abbrev pub invariant-loop-at : goal.invariant-loop-at
invariant-loop-at l = Gives l.initial.self l.self
    (λ names z. boxes_requested (limit_of l.initial.self.given.limit) (take l.at (binding_homes (bindings_of l.list))) z) Nil
