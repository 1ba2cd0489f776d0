-- What the primitive comes to, and that all but the store is as it was.
use Rattle.std.proofs.Common.{List, refl, subst}
use Rattle.lang_meaning.specs.Primitives.{primitive}
use Rattle.flat_language.specs.FlatNodes.{tables}
use Rattle.eval_store.specs.declared.word.Word.{Word}
use Rattle.eval_store.specs.Words.{values_of}
use Rattle.eval_store.specs.View.{limit_of}
use Rattle.eval_primitives.specs.Answers.{AnswersAs, carried_out}
use Rattle.eval_state.specs.Frames.{frame_slots}
use Rattle.eval_state.specs.View.{state}
use Rattle.eval_state.proofs.Carrying.{last_piece}
use Rattle.eval_state.proofs.computing.answer_of.Goals as goal

pub returns : goal.returns
returns c =
    let m = c.args.machine.now in
    record {
      same = refl;
      comes = λ names b g.
          subst (λ (ws : List Word). AnswersAs names c.compute.result (state names (record m { store = c.compute.new.store }) b)
          (carried_out (limit_of m.given.limit) (primitive names (tables m.given.program.now) c.args.which (values_of names ws) (state names m b).state) (state names m b)))
          (last_piece m.operands.items c.deref.result.now c.args.count c.first_of-first.result c.deref.ensures.value c.first_of-first.ensures)
          (c.compute.ensures.comes names (tables m.given.program.now) (record b { frame = frame_slots names m.current m.slots.items }) g.fitted);
    }
