-- The test was true, or not.
use Rattle.std.proofs.Common.{suc, ap, sym, ◌∙◌}
use Rattle.std.specs.Prelude.{slice_get}
use Rattle.std.proofs.lemmas.Result.{on_ok_weaker}
use Rattle.eval_machine.specs.Step.{clauses_step}
use Rattle.eval_store.specs.Words.{value_of_word}
use Rattle.eval_state.specs.Frames.{clauses_from}
use Rattle.eval_state.specs.View.{at, frames, state}
use Rattle.eval_state.proofs.Going.{followed}
use Rattle.eval_control.specs.Valued.{clause_body_of}
use Rattle.eval_control.proofs.Framed.{clause_on, clause_off, got}
use Rattle.eval_control.proofs.values.clause_value.Goals as goal

pub returns-then-is_true : goal.returns-then-is_true
returns-then-is_true c =
    let m = c.args.machine.now in
    let xs = c.args.list.now in
    followed _ _ _ _ c.clause_body.ensures (λ names s b.
    ap (λ o. clause_body_of s (value_of_word names c.args.word) o (at names m c.args.situation) (frames names m 0) (state names m b)) (got xs c.args.place c.get.result c.get.ensures)
    ∙ clause_on s (value_of_word names c.args.word) (slice_get xs c.args.place) (clauses_from xs (suc c.args.place)) (at names m c.args.situation) (frames names m 0) (state names m b) (sym (c.is_true.ensures names) ∙ c.if-is_true.true))

pub returns-in_ok-next : goal.returns-in_ok-next
returns-in_ok-next c =
    let m = c.args.machine.now in
    let xs = c.args.list.now in
    on_ok_weaker c.clauses.result
    (λ x. followed _ _ _ _ x (λ names s b.
    ap (λ k. clauses_step s (clauses_from xs k) (at names m c.args.situation) (frames names m 0) (state names m b)) c.in_ok-next.ensures
    ∙ clause_off s (value_of_word names c.args.word) (slice_get xs c.args.place) (clauses_from xs (suc c.args.place)) (at names m c.args.situation) (frames names m 0) (state names m b) (sym (c.is_true.ensures names) ∙ c.if-is_true.false)))
    c.clauses.ensures
