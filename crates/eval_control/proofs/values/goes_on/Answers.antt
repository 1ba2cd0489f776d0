-- A level less, where there is one.
use Rattle.std.proofs.Common.{◌≡◌, suc, refl, ap, ◌∙◌, arith}
use Rattle.flat_language.specs.FlatForm.{while_form}
use Rattle.eval_machine.specs.Configuration.{configuration, evaluate}
use Rattle.eval_state.specs.View.{at, frames, state}
use Rattle.eval_state.proofs.Going.{followed}
use Rattle.eval_control.proofs.Framed.{at_another}
use Rattle.eval_control.proofs.Passed.{no_level_left, one_level_less}
use Rattle.eval_control.proofs.values.goes_on.Goals as goal

pub returns-in_default : goal.returns-in_default
returns-in_default c = followed _ _ _ _ c.come_to.ensures (λ names s b. no_level_left _ c.args.situation.level _ _ (omega arith))

pub returns : goal.returns
returns c =
    let m = c.args.machine.now in
    let f = while_form c.args.test.now c.args.body.now in
    let less : c.args.situation.level ≡ suc c.in-Some.below = omega (arith, c.in-Some.ensures) in
    record {
      given = refl;
      comes = λ names b k.
          ap (λ i. configuration (evaluate f (at names m i)) (frames names m 0) (state names m b)) c.at_level.ensures
          ∙ ap (λ p. configuration (evaluate f p) (frames names m 0) (state names m b)) (at_another names m c.args.situation c.in-Some.below)
          ∙ one_level_less (λ k. configuration (evaluate f (record (at names m c.args.situation) { level = k }))) c.args.situation.level c.in-Some.below (frames names m 0) (state names m b) less;
    }
