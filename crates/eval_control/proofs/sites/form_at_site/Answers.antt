-- The situation has another place.
use Rattle.std.proofs.Common.{ap, ◌∙◌, reverse}
use Rattle.eval_machine.specs.Configuration.{configuration, evaluate}
use Rattle.eval_state.specs.View.{at, frames, state}
use Rattle.eval_control.proofs.Inside.{at_site}
use Rattle.eval_control.proofs.sites.form_at_site.Goals as goal

pub returns : goal.returns
returns c =
    let m = c.args.machine.now in
    record {
      given = c.evaluate.ensures.given;
      comes = λ names b k.
          c.evaluate.ensures.comes names b k
          ∙ ap (λ q. configuration (evaluate c.args.form.now (at names m q)) (frames names m 0) (state names m b)) c.at_place.ensures
          ∙ ap (λ p. configuration (evaluate c.args.form.now p) (frames names m 0) (state names m b)) (at_site names m.current (reverse m.frames.items) c.args.situation c.place_of-place.result)
          ∙ ap (λ l. configuration (evaluate c.args.form.now (record (at names m c.args.situation) { around = record (at names m c.args.situation).around { site = l } })) (frames names m 0) (state names m b)) c.place_of-place.ensures;
    }
