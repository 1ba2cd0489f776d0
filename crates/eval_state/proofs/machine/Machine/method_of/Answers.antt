-- The method of the activation, or a captured one.
use Rattle.std.proofs.Common.{ap, sym, ◌∙◌, reverse}
use Rattle.std.specs.Prelude.{slice_get}
use Rattle.flat_language.specs.FlatState.{method_of, method_in}
use Rattle.eval_store.specs.Words.{called_or_none}
use Rattle.eval_state.specs.View.{at}
use Rattle.eval_state.proofs.Captures.{environment_captured}
use Rattle.eval_state.proofs.MethodPlaces.{own_method}
use Rattle.eval_state.proofs.machine.Machine.method_of.Goals as goal

pub returns-in-Own : goal.returns-in-Own
returns-in-Own c names s =
    let m = c.args.self.now in
    ap (called_or_none names) c.as_ref.ensures.value
    ∙ own_method names m.current (reverse m.frames.items) s
    ∙ ap (λ p. method_of p (at names m s).environment) (sym c.in-Own.is)

pub returns-in-Captured : goal.returns-in-Captured
returns-in-Captured c names s =
    let m = c.args.self.now in
    c.captured_method.ensures names
    ∙ ap (λ cs. method_in (slice_get cs c.in-Captured.number)) (environment_captured names m.current (reverse m.frames.items) s)
    ∙ ap (λ p. method_of p (at names m s).environment) (sym c.in-Captured.is)
