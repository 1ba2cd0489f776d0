-- The name, what is said of it, and the advice.
use Rattle.std.proofs.Common.{◌∙◌, List, ℕ, subst}
use Rattle.std.proofs.lemmas.Result.{on_ok_weaker}
use Rattle.base.specs.Given.{WasGiven}
use Rattle.top_lines.proofs.Fronts.{given_both}
use Rattle.top_lines.proofs.warnings.write_no_function.Goals as goal

pub returns-clause-given : goal.returns-clause-given
returns-clause-given g c =
    let Given : List ℕ → Type 0 =
    λ text. WasGiven (g.E.Sink.given c.write_all-2.new.sink) text (g.E.Sink.given c.write_all-3.new.sink) in
    on_ok_weaker c.write_all-3.result
    (λ last.
    given_both _ _ _ _ _ (given_both _ _ _ _ _ c.in_ok-write_all.ensures.given c.in_ok-write_all-2.ensures.given)
    (subst Given (c.as_bytes.ensures.value ∙ c.advice.ensures) last))
    c.write_all-3.ensures.given
