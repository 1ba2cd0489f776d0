-- The home of the variable at that place.
use Rattle.std.proofs.Common.{ap, sym, ◌∙◌, refl}
use Rattle.std.specs.Prelude.{option_map}
use Rattle.std.proofs.lemmas.Option.{slice_get_past}
use Rattle.flat_conversion.specs.declared.variables.NewVariable.{NewVariable}
use Rattle.flat_conversion.specs.NewVariables.{homes_of_new}
use Rattle.flat_conversion.proofs.Turns.{item}
use Rattle.flat_conversion.proofs.variables.home_at.Goals as goal

pub returns-in-None : goal.returns-in-None
returns-in-None c =
    sym (item homes_of_new (λ (x : NewVariable). x.home) refl (λ x xs. refl) c.args.news.now c.args.at
    ∙ ap (option_map (λ (x : NewVariable). x.home)) (slice_get_past c.args.news.now c.args.at c.in-None.ensures))

pub returns-in-Some : goal.returns-in-Some
returns-in-Some c =
    sym (item homes_of_new (λ (x : NewVariable). x.home) refl (λ x xs. refl) c.args.news.now c.args.at
    ∙ ap (option_map (λ (x : NewVariable). x.home)) c.in-Some.ensures)
