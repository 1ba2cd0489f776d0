-- Those of the procedures, and behind them those of the main forms.
use Rattle.std.proofs.Common.{[], ◌++◌, sym, ap, ◌∙◌}
use Rattle.std.proofs.lemmas.List.{append-nil}
use Rattle.flat_conversion.specs.Binders.{binders_of_procedures, binders_of_mains}
use Rattle.flat_conversion.proofs.binders.binders_of_program.Goals as goal

pub returns : goal.returns
returns c =
    let rows = c.args.rows.now in
    sym (append-nil c.list_mains.new.made)
    ∙ c.in_ok-list_mains.ensures []
    ∙ c.in_ok-list_procedures.ensures (binders_of_mains rows.main [])
    ∙ ap (λ ys. ys ++ binders_of_procedures rows.procedures (binders_of_mains rows.main [])) c.new-made.ensures
