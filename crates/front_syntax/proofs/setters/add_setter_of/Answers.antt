-- A text that was added has a number from then on.
use Rattle.std.proofs.Common.{Some, ap, sym, subst, ◌∙◌}
use Rattle.base.specs.Names.{Extends, Extends-with_text}
use Rattle.front_syntax.proofs.AskedNames.{set_there, none_set}
use Rattle.front_syntax.proofs.setters.add_setter_of.Goals as goal

pub returns-in_ok-intern-in-Some-2-clause-given : goal.returns-in_ok-intern-in-Some-2-clause-given
returns-in_ok-intern-in-Some-2-clause-given c =
    let h = c.in_ok-intern-in-Some-2.ensures in
    set_there c.args.names.now c.intern.new.self c.args.datum.now c.in-Some.symbol c.as_slice.result.now _ c.requires (sym c.in-Some.ensures)
    (subst (Extends c.args.names.now) (sym h.after) (Extends-with_text c.args.names.now c.as_slice.result.now))
    (sym c.in_ok-text.ensures.made ∙ (c.in-Some-2.is ∙ ap (λ t. Some t) (sym c.as_slice.ensures)))
    h.name

pub returns-in-None-clause-given : goal.returns-in-None-clause-given
returns-in-None-clause-given c =
    none_set c.args.names.now c.args.datum.now c.in-Some.symbol c.requires (sym c.in-Some.ensures) (sym c.in_ok-text.ensures.made ∙ c.in-None.is)
