-- The head of a form decides what is asked for.
use Rattle.std.proofs.Common.{Some, sym, ap, ◌∙◌}
use Rattle.front_syntax.specs.Lacking.{defines_class, defines_methods}
use Rattle.front_syntax.proofs.AskedNames.{on_ok, behind_good, class_form_there, method_form_there, other_form_there}
use Rattle.front_syntax.proofs.setters.add_setters.Goals as goal

pub add_by_class-requires : goal.add_by_class-requires
add_by_class-requires c = behind_good _ c.args.datum.now (Some c.in-Some.items.now) c.requires c.in-Some.ensures

pub add_first-requires : goal.add_first-requires
add_first-requires c = behind_good _ c.args.datum.now (Some c.in-Some.items.now) c.requires c.in-Some.ensures

pub returns-then-defines_class-clause-given : goal.returns-then-defines_class-clause-given
returns-then-defines_class-clause-given c =
    on_ok _ _ _
    (class_form_there c.args.names.now c.add_by_class.new.names c.args.datum.now c.in-Some.items.now c.requires c.add_by_class.ensures.names (sym c.in-Some.ensures)
    (ap defines_class (sym c.special_in-special.ensures) ∙ (sym c.defines_class.ensures ∙ c.if-defines_class.true)))
    c.add_by_class.ensures.given

pub returns-then-defines_methods-clause-given : goal.returns-then-defines_methods-clause-given
returns-then-defines_methods-clause-given c =
    on_ok _ _ _
    (method_form_there c.args.names.now c.add_first.new.names c.args.datum.now c.in-Some.items.now c.requires c.add_first.ensures.names (sym c.in-Some.ensures)
    (ap defines_class (sym c.special_in-special.ensures) ∙ (sym c.defines_class.ensures ∙ c.if-defines_class.false)))
    c.add_first.ensures.given

pub returns-else-defines_methods-clause-given : goal.returns-else-defines_methods-clause-given
returns-else-defines_methods-clause-given c =
    other_form_there c.args.names.now c.args.datum.now c.in-Some.items.now c.requires (sym c.in-Some.ensures)
    (ap defines_class (sym c.special_in-special.ensures) ∙ (sym c.defines_class.ensures ∙ c.if-defines_class.false))
    (ap defines_methods (sym c.special_in-special.ensures) ∙ (sym c.defines_methods.ensures ∙ c.if-defines_methods.false))
