-- The option decides which name is asked for.
use Rattle.std.proofs.Common.{sym, ◌∙◌}
use Rattle.front_syntax.proofs.AskedNames.{on_ok, asked_there, accessor_there, neither_there}
use Rattle.front_syntax.proofs.setters.add_by_option.Goals as goal

pub returns-then-asks_for_name-clause-given : goal.returns-then-asks_for_name-clause-given
returns-then-asks_for_name-clause-given c =
    on_ok _ _ _
    (asked_there c.args.names.now c.add_name.new.names c.args.option.now c.args.value.now c.requires.option c.add_name.ensures.names
    (sym c.asks_for_name.ensures ∙ c.if-asks_for_name.true))
    c.add_name.ensures.given

pub returns-then-is_word-clause-given : goal.returns-then-is_word-clause-given
returns-then-is_word-clause-given c =
    on_ok _ _ _
    (accessor_there c.args.names.now c.add_setter_of.new.names c.args.option.now c.args.value.now c.requires.option c.add_setter_of.ensures.names
    (sym c.asks_for_name.ensures ∙ c.if-asks_for_name.false))
    c.add_setter_of.ensures.given

pub returns-else-is_word-clause-given : goal.returns-else-is_word-clause-given
returns-else-is_word-clause-given c =
    neither_there c.args.names.now c.args.option.now c.args.value.now c.requires.option (sym c.asks_for_name.ensures ∙ c.if-asks_for_name.false)
    (sym c.is_word.ensures ∙ c.if-is_word.false)
