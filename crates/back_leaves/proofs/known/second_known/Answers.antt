-- By whether there is a second argument.
use Rattle.std.proofs.Common.{sym, ◌∙◌}
use Rattle.back_leaves.proofs.Asked.{second_there, second_wanting}
use Rattle.back_leaves.proofs.known.second_known.Goals as goal

pub returns-in-Some : goal.returns-in-Some
returns-in-Some c = c.known_integer.ensures ∙ sym (second_there c.args.at.now c.args.literals.now c.args.list.now c.in-Some.form.now c.in-Some.ensures)

pub returns-in-None : goal.returns-in-None
returns-in-None c = sym (second_wanting c.args.at.now c.args.literals.now c.args.list.now c.in-None.ensures)
