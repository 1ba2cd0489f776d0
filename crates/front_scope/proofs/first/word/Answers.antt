-- The table of names has the text, or is as before.
use Rattle.front_scope.proofs.Beginning.{looked_up}
use Rattle.front_scope.proofs.first.word.Goals as goal

pub returns-clause-names : goal.returns-clause-names
returns-clause-names c = looked_up c.intern.result _ _ c.args.text.now c.intern.ensures.after c.intern.ensures.err
