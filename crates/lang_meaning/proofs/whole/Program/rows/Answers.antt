-- The invariant, seen from outside.
use Rattle.std.proofs.Common.{◌≡◌, true, subst}
use Rattle.lang_meaning.specs.Facts.{is_whole}
use Rattle.lang_meaning.proofs.whole.Program.rows.Goals as goal

pub returns-clause-whole : goal.returns-clause-whole
returns-clause-whole c = subst (λ rows. is_whole rows ≡ true) c.self.view_is c.self.invariant
