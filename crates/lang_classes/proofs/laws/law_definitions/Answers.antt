-- The law is the lemma.
use Rattle.lang_classes.proofs.Keeping.{hierarchies_kept, names_kept}
use Rattle.lang_classes.proofs.laws.law_definitions.Goals as goal

pub returns-clause-hierarchies : goal.returns-clause-hierarchies
returns-clause-hierarchies c = hierarchies_kept

pub returns-clause-names : goal.returns-clause-names
returns-clause-names c = names_kept
