use Rattle.lang_derived.proofs.Ends.{no_endless_steps, further_smaller, built_size, parts_smaller}
use Rattle.lang_derived.proofs.Stands.{forms_placed, other_names_plain}
use Rattle.lang_derived.proofs.laws.law_steps_end.Goals as goal

pub returns-clause-ends : goal.returns-clause-ends
returns-clause-ends c = no_endless_steps

pub returns-clause-falls : goal.returns-clause-falls
returns-clause-falls c = further_smaller

pub returns-clause-built : goal.returns-clause-built
returns-clause-built c = built_size

pub returns-clause-parts : goal.returns-clause-parts
returns-clause-parts c = parts_smaller

pub returns-clause-placed : goal.returns-clause-placed
returns-clause-placed c = forms_placed

pub returns-clause-others : goal.returns-clause-others
returns-clause-others c = other_names_plain
