use Rattle.back_steps.proofs.Entries.{law_of_entries}
use Rattle.back_steps.proofs.laws.law_entries.Goals as goal

pub returns : goal.returns
returns c = law_of_entries
