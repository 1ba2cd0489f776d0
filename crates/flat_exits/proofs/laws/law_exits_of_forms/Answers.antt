use Rattle.flat_exits.proofs.Runs.{law_of_exits_of_forms}
use Rattle.flat_exits.proofs.laws.law_exits_of_forms.Goals as goal

pub returns : goal.returns
returns c = law_of_exits_of_forms
