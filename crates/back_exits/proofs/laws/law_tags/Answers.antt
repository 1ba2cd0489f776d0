use Rattle.back_exits.proofs.Tags.{tags_law}
use Rattle.back_exits.proofs.laws.law_tags.Goals as goal

pub returns : goal.returns
returns c = tags_law
