use Rattle.back_generics.proofs.Next.{next_law}
use Rattle.back_generics.proofs.laws.law_next.Goals as goal

pub returns : goal.returns
returns c = next_law
