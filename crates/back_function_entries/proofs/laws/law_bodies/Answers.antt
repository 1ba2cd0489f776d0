use Rattle.back_function_entries.proofs.Bodies.{bodies_law}
use Rattle.back_function_entries.proofs.laws.law_bodies.Goals as goal

pub returns : goal.returns
returns c = bodies_law
