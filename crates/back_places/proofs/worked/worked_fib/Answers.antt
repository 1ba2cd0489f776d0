use Rattle.back_places.proofs.Examples.{fibonacci_code}
use Rattle.back_places.proofs.worked.worked_fib.Goals as goal

pub returns : goal.returns
returns c = fibonacci_code
