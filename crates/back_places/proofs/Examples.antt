-- The worked code computes.
use Rattle.std.proofs.Common.{refl}
use Rattle.back_places.specs.Worked.{FibonacciCode, RecordCode}

pub fibonacci_code : FibonacciCode
fibonacci_code = (refl, refl)

pub record_code : RecordCode
record_code = (refl, refl)
