-- The words of the classes so far.
use Rattle.std.proofs.Common.{◌≡◌, ℕ, ◌*◌, ◌++◌, map, take, min}
use Rattle.back_laying.proofs.maps.push_map.Given as goal

abbrev pub invariant-loop-at : goal.invariant-loop-at
invariant-loop-at l =
    (tuples : ℕ) → l.stride ≡ min tuples 18446744073709551615
    → l.words ≡ l.fn.words ++ map (λ number. 4 * (number * tuples)) (take l.at l.numbers)
