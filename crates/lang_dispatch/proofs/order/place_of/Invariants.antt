-- Those passed so far, and the place in the rest.
use Rattle.std.proofs.Common.{◌≡◌, ◌+◌, ◌==◌, drop}
use Rattle.std.specs.List.{position_or_len}
use Rattle.lang_dispatch.proofs.order.place_of.Given as goal

abbrev pub invariant-loop-at : goal.invariant-loop-at
invariant-loop-at l = l.at + position_or_len (λ d. d == l.wanted) (drop l.at l.list) ≡ position_or_len (λ d. d == l.wanted) l.list
