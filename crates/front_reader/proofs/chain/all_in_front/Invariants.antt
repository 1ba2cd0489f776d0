use Rattle.std.proofs.Common.{◌≡◌, reverse, vec_len}
use Rattle.base.specs.Data.{Item}
use Rattle.front_reader.specs.Chains.{chained}
use Rattle.front_reader.specs.Meanings.{joined}
use Rattle.front_reader.proofs.chain.all_in_front.Given as goal

abbrev pub invariant-loop-link : goal.invariant-loop-link
invariant-loop-link l = (d : Item) → joined l.fn.items (chained (reverse l.fn.links.items) d) ≡ joined l.items (chained (reverse l.links.items) d)

abbrev pub decreases-loop-link : goal.decreases-loop-link
decreases-loop-link l = vec_len l.links
