-- A union, the one way or the other.
use Rattle.std.proofs.Common.{◌∙◌}
use Rattle.front_elaboration.specs.Mentioned.{IsUnion}
use Rattle.front_elaboration.proofs.SetsOfParts.{swapped, same_union}
use Rattle.front_elaboration.proofs.mentioned.join.Goals as goal
use Rattle.front_elaboration.proofs.mentioned.join.Goals.{then-len, else-len}

pub returns : goal.returns
returns c =
    let s = c.args.set.now in
    let t = c.args.other in
    let union : IsUnion c.if-len.set c.if-len.other c.append.new.self = c.in_ok-append.ensures.inserts_all.0 in
    elim c.if-len.branch [
      | then-len w ↦ swapped s t c.append.new.self (same_union t s c.if-len.set c.if-len.other c.append.new.self (w.set-is ∙ w.swap.ensures.x_after) (w.other-is ∙ w.swap.ensures.y_after) union)
      | else-len w ↦ same_union s t c.if-len.set c.if-len.other c.append.new.self w.set-is w.other-is union
    ]
