-- A union, the one way or the other.
use Rattle.std.proofs.Common.{◌∙◌}
use Rattle.flat_conversion.specs.Marks.{IsUnion}
use Rattle.flat_conversion.proofs.Marking.{swapped, same_union}
use Rattle.flat_conversion.proofs.marks.join.Goals as goal
use Rattle.flat_conversion.proofs.marks.join.Goals.{then-len, else-len}

pub returns : goal.returns
returns c =
    let s = c.args.set.now in
    let t = c.args.other in
    let union : IsUnion c.if-len.set c.if-len.other c.append.new.self = c.in_ok-append.ensures.inserts_all.0 in
    elim c.if-len.branch [
      | then-len w ↦ swapped s t c.append.new.self (same_union t s c.if-len.set c.if-len.other c.append.new.self (w.set-is ∙ w.swap.ensures.x_after) (w.other-is ∙ w.swap.ensures.y_after) union)
      | else-len w ↦ same_union s t c.if-len.set c.if-len.other c.append.new.self w.set-is w.other-is union
    ]
