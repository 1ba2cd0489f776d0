use Rattle.std.proofs.Common.{◌∙◌, arith}
use Rattle.std.proofs.lemmas.Grind.{get_or_default_zero}
use Rattle.rv_machine.proofs.Rows.{kept-pushed, row_means}
use Rattle.rv_machine.proofs.machine.contents.Contents.keep_next.Goals as goal

pub invariant_of-self : goal.invariant_of-self
invariant_of-self c =
    let arena = c.self.inside.arena.items in
    let word = c.index.ensures ∙ get_or_default_zero arena c.len-place.result c.index.result.now (omega arith) in (
      c.self.invariant.0,
      c.self.invariant.1,
      c.self.invariant.2,
      kept-pushed _ c.self.inside.rows.items c.push.new.self.items arena c.read_row-row.result c.len-place.result c.self.invariant.3 c.push.ensures.items
          (omega arith) (omega arith) (row_means _ _ _ _ _ c.read_row-row.ensures c.decode.ensures.read word),
    )
