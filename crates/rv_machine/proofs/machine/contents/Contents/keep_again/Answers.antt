use Rattle.std.proofs.Common.{◌∙◌, arith}
use Rattle.std.proofs.lemmas.Grind.{get_or_default_zero}
use Rattle.rv_machine.proofs.Rows.{kept-set, same_words, row_means}
use Rattle.rv_machine.proofs.machine.contents.Contents.keep_again.Goals as goal

pub invariant_of-self : goal.invariant_of-self
invariant_of-self c =
    let word = c.index.ensures ∙ get_or_default_zero c.self.inside.arena.items c.args.place c.index.result.now (omega arith) in (
      c.self.invariant.0,
      c.self.invariant.1,
      c.self.invariant.2,
      kept-set c.self.inside.rows.items c.self.inside.arena.items c.self.inside.arena.items c.args.place c.read_row.result c.self.invariant.3 (omega arith)
          (same_words c.args.place c.self.inside.arena.items) (row_means _ _ _ _ _ c.read_row.ensures c.decode.ensures.read word),
    )
