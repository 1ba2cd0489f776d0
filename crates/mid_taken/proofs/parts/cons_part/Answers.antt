use Rattle.std.proofs.Common.{◌/◌, refl}
use Rattle.mid_taken.proofs.Found.{cons_told_at}
use Rattle.mid_taken.proofs.parts.cons_part.Goals as goal

pub returns : goal.returns
returns c =
    cons_told_at c.args.from.now c.args.word (c.args.word / 4) c.word_in.result c.word_in-2.result c.requires refl c.word_in.ensures c.word_in-2.ensures
