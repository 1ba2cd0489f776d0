use Rattle.std.proofs.Common.{sym, ◌∙◌}
use Rattle.mid_taken.proofs.Found.{symbol_told_at}
use Rattle.mid_taken.proofs.parts.object_part.Goals as goal

pub returns-in-Some : goal.returns-in-Some
returns-in-Some c = symbol_told_at c.args.from.now c.args.word c.in-Some.symbol (sym c.find.ensures ∙ c.in-Some.is)
