use Rattle.std.proofs.Common.{refl}
use Rattle.mid_taken.proofs.Found.{nil_told_at, char_told}
use Rattle.mid_taken.proofs.parts.immediate_part.Goals as goal

pub returns-then-word-eq-NIL : goal.returns-then-word-eq-NIL
returns-then-word-eq-NIL c = nil_told_at c.args.word c.if-word-eq-NIL.true

pub returns-else-word-eq-NIL : goal.returns-else-word-eq-NIL
returns-else-word-eq-NIL c = char_told c.args.word _ c.requires c.if-word-eq-NIL.false refl
