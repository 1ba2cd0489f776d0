-- The laws of combining.
use Rattle.back_relation.specs.Law.{LawOfAround, LawOfTwoParts, LawOfChoices}
use Rattle.back_relation.proofs.Worlds.{around_again}
use Rattle.back_relation.proofs.Starts.{two}
use Rattle.back_relation.proofs.Choices.{choice}

pub around_law : LawOfAround
around_law setting credit w w' rs valid around z z' y y' k a t =
    around_again setting k.later (record { blocks = a.blocks; size = k.same_size; stack = k.stack }) a.control k.end k.more_exits t

pub two_parts_law : LawOfTwoParts
two_parts_law setting c1 c2 credit d1 a r q f next l enough up x grown mid_grown h = two setting {c1 = c1} {c2 = c2} a d1 f next l enough up x grown mid_grown h

pub choices_law : LawOfChoices
choices_law setting c1 credit c a t first second v w b f g here there so enough f_up g_up yes_sim no_sim =
    choice setting {c1 = c1} c a t first second v w b f g here there so enough f_up g_up yes_sim no_sim
