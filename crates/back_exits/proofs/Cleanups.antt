-- Forms with a cleanup.
use Rattle.back_exits.proofs.Unwinds.{unwinds_law, whole_unwinds_law}
use Rattle.back_exits.specs.WholeCleanups.{LawOfUnwinding, LawOfWholeUnwinding}
use Rattle.back_exits.proofs.TransfersGoing.{transfer_goes}

pub unwinding_law : LawOfUnwinding
unwinding_law setting s d m n size k turns f cleanup placed there enough enough_words f_here cleanup_here =
    unwinds_law setting s d m n size k turns f cleanup placed there enough enough_words (transfer_goes setting k turns placed) f_here cleanup_here

pub whole_unwinding_law : LawOfWholeUnwinding
whole_unwinding_law setting k turns f cleanup placed f_does cleanup_does =
    whole_unwinds_law setting k turns f cleanup placed (transfer_goes setting k turns placed) f_does cleanup_does
