-- **The routine of transfers does what forms ask of it.**
use Rattle.back_exits.proofs.Combined.{transfers_law}
use Rattle.back_exits.specs.TransfersGoing.{LawOfTransferGoes}

pub transfer_goes : LawOfTransferGoes
transfer_goes setting k turns placed rs valid w around z y = transfers_law.does setting k turns rs valid w around z y placed
