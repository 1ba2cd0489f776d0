-- The laws of the routines of transfers, put together.
use Rattle.back_exits.specs.Law.{LawOfTransfers, LawOfLeaving}
use Rattle.back_exits.proofs.Transfer.{transfer_does}
use Rattle.back_exits.proofs.Within.{transfer_routine_does}
use Rattle.back_exits.proofs.LeavingRoutine.{leave_does}
use Rattle.back_exits.proofs.Tagged.{throw_does, continue_does}

pub transfers_law : LawOfTransfers
transfers_law = record {
  does = λ setting k turns rs valid w around z y placed. transfer_routine_does setting placed k turns rs valid w around z y;
  within = λ setting k turns rs valid w around z y placed. transfer_does setting placed k turns rs valid w around z y;
}

pub leaving_law : LawOfLeaving
leaving_law = record {
  by_number = λ setting k turns rs valid w around z y placed fails. leave_does setting placed k turns rs valid w around fails z y;
  to_catch = λ setting k turns rs valid w around z y placed fails. throw_does setting placed k turns rs valid w around fails z y;
  to_signal = λ setting k turns rs valid w around z y placed fails. continue_does setting placed k turns rs valid w around fails z y;
}
