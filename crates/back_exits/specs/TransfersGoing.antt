-- What forms with a cleanup and ways to own exits ask of the routine of transfers.
use Rattle.std.specs.Prelude.{ℕ}
use Rattle.back_relation.specs.Setting.{Setting}
use Rattle.back_relation.specs.Placed.{IsPlaced}
use Rattle.back_exits.specs.Cleanups.{TransferGoes}

-- the routine goes to the record of a valid exit, wherever it is called
abbrev pub LawOfTransferGoes : Type 0
LawOfTransferGoes = (setting : Setting) (k turns : ℕ) → IsPlaced setting → TransferGoes setting k turns
