-- The laws of the routines of transfers.
use Rattle.std.specs.Prelude.{ℕ, List}
use Rattle.lang_meaning.specs.State.{DynamicContext}
use Rattle.flat_language.specs.FlatState.{FlatState}
use Rattle.mid_code.specs.State.{MidState}
use Rattle.back_relation.specs.Setting.{Setting}
use Rattle.back_relation.specs.Placed.{IsPlaced}
use Rattle.back_relation.specs.Worlds.{World, Standing}
use Rattle.back_relation.specs.RoutineClaims.{TransferDoes, LeaveDoes, ThrowDoes, ContinueDoes}
use Rattle.back_exits.specs.Within.{TransferWithin, FailsWithin}

-- a transfer to the record of a valid exit, as forms call it and as other routines do
pub record LawOfTransfers : Type 0 where
  pub does :
      (setting : Setting) (k turns : ℕ) (rs valid : List Standing) (w : World) (around : DynamicContext) (z : FlatState) (y : MidState) → IsPlaced setting
      → TransferDoes setting k turns rs valid w around z y
  pub within :
      (setting : Setting) (k turns : ℕ) (rs valid : List Standing) (w : World) (around : DynamicContext) (z : FlatState) (y : MidState) → IsPlaced setting
      → TransferWithin setting k turns rs valid w around z y

-- To an exit by its number, to a catch, and to the signal of a condition: where there is none, a control error is signalled, of which it is known
-- what it does.
pub record LawOfLeaving : Type 0 where
  pub by_number :
      (setting : Setting) (k turns : ℕ) (rs valid : List Standing) (w : World) (around : DynamicContext) (z : FlatState) (y : MidState) → IsPlaced setting → FailsWithin setting k turns around
      → LeaveDoes setting k turns rs valid w around z y
  pub to_catch :
      (setting : Setting) (k turns : ℕ) (rs valid : List Standing) (w : World) (around : DynamicContext) (z : FlatState) (y : MidState) → IsPlaced setting → FailsWithin setting k turns around
      → ThrowDoes setting k turns rs valid w around z y
  pub to_signal :
      (setting : Setting) (k turns : ℕ) (rs valid : List Standing) (w : World) (around : DynamicContext) (z : FlatState) (y : MidState) → IsPlaced setting → FailsWithin setting k turns around
      → ContinueDoes setting k turns rs valid w around z y
