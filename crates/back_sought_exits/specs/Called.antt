-- The two routines that ways to exits call do what is asked of them here, where the one that signals new conditions does.
use Rattle.std.specs.Prelude.{ℕ, ◌≤◌, List}
use Rattle.lang_meaning.specs.State.{DynamicContext}
use Rattle.flat_language.specs.declared.place.ExitPlace.{ExitPlace}
use Rattle.flat_language.specs.FlatForm.{FlatForm, return_from, go}
use Rattle.flat_language.specs.FlatState.{FlatState}
use Rattle.mid_code.specs.State.{MidState}
use Rattle.back_relation.specs.Setting.{Setting}
use Rattle.back_relation.specs.Placed.{IsPlaced}
use Rattle.back_relation.specs.Worlds.{World, Standing}
use Rattle.back_relation.specs.Forms.{context_at, code_at, DoesForm}
use Rattle.back_exits.specs.Cleanups.{TransferGoes}
use Rattle.back_relation.specs.RoutineClaims.{FailingDoes}
use Rattle.back_sought_exits.specs.Sought.{LeavingDoes}

-- the routine of transfers
abbrev pub LawOfTransferring : Type 0
LawOfTransferring = (setting : Setting) (k turns : ℕ) → IsPlaced setting → TransferGoes setting k turns

-- new conditions of classes without slots are signalled, wherever it is and whatever is around, with no more turns than that
abbrev pub FailsAnywhere : Setting → (k turns : ℕ) → Type 0
FailsAnywhere setting k turns =
    (t : ℕ) → t ≤ turns → (rs valid : List Standing) (w : World) (around : DynamicContext) (z : FlatState) (y : MidState) → FailingDoes setting k t rs valid w around z y

-- the routine that leaves by a number
abbrev pub LawOfSeeking : Type 0
LawOfSeeking = (setting : Setting) (k turns : ℕ) → IsPlaced setting → FailsAnywhere setting k turns → LeavingDoes setting k turns

-- so `return-from` and `go` do what they mean wherever they stand
abbrev pub LawOfReturns : Type 0
LawOfReturns =
    (setting : Setting) (k turns : ℕ) (p : ExitPlace) (f : FlatForm) → IsPlaced setting → FailsAnywhere setting k turns
    → DoesForm setting turns (context_at setting k) (code_at setting k turns) f → DoesForm setting turns (context_at setting k) (code_at setting k turns) (return_from p f)

abbrev pub LawOfGoes : Type 0
LawOfGoes =
    (setting : Setting) (k turns : ℕ) (p : ExitPlace) (segment : ℕ) → IsPlaced setting → FailsAnywhere setting k turns
    → DoesForm setting turns (context_at setting k) (code_at setting k turns) (go p segment)
