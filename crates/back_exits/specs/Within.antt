-- What routines do that other routines call: they have fewer words of the stack than a form gives, they are paid no more than they cost, and they
-- leave turns over for those that called them.
use Rattle.std.specs.Prelude.{◌≡◌, ℕ, ◌+◌, ◌≤◌, List, [], ◌∷◌, Some, slice_get}
use Rattle.lang_meaning.specs.State.{DynamicContext, Landing}
use Rattle.lang_meaning.specs.Values.{Value}
use Rattle.flat_language.specs.FlatState.{FlatState, FlatEvaluated, leaves}
use Rattle.mid_code.specs.State.{MidState}
use Rattle.back_lowering.specs.ControlWords.{landing_address}
use Rattle.back_lowering.specs.Routines.{transfer_routine}
use Rattle.back_relation.specs.Setting.{Setting}
use Rattle.back_relation.specs.Worlds.{World, LandsIn, Standing, record_of_exit}
use Rattle.back_relation.specs.StackWords.{HasWordAt}
use Rattle.back_relation.specs.Around.{CallBegins}
use Rattle.back_relation.specs.Ends.{LandingIs, CallEnds, landing_cost}
use Rattle.back_relation.specs.Forms.{code_at}
use Rattle.back_relation.specs.Procedures.{called}
use Rattle.back_relation.specs.RoutineClaims.{WordIs, FailingDoes}

-- how many words of the stack a transfer lays, what it is paid beside what its landing costs, and how many turns it leaves over
abbrev pub transfer_words : ℕ
transfer_words = 7

abbrev pub transfer_credit : ℕ
transfer_credit = 124

abbrev pub transfer_spare : ℕ
transfer_spare = 48

module _ (setting : Setting) (k turns : ℕ) (rs valid : List Standing) (w : World) (around : DynamicContext) (z : FlatState) (y : MidState) where
  -- a routine that has so many words of the stack does what the meaning comes to; so many turns are left over
  abbrev pub DoesWithin : (room spare credit routine : ℕ) → List ℕ → FlatEvaluated → Type 0
  DoesWithin room spare credit routine ws r =
      CallBegins setting rs valid room w around z y
      → CallEnds setting credit (turns + spare) rs valid w around z y r (called (code_at setting k turns) routine ws y)

  -- **the transfer to the record of a valid exit**
  abbrev pub TransferWithin : Type 0
  TransferWithin =
      (e : ℕ) (v : Value) (landing : Landing) (target : Standing) (word landing_word : ℕ)
      → record_of_exit e around.exits valid ≡ Some target → WordIs setting w word v → HasWordAt y landing_address landing_word
      → LandingIs setting landing_word landing → LandsIn (slice_get w.exit_forms e) landing
      → DoesWithin transfer_words transfer_spare (transfer_credit + landing_cost landing) (transfer_routine setting.at) (target.address ∷ word ∷ []) (leaves e v landing z)

-- a condition of a class without slots is signalled, wherever it is, with that around, and with so many turns
abbrev pub FailsAt : Setting → (k turns : ℕ) → DynamicContext → Type 0
FailsAt setting k turns around =
    (rs valid : List Standing) (w : World) (z : FlatState) (y : MidState) → FailingDoes setting k turns rs valid w around z y

-- or with fewer
abbrev pub FailsWithin : Setting → (k turns : ℕ) → DynamicContext → Type 0
FailsWithin setting k turns around = (t : ℕ) → t ≤ turns → FailsAt setting k t around
