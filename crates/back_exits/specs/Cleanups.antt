-- Forms with a cleanup, which runs however they are left.
use Rattle.std.specs.Prelude.{ℕ, ◌+◌, ◌≤◌, List}
use Rattle.lang_meaning.specs.State.{DynamicContext}
use Rattle.flat_language.specs.FlatForm.{FlatForm, unwind}
use Rattle.flat_language.specs.FlatState.{FlatState}
use Rattle.mid_code.specs.State.{MidState}
use Rattle.back_relation.specs.Points.{Here}
use Rattle.back_relation.specs.Setting.{Setting}
use Rattle.back_relation.specs.Placed.{IsPlaced}
use Rattle.back_relation.specs.Room.{routine_words}
use Rattle.back_relation.specs.Worlds.{World, Standing}
use Rattle.back_relation.specs.Activation.{FormScope, inside_cleanup, in_cleanup}
use Rattle.back_relation.specs.Forms.{context_at, code_at, DoesForm}
use Rattle.back_relation.specs.RoutineClaims.{TransferDoes}

module _ (setting : Setting) where
  -- the routine of transfers goes to the record of a valid exit, wherever it is called
  abbrev pub TransferGoes : (k turns : ℕ) → Type 0
  TransferGoes k turns =
      (rs valid : List Standing) (w : World) (around : DynamicContext) (z : FlatState) (y : MidState) → TransferDoes setting k turns rs valid w around z y

-- a form with a cleanup, in one scope: own exits may be left by a transfer at most in the form, and by a search in the cleanup
abbrev pub LawOfUnwinds : Type 0
LawOfUnwinds =
    (setting : Setting) (s : FormScope) (d m n size k turns : ℕ) (f cleanup : FlatForm) → IsPlaced setting → d + 8 ≤ size → 8 + m ≤ n → routine_words ≤ n
    → TransferGoes setting k turns → Here setting (inside_cleanup s) (d + 6) m size k turns f → Here setting (in_cleanup s) (d + 3) n size k turns cleanup
    → Here setting s d n size k turns (unwind f cleanup)

-- and wherever it stands
abbrev pub LawOfWholeUnwinds : Type 0
LawOfWholeUnwinds =
    (setting : Setting) (k turns : ℕ) (f cleanup : FlatForm) → IsPlaced setting → TransferGoes setting k turns
    → DoesForm setting turns (context_at setting k) (code_at setting k turns) f → DoesForm setting turns (context_at setting k) (code_at setting k turns) cleanup
    → DoesForm setting turns (context_at setting k) (code_at setting k turns) (unwind f cleanup)
