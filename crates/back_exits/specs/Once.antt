-- **The cleanup of a form runs once, however the form is left**: where it comes to a value, and where a transfer leaves it, which goes on behind the
-- cleanup. Where words or levels are wanting inside the form, nothing goes on, and the cleanup does not run.
use Rattle.std.specs.Prelude.{◌≡◌, ℕ, ◌+◌, ◌≤◌}
use Rattle.lang_meaning.specs.State.{DynamicContext, Landing, exits_from, value, exit, full, more}
use Rattle.lang_meaning.specs.Values.{Value}
use Rattle.flat_language.specs.FlatForm.{FlatForm, unwind}
use Rattle.flat_language.specs.FlatMeaning.{mean, charged_for}
use Rattle.flat_language.specs.FlatSignals.{FlatContext}
use Rattle.flat_language.specs.FlatState.{FlatEnvironment, FlatState, FlatEvaluated, FlatAct}
use Rattle.back_relation.specs.Points.{Point, start_at, run, value_steps, Here}
use Rattle.back_relation.specs.Starts.{SparingAt}
use Rattle.back_relation.specs.Setting.{Setting}
use Rattle.back_relation.specs.Placed.{IsPlaced}
use Rattle.back_relation.specs.Room.{routine_words, words_for}
use Rattle.back_relation.specs.Activation.{FormScope, inside_cleanup, in_cleanup}
use Rattle.back_relation.specs.Forms.{FormStands, HasRegisters, DoesForm, context_at, code_at, value_code}

module _ (cleanup : FlatAct) (around : DynamicContext) (left whole : FlatEvaluated) where
  -- The cleanup ran where the form was left, with that around it, and never again: if it came to a value, the form is left as it was, behind the
  -- cleanup; else what the cleanup came to is what the whole form comes to.
  pub record RanOnce (within : DynamicContext) : Type 0 where
    pub ran : FlatEvaluated
    pub ran_there : ran ≡ cleanup within left.state
    pub goes_on : (v : Value) → ran.outcome ≡ value v → whole ≡ record { outcome = left.outcome; state = ran.state }
    pub is_replaced : ((v : Value) → ran.outcome ≡ value v → ⊥) → whole ≡ ran

  -- How the form was left: by its value, with all around that was around it; by a transfer, with the exits from its own on; or not at all.
  pub data CleanedOnce : Type 0 where
    by_value : (v : Value) → left.outcome ≡ value v → RanOnce around → CleanedOnce
    by_transfer :
        (e : ℕ) (v : Value) (landing : Landing) → left.outcome ≡ exit e v landing → RanOnce (record around { exits = exits_from e around.exits }) → CleanedOnce
    without_words : (asked left_then : ℕ) → left.outcome ≡ full asked left_then → whole ≡ left → CleanedOnce
    without_levels : left.outcome ≡ more → whole ≡ left → CleanedOnce

-- in the meaning
abbrev pub LawOfCleanedOnce : Type 0
LawOfCleanedOnce =
    (context : FlatContext) (f cleanup : FlatForm) (env : FlatEnvironment) (around : DynamicContext) (z : FlatState)
    → CleanedOnce (λ within after. mean context cleanup env within after) around (mean context f env around (charged_for (unwind f cleanup) z))
    (mean context (unwind f cleanup) env around z)

-- the code does that
module _ (setting : Setting) (s : FormScope) (d n size k turns : ℕ) (f cleanup : FlatForm) where
  pub record Unwound (p : Point setting s d n size) : Type 0 where
    pub left : FlatEvaluated
    pub left_there : left ≡ mean (context_at setting k) f p.env p.around (charged_for (unwind f cleanup) p.z)
    pub whole : FlatEvaluated
    pub once : CleanedOnce (λ within after. mean (context_at setting k) cleanup p.env within after) p.around left whole
    pub does : SparingAt setting (start_at setting s d n size turns p) whole (run setting s d n size k turns (value_steps setting s d n size k turns (unwind f cleanup)) p.regs p.y)

abbrev pub LawOfUnwound : Type 0
LawOfUnwound =
    (setting : Setting) (s : FormScope) (d m n size k turns : ℕ) (f cleanup : FlatForm) → IsPlaced setting → d + 8 ≤ size → 8 + m ≤ n → routine_words ≤ n
    → Here setting (inside_cleanup s) (d + 6) m size k turns f → Here setting (in_cleanup s) (d + 3) n size k turns cleanup
    → (p : Point setting s d n size) → Unwound setting s d n size k turns f cleanup p

-- wherever the form stands
abbrev pub LawOfWholeUnwound : Type 0
LawOfWholeUnwound =
    (setting : Setting) (k turns : ℕ) (f cleanup : FlatForm) → IsPlaced setting → DoesForm setting turns (context_at setting k) (code_at setting k turns) f
    → DoesForm setting turns (context_at setting k) (code_at setting k turns) cleanup → (s : FormScope) (d n size first : ℕ) (p : Point setting s d n size)
    → FormStands setting s first (unwind f cleanup) → HasRegisters (value_code setting s d (unwind f cleanup)) p.regs → words_for setting.names setting.program (unwind f cleanup) ≤ n
    → Unwound setting s d n size k turns f cleanup p
