-- Forms with a cleanup, whose code does what they mean where the forms inside do: nothing is asked of a routine.
use Rattle.std.specs.Prelude.{ℕ, ◌+◌, ◌≤◌}
use Rattle.flat_language.specs.FlatForm.{FlatForm, unwind}
use Rattle.back_relation.specs.Points.{Here}
use Rattle.back_relation.specs.Setting.{Setting}
use Rattle.back_relation.specs.Placed.{IsPlaced}
use Rattle.back_relation.specs.Room.{routine_words}
use Rattle.back_relation.specs.Activation.{FormScope, inside_cleanup, in_cleanup}
use Rattle.back_relation.specs.Forms.{context_at, code_at, DoesForm}

-- in one scope
abbrev pub LawOfUnwinding : Type 0
LawOfUnwinding =
    (setting : Setting) (s : FormScope) (d m n size k turns : ℕ) (f cleanup : FlatForm) → IsPlaced setting → d + 8 ≤ size → 8 + m ≤ n → routine_words ≤ n
    → Here setting (inside_cleanup s) (d + 6) m size k turns f → Here setting (in_cleanup s) (d + 3) n size k turns cleanup → Here setting s d n size k turns (unwind f cleanup)

-- wherever the form stands
abbrev pub LawOfWholeUnwinding : Type 0
LawOfWholeUnwinding =
    (setting : Setting) (k turns : ℕ) (f cleanup : FlatForm) → IsPlaced setting → DoesForm setting turns (context_at setting k) (code_at setting k turns) f
    → DoesForm setting turns (context_at setting k) (code_at setting k turns) cleanup → DoesForm setting turns (context_at setting k) (code_at setting k turns) (unwind f cleanup)
