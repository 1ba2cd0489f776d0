-- Blocks and catches, whose bodies do what they mean.
use Rattle.std.specs.Prelude.{ℕ, ◌+◌, ◌≤◌}
use Rattle.lang_meaning.specs.declared.scope.ExitForm.TheVariants.{Block}
use Rattle.flat_language.specs.FlatForm.{FlatForm, block, catch_form}
use Rattle.back_exits.specs.Known.{FormsKnown}
use Rattle.back_relation.specs.Points.{Here}
use Rattle.back_relation.specs.Setting.{Setting}
use Rattle.back_relation.specs.Placed.{IsPlaced}
use Rattle.back_relation.specs.Activation.{FormScope, with_exit}
use Rattle.back_relation.specs.Forms.{context_at, code_at, DoesForm}

-- a block, in one scope: its body has an exit more, and the registers and words of a record are left
abbrev pub LawOfBlocks : Type 0
LawOfBlocks =
    (setting : Setting) (s : FormScope) (d m n size k turns : ℕ) (body : FlatForm) → IsPlaced setting → FormsKnown s → d + 8 ≤ size → 8 + m ≤ n
    → Here setting (with_exit Block d (d + 1) s) (d + 6) m size k turns body → Here setting s d n size k turns (block body)

-- and wherever it stands
abbrev pub LawOfWholeBlocks : Type 0
LawOfWholeBlocks =
    (setting : Setting) (k turns : ℕ) (body : FlatForm) → IsPlaced setting → DoesForm setting turns (context_at setting k) (code_at setting k turns) body
    → DoesForm setting turns (context_at setting k) (code_at setting k turns) (block body)

-- a catch, in one scope: the exits that its body may name are as before
abbrev pub LawOfCatches : Type 0
LawOfCatches =
    (setting : Setting) (s : FormScope) (d m n size k turns : ℕ) (tag body : FlatForm) → IsPlaced setting → d + 8 ≤ size → 8 + m ≤ n
    → Here setting s d n size k turns tag → Here setting s (d + 6) m size k turns body → Here setting s d n size k turns (catch_form tag body)

-- and wherever it stands
abbrev pub LawOfWholeCatches : Type 0
LawOfWholeCatches =
    (setting : Setting) (k turns : ℕ) (tag body : FlatForm) → IsPlaced setting → DoesForm setting turns (context_at setting k) (code_at setting k turns) tag
    → DoesForm setting turns (context_at setting k) (code_at setting k turns) body
    → DoesForm setting turns (context_at setting k) (code_at setting k turns) (catch_form tag body)
