-- The laws of tagbodies, from what is shown of their segments at this level, with all turns that may be left of it, and of their turns one
-- level below. A word counts the segments.
use Rattle.std.specs.Prelude.{◌≡◌, ℕ, suc, ◌+◌, ◌^◌, ◌<◌, ◌≤◌}
use Rattle.flat_language.specs.FlatForm.{FlatForms, tagbody}
use Rattle.flat_language.specs.FlatNodes.{count_forms}
use Rattle.back_relation.specs.Setting.{Setting}
use Rattle.back_relation.specs.Placed.{IsPlaced}
use Rattle.back_relation.specs.Activation.{FormScope}
use Rattle.back_relation.specs.Forms.{DoesForm, context_at, code_at}
use Rattle.back_relation.specs.FormLaws.{AllDo}
use Rattle.back_relation.specs.Points.{Here, AllHere}
use Rattle.back_exits.specs.Known.{FormsKnown}
use Rattle.back_exits.specs.Turns.{inside_scope, TurnsHere, TurnsDo}

-- the segments do what they mean in one scope, inside the record
abbrev pub SegmentsHere : Setting → (s : FormScope) (d m size k turns : ℕ) → FlatForms → Type 0
SegmentsHere setting s d m size k turns all =
    (t : ℕ) → t ≤ turns → AllHere setting (inside_scope setting s d all) (d + 7) m size k t all

-- the turns of a tagbody, in one scope
abbrev pub LawOfTurns : Type 0
LawOfTurns =
    (setting : Setting) (s : FormScope) (d m n size k turns : ℕ) (all : FlatForms) → IsPlaced setting → FormsKnown s → d + 9 ≤ size → 8 + m ≤ n
    → count_forms all < 2 ^ 32 → turns ≤ setting.turns_each → SegmentsHere setting s d m size k turns all
    → ((j : ℕ) → k ≡ suc j → TurnsHere setting s d n size j setting.turns_each all) → TurnsHere setting s d n size k turns all

-- a tagbody, in one scope
abbrev pub LawOfTagbodies : Type 0
LawOfTagbodies =
    (setting : Setting) (s : FormScope) (d m n size k turns : ℕ) (all : FlatForms) → IsPlaced setting → FormsKnown s → d + 9 ≤ size → 8 + m ≤ n
    → 1 ≤ count_forms all → count_forms all < 2 ^ 32 → turns ≤ setting.turns_each → SegmentsHere setting s d m size k turns all
    → ((j : ℕ) → k ≡ suc j → TurnsHere setting s d n size j setting.turns_each all) → Here setting s d n size k turns (tagbody all)

-- the turns of a tagbody, wherever it stands
abbrev pub LawOfWholeTurns : Type 0
LawOfWholeTurns =
    (setting : Setting) (k turns : ℕ) (all : FlatForms) → IsPlaced setting → turns ≤ setting.turns_each
    → ((t : ℕ) → t ≤ turns → AllDo setting k t all) → ((j : ℕ) → k ≡ suc j → TurnsDo setting j setting.turns_each all) → TurnsDo setting k turns all

-- **a tagbody**, wherever it stands
abbrev pub LawOfWholeTagbodies : Type 0
LawOfWholeTagbodies =
    (setting : Setting) (k turns : ℕ) (all : FlatForms) → IsPlaced setting → turns ≤ setting.turns_each
    → ((t : ℕ) → t ≤ turns → AllDo setting k t all) → ((j : ℕ) → k ≡ suc j → TurnsDo setting j setting.turns_each all)
    → DoesForm setting turns (context_at setting k) (code_at setting k turns) (tagbody all)

-- and from what is shown of their segments at all levels down to the last one
abbrev pub LawOfTagbodiesAtLevels : Type 0
LawOfTagbodiesAtLevels =
    (setting : Setting) (k turns : ℕ) (all : FlatForms) → IsPlaced setting → turns ≤ setting.turns_each
    → ((j t : ℕ) → j ≤ k → t ≤ setting.turns_each → AllDo setting j t all)
    → DoesForm setting turns (context_at setting k) (code_at setting k turns) (tagbody all)
