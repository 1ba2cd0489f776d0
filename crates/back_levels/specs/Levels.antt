-- **What is shown at each level**: of all forms, and of all routines.
use Rattle.std.specs.Prelude.{◌≡◌, ℕ, ◌<◌, ◌≤◌, List}
use Rattle.lang_meaning.specs.State.{DynamicContext}
use Rattle.flat_language.specs.FlatForm.{FlatForm}
use Rattle.flat_language.specs.FlatState.{FlatState}
use Rattle.mid_code.specs.State.{MidState}
use Rattle.back_relation.specs.Setting.{Setting}
use Rattle.back_relation.specs.Worlds.{World, Standing}
use Rattle.back_relation.specs.Right.{ProgramIsRight}
use Rattle.back_relation.specs.Forms.{FormDoes}
use Rattle.back_relation.specs.RoutineClaims.{FunctionDoes, ApplyDoes, GenericDoes, NextDoes}
use Rattle.back_claims.specs.Program.{LoweringIsRight}
use Rattle.back_conditions.specs.Law.{Errors}

-- all forms do what they mean at k levels, with as many turns as a level has, or fewer
abbrev pub FormsDo : Setting → (k : ℕ) → Type 0
FormsDo setting k = (turns : ℕ) → turns ≤ setting.turns_each → (f : FlatForm) → FormDoes setting k turns f

-- the routines that forms call do what is claimed of them at k levels with so many turns, wherever they are called
pub record RoutinesDo (setting : Setting) (k turns : ℕ) : Type 0 where
  pub errors :
      (rs valid : List Standing) (w : World) (around : DynamicContext) (z : FlatState) (y : MidState) → Errors setting k turns rs valid w around z y
  pub function :
      (rs valid : List Standing) (w : World) (around : DynamicContext) (z : FlatState) (y : MidState) → FunctionDoes setting k turns rs valid w around z y
  pub generic :
      (rs valid : List Standing) (w : World) (around : DynamicContext) (z : FlatState) (y : MidState) → GenericDoes setting k turns rs valid w around z y
  pub next :
      (rs valid : List Standing) (w : World) (around : DynamicContext) (z : FlatState) (y : MidState) → NextDoes setting k turns rs valid w around z y
  pub apply :
      (rs valid : List Standing) (w : World) (around : DynamicContext) (z : FlatState) (y : MidState) → ApplyDoes setting k turns rs valid w around z y

-- **all forms at a level**, where the routines do there, and all forms at fewer levels
abbrev pub LawOfForms : Type 0
LawOfForms =
    (setting : Setting) (k : ℕ) → ProgramIsRight setting → ((turns : ℕ) → turns ≤ setting.turns_each → RoutinesDo setting k turns)
    → ((j : ℕ) → j < k → FormsDo setting j) → FormsDo setting k

-- **all routines at a level**, where all forms do at fewer levels
abbrev pub LawOfRoutines : Type 0
LawOfRoutines =
    (setting : Setting) (k : ℕ) → ProgramIsRight setting → ((j : ℕ) → j < k → FormsDo setting j) → (turns : ℕ) → turns ≤ setting.turns_each
    → RoutinesDo setting k turns

-- **all forms at all levels**
abbrev pub LawOfLevels : Type 0
LawOfLevels = (setting : Setting) → ProgramIsRight setting → (k : ℕ) → FormsDo setting k

-- **and so lowering is right**: the claim on whole programs, with no premise
abbrev pub LawOfLowering : Type 0
LawOfLowering = LoweringIsRight
