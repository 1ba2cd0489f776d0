-- What is shown of the forms that give dynamic variables other values, whose parts do what they mean.
use Rattle.std.specs.Prelude.{ℕ}
use Rattle.flat_language.specs.FlatForm.{FlatForm, set_dynamic, def_dynamic}
use Rattle.back_relation.specs.Setting.{Setting}
use Rattle.back_relation.specs.Placed.{IsPlaced}
use Rattle.back_conditions.specs.Forms.{Does, FailingWithClaims}

-- the innermost value of a dynamic variable is another one
abbrev pub LawOfSettingDynamics : Type 0
LawOfSettingDynamics =
    (setting : Setting) (k turns n : ℕ) (f : FlatForm) → IsPlaced setting → FailingWithClaims setting k turns → Does setting k turns f
    → Does setting k turns (set_dynamic n f)

-- the outermost one is
abbrev pub LawOfDynamicDefinitions : Type 0
LawOfDynamicDefinitions =
    (setting : Setting) (k turns n : ℕ) (f : FlatForm) → IsPlaced setting → Does setting k turns f → Does setting k turns (def_dynamic n f)
