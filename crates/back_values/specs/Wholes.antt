-- The laws of variables, bindings, global variables and functions, wherever the forms stand.
use Rattle.std.specs.Prelude.{◌≡◌, ⊤, ℕ, List}
use Rattle.lang_meaning.specs.State.{DynamicContext}
use Rattle.flat_language.specs.declared.place.FlatCapture.{FlatCapture}
use Rattle.flat_language.specs.declared.place.VariablePlace.{VariablePlace}
use Rattle.flat_language.specs.FlatForm.{FlatForm, local, set_local, global, set_global, def_global, let_form, make_function, FlatBindings, prim, sited}
use Rattle.flat_language.specs.FlatState.{FlatState}
use Rattle.mid_code.specs.State.{MidState}
use Rattle.back_lowering.specs.Codes.{lower, by_value}
use Rattle.back_lowering.specs.declared.scope.Scope.{Scope}
use Rattle.back_relation.specs.Setting.{Setting}
use Rattle.back_relation.specs.Worlds.{World, Standing}
use Rattle.back_relation.specs.Activation.{FormScope}
use Rattle.back_relation.specs.Forms.{DoesForm, JudgesForm, context_at, code_at}
use Rattle.back_relation.specs.Placed.{IsPlaced}
use Rattle.back_relation.specs.RoutineClaims.{FailingWithDoes}
use Rattle.back_relation.specs.FormLaws.{AllDo}
use Rattle.back_relation.specs.Points.{Point}
use Rattle.back_values.specs.Bindings.{forms_of, HomesAsSlots}
use Rattle.back_values.specs.Variables.{CapturedByFunctions}

-- wherever code begins, captured parts stand under functions, and there are as many homes as slots
pub record PointsKnown (setting : Setting) : Type 0 where
  pub functions : (s : FormScope) (d m size : ℕ) (q : Point setting s d m size) → CapturedByFunctions q.z
  pub homes : (s : FormScope) (d m size : ℕ) → Point setting s d m size → HomesAsSlots s

-- all forms but two are judged by their values
abbrev pub IsByValue : FlatForm → Type 0
IsByValue (prim which fs) = ⊥
IsByValue (sited n f) = ⊥
IsByValue f = ⊤

module _ (setting : Setting) (k turns : ℕ) where
  abbrev pub Does : FlatForm → Type 0
  Does f = DoesForm setting turns (context_at setting k) (code_at setting k turns) f

  abbrev pub Judges : FlatForm → Type 0
  Judges f = JudgesForm setting turns (context_at setting k) (code_at setting k turns) f

  -- conditions with one slot are signalled as they are claimed to be, wherever code stands
  abbrev pub FailingWithClaims : Type 0
  FailingWithClaims =
      (rs valid : List Standing) (w : World) (around : DynamicContext) (z : FlatState) (y : MidState) → FailingWithDoes setting k turns rs valid w around z y

  abbrev pub LawOfWholeVariables : Type 0
  LawOfWholeVariables = (p : VariablePlace) → Does (local p)

  abbrev pub LawOfWholeSetting : Type 0
  LawOfWholeSetting = (p : VariablePlace) (f : FlatForm) → IsPlaced setting → Does f → Does (set_local p f)

  abbrev pub LawOfWholeBindings : Type 0
  LawOfWholeBindings =
      (bs : FlatBindings) (body : FlatForm) → IsPlaced setting → AllDo setting k turns (forms_of bs) → Does body → Does (let_form bs body)

  abbrev pub LawOfWholeFunctions : Type 0
  LawOfWholeFunctions = (p : ℕ) (parts : List FlatCapture) → IsPlaced setting → Does (make_function p parts)

  abbrev pub LawOfWholeGlobals : Type 0
  LawOfWholeGlobals = (name : ℕ) → IsPlaced setting → FailingWithClaims → Does (global name)

  abbrev pub LawOfWholeSettingGlobals : Type 0
  LawOfWholeSettingGlobals = (name : ℕ) (f : FlatForm) → IsPlaced setting → FailingWithClaims → Does f → Does (set_global name f)

  abbrev pub LawOfWholeDefinitions : Type 0
  LawOfWholeDefinitions = (name : ℕ) (f : FlatForm) → IsPlaced setting → Does f → Does (def_global name f)

  -- a form that is judged by its value is judged so, wherever it stands
  abbrev pub LawOfWholeJudging : Type 0
  LawOfWholeJudging =
      (f : FlatForm)
      → ((s : Scope) (d : ℕ)
      → lower setting.names setting.at setting.program s d f ≡ by_value d (lower setting.names setting.at setting.program s d f).value)
      → Does f → Judges f

  abbrev pub LawOfJudgedForms : Type 0
  LawOfJudgedForms = (f : FlatForm) → IsByValue f → Does f → Judges f
