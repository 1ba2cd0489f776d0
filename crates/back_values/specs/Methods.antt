-- The laws of what is known of the method around: its call in registers, and whether a further method is left.
use Rattle.std.specs.Prelude.{◌≡◌, ℕ, ◌<◌, ◌≤◌, false, length, slice_get, Some}
use Rattle.flat_language.specs.declared.place.MethodPlace.{MethodPlace}
use Rattle.flat_language.specs.FlatForm.{has_next}
use Rattle.flat_language.specs.FlatStanding.{MethodStands}
use Rattle.flat_language.specs.FlatState.{method_of}
use Rattle.mid_code.specs.Meaning.{exec}
use Rattle.mid_code.specs.MidCode.{code_of}
use Rattle.mid_code.specs.State.{Registers, falls, ends}
use Rattle.mid_code.specs.State.{charged as mid_charged}
use Rattle.back_lowering.specs.Codes.{method_into, has_next_code}
use Rattle.back_lowering.specs.Registers.{of_code, enough_for}
use Rattle.back_relation.specs.Setting.{Setting}
use Rattle.back_relation.specs.Activation.{FormScope, MethodHeld, MethodThere}
use Rattle.back_relation.specs.Forms.{code_at}
use Rattle.back_relation.specs.Points.{Point, Here}
use Rattle.back_values.specs.Wholes.{Does}
use Rattle.back_values.specs.Variables.{CapturedByFunctions}

-- the call of a method is in three registers from d on; those in front are as they were
pub record MethodLoaded (setting : Setting) (s : FormScope) (d m size k turns : ℕ) (q : Point setting s d m size) (p : MethodPlace) : Type 0 where
  pub after : Registers
  pub count : length after ≡ size
  pub below : (i : ℕ) → i < d → slice_get after i ≡ slice_get q.regs i
  pub held : MethodHeld setting q.w q.y.arena false after (Some d) (method_of p q.env)
  pub stands : MethodThere setting q.w q.y.arena after (Some d) (method_of p q.env)
  pub cost : ℕ
  pub within : cost ≤ 100
  pub run :
      exec (code_at setting k turns) (code_of (method_into setting.names setting.at setting.program s.code d p)) q.regs q.y
      ≡ ends falls after (mid_charged cost q.y)

-- it comes there from the activation, or from what the function captured
abbrev pub LawOfMethodPlaces : Type 0
LawOfMethodPlaces =
    (setting : Setting) (s : FormScope) (d m size k turns : ℕ) (p : MethodPlace) (q : Point setting s d m size) → MethodStands s.flat p → CapturedByFunctions q.z
    → enough_for (of_code (code_of (method_into setting.names setting.at setting.program s.code d p))) ≤ size → MethodLoaded setting s d m size k turns q p

-- whether a method is left
abbrev pub LawOfNextMethods : Type 0
LawOfNextMethods =
    (setting : Setting) (s : FormScope) (d m size k turns : ℕ) (p : MethodPlace) → MethodStands s.flat p → ((q : Point setting s d m size) → CapturedByFunctions q.z)
    → enough_for (of_code (code_of (has_next_code setting.names setting.at setting.program s.code d p))) ≤ size → Here setting s d m size k turns (has_next p)

-- and wherever the form stands
abbrev pub LawOfWholeNextMethods : Type 0
LawOfWholeNextMethods = (setting : Setting) (k turns : ℕ) (p : MethodPlace) → Does setting k turns (has_next p)
