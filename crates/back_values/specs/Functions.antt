-- The law of functions that forms make.
use Rattle.std.specs.Prelude.{◌≡◌, ℕ, ◌≤◌, List, Some, slice_get}
use Rattle.base.specs.AllOf.{AllOf}
use Rattle.flat_language.specs.declared.place.FlatCapture.{FlatCapture}
use Rattle.flat_language.specs.FlatExits.{exits_of_parts}
use Rattle.flat_language.specs.FlatForm.{make_function}
use Rattle.flat_language.specs.FlatStanding.{FunctionStands}
use Rattle.mid_code.specs.MidCode.{code_of}
use Rattle.back_lowering.specs.Codes.{function_code}
use Rattle.back_lowering.specs.Registers.{of_code, enough_for}
use Rattle.back_relation.specs.Setting.{Setting}
use Rattle.back_relation.specs.Activation.{FormScope}
use Rattle.back_relation.specs.Placed.{IsPlaced, PartPlaced}
use Rattle.back_relation.specs.Points.{Point, Here}
use Rattle.back_values.specs.Variables.{CapturedByFunctions}

-- a function is made, with what it captures
abbrev pub LawOfFunctions : Type 0
LawOfFunctions =
    (setting : Setting) (s : FormScope) (d m size k turns first p : ℕ) (parts : List FlatCapture) → IsPlaced setting
    → FunctionStands setting.program.lambdas s.flat first p parts → slice_get setting.leads.functions p ≡ Some (exits_of_parts s.exits parts)
    → AllOf (PartPlaced setting s.keeps_method) parts → ((q : Point setting s d m size) → CapturedByFunctions q.z)
    → enough_for (of_code (code_of (function_code setting.names setting.at setting.program s.code d p parts))) ≤ size
    → Here setting s d m size k turns (make_function p parts)
