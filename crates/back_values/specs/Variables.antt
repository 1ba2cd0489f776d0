-- The laws of variables: where they are read and set.
use Rattle.std.specs.Prelude.{◌≡◌, ⊤, ℕ, ◌+◌, ◌≤◌, List, Some, slice_get}
use Rattle.lang_meaning.specs.Objects.{function}
use Rattle.flat_language.specs.declared.place.VariablePlace.{VariablePlace}
use Rattle.flat_language.specs.declared.place.VariablePlace.TheVariants.{Slot, SlotBox, CapturedValue, CapturedBox}
use Rattle.flat_language.specs.FlatForm.{FlatForm, local, set_local}
use Rattle.flat_language.specs.FlatStanding.{VariableStands, IsNoCapturedValue}
use Rattle.flat_language.specs.FlatState.{Captured, FlatState, under}
use Rattle.mid_code.specs.MidCode.{code_of}
use Rattle.back_lowering.specs.Leaves.{variable_from}
use Rattle.back_lowering.specs.Registers.{of_code, enough_for}
use Rattle.back_relation.specs.Setting.{Setting}
use Rattle.back_relation.specs.Activation.{FormScope}
use Rattle.back_relation.specs.Placed.{IsPlaced}
use Rattle.back_relation.specs.Points.{Point, Here}

-- captured parts stand under the numbers of functions
abbrev pub CapturedByFunctions : FlatState → Type 0
CapturedByFunctions z = (i : ℕ) (cs : List Captured) → under i z.captured ≡ Some cs → (p : ℕ) × (slice_get z.state.store i ≡ Some (function p))

-- where a place is captured, that is so at all points of a scope
abbrev pub KnownPlace : (setting : Setting) (s : FormScope) (d m size : ℕ) → VariablePlace → Type 0
KnownPlace setting s d m size (Slot n) = ⊤
KnownPlace setting s d m size (SlotBox n) = ⊤
KnownPlace setting s d m size (CapturedValue n) = (q : Point setting s d m size) → CapturedByFunctions q.z
KnownPlace setting s d m size (CapturedBox n) = (q : Point setting s d m size) → CapturedByFunctions q.z

-- a variable wherever it is: in a slot, in a box, or captured
abbrev pub LawOfVariables : Type 0
LawOfVariables =
    (setting : Setting) (s : FormScope) (d m size k turns : ℕ) (p : VariablePlace) → VariableStands s.flat p → KnownPlace setting s d m size p
    → Here setting s d m size k turns (local p)

-- it is set
abbrev pub LawOfSetting : Type 0
LawOfSetting =
    (setting : Setting) (s : FormScope) (d m size k turns : ℕ) (p : VariablePlace) (f : FlatForm) → IsPlaced setting → VariableStands s.flat p
    → IsNoCapturedValue p → KnownPlace setting s d m size p
    → enough_for (of_code (code_of (variable_from s.code d (d + 1) p))) ≤ size → Here setting s d m size k turns f
    → Here setting s d m size k turns (set_local p f)
