-- The law of bindings of `let`.
use Rattle.std.specs.Prelude.{◌≡◌, ℕ, ◌+◌, ◌<◌, ◌≤◌, length}
use Rattle.flat_language.specs.FlatForm.{FlatForm, let_form, FlatForms, no_form, form_and, FlatBindings, no_binding, binding_and}
use Rattle.flat_language.specs.FlatMeaning.{binding_homes}
use Rattle.mid_code.specs.MidCode.{code_of}
use Rattle.back_lowering.specs.Leaves.{boxes_made}
use Rattle.back_lowering.specs.Registers.{of_code, enough_for}
use Rattle.back_lowering.specs.Scope.{registers_from}
use Rattle.back_relation.specs.Setting.{Setting}
use Rattle.back_relation.specs.Activation.{FormScope, with_slots}
use Rattle.back_relation.specs.Placed.{IsPlaced}
use Rattle.back_relation.specs.Points.{Here}
use Rattle.back_values.specs.Arguments.{ArgumentsHere}

-- the forms of bindings
abbrev pub forms_of : FlatBindings → FlatForms
forms_of no_binding = no_form
forms_of (binding_and h f bs) = form_and f (forms_of bs)

-- there are as many homes as slots
abbrev pub HomesAsSlots : FormScope → Type 0
HomesAsSlots s = length s.flat.homes ≡ length s.code.slots

-- the values come one after another, boxes are made, and the body runs in more slots, which are gone behind it
abbrev pub LawOfBindings : Type 0
LawOfBindings =
    (setting : Setting) (s : FormScope) (d m size k turns : ℕ) (bs : FlatBindings) (body : FlatForm) → IsPlaced setting → HomesAsSlots s
    → d + length (binding_homes bs) < size
    → enough_for (of_code (code_of (boxes_made (binding_homes bs) d (d + length (binding_homes bs))))) ≤ size
    → ArgumentsHere setting s d m size k turns (forms_of bs)
    → Here setting (with_slots (binding_homes bs) (registers_from d (length (binding_homes bs))) s) (d + length (binding_homes bs)) m size k turns body
    → Here setting s d m size k turns (let_form bs body)
