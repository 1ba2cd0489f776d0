-- The first of the conditions that holds decides.
use Rattle.std.proofs.Common.{sym, ◌∙◌}
use Rattle.front_drafts.specs.bridge.Choices.{second_of, third_of, last_of}
use Rattle.front_special_forms.proofs.calls.call_making.Goals as goal

pub returns-then-is_pair_call : goal.returns-then-is_pair_call
returns-then-is_pair_call c =
    second_of _ _ _ _ _ (sym c.is_value_call.ensures ∙ c.if-is_value_call.false) (sym c.is_pair_call.ensures ∙ c.if-is_pair_call.true)

pub returns-then-is_pair_call-2 : goal.returns-then-is_pair_call-2
returns-then-is_pair_call-2 c =
    third_of _ _ _ _ _ _ _ (sym c.is_value_call.ensures ∙ c.if-is_value_call.false) (sym c.is_pair_call.ensures ∙ c.if-is_pair_call.false)
    (sym c.is_pair_call-else-is_pair_call.ensures ∙ c.if-is_pair_call-2.true)

pub returns-else-is_pair_call-2 : goal.returns-else-is_pair_call-2
returns-else-is_pair_call-2 c =
    rw (c.named_making.ensures, c.primitive_called.ensures)
    (last_of _ _ _ _ _ _ _ (sym c.is_value_call.ensures ∙ c.if-is_value_call.false) (sym c.is_pair_call.ensures ∙ c.if-is_pair_call.false)
    (sym c.is_pair_call-else-is_pair_call.ensures ∙ c.if-is_pair_call-2.false))
