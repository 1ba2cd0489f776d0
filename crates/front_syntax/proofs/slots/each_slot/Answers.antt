-- A slot more was found, or a datum that is none.
use Rattle.std.proofs.Common.{◌≡◌, ◌++◌, ◌∷◌, [], Some, None, ◌+◌, drop, sym, ap, ◌∙◌}
use Rattle.front_profile.specs.Shapes.{symbol_of}
use Rattle.front_profile.specs.ClassShapes.{slot_by}
use Rattle.front_syntax.specs.ClassDefinitions.{view_slot, view_slots, maybe_slot}
use Rattle.front_syntax.proofs.Shaping.{drop_seen}
use Rattle.front_syntax.proofs.Slotting.{one_slot_more, slot_turn, slot_none, slots_end}
use Rattle.front_syntax.proofs.slots.each_slot.Goals as goal

pub loop-item-preserved : goal.loop-item-preserved
loop-item-preserved c =
    let now : drop c.loop-item.item-index c.args.items.now ≡ c.item-item.result ∷ drop (c.loop-item.item-index + 1) c.args.items.now =
    drop_seen c.args.items.now c.loop-item.item-index c.item-item.result c.loop-item-test.true c.item-item.is in
    let found : slot_by c.args.names.now c.item-item.result (symbol_of c.item-item.result) ≡ Some (view_slot c.in-Some.slot) =
    sym c.in_ok-slot.ensures ∙ ap maybe_slot c.in-Some.is in
    let seen : view_slots c.push.new.self ≡ view_slots c.loop-item.slots ++ view_slot c.in-Some.slot ∷ [] =
    ap view_slots c.in_ok-push.ensures.ok ∙ one_slot_more c.loop-item.slots c.in-Some.slot in
    rw seen
    (slot_turn c.args.names.now c.args.items.now c.loop-item.item-index c.item-item.result (view_slot c.in-Some.slot) (view_slots c.loop-item.slots) _ now found c.loop-item.invariant)

pub returns-in_default : goal.returns-in_default
returns-in_default c =
    let now : drop c.loop-item.item-index c.args.items.now ≡ c.item-item.result ∷ drop (c.loop-item.item-index + 1) c.args.items.now =
    drop_seen c.args.items.now c.loop-item.item-index c.item-item.result c.loop-item-test.true c.item-item.is in
    let none : slot_by c.args.names.now c.item-item.result (symbol_of c.item-item.result) ≡ None =
    sym c.in_ok-slot.ensures ∙ ap maybe_slot c.in_default.is in
    slot_none c.args.names.now c.args.items.now c.loop-item.item-index c.item-item.result (view_slots c.loop-item.slots) _ now none c.loop-item.invariant

pub returns : goal.returns
returns c = slots_end c.args.names.now c.args.items.now c.loop-item.item-index (view_slots c.loop-item.slots) _ c.loop-item-test.false c.loop-item.invariant
