-- A slot more was seen, which is right.
use Rattle.std.proofs.Common.{◌≡◌, ◌+◌, ◌++◌, ◌∷◌, ◌||◌, false, drop, length, sym, ap, subst, ◌∙◌, arith}
use Rattle.std.specs.Prelude.{slice_index_or}
use Rattle.lang_classes.specs.Given.{is_wrong}
use Rattle.lang_classes.specs.InheritedClasses.{inherited_names}
use Rattle.lang_classes.specs.InheritedSlots.{each_first}
use Rattle.front_profile.specs.ClassRows.{has_wrong_options, known_supers}
use Rattle.front_syntax.specs.ClassDefinitions.{view_slot, view_slots, view_supers}
use Rattle.front_drafts.specs.Views.{view_parts}
use Rattle.front_class_definitions.proofs.ClassSlots.{name_seen, rest_seen, slot_turn}
use Rattle.front_class_definitions.proofs.slots.slot_parts.Goals as goal

pub loop-slot-preserved : goal.loop-slot-preserved
loop-slot-preserved c =
    let x = c.slot-item.result in
    let inherited = inherited_names c.args.here.tables.now.classes (known_supers c.args.here.tables.now.classes.rows (view_supers c.args.supers.now)) in
    let same : c.as_slice-slot-items.result.now ≡ c.args.slots.now = c.as_slice-slot-items.ensures in
    let here : x ≡ slice_index_or c.args.slots.now c.loop-slot.slot-index x = subst (λ xs. x ≡ slice_index_or xs c.loop-slot.slot-index x) same c.slot-item.is in
    let now : drop c.loop-slot.slot-index c.args.slots.now ≡ x ∷ drop (c.loop-slot.slot-index + 1) c.args.slots.now =
    rest_seen c.args.slots.now c.loop-slot.slot-index x (omega (arith, ap length same)) here in
    let is_right : (has_wrong_options (view_slot x) || is_wrong x.name c.loop-slot.earlier c.loop-slot.names) ≡ false =
    sym c.is_wrong.ensures ∙ c.if-is_wrong.false in
    let right : (has_wrong_options (view_slot x) || is_wrong x.name c.loop-slot.earlier (each_first (inherited ++ c.loop-slot.earlier))) ≡ false =
    subst (λ ns. (has_wrong_options (view_slot x) || is_wrong x.name c.loop-slot.earlier ns) ≡ false) c.loop-slot.invariant.names is_right in
    let told = c.in_ok-push_right_slot.ensures in
    rw (told.parts, told.names, told.earlier)
    (record {
      names = name_seen inherited c.loop-slot.earlier c.loop-slot.names x.name c.loop-slot.invariant.names;
      seen = slot_turn inherited c.loop-slot.earlier (view_parts c.loop-slot.parts) (view_slot x) (view_slots (drop (c.loop-slot.slot-index + 1) c.args.slots.now))
          (view_slots (drop c.loop-slot.slot-index c.args.slots.now)) _ (ap view_slots now) right c.loop-slot.invariant.seen;
    })
