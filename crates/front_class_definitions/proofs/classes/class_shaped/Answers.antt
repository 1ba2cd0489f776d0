-- All lists are allowed.
use Rattle.std.proofs.Common.{◌≡◌, Some, sym, ap, ◌∙◌, subst}
use Rattle.lang_derived.specs.Asked.{list_items}
use Rattle.front_profile.specs.Nodes.{Node}
use Rattle.front_profile.specs.ClassShapes.{supers_in, slots_in, class_options}
use Rattle.front_class_definitions.specs.Classes.{maybe_written, written_as}
use Rattle.front_drafts.specs.Drafts.{around, Draws}
use Rattle.front_class_definitions.proofs.ClassDefining.{shaped}
use Rattle.front_class_definitions.proofs.classes.class_shaped.Goals as goal

pub returns : goal.returns
returns c =
    let here = c.args.here in
    let names = c.args.names.now in
    let supers = supers_in (list_items c.args.supers.now) in
    let slots = slots_in names (list_items c.args.slots.now) in
    let options = class_options names c.args.options.now in
    let told : maybe_written (Some c.in-Some.written) ≡ written_as supers slots options =
    ap maybe_written (sym c.in-Some.is) ∙ c.in_ok-written.ensures in
    subst (λ (node : Node). Draws here node c.class_of-draft.result)
    (shaped names (around here) here.tables.now here.place c.args.datum.now c.args.name _ supers slots options told)
    c.class_of-draft.ensures
