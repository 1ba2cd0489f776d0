-- The lowest reason decides.
use Rattle.std.proofs.Common.{◌≡◌, ◌+◌, Some, true, false, sym, ap, ◌∙◌, nat_le}
use Rattle.std.specs.List.{list_any}
use Rattle.base.specs.declared.reason.Reason.TheVariants.{LeftOut, DepthLimit}
use Rattle.front_profile.specs.Nodes.{offends}
use Rattle.front_profile.specs.ClassShapes.{is_of_left_out}
use Rattle.front_profile.specs.ClassRows.{class_made, uses}
use Rattle.front_syntax.specs.ClassDefinitions.{view_supers, view_slots, view_class_options}
use Rattle.front_class_definitions.specs.Classes.{class_offence}
use Rattle.front_drafts.specs.Drafts.{around, shows}
use Rattle.front_drafts.specs.bridge.Choices.{second_of}
use Rattle.front_class_definitions.proofs.ClassDefining.{lowest}
use Rattle.front_class_definitions.proofs.classes.class_checked.Goals as goal

pub returns-in-Some : goal.returns-in-Some
returns-in-Some c =
    let here = c.args.here in
    let tables = here.tables.now in
    let supers = view_supers c.args.written.now.supers in
    let slots = view_slots c.args.written.now.slots in
    let options = view_class_options c.args.written.now.options in
    let there : list_any is_of_left_out options ≡ false = cc (c.some_left_out.ensures, c.if-some_left_out.false) in
    let fits : nat_le (here.spot.depth + 1) 1000 ≡ true = cc (c.fits_depth.ensures, c.if-not-fits_depth.false) in
    let found : class_offence tables supers (uses slots) ≡ Some c.in-Some.reason =
    ap (class_offence tables supers) (sym c.requires.uses) ∙ (sym c.in_ok-reason.ensures ∙ c.in-Some.is) in
    let node = class_made (around here) tables c.args.datum.now c.args.name supers slots options in
    ap (shows here) c.offence-in-Some.ensures
    ∙ (lowest tables supers (uses slots) here.place c.in-Some.reason node found
    ∙ second_of (list_any is_of_left_out options) (nat_le (here.spot.depth + 1) 1000) (offends here.place LeftOut) _ (offends here.place DepthLimit) there fits)
