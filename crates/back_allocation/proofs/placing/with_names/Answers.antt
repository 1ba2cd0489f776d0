use Rattle.std.proofs.Common.{rules, ◌≡◌, ◌≤◌, ◌<◌, ℕ, true, List, length, subst, sym, arith}
use Rattle.back_liveness.specs.declared.barrier.Barrier.{Barrier}
use Rattle.back_allocation.specs.Names.{AreNamings, IsPassedIn}
use Rattle.back_allocation.specs.NamesFound.{owner_in}
use Rattle.back_allocation.specs.Places.{place_in, ChosenWell, enters_in, begins_in}
use Rattle.back_allocation.specs.LineSteps.{landings_in}
use Rattle.back_allocation.proofs.Naming.{given_low, names_clear}
use Rattle.back_allocation.proofs.PlacesOfSpots.{stand_in_places, for_reasons}
use Rattle.back_allocation.proofs.placing.with_names.Goals as goal

pub overwritten_of-requires : goal.overwritten_of-requires
overwritten_of-requires c = (c.are_grouped.ensures (search rules)).groups

pub allocate-requires-clause-registers : goal.allocate-requires-clause-registers
allocate-requires-clause-registers c line to y h e =
    let owners = c.args.names.now.owners.items in
    subst (λ (os : List ℕ). to < length os) (sym c.as_slice-owners.ensures.value)
    (given_low (owner_in owners) (length owners) c.args.procedure.now.lines c.in_ok-lines.lines c.in_ok-lines.ensures line to y h e)

pub returns-clause-stand : goal.returns-clause-stand
returns-clause-stand c =
    let owners = c.args.names.now.owners.items in
    let p = c.args.procedure.now in
    let chosen = c.in_ok-chosen.chosen in
    let lines = c.in_ok-lines.lines in
    let spot = place_in chosen.constants.items chosen.allocation.spots.items in
    let placed = c.in_ok-placed.ensures in
    let grouped = c.are_grouped.ensures (search rules) in
    let overwritten = c.in_ok-overwritten.overwritten.items in
    let w : ChosenWell lines p.parameters (landings_in c.args.landings.now) spot (enters_in chosen.parts) (begins_in chosen.lives) chosen.allocation.slots overwritten (length owners) chosen.is_clear =
    subst (λ (os : List ℕ). ChosenWell lines p.parameters (landings_in c.args.landings.now) spot (enters_in chosen.parts) (begins_in chosen.lives) chosen.allocation.slots overwritten (length os) chosen.is_clear)
    c.as_slice-owners.ensures.value
    (subst
    (λ (b : List Barrier). ChosenWell lines p.parameters (landings_in c.args.landings.now) spot (enters_in chosen.parts) (begins_in chosen.lives) chosen.allocation.slots b (length c.as_slice-owners.result.now)
    chosen.is_clear)
    c.as_slice.ensures.value c.in_ok-chosen.ensures.chosen) in
    let passed : (v : ℕ) → p.registers ≤ v → v < length owners → begins_in chosen.lives v ≡ true → IsPassedIn (owner_in owners v) (spot v) =
    subst (λ (os : List ℕ). (v : ℕ) → p.registers ≤ v → v < length os → begins_in chosen.lives v ≡ true → IsPassedIn (owner_in os v) (spot v)) c.as_slice-owners.ensures.value
    (c.are_passed_in.ensures (search rules)) in
    let owned =
    names_clear lines owners c.args.names.now.starts.items c.args.names.now.ends.items p.registers overwritten spot (begins_in chosen.lives) w.alive grouped c.in_ok-overwritten.ensures
    (w.clear_is (search rules)) w.begun passed in (
      stand_in_places p c.in_ok-placed.placed lines (owner_in owners) (length owners) c.args.landings.now spot chosen.parts (begins_in chosen.lives) chosen.allocation.slots
          overwritten chosen.is_clear w owned c.in_ok-lines.ensures c.requires.landings placed.lines placed.places placed.parameters placed.slots,
      (let same = placed.slots in omega (arith, same)),
      (let same = placed.slots in omega (arith, same)),
    )

pub returns-clause-reasons : goal.returns-clause-reasons
returns-clause-reasons c =
    let chosen = c.in_ok-chosen.chosen in
    for_reasons c.args.procedure.now c.in_ok-placed.placed c.in_ok-lines.lines c.as_slice-owners.result.now c.args.landings.now chosen.constants.items chosen.lives
    chosen.parts chosen.allocation.spots.items c.in_ok-placed.ensures.lines c.requires.landings
    (subst (λ (os : List ℕ). AreNamings (owner_in os) (length os) c.args.procedure.now.lines c.in_ok-lines.lines) (sym c.as_slice-owners.ensures.value) c.in_ok-lines.ensures)
    c.in_ok-placed.ensures.places c.in_ok-chosen.ensures.lives c.in_ok-chosen.ensures.slots
    c.in_ok-chosen.ensures.tight
