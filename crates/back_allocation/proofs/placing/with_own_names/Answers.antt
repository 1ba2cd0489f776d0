use Rattle.std.proofs.Common.{◌≡◌, ◌<◌, ℕ, List, [], Some, length, sym, ap, subst, arith}
use Rattle.back_allocation.specs.Names.{AreNamings}
use Rattle.back_allocation.specs.NamesFound.{owner_in}
use Rattle.back_allocation.specs.Places.{place_in, ChosenWell, enters_in, begins_in}
use Rattle.std.specs.Prelude.{slice_get}
use Rattle.mid_lines.specs.declared.line.Line.{Line}
use Rattle.back_allocation.specs.LineSteps.{line_gives, landings_in}
use Rattle.back_allocation.proofs.Naming.{given_low, names_own}
use Rattle.back_allocation.proofs.PlacesOfSpots.{stand_in_places, for_reasons}
use Rattle.back_allocation.proofs.placing.with_own_names.Goals as goal

pub allocate-requires-clause-registers : goal.allocate-requires-clause-registers
allocate-requires-clause-registers c line to y h e =
    let owners = c.in_ok-names.names.owners.items in
    subst (λ (os : List ℕ). to < length os) (sym c.as_slice.ensures.value)
    (given_low (owner_in owners) (length owners) c.args.procedure.now.lines c.in_ok-lines.lines c.in_ok-lines.ensures line to y h e)

pub allocate-requires-clause-parameters : goal.allocate-requires-clause-parameters
allocate-requires-clause-parameters c =
    let same = ap (λ (os : List ℕ). length os) c.as_slice.ensures.value in
    let only = c.in_ok-names.ensures.only in
    let few = c.requires.parameters in
    omega (arith, same, only, few)

pub returns-clause-stand : goal.returns-clause-stand
returns-clause-stand c =
    let owners = c.in_ok-names.names.owners.items in
    let p = c.args.procedure.now in
    let chosen = c.in_ok-chosen.chosen in
    let lines = c.in_ok-lines.lines in
    let spot = place_in chosen.constants.items chosen.allocation.spots.items in
    let placed = c.in_ok-placed.ensures in
    let only : length owners ≡ p.registers = c.in_ok-names.ensures.only in
    let low = given_low (owner_in owners) (length owners) p.lines lines c.in_ok-lines.ensures in
    let few : (line to : ℕ) (y : Line) → slice_get lines line ≡ Some y → line_gives y ≡ Some to → to < p.registers =
    λ line to y h e. subst (λ n. to < n) only (low line to y h e) in
    let w : ChosenWell lines p.parameters (landings_in c.args.landings.now) spot (enters_in chosen.parts) (begins_in chosen.lives) chosen.allocation.slots [] (length owners) chosen.is_clear =
    subst (λ (os : List ℕ). ChosenWell lines p.parameters (landings_in c.args.landings.now) spot (enters_in chosen.parts) (begins_in chosen.lives) chosen.allocation.slots [] (length os) chosen.is_clear)
    c.as_slice.ensures.value c.in_ok-chosen.ensures.chosen in
    let owned = names_own lines owners c.in_ok-names.names.starts.items c.in_ok-names.names.ends.items p.registers spot w.alive c.in_ok-names.ensures.own only few in (
      stand_in_places p c.in_ok-placed.placed lines (owner_in owners) (length owners) c.args.landings.now spot chosen.parts (begins_in chosen.lives) chosen.allocation.slots [] chosen.is_clear w owned
          c.in_ok-lines.ensures c.requires.landings placed.lines placed.places placed.parameters placed.slots,
      (let same = placed.slots in omega (arith, same)),
      (let same = placed.slots in let slots = c.in_ok-chosen.ensures.few in let long = ap (λ (os : List ℕ). length os) c.as_slice.ensures.value in omega (arith, same, slots, only, long)),
    )

pub returns-clause-reasons : goal.returns-clause-reasons
returns-clause-reasons c =
    let chosen = c.in_ok-chosen.chosen in
    for_reasons c.args.procedure.now c.in_ok-placed.placed c.in_ok-lines.lines c.as_slice.result.now c.args.landings.now chosen.constants.items chosen.lives
    chosen.parts chosen.allocation.spots.items c.in_ok-placed.ensures.lines c.requires.landings
    (subst (λ (os : List ℕ). AreNamings (owner_in os) (length os) c.args.procedure.now.lines c.in_ok-lines.lines) (sym c.as_slice.ensures.value) c.in_ok-lines.ensures)
    c.in_ok-placed.ensures.places c.in_ok-chosen.ensures.lives c.in_ok-chosen.ensures.slots
    c.in_ok-chosen.ensures.tight
