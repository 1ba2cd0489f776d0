-- When the registers of a procedure of lines stand well in places that were chosen for it.
use Rattle.std.specs.Prelude.{◌≡◌, ℕ, Bool, List, [], length, Option}
use Rattle.mid_lines.specs.declared.line.LineProcedure.{LineProcedure}
use Rattle.back_liveness.specs.declared.step.Interval.{Interval}
use Rattle.back_liveness.specs.Liveness.{AreStructured, AreTight}
use Rattle.back_scan.specs.declared.spot.Spot.{Spot}
use Rattle.back_allocation.specs.declared.placing.RegisterPlaces.{RegisterPlaces}
use Rattle.back_allocation.specs.LineSteps.{landings_in, steps_from}
use Rattle.back_allocation.specs.Names.{AreNamings, NamesStand}
use Rattle.back_allocation.specs.NamesFound.{owner_in}
use Rattle.back_allocation.specs.StandingLandings.{line_landings}
use Rattle.back_allocation.specs.Standing.{AllStand}
use Rattle.back_allocation.specs.Allocated.{parameter_places}
use Rattle.back_allocation.specs.Slots.{AreLives, AreSlotsWanted}
use Rattle.back_allocation.specs.Places.{place_at, place_in}

-- The lines of the procedure have names for its registers, which say what registers have. Some tests tell where names may be alive, and which the
-- entry brings to their places, with which all names stand well.
pub record StandInPlaces (p : LineProcedure) (a : RegisterPlaces) : Type 0 where
  pub owner : (name : ℕ) → ℕ
  pub names : ℕ
  pub alive : (name line : ℕ) → Bool
  pub enters : (name : ℕ) → Bool
  pub named : AreNamings owner names p.lines a.lines
  pub owned : NamesStand a.lines p.registers owner names (place_at a.places) alive
  pub stand : AllStand a.lines p.parameters (landings_in (line_landings 0 [] p.lines)) (place_at a.places) alive enters a.slots
  pub entry : a.parameters ≡ parameter_places (place_at a.places) enters 0 p.parameters

-- Names stand in slots for a reason: there are the owners by which the lines have names, constants, intervals with their parts, and spots by which these
-- are the places. The intervals have the lines at which names are alive, and none is longer than it has to be if loops lie one in another and are
-- entered at their heads.
pub record StandInSlotsForReasons (p : LineProcedure) (a : RegisterPlaces) : Type 0 where
  pub owners : List ℕ
  pub constants : List (Option ℕ)
  pub lives : List (Option Interval)
  pub parts : List (List Interval)
  pub spots : List (Option Spot)
  pub named : AreNamings (owner_in owners) (length owners) p.lines a.lines
  pub placed : (v : ℕ) → place_at a.places v ≡ place_in constants spots v
  pub are_lives : AreLives (steps_from (landings_in (line_landings 0 [] p.lines)) 0 a.lines) (length owners) lives
  pub wanted : AreSlotsWanted a.lines (landings_in (line_landings 0 [] p.lines)) p.parameters owners constants lives parts spots
  pub tight :
      AreStructured (steps_from (landings_in (line_landings 0 [] p.lines)) 0 a.lines)
      → AreTight (steps_from (landings_in (line_landings 0 [] p.lines)) 0 a.lines) lives
