-- What is asked of what expands a call of a macro (ISO/IEC 13816:2007, 16), and of what it answers.
use Rattle.std.specs.Prelude.{◌≡◌, ◌≤◌, ◌<◌, ℕ, List, length}
use Rattle.base.specs.declared.reason.Reason.TheVariants.{ExpanderArena}
use Rattle.base.specs.declared.reason.Stop.{Stop}
use Rattle.base.specs.declared.reason.Stop.TheVariants.{Refused, NoMemory}
use Rattle.base.specs.Data.{Item, place_of}
use Rattle.base.specs.WellFormedData.{WellFormed}
use Rattle.lang_meaning.specs.ProgramCounts.{program_nodes}
use Rattle.lang_meaning.specs.Cells.{program_cells}
use Rattle.front_profile.specs.declared.tables.Tables.{Tables}
use Rattle.front_profile.specs.Between.{TopLevelTables}
use Rattle.front_profile.specs.Cuts.{opened}
use Rattle.front_profile.specs.Definitions.{defined, rows_of}
use Rattle.front_profile.specs.Expanders.{tables_before, program_of}
use Rattle.front_profile.specs.Expansions.{most_expander_nodes, Expands, ExpansionStops}
use Rattle.front_profile.specs.Marks.{TablesGrow}
use Rattle.front_programs.specs.declared.expanding.MacroCall.{MacroCall}

-- where the top-level form began the tables were a whole program, within the limits of nodes and cells, and since then they have grown
pub record Begun (t : Tables) : Type 0 where
  pub first : Tables
  pub whole : TopLevelTables first
  pub small : program_nodes (rows_of (defined first)) ≤ 100000
  pub few : program_cells (rows_of (defined first)) ≤ 262144
  pub grown : TablesGrow (opened first) t

-- the call is that of a macro defined before the top-level form, and its datum is in form
pub record IsCall (names : ℕ) (call : MacroCall) : Type 0 where
  pub begun : Begun call.tables.now
  pub there : call.macro_number < length (tables_before call.tables.now).macros
  pub good : WellFormed names call.datum.now

-- it gives what the call stands for, as that expansion, or is refused where the call stands
abbrev pub CallExpands : List (List ℕ) → MacroCall → Item → Type 0
CallExpands names call e = Expands names call.tables.now call.macro_number call.datum.now call.number e

abbrev pub CallStops : List (List ℕ) → MacroCall → Stop → Type 0
CallStops names call (Refused r) =
    (r.place ≡ place_of call.datum.now) × ExpansionStops names call.tables.now call.macro_number call.datum.now call.number r.reason
CallStops names call NoMemory = Unit {0}

-- there is no program of so few nodes, or memory was wanting
abbrev pub ProgramStops : MacroCall → Stop → Type 0
ProgramStops call (Refused r) =
    (r ≡ record { place = place_of call.datum.now; reason = ExpanderArena })
    × (most_expander_nodes < program_nodes (program_of call.tables.now call.macro_number call.datum.now))
ProgramStops call NoMemory = Unit {0}
