-- What a scope takes: a top-level form with what it gives, or a refusal (ISO/IEC 13816:2007, 11 and 12).
use Rattle.std.specs.Prelude.{◌≡◌, ℕ, ◌<◌, ◌≤◌, Bool, true, false, List, [], ◌∷◌, ◌++◌, ◌⊎◌, Some, length, slice_get, codes}
use Rattle.base.specs.declared.origin.Origin.{Origin}
use Rattle.base.specs.declared.origin.Origin.TheVariants.{Prelude, File}
use Rattle.base.specs.declared.reason.Stop.{Stop}
use Rattle.base.specs.declared.reason.Stop.TheVariants.{Refused, NoMemory}
use Rattle.base.specs.declared.reason.Refusal.{Refusal}
use Rattle.base.specs.declared.reason.Reason.{Reason}
use Rattle.base.specs.declared.reason.Reason.TheVariants.{ProgramTooLarge, DispatchTooLarge}
use Rattle.base.specs.Data.{Item, place_of}
use Rattle.lang_meaning.specs.declared.program.ProgramRows.{ProgramRows}
use Rattle.lang_meaning.specs.Form.{Form}
use Rattle.lang_meaning.specs.ProgramCounts.{program_nodes}
use Rattle.lang_meaning.specs.Cells.{program_cells}
use Rattle.lang_classes.specs.InheritedClasses.{Hierarchy}
use Rattle.lang_classes.specs.InheritedBuiltIn.{AreBuiltIn}
use Rattle.front_profile.specs.declared.spot.Spot.{Spot}
use Rattle.front_profile.specs.declared.tables.ReservedWords.{ReservedWords}
use Rattle.front_profile.specs.declared.tables.Tables.{Tables}
use Rattle.front_profile.specs.declared.mark.Mark.{Mark}
use Rattle.front_profile.specs.Between.{TopLevelTables}
use Rattle.front_profile.specs.Nodes.{StaticContext, refused, stands, ended}
use Rattle.front_profile.specs.Promises.{FormComes}

-- where a top-level form stands: forms of a file have sites
abbrev pub is_of_file : Origin → Bool
is_of_file Prelude = false
is_of_file File = true

abbrev pub top_spot : Origin → Spot
top_spot origin = record { depth = 0; top = true; in_method = false; sited = is_of_file origin; in_row = 0 }

abbrev pub top : Origin → StaticContext
top origin = record { bound = []; spot = top_spot origin }

-- a form of a file is a main form; one of the prelude is none
abbrev pub with_main : Origin → Form → Tables → Tables
with_main Prelude f t = t
with_main File f t = record t { main = t.main ++ f ∷ [] }

-- the program so far
abbrev pub rows_of : Tables → ProgramRows
rows_of t = record {
  literals = t.literals;
  procedures = t.procedures;
  classes = t.classes.rows;
  generics = t.generics;
  functions = t.functions;
  main = t.main;
  sites = t.sites;
}

abbrev pub nodes_of : Tables → ℕ
nodes_of t = program_nodes (rows_of t)

abbrev pub most_nodes : ℕ
most_nodes = 100000

abbrev pub cells_of : Tables → ℕ
cells_of t = program_cells (rows_of t)

abbrev pub most_cells : ℕ
most_cells = 262144

-- tables that are a whole program, within the limits of nodes and cells
pub record IsWhole (t : Tables) : Type 0 where
  pub between : TopLevelTables t
  pub small : nodes_of t ≤ most_nodes
  pub few : cells_of t ≤ most_cells

-- the datum stands for that form, which gives these tables
pub record IsElaborated (names : List (List ℕ)) (origin : Origin) (s : Tables) (d : Item) (t : Tables) : Type 0 where
  pub form : Form
  pub found : Tables
  pub comes : FormComes names (top origin) s d (stands (record { form = form; tables = found }))
  pub now : t ≡ with_main origin form found

-- it is taken where the program stays within the limits of nodes and cells
pub record IsTaken (names : List (List ℕ)) (origin : Origin) (s : Tables) (d : Item) (t : Tables) : Type 0 where
  pub given : IsElaborated names origin s d t
  pub small : nodes_of t ≤ most_nodes
  pub few : cells_of t ≤ most_cells

-- else it is too large, as a whole: by its nodes, or else by its cells
pub record IsTooLarge (names : List (List ℕ)) (origin : Origin) (s : Tables) (d : Item) : Type 0 where
  pub tables : Tables
  pub given : IsElaborated names origin s d tables
  pub large : most_nodes < nodes_of tables

pub record HasManyCells (names : List (List ℕ)) (origin : Origin) (s : Tables) (d : Item) : Type 0 where
  pub tables : Tables
  pub given : IsElaborated names origin s d tables
  pub small : nodes_of tables ≤ most_nodes
  pub many : most_cells < cells_of tables

abbrev pub at_form : Item → Reason → Refusal
at_form d reason = record { place = place_of d; reason = reason }

-- a form that stood and is refused as a whole
abbrev pub IsRefusedWhole : List (List ℕ) → Origin → Tables → Item → Refusal → Type 0
IsRefusedWhole names origin s d r =
    (IsTooLarge names origin s d × (r ≡ at_form d ProgramTooLarge)) ⊎ (HasManyCells names origin s d × (r ≡ at_form d DispatchTooLarge))

-- a stop: the first offence, or a program that is too large with the form; or want of memory
abbrev pub IsFormStopped : List (List ℕ) → Origin → Tables → Item → Stop → Type 0
IsFormStopped names origin s d (Refused r) =
    FormComes names (top origin) s d (ended (refused r.place r.reason)) ⊎ IsRefusedWhole names origin s d r
IsFormStopped names origin s d NoMemory = Unit {0}

-- the words that no variable has
pub record AreWords (names : List (List ℕ)) (words : ReservedWords) : Type 0 where
  pub truth : slice_get names words.truth.0 ≡ Some (codes "t")
  pub rest : slice_get names words.rest.0 ≡ Some (codes ":rest")
  pub and_rest : slice_get names words.and_rest.0 ≡ Some (codes "&rest")

-- where tables with these classes, and nothing else, stand
abbrev pub first_mark : Hierarchy → Mark
first_mark classes = record {
  literals = 0;
  procedures = 0;
  functions = 0;
  macros = 0;
  prelude = 0;
  classes = length classes.rows;
  prelude_classes = length classes.rows;
  methods = [];
  globals = 0;
  set = 0;
  dynamics = 0;
  sites = 0;
  fresh = 0;
  main = 0;
  variables = 0;
  exits = 0;
  expansions = 0;
}

-- tables with words and classes, which are there for every file, and nothing else
abbrev pub first_tables : ReservedWords → Hierarchy → Tables
first_tables words classes = record {
  words = words;
  literals = [];
  procedures = [];
  functions = [];
  macros = [];
  prelude = [];
  classes = classes;
  prelude_classes = length classes.rows;
  generics = [];
  globals = [];
  set = [];
  dynamics = [];
  sites = [];
  fresh = [];
  variables = 0;
  exits = 0;
  main = [];
  expansions = 0;
  before = first_mark classes;
}

-- the tables in front of all forms: the words, the built-in classes, and nothing else
pub record AreInitialTables (names : List (List ℕ)) (t : Tables) : Type 0 where
  pub words : AreWords names t.words
  pub classes : AreBuiltIn names t.classes
  pub nothing_else : t ≡ first_tables t.words t.classes
