-- The way back: how long the lists of the tables were, and the tables cut to that; and the tables where a top-level form begins.
use Rattle.std.specs.Prelude.{ℕ, ◌+◌, ◌-◌, ◌*◌, ◌≤◌, List, [], ◌∷◌, length, map, take, drop}
use Rattle.std.specs.List.{sum_by}
use Rattle.lang_meaning.specs.Counts.{all_nodes}
use Rattle.lang_meaning.specs.ProgramCounts.{row_nodes, procedure_nodes, class_nodes}
use Rattle.lang_meaning.specs.declared.program.GenericRow.{GenericRow}
use Rattle.front_profile.specs.declared.mark.Mark.{Mark}
use Rattle.front_profile.specs.declared.tables.Tables.{Tables}

-- how many methods each generic function has
abbrev pub method_counts : List GenericRow → List ℕ
method_counts gs = map (λ g. length g.methods) gs

abbrev pub mark_of : Tables → Mark
mark_of s = record {
  literals = length s.literals;
  procedures = length s.procedures;
  functions = length s.functions;
  macros = length s.macros;
  prelude = length s.prelude;
  classes = length s.classes.rows;
  prelude_classes = s.prelude_classes;
  methods = method_counts s.generics;
  globals = length s.globals;
  set = length s.set;
  dynamics = length s.dynamics;
  sites = length s.sites;
  fresh = length s.fresh;
  main = length s.main;
  variables = s.variables;
  exits = s.exits;
  expansions = s.expansions;
}

-- there are at least so many generic functions, and each has at least so many methods
abbrev pub ReachMethods : List ℕ → List GenericRow → Type 0
ReachMethods [] gs = Unit {0}
ReachMethods (n ∷ ns) [] = ⊥
ReachMethods (n ∷ ns) (g ∷ gs) = (n ≤ length g.methods) × ReachMethods ns gs

-- the lists are at least so long
pub record ReachesMark (mark : Mark) (t : Tables) : Type 0 where
  pub literals : mark.literals ≤ length t.literals
  pub procedures : mark.procedures ≤ length t.procedures
  pub functions : mark.functions ≤ length t.functions
  pub macros : mark.macros ≤ length t.macros
  pub prelude : mark.prelude ≤ length t.prelude
  pub classes : mark.classes ≤ length t.classes.rows
  pub methods : ReachMethods mark.methods t.generics
  pub globals : mark.globals ≤ length t.globals
  pub set : mark.set ≤ length t.set
  pub dynamics : mark.dynamics ≤ length t.dynamics
  pub sites : mark.sites ≤ length t.sites
  pub fresh : mark.fresh ≤ length t.fresh
  pub main : mark.main ≤ length t.main

-- so many generic functions, with so many methods each
abbrev pub cut_generics : List ℕ → List GenericRow → List GenericRow
cut_generics [] gs = []
cut_generics (n ∷ ns) [] = []
cut_generics (n ∷ ns) (g ∷ gs) = record g { methods = take n g.methods } ∷ cut_generics ns gs

abbrev pub cut_to : Mark → Tables → Tables
cut_to mark t = record t {
  literals = take mark.literals t.literals;
  procedures = take mark.procedures t.procedures;
  functions = take mark.functions t.functions;
  macros = take mark.macros t.macros;
  prelude = take mark.prelude t.prelude;
  classes = record { rows = take mark.classes t.classes.rows; own = take mark.classes t.classes.own };
  prelude_classes = mark.prelude_classes;
  generics = cut_generics mark.methods t.generics;
  globals = take mark.globals t.globals;
  set = take mark.set t.set;
  dynamics = take mark.dynamics t.dynamics;
  sites = take mark.sites t.sites;
  fresh = take mark.fresh t.fresh;
  main = take mark.main t.main;
  variables = mark.variables;
  exits = mark.exits;
  expansions = mark.expansions;
}

-- the tables where a top-level form begins
abbrev pub opened : Tables → Tables
opened s = record s { before = mark_of s }

-- the tables as they were where it began, and of the mark that they had then
abbrev pub closed : Mark → Tables → Tables
closed before t = record (cut_to t.before t) { before = before }

-- the nodes of what stands behind the mark
abbrev pub nodes_behind : Mark → Tables → ℕ
nodes_behind mark t =
    sum_by row_nodes (drop mark.literals t.literals)
    + sum_by procedure_nodes (drop mark.procedures t.procedures)
    + sum_by class_nodes (drop mark.classes t.classes.rows)
    + 4 * (length t.generics - length mark.methods)
    + sum_by all_nodes (drop mark.main t.main)
