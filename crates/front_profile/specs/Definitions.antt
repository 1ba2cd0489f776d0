-- What of the tables a program is made of, with the macros whose calls its procedures expand, and when that is whole: literals in form, procedures
-- whose bodies stand by themselves or in methods, macros whose procedures stand alone, classes whose initforms take no argument, generic functions whose methods are congruent,
-- functions that are there under names of their own, and main forms that stand alone.
use Rattle.std.specs.Prelude.{◌≡◌, ℕ, ◌+◌, ◌==◌, ◌≤◌, Bool, true, false, not, ◌&&◌, ◌||◌, List, Option, Some, None, length, is_some, slice_get}
use Rattle.std.specs.List.{list_all, list_any, sum_by}
use Rattle.base.specs.declared.place.Place.{Place}
use Rattle.lang_meaning.specs.declared.program.LiteralRow.{LiteralRow}
use Rattle.lang_meaning.specs.declared.program.Procedure.{Procedure}
use Rattle.lang_meaning.specs.declared.program.SlotRow.{SlotRow}
use Rattle.lang_meaning.specs.declared.program.GenericRow.{GenericRow}
use Rattle.lang_meaning.specs.declared.program.FunctionRow.{FunctionRow}
use Rattle.lang_meaning.specs.declared.program.ProgramRows.{ProgramRows}
use Rattle.lang_meaning.specs.Form.{Form}
use Rattle.lang_meaning.specs.Counts.{all_nodes}
use Rattle.lang_meaning.specs.ProgramCounts.{procedure_nodes}
use Rattle.lang_meaning.specs.Lookup.{all_differ}
use Rattle.lang_meaning.specs.Standing.{stands_alone, is_alone}
use Rattle.lang_meaning.specs.Facts.{body_fits, literal_fits, initform_fits, generic_fits, callee_fits, is_of_method, same_name}
use Rattle.lang_classes.specs.InheritedClasses.{Hierarchy, IsHierarchy}
use Rattle.front_profile.specs.declared.tables.Tables.{Tables}
use Rattle.front_profile.specs.declared.tables.MacroRow.{MacroRow}

pub record Definitions : Type 0 where
  pub literals : List LiteralRow
  pub procedures : List Procedure
  pub classes : Hierarchy
  pub generics : List GenericRow
  pub functions : List FunctionRow
  pub macros : List MacroRow
  pub main : List Form
  pub sites : List Place
  pub variables : ℕ
  pub exits : ℕ

abbrev pub defined : Tables → Definitions
defined s = record {
  literals = s.literals;
  procedures = s.procedures;
  classes = s.classes;
  generics = s.generics;
  functions = s.functions;
  macros = s.macros;
  main = s.main;
  sites = s.sites;
  variables = s.variables;
  exits = s.exits;
}

-- the rows of a program
abbrev pub rows_of : Definitions → ProgramRows
rows_of g = record {
  literals = g.literals;
  procedures = g.procedures;
  classes = g.classes.rows;
  generics = g.generics;
  functions = g.functions;
  main = g.main;
  sites = g.sites;
}

-- what comes later has no fewer literals, classes, generic functions, sites, variables and exits, and the same procedures in front
pub record Later (g h : Definitions) : Type 0 where
  pub literals : length g.literals ≤ length h.literals
  pub procedures : length g.procedures ≤ length h.procedures
  pub kept : (i : ℕ) (p : Procedure) → slice_get g.procedures i ≡ Some p → slice_get h.procedures i ≡ Some p
  pub classes : length g.classes.rows ≤ length h.classes.rows
  pub generics : length g.generics ≤ length h.generics
  pub sites : length g.sites ≤ length h.sites
  pub variables : g.variables ≤ h.variables
  pub exits : g.exits ≤ h.exits

-- nothing is defined between them
pub record Undefined (g h : Definitions) : Type 0 where
  pub procedures : h.procedures ≡ g.procedures
  pub classes : h.classes ≡ g.classes
  pub generics : h.generics ≡ g.generics
  pub functions : h.functions ≡ g.functions
  pub macros : h.macros ≡ g.macros

-- a procedure fits, and its body stands with its own variables alone, in a method at most
abbrev pub procedure_fits : Definitions → Procedure → Bool
procedure_fits g p = body_fits (rows_of g) p.body && is_alone true (Some p)

-- an initform is a procedure that is there, stands alone and takes no argument
abbrev pub takes_nothing : Option Procedure → Bool
takes_nothing None = false
takes_nothing (Some p) = length p.required == 0 && not (is_some p.rest)

abbrev pub initform_takes_nothing : List Procedure → Option ℕ → Bool
initform_takes_nothing ps None = true
initform_takes_nothing ps (Some i) = takes_nothing (slice_get ps i)

abbrev pub slot_fits : Definitions → SlotRow → Bool
slot_fits g s = initform_fits (rows_of g) s.initform && initform_takes_nothing g.procedures s.initform

-- a generic function is the function of its name
abbrev pub has_function : List FunctionRow → GenericRow → Bool
has_function fs g = list_any (λ f. g.name.0 == f.name.0) fs

abbrev pub same_generic : GenericRow → GenericRow → Bool
same_generic g h = g.name.0 == h.name.0

-- the procedure of a macro is there, and stands alone
abbrev pub macro_stands : Definitions → MacroRow → Bool
macro_stands g m = is_alone false (slice_get g.procedures m.procedure)

-- a main form fits, and stands alone
abbrev pub main_fits : Definitions → Form → Bool
main_fits g f = body_fits (rows_of g) f && stands_alone false f

-- the nodes of the procedures and of the main forms
abbrev pub procedure_count : Definitions → ℕ
procedure_count g = sum_by procedure_nodes g.procedures

abbrev pub main_count : Definitions → ℕ
main_count g = sum_by all_nodes g.main

-- there are no more sites than nodes: each site is that of a form of its own
pub record FewSites (g : Definitions) : Type 0 where
  pub few : length g.sites ≤ procedure_count g + main_count g

-- classes, of which each says in its own definition what fits
pub record WholeClasses (g : Definitions) : Type 0 where
  pub hierarchy : IsHierarchy g.classes
  pub slots : list_all (λ slots. list_all (slot_fits g) slots) g.classes.own ≡ true

-- generic functions that fit, under names of their own, which are names of functions
pub record WholeGenerics (g : Definitions) : Type 0 where
  pub fit : list_all (generic_fits (rows_of g)) g.generics ≡ true
  pub names : all_differ same_generic g.generics ≡ true
  pub named : list_all (has_function g.functions) g.generics ≡ true

-- each row is sound by itself, also while the procedures of methods are there and the methods are not
pub record SoundDefinitions (g : Definitions) : Type 0 where
  pub literals : list_all (literal_fits (rows_of g)) g.literals ≡ true
  pub procedures : list_all (procedure_fits g) g.procedures ≡ true
  pub classes : WholeClasses g
  pub generics : WholeGenerics g
  pub functions : list_all (λ f. callee_fits (rows_of g) f.callee) g.functions ≡ true
  pub names : all_differ same_name g.functions ≡ true
  pub macros : list_all (macro_stands g) g.macros ≡ true
  pub main : list_all (main_fits g) g.main ≡ true

-- each procedure is that of a method, or stands alone
pub record EachStands (g : Definitions) : Type 0 where
  pub stands : (i : ℕ) (p : Procedure) → slice_get g.procedures i ≡ Some p → (is_of_method (rows_of g) i || is_alone false (Some p)) ≡ true

pub record WholeDefinitions (g : Definitions) : Type 0 where
  pub sound : SoundDefinitions g
  pub procedures : EachStands g

-- tables that are sound, and tables that are whole

abbrev pub SoundTables : Tables → Type 0
SoundTables s = SoundDefinitions (defined s)

abbrev pub WholeTables : Tables → Type 0
WholeTables s = WholeDefinitions (defined s)
