-- **The program of a macro's call** (ISO/IEC 13816:2007, 16): what was defined in front of the top-level form, and one form that applies the
-- expander, the macro's procedure, to the list of the call's arguments.
use Rattle.std.specs.Prelude.{ℕ, List, [], ◌∷◌, ◌++◌, Option, Some, None, length, slice_get}
use Rattle.base.specs.Data.{Item, item, Content, integer, character, symbol, string, vector, nil, list, Items, no_item, item_and, no_tail}
use Rattle.lang_meaning.specs.declared.program.LiteralRow.TheVariants as row
use Rattle.lang_meaning.specs.declared.program.Procedure.{Procedure}
use Rattle.lang_meaning.specs.declared.program.ProgramRows.{ProgramRows}
use Rattle.lang_meaning.specs.Form.{Form, literal, sequence, no_form, lambda, apply}
use Rattle.front_profile.specs.declared.tables.MacroRow.{MacroRow}
use Rattle.front_profile.specs.declared.tables.Tables.{Tables}
use Rattle.front_profile.specs.Cuts.{cut_to}
use Rattle.front_profile.specs.Definitions.{Definitions, defined, rows_of}

-- what was there where the top-level form began

abbrev pub tables_before : Tables → Tables
tables_before s = cut_to s.before s

abbrev pub definitions : Tables → Definitions
definitions s = defined (tables_before s)

-- the list of what stands behind the name of the macro, where the call stands

abbrev pub list_of : Items → Content
list_of no_item = nil
list_of (item_and d ds) = list (item_and d ds) no_tail

abbrev pub behind_head : Content → Content
behind_head (list no_item t) = nil
behind_head (list (item_and h ds) t) = list_of ds
behind_head (integer n) = nil
behind_head (character c) = nil
behind_head (symbol x) = nil
behind_head (string bytes) = nil
behind_head (vector ds) = nil
behind_head nil = nil

abbrev pub arguments : Item → Item
arguments (item p c) = item p (behind_head c)

-- the procedure of the macro of that number

abbrev pub procedure_of : List Procedure → Option MacroRow → Option Procedure
procedure_of ps None = None
procedure_of ps (Some m) = slice_get ps m.procedure

abbrev pub expander : Tables → (macro : ℕ) → Option Procedure
expander s m = procedure_of (tables_before s).procedures (slice_get (tables_before s).macros m)

-- it stands alone, so as a function it captures nothing
abbrev pub function_of_procedure : Option Procedure → Form
function_of_procedure None = sequence no_form
function_of_procedure (Some p) = lambda p.required p.rest p.body []

-- the list of arguments is the last literal
abbrev pub expander_form : Tables → (macro : ℕ) → Form
expander_form s m = apply (function_of_procedure (expander s m)) (literal (length (tables_before s).literals))

abbrev pub program_of : Tables → (macro : ℕ) → Item → ProgramRows
program_of s m d = record (rows_of (definitions s)) {
  literals = (tables_before s).literals ++ row.Datum (arguments d) ∷ [];
  main = expander_form s m ∷ [];
}
