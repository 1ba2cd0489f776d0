-- Programs written out by hand: short words for their parts.
use Rattle.std.specs.Prelude.{◌≡◌, ℕ, zero, suc, pos, false, List, [], ◌∷◌, None, map}
use Rattle.base.specs.Data as datum
use Rattle.base.specs.declared.datum.Name.{Name}
use Rattle.base.specs.declared.datum.Symbol.TheVariants.{Named}
use Rattle.base.specs.declared.place.Place.{Place}
use Rattle.lang_meaning.specs.declared.program.LiteralRow.{LiteralRow}
use Rattle.lang_meaning.specs.declared.program.LiteralRow.TheVariants as row
use Rattle.lang_meaning.specs.declared.program.Procedure.{Procedure}
use Rattle.lang_meaning.specs.declared.program.ClassRow.{ClassRow}
use Rattle.lang_meaning.specs.declared.program.SlotRow.{SlotRow}
use Rattle.lang_meaning.specs.declared.program.FunctionRow.{FunctionRow}
use Rattle.lang_meaning.specs.declared.program.Callee.TheVariants as callee
use Rattle.lang_meaning.specs.declared.program.ProgramRows.{ProgramRows}
use Rattle.lang_meaning.specs.declared.primitive.Primitive.TheVariants.{StandardOutput, PutChar}
use Rattle.lang_meaning.specs.declared.capture.Capture.{Capture}
use Rattle.lang_meaning.specs.Form.{Form, literal, sequence, lambda, prim, no_form}
use Rattle.lang_meaning.specs.model.View.{forms}
use Rattle.lang_meaning.specs.State.{Limit, no_place}
use Rattle.lang_meaning.specs.BuiltIn.{built_in_precedence, built_in_slots}
use Rattle.lang_meaning.specs.Meaning.{Ending, ending_of, meaning}

abbrev pub name : ℕ → Name
name n = record { 0 = n }

-- literals
abbrev pub a_number : ℕ → LiteralRow
a_number n = row.Datum (datum.item no_place (datum.integer (pos n)))

abbrev pub a_char : ℕ → LiteralRow
a_char c = row.Datum (datum.item no_place (datum.character c))

abbrev pub a_symbol : ℕ → LiteralRow
a_symbol n = row.Datum (datum.item no_place (datum.symbol (Named (name n))))

abbrev pub a_nil : LiteralRow
a_nil = row.Datum (datum.item no_place datum.nil)

-- the built-in classes, all without names
abbrev pub a_slot_row : SlotRow
a_slot_row = record { name = name 0; initargs = name 0 ∷ []; initform = None }

abbrev pub class_rows : List (List ℕ) → List ℕ → List ClassRow
class_rows [] slots = []
class_rows (p ∷ ps) [] = record { name = name 0; precedence = p; slots = []; abstract_class = false } ∷ class_rows ps []
class_rows (p ∷ ps) (n ∷ ns) =
    record { name = name 0; precedence = p; slots = slot_rows n; abstract_class = false } ∷ class_rows ps ns
  where
    slot_rows : ℕ → List SlotRow
    slot_rows zero = []
    slot_rows (suc n) = a_slot_row ∷ slot_rows n

abbrev pub built_in_rows : List ClassRow
built_in_rows = class_rows built_in_precedence built_in_slots

-- a class below others, without slots
abbrev pub a_class : List ℕ → ClassRow
a_class precedence = record { name = name 0; precedence = precedence; slots = []; abstract_class = false }

-- a function of required variables and a body of forms, and the parts that it captures
abbrev pub a_lambda : List ℕ → List Form → List Capture → Form
a_lambda vars fs parts = lambda vars None (sequence (forms fs)) parts

-- a procedure of required variables and a body of forms
abbrev pub a_procedure : List ℕ → List Form → Procedure
a_procedure vars body = record { name = None; required = vars; rest = None; body = sequence (forms body) }

abbrev pub a_function : ℕ → ℕ → FunctionRow
a_function n p = record { name = name n; callee = callee.Procedure p }

-- a program of literals, procedures, further classes, functions and main forms; each site n is at 1:n
abbrev pub a_program : List LiteralRow → List Procedure → List FunctionRow → List Form → ProgramRows
a_program literals procedures functions main = record {
  literals = literals;
  procedures = procedures;
  classes = built_in_rows;
  generics = [];
  functions = functions;
  main = main;
  sites = map at (1 ∷ 2 ∷ 3 ∷ 4 ∷ 5 ∷ []);
}
  where
    at : ℕ → Place
    at n = record { line = 1; column = n }

-- the place of the n-th site
abbrev pub site_at : ℕ → Place
site_at n = record { line = 1; column = n }

-- `(format-char (standard-output) c)`, with the literal of the character
abbrev pub put : ℕ → Form
put id = prim PutChar (forms (prim StandardOutput no_form ∷ literal id ∷ []))

abbrev pub body : List Form → Form
body fs = sequence (forms fs)

-- what is said of a program, of names, so many levels and so many words, with an empty input: its ending, and what it prints
abbrev pub Doing : Type 1
Doing = List (List ℕ) → ProgramRows → ℕ → Limit → Ending → List ℕ → Type 0

-- that its meaning ends so and prints that
pub record EndsAndPrints (names : List (List ℕ)) (program : ProgramRows) (k : ℕ) (limit : Limit) (ending : Ending) (printed : List ℕ) : Type 0 where
  pub ends : ending_of (meaning names program [] k limit).end (meaning names program [] k limit).store ≡ ending
  pub prints : (meaning names program [] k limit).printed ≡ printed
