-- What files and programs are written out with.
use Rattle.std.specs.Prelude.{ℕ, pos, List}
use Rattle.base.specs.declared.datum.Name.{Name}
use Rattle.base.specs.declared.datum.Symbol.TheVariants.{Named}
use Rattle.base.specs.declared.place.Place.{Place}
use Rattle.base.specs.Data as datum
use Rattle.lang_meaning.specs.declared.program.Callee.TheVariants as callee
use Rattle.lang_meaning.specs.declared.program.FunctionRow.{FunctionRow}
use Rattle.lang_meaning.specs.declared.program.LiteralRow.{LiteralRow}
use Rattle.lang_meaning.specs.declared.program.LiteralRow.TheVariants as row
use Rattle.lang_meaning.specs.Form.{Form, sequence}
use Rattle.lang_meaning.specs.model.View.{forms}

abbrev pub name : ℕ → Name
name n = record { 0 = n }

abbrev pub at : ℕ → ℕ → Place
at line column = record { line = line; column = column }

-- literals, with the places of their data

abbrev pub a_symbol : Place → ℕ → LiteralRow
a_symbol p n = row.Datum (datum.item p (datum.symbol (Named (name n))))

abbrev pub a_character : Place → ℕ → LiteralRow
a_character p c = row.Datum (datum.item p (datum.character c))

abbrev pub a_number : Place → ℕ → LiteralRow
a_number p n = row.Datum (datum.item p (datum.integer (pos n)))

-- the function of name n is the procedure p
abbrev pub a_function : ℕ → ℕ → FunctionRow
a_function n p = record { name = name n; callee = callee.Procedure p }

abbrev pub body : List Form → Form
body fs = sequence (forms fs)
