-- Whether the names of a program are below a number, as tests that compute.
use Rattle.std.specs.Prelude.{ℕ, Bool, true, ◌&&◌, nat_lt, Option, Some, None}
use Rattle.std.specs.List.{list_all}
use Rattle.base.specs.declared.datum.Name.{Name}
use Rattle.base.specs.declared.datum.Symbol.{Symbol}
use Rattle.base.specs.declared.datum.Symbol.TheVariants.{Named, Fresh}
use Rattle.base.specs.Data.{Item, item, Content, integer, character, symbol, string, vector, nil, list}
use Rattle.base.specs.Data.{Items, no_item, item_and, Tail, no_tail, dotted}
use Rattle.lang_meaning.specs.declared.program.LiteralRow.{LiteralRow}
use Rattle.lang_meaning.specs.declared.program.LiteralRow.TheVariants as row
use Rattle.lang_meaning.specs.declared.program.Procedure.{Procedure}
use Rattle.lang_meaning.specs.declared.program.SlotRow.{SlotRow}
use Rattle.lang_meaning.specs.declared.program.ClassRow.{ClassRow}
use Rattle.lang_meaning.specs.declared.program.GenericRow.{GenericRow}
use Rattle.lang_meaning.specs.declared.program.FunctionRow.{FunctionRow}
use Rattle.lang_meaning.specs.declared.program.ProgramRows.{ProgramRows}
use Rattle.lang_meaning.specs.Form.{Form}
use Rattle.lang_meaning.specs.Inside.{inside_form}
use Rattle.front_profile.specs.ProgramNames.{own_names}

module _ (count : ℕ) where
  abbrev pub is_name_below : Name → Bool
  is_name_below n = nat_lt n.0 count

  abbrev pub is_maybe_below : Option Name → Bool
  is_maybe_below None = true
  is_maybe_below (Some n) = is_name_below n

  -- data

  abbrev pub is_symbol_below : Symbol → Bool
  is_symbol_below (Named name) = is_name_below name
  is_symbol_below (Fresh expansion serial) = true

  abbrev mutual
    pub is_datum_below : Item → Bool
    is_datum_below (item p c) = is_content_below c

    pub is_content_below : Content → Bool
    is_content_below (integer n) = true
    is_content_below (character c) = true
    is_content_below (symbol s) = is_symbol_below s
    is_content_below (string bytes) = true
    is_content_below (vector ds) = are_data_below ds
    is_content_below nil = true
    is_content_below (list ds t) = are_data_below ds && is_tail_below t

    pub are_data_below : Items → Bool
    are_data_below no_item = true
    are_data_below (item_and d ds) = is_datum_below d && are_data_below ds

    pub is_tail_below : Tail → Bool
    is_tail_below no_tail = true
    is_tail_below (dotted d) = is_datum_below d

  -- forms: the names that a form has itself, and those of all forms inside

  abbrev pub are_own_below : Form → Bool
  are_own_below f = list_all (λ n. nat_lt n count) (own_names f)

  abbrev pub is_form_below : Form → Bool
  is_form_below f = list_all are_own_below (inside_form f)

  -- rows

  abbrev pub is_literal_below : LiteralRow → Bool
  is_literal_below (row.Datum d) = is_datum_below d
  is_literal_below (row.Class c) = true
  is_literal_below (row.Function name) = is_name_below name

  abbrev pub is_procedure_below : Procedure → Bool
  is_procedure_below p = is_maybe_below p.name && is_form_below p.body

  abbrev pub is_slot_below : SlotRow → Bool
  is_slot_below s = is_name_below s.name && list_all is_name_below s.initargs

  abbrev pub is_class_below : ClassRow → Bool
  is_class_below c = is_name_below c.name && list_all is_slot_below c.slots

  abbrev pub are_rows_below : ProgramRows → Bool
  are_rows_below rows =
      list_all is_literal_below rows.literals
      && list_all is_procedure_below rows.procedures
      && list_all is_class_below rows.classes
      && list_all (λ (g : GenericRow). is_name_below g.name) rows.generics
      && list_all (λ (f : FunctionRow). is_name_below f.name) rows.functions
      && list_all is_form_below rows.main
