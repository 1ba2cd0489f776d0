-- What the tests tell: a program passes them exactly where all its names are below the number.
use Rattle.std.proofs.Common.{◌≡◌, ℕ, ◌<◌, Bool, true, false, ◌&&◌, nat_lt, List, [], ◌∷◌, Option, Some, None}
use Rattle.std.proofs.Common.{refl, sym, ap, ◌∙◌}
use Rattle.std.specs.Prelude.{◌↔◌, IsTrue}
use Rattle.std.specs.List.{list_all}
use Rattle.std.proofs.lemmas.Bool.{ltb-true, lt-ltb}
use Rattle.base.specs.AllOf.{AllOf}
use Rattle.base.specs.declared.datum.Name.{Name}
use Rattle.base.specs.declared.datum.Symbol.{Symbol}
use Rattle.base.specs.declared.datum.Symbol.TheVariants.{Named, Fresh}
use Rattle.base.specs.Data.{Item, item, Content, integer, character, symbol, string, vector, nil, list}
use Rattle.base.specs.Data.{Items, no_item, item_and, Tail, no_tail, dotted}
use Rattle.base.specs.DataMeasures.{SymbolBelow, NamesBelow, NamesBelowInside, AllNamesBelow, NamesBelowTail}
use Rattle.lang_meaning.specs.declared.program.LiteralRow.{LiteralRow}
use Rattle.lang_meaning.specs.declared.program.LiteralRow.TheVariants as row
use Rattle.lang_meaning.specs.declared.program.Procedure.{Procedure}
use Rattle.lang_meaning.specs.declared.program.SlotRow.{SlotRow}
use Rattle.lang_meaning.specs.declared.program.ClassRow.{ClassRow}
use Rattle.lang_meaning.specs.declared.program.GenericRow.{GenericRow}
use Rattle.lang_meaning.specs.declared.program.FunctionRow.{FunctionRow}
use Rattle.lang_meaning.specs.declared.program.ProgramRows.{ProgramRows}
use Rattle.lang_meaning.specs.Form.{Form}
use Rattle.lang_meaning.specs.Inside.{inside_form}
use Rattle.front_profile.specs.ProgramNames.{own_names, NameIn, MaybeNameIn, FormNamesIn, LiteralNamesIn}
use Rattle.front_profile.specs.ProgramNames.{ProcedureNamesIn, SlotNamesIn, ClassNamesIn, NamesIn}
use Rattle.front_names.specs.Tests.{is_name_below, is_maybe_below, is_symbol_below, is_datum_below, is_content_below}
use Rattle.front_names.specs.Tests.{are_data_below, is_tail_below, are_own_below, is_form_below, is_literal_below}
use Rattle.front_names.specs.Tests.{is_procedure_below, is_slot_below, is_class_below, are_rows_below}

-- tests that tell, put together

both_tell : {P Q : Type 0} (a b : Bool) → IsTrue a ↔ P → IsTrue b ↔ Q → IsTrue (a && b) ↔ (P × Q)
both_tell true b p q = ((λ h. (p.0 refl, q.0 h)), λ h. q.1 h.1)
both_tell false b p q = ((λ h. absurd (cc h)), λ h. p.1 h.0)

all_tell : {X : Type 0} (P : X → Type 0) (f : X → Bool) → ((x : X) → IsTrue (f x) ↔ P x) → (xs : List X)
    → IsTrue (list_all f xs) ↔ AllOf P xs
all_tell P f h [] = ((λ e. tt), λ e. refl)
all_tell P f h (x ∷ xs) = both_tell (f x) (list_all f xs) (h x) (all_tell P f h xs)

always_tells : IsTrue true ↔ Unit {0}
always_tells = ((λ h. tt), λ h. refl)

-- data

module _ (count : ℕ) where
  below_told : (n : ℕ) → IsTrue (nat_lt n count) ↔ (n < count)
  below_told n = (ltb-true n count, lt-ltb n count)

  symbol_told : (s : Symbol) → IsTrue (is_symbol_below count s) ↔ SymbolBelow count s
  symbol_told (Named name) = below_told name.0
  symbol_told (Fresh expansion serial) = always_tells

  mutual
    unfolding NamesBelow

    datum_told : (d : Item) → IsTrue (is_datum_below count d) ↔ NamesBelow count d
    datum_told (item p c) = content_told c

    content_told : (c : Content) → IsTrue (is_content_below count c) ↔ NamesBelowInside count c
    content_told (integer n) = always_tells
    content_told (character c) = always_tells
    content_told (symbol s) = symbol_told s
    content_told (string bytes) = always_tells
    content_told (vector ds) = data_told ds
    content_told nil = always_tells
    content_told (list ds t) = both_tell (are_data_below count ds) (is_tail_below count t) (data_told ds) (tail_told t)

    data_told : (ds : Items) → IsTrue (are_data_below count ds) ↔ AllNamesBelow count ds
    data_told no_item = always_tells
    data_told (item_and d ds) =
        both_tell (is_datum_below count d) (are_data_below count ds) (datum_told d) (data_told ds)

    tail_told : (t : Tail) → IsTrue (is_tail_below count t) ↔ NamesBelowTail count t
    tail_told no_tail = always_tells
    tail_told (dotted d) = datum_told d

  -- forms

  form_told : (f : Form) → IsTrue (is_form_below count f) ↔ FormNamesIn count f
  form_told f =
      all_tell (λ g. AllOf (λ n. n < count) (own_names g)) (are_own_below count)
      (λ g. all_tell (λ n. n < count) (λ n. nat_lt n count) below_told (own_names g)) (inside_form f)

  -- rows

  name_told : (n : Name) → IsTrue (is_name_below count n) ↔ NameIn count n
  name_told n = below_told n.0

  maybe_told : (n : Option Name) → IsTrue (is_maybe_below count n) ↔ MaybeNameIn count n
  maybe_told None = always_tells
  maybe_told (Some n) = name_told n

  literal_told : (l : LiteralRow) → IsTrue (is_literal_below count l) ↔ LiteralNamesIn count l
  literal_told (row.Datum d) = datum_told d
  literal_told (row.Class c) = always_tells
  literal_told (row.Function name) = name_told name

  procedure_told : (p : Procedure) → IsTrue (is_procedure_below count p) ↔ ProcedureNamesIn count p
  procedure_told p =
      let body = form_told p.body in
      let both = both_tell (is_maybe_below count p.name) (is_form_below count p.body) (maybe_told p.name) body in
      ((λ h. record { name = (both.0 h).0; body = (both.0 h).1 }), λ h. both.1 (h.name, h.body))

  slot_told : (s : SlotRow) → IsTrue (is_slot_below count s) ↔ SlotNamesIn count s
  slot_told s =
      let initargs = all_tell (NameIn count) (is_name_below count) name_told s.initargs in
      let both = both_tell _ _ (name_told s.name) initargs in
      ((λ h. record { name = (both.0 h).0; initargs = (both.0 h).1 }), λ h. both.1 (h.name, h.initargs))

  class_told : (c : ClassRow) → IsTrue (is_class_below count c) ↔ ClassNamesIn count c
  class_told c =
      let slots = all_tell (SlotNamesIn count) (is_slot_below count) slot_told c.slots in
      let both = both_tell _ _ (name_told c.name) slots in
      ((λ h. record { name = (both.0 h).0; slots = (both.0 h).1 }), λ h. both.1 (h.name, h.slots))

  generic_told : (g : GenericRow) → IsTrue (is_name_below count g.name) ↔ NameIn count g.name
  generic_told g = name_told g.name

  function_told : (f : FunctionRow) → IsTrue (is_name_below count f.name) ↔ NameIn count f.name
  function_told f = name_told f.name

  -- the rows of a program together
  rows_tell : (rows : ProgramRows) → IsTrue (are_rows_below count rows) ↔ NamesIn count rows
  rows_tell rows =
      let literals = all_tell _ _ literal_told rows.literals in
      let procedures = all_tell _ _ procedure_told rows.procedures in
      let classes = all_tell _ _ class_told rows.classes in
      let generics = all_tell _ _ generic_told rows.generics in
      let functions = all_tell _ _ function_told rows.functions in
      let main = all_tell _ _ form_told rows.main in
      let two = both_tell _ _ literals procedures in
      let three = both_tell _ _ two classes in
      let four = both_tell _ _ three generics in
      let five = both_tell _ _ four functions in
      let six = both_tell _ _ five main in (
        (λ h.
            let all = six.0 h in
            record {
              literals = all.0.0.0.0.0;
              procedures = all.0.0.0.0.1;
              classes = all.0.0.0.1;
              generics = all.0.0.1;
              functions = all.0.1;
              main = all.1;
            }),
        λ h. six.1 (((((h.literals, h.procedures), h.classes), h.generics), h.functions), h.main),
      )

  pub rows_told : (result : Bool) (rows program : ProgramRows) → rows ≡ program → result ≡ are_rows_below count rows
      → IsTrue result ↔ NamesIn count program
  rows_told result rows program same is =
      let told = rows_tell program in
      let here : result ≡ are_rows_below count program = is ∙ ap (are_rows_below count) same in
      ((λ h. told.0 (sym here ∙ h)), λ h. here ∙ told.1 h)
