-- What data make: the objects of literals, which are constants (ISO/IEC 13816:2007, 14.1). And the rows of functions and of slots.
use Rattle.std.specs.Prelude.{ℕ, ◌+◌, List, [], ◌∷◌, ◌++◌, Option, Some, None, length, if◌then◌else◌}
use Rattle.std.specs.Str.{bytes_eq}
use Rattle.base.specs.Data as datum
use Rattle.base.specs.declared.datum.Symbol.{Symbol}
use Rattle.base.specs.declared.datum.Symbol.TheVariants.{Named, Fresh}
use Rattle.lang_meaning.specs.declared.program.SlotRow.{SlotRow}
use Rattle.lang_meaning.specs.declared.program.ClassRow.{ClassRow}
use Rattle.lang_meaning.specs.declared.program.FunctionRow.{FunctionRow}
use Rattle.lang_meaning.specs.Values.{SymbolValue, named, unnamed, Value, integer, character, symbol, nil, object}
use Rattle.lang_meaning.specs.Objects.{Object, cons, string, vector}
use Rattle.lang_meaning.specs.Lookup.{text}

-- what a datum comes to from an object number on: the objects that it makes, and its value
pub record Laid : Type 0 where
  pub objects : List Object
  pub value : Value

abbrev pub no_object : Value → Laid
no_object v = record { objects = []; value = v }

abbrev pub symbol_of : List (List ℕ) → Symbol → SymbolValue
symbol_of names (Named name) = named (text names name.0)
symbol_of names (Fresh expansion serial) = unnamed expansion serial

-- an object after those of its parts
abbrev pub after_parts : ℕ → List Object → Object → Laid
after_parts n parts made = record { objects = parts ++ made ∷ []; value = object (n + length parts) }

abbrev mutual
  pub lay : List (List ℕ) → datum.Item → ℕ → Laid
  lay names (datum.item p c) n = lay_content names c n

  pub lay_content : List (List ℕ) → datum.Content → ℕ → Laid
  lay_content names (datum.integer i) n = no_object (integer i)
  lay_content names (datum.character c) n = no_object (character c)
  lay_content names (datum.symbol s) n = no_object (symbol (symbol_of names s))
  lay_content names (datum.string bytes) n = after_parts n [] (string bytes)
  lay_content names (datum.vector ds) n = let parts = lay_items names ds n in after_parts n parts.0 (vector parts.1)
  lay_content names datum.nil n = no_object nil
  lay_content names (datum.list ds end) n = lay_list names ds (lay_tail names end) n

  -- the objects of data, and their values
  pub lay_items : List (List ℕ) → datum.Items → ℕ → List Object × List Value
  lay_items names datum.no_item n = ([], [])
  lay_items names (datum.item_and d ds) n =
      let first = lay names d n in
      let others = lay_items names ds (n + length first.objects) in
      (first.objects ++ others.0, first.value ∷ others.1)

  -- a list is conses, with its end after them
  pub lay_list : List (List ℕ) → datum.Items → (ℕ → Laid) → ℕ → Laid
  lay_list names datum.no_item end n = end n
  lay_list names (datum.item_and d ds) end n =
      let first = lay names d n in
      let others = lay_list names ds end (n + length first.objects) in
      after_parts n (first.objects ++ others.objects) (cons first.value others.value)

  pub lay_tail : List (List ℕ) → datum.Tail → ℕ → Laid
  lay_tail names datum.no_tail n = no_object nil
  lay_tail names (datum.dotted d) n = lay names d n

-- the row of a function, by its name's text
abbrev pub function_row : List (List ℕ) → List FunctionRow → List ℕ → Option FunctionRow
function_row names [] name = None
function_row names (f ∷ fs) name = if bytes_eq name (text names f.name.0) then Some f else function_row names fs name

-- all slots, class by class
abbrev pub all_slots : List ClassRow → List SlotRow
all_slots [] = []
all_slots (c ∷ cs) = c.slots ++ all_slots cs
