-- The functions of names, by their numbers.
use Rattle.std.specs.Prelude.{◌≡◌, ℕ, List, Option, slice_index_or}
use Rattle.lang_meaning.specs.declared.program.FunctionRow.{FunctionRow}
use Rattle.lang_meaning.specs.Literals.{function_row}
use Rattle.lang_meaning.specs.Lookup.{text}
use Rattle.back_uses.specs.declared.functions.Lookups.{Lookups}

-- rows by numbers, and a row for all numbers behind them, have the function of each name
abbrev pub AreFunctions : (names : List (List ℕ)) → List FunctionRow → (rows : List (Option FunctionRow)) → (unnamed : Option FunctionRow) → Type 0
AreFunctions names functions rows unnamed = (n : ℕ) → slice_index_or rows n unnamed ≡ function_row names functions (text names n)

abbrev pub HasFunctions : Lookups → Type 0
HasFunctions lookups = AreFunctions lookups.names.now lookups.program.now.functions lookups.rows.now lookups.unnamed
