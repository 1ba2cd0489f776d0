-- What the tables say of a program.
use Rattle.std.specs.Prelude.{◌≡◌, ℕ, false, Some, slice_get, slice_index_or}
use Rattle.lang_meaning.specs.Lookup.{text}
use Rattle.lang_meaning.specs.Literals.{function_row}
use Rattle.flat_language.specs.declared.program.FlatProcedure.{FlatProcedure}
use Rattle.back_lowering.specs.Calls.{is_method}
use Rattle.back_lowering.specs.Sites.{asks_site}
use Rattle.back_calls.specs.declared.given.Given.{Given}

pub record IsTabled (given : Given) : Type 0 where
  -- which procedures are methods
  pub methods : (p : ℕ) (q : FlatProcedure) → slice_get given.program.now.procedures p ≡ Some q
      → slice_index_or given.tables.now.methods p false ≡ is_method given.program.now p
  -- whose body looks at the site
  pub asking : (p : ℕ) (q : FlatProcedure) → slice_get given.program.now.procedures p ≡ Some q
      → slice_index_or given.tables.now.asking p false ≡ asks_site q.body
  -- the function of each name
  pub rows : (n : ℕ)
      → slice_index_or given.tables.now.rows n given.tables.now.unnamed ≡ function_row given.names.now given.program.now.functions (text given.names.now n)
