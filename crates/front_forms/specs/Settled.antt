-- What the steps of a form change of the tables: the new symbols alone.
use Rattle.std.specs.Prelude.{List}
use Rattle.base.specs.declared.datum.Symbol.{Symbol}
use Rattle.front_profile.specs.declared.tables.Tables.{Tables}

-- the tables with these new symbols
abbrev pub with_symbols : List Symbol → Tables → Tables
with_symbols after t = record t { fresh = after }
