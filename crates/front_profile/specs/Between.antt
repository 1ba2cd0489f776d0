-- The tables between top-level forms: whole, with the built-in classes, and with no more sites than nodes.
use Rattle.std.specs.Prelude.{◌≡◌, []}
use Rattle.front_profile.specs.declared.tables.Tables.{Tables}
use Rattle.front_profile.specs.Definitions.{defined, WholeTables, FewSites}
use Rattle.front_profile.specs.Classes.{BeginsBuiltIn}

pub record TopLevelTables (t : Tables) : Type 0 where
  pub whole : WholeTables t
  pub classes : BeginsBuiltIn t.classes.rows
  pub sites : FewSites (defined t)

-- tables in which no form has left anything
pub record HasNoForm (t : Tables) : Type 0 where
  pub literals : t.literals ≡ []
  pub procedures : t.procedures ≡ []
  pub generics : t.generics ≡ []
  pub functions : t.functions ≡ []
  pub macros : t.macros ≡ []
  pub main : t.main ≡ []
  pub sites : t.sites ≡ []
