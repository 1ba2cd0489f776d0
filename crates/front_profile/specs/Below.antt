-- Tables between which nothing is defined, and those with one procedure more: below top level nothing is defined, and a function of
-- a definition is one procedure (ISO/IEC 13816:2007, 12.7 and 15.1.2).
use Rattle.std.specs.Prelude.{◌≡◌, [], ◌∷◌, ◌++◌}
use Rattle.lang_meaning.specs.declared.program.Procedure.{Procedure}
use Rattle.front_profile.specs.declared.tables.Tables.{Tables}

-- classes, generic functions, functions, macros, variables and main forms are as they were
pub record SameNames (s t : Tables) : Type 0 where
  pub words : t.words ≡ s.words
  pub classes : t.classes ≡ s.classes
  pub prelude_classes : t.prelude_classes ≡ s.prelude_classes
  pub generics : t.generics ≡ s.generics
  pub functions : t.functions ≡ s.functions
  pub macros : t.macros ≡ s.macros
  pub prelude : t.prelude ≡ s.prelude
  pub globals : t.globals ≡ s.globals
  pub dynamics : t.dynamics ≡ s.dynamics
  pub main : t.main ≡ s.main

pub record NothingDefined (s t : Tables) : Type 0 where
  pub names : SameNames s t
  pub procedures : t.procedures ≡ s.procedures

pub record OneProcedure (s t : Tables) : Type 0 where
  pub names : SameNames s t
  pub procedure : Procedure
  pub procedures : t.procedures ≡ s.procedures ++ procedure ∷ []
