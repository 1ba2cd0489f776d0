-- What definitions ask of the tables: each generic function is the function of its name, and the classes of its methods are there. And
-- what a node makes of parts that stand suits the tables behind them.
use Rattle.std.specs.Prelude.{◌≡◌, ℕ, ◌<◌, Bool, true, nat_lt, List, length}
use Rattle.std.specs.List.{list_all}
use Rattle.lang_meaning.specs.declared.program.ClassRow.{ClassRow}
use Rattle.lang_meaning.specs.declared.program.GenericRow.{GenericRow}
use Rattle.lang_meaning.specs.declared.program.MethodRow.{MethodRow}
use Rattle.lang_meaning.specs.declared.program.FunctionRow.{FunctionRow}
use Rattle.front_profile.specs.declared.tables.Tables.{Tables}
use Rattle.front_profile.specs.declared.elaboration.Made.{Made}
use Rattle.front_profile.specs.Nodes.{StaticContext, Part, Node, offends, unnamed, steps, calls, whole}
use Rattle.front_profile.specs.Judged.{AllFound, all_stand, ElaboratesAll}
use Rattle.front_profile.specs.Suits.{Suits}
use Rattle.front_profile.specs.Definitions.{has_function}

-- the classes of a method, and of all methods of a generic function
abbrev pub method_there : ℕ → MethodRow → Bool
method_there n m = list_all (λ c. nat_lt c n) m.classes

abbrev pub methods_there : ℕ → GenericRow → Bool
methods_there n g = list_all (method_there n) g.methods

pub record KnownRows (classes : List ClassRow) (functions : List FunctionRow) (generics : List GenericRow) : Type 0 where
  pub some : 0 < length classes
  pub named : list_all (has_function functions) generics ≡ true
  pub there : list_all (methods_there (length classes)) generics ≡ true

abbrev pub KnownTables : Tables → Type 0
KnownTables s = KnownRows s.classes.rows s.functions s.generics

-- the parts of a node begin with tables that are known, and what is made of them suits the tables behind them
pub record MakesSuited (o i : StaticContext) (t : Tables) (xs : List Part) (m : Made) : Type 0 where
  pub known : KnownTables t
  pub suits : (names : List (List ℕ)) (all : AllFound) → ElaboratesAll names o i t xs (all_stand all) → Suits m.making all.tables

abbrev pub SuitsNode : Node → Type 0
SuitsNode (offends p r) = Unit {0}
SuitsNode unnamed = Unit {0}
SuitsNode (steps a t d) = KnownTables t
SuitsNode (calls a t m d) = KnownTables t
SuitsNode (whole o i t xs m) = MakesSuited o i t xs m
