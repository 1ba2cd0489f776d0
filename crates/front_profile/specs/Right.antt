-- What a datum has to come to: a form that stands there, fits, and is not too deep; with tables behind it that are sound.
use Rattle.std.specs.Prelude.{◌≡◌, ℕ, ◌+◌, ◌≤◌, Bool, true, false, if◌then◌else◌, length, [], ◌∷◌, ◌++◌}
use Rattle.lang_meaning.specs.declared.scope.LexicalScope.{LexicalScope}
use Rattle.lang_meaning.specs.Form.{Form}
use Rattle.lang_meaning.specs.Fits.{fits}
use Rattle.lang_meaning.specs.Standing.{stands}
use Rattle.lang_meaning.specs.Counts.{depth, all_nodes}
use Rattle.front_profile.specs.Marks.{TablesGrow}
use Rattle.front_profile.specs.Nodes.{StaticContext, Standing}
use Rattle.front_profile.specs.declared.tables.Tables.{Tables}
use Rattle.front_profile.specs.Definitions.{Definitions, defined, rows_of, Later, Undefined, procedure_count, SoundDefinitions, EachStands}
use Rattle.front_profile.specs.Numbers.{Numbered}
use Rattle.front_profile.specs.Places.{scope_of}

-- a form that stands in that scope, inside so many others
pub record RightIn (g : Definitions) (s : LexicalScope) (n : ℕ) (f : Form) : Type 0 where
  pub stands : stands s f ≡ true
  pub fits : fits (rows_of g) f ≡ true
  pub deep : depth f + n ≤ 1000

abbrev pub RightAt : Definitions → StaticContext → Form → Type 0
RightAt g a f = RightIn g (scope_of a) a.spot.depth f

-- what later tables have kept: they are sound, each procedure stands where all did, and below top level nothing is defined
pub record Behind (top : Bool) (g h : Definitions) : Type 0 where
  pub later : Later g h
  pub sound : SoundDefinitions h
  pub stand : EachStands g → EachStands h
  pub main : h.main ≡ g.main
  pub inside : top ≡ false → Undefined g h

-- the sites are more by no more than these nodes and those of new procedures, and where forms have no sites by no more
-- than those of new procedures
pub record NodesCounted (sited : Bool) (g h : Definitions) (n : ℕ) : Type 0 where
  pub sites : length h.sites + procedure_count g ≤ length g.sites + (if sited then n else 0) + procedure_count h

-- a datum came to a form that is right there, and to sound tables
pub record Came (a : StaticContext) (s : Tables) (m : Standing) : Type 0 where
  pub right : RightAt (defined m.tables) a m.form
  pub behind : Behind a.spot.top (defined s) (defined m.tables)
  pub counted : NodesCounted a.spot.sited (defined s) (defined m.tables) (all_nodes m.form)
  pub numbered : Numbered (defined s) (defined m.tables) m.form
  pub grown : TablesGrow s m.tables

-- with a main form more
abbrev pub with_main : Form → Tables → Tables
with_main f t = record t { main = t.main ++ f ∷ [] }
