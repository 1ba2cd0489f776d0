-- What judging adds to the tables stands behind what was there.
use Rattle.std.specs.Prelude.{◌≡◌, ◌≤◌, List, [], ◌∷◌, take, length}
use Rattle.lang_meaning.specs.declared.program.GenericRow.{GenericRow}
use Rattle.front_profile.specs.declared.tables.Tables.{Tables}

-- the first list stands in front of the second
abbrev pub StandsFirst : {X : Type 0} → List X → List X → Type 0
StandsFirst xs ys = take (length xs) ys ≡ xs

-- generic functions are as they were, but for methods behind those that they had, and others behind them
abbrev pub HasMore : GenericRow → GenericRow → Type 0
HasMore g h = (h.name ≡ g.name) × (h.required ≡ g.required) × (h.rest ≡ g.rest) × StandsFirst g.methods h.methods

abbrev pub AreThere : List GenericRow → List GenericRow → Type 0
AreThere [] hs = Unit {0}
AreThere (g ∷ gs) [] = ⊥
AreThere (g ∷ gs) (h ∷ hs) = HasMore g h × AreThere gs hs

pub record TablesGrow (s t : Tables) : Type 0 where
  pub words : t.words ≡ s.words
  pub classes : StandsFirst s.classes.rows t.classes.rows
  pub slots : StandsFirst s.classes.own t.classes.own
  pub generics : AreThere s.generics t.generics
  pub literals : StandsFirst s.literals t.literals
  pub procedures : StandsFirst s.procedures t.procedures
  pub functions : StandsFirst s.functions t.functions
  pub macros : StandsFirst s.macros t.macros
  pub prelude : StandsFirst s.prelude t.prelude
  pub globals : StandsFirst s.globals t.globals
  pub set : StandsFirst s.set t.set
  pub dynamics : StandsFirst s.dynamics t.dynamics
  pub sites : StandsFirst s.sites t.sites
  pub fresh : StandsFirst s.fresh t.fresh
  pub main : StandsFirst s.main t.main
  pub variables : s.variables ≤ t.variables
  pub exits : s.exits ≤ t.exits
  pub expansions : s.expansions ≤ t.expansions
  pub before : t.before ≡ s.before
