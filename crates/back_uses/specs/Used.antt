-- Names that are used, in one list for each way.
use Rattle.std.specs.Prelude.{◌≡◌, ℕ, List, ◌++◌, map}
use Rattle.base.specs.declared.datum.Name.{Name}
use Rattle.back_words.specs.Uses.{Use, globals_among, dynamics_among, symbols_among}
use Rattle.back_uses.specs.declared.used.UsedNames.{UsedNames}

-- numbers of names as names
abbrev pub named : List ℕ → List Name
named ns = map (λ n. record { 0 = n }) ns

-- the names of these uses, in their order, and no others
pub record AreUsed (us : List Use) (used : UsedNames) : Type 0 where
  pub globals : used.globals ≡ globals_among us
  pub dynamics : used.dynamics ≡ dynamics_among us
  pub symbols : used.symbols ≡ named (symbols_among us)

-- behind those that were there
pub record AreAdded (old : UsedNames) (us : List Use) (new : UsedNames) : Type 0 where
  pub globals : new.globals ≡ old.globals ++ globals_among us
  pub dynamics : new.dynamics ≡ old.dynamics ++ dynamics_among us
  pub symbols : new.symbols ≡ old.symbols ++ named (symbols_among us)
