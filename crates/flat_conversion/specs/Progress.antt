-- How far the walk has come.
use Rattle.std.specs.Prelude.{◌≡◌, List, ◌∷◌, drop}
use Rattle.flat_conversion.specs.declared.progress.Progress.{Progress}
use Rattle.flat_conversion.specs.declared.variables.Binder.{Binder}

-- the first binder that is left is passed
pub record ComesNext (table : List Binder) (before after : Progress) (next : Binder) : Type 0 where
  pub lambdas : after.lambdas ≡ before.lambdas
  pub so : (x : Binder) (xs : List Binder) → drop before.binders table ≡ x ∷ xs → (next ≡ x) × (drop after.binders table ≡ xs)
