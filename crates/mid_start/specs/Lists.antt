-- Lists that grow at their ends.
use Rattle.std.specs.Prelude.{◌≡◌, List, ◌++◌}

-- the old list is a beginning of the new one
pub record IsBeginning {X : Type 0} (old new : List X) : Type 0 where
  pub added : List X
  pub begins : new ≡ old ++ added
