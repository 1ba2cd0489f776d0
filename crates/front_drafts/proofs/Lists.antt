-- What binds nothing, and has nothing inside.
use Rattle.std.specs.Prelude.{◌≡◌, List, [], ◌++◌}
use Rattle.std.proofs.lemmas.List.{append-nil}
use Rattle.front_profile.specs.Nodes.{Part}
use Rattle.front_profile.specs.declared.bound.Bound.{Bound}

-- nothing more is bound
pub nothing_bound : (bs : List Bound) → bs ++ [] ≡ bs
nothing_bound bs = append-nil bs

-- nothing stands inside
pub nothing_inside : (xs : List Part) → xs ++ [] ≡ xs
nothing_inside xs = append-nil xs
