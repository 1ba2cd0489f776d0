-- Forms inside, of data that are borrowed.
use Rattle.std.specs.Prelude.{◌≡◌, List, [], ◌∷◌}
use Rattle.std.specs.Borrow.{Bor}
use Rattle.std.proofs.Common.{refl, ap}
use Rattle.base.specs.Data.{Item}
use Rattle.front_profile.specs.Nodes.{inner}
use Rattle.front_profile.specs.RowWords.{each_inner}
use Rattle.front_drafts.specs.Views.{view_inner}
use Rattle.front_syntax.specs.Views.{data_of}

pub shown_inner : (ds : List (Bor Item)) → view_inner ds ≡ each_inner (data_of ds)
shown_inner [] = refl
shown_inner (d ∷ ds) = ap (λ xs. inner d.now ∷ xs) (shown_inner ds)
