-- Whether one of two lists behind one another passes a test.
use Rattle.std.proofs.Common.{◌≡◌, Bool, ◌||◌, List, ◌++◌}
use Rattle.std.specs.List.{list_any}
use Rattle.std.proofs.lemmas.List.Folds.{list_any-append}

pub any_of_both : {X : Type 0} (p : X → Bool) (xs ys : List X) → list_any p (xs ++ ys) ≡ (list_any p xs || list_any p ys)
any_of_both p xs ys = list_any-append p xs ys
