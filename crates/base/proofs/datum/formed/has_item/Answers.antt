-- A list of one or more has an item.
use Rattle.std.proofs.Common.{◌≡◌, ◌≤◌, true, List, [], ◌∷◌, length, refl, subst, arith}
use Rattle.base.specs.Data.{Item, items_of}
use Rattle.base.specs.DataFormed.{is_some_item}
use Rattle.base.proofs.datum.formed.has_item.Goals as goal

some_item : (ds : List Item) → 1 ≤ length ds → true ≡ is_some_item (items_of ds)
some_item [] h = absurd (omega (arith, h))
some_item (d ∷ ds) h = refl

pub returns-in-len1-up : goal.returns-in-len1-up
returns-in-len1-up c =
    subst (λ ds. true ≡ is_some_item (items_of ds)) c.as_slice.ensures (some_item c.as_slice.result.now c.in-len1-up.len_at_least)
