-- The items of a list, as a datum holds them.
use Rattle.std.specs.Prelude.{◌≡◌, List}
use Rattle.base.specs.Data.{Item, items_of, items_list}
use Rattle.base.specs.model.DataView.{items_list-items_of}

pub shown_items : (ds : List Item) → items_list (items_of ds) ≡ ds
shown_items ds = items_list-items_of ds
