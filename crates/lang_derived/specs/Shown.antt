-- What contracts see behind a reference that may be missing.
use Rattle.std.specs.Prelude.{Option, Some, None}
use Rattle.std.specs.Borrow.{Bor}
use Rattle.base.specs.Data.{Item, Tail, no_tail, dotted}

abbrev pub datum_shown : Option (Bor Item) → Option Item
datum_shown None = None
datum_shown (Some d) = Some d.now

-- the tail of a list with that datum behind the dot
abbrev pub tail_shown : Option (Bor Item) → Tail
tail_shown None = no_tail
tail_shown (Some d) = dotted d.now
