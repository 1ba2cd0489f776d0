-- A datum with all its parts at one place.
use Rattle.base.specs.declared.place.Place.{Place}
use Rattle.base.specs.Data.{Item, item, Content, integer, character, symbol, string, vector, nil, list}
use Rattle.base.specs.Data.{Items, no_item, item_and, Tail, no_tail, dotted}

abbrev mutual
  pub at_place : Place → Item → Item
  at_place p (item q c) = item p (content_at_place p c)

  pub content_at_place : Place → Content → Content
  content_at_place p (integer n) = integer n
  content_at_place p (character c) = character c
  content_at_place p (symbol s) = symbol s
  content_at_place p (string bytes) = string bytes
  content_at_place p (vector ds) = vector (items_at_place p ds)
  content_at_place p nil = nil
  content_at_place p (list ds t) = list (items_at_place p ds) (tail_at_place p t)

  pub items_at_place : Place → Items → Items
  items_at_place p no_item = no_item
  items_at_place p (item_and d ds) = item_and (at_place p d) (items_at_place p ds)

  pub tail_at_place : Place → Tail → Tail
  tail_at_place p no_tail = no_tail
  tail_at_place p (dotted d) = dotted (at_place p d)
