-- Data as contracts see them.
use Rattle.std.specs.Prelude.{ℕ, ◌+◌, ℤ, List, [], ◌∷◌}
use Rattle.base.specs.declared.place.Place.{Place}
use Rattle.base.specs.declared.datum.Symbol.{Symbol}

mutual
  -- a datum: where it stands, and what it is
  pub data Item : Type 0 where
    item : Place → Content → Item

  pub data Content : Type 0 where
    integer : ℤ → Content
    character : ℕ → Content
    symbol : Symbol → Content
    string : List ℕ → Content
    vector : Items → Content
    nil : Content
    list : Items → Tail → Content

  pub data Items : Type 0 where
    no_item : Items
    item_and : Item → Items → Items

  -- what stands behind the dot of a list
  pub data Tail : Type 0 where
    no_tail : Tail
    dotted : Item → Tail

-- a list of data as the mirror's
abbrev pub items_of : List Item → Items
items_of [] = no_item
items_of (d ∷ ds) = item_and d (items_of ds)

-- the way back
abbrev pub items_list : Items → List Item
items_list no_item = []
items_list (item_and d ds) = d ∷ items_list ds

abbrev pub place_of : Item → Place
place_of (item p c) = p

abbrev pub content_of : Item → Content
content_of (item p c) = c

-- sizes by which recursions over data end
abbrev mutual
  pub item_size : Item → ℕ
  item_size (item p c) = content_size c + 1

  pub content_size : Content → ℕ
  content_size (integer n) = 1
  content_size (character n) = 1
  content_size (symbol s) = 1
  content_size (string bytes) = 1
  content_size (vector ds) = items_size ds + 1
  content_size nil = 1
  content_size (list ds t) = items_size ds + tail_size t + 1

  pub items_size : Items → ℕ
  items_size no_item = 1
  items_size (item_and d ds) = item_size d + items_size ds + 1

  pub tail_size : Tail → ℕ
  tail_size no_tail = 1
  tail_size (dotted d) = item_size d + 1
