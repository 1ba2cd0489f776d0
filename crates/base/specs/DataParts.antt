-- The parts of a datum: the items of a list or a vector, and what stands behind the dot of a list.
use Rattle.std.specs.Prelude.{List, [], ◌∷◌}
use Rattle.base.specs.AllOf.{AllOf}
use Rattle.base.specs.Data.{Item, item, Content, integer, character, symbol, string, vector, nil, list}
use Rattle.base.specs.Data.{Items, no_item, item_and, items_of, items_list, Tail, no_tail, dotted}

-- it holds of each item
abbrev pub AllItems : (Item → Type 0) → Items → Type 0
AllItems P no_item = Unit {0}
AllItems P (item_and d ds) = P d × AllItems P ds

-- it holds of what stands behind the dot
abbrev pub OfDotted : (Item → Type 0) → Tail → Type 0
OfDotted P no_tail = Unit {0}
OfDotted P (dotted d) = P d

-- it holds of each part of a datum
abbrev pub AllPartsInside : (Item → Type 0) → Content → Type 0
AllPartsInside P (integer n) = Unit {0}
AllPartsInside P (character c) = Unit {0}
AllPartsInside P (symbol s) = Unit {0}
AllPartsInside P (string bytes) = Unit {0}
AllPartsInside P (vector ds) = AllItems P ds
AllPartsInside P nil = Unit {0}
AllPartsInside P (list ds t) = AllItems P ds × OfDotted P t

abbrev pub AllParts : (Item → Type 0) → Item → Type 0
AllParts P (item p c) = AllPartsInside P c

-- the items of a list of the code, and of one of a datum

pub of_items : (P : Item → Type 0) (ds : List Item) → AllItems P (items_of ds) → AllOf P ds
of_items P [] h = tt
of_items P (d ∷ ds) h = (h.0, of_items P ds h.1)

pub to_items : (P : Item → Type 0) (ds : List Item) → AllOf P ds → AllItems P (items_of ds)
to_items P [] h = tt
to_items P (d ∷ ds) h = (h.0, to_items P ds h.1)

pub of_list : (P : Item → Type 0) (ds : Items) → AllItems P ds → AllOf P (items_list ds)
of_list P no_item h = tt
of_list P (item_and d ds) h = (h.0, of_list P ds h.1)
