-- Data that a call may be given: in form, and with all their names in the table.
use Rattle.std.specs.Prelude.{◌≡◌, ℕ, ◌≤◌, List, length, Some, slice_get}
use Rattle.base.specs.declared.place.Place.{Place}
use Rattle.base.specs.Names.{Extends, no_shorter}
use Rattle.base.specs.Data.{Item, item, integer, character, symbol, string, vector, nil, list}
use Rattle.base.specs.Data.{Items, no_item, item_and, items_of, Tail, no_tail, dotted}
use Rattle.base.specs.DataMeasures.{Formed, AllFormed, FormedTail, NamesBelow, AllNamesBelow, NamesBelowTail}
use Rattle.base.specs.AllOf.{AllOf, all_at, all_map}
use Rattle.base.specs.DataParts.{AllItems, OfDotted, AllParts, of_items}
use Rattle.base.specs.DataNames.{below_later}

-- in form, with all names below that number
pub record WellFormed (n : ℕ) (d : Item) : Type 0 where
  pub formed : Formed d
  pub named : NamesBelow n d

-- each part of data in form is in form

all_formed : (ds : Items) → AllFormed ds → AllItems Formed ds
unfolding Formed
all_formed no_item h = tt
all_formed (item_and d ds) h = (h.0, all_formed ds h.1)

formed_tail : (t : Tail) → FormedTail t → OfDotted Formed t
unfolding Formed
formed_tail no_tail h = tt
formed_tail (dotted (item p c)) h = h.1

pub formed_parts : (d : Item) → Formed d → AllParts Formed d
unfolding Formed
formed_parts (item p (integer n)) h = tt
formed_parts (item p (character c)) h = tt
formed_parts (item p (symbol s)) h = tt
formed_parts (item p (string bytes)) h = tt
formed_parts (item p (vector ds)) h = all_formed ds h
formed_parts (item p nil) h = tt
formed_parts (item p (list ds t)) h = (all_formed ds h.1, formed_tail t h.2)

-- each name of a part is a name of the datum

all_below : (n : ℕ) (ds : Items) → AllNamesBelow n ds → AllItems (NamesBelow n) ds
unfolding NamesBelow
all_below n no_item h = tt
all_below n (item_and d ds) h = (h.0, all_below n ds h.1)

tail_below : (n : ℕ) (t : Tail) → NamesBelowTail n t → OfDotted (NamesBelow n) t
unfolding NamesBelow
tail_below n no_tail h = tt
tail_below n (dotted d) h = h

pub below_parts : (n : ℕ) (d : Item) → NamesBelow n d → AllParts (NamesBelow n) d
unfolding NamesBelow
below_parts n (item p (integer z)) h = tt
below_parts n (item p (character c)) h = tt
below_parts n (item p (symbol s)) h = tt
below_parts n (item p (string bytes)) h = tt
below_parts n (item p (vector ds)) h = all_below n ds h
below_parts n (item p nil) h = tt
below_parts n (item p (list ds t)) h = (all_below n ds h.0, tail_below n t h.1)

-- so each part of such data is such a datum

all_good : (n : ℕ) (ds : Items) → AllItems Formed ds → AllItems (NamesBelow n) ds → AllItems (WellFormed n) ds
all_good n no_item g h = tt
all_good n (item_and d ds) g h = (record { formed = g.0; named = h.0 }, all_good n ds g.1 h.1)

tail_good : (n : ℕ) (t : Tail) → OfDotted Formed t → OfDotted (NamesBelow n) t → OfDotted (WellFormed n) t
tail_good n no_tail g h = tt
tail_good n (dotted d) g h = record { formed = g; named = h }

-- the items of a list
pub good_items : (n : ℕ) (p : Place) (ds : List Item) (t : Tail) → WellFormed n (item p (list (items_of ds) t)) → AllOf (WellFormed n) ds
good_items n p ds t g =
    of_items (WellFormed n) ds (all_good n (items_of ds) (formed_parts _ g.formed).0 (below_parts n _ g.named).0)

-- what stands behind its dot
pub good_tail : (n : ℕ) (p : Place) (ds : Items) (t : Tail) → WellFormed n (item p (list ds t)) → OfDotted (WellFormed n) t
good_tail n p ds t g = tail_good n t (formed_parts _ g.formed).1 (below_parts n _ g.named).1

-- the items of a vector
pub good_elements : (n : ℕ) (p : Place) (ds : List Item) → WellFormed n (item p (vector (items_of ds))) → AllOf (WellFormed n) ds
good_elements n p ds g =
    of_items (WellFormed n) ds (all_good n (items_of ds) (formed_parts _ g.formed) (below_parts n _ g.named))

-- an item of such data
pub good_at : (n : ℕ) (ds : List Item) (i : ℕ) (d : Item) → AllOf (WellFormed n) ds → slice_get ds i ≡ Some d → WellFormed n d
good_at n ds i d h e = all_at (WellFormed n) ds i d h e

-- such data stay so under a later table of names
pub good_later : (n m : ℕ) (d : Item) → n ≤ m → WellFormed n d → WellFormed m d
good_later n m d e g = record { formed = g.formed; named = below_later n m d e g.named }

pub good_stays : (old new : List (List ℕ)) (d : Item) → Extends old new → WellFormed (length old) d → WellFormed (length new) d
good_stays old new d e g = good_later (length old) (length new) d (no_shorter old new e) g

pub all_good_stay : (old new : List (List ℕ)) (ds : List Item) → Extends old new → AllOf (WellFormed (length old)) ds → AllOf (WellFormed (length new)) ds
all_good_stay old new ds e g = all_map (WellFormed (length old)) (WellFormed (length new)) (λ d. good_stays old new d e) ds g
