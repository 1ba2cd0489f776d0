-- The data of names: symbols, and lists of them.
use Rattle.std.proofs.Common.{◌≡◌, ℕ, suc, ◌+◌, ◌<◌, List, [], ◌∷◌, ◌++◌, length, map, Some, refl, ap, arith}
use Rattle.std.specs.Prelude.{◌≢◌, slice_get}
use Rattle.base.specs.declared.datum.Name.{Name}
use Rattle.base.specs.declared.datum.Symbol.TheVariants.{Named}
use Rattle.base.specs.Data.{Item, item, symbol, list, Items, items_of, no_item, no_tail}
use Rattle.base.specs.DataMeasures.{Formed, AllFormed, NamesBelow, AllNamesBelow, size_of, sizes_of}
use Rattle.base.specs.WellFormedData.{WellFormed}
use Rattle.lang_meaning.specs.State.{no_place}

-- the symbol of a name
abbrev pub name_item : Name → Item
name_item a = item no_place (symbol (Named a))

abbrev pub name_items : List Name → Items
name_items ns = items_of (map name_item ns)

pub symbol_good : (n : ℕ) (a : Name) → a.0 < n → WellFormed n (name_item a)
unfolding Formed NamesBelow
symbol_good n a h = record { formed = tt; named = h }

pub symbol_size : (a : Name) → size_of (name_item a) ≡ 1
unfolding size_of
symbol_size a = refl

names_formed : (ns : List Name) → AllFormed (name_items ns)
unfolding Formed
names_formed [] = tt
names_formed (a ∷ ns) = (tt, names_formed ns)

names_below : (n : ℕ) (ns : List Name) → ((i : ℕ) (a : Name) → slice_get ns i ≡ Some a → a.0 < n) → AllNamesBelow n (name_items ns)
unfolding NamesBelow
names_below n [] h = tt
names_below n (a ∷ ns) h = (h 0 a refl, names_below n ns (λ i b e. h (suc i) b e))

names_size : (ns : List Name) → sizes_of (name_items ns) ≡ length ns
unfolding size_of
names_size [] = refl
names_size (a ∷ ns) = let others : sizes_of (name_items ns) ≡ length ns = names_size ns in omega (arith, others)

-- a list of at least one
abbrev pub name_list : List Name → Item
name_list ns = item no_place (list (name_items ns) no_tail)

some_items : (ns : List Name) → (length ns ≡ 0 → ⊥) → name_items ns ≢ no_item
some_items [] h = absurd (h refl)
some_items (a ∷ ns) h = λ e. absurd (cc e)

pub list_good : (n : ℕ) (ns : List Name) → (length ns ≡ 0 → ⊥) → ((i : ℕ) (a : Name) → slice_get ns i ≡ Some a → a.0 < n) → WellFormed n (name_list ns)
unfolding Formed NamesBelow
list_good n ns some h = record { formed = (some_items ns some, names_formed ns, tt); named = (names_below n ns h, tt) }

pub list_size : (ns : List Name) → size_of (name_list ns) ≡ 1 + length ns
unfolding size_of
list_size ns = let items : sizes_of (name_items ns) ≡ length ns = names_size ns in omega (arith, items)

-- one more
pub one_more : (ns : List Name) (a : Name) → map name_item (ns ++ a ∷ []) ≡ map name_item ns ++ name_item a ∷ []
one_more [] a = refl
one_more (b ∷ ns) a = ap (λ xs. name_item b ∷ xs) (one_more ns a)
