-- The size and the depth of a datum, and which data are in form.
use Rattle.std.specs.Prelude.{◌≢◌, ℕ, ◌+◌, ◌/◌, ◌<◌, max, pos, negsuc, ◌≤ℤ◌, length}
use Rattle.base.specs.declared.datum.Symbol.{Symbol}
use Rattle.base.specs.declared.datum.Symbol.TheVariants.{Named, Fresh}
use Rattle.base.specs.Data.{Item, item, Content, integer, character, symbol, string, vector, nil, list}
use Rattle.base.specs.Data.{Items, no_item, item_and, Tail, no_tail, dotted}

-- the size: one a datum, and one for four bytes begun of a string
unfoldable mutual
  pub size_of : Item → ℕ
  size_of (item p c) = 1 + size_inside c

  pub size_inside : Content → ℕ
  size_inside (integer n) = 0
  size_inside (character c) = 0
  size_inside (symbol s) = 0
  size_inside (string bytes) = (length bytes + 3) / 4
  size_inside (vector ds) = sizes_of ds
  size_inside nil = 0
  size_inside (list ds t) = sizes_of ds + size_of_tail t

  pub sizes_of : Items → ℕ
  sizes_of no_item = 0
  sizes_of (item_and d ds) = size_of d + sizes_of ds

  pub size_of_tail : Tail → ℕ
  size_of_tail no_tail = 0
  size_of_tail (dotted d) = size_of d

-- the depth: how many lists and vectors stand inside one another
unfoldable mutual
  pub depth_of : Item → ℕ
  depth_of (item p c) = depth_inside c

  pub depth_inside : Content → ℕ
  depth_inside (integer n) = 0
  depth_inside (character c) = 0
  depth_inside (symbol s) = 0
  depth_inside (string bytes) = 0
  depth_inside (vector ds) = 1 + depths_of ds
  depth_inside nil = 0
  depth_inside (list ds t) = 1 + max (depths_of ds) (depth_of_tail t)

  -- the greatest depth of a list of data
  pub depths_of : Items → ℕ
  depths_of no_item = 0
  depths_of (item_and d ds) = max (depth_of d) (depths_of ds)

  pub depth_of_tail : Tail → ℕ
  depth_of_tail no_tail = 0
  depth_of_tail (dotted d) = depth_of d

-- neither the empty list nor a list
abbrev pub IsNoList : Content → Type 0
IsNoList (integer n) = Unit {0}
IsNoList (character c) = Unit {0}
IsNoList (symbol s) = Unit {0}
IsNoList (string bytes) = Unit {0}
IsNoList (vector ds) = Unit {0}
IsNoList nil = ⊥
IsNoList (list ds t) = ⊥

-- a datum in form, with all its parts: an integer has 30 bits, a list has an item, and a tail is neither
-- the empty list nor a list
unfoldable mutual
  pub Formed : Item → Type 0
  Formed (item p c) = FormedInside c

  pub FormedInside : Content → Type 0
  FormedInside (integer n) = (negsuc 536870911 ≤ℤ n) × (n ≤ℤ pos 536870911)
  FormedInside (character c) = Unit {0}
  FormedInside (symbol s) = Unit {0}
  FormedInside (string bytes) = Unit {0}
  FormedInside (vector ds) = AllFormed ds
  FormedInside nil = Unit {0}
  FormedInside (list ds t) = (ds ≢ no_item) × AllFormed ds × FormedTail t

  pub AllFormed : Items → Type 0
  AllFormed no_item = Unit {0}
  AllFormed (item_and d ds) = Formed d × AllFormed ds

  pub FormedTail : Tail → Type 0
  FormedTail no_tail = Unit {0}
  FormedTail (dotted (item p c)) = IsNoList c × FormedInside c

-- the name of the symbol, where it has one, is below that number
abbrev pub SymbolBelow : ℕ → Symbol → Type 0
SymbolBelow n (Named name) = name.0 < n
SymbolBelow n (Fresh expansion serial) = Unit {0}

-- each name of a symbol of the datum is below that number: it is in a table of so many names
unfoldable mutual
  pub NamesBelow : ℕ → Item → Type 0
  NamesBelow n (item p c) = NamesBelowInside n c

  pub NamesBelowInside : ℕ → Content → Type 0
  NamesBelowInside n (integer z) = Unit {0}
  NamesBelowInside n (character c) = Unit {0}
  NamesBelowInside n (symbol s) = SymbolBelow n s
  NamesBelowInside n (string bytes) = Unit {0}
  NamesBelowInside n (vector ds) = AllNamesBelow n ds
  NamesBelowInside n nil = Unit {0}
  NamesBelowInside n (list ds t) = AllNamesBelow n ds × NamesBelowTail n t

  pub AllNamesBelow : ℕ → Items → Type 0
  AllNamesBelow n no_item = Unit {0}
  AllNamesBelow n (item_and d ds) = NamesBelow n d × AllNamesBelow n ds

  pub NamesBelowTail : ℕ → Tail → Type 0
  NamesBelowTail n no_tail = Unit {0}
  NamesBelowTail n (dotted d) = NamesBelow n d
