-- What trees mean: data, with symbols numbered by a table of names.
use Rattle.std.specs.Prelude.{◌≡◌, ℕ, suc, List, [], ◌∷◌, ◌++◌, Option, Some, None, if◌then◌else◌, codes}
use Rattle.std.specs.Str.{bytes_eq}
use Rattle.base.specs.declared.place.Place.{Place}
use Rattle.base.specs.declared.datum.Symbol.TheVariants.{Named}
use Rattle.base.specs.Data.{Item, item, Content, integer, character, symbol, string, vector, nil, list, Items, no_item, item_and, items_of, no_tail, dotted}
use Rattle.front_reader.specs.declared.opening.Prefix.{Prefix}
use Rattle.front_reader.specs.declared.opening.Prefix.TheVariants.{Quote, Quasiquote, Unquote, UnquoteSplicing, Function}
use Rattle.front_reader.specs.Characters.{place_behind}
use Rattle.front_reader.specs.Atoms.{Atom, an_integer, a_character, a_symbol, a_string}
use Rattle.front_reader.specs.Trees.{Tree, atom, proper, improper, row, prefixed, Trees, no_tree, then_tree, prefix_bytes, behind_all}

abbrev pub one_later : Option ℕ → Option ℕ
one_later None = None
one_later (Some n) = Some (suc n)

-- the number of a text in a table
unfoldable pub number_in : List (List ℕ) → List ℕ → Option ℕ
number_in [] text = None
number_in (t ∷ ts) text = if bytes_eq text t then Some 0 else one_later (number_in ts text)

-- the symbol with a number
abbrev pub named : Option ℕ → Option Content
named None = None
named (Some n) = Some (symbol (Named (record { 0 = n })))

-- what an atom is, where names have these numbers: the symbol `nil` is the empty list
abbrev pub atom_content : (List ℕ → Option ℕ) → Atom → Option Content
atom_content number (an_integer n) = Some (integer n)
atom_content number (a_character c) = Some (character c)
atom_content number (a_symbol name) =
    if bytes_eq name (codes "nil") then Some nil else named (number name)
atom_content number (a_string bytes) = Some (string bytes)

-- the symbol of a prefix
abbrev pub prefix_name : Prefix → List ℕ
prefix_name Quote = codes "quote"
prefix_name Quasiquote = codes "quasiquote"
prefix_name Unquote = codes "unquote"
prefix_name UnquoteSplicing = codes "unquote-splicing"
prefix_name Function = codes "function"

-- a list of data: `()` is nil
abbrev pub list_content : List Item → Content
list_content [] = nil
list_content (d ∷ ds) = list (items_of (d ∷ ds)) no_tail

-- data in front of items
abbrev pub in_front : List Item → Items → Items
in_front [] es = es
in_front (d ∷ ds) es = item_and d (in_front ds es)

-- data with one behind the dot: a list or nil there is joined
abbrev pub joined : List Item → Item → Content
joined ds (item p (integer n)) = list (items_of ds) (dotted (item p (integer n)))
joined ds (item p (character c)) = list (items_of ds) (dotted (item p (character c)))
joined ds (item p (symbol s)) = list (items_of ds) (dotted (item p (symbol s)))
joined ds (item p (string bytes)) = list (items_of ds) (dotted (item p (string bytes)))
joined ds (item p (vector es)) = list (items_of ds) (dotted (item p (vector es)))
joined ds (item p nil) = list (items_of ds) no_tail
joined ds (item p (list es t)) = list (in_front ds es) t

-- the list of the symbol with this number and a datum, both lists at the prefix's place
abbrev pub prefix_item : Place → ℕ → Item → Item
prefix_item p n d =
    item p (list (item_and (item p (symbol (Named (record { 0 = n })))) (item_and d no_item)) no_tail)

-- `Means number p t d`: the tree t at place p is the datum d
unfoldable mutual
  pub Means : (List ℕ → Option ℕ) → Place → Tree → Item → Type 0
  Means number p (atom b a) d = (c : Content) × ((atom_content number a ≡ Some c) × (d ≡ item p c))
  Means number p (proper ts g) d =
      (ds : List Item) × (MeansAll number (place_behind p (40 ∷ [])) ts ds × (d ≡ item p (list_content ds)))
  Means number p (improper ts g h t i) d =
      (ds : List Item) × ((e : Item) ×
      (MeansAll number (place_behind p (40 ∷ [])) ts ds
      × Means number (place_behind (place_behind (place_behind (behind_all (place_behind p (40 ∷ [])) ts) g) (46 ∷ [])) h) t e
      × (d ≡ item p (joined ds e))))
  Means number p (row ts g) d =
      (ds : List Item) × (MeansAll number (place_behind p (35 ∷ 40 ∷ [])) ts ds × (d ≡ item p (vector (items_of ds))))
  Means number p (prefixed x g t) d =
      (n : ℕ) × ((e : Item) ×
      ((number (prefix_name x) ≡ Some n)
      × Means number (place_behind (place_behind p (prefix_bytes x)) g) t e
      × (d ≡ prefix_item p n e)))

  pub MeansAll : (List ℕ → Option ℕ) → Place → Trees → List Item → Type 0
  MeansAll number p no_tree ds = ds ≡ []
  MeansAll number p (then_tree ts g t) ds =
      (es : List Item) × ((e : Item) ×
      (MeansAll number p ts es
      × Means number (place_behind (behind_all p ts) g) t e
      × (ds ≡ es ++ e ∷ [])))
