-- The text of a symbol's name in a table of names; a datum whose names are in a table has the same under a later one.
use Rattle.std.specs.Prelude.{◌≡◌, ℕ, zero, suc, ◌<◌, ◌≤◌, List, [], ◌∷◌, ◌++◌, length, Option, None, slice_get, refl}
use Rattle.std.proofs.Common.{arith, ap, sym, ◌∙◌}
use Rattle.base.specs.declared.datum.Symbol.{Symbol}
use Rattle.base.specs.declared.datum.Symbol.TheVariants.{Named, Fresh}
use Rattle.base.specs.Names.{Extends, no_shorter}
use Rattle.base.specs.Data.{Item, item, Content, integer, character, symbol, string, vector, nil, list}
use Rattle.base.specs.Data.{Items, no_item, item_and, Tail, no_tail, dotted}
use Rattle.base.specs.DataMeasures.{NamesBelow, NamesBelowInside, AllNamesBelow, NamesBelowTail, SymbolBelow}

-- the name of a symbol, where a text names it
abbrev pub symbol_text : List (List ℕ) → Symbol → Option (List ℕ)
symbol_text names (Named name) = slice_get names name.0
symbol_text names (Fresh expansion serial) = None

-- the text of a datum that is a symbol with a name
abbrev pub content_text : List (List ℕ) → Content → Option (List ℕ)
content_text names (symbol s) = symbol_text names s
content_text names (integer n) = None
content_text names (character c) = None
content_text names (string bytes) = None
content_text names (vector ds) = None
content_text names nil = None
content_text names (list ds t) = None

abbrev pub text_of : List (List ℕ) → Item → Option (List ℕ)
text_of names (item p c) = content_text names c

-- names below a number are below a greater one

symbol_later : (n m : ℕ) (s : Symbol) → n ≤ m → SymbolBelow n s → SymbolBelow m s
symbol_later n m (Named name) e h = omega arith
symbol_later n m (Fresh expansion serial) e h = tt

mutual
  unfolding NamesBelow

  pub below_later : (n m : ℕ) (d : Item) → n ≤ m → NamesBelow n d → NamesBelow m d
  below_later n m (item p c) e h = inside_later n m c e h

  inside_later : (n m : ℕ) (c : Content) → n ≤ m → NamesBelowInside n c → NamesBelowInside m c
  inside_later n m (integer z) e h = tt
  inside_later n m (character z) e h = tt
  inside_later n m (symbol s) e h = symbol_later n m s e h
  inside_later n m (string bytes) e h = tt
  inside_later n m (vector ds) e h = items_later n m ds e h
  inside_later n m nil e h = tt
  inside_later n m (list ds t) e h = (items_later n m ds e h.0, tail_later n m t e h.1)

  pub items_later : (n m : ℕ) (ds : Items) → n ≤ m → AllNamesBelow n ds → AllNamesBelow m ds
  items_later n m no_item e h = tt
  items_later n m (item_and d ds) e h = (below_later n m d e h.0, items_later n m ds e h.1)

  pub tail_later : (n m : ℕ) (t : Tail) → n ≤ m → NamesBelowTail n t → NamesBelowTail m t
  tail_later n m no_tail e h = tt
  tail_later n m (dotted d) e h = below_later n m d e h

-- names of a table are names of a later one
pub names_stay : (old new : List (List ℕ)) (d : Item) → Extends old new → NamesBelow (length old) d → NamesBelow (length new) d
names_stay old new d e h = below_later (length old) (length new) d (no_shorter old new e) h

front_get : {X : Type 0} (xs ys : List X) (i : ℕ) → i < length xs → slice_get xs i ≡ slice_get (xs ++ ys) i
front_get [] ys i h = absurd (omega arith)
front_get (x ∷ xs) ys zero h = refl
front_get (x ∷ xs) ys (suc i) h = front_get xs ys i (omega arith)

-- and they keep their texts
pub text_same : (old new : List (List ℕ)) → Extends old new → (d : Item) → NamesBelow (length old) d → text_of old d ≡ text_of new d
unfolding NamesBelow
text_same old new e (item p (integer n)) h = refl
text_same old new e (item p (character c)) h = refl
text_same old new e (item p (symbol (Named name))) h = front_get old e.added name.0 h ∙ ap (λ (names : List (List ℕ)). slice_get names name.0) (sym e.begins)
text_same old new e (item p (symbol (Fresh expansion serial))) h = refl
text_same old new e (item p (string bytes)) h = refl
text_same old new e (item p (vector ds)) h = refl
text_same old new e (item p nil) h = refl
text_same old new e (item p (list ds t)) h = refl
