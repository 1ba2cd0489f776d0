-- The syntax tree of a printed datum: its bytes are the printed ones, and its parts stand right.
use Rattle.std.specs.Prelude.{◌≡◌, ℕ, suc, ◌+◌, ◌≤◌, false, List, [], ◌∷◌, ◌++◌, Option, Some, None, slice_get, codes, refl}
use Rattle.std.specs.Fmt.{signed_decimal}
use Rattle.std.proofs.Common.{arith, sym, ◌∙◌, ap, subst, append_assoc}
use Rattle.std.proofs.lemmas.Option.{get_or_from_slice_get}
use Rattle.base.specs.declared.place.Place.{Place}
use Rattle.base.specs.declared.datum.Symbol.{Symbol}
use Rattle.base.specs.declared.datum.Symbol.TheVariants.{Named, Fresh}
use Rattle.base.specs.Data.{Item, item, Content, integer, character, symbol, string, vector, nil, list, Items, no_item, item_and, Tail, no_tail, dotted}
use Rattle.base.specs.DataMeasures.{depth_of, depths_of, depth_of_tail, Formed, FormedInside, AllFormed, FormedTail}
use Rattle.front_reader.specs.Characters.{begins, is_token, is_blank}
use Rattle.front_reader.specs.Gaps.{Gap, no_gap, blank}
use Rattle.front_reader.specs.Atoms.{an_integer, a_character, a_symbol, a_string, Spells}
use Rattle.front_reader.specs.Trees.{Tree, atom, proper, improper, row, Trees, no_tree, then_tree, spelled, spelled_all, Stands, StandsAll, IsSomeTree}
use Rattle.front_reader.specs.Printing.{symbol_text, between, name_spelling, spelling, content_spelling, items_spelling, tail_spelling, NameSpelled, SymbolSpelled, IsSpelled, ContentSpelled, AllSpelled, TailSpelled}
use Rattle.front_reader.proofs.PrintAtoms.{string_spelled, name_spelled, nil_spelled, character_spelled}
use Rattle.front_reader.proofs.PrintIntegers.{integer_spelled}

abbrev pub space : List ℕ
space = 32 ∷ []

-- the tree of a list with these trees, and of what stands behind its dot
unfoldable mutual
  pub tree_of : List (List ℕ) → Item → Tree
  tree_of names (item p c) = content_tree names c

  pub content_tree : List (List ℕ) → Content → Tree
  content_tree names (integer n) = atom (signed_decimal n) (an_integer n)
  content_tree names (character c) = atom (35 ∷ 92 ∷ c ∷ []) (a_character c)
  content_tree names (symbol s) = atom (name_spelling (symbol_text names s)) (a_symbol (symbol_text names s))
  content_tree names (string bytes) = atom (between 34 bytes) (a_string bytes)
  content_tree names (vector ds) = row (trees_onto names no_tree [] ds) []
  content_tree names nil = atom (codes "nil") (a_symbol (codes "nil"))
  content_tree names (list ds t) = list_tree names (trees_onto names no_tree [] ds) t

  pub list_tree : List (List ℕ) → Trees → Tail → Tree
  list_tree names ts no_tail = proper ts []
  list_tree names ts (dotted d) = improper ts space space (tree_of names d) []

  -- the trees of data behind other trees, the first behind this gap and the others behind a space
  pub trees_onto : List (List ℕ) → Trees → List ℕ → Items → Trees
  trees_onto names ts gap no_item = ts
  trees_onto names ts gap (item_and d ds) = trees_onto names (then_tree ts gap (tree_of names d)) space ds

-- lists joined in another order
join_three : (a b c d : List ℕ) → a ++ (b ++ (c ++ d)) ≡ (a ++ (b ++ c)) ++ d
join_three a b c d = simp append_assoc

join_closed : (a rest : List ℕ) → a ++ 41 ∷ rest ≡ (a ++ 41 ∷ []) ++ rest
join_closed a rest = simp append_assoc

join_list : (a b rest : List ℕ) → a ++ (b ++ 41 ∷ rest) ≡ (a ++ (b ++ 41 ∷ [])) ++ rest
join_list a b rest = simp append_assoc

-- the bytes of the tree
mutual
  unfolding tree_of content_tree list_tree trees_onto spelling content_spelling items_spelling tail_spelling spelled spelled_all

  pub tree_spelled : (names : List (List ℕ)) (d : Item) (rest : List ℕ) → spelled (tree_of names d) rest ≡ spelling names d ++ rest
  tree_spelled names (item p c) rest = content_spelled names c rest

  content_spelled : (names : List (List ℕ)) (c : Content) (rest : List ℕ) → spelled (content_tree names c) rest ≡ content_spelling names c ++ rest
  content_spelled names (integer n) rest = refl
  content_spelled names (character c) rest = refl
  content_spelled names (symbol s) rest = refl
  content_spelled names (string bytes) rest = refl
  content_spelled names (vector ds) rest =
      ap (λ w. 35 ∷ 40 ∷ w) (onto_spelled names no_tree [] ds (41 ∷ rest) ∙ join_closed (items_spelling names [] ds) rest)
  content_spelled names nil rest = refl
  content_spelled names (list ds t) rest =
      list_spelled names (trees_onto names no_tree [] ds) t rest
      ∙ ap (λ w. 40 ∷ w) (onto_spelled names no_tree [] ds (tail_spelling names t ++ 41 ∷ rest) ∙ join_list (items_spelling names [] ds) (tail_spelling names t) rest)

  list_spelled : (names : List (List ℕ)) (ts : Trees) (t : Tail) (rest : List ℕ)
      → spelled (list_tree names ts t) rest ≡ 40 ∷ spelled_all ts (tail_spelling names t ++ 41 ∷ rest)
  list_spelled names ts no_tail rest = refl
  list_spelled names ts (dotted d) rest = ap (λ w. 40 ∷ spelled_all ts (32 ∷ 46 ∷ 32 ∷ w)) (tree_spelled names d (41 ∷ rest))

  pub onto_spelled : (names : List (List ℕ)) (ts : Trees) (gap : List ℕ) (ds : Items) (rest : List ℕ)
      → spelled_all (trees_onto names ts gap ds) rest ≡ spelled_all ts (items_spelling names gap ds ++ rest)
  onto_spelled names ts gap no_item rest = refl
  onto_spelled names ts gap (item_and d ds) rest =
      onto_spelled names (then_tree ts gap (tree_of names d)) space ds rest
      ∙ ap (λ w. spelled_all ts (gap ++ w)) (tree_spelled names d (items_spelling names space ds ++ rest))
      ∙ ap (spelled_all ts) (join_three gap (spelling names d) (items_spelling names space ds) rest)

-- a space is no token character, and a gap
space_no_token : is_token 32 ≡ false
unfolding is_token
space_no_token = refl

close_no_token : is_token 41 ≡ false
unfolding is_token
close_no_token = refl

space_gap : (after : List ℕ) → Gap space after
unfolding is_blank
space_gap after = blank 32 [] after refl (no_gap after)

-- behind a datum of a list stands a space, or what follows the list
items_end : (names : List (List ℕ)) (ds : Items) (after : List ℕ) → begins is_token after ≡ false
    → begins is_token (items_spelling names space ds ++ after) ≡ false
unfolding items_spelling
items_end names no_item after h = h
items_end names (item_and d ds) after h = space_no_token

-- a list with an item has a tree
some_onto : (names : List (List ℕ)) (ts : Trees) (gap : List ℕ) (ds : Items) → IsSomeTree ts → IsSomeTree (trees_onto names ts gap ds)
unfolding trees_onto
some_onto names ts gap no_item h = h
some_onto names ts gap (item_and d ds) h = some_onto names (then_tree ts gap (tree_of names d)) space ds tt

some_of : (names : List (List ℕ)) (ds : Items) → (ds ≡ no_item → ⊥) → IsSomeTree (trees_onto names no_tree [] ds)
unfolding trees_onto
some_of names no_item h = absurd (h refl)
some_of names (item_and d ds) h = some_onto names (then_tree no_tree [] (tree_of names d)) space ds tt

-- a name of the table that a spelling can give
symbol_spelled : (names : List (List ℕ)) (s : Symbol) (after : List ℕ) → SymbolSpelled names s → begins is_token after ≡ false
    → Spells (name_spelling (symbol_text names s)) after (a_symbol (symbol_text names s))
symbol_spelled names (Fresh expansion serial) after h ends = absurd h
symbol_spelled names (Named name) after h ends = by (slice_get names name.0) refl h
  where
    by : (o : Option (List ℕ)) → slice_get names name.0 ≡ o → NameSpelled o
        → Spells (name_spelling (symbol_text names (Named name))) after (a_symbol (symbol_text names (Named name)))
    by None is h = absurd h
    by (Some text) is h =
        let same : symbol_text names (Named name) ≡ text = get_or_from_slice_get names name.0 text [] is in
        rw same (name_spelled text after ends h.1 h.2)

-- the text behind the items of a list: its close, or its dot and the datum behind it
abbrev behind_items : List (List ℕ) → Tail → List ℕ → List ℕ
behind_items names no_tail after = 41 ∷ after
behind_items names (dotted d) after = 32 ∷ 46 ∷ 32 ∷ spelled (tree_of names d) (41 ∷ after)

behind_items_end : (names : List (List ℕ)) (t : Tail) (after : List ℕ) → begins is_token (behind_items names t after) ≡ false
behind_items_end names no_tail after = close_no_token
behind_items_end names (dotted d) after = space_no_token

-- the parts of the tree stand right
mutual
  unfolding tree_of content_tree list_tree trees_onto spelling content_spelling items_spelling tail_spelling spelled spelled_all Stands StandsAll Formed FormedInside AllFormed FormedTail IsSpelled ContentSpelled AllSpelled TailSpelled depth_of

  pub tree_stands : (names : List (List ℕ)) (n : ℕ) (d : Item) (after : List ℕ) → Formed d → IsSpelled names d → n + depth_of d ≤ 256
      → begins is_token after ≡ false → Stands n (tree_of names d) after
  tree_stands names n (item p c) after f s h ends = content_stands names n p c after f s h ends

  content_stands : (names : List (List ℕ)) (n : ℕ) (p : Place) (c : Content) (after : List ℕ) → FormedInside c → ContentSpelled names c → n + depth_of (item p c) ≤ 256
      → begins is_token after ≡ false → Stands n (content_tree names c) after
  content_stands names n p (integer z) after f s h ends = integer_spelled z after f.0 f.1 ends
  content_stands names n p (character c) after f s h ends = character_spelled c after ends
  content_stands names n p (symbol x) after f s h ends = symbol_spelled names x after s ends
  content_stands names n p (string bytes) after f s h ends = string_spelled bytes after
  content_stands names n p (vector ds) after f s h ends =
      (omega arith, onto_stands names (suc n) no_tree [] ds (41 ∷ after) no_gap tt f s (omega arith) close_no_token, no_gap (41 ∷ after))
  content_stands names n p nil after f s h ends = nil_spelled after ends
  content_stands names n p (list ds t) after f s h ends =
      list_stands names n (trees_onto names no_tree [] ds) t after (some_of names ds f.0) f.2 s.1
      (onto_stands names (suc n) no_tree [] ds (behind_items names t after) no_gap tt f.1 s.0 (omega arith) (behind_items_end names t after))
      (omega arith)

  list_stands : (names : List (List ℕ)) (n : ℕ) (ts : Trees) (t : Tail) (after : List ℕ) → IsSomeTree ts → FormedTail t → TailSpelled names t
      → StandsAll (suc n) ts (behind_items names t after) → suc n + depth_of_tail t ≤ 256 → Stands n (list_tree names ts t) after
  list_stands names n ts no_tail after some f s x h = (omega arith, x, no_gap (41 ∷ after))
  list_stands names n ts (dotted (item p c)) after some f s x h = (
    omega arith,
    some,
    x,
    space_gap (46 ∷ 32 ∷ spelled (tree_of names (item p c)) (41 ∷ after)),
    space_no_token,
    space_gap (spelled (tree_of names (item p c)) (41 ∷ after)),
    content_stands names (suc n) p c (41 ∷ after) f.1 s h close_no_token,
    no_gap (41 ∷ after),
  )

  onto_stands : (names : List (List ℕ)) (n : ℕ) (ts : Trees) (gap : List ℕ) (ds : Items) (after : List ℕ) → ((rest : List ℕ) → Gap gap rest)
      → StandsAll n ts (items_spelling names gap ds ++ after) → AllFormed ds → AllSpelled names ds → n + depths_of ds ≤ 256 → begins is_token after ≡ false
      → StandsAll n (trees_onto names ts gap ds) after
  onto_stands names n ts gap no_item after g x f s h ends = x
  onto_stands names n ts gap (item_and d ds) after g x f s h ends =
      let left : List ℕ = items_spelling names space ds ++ after in
      let same : (gap ++ (spelling names d ++ items_spelling names space ds)) ++ after ≡ gap ++ spelled (tree_of names d) left =
      sym (join_three gap (spelling names d) (items_spelling names space ds) after) ∙ ap (λ w. gap ++ w) (sym (tree_spelled names d left)) in
      let P : List ℕ → Type 0 = λ w. StandsAll n ts w in
      onto_stands names n (then_tree ts gap (tree_of names d)) space ds after space_gap
      (subst P same x, g (spelled (tree_of names d) left), tree_stands names n d left f.0 s.0 (omega arith) (items_end names ds after ends))
      f.1 s.1 (omega arith) ends
