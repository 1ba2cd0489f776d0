-- The code of a datum: a tree that gives it back.
use Rattle.std.specs.Prelude.{◌≡◌, zero, suc, ℤ, pos, negsuc, refl}
use Rattle.std.specs.Coded.{Coded, code_by}
use Rattle.std.proofs.Common.{ap}
use Rattle.base.specs.declared.datum.Symbol.{Symbol}
use Rattle.base.specs.declared.datum.Symbol.TheVariants.{Named, Fresh}
use Rattle.base.specs.Data.{Item, item, Content, integer, character, symbol, string, vector, nil, list}
use Rattle.base.specs.Data.{Items, no_item, item_and, Tail, no_tail, dotted}
use Rattle.base.specs.model.CodedTree.{Tree, node, Trees, no_tree, tree_and, leaf, above_one, above_two, numbers_trees, numbers_of, numbers_back, tree_code}

abbrev pub integer_tree : ℤ → Tree
integer_tree (pos n) = above_one 0 (leaf n)
integer_tree (negsuc n) = above_one 1 (leaf n)

abbrev pub integer_of : Tree → ℤ
integer_of (node zero (tree_and (node n us) ts)) = pos n
integer_of (node (suc m) (tree_and (node n us) ts)) = negsuc n
integer_of (node m no_tree) = pos 0

integer_back : (z : ℤ) → integer_of (integer_tree z) ≡ z
integer_back (pos n) = refl
integer_back (negsuc n) = refl

abbrev pub symbol_tree : Symbol → Tree
symbol_tree (Named name) = above_one 0 (leaf name.0)
symbol_tree (Fresh expansion serial) = above_two 1 (leaf expansion) (leaf serial)

abbrev pub symbol_of : Tree → Symbol
symbol_of (node zero (tree_and (node n us) ts)) = Named (record { 0 = n })
symbol_of (node (suc m) (tree_and (node e us) (tree_and (node s vs) ts))) = Fresh e s
symbol_of t = Named (record { 0 = 0 })

symbol_back : (s : Symbol) → symbol_of (symbol_tree s) ≡ s
symbol_back (Named name) = refl
symbol_back (Fresh expansion serial) = refl

abbrev mutual
  pub item_tree : Item → Tree
  item_tree (item p c) = node p.line (tree_and (leaf p.column) (tree_and (content_tree c) no_tree))

  pub content_tree : Content → Tree
  content_tree (integer n) = above_one 0 (integer_tree n)
  content_tree (character c) = above_one 1 (leaf c)
  content_tree (symbol s) = above_one 2 (symbol_tree s)
  content_tree (string bytes) = node 3 (numbers_trees bytes)
  content_tree (vector ds) = node 4 (items_trees ds)
  content_tree nil = leaf 5
  content_tree (list ds t) = node 6 (tree_and (tail_tree t) (items_trees ds))

  pub items_trees : Items → Trees
  items_trees no_item = no_tree
  items_trees (item_and d ds) = tree_and (item_tree d) (items_trees ds)

  pub tail_tree : Tail → Tree
  tail_tree no_tail = leaf 0
  tail_tree (dotted d) = above_one 0 (item_tree d)

abbrev mutual
  pub item_of : Tree → Item
  item_of (node line (tree_and (node column us) (tree_and t ts))) = item (record { line = line; column = column }) (content_of t)
  item_of (node line (tree_and u no_tree)) = item (record { line = line; column = 0 }) nil
  item_of (node line no_tree) = item (record { line = line; column = 0 }) nil

  pub content_of : Tree → Content
  content_of (node zero (tree_and t ts)) = integer (integer_of t)
  content_of (node (suc zero) (tree_and (node c us) ts)) = character c
  content_of (node (suc (suc zero)) (tree_and t ts)) = symbol (symbol_of t)
  content_of (node (suc (suc (suc zero))) ts) = string (numbers_of ts)
  content_of (node (suc (suc (suc (suc zero)))) ts) = vector (items_of_trees ts)
  content_of (node (suc (suc (suc (suc (suc (suc n)))))) (tree_and t ts)) = list (items_of_trees ts) (tail_of_tree t)
  content_of t = nil

  pub items_of_trees : Trees → Items
  items_of_trees no_tree = no_item
  items_of_trees (tree_and t ts) = item_and (item_of t) (items_of_trees ts)

  pub tail_of_tree : Tree → Tail
  tail_of_tree (node n no_tree) = no_tail
  tail_of_tree (node n (tree_and t ts)) = dotted (item_of t)

mutual
  pub item_back : (d : Item) → item_of (item_tree d) ≡ d
  item_back (item p c) = ap (item p) (content_back c)

  content_back : (c : Content) → content_of (content_tree c) ≡ c
  content_back (integer n) = ap integer (integer_back n)
  content_back (character c) = refl
  content_back (symbol s) = ap symbol (symbol_back s)
  content_back (string bytes) = ap string (numbers_back bytes)
  content_back (vector ds) = ap vector (items_back ds)
  content_back nil = refl
  content_back (list ds t) = cc (items_back ds, tail_back t)

  items_back : (ds : Items) → items_of_trees (items_trees ds) ≡ ds
  items_back no_item = refl
  items_back (item_and d ds) = cc (item_back d, items_back ds)

  tail_back : (t : Tail) → tail_of_tree (tail_tree t) ≡ t
  tail_back no_tail = refl
  tail_back (dotted d) = ap dotted (item_back d)

pub item_code : Coded Item
item_code = code_by Tree tree_code item_tree item_of item_back
