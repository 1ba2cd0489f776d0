-- Trees of numbers, and that they are coded: the one code of all recursive plain data.
--
-- A recursive type T with constructors over numbers, parts and lists of parts is coded by three blocks of one line a
-- constructor, each by structural recursion:
--     T_tree : T → Tree               the number of the constructor above the trees of what it holds
--     T_of_tree : Tree → T            the way back, by patterns; a last line takes all other trees to some value
--     T_back : (x : T) → T_of_tree (T_tree x) ≡ x      `refl`, or `cc` of the lines for the parts
-- and then `T_code = code_by Tree tree_code T_tree T_of_tree T_back` is the code. A list of parts is a list of
-- trees, `Trees`; so are numbers and texts (`numbers_trees`, `numbers_of`, `numbers_back`). In the way back a pattern
-- for what stands first, `tree_and t ts`, leaves `ts` open where nothing stands behind: that makes fewer cases.
use Rattle.std.specs.Prelude.{◌≡◌, ℕ, zero, suc, List, [], ◌∷◌, refl}
use Rattle.std.specs.Coded.{Coded, code_by, coded_list, coded_ℕ}
use Rattle.std.proofs.Common.{ap, ◌∙◌}

mutual
  -- a number, with trees below it
  pub data Tree : Type 0 where
    node : ℕ → Trees → Tree

  pub data Trees : Type 0 where
    no_tree : Trees
    tree_and : Tree → Trees → Trees

-- a number with nothing below it
abbrev pub leaf : ℕ → Tree
leaf n = node n no_tree

-- a number with one, two, three trees below it
abbrev pub above_one : ℕ → Tree → Tree
above_one n t = node n (tree_and t no_tree)

abbrev pub above_two : ℕ → Tree → Tree → Tree
above_two n t u = node n (tree_and t (tree_and u no_tree))

-- numbers as trees, and back
abbrev pub numbers_trees : List ℕ → Trees
numbers_trees [] = no_tree
numbers_trees (n ∷ ns) = tree_and (leaf n) (numbers_trees ns)

abbrev pub numbers_of : Trees → List ℕ
numbers_of no_tree = []
numbers_of (tree_and (node n us) ts) = n ∷ numbers_of ts

pub numbers_back : (ns : List ℕ) → numbers_of (numbers_trees ns) ≡ ns
numbers_back [] = refl
numbers_back (n ∷ ns) = ap (λ ms. n ∷ ms) (numbers_back ns)

-- The code is the program of a machine with a stack: 0 puts no trees on it, and n + 1 takes what stands below a number
-- n and what stands beside it, and puts both back as one.

-- the program that puts a tree before those on top of the stack, and then goes on
abbrev mutual
  write_tree : Tree → List ℕ → List ℕ
  write_tree (node n ts) rest = write_trees ts (suc n ∷ rest)

  write_trees : Trees → List ℕ → List ℕ
  write_trees no_tree rest = 0 ∷ rest
  write_trees (tree_and t ts) rest = write_trees ts (write_tree t rest)

-- the stack, the top first, when the program has run
abbrev run : List ℕ → List Trees → List Trees
run [] stack = stack
run (zero ∷ xs) stack = run xs (no_tree ∷ stack)
run (suc n ∷ xs) (below ∷ beside ∷ stack) = run xs (tree_and (node n below) beside ∷ stack)
run (suc n ∷ xs) stack = run xs stack

mutual
  tree_runs : (t : Tree) (rest : List ℕ) (ts : Trees) (stack : List Trees) → run (write_tree t rest) (ts ∷ stack) ≡ run rest (tree_and t ts ∷ stack)
  tree_runs (node n us) rest ts stack = trees_run us (suc n ∷ rest) (ts ∷ stack)

  trees_run : (ts : Trees) (rest : List ℕ) (stack : List Trees) → run (write_trees ts rest) stack ≡ run rest (ts ∷ stack)
  trees_run no_tree rest stack = refl
  trees_run (tree_and t ts) rest stack = trees_run ts (write_tree t rest) stack ∙ tree_runs t rest ts stack

-- the first tree on top of the stack
abbrev first_tree : List Trees → Tree
first_tree [] = leaf 0
first_tree (no_tree ∷ stack) = leaf 0
first_tree (tree_and t ts ∷ stack) = t

tree_back : (t : Tree) → first_tree (run (write_tree t []) (no_tree ∷ [])) ≡ t
tree_back t = ap first_tree (tree_runs t [] no_tree [])

pub tree_code : Coded Tree
tree_code = code_by (List ℕ) (coded_list coded_ℕ) (λ t. write_tree t []) (λ xs. first_tree (run xs (no_tree ∷ []))) tree_back
