-- The code of a step: a tree that gives it back. Operations of one shape stand at their places in one list.
use Rattle.std.specs.Prelude.{◌≡◌, ℕ, zero, suc, ℤ, pos, negsuc, [], ◌∷◌, get_or, refl}
use Rattle.std.specs.Coded.{Coded, code_by}
use Rattle.std.proofs.Common.{ap}
use Rattle.base.specs.model.CodedTree.{Tree, node, no_tree, tree_and, leaf, above_one, above_two, numbers_trees, numbers_of, numbers_back, tree_code}
use Rattle.mid_code.specs.MidCode.{MidStep, perform, choose, switch, repeat, with_block, lend, return_word, cut_to, halt_with, end_unhandled, MidCode, no_step, step_and, MidCodes, no_code, code_and}
use Rattle.mid_code.specs.declared.operation.Arithmetic.{Arithmetic}
use Rattle.mid_code.specs.declared.operation.Arithmetic.TheVariants as which
use Rattle.mid_code.specs.declared.operation.Comparison.{Comparison}
use Rattle.mid_code.specs.declared.operation.Comparison.TheVariants as comparison
use Rattle.mid_code.specs.declared.operation.Test.{Test}
use Rattle.mid_code.specs.declared.operation.Callee.{Callee}
use Rattle.mid_code.specs.declared.operation.Callee.TheVariants.{Procedure, Word}
use Rattle.mid_code.specs.declared.operation.Counted.{Counted}
use Rattle.mid_code.specs.declared.operation.Counted.TheVariants.{Level, Turn}
use Rattle.mid_code.specs.declared.operation.Operation.{Operation}
use Rattle.mid_code.specs.declared.operation.Operation.TheVariants.{Move, Constant, Compute, Load, Store, Request, Draw, Put, Get, Call}

-- what is computed, by its number
abbrev arithmetic_number : Arithmetic → ℕ
arithmetic_number which.Add = 0
arithmetic_number which.Subtract = 1
arithmetic_number which.Multiply = 2
arithmetic_number which.MultiplyHigh = 3
arithmetic_number which.Divide = 4
arithmetic_number which.Remainder = 5
arithmetic_number which.And = 6
arithmetic_number which.Or = 7
arithmetic_number which.ExclusiveOr = 8
arithmetic_number which.ShiftLeft = 9
arithmetic_number which.ShiftRight = 10
arithmetic_number which.ShiftRightSigned = 11
arithmetic_number which.Less = 12
arithmetic_number which.LessUnsigned = 13

abbrev arithmetic_at : ℕ → Arithmetic
arithmetic_at n =
    get_or (which.Add ∷ which.Subtract ∷ which.Multiply ∷ which.MultiplyHigh ∷ which.Divide ∷ which.Remainder ∷ which.And
    ∷ which.Or ∷ which.ExclusiveOr ∷ which.ShiftLeft ∷ which.ShiftRight ∷ which.ShiftRightSigned ∷ which.Less ∷ [])
    n which.LessUnsigned

arithmetic_back : (a : Arithmetic) → arithmetic_at (arithmetic_number a) ≡ a
arithmetic_back which.Add = refl
arithmetic_back which.Subtract = refl
arithmetic_back which.Multiply = refl
arithmetic_back which.MultiplyHigh = refl
arithmetic_back which.Divide = refl
arithmetic_back which.Remainder = refl
arithmetic_back which.And = refl
arithmetic_back which.Or = refl
arithmetic_back which.ExclusiveOr = refl
arithmetic_back which.ShiftLeft = refl
arithmetic_back which.ShiftRight = refl
arithmetic_back which.ShiftRightSigned = refl
arithmetic_back which.Less = refl
arithmetic_back which.LessUnsigned = refl

abbrev comparison_number : Comparison → ℕ
comparison_number comparison.Equal = 0
comparison_number comparison.Different = 1
comparison_number comparison.Less = 2
comparison_number comparison.AtLeast = 3
comparison_number comparison.LessUnsigned = 4
comparison_number comparison.AtLeastUnsigned = 5

abbrev comparison_at : ℕ → Comparison
comparison_at n =
    get_or (comparison.Equal ∷ comparison.Different ∷ comparison.Less ∷ comparison.AtLeast ∷ comparison.LessUnsigned ∷ [])
    n comparison.AtLeastUnsigned

comparison_back : (c : Comparison) → comparison_at (comparison_number c) ≡ c
comparison_back comparison.Equal = refl
comparison_back comparison.Different = refl
comparison_back comparison.Less = refl
comparison_back comparison.AtLeast = refl
comparison_back comparison.LessUnsigned = refl
comparison_back comparison.AtLeastUnsigned = refl

-- tests, what is called, what is counted, and offsets

abbrev test_tree : Test → Tree
test_tree t = node (comparison_number t.comparison) (tree_and (leaf t.first) (tree_and (leaf t.second) no_tree))

abbrev test_of : Tree → Test
test_of (node n (tree_and (node a us) (tree_and (node b vs) ts))) = record { comparison = comparison_at n; first = a; second = b }
test_of t = record { comparison = comparison.Equal; first = 0; second = 0 }

test_back : (t : Test) → test_of (test_tree t) ≡ t
test_back t = ap (λ c. record t { comparison = c }) (comparison_back t.comparison)

abbrev callee_tree : Callee → Tree
callee_tree (Procedure n) = above_one 0 (leaf n)
callee_tree (Word r) = above_one 1 (leaf r)

abbrev callee_of : Tree → Callee
callee_of (node zero (tree_and (node n us) ts)) = Procedure n
callee_of (node (suc m) (tree_and (node n us) ts)) = Word n
callee_of (node m no_tree) = Word 0

callee_back : (c : Callee) → callee_of (callee_tree c) ≡ c
callee_back (Procedure n) = refl
callee_back (Word r) = refl

abbrev counted_number : Counted → ℕ
counted_number Level = 0
counted_number Turn = 1

abbrev counted_at : ℕ → Counted
counted_at zero = Level
counted_at (suc n) = Turn

counted_back : (c : Counted) → counted_at (counted_number c) ≡ c
counted_back Level = refl
counted_back Turn = refl

abbrev integer_tree : ℤ → Tree
integer_tree (pos n) = above_one 0 (leaf n)
integer_tree (negsuc n) = above_one 1 (leaf n)

abbrev integer_of : Tree → ℤ
integer_of (node zero (tree_and (node n us) ts)) = pos n
integer_of (node (suc m) (tree_and (node n us) ts)) = negsuc n
integer_of (node m no_tree) = pos 0

integer_back : (z : ℤ) → integer_of (integer_tree z) ≡ z
integer_back (pos n) = refl
integer_back (negsuc n) = refl

-- operations of two numbers, and of two numbers and an offset, each at its place

abbrev of_two : ℕ → ℕ → ℕ → Operation
of_two place a b = get_or (Move a b ∷ Constant a b ∷ Request a b ∷ Put a ∷ []) place (Get a)

abbrev of_offset : ℕ → ℕ → ℕ → ℤ → Operation
of_offset place a b z = get_or (Load a b z ∷ Store a b z ∷ []) place (Draw a b z)

abbrev two_tree : ℕ → ℕ → ℕ → Tree
two_tree place a b = node 0 (tree_and (leaf place) (tree_and (leaf a) (tree_and (leaf b) no_tree)))

abbrev offset_tree : ℕ → ℕ → ℕ → ℤ → Tree
offset_tree place a b z =
    node 1 (tree_and (leaf place) (tree_and (leaf a) (tree_and (leaf b) (tree_and (integer_tree z) no_tree))))

abbrev operation_tree : Operation → Tree
operation_tree (Move to from) = two_tree 0 to from
operation_tree (Constant to word) = two_tree 1 to word
operation_tree (Request to words) = two_tree 2 to words
operation_tree (Put from) = two_tree 3 from 0
operation_tree (Get to) = two_tree 4 to 0
operation_tree (Load to base offset) = offset_tree 0 to base offset
operation_tree (Store from base offset) = offset_tree 1 from base offset
operation_tree (Draw to base offset) = offset_tree 2 to base offset
operation_tree (Compute to which first second) =
    node 2 (tree_and (leaf (arithmetic_number which)) (tree_and (leaf to) (tree_and (leaf first) (tree_and (leaf second) no_tree))))
operation_tree (Call to callee arguments) =
    node 3 (tree_and (leaf to) (tree_and (callee_tree callee) (numbers_trees arguments)))

abbrev operation_of : Tree → Operation
operation_of (node zero (tree_and (node place us) (tree_and (node a vs) (tree_and (node b ws) ts)))) = of_two place a b
operation_of (node (suc zero) (tree_and (node place us) (tree_and (node a vs) (tree_and (node b ws) (tree_and t ts))))) =
    of_offset place a b (integer_of t)
operation_of (node (suc (suc zero)) (tree_and (node n us) (tree_and (node to vs) (tree_and (node a ws) (tree_and (node b xs) ts))))) =
    Compute to (arithmetic_at n) a b
operation_of (node (suc (suc (suc m))) (tree_and (node to us) (tree_and t ts))) = Call to (callee_of t) (numbers_of ts)
operation_of t = Get 0

operation_back : (o : Operation) → operation_of (operation_tree o) ≡ o
operation_back (Move to from) = refl
operation_back (Constant to word) = refl
operation_back (Request to words) = refl
operation_back (Put from) = refl
operation_back (Get to) = refl
operation_back (Load to base offset) = ap (Load to base) (integer_back offset)
operation_back (Store from base offset) = ap (Store from base) (integer_back offset)
operation_back (Draw to base offset) = ap (Draw to base) (integer_back offset)
operation_back (Compute to which first second) = ap (λ a. Compute to a first second) (arithmetic_back which)
operation_back (Call to callee arguments) = cc (callee_back callee, numbers_back arguments)

-- steps that end an activation, each at its place
abbrev of_end : ℕ → ℕ → ℕ → ℕ → MidStep
of_end place a b c = get_or (return_word a ∷ cut_to a b ∷ halt_with a ∷ []) place (end_unhandled a b c)

abbrev end_tree : ℕ → ℕ → ℕ → ℕ → Tree
end_tree place a b c = node 6 (tree_and (leaf place) (tree_and (leaf a) (tree_and (leaf b) (tree_and (leaf c) no_tree))))

abbrev mutual
  step_tree : MidStep → Tree
  step_tree (perform o) = above_one 0 (operation_tree o)
  step_tree (choose t first second) = node 1 (tree_and (test_tree t) (tree_and (code_tree first) (tree_and (code_tree second) no_tree)))
  step_tree (repeat c head t body) =
      node 2 (tree_and (leaf (counted_number c)) (tree_and (test_tree t) (tree_and (code_tree head) (tree_and (code_tree body) no_tree))))
  step_tree (with_block block words word inside landing) =
      node 3 (tree_and (leaf block) (tree_and (leaf words) (tree_and (leaf word)
      (tree_and (code_tree inside) (tree_and (code_tree landing) no_tree)))))
  step_tree (switch r codes) = node 4 (tree_and (leaf r) (tree_and (codes_tree codes) no_tree))
  step_tree (lend block words inside) = node 5 (tree_and (leaf block) (tree_and (leaf words) (tree_and (code_tree inside) no_tree)))
  step_tree (return_word r) = end_tree 0 r 0 0
  step_tree (cut_to block word) = end_tree 1 block word 0
  step_tree (halt_with r) = end_tree 2 r 0 0
  step_tree (end_unhandled class site condition) = end_tree 3 class site condition

  code_tree : MidCode → Tree
  code_tree no_step = leaf 0
  code_tree (step_and s c) = above_two 1 (step_tree s) (code_tree c)

  codes_tree : MidCodes → Tree
  codes_tree no_code = leaf 0
  codes_tree (code_and c codes) = above_two 1 (code_tree c) (codes_tree codes)

abbrev mutual
  step_of : Tree → MidStep
  step_of (node zero (tree_and t ts)) = perform (operation_of t)
  step_of (node (suc zero) (tree_and t (tree_and u (tree_and v ts)))) = choose (test_of t) (code_from u) (code_from v)
  step_of (node (suc (suc zero)) (tree_and (node n us) (tree_and t (tree_and u (tree_and v ts))))) =
      repeat (counted_at n) (code_from u) (test_of t) (code_from v)
  step_of (node (suc (suc (suc zero))) (tree_and (node a us) (tree_and (node n vs) (tree_and (node b ws) (tree_and t (tree_and u ts)))))) =
      with_block a n b (code_from t) (code_from u)
  step_of (node (suc (suc (suc (suc zero)))) (tree_and (node r us) (tree_and t ts))) = switch r (codes_from t)
  step_of (node (suc (suc (suc (suc (suc zero))))) (tree_and (node a us) (tree_and (node n vs) (tree_and t ts)))) = lend a n (code_from t)
  step_of (node (suc (suc (suc (suc (suc (suc m)))))) (tree_and (node place us) (tree_and (node a vs) (tree_and (node b ws) (tree_and (node c xs) ts))))) =
      of_end place a b c
  step_of t = return_word 0

  code_from : Tree → MidCode
  code_from (node n no_tree) = no_step
  code_from (node n (tree_and t no_tree)) = no_step
  code_from (node n (tree_and t (tree_and u ts))) = step_and (step_of t) (code_from u)

  codes_from : Tree → MidCodes
  codes_from (node n no_tree) = no_code
  codes_from (node n (tree_and t no_tree)) = no_code
  codes_from (node n (tree_and t (tree_and u ts))) = code_and (code_from t) (codes_from u)

mutual
  step_back : (s : MidStep) → step_of (step_tree s) ≡ s
  step_back (perform o) = ap perform (operation_back o)
  step_back (choose t first second) = cc (test_back t, code_back first, code_back second)
  step_back (repeat c head t body) = cc (counted_back c, test_back t, code_back head, code_back body)
  step_back (with_block block words word inside landing) = cc (code_back inside, code_back landing)
  step_back (switch r codes) = ap (switch r) (codes_back codes)
  step_back (lend block words inside) = ap (lend block words) (code_back inside)
  step_back (return_word r) = refl
  step_back (cut_to block word) = refl
  step_back (halt_with r) = refl
  step_back (end_unhandled class site condition) = refl

  code_back : (c : MidCode) → code_from (code_tree c) ≡ c
  code_back no_step = refl
  code_back (step_and s c) = cc (step_back s, code_back c)

  codes_back : (codes : MidCodes) → codes_from (codes_tree codes) ≡ codes
  codes_back no_code = refl
  codes_back (code_and c codes) = cc (code_back c, codes_back codes)

pub step_code : Coded MidStep
step_code = code_by Tree tree_code step_tree step_of step_back
