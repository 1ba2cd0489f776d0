-- What lists of steps cost, with one more for each argument that their calls pass, and short steps with far and near offsets.
use Rattle.std.proofs.Common.{◌≡◌, ℕ, zero, suc, ◌+◌, ◌*◌, ◌≤◌, Bool, true, false, [], ◌∷◌, ◌++◌, arith}
use Rattle.std.specs.Prelude.{if◌then◌else◌, nat_le}
use Rattle.mid_code.specs.declared.operation.Arithmetic.TheVariants as which
use Rattle.mid_code.specs.MidCode.{code_of}
use Rattle.mid_arena.specs.CodeCosts.{code_cost}
use Rattle.back_code_sizes.specs.Passed.{code_passes}
use Rattle.back_lowering.specs.Steps.{Steps, constant, compute, load, store, most_offset, load_from, store_to, load_far, store_far, words_stored, words_loaded}

abbrev pub cost : Steps → ℕ
cost steps = code_cost (code_of steps) + code_passes (code_of steps)

pub append_cost : (a b : Steps) → cost (a ++ b) ≡ cost a + cost b
append_cost [] b = omega arith
append_cost (s ∷ a) b = let h = append_cost a b in omega (arith, h)

pub if_cost : (n : ℕ) (b : Bool) (x y : Steps) → cost x ≤ n → cost y ≤ n → cost (if b then x else y) ≤ n
if_cost n true x y g h = g
if_cost n false x y g h = h

pub load_from_cost : (to t address : ℕ) → cost (load_from to t address) ≤ 14
load_from_cost to t address =
    if_cost 14 (nat_le address most_offset) (constant t 0 ∷ load to t address ∷ []) (constant t address ∷ load to t 0 ∷ []) (omega arith) (omega arith)

pub store_to_cost : (from t address : ℕ) → cost (store_to from t address) ≤ 14
store_to_cost from t address =
    if_cost 14 (nat_le address most_offset) (constant t 0 ∷ store from t address ∷ []) (constant t address ∷ store from t 0 ∷ []) (omega arith) (omega arith)

pub load_far_cost : (to base t offset : ℕ) → cost (load_far to base t offset) ≤ 24
load_far_cost to base t offset =
    if_cost 24 (nat_le offset most_offset) (load to base offset ∷ [])
    (constant t offset ∷ compute t which.Add t base ∷ load to t 0 ∷ [])
    (omega arith) (omega arith)

pub store_far_cost : (from base t offset : ℕ) → cost (store_far from base t offset) ≤ 24
store_far_cost from base t offset =
    if_cost 24 (nat_le offset most_offset) (store from base offset ∷ [])
    (constant t offset ∷ compute t which.Add t base ∷ store from t 0 ∷ [])
    (omega arith) (omega arith)

pub words_stored_cost : (n d base t offset : ℕ) → cost (words_stored n d base t offset) ≤ 24 * n
words_stored_cost zero d base t offset = omega arith
words_stored_cost (suc n) d base t offset =
    omega (
      arith,
      append_cost (store_far d base t offset) (words_stored n (d + 1) base t (offset + 4)),
      store_far_cost d base t offset,
      words_stored_cost n (d + 1) base t (offset + 4),
    )

pub words_loaded_cost : (n d base offset : ℕ) → cost (words_loaded n d base offset) ≤ 24 * n
words_loaded_cost zero d base offset = omega arith
words_loaded_cost (suc n) d base offset =
    omega (
      arith,
      append_cost (load_far d base d offset) (words_loaded n (d + 1) base (offset + 4)),
      load_far_cost d base d offset,
      words_loaded_cost n (d + 1) base (offset + 4),
    )
