-- Where the words of arguments are: in blocks of the stack that stand, or in the heap. So they stay where the heap grows.
use Rattle.std.proofs.Common.{◌≡◌, ◌⊎◌, inl, inr, ℕ, ◌+◌, ◌*◌, ◌^◌, ◌<◌, ◌≤◌, List, length, arith}
use Rattle.lang_meaning.specs.Values.{Value}
use Rattle.flat_language.specs.FlatState.{FlatState}
use Rattle.mid_code.specs.Arena.{Arena, stack_from, word_at}
use Rattle.mid_code.specs.State.{MidState}
use Rattle.mid_arena.specs.Growing.{Grows}
use Rattle.mid_arena.proofs.Memory.{heap_below}
use Rattle.back_relation.specs.Setting.{Setting}
use Rattle.back_relation.specs.Worlds.{World}
use Rattle.back_relation.specs.Things.{Things}
use Rattle.back_relation.specs.Procedures.{ArgumentsGiven}
use Rattle.back_function_entries.proofs.Held.{kept_low}

-- so many words at an address are in blocks, or in the heap
abbrev pub Lies : Arena → (address count : ℕ) → Type 0
Lies a x n = (stack_from a ≤ x) ⊎ (x + 4 * n ≤ a.heap_to)

pub fewer_lie : (a : Arena) (x m n : ℕ) → n ≤ m → Lies a x m → Lies a x n
fewer_lie a x m n few (inl low) = inl low
fewer_lie a x m n few (inr end) = inr (omega (arith, end, few))

pub behind_lie : (a : Arena) (x m n : ℕ) → n + 1 ≤ m → Lies a x m → Lies a (x + 4) n
behind_lie a x m n few (inl low) = inl (omega (arith, low))
behind_lie a x m n few (inr end) = inr (omega (arith, end, few))

module _ {a a' : Arena} (grows : Grows a a') (same : stack_from a' ≡ stack_from a) where
  pub lies_later : (x n : ℕ) → Lies a x n → Lies a' x n
  lies_later x n (inl low) = inl (omega (arith, low, same))
  lies_later x n (inr end) = inr (let more = grows.heap.heap_to in omega (arith, end, more))

  -- the word number i of them stays
  pub lying_stays : (x n i : ℕ) → i + 1 ≤ n → Lies a x n → word_at a' (x + 4 * i) ≡ word_at a (x + 4 * i)
  lying_stays x n i few (inl low) = grows.stack (x + 4 * i) (omega (arith, low)) (omega (arith, low, same))
  lying_stays x n i few (inr end) = grows.heap.words (x + 4 * i) (omega (arith, end, few))

module _ (setting : Setting) {w : World} {z : FlatState} {y : MidState} (t : Things setting w z y) where
  -- **the words of arguments that are given**
  pub given_lie : (address : ℕ) (vs : List Value) → ArgumentsGiven setting w y.arena address vs → Lies y.arena address (length vs)
  given_lie address vs (inl lent) = inl lent.low
  given_lie address vs (inr kept) = inr (kept_low setting t address vs kept)

  pub given_word : (address : ℕ) (vs : List Value) → ArgumentsGiven setting w y.arena address vs → address < 2 ^ 32
  given_word address vs (inl lent) = lent.is_word
  given_word address vs (inr kept) =
      let low = kept_low setting t address vs kept in let under = heap_below t.represents.arena in omega (arith, low, under)
