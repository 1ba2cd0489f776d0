-- The code that requests and stores the words of a condition, one step after another.
use Rattle.std.proofs.Common.{◌≡◌, ℕ, ◌+◌, ◌*◌, ◌<◌, ◌≤◌, [], ◌∷◌, Some, None, refl, arith}
use Rattle.std.specs.Prelude.{◌^◌, ◌%◌}
use Rattle.mid_code.specs.Arena.{left, word_at, with_word}
use Rattle.mid_code.specs.Meaning.{Context, exec}
use Rattle.mid_code.specs.MidCode.{code_of}
use Rattle.mid_code.specs.State.{Registers, register, falls, ends, charged, with_arena, MidState}
use Rattle.mid_arena.specs.Tags.{nil_word, instance_header}
use Rattle.mid_arena.proofs.Making.{begun}
use Rattle.mid_arena.proofs.Running.{StepsTo, and_then, constant_falls, compute_known, request_falls, load_falls, store_in_heap, address_above}
use Rattle.mid_arena.proofs.WordFacts.{four_times_count, sum_fits}
use Rattle.back_lowering.specs.RoutineCodes.{failing_with_code, domain_code, returning}
use Rattle.back_lowering.specs.Routines.{raise_routine}
use Rattle.back_lowering.specs.Steps.{store}
use Rattle.back_lowering.specs.declared.placement.Placement.{Placement}

-- a word is stored at an offset from where the heap ended
store_at :
    {c : Context} {from w : ℕ} {rs : Registers} {z : MidState} (h n k x : ℕ) → register from rs ≡ Some w → register 3 rs ≡ Some h → h + k ≡ x → k + 4 ≤ 4 * n → k % 4 ≡ 0 → h ≤ 2 ^ 26 → n ≤ 9
    → h % 4 ≡ 0 → z.arena.heap_from ≤ h → z.arena.heap_to ≡ h + 4 * n → StepsTo c (store from 3 k) rs z (ends falls rs (with_arena (with_word x w z.arena) (charged 8 z)))
store_at h n k x held base same within even small few aligned low to =
    store_in_heap held base (address_above h k x same (omega arith)) (omega arith) (omega arith) (omega arith)

two_up : (h : ℕ) → h + 8 ≡ h + 4 + 4
two_up h = omega arith

three_up : (h : ℕ) → h + 12 ≡ h + 4 + 4 + 4
three_up h = omega arith

four_up : (h : ℕ) → h + 16 ≡ h + 4 + 4 + 4 + 4
four_up h = omega arith

pointer_sum : (h : ℕ) → h ≤ 2 ^ 26 → h + 2 < 2 ^ 32
pointer_sum h small = omega arith

class_small : (n : ℕ) → n < 34 → 4 * n < 2 ^ 32
class_small n h = omega arith

class_low : (n : ℕ) → n < 34 → 4 * n + 0 < 2 ^ 32
class_low n h = omega arith

here_up : (h : ℕ) → h + 0 ≡ h
here_up h = omega arith

module _ (c : Context) (at : Placement) (y : MidState) (small : y.arena.heap_to ≤ 2 ^ 26) (aligned : y.arena.heap_to % 4 ≡ 0) (low : y.arena.heap_from ≤ y.arena.heap_to) where
  abbrev h : ℕ
  h = y.arena.heap_to

  pub with_runs :
      (class v word : ℕ) → class < 34 → 4 ≤ left y.arena → word_at (begun 4 (instance_header 1 ∷ []) y.arena) (4 * class + 0) ≡ Some word
      → exec c (code_of (failing_with_code at)) (Some class ∷ Some v ∷ None ∷ None ∷ None ∷ []) y
      ≡ exec c (code_of (returning at 3 (raise_routine at) (3 ∷ 4 ∷ []))) (Some class ∷ Some v ∷ Some 2 ∷ Some (h + 2) ∷ Some nil_word ∷ [])
      (record y { arena = begun 4 (instance_header 1 ∷ word ∷ v ∷ nil_word ∷ []) y.arena; cost = y.cost + 6 + 10 + 6 + 20 + 6 + 8 + 8 + 8 + 8 + 6 + 8 + 6 + 10 })
  unfolding failing_with_code
  with_runs class v word known room loaded =
      (and_then constant_falls
      (and_then (compute_known refl refl (four_times_count class (class_small class known)))
      (and_then constant_falls
      (and_then (request_falls refl room)
      (and_then constant_falls
      (and_then (store_at h 4 0 h refl refl (here_up h) (omega arith) refl small (omega arith) aligned low refl)
      (and_then (load_falls refl (address_above (4 * class) 0 (4 * class + 0) refl (class_low class known)) loaded)
      (and_then (store_at h 4 4 (h + 4) refl refl refl (omega arith) refl small (omega arith) aligned low refl)
      (and_then (store_at h 4 8 (h + 4 + 4) refl refl (two_up h) (omega arith) refl small (omega arith) aligned low refl)
      (and_then constant_falls
      (and_then (store_at h 4 12 (h + 4 + 4 + 4) refl refl (three_up h) (omega arith) refl small (omega arith) aligned low refl)
      (and_then constant_falls
      (and_then (compute_known refl refl (sum_fits h 2 (pointer_sum h small)))
      (record { same = refl })))))))))))))).same

  pub domain_runs :
      (v expected word e_word : ℕ) → expected < 34 → 5 ≤ left y.arena → word_at (begun 5 (instance_header 2 ∷ []) y.arena) 116 ≡ Some word
      → word_at (begun 5 (instance_header 2 ∷ word ∷ v ∷ []) y.arena) (4 * expected + 0) ≡ Some e_word
      → exec c (code_of (domain_code at)) (Some v ∷ Some expected ∷ None ∷ None ∷ None ∷ []) y
      ≡ exec c (code_of (returning at 3 (raise_routine at) (3 ∷ 4 ∷ []))) (Some v ∷ Some expected ∷ Some 2 ∷ Some (h + 2) ∷ Some nil_word ∷ [])
      (record y { arena = begun 5 (instance_header 2 ∷ word ∷ v ∷ e_word ∷ nil_word ∷ []) y.arena; cost = y.cost + 6 + 6 + 20 + 6 + 8 + 8 + 8 + 8 + 6 + 10 + 8 + 8 + 6 + 8 + 6 + 10 })
  unfolding domain_code
  domain_runs v expected word e_word known room loaded e_loaded =
      (and_then constant_falls
      (and_then constant_falls
      (and_then (request_falls refl room)
      (and_then constant_falls
      (and_then (store_at h 5 0 h refl refl (here_up h) (omega arith) refl small (omega arith) aligned low refl)
      (and_then (load_falls refl (address_above 116 0 116 refl (omega arith)) loaded)
      (and_then (store_at h 5 4 (h + 4) refl refl refl (omega arith) refl small (omega arith) aligned low refl)
      (and_then (store_at h 5 8 (h + 4 + 4) refl refl (two_up h) (omega arith) refl small (omega arith) aligned low refl)
      (and_then constant_falls
      (and_then (compute_known refl refl (four_times_count expected (class_small expected known)))
      (and_then (load_falls refl (address_above (4 * expected) 0 (4 * expected + 0) refl (class_low expected known)) e_loaded)
      (and_then (store_at h 5 12 (h + 4 + 4 + 4) refl refl (three_up h) (omega arith) refl small (omega arith) aligned low refl)
      (and_then constant_falls
      (and_then (store_at h 5 16 (h + 4 + 4 + 4 + 4) refl refl (four_up h) (omega arith) refl small (omega arith) aligned low refl)
      (and_then constant_falls
      (and_then (compute_known refl refl (sum_fits h 2 (pointer_sum h small)))
      (record { same = refl }))))))))))))))))).same
