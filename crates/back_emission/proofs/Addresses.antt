-- Addresses at an offset, and the words there.
use Rattle.std.proofs.Common.{◌≡◌, ℕ, zero, suc, ◌+◌, ◌-◌, ◌*◌, ◌/◌, ◌%◌, ◌^◌, ◌<◌, ◌≤◌, ℤ, pos, Bool, true, false, List, [], ◌∷◌, length, refl, ap, subst, ◌∙◌, arith, Some, None, eqb-true}
use Rattle.std.specs.Prelude.{negsuc, ◌+ℤ◌, Option, slice_index, slice_get, int_le, ◌==◌, if◌then◌else◌}
use Rattle.std.proofs.lemmas.Bool.Decides.{nat_tests}
use Rattle.std.proofs.lemmas.Int.{ints}
use Rattle.base.specs.Arithmetic.{sum32, low_word}
use Rattle.rv_machine.specs.Arithmetic.{sign_extended}
use Rattle.mid_code.specs.Arena.{Arena, is_lent, word_in, word_at}
use Rattle.mid_code.specs.Checked.{is_offset}
use Rattle.mid_code.specs.Words.{address}
use Rattle.mid_lines.proofs.Conjunctions.{front_true, back_true}
use Rattle.back_places.specs.Selection.{low_12}
use Rattle.back_places.specs.Relation.{HasArena}
use Rattle.back_emission.proofs.Parts.{small_extended, high_extended}

-- the low word of a sum with a negative number
negative_sum : (base n : ℕ) (z : ℤ) → pos base +ℤ negsuc n ≡ z → base < 2 ^ 32 → n ≤ 2047 → (base + (2 ^ 32 - 1 - n)) % 2 ^ 32 ≡ low_word z
unfolding low_word
negative_sum base n (pos k) e h le = omega (arith, ints, e, h, le)
negative_sum base n (negsuc k) e h le = omega (arith, ints, e, h, le)

positive_sum : (base n : ℕ) (z : ℤ) → pos base +ℤ pos n ≡ z → base < 2 ^ 32 → n ≤ 2047 → (base + n) % 2 ^ 32 ≡ low_word z
unfolding low_word
positive_sum base n (pos k) e h le = omega (arith, ints, e, h, le)
positive_sum base n (negsuc k) e h le = absurd (omega (arith, ints, e))

-- the address of an instruction with the lower 12 bits of an offset is the address at the offset
pub address_same : (base : ℕ) (offset : ℤ) → base < 2 ^ 32 → is_offset offset ≡ true → sum32 base (sign_extended 12 (low_12 offset)) ≡ address base offset
address_same base (pos n) h ok =
    let le : n ≤ 2047 = grind (arith, nat_tests, back_true (int_le (negsuc 2047) (pos n)) (int_le (pos n) (pos 2047)) ok) in
    let same : low_12 (pos n) ≡ n = omega (arith, le) in
    ap (λ k. sum32 base (sign_extended 12 k)) same ∙ ap (λ k. sum32 base k) (small_extended n (omega (arith, le))) ∙ positive_sum base n (pos base +ℤ pos n) refl h le
address_same base (negsuc n) h ok =
    let le : n ≤ 2047 = grind (arith, nat_tests, front_true (int_le (negsuc 2047) (negsuc n)) (int_le (negsuc n) (pos 2047)) ok) in
    let same : low_12 (negsuc n) ≡ 4095 - n = omega (arith, le) in
    let extended : sign_extended 12 (4095 - n) ≡ 2 ^ 32 - 1 - n = high_extended (4095 - n) (omega arith) (omega (arith, le)) ∙ omega (arith, le) in
    ap (λ k. sum32 base (sign_extended 12 k)) same ∙ ap (λ k. sum32 base k) extended ∙ negative_sum base n (pos base +ℤ negsuc n) refl h le

-- a word that is lent and was stored
pub record IsThere (a : Arena) (words : List ℕ) (address w : ℕ) : Type 0 where
  pub place : address ≡ 4 * (address / 4)
  pub lent : is_lent a (4 * (address / 4)) ≡ true
  pub within : address / 4 < length words
  pub is_word : slice_index words (address / 4) ≡ w

aligned : (a : Arena) (address : ℕ) → is_lent a address ≡ true → address ≡ 4 * (address / 4)
aligned a address h = let e = eqb-true (address % 4) 0 (front_true (address % 4 == 0) _ h) in omega (arith, e)

get_within : (ws : List (Option ℕ)) (i : ℕ) (x : Option ℕ) → slice_get ws i ≡ Some x → i < length ws
get_within [] i x h = absurd (cc h)
get_within (w ∷ ws) zero x h = omega arith
get_within (w ∷ ws) (suc i) x h = let k = get_within ws i x h in omega (arith, k)

some_word : (o : Option (Option ℕ)) (w : ℕ) → word_in o ≡ Some w → o ≡ Some (Some w)
some_word None w h = absurd (cc h)
some_word (Some x) w h = ap Some h

pub word_there : (a : Arena) (words : List ℕ) (address w : ℕ) → HasArena words a → word_at a address ≡ Some w → IsThere a words address w
word_there a words address w has h = by (is_lent a address) refl h
  where
    by : (t : Bool) → is_lent a address ≡ t → (if t then word_in (slice_get a.memory (address / 4)) else None) ≡ Some w → IsThere a words address w
    by false e k = absurd (cc k)
    by true e k =
        let place = aligned a address e in
        let lent = subst (λ x. is_lent a x ≡ true) place e in
        let there = some_word (slice_get a.memory (address / 4)) w k in
        let within = get_within a.memory (address / 4) (Some w) there in
        record { place = place; lent = lent; within = omega (arith, within, has.long); is_word = has.lent (address / 4) w lent there }

-- a word of the arena, wherever it is lent
pub lent_within : (a : Arena) (address : ℕ) → is_lent a address ≡ true → address ≡ 4 * (address / 4)
lent_within = aligned
