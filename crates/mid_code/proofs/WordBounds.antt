-- What operations compute on words is below 2 ^ 32, and so is what is read from lists of words.
use Rattle.std.proofs.Common.{◌≡◌, ℕ, zero, suc, ◌%◌, ◌^◌, ℤ, pos, Bool, true, false, List, [], ◌∷◌, ◌++◌, Option, Some, None, refl, arith}
use Rattle.std.specs.Prelude.{negsuc, ◌==◌, nat_lt, if◌then◌else◌, ◌&&◌, map, replicate, slice_get, slice_set}
use Rattle.std.specs.Int.Bits.{and_lt}
use Rattle.std.proofs.lemmas.Nat.{or_lt, xor_lt}
use Rattle.std.proofs.Math.Nat.{div-le_self}
use Rattle.mid_code.specs.declared.operation.Arithmetic.{Arithmetic}
use Rattle.mid_code.specs.declared.operation.Arithmetic.TheVariants as which
use Rattle.base.specs.Arithmetic.{low_word, high_signed, quotient_signed, remainder_signed, shift_right_signed, less_signed}
use Rattle.mid_code.specs.Words.{computed}
use Rattle.mid_code.specs.Arena.{word_in, emptied}
use Rattle.mid_code.specs.Bounds.{IsWord, AreWords, AreWordsOrNone}

pub low_word_bounded : (z : ℤ) → IsWord (low_word z)
unfolding low_word
low_word_bounded (pos n) = omega arith
low_word_bounded (negsuc n) = omega arith

one_or_none : (b : Bool) → IsWord (if b then 1 else 0)
one_or_none true = omega arith
one_or_none false = omega arith

either : (b : Bool) (m n : ℕ) → IsWord m → IsWord n → IsWord (if b then m else n)
either true m n g h = g
either false m n g h = h

pub computed_bounded : (a : Arithmetic) (m n : ℕ) → IsWord m → IsWord n → IsWord (computed a m n)
unfolding high_signed quotient_signed remainder_signed shift_right_signed
computed_bounded which.Add m n g h = omega arith
computed_bounded which.Subtract m n g h = omega arith
computed_bounded which.Multiply m n g h = omega arith
computed_bounded which.MultiplyHigh m n g h = low_word_bounded _
computed_bounded which.Divide m n g h = either (n == 0) _ _ (omega arith) (low_word_bounded _)
computed_bounded which.Remainder m n g h = either (n == 0) _ _ g (low_word_bounded _)
computed_bounded which.And m n g h = and_lt 32 m n g h
computed_bounded which.Or m n g h = or_lt 32 m n g h
computed_bounded which.ExclusiveOr m n g h = xor_lt 32 m n g h
computed_bounded which.ShiftLeft m n g h = omega arith
computed_bounded which.ShiftRight m n g h = omega (arith, g, div-le_self m (2 ^ (n % 32)))
computed_bounded which.ShiftRightSigned m n g h = low_word_bounded _
computed_bounded which.Less m n g h = one_or_none (less_signed m n)
computed_bounded which.LessUnsigned m n g h = one_or_none (nat_lt m n)

-- lists of words

pub word_in_bounded : (ws : List (Option ℕ)) (i w : ℕ) → AreWordsOrNone ws → word_in (slice_get ws i) ≡ Some w → IsWord w
word_in_bounded [] i w b e = absurd (cc e)
word_in_bounded (None ∷ ws) zero w b e = absurd (cc e)
word_in_bounded (Some v ∷ ws) zero w b e = let same : v ≡ w = cc e in omega (arith, b.0, same)
word_in_bounded (v ∷ ws) (suc i) w b e = word_in_bounded ws i w b.1 e

pub set_bounded : (ws : List (Option ℕ)) (i w : ℕ) → AreWordsOrNone ws → IsWord w → AreWordsOrNone (slice_set ws i (Some w))
set_bounded [] i w b h = tt
set_bounded (v ∷ ws) zero w b h = (h, b.1)
set_bounded (v ∷ ws) (suc i) w b h = (b.0, set_bounded ws i w b.1 h)

pub emptied_bounded : (i n : ℕ) (ws : List (Option ℕ)) → AreWordsOrNone ws → AreWordsOrNone (emptied i n ws)
emptied_bounded i n [] b = tt
emptied_bounded zero zero (w ∷ ws) b = b
emptied_bounded zero (suc n) (w ∷ ws) b = (tt, emptied_bounded zero n ws b.1)
emptied_bounded (suc i) n (w ∷ ws) b = (b.0, emptied_bounded i n ws b.1)

none_bounded : (n : ℕ) → AreWordsOrNone (replicate {A = Option ℕ} n None)
none_bounded zero = tt
none_bounded (suc n) = (tt, none_bounded n)

pub first_bounded : (n : ℕ) (ws : List ℕ) → AreWords ws → AreWordsOrNone (map (λ w. Some w) ws ++ replicate {A = Option ℕ} n None)
first_bounded n [] b = none_bounded n
first_bounded n (w ∷ ws) b = (b.0, first_bounded n ws b.1)

-- tests

pub first_true : (a b : Bool) → (a && b) ≡ true → a ≡ true
first_true true b h = refl
first_true false b h = absurd (cc h)

pub second_true : (a b : Bool) → (a && b) ≡ true → b ≡ true
second_true true b h = h
second_true false b h = absurd (cc h)
