-- The arithmetic of digits, and beginnings of texts.
use Rattle.std.proofs.Common.{◌≡◌, ◌≤◌, ◌<◌, ℕ, zero, suc, ◌+◌, ◌-◌, ◌*◌, ◌/◌, ◌%◌, pos, negsuc, ◌+ℤ◌, ◌-ℤ◌, true, List, [], ◌++◌, refl, sym, ap, ◌∙◌, slice_index_or, append_assoc, append-nil, arith}
use Rattle.std.proofs.lemmas.Int.{ints}
use Rattle.std.proofs.lemmas.Bool.Decides.{nat_tests}
use Rattle.std.specs.Prelude.{codes}
use Rattle.lang_meaning.specs.Values.{in_range}
use Rattle.lang_meaning.specs.Primitives.{floor_quotient, floor_remainder}
use Rattle.lang_library_laws.specs.Decimal.{digit}
use Rattle.lang_library_laws.specs.Applications.{IsBegun}

-- a text is begun by none of another one, by all of it, by what begins its front, and by its front with what begins the others
pub begun_none : (before whole : List ℕ) → IsBegun before whole before
begun_none before whole = ([], whole, sym (append-nil before), refl)

pub begun_all : (before whole : List ℕ) → IsBegun before whole (before ++ whole)
begun_all before whole = (whole, [], refl, append-nil whole)

pub begun_front : (before front others text : List ℕ) → IsBegun before front text → IsBegun before (front ++ others) text
begun_front before front others text h = (h.0, h.1 ++ others, h.2, sym (append_assoc h.0 h.1 others) ∙ ap (λ us. us ++ others) h.3)

pub begun_behind : (before front others text : List ℕ) → IsBegun (before ++ front) others text → IsBegun before (front ++ others) text
begun_behind before front others text h =
    (front ++ h.0, h.1, h.2 ∙ append_assoc before front h.0, append_assoc front h.0 h.1 ∙ ap (λ us. front ++ us) h.3)

-- the digits are the bytes at the beginning of the library's text
pub digit_is : (d : ℕ) → d < 10 → slice_index_or (codes "0123456789ABCDEFGHIJKLMNOPQRSTUVWXYZ") d 0 ≡ digit d
digit_is zero h = refl
digit_is (suc zero) h = refl
digit_is (suc (suc zero)) h = refl
digit_is (suc (suc (suc zero))) h = refl
digit_is (suc (suc (suc (suc zero)))) h = refl
digit_is (suc (suc (suc (suc (suc zero))))) h = refl
digit_is (suc (suc (suc (suc (suc (suc zero)))))) h = refl
digit_is (suc (suc (suc (suc (suc (suc (suc zero))))))) h = refl
digit_is (suc (suc (suc (suc (suc (suc (suc (suc zero)))))))) h = refl
digit_is (suc (suc (suc (suc (suc (suc (suc (suc (suc zero))))))))) h = refl
digit_is (suc (suc (suc (suc (suc (suc (suc (suc (suc (suc d)))))))))) h = absurd (omega (arith, h))

-- quotients and remainders by ten
pub remainder_is : (n : ℕ) → floor_remainder (pos n) (pos 10) ≡ pos (n % 10)
remainder_is n = omega (arith, ints)

-- the last digit of a number below 0, and those in front
pub first_remainder : (n : ℕ) → floor_remainder (negsuc n) (pos 10) ≡ pos (9 - n % 10)
first_remainder n = omega (arith, ints)

pub last_is : (n : ℕ) → floor_remainder (pos 0 -ℤ pos (9 - n % 10)) (pos 10) ≡ pos (suc n % 10)
last_is n = by (9 - n % 10) refl
  where
    by : (d : ℕ) → 9 - n % 10 ≡ d → floor_remainder (pos 0 -ℤ pos d) (pos 10) ≡ pos (suc n % 10)
    by zero e = ap pos (omega arith)
    by (suc d) e =
        let below : pos 0 -ℤ pos (suc d) ≡ negsuc d = omega (arith, ints) in
        ap (λ a. floor_remainder a (pos 10)) below ∙ first_remainder d ∙ ap pos (omega arith)

pub sum_is : (n : ℕ) → negsuc n +ℤ pos (suc n % 10) ≡ pos 0 -ℤ pos (10 * (suc n / 10))
sum_is n = omega (arith, ints)

pub quotient_is : (q : ℕ) → floor_quotient (pos 0 -ℤ pos (10 * q)) (pos 10) ≡ pos 0 -ℤ pos q
quotient_is zero = refl
quotient_is (suc q) =
    let below : pos 0 -ℤ pos (10 * suc q) ≡ negsuc (10 * q + 9) = omega (arith, ints) in
    ap (λ a. floor_quotient a (pos 10)) below ∙ omega (arith, ints)

pub front_is : (q : ℕ) → pos 0 -ℤ (pos 0 -ℤ pos q) ≡ pos q
front_is q = omega (arith, ints)

pub range_below : (n : ℕ) → in_range (negsuc n) ≡ true → n ≤ 536870911
range_below n h = grind (arith, nat_tests)

pub range_above : (n : ℕ) → in_range (pos n) ≡ true → n ≤ 536870911
range_above n h = grind (arith, nat_tests)

pub natural_range : (n : ℕ) → n ≤ 536870911 → in_range (pos n) ≡ true
natural_range n h = grind (arith, nat_tests)

pub minus_range : (n : ℕ) → n ≤ 536870912 → in_range (pos 0 -ℤ pos n) ≡ true
minus_range zero h = refl
minus_range (suc n) h =
    let below : pos 0 -ℤ pos (suc n) ≡ negsuc n = omega (arith, ints) in
    let fits : in_range (negsuc n) ≡ true = grind (arith, nat_tests) in
    ap in_range below ∙ fits
