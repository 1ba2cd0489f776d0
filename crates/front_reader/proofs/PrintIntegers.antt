-- The printed spelling of an integer spells it.
use Rattle.std.specs.Prelude.{◌≡◌, ℕ, suc, ◌+◌, ◌*◌, ◌-◌, ◌/◌, ◌%◌, ◌^◌, ◌<◌, ◌≤◌, Bool, true, false, ◌&&◌, ◌||◌, ◌==◌, nat_lt, ℤ, pos, negsuc, ◌≤ℤ◌, List, [], ◌∷◌, ◌++◌, refl}
use Rattle.std.specs.List.{list_all}
use Rattle.std.specs.Fmt.{decimal, signed_decimal}
use Rattle.std.proofs.Common.{arith, ◌∙◌, ap, subst}
use Rattle.std.proofs.lemmas.Bool.Decides.{nat_tests}
use Rattle.std.proofs.lemmas.Fmt.{decimal_by_steps}
use Rattle.std.proofs.lemmas.Int.{ints}
use Rattle.front_reader.specs.Characters.{begins, is_token, is_digit, digit_value}
use Rattle.front_reader.specs.Tokens.{IsToken, is_integer, integer_value, is_wide, are_digits, digits_value, magnitude, behind_sign}
use Rattle.front_reader.specs.Atoms.{an_integer, Spells, decimal as decimal_row}

-- a decimal digit
digit_value_of : (b : ℕ) → is_digit b ≡ true → digit_value b ≡ b - 48
unfolding digit_value
digit_value_of b h = rw h refl

digit_is : (d : ℕ) → d < 10 → is_digit (48 + d) ≡ true
digit_is d h = grind (arith, nat_tests)

digit_below : (b : ℕ) → is_digit b ≡ true → b - 48 < 10
digit_below b h = grind (arith, nat_tests)

digit_no_sign : (b : ℕ) → is_digit b ≡ true → (b == 43 || b == 45) ≡ false
digit_no_sign b h = grind (arith, nat_tests)

digit_no_minus : (b : ℕ) → is_digit b ≡ true → (b == 45) ≡ false
digit_no_minus b h = grind (arith, nat_tests)

digit_token : (b : ℕ) → is_digit b ≡ true → is_token b ≡ true
unfolding is_token
digit_token b h = rw h refl

digit_lt : (b : ℕ) → is_digit b ≡ true → nat_lt (digit_value b) 10 ≡ true
digit_lt b h = let below : digit_value b < 10 = rw (digit_value_of b h) (digit_below b h) in grind (arith, nat_tests)

-- lists of digits
and_true : (a b : Bool) → (a && b) ≡ true → (a ≡ true) × (b ≡ true)
and_true true b h = (refl, h)
and_true false b h = absurd (cc)

value_push : (base sum : ℕ) (ds : List ℕ) (c : ℕ) → digits_value base sum (ds ++ c ∷ []) ≡ digits_value base sum ds * base + digit_value c
value_push base sum [] c = refl
value_push base sum (d ∷ ds) c = value_push base (sum * base + digit_value d) ds c

all_push : (ds : List ℕ) (c : ℕ) → list_all is_digit ds ≡ true → is_digit c ≡ true → list_all is_digit (ds ++ c ∷ []) ≡ true
all_push [] c h k = rw k refl
all_push (d ∷ ds) c h k =
    let both : (is_digit d ≡ true) × (list_all is_digit ds ≡ true) = and_true _ _ h in
    rw both.0 (all_push ds c both.1 k)

begins_push : (ds : List ℕ) (c : ℕ) → begins is_digit ds ≡ true → begins is_digit (ds ++ c ∷ []) ≡ true
begins_push [] c h = absurd (cc)
begins_push (d ∷ ds) c h = h

all_tokens : (ds : List ℕ) → list_all is_digit ds ≡ true → list_all is_token ds ≡ true
all_tokens [] h = refl
all_tokens (d ∷ ds) h =
    let both : (is_digit d ≡ true) × (list_all is_digit ds ≡ true) = and_true _ _ h in
    rw (digit_token d both.0) (all_tokens ds both.1)

all_below : (ds : List ℕ) → list_all is_digit ds ≡ true → list_all (λ b. nat_lt (digit_value b) 10) ds ≡ true
all_below [] h = refl
all_below (d ∷ ds) h =
    let both : (is_digit d ≡ true) × (list_all is_digit ds ≡ true) = and_true _ _ h in
    rw (digit_lt d both.0) (all_below ds both.1)

begins_below : (ds : List ℕ) → begins is_digit ds ≡ true → begins (λ b. nat_lt (digit_value b) 10) ds ≡ true
begins_below [] h = h
begins_below (d ∷ ds) h = digit_lt d h

begins_token : (ds : List ℕ) → begins is_digit ds ≡ true → begins is_token ds ≡ true
begins_token [] h = h
begins_token (d ∷ ds) h = digit_token d h

no_sign : (ds : List ℕ) → begins is_digit ds ≡ true → behind_sign ds ≡ ds
no_sign [] h = refl
no_sign (d ∷ ds) h = rw (digit_no_sign d h) refl

no_minus : (ds : List ℕ) → begins is_digit ds ≡ true → begins (λ b. b == 45) ds ≡ false
no_minus [] h = absurd (cc)
no_minus (d ∷ ds) h = digit_no_minus d h

-- the bytes are decimal digits, and their number is n
record IsDecimal (n : ℕ) (ds : List ℕ) : Type 0 where
  value : digits_value 10 0 ds ≡ n
  some : begins is_digit ds ≡ true
  all : list_all is_digit ds ≡ true

decimal_is : (n : ℕ) → n < 2 ^ 64 → IsDecimal n (decimal n)
decimal_is n h = decimal_by_steps IsDecimal one more n h
  where
    one : (d : ℕ) → d < 10 → IsDecimal d ((48 + d) ∷ [])
    one d below =
        let is : is_digit (48 + d) ≡ true = digit_is d below in
        let v : digit_value (48 + d) ≡ (48 + d) - 48 = digit_value_of (48 + d) is in
        record { value = omega (arith, v); some = is; all = rw is refl }

    more : (m : ℕ) (ds : List ℕ) → 10 ≤ m → IsDecimal (m / 10) ds → IsDecimal m (ds ++ ((48 + m % 10) ∷ []))
    more m ds big x =
        let below : m % 10 < 10 = omega arith in
        let is : is_digit (48 + m % 10) ≡ true = digit_is (m % 10) below in
        let v : digit_value (48 + m % 10) ≡ (48 + m % 10) - 48 = digit_value_of (48 + m % 10) is in
        record {
          value = value_push 10 0 ds (48 + m % 10) ∙ omega (arith, v, x.value);
          some = begins_push ds (48 + m % 10) x.some;
          all = all_push ds (48 + m % 10) x.all is;
        }

digits_are : (ds : List ℕ) → begins is_digit ds ≡ true → list_all is_digit ds ≡ true → are_digits 10 ds ≡ true
digits_are ds some all = rw (begins_below ds some, all_below ds all) refl

lt_false : (a b : ℕ) → b ≤ a → nat_lt a b ≡ false
lt_false a b h = grind (arith, nat_tests)

magnitude_is : (w ds : List ℕ) (n : ℕ) → behind_sign w ≡ ds → digits_value 10 0 ds ≡ n → magnitude 10 w ≡ n
unfolding magnitude
magnitude_is w ds n e f = ap (digits_value 10 0) e ∙ f

natural_spelled : (n : ℕ) (ds after : List ℕ) → n < 536870912 → IsDecimal n ds → begins is_token after ≡ false → Spells ds after (an_integer (pos n))
natural_spelled n ds after small x ends =
    let is : IsToken ds after = record { some = begins_token ds x.some; all = all_tokens ds x.all; ends = ends } in
    let whole : is_integer 10 ds ≡ true = rw (no_sign ds x.some) (digits_are ds x.some x.all) in
    let plus : begins (λ b. b == 45) ds ≡ false = no_minus ds x.some in
    let value : magnitude 10 ds ≡ n = magnitude_is ds ds n (no_sign ds x.some) x.value in
    let narrow : is_wide 10 ds ≡ false = rw (plus, value) (lt_false 536870911 n (omega arith)) in
    let result : integer_value 10 ds ≡ pos n = rw (plus, value) refl in
    let P : ℤ → Type 0 = λ z. Spells ds after (an_integer z) in
    subst P result (decimal_row ds after is whole narrow)

minus_token : is_token 45 ≡ true
unfolding is_token
minus_token = refl

negative_spelled : (n : ℕ) (ds after : List ℕ) → n < 536870912 → IsDecimal (suc n) ds → begins is_token after ≡ false
    → Spells (45 ∷ ds) after (an_integer (negsuc n))
negative_spelled n ds after small x ends =
    let is : IsToken (45 ∷ ds) after = record { some = minus_token; all = rw minus_token (all_tokens ds x.all); ends = ends } in
    let whole : is_integer 10 (45 ∷ ds) ≡ true = digits_are ds x.some x.all in
    let value : magnitude 10 (45 ∷ ds) ≡ suc n = magnitude_is (45 ∷ ds) ds (suc n) refl x.value in
    let narrow : is_wide 10 (45 ∷ ds) ≡ false = rw value (lt_false 536870912 (suc n) (omega arith)) in
    let result : integer_value 10 (45 ∷ ds) ≡ negsuc n = rw value refl in
    let P : ℤ → Type 0 = λ z. Spells (45 ∷ ds) after (an_integer z) in
    subst P result (decimal_row (45 ∷ ds) after is whole narrow)

pub integer_spelled : (n : ℤ) (after : List ℕ) → negsuc 536870911 ≤ℤ n → n ≤ℤ pos 536870911 → begins is_token after ≡ false
    → Spells (signed_decimal n) after (an_integer n)
integer_spelled (pos n) after low high ends =
    natural_spelled n (decimal n) after (omega (arith, ints)) (decimal_is n (omega (arith, ints))) ends
integer_spelled (negsuc n) after low high ends =
    negative_spelled n (decimal (suc n)) after (omega (arith, ints)) (decimal_is (suc n) (omega (arith, ints))) ends
