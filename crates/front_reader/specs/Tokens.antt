-- Tokens: longest runs of token characters, and which of them are integers and floats.
use Rattle.std.specs.Prelude.{◌≡◌, ℕ, ◌+◌, ◌*◌, Bool, true, false, ◌||◌, ◌&&◌, ◌==◌, nat_lt, ℤ, pos, neg_ℤ, List, [], ◌∷◌, if◌then◌else◌}
use Rattle.std.specs.List.{list_all}
use Rattle.front_reader.specs.Characters.{is_digit, is_token, digit_value, begins}

-- the bytes are a token, where the text goes on with `after`
pub record IsToken (w after : List ℕ) : Type 0 where
  pub some : begins is_token w ≡ true
  pub all : list_all is_token w ≡ true
  pub ends : begins is_token after ≡ false

-- what stands behind a sign, if there is one
abbrev pub behind_sign : List ℕ → List ℕ
behind_sign [] = []
behind_sign (b ∷ bs) = if b == 43 || b == 45 then bs else b ∷ bs

-- what stands behind decimal digits
abbrev pub behind_digits : List ℕ → List ℕ
behind_digits [] = []
behind_digits (b ∷ bs) = if is_digit b then behind_digits bs else b ∷ bs

-- `[0-9]+`, in any base
abbrev pub are_digits : ℕ → List ℕ → Bool
are_digits base w = begins (λ b. nat_lt (digit_value b) base) w && list_all (λ b. nat_lt (digit_value b) base) w

-- `[+-]?[0-9]+`, in any base
abbrev pub is_integer : ℕ → List ℕ → Bool
is_integer base w = are_digits base (behind_sign w)

-- the number that digits spell behind those that are already read
abbrev pub digits_value : ℕ → ℕ → List ℕ → ℕ
digits_value base sum [] = sum
digits_value base sum (b ∷ bs) = digits_value base (sum * base + digit_value b) bs

unfoldable pub magnitude : ℕ → List ℕ → ℕ
magnitude base w = digits_value base 0 (behind_sign w)

abbrev pub is_negative : List ℕ → Bool
is_negative w = begins (λ b. b == 45) w

abbrev pub integer_value : ℕ → List ℕ → ℤ
integer_value base w = if is_negative w then neg_ℤ (pos (magnitude base w)) else pos (magnitude base w)

-- outside -536870912 to 536870911
abbrev pub is_wide : ℕ → List ℕ → Bool
is_wide base w = nat_lt (if is_negative w then 536870912 else 536870911) (magnitude base w)

-- `[eE][+-]?[0-9]+`
abbrev pub is_exponent : List ℕ → Bool
is_exponent [] = false
is_exponent (b ∷ bs) = (b == 101 || b == 69) && is_integer 10 bs

-- an exponent or nothing
abbrev pub may_be_exponent : List ℕ → Bool
may_be_exponent [] = true
may_be_exponent (b ∷ bs) = is_exponent (b ∷ bs)

-- `.[0-9]+` and perhaps an exponent
abbrev pub is_fraction : List ℕ → Bool
is_fraction [] = false
is_fraction (b ∷ bs) = b == 46 && begins is_digit bs && may_be_exponent (behind_digits bs)

-- `[+-]?[0-9]+.[0-9]+`, the same with an exponent, or `[+-]?[0-9]+` with an exponent
unfoldable pub is_float : List ℕ → Bool
is_float w =
    begins is_digit (behind_sign w)
    && (is_fraction (behind_digits (behind_sign w)) || is_exponent (behind_digits (behind_sign w)))

-- `.` alone
abbrev pub is_dot : List ℕ → Bool
is_dot [] = false
is_dot (b ∷ []) = b == 46
is_dot (b ∷ c ∷ bs) = false
