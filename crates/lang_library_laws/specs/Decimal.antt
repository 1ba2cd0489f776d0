-- The decimal digits of an integer, as bytes.
use Rattle.std.specs.Prelude.{ℕ, zero, suc, ◌+◌, ◌/◌, ◌%◌, ℤ, pos, negsuc, nat_lt, List, [], ◌∷◌, ◌++◌, if◌then◌else◌}

-- the byte of a digit, behind that of 0
abbrev pub digit : ℕ → ℕ
digit d = 48 + d

-- the digits of a number: the number itself below ten, else those of its quotient by ten and then its remainder; so many at most
abbrev pub digits_within : ℕ → ℕ → List ℕ
digits_within zero n = []
digits_within (suc most) n = if nat_lt n 10 then digit n ∷ [] else digits_within most (n / 10) ++ digit (n % 10) ∷ []

-- a number has fewer digits than it is large, or one
abbrev pub natural_digits : ℕ → List ℕ
natural_digits n = digits_within (suc n) n

-- an integer's, behind a minus sign where it is below 0
abbrev pub decimal : ℤ → List ℕ
decimal (pos n) = natural_digits n
decimal (negsuc n) = 45 ∷ natural_digits (suc n)
