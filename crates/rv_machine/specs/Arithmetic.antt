-- What the instructions compute beside what operations on words do (RISC-V Unprivileged ISA, 2.4, and the chapter on the M
-- extension).
use Rattle.std.specs.Prelude.{ℕ, ◌+◌, ◌-◌, ◌*◌, ◌/◌, ◌%◌, ◌^◌, if◌then◌else◌, ◌==◌, nat_lt, pos, ◌*ℤ◌}
use Rattle.base.specs.Arithmetic.{signed, low_word, shifted_down}

-- a number of k bits with its highest bit repeated up to 32
abbrev pub sign_extended : ℕ → ℕ → ℕ
sign_extended k n = if nat_lt n (2 ^ (k - 1)) then n else n + (2 ^ 32 - 2 ^ k)

-- the upper halves of products: MULHSU of the first as signed, MULHU
unfoldable pub high_mixed : ℕ → ℕ → ℕ
high_mixed a b = low_word (shifted_down (signed a *ℤ pos b) 32)

abbrev pub high_unsigned : ℕ → ℕ → ℕ
high_unsigned a b = (a * b) / 2 ^ 32

-- DIVU and REMU
abbrev pub quotient : ℕ → ℕ → ℕ
quotient a b = if b == 0 then 2 ^ 32 - 1 else a / b

abbrev pub remainder : ℕ → ℕ → ℕ
remainder a b = if b == 0 then a else a % b

-- bit 0 cleared
abbrev pub even : ℕ → ℕ
even n = n - n % 2
