-- The signed number that the bits of a field stand for.
use Rattle.std.specs.Prelude.{ℕ, ◌-◌, ◌^◌, nat_lt, if◌then◌else◌, ℤ, pos, ◌-ℤ◌}

-- two's complement, in so many bits
abbrev pub signed : ℕ → ℕ → ℤ
signed width bits = if nat_lt bits (2 ^ (width - 1)) then pos bits else pos bits -ℤ pos (2 ^ width)
