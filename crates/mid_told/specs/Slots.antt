-- How many slots the code finds by a header.
use Rattle.std.specs.Prelude.{ℕ, ◌/◌, ◌%◌, ◌==◌, if◌then◌else◌}

-- the header of an instance says it; what is no instance has none
abbrev pub slot_count_of : (header : ℕ) → ℕ
slot_count_of header = if header % 16 == 3 then header / 16 else 0
