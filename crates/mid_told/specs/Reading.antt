-- What is read of words: the word at a place, and what stands where a word points.
use Rattle.std.specs.Prelude.{ℕ, ◌+◌, ◌/◌, ◌%◌, ◌==◌, List, slice_get, if◌then◌else◌}
use Rattle.std.specs.Option.{unwrap_or}
use Rattle.mid_arena.specs.Tags.{object_tag}

-- 0 where there is none
abbrev pub read_at : List ℕ → ℕ → ℕ
read_at words at = unwrap_or (slice_get words at) 0

-- the header of an object or a symbol; 0 of what has none
abbrev pub header_in : List ℕ → ℕ → ℕ
header_in words word = if word % 4 == object_tag then read_at words (word / 4) else 0

-- the word behind the first one
abbrev pub second_in : List ℕ → ℕ → ℕ
second_in words word = read_at words (word / 4 + 1)
