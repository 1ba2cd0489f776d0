-- What an outside that never fails holds.
use Rattle.std.specs.Prelude.{ℕ, ◌+◌, ◌-◌, List, [], ◌++◌, length, take, Bool, false, ◌||◌, Option, Some, None, if◌then◌else◌, ◌==◌, nat_lt, min}

-- a sink that takes everything: the first bytes of what it was given, how many it keeps, whether it
-- was given more, and how many calls gave it bytes that it keeps
pub record SureSinkState : Type 0 where
  pub kept : List ℕ
  pub capacity : ℕ
  pub over : Bool
  pub writes : ℕ

-- before the first call
abbrev pub empty_sure_sink : ℕ → SureSinkState
empty_sure_sink room = record { kept = []; capacity = room; over = false; writes = 0 }

-- how many of these bytes it keeps
abbrev pub kept_count : SureSinkState → List ℕ → ℕ
kept_count s bytes = min (s.capacity - length s.kept) (length bytes)

-- after a call with these bytes
abbrev pub sure_sink_took : SureSinkState → List ℕ → SureSinkState
sure_sink_took s bytes = record {
  kept = s.kept ++ take (kept_count s bytes) bytes;
  capacity = s.capacity;
  over = s.over || nat_lt (kept_count s bytes) (length bytes);
  writes = s.writes + (if kept_count s bytes == 0 then 0 else 1);
}

-- its bytes, until it was given more than it keeps
abbrev pub told_unless_over : SureSinkState → Option (List ℕ)
told_unless_over s = if s.over then None else Some s.kept
