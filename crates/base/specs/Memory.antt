-- What an outside in memory holds.
use Rattle.std.specs.Prelude.{ℕ, ◌+◌, ◌<◌, ◌≤◌, List, [], ◌++◌, length, take, Option, Some, None, if◌then◌else◌, ◌==◌}
use Rattle.std.specs.Str.{bytes_eq}
use Rattle.base.specs.declared.calls.Calls.{Calls}
use Rattle.base.specs.Calls.{no_calls, passed, failed}

-- bytes that are kept, how many there is room for in all, and how many calls put some there
pub record BufferState : Type 0 where
  pub bytes : List ℕ
  pub capacity : ℕ
  pub writes : ℕ

abbrev pub empty_buffer : ℕ → BufferState
empty_buffer room = record { bytes = []; capacity = room; writes = 0 }

-- with the first n of these bytes more
abbrev pub with_front : BufferState → ℕ → List ℕ → BufferState
with_front b n more = record { bytes = b.bytes ++ take n more; capacity = b.capacity; writes = b.writes + (if n == 0 then 0 else 1) }

-- a source: the bytes that are left, and its calls
pub record SourceState : Type 0 where
  pub rest : List ℕ
  pub calls : Calls

-- a sink: the bytes kept, how many it has room for in all, how many calls took bytes, and its calls
pub record SinkState : Type 0 where
  pub kept : List ℕ
  pub capacity : ℕ
  pub writes : ℕ
  pub calls : Calls

-- before the first call
abbrev pub empty_sink : ℕ → List ℕ → SinkState
empty_sink room fails = record { kept = []; capacity = room; writes = 0; calls = no_calls fails }

-- there is something to take, and no room for a byte of it
pub record IsFullFor (sink : SinkState) (bytes : List ℕ) : Type 0 where
  pub some : 0 < length bytes
  pub full : sink.capacity ≤ length sink.kept

-- after a call that took the first n of these bytes
abbrev pub sink_took : SinkState → ℕ → List ℕ → SinkState
sink_took s n bytes = record { kept = s.kept ++ take n bytes; capacity = s.capacity; writes = s.writes + (if n == 0 then 0 else 1); calls = passed s.calls }

-- after a call that failed
abbrev pub sink_failed : SinkState → SinkState
sink_failed s = record { kept = s.kept; capacity = s.capacity; writes = s.writes; calls = failed s.calls }

-- a shelf: its one name, the bytes under it, and its calls
pub record ShelfState : Type 0 where
  pub name : List ℕ
  pub file : List ℕ
  pub calls : Calls

-- its bytes under its name, and nothing under another
abbrev pub told_under : ShelfState → List ℕ → Option (List ℕ)
told_under s asked = if bytes_eq asked s.name then Some s.file else None
