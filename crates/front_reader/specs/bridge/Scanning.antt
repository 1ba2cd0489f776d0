-- What a byte of a gap does and where quotes end, as the code tells it.
use Rattle.std.specs.Prelude.{ℕ, ◌+◌, ◌<◌, List, length}
use Rattle.front_reader.specs.declared.quoted.Quoted.{Quoted}
use Rattle.front_reader.specs.declared.quoted.Quoted.TheVariants.{Closed, Unclosed, Bad}
use Rattle.front_reader.specs.declared.gap.Mode.{Mode}
use Rattle.front_reader.specs.declared.gap.Mode.TheVariants.{Between, InLine, InBlock, Opens as OpensBlock, Closes}
use Rattle.front_reader.specs.declared.gap.Skipped.{Skipped}
use Rattle.front_reader.specs.declared.gap.Skipped.TheVariants.{Ends}
use Rattle.front_reader.specs.declared.gap.Turn.{Turn}
use Rattle.front_reader.specs.declared.gap.Turn.TheVariants.{Goes, Opens, Stops}
use Rattle.front_reader.specs.bridge.Lexemes.{skip}

-- the gap from behind the byte on, of which i bytes and this one are taken
abbrev pub turned : Turn → ℕ → ℕ → List ℕ → Skipped
turned (Goes mode) i o bs = skip mode (i + 1) o bs
turned Opens i o bs = skip (OpensBlock 0) (i + 1) i bs
turned Stops i o bs = Ends i

-- how many comments stand around
abbrev pub depth_of : Mode → ℕ
depth_of Between = 0
depth_of InLine = 0
depth_of (InBlock n) = n
depth_of (OpensBlock n) = n
depth_of (Closes n) = n

abbrev pub depth_behind : Turn → ℕ
depth_behind (Goes mode) = depth_of mode
depth_behind Opens = 0
depth_behind Stops = 0

-- the place is one of the bytes
abbrev pub QuotedWithin : Quoted → List ℕ → Type 0
QuotedWithin (Closed n) bs = n < length bs
QuotedWithin Unclosed bs = Unit {0}
QuotedWithin (Bad n) bs = n < length bs
