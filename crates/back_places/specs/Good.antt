-- What is decided well: facts flow along all lines, and code stands where it is said to stand.
use Rattle.std.specs.Prelude.{◌≡◌, ◌≤◌, ◌<◌, ℕ, ◌+◌, ◌^◌, true, length, slice_get, Some}
use Rattle.mid_code.specs.declared.operation.Callee.TheVariants.{Procedure}
use Rattle.mid_code.specs.declared.operation.Operation.TheVariants.{Call}
use Rattle.mid_lines.specs.declared.line.Line.{Line}
use Rattle.mid_lines.specs.declared.line.Line.TheVariants.{Do, Branch, Jump, Lay, Lend}
use Rattle.mid_lines.specs.declared.line.LineProcedure.{LineProcedure}
use Rattle.mid_lines.specs.declared.line.LineProgram.{LineProgram}
use Rattle.mid_lines.specs.Lines.{line_of}
use Rattle.mid_lines.specs.StackLaw.{frame_of}
use Rattle.back_places.specs.declared.place.Place.{Place}
use Rattle.back_places.specs.Places.{Located, way_at, reachable}
use Rattle.back_places.specs.Selection.{WithinBranch, WithinJump}
use Rattle.back_places.specs.LineCode.{line_code, behind_code, before_call_code, tested_code, entry_code}
use Rattle.back_places.specs.Facts.{IsPlace, GoodLine, GoodEntry}

-- the jump of a line goes no further than it can, in its short form
abbrev pub Reaches : (l : Located) (number line : ℕ) → Line → Type 0
Reaches l number line (Do (Call to (Procedure n) arguments)) =
    WithinJump (l.line_at number line + length (before_call_code l number line (Procedure n) arguments)) (l.entry_at n)
Reaches l number line (Branch t otherwise) =
    WithinBranch (l.line_at number line + length (tested_code l number line t.first t.second)) (l.line_at number otherwise)
Reaches l number line (Jump to) = WithinJump (l.line_at number line) (l.line_at number to)
Reaches l number line x = Unit {0}

-- how many words of its frame a procedure can reach at a line
abbrev pub reach_at : LineProgram → Located → (number line : ℕ) → ℕ
reach_at program l number line = reachable (way_at l number line) (frame_of program number).words

-- code stands line behind line
pub record Laid (l : Located) (number frame line : ℕ) (x : Line) : Type 0 where
  pub back : l.back_at number line ≡ l.line_at number line + length (line_code l number frame line x)
  pub behind : l.line_at number (line + 1) ≡ l.back_at number line + length (behind_code l number line x)
  pub reaches : l.near number line ≡ true → Reaches l number line x

-- a line that lays a record
abbrev pub LaysOne : Line → Type 0
LaysOne (Lay block words landing) = Unit {0}
LaysOne (Lend block words) = Unit {0}
LaysOne x = ⊥

-- all is decided well
pub record IsGood (program : LineProgram) (l : Located) (Fact : (number line register : ℕ) → Place → Type 0) : Type 0 where
  pub lines : (number line : ℕ) (x : Line) → line_of program number line ≡ Some x → GoodLine l Fact number line x
  pub laid : (number line : ℕ) (x : Line) → line_of program number line ≡ Some x → Laid l number (frame_of program number).words line x
  pub entries : (number : ℕ) (p : LineProcedure) → slice_get program.procedures number ≡ Some p → GoodEntry l Fact number p.frame p.parameters
  -- the first line of a procedure stands behind the code of its entry
  pub begins :
      (number : ℕ) (p : LineProcedure) → slice_get program.procedures number ≡ Some p → l.line_at number 0 ≡ l.entry_at number + length (entry_code l number p.frame)
  pub placed : (number line v : ℕ) (p : Place) → Fact number line v p → IsPlace (frame_of program number).words p
  -- where a line reads, and where it gives a word, is within reach: a record that a line lays stands by then
  pub sources : (number line v : ℕ) → Fact number line v (l.source number line v) → IsPlace (reach_at program l number line) (l.source number line v)
  pub targets : (number line : ℕ) → IsPlace (reach_at program l number line) (l.target number line)
  pub behind : (number line : ℕ) (x : Line) → line_of program number line ≡ Some x → LaysOne x → IsPlace (reach_at program l number (line + 1)) (l.target number line)
  pub frames : (number : ℕ) → l.saves number ≡ true → 0 < (frame_of program number).words
  pub within : (number line : ℕ) → l.line_at number line ≤ l.code_to
  pub low : l.code_to < 2 ^ 24
