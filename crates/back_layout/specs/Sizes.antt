-- How many words code takes, wherever it stands: that of a line, of an entry, of a procedure. A line's code is as long at every position; only
-- whether its jump is near counts, and whether a jump forward goes over lines without instructions.
use Rattle.std.specs.Prelude.{ℕ, ◌+◌, ◌-◌, ◌==◌, Bool, true, false, ◌&&◌, nat_lt, List, [], ◌∷◌, ◌++◌, length, slice_index, Option, Some, None}
use Rattle.mid_lines.specs.declared.line.Line.{Line}
use Rattle.mid_lines.specs.declared.line.Line.TheVariants.{Switch, Jump}
use Rattle.mid_lines.specs.declared.line.LineProcedure.{LineProcedure}
use Rattle.back_places.specs.Places.{Located}
use Rattle.back_places.specs.LineCode.{line_code, behind_code, entry_code}

-- The same decisions with these positions: of entries, of lines, of what stands behind the jumps of calls, of tables, and of the end.
abbrev pub at_positions : (entry_at : ℕ → ℕ) → (line_at back_at table_at : (number line : ℕ) → ℕ) → (code_to : ℕ) → Located → Located
at_positions entry_at line_at back_at table_at code_to l = record l {
  entry_at = entry_at;
  line_at = line_at;
  back_at = back_at;
  table_at = table_at;
  code_to = code_to;
}

-- with no positions yet
abbrev pub unplaced : Located → Located
unplaced l = at_positions (λ number. 0) (λ number line. 0) (λ number line. 0) (λ number line. 0) 0 l

-- the words of a line that is no jump, with what stands behind it
abbrev pub own_size : Located → (number frame line : ℕ) → Line → ℕ
own_size l number frame line x = length (line_code (unplaced l) number frame line x) + length (behind_code (unplaced l) number line x)

-- those of a jump
abbrev pub jump_size : (silent near : Bool) → ℕ
jump_size true near = 0
jump_size false true = 1
jump_size false false = 2

-- A jump at a line has no instructions where it goes forward to a line from which on as many words are left as from the next line on. In the
-- list are these numbers of words, from the next line on.
abbrev pub goes_over_nothing : (line to : ℕ) → (rests : List ℕ) → Bool
goes_over_nothing line to rests = nat_lt line to && (slice_index rests (to - (line + 1)) == slice_index rests 0)

-- the words of a line, where these are left from the next line, and from each later one, on
abbrev pub line_size : Located → (number frame line : ℕ) → Line → (rests : List ℕ) → ℕ
line_size l number frame line (Jump to) rests = jump_size (goes_over_nothing line to rests) (l.near number line)
line_size l number frame line x rests = own_size l number frame line x

-- how many words are left from each of these lines on, up to the end behind the last: from the last line to the first, once
abbrev pub with_line : Located → (number frame line : ℕ) → Line → (rests : List ℕ) → List ℕ
with_line l number frame line x rests = (slice_index rests 0 + line_size l number frame line x rests) ∷ rests

abbrev pub rests : Located → (number frame line : ℕ) → List Line → List ℕ
rests l number frame line [] = 0 ∷ []
rests l number frame line (x ∷ more) = with_line l number frame line x (rests l number frame (line + 1) more)

-- the same of a procedure, which has none where it is not there
abbrev pub procedure_rests : Located → (number : ℕ) → Option LineProcedure → List ℕ
procedure_rests l number None = 0 ∷ []
procedure_rests l number (Some p) = rests l number p.frame 0 p.lines

-- the words of an entry
abbrev pub entry_size : Located → (number : ℕ) → Option LineProcedure → ℕ
entry_size l number None = 0
entry_size l number (Some p) = length (entry_code (unplaced l) number p.frame)

-- the lines of a switch, and those of all switches among these lines: a word each in the tables behind a procedure's code
abbrev pub switch_targets : Line → List ℕ
switch_targets (Switch r targets) = targets
switch_targets x = []

abbrev pub all_targets : List Line → List ℕ
all_targets [] = []
all_targets (x ∷ more) = switch_targets x ++ all_targets more

abbrev pub lines_there : Option LineProcedure → List Line
lines_there None = []
lines_there (Some p) = p.lines

-- the words of a procedure: its entry, its lines, its tables
abbrev pub procedure_size : Located → (number : ℕ) → LineProcedure → ℕ
procedure_size l number p =
    entry_size l number (Some p) + slice_index (procedure_rests l number (Some p)) 0 + length (all_targets p.lines)

-- those of procedures from a number on
abbrev pub code_size : Located → (number : ℕ) → List LineProcedure → ℕ
code_size l number [] = 0
code_size l number (p ∷ more) = procedure_size l number p + code_size l (number + 1) more
