-- **The line of a text that a place is in, and a caret under the place**: what a refusal shows of the text.
use Rattle.std.specs.Prelude.{ℕ, ◌-◌, ◌==◌, if◌then◌else◌, List, [], ◌++◌, map, take, drop, slice_get, Option, Some, None, codes}
use Rattle.std.specs.List.{slice_split}
use Rattle.base.specs.declared.place.Place.{Place}

-- the lines of a text are what bytes 10 part; the line of a number, from 1 on, is empty where there is none
abbrev pub or_empty : Option (List ℕ) → List ℕ
or_empty None = []
or_empty (Some line) = line

abbrev pub line_at : (text : List ℕ) (number : ℕ) → List ℕ
line_at text number = or_empty (slice_get (slice_split (λ b. b == 10) text) (number - 1))

-- how much of a line is passed over, so that at most 60 bytes are shown in front of a column
abbrev pub passed : (column : ℕ) → ℕ
passed column = column - 61

-- at most 120 bytes of a line are shown
abbrev pub shown : (line : List ℕ) (column : ℕ) → List ℕ
shown line column = take 120 (drop (passed column) line)

-- in front of the caret stand blanks, but for the tabs of the line
abbrev pub blank : ℕ → ℕ
blank b = if b == 9 then 9 else 32

abbrev pub indent : (line : List ℕ) (column : ℕ) → List ℕ
indent line column = map blank (take (column - 1 - passed column) (shown line column))

-- both lines; nothing of the place 0:0
abbrev pub excerpt : (text : List ℕ) → Place → List ℕ
excerpt text p =
    if p.line == 0 then []
    else (shown (line_at text p.line) p.column ++ codes "\n") ++ (indent (line_at text p.line) p.column ++ codes "^\n")
