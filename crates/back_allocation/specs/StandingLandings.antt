-- The landings of the records that stand at the lines of a procedure: as its lines tell them, from the first to the last, and as its tree does.
use Rattle.std.specs.Prelude.{◌≡◌, ℕ, ◌+◌, List, [], ◌∷◌, drop, map, slice_get, Some}
use Rattle.mid_code.specs.declared.program.MidProcedure.{MidProcedure}
use Rattle.mid_code.specs.declared.program.MidProgram.{MidProgram}
use Rattle.mid_lines.specs.declared.line.Line.{Line}
use Rattle.mid_lines.specs.declared.line.Line.TheVariants.{Lay, Landed, GiveBack}
use Rattle.mid_lines.specs.Flattened.{procedure_lines}
use Rattle.mid_lines.specs.StaticRecords.{StaticRecord, procedure_records}
use Rattle.back_trivial.specs.KnownRecords.{known_records, tree_records}
use Rattle.back_allocation.specs.LineSteps.{landings_of, landings_in}

-- Where these are the landings of the records that stand in front of a line, so are these at the line, and these behind it: a landing begins
-- inside of its record, which stands from where it is laid to where it is given back.
abbrev pub landings_at : (line : ℕ) → (here : List ℕ) → Line → List ℕ
landings_at line here (Landed r) = line ∷ here
landings_at line here x = here

abbrev pub landings_behind : (line : ℕ) → (here : List ℕ) → Line → List ℕ
landings_behind line here (Lay block words landing) = landing ∷ here
landings_behind line here (Landed r) = line ∷ here
landings_behind line here (GiveBack words) = drop 1 here
landings_behind line here x = here

-- the landings at each of these lines, from a line on
abbrev pub line_landings : (line : ℕ) → (here : List ℕ) → List Line → List (List ℕ)
line_landings line here [] = []
line_landings line here (x ∷ lines) = landings_at line here x ∷ line_landings (line + 1) (landings_behind line here x) lines

-- the landings of the records of a tree, line by line
abbrev pub record_landings : List StaticRecord → List ℕ
record_landings records = landings_of (known_records records)

abbrev pub tree_landings : MidProcedure → List (List ℕ)
tree_landings p = map record_landings (procedure_records (Some p))

-- The lines of a tree tell the landings of its records, and these are those of the records that stand at each line.
pub record LandingsAreKnown (program : MidProgram) (number : ℕ) (p : MidProcedure) : Type 0 where
  pub told : line_landings 0 [] (procedure_lines p).lines ≡ tree_landings p
  pub standing : (line : ℕ) → landings_in (tree_landings p) line ≡ landings_of (tree_records program number line)

abbrev pub LawOfLandings : Type 0
LawOfLandings =
    (program : MidProgram) (number : ℕ) (p : MidProcedure) → slice_get program.procedures number ≡ Some p → LandingsAreKnown program number p
