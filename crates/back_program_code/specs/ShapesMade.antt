-- When shapes are those of the procedures of a program, each with places that fit it; and what is asked of a procedure before its shape is made.
use Rattle.std.specs.Prelude.{◌≡◌, ◌<◌, ◌≤◌, ℕ, ◌==◌, true, List, [], ◌∷◌, slice_get, Some}
use Rattle.std.specs.List.{list_any}
use Rattle.mid_code.specs.declared.program.MidProcedure.{MidProcedure}
use Rattle.mid_lines.specs.declared.line.Line.{Line}
use Rattle.mid_lines.specs.declared.line.LineProcedure.{LineProcedure}
use Rattle.back_allocation.specs.LineSteps.{line_reads, line_gives}
use Rattle.back_allocation.specs.ProgramPlaces.{FitsProcedure}
use Rattle.back_program_code.specs.declared.shapes.Shape.{Shape}
use Rattle.back_program_code.specs.Shapes.{shape_of}

-- the shape of a procedure, with places that fit it
pub record IsShapeOf (p : MidProcedure) (s : Shape) : Type 0 where
  pub is : s ≡ shape_of s.chosen p
  pub fits : FitsProcedure p s.chosen

-- so it is with all of them
abbrev pub AreShapesOf : List MidProcedure → List Shape → Type 0
AreShapesOf [] [] = Unit {0}
AreShapesOf [] (s ∷ shapes) = ⊥
AreShapesOf (p ∷ procedures) [] = ⊥
AreShapesOf (p ∷ procedures) (s ∷ shapes) = IsShapeOf p s × AreShapesOf procedures shapes

-- what is asked of a procedure for which places are chosen: the registers that lines read and to which they give words, and the parameters, are
-- registers of its own
pub record HasRegisters (p : LineProcedure) : Type 0 where
  pub given : (line to : ℕ) (x : Line) → slice_get p.lines line ≡ Some x → line_gives x ≡ Some to → to < p.registers
  pub read : (line v : ℕ) (x : Line) → slice_get p.lines line ≡ Some x → list_any (λ r. r == v) (line_reads x) ≡ true → v < p.registers
  pub parameters : p.parameters ≤ p.registers
