-- **The program that keeps what is reached**: a procedure that main forms reach, directly or through others, is as it was, and of any other the body
-- is left out. There is just one such program.
use Rattle.std.specs.Prelude.{◌≡◌, ◌⊎◌, ℕ, List, length, Option, Some, slice_get}
use Rattle.lang_meaning.specs.declared.program.Procedure.{Procedure}
use Rattle.lang_meaning.specs.declared.program.ProgramRows.{ProgramRows}
use Rattle.lang_reached.specs.LeftOut.{emptied}
use Rattle.lang_reached.specs.Mentioned.{IsReached}

module _ (names : List (List ℕ)) (program : ProgramRows) where
  -- what is left of a procedure
  abbrev pub IsLeft : (p : ℕ) → Procedure → Option Procedure → Type 0
  IsLeft p q found =
      (IsReached names program p × (found ≡ Some q)) ⊎ ((IsReached names program p → ⊥) × (found ≡ Some (emptied q)))

  -- and all besides is as it was
  pub record KeepsReached (left : ProgramRows) : Type 0 where
    pub rows : left ≡ record program { procedures = left.procedures }
    pub count : length left.procedures ≡ length program.procedures
    pub each : (p : ℕ) (q : Procedure) → slice_get program.procedures p ≡ Some q → IsLeft p q (slice_get left.procedures p)
