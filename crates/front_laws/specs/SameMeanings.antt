-- When two programs mean the same, their names taken by their texts.
use Rattle.std.specs.Prelude.{◌≡◌, ℕ, List}
use Rattle.lang_meaning.specs.declared.program.ProgramRows.{ProgramRows}
use Rattle.lang_meaning.specs.State.{Limit}
use Rattle.lang_meaning.specs.Meaning.{meaning}
use Rattle.lang_renamed.specs.RenamedRuns.{meant_by}

-- p, whose names stand in the table a, and q, whose names stand in the table b: they have the same end, print the same, leave the same input,
-- and count the same units and words. The bodies of functions in their stores are the same under one numbering of the names of both.
pub record MeansTheSame (a : List (List ℕ)) (p : ProgramRows) (b : List (List ℕ)) (q : ProgramRows) : Type 0 where
  pub numbers_a : ℕ → ℕ
  pub numbers_b : ℕ → ℕ
  pub same : (input : List ℕ) (levels : ℕ) (limit : Limit) → meant_by numbers_a (meaning a p input levels limit) ≡ meant_by numbers_b (meaning b q input levels limit)
