-- When two programs are the same, their names taken by their texts.
use Rattle.std.specs.Prelude.{◌≡◌, ℕ, List}
use Rattle.base.specs.Names.{Extends}
use Rattle.lang_meaning.specs.declared.program.ProgramRows.{ProgramRows}
use Rattle.lang_renamed.specs.Renaming.{program_by}
use Rattle.front_laws.specs.Renaming.{Renames}

-- p, whose names stand in the table a, is q, whose names stand in the table b, renamed: there are later tables of both with the same texts
pub record SameProgram (a : List (List ℕ)) (p : ProgramRows) (b : List (List ℕ)) (q : ProgramRows) : Type 0 where
  pub later_a : List (List ℕ)
  pub later_b : List (List ℕ)
  pub extends_a : Extends a later_a
  pub extends_b : Extends b later_b
  pub renaming : ℕ → ℕ
  pub renames : Renames renaming later_b later_a
  pub is : p ≡ program_by renaming q
