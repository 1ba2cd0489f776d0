-- A program has few nodes.
use Rattle.std.proofs.Common.{◌≡◌, ◌≤◌, Bool, true, false, ◌&&◌, refl, leb-true}
use Rattle.lang_meaning.specs.declared.program.ProgramRows.{ProgramRows}
use Rattle.lang_meaning.specs.ProgramCounts.{program_nodes}
use Rattle.lang_meaning.specs.Facts.{rows_fit, bodies_stand, is_whole}

pub second_true : (a b : Bool) → (a && b) ≡ true → b ≡ true
second_true true b h = h
second_true false b h = absurd (cc h)

pub first_true : (a b : Bool) → (a && b) ≡ true → a ≡ true
first_true true b h = refl
first_true false b h = absurd (cc h)

pub few_nodes : (rows : ProgramRows) → is_whole rows ≡ true → program_nodes rows ≤ 100000
few_nodes rows h =
    leb-true (program_nodes rows) 100000
    (second_true _ _ (first_true (rows_fit rows) _ (first_true (rows_fit rows && bodies_stand rows) _ h)))
