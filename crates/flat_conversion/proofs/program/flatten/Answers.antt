-- The program made flat is that of the translation, and so the laws hold of it.
use Rattle.std.proofs.Common.{List, ℕ}
use Rattle.lang_meaning.specs.Meaning.{meaning}
use Rattle.lang_meaning.specs.State.{Limit}
use Rattle.flat_language.specs.FlatMeaning.{flat_meaning}
use Rattle.flat_language.specs.FlatExits.{ProgramLeads}
use Rattle.flat_language.specs.FlatFits.{ProgramFits}
use Rattle.flat_language.specs.FlatStanding.{ProgramStands}
use Rattle.flat_language.specs.Flatten.{flat_program}
use Rattle.flat_language.specs.Law.{SameRun}
use Rattle.flat_conversion.proofs.Whole.{so_holds, of_rows}
use Rattle.flat_conversion.proofs.program.flatten.Goals as goal

pub returns-clause-made : goal.returns-clause-made
returns-clause-made c = of_rows c.flat_rows.result c.rows.result.now c.args.program.now c.rows.ensures.same c.flat_rows.ensures

pub returns-clause-same_runs : goal.returns-clause-same_runs
returns-clause-same_runs c =
    let rows = c.args.program.now in
    so_holds (λ flat. (names : List (List ℕ)) (input : List ℕ) (k : ℕ) (limit : Limit) → SameRun (meaning names rows input k limit) (flat_meaning names flat input k limit))
    (flat_program rows) (λ names input k limit. c.law_closures.ensures names rows c.rows.ensures.whole input k limit) c.flat_rows.result (of_rows c.flat_rows.result c.rows.result.now c.args.program.now c.rows.ensures.same c.flat_rows.ensures)

pub returns-clause-stands : goal.returns-clause-stands
returns-clause-stands c =
    let rows = c.args.program.now in
    so_holds ProgramStands (flat_program rows) (c.law_flat_programs.ensures rows c.rows.ensures.whole).0 c.flat_rows.result (of_rows c.flat_rows.result c.rows.result.now c.args.program.now c.rows.ensures.same c.flat_rows.ensures)

pub returns-clause-fits : goal.returns-clause-fits
returns-clause-fits c =
    let rows = c.args.program.now in
    so_holds ProgramFits (flat_program rows) (c.law_flat_programs.ensures rows c.rows.ensures.whole).1 c.flat_rows.result (of_rows c.flat_rows.result c.rows.result.now c.args.program.now c.rows.ensures.same c.flat_rows.ensures)

pub returns-clause-leads : goal.returns-clause-leads
returns-clause-leads c =
    let rows = c.args.program.now in
    so_holds ProgramLeads (flat_program rows) (c.law_flat_programs.ensures rows c.rows.ensures.whole).2 c.flat_rows.result (of_rows c.flat_rows.result c.rows.result.now c.args.program.now c.rows.ensures.same c.flat_rows.ensures)
