-- The program is whole, by the law, where it has not too many nodes.
use Rattle.std.proofs.Common.{◌≡◌, ◌≤◌, true, sym, subst, arith}
use Rattle.lang_meaning.specs.Facts.{is_whole}
use Rattle.lang_meaning.specs.ProgramCounts.{program_nodes}
use Rattle.front_programs.proofs.Programs.{begun_reaches, call_is_whole}
use Rattle.front_programs.proofs.expanding.MacroCall.program.Goals as goal

pub program_rows-requires-clause-reaches : goal.program_rows-requires-clause-reaches
program_rows-requires-clause-reaches c = begun_reaches c.args.self.now.tables.now c.requires.1.begun

pub new-requires : goal.new-requires
new-requires c =
    let few : program_nodes c.in_ok-rows.rows ≤ 100000 = omega (arith, c.nodes.ensures) in
    subst (λ r. is_whole r ≡ true) (sym c.in_ok-rows.ensures)
    (call_is_whole c.law_expanders.ensures c.args.self.now.tables.now c.args.self.now.macro_number c.args.self.now.datum.now c.requires.0 c.requires.1.begun
    c.requires.1.there c.requires.1.good (subst (λ r. program_nodes r ≤ 100000) c.in_ok-rows.ensures few))
