-- The table is in the order of numbers.
use Rattle.std.proofs.Common.{◌≡◌, List, ◌++◌, subst}
use Rattle.std.specs.Prelude.{OnOk}
use Rattle.mid_code.specs.declared.program.MidProcedure.{MidProcedure}
use Rattle.back_programs.proofs.Numbered.{primitives_are}
use Rattle.back_programs.proofs.primitives.primitives.Goals as goal

pub returns : goal.returns
returns c =
    let g = c.args.given.now in
    subst (λ (ps : List MidProcedure). OnOk c.written.result (c.written.new.list ≡ c.args.list.now ++ ps))
    (primitives_are g.names.now g.at.now g.program.now) c.written.ensures
