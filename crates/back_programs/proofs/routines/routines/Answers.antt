-- The parts are all routines.
use Rattle.std.proofs.Common.{◌≡◌, List, ◌++◌, subst}
use Rattle.std.specs.Prelude.{OnOk}
use Rattle.mid_code.specs.declared.program.MidProcedure.{MidProcedure}
use Rattle.back_programs.proofs.Grouped.{routines_are}
use Rattle.back_programs.proofs.routines.routines.Goals as goal

pub returns : goal.returns
returns c =
    let g = c.args.given.now in
    subst (λ (ps : List MidProcedure). OnOk c.all_of.result (c.all_of.new.list ≡ c.args.list.now ++ ps))
    (routines_are g.names.now g.at.now g.program.now) c.all_of.ensures
