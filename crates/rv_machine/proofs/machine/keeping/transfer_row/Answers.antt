use Rattle.std.proofs.Common.{◌∙◌}
use Rattle.rv_machine.proofs.Tables.{no_transfer}
use Rattle.rv_machine.proofs.machine.keeping.transfer_row.Goals as goal

pub returns-in_default : goal.returns-in_default
returns-in_default c =
    c.jump_row.ensures
    ∙ no_transfer c.args.instruction c.args.place c.in_default.not-Lb c.in_default.not-Lh c.in_default.not-Lw c.in_default.not-Lbu c.in_default.not-Lhu c.in_default.not-Sb c.in_default.not-Sh c.in_default.not-Sw
