use Rattle.std.proofs.Common.{◌∙◌}
use Rattle.rv_machine.proofs.Tables.{no_immediate}
use Rattle.rv_machine.proofs.machine.keeping.immediate_row.Goals as goal

pub returns-in_default : goal.returns-in_default
returns-in_default c =
    c.transfer_row.ensures
    ∙ no_immediate c.args.instruction c.args.place c.in_default.not-Lui c.in_default.not-Auipc c.in_default.not-Addi c.in_default.not-Slti c.in_default.not-Sltiu c.in_default.not-Xori c.in_default.not-Ori c.in_default.not-Andi c.in_default.not-Slli c.in_default.not-Srli c.in_default.not-Srai
