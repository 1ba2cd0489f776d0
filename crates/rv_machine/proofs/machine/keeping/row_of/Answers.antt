use Rattle.std.proofs.Common.{◌∙◌}
use Rattle.rv_machine.proofs.Tables.{no_operation}
use Rattle.rv_machine.proofs.machine.keeping.row_of.Goals as goal

pub returns-in_default : goal.returns-in_default
returns-in_default c =
    c.immediate_row.ensures
    ∙ no_operation c.args.instruction c.args.place c.in_default.not-Add c.in_default.not-Sub c.in_default.not-Sll c.in_default.not-Slt c.in_default.not-Sltu c.in_default.not-Xor c.in_default.not-Srl c.in_default.not-Sra c.in_default.not-Or c.in_default.not-And c.in_default.not-Mul c.in_default.not-Mulh c.in_default.not-Mulhsu c.in_default.not-Mulhu c.in_default.not-Div c.in_default.not-Divu c.in_default.not-Rem c.in_default.not-Remu
