-- A level is needed, and then something to enter.
use Rattle.std.proofs.Common.{ap, arith}
use Rattle.eval_state.proofs.Stepping.{on_ok}
use Rattle.eval_application.proofs.Applying.{no_level, no_code, code_entered}
use Rattle.eval_application.specs.Applying.{entered_option}
use Rattle.eval_application.specs.Entering.{entered_of}
use Rattle.eval_application.proofs.procedures.apply_code.Goals as goal

pub returns-in_default : goal.returns-in_default
returns-in_default c =
    no_level c.args.machine.now c.end_levels.new.machine (λ names. entered_option names c.args.code c.args.activation) c.args.operands c.args.level c.args.around (omega (arith, c.in_default.ensures)) c.end_levels.ensures

pub returns-in_default-code : goal.returns-in_default-code
returns-in_default-code c =
    no_code c.args.machine.now c.give_nil.new.machine (λ names. entered_option names c.args.code c.args.activation) c.args.operands c.args.level c.in-Some.below c.args.around (omega (arith, c.in-Some.ensures))
    (λ names. ap (λ k. entered_option names k c.args.activation) c.in_default-code.is) c.give_nil.ensures

pub returns : goal.returns
returns c =
    on_ok c.enter_procedure.result _ _
    (code_entered c.args.machine.now c.enter_procedure.new.machine (λ names. entered_option names c.args.code c.args.activation)
    (λ names. entered_of names (record { procedure = c.in-Some-code.code.procedure; words = c.in-Some-code.code.words; activation = c.args.activation; level = c.in-Some.below; around = c.args.around })) c.args.operands c.args.level c.in-Some.below c.args.around (omega (arith, c.in-Some.ensures))
    (λ names. ap (λ k. entered_option names k c.args.activation) c.in-Some-code.is))
    c.enter_procedure.ensures
