-- The function is made, or there is no room for it.
use Rattle.std.proofs.Common.{subst}
use Rattle.eval_store.specs.declared.object.Object.TheVariants.{Closure}
use Rattle.eval_state.specs.Building.{IsBuilt}
use Rattle.eval_control.proofs.MadeFunctions.{function_made, function_denied}
use Rattle.eval_control.proofs.functions.make_function.Goals as goal

pub returns : goal.returns
returns c =
    function_made c.args.machine.now c.build.new.self c.gives.new.self c.args.procedure c.in_ok-size.size c.in_ok-shared.shared
    c.in-Some.word c.args.parts.now c.args.situation
    c.in_ok-size.ensures c.in_ok-shared.ensures
    (subst (IsBuilt c.args.machine.now c.build.new.self c.in_ok-size.size 0 (Closure c.args.procedure c.in_ok-shared.shared)) c.in-Some.is c.in_ok-word.ensures)
    c.gives.ensures

pub returns-in_default : goal.returns-in_default
returns-in_default c =
    function_denied c.args.machine.now c.build.new.self c.args.procedure c.in_ok-size.size c.in_ok-shared.shared c.args.parts.now
    c.args.situation
    c.in_ok-size.ensures c.in_ok-shared.ensures
    (subst (IsBuilt c.args.machine.now c.build.new.self c.in_ok-size.size 0 (Closure c.args.procedure c.in_ok-shared.shared)) c.in_default.is c.in_ok-word.ensures)
