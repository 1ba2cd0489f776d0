-- A condition is signalled; what is none is not of the expected class.
use Rattle.std.proofs.Common.{refl, sym, ◌∙◌}
use Rattle.flat_language.specs.FlatNodes.{tables}
use Rattle.eval_state.specs.Frames.{frame_slots}
use Rattle.eval_state.proofs.Stepping.{on_ok}
use Rattle.eval_application.proofs.Handling.{condition_signals, no_condition_signals, signals_next}
use Rattle.eval_application.proofs.signalling.signal_condition.Goals as goal

pub returns-then-is_condition : goal.returns-then-is_condition
returns-then-is_condition c =
    condition_signals c.args.machine.now _ c.args.condition c.args.mark c.args.situation
    (λ names b g. sym (c.is_condition.ensures names (tables c.args.machine.now.given.program.now) (record b { frame = frame_slots names c.args.machine.now.current c.args.machine.now.slots.items }) g.fitted) ∙ c.if-is_condition.true)
    (signals_next c.args.machine.now _ c.args.condition c.args.mark c.args.situation.level c.args.situation.around refl)

pub returns-else-is_condition : goal.returns-else-is_condition
returns-else-is_condition c =
    on_ok c.signal_domain.result _ _
    (no_condition_signals c.args.machine.now c.signal_domain.new.self c.args.condition c.args.mark c.args.situation
    (λ names b g. sym (c.is_condition.ensures names (tables c.args.machine.now.given.program.now) (record b { frame = frame_slots names c.args.machine.now.current c.args.machine.now.slots.items }) g.fitted) ∙ c.if-is_condition.false))
    c.signal_domain.ensures
