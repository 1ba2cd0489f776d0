-- The file behind the prelude, with a later table of names.
use Rattle.std.proofs.Common.{rules}
use Rattle.front_files.proofs.Both.{prelude_stops, file_was_taken, file_was_stopped}
use Rattle.front_files.proofs.program.judge_both.Goals as goal

pub returns-clause-taken : goal.returns-clause-taken
returns-clause-taken g c =
    file_was_taken c.judge_text-2.result c.judge_text.new.names c.judge_text-2.new.names c.args.prelude.now c.args.text.now c.args.mode c.args.scope.now c.judge_text.new.scope c.judge_text-2.new.scope
    c.judge_text-2.ensures.names c.in_ok-judge_text.ensures.taken c.judge_text-2.ensures.taken

pub returns-clause-stops : goal.returns-clause-stops
returns-clause-stops g c =
    file_was_stopped c.judge_text-2.result c.judge_text.new.names c.judge_text-2.new.names c.args.prelude.now c.args.text.now c.args.mode c.args.scope.now c.judge_text.new.scope
    c.judge_text-2.ensures.names c.in_ok-judge_text.ensures.taken c.judge_text-2.ensures.stops

pub returns-in_err-judge_text-clause-stops : goal.returns-in_err-judge_text-clause-stops
returns-in_err-judge_text-clause-stops g c =
    let stopped = prelude_stops c.judge_text.new.names c.args.prelude.now c.args.text.now c.args.mode c.args.scope.now c.in_err-judge_text.field-0.0 c.in_err-judge_text.ensures.stops in
    search (rules, stopped)
