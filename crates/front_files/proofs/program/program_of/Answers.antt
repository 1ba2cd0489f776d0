-- Behind the first tables, which stay so under a later table of names.
use Rattle.front_files.proofs.Both.{whole_accepted, whole_stops}
use Rattle.front_files.proofs.program.program_of.Goals as goal

pub returns-in-Ok-clause-program : goal.returns-in-Ok-clause-program
returns-in-Ok-clause-program g c =
    whole_accepted c.new.new.names c.judge_both.new.names c.args.prelude.now c.args.text.now c.args.mode c.in_ok-scope.scope c.judge_both.new.scope c.finish.result
    c.in-Ok.ensures.names c.requires.short c.in_ok-scope.ensures.first c.in-Ok.ensures.taken c.finish.ensures

pub returns-in-Err-clause-stops : goal.returns-in-Err-clause-stops
returns-in-Err-clause-stops g c =
    whole_stops c.new.new.names c.judge_both.new.names c.args.prelude.now c.args.text.now c.args.mode c.in_ok-scope.scope c.in-Err.stop
    c.in-Err.ensures.names c.requires.short c.in_ok-scope.ensures.first c.in-Err.ensures.stops
