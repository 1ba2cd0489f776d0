use Rattle.std.proofs.Common.{map}
use Rattle.top_command.proofs.CommandLine.{taken, found, not_taken}
use Rattle.top_command.proofs.command_line.parsed.Goals as goal

pub returns-in-Ok : goal.returns-in-Ok
returns-in-Ok c =
    let words = map (λ s. s.now) c.args.words.now in (
      taken _ words c.in_ok-command.ensures c.in-Ok.ensures.kinds,
      found _ words c.in-Ok.matches c.in_ok-command.ensures c.in-Ok.ensures.matches,
    )

pub returns-in_ok-not_memory-in-Err : goal.returns-in_ok-not_memory-in-Err
returns-in_ok-not_memory-in-Err c =
    not_taken _ (map (λ s. s.now) c.args.words.now) c.in-Err.error c.in_ok-command.ensures c.in-Err.ensures.kinds c.in_ok-not_memory-in-Err.ensures
