-- The command, argument by argument.
use Rattle.std.proofs.Common.{◌∙◌, ap₂}
use Rattle.clap.specs.Simple.{with_rule}
use Rattle.top_command.specs.Command.{isl}
use Rattle.top_command.proofs.command_line.definition.Goals as goal

pub returns : goal.returns
unfolding isl
returns c =
    let one = c.in_ok-arg.ensures.shape c.option.ensures.own ∙ ap₂ with_rule c.bare.ensures c.option.ensures.rule in
    let two = c.in_ok-arg-2.ensures.shape c.option-2.ensures.own ∙ ap₂ with_rule one c.option-2.ensures.rule in
    let three = c.in_ok-arg-3.ensures.shape c.positional.ensures.own ∙ ap₂ with_rule two c.positional.ensures.rule in
    c.in_ok-command.ensures.shape c.positional-2.ensures.own ∙ ap₂ with_rule three c.positional-2.ensures.rule
