use Rattle.std.proofs.Common.{ap, ◌∙◌}
use Rattle.rv_machine.specs.Memory.{bytes_of}
use Rattle.rv_machine.specs.Words.{bytes_of-replicate}
use Rattle.rv_machine.proofs.machine.contents.Contents.new.Goals as goal

pub returns-clause-memory : goal.returns-clause-memory
returns-clause-memory c = ap bytes_of c.in_ok-arena.ensures ∙ bytes_of-replicate c.args.words
