use Rattle.std.proofs.Common.{◌≡◌}
use Rattle.rv_machine.proofs.machine.contents.Contents.started.Given as goal

abbrev pub invariant-loop-word : goal.invariant-loop-word
invariant-loop-word l = record {
  registers : l.contents.registers ≡ l.initial.contents.registers;
  memory : l.contents.memory ≡ l.initial.contents.memory;
}
