use Rattle.std.proofs.Common.{◌≡◌}
use Rattle.rv_machine.proofs.machine.contents.Contents.load.Given as goal

abbrev pub invariant-loop-word : goal.invariant-loop-word
invariant-loop-word l = record {
  registers : l.self.registers ≡ l.initial.self.registers;
  memory : l.self.memory ≡ l.initial.self.memory;
}
