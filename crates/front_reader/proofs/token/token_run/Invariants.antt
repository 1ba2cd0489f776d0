-- The run so far, and that of what is left.
use Rattle.std.proofs.Common.{◌≡◌, ◌+◌, drop}
use Rattle.front_reader.specs.bridge.Lexemes as bridge
use Rattle.front_reader.proofs.token.token_run.Given as goal

abbrev pub invariant-loop-i : goal.invariant-loop-i
invariant-loop-i l = bridge.token_run l.text ≡ l.i + bridge.token_run (drop l.i l.text)
