-- The slots of the words so far.
use Rattle.std.proofs.Common.{◌≡◌, map, take, Some}
use Rattle.eval_state.proofs.signals.slots_with.Given as goal

abbrev pub invariant-loop-word : goal.invariant-loop-word
invariant-loop-word l = l.slots ≡ map Some (take l.word-index l.words)
