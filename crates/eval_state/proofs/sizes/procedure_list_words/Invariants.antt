-- The words of the procedures that are passed.
use Rattle.std.proofs.Common.{◌≡◌, map, take}
use Rattle.eval_state.specs.Sizes.{procedure_words}
use Rattle.eval_state.proofs.sizes.procedure_list_words.Given as goal

abbrev pub invariant-loop-procedure : goal.invariant-loop-procedure
invariant-loop-procedure l = l.words ≡ map procedure_words (take l.procedure-index l.procedure-items)
