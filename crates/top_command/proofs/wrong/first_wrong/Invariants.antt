-- The first wrong word is among the rest.
use Rattle.std.proofs.Common.{◌≡◌, map, drop}
use Rattle.top_command.specs.Wrong.{first_wrong, wrong_word}
use Rattle.top_command.proofs.wrong.first_wrong.Given as goal

abbrev pub invariant-loop-word : goal.invariant-loop-word
invariant-loop-word l =
    first_wrong l.step (map (λ s. s.now) (drop l.word-index l.words)) ≡ wrong_word (map (λ s. s.now) l.words)
