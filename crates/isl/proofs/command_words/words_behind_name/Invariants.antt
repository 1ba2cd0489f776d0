-- The words so far and those still to come are all that the loop began with.
use Rattle.std.proofs.Common.{◌≡◌, ◌++◌, map, string_bytes}
use Rattle.isl.proofs.command_words.words_behind_name.Given as goal

abbrev pub invariant-loop-word : goal.invariant-loop-word
invariant-loop-word l =
    l.words ++ map (λ s. string_bytes s) l.word-iterator.rest.items ≡ map (λ s. string_bytes s) l.initial.word-iterator.rest.items
