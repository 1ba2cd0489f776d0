-- The words so far.
use Rattle.std.proofs.Common.{◌≡◌, ◌++◌, drop}
use Rattle.back_words.specs.Start.{literals_from}
use Rattle.back_lowered.proofs.literals.literal_words.Given as goal

abbrev pub invariant-loop-number : goal.invariant-loop-number
invariant-loop-number l =
    l.words ++ literals_from l.names l.functions l.laid (drop l.number l.literals) l.number ≡ literals_from l.names l.functions l.laid l.literals 0
