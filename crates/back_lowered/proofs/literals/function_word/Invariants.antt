-- None so far has the text.
use Rattle.std.proofs.Common.{◌≡◌, drop}
use Rattle.lang_meaning.specs.Lookup.{text}
use Rattle.mid_start.specs.StaticData.{word_of_text}
use Rattle.back_lowered.proofs.literals.function_word.Given as goal

abbrev pub invariant-loop-at : goal.invariant-loop-at
invariant-loop-at l =
    word_of_text l.names l.functions l.words (text l.names l.name.0)
    ≡ word_of_text l.names (drop l.at l.functions) (drop l.at l.words) (text l.names l.name.0)
