use Rattle.mid_code.proofs.Examples.{lent, no_room_for_a_block, too_many_words, cut_to_lent}
use Rattle.mid_code.proofs.worked.worked_lent.Goals as goal

pub returns-clause-lent : goal.returns-clause-lent
returns-clause-lent c = lent

pub returns-clause-no_room_for_a_block : goal.returns-clause-no_room_for_a_block
returns-clause-no_room_for_a_block c = no_room_for_a_block

pub returns-clause-too_many_words : goal.returns-clause-too_many_words
returns-clause-too_many_words c = too_many_words

pub returns-clause-cut_to_lent : goal.returns-clause-cut_to_lent
returns-clause-cut_to_lent c = cut_to_lent
