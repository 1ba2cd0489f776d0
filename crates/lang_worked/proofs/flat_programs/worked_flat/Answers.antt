-- Each program is a lemma of its own.
use Rattle.lang_worked.proofs.FlatExamples.{one_application, two_bytes, counting_words, counting_flat, own_slots, slots_left}
use Rattle.lang_worked.proofs.flat_programs.worked_flat.Goals as goal

pub returns-clause-one_application : goal.returns-clause-one_application
returns-clause-one_application c = one_application

pub returns-clause-two_bytes : goal.returns-clause-two_bytes
returns-clause-two_bytes c = two_bytes

pub returns-clause-counting_words : goal.returns-clause-counting_words
returns-clause-counting_words c = counting_words

pub returns-clause-counting_flat : goal.returns-clause-counting_flat
returns-clause-counting_flat c = counting_flat

pub returns-clause-own_slots : goal.returns-clause-own_slots
returns-clause-own_slots c = own_slots

pub returns-clause-slots_left : goal.returns-clause-slots_left
returns-clause-slots_left c = slots_left
