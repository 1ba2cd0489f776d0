-- The worked programs on data compute.
use Rattle.std.proofs.Common.{refl}
use Rattle.lang_meaning.specs.Meaning.{meaning, mean, meaning_at}
use Rattle.lang_worked.specs.ByHand.{EndsAndPrints}
use Rattle.lang_worked.specs.Data.{DottedList, StringInAVector, ChangedLiteral, RestList, Applied, AppliedToADottedList, TooManyArguments, Floors, Overflow, NoFunction, NoValue, Counting, CountingWords, SetBinding, SlotPlaces, SlotInitarg, SlotForm, UnboundSlot, SetSlot, TwoBytes}

pub dotted_list : DottedList EndsAndPrints
unfolding meaning mean meaning_at
dotted_list = record { ends = refl; prints = refl }

pub string_in_a_vector : StringInAVector EndsAndPrints
unfolding meaning mean meaning_at
string_in_a_vector = record { ends = refl; prints = refl }

pub changed_literal : ChangedLiteral EndsAndPrints
unfolding meaning mean meaning_at
changed_literal = record { ends = refl; prints = refl }

pub rest_list : RestList EndsAndPrints
unfolding meaning mean meaning_at
rest_list = record { ends = refl; prints = refl }

pub applied : Applied EndsAndPrints
unfolding meaning mean meaning_at
applied = record { ends = refl; prints = refl }

pub applied_to_a_dotted_list : AppliedToADottedList EndsAndPrints
unfolding meaning mean meaning_at
applied_to_a_dotted_list = record { ends = refl; prints = refl }

pub too_many_arguments : TooManyArguments EndsAndPrints
unfolding meaning mean meaning_at
too_many_arguments = record { ends = refl; prints = refl }

pub floors : Floors EndsAndPrints
unfolding meaning mean meaning_at
floors = record { ends = refl; prints = refl }

pub overflow : Overflow EndsAndPrints
unfolding meaning mean meaning_at
overflow = record { ends = refl; prints = refl }

pub no_function : NoFunction EndsAndPrints
unfolding meaning mean meaning_at
no_function = record { ends = refl; prints = refl }

pub no_value : NoValue EndsAndPrints
unfolding meaning mean meaning_at
no_value = record { ends = refl; prints = refl }

pub counting : Counting EndsAndPrints
unfolding meaning mean meaning_at
counting = record { ends = refl; prints = refl }

pub set_binding : SetBinding EndsAndPrints
unfolding meaning mean meaning_at
set_binding = record { ends = refl; prints = refl }

pub slot_places : SlotPlaces EndsAndPrints
unfolding meaning mean meaning_at
slot_places = record { ends = refl; prints = refl }

pub slot_initarg : SlotInitarg EndsAndPrints
unfolding meaning mean meaning_at
slot_initarg = record { ends = refl; prints = refl }

pub slot_form : SlotForm EndsAndPrints
unfolding meaning mean meaning_at
slot_form = record { ends = refl; prints = refl }

pub unbound_slot : UnboundSlot EndsAndPrints
unfolding meaning mean meaning_at
unbound_slot = record { ends = refl; prints = refl }

pub set_slot : SetSlot EndsAndPrints
unfolding meaning mean meaning_at
set_slot = record { ends = refl; prints = refl }

pub two_bytes : TwoBytes
unfolding meaning mean meaning_at
two_bytes = refl

pub counting_words : CountingWords
unfolding meaning mean meaning_at
counting_words = refl
