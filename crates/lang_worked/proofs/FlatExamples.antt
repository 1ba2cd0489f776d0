-- The worked programs compute when they are made flat.
use Rattle.std.proofs.Common.{refl}
use Rattle.flat_language.specs.FlatMeaning.{flat_meaning, mean, flat_meaning_at}
use Rattle.flat_language.specs.Flatten.{flat}
use Rattle.lang_worked.specs.Exits.{InnerFirst, InnerCatch, OuterCatch, EarlierTurn, TooFewLevels, StaleExit, ManyCleanups}
use Rattle.lang_worked.specs.Conditions.{WithoutItself, Continued, NotContinuable, Returning, CleanupRuns, NoCatchLeft, Replaced, HandlerFails}
use Rattle.lang_worked.specs.Calls.{MethodsInOrder, SeenThroughACall, FullAtTheForm, FullAtTheCons}
use Rattle.lang_worked.specs.Data.{DottedList, StringInAVector, ChangedLiteral, RestList, Applied, AppliedToADottedList, TooManyArguments, Floors, Overflow, NoFunction, NoValue, Counting, SetBinding, SlotPlaces, SlotInitarg, SlotForm, UnboundSlot, SetSlot}
use Rattle.lang_worked.specs.Flat.{DoesFlat, OneApplication, TwoBytes, CountingWords, CountingFlat}
use Rattle.lang_worked.specs.Frames.{OwnSlots, SlotsLeft}

pub inner_first : InnerFirst DoesFlat
unfolding flat_meaning mean flat_meaning_at flat
inner_first = record { ends = refl; prints = refl }

pub inner_catch : InnerCatch DoesFlat
unfolding flat_meaning mean flat_meaning_at flat
inner_catch = record { ends = refl; prints = refl }

pub outer_catch : OuterCatch DoesFlat
unfolding flat_meaning mean flat_meaning_at flat
outer_catch = record { ends = refl; prints = refl }

pub earlier_turn : EarlierTurn DoesFlat
unfolding flat_meaning mean flat_meaning_at flat
earlier_turn = record { ends = refl; prints = refl }

pub too_few_levels : TooFewLevels DoesFlat
unfolding flat_meaning mean flat_meaning_at flat
too_few_levels = record { ends = refl; prints = refl }

pub stale_exit : StaleExit DoesFlat
unfolding flat_meaning mean flat_meaning_at flat
stale_exit = record { ends = refl; prints = refl }

pub many_cleanups : ManyCleanups DoesFlat
unfolding flat_meaning mean flat_meaning_at flat
many_cleanups = record { ends = refl; prints = refl }

pub without_itself : WithoutItself DoesFlat
unfolding flat_meaning mean flat_meaning_at flat
without_itself = record { ends = refl; prints = refl }

pub continued : Continued DoesFlat
unfolding flat_meaning mean flat_meaning_at flat
continued = record { ends = refl; prints = refl }

pub not_continuable : NotContinuable DoesFlat
unfolding flat_meaning mean flat_meaning_at flat
not_continuable = record { ends = refl; prints = refl }

pub returning : Returning DoesFlat
unfolding flat_meaning mean flat_meaning_at flat
returning = record { ends = refl; prints = refl }

pub cleanup_runs : CleanupRuns DoesFlat
unfolding flat_meaning mean flat_meaning_at flat
cleanup_runs = record { ends = refl; prints = refl }

pub no_catch_left : NoCatchLeft DoesFlat
unfolding flat_meaning mean flat_meaning_at flat
no_catch_left = record { ends = refl; prints = refl }

pub replaced : Replaced DoesFlat
unfolding flat_meaning mean flat_meaning_at flat
replaced = record { ends = refl; prints = refl }

pub handler_fails : HandlerFails DoesFlat
unfolding flat_meaning mean flat_meaning_at flat
handler_fails = record { ends = refl; prints = refl }

pub methods_in_order : MethodsInOrder DoesFlat
unfolding flat_meaning mean flat_meaning_at flat
methods_in_order = record { ends = refl; prints = refl }

pub seen_through_a_call : SeenThroughACall DoesFlat
unfolding flat_meaning mean flat_meaning_at flat
seen_through_a_call = record { ends = refl; prints = refl }

pub full_at_the_form : FullAtTheForm DoesFlat
unfolding flat_meaning mean flat_meaning_at flat
full_at_the_form = record { ends = refl; prints = refl }

pub full_at_the_cons : FullAtTheCons DoesFlat
unfolding flat_meaning mean flat_meaning_at flat
full_at_the_cons = record { ends = refl; prints = refl }

pub dotted_list : DottedList DoesFlat
unfolding flat_meaning mean flat_meaning_at flat
dotted_list = record { ends = refl; prints = refl }

pub string_in_a_vector : StringInAVector DoesFlat
unfolding flat_meaning mean flat_meaning_at flat
string_in_a_vector = record { ends = refl; prints = refl }

pub changed_literal : ChangedLiteral DoesFlat
unfolding flat_meaning mean flat_meaning_at flat
changed_literal = record { ends = refl; prints = refl }

pub rest_list : RestList DoesFlat
unfolding flat_meaning mean flat_meaning_at flat
rest_list = record { ends = refl; prints = refl }

pub applied : Applied DoesFlat
unfolding flat_meaning mean flat_meaning_at flat
applied = record { ends = refl; prints = refl }

pub applied_to_a_dotted_list : AppliedToADottedList DoesFlat
unfolding flat_meaning mean flat_meaning_at flat
applied_to_a_dotted_list = record { ends = refl; prints = refl }

pub too_many_arguments : TooManyArguments DoesFlat
unfolding flat_meaning mean flat_meaning_at flat
too_many_arguments = record { ends = refl; prints = refl }

pub floors : Floors DoesFlat
unfolding flat_meaning mean flat_meaning_at flat
floors = record { ends = refl; prints = refl }

pub overflow : Overflow DoesFlat
unfolding flat_meaning mean flat_meaning_at flat
overflow = record { ends = refl; prints = refl }

pub no_function : NoFunction DoesFlat
unfolding flat_meaning mean flat_meaning_at flat
no_function = record { ends = refl; prints = refl }

pub no_value : NoValue DoesFlat
unfolding flat_meaning mean flat_meaning_at flat
no_value = record { ends = refl; prints = refl }

pub counting : Counting DoesFlat
unfolding flat_meaning mean flat_meaning_at flat
counting = record { ends = refl; prints = refl }

pub set_binding : SetBinding DoesFlat
unfolding flat_meaning mean flat_meaning_at flat
set_binding = record { ends = refl; prints = refl }

pub slot_places : SlotPlaces DoesFlat
unfolding flat_meaning mean flat_meaning_at flat
slot_places = record { ends = refl; prints = refl }

pub slot_initarg : SlotInitarg DoesFlat
unfolding flat_meaning mean flat_meaning_at flat
slot_initarg = record { ends = refl; prints = refl }

pub slot_form : SlotForm DoesFlat
unfolding flat_meaning mean flat_meaning_at flat
slot_form = record { ends = refl; prints = refl }

pub unbound_slot : UnboundSlot DoesFlat
unfolding flat_meaning mean flat_meaning_at flat
unbound_slot = record { ends = refl; prints = refl }

pub set_slot : SetSlot DoesFlat
unfolding flat_meaning mean flat_meaning_at flat
set_slot = record { ends = refl; prints = refl }

pub one_application : OneApplication
unfolding flat_meaning mean flat_meaning_at flat
one_application = (refl, refl)

pub two_bytes : TwoBytes
unfolding flat_meaning mean flat_meaning_at flat
two_bytes = refl

pub counting_words : CountingWords
unfolding flat_meaning mean flat_meaning_at flat
counting_words = refl

pub counting_flat : CountingFlat
unfolding flat
counting_flat = refl

pub own_slots : OwnSlots
unfolding flat_meaning mean flat_meaning_at flat
own_slots = record { ends = refl; prints = refl }

pub slots_left : SlotsLeft
unfolding flat_meaning mean flat_meaning_at flat
slots_left = record { ends = refl; prints = refl }
