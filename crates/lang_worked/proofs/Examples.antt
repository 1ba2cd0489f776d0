-- The worked programs compute.
use Rattle.std.proofs.Common.{refl}
use Rattle.lang_meaning.specs.Meaning.{meaning, mean, meaning_at}
use Rattle.lang_worked.specs.ByHand.{EndsAndPrints}
use Rattle.lang_worked.specs.Exits.{InnerFirst, InnerCatch, OuterCatch, EarlierTurn, TooFewLevels, StaleExit, ManyCleanups}
use Rattle.lang_worked.specs.Conditions.{WithoutItself, Continued, NotContinuable, Returning, CleanupRuns, NoCatchLeft, Replaced, HandlerFails}
use Rattle.lang_worked.specs.Calls.{MethodsInOrder, SeenThroughACall, OneApplication, FullAtTheForm, FullAtTheCons}

pub inner_first : InnerFirst EndsAndPrints
unfolding meaning mean meaning_at
inner_first = record { ends = refl; prints = refl }

pub inner_catch : InnerCatch EndsAndPrints
unfolding meaning mean meaning_at
inner_catch = record { ends = refl; prints = refl }

pub outer_catch : OuterCatch EndsAndPrints
unfolding meaning mean meaning_at
outer_catch = record { ends = refl; prints = refl }

pub earlier_turn : EarlierTurn EndsAndPrints
unfolding meaning mean meaning_at
earlier_turn = record { ends = refl; prints = refl }

pub too_few_levels : TooFewLevels EndsAndPrints
unfolding meaning mean meaning_at
too_few_levels = record { ends = refl; prints = refl }

pub stale_exit : StaleExit EndsAndPrints
unfolding meaning mean meaning_at
stale_exit = record { ends = refl; prints = refl }

pub many_cleanups : ManyCleanups EndsAndPrints
unfolding meaning mean meaning_at
many_cleanups = record { ends = refl; prints = refl }

pub without_itself : WithoutItself EndsAndPrints
unfolding meaning mean meaning_at
without_itself = record { ends = refl; prints = refl }

pub continued : Continued EndsAndPrints
unfolding meaning mean meaning_at
continued = record { ends = refl; prints = refl }

pub not_continuable : NotContinuable EndsAndPrints
unfolding meaning mean meaning_at
not_continuable = record { ends = refl; prints = refl }

pub returning : Returning EndsAndPrints
unfolding meaning mean meaning_at
returning = record { ends = refl; prints = refl }

pub cleanup_runs : CleanupRuns EndsAndPrints
unfolding meaning mean meaning_at
cleanup_runs = record { ends = refl; prints = refl }

pub no_catch_left : NoCatchLeft EndsAndPrints
unfolding meaning mean meaning_at
no_catch_left = record { ends = refl; prints = refl }

pub replaced : Replaced EndsAndPrints
unfolding meaning mean meaning_at
replaced = record { ends = refl; prints = refl }

pub handler_fails : HandlerFails EndsAndPrints
unfolding meaning mean meaning_at
handler_fails = record { ends = refl; prints = refl }

pub methods_in_order : MethodsInOrder EndsAndPrints
unfolding meaning mean meaning_at
methods_in_order = record { ends = refl; prints = refl }

pub seen_through_a_call : SeenThroughACall EndsAndPrints
unfolding meaning mean meaning_at
seen_through_a_call = record { ends = refl; prints = refl }

pub full_at_the_form : FullAtTheForm EndsAndPrints
unfolding meaning mean meaning_at
full_at_the_form = record { ends = refl; prints = refl }

pub full_at_the_cons : FullAtTheCons EndsAndPrints
unfolding meaning mean meaning_at
full_at_the_cons = record { ends = refl; prints = refl }

pub one_application : OneApplication
unfolding meaning mean meaning_at
one_application = (refl, refl)
