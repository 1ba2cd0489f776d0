-- Each program is a lemma of its own.
use Rattle.lang_worked.proofs.FlatExamples.{methods_in_order, seen_through_a_call, full_at_the_form, full_at_the_cons}
use Rattle.lang_worked.proofs.flat_programs.flat_calls.Goals as goal

pub returns-clause-methods_in_order : goal.returns-clause-methods_in_order
returns-clause-methods_in_order c = methods_in_order

pub returns-clause-seen_through_a_call : goal.returns-clause-seen_through_a_call
returns-clause-seen_through_a_call c = seen_through_a_call

pub returns-clause-full_at_the_form : goal.returns-clause-full_at_the_form
returns-clause-full_at_the_form c = full_at_the_form

pub returns-clause-full_at_the_cons : goal.returns-clause-full_at_the_cons
returns-clause-full_at_the_cons c = full_at_the_cons
