-- The sizes of the forms fall, and nothing that was passed asks.
use Rattle.std.proofs.Common.{◌≡◌, drop}
use Rattle.flat_language.specs.FlatForm.{form_size, forms_size, clauses_size, body_size, bindings_size, dynamics_size}
use Rattle.flat_language.specs.model.View.{forms, clauses_of, bindings_of, dynamics_of, maybe_form}
use Rattle.back_lowering.specs.Sites.{forms_ask, clauses_ask, bindings_ask, dynamics_ask}
use Rattle.back_tables.proofs.sites.+sites.Given as goal

abbrev pub decreases-asks_site : goal.decreases-asks_site
decreases-asks_site l = form_size l.form.now

abbrev pub decreases-forms_ask : goal.decreases-forms_ask
decreases-forms_ask l = forms_size (forms l.list.now)

abbrev pub decreases-clauses_ask : goal.decreases-clauses_ask
decreases-clauses_ask l = clauses_size (clauses_of l.list.now)

abbrev pub decreases-body_asks : goal.decreases-body_asks
decreases-body_asks l = body_size (maybe_form l.body.now)

abbrev pub decreases-bindings_ask : goal.decreases-bindings_ask
decreases-bindings_ask l = bindings_size (bindings_of l.list.now)

abbrev pub decreases-dynamics_ask : goal.decreases-dynamics_ask
decreases-dynamics_ask l = dynamics_size (dynamics_of l.list.now)

abbrev pub invariant-forms_ask-loop-i : goal.invariant-forms_ask-loop-i
invariant-forms_ask-loop-i l = forms_ask (forms (drop l.i l.list)) ≡ forms_ask (forms l.list)

abbrev pub invariant-clauses_ask-loop-i : goal.invariant-clauses_ask-loop-i
invariant-clauses_ask-loop-i l = clauses_ask (clauses_of (drop l.i l.list)) ≡ clauses_ask (clauses_of l.list)

abbrev pub invariant-bindings_ask-loop-i : goal.invariant-bindings_ask-loop-i
invariant-bindings_ask-loop-i l = bindings_ask (bindings_of (drop l.i l.list)) ≡ bindings_ask (bindings_of l.list)

abbrev pub invariant-dynamics_ask-loop-i : goal.invariant-dynamics_ask-loop-i
invariant-dynamics_ask-loop-i l = dynamics_ask (dynamics_of (drop l.i l.list)) ≡ dynamics_ask (dynamics_of l.list)
