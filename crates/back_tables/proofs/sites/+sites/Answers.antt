-- What was passed does not ask, and what asks is found.
use Rattle.std.proofs.Common.{Bool, ◌||◌, List, refl, ap, sym, ◌∙◌, arith}
use Rattle.flat_language.specs.FlatForm.{FlatForm}
use Rattle.flat_language.specs.declared.flat_core.FlatClause.{FlatClause}
use Rattle.flat_language.specs.declared.flat_core.FlatBinding.{FlatBinding}
use Rattle.flat_language.specs.declared.flat_core.FlatDynBinding.{FlatDynBinding}
use Rattle.flat_language.specs.model.View.{forms, clauses_of, bindings_of, dynamics_of, maybe_form}
use Rattle.back_lowering.specs.Sites.{asks_site, forms_ask, clauses_ask, body_asks, bindings_ask, dynamics_ask}
use Rattle.back_lowering.proofs.Sizes.{clause_in_smaller}
use Rattle.back_tables.proofs.Passing.{asks_here, asks_later, clause_asks, next_clause}
use Rattle.back_tables.proofs.sites.+sites.Goals as goal
use Rattle.back_tables.proofs.sites.+sites.Goals.{clauses_ask-then-asks_site-via-then-asks_site, clauses_ask-then-asks_site-via-else-asks_site+then-body_asks}

pub forms_ask-returns-then-asks_site : goal.forms_ask-returns-then-asks_site
forms_ask-returns-then-asks_site t c =
    asks_here (λ (xs : List FlatForm). forms_ask (forms xs)) asks_site (λ x xs. refl) c.args.list.now c.loop-i.i c.in-Some.form.now
    c.in-Some.ensures (sym c.asks_site.ensures ∙ c.if-asks_site.true) c.loop-i.invariant

pub forms_ask-loop-i-preserved : goal.forms_ask-loop-i-preserved
forms_ask-loop-i-preserved t c =
    asks_later (λ (xs : List FlatForm). forms_ask (forms xs)) asks_site (λ x xs. refl) c.args.list.now c.loop-i.i c.in-Some.form.now
    c.in-Some.ensures (sym c.asks_site.ensures ∙ c.if-asks_site.false) c.loop-i.invariant

pub bindings_ask-returns-then-asks_site : goal.bindings_ask-returns-then-asks_site
bindings_ask-returns-then-asks_site t c =
    asks_here (λ (xs : List FlatBinding). bindings_ask (bindings_of xs)) (λ (b : FlatBinding). asks_site b.value) (λ x xs. refl) c.args.list.now c.loop-i.i c.in-Some.binding.now
    c.in-Some.ensures (sym c.asks_site.ensures ∙ c.if-asks_site.true) c.loop-i.invariant

pub bindings_ask-loop-i-preserved : goal.bindings_ask-loop-i-preserved
bindings_ask-loop-i-preserved t c =
    asks_later (λ (xs : List FlatBinding). bindings_ask (bindings_of xs)) (λ (b : FlatBinding). asks_site b.value) (λ x xs. refl) c.args.list.now c.loop-i.i c.in-Some.binding.now
    c.in-Some.ensures (sym c.asks_site.ensures ∙ c.if-asks_site.false) c.loop-i.invariant

pub dynamics_ask-returns-then-asks_site : goal.dynamics_ask-returns-then-asks_site
dynamics_ask-returns-then-asks_site t c =
    asks_here (λ (xs : List FlatDynBinding). dynamics_ask (dynamics_of xs)) (λ (b : FlatDynBinding). asks_site b.value) (λ x xs. refl) c.args.list.now c.loop-i.i c.in-Some.binding.now
    c.in-Some.ensures (sym c.asks_site.ensures ∙ c.if-asks_site.true) c.loop-i.invariant

pub dynamics_ask-loop-i-preserved : goal.dynamics_ask-loop-i-preserved
dynamics_ask-loop-i-preserved t c =
    asks_later (λ (xs : List FlatDynBinding). dynamics_ask (dynamics_of xs)) (λ (b : FlatDynBinding). asks_site b.value) (λ x xs. refl) c.args.list.now c.loop-i.i c.in-Some.binding.now
    c.in-Some.ensures (sym c.asks_site.ensures ∙ c.if-asks_site.false) c.loop-i.invariant

pub clauses_ask-body_asks-requires : goal.clauses_ask-body_asks-requires
clauses_ask-body_asks-requires t c = (omega (arith, clause_in_smaller c.args.list.now c.loop-i.i c.in-Some.clause.now c.in-Some.ensures), tt)

pub clauses_ask-returns-then-asks_site : goal.clauses_ask-returns-then-asks_site
clauses_ask-returns-then-asks_site t c =
    let x = c.in-Some.clause.now in
    asks_here (λ (xs : List FlatClause). clauses_ask (clauses_of xs)) clause_asks next_clause c.args.list.now c.loop-i.i x
    c.in-Some.ensures
    (elim c.then-asks_site.branch [
      | clauses_ask-then-asks_site-via-then-asks_site w ↦ ap (λ (b : Bool). b || body_asks (maybe_form x.body)) (sym c.asks_site.ensures ∙ w.if-asks_site.true)
      | clauses_ask-then-asks_site-via-else-asks_site+then-body_asks w ↦
          ap (λ (b : Bool). b || body_asks (maybe_form x.body)) (sym c.asks_site.ensures ∙ w.if-asks_site.false)
          ∙ sym w.body_asks.ensures ∙ w.if-body_asks.true
    ])
    c.loop-i.invariant

pub clauses_ask-loop-i-preserved : goal.clauses_ask-loop-i-preserved
clauses_ask-loop-i-preserved t c =
    let x = c.in-Some.clause.now in
    asks_later (λ (xs : List FlatClause). clauses_ask (clauses_of xs)) clause_asks next_clause c.args.list.now c.loop-i.i x
    c.in-Some.ensures
    (ap (λ (b : Bool). b || body_asks (maybe_form x.body)) (sym c.asks_site.ensures ∙ c.if-asks_site.false)
    ∙ sym c.body_asks.ensures ∙ c.if-body_asks.false)
    c.loop-i.invariant
