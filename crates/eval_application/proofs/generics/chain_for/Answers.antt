-- The tables give it, where all of them are classes.
use Rattle.std.proofs.Common.{◌≡◌, ℕ, ◌<◌, Some, subst}
use Rattle.std.specs.Prelude.{slice_get}
use Rattle.eval_application.specs.Generics.{HasPast}
use Rattle.eval_application.proofs.Dispatching.{no_chain, one_past, all_below, looked_up}
use Rattle.flat_language.specs.FlatNodes.{tables}
use Rattle.eval_application.proofs.generics.chain_for.Goals as goal

pub returns-then-are_classes : goal.returns-then-are_classes
returns-then-are_classes c = λ names g k there arity.
    looked_up c.args.given.program.now g c.args.classes.now c.chain.result
    (c.chain.ensures c.args.given.program.now.generics c.args.given.program.now.classes g k.dispatch there (record { arity = arity; each = subst (λ (n : ℕ). (i x : ℕ) → slice_get c.args.classes.now i ≡ Some x → x < n) c.len.ensures (all_below c.args.classes.now c.len.result c.are_classes.result c.are_classes.ensures c.if-are_classes.true) }))

pub returns-else-are_classes : goal.returns-else-are_classes
returns-else-are_classes c = λ names g k there arity. no_chain (tables c.args.given.program.now) g c.args.classes.now (subst (HasPast c.args.classes.now) c.len.ensures (one_past c.args.classes.now c.len.result c.are_classes.result c.are_classes.ensures c.if-are_classes.false))
