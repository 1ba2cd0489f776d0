-- The chain is looked up.
use Rattle.std.proofs.Common.{◌≡◌, List, ℕ, Some, None, ap, subst, length, ◌∙◌}
use Rattle.lang_meaning.specs.Classes.{chain}
use Rattle.flat_language.specs.FlatNodes.{tables}
use Rattle.lang_dispatch.specs.Chains.{seen}
use Rattle.eval_state.proofs.Stepping.{on_ok}
use Rattle.eval_application.proofs.Dispatching.{so_many_classes}
use Rattle.eval_application.proofs.Calling.{dispatched, not_dispatched}
use Rattle.eval_application.proofs.generics.dispatch.Goals as goal

pub returns-in-Some : goal.returns-in-Some
returns-in-Some c =
    on_ok c.begin_chain.result _ _
    (dispatched c.args.machine.now c.begin_chain.new.machine c.args.row.now c.in-Some.chain.now c.args.count c.args.level c.args.around c.in_ok-classes.classes c.in_ok-classes.ensures
    (λ names g. subst (λ cs. chain (tables c.args.machine.now.given.program.now) c.args.row.now cs ≡ Some (seen c.in-Some.chain.now)) c.as_slice.ensures
    (c.in-Some.ensures names c.args.row.now g c.requires.there
    (ap (λ (cs : List ℕ). length cs) c.as_slice.ensures ∙ so_many_classes c.args.machine.now c.args.count c.args.row.now.required c.in_ok-classes.classes c.requires.held c.requires.taken c.in_ok-classes.ensures))))
    c.begin_chain.ensures

pub returns-in-None : goal.returns-in-None
returns-in-None c =
    on_ok c.signal_undefined.result _ _
    (not_dispatched c.args.machine.now c.drop_operands.new.self c.signal_undefined.new.self c.args.row.now c.args.count c.args.level c.args.around c.in_ok-classes.classes c.in_ok-classes.ensures
    (λ names g. subst (λ cs. chain (tables c.args.machine.now.given.program.now) c.args.row.now cs ≡ None) c.as_slice.ensures
    (c.in-None.ensures names c.args.row.now g c.requires.there
    (ap (λ (cs : List ℕ). length cs) c.as_slice.ensures ∙ so_many_classes c.args.machine.now c.args.count c.args.row.now.required c.in_ok-classes.classes c.requires.held c.requires.taken c.in_ok-classes.ensures))) c.drop_operands.ensures)
    c.signal_undefined.ensures
