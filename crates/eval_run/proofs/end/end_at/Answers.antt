-- The outcome says the end.
use Rattle.std.proofs.Common.{ap, sym, ◌∙◌}
use Rattle.eval_store.specs.Words.{value_of_word}
use Rattle.eval_store.specs.View.{state_of}
use Rattle.eval_run.proofs.Ending.{ends_by, ends_unhandled}
use Rattle.eval_run.proofs.end.end_at.Goals as goal

pub returns-in-Value : goal.returns-in-Value
returns-in-Value c = λ names b. ap (ends_by (state_of names c.args.evaluator.now.machine.store b).store) (sym (c.in-Value.ensures names b))

pub returns-in-Exit : goal.returns-in-Exit
returns-in-Exit c = λ names b.
    let store = (state_of names c.args.evaluator.now.machine.store b).store in
    ap (ends_by store) (sym (c.in-Exit.ensures names b))
    ∙ ends_unhandled store c.in-Exit._number c.class_in.result (value_of_word names c.in-Exit.word) c.in-Exit.landing c.site_of.result c.site_of.ensures (c.class_in.ensures names b)

pub returns-in-Full : goal.returns-in-Full
returns-in-Full c = λ names b. ap (ends_by (state_of names c.args.evaluator.now.machine.store b).store) (sym (c.in-Full.ensures names b))

pub returns-in-More : goal.returns-in-More
returns-in-More c = λ names b. ap (ends_by (state_of names c.args.evaluator.now.machine.store b).store) (sym (c.in-More.ensures names b))
