-- The step is that of the table under the names that there are afterwards, and under later ones.
use Rattle.std.proofs.Common.{rules}
use Rattle.base.specs.Names.{Extends-same}
use Rattle.lang_derived.proofs.Kept.{step_taken, step_whole}
use Rattle.lang_derived.proofs.Stays.{step_here, stop_here, derived_falls}
use Rattle.lang_derived.proofs.one_step.derive.Goals as goal

pub returns-in_ok-derived-in-Becomes-clause-step : goal.returns-in_ok-derived-in-Becomes-clause-step
returns-in_ok-derived-in-Becomes-clause-step c =
    step_taken c.args.names.now _ c.args.datum.now _ _ c.args.fresh.now _ c.in-Becomes.right
    c.in_ok-derived-in-Becomes.ensures.names c.requires.named (search rules) (search rules)
    c.in_ok-derived-in-Becomes.ensures.builds c.in_ok-derived-in-Becomes.ensures.ok

pub returns-in_ok-derived-in-Becomes-clause-whole : goal.returns-in_ok-derived-in-Becomes-clause-whole
returns-in_ok-derived-in-Becomes-clause-whole c =
    step_whole c.args.names.now _ c.args.datum.now _ c.args.fresh.now _
    c.in_ok-derived-in-Becomes.ensures.names c.requires.formed c.requires.named
    (returns-in_ok-derived-in-Becomes-clause-step c)

pub returns-in_ok-derived-in-Becomes-clause-step_stays : goal.returns-in_ok-derived-in-Becomes-clause-step_stays
returns-in_ok-derived-in-Becomes-clause-step_stays c =
    step_here _ _ _ _ _ _ c.in_ok-derived-in-Becomes.ensures.names c.requires.named (returns-in_ok-derived-in-Becomes-clause-step c)

pub returns-in_ok-derived-in-Becomes-clause-falls : goal.returns-in_ok-derived-in-Becomes-clause-falls
returns-in_ok-derived-in-Becomes-clause-falls c =
    derived_falls c.args.names.now _ c.args.datum.now c.args.fresh.now _ _ c.in_ok-derived-in-Becomes.ensures.names c.requires.named (returns-in_ok-derived-in-Becomes-clause-step c)

pub returns-in-Plain-clause-step_stays : goal.returns-in-Plain-clause-step_stays
returns-in-Plain-clause-step_stays c = step_here c.args.names.now _ _ _ _ _ (Extends-same _) c.requires.named (search rules)

pub returns-in-Unfit-clause-stop_stays : goal.returns-in-Unfit-clause-stop_stays
returns-in-Unfit-clause-stop_stays c = stop_here c.args.names.now _ _ _ _ (Extends-same _) c.requires.named (search rules)
