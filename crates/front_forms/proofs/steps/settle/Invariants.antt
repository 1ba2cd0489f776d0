-- The steps so far lead to the last datum, and its rank falls.
use Rattle.lang_derived.specs.Ranks.{rank}
use Rattle.front_profile.specs.Promises.{settled_datum}
use Rattle.front_forms.proofs.Settling.{Led}
use Rattle.front_forms.proofs.steps.settle.Given as goal

abbrev pub invariant-loop-refusal : goal.invariant-loop-refusal
invariant-loop-refusal l = Led l.initial.names l.names l.initial.tables l.datum l.tables (settled_datum l.found l.datum)

abbrev pub decreases-loop-refusal : goal.decreases-loop-refusal
decreases-loop-refusal l = rank l.names (settled_datum l.found l.datum)
