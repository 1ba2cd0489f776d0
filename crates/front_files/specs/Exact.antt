-- Judgements and verdicts that are not given for want of words or of instructions of an expander.
use Rattle.base.specs.declared.reason.Refusal.{Refusal}
use Rattle.front_profile.specs.Exact.{IsForWant}
use Rattle.front_files.specs.Verdicts.{Judgement, all_taken, one_refused, FileVerdict, accepted, refused}

abbrev pub IsExactRefusal : Refusal → Type 0
IsExactRefusal r = IsForWant r.reason → ⊥

abbrev pub IsExactJudgement : Judgement → Type 0
IsExactJudgement (all_taken t) = Unit {0}
IsExactJudgement (one_refused r) = IsExactRefusal r

abbrev pub IsExactVerdict : FileVerdict → Type 0
IsExactVerdict (accepted program) = Unit {0}
IsExactVerdict (refused r) = IsExactRefusal r
