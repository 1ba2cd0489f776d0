-- A top-level form is one where nothing is bound.
use Rattle.front_profile.specs.Definitions.{defined}
use Rattle.front_profile.proofs.Programs.{form_came, nothing_good, first_between, file_between, prelude_between}
use Rattle.front_profile.proofs.whole_laws.law_top_forms.Goals as goal

pub returns-clause-first : goal.returns-clause-first
returns-clause-first c = first_between

pub returns-clause-file : goal.returns-clause-file
returns-clause-file c = λ names a s d m g n b h. file_between a s m n (form_came c.law_good_steps.ensures c.law_form.ensures (record { hierarchies = c.law_definitions.ensures.hierarchies; names = c.law_definitions.ensures.names }) names a s d m g (nothing_good (defined s) a n) b.whole.sound h) b

pub returns-clause-prelude : goal.returns-clause-prelude
returns-clause-prelude c = λ names a s d m g n u b h. prelude_between a s m u (form_came c.law_good_steps.ensures c.law_form.ensures (record { hierarchies = c.law_definitions.ensures.hierarchies; names = c.law_definitions.ensures.names }) names a s d m g (nothing_good (defined s) a n) b.whole.sound h) b
