-- What a clause does whose test was true.
use Rattle.std.specs.Prelude.{Option, Some, None}
use Rattle.lang_meaning.specs.Values.{Value}
use Rattle.flat_language.specs.declared.flat_core.FlatClause.{FlatClause}
use Rattle.flat_language.specs.FlatForm.{no_body}
use Rattle.flat_language.specs.model.View.{maybe_form}
use Rattle.eval_machine.specs.Configuration.{Setting, Situation, Transition}
use Rattle.eval_machine.specs.Step.{clause_body_step}

-- its body is evaluated, where it has one
abbrev pub clause_body_of : Setting → Value → Option FlatClause → Situation → Transition
clause_body_of s v None at = clause_body_step s v no_body at
clause_body_of s v (Some c) at = clause_body_step s v (maybe_form c.body) at
