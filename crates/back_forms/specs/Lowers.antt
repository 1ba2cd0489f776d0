-- The code of forms and of lists of them, where all that code is made from is given.
use Rattle.std.specs.Prelude.{ℕ, Bool, Option}
use Rattle.flat_language.specs.FlatForm.{FlatForm, FlatForms, FlatClauses, FlatBody, FlatBindings, FlatDynamics}
use Rattle.mid_code.specs.MidCode.{MidCodes}
use Rattle.back_lowering.specs.declared.scope.Scope.{Scope}
use Rattle.back_lowering.specs.Steps.{Steps}
use Rattle.back_lowering.specs.Codes.{Lowered, known_truth, lower, lower_sequence, lower_behind, lower_arguments, lower_call_value, lower_segments, lower_clauses, lower_clause, lower_bindings, lower_dynamics}
use Rattle.back_calls.specs.declared.given.Given.{Given}

abbrev pub low : Given → Scope → (d : ℕ) → FlatForm → Lowered
low g s d f = lower g.names.now g.at.now g.program.now s d f

abbrev pub low_sequence : Given → Scope → (d : ℕ) → FlatForms → Steps
low_sequence g s d fs = lower_sequence g.names.now g.at.now g.program.now s d fs

abbrev pub low_behind : Given → Scope → (d : ℕ) → FlatForms → Steps
low_behind g s d fs = lower_behind g.names.now g.at.now g.program.now s d fs

abbrev pub low_arguments : Given → Scope → (d : ℕ) → FlatForms → Steps
low_arguments g s d fs = lower_arguments g.names.now g.at.now g.program.now s d fs

abbrev pub low_call_value : Given → Scope → (d : ℕ) → FlatForms → Steps
low_call_value g s d fs = lower_call_value g.names.now g.at.now g.program.now s d fs

abbrev pub low_segments : Given → Scope → (d : ℕ) → FlatForms → MidCodes
low_segments g s d fs = lower_segments g.names.now g.at.now g.program.now s d fs

abbrev pub low_clauses : Given → Scope → (d : ℕ) → FlatClauses → Steps
low_clauses g s d cs = lower_clauses g.names.now g.at.now g.program.now s d cs

-- whether the test of a clause is true, where that is known
abbrev pub truth_of : Given → FlatForm → Option Bool
truth_of g test = known_truth g.at.now g.program.now.literals test

abbrev pub low_clause : Given → Scope → (d : ℕ) → (known : Option Bool) → Lowered → FlatBody → (others : Steps) → Steps
low_clause g s d known test body others = lower_clause g.names.now g.at.now g.program.now s d known test body others

abbrev pub low_bindings : Given → Scope → (d : ℕ) → FlatBindings → Steps
low_bindings g s d bs = lower_bindings g.names.now g.at.now g.program.now s d bs

abbrev pub low_dynamics : Given → Scope → (d : ℕ) → FlatDynamics → Steps
low_dynamics g s d ds = lower_dynamics g.names.now g.at.now g.program.now s d ds
