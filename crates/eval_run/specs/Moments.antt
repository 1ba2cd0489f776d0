-- The run of the machine that evaluates a program: that of the program made flat, with an input and so many levels and words.
use Rattle.std.specs.Prelude.{ℕ, Bool, false, List}
use Rattle.lang_meaning.specs.State.{words}
use Rattle.lang_meaning.specs.Evaluation.{Evaluation}
use Rattle.flat_language.specs.Flatten.{flat_program}
use Rattle.eval_machine.specs.Configuration.{Setting, Control, evaluate, Configuration}
use Rattle.eval_machine.specs.Run.{start, steps, forms_begun}
use Rattle.eval_machine.specs.Law.{setting}
use Rattle.eval_step.specs.Streams.{form_reads}

abbrev pub setting_of : Evaluation → Setting
setting_of e = setting e.names (flat_program e.program) (words e.words)

-- the machine after so many steps, and how many forms began in them
abbrev pub configuration_after : Evaluation → List ℕ → ℕ → Configuration
configuration_after e input n = steps (setting_of e) n (start (setting_of e) input e.levels)

abbrev pub forms_after : Evaluation → List ℕ → ℕ → ℕ
forms_after e input n = forms_begun (setting_of e) n (start (setting_of e) input e.levels)

-- whether a byte is taken next, or looked at
abbrev pub wants_byte : Control → Bool
wants_byte (evaluate f at) = form_reads f
wants_byte c = false
