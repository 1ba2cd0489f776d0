-- What a run comes to where the names of its program have other numbers. Values, variables and dynamic contexts have names by their texts,
-- so only the body that a function keeps which a `lambda` made has the other numbers.
use Rattle.std.specs.Prelude.{ℕ, List, map}
use Rattle.lang_meaning.specs.Objects.{Object, closure}
use Rattle.lang_meaning.specs.State.{State, Evaluated}
use Rattle.lang_meaning.specs.Signals.{Task, nothing, form, turn, methods}
use Rattle.lang_meaning.specs.Meaning.{Meant}
use Rattle.lang_meaning.specs.Evaluation.{Evaluation}
use Rattle.lang_renamed.specs.Renaming.{form_by, forms_by, program_by}

module _ (r : ℕ → ℕ) where
  abbrev pub object_by : Object → Object
  object_by (closure required rest body env) = closure required rest (form_by r body) env
  object_by o = o

  abbrev pub store_by : List Object → List Object
  store_by os = map object_by os

  abbrev pub state_by : State → State
  state_by z = record z { store = store_by z.store }

  -- the outcome is the same
  abbrev pub evaluated_by : Evaluated → Evaluated
  evaluated_by x = record { outcome = x.outcome; state = state_by x.state }

  abbrev pub task_by : Task → Task
  task_by nothing = nothing
  task_by (form f) = form (form_by r f)
  task_by (turn e rest all) = turn e (forms_by r rest) (forms_by r all)
  task_by (methods c vs) = methods c vs

  -- the end is the same, the bytes printed, the input left, the units and the peak of words
  abbrev pub meant_by : Meant → Meant
  meant_by m = record m { store = store_by m.store }

  -- what is evaluated, under another table of names
  abbrev pub evaluation_by : List (List ℕ) → Evaluation → Evaluation
  evaluation_by names e = record { names = names; program = program_by r e.program; levels = e.levels; words = e.words }
