-- Runs of the machine: so many steps, where it begins, and what it has done when it has ended.
use Rattle.std.specs.Prelude.{◌≡◌, ℕ, zero, suc, ◌+◌, Bool, true, false, List, [], ◌∷◌, Option, Some, None, if◌then◌else◌}
use Rattle.lang_meaning.specs.Values.{nil}
use Rattle.lang_meaning.specs.State.{Outcome, value, more, first_state}
use Rattle.lang_meaning.specs.InitialHeap.{objects_at_start}
use Rattle.lang_meaning.specs.Meaning.{Meant}
use Rattle.flat_language.specs.FlatForm.{FlatForm, sited}
use Rattle.flat_language.specs.FlatNodes.{tables}
use Rattle.flat_language.specs.FlatMeaning.{meant}
use Rattle.eval_machine.specs.Configuration.{Setting, Control, evaluate, signals, come_to, Configuration, awaits, main_forms}
use Rattle.eval_machine.specs.Step.{step}

-- the next configuration; after the end there is none, and the machine stays
abbrev pub next_or : Configuration → Option Configuration → Configuration
next_or m None = m
next_or m (Some next) = next

abbrev pub next : Setting → Configuration → Configuration
next s m = next_or m (step s m)

-- so many steps
abbrev pub steps : Setting → ℕ → Configuration → Configuration
steps s zero m = m
steps s (suc n) m = steps s n (next s m)

-- whether a form begins in the next step: one with a site begins with the form inside it
abbrev pub form_begins : FlatForm → Bool
form_begins (sited site f) = false
form_begins f = true

abbrev pub begins : Control → Bool
begins (evaluate f at) = form_begins f
begins (signals c mark level around) = false
begins (come_to o) = false

-- how many forms begin within so many steps
abbrev pub forms_begun : Setting → ℕ → Configuration → ℕ
forms_begun s zero m = 0
forms_begun s (suc n) m = (if begins m.control then 1 else 0) + forms_begun s n (next s m)

-- the machine has ended
abbrev pub IsEnd : Setting → Configuration → Type 0
IsEnd s m = step s m ≡ None

-- the machine before a program's main forms, with an input and so many levels
abbrev pub start : Setting → List ℕ → ℕ → Configuration
start s input k = record {
  control = come_to (value nil);
  frames = awaits (main_forms k s.program.main) ∷ [];
  state = record { state = first_state (objects_at_start s.names (tables s.program)) input; frame = []; captured = [] };
}

-- the outcome to which the machine has come
abbrev pub outcome_of : Control → Outcome
outcome_of (evaluate f at) = more
outcome_of (signals c mark level around) = more
outcome_of (come_to o) = o

-- what the machine has done when it has ended
abbrev pub done : Configuration → Meant
done m = meant (record { outcome = outcome_of m.control; state = m.state })
