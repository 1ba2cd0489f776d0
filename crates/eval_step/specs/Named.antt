-- Variables of names: the global ones, and the dynamic ones where no binding of theirs is around, each in a table.
use Rattle.std.specs.Prelude.{◌≡◌, ℕ, List, ◌∷◌}
use Rattle.lang_meaning.specs.Lookup.{text, under_text}
use Rattle.lang_meaning.specs.State.{State}
use Rattle.lang_meaning.specs.Values.{Value}
use Rattle.flat_language.specs.FlatState.{gives, on_state}
use Rattle.eval_machine.specs.Applications.{signal_unbound}
use Rattle.eval_machine.specs.Configuration.{Setting, Situation, Wait, Transition, ended, some_or, def_global_value, def_dynamic_value}
use Rattle.eval_store.specs.declared.word.Word.{Word}
use Rattle.eval_store.specs.Words.{value_of_word}
use Rattle.eval_store.specs.View.{Beside}
use Rattle.eval_step.specs.declared.evaluator.Evaluator.{Evaluator}
use Rattle.eval_step.specs.declared.named.Table.{Table}
use Rattle.eval_step.specs.declared.named.Table.TheVariants.{Globals, Dynamics}
use Rattle.eval_step.specs.Runs.{Stands}

-- what a table has, and what it has once a name has that value
abbrev pub pairs_in : Table → State → List (List ℕ × Value)
pairs_in Globals x = x.globals
pairs_in Dynamics x = x.dynamics

abbrev pub with_pair : Table → List ℕ → Value → State → State
with_pair Globals name v x = record x { globals = (name, v) ∷ x.globals }
with_pair Dynamics name v x = record x { dynamics = (name, v) ∷ x.dynamics }

-- a variable's value, and a variable that is set
abbrev pub named_step : Table → Setting → List ℕ → Situation → Transition
named_step table s name at frames z =
    some_or (under_text name (pairs_in table z.state)) (signal_unbound s name at.level at.around) (λ v rest y. ended (gives v y) rest) frames z

abbrev pub set_named_step : Table → Setting → List ℕ → Value → Situation → Transition
set_named_step table s name v at frames z =
    some_or (under_text name (pairs_in table z.state)) (signal_unbound s name at.level at.around)
    (λ old rest y. ended (gives v (on_state (with_pair table name v) y)) rest) frames z

-- the place of the value with which a variable is defined
abbrev pub def_named : Table → ℕ → Wait
def_named Globals n = def_global_value n
def_named Dynamics n = def_dynamic_value n

-- beside the machine a name has that value from now on
abbrev pub with_named : Table → ℕ → Word → List (List ℕ) → Beside → Beside
with_named Globals n w names b = record b { globals = (text names n, value_of_word names w) ∷ b.globals }
with_named Dynamics n w names b = record b { dynamics = (text names n, value_of_word names w) ∷ b.dynamics }

pub record IsPut (table : Table) (n : ℕ) (w : Word) (old new : Evaluator) : Type 0 where
  pub same : new ≡ record old { globals = new.globals; dynamics = new.dynamics }
  pub stands : (names : List (List ℕ)) (written unread : List ℕ) (b : Beside) → Stands names old written unread b
      → Stands names new written unread (with_named table n w names b)
