-- Looking for an exit among those that are valid.
use Rattle.std.specs.Prelude.{◌≡◌, ℕ, ◌==◌, Bool, List, Option, Some, None, reverse}
use Rattle.lang_meaning.specs.Values.{Value}
use Rattle.lang_meaning.specs.State.{Exit, Landing, DynamicContext, block_exit, tagbody_exit, catch_exit, signal_exit, end_exit}
use Rattle.lang_meaning.specs.State as state
use Rattle.lang_meaning.specs.Lookup.{passed}
use Rattle.lang_meaning.specs.Signals.{is_catch, is_signal}
use Rattle.flat_language.specs.FlatState.{charged, leaves}
use Rattle.eval_machine.specs.Configuration.{Setting, Transition, ended, first_that}
use Rattle.eval_machine.specs.Applications.{to_exit}
use Rattle.eval_store.specs.View.{Beside}
use Rattle.eval_store.specs.Words.{value_of_word}
use Rattle.eval_state.specs.declared.frame.ContinuationFrame.{ContinuationFrame}
use Rattle.eval_state.specs.Chains.{chained}
use Rattle.eval_state.specs.declared.machine.Machine.{Machine}
use Rattle.eval_state.specs.Frames.{exit_link}
use Rattle.eval_state.specs.View.{state, IsGiven}
use Rattle.eval_control.specs.declared.exits.Sought.{Sought}
use Rattle.eval_control.specs.declared.exits.Sought.TheVariants.{Number, CatchOf, SignalOf}
use Rattle.eval_control.specs.declared.exits.Kinds.{Kinds}
use Rattle.eval_control.specs.declared.exits.Kinds.TheVariants as kind
use Rattle.eval_control.specs.declared.exits.Exit.{Exit as Here}
use Rattle.eval_control.specs.declared.exits.FoundExit.{FoundExit}

abbrev pub kind_of : List (List ℕ) → Kinds → state.ExitKind
kind_of names kind.Block = block_exit
kind_of names kind.Tagbody = tagbody_exit
kind_of names (kind.Catch tag) = catch_exit (value_of_word names tag)
kind_of names (kind.Signal c mark) = signal_exit (value_of_word names c) (value_of_word names mark)
kind_of names kind.End = end_exit

abbrev pub exit_of : List (List ℕ) → Here → Exit
exit_of names e = record { number = e.number; kind = kind_of names e.kind }

-- whether an exit is the one that is looked for
abbrev pub meets : List (List ℕ) → Sought → Exit → Bool
meets names (Number e) x = x.number == e
meets names (CatchOf tag) x = is_catch (value_of_word names tag) x.kind
meets names (SignalOf c) x = is_signal (value_of_word names c) x.kind

-- the first one that is looked for, from the innermost on
abbrev pub IsFirstExit : List (List ℕ) → Sought → List Exit → Option Here → Type 0
IsFirstExit names sought xs None = first_that (meets names sought) xs ≡ None
IsFirstExit names sought xs (Some e) = first_that (meets names sought) xs ≡ Some (exit_of names e)

-- what was found from a link on, and how many were passed
pub record IsLookedFor (names : List (List ℕ)) (sought : Sought) (ws : List ContinuationFrame) (link : ℕ) (looked : FoundExit) : Type 0 where
  pub found : IsFirstExit names sought (chained (exit_link names) ws link) looked.found
  pub passed_so_many : looked.passed ≡ passed (meets names sought) (chained (exit_link names) ws link)

-- a transfer to the first exit of which that is true; where there is none, a control error
abbrev pub leaving : Setting → (Exit → Bool) → Value → Landing → (level : ℕ) → DynamicContext → Transition
leaving s p v landing level around = to_exit s p (λ x rest y. ended (leaves x.number v landing y) rest) level around

-- an exit was looked for, and those that were passed were counted
pub record IsFound (old new : Machine) (sought : Sought) (link : ℕ) (found : Option Here) : Type 0 where
  pub same : new ≡ record old { store = new.store }
  pub first : (names : List (List ℕ)) → IsGiven names old.given → IsFirstExit names sought (chained (exit_link names) (reverse old.frames.items) link) found
  pub counted : (names : List (List ℕ)) (b : Beside) → IsGiven names old.given
      → state names new b ≡ charged (passed (meets names sought) (chained (exit_link names) (reverse old.frames.items) link)) (state names old b)
