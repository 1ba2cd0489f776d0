-- How conditions are signalled.
use Rattle.std.specs.Prelude.{◌≡◌, ℕ, suc, List, [], ◌∷◌, length, Option, Some, None, reverse}
use Rattle.flat_language.specs.FlatState.{FlatState, exit_made}
use Rattle.flat_language.specs.FlatSignals.{marked}
use Rattle.eval_machine.specs.Configuration.{Setting, Configuration, awaits, handler_return}
use Rattle.eval_machine.specs.Applications.{apply_value}
use Rattle.eval_store.specs.declared.word.Word.{Word}
use Rattle.eval_store.specs.Words.{value_of_word}
use Rattle.eval_store.specs.View.{Beside}
use Rattle.eval_state.specs.declared.frame.ContinuationFrame.{ContinuationFrame}
use Rattle.eval_state.specs.declared.situation.DynamicLinks.{DynamicLinks}
use Rattle.eval_state.specs.declared.machine.Machine.{Machine}
use Rattle.eval_state.specs.Chains.{chained}
use Rattle.eval_state.specs.Frames.{around_in, handler_link}
use Rattle.eval_state.specs.Tops.{taken, below}
use Rattle.eval_state.specs.View.{state}
use Rattle.eval_application.specs.declared.signalling.Handler.{Handler}

-- the condition has its mark, and there is a new exit
pub record IsSignalled (old new : Machine) (condition mark : Word) (number : ℕ) : Type 0 where
  pub same : new ≡ record old { store = new.store }
  pub number_is : (names : List (List ℕ)) (b : Beside) → number ≡ (state names old b).state.exits
  pub state_is : (names : List (List ℕ)) (b : Beside) → state names new b ≡ exit_made (marked (value_of_word names condition) (value_of_word names mark) (state names old b))

-- the innermost handler from a link on, with a link to those outside it
pub record IsHandled (m : Machine) (link : ℕ) (h : Handler) : Type 0 where
  pub handlers : (names : List (List ℕ)) → chained (handler_link names) (reverse m.frames.items) link
      ≡ value_of_word names h.word ∷ chained (handler_link names) (reverse m.frames.items) h.outside

pub record IsUnhandled (m : Machine) (link : ℕ) : Type 0 where
  pub handlers : (names : List (List ℕ)) → chained (handler_link names) (reverse m.frames.items) link ≡ []

abbrev pub IsInnermost : Machine → ℕ → Option Handler → Type 0
IsInnermost m link (Some h) = IsHandled m link h
IsInnermost m link None = IsUnhandled m link

-- what surrounds a handler, above the frame of its signal
abbrev pub around_handler : Machine → Handler → DynamicLinks → DynamicLinks
around_handler m h a = record a { exits = suc (length m.frames.items); handlers = h.outside }

-- a handler is applied to a condition, above the frame of its signal
abbrev pub handled_by : List (List ℕ) → Machine → ContinuationFrame → Handler → (condition : Word) → (level : ℕ) → DynamicLinks → Setting → FlatState → Configuration
handled_by names m w h condition level a s z =
    let within = around_in names (w ∷ reverse m.frames.items) (around_handler m h a) in
    apply_value s (value_of_word names h.word) (value_of_word names condition ∷ []) level within
    (awaits (handler_return level within) ∷ taken names m w ∷ below names m w) z
