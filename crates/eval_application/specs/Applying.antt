-- What is applied, and what code finds of it.
use Rattle.std.specs.Prelude.{ℕ, List, map, Option, Some, None}
use Rattle.lang_meaning.specs.Values.{Value, nil}
use Rattle.lang_meaning.specs.State.{DynamicContext}
use Rattle.flat_language.specs.FlatState.{gives}
use Rattle.flat_language.specs.FlatState as flat
use Rattle.eval_machine.specs.Configuration.{Setting, Transition, ended, some_or, descend}
use Rattle.eval_store.specs.Words.{called_or_none, captured_of}
use Rattle.eval_store.specs.declared.object.Captured.{Captured}
use Rattle.eval_state.specs.declared.situation.Activation.{Activation}
use Rattle.eval_state.specs.declared.lookups.Code.{Code}
use Rattle.eval_application.specs.Entering.{Entered, captured_in, entering}

-- what is entered, if anything is: it needs a level
abbrev pub coded : Setting → Option Entered → List Value → (level : ℕ) → DynamicContext → Transition
coded s o vs level around =
    descend level (λ k. some_or o (λ frames z. ended (gives nil z) frames) (λ e. entering s e vs k around))

abbrev pub entered_option : List (List ℕ) → Option Code → Activation → Option Entered
entered_option names None a = None
entered_option names (Some c) a = Some (record {
  procedure = c.procedure.now;
  words = c.words;
  captured = captured_in names a;
  called = called_or_none names a.method;
})

-- what a function captured
abbrev pub captured_values : List (List ℕ) → List Captured → List flat.Captured
captured_values names cs = map (captured_of names) cs
