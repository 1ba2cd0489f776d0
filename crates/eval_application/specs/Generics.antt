-- How a generic function finds its methods.
use Rattle.std.specs.Prelude.{◌≡◌, ℕ, ◌+◌, ◌<◌, ◌≤◌, List, ◌∷◌, Bool, true, false, Option, Some, None, length, map, slice_get}
use Rattle.lang_meaning.specs.declared.program.ProgramRows.{ProgramRows}
use Rattle.lang_meaning.specs.declared.program.GenericRow.{GenericRow}
use Rattle.lang_meaning.specs.Values.{Value}
use Rattle.lang_meaning.specs.Objects.{Chain}
use Rattle.lang_meaning.specs.State.{DynamicContext}
use Rattle.lang_meaning.specs.Classes.{chain, class_of}
use Rattle.flat_language.specs.FlatState.{charged}
use Rattle.eval_machine.specs.Configuration.{Setting, Transition, restores_stack, then_on, descend}
use Rattle.eval_machine.specs.Applications.{requested, run_chain}
use Rattle.lang_dispatch.specs.declared.chain.Chain.{Chain as Kept}
use Rattle.lang_dispatch.specs.Chains.{seen}
use Rattle.eval_store.specs.declared.word.Word.{Word}
use Rattle.eval_store.specs.Words.{values_of}
use Rattle.eval_store.specs.View.{Beside}
use Rattle.eval_state.specs.declared.machine.Machine.{Machine}
use Rattle.eval_state.specs.View.{state}

-- one of these numbers is past a count
pub record HasPast (cs : List ℕ) (count : ℕ) : Type 0 where
  pub place : ℕ
  pub number : ℕ
  pub there : slice_get cs place ≡ Some number
  pub past : count ≤ number

-- whether all of them are below it
abbrev pub AreBelow : List ℕ → ℕ → Bool → Type 0
AreBelow cs count true = (i c : ℕ) → slice_get cs i ≡ Some c → c < count
AreBelow cs count false = HasPast cs count

-- the classes of values
pub record AreClassesOf (m : Machine) (ws : List Word) (cs : List ℕ) : Type 0 where
  pub count : length cs ≡ length ws
  pub seen : (names : List (List ℕ)) (b : Beside) → cs ≡ map (class_of (state names m b).state) (values_of names ws)

-- the chain that was found, or none
abbrev pub IsChainFor : ProgramRows → GenericRow → List ℕ → Option Kept → Type 0
IsChainFor program g cs None = chain program g cs ≡ None
IsChainFor program g cs (Some c) = chain program g cs ≡ Some (seen c)

-- a chain runs one level below, with words of the stack
abbrev pub chain_begins : Setting → Chain → List Value → (level : ℕ) → DynamicContext → Transition
chain_begins s c vs level around =
    descend level (λ k frames z.
    then_on (requested s.limit 0 (16 + length vs) z) frames (λ ignored inner.
    run_chain s c vs k around (restores_stack z.state.stack ∷ frames) (charged (length vs) inner)))
