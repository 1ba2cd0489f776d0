-- The machine of the code in a configuration, as the machine of the definitions; and what an operation makes of it.
use Rattle.std.specs.Prelude.{◌≡◌, ℕ, Bool, true, false, List, [], reverse}
use Rattle.lang_meaning.specs.State.{DynamicContext}
use Rattle.lang_meaning.specs.Values.{Value}
use Rattle.flat_language.specs.FlatForm.{while_form}
use Rattle.flat_language.specs.FlatNodes.{tables}
use Rattle.eval_store.specs.Spelling.{IsSpelling}
use Rattle.eval_store.specs.InitialHeap.{IsInitialHeap}
use Rattle.eval_primitives.specs.Computed.{IsFitted}
use Rattle.flat_language.specs.FlatState.{FlatState, charged}
use Rattle.eval_machine.specs.Configuration.{Setting, Configuration, Control, configuration, evaluate, signals, come_to}
use Rattle.eval_machine.specs.Configuration as machine
use Rattle.eval_store.specs.Words.{value_of_word, values_of}
use Rattle.eval_store.specs.View.{Beside, seen, limit_of}
use Rattle.eval_state.specs.declared.situation.DynamicLinks.{DynamicLinks}
use Rattle.eval_state.specs.declared.situation.Situation.{Situation}
use Rattle.eval_state.specs.declared.frame.ContinuationFrame.{ContinuationFrame}
use Rattle.eval_state.specs.declared.frame.ContinuationFrame.TheVariants as frame
use Rattle.eval_state.specs.declared.given.Given.{Given}
use Rattle.lang_dispatch.specs.OfClasses.{with_classes}
use Rattle.lang_dispatch.specs.Tables.{AreTablesOf}
use Rattle.eval_state.specs.Sizes.{AreSizes}
use Rattle.eval_state.specs.declared.machine.Control.{Control as Doing}
use Rattle.eval_state.specs.declared.machine.Control.TheVariants as doing
use Rattle.eval_state.specs.declared.machine.Machine.{Machine}
use Rattle.eval_state.specs.Frames.{outcome_of, last_of, others_of, frame_slots, situation_in, around_in, frame_in, frames_in}

abbrev pub setting_of : List (List ℕ) → Given → Setting
setting_of names g = record { names = names; program = g.program.now; limit = limit_of g.limit }

-- what is known of what a run is given
pub record IsGiven (names : List (List ℕ)) (g : Given) : Type 0 where
  pub spelling : IsSpelling names g.spellings
  pub layout : IsInitialHeap names (tables g.program.now) g.layout.now
  pub fitted : IsFitted names (tables g.program.now) g.primitives.now
  pub sizes : AreSizes g.program.now g.sizes.now
  pub dispatch : AreTablesOf (with_classes g.program.now.classes) g.program.now.generics g.tables.now

-- a situation, and a dynamic context, at the frames of a machine
abbrev pub at : List (List ℕ) → Machine → Situation → machine.Situation
at names m s = situation_in names m.current (reverse m.frames.items) s

abbrev pub dynamic_context : List (List ℕ) → Machine → DynamicLinks → DynamicContext
dynamic_context names m a = around_in names (reverse m.frames.items) a

-- the values of the last operands, so many as that, and the frames without these operands
abbrev pub top : List (List ℕ) → Machine → ℕ → List Value
top names m n = values_of names (last_of n m.operands.items)

abbrev pub frames : List (List ℕ) → Machine → ℕ → List machine.ContinuationFrame
frames names m n = frames_in names m.current (others_of n m.operands.items) m.slots.items (reverse m.frames.items)

abbrev pub state : List (List ℕ) → Machine → Beside → FlatState
state names m b = seen names m.store (record b { frame = frame_slots names m.current m.slots.items })

abbrev pub control_of : List (List ℕ) → Machine → Doing → Control
control_of names m (doing.Evaluate f s) = evaluate f.now (at names m s)
control_of names m (doing.Again test body s) = evaluate (while_form test.now body.now) (at names m s)
control_of names m (doing.Signals c mark level around) = signals (value_of_word names c) (value_of_word names mark) level (dynamic_context names m around)
control_of names m (doing.ComeTo o) = come_to (outcome_of names o)

abbrev pub configuration_of : List (List ℕ) → Machine → Beside → Configuration
configuration_of names m b = configuration (control_of names m m.control) (frames names m 0) (state names m b)

-- the machine has come to a configuration, whatever stands beside it
pub record StepsTo (old new : Machine) (f : List (List ℕ) → Setting → Beside → Configuration) : Type 0 where
  pub given : new.given ≡ old.given
  pub comes : (names : List (List ℕ)) (b : Beside) → IsGiven names old.given → configuration_of names new b ≡ f names (setting_of names old.given) b

-- it has gone on as `next` says of the frames below so many operands of the old one, and of its state
abbrev pub ContinuesAs : (old new : Machine) → ℕ → (List (List ℕ) → Setting → List machine.ContinuationFrame → FlatState → Configuration) → Type 0
ContinuesAs old new operands next = StepsTo old new (λ names s b. next names s (frames names old operands) (state names old b))

-- units were counted
pub record IsCharged (old new : Machine) (units : ℕ) : Type 0 where
  pub same : new ≡ record old { store = new.store }
  pub state_is : (names : List (List ℕ)) (b : Beside) → state names new b ≡ charged units (state names old b)

-- a frame that makes nothing to which others link, has no operands and begins no activation
abbrev pub OnlyWaits : ContinuationFrame → Bool
OnlyWaits (frame.Binding bs n body s) = false
OnlyWaits (frame.Argument o fs n s) = false
OnlyWaits (frame.DynamicValue bs n body s) = false
OnlyWaits (frame.MainForms level all n) = false
OnlyWaits (frame.Block number exits own) = false
OnlyWaits (frame.Catch number tag exits) = false
OnlyWaits (frame.Signal number c mark exits) = false
OnlyWaits (frame.Tagbody number segments outside) = false
OnlyWaits (frame.RestoresSlots saved) = false
OnlyWaits (frame.Handles w next) = false
OnlyWaits (frame.Binds bs first next) = false
OnlyWaits w = true

-- a plain frame above those of a machine
abbrev pub waiting_frame_of : List (List ℕ) → Machine → ContinuationFrame → machine.ContinuationFrame
waiting_frame_of names m w = frame_in names m.current (reverse m.frames.items) [] [] w
