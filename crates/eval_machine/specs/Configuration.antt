-- The machine that runs flat programs: what it is about to do, what waits for what it comes to, and the state. All of it is plain
-- data: a frame has the forms that are left and the values so far, and says in which situation to go on.
use Rattle.std.specs.Prelude.{ℕ, zero, suc, List, [], ◌∷◌, Bool, Option, Some, None, if◌then◌else◌}
use Rattle.lang_meaning.specs.declared.primitive.Primitive.{Primitive}
use Rattle.lang_meaning.specs.Values.{Value}
use Rattle.lang_meaning.specs.Objects.{Chain}
use Rattle.lang_meaning.specs.State.{DynamicContext, Outcome, value, exit, full, more, Limit}
use Rattle.flat_language.specs.declared.place.VariablePlace.{VariablePlace}
use Rattle.flat_language.specs.declared.place.ExitPlace.{ExitPlace}
use Rattle.flat_language.specs.declared.program.FlatProgram.{FlatProgram}
use Rattle.flat_language.specs.FlatForm.{FlatForm, FlatForms, FlatClauses, FlatBody, FlatBindings, FlatDynamics}
use Rattle.flat_language.specs.FlatState.{FrameSlot, FlatEnvironment, FlatState, FlatEvaluated}

-- what a run keeps: the texts of names, the program, and the words there are
pub record Setting : Type 0 where
  pub names : List (List ℕ)
  pub program : FlatProgram
  pub limit : Limit

-- where a form is evaluated: how many levels there are below it, its environment and its dynamic context
pub record Situation : Type 0 where
  pub level : ℕ
  pub environment : FlatEnvironment
  pub around : DynamicContext

-- what is done with arguments: the function of a name is applied to them, the first to the others, or a primitive computes
pub data Operator : Type 0 where
  call_name : ℕ → Operator
  call_first : Operator
  compute : Primitive → Operator

-- a place where a form waits for the value of a part; any other outcome leaves the form
pub data Wait : Type 0 where
  set_local_value : VariablePlace → Situation → Wait
  set_global_value : ℕ → Situation → Wait
  def_global_value : ℕ → Wait
  sequence_form : (left : FlatForms) → Situation → Wait
  clause_test : FlatBody → (left : FlatClauses) → Situation → Wait
  -- a binding's value: the bindings left, the values so far, all bindings and the body
  binding_value : (left : FlatBindings) → List Value → (all : FlatBindings) → (body : FlatForm) → Situation → Wait
  -- an argument: the arguments left and the values so far
  argument : Operator → (left : FlatForms) → List Value → Situation → Wait
  applied_function : (list : FlatForm) → Situation → Wait
  applied_list : (function : Value) → Situation → Wait
  while_test : (test body : FlatForm) → Situation → Wait
  while_body : (test body : FlatForm) → Situation → Wait
  return_value : ExitPlace → Situation → Wait
  -- the value of a tagbody's last segment, which is nil
  last_segment : Wait
  catch_tag : (body : FlatForm) → Situation → Wait
  throw_tag : FlatForm → Situation → Wait
  throw_value : (tag : Value) → Situation → Wait
  dynamic_value : (left : FlatDynamics) → List Value → (all : FlatDynamics) → (body : FlatForm) → Situation → Wait
  set_dynamic_value : ℕ → Situation → Wait
  def_dynamic_value : ℕ → Wait
  handler_value : (body : FlatForm) → Situation → Wait
  signal_condition : (continuable : FlatForm) → Situation → Wait
  signal_mark : (condition : Value) → Situation → Wait
  continue_condition : FlatForm → Situation → Wait
  continue_value : (condition : Value) → Situation → Wait
  -- a value is passed over, and what was there before it comes again: after a cleanup, and after the after methods
  kept : Outcome → Wait
  -- one of the methods that run one after another: those left, and the arguments
  method_value : (left : List ℕ) → List Value → (level : ℕ) → DynamicContext → Wait
  -- the before methods, and then the primary one with those behind it; the primary one, and then the after methods
  before_methods : Chain → (primary : ℕ) → (behind : List ℕ) → List Value → (level : ℕ) → DynamicContext → Wait
  primary_method : (after : List ℕ) → List Value → (level : ℕ) → DynamicContext → Wait
  -- a handler, which is not to return; the dynamic context is that in which it runs
  handler_return : (level : ℕ) → DynamicContext → Wait
  -- a main form, and the words of the stack before it; and the main forms left
  main_form : (stack : ℕ) → Wait
  main_forms : (level : ℕ) → (left : List FlatForm) → Wait

-- a frame of the machine's stack
pub data ContinuationFrame : Type 0 where
  awaits : Wait → ContinuationFrame
  -- a block, a catch or a signal: a transfer to its exit gives a value
  catches : (exit : ℕ) → ContinuationFrame
  -- a tagbody: a transfer to its exit goes on from a segment
  turns : (exit : ℕ) → (all : FlatForms) → Situation → ContinuationFrame
  -- a form with a cleanup
  cleans : (cleanup : FlatForm) → Situation → ContinuationFrame
  -- an application: the words of the stack that were in use, and the slots of the caller
  restores_stack : ℕ → ContinuationFrame
  restores_slots : List FrameSlot → ContinuationFrame
  -- a body with new slots: how many there were before
  drops_slots : ℕ → ContinuationFrame
  -- a body with a handler or dynamic bindings of its own, which are around nothing when it is left
  unbinds : ContinuationFrame

-- what is done next: a form is evaluated; a condition is signalled with a mark under the handlers around; or an outcome
-- goes into the innermost frame
pub data Control : Type 0 where
  evaluate : FlatForm → Situation → Control
  signals : (condition mark : Value) → (level : ℕ) → DynamicContext → Control
  come_to : Outcome → Control

-- a configuration; the innermost frame comes first
pub record Configuration : Type 0 where
  pub control : Control
  pub frames : List ContinuationFrame
  pub state : FlatState

-- a step's end, given the frames and the state
abbrev pub Transition : Type 0
Transition = List ContinuationFrame → FlatState → Configuration

-- the machine with these frames and this state, about to do that
abbrev pub configuration : Control → Transition
configuration c frames z = record { control = c; frames = frames; state = z }

-- what was evaluated, into the frames
abbrev pub ended : FlatEvaluated → List ContinuationFrame → Configuration
ended r frames = configuration (come_to r.outcome) frames r.state

-- what goes on with the value of what was evaluated right now; any other outcome goes into the frames
abbrev pub then_on_from : Outcome → FlatState → List ContinuationFrame → (Value → FlatState → Configuration) → Configuration
then_on_from (value v) z frames next = next v z
then_on_from (exit e v landing) z frames next = configuration (come_to (exit e v landing)) frames z
then_on_from (full asked left) z frames next = configuration (come_to (full asked left)) frames z
then_on_from more z frames next = configuration (come_to more) frames z

abbrev pub then_on : FlatEvaluated → List ContinuationFrame → (Value → FlatState → Configuration) → Configuration
then_on r frames next = then_on_from r.outcome r.state frames next

-- a step with what stands there, if something does
abbrev pub some_or : {X : Type 0} → Option X → Transition → (X → Transition) → Transition
some_or None otherwise next = otherwise
some_or (Some x) otherwise next = next x

-- what needs a level, with the one below: More where there is none
abbrev pub descend : (level : ℕ) → (ℕ → Transition) → Transition
descend zero next = configuration (come_to more)
descend (suc k) next = next k

-- the first one that is looked for
abbrev pub first_that : {X : Type 0} → (X → Bool) → List X → Option X
first_that p [] = None
first_that p (x ∷ xs) = if p x then Some x else first_that p xs
