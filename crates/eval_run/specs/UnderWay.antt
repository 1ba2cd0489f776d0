-- An evaluation that is under way: how far the source was read and the sink written, and in which configuration the evaluator is; and how a run
-- comes to its end. What the program means is not spoken of here.
use Rattle.std.specs.Prelude.{◌≡◌, ◌≤◌, ⊤, ℕ, true, false, List, [], ◌++◌, Option, Some, None, Result, Ok, Err, IfSome}
use Rattle.lang_meaning.specs.Prefixes.{IsPrefix}
use Rattle.base.specs.Given.{WasGiven}
use Rattle.eval_machine.specs.Run.{begins, IsEnd, done}
use Rattle.eval_machine.specs.RunLaws.{printed_at, units_at}
use Rattle.eval_state.specs.View as machine
use Rattle.eval_step.specs.declared.evaluator.Evaluator.{Evaluator}
use Rattle.eval_step.specs.Runs.{IsAtConfiguration}
use Rattle.lang_meaning.specs.declared.evaluation.EvaluationEnd.{EvaluationEnd}
use Rattle.lang_meaning.specs.declared.evaluation.EvaluationEnd.TheVariants as endings
use Rattle.eval_run.specs.declared.answer.Counted.{Counted}
use Rattle.eval_run.specs.declared.stop.Stop.{Stop}
use Rattle.eval_run.specs.declared.stop.Stop.TheVariants as stop
use Rattle.lang_meaning.specs.Evaluation.{Evaluation, end_of, Taken, Begins, WasTaken}
use Rattle.lang_meaning.specs.Evaluates.{most_forms}
use Rattle.lang_told.specs.Ends.{TellsEnd}
use Rattle.eval_run.specs.Moments.{setting_of, configuration_after, forms_after, wants_byte}

-- the evaluator runs that program
pub record RunsFor (e : Evaluation) (v : Evaluator) : Type 0 where
  pub setting : machine.setting_of e.names v.machine.given ≡ setting_of e
  pub given : machine.IsGiven e.names v.machine.given

-- it has come to the configuration after so many steps, in which so many forms began, where these bytes were written
pub record HasCome (e : Evaluation) (t : Taken) (written : List ℕ) (count forms : ℕ) (v : Evaluator) (input : List ℕ) (b : Begins t input) : Type 0 where
  pub is_at : IsAtConfiguration e.names v written b.rest (configuration_after e input count)
  pub begun : forms_after e input count ≡ forms

-- an evaluation on its way: so many forms began, and the evaluator knows whether the end of the source was met
pub record UnderWay (e : Evaluation) (left left' given given' : Option (List ℕ)) (forms : ℕ) (v : Evaluator) : Type 0 where
  pub runs : RunsFor e v
  pub taken : Taken
  pub was_taken : WasTaken left taken left'
  pub all_is : taken.all ≡ v.ended
  pub written : List ℕ
  pub was_given : WasGiven given written given'
  pub count : ℕ
  pub comes : (input : List ℕ) (b : Begins taken input) → HasCome e taken written count forms v input b

-- these bytes were read of what was left; none means that nothing was
abbrev pub IsPutBehind : Option (List ℕ) → List ℕ → Option (List ℕ) → Type 0
IsPutBehind left bytes left' = IfSome left (λ all. (rest : List ℕ) × ((all ≡ bytes ++ rest) × (left' ≡ Some rest) × (bytes ≡ [] → rest ≡ [])))

-- the ends, in a configuration of the machine

pub record StopsAt (e : Evaluation) (input : List ℕ) (given given' : Option (List ℕ)) (end : EvaluationEnd) (units : ℕ) : Type 0 where
  pub count : ℕ
  pub stops : IsEnd (setting_of e) (configuration_after e input count)
  pub ends : end_of (done (configuration_after e input count)) ≡ end
  pub counted : units_at (configuration_after e input count) ≡ units
  pub printed : WasGiven given (printed_at (configuration_after e input count)) given'
  pub few : forms_after e input count ≤ most_forms

pub record SpentAt (e : Evaluation) (input : List ℕ) (given given' : Option (List ℕ)) : Type 0 where
  pub count : ℕ
  pub forms : forms_after e input count ≡ most_forms
  pub goes_on : begins (configuration_after e input count).control ≡ true
  pub printed : WasGiven given (printed_at (configuration_after e input count)) given'

pub record WantsAt (e : Evaluation) (t : Taken) (input : List ℕ) (b : Begins t input) (given given' : Option (List ℕ)) : Type 0 where
  pub not_all : t.all ≡ false
  pub count : ℕ
  pub wants : wants_byte (configuration_after e input count).control ≡ true
  pub left : (configuration_after e input count).state.state.input ≡ b.rest
  pub printed : WasGiven given (printed_at (configuration_after e input count)) given'

pub record CutOffAt (e : Evaluation) (input : List ℕ) (given given' : Option (List ℕ)) : Type 0 where
  pub count : ℕ
  pub front : List ℕ
  pub prefix : IsPrefix front (printed_at (configuration_after e input count))
  pub printed : WasGiven given front given'

-- what stands at each end, with so many units; they are told of an end of its own alone
abbrev pub ComesTo : (end : EvaluationEnd) (units : ℕ) (e : Evaluation) (t : Taken) (input : List ℕ) → Begins t input → (given given' : Option (List ℕ)) → Type 0
ComesTo endings.Value units e t input b given given' = StopsAt e input given given' endings.Value units
ComesTo (endings.Unhandled class site) units e t input b given given' = StopsAt e input given given' (endings.Unhandled class site) units
ComesTo (endings.Full asked left) units e t input b given given' = StopsAt e input given given' (endings.Full asked left) units
ComesTo endings.More units e t input b given given' = StopsAt e input given given' endings.More units
ComesTo endings.Spent units e t input b given given' = (units ≡ 0) × SpentAt e input given given'
ComesTo endings.ReadFault units e t input b given given' = (units ≡ 0) × WantsAt e t input b given given'
ComesTo endings.WriteFault units e t input b given given' = (units ≡ 0) × CutOffAt e input given given'

pub record HasRun (e : Evaluation) (left left' given given' : Option (List ℕ)) (end : EvaluationEnd) : Type 0 where
  pub taken : Taken
  pub was_taken : WasTaken left taken left'
  pub units : ℕ
  pub comes : (input : List ℕ) (b : Begins taken input) → ComesTo end units e taken input b given given'

-- what is told where the machine has ended
pub record TellsAt (e : Evaluation) (input told : List ℕ) : Type 0 where
  pub count : ℕ
  pub stops : IsEnd (setting_of e) (configuration_after e input count)
  pub tells : TellsEnd e.names e.program (done (configuration_after e input count)) told

-- of a condition that no handler took; nothing of any other end
abbrev pub IsToldAt : EvaluationEnd → (e : Evaluation) (input told : List ℕ) → Type 0
IsToldAt (endings.Unhandled class site) e input told = TellsAt e input told
IsToldAt end e input told = told ≡ []

-- such a run with the units that it counted, and with what is told of its end
pub record HasCounted (e : Evaluation) (left left' given given' : Option (List ℕ)) (c : Counted) : Type 0 where
  pub has_run : HasRun e left left' given given' c.end
  pub units : has_run.units ≡ c.units
  pub told : (input : List ℕ) → Begins has_run.taken input → IsToldAt c.end e input c.told

pub record HasBroken (e : Evaluation) (left left' given given' : Option (List ℕ)) : Type 0 where
  pub taken : Taken
  pub was_taken : WasTaken left taken left'
  pub cut_off : (input : List ℕ) → Begins taken input → CutOffAt e input given given'

-- why a run stops on its way, and what stands then
abbrev pub StopsSo : Stop → (e : Evaluation) → (left left' given given' : Option (List ℕ)) → Type 0
StopsSo stop.NoMemory e left left' given given' = HasBroken e left left' given given'
StopsSo stop.ReadFault e left left' given given' = HasRun e left left' given given' endings.ReadFault
StopsSo stop.WriteFault e left left' given given' = HasRun e left left' given given' endings.WriteFault

abbrev pub StopTells : Stop → (SourceRises SinkRises : Type 0) → Type 0
StopTells stop.NoMemory SourceRises SinkRises = ⊤
StopTells stop.ReadFault SourceRises SinkRises = SourceRises
StopTells stop.WriteFault SourceRises SinkRises = SinkRises

-- an end that is no fault
abbrev pub IsOwnEnd : EvaluationEnd → Type 0
IsOwnEnd endings.ReadFault = ⊥
IsOwnEnd endings.WriteFault = ⊥
IsOwnEnd end = ⊤

-- an end of which nothing is told
abbrev pub untold : EvaluationEnd → Counted
untold end = record { end = end; units = 0; told = [] }

-- a stop by a fault is one; want of memory is no end
abbrev pub end_told : Result Counted Stop → Option Counted
end_told (Ok counted) = Some counted
end_told (Err stop.ReadFault) = Some (untold endings.ReadFault)
end_told (Err stop.WriteFault) = Some (untold endings.WriteFault)
end_told (Err stop.NoMemory) = None
