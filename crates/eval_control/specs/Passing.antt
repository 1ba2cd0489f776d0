-- Frames that wait for a value, and pass other outcomes on.
use Rattle.std.specs.Prelude.{ℕ, Bool, true, false, Option, Some, None}
use Rattle.eval_state.specs.declared.frame.Outcome.{Outcome}
use Rattle.eval_state.specs.declared.frame.Outcome.TheVariants as outcome
use Rattle.eval_state.specs.declared.frame.ContinuationFrame.{ContinuationFrame}
use Rattle.eval_state.specs.declared.frame.ContinuationFrame.TheVariants as frame

-- whether an outcome is a value, which they do not pass on
abbrev pub IsValue : Outcome → Bool
IsValue (outcome.Value w) = true
IsValue o = false

-- the operands of a frame that waits for a value; other frames take any outcome
abbrev pub waiting_operands : ContinuationFrame → Option ℕ
waiting_operands (frame.Binding bs at body s) = Some at
waiting_operands (frame.Argument o fs at s) = Some at
waiting_operands (frame.DynamicValue bs at body s) = Some at
waiting_operands (frame.Block number exits own) = None
waiting_operands (frame.Catch number tag exits) = None
waiting_operands (frame.Signal number c mark exits) = None
waiting_operands (frame.Tagbody number segments outside) = None
waiting_operands (frame.Cleans cleanup s) = None
waiting_operands (frame.RestoresStack n) = None
waiting_operands (frame.RestoresSlots saved) = None
waiting_operands (frame.DropsSlots n) = None
waiting_operands (frame.Handles w next) = None
waiting_operands (frame.Binds bs first next) = None
waiting_operands w = Some 0

-- whether what a frame does with a value wants an application, or what stands beside the machine
abbrev pub WantsMore : ContinuationFrame → Bool
WantsMore (frame.SetGlobal n s) = true
WantsMore (frame.DefGlobal n) = true
WantsMore (frame.Argument o fs at s) = true
WantsMore (frame.AppliedList f s) = true
WantsMore (frame.SetDynamic n s) = true
WantsMore (frame.DefDynamic n) = true
WantsMore (frame.HandlerValue body s) = true
WantsMore (frame.SignalMark c s) = true
WantsMore (frame.Methods ms at arguments level around) = true
WantsMore (frame.BeforeMethods rest arguments level around) = true
WantsMore (frame.PrimaryMethod rest arguments level around) = true
WantsMore w = false
