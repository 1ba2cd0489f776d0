-- The laws of signals, put together.
use Rattle.std.proofs.Common.{ℕ, arith}
use Rattle.lang_meaning.specs.State.{DynamicContext}
use Rattle.back_relation.specs.Setting.{Setting}
use Rattle.back_exits.specs.Within.{FailsWithin}
use Rattle.back_exits.proofs.Within.{call_less, begins_less}
use Rattle.back_exits.proofs.LeavingRoutine.{leave_does}
use Rattle.back_exits.proofs.Tagged.{throw_does, continue_does}
use Rattle.back_conditions.specs.Within.{RaisesWithin, raise_credit, unhandled_words}
use Rattle.back_conditions.proofs.Unhandled.{unhandled_law}
use Rattle.back_conditions.specs.Law.{LawOfNewConditions, LawOfPending, LawOfSignals, LawOfErrors, LawOfUnhandledErrors}
use Rattle.back_conditions.proofs.Failing.{failing_does, failing_with_does, domain_does}
use Rattle.back_conditions.proofs.Pending.{pending_does}
use Rattle.back_conditions.proofs.Signalling.{signal_does}

pub conditions_law : LawOfNewConditions
conditions_law setting k credit turns spare rs valid w around z y placed low few raises = record {
  class_alone = λ class is site begins.
      call_less setting (omega arith) (omega (arith, few)) (failing_does setting placed k credit low turns rs valid w around raises z y class is site begins);
  with_word = λ class v word of_value is site begins.
      call_less setting (omega arith) (omega (arith, few)) (failing_with_does setting placed k credit low turns rs valid w around raises z y class v word of_value is site begins);
  domain = λ v expected word known of_value site begins.
      call_less setting (omega arith) (omega (arith, few)) (domain_does setting placed k credit low turns rs valid w around raises z y v expected word known of_value site begins);
}

pub pending_law : LawOfPending
pending_law setting k spare credit turns rs valid w around z y placed few raises = pending_does setting placed k spare credit few turns rs valid w around raises z y

pub signals_law : LawOfSignals
signals_law setting k credit turns rs valid w around z y placed some low raises = signal_does setting placed k credit some low around turns raises rs valid w z y

-- fewer turns are left over
fewer_over : (setting : Setting) (k turns credit : ℕ) (around : DynamicContext) → RaisesWithin setting k turns around 1 credit → RaisesWithin setting k turns around 0 credit
fewer_over setting k turns credit around raises t few rs valid w z y c mark c_word mark_word condition of_condition of_mark site begins =
    call_less setting (omega arith) (omega arith) (raises t few rs valid w z y c mark c_word mark_word condition of_condition of_mark site begins)

pub errors_law : LawOfErrors
errors_law setting k turns rs valid w around z y placed raises = record {
  raise = λ c mark c_word mark_word condition of_condition of_mark site begins.
      call_less setting (omega arith) (omega arith) (raises turns (omega arith) rs valid w z y c mark c_word mark_word condition of_condition of_mark site begins);
  signal = λ c mark c_word mark_word of_condition of_mark site begins.
      call_less setting (omega arith) (omega arith)
      (signal_does setting placed k raise_credit (omega arith) (omega arith) around turns raises rs valid w z y c mark c_word mark_word of_condition of_mark site begins);
  pending = λ c condition at site begins.
      call_less setting (omega arith) (omega arith) (pending_does setting placed k 0 raise_credit (omega arith) turns rs valid w around raises z y c condition at site begins);
  failing = fails turns (omega arith) rs valid w z y;
  failing_with = λ class v word is of_value site begins.
      call_less setting (omega arith) (omega arith)
      (failing_with_does setting placed k raise_credit (omega arith) turns rs valid w around signal_here z y class v word of_value is site begins);
  domain = λ v expected word known of_value site begins.
      call_less setting (omega arith) (omega arith)
      (domain_does setting placed k raise_credit (omega arith) turns rs valid w around signal_here z y v expected word known of_value site begins);
  leave = leave_does setting placed k turns rs valid w around fails z y;
  throw = throw_does setting placed k turns rs valid w around fails z y;
  continue = continue_does setting placed k turns rs valid w around fails z y;
}
  where
    signal_here : RaisesWithin setting k turns around 0 raise_credit
    signal_here = fewer_over setting k turns raise_credit around raises

    fails : FailsWithin setting k turns around
    fails t few rs valid w z y class is site begins =
        call_less setting (omega arith) (omega arith)
        (failing_does setting placed k raise_credit (omega arith) t rs valid w around (λ s fewer. signal_here s (omega (arith, few, fewer))) z y class is site begins)

pub unhandled_errors_law : LawOfUnhandledErrors
unhandled_errors_law setting k turns rs valid w around z y placed none =
    errors_law setting k turns rs valid w around z y placed
    (λ t few rs valid w z y c mark c_word mark_word condition of_condition of_mark site begins.
    call_less setting (omega arith) (omega arith)
    (unhandled_law setting k t rs valid w around z y placed none c mark c_word mark_word condition of_condition of_mark site (begins_less setting unhandled_words (omega arith) begins)))
