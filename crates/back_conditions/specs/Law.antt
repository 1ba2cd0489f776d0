-- The laws of the routines of signals.
use Rattle.std.specs.Prelude.{◌≡◌, ℕ, ◌+◌, ◌≤◌, List, []}
use Rattle.back_relation.specs.RoutineClaims.{RaiseDoes, SignalDoes, PendingDoes, FailingDoes, FailingWithDoes, DomainDoes, LeaveDoes, ThrowDoes, ContinueDoes}
use Rattle.lang_meaning.specs.State.{DynamicContext}
use Rattle.flat_language.specs.FlatState.{FlatState}
use Rattle.mid_code.specs.State.{MidState}
use Rattle.back_relation.specs.Setting.{Setting}
use Rattle.back_relation.specs.Placed.{IsPlaced}
use Rattle.back_relation.specs.Worlds.{World, Standing}
use Rattle.back_conditions.specs.Within.{RaiseWithin, RaisesWithin, FailingWithin, FailingWithWithin, DomainWithin, PendingWithin, SignalWithin, raise_credit, making_spare, unhandled_spare, unhandled_words}

-- a condition for which there is no handler ends the program, at the site
abbrev pub LawOfUnhandled : Type 0
LawOfUnhandled =
    (setting : Setting) (k turns : ℕ) (rs valid : List Standing) (w : World) (around : DynamicContext) (z : FlatState) (y : MidState) → IsPlaced setting
    → around.handlers ≡ [] → RaiseWithin setting k turns rs valid w around z y unhandled_words unhandled_spare raise_credit

-- a condition of a class without slots, one of a class with one slot, and a domain error, with so many turns left over
pub record NewConditions (setting : Setting) (k turns spare : ℕ) (rs valid : List Standing) (w : World) (around : DynamicContext) (z : FlatState) (y : MidState) : Type 0 where
  pub class_alone : FailingWithin setting k turns rs valid w around z y spare
  pub with_word : FailingWithWithin setting k turns rs valid w around z y spare
  pub domain : DomainWithin setting k turns rs valid w around z y spare

-- wherever they are, with that around, with all turns that a level has
abbrev pub ConditionsDo : Setting → (k spare : ℕ) → DynamicContext → Type 0
ConditionsDo setting k spare around =
    (turns : ℕ) (rs valid : List Standing) (w : World) (z : FlatState) (y : MidState) → turns ≤ setting.turns_each → NewConditions setting k turns spare rs valid w around z y

-- New conditions, where it is known what a signal does that is paid no more than 1,000: the units of their words pay for it.
abbrev pub LawOfNewConditions : Type 0
LawOfNewConditions =
    (setting : Setting) (k credit turns spare : ℕ) (rs valid : List Standing) (w : World) (around : DynamicContext) (z : FlatState) (y : MidState) → IsPlaced setting → credit ≤ 1000
    → spare ≤ making_spare → RaisesWithin setting k turns around 0 credit → NewConditions setting k turns spare rs valid w around z y

-- the condition that a primitive made costs 106 more than its signal, and a turn
abbrev pub LawOfPending : Type 0
LawOfPending =
    (setting : Setting) (k spare credit turns : ℕ) (rs valid : List Standing) (w : World) (around : DynamicContext) (z : FlatState) (y : MidState) → IsPlaced setting → spare ≤ 55
    → RaisesWithin setting k turns around (spare + 1) credit → PendingWithin setting k turns rs valid w around z y spare (credit + 106)

-- a value is signalled if it is a condition; else it is a domain error: it costs 208 more than its signal, and a turn
abbrev pub LawOfSignals : Type 0
LawOfSignals =
    (setting : Setting) (k credit turns : ℕ) (rs valid : List Standing) (w : World) (around : DynamicContext) (z : FlatState) (y : MidState) → IsPlaced setting → 100 ≤ credit → credit ≤ 1000
    → RaisesWithin setting k turns around 1 credit → SignalWithin setting k turns rs valid w around z y (credit + 208)

-- **what goes wrong**: the routines do what is claimed of them
pub record Errors (setting : Setting) (k turns : ℕ) (rs valid : List Standing) (w : World) (around : DynamicContext) (z : FlatState) (y : MidState) : Type 0 where
  pub raise : RaiseDoes setting k turns rs valid w around z y
  pub signal : SignalDoes setting k turns rs valid w around z y
  pub pending : PendingDoes setting k turns rs valid w around z y
  pub failing : FailingDoes setting k turns rs valid w around z y
  pub failing_with : FailingWithDoes setting k turns rs valid w around z y
  pub domain : DomainDoes setting k turns rs valid w around z y
  pub leave : LeaveDoes setting k turns rs valid w around z y
  pub throw : ThrowDoes setting k turns rs valid w around z y
  pub continue : ContinueDoes setting k turns rs valid w around z y

-- where it is known what a signal does, which leaves a turn to the routine that calls it
abbrev pub LawOfErrors : Type 0
LawOfErrors =
    (setting : Setting) (k turns : ℕ) (rs valid : List Standing) (w : World) (around : DynamicContext) (z : FlatState) (y : MidState) → IsPlaced setting
    → RaisesWithin setting k turns around 1 raise_credit → Errors setting k turns rs valid w around z y

-- so it is where there is no handler
abbrev pub LawOfUnhandledErrors : Type 0
LawOfUnhandledErrors =
    (setting : Setting) (k turns : ℕ) (rs valid : List Standing) (w : World) (around : DynamicContext) (z : FlatState) (y : MidState) → IsPlaced setting
    → around.handlers ≡ [] → Errors setting k turns rs valid w around z y
