-- What is shown of the forms of dynamic variables, whose parts do what they mean.
use Rattle.std.specs.Prelude.{⊤, ℕ, List}
use Rattle.lang_meaning.specs.State.{DynamicContext}
use Rattle.flat_language.specs.FlatForm.{FlatForm, dynamic_let, dynamic, with_handler, throw, signal_form, continue_form, FlatDynamics, no_dynamic, dynamic_and}
use Rattle.flat_language.specs.FlatState.{FlatState}
use Rattle.mid_code.specs.State.{MidState}
use Rattle.back_relation.specs.Setting.{Setting}
use Rattle.back_relation.specs.Placed.{IsPlaced}
use Rattle.back_relation.specs.Forms.{DoesForm, context_at, code_at}
use Rattle.back_relation.specs.RoutineClaims.{FailingWithDoes, DomainDoes, ThrowDoes, SignalDoes, ContinueDoes}
use Rattle.back_relation.specs.Worlds.{World, Standing}

-- a form does what it means, wherever it stands
abbrev pub Does : Setting → (k turns : ℕ) → FlatForm → Type 0
Does setting k turns f = DoesForm setting turns (context_at setting k) (code_at setting k turns) f

-- so do the values of dynamic bindings
abbrev pub DynamicsDo : Setting → (k turns : ℕ) → FlatDynamics → Type 0
DynamicsDo setting k turns no_dynamic = ⊤
DynamicsDo setting k turns (dynamic_and n f ds) = Does setting k turns f × DynamicsDo setting k turns ds

-- dynamic bindings around a form
abbrev pub LawOfDynamicLets : Type 0
LawOfDynamicLets =
    (setting : Setting) (k turns : ℕ) (ds : FlatDynamics) (body : FlatForm) → IsPlaced setting → DynamicsDo setting k turns ds → Does setting k turns body
    → Does setting k turns (dynamic_let ds body)

-- conditions with one slot are signalled as they are claimed to be, wherever code stands
abbrev pub FailingWithClaims : Setting → (k turns : ℕ) → Type 0
FailingWithClaims setting k turns =
    (rs valid : List Standing) (w : World) (around : DynamicContext) (z : FlatState) (y : MidState) → FailingWithDoes setting k turns rs valid w around z y

-- domain errors are signalled as they are claimed to be, wherever code stands
abbrev pub DomainClaims : Setting → (k turns : ℕ) → Type 0
DomainClaims setting k turns =
    (rs valid : List Standing) (w : World) (around : DynamicContext) (z : FlatState) (y : MidState) → DomainDoes setting k turns rs valid w around z y

-- the value of a dynamic variable
abbrev pub LawOfDynamics : Type 0
LawOfDynamics =
    (setting : Setting) (k turns n : ℕ) → IsPlaced setting → FailingWithClaims setting k turns → Does setting k turns (dynamic n)

-- a handler around a form
abbrev pub LawOfHandlers : Type 0
LawOfHandlers =
    (setting : Setting) (k turns : ℕ) (handler body : FlatForm) → IsPlaced setting → DomainClaims setting k turns → Does setting k turns handler
    → Does setting k turns body → Does setting k turns (with_handler handler body)

-- throws, signals, and signals that are continued come to what they are claimed to
abbrev pub ThrowClaims : Setting → (k turns : ℕ) → Type 0
ThrowClaims setting k turns =
    (rs valid : List Standing) (w : World) (around : DynamicContext) (z : FlatState) (y : MidState) → ThrowDoes setting k turns rs valid w around z y

abbrev pub SignalClaims : Setting → (k turns : ℕ) → Type 0
SignalClaims setting k turns =
    (rs valid : List Standing) (w : World) (around : DynamicContext) (z : FlatState) (y : MidState) → SignalDoes setting k turns rs valid w around z y

abbrev pub ContinueClaims : Setting → (k turns : ℕ) → Type 0
ContinueClaims setting k turns =
    (rs valid : List Standing) (w : World) (around : DynamicContext) (z : FlatState) (y : MidState) → ContinueDoes setting k turns rs valid w around z y

-- a throw to a tag
abbrev pub LawOfThrows : Type 0
LawOfThrows =
    (setting : Setting) (k turns : ℕ) (tag f : FlatForm) → ThrowClaims setting k turns → Does setting k turns tag → Does setting k turns f
    → Does setting k turns (throw tag f)

-- a condition is signalled
abbrev pub LawOfSignalForms : Type 0
LawOfSignalForms =
    (setting : Setting) (k turns : ℕ) (condition mark : FlatForm) → SignalClaims setting k turns → Does setting k turns condition → Does setting k turns mark
    → Does setting k turns (signal_form condition mark)

-- a signal is continued
abbrev pub LawOfContinuing : Type 0
LawOfContinuing =
    (setting : Setting) (k turns : ℕ) (condition f : FlatForm) → ContinueClaims setting k turns → Does setting k turns condition → Does setting k turns f
    → Does setting k turns (continue_form condition f)
