-- Which exits transfers leave to: at a site the end of the program alone; else those that something names. And a signal whose
-- mark is nil never has a value, since nothing names its exit.
use Rattle.std.specs.Prelude.{◌≡◌, ◌≤◌, ◌<◌, ⊤, ℕ, zero, suc, Bool, true, false, List, [], ◌∷◌, Some, slice_get}
use Rattle.base.specs.declared.place.Place.{Place}
use Rattle.lang_meaning.specs.Values.{Value, nil, is_true}
use Rattle.lang_meaning.specs.State.{DynamicContext, Exit, ExitKind, block_exit, tagbody_exit, catch_exit, signal_exit, end_exit, Landing, at_site, Outcome, value, exit, Limit}
use Rattle.flat_language.specs.declared.program.FlatProgram.{FlatProgram}
use Rattle.flat_language.specs.FlatState.{Captured, FlatEnvironment, FlatState, FlatEvaluated, FlatAct, under, exit_in}
use Rattle.flat_language.specs.FlatSignals.{FlatContext, FlatTask, nothing, form, turn, methods, FlatEvaluation, apply_value, signal_under, signal}
use Rattle.flat_language.specs.FlatMeaning.{none_below, context_of, flat_meaning_at}

-- the meaning one level below a level, and what a meaning at that level depends on
abbrev pub level_below : List (List ℕ) → FlatProgram → Limit → ℕ → FlatTask → FlatEvaluation
level_below names program limit zero = none_below
level_below names program limit (suc k) = flat_meaning_at names program limit k

abbrev pub at_level : List (List ℕ) → FlatProgram → Limit → ℕ → FlatContext
at_level names program limit k = context_of names program limit (level_below names program limit k)

-- what the application of a value comes to at a level, and what a signal does
abbrev pub applied : List (List ℕ) → FlatProgram → Limit → ℕ → Value → List Value → FlatAct
applied names program limit k f vs = apply_value (at_level names program limit k) (signal (at_level names program limit k)) f vs

abbrev pub signalled : List (List ℕ) → FlatProgram → Limit → ℕ → ℕ → List Value → FlatAct
signalled names program limit k class slots = signal (at_level names program limit k) class slots

-- ---- what names exits: captured parts, the environment, and the task of a tagbody

abbrev pub CaptureOnly : (ℕ → Type 0) → List Captured → Type 0
CaptureOnly P cs = (n e : ℕ) → exit_in (slice_get cs n) ≡ Some e → P e

abbrev pub FunctionsCaptureOnly : (ℕ → Type 0) → FlatState → Type 0
FunctionsCaptureOnly P z = (i : ℕ) (cs : List Captured) → under i z.captured ≡ Some cs → CaptureOnly P cs

pub record NamesOnly (P : ℕ → Type 0) (env : FlatEnvironment) : Type 0 where
  pub own : (n e : ℕ) → slice_get env.exits n ≡ Some e → P e
  pub captured : CaptureOnly P env.captured

abbrev pub TurnsOnly : (ℕ → Type 0) → FlatTask → Type 0
TurnsOnly P nothing = ⊤
TurnsOnly P (form f) = ⊤
TurnsOnly P (turn e rest all) = P e
TurnsOnly P (methods c vs) = ⊤

-- whether a transfer is made to exits of a kind by what they are for, without a name: to those of catches by their tag, and to
-- those of signals that may be continued by their condition
abbrev pub is_sought : ExitKind → Bool
is_sought (catch_exit tag) = true
is_sought (signal_exit c mark) = is_true mark
is_sought block_exit = false
is_sought tagbody_exit = false
is_sought end_exit = false

-- ---- sites

abbrev pub EndsAtSites : Outcome → Type 0
EndsAtSites o = (e : ℕ) (v : Value) (place : Place) → o ≡ exit e v (at_site place) → e ≡ 0

-- **a transfer at a site goes to the end of the program**: that of a task, of an application and of a signal
abbrev pub LawOfSites : Type 0
LawOfSites =
    (names : List (List ℕ)) (program : FlatProgram) (limit : Limit) (k : ℕ) (around : DynamicContext) (z : FlatState)
    → ((task : FlatTask) (env : FlatEnvironment) → EndsAtSites (flat_meaning_at names program limit k task env around z).outcome)
    × ((f : Value) (vs : List Value) → EndsAtSites (applied names program limit k f vs around z).outcome)
    × ((class : ℕ) (slots : List Value) → EndsAtSites (signalled names program limit k class slots around z).outcome)

-- ---- exits without a name

-- another exit than n
abbrev pub IsOther : ℕ → ℕ → Type 0
IsOther n e = e ≡ n → ⊥

-- exit n is made, and no function captured it
pub record IsUnnamed (n : ℕ) (z : FlatState) : Type 0 where
  pub made : n < z.state.exits
  pub captured : FunctionsCaptureOnly (IsOther n) z

abbrev pub NotSought : ℕ → List Exit → Type 0
NotSought n [] = ⊤
NotSought n (x ∷ xs) = (x.number ≡ n → is_sought x.kind ≡ false) × NotSought n xs

abbrev pub NeverLeft : ℕ → Outcome → Type 0
NeverLeft n o = (v : Value) (landing : Landing) → o ≡ exit n v landing → ⊥

abbrev pub StaysUnnamed : ℕ → FlatEvaluated → Type 0
StaysUnnamed n r = NeverLeft n r.outcome × IsUnnamed n r.state

-- **an exit that nothing names is never left to**, but for exit 0, to which conditions go that are not handled; and nothing
-- names it afterwards
abbrev pub LawOfUnnamedExits : Type 0
LawOfUnnamedExits =
    (names : List (List ℕ)) (program : FlatProgram) (limit : Limit) (k n : ℕ) (around : DynamicContext) (z : FlatState)
    → 1 ≤ n → NotSought n around.exits → IsUnnamed n z
    → ((task : FlatTask) (env : FlatEnvironment) → TurnsOnly (IsOther n) task → NamesOnly (IsOther n) env
    → StaysUnnamed n (flat_meaning_at names program limit k task env around z))
    × ((f : Value) (vs : List Value) → StaysUnnamed n (applied names program limit k f vs around z))
    × ((class : ℕ) (slots : List Value) → StaysUnnamed n (signalled names program limit k class slots around z))

-- ---- exits that were made

-- an exit that was made
abbrev pub IsMade : FlatState → ℕ → Type 0
IsMade z e = e < z.state.exits

abbrev pub CapturedAreMade : FlatState → Type 0
CapturedAreMade z = FunctionsCaptureOnly (IsMade z) z

-- **functions capture exits that were made**
abbrev pub LawOfMadeExits : Type 0
LawOfMadeExits =
    (names : List (List ℕ)) (program : FlatProgram) (limit : Limit) (k : ℕ) (around : DynamicContext) (z : FlatState) → CapturedAreMade z
    → ((task : FlatTask) (env : FlatEnvironment) → TurnsOnly (IsMade z) task → NamesOnly (IsMade z) env
    → CapturedAreMade (flat_meaning_at names program limit k task env around z).state)
    × ((f : Value) (vs : List Value) → CapturedAreMade (applied names program limit k f vs around z).state)
    × ((class : ℕ) (slots : List Value) → CapturedAreMade (signalled names program limit k class slots around z).state)

-- ---- signals without a mark

-- all exits of a list were made
abbrev pub AreMade : FlatState → List Exit → Type 0
AreMade z [] = ⊤
AreMade z (x ∷ xs) = IsMade z x.number × AreMade z xs

-- exit 0 is made, and so are all exits that functions captured and those around
pub record AllMade (around : DynamicContext) (z : FlatState) : Type 0 where
  pub some : 1 ≤ z.state.exits
  pub captured : CapturedAreMade z
  pub valid : AreMade z around.exits

abbrev pub NoValue : Outcome → Type 0
NoValue o = (v : Value) → o ≡ value v → ⊥

-- **a signal whose mark is nil never has a value**: a transfer to its own exit would give it one; but that exit is new, and it
-- is not continued
abbrev pub LawOfFinalSignals : Type 0
LawOfFinalSignals =
    (names : List (List ℕ)) (program : FlatProgram) (limit : Limit) (k : ℕ) (around : DynamicContext) (z : FlatState) → AllMade around z
    → ((handlers : List Value) (c : Value) → NoValue (signal_under (at_level names program limit k) handlers c nil around z).outcome)
    × ((class : ℕ) (slots : List Value) → NoValue (signalled names program limit k class slots around z).outcome)

-- nor has one in the state that an application leaves
abbrev pub LawOfSignalsBehind : Type 0
LawOfSignalsBehind =
    (names : List (List ℕ)) (program : FlatProgram) (limit : Limit) (k : ℕ) (around : DynamicContext) (z : FlatState) → AllMade around z
    → (f : Value) (vs : List Value) (class : ℕ) (slots : List Value)
    → NoValue (signalled names program limit k class slots around (applied names program limit k f vs around z).state).outcome
