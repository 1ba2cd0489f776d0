-- Where a transfer to the end of the program comes from: only from a condition that is not handled.
use Rattle.std.specs.Prelude.{◌≡◌, ◌≤◌, ◌<◌, ⊤, ℕ, zero, false, suc, List, [], ◌∷◌, Option, Some, slice_get}
use Rattle.lang_meaning.specs.Values.{Value, object}
use Rattle.lang_meaning.specs.declared.program.ProgramRows.{ProgramRows}
use Rattle.lang_meaning.specs.Classes.{is_below}
use Rattle.lang_meaning.specs.Objects.{instance, serious_condition_class}
use Rattle.lang_meaning.specs.State.{DynamicContext, Exit, end_exit, at_site, Outcome, value, exit, full, more, Limit}
use Rattle.base.specs.declared.place.Place.{Place}
use Rattle.flat_language.specs.declared.program.FlatProgram.{FlatProgram}
use Rattle.flat_language.specs.FlatForm.{FlatForm}
use Rattle.flat_language.specs.FlatNodes.{tables}
use Rattle.flat_language.specs.FlatState.{Captured, FlatEnvironment, FlatState, FlatEvaluated, under, exit_in}
use Rattle.flat_language.specs.FlatSignals.{FlatTask, nothing, form, turn, methods}
use Rattle.flat_language.specs.FlatMeaning.{flat_meaning_at, mean_main}

-- a value is an instance of a class
pub record IsInstance (z : FlatState) (v : Value) : Type 0 where
  pub number : ℕ
  pub is : v ≡ object number
  pub class : ℕ
  pub slots : List (Option Value)
  pub mark : Value
  pub stands : slice_get z.state.store number ≡ Some (instance class slots mark)

-- no value but instances has a class below that of conditions
abbrev pub OnlyInstances : ProgramRows → Type 0
OnlyInstances program = (c : ℕ) → c < serious_condition_class → is_below program c serious_condition_class ≡ false

-- what goes to the end of the program goes there at a site, with an instance
abbrev pub EndsAtSite : Outcome → FlatState → Type 0
EndsAtSite (value v) z = ⊤
EndsAtSite (exit zero v landing) z = (place : Place) × (landing ≡ at_site place) × IsInstance z v
EndsAtSite (exit (suc e) v landing) z = ⊤
EndsAtSite (full asked left_then) z = ⊤
EndsAtSite more z = ⊤

-- no other valid exit has the number of the end
abbrev pub EndAlone : List Exit → Type 0
EndAlone [] = ⊤
EndAlone (x ∷ xs) = (x.number ≡ 0 → x.kind ≡ end_exit) × EndAlone xs

-- none of what was captured is the exit of the end
abbrev pub NoEndCaptured : List Captured → Type 0
NoEndCaptured cs = (n e : ℕ) → exit_in (slice_get cs n) ≡ Some e → 1 ≤ e

-- exit 0 was made already, and no function captured it
pub record Safe (z : FlatState) : Type 0 where
  pub made : 1 ≤ z.state.exits
  pub captured : (i : ℕ) (cs : List Captured) → under i z.captured ≡ Some cs → NoEndCaptured cs

-- nor is it an exit of the activation
pub record SafeEnvironment (env : FlatEnvironment) : Type 0 where
  pub own : (n e : ℕ) → slice_get env.exits n ≡ Some e → 1 ≤ e
  pub captured : NoEndCaptured env.captured

-- nor that of a tagbody whose turn it is
abbrev pub SafeTask : FlatTask → Type 0
SafeTask nothing = ⊤
SafeTask (form f) = ⊤
SafeTask (turn e rest all) = 1 ≤ e
SafeTask (methods c vs) = ⊤

-- what an evaluation comes to
pub record Came (r : FlatEvaluated) : Type 0 where
  pub safe : Safe r.state
  pub ends : EndsAtSite r.outcome r.state

abbrev pub LawOfEnds : Type 0
LawOfEnds =
    (names : List (List ℕ)) (program : FlatProgram) (limit : Limit) (k : ℕ) (task : FlatTask) (env : FlatEnvironment) (around : DynamicContext) (z : FlatState)
    → OnlyInstances (tables program) → SafeTask task → SafeEnvironment env → EndAlone around.exits → Safe z → Came (flat_meaning_at names program limit k task env around z)

-- a main form that ends by a transfer goes to the end so
abbrev pub LawOfMainEnds : Type 0
LawOfMainEnds =
    (names : List (List ℕ)) (program : FlatProgram) (limit : Limit) (k : ℕ) (f : FlatForm) (z : FlatState) → OnlyInstances (tables program) → Safe z
    → Came (mean_main names program limit k f z)
