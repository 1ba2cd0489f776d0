-- What holds of all flat programs and of all their runs, as the laws say it.
use Rattle.std.specs.Prelude.{◌≡◌, ◌≤◌, ◌<◌, ℕ, List, Option, length, slice_get}
use Rattle.lang_meaning.specs.declared.primitive.Primitive.{Primitive}
use Rattle.lang_meaning.specs.declared.program.ProgramRows.{ProgramRows}
use Rattle.lang_meaning.specs.Values.{Value}
use Rattle.lang_meaning.specs.Objects.{Object}
use Rattle.lang_meaning.specs.State.{State, DynamicContext, Limit}
use Rattle.lang_meaning.specs.InitialHeap.{objects_at_start}
use Rattle.lang_meaning.specs.Prefixes.{IsLastOf}
use Rattle.lang_meaning.specs.Laws.{LandsIn}
use Rattle.lang_meaning.specs.Primitives.{primitive}
use Rattle.lang_meaning.specs.Meaning.{Meant}
use Rattle.flat_language.specs.declared.program.FlatProgram.{FlatProgram}
use Rattle.flat_language.specs.FlatForm.{FlatForm}
use Rattle.flat_language.specs.FlatNodes.{tables}
use Rattle.flat_language.specs.FlatState.{FlatEnvironment, FlatState, with_stack}
use Rattle.flat_language.specs.FlatSignals.{FlatTask}
use Rattle.flat_language.specs.FlatMeaning.{flat_meaning_at, mean_mains, flat_meaning}
use Rattle.flat_laws.specs.Blanks.{blank, StaysOfKind}
use Rattle.flat_laws.specs.FlatLater.{FlatLater}
use Rattle.flat_laws.specs.PrimitiveKeeps.{set_by, AnswerKeeps}

-- the law of flat growth, of each task with any number of levels
abbrev pub LawOfFlatGrowth : Type 0
LawOfFlatGrowth =
    (names : List (List ℕ)) (program : FlatProgram) (limit : Limit) (k : ℕ) (task : FlatTask) (env : FlatEnvironment)
    (around : DynamicContext) (z : FlatState) → FlatLater z (flat_meaning_at names program limit k task env around z).state

-- what a run leaves of the input, and of the objects that are there from the start
pub record RunKeeps (start : List Object) (bytes : List ℕ) (run : Meant) : Type 0 where
  pub input : IsLastOf run.left bytes
  pub store : length start ≤ length run.store
  pub objects : (i : ℕ) → i < length start → blank (slice_get run.store i) ≡ blank (slice_get start i)

-- main forms in any state, where the words of a main form that did not end with a value are given back; and whole programs
abbrev pub LawOfFlatRuns : Type 0
LawOfFlatRuns =
    ((names : List (List ℕ)) (program : FlatProgram) (limit : Limit) (k : ℕ) (forms : List FlatForm) (last : Value) (z : FlatState)
    → FlatLater z (with_stack z.state.stack (mean_mains names program limit k forms last z)).state)
    × ((names : List (List ℕ)) (program : FlatProgram) (input : List ℕ) (k : ℕ) (limit : Limit)
    → RunKeeps (objects_at_start names (tables program)) input (flat_meaning names program input k limit))

-- the law of transfers of flat programs
abbrev pub LawOfFlatTransfers : Type 0
LawOfFlatTransfers =
    (names : List (List ℕ)) (program : FlatProgram) (limit : Limit) (k : ℕ) (task : FlatTask) (env : FlatEnvironment)
    (around : DynamicContext) (z : FlatState)
    → LandsIn around.exits (flat_meaning_at names program limit k task env around z).outcome

-- the law of blanks: of an object with the same blank as before the kind and the size are the same
abbrev pub LawOfBlanks : Type 0
LawOfBlanks = (before after : Option Object) → blank after ≡ blank before → StaysOfKind before after

-- the law of primitives, at any values and in any state
abbrev pub LawOfPrimitives : Type 0
LawOfPrimitives =
    (names : List (List ℕ)) (program : ProgramRows) (which : Primitive) (vs : List Value) (z : State)
    → AnswerKeeps (set_by which vs) z (primitive names program which vs z)
