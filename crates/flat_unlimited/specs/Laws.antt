-- Without a limit of words, nothing ends for want of them.
use Rattle.std.specs.Prelude.{◌≡◌, ℕ, List}
use Rattle.lang_meaning.specs.State.{DynamicContext, Outcome, value, exit, full, more, unlimited}
use Rattle.lang_meaning.specs.Meaning.{ended_full}
use Rattle.flat_language.specs.declared.program.FlatProgram.{FlatProgram}
use Rattle.flat_language.specs.FlatState.{FlatEnvironment, FlatState}
use Rattle.flat_language.specs.FlatSignals.{FlatTask}
use Rattle.flat_language.specs.FlatMeaning.{flat_meaning_at, flat_meaning}

-- an outcome that is not for want of words
abbrev pub HadRoom : Outcome → Type 0
HadRoom (value v) = Unit {0}
HadRoom (exit e v landing) = Unit {0}
HadRoom (full asked left) = ⊥
HadRoom more = Unit {0}

abbrev pub LawOfUnlimitedForms : Type 0
LawOfUnlimitedForms =
    (names : List (List ℕ)) (program : FlatProgram) (k : ℕ) (task : FlatTask) (env : FlatEnvironment) (around : DynamicContext) (z : FlatState)
    → HadRoom (flat_meaning_at names program unlimited k task env around z).outcome

abbrev pub LawOfUnlimitedRuns : Type 0
LawOfUnlimitedRuns =
    (names : List (List ℕ)) (program : FlatProgram) (input : List ℕ) (k asked left_then : ℕ)
    → (flat_meaning names program input k unlimited).end ≡ ended_full asked left_then → ⊥
