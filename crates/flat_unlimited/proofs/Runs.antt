-- Any number of levels, main forms, and whole programs.
use Rattle.std.proofs.Common.{◌≡◌, ℕ, zero, suc, List, [], ◌∷◌, refl}
use Rattle.lang_meaning.specs.Counts.{application_words}
use Rattle.lang_meaning.specs.InitialHeap.{objects_at_start}
use Rattle.lang_meaning.specs.Meaning.{ended_full, end_of}
use Rattle.lang_meaning.specs.State.{State, Outcome, value, exit, full, more, unlimited, main_context, first_state, at_segment, at_site}
use Rattle.lang_meaning.specs.Values.{Value, nil}
use Rattle.flat_language.specs.declared.program.FlatProgram.{FlatProgram}
use Rattle.flat_language.specs.FlatForm.{FlatForm}
use Rattle.flat_language.specs.FlatNodes.{tables, nodes}
use Rattle.flat_language.specs.FlatState.{no_environment, FlatState, on_state}
use Rattle.flat_language.specs.FlatSignals.{form}
use Rattle.flat_language.specs.FlatMeaning.{none_below, context_of, flat_meaning_at, mean_mains, flat_meaning}
use Rattle.flat_unlimited.specs.Laws.{HadRoom, LawOfUnlimitedForms, LawOfUnlimitedRuns}
use Rattle.flat_unlimited.proofs.Combined.{NeverFull, Tasks, given, on, requests, own_slots_left}
use Rattle.flat_unlimited.proofs.Forms.{tasks}

nothing_below : Tasks none_below
nothing_below task env around z = record { by = tt }

levels : (names : List (List ℕ)) (program : FlatProgram) (n : ℕ) → Tasks (flat_meaning_at names program unlimited n)
unfolding flat_meaning_at
levels names program zero = tasks (context_of names program unlimited none_below) refl nothing_below
levels names program (suc n) = tasks (context_of names program unlimited (flat_meaning_at names program unlimited n)) refl (levels names program n)

pub law_of_unlimited_forms : LawOfUnlimitedForms
law_of_unlimited_forms names program k task env around z = (levels names program k task env around z).by

-- main forms in order
mains : (names : List (List ℕ)) (program : FlatProgram) (k : ℕ) (fs : List FlatForm) (last : Value) (z : FlatState)
    → NeverFull (mean_mains names program unlimited k fs last z)
mains names program k [] last z = given last z
mains names program k (f ∷ fs) last z =
    on
    (requests unlimited refl 0 (application_words (nodes f)) z (λ entered.
    on (own_slots_left entered (λ inner. levels names program k (form f) no_environment main_context inner)) (λ v after.
    given v (on_state (λ (y : State). record y { stack = z.state.stack }) after))))
    (λ v after. mains names program k fs v after)

-- an end for want of words is that of such an outcome
not_full : (o : Outcome) (asked left_then : ℕ) → HadRoom o → end_of o ≡ ended_full asked left_then → ⊥
not_full (value v) asked left_then h e = cc e
not_full (exit x v (at_site site)) asked left_then h e = cc e
not_full (exit x v (at_segment segment)) asked left_then h e = cc e
not_full (full a l) asked left_then h e = h
not_full more asked left_then h e = cc e

pub law_of_unlimited_runs : LawOfUnlimitedRuns
unfolding flat_meaning
law_of_unlimited_runs names program input k asked left_then e =
    let z : FlatState = record { state = first_state (objects_at_start names (tables program)) input; frame = []; captured = [] } in
    not_full (mean_mains names program unlimited k program.main nil z).outcome asked left_then (mains names program k program.main nil z).by e
