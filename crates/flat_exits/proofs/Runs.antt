-- Any number of levels, main forms, and whole programs.
use Rattle.std.proofs.Common.{ℕ, zero, suc, List, [], ◌∷◌, arith}
use Rattle.lang_meaning.specs.Counts.{application_words}
use Rattle.lang_meaning.specs.InitialHeap.{objects_at_start}
use Rattle.lang_meaning.specs.State.{State, Limit, more, main_context, first_state}
use Rattle.lang_meaning.specs.Values.{Value, nil}
use Rattle.flat_language.specs.declared.program.FlatProgram.{FlatProgram}
use Rattle.flat_language.specs.FlatForm.{FlatForm}
use Rattle.flat_language.specs.FlatNodes.{tables, nodes}
use Rattle.flat_language.specs.FlatState.{no_environment, FlatState, on_state}
use Rattle.flat_language.specs.FlatSignals.{form}
use Rattle.flat_language.specs.FlatMeaning.{none_below, context_of, flat_meaning_at, mean_mains}
use Rattle.flat_exits.specs.Laws.{LawOfExitsOfForms, LawOfExitsOfRuns}
use Rattle.flat_exits.proofs.Combined.{ComesTo, Tasks, unchanged, itself, given, on, requests, own_slots_left}
use Rattle.flat_exits.proofs.Forms.{tasks}

nothing_below : Tasks none_below
nothing_below task env around z = itself (record { outcome = more; state = z }) (unchanged z)

levels : (names : List (List ℕ)) (program : FlatProgram) (limit : Limit) (n : ℕ) → Tasks (flat_meaning_at names program limit n)
unfolding flat_meaning_at
levels names program limit zero = tasks (context_of names program limit none_below) nothing_below
levels names program limit (suc n) = tasks (context_of names program limit (flat_meaning_at names program limit n)) (levels names program limit n)

pub law_of_exits_of_forms : LawOfExitsOfForms
law_of_exits_of_forms names program limit k task env around z = (levels names program limit k task env around z).grows

-- main forms in order
mains : (names : List (List ℕ)) (program : FlatProgram) (limit : Limit) (k : ℕ) (fs : List FlatForm) (last : Value) (z : FlatState)
    → ComesTo z (mean_mains names program limit k fs last z)
mains names program limit k [] last z = given last z (unchanged z)
mains names program limit k (f ∷ fs) last z =
    on
    (requests limit 0 (application_words (nodes f)) z (λ entered.
    on (own_slots_left entered (λ inner. levels names program limit k (form f) no_environment main_context inner)) (λ v after.
    given v (on_state (λ (y : State). record y { stack = z.state.stack }) after) (record { by = omega arith }))))
    (λ v after. mains names program limit k fs v after)

pub law_of_exits_of_runs : LawOfExitsOfRuns
law_of_exits_of_runs names program input k limit =
    let z : FlatState = record { state = first_state (objects_at_start names (tables program)) input; frame = []; captured = [] } in
    let g = (mains names program limit k program.main nil z).grows.by in
    omega (arith, g)
