-- The laws of flat programs: what is later is later, and transfers land.
use Rattle.std.proofs.Common.{ℕ, List, []}
use Rattle.lang_meaning.specs.Values.{Value, nil}
use Rattle.lang_meaning.specs.State.{DynamicContext, first_state, Limit}
use Rattle.lang_meaning.specs.InitialHeap.{objects_at_start}
use Rattle.flat_language.specs.declared.program.FlatProgram.{FlatProgram}
use Rattle.flat_language.specs.FlatForm.{FlatForm}
use Rattle.flat_language.specs.FlatNodes.{tables}
use Rattle.flat_language.specs.FlatState.{FlatEnvironment, FlatState, with_stack}
use Rattle.flat_language.specs.FlatSignals.{FlatContext}
use Rattle.flat_language.specs.FlatMeaning.{mean, mean_mains, flat_meaning}
use Rattle.flat_laws.specs.FlatLater.{FlatLater}
use Rattle.flat_laws.specs.Laws.{LawOfFlatGrowth, RunKeeps, LawOfFlatRuns, LawOfFlatTransfers}
use Rattle.flat_laws.proofs.Later.{later_kept}
use Rattle.flat_laws.proofs.Combined.{Tasks}
use Rattle.flat_laws.proofs.Forms.{means}
use Rattle.flat_laws.proofs.Levels.{levels_come, mains_come}

-- a form in any context whose level below only grows
pub form_grows : (context : FlatContext) → Tasks FlatLater later_kept context.below
    → (f : FlatForm) (env : FlatEnvironment) (around : DynamicContext) (z : FlatState) → FlatLater z (mean context f env around z).state
form_grows context w f env around z = (means context w f env around z).grows

pub law_of_flat_growth : LawOfFlatGrowth
law_of_flat_growth names program limit k task env around z =
    (levels_come {R = FlatLater} {k = later_kept} names program limit k task env around z).grows

pub law_of_flat_transfers : LawOfFlatTransfers
law_of_flat_transfers names program limit k task env around z =
    (levels_come {R = FlatLater} {k = later_kept} names program limit k task env around z).lands

-- main forms
mains_grow : (names : List (List ℕ)) (program : FlatProgram) (limit : Limit) (k : ℕ) (forms : List FlatForm) (last : Value) (z : FlatState)
    → FlatLater z (with_stack z.state.stack (mean_mains names program limit k forms last z)).state
mains_grow names program limit k forms last z =
    (mains_come {R = FlatLater} {k = later_kept} names program limit k forms last z).grows

-- whole programs
runs_keep : (names : List (List ℕ)) (program : FlatProgram) (input : List ℕ) (k : ℕ) (limit : Limit)
    → RunKeeps (objects_at_start names (tables program)) input (flat_meaning names program input k limit)
unfolding flat_meaning
runs_keep names program input k limit =
    let start : FlatState = record { state = first_state (objects_at_start names (tables program)) input; frame = []; captured = [] } in
    let g : FlatLater start (with_stack 0 (mean_mains names program limit k program.main nil start)).state =
    mains_grow names program limit k program.main nil start in record {
      input = g.input;
      store = g.store;
      objects = g.objects;
    }

pub law_of_flat_runs : LawOfFlatRuns
law_of_flat_runs = (mains_grow, runs_keep)
