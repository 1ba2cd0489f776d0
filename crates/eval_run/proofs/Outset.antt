-- An evaluator that is given a program made flat is under way, where it has not begun.
use Rattle.std.proofs.Common.{◌≡◌, ℕ, List, [], Option, Some, Result, Ok, Err, IfOk, IfErr, refl, ap, sym, ◌∙◌, subst}
use Rattle.lang_meaning.specs.declared.program.ProgramRows.{ProgramRows}
use Rattle.lang_meaning.specs.State.{words}
use Rattle.flat_language.specs.declared.program.FlatProgram.{FlatProgram}
use Rattle.flat_language.specs.Flatten.{flat_program}
use Rattle.lang_dispatch.specs.OfClasses.{with_classes}
use Rattle.lang_dispatch.specs.Tables.{AreTablesOf}
use Rattle.eval_machine.specs.Configuration.{Setting}
use Rattle.eval_machine.specs.Run.{start}
use Rattle.eval_machine.specs.Law.{setting}
use Rattle.eval_store.specs.declared.spellings.Spellings.{Spellings}
use Rattle.eval_store.specs.declared.store.Store.{Store}
use Rattle.eval_store.specs.View.{limit_of}
use Rattle.eval_store.specs.declared.initial_heap.InitialHeap.{InitialHeap}
use Rattle.eval_store.specs.InitialHeap.{HasInitialHeap}
use Rattle.eval_primitives.specs.declared.primitives.Primitives.{Primitives}
use Rattle.eval_state.specs.declared.given.Given.{Given}
use Rattle.eval_state.specs.Sizes.{AreSizes}
use Rattle.eval_state.specs.View as machine
use Rattle.eval_step.specs.declared.evaluator.Evaluator.{Evaluator}
use Rattle.eval_step.specs.Runs.{IsAtConfiguration}
use Rattle.eval_step.specs.Started.{IsStarted}
use Rattle.lang_meaning.specs.Evaluation.{Evaluation}
use Rattle.eval_run.specs.Moments.{setting_of}
use Rattle.eval_run.specs.declared.answer.Counted.{Counted}
use Rattle.eval_run.specs.declared.stop.Stop.{Stop}
use Rattle.eval_run.specs.UnderWay.{UnderWay, HasCounted, StopsSo}
use Rattle.eval_run.specs.FlatRun.{IsReady, FlatRuns, FlatStops}
use Rattle.eval_run.proofs.Before.{nothing, none_taken, none_given}

same_setting : (names : List (List ℕ)) (rows : ProgramRows) (w : ℕ) (program : FlatProgram) (limit : Option ℕ) → program ≡ flat_program rows → limit ≡ Some w
    → setting names program (limit_of limit) ≡ setting names (flat_program rows) (words w)
same_setting names rows w program limit h q =
    ap (λ p. setting names p (limit_of limit)) h ∙ ap (λ l. setting names (flat_program rows) (limit_of l)) q

pub outset : (names : List (List ℕ)) (rows : ProgramRows) (levels w : ℕ) (left given : Option (List ℕ)) (g : Given) (store : Store) (v : Evaluator)
    → g.program.now ≡ flat_program rows → g.limit ≡ Some w → machine.IsGiven names g → HasInitialHeap names g.program.now store g.layout.now → IsStarted g store levels v
    → UnderWay (record { names = names; program = rows; levels = levels; words = w }) left left given given 0 v
outset names rows levels w left given g store v made limit known laid h =
    let e : Evaluation = record { names = names; program = rows; levels = levels; words = w } in
    let s : machine.setting_of names g ≡ setting_of e = same_setting names rows w g.program.now g.limit made limit in
    record {
      runs = record {
        setting = ap (machine.setting_of names) h.is_given ∙ s;
        given = subst (machine.IsGiven names) (sym h.is_given) known;
      };
      taken = nothing;
      was_taken = none_taken left;
      all_is = sym h.not_ended;
      written = [];
      was_given = none_given given;
      count = 0;
      comes = λ input b. record {
        is_at =
            let P : List ℕ → Type 0 = λ unread. IsAtConfiguration names v [] unread (start (setting_of e) input levels) in
            let Q : Setting → Type 0 = λ x. IsAtConfiguration names v [] input (start x input levels) in
            subst P (sym b.joined) (subst Q s (h.comes names input known.spelling laid));
        begun = refl;
      };
    }

-- so it is where the program is ready to run
pub outset_of : (names : List (List ℕ)) (rows : ProgramRows) (levels w : ℕ) (left given : Option (List ℕ)) (g : Given) (store : Store) (v : Evaluator)
    → g.program.now ≡ flat_program rows → g.limit ≡ Some w → IsReady names g.program.now g.spellings g.layout.now g.primitives.now store
    → AreSizes g.program.now g.sizes.now → AreTablesOf (with_classes g.program.now.classes) g.program.now.generics g.tables.now → IsStarted g store levels v
    → UnderWay (record { names = names; program = rows; levels = levels; words = w }) left left given given 0 v
outset_of names rows levels w left given g store v made limit ready sizes dispatch h =
    let known : machine.IsGiven names g = record {
      spelling = ready.spelling;
      layout = ready.laid_out.stands;
      fitted = ready.fitted;
      sizes = sizes;
      dispatch = dispatch;
    } in
    outset names rows levels w left given g store v made limit known ready.laid_out h

-- what a run of the evaluator comes to, the run of the flat program comes to
module _ (names : List (List ℕ)) (g : Given) (store : Store) (levels w : ℕ) (v : Evaluator) (limit : g.limit ≡ Some w) (sizes : AreSizes g.program.now g.sizes.now)
    (dispatch : AreTablesOf (with_classes g.program.now.classes) g.program.now.generics g.tables.now) (h : IsStarted g store levels v)
    (left left' given given' : Option (List ℕ)) where
  pub run_ends : (r : Result Counted Stop)
      → IfOk r (λ c. (e : Evaluation) → e.names ≡ names → UnderWay e left left given given 0 v → HasCounted e left left' given given' c)
      → IfOk r (λ c. IsReady names g.program.now g.spellings g.layout.now g.primitives.now store
      → FlatRuns names g.program.now levels w left left' given given' c)
  run_ends (Ok c) run = λ ready rows made. run (record { names = names; program = rows; levels = levels; words = w }) refl
      (outset_of names rows levels w left given g store v made limit ready sizes dispatch h)
  run_ends (Err s) run = tt

  pub run_stops : (r : Result Counted Stop)
      → IfErr r (λ s. (e : Evaluation) → UnderWay e left left given given 0 v → StopsSo s e left left' given given')
      → IfErr r (λ s. IsReady names g.program.now g.spellings g.layout.now g.primitives.now store
      → FlatStops names g.program.now levels w left left' given given' s)
  run_stops (Ok c) run = tt
  run_stops (Err s) run = λ ready rows made. run (record { names = names; program = rows; levels = levels; words = w })
      (outset_of names rows levels w left given g store v made limit ready sizes dispatch h)

-- and so with the names that it has
module _ (names : List (List ℕ)) (program : FlatProgram) (spellings : Spellings) (layout : InitialHeap) (primitives : Primitives) (store : Store)
    (ready : IsReady names program spellings layout primitives store) (levels w : ℕ) (left left' given given' : Option (List ℕ)) where
  pub ends_with : (r : Result Counted Stop)
      → IfOk r (λ c. IsReady names program spellings layout primitives store → FlatRuns names program levels w left left' given given' c)
      → IfOk r (FlatRuns names program levels w left left' given given')
  ends_with (Ok c) run = run ready
  ends_with (Err s) run = tt

  pub stops_with : (r : Result Counted Stop)
      → IfErr r (λ s. IsReady names program spellings layout primitives store → FlatStops names program levels w left left' given given' s)
      → IfErr r (FlatStops names program levels w left left' given given')
  stops_with (Ok c) run = tt
  stops_with (Err s) run = run ready
