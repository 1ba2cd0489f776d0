-- When a flat program is ready to run, and what its run comes to: that is said of every program of which it is the flat one.
use Rattle.std.specs.Prelude.{◌≡◌, ℕ, List, Option}
use Rattle.lang_meaning.specs.declared.program.ProgramRows.{ProgramRows}
use Rattle.flat_language.specs.declared.program.FlatProgram.{FlatProgram}
use Rattle.flat_language.specs.FlatNodes.{tables}
use Rattle.flat_language.specs.Flatten.{flat_program}
use Rattle.eval_store.specs.declared.spellings.Spellings.{Spellings}
use Rattle.eval_store.specs.declared.store.Store.{Store}
use Rattle.eval_store.specs.Spelling.{IsSpelling}
use Rattle.eval_store.specs.declared.initial_heap.InitialHeap.{InitialHeap}
use Rattle.eval_store.specs.InitialHeap.{HasInitialHeap}
use Rattle.eval_primitives.specs.declared.primitives.Primitives.{Primitives}
use Rattle.eval_primitives.specs.Computed.{IsFitted}
use Rattle.eval_run.specs.declared.answer.Counted.{Counted}
use Rattle.eval_run.specs.declared.stop.Stop.{Stop}
use Rattle.eval_run.specs.UnderWay.{HasCounted, StopsSo}

-- a program with these names is ready to run: its store is laid out, and primitives see it
pub record IsReady (names : List (List ℕ)) (program : FlatProgram) (spellings : Spellings) (layout : InitialHeap) (primitives : Primitives) (store : Store) : Type 0 where
  pub spelling : IsSpelling names spellings
  pub laid_out : HasInitialHeap names program store layout
  pub fitted : IsFitted names (tables program) primitives

-- it has ended so, with so many units
abbrev pub FlatRuns : (names : List (List ℕ)) (program : FlatProgram) (levels words : ℕ) (left left' given given' : Option (List ℕ)) → Counted → Type 0
FlatRuns names program levels words left left' given given' c = (rows : ProgramRows) → program ≡ flat_program rows
    → HasCounted (record { names = names; program = rows; levels = levels; words = words }) left left' given given' c

-- it has stopped on its way
abbrev pub FlatStops : (names : List (List ℕ)) (program : FlatProgram) (levels words : ℕ) (left left' given given' : Option (List ℕ)) → Stop → Type 0
FlatStops names program levels words left left' given given' stop = (rows : ProgramRows) → program ≡ flat_program rows
    → StopsSo stop (record { names = names; program = rows; levels = levels; words = words }) left left' given given'
