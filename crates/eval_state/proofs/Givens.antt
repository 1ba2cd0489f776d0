-- What is known of what a run is given.
use Rattle.std.proofs.Common.{ℕ, List}
use Rattle.flat_language.specs.FlatNodes.{tables}
use Rattle.eval_store.specs.Spelling.{IsSpelling}
use Rattle.eval_store.specs.InitialHeap.{IsInitialHeap}
use Rattle.eval_primitives.specs.Computed.{IsFitted}
use Rattle.eval_state.specs.declared.given.Given.{Given}
use Rattle.eval_state.specs.View.{IsGiven}

pub spelling : (names : List (List ℕ)) (g : Given) → IsGiven names g → IsSpelling names g.spellings
spelling names g h = h.spelling

pub layout : (names : List (List ℕ)) (g : Given) → IsGiven names g → IsInitialHeap names (tables g.program.now) g.layout.now
layout names g h = h.layout

pub fitted : (names : List (List ℕ)) (g : Given) → IsGiven names g → IsFitted names (tables g.program.now) g.primitives.now
fitted names g h = h.fitted
