-- What tasks come to with any number of levels, and main forms: by induction on the levels.
use Rattle.std.proofs.Common.{ℕ, zero, suc, ◌+◌, Bool, true, false, List, [], ◌∷◌}
use Rattle.std.specs.Prelude.{if◌then◌else◌}
use Rattle.lang_meaning.specs.Laws.{LandsIn}
use Rattle.lang_meaning.specs.Counts.{application_words}
use Rattle.lang_meaning.specs.Values.{Value}
use Rattle.lang_meaning.specs.State.{State, Exit, main_context, Outcome, value, exit, full, more, Limit, has_room, room_left, with_words}
use Rattle.flat_language.specs.declared.program.FlatProgram.{FlatProgram}
use Rattle.flat_language.specs.FlatForm.{FlatForm}
use Rattle.flat_language.specs.FlatNodes.{nodes}
use Rattle.flat_language.specs.FlatState.{no_environment, FlatState, FlatEvaluated, on_state, gives, go_on, go_on_from, with_stack, in_own_frame}
use Rattle.flat_language.specs.FlatSignals.{form}
use Rattle.flat_language.specs.FlatMeaning.{none_below, context_of, flat_meaning_at, mean_mains}
use Rattle.flat_laws.proofs.Steps.{IsKeptByFlatRules}
use Rattle.flat_laws.proofs.Combined.{ComesTo, Tasks, itself, sooner, own_frame_left}
use Rattle.flat_laws.proofs.Forms.{tasks}

-- with the words of the stack of an earlier state
abbrev restored : FlatState → FlatState → FlatState
restored z y = on_state (λ (x : State). record x { stack = z.state.stack }) y

module _ {R : FlatState → FlatState → Type 0} {k : IsKeptByFlatRules R} where
  pub nothing_below : Tasks R k none_below
  nothing_below task env around z = itself around.exits (record { outcome = more; state = z }) (k.none z) tt

  -- each task, with any number of levels
  pub levels_come : (names : List (List ℕ)) (program : FlatProgram) (limit : Limit) (n : ℕ) → Tasks R k (flat_meaning_at names program limit n)
  unfolding flat_meaning_at
  levels_come names program limit zero = tasks (context_of names program limit none_below) nothing_below
  levels_come names program limit (suc n) =
      tasks (context_of names program limit (flat_meaning_at names program limit n)) (levels_come names program limit n)

  -- a main form gives its words back where it ends with a value; where it does not, they are taken to be given back
  main_ends : (exits : List Exit) (z : FlatState) (next : Value → FlatState → FlatEvaluated)
      → ((v : Value) (y : FlatState) → ComesTo R k exits (restored z y) (with_stack z.state.stack (next v (restored z y))))
      → (o : Outcome) (y : FlatState) → R z (restored z y) → LandsIn exits o
      → ComesTo R k exits z (with_stack z.state.stack (go_on (go_on_from o y (λ v after. gives v (restored z after))) next))
  main_ends exits z next c (value v) y g l = sooner g (c v y)
  main_ends exits z next c (exit e v landing) y g l = itself exits (record { outcome = exit e v landing; state = restored z y }) g l
  main_ends exits z next c (full asked left) y g l = itself exits (record { outcome = full asked left; state = restored z y }) g l
  main_ends exits z next c more y g l = itself exits (record { outcome = more; state = restored z y }) g l

  -- where there is no room, nothing happened
  if_room : (exits : List Exit) (z : FlatState) (b : Bool) (r : FlatEvaluated) (asked left : ℕ) (next : Value → FlatState → FlatEvaluated)
      → ComesTo R k exits z (with_stack z.state.stack (go_on r next))
      → ComesTo R k exits z (with_stack z.state.stack (go_on (if b then r else record { outcome = full asked left; state = z }) next))
  if_room exits z true r asked left next x = x
  if_room exits z false r asked left next x = itself exits (record { outcome = full asked left; state = z }) (k.none z) tt

  -- main forms, in any state
  pub mains_come : (names : List (List ℕ)) (program : FlatProgram) (limit : Limit) (n : ℕ) (fs : List FlatForm) (last : Value) (z : FlatState)
      → ComesTo R k main_context.exits z (with_stack z.state.stack (mean_mains names program limit n fs last z))
  mains_come names program limit n [] last z = itself main_context.exits (gives last z) (k.none z) tt
  mains_come names program limit n (f ∷ fs) last z =
      let size : ℕ = application_words (nodes f) in
      let entered : FlatState = on_state (λ y. with_words 0 size y) z in
      let r : FlatEvaluated =
      in_own_frame (λ inner. flat_meaning_at names program limit n (form f) no_environment main_context inner) entered in
      let x : ComesTo R k main_context.exits entered r =
      own_frame_left entered (levels_come names program limit n (form f) no_environment main_context (record entered { frame = [] })) in
      if_room main_context.exits z (has_room limit (z.state.heap + z.state.stack + 0 + size))
      (go_on r (λ v after. gives v (restored z after))) (0 + size) (room_left limit (z.state.heap + z.state.stack))
      (λ v after. mean_mains names program limit n fs v after)
      (main_ends main_context.exits z (λ v after. mean_mains names program limit n fs v after)
      (λ v y. mains_come names program limit n fs v (restored z y))
      r.outcome r.state (k.given_back size z r.state x.grows) x.lands)
