-- Any number of levels, and what exit 0 is for: tasks and main forms.
use Rattle.std.proofs.Common.{◌≡◌, ◌≤◌, ℕ, zero, suc, List, [], ◌∷◌, refl, ap, arith}
use Rattle.lang_meaning.specs.Counts.{application_words}
use Rattle.lang_meaning.specs.State.{State, Exit, Outcome, value, exit, full, more, Limit, main_context}
use Rattle.flat_language.specs.declared.program.FlatProgram.{FlatProgram}
use Rattle.flat_language.specs.FlatNodes.{tables, nodes}
use Rattle.flat_language.specs.FlatState.{Captured, FlatEnvironment, FlatState, FlatEvaluated, no_environment, on_state}
use Rattle.flat_language.specs.FlatSignals.{FlatTask, nothing, form, turn, methods}
use Rattle.flat_language.specs.FlatMeaning.{none_below, context_of, flat_meaning_at}
use Rattle.flat_laws.specs.FlatLater.{FlatLater}
use Rattle.flat_laws.proofs.Later.{later_kept}
use Rattle.flat_laws.proofs.Levels as growing
use Rattle.flat_ends.specs.Laws.{OnlyInstances, EndsAtSite, EndAlone, NoEndCaptured, Safe, SafeEnvironment, SafeTask, Came, LawOfEnds, LawOfMainEnds}
use Rattle.flat_ends.specs.Leaving.{CaptureOnly, NamesOnly, TurnsOnly, is_sought, level_below}
use Rattle.flat_ends.proofs.Combined.{Named, Kept, Hidden, Going, Comes, Tasks, kept_as, given, more_here, on, requests, own_slots_left}
use Rattle.flat_ends.proofs.Applied.{nothing_named}
use Rattle.flat_ends.proofs.Forms.{tasks}

module _ {R : ℕ → Type 0} {C : Type 0} where
  nothing_below : Tasks R C none_below
  nothing_below floor task env t known around hidden z h = more_here z h

  pub levels : (names : List (List ℕ)) (program : FlatProgram) (limit : Limit) → (R 0 → OnlyInstances (tables program)) → (n : ℕ) → Tasks R C (flat_meaning_at names program limit n)
  unfolding flat_meaning_at
  levels names program limit only zero = tasks (context_of names program limit none_below) only nothing_below (growing.nothing_below {R = FlatLater} {k = later_kept})
  levels names program limit only (suc n) =
      tasks (context_of names program limit (flat_meaning_at names program limit n)) only (levels names program limit only n)
      (growing.levels_come {R = FlatLater} {k = later_kept} names program limit n)

  pub levels_below : (names : List (List ℕ)) (program : FlatProgram) (limit : Limit) → (R 0 → OnlyInstances (tables program)) → (n : ℕ) → Tasks R C (level_below names program limit n)
  levels_below names program limit only zero = nothing_below
  levels_below names program limit only (suc n) = levels names program limit only n

-- ---- exit 0

abbrev IsEnd : ℕ → Type 0
IsEnd e = e ≡ 0

ends_named : (floor e : ℕ) → 1 ≤ e → Named IsEnd ⊥ floor e
ends_named floor e some = record { free = λ end. absurd (omega (arith, some, end)); made = λ c. absurd c }

ends_captured : (floor : ℕ) (cs : List Captured) → NoEndCaptured cs → CaptureOnly (Named IsEnd ⊥ floor) cs
ends_captured floor cs h n e found = ends_named floor e (h n e found)

ends_kept : (z : FlatState) → Safe z → Kept IsEnd ⊥ 1 z
ends_kept z h = record { up = h.made; first = λ e end. omega (arith, end); captured = λ i cs e. ends_captured z.state.exits cs (h.captured i cs e) }

ends_names : (env : FlatEnvironment) → SafeEnvironment env → NamesOnly (Named IsEnd ⊥ 1) env
ends_names env h = record { own = λ n e found. ends_named 1 e (h.own n e found); captured = ends_captured 1 env.captured h.captured }

ends_turns : (t : FlatTask) → SafeTask t → TurnsOnly (Named IsEnd ⊥ 1) t
ends_turns nothing h = tt
ends_turns (form f) h = tt
ends_turns (turn e rest all) h = ends_named 1 e h
ends_turns (methods c vs) h = tt

ends_hidden : (xs : List Exit) → EndAlone xs → Hidden IsEnd xs
ends_hidden [] h = tt
ends_hidden (x ∷ xs) h = ((λ end. ap is_sought (h.0 end)), ends_hidden xs h.1)

some_named : (floor e : ℕ) → Named IsEnd ⊥ floor e → 1 ≤ e
some_named floor zero h = absurd (h.free refl)
some_named floor (suc e) h = omega arith

ends_going : (o : Outcome) (z : FlatState) → Going IsEnd o z → EndsAtSite o z
ends_going (value v) z g = tt
ends_going (exit zero v landing) z g = let at = g.end refl in (at.1, at.2, at.3)
ends_going (exit (suc e) v landing) z g = tt
ends_going (full asked left_then) z g = tt
ends_going more z g = tt

came : (r : FlatEvaluated) → Comes IsEnd ⊥ 1 r → Came r
came r x = record {
  safe = record { made = x.kept.up; captured = λ i cs e n f found. some_named r.state.state.exits f (x.kept.captured i cs e n f found) };
  ends = ends_going r.outcome r.state x.goes;
}

pub law_of_ends : LawOfEnds
law_of_ends names program limit k task env around z only t safe alone h =
    came _ (levels names program limit (λ end. only) k 1 task env (ends_turns task t) (ends_names env safe) around (ends_hidden around.exits alone) z (ends_kept z h))

pub law_of_main_ends : LawOfMainEnds
law_of_main_ends names program limit k f z only h =
    came _
    (requests limit 0 (application_words (nodes f)) z (ends_kept z h) (λ entered h1.
    on
    (own_slots_left entered h1 (λ inner h2. levels names program limit (λ end. only) k 1 (form f) no_environment tt nothing_named main_context ((λ e. refl), tt) inner h2))
    (λ v after h3. given v (on_state (λ (y : State). record y { stack = z.state.stack }) after) (kept_as h3 refl refl))))
