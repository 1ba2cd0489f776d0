-- Runs of the lines of a program go on for as long as levels and turns are given: they come to their end, or weigh more than any number.
use Rattle.std.proofs.Common.{◌≡◌, ◌⊎◌, inl, inr, ℕ, zero, suc, ◌+◌, ◌-◌, ◌≤◌, List, [], Option, Some, None, refl, sym, subst, ⊎_elim, arith}
use Rattle.std.specs.Prelude.{slice_get}
use Rattle.mid_code.specs.declared.program.MidProcedure.{MidProcedure}
use Rattle.mid_code.specs.declared.program.MidProgram.{MidProgram}
use Rattle.mid_code.specs.State.{Registers, MidState, End, falls, returns, cuts, no_room, no_level, no_turn, halts, unhandled, exhausted, stuck, MidOutcome, ends, with_some}
use Rattle.mid_code.specs.Meaning.{Task, enter, turns, levels, at_top, runs}
use Rattle.mid_code.specs.Law.{IsReached}
use Rattle.mid_lines.specs.declared.line.LineProgram.{LineProgram}
use Rattle.mid_lines.specs.Weights.{weights}
use Rattle.mid_lines.specs.LineMeaning.{Stage, running, entering, ended, state_of, begin, enter_at, after}
use Rattle.mid_lines.specs.Flattened.{program_lines}
use Rattle.mid_lines.proofs.Coming.{IsWanting, StageGoesOn, Meets, left_from, with_fewer, then_meets, ended_here}
use Rattle.mid_lines.proofs.Following.{TasksMeet, procedure_at, tasks_meet}
use Rattle.back_runs.specs.MachineRuns.{HasCome}
use Rattle.back_runs.specs.ProgramRuns.{LawOfWeighing}

-- tasks with so many levels and turns

fewer : (mid : MidProgram) (b c : ℕ) (f : Task → MidState → MidOutcome) → b ≤ c → TasksMeet mid c f → TasksMeet mid b f
fewer mid b c f le x = record {
  enters = λ n p e arguments callers z. with_fewer (program_lines mid) le (x.enters n p e arguments callers z);
  goes_again = λ s at a rs callers z h. with_fewer (program_lines mid) le (x.goes_again s at a rs callers z h);
}

-- where nothing is done for want of levels or turns, the lines are where they are
waiting : (program : LineProgram) (s to : Stage) (e : End) → StageGoesOn s → (IsReached e → ⊥) → Meets program 0 s to e (state_of s)
unfolding after weights
waiting program s to e g h = record { comes = λ k. absurd (h k); pauses = λ k. record { steps = 0; enough = omega arith; there = refl; goes_on = g } }

no_turns_meet : (mid : MidProgram) → TasksMeet mid 0 (λ task z. ends no_turn [] z)
no_turns_meet mid = record {
  enters = λ n p e arguments callers z. waiting (program_lines mid) (entering n arguments callers z) _ no_turn tt (λ k. k);
  goes_again = λ s at a rs callers z h. waiting (program_lines mid) (running a at rs callers z) _ no_turn tt (λ k. k);
}

no_levels_meet : (mid : MidProgram) → TasksMeet mid 0 (λ task z. ends no_level [] z)
no_levels_meet mid = record {
  enters = λ n p e arguments callers z. waiting (program_lines mid) (entering n arguments callers z) _ no_level tt (λ k. k);
  goes_again = λ s at a rs callers z h. waiting (program_lines mid) (running a at rs callers z) _ no_level tt (λ k. k);
}

-- with n turns, steps weigh at least n, where with what is one level below they weigh almost as much
turns_meet :
    (mid : MidProgram) (below : Task → MidState → MidOutcome) (n c : ℕ) → TasksMeet mid (c - 1) below → c ≤ n
    → TasksMeet mid c (turns mid.procedures below n)
unfolding turns
turns_meet mid below zero zero x le = no_turns_meet mid
turns_meet mid below zero (suc c) x le = absurd (omega arith)
turns_meet mid below (suc n) zero x le =
    fewer mid 0 1 _ (omega arith)
    (tasks_meet mid 0 below (turns mid.procedures below n) (fewer mid 0 (0 - 1) below (omega arith) x) (turns_meet mid below n 0 x (omega arith)))
turns_meet mid below (suc n) (suc c) x le =
    tasks_meet mid c below (turns mid.procedures below n) (fewer mid c (suc c - 1) below (omega arith) x)
    (turns_meet mid below n c (fewer mid (c - 1) (suc c - 1) below (omega arith) x) (omega arith))

levels_meet : (mid : MidProgram) (turns_each k c : ℕ) → c ≤ k → c ≤ turns_each → TasksMeet mid c (levels mid.procedures turns_each k)
unfolding levels
levels_meet mid turns_each zero zero le lt = no_levels_meet mid
levels_meet mid turns_each zero (suc c) le lt = absurd (omega arith)
levels_meet mid turns_each (suc k) c le lt =
    turns_meet mid _ _ c (levels_meet mid turns_each k (c - 1) (omega arith) (omega arith)) (omega arith)

-- whole runs

top_meets :
    (program : LineProgram) (c : ℕ) (s : Stage) (r : MidOutcome) → Meets program c s (left_from program r.end [] r.state) r.end r.state
    → Meets program c s (ended (at_top r).end (at_top r).state) (at_top r).end (at_top r).state
unfolding at_top
top_meets program c s r m = from r.end r.registers r.state m
  where
    from :
        (e : End) (rs : Registers) (z : MidState) → Meets program c s (left_from program e [] z) e z
        → Meets program c s (ended (at_top (ends e rs z)).end (at_top (ends e rs z)).state) (at_top (ends e rs z)).end (at_top (ends e rs z)).state
    from falls rs z m = record { comes = m.comes; pauses = λ h. absurd h }
    from (returns w) rs z m = m
    from (cuts n w) rs z m = record { comes = m.comes; pauses = λ h. absurd h }
    from (no_room asked left) rs z m = m
    from no_level rs z m = m
    from no_turn rs z m = m
    from (halts w) rs z m = m
    from (unhandled class site condition) rs z m = m
    from exhausted rs z m = m
    from stuck rs z m = m

entry_task_meets :
    (mid : MidProgram) (c : ℕ) (f : Task → MidState → MidOutcome) → TasksMeet mid c f → (entry : ℕ) (arguments : List ℕ) (z : MidState) (o : Option MidProcedure)
    → slice_get mid.procedures entry ≡ o
    → Meets (program_lines mid) c (begin entry arguments z)
    (left_from (program_lines mid) (with_some o (λ p rs y. f (enter p arguments) y) [] z).end [] (with_some o (λ p rs y. f (enter p arguments) y) [] z).state)
    (with_some o (λ p rs y. f (enter p arguments) y) [] z).end (with_some o (λ p rs y. f (enter p arguments) y) [] z).state
unfolding with_some
entry_task_meets mid c f x entry arguments z None e =
    then_meets (program_lines mid) (subst (λ o. enter_at o entry arguments [] z ≡ ended stuck z) (sym (procedure_at mid entry None e)) refl) (ended_here (program_lines mid) c stuck z tt)
entry_task_meets mid c f x entry arguments z (Some p) e = x.enters entry p e arguments [] z

run_meets :
    (mid : MidProgram) (k turns_each c entry : ℕ) (arguments : List ℕ) (z : MidState) → c ≤ k + 1 → c ≤ turns_each + 1
    → Meets (program_lines mid) c (begin entry arguments z)
    (ended (runs mid k turns_each entry arguments z).end (runs mid k turns_each entry arguments z).state)
    (runs mid k turns_each entry arguments z).end (runs mid k turns_each entry arguments z).state
unfolding runs levels
run_meets mid k turns_each c entry arguments z le lt =
    top_meets (program_lines mid) c (begin entry arguments z) _
    (entry_task_meets mid c (turns mid.procedures (levels mid.procedures turns_each k) (suc turns_each))
    (turns_meet mid (levels mid.procedures turns_each k) (suc turns_each) c (levels_meet mid turns_each k (c - 1) (omega arith) (omega arith)) (omega arith))
    entry arguments z (slice_get mid.procedures entry) refl)

reached_or_wanting : (e : End) → IsReached e ⊎ IsWanting e
reached_or_wanting no_level = inr tt
reached_or_wanting no_turn = inr tt
reached_or_wanting w = inl tt

pub law_of_weighing : LawOfWeighing
law_of_weighing program n entry arguments z =
    let m = run_meets program n n (suc n) entry arguments z (omega arith) (omega arith) in
    ⊎_elim
    (λ h. let c = m.comes h in (c.steps, inr (subst (λ t. HasCome t) (sym c.there) tt)))
    (λ h. let p = m.pauses h in (p.steps, inl (omega (arith, p.enough))))
    (reached_or_wanting (runs program n n entry arguments z).end)
