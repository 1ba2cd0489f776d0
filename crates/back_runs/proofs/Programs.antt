-- Runs of programs on the machine.
use Rattle.std.proofs.Common.{◌≡◌, inl, inr, ℕ, suc, ◌+◌, ◌-◌, ◌<◌, ◌≤◌, List, [], ◌++◌, refl, sym, ap, ◌∙◌, subst, arith, append_assoc, append-nil, Option, Some, None}
use Rattle.std.specs.Prelude.{Bool, true, slice_get}
use Rattle.rv_machine.specs.Run.{Moment, run_from}
use Rattle.mid_code.specs.declared.program.MidProgram.{MidProgram}
use Rattle.mid_code.specs.Arena.{Block}
use Rattle.mid_code.specs.Checked.{is_checked_program}
use Rattle.mid_code.specs.State.{MidState, End, falls, returns, cuts, no_room, no_level, no_turn, halts, unhandled, exhausted, stuck, MidOutcome}
use Rattle.mid_code.specs.Meaning.{runs}
use Rattle.mid_code.specs.Law.{IsReached}
use Rattle.mid_code.proofs.Levels.{law_of_levels}
use Rattle.mid_lines.specs.declared.line.LineProcedure.{LineProcedure}
use Rattle.mid_lines.specs.declared.line.LineProgram.{LineProgram}
use Rattle.mid_lines.specs.Flattened.{program_lines}
use Rattle.mid_lines.specs.Weights as weighs
use Rattle.mid_lines.specs.Weights.{weights}
use Rattle.mid_lines.specs.LineMeaning.{Caller, Stage, running, entering, ended, state_of, begin, enter_at, next, after}
use Rattle.mid_lines.proofs.Coming.{after_sum, weights_sum}
use Rattle.mid_lines.proofs.LineLaws.{law_of_lines, law_of_weighted_ends, law_of_weighted_printing}
use Rattle.mid_lines.proofs.Checking.{law_of_form}
use Rattle.back_places.specs.declared.place.Place.{Place}
use Rattle.back_places.specs.Places.{Located}
use Rattle.back_places.specs.Good.{IsGood}
use Rattle.back_places.specs.Relation.{EntersIn, Relates}
use Rattle.back_places.specs.StepLaw.{Known}
use Rattle.back_runs.specs.Ends.{IsSaid, EndsAs}
use Rattle.back_runs.specs.MachineRuns.{IsKnown, StaysKnown, HasDone}
use Rattle.back_runs.specs.ProgramRuns.{Begins, IsLawfulEnd, LawOfKnownRuns, DoesAs, LawOfProgramRuns}
use Rattle.back_runs.proofs.Following.{law_of_runs}
use Rattle.back_runs.proofs.Ending.{printed_at_end, at_end}
use Rattle.back_runs.proofs.Doing.{step_weighs, known_lawful, law_of_machine_runs}
use Rattle.back_runs.proofs.Weighing.{law_of_weighing}

-- one step more

last_step : (program : LineProgram) (n : ℕ) (s : Stage) → after program (suc n) s ≡ next program (after program n s)
unfolding after
last_step program n s = let e : suc n ≡ n + 1 = omega arith in ap (λ k. after program k s) e ∙ after_sum program n 1 s

last_weight : (program : LineProgram) (n : ℕ) (s : Stage) → weights program (suc n) s ≡ weights program n s + weighs.weight program (after program n s)
unfolding weights
last_weight program n s =
    let e : suc n ≡ n + 1 = omega arith in
    let same = ap (λ k. weights program k s) e in
    omega (arith, same, weights_sum program n 1 s)

-- a run of lines that ends stuck after steps of so little weight: the run of the program does so too

module _ (program : MidProgram) (entry : ℕ) (arguments : List ℕ) (z : MidState) (n k turns_each : ℕ) (le : n ≤ k) (lt : n ≤ turns_each) where
  abbrev s : Stage
  s = begin entry arguments z

  abbrev flat : LineProgram
  flat = program_lines program

  -- the end that lines come to in steps that weigh at most n is the run's
  pub end_is :
      (steps : ℕ) (e : End) (y : MidState) → after flat steps s ≡ ended e y → weights flat steps s ≤ n
      → ((runs program k turns_each entry arguments z).end ≡ e) × ((runs program k turns_each entry arguments z).state ≡ y)
  end_is steps e y h light =
      let w = weights flat steps s in
      let o = law_of_weighted_ends program steps entry arguments z e y h in
      let x = law_of_levels program w k w turns_each entry arguments z (omega (arith, le, light)) (omega (arith, lt, light)) in
      (ap (λ r. r.end) (x.same o.reached) ∙ o.end, ap (λ r. r.state) (x.same o.reached) ∙ o.state)

  -- what was printed after steps that weigh at most n is a beginning of what the run prints
  pub printed_first :
      (steps : ℕ) → weights flat steps s ≤ n
      → (rest : List ℕ) × ((state_of (after flat steps s)).printed ++ rest ≡ (runs program k turns_each entry arguments z).state.printed)
  printed_first steps light =
      let w = weights flat steps s in
      let p = law_of_weighted_printing program steps entry arguments z in
      let x = (law_of_levels program w k w turns_each entry arguments z (omega (arith, le, light)) (omega (arith, lt, light))).later.printed in
      (p.0 ++ x.0, sym (append_assoc (state_of (after flat steps s)).printed p.0 x.0) ∙ ap (λ q. q ++ x.0) (sym p.1) ∙ sym x.1)

  module _ (lawful : IsLawfulEnd (runs program k turns_each entry arguments z).end) where
    not_stuck : (steps : ℕ) (y : MidState) → after flat steps s ≡ ended stuck y → weights flat steps s ≤ n → ⊥
    not_stuck steps y h light = subst (λ e. IsLawfulEnd e) (end_is steps stuck y h light).0 lawful

    -- a procedure that is entered is there
    is_there :
        (steps number : ℕ) (args : List ℕ) (callers : List Caller) (y : MidState) (o : Option LineProcedure) → slice_get flat.procedures number ≡ o
        → after flat steps s ≡ entering number args callers y → weights flat steps s ≤ n → (p : LineProcedure) × (slice_get flat.procedures number ≡ Some p)
    is_there steps number args callers y (Some p) e h light = (p, e)
    is_there steps number args callers y None e h light =
        let to : after flat (suc steps) s ≡ ended stuck y = last_step flat steps s ∙ ap (λ t. next flat t) h ∙ ap (λ o. enter_at o number args callers y) e in
        let none : weighs.weight flat (after flat steps s) ≡ 0 = ap (λ t. weighs.weight flat t) h in
        absurd (not_stuck (suc steps) y to (omega (arith, light, none, last_weight flat steps s)))

    is_known : (steps : ℕ) (t : Stage) → after flat steps s ≡ t → weights flat steps s ≤ n → IsKnown flat t
    is_known steps (running a line rs callers y) h light = tt
    is_known steps (entering number args callers y) h light = is_there steps number args callers y (slice_get flat.procedures number) refl h light
    is_known steps (ended stuck y) h light = not_stuck steps y h light
    is_known steps (ended e y) h light = tt

    pub stays : (l : Located) (Fact : (number line register : ℕ) → Place → Type 0) (first : List Block) (m : Moment) → StaysKnown flat l Fact first s m n
    stays l Fact first m steps f few here =
        is_known (suc steps) (after flat (suc steps) s) refl
        (omega (arith, few, f.heavy (known_lawful flat (after flat steps s) here), step_weighs flat (after flat steps s), last_weight flat steps s))

pub law_of_known_runs : LawOfKnownRuns
law_of_known_runs program l known first entry arguments z m n k turns_each le lt lawful =
    stays program entry arguments z n k turns_each le lt lawful l (Known known) first m

-- ends of which something is said are reached
pub said_reached : (e : End) → IsSaid e → IsReached e
said_reached (returns w) h = tt
said_reached (halts w) h = tt
said_reached (unhandled class site condition) h = tt
said_reached (no_room asked left) h = tt
said_reached falls h = absurd h
said_reached (cuts n w) h = absurd h
said_reached no_level h = absurd h
said_reached no_turn h = absurd h
said_reached exhausted h = tt
said_reached stuck h = absurd h

module _ (program : MidProgram) (l : Located) (known : (number line register : ℕ) → Place → Bool) (checked : is_checked_program program ≡ true)
    (good : IsGood (program_lines program) l (Known known)) (entry : ℕ) (arguments : List ℕ) (z : MidState) (m : Moment)
    (begins : Begins (program_lines program) l (Known known) entry arguments z m) (n k turns_each : ℕ) where
  abbrev r : MidOutcome
  r = runs program k turns_each entry arguments z

  abbrev at_first : Stage
  at_first = begin entry arguments z

  abbrev lines_program : LineProgram
  lines_program = program_lines program

  related : Relates lines_program l (Known known) z.arena.blocks at_first m
  related =
      (refl, subst (λ o. EntersIn lines_program l (Known known) z.arena.blocks o entry arguments [] z m) (sym begins.there) begins.enters)

  of_done : n ≤ k → n ≤ turns_each → HasDone lines_program l (Known known) z.arena.blocks at_first m n → DoesAs r m n
  of_done le lt (inl d) =
      let p = printed_first program entry arguments z n k turns_each le lt d.steps d.light in
      record {
        prints = (d.prints.0 ++ p.0, sym (append_assoc (run_from n m).at.printed d.prints.0 p.0) ∙ ap (λ q. q ++ p.0) d.prints.1 ∙ p.1);
        ends = inl d.goes_on;
      }
  of_done le lt (inr d) =
      let same = end_is program entry arguments z n k turns_each le lt d.steps d.end d.state d.there d.light in
      let ends_as : EndsAs r.end r.state (run_from n m) =
      subst (λ e. EndsAs e r.state (run_from n m)) (sym same.0) (subst (λ y. EndsAs d.end y (run_from n m)) (sym same.1) d.ends) in
      record { prints = ([], append-nil _ ∙ printed_at_end r.end r.state (run_from n m) ends_as); ends = inr ends_as }

  does : n ≤ k → n ≤ turns_each → StaysKnown lines_program l (Known known) z.arena.blocks at_first m n → DoesAs r m n
  does le lt stay =
      let long = law_of_weighing program n entry arguments z in
      of_done le lt
      (law_of_machine_runs lines_program l known z.arena.blocks (law_of_form program checked) good at_first m related (begins.procedure, begins.there) n long.0 stay long.1)

  in_time : IsSaid r.end → r.state.cost < z.cost + n → EndsAs r.end r.state (run_from n m)
  in_time h few =
      let c = (law_of_lines program k turns_each entry arguments z).ends (said_reached r.end h) in
      let f = law_of_runs lines_program l known z.arena.blocks (law_of_form program checked) good c.0 at_first m related in
      let cheap : f.count + z.cost ≤ r.state.cost = subst (λ t. f.count + z.cost ≤ (state_of t).cost) c.1 f.cheap in
      let at = subst (λ t. Relates lines_program l (Known known) z.arena.blocks t f.moment) c.1 f.relates in
      let e : n ≡ f.count + suc (n - f.count - 1) = omega (arith, cheap, few) in
      subst (λ x. EndsAs r.end r.state x) (sym (ap (λ i. run_from i m) e ∙ f.comes.whole (suc (n - f.count - 1))))
      (at_end lines_program l (Known known) z.arena.blocks r.end r.state f.moment (n - f.count - 1) h at)

pub law_of_program_runs : LawOfProgramRuns
law_of_program_runs program l known checked good entry arguments z m begins n k turns_each = record {
  does = does program l known checked good entry arguments z m begins n k turns_each;
  in_time = in_time program l known checked good entry arguments z m begins n k turns_each;
}
