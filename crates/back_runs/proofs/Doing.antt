-- What so many instructions have done, step of lines by step.
use Rattle.std.proofs.Common.{inl, inr, ◌≡◌, ◌⊎◌, ℕ, zero, suc, ◌+◌, ◌-◌, ◌<◌, ◌≤◌, List, [], ◌++◌, refl, sym, ap, ◌∙◌, subst, arith, Option, Some, None, append-nil}
use Rattle.std.specs.Prelude.{Bool, true, false, nat_le, slice_get, if◌then◌else◌}
use Rattle.std.proofs.lemmas.Bool.{cases_lt}
use Rattle.rv_machine.specs.Run.{Moment, run_from}
use Rattle.mid_code.specs.declared.operation.Operation.TheVariants.{Call}
use Rattle.mid_code.specs.Arena.{Block}
use Rattle.mid_code.specs.State.{MidState, End, falls, returns, cuts, no_room, no_level, no_turn, halts, unhandled, exhausted, stuck}
use Rattle.mid_lines.specs.declared.line.Line.{Line}
use Rattle.mid_lines.specs.declared.line.Line.TheVariants.{Do, Jump}
use Rattle.mid_lines.specs.declared.line.LineProcedure.{LineProcedure}
use Rattle.mid_lines.specs.declared.line.LineProgram.{LineProgram}
use Rattle.mid_lines.specs.Lines.{line_of}
use Rattle.mid_lines.specs.LinesChecked.{is_checked_line_program}
use Rattle.mid_lines.specs.LineMeaning.{Caller, Stage, running, entering, ended, state_of, next, after}
use Rattle.mid_lines.specs.Weights as weighs
use Rattle.mid_lines.specs.Weights.{weights}
use Rattle.back_places.specs.declared.place.Place.{Place}
use Rattle.back_places.specs.Places.{Located}
use Rattle.back_places.specs.Good.{IsGood}
use Rattle.back_places.specs.Relation.{EntersIn, Relates}
use Rattle.back_places.specs.StepLaw.{Follows, IsLawful, Known}
use Rattle.back_steps.proofs.AllLines.{law_of_steps}
use Rattle.back_runs.specs.Ends.{IsSaid, EndsAs}
use Rattle.back_runs.specs.MachineRuns.{IsKnown, HasCome, StaysKnown, HasDone, LawOfKnownSteps, LawOfMachineRuns}
use Rattle.back_runs.proofs.Following.{same_weight, no_steps, no_count, then_run, then_count}
use Rattle.back_runs.proofs.Ending.{at_end}

-- a step weighs at most 1

line_weighs : (line : ℕ) (o : Option Line) → weighs.line_weight line o ≤ 1
line_weighs line (Some (Do (Call to callee arguments))) = omega arith
line_weighs line (Some (Jump to)) = by (nat_le to line)
  where
    by : (t : Bool) → (if t then 1 else 0) ≤ 1
    by true = omega arith
    by false = omega arith
line_weighs line other = omega arith

pub step_weighs : (program : LineProgram) (s : Stage) → weighs.weight program s ≤ 1
step_weighs program (running a line rs callers z) = line_weighs line (line_of program a.procedure line)
step_weighs program (entering number arguments callers z) = omega arith
step_weighs program (ended e z) = omega arith

-- a stage of which the machine's moment is known is lawful
pub known_lawful : (program : LineProgram) (s : Stage) → IsKnown program s → IsLawful s
known_lawful program (running a line rs callers z) k = tt
known_lawful program (entering number arguments callers z) k = tt
known_lawful program (ended stuck z) k = k
known_lawful program (ended e z) k = tt

module _ (program : LineProgram) (l : Located) (Fact : (number line register : ℕ) → Place → Type 0) (first : List Block) where
  -- what was printed at a moment that is known
  printed_entering :
      (o : Option LineProcedure) (p : LineProcedure) (number : ℕ) (arguments : List ℕ) (callers : List Caller) (z : MidState) (m : Moment) → o ≡ Some p
      → EntersIn program l Fact first o number arguments callers z m → m.printed ≡ z.printed
  printed_entering None p number arguments callers z m e r = absurd (cc e)
  printed_entering (Some q) p number arguments callers z m e r = r.machine.printed

  pub printed_is : (s : Stage) (m : Moment) → Relates program l Fact first s m → IsKnown program s → m.printed ≡ (state_of s).printed
  unfolding run_from
  printed_is (running a line rs callers z) m r k = r.1.machine.printed
  printed_is (entering number arguments callers z) m r k = printed_entering (slice_get program.procedures number) k.0 number arguments callers z m k.1 r.1
  printed_is (ended (returns w) z) m r k = r.0.printed
  printed_is (ended (halts w) z) m r k = r.0.printed
  printed_is (ended (unhandled class site condition) z) m r k = r.0.printed
  printed_is (ended (no_room asked left) z) m r k = r.0.printed
  printed_is (ended falls z) m r k = absurd r
  printed_is (ended (cuts n w) z) m r k = absurd r
  printed_is (ended no_level z) m r k = absurd r
  printed_is (ended no_turn z) m r k = absurd r
  printed_is (ended exhausted z) m r k = r.printed 0
  printed_is (ended stuck z) m r k = absurd k

  -- an end to which lines come, where it is known
  said : (e : End) (z : MidState) (m : Moment) → Relates program l Fact first (ended e z) m → IsKnown program (ended e z) → IsSaid e
  said (returns w) z m r k = tt
  said (halts w) z m r k = tt
  said (unhandled class site condition) z m r k = tt
  said (no_room asked left) z m r k = tt
  said falls z m r k = r
  said (cuts n w) z m r k = r
  said no_level z m r k = r
  said no_turn z m r k = r
  said exhausted z m r k = tt
  said stuck z m r k = k

  -- no instruction
  here : (s : Stage) (m : Moment) → Relates program l Fact first s m → IsKnown program s → HasDone program l Fact first s m 0
  unfolding after weights run_from
  here s m r k = inl (record { steps = 0; light = omega arith; goes_on = refl; prints = ([], append-nil m.printed ∙ printed_is s m r k) })

  -- the end of lines, and one instruction or more
  at_last : (e : End) (z : MidState) (m : Moment) (q : ℕ) → Relates program l Fact first (ended e z) m → IsKnown program (ended e z) → HasDone program l Fact first (ended e z) m (suc q)
  unfolding after weights
  at_last e z m q r k =
      inr (record { steps = 0; end = e; state = z; there = refl; light = omega arith; ends = at_end program l Fact first e z m q (said e z m r k) r })

  -- so many instructions that are inside of a step
  inside :
      (s : Stage) (m : Moment) (n : ℕ) (f : Follows program l Fact first s m) → 0 < n → n ≤ f.count → IsKnown program (next program s)
      → HasDone program l Fact first s m n
  unfolding after weights
  inside s m n f some few k =
      let w = f.comes.within n few in
      inl (record {
        steps = 1;
        light = omega (arith, some, step_weighs program s);
        goes_on = f.comes.goes_on n few;
        prints = (w.0, w.1 ∙ printed_is (next program s) f.moment f.relates k);
      })

  -- so many instructions behind a step
  behind :
      (s : Stage) (m : Moment) (n r : ℕ) (f : Follows program l Fact first s m) → n ≡ f.count + r → IsLawful (next program s)
      → HasDone program l Fact first (next program s) f.moment r → HasDone program l Fact first s m n
  unfolding after weights
  behind s m n r f e h (inl d) =
      let same : run_from n m ≡ run_from r f.moment = ap (λ x. run_from x m) e ∙ f.comes.whole r in
      inl (record {
        steps = suc d.steps;
        light = omega (arith, e, d.light, f.heavy h, same_weight program s);
        goes_on = ap (λ x. x.ending) same ∙ d.goes_on;
        prints = (d.prints.0, ap (λ x. x.at.printed ++ d.prints.0) same ∙ d.prints.1);
      })
  behind s m n r f e h (inr d) =
      let same : run_from n m ≡ run_from r f.moment = ap (λ x. run_from x m) e ∙ f.comes.whole r in
      inr (record {
        steps = suc d.steps;
        end = d.end;
        state = d.state;
        there = d.there;
        light = omega (arith, e, d.light, f.heavy h, same_weight program s);
        ends = subst (λ x. EndsAs d.end d.state x) (sym same) d.ends;
      })

  -- what is known from a stage on is known behind a step
  stays_behind :
      (s : Stage) (m : Moment) (n r : ℕ) → Relates program l Fact first s m → (f : Follows program l Fact first s m) → n ≡ f.count + r → StaysKnown program l Fact first s m n
      → StaysKnown program l Fact first (next program s) f.moment r
  unfolding after
  stays_behind s m n r at f e stay steps g few k =
      stay (suc steps) (then_run program l Fact first s m steps at f g) (omega (arith, e, few, then_count program l Fact first s m steps at f g)) k

  -- steps that weigh enough, or come to an end, do so behind a step
  covers :
      (s : Stage) (m : Moment) (n r steps : ℕ) (f : Follows program l Fact first s m) → n ≡ f.count + r → IsLawful (next program s)
      → (n < weights program (suc steps) s) ⊎ HasCome (after program (suc steps) s)
      → (r < weights program steps (next program s)) ⊎ HasCome (after program steps (next program s))
  unfolding after weights
  covers s m n r steps f e h (inl long) = inl (omega (arith, e, long, f.heavy h, same_weight program s))
  covers s m n r steps f e h (inr come) = inr come

module _ (program : LineProgram) (l : Located) (known : (number line register : ℕ) → Place → Bool) (first : List Block)
    (checked : is_checked_line_program program ≡ true) (good : IsGood program l (Known known)) where
  -- what is to be shown, with so many steps of lines
  abbrev DoesIn : ℕ → Type 0
  DoesIn steps =
      (s : Stage) (m : Moment) (n : ℕ) → Relates program l (Known known) first s m → IsKnown program s → StaysKnown program l (Known known) first s m n
      → (n < weights program steps s) ⊎ HasCome (after program steps s) → HasDone program l (Known known) first s m n

  -- a step, where at least one instruction is left, and what comes behind it
  a_step :
      (steps : ℕ) → DoesIn steps → (s : Stage) (m : Moment) (n : ℕ) → Relates program l (Known known) first s m → IsKnown program (next program s)
      → StaysKnown program l (Known known) first s m (suc n) → (suc n < weights program (suc steps) s) ⊎ HasCome (after program (suc steps) s)
      → HasDone program l (Known known) first s m (suc n)
  a_step steps rest s m n r k stay c =
      let f = law_of_steps program l known first checked good s m r in
      by f (cases_lt f.count (suc n))
    where
      by : (f : Follows program l (Known known) first s m) → (f.count < suc n) ⊎ (suc n ≤ f.count) → HasDone program l (Known known) first s m (suc n)
      by f (inr few) = inside program l (Known known) first s m (suc n) f (omega arith) few k
      by f (inl more) =
          let e : suc n ≡ f.count + (suc n - f.count) = omega (arith, more) in
          let h = known_lawful program (next program s) k in
          behind program l (Known known) first s m (suc n) (suc n - f.count) f e h
          (rest (next program s) f.moment (suc n - f.count) f.relates k
          (stays_behind program l (Known known) first s m (suc n) (suc n - f.count) r f e stay)
          (covers program l (Known known) first s m (suc n) (suc n - f.count) steps f e h c))

  -- the next stage, where an instruction is left
  next_known :
      (s : Stage) (m : Moment) (n : ℕ) → Relates program l (Known known) first s m → IsKnown program s → StaysKnown program l (Known known) first s m (suc n)
      → IsKnown program (next program s)
  unfolding after
  next_known s m n r k stay = stay 0 (no_steps program l (Known known) first s m r) (omega (arith, no_count program l (Known known) first s m r)) k

  -- no step is spoken of
  at_once :
      (s : Stage) (m : Moment) (n : ℕ) → Relates program l (Known known) first s m → IsKnown program s
      → (suc n < weights program 0 s) ⊎ HasCome (after program 0 s) → HasDone program l (Known known) first s m (suc n)
  unfolding after weights
  at_once s m n r k (inl long) = absurd (omega (arith, long))
  at_once (running a line rs callers z) m n r k (inr come) = absurd come
  at_once (entering number arguments callers z) m n r k (inr come) = absurd come
  at_once (ended e z) m n r k (inr come) = at_last program l (Known known) first e z m n r k

  does : (steps : ℕ) → DoesIn steps
  does steps s m zero r k stay c = here program l (Known known) first s m r k
  does zero s m (suc n) r k stay c = at_once s m n r k c
  does (suc steps) (ended e z) m (suc n) r k stay c = at_last program l (Known known) first e z m n r k
  does (suc steps) (running a line rs callers z) m (suc n) r k stay c =
      a_step steps (does steps) (running a line rs callers z) m n r (next_known (running a line rs callers z) m n r k stay) stay c
  does (suc steps) (entering number arguments callers z) m (suc n) r k stay c =
      a_step steps (does steps) (entering number arguments callers z) m n r (next_known (entering number arguments callers z) m n r k stay) stay c

pub law_of_machine_runs : LawOfMachineRuns
law_of_machine_runs program l known first checked good s m r k n steps stay c = does program l known first checked good steps s m n r k stay c

pub law_of_known_steps : LawOfKnownSteps
law_of_known_steps program l known first s m n known_steps steps f few here =
    let h = known_lawful program (after program steps s) here in
    known_steps steps (omega (arith, few, f.heavy h)) here
