-- Runs of lines and of instructions, step by step.
use Rattle.std.proofs.Common.{◌≡◌, ℕ, zero, suc, ◌+◌, List, refl, subst, arith}
use Rattle.std.specs.Prelude.{Option, Some}
use Rattle.rv_machine.specs.Run.{Moment}
use Rattle.mid_code.specs.declared.operation.Operation.TheVariants.{Call}
use Rattle.mid_code.specs.Arena.{Block}
use Rattle.mid_lines.specs.declared.line.Line.{Line}
use Rattle.mid_lines.specs.declared.line.Line.TheVariants.{Do, Jump}
use Rattle.mid_lines.specs.declared.line.LineProgram.{LineProgram}
use Rattle.mid_lines.specs.Lines.{line_of}
use Rattle.mid_lines.specs.LineMeaning.{Stage, running, entering, ended, next, after}
use Rattle.mid_lines.specs.Weights as weighs
use Rattle.mid_lines.specs.Weights.{weights}
use Rattle.mid_lines.proofs.Coming.{after_end}
use Rattle.back_places.specs.declared.place.Place.{Place}
use Rattle.back_places.specs.Places.{Located}
use Rattle.back_places.specs.Relation.{Relates}
use Rattle.back_places.specs.StepLaw.{Follows, IsLawful, Known, weight, line_weight}
use Rattle.back_emission.proofs.Coming.{stays, and_on}
use Rattle.back_steps.proofs.AllLines.{law_of_steps}
use Rattle.back_runs.specs.Runs.{FollowsRun, LawOfRuns}

-- the weight of a line, and of a stage, is the same in both crates that speak of it
same_line : (line : ℕ) (o : Option Line) → line_weight line o ≡ weighs.line_weight line o
same_line line (Some (Do (Call to callee arguments))) = refl
same_line line (Some (Jump to)) = refl
same_line line o = refl

pub same_weight : (program : LineProgram) (s : Stage) → weight program s ≡ weighs.weight program s
same_weight program (running a line rs callers z) = same_line line (line_of program a.procedure line)
same_weight program (entering number arguments callers z) = refl
same_weight program (ended e z) = refl

-- a stage after which a run is lawful is so
pub lawful_before : (program : LineProgram) (n : ℕ) (s : Stage) → IsLawful (after program n s) → IsLawful s
lawful_before program n (running a line rs callers z) h = tt
lawful_before program n (entering number arguments callers z) h = tt
lawful_before program n (ended e z) h = subst (λ t. IsLawful t) (after_end program n e z) h

module _ (program : LineProgram) (l : Located) (Fact : (number line register : ℕ) → Place → Type 0) (first : List Block) where
  pub no_steps : (s : Stage) (m : Moment) → Relates program l Fact first s m → FollowsRun program l Fact first s m 0
  unfolding after weights
  no_steps s m r = record { count = 0; moment = m; comes = stays m; relates = r; cheap = omega arith; heavy = λ h. omega arith }

  pub no_count : (s : Stage) (m : Moment) (r : Relates program l Fact first s m) → (no_steps s m r).count ≡ 0
  unfolding no_steps
  no_count s m r = refl

  -- a step, and a run behind it
  pub then_run :
      (s : Stage) (m : Moment) (steps : ℕ) → Relates program l Fact first s m → (f : Follows program l Fact first s m) → FollowsRun program l Fact first (next program s) f.moment steps
      → FollowsRun program l Fact first s m (suc steps)
  unfolding after weights
  then_run s m steps r f g = record {
    count = f.count + g.count;
    moment = g.moment;
    comes = and_on f.comes g.comes;
    relates = g.relates;
    cheap = omega (arith, f.cheap, g.cheap);
    heavy = λ h. omega (arith, g.heavy h, f.heavy (lawful_before program steps (next program s) h), same_weight program s);
  }

  pub then_count :
      (s : Stage) (m : Moment) (steps : ℕ) (r : Relates program l Fact first s m) (f : Follows program l Fact first s m) (g : FollowsRun program l Fact first (next program s) f.moment steps)
      → (then_run s m steps r f g).count ≡ f.count + g.count
  unfolding then_run
  then_count s m steps r f g = refl

pub law_of_runs : LawOfRuns
law_of_runs program l known first checked good steps s m r = by steps s m r
  where
    by : (steps : ℕ) (s : Stage) (m : Moment) → Relates program l (Known known) first s m → FollowsRun program l (Known known) first s m steps
    by zero s m r = no_steps program l (Known known) first s m r
    by (suc steps) s m r =
        let f = law_of_steps program l known first checked good s m r in
        then_run program l (Known known) first s m steps r f (by steps (next program s) f.moment f.relates)
