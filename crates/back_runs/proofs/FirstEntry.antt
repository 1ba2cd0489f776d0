-- The entry of the first procedure costs more than its instructions: what is left pays for the start, and for the environment call at the end.
use Rattle.std.proofs.Common.{◌≡◌, ℕ, zero, suc, ◌+◌, ◌≤◌, Bool, true, [], refl, sym, subst, arith}
use Rattle.rv_machine.specs.Run.{Moment, run_from}
use Rattle.mid_code.specs.declared.program.MidProgram.{MidProgram}
use Rattle.mid_code.specs.Checked.{is_checked_program}
use Rattle.mid_code.specs.State.{MidState, MidOutcome}
use Rattle.mid_code.specs.Meaning.{runs}
use Rattle.mid_lines.specs.declared.line.LineProgram.{LineProgram}
use Rattle.mid_lines.specs.LineMeaning.{Stage, ended, next, state_of, begin, after}
use Rattle.mid_lines.specs.Flattened.{program_lines}
use Rattle.mid_lines.proofs.Checking.{law_of_form}
use Rattle.mid_lines.proofs.LineLaws.{law_of_lines}
use Rattle.back_places.specs.declared.place.Place.{Place}
use Rattle.back_places.specs.Places.{Located}
use Rattle.back_places.specs.Good.{IsGood}
use Rattle.back_places.specs.Relation.{Relates}
use Rattle.back_places.specs.StepLaw.{Known}
use Rattle.back_emission.proofs.Coming.{and_on}
use Rattle.back_steps.proofs.Entries.{EntersWell, enters_well}
use Rattle.back_runs.specs.Ends.{IsSaid, EndsAs}
use Rattle.back_runs.specs.ProgramRuns.{Begins}
use Rattle.back_runs.proofs.Ending.{at_end}
use Rattle.back_runs.proofs.Following.{law_of_runs}
use Rattle.back_runs.proofs.Programs.{said_reached}

-- The machine ends as a run of a program that costs so much, three instructions earlier.
pub record EndsEarly (program : MidProgram) (entry : ℕ) (z : MidState) (m : Moment) (r : MidOutcome) : Type 0 where
  pub count : ℕ
  pub cheap : count + 3 + z.cost ≤ r.state.cost
  pub ends : (more : ℕ) → EndsAs r.end r.state (run_from (count + suc more) m)

module _ (program : MidProgram) (l : Located) (known : (number line register : ℕ) → Place → Bool) (checked : is_checked_program program ≡ true)
    (good : IsGood (program_lines program) l (Known known)) (entry : ℕ) (z : MidState) (m : Moment)
    (begins : Begins (program_lines program) l (Known known) entry [] z m) (k turns_each : ℕ) where
  abbrev r : MidOutcome
  r = runs program k turns_each entry [] z

  abbrev at_first : Stage
  at_first = begin entry [] z

  abbrev lines : LineProgram
  lines = program_lines program

  well : EntersWell lines l (Known known) z.arena.blocks at_first m
  well = enters_well lines l (Known known) z.arena.blocks (law_of_form program checked) good entry [] [] z m begins.procedure begins.there refl begins.enters

  -- a run ends after its first step
  behind_entry : (steps : ℕ) → after lines steps at_first ≡ ended r.end r.state → IsSaid r.end → EndsEarly program entry z m r
  unfolding after
  behind_entry zero e h = absurd (cc e)
  behind_entry (suc steps) e h =
      let f = law_of_runs lines l known z.arena.blocks (law_of_form program checked) good steps (next lines at_first) well.moment well.relates in
      let cheap : f.count + (state_of (next lines at_first)).cost ≤ r.state.cost = subst (λ t. f.count + (state_of (next lines at_first)).cost ≤ (state_of t).cost) e f.cheap in
      let at = subst (λ t. Relates lines l (Known known) z.arena.blocks t f.moment) e f.relates in
      let both = and_on well.comes f.comes in
      record {
        count = well.count + f.count;
        cheap = omega (arith, cheap, well.cheap);
        ends = λ more.
            subst (λ x. EndsAs r.end r.state x) (sym (both.whole (suc more))) (at_end lines l (Known known) z.arena.blocks r.end r.state f.moment more h at);
      }

  pub ends_early : IsSaid r.end → EndsEarly program entry z m r
  ends_early h =
      let c = (law_of_lines program k turns_each entry [] z).ends (said_reached r.end h) in
      behind_entry c.0 c.1 h
