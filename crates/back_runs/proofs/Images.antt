-- Ends, and runs of whole images.
use Rattle.std.proofs.Common.{inl, inr, ◌≡◌, ℕ, suc, ◌+◌, ◌-◌, ◌≤◌, List, [], ◌∷◌, ◌++◌, sym, ap, subst, ◌∙◌, arith}
use Rattle.std.specs.Prelude.{Bool, true, slice_index}
use Rattle.base.specs.Arithmetic.{sum32}
use Rattle.rv_encode.specs.declared.instruction.Instr.TheVariants.{Addi}
use Rattle.rv_machine.specs.Arithmetic.{sign_extended}
use Rattle.rv_machine.specs.Step.{gives}
use Rattle.rv_machine.specs.Run.{Moment, run_from}
use Rattle.mid_code.specs.declared.program.MidProgram.{MidProgram}
use Rattle.mid_code.specs.Arena.{Block}
use Rattle.mid_code.specs.Checked.{is_checked_program}
use Rattle.mid_code.specs.Meaning.{runs}
use Rattle.mid_code.specs.State.{MidState, charged, returns}
use Rattle.mid_lines.specs.declared.line.LineProgram.{LineProgram}
use Rattle.mid_lines.specs.Flattened.{program_lines}
use Rattle.back_places.specs.declared.place.Place.{Place}
use Rattle.back_places.specs.Places.{Located}
use Rattle.back_places.specs.Good.{IsGood}
use Rattle.back_places.specs.Relation.{EndsAt}
use Rattle.back_places.specs.StepLaw.{Comes, Known}
use Rattle.back_emission.specs.Moments.{state_at, Ready}
use Rattle.back_emission.proofs.Operands.{prepared_one}
use Rattle.back_emission.proofs.Ends.{holding, called_with}
use Rattle.back_runs.specs.Ends.{IsSaid, EndsAs}
use Rattle.back_runs.specs.ProgramRuns.{DoesAs}
use Rattle.back_runs.proofs.Ending.{at_end}
use Rattle.back_runs.proofs.Programs.{law_of_program_runs}
use Rattle.back_runs.specs.Laws.{loaded, Started, LawOfEnd, ImageRuns, LawOfImageRuns}
use Rattle.back_runs.proofs.FirstEntry.{ends_early}
use Rattle.back_runs.proofs.Starting.{law_of_start}

module _ (program : LineProgram) (l : Located) (Fact : (number line register : ℕ) → Place → Type 0) (first : List Block) where
  -- two instructions to the environment call, and the call
  halted :
      (z : MidState) (w : ℕ) (m m' : Moment) (more : ℕ) → Comes 2 m m' → EndsAt program l Fact first (returns w) (charged 0 z) m'
      → EndsAs (returns w) z (run_from (3 + more) m)
  halted z w m m' more comes at =
      let goes : run_from (3 + more) m ≡ run_from (suc more) m' = (let e : 3 + more ≡ 2 + suc more = omega arith in ap (λ n. run_from n m) e) ∙ comes.whole (suc more) in
      let free : z.cost + 0 ≡ z.cost = omega arith in
      subst (λ x. EndsAs (returns w) z x) (sym goes)
      (subst (λ k. EndsAs (returns w) (record z { cost = k }) (run_from (suc more) m')) free (at_end program l Fact first (returns w) (charged 0 z) m' more tt at))

pub law_of_end : LawOfEnd
law_of_end program l known first good z words m r pc more =
    let regs = m.state.registers in
    let w = slice_index regs 12 in
    let ready : Ready regs = record { long = r.long; zero_is = r.zero_is } in
    let below = r.registers_small 12 in
    let v10 : sum32 w (sign_extended 12 0) ≡ w = omega (arith, below) in
    let one = prepared_one words regs (Addi 10 12 0) 10 w r.arena.words_small ready (omega arith) (omega arith) below (λ i. ap (λ k. gives 10 k (state_at i regs words)) v10) in
    let c = called_with program l (Known known) first z 0 words m l.end_at (Addi 10 12 0 ∷ []) [] 0 one.registers' (holding program l (Known known) first z words m r) pc r.code.end
    one.sets one.ready (omega (arith, r.code.end.to, good.low)) (omega arith) in
    halted program l (Known known) first z w m c.1.moment' more c.1.comes
    (c.1.calls, ap (λ k. slice_index k 10) c.1.same ∙ c.2 10 (λ k. omega (arith, k)) (λ k. omega (arith, k)) ∙ one.holds)

-- what was done behind so many instructions, in which nothing is printed
module _ (program : MidProgram) (l : Located) (known : (number line register : ℕ) → Place → Bool) (checked : is_checked_program program ≡ true)
    (good : IsGood (program_lines program) l (Known known)) (at entry : ℕ) (image : List ℕ) (arena : ℕ) (input : List ℕ) (z : MidState)
    (s : Started (program_lines program) l (Known known) at entry image arena input z) where
  behind : (n k turns_each : ℕ) → DoesAs (runs program k turns_each entry [] z) s.moment n → DoesAs (runs program k turns_each entry [] z) (loaded image at arena input) (2 + n)
  behind n k turns_each d = record {
    prints = (d.prints.0, ap (λ x. x.at.printed ++ d.prints.0) (s.comes.whole n) ∙ d.prints.1);
    ends = elim d.ends [
      | inl b ↦ inl (ap (λ x. x.ending) (s.comes.whole n) ∙ b)
      | inr e ↦ inr (subst (λ x. EndsAs (runs program k turns_each entry [] z).end (runs program k turns_each entry [] z).state x) (sym (s.comes.whole n)) e)
    ];
  }

  in_time :
      (n k turns_each : ℕ) → IsSaid (runs program k turns_each entry [] z).end → (runs program k turns_each entry [] z).state.cost ≤ z.cost + n
      → EndsAs (runs program k turns_each entry [] z).end (runs program k turns_each entry [] z).state (run_from n (loaded image at arena input))
  in_time n k turns_each said few =
      let early = ends_early program l known checked good entry z s.moment s.begins k turns_each said in
      let e : n ≡ 2 + (early.count + suc (n - early.count - 3)) = omega (arith, early.cheap, few) in
      subst (λ x. EndsAs (runs program k turns_each entry [] z).end (runs program k turns_each entry [] z).state x)
      (sym (ap (λ i. run_from i (loaded image at arena input)) e ∙ s.comes.whole (early.count + suc (n - early.count - 3))))
      (early.ends (n - early.count - 3))

  image_runs : ImageRuns program l (Known known) at entry image arena input z
  image_runs =
      record {
        started = s;
        does = λ n k turns_each le lt stay.
            behind n k turns_each ((law_of_program_runs program l known checked good entry [] z s.moment s.begins n k turns_each).does le lt stay);
        in_time = in_time;
      }

pub law_of_image_runs : LawOfImageRuns
law_of_image_runs program l known checked good at entry image arena input z p i f e =
    image_runs program l known checked good at entry image arena input z
    (law_of_start (program_lines program) l known good at entry image arena input z p i f e)
