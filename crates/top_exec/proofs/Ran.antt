-- From what the machine's run of an image says to what a run of the image says.
use Rattle.std.proofs.Common.{◌≡◌, ℕ, List, refl, sym, ap, subst, ◌∙◌, arith}
use Rattle.std.specs.Prelude.{slice_index}
use Rattle.rv_machine.specs.declared.image.Image.{Image}
use Rattle.rv_machine.specs.declared.ending.Ending.{Ending}
use Rattle.rv_machine.specs.declared.ending.Ending.TheVariants.{Halt, Unhandled, Full, Budget, Trap, ReadFault, WriteFault}
use Rattle.rv_machine.specs.State.{State, Counted, start}
use Rattle.rv_machine.specs.Step.{environment_call, step_of}
use Rattle.rv_machine.specs.Run.{Moment, run_from, first, Feeds, Outside, IsNoFault, StandsAt, CutOff}
use Rattle.top_exec.specs.declared.image_run.ImageEnd.{ImageEnd}
use Rattle.top_exec.specs.Runs.{sent_to, the_run, SaysAll, RunIsCut, EndsAs, ComesTo, ImageComes, LeavesState}

-- what the machine says of a run of so many instructions of an image in an arena
pub record Ran (image : Image) (arena steps : ℕ) (ending : Ending) (old new : Counted) (o o' : Outside) : Type 1 where
  pub began : old.state ≡ start image.words image.entry arena
  pub counted : old.count ≡ 0
  pub is_ending : IsNoFault ending → (input : List ℕ) → Feeds o.left input (run_from steps (first old.state input)) → ending ≡ (run_from steps (first old.state input)).ending
  pub stands : IsNoFault ending → (input : List ℕ) → Feeds o.left input (run_from steps (first old.state input)) → StandsAt (run_from steps (first old.state input)).at input old new o o'
  pub ReadOther : Moment → Type 0
  pub read_fault : ending ≡ ReadFault → CutOff 2 steps old new o o' ReadOther
  pub WriteOther : Moment → Type 0
  pub write_fault : ending ≡ WriteFault → CutOff 1 steps old new o o' WriteOther

-- a call that cuts a run off
cut : (call : ℕ) (image : Image) (arena steps : ℕ) (old new : Counted) (o o' : Outside) (Other : Moment → Type 0) → old.state ≡ start image.words image.entry arena → CutOff call steps old new o o' Other
    → RunIsCut call image arena steps o.left o'.left (sent_to o.given o.writes o'.given o'.writes)
cut call image arena steps old new o o' Other began c = record {
  turns = c.turns;
  below = c.below;
  stood = λ input feeds.
      let fed : Feeds o.left input (run_from c.turns (first old.state input)) = subst (λ (s : State). Feeds o.left input (run_from c.turns (first s input))) (sym began) feeds in
      let stood = c.stands input fed in
      let here : step_of (run_from c.turns (first old.state input)).at.state ≡ environment_call call = subst (λ (s : State). step_of s ≡ environment_call call) stood.1.state c.before in
      let says : SaysAll input (run_from c.turns (first old.state input)).at o.left o'.left (sent_to o.given o.writes o'.given o'.writes) = record { given = stood.1.given; rest = stood.1.left } in
      subst
      (λ (s : State). ((run_from c.turns (first s input)).ending ≡ Budget) × ((step_of (run_from c.turns (first s input)).at.state ≡ environment_call call) × SaysAll input (run_from c.turns (first s input)).at o.left o'.left (sent_to o.given o.writes o'.given o'.writes)))
      began (stood.0, (here, says));
}

-- a machine that stood at the start of an image, and what was read off it at the end
module _ (image : Image) (arena steps : ℕ) (old new : Counted) (o o' : Outside) (e : ImageEnd) (site_is : e.site ≡ slice_index new.state.registers 11) (executed_is : e.executed ≡ new.count) where
  -- an end that is no fault, by an input that feeds the run
  fed : Ran image arena steps e.ending old new o o' → IsNoFault e.ending → (input : List ℕ) → Feeds o.left input (the_run image arena steps input)
      → EndsAs (the_run image arena steps input) e × SaysAll input (the_run image arena steps input).at o.left o'.left (sent_to o.given o.writes o'.given o'.writes)
  fed r plain input feeds =
      let there : Feeds o.left input (run_from steps (first old.state input)) = subst (λ (s : State). Feeds o.left input (run_from steps (first s input))) (sym r.began) feeds in
      let stands = r.stands plain input there in
      let count : new.count ≡ (run_from steps (first old.state input)).at.executed = omega (arith, stands.count, r.counted) in
      subst
      (λ (s : State). EndsAs (run_from steps (first s input)) e × SaysAll input (run_from steps (first s input)).at o.left o'.left (sent_to o.given o.writes o'.given o'.writes))
      r.began (
        record {
          ending = r.is_ending plain input there;
          site = site_is ∙ ap (λ (s : State). slice_index s.registers 11) stands.state;
          executed = executed_is ∙ count;
        },
        record { given = stands.given; rest = stands.left },
      )

  to : (ending : Ending) → e.ending ≡ ending → Ran image arena steps e.ending old new o o'
      → ComesTo ending image arena steps o.left o'.left (sent_to o.given o.writes o'.given o'.writes) e
  to (Halt word) is r = fed r (subst IsNoFault (sym is) tt)
  to (Unhandled class) is r = fed r (subst IsNoFault (sym is) tt)
  to (Full wanted room) is r = fed r (subst IsNoFault (sym is) tt)
  to Budget is r = fed r (subst IsNoFault (sym is) tt)
  to (Trap kind address) is r = fed r (subst IsNoFault (sym is) tt)
  to ReadFault is r = cut 2 image arena steps old new o o' r.ReadOther r.began (r.read_fault is)
  to WriteFault is r = cut 1 image arena steps old new o o' r.WriteOther r.began (r.write_fault is)

  -- the run came to the end that was read off the machine
  pub comes : Ran image arena steps e.ending old new o o' → ImageComes image arena steps o.left o'.left (sent_to o.given o.writes o'.given o'.writes) e
  comes r = to e.ending refl r

  -- and left the machine so
  stood : Ran image arena steps e.ending old new o o' → IsNoFault e.ending → (input : List ℕ) → Feeds o.left input (the_run image arena steps input)
      → new.state ≡ (the_run image arena steps input).at.state
  stood r plain input feeds =
      let there : Feeds o.left input (run_from steps (first old.state input)) = subst (λ (s : State). Feeds o.left input (run_from steps (first s input))) (sym r.began) feeds in
      (r.stands plain input there).state ∙ ap (λ (s : State). (run_from steps (first s input)).at.state) r.began

  left_so : (ending : Ending) → e.ending ≡ ending → Ran image arena steps e.ending old new o o' → LeavesState ending image arena steps o.left new.state
  left_so (Halt word) is r = stood r (subst IsNoFault (sym is) tt)
  left_so (Unhandled class) is r = stood r (subst IsNoFault (sym is) tt)
  left_so (Full wanted room) is r = stood r (subst IsNoFault (sym is) tt)
  left_so Budget is r = stood r (subst IsNoFault (sym is) tt)
  left_so (Trap kind address) is r = stood r (subst IsNoFault (sym is) tt)
  left_so ReadFault is r = tt
  left_so WriteFault is r = tt

  pub leaves : Ran image arena steps e.ending old new o o' → LeavesState e.ending image arena steps o.left new.state
  leaves r = left_so e.ending refl r
