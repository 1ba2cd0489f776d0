-- **What the run of an image prints, reads and leaves**, in an arena of so many words and for so many instructions.
use Rattle.std.specs.Prelude.{◌≡◌, ⊤, ◌<◌, ℕ, List, Option, Some, IfSome, slice_index}
use Rattle.rv_machine.specs.declared.image.Image.{Image}
use Rattle.rv_machine.specs.declared.ending.Ending.{Ending}
use Rattle.rv_machine.specs.declared.ending.Ending.TheVariants.{Budget, ReadFault, WriteFault}
use Rattle.rv_machine.specs.State.{State}
use Rattle.rv_machine.specs.Step.{environment_call, step_of}
use Rattle.rv_machine.specs.Run.{Moment, Ended, run_of, Gave, Feeds}
use Rattle.top_exec.specs.declared.image_run.ImageEnd.{ImageEnd}

-- what an output was given: before a call and after it, where it can be observed, and in how many writes
pub record Sent : Type 0 where
  pub before : Option (List ℕ)
  pub writes_before : ℕ
  pub after : Option (List ℕ)
  pub writes_after : ℕ

abbrev pub sent_to : Option (List ℕ) → ℕ → Option (List ℕ) → ℕ → Sent
sent_to before writes_before after writes_after = record {
  before = before;
  writes_before = writes_before;
  after = after;
  writes_after = writes_after;
}

-- the run of an image in an arena of so many words, for so many instructions
abbrev pub the_run : Image → (arena steps : ℕ) → List ℕ → Ended
the_run image arena steps input = run_of image.words image.entry arena input steps

-- an output that is observed was given all that was printed, each byte by a write of its own, and an input that told this tells what is left
pub record SaysAll (input : List ℕ) (m : Moment) (left left' : Option (List ℕ)) (sent : Sent) : Type 0 where
  pub given : IfSome sent.after (λ after. Gave sent.before sent.writes_before m.printed after sent.writes_after)
  pub rest : left ≡ Some input → left' ≡ Some m.input

-- a run that a fault has cut off before this environment call: fewer instructions had been executed by then, and what these printed was given
pub record RunIsCut (call : ℕ) (image : Image) (arena steps : ℕ) (left left' : Option (List ℕ)) (sent : Sent) : Type 0 where
  pub turns : ℕ
  pub below : turns < steps
  pub stood :
      (input : List ℕ) → Feeds left input (the_run image arena turns input)
      → ((the_run image arena turns input).ending ≡ Budget)
      × ((step_of (the_run image arena turns input).at.state ≡ environment_call call)
      × SaysAll input (the_run image arena turns input).at left left' sent)

-- a run ended so: with this number of a site in register 11, after so many instructions
pub record EndsAs (x : Ended) (e : ImageEnd) : Type 0 where
  pub ending : e.ending ≡ x.ending
  pub site : e.site ≡ slice_index x.at.state.registers 11
  pub executed : e.executed ≡ x.at.executed

-- what stands where a run came to this end: at a fault it was to get a byte, call 2, or to put one, call 1
abbrev pub ComesTo : Ending → Image → (arena steps : ℕ) → (left left' : Option (List ℕ)) → Sent → ImageEnd → Type 0
ComesTo ReadFault image arena steps left left' sent e = RunIsCut 2 image arena steps left left' sent
ComesTo WriteFault image arena steps left left' sent e = RunIsCut 1 image arena steps left left' sent
ComesTo ending image arena steps left left' sent e =
    (input : List ℕ) → Feeds left input (the_run image arena steps input)
    → EndsAs (the_run image arena steps input) e × SaysAll input (the_run image arena steps input).at left left' sent

abbrev pub ImageComes : Image → (arena steps : ℕ) → (left left' : Option (List ℕ)) → Sent → ImageEnd → Type 0
ImageComes image arena steps left left' sent e = ComesTo e.ending image arena steps left left' sent e

-- the state in which the run left the machine, where no fault ended it
abbrev pub LeavesState : Ending → Image → (arena steps : ℕ) → (left : Option (List ℕ)) → State → Type 0
LeavesState ReadFault image arena steps left s = ⊤
LeavesState WriteFault image arena steps left s = ⊤
LeavesState ending image arena steps left s =
    (input : List ℕ) → Feeds left input (the_run image arena steps input) → s ≡ (the_run image arena steps input).at.state

-- where the source rose in faults, and where the sink did: what a fault tells
abbrev pub FaultTells : Ending → (SourceRises SinkRises : Type 0) → Type 0
FaultTells ReadFault SourceRises SinkRises = SourceRises
FaultTells WriteFault SourceRises SinkRises = SinkRises
FaultTells ending SourceRises SinkRises = ⊤
