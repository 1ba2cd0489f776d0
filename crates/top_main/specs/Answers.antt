-- What a run or an evaluation of a program answers, what each action does with its text, what the words do, and what stands
-- then.
use Rattle.std.specs.Prelude.{◌≡◌, ◌≢◌, ◌⊎◌, ◌==◌, if◌then◌else◌, ⊤, ℕ, List, length, Option, Some, None}
use Rattle.base.specs.declared.place.Place.{Place}
use Rattle.base.specs.declared.reason.Refusal.{Refusal}
use Rattle.base.specs.Given.{WasGiven, WasGivenFront}
use Rattle.rv_machine.specs.declared.ending.Ending.{Ending}
use Rattle.rv_machine.specs.declared.ending.Ending.TheVariants as machine
use Rattle.rv_machine.specs.declared.image.Image.{Image}
use Rattle.rv_machine.specs.Run.{Feeds}
use Rattle.lang_meaning.specs.declared.program.ProgramRows.{ProgramRows}
use Rattle.lang_meaning.specs.declared.evaluation.EvaluationEnd.{EvaluationEnd}
use Rattle.lang_meaning.specs.declared.evaluation.EvaluationEnd.TheVariants as endings
use Rattle.lang_meaning.specs.Evaluates.{BreaksOff}
use Rattle.lang_meaning.specs.Meaning.{place_of_site}
use Rattle.lang_meaning.specs.State.{no_place}
use Rattle.top_command.specs.Command.{Request, asked}
use Rattle.top_command.specs.Wrong.{wrong_word}
use Rattle.top_command.specs.declared.command.Action.{Action}
use Rattle.top_command.specs.declared.command.Action.TheVariants.{Run, Show, Check, Build, Exec, Plain}
use Rattle.top_lines.specs.declared.status.CommandAnswer.{CommandAnswer}
use Rattle.top_lines.specs.declared.status.CommandAnswer.TheVariants as answer
use Rattle.top_lines.specs.declared.status.Status.{Status}
use Rattle.top_lines.specs.declared.status.Status.TheVariants.{Done, WriteFault}
use Rattle.top_lines.specs.Lines.{counts_line, ok_line}
use Rattle.top_exec.specs.Runs.{Sent, the_run}
use Rattle.top_exec.specs.Executes.{ExecAnswers}
use Rattle.top_main.specs.Theorem.{Offends, IsLarge, Came, Tells, RunsPrograms, FileEnds, FileIsLarge, FileBreaks, FileWarns, AreWarned, IsFileOf, FileBuilds, MakesText, class_text, name_of}
use Rattle.top_main.specs.Images.{AreBytes}
use Rattle.top_main.specs.declared.image_run.ProgramEnd.{ProgramEnd}
use Rattle.top_main.specs.declared.run.ProgramRun.{ProgramRun}

-- what is told where a program came to an end by a condition, and where memory was not wanting to tell it
abbrev pub EndTold : (Of : List ℕ → Type 0) → EvaluationEnd → (told : Option (List ℕ)) → Type 0
EndTold Of (endings.Unhandled class site) (Some text) = Of text
EndTold Of (endings.Unhandled class site) None = ⊤
EndTold Of end told = ⊤

-- the answer of a program that came to an end, by a condition of which this is told: with these names, within so many levels or instructions; to tell of a
-- condition, and to name its class, takes memory
abbrev pub EndAnswers : CommandAnswer → EvaluationEnd → (told : Option (List ℕ)) → List (List ℕ) → ProgramRows → (steps : ℕ) → Type 0
EndAnswers a endings.Value told names program steps = a ≡ answer.Done
EndAnswers a (endings.Unhandled class site) told names program steps =
    ((text : List ℕ) × ((told ≡ Some text) × (a ≡ answer.Unhandled (class_text names program class) site text))) ⊎ (a ≡ answer.NoMemory)
EndAnswers a (endings.Full wanted room) told names program steps = a ≡ answer.ArenaFull wanted room
EndAnswers a endings.More told names program steps = a ≡ answer.Budget steps
EndAnswers a endings.Spent told names program steps = a ≡ answer.Spent
EndAnswers a endings.ReadFault told names program steps = a ≡ answer.ReadFault
EndAnswers a endings.WriteFault told names program steps = a ≡ answer.WriteFault

-- what is to be written, and whether it was given so
pub record Wrote (Bytes : List ℕ → Type 0) (Given : Option (List ℕ) → List ℕ → Option (List ℕ) → Type 0) (given given' : Option (List ℕ)) : Type 0 where
  pub bytes : List ℕ
  pub are : Bytes bytes
  pub given_so : Given given bytes given'

-- the answer of an action that runs nothing: where all was written, or a front of it; which refusals the text has, and which text that is; where the shelf or the output rose in
-- faults, where the outside is the same, and where no image is kept
abbrev pub WrittenAnswers : CommandAnswer → (All Front : Type 0) → (Bad : Refusal → List ℕ → Type 0) → (ShelfRises Rises Same Unkept : Type 0) → Type 0
WrittenAnswers answer.Done All Front Bad ShelfRises Rises Same Unkept = All
WrittenAnswers answer.WriteFault All Front Bad ShelfRises Rises Same Unkept = Rises × Front
WrittenAnswers (answer.Refused r text) All Front Bad ShelfRises Rises Same Unkept = Bad r text × (Same × Unkept)
WrittenAnswers answer.FileFault All Front Bad ShelfRises Rises Same Unkept = ShelfRises × (Same × Unkept)
WrittenAnswers answer.NoMemory All Front Bad ShelfRises Rises Same Unkept = Same
WrittenAnswers (answer.Budget n) All Front Bad ShelfRises Rises Same Unkept = ⊥
WrittenAnswers (answer.Usage word) All Front Bad ShelfRises Rises Same Unkept = ⊥
WrittenAnswers (answer.Checked warnings) All Front Bad ShelfRises Rises Same Unkept = ⊥
WrittenAnswers (answer.Unhandled class site told) All Front Bad ShelfRises Rises Same Unkept = ⊥
WrittenAnswers (answer.UnhandledClass class site) All Front Bad ShelfRises Rises Same Unkept = ⊥
WrittenAnswers (answer.ArenaFull wanted room) All Front Bad ShelfRises Rises Same Unkept = ⊥
WrittenAnswers answer.Spent All Front Bad ShelfRises Rises Same Unkept = ⊥
WrittenAnswers answer.ReadFault All Front Bad ShelfRises Rises Same Unkept = ⊥
WrittenAnswers (answer.BadImage reason) All Front Bad ShelfRises Rises Same Unkept = ⊥
WrittenAnswers (answer.Trap kind address) All Front Bad ShelfRises Rises Same Unkept = ⊥

-- the answer of `build` for a text, of which the bytes of its image file are to be written
abbrev pub WriteAnswers : CommandAnswer → (held : Option (List ℕ)) → (kept : Option Image) → (given given' : Option (List ℕ)) → (ShelfRises Rises Same : Type 0) → Type 0
WriteAnswers a held kept given given' ShelfRises Rises Same =
    WrittenAnswers a (Wrote (FileBuilds held kept) WasGiven given given') (Wrote (FileBuilds held kept) WasGivenFront given given') (Offends Build held) ShelfRises Rises Same (kept ≡ None)

-- the answer of `check` for a text, which writes nothing yet: where the shelf rose in faults
abbrev pub CheckAnswers : CommandAnswer → (held : Option (List ℕ)) → (ShelfRises : Type 0) → Type 0
CheckAnswers (answer.Checked lines) held ShelfRises = FileWarns held lines
CheckAnswers (answer.Refused r text) held ShelfRises = Offends Check held r text
CheckAnswers answer.FileFault held ShelfRises = ShelfRises
CheckAnswers answer.NoMemory held ShelfRises = ⊤
CheckAnswers a held ShelfRises = ⊥

-- the answer for a program: what it is warned of, for which memory may be wanting
abbrev pub IsWarnedOf : CommandAnswer → List (List ℕ) → ProgramRows → Type 0
IsWarnedOf (answer.Checked lines) names program = AreWarned names program lines
IsWarnedOf answer.NoMemory names program = ⊤
IsWarnedOf a names program = ⊥

-- `ok` is written where the warnings were: all of it, or a front; else nothing, and the status stays
abbrev pub SaysOk : (status result : Status) → (given given' : Option (List ℕ)) → (Rises Same : Type 0) → Type 0
SaysOk status result given given' Rises Same =
    ((status ≢ Done) × ((result ≡ status) × Same))
    ⊎ (((status ≡ Done) × ((result ≡ Done) × WasGiven given ok_line given'))
    ⊎ ((status ≡ Done) × ((result ≡ WriteFault) × (Rises × WasGivenFront given ok_line given'))))

-- the answer where these bytes were written, or a front of them
abbrev pub BytesAnswers : CommandAnswer → (bytes : List ℕ) → (given given' : Option (List ℕ)) → (Rises : Type 0) → Type 0
BytesAnswers a bytes given given' Rises = WrittenAnswers a (WasGiven given bytes given') (WasGivenFront given bytes given') (λ r text. ⊥) ⊥ Rises ⊥ ⊥

-- the answer for a program of which the bytes of its image file are to be written
abbrev pub BuildAnswers : CommandAnswer → (names : List (List ℕ)) (program : ProgramRows) → (kept : Option Image) → (given given' : Option (List ℕ)) → (Rises Same : Type 0) → Type 0
BuildAnswers a names program kept given given' Rises Same =
    WrittenAnswers a (Wrote (IsFileOf names program kept) WasGiven given given') (Wrote (IsFileOf names program kept) WasGivenFront given given') (λ r text. ⊥) ⊥ Rises Same ⊥

-- the place that is told of a site by its number, where 0 is that of none
abbrev pub site_told : List Place → ℕ → Place
site_told sites number = if number == 0 then no_place else place_of_site sites number

-- the end that is told of a run that ended so, with this number of a site; one that traps, which no run does of which anything is known, is told as
-- one that goes on
abbrev pub end_told : List Place → (site : ℕ) → Ending → EvaluationEnd
end_told sites site (machine.Halt word) = endings.Value
end_told sites site (machine.Unhandled class) = endings.Unhandled class (site_told sites site)
end_told sites site (machine.Full wanted room) = endings.Full wanted room
end_told sites site machine.Budget = endings.More
end_told sites site (machine.Trap kind address) = endings.More
end_told sites site machine.ReadFault = endings.ReadFault
end_told sites site machine.WriteFault = endings.WriteFault

-- how many instructions a run executed, where it came to a value
abbrev pub Executed : Image → (arena steps : ℕ) → (left : Option (List ℕ)) → ProgramEnd → Type 0
Executed image arena steps left e =
    e.end ≡ endings.Value → (input : List ℕ) → AreBytes input → Feeds left input (the_run image arena steps input)
    → e.executed ≡ (the_run image arena steps input).at.executed

-- how many words the image has that was kept, and how many instructions its run executed, where it came to a value
abbrev pub IsCounted : (kept : Option Image) → (arena steps : ℕ) → (left : Option (List ℕ)) → ProgramRun → Type 0
IsCounted kept arena steps left r =
    r.answer ≡ answer.Done → (image : Image) → kept ≡ Some image
    → (r.words ≡ length image.words)
    × ((input : List ℕ) → AreBytes input → Feeds left input (the_run image arena steps input)
    → r.executed ≡ (the_run image arena steps input).at.executed)

-- the answer for a program that is run or evaluated within so many instructions or levels: where it comes to an end, or to a condition whose class
-- has a name, at a site, and of which this is told; where its image is too large, or its evaluation breaks off; which refusals its text has, and which text that is; where the shelf, the source or the output
-- rose in faults; where the outside is the same, and no image is kept
abbrev pub EndedAnswers : CommandAnswer → (steps : ℕ) → (Ends : EvaluationEnd → Type 0) → (Signals : List ℕ → Place → List ℕ → Type 0) → (Large : ℕ → ℕ → Type 0) → (Breaks : Type 0) → (Bad : Refusal → List ℕ → Type 0) → (ShelfRises SourceRises Rises Same Unkept : Type 0) → Type 0
EndedAnswers answer.Done steps Ends Signals Large Breaks Bad ShelfRises SourceRises Rises Same Unkept = Ends endings.Value
EndedAnswers (answer.Unhandled class site told) steps Ends Signals Large Breaks Bad ShelfRises SourceRises Rises Same Unkept = Signals class site told
EndedAnswers (answer.ArenaFull wanted room) steps Ends Signals Large Breaks Bad ShelfRises SourceRises Rises Same Unkept =
    Ends (endings.Full wanted room) ⊎ (Large wanted room × Same)
EndedAnswers (answer.Budget n) steps Ends Signals Large Breaks Bad ShelfRises SourceRises Rises Same Unkept = (n ≡ steps) × Ends endings.More
EndedAnswers answer.Spent steps Ends Signals Large Breaks Bad ShelfRises SourceRises Rises Same Unkept = Ends endings.Spent
EndedAnswers answer.ReadFault steps Ends Signals Large Breaks Bad ShelfRises SourceRises Rises Same Unkept = SourceRises × Ends endings.ReadFault
EndedAnswers answer.WriteFault steps Ends Signals Large Breaks Bad ShelfRises SourceRises Rises Same Unkept = Rises × Ends endings.WriteFault
EndedAnswers (answer.Refused r text) steps Ends Signals Large Breaks Bad ShelfRises SourceRises Rises Same Unkept = Bad r text × (Same × Unkept)
EndedAnswers answer.FileFault steps Ends Signals Large Breaks Bad ShelfRises SourceRises Rises Same Unkept = ShelfRises × (Same × Unkept)
EndedAnswers answer.NoMemory steps Ends Signals Large Breaks Bad ShelfRises SourceRises Rises Same Unkept =
    Same ⊎ (((class : ℕ) × ((site : Place) × Ends (endings.Unhandled class site))) ⊎ Breaks)
EndedAnswers (answer.Usage word) steps Ends Signals Large Breaks Bad ShelfRises SourceRises Rises Same Unkept = ⊥
EndedAnswers (answer.Checked warnings) steps Ends Signals Large Breaks Bad ShelfRises SourceRises Rises Same Unkept = ⊥
EndedAnswers (answer.UnhandledClass class site) steps Ends Signals Large Breaks Bad ShelfRises SourceRises Rises Same Unkept = ⊥
EndedAnswers (answer.BadImage reason) steps Ends Signals Large Breaks Bad ShelfRises SourceRises Rises Same Unkept = ⊥
EndedAnswers (answer.Trap kind address) steps Ends Signals Large Breaks Bad ShelfRises SourceRises Rises Same Unkept = ⊥

-- a program comes to a condition of a class of that name, of which this is told
pub record ProgramSignals (action : Action) (names : List (List ℕ)) (program : ProgramRows) (kept : Option Image) (arena steps : ℕ) (left left' : Option (List ℕ)) (sent : Sent) (name : List ℕ) (site : Place) (told : List ℕ) : Type 0 where
  pub class : ℕ
  pub came : Came action names program kept arena steps left left' sent (endings.Unhandled class site)
  pub named : name ≡ class_text names program class
  pub tells : Tells action names program kept arena steps left left' told

-- its image, which was to run, has so many words, and the arena has only so many
pub record ProgramIsLarge (action : Action) (names : List (List ℕ)) (program : ProgramRows) (kept : Option Image) (arena : ℕ) (wanted room : ℕ) : Type 0 where
  pub runs : RunsPrograms action
  pub is_large : IsLarge names program kept arena
  pub wanted_is : wanted ≡ length is_large.built.image.words
  pub room_is : room ≡ arena

-- its evaluation breaks off
pub record ProgramBreaks (action : Action) (names : List (List ℕ)) (program : ProgramRows) (kept : Option Image) (arena levels : ℕ) (left left' : Option (List ℕ)) (sent : Sent) : Type 0 where
  pub is_plain : action ≡ Plain
  pub unbuilt : kept ≡ None
  pub breaks_off : BreaksOff (record { names = names; program = program; levels = levels; words = arena }) left left' sent.before sent.after

-- the answer for a program
abbrev pub ProgramAnswers : CommandAnswer → Action → (names : List (List ℕ)) (program : ProgramRows) → (kept : Option Image) → (arena steps : ℕ) → (left left' : Option (List ℕ)) → Sent → (SourceRises Rises Same : Type 0) → Type 0
ProgramAnswers a action names program kept arena steps left left' sent SourceRises Rises Same =
    EndedAnswers a steps (Came action names program kept arena steps left left' sent) (ProgramSignals action names program kept arena steps left left' sent) (ProgramIsLarge action names program kept arena) (ProgramBreaks action names program kept arena steps left left' sent) (λ r text. ⊥) ⊥ SourceRises Rises Same ⊥

-- the file's text is a whole program, which comes to a condition of a class of that name, of which this is told
pub record FileSignals (action : Action) (held : Option (List ℕ)) (kept : Option Image) (arena steps : ℕ) (left left' : Option (List ℕ)) (sent : Sent) (name : List ℕ) (site : Place) (told : List ℕ) : Type 0 where
  pub class : ℕ
  pub ends : FileEnds action held kept arena steps left left' sent (endings.Unhandled class site)
  pub named : name ≡ class_text ends.whole.names ends.whole.program class
  pub tells : Tells action ends.whole.names ends.whole.program kept arena steps left left' told

-- one whose image, which was to run, has so many words, and the arena has only so many
pub record FileIsLargeSo (action : Action) (held : Option (List ℕ)) (kept : Option Image) (arena : ℕ) (wanted room : ℕ) : Type 0 where
  pub runs : RunsPrograms action
  pub large : FileIsLarge action held kept arena
  pub wanted_is : wanted ≡ length large.is_large.built.image.words
  pub room_is : room ≡ arena

-- the answer for a file to run or to evaluate
abbrev pub FileAnswers : CommandAnswer → Action → (held : Option (List ℕ)) → (kept : Option Image) → (arena steps : ℕ) → (left left' : Option (List ℕ)) → Sent → (ShelfRises SourceRises Rises Same : Type 0) → Type 0
FileAnswers a action held kept arena steps left left' sent ShelfRises SourceRises Rises Same =
    EndedAnswers a steps (FileEnds action held kept arena steps left left' sent) (FileSignals action held kept arena steps left left' sent) (FileIsLargeSo action held kept arena) ((action ≡ Plain) × FileBreaks action held kept arena steps left left' sent) (Offends action held) ShelfRises SourceRises Rises Same (kept ≡ None)

-- the answer of `make` for a program of so many nodes whose run was answered so: behind a value the counts were told, or a front of them
abbrev pub MadeAnswers : CommandAnswer → ProgramRun → (nodes : ℕ) → (given given' : Option (List ℕ)) → (Rises Same : Type 0) → Type 0
MadeAnswers a run nodes given given' Rises Same =
    ((run.answer ≡ answer.Done) × BytesAnswers a (counts_line nodes run.words run.executed) given given' Rises)
    ⊎ ((run.answer ≢ answer.Done) × ((a ≡ run.answer) × Same))

-- the actions that run the program of a file
abbrev pub RunsFiles : Action → Type 0
RunsFiles Run = ⊤
RunsFiles Show = ⊤
RunsFiles action = ⊥

-- the answer to a command
pub data Obeys (a : CommandAnswer) (c : Request) (held : Option (List ℕ)) (kept : Option Image) (left left' : Option (List ℕ)) (sent : Sent) (ShelfRises SourceRises Rises Same InputSame ShelfSame : Type 0) : Type 0 where
  was_ended : RunsPrograms c.action → (MakesText c.action → ShelfSame) → FileAnswers a c.action held kept c.arena c.steps left left' sent ShelfRises SourceRises Rises (Same × InputSame)
      → Obeys a c held kept left left' sent ShelfRises SourceRises Rises Same InputSame ShelfSame
  was_plain : c.action ≡ Plain → kept ≡ None → FileAnswers a Plain held None c.arena c.steps left left' sent ShelfRises SourceRises Rises (Same × InputSame)
      → Obeys a c held kept left left' sent ShelfRises SourceRises Rises Same InputSame ShelfSame
  was_check : c.action ≡ Check → InputSame → Same → kept ≡ None → CheckAnswers a held ShelfRises
      → Obeys a c held kept left left' sent ShelfRises SourceRises Rises Same InputSame ShelfSame
  was_build : c.action ≡ Build → InputSame → WriteAnswers a held kept sent.before sent.after ShelfRises Rises Same
      → Obeys a c held kept left left' sent ShelfRises SourceRises Rises Same InputSame ShelfSame
  was_exec : c.action ≡ Exec → kept ≡ None → ExecAnswers a held c.arena c.steps left left' sent ShelfRises SourceRises Rises (Same × InputSame)
      → Obeys a c held kept left left' sent ShelfRises SourceRises Rises Same InputSame ShelfSame

-- the answer to words, of which a line calls the text so: they are no command, or memory was wanting to tell, or a command was obeyed
pub data WordsAnswers (a : CommandAnswer) (name : List ℕ) (words : List (List ℕ)) (holds : List ℕ → Option (List ℕ)) (kept : Option Image) (left left' : Option (List ℕ)) (sent : Sent) (ShelfRises SourceRises Rises Same InputSame ShelfSame : Type 0) : Type 0 where
  was_usage : a ≡ answer.Usage (wrong_word words) → asked words ≡ None → ShelfSame → Same → InputSame → kept ≡ None
      → WordsAnswers a name words holds kept left left' sent ShelfRises SourceRises Rises Same InputSame ShelfSame
  was_untold : a ≡ answer.NoMemory → ShelfSame → Same → InputSame → kept ≡ None
      → WordsAnswers a name words holds kept left left' sent ShelfRises SourceRises Rises Same InputSame ShelfSame
  was_asked : (c : Request) → asked words ≡ Some c → name ≡ name_of c → Obeys a c (holds c.file) kept left left' sent ShelfRises SourceRises Rises Same InputSame ShelfSame
      → WordsAnswers a name words holds kept left left' sent ShelfRises SourceRises Rises Same InputSame ShelfSame
