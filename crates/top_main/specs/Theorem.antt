-- The theorem of the top call: what stands after `isl_main` has answered, status by status.
--
-- It names the words of the command (`Command`), the verdict on a text (`front_files`) behind the library (`front_library`), what a program is
-- warned of (`lang_warnings`), the text of `make`
-- (`top_made`), what is told of a condition (`lang_told`), the meaning of a program and what an evaluation reads and prints and how it ends by it (`lang_meaning`), the machine and its runs
-- (`rv_machine`, `Runs`), what the image of a program does by its meaning (`Images`), the bytes of image files (`rv_image_file`) and what is told of one
-- that is run (`Executes`), and the lines of statuses (`Lines`), and nothing of how code is made or a program is evaluated.
use Rattle.std.specs.Prelude.{◌≡◌, ◌≢◌, ◌⊎◌, ⊤, ℕ, ◌<◌, ◌≤◌, List, [], length, slice_get, map, Option, Some, None, codes}
use Rattle.base.specs.declared.place.Place.{Place}
use Rattle.base.specs.declared.reason.Refusal.{Refusal}
use Rattle.base.specs.Given.{WasGiven, WasGivenFront}
use Rattle.rv_machine.specs.declared.image.Image.{Image}
use Rattle.rv_machine.specs.declared.ending.Ending.TheVariants.{Budget, Full}
use Rattle.rv_machine.specs.Run.{Ended, Feeds}
use Rattle.rv_image_file.specs.ImageText.{ImageText}
use Rattle.rv_image_file.specs.declared.faults.BadImage.{BadImage as ImageFault}
use Rattle.front_files.specs.declared.mode.Mode.{Mode}
use Rattle.front_files.specs.declared.mode.Mode.TheVariants as mode
use Rattle.front_files.specs.Verdicts.{Accepts as AcceptsWhole, Refuses as RefusesWhole}
use Rattle.front_library.specs.declared.text.TheConstants.{PRELUDE}
use Rattle.lang_meaning.specs.declared.program.ProgramRows.{ProgramRows}
use Rattle.lang_meaning.specs.State.{unlimited}
use Rattle.lang_meaning.specs.Meaning.{meaning}
use Rattle.lang_meaning.specs.Primitives.{class_name}
use Rattle.lang_meaning.specs.ProgramCounts.{program_nodes}
use Rattle.lang_meaning.specs.Lookup.{text as text_in}
use Rattle.lang_warnings.specs.declared.warning.Warning.{Warning}
use Rattle.lang_warnings.specs.Warnings.{AreWarnings}
use Rattle.lang_meaning.specs.declared.evaluation.EvaluationEnd.{EvaluationEnd}
use Rattle.lang_meaning.specs.declared.evaluation.EvaluationEnd.TheVariants as endings
use Rattle.lang_meaning.specs.Evaluates.{Evaluates, BreaksOff}
use Rattle.lang_meaning.specs.Evaluation.{Evaluation, meaning_with, Taken, Begins, WasTaken}
use Rattle.lang_told.specs.Ends.{TellsEnd}
use Rattle.top_command.specs.Command.{Request, asked}
use Rattle.top_command.specs.Wrong.{wrong_word}
use Rattle.top_command.specs.declared.command.Action.{Action}
use Rattle.top_command.specs.declared.command.Action.TheVariants.{Run, Show, Check, Build, Exec, Plain, Make}
use Rattle.top_lines.specs.declared.status.Status.{Status}
use Rattle.top_lines.specs.declared.status.CommandAnswer.{CommandAnswer}
use Rattle.top_lines.specs.declared.status.WarningLine.{WarningLine}
use Rattle.top_lines.specs.Lines.{usage_line, unhandled_line, refusal_lines, arena_full_line, budget_line, spent_line, read_fault_line, bad_image_line, ok_line, warning_lines, counts_line, line_of, status_of}
use Rattle.top_made.specs.Text.{text_of as made_text}
use Rattle.top_exec.specs.Loads.{IsTextTaken}
use Rattle.top_exec.specs.Runs.{Sent, sent_to, the_run, SaysAll, RunIsCut}
use Rattle.top_exec.specs.Executes.{Executes, IsLargeFile, IsBadFile}
use Rattle.top_main.specs.Images.{AreBytes, Halts, Signals, IsImageOf}

-- The text

-- the library of the language, which stands in front of every text
abbrev pub library : List ℕ
library = PRELUDE.now

-- how an action judges it: `show` with the value of its last form printed
abbrev pub mode_of : Action → Mode
mode_of Show = mode.Show
mode_of action = mode.Run

-- which text it judges: what was taken of the file, or for `make` that of a number
abbrev pub IsTextOf : Action → (held : Option (List ℕ)) → List ℕ → Type 0
IsTextOf (Make n) held text = text ≡ made_text n
IsTextOf action held text = IsTextTaken held text

-- what a line calls it: the file, as the command has it, or `make`
abbrev pub called : Action → (file : List ℕ) → List ℕ
called (Make n) file = codes "make"
called action file = file

abbrev pub name_of : Request → List ℕ
name_of command = called command.action command.file

-- and that of words, where they are a command
abbrev pub name_in : Option Request → List ℕ
name_in None = []
name_in (Some command) = name_of command

-- a text is a whole program of the language behind the library
pub record IsWhole (action : Action) (text : List ℕ) : Type 0 where
  pub names : List (List ℕ)
  pub program : ProgramRows
  pub accepts : AcceptsWhole library text (mode_of action) names program

-- the text is refused so, and is none
pub record Offends (action : Action) (held : Option (List ℕ)) (refusal : Refusal) (text : List ℕ) : Type 0 where
  pub is_text : IsTextOf action held text
  pub refuses : RefusesWhole library text (mode_of action) refusal

-- A program and its image

-- the image that was kept is that of the program: in every arena that has room for it, and with every input of bytes, it does what the program means
pub record Built (names : List (List ℕ)) (program : ProgramRows) (kept : Option Image) : Type 0 where
  pub image : Image
  pub is_kept : kept ≡ Some image
  pub is_image : IsImageOf names program image

-- it has more words than the arena, so that nothing runs
pub record IsLarge (names : List (List ℕ)) (program : ProgramRows) (kept : Option Image) (arena : ℕ) : Type 0 where
  pub built : Built names program kept
  pub large : arena < length built.image.words

-- how a run has ended, beside what the program means with as many levels and with no limit of words
abbrev pub RunEnds : (names : List (List ℕ)) (program : ProgramRows) → EvaluationEnd → (steps : ℕ) → List ℕ → Ended → Type 0
RunEnds names program endings.Value steps input x = Halts (meaning names program input steps unlimited) x
RunEnds names program (endings.Unhandled class site) steps input x =
    (u : Signals program (meaning names program input steps unlimited) x) × ((u.class ≡ class) × (u.place ≡ site))
RunEnds names program (endings.Full wanted room) steps input x = x.ending ≡ Full wanted room
RunEnds names program endings.More steps input x = x.ending ≡ Budget
RunEnds names program endings.Spent steps input x = ⊥
RunEnds names program endings.ReadFault steps input x = ⊥
RunEnds names program endings.WriteFault steps input x = ⊥

-- what stands where a run came to this end: at a fault it was to get a byte, call 2, or to put one, call 1
abbrev pub RunComes : (names : List (List ℕ)) (program : ProgramRows) → Image → (arena steps : ℕ) → (left left' : Option (List ℕ)) → Sent → EvaluationEnd → Type 0
RunComes names program image arena steps left left' sent endings.ReadFault = RunIsCut 2 image arena steps left left' sent
RunComes names program image arena steps left left' sent endings.WriteFault = RunIsCut 1 image arena steps left left' sent
RunComes names program image arena steps left left' sent end =
    (input : List ℕ) → AreBytes input → Feeds left input (the_run image arena steps input)
    → RunEnds names program end steps input (the_run image arena steps input)
    × SaysAll input (the_run image arena steps input).at left left' sent

-- its image was kept and fits the arena, and its run came to this end
pub record RunCame (names : List (List ℕ)) (program : ProgramRows) (kept : Option Image) (arena steps : ℕ) (left left' : Option (List ℕ)) (sent : Sent) (end : EvaluationEnd) : Type 0 where
  pub built : Built names program kept
  pub fits : length built.image.words ≤ arena
  pub comes : RunComes names program built.image arena steps left left' sent end

-- By `make` it came to a value, and then a line of counts was given so: of the nodes of the program, the words of the image, and the
-- instructions that were executed
pub record Counts (Given : Option (List ℕ) → List ℕ → Option (List ℕ) → Type 0) (names : List (List ℕ)) (program : ProgramRows) (kept : Option Image) (arena steps : ℕ) (left left' : Option (List ℕ)) (sent : Sent) : Type 0 where
  pub between : Option (List ℕ)
  pub writes_between : ℕ
  pub ran : RunCame names program kept arena steps left left' (sent_to sent.before sent.writes_before between writes_between) endings.Value
  pub counts :
      (input : List ℕ) → AreBytes input → Feeds left input (the_run ran.built.image arena steps input)
      → Given between (counts_line (program_nodes program) (length ran.built.image.words) (the_run ran.built.image arena steps input).at.executed) sent.after

-- by `make` its run came to this end, and behind a value the counts were told; the output may have been cut off in these
abbrev pub MakeCame : (names : List (List ℕ)) (program : ProgramRows) → (kept : Option Image) → (arena steps : ℕ) → (left left' : Option (List ℕ)) → Sent → EvaluationEnd → Type 0
MakeCame names program kept arena steps left left' sent endings.Value = Counts WasGiven names program kept arena steps left left' sent
MakeCame names program kept arena steps left left' sent endings.WriteFault =
    RunCame names program kept arena steps left left' sent endings.WriteFault ⊎ Counts WasGivenFront names program kept arena steps left left' sent
MakeCame names program kept arena steps left left' sent end = RunCame names program kept arena steps left left' sent end

-- How a program came to an end: by `run`, `show` and `make` its image ran; by `plain` it was evaluated, and no image is kept
abbrev pub Came : Action → (names : List (List ℕ)) (program : ProgramRows) → (kept : Option Image) → (arena steps : ℕ) → (left left' : Option (List ℕ)) → Sent → EvaluationEnd → Type 0
Came Run names program kept arena steps left left' sent end = RunCame names program kept arena steps left left' sent end
Came Show names program kept arena steps left left' sent end = RunCame names program kept arena steps left left' sent end
Came (Make n) names program kept arena steps left left' sent end = MakeCame names program kept arena steps left left' sent end
Came Plain names program kept arena steps left left' sent end =
    (kept ≡ None) × Evaluates (record { names = names; program = program; levels = steps; words = arena }) left left' sent.before sent.after end
Came Check names program kept arena steps left left' sent end = ⊥
Came Build names program kept arena steps left left' sent end = ⊥
Came Exec names program kept arena steps left left' sent end = ⊥

-- What is told of the condition by which a program ended

-- where its image ran, which was kept: by each input that feeds the run
pub record ImageTells (names : List (List ℕ)) (program : ProgramRows) (kept : Option Image) (arena steps : ℕ) (left : Option (List ℕ)) (told : List ℕ) : Type 0 where
  pub image : Image
  pub is_kept : kept ≡ Some image
  pub tells :
      (input : List ℕ) → AreBytes input → Feeds left input (the_run image arena steps input)
      → TellsEnd names program (meaning names program input steps unlimited) told

-- where it was evaluated: by each input that begins with what was read, and ends there where the end of the source was met
pub record EvaluationTells (e : Evaluation) (left left' : Option (List ℕ)) (told : List ℕ) : Type 0 where
  pub taken : Taken
  pub was_taken : WasTaken left taken left'
  pub tells : (input : List ℕ) → Begins taken input → TellsEnd e.names e.program (meaning_with e input) told

abbrev pub Tells : Action → (names : List (List ℕ)) (program : ProgramRows) → (kept : Option Image) → (arena steps : ℕ) → (left left' : Option (List ℕ)) → (told : List ℕ) → Type 0
Tells Run names program kept arena steps left left' told = ImageTells names program kept arena steps left told
Tells Show names program kept arena steps left left' told = ImageTells names program kept arena steps left told
Tells (Make n) names program kept arena steps left left' told = ImageTells names program kept arena steps left told
Tells Plain names program kept arena steps left left' told =
    EvaluationTells (record { names = names; program = program; levels = steps; words = arena }) left left' told
Tells Check names program kept arena steps left left' told = ⊥
Tells Build names program kept arena steps left left' told = ⊥
Tells Exec names program kept arena steps left left' told = ⊥

-- the actions that run the image of a program
abbrev pub RunsPrograms : Action → Type 0
RunsPrograms Run = ⊤
RunsPrograms Show = ⊤
RunsPrograms (Make n) = ⊤
RunsPrograms action = ⊥

-- the text is a whole program, which came to this end
pub record FileEnds (action : Action) (held : Option (List ℕ)) (kept : Option Image) (arena steps : ℕ) (left left' : Option (List ℕ)) (sent : Sent) (end : EvaluationEnd) : Type 0 where
  pub text : List ℕ
  pub is_text : IsTextOf action held text
  pub whole : IsWhole action text
  pub came : Came action whole.names whole.program kept arena steps left left' sent end

-- one whose image has more words than the arena
pub record FileIsLarge (action : Action) (held : Option (List ℕ)) (kept : Option Image) (arena : ℕ) : Type 0 where
  pub text : List ℕ
  pub is_text : IsTextOf action held text
  pub whole : IsWhole action text
  pub is_large : IsLarge whole.names whole.program kept arena

-- one whose evaluation broke off for want of memory
pub record FileBreaks (action : Action) (held : Option (List ℕ)) (kept : Option Image) (arena levels : ℕ) (left left' : Option (List ℕ)) (sent : Sent) : Type 0 where
  pub text : List ℕ
  pub is_text : IsTextOf action held text
  pub whole : IsWhole action text
  pub unbuilt : kept ≡ None
  pub breaks_off : BreaksOff (record { names = whole.names; program = whole.program; levels = levels; words = arena }) left left' sent.before sent.after

-- these are the bytes of the image file, in version 2, of the image of a program, which was kept, with the sites of the program
pub record IsFileOf (names : List (List ℕ)) (program : ProgramRows) (kept : Option Image) (bytes : List ℕ) : Type 0 where
  pub built : Built names program kept
  pub is_file : ImageText bytes 2 built.image program.sites

-- the text is a whole program, of which they are
pub record FileBuilds (held : Option (List ℕ)) (kept : Option Image) (bytes : List ℕ) : Type 0 where
  pub text : List ℕ
  pub is_text : IsTextOf Build held text
  pub whole : IsWhole Build text
  pub is_file_of : IsFileOf whole.names whole.program kept bytes

-- a warning with the name in words
abbrev pub worded : List (List ℕ) → Warning → WarningLine
worded names w = record { place = w.place; name = text_in names w.name.0; fault = w.fault }

-- these are all that a program is warned of, in the order of places
pub record AreWarned (names : List (List ℕ)) (program : ProgramRows) (lines : List WarningLine) : Type 0 where
  pub warnings : List Warning
  pub are : AreWarnings names program warnings
  pub lines_are : lines ≡ map (worded names) warnings

-- the text to check is a whole program, which is warned of them
pub record FileWarns (held : Option (List ℕ)) (lines : List WarningLine) : Type 0 where
  pub text : List ℕ
  pub is_text : IsTextOf Check held text
  pub whole : IsWhole Check text
  pub warned : AreWarned whole.names whole.program lines

-- the lines that tell so of a text that is called so
pub record IsWarned (file : List ℕ) (held : Option (List ℕ)) (told : List ℕ) : Type 0 where
  pub lines : List WarningLine
  pub warns : FileWarns held lines
  pub told_is : told ≡ warning_lines file lines

-- what an action that runs nothing has to give to the output, and to tell: `check` the line `ok`, where it leaves no image, and its warnings; `build`
-- an image file, and nothing
abbrev pub Writes : Action → (file : List ℕ) (held : Option (List ℕ)) → (kept : Option Image) → (bytes told : List ℕ) → Type 0
Writes Check file held kept bytes told = IsWarned file held told × ((kept ≡ None) × (bytes ≡ ok_line))
Writes Build file held kept bytes told = FileBuilds held kept bytes × (told ≡ [])
Writes action file held kept bytes told = ⊥

-- an end that a line tells
abbrev pub HasLine : EvaluationEnd → Type 0
HasLine endings.Value = ⊥
HasLine (endings.Unhandled class site) = ⊤
HasLine (endings.Full wanted room) = ⊤
HasLine endings.More = ⊤
HasLine endings.Spent = ⊤
HasLine endings.ReadFault = ⊤
HasLine endings.WriteFault = ⊥

-- the text of the name of a class of a program with these names; empty where there is no such class
abbrev pub class_text : List (List ℕ) → ProgramRows → ℕ → List ℕ
class_text names program class = class_name names (slice_get program.classes class)

-- The statuses of `run`, `show`, `make` and `plain`. A call has these command words, a shelf that holds these files, where it can be observed, and leaves this
-- image; its input had this left before and has that after; its output was sent this, and its error output had these bytes before and has those after
-- it.

-- the command names a text to run or to evaluate that is a whole program, which came to this end
pub record IsEnded (words : List (List ℕ)) (holds : List ℕ → Option (List ℕ)) (kept : Option Image) (left left' : Option (List ℕ)) (sent : Sent) (end : EvaluationEnd) : Type 0 where
  pub command : Request
  pub asked_for : asked words ≡ Some command
  pub ends : FileEnds command.action (holds command.file) kept command.arena command.steps left left' sent end

-- Done: it ended with a value, and all that the program prints was given, and by `make` the counts
pub record IsDone (words : List (List ℕ)) (holds : List ℕ → Option (List ℕ)) (kept : Option Image) (left left' : Option (List ℕ)) (sent : Sent) (said said' : Option (List ℕ)) : Type 0 where
  pub ended : IsEnded words holds kept left left' sent endings.Value
  pub line : WasGiven said [] said'

-- Unhandled: it ended by a condition that no handler took; the line says where in which file it was signalled, of which class, and what is told of it
pub record IsUnhandled (words : List (List ℕ)) (holds : List ℕ → Option (List ℕ)) (kept : Option Image) (left left' : Option (List ℕ)) (sent : Sent) (said said' : Option (List ℕ)) : Type 0 where
  pub class : ℕ
  pub site : Place
  pub ended : IsEnded words holds kept left left' sent (endings.Unhandled class site)
  pub told : List ℕ
  pub tells : Tells ended.command.action ended.ends.whole.names ended.ends.whole.program kept ended.command.arena ended.command.steps left left' told
  pub line : WasGiven said (unhandled_line (name_of ended.command) (class_text ended.ends.whole.names ended.ends.whole.program class) site told) said'

-- Arena full: it ended for want of words; the line says how many were asked for, and how many were left
pub record IsArenaFull (words : List (List ℕ)) (holds : List ℕ → Option (List ℕ)) (kept : Option Image) (left left' : Option (List ℕ)) (sent : Sent) (said said' : Option (List ℕ)) : Type 0 where
  pub wanted : ℕ
  pub room : ℕ
  pub ended : IsEnded words holds kept left left' sent (endings.Full wanted room)
  pub line : WasGiven said (arena_full_line wanted room) said'

-- or the image has more words than the arena; the line says how many each has
pub record IsTooLarge (words : List (List ℕ)) (holds : List ℕ → Option (List ℕ)) (kept : Option Image) (said said' : Option (List ℕ)) : Type 0 where
  pub command : Request
  pub asked_for : asked words ≡ Some command
  pub runs : RunsPrograms command.action
  pub large : FileIsLarge command.action (holds command.file) kept command.arena
  pub line : WasGiven said (arena_full_line (length large.is_large.built.image.words) command.arena) said'

-- Budget: a run did not end within its instructions, or an evaluation ended for want of levels; the line says how many there were
pub record IsBudget (words : List (List ℕ)) (holds : List ℕ → Option (List ℕ)) (kept : Option Image) (left left' : Option (List ℕ)) (sent : Sent) (said said' : Option (List ℕ)) : Type 0 where
  pub ended : IsEnded words holds kept left left' sent endings.More
  pub line : WasGiven said (budget_line ended.command.steps) said'

-- or an evaluation counted more units than there are forms that may begin
pub record IsSpent (words : List (List ℕ)) (holds : List ℕ → Option (List ℕ)) (kept : Option Image) (left left' : Option (List ℕ)) (sent : Sent) (said said' : Option (List ℕ)) : Type 0 where
  pub ended : IsEnded words holds kept left left' sent endings.Spent
  pub line : WasGiven said spent_line said'

-- Read fault: the input failed where a byte of it was wanted
pub record IsReadFault (words : List (List ℕ)) (holds : List ℕ → Option (List ℕ)) (kept : Option Image) (left left' : Option (List ℕ)) (sent : Sent) (said said' : Option (List ℕ)) : Type 0 where
  pub ended : IsEnded words holds kept left left' sent endings.ReadFault
  pub line : WasGiven said read_fault_line said'

-- Write fault on the way: the output was cut off behind a beginning of what the program prints, or by `make` in the counts
pub record IsCutOff (words : List (List ℕ)) (holds : List ℕ → Option (List ℕ)) (kept : Option Image) (left left' : Option (List ℕ)) (sent : Sent) : Type 0 where
  pub ended : IsEnded words holds kept left left' sent endings.WriteFault

-- No memory: it ended by a condition that could not be told
pub record IsUnnamed (words : List (List ℕ)) (holds : List ℕ → Option (List ℕ)) (kept : Option Image) (left left' : Option (List ℕ)) (sent : Sent) : Type 0 where
  pub class : ℕ
  pub site : Place
  pub ended : IsEnded words holds kept left left' sent (endings.Unhandled class site)

-- or an evaluation broke off, and the output was given a beginning of what the program prints
pub record IsBroken (words : List (List ℕ)) (holds : List ℕ → Option (List ℕ)) (kept : Option Image) (left left' : Option (List ℕ)) (sent : Sent) : Type 0 where
  pub command : Request
  pub asked_for : asked words ≡ Some command
  pub is_plain : command.action ≡ Plain
  pub breaks : FileBreaks command.action (holds command.file) kept command.arena command.steps left left' sent

-- a run or an evaluation came to an end of which the line is still to be written
pub record IsUntold (words : List (List ℕ)) (holds : List ℕ → Option (List ℕ)) (kept : Option Image) (left left' : Option (List ℕ)) (sent : Sent) : Type 0 where
  pub end : EvaluationEnd
  pub has_line : HasLine end
  pub ended : IsEnded words holds kept left left' sent end

-- The statuses of `check` and `build`, which run nothing

-- Done: the command names a file to check or to build that is a whole program, and just the line `ok`, or the bytes of its image file, were given; a
-- check has told its warnings
pub record IsWritten (words : List (List ℕ)) (holds : List ℕ → Option (List ℕ)) (kept : Option Image) (sent : Sent) (said said' : Option (List ℕ)) : Type 0 where
  pub command : Request
  pub asked_for : asked words ≡ Some command
  pub bytes : List ℕ
  pub told : List ℕ
  pub writes : Writes command.action (name_of command) (holds command.file) kept bytes told
  pub printed : WasGiven sent.before bytes sent.after
  pub line : WasGiven said told said'

-- Write fault of these, of which a front was given
pub record IsWrittenCutOff (words : List (List ℕ)) (holds : List ℕ → Option (List ℕ)) (kept : Option Image) (sent : Sent) : Type 0 where
  pub command : Request
  pub asked_for : asked words ≡ Some command
  pub bytes : List ℕ
  pub told : List ℕ
  pub writes : Writes command.action (name_of command) (holds command.file) kept bytes told
  pub printed : WasGivenFront sent.before bytes sent.after

-- Refused, by any action that judges a text: it is no whole program; the lines say where in which file its first offence stands, which it is, and why, and
-- show the place
pub record IsRefused (words : List (List ℕ)) (holds : List ℕ → Option (List ℕ)) (said said' : Option (List ℕ)) : Type 0 where
  pub command : Request
  pub asked_for : asked words ≡ Some command
  pub refusal : Refusal
  pub text : List ℕ
  pub offends : Offends command.action (holds command.file) refusal text
  pub line : WasGiven said (refusal_lines (name_of command) text refusal) said'

-- The statuses of `exec`, of which no image is left

-- the command names an image file to run, and this is told of its run
pub record IsExecuted (words : List (List ℕ)) (holds : List ℕ → Option (List ℕ)) (kept : Option Image) (left left' : Option (List ℕ)) (sent : Sent) (told : CommandAnswer) : Type 0 where
  pub command : Request
  pub asked_for : asked words ≡ Some command
  pub is_exec : command.action ≡ Exec
  pub unkept : kept ≡ None
  pub executes : Executes (holds command.file) command.arena command.steps left left' sent told

-- this status, with its line: Done, Unhandled, Arena full, Budget, Trap, or Read fault
pub record IsExecutedSo (words : List (List ℕ)) (holds : List ℕ → Option (List ℕ)) (kept : Option Image) (left left' : Option (List ℕ)) (sent : Sent) (said said' : Option (List ℕ)) (status : Status) : Type 0 where
  pub told : CommandAnswer
  pub executed : IsExecuted words holds kept left left' sent told
  pub status_is : status ≡ status_of told
  pub line : WasGiven said (line_of (name_of executed.command) told) said'

-- a run came to an end of which a line is to be written
pub record IsExecutedUntold (words : List (List ℕ)) (holds : List ℕ → Option (List ℕ)) (kept : Option Image) (left left' : Option (List ℕ)) (sent : Sent) : Type 0 where
  pub told : CommandAnswer
  pub executed : IsExecuted words holds kept left left' sent told
  pub has_line : line_of (name_of executed.command) told ≢ []

-- Arena full too: the image has more words than the arena; the line says how many each has
pub record IsLargeImage (words : List (List ℕ)) (holds : List ℕ → Option (List ℕ)) (kept : Option Image) (said said' : Option (List ℕ)) : Type 0 where
  pub command : Request
  pub asked_for : asked words ≡ Some command
  pub is_exec : command.action ≡ Exec
  pub unkept : kept ≡ None
  pub large : IsLargeFile (holds command.file) command.arena
  pub line : WasGiven said (arena_full_line (length large.file.image.words) command.arena) said'

-- Bad image: the command names a file to run that is no image file; the line says why
pub record IsBadImage (words : List (List ℕ)) (holds : List ℕ → Option (List ℕ)) (kept : Option Image) (said said' : Option (List ℕ)) : Type 0 where
  pub command : Request
  pub asked_for : asked words ≡ Some command
  pub is_exec : command.action ≡ Exec
  pub unkept : kept ≡ None
  pub reason : ImageFault
  pub bad : IsBadFile (holds command.file) reason
  pub line : WasGiven said (bad_image_line reason) said'

-- The status of words alone

-- Usage: the words are no command; the line tells the first that is wrong, where one is
pub record IsUsage (words : List (List ℕ)) (said said' : Option (List ℕ)) : Type 0 where
  pub asked_for : asked words ≡ None
  pub line : WasGiven said (usage_line (wrong_word words)) said'

-- What actions never do

-- they do not read the input
abbrev pub ReadsNothing : Action → Type 0
ReadsNothing Check = ⊤
ReadsNothing Build = ⊤
ReadsNothing action = ⊥

-- they leave no image
abbrev pub KeepsNothing : Action → Type 0
KeepsNothing Check = ⊤
KeepsNothing Exec = ⊤
KeepsNothing Plain = ⊤
KeepsNothing action = ⊥

-- they do not touch the shelf
abbrev pub MakesText : Action → Type 0
MakesText (Make n) = ⊤
MakesText action = ⊥
