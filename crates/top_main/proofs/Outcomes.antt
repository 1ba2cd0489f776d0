-- From the end of a run or of an evaluation to the answer for the program, and for its file.
use Rattle.std.proofs.Common.{◌≡◌, ℕ, ◌<◌, ◌≤◌, List, length, refl, sym, subst, inl, inr, Some, None}
use Rattle.std.specs.Prelude.{Option}
use Rattle.base.specs.declared.place.Place.{Place}
use Rattle.rv_machine.specs.declared.image.Image.{Image}
use Rattle.lang_meaning.specs.declared.program.ProgramRows.{ProgramRows}
use Rattle.lang_meaning.specs.declared.evaluation.EvaluationEnd.{EvaluationEnd}
use Rattle.lang_meaning.specs.declared.evaluation.EvaluationEnd.TheVariants as endings
use Rattle.lang_meaning.specs.Evaluates.{Evaluates, BreaksOff}
use Rattle.lang_meaning.specs.Evaluates.{Tells as Faulted}
use Rattle.top_command.specs.declared.command.Action.{Action}
use Rattle.top_command.specs.declared.command.Action.TheVariants.{Run, Show, Check, Build, Exec, Plain, Make}
use Rattle.top_lines.specs.declared.status.CommandAnswer.{CommandAnswer}
use Rattle.top_lines.specs.declared.status.CommandAnswer.TheVariants as answer
use Rattle.lang_meaning.specs.Evaluation.{Evaluation, Taken, Begins, WasTaken}
use Rattle.eval_run.specs.declared.answer.Counted.{Counted}
use Rattle.eval_run.specs.Telling.{TellsSo}
use Rattle.eval_run.specs.Telling.{EvaluationTells as CountedTells}
use Rattle.top_main.specs.Images.{IsImageOf}
use Rattle.base.specs.declared.reason.Refusal.{Refusal}
use Rattle.base.specs.declared.reason.Stop.{Stop}
use Rattle.base.specs.declared.reason.Stop.TheVariants as stop
use Rattle.front_files.specs.declared.mode.Mode.{Mode}
use Rattle.front_files.specs.Verdicts.{IsNoProgram}
use Rattle.top_command.specs.Command.{Request}
use Rattle.top_exec.specs.Loads.{IsTextTaken}
use Rattle.top_exec.specs.Runs.{Sent}
use Rattle.top_lines.specs.Lines.{answer_of_stop}
use Rattle.top_main.specs.Answers.{EndTold, EndAnswers, EndedAnswers, ProgramSignals, ProgramIsLarge, ProgramBreaks, ProgramAnswers, FileSignals, FileIsLargeSo, FileAnswers, RunsFiles, Obeys, was_ended}
use Rattle.top_main.specs.Theorem.{library, mode_of, IsTextOf, IsWhole, Offends, RunCame, Came, Tells, ImageTells, EvaluationTells, RunsPrograms, MakesText, RunComes, FileEnds, FileBreaks}

-- the answer of an end is that of the program that came to it
pub of_end : (a : CommandAnswer) (end : EvaluationEnd) (action : Action) (names : List (List ℕ)) (program : ProgramRows) (kept : Option Image) (arena steps : ℕ) (left left' : Option (List ℕ)) (sent : Sent) (SourceRises Rises Same : Type 0)
    → Came action names program kept arena steps left left' sent end → Faulted end SourceRises Rises
    → (told : Option (List ℕ)) → EndTold (Tells action names program kept arena steps left left') end told → EndAnswers a end told names program steps
    → ProgramAnswers a action names program kept arena steps left left' sent SourceRises Rises Same
of_end a endings.Value action names program kept arena steps left left' sent SourceRises Rises Same h t told tells is =
    subst (λ x. ProgramAnswers x action names program kept arena steps left left' sent SourceRises Rises Same) (sym is) h
of_end a (endings.Unhandled class site) action names program kept arena steps left left' sent SourceRises Rises Same h t told tells (inl is) =
    subst (λ x. ProgramAnswers x action names program kept arena steps left left' sent SourceRises Rises Same) (sym is.1.1) (record {
      class = class;
      came = h;
      named = refl;
      tells = subst (EndTold (Tells action names program kept arena steps left left') (endings.Unhandled class site)) is.1.0 tells;
    })
of_end a (endings.Unhandled class site) action names program kept arena steps left left' sent SourceRises Rises Same h t told tells (inr is) =
    subst (λ x. ProgramAnswers x action names program kept arena steps left left' sent SourceRises Rises Same) (sym is) (inr (inl (class, (site, h))))
of_end a (endings.Full wanted room) action names program kept arena steps left left' sent SourceRises Rises Same h t told tells is =
    subst (λ x. ProgramAnswers x action names program kept arena steps left left' sent SourceRises Rises Same) (sym is) (inl h)
of_end a endings.More action names program kept arena steps left left' sent SourceRises Rises Same h t told tells is =
    subst (λ x. ProgramAnswers x action names program kept arena steps left left' sent SourceRises Rises Same) (sym is) (refl, h)
of_end a endings.Spent action names program kept arena steps left left' sent SourceRises Rises Same h t told tells is =
    subst (λ x. ProgramAnswers x action names program kept arena steps left left' sent SourceRises Rises Same) (sym is) h
of_end a endings.ReadFault action names program kept arena steps left left' sent SourceRises Rises Same h t told tells is =
    subst (λ x. ProgramAnswers x action names program kept arena steps left left' sent SourceRises Rises Same) (sym is) (t, h)
of_end a endings.WriteFault action names program kept arena steps left left' sent SourceRises Rises Same h t told tells is =
    subst (λ x. ProgramAnswers x action names program kept arena steps left left' sent SourceRises Rises Same) (sym is) (t, h)

-- what is told of an evaluation is told of its condition
told_at : (end : EvaluationEnd) (e : Evaluation) (left left' : Option (List ℕ)) (told : List ℕ) (t : Taken) → WasTaken left t left'
    → ((input : List ℕ) → Begins t input → TellsSo end e input told) → EndTold (EvaluationTells e left left') end (Some told)
told_at endings.Value e left left' told t was h = tt
told_at (endings.Unhandled class site) e left left' told t was h = record { taken = t; was_taken = was; tells = h }
told_at (endings.Full asked room) e left left' told t was h = tt
told_at endings.More e left left' told t was h = tt
told_at endings.Spent e left left' told t was h = tt
told_at endings.ReadFault e left left' told t was h = tt
told_at endings.WriteFault e left left' told t was h = tt

pub told_end : (e : Evaluation) (left left' : Option (List ℕ)) (c : Counted) → CountedTells e left left' c → EndTold (EvaluationTells e left left') c.end (Some c.told)
told_end e left left' c h = told_at c.end e left left' c.told h.taken h.was_taken h.tells

-- of an evaluation, whose levels and words are numbers of another type
pub of_evaluation : (a : CommandAnswer) (end : EvaluationEnd) (names : List (List ℕ)) (program : ProgramRows) (levels levels' words words' : ℕ) (left left' : Option (List ℕ)) (sent : Sent) (SourceRises Rises Same : Type 0)
    → levels' ≡ levels → words' ≡ words
    → Evaluates (record { names = names; program = program; levels = levels'; words = words' }) left left' sent.before sent.after end
    → Faulted end SourceRises Rises
    → (told : Option (List ℕ)) → EndTold (EvaluationTells (record { names = names; program = program; levels = levels'; words = words' }) left left') end told
    → EndAnswers a end told names program levels
    → ProgramAnswers a Plain names program None words levels left left' sent SourceRises Rises Same
of_evaluation a end names program levels levels' words words' left left' sent SourceRises Rises Same l w h t told tells is =
    let E : ℕ → ℕ → Type 0 = λ n m. Evaluates (record { names = names; program = program; levels = n; words = m }) left left' sent.before sent.after end in
    let same : E levels words = subst (λ n. E n words) l (subst (λ m. E levels' m) w h) in
    let T : ℕ → ℕ → Type 0 = λ n m. EndTold (EvaluationTells (record { names = names; program = program; levels = n; words = m }) left left') end told in
    let same_told : T levels words = subst (λ n. T n words) l (subst (λ m. T levels' m) w tells) in
    of_end a end Plain names program None words levels left left' sent SourceRises Rises Same (refl, same) t told same_told is

-- of one that broke off
pub of_break : (names : List (List ℕ)) (program : ProgramRows) (levels levels' words words' : ℕ) (left left' : Option (List ℕ)) (sent : Sent) (SourceRises Rises Same : Type 0)
    → levels' ≡ levels → words' ≡ words
    → BreaksOff (record { names = names; program = program; levels = levels'; words = words' }) left left' sent.before sent.after
    → ProgramAnswers answer.NoMemory Plain names program None words levels left left' sent SourceRises Rises Same
of_break names program levels levels' words words' left left' sent SourceRises Rises Same l w h =
    let E : ℕ → ℕ → Type 0 = λ n m. BreaksOff (record { names = names; program = program; levels = n; words = m }) left left' sent.before sent.after in
    let same : E levels words = subst (λ n. E n words) l (subst (λ m. E levels' m) w h) in
    inr (inr (record { is_plain = refl; unbuilt = refl; breaks_off = same }))

-- of a run of its image
pub of_run : (a : CommandAnswer) (end : EvaluationEnd) (names : List (List ℕ)) (program : ProgramRows) (image : Image) (arena steps : ℕ) (left left' : Option (List ℕ)) (sent : Sent) (SourceRises Rises Same : Type 0)
    → IsImageOf names program image → length image.words ≤ arena → RunComes names program image arena steps left left' sent end
    → Faulted end SourceRises Rises → (told : Option (List ℕ)) → EndTold (ImageTells names program (Some image) arena steps left) end told
    → EndAnswers a end told names program steps
    → ProgramAnswers a Run names program (Some image) arena steps left left' sent SourceRises Rises Same
of_run a end names program image arena steps left left' sent SourceRises Rises Same is_image fits h t told tells is =
    of_end a end Run names program (Some image) arena steps left left' sent SourceRises Rises Same
    (record { built = record { image = image; is_kept = refl; is_image = is_image }; fits = fits; comes = h }) t told tells is

-- of an image that is larger than the arena
pub of_large : (names : List (List ℕ)) (program : ProgramRows) (image : Image) (wanted arena steps : ℕ) (left left' : Option (List ℕ)) (sent : Sent) (SourceRises Rises Same : Type 0)
    → IsImageOf names program image → wanted ≡ length image.words → arena < wanted → Same
    → ProgramAnswers (answer.ArenaFull wanted arena) Run names program (Some image) arena steps left left' sent SourceRises Rises Same
of_large names program image wanted arena steps left left' sent SourceRises Rises Same is_image wanted_is large same =
    inr (
      record {
        runs = tt;
        is_large = record { built = record { image = image; is_kept = refl; is_image = is_image }; large = subst (λ n. arena < n) wanted_is large };
        wanted_is = wanted_is;
        room_is = refl;
      },
      same,
    )

-- an answer, where each thing that it may tell is told in other words
module _ (Ends Ends' : EvaluationEnd → Type 0) (Signals Signals' : List ℕ → Place → List ℕ → Type 0) (Large Large' : ℕ → ℕ → Type 0) (Breaks Breaks' : Type 0) (Bad Bad' : Refusal → List ℕ → Type 0) (ShelfRises ShelfRises' SourceRises Rises Same Unkept Unkept' : Type 0) (ends : (end : EvaluationEnd) → Ends end → Ends' end) (signals : (name : List ℕ) (site : Place) (told : List ℕ) → Signals name site told → Signals' name site told) (large : (wanted room : ℕ) → Large wanted room → Large' wanted room) (breaks : Breaks → Breaks') (bad : (r : Refusal) (text : List ℕ) → Bad r text → Bad' r text) (shelf : ShelfRises → ShelfRises') (unkept : Unkept → Unkept') where
  pub retold : (a : CommandAnswer) (steps : ℕ) → EndedAnswers a steps Ends Signals Large Breaks Bad ShelfRises SourceRises Rises Same Unkept → EndedAnswers a steps Ends' Signals' Large' Breaks' Bad' ShelfRises' SourceRises Rises Same Unkept'
  retold answer.Done steps h = ends endings.Value h
  retold (answer.Unhandled class site told) steps h = signals class site told h
  retold (answer.ArenaFull wanted room) steps (inl h) = inl (ends (endings.Full wanted room) h)
  retold (answer.ArenaFull wanted room) steps (inr h) = inr (large wanted room h.0, h.1)
  retold (answer.Budget n) steps h = (h.0, ends endings.More h.1)
  retold answer.Spent steps h = ends endings.Spent h
  retold answer.ReadFault steps h = (h.0, ends endings.ReadFault h.1)
  retold answer.WriteFault steps h = (h.0, ends endings.WriteFault h.1)
  retold (answer.Refused r text) steps h = (bad r text h.0, (h.1.0, unkept h.1.1))
  retold answer.FileFault steps h = (shelf h.0, (h.1.0, unkept h.1.1))
  retold answer.NoMemory steps (inl same) = inl same
  retold answer.NoMemory steps (inr (inl h)) = inr (inl (h.0, (h.1.0, ends (endings.Unhandled h.0 h.1.0) h.1.1)))
  retold answer.NoMemory steps (inr (inr h)) = inr (inr (breaks h))
  retold (answer.Usage word) steps h = absurd h
  retold (answer.Checked warnings) steps h = absurd h
  retold (answer.UnhandledClass class site) steps h = absurd h
  retold (answer.BadImage reason) steps h = absurd h
  retold (answer.Trap kind address) steps h = absurd h

-- a text that was taken of a file is that which an action of files judges
pub text_taken : (action : Action) (held : Option (List ℕ)) (text : List ℕ) → RunsFiles action → IsTextTaken held text → IsTextOf action held text
text_taken Run held text runs taken = taken
text_taken Show held text runs taken = taken
text_taken Check held text runs taken = absurd runs
text_taken Build held text runs taken = absurd runs
text_taken Exec held text runs taken = absurd runs
text_taken Plain held text runs taken = absurd runs
text_taken (Make n) held text runs taken = absurd runs

-- the text is a whole program
module _ (action : Action) (held : Option (List ℕ)) (text : List ℕ) (whole : IsWhole action text) (kept : Option Image) (arena steps : ℕ) (left left' : Option (List ℕ)) (sent : Sent) (ShelfRises SourceRises Rises Same : Type 0) (is_text : IsTextOf action held text) where
  abbrev OfProgram : CommandAnswer → Type 0
  OfProgram a = ProgramAnswers a action whole.names whole.program kept arena steps left left' sent SourceRises Rises Same

  abbrev OfFile : CommandAnswer → Type 0
  OfFile a = FileAnswers a action held kept arena steps left left' sent ShelfRises SourceRises Rises Same

  abbrev ends : (end : EvaluationEnd) → Came action whole.names whole.program kept arena steps left left' sent end → FileEnds action held kept arena steps left left' sent end
  ends end h = record { text = text; is_text = is_text; whole = whole; came = h }

  signals : (name : List ℕ) (site : Place) (told : List ℕ) → ProgramSignals action whole.names whole.program kept arena steps left left' sent name site told
      → FileSignals action held kept arena steps left left' sent name site told
  signals name site told h = record { class = h.class; ends = ends (endings.Unhandled h.class site) h.came; named = h.named; tells = h.tells }

  large : (wanted room : ℕ) → ProgramIsLarge action whole.names whole.program kept arena wanted room → FileIsLargeSo action held kept arena wanted room
  large wanted room h = record {
    runs = h.runs;
    large = record { text = text; is_text = is_text; whole = whole; is_large = h.is_large };
    wanted_is = h.wanted_is;
    room_is = h.room_is;
  }

  breaks : ProgramBreaks action whole.names whole.program kept arena steps left left' sent → (action ≡ Plain) × FileBreaks action held kept arena steps left left' sent
  breaks h = (h.is_plain, record { text = text; is_text = is_text; whole = whole; unbuilt = h.unbuilt; breaks_off = h.breaks_off })

  pub of_program : (a : CommandAnswer) → OfProgram a → OfFile a
  of_program a h =
      retold (Came action whole.names whole.program kept arena steps left left' sent) (FileEnds action held kept arena steps left left' sent)
      (ProgramSignals action whole.names whole.program kept arena steps left left' sent) (FileSignals action held kept arena steps left left' sent)
      (ProgramIsLarge action whole.names whole.program kept arena) (FileIsLargeSo action held kept arena)
      (ProgramBreaks action whole.names whole.program kept arena steps left left' sent) ((action ≡ Plain) × FileBreaks action held kept arena steps left left' sent)
      (λ r text. ⊥) (Offends action held) ⊥ ShelfRises SourceRises Rises Same ⊥ (kept ≡ None)
      ends signals large breaks (λ r text x. absurd x) (λ x. absurd x) (λ x. absurd x) a steps h

-- the text is none
pub of_stop : (a : CommandAnswer) (s : Stop) (action : Action) (m : Mode) (held : Option (List ℕ)) (text : List ℕ) (kept : Option Image) (arena steps : ℕ) (left left' : Option (List ℕ)) (sent : Sent) (ShelfRises SourceRises Rises Same : Type 0)
    → a ≡ answer_of_stop text s → m ≡ mode_of action → IsTextOf action held text → IsNoProgram library text m s → Same → kept ≡ None
    → FileAnswers a action held kept arena steps left left' sent ShelfRises SourceRises Rises Same
of_stop a (stop.Refused r) action m held text kept arena steps left left' sent ShelfRises SourceRises Rises Same is mode_is is_text refuses same empty =
    let offends : Offends action held r text = record { is_text = is_text; refuses = subst (λ (x : Mode). IsNoProgram library text x (stop.Refused r)) mode_is refuses } in
    subst (λ x. FileAnswers x action held kept arena steps left left' sent ShelfRises SourceRises Rises Same) (sym is) (offends, (same, empty))
of_stop a stop.NoMemory action m held text kept arena steps left left' sent ShelfRises SourceRises Rises Same is mode_is is_text refuses same empty =
    subst (λ x. FileAnswers x action held kept arena steps left left' sent ShelfRises SourceRises Rises Same) (sym is) (inl same)

-- what is answered of a program that is run is answered of one that is shown
module _ (names : List (List ℕ)) (program : ProgramRows) (kept : Option Image) (arena steps : ℕ) (left left' : Option (List ℕ)) (sent : Sent) (SourceRises Rises Same : Type 0) where
  abbrev Answered : Action → CommandAnswer → Type 0
  Answered action a = ProgramAnswers a action names program kept arena steps left left' sent SourceRises Rises Same

  -- by an action for which a run comes to the same end
  module _ (action : Action) (runs : RunsPrograms action) (ends : (end : EvaluationEnd) → RunCame names program kept arena steps left left' sent end → Came action names program kept arena steps left left' sent end) (tells : (told : List ℕ) → ImageTells names program kept arena steps left told → Tells action names program kept arena steps left left' told) where
    its_signals : (name : List ℕ) (site : Place) (told : List ℕ) → ProgramSignals Run names program kept arena steps left left' sent name site told
        → ProgramSignals action names program kept arena steps left left' sent name site told
    its_signals name site told h = record { class = h.class; came = ends (endings.Unhandled h.class site) h.came; named = h.named; tells = tells told h.tells }

    its_large : (wanted room : ℕ) → ProgramIsLarge Run names program kept arena wanted room → ProgramIsLarge action names program kept arena wanted room
    its_large wanted room h = record { runs = runs; is_large = h.is_large; wanted_is = h.wanted_is; room_is = h.room_is }

    its_breaks : ProgramBreaks Run names program kept arena steps left left' sent → ProgramBreaks action names program kept arena steps left left' sent
    its_breaks h = let no : Run ≡ Plain = h.is_plain in absurd (cc)

    pub of_its_run : (a : CommandAnswer) → Answered Run a → Answered action a
    of_its_run a h =
        retold (RunCame names program kept arena steps left left' sent) (Came action names program kept arena steps left left' sent)
        (ProgramSignals Run names program kept arena steps left left' sent) (ProgramSignals action names program kept arena steps left left' sent)
        (ProgramIsLarge Run names program kept arena) (ProgramIsLarge action names program kept arena)
        (ProgramBreaks Run names program kept arena steps left left' sent) (ProgramBreaks action names program kept arena steps left left' sent)
        (λ r text. ⊥) (λ r text. ⊥) ⊥ ⊥ SourceRises Rises Same ⊥ ⊥
        ends its_signals its_large its_breaks (λ r text x. x) (λ x. x) (λ x. x) a steps h

  shown : (end : EvaluationEnd) → RunCame names program kept arena steps left left' sent end → Came Show names program kept arena steps left left' sent end
  shown end h = h

  pub of_action : (action : Action) → RunsFiles action → (a : CommandAnswer) → Answered Run a → Answered action a
  of_action Run runs a h = h
  of_action Show runs a h = of_its_run Show tt shown (λ told x. x) a h
  of_action Check runs a h = absurd runs
  of_action Build runs a h = absurd runs
  of_action Exec runs a h = absurd runs
  of_action Plain runs a h = absurd runs
  of_action (Make n) runs a h = absurd runs

-- a text for which the shelf was not asked
pub of_no_shelf : (a : CommandAnswer) (action : Action) (held : Option (List ℕ)) (kept : Option Image) (arena steps : ℕ) (left left' : Option (List ℕ)) (sent : Sent) (ShelfRises SourceRises Rises Same : Type 0)
    → FileAnswers a action held kept arena steps left left' sent ⊥ SourceRises Rises Same → FileAnswers a action held kept arena steps left left' sent ShelfRises SourceRises Rises Same
of_no_shelf answer.Done action held kept arena steps left left' sent ShelfRises SourceRises Rises Same h = h
of_no_shelf (answer.Unhandled class site told) action held kept arena steps left left' sent ShelfRises SourceRises Rises Same h = h
of_no_shelf (answer.ArenaFull wanted room) action held kept arena steps left left' sent ShelfRises SourceRises Rises Same h = h
of_no_shelf (answer.Budget n) action held kept arena steps left left' sent ShelfRises SourceRises Rises Same h = h
of_no_shelf answer.Spent action held kept arena steps left left' sent ShelfRises SourceRises Rises Same h = h
of_no_shelf answer.ReadFault action held kept arena steps left left' sent ShelfRises SourceRises Rises Same h = h
of_no_shelf answer.WriteFault action held kept arena steps left left' sent ShelfRises SourceRises Rises Same h = h
of_no_shelf (answer.Refused r text) action held kept arena steps left left' sent ShelfRises SourceRises Rises Same h = h
of_no_shelf answer.FileFault action held kept arena steps left left' sent ShelfRises SourceRises Rises Same h = absurd h.0
of_no_shelf answer.NoMemory action held kept arena steps left left' sent ShelfRises SourceRises Rises Same h = h
of_no_shelf (answer.Usage word) action held kept arena steps left left' sent ShelfRises SourceRises Rises Same h = absurd h
of_no_shelf (answer.Checked warnings) action held kept arena steps left left' sent ShelfRises SourceRises Rises Same h = absurd h
of_no_shelf (answer.UnhandledClass class site) action held kept arena steps left left' sent ShelfRises SourceRises Rises Same h = absurd h
of_no_shelf (answer.BadImage reason) action held kept arena steps left left' sent ShelfRises SourceRises Rises Same h = absurd h
of_no_shelf (answer.Trap kind address) action held kept arena steps left left' sent ShelfRises SourceRises Rises Same h = absurd h

-- a command of an action that runs the program of a text was obeyed
pub obeyed : (a : CommandAnswer) (c : Request) (action : Action) (held : Option (List ℕ)) (kept : Option Image) (left left' : Option (List ℕ)) (sent : Sent) (ShelfRises SourceRises Rises Same InputSame ShelfSame : Type 0)
    → c.action ≡ action → RunsPrograms action → (MakesText action → ShelfSame)
    → FileAnswers a action held kept c.arena c.steps left left' sent ShelfRises SourceRises Rises (Same × InputSame)
    → Obeys a c held kept left left' sent ShelfRises SourceRises Rises Same InputSame ShelfSame
obeyed a c action held kept left left' sent ShelfRises SourceRises Rises Same InputSame ShelfSame is runs shelf h =
    was_ended (subst RunsPrograms (sym is) runs) (λ m. shelf (subst MakesText is m))
    (subst (λ x. FileAnswers a x held kept c.arena c.steps left left' sent ShelfRises SourceRises Rises (Same × InputSame)) (sym is) h)
