-- From the answer of a run to that of `make`, which tells the counts behind a value.
use Rattle.std.proofs.Common.{◌≡◌, ◌≢◌, ℕ, ◌≤◌, List, length, refl, subst, inl, inr, Some, arith}
use Rattle.std.specs.Prelude.{Option}
use Rattle.base.specs.Outside.{Rose}
use Rattle.base.specs.Given.{WasGiven, WasGivenFront}
use Rattle.rv_machine.specs.declared.image.Image.{Image}
use Rattle.rv_machine.specs.Run.{Feeds}
use Rattle.lang_meaning.specs.ProgramCounts.{program_nodes}
use Rattle.lang_meaning.specs.declared.program.ProgramRows.{ProgramRows}
use Rattle.lang_meaning.specs.declared.evaluation.EvaluationEnd.{EvaluationEnd}
use Rattle.lang_meaning.specs.declared.evaluation.EvaluationEnd.TheVariants as endings
use Rattle.top_command.specs.declared.command.Action.TheVariants.{Run, Plain, Make}
use Rattle.top_lines.specs.declared.status.CommandAnswer.{CommandAnswer}
use Rattle.top_lines.specs.declared.status.CommandAnswer.TheVariants as answer
use Rattle.top_lines.specs.Lines.{counts_line}
use Rattle.top_exec.specs.Runs.{Sent, sent_to, the_run}
use Rattle.top_main.specs.Images.{AreBytes}
use Rattle.top_main.specs.declared.image_run.ProgramEnd.{ProgramEnd}
use Rattle.top_main.specs.declared.run.ProgramRun.{ProgramRun}
use Rattle.top_main.specs.Answers.{ProgramIsLarge, ProgramAnswers, EndAnswers, Executed, BytesAnswers, IsCounted}
use Rattle.top_main.specs.Theorem.{RunCame, Counts, MakeCame}

-- a value is told of a value alone
value_of_done : (end : EvaluationEnd) (names : List (List ℕ)) (program : ProgramRows) (steps : ℕ) (told : Option (List ℕ)) → EndAnswers answer.Done end told names program steps → end ≡ endings.Value
value_of_done endings.Value names program steps told h = refl
value_of_done (endings.Unhandled class site) names program steps told (inl is) = let no = is.1.1 in absurd (cc)
value_of_done (endings.Unhandled class site) names program steps told (inr is) = absurd (cc)
value_of_done (endings.Full wanted room) names program steps told is = absurd (cc)
value_of_done endings.More names program steps told is = absurd (cc)
value_of_done endings.Spent names program steps told is = absurd (cc)
value_of_done endings.ReadFault names program steps told is = absurd (cc)
value_of_done endings.WriteFault names program steps told is = absurd (cc)

-- the counts of a run that came to this end
pub counted : (a : CommandAnswer) (end : ProgramEnd) (names : List (List ℕ)) (program : ProgramRows) (image : Image) (words arena steps : ℕ) (left : Option (List ℕ))
    → EndAnswers a end.end end.told names program steps → words ≡ length image.words → Executed image arena steps left end
    → IsCounted (Some image) arena steps left (record { answer = a; words = words; executed = end.executed })
counted a end names program image words arena steps left h w x = λ done other is.
    let same : image ≡ other = cc in
    let value : end.end ≡ endings.Value = value_of_done end.end names program steps end.told (subst (λ b. EndAnswers b end.end end.told names program steps) done h) in
    subst
    (λ (i : Image). (words ≡ length i.words) × ((input : List ℕ) → AreBytes input → Feeds left input (the_run i arena steps input) → end.executed ≡ (the_run i arena steps input).at.executed))
    same (w, x value)

-- the answer of a run of a program, whose output was sent this
module _ (n : ℕ) (names : List (List ℕ)) (program : ProgramRows) (kept : Option Image) (arena steps : ℕ) (left left' : Option (List ℕ)) (sent : Sent) (SourceRises Rises Same : Type 0) where
  abbrev Ran : CommandAnswer → Type 0
  Ran a = ProgramAnswers a Run names program kept arena steps left left' sent SourceRises Rises Same

  abbrev IsMade : CommandAnswer → Type 0
  IsMade a = ProgramAnswers a (Make n) names program kept arena steps left left' sent SourceRises Rises Same

  -- no counts are told behind any other end than a value
  came : (end : EvaluationEnd) → end ≢ endings.Value → RunCame names program kept arena steps left left' sent end → MakeCame names program kept arena steps left left' sent end
  came endings.Value other h = absurd (other refl)
  came (endings.Unhandled class site) other h = h
  came (endings.Full wanted room) other h = h
  came endings.More other h = h
  came endings.Spent other h = h
  came endings.ReadFault other h = h
  came endings.WriteFault other h = inl h

  large : (wanted room : ℕ) → ProgramIsLarge Run names program kept arena wanted room → ProgramIsLarge (Make n) names program kept arena wanted room
  large wanted room h = record { runs = tt; is_large = h.is_large; wanted_is = h.wanted_is; room_is = h.room_is }

  -- an answer that tells no value is that of `make`
  pub of_other : (a : CommandAnswer) → a ≢ answer.Done → Ran a → IsMade a
  of_other answer.Done other h = absurd (other refl)
  of_other (answer.Unhandled class site told) other h = record { class = h.class; came = h.came; named = h.named; tells = h.tells }
  of_other (answer.ArenaFull wanted room) other (inl h) = inl h
  of_other (answer.ArenaFull wanted room) other (inr h) = inr (large wanted room h.0, h.1)
  of_other (answer.Budget m) other h = h
  of_other answer.Spent other h = h
  of_other answer.ReadFault other h = h
  of_other answer.WriteFault other h = (h.0, inl h.1)
  of_other (answer.Refused r text) other h = h
  of_other answer.FileFault other h = h
  of_other answer.NoMemory other (inl h) = inl h
  of_other answer.NoMemory other (inr (inl h)) = inr (inl h)
  of_other answer.NoMemory other (inr (inr h)) = let no : Run ≡ Plain = h.is_plain in absurd (cc)
  of_other (answer.Usage word) other h = absurd h
  of_other (answer.Checked warnings) other h = absurd h
  of_other (answer.UnhandledClass class site) other h = absurd h
  of_other (answer.BadImage reason) other h = absurd h
  of_other (answer.Trap kind address) other h = absurd h

-- the counts were told behind a value: the output was sent what the run printed, and then these
module _ (n : ℕ) (names : List (List ℕ)) (program : ProgramRows) (kept : Option Image) (arena steps : ℕ) (left left' : Option (List ℕ)) (before : Option (List ℕ)) (writes_before : ℕ) (between : Option (List ℕ)) (writes_between : ℕ) (after : Option (List ℕ)) (writes_after : ℕ) (SourceRises Fails Rises Same : Type 0) (rise : Fails → Rises) where
  counts : (Given : Option (List ℕ) → List ℕ → Option (List ℕ) → Type 0) (run : ProgramRun) → run.answer ≡ answer.Done → IsCounted kept arena steps left run
      → RunCame names program kept arena steps left left' (sent_to before writes_before between writes_between) endings.Value
      → Given between (counts_line (program_nodes program) run.words run.executed) after
      → Counts Given names program kept arena steps left left' (sent_to before writes_before after writes_after)
  counts Given run done counted ran given =
      let known = counted done ran.built.image ran.built.is_kept in
      record {
        between = between;
        writes_between = writes_between;
        ran = ran;
        counts = λ input bytes feeds.
            subst (λ (m : ℕ). Given between (counts_line (program_nodes program) (length ran.built.image.words) m) after) (known.1 input bytes feeds)
            (subst (λ (m : ℕ). Given between (counts_line (program_nodes program) m run.executed) after) known.0 given);
      }

  -- so that is answered
  of_counts : (a : CommandAnswer) (run : ProgramRun) → run.answer ≡ answer.Done → IsCounted kept arena steps left run
      → RunCame names program kept arena steps left left' (sent_to before writes_before between writes_between) endings.Value
      → BytesAnswers a (counts_line (program_nodes program) run.words run.executed) between after Fails
      → ProgramAnswers a (Make n) names program kept arena steps left left' (sent_to before writes_before after writes_after) SourceRises Rises Same
  of_counts answer.Done run done counted ran h = counts WasGiven run done counted ran h
  of_counts answer.WriteFault run done counted ran h = (rise h.0, inr (counts WasGivenFront run done counted ran h.1))
  of_counts (answer.Unhandled class site told) run done counted ran h = absurd h
  of_counts (answer.ArenaFull wanted room) run done counted ran h = absurd h
  of_counts (answer.Budget m) run done counted ran h = absurd h
  of_counts answer.Spent run done counted ran h = absurd h
  of_counts answer.ReadFault run done counted ran h = absurd h
  of_counts (answer.Refused r text) run done counted ran h = absurd h.0
  of_counts answer.FileFault run done counted ran h = absurd h.0
  of_counts answer.NoMemory run done counted ran h = absurd h
  of_counts (answer.Usage word) run done counted ran h = absurd h
  of_counts (answer.Checked warnings) run done counted ran h = absurd h
  of_counts (answer.UnhandledClass class site) run done counted ran h = absurd h
  of_counts (answer.BadImage reason) run done counted ran h = absurd h
  of_counts (answer.Trap kind address) run done counted ran h = absurd h

  -- a run that came to a value
  pub of_value : (a : CommandAnswer) (run : ProgramRun) (ThenRises ThenSame : Type 0) → run.answer ≡ answer.Done → IsCounted kept arena steps left run
      → ProgramAnswers run.answer Run names program kept arena steps left left' (sent_to before writes_before between writes_between) SourceRises ThenRises ThenSame
      → BytesAnswers a (counts_line (program_nodes program) run.words run.executed) between after Fails
      → ProgramAnswers a (Make n) names program kept arena steps left left' (sent_to before writes_before after writes_after) SourceRises Rises Same
  of_value a run ThenRises ThenSame done counted ran h =
      let P : CommandAnswer → Type 0 = λ x. ProgramAnswers x Run names program kept arena steps left left' (sent_to before writes_before between writes_between) SourceRises ThenRises ThenSame in
      of_counts a run done counted (subst P done ran) h

-- a count that rose in the second of two calls rose in both
pub rose_later : (old between new : ℕ) → old ≤ between → Rose between new → Rose old new
rose_later old between new first (inl rose) = inl (omega arith)
rose_later old between new first (inr most) = inr most
