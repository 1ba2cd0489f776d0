-- How the status that is answered comes from the answer to the words.
use Rattle.std.proofs.Common.{◌≡◌, ◌≢◌, ℕ, List, [], ◌∷◌, ◌++◌, refl, sym, ap, subst, ◌∙◌, ◌⊎◌, inl, inr, Some, None, false}
use Rattle.std.specs.Prelude.{Option, ⊤, length, codes}
use Rattle.base.specs.Given.{WasGiven}
use Rattle.base.specs.declared.place.Place.{Place}
use Rattle.base.specs.declared.reason.Refusal.{Refusal}
use Rattle.rv_machine.specs.Ends.{trap_number}
use Rattle.rv_machine.specs.declared.ending.TrapKind.{TrapKind}
use Rattle.rv_machine.specs.declared.image.Image.{Image}
use Rattle.rv_image_file.specs.declared.faults.BadImage.{BadImage as ImageFault}
use Rattle.lang_meaning.specs.declared.evaluation.EvaluationEnd.{EvaluationEnd}
use Rattle.lang_meaning.specs.declared.evaluation.EvaluationEnd.TheVariants as endings
use Rattle.top_command.specs.Command.{Request, asked}
use Rattle.top_command.specs.Wrong.{wrong_word}
use Rattle.top_command.specs.declared.command.Action.{Action}
use Rattle.top_command.specs.declared.command.Action.TheVariants.{Run, Show, Check, Build, Exec, Plain, Make}
use Rattle.top_lines.specs.declared.status.Status.{Status}
use Rattle.top_lines.specs.declared.status.Status.TheVariants.{Done, Unhandled, Usage, Refused, ArenaFull, Budget, FileFault, ReadFault, WriteFault, NoMemory, BadImage, Trap}
use Rattle.top_lines.specs.declared.status.CommandAnswer.{CommandAnswer}
use Rattle.top_lines.specs.declared.status.CommandAnswer.TheVariants as answer
use Rattle.top_lines.specs.Lines.{is_checked as is_checked_answer, usage_line, line_of, status_of, unhandled_line, budget_line, refusal_lines, arena_full_line, spent_line, file_fault_line, read_fault_line, no_memory_line, bad_image_line, labelled, site_text}
use Rattle.top_exec.specs.Runs.{Sent}
use Rattle.top_exec.specs.Executes.{ExecAnswers, Executes}
use Rattle.top_main.specs.Answers.{WriteAnswers, CheckAnswers, FileAnswers, was_ended, was_plain, was_check, was_build, was_exec, WordsAnswers, was_usage, was_untold, was_asked}
use Rattle.top_main.specs.Theorem.{Offends, FileBuilds, Writes, FileEnds, HasLine, IsEnded, IsUsage, IsDone, IsWritten, IsUnhandled, IsArenaFull, IsTooLarge, IsBudget, IsSpent, IsRefused, IsReadFault, IsCutOff, IsWrittenCutOff, IsUnnamed, IsBroken, IsUntold, IsExecuted, IsExecutedSo, IsExecutedUntold, IsLargeImage, IsBadImage, RunsPrograms, ReadsNothing, KeepsNothing, MakesText, name_of, name_in}

-- a status is a write fault or that of the answer
settled : (r s : Status) → (r ≢ WriteFault → r ≡ s) → (r ≡ s) ⊎ (r ≡ WriteFault)
settled WriteFault s w = inr refl
settled other s w = inl (w (λ h. cc))

first_status : (a : CommandAnswer) (r : Status) (word : Option (List ℕ)) → (a ≡ answer.Usage word) ⊎ (a ≡ answer.NoMemory) → (r ≡ status_of a) ⊎ (r ≡ WriteFault)
    → (r ≡ Usage) ⊎ ((r ≡ WriteFault) ⊎ (r ≡ NoMemory))
first_status a r word (inl e) (inl k) = inl (k ∙ ap status_of e)
first_status a r word (inr e) (inl k) = inr (inr (k ∙ ap status_of e))
first_status a r word w (inr k) = inr (inl k)

-- a line is not empty
line_some : (text : List ℕ) → text ++ 10 ∷ [] ≢ []
line_some [] e = cc
line_some (x ∷ xs) e = cc

-- the words of a call, what its line calls their text, the shelf that they name files of, the image that is kept, what is left of the input and what the output was sent, and where
-- the shelf, the input and the output rose in faults or are the same
pub record View : Type 1 where
  pub words : List (List ℕ)
  pub name : List ℕ
  pub holds : List ℕ → Option (List ℕ)
  pub kept : Option Image
  pub left : Option (List ℕ)
  pub left' : Option (List ℕ)
  pub sent : Sent
  pub ShelfRises : Type 0
  pub SourceRises : Type 0
  pub Rises : Type 0
  pub Same : Type 0
  pub InputSame : Type 0
  pub ShelfSame : Type 0

abbrev pub Told : View → CommandAnswer → Type 0
Told v a = WordsAnswers a v.name v.words v.holds v.kept v.left v.left' v.sent v.ShelfRises v.SourceRises v.Rises v.Same v.InputSame v.ShelfSame

-- the answer for the text of a command that is run or evaluated, or of which bytes are written, and for an image file
abbrev Ended : View → CommandAnswer → Request → Type 0
Ended v a c = FileAnswers a c.action (v.holds c.file) v.kept c.arena c.steps v.left v.left' v.sent v.ShelfRises v.SourceRises v.Rises (v.Same × v.InputSame)

abbrev Written : View → CommandAnswer → Request → Type 0
Written v a c = WriteAnswers a (v.holds c.file) v.kept v.sent.before v.sent.after v.ShelfRises v.Rises v.Same

abbrev CheckedSo : View → CommandAnswer → Request → Type 0
CheckedSo v a c = CheckAnswers a (v.holds c.file) v.ShelfRises

abbrev Executed : View → CommandAnswer → Request → Type 0
Executed v a c = ExecAnswers a (v.holds c.file) c.arena c.steps v.left v.left' v.sent v.ShelfRises v.SourceRises v.Rises (v.Same × v.InputSame)

-- the answer to the words, where a run and an evaluation are told alike
data Heard (v : View) (a : CommandAnswer) : Type 0 where
  is_usage : a ≡ answer.Usage (wrong_word v.words) → asked v.words ≡ None → v.Same × v.InputSame → Heard v a
  is_untold : a ≡ answer.NoMemory → v.Same × v.InputSame → Heard v a
  is_checked : (c : Request) → asked v.words ≡ Some c → v.name ≡ name_of c → c.action ≡ Check → v.kept ≡ None → v.InputSame → v.Same → CheckedSo v a c → Heard v a
  is_written : (c : Request) → asked v.words ≡ Some c → v.name ≡ name_of c → c.action ≡ Build → v.InputSame → Written v a c → Heard v a
  is_ended : (c : Request) → asked v.words ≡ Some c → v.name ≡ name_of c → Ended v a c → Heard v a
  is_executed : (c : Request) → asked v.words ≡ Some c → v.name ≡ name_of c → c.action ≡ Exec → v.kept ≡ None → Executed v a c → Heard v a

heard : (v : View) (a : CommandAnswer) → Told v a → Heard v a
heard v a (was_usage e none shelf same i k) = is_usage e none (same, i)
heard v a (was_untold e shelf same i k) = is_untold e (same, i)
heard v a (was_asked c is named (was_ended r m h)) = is_ended c is named h
heard v a (was_asked c is named (was_plain p k h)) =
    let F : Action → Option Image → Type 0 = λ x kept. FileAnswers a x (v.holds c.file) kept c.arena c.steps v.left v.left' v.sent v.ShelfRises v.SourceRises v.Rises (v.Same × v.InputSame) in
    is_ended c is named (subst (λ x. F x v.kept) (sym p) (subst (λ kept. F Plain kept) (sym k) h))
heard v a (was_asked c is named (was_check p i same k h)) = is_checked c is named p k i same h
heard v a (was_asked c is named (was_build p i h)) = is_written c is named p i h
heard v a (was_asked c is named (was_exec p k h)) = is_executed c is named p k h

-- what a build has to write
writes_so : (v : View) (c : Request) (bytes : List ℕ) → c.action ≡ Build → FileBuilds (v.holds c.file) v.kept bytes
    → Writes c.action (name_of c) (v.holds c.file) v.kept bytes []
writes_so v c bytes b h = subst (λ (x : Action). Writes x (name_of c) (v.holds c.file) v.kept bytes []) (sym b) (h, refl)

-- a call whose program came to this end
abbrev EndedSo : View → EvaluationEnd → Type 0
EndedSo v end = IsEnded v.words v.holds v.kept v.left v.left' v.sent end

abbrev ended : (v : View) (c : Request) (end : EvaluationEnd) → asked v.words ≡ Some c → FileEnds c.action (v.holds c.file) v.kept c.arena c.steps v.left v.left' v.sent end → EndedSo v end
ended v c end is h = record { command = c; asked_for = is; ends = h }

-- a call of whose image file this is told
abbrev ExecutedSo : View → CommandAnswer → Type 0
ExecutedSo v told = IsExecuted v.words v.holds v.kept v.left v.left' v.sent told

abbrev executed : (v : View) (c : Request) (told : CommandAnswer) → asked v.words ≡ Some c → c.action ≡ Exec → v.kept ≡ None → Executes (v.holds c.file) c.arena c.steps v.left v.left' v.sent told → ExecutedSo v told
executed v c told is x k h = record { command = c; asked_for = is; is_exec = x; unkept = k; executes = h }

-- want of memory: nothing was touched, or a class could not be named, or an evaluation broke off
abbrev Wanting : View → Type 0
Wanting v = (v.Same × v.InputSame) ⊎ (IsUnnamed v.words v.holds v.kept v.left v.left' v.sent ⊎ IsBroken v.words v.holds v.kept v.left v.left' v.sent)

wanting : (v : View) → Heard v answer.NoMemory → Wanting v
wanting v (is_usage e none same) = absurd (cc)
wanting v (is_untold e same) = inl same
wanting v (is_checked c is named b k i same h) = inl (same, i)
wanting v (is_written c is named b i h) = inl (h, i)
wanting v (is_ended c is named (inl same)) = inl same
wanting v (is_ended c is named (inr (inl h))) = inr (inl (record { class = h.0; site = h.1.0; ended = ended v c (endings.Unhandled h.0 h.1.0) is h.1.1 }))
wanting v (is_ended c is named (inr (inr h))) = inr (inr (record { command = c; asked_for = is; is_plain = h.0; breaks = h.1 }))
wanting v (is_executed c is named x k h) = inl h

-- what the answer to the words says, with its line
module _ (v : View) (said said' : Option (List ℕ)) where
  abbrev Line : List ℕ → Type 0
  Line bytes = WasGiven said bytes said'

  -- an image file was run, and this status was told of its run
  abbrev ImageSays : Status → Type 0
  ImageSays status = IsExecutedSo v.words v.holds v.kept v.left v.left' v.sent said said' status

  image_says : (told : CommandAnswer) (h : ExecutedSo v told) → v.name ≡ name_of h.command → Line (line_of v.name told) → ImageSays (status_of told)
  image_says told h named line =
      let P : List ℕ → Type 0 = λ name. WasGiven said (line_of name told) said' in
      record { told = told; executed = h; status_is = refl; line = subst P named line }

  -- what stands at a status that is no write fault
  abbrev Says : Status → Type 0
  Says Done = IsDone v.words v.holds v.kept v.left v.left' v.sent said said' ⊎ (IsWritten v.words v.holds v.kept v.sent said said' ⊎ ImageSays Done)
  Says Unhandled = IsUnhandled v.words v.holds v.kept v.left v.left' v.sent said said' ⊎ ImageSays Unhandled
  Says Usage = IsUsage v.words said said' × v.InputSame
  Says Refused = IsRefused v.words v.holds said said' × v.Same × v.InputSame × (v.kept ≡ None)
  Says ArenaFull =
      IsArenaFull v.words v.holds v.kept v.left v.left' v.sent said said' ⊎ (ImageSays ArenaFull ⊎ ((IsTooLarge v.words v.holds v.kept said said' ⊎ IsLargeImage v.words v.holds v.kept said said') × (v.Same × v.InputSame)))
  Says Budget = IsBudget v.words v.holds v.kept v.left v.left' v.sent said said' ⊎ (IsSpent v.words v.holds v.kept v.left v.left' v.sent said said' ⊎ ImageSays Budget)
  Says FileFault = v.ShelfRises × v.Same × v.InputSame × (v.kept ≡ None) × Line file_fault_line
  Says ReadFault = v.SourceRises × (IsReadFault v.words v.holds v.kept v.left v.left' v.sent said said' ⊎ ImageSays ReadFault)
  Says WriteFault = ⊤
  Says NoMemory = Wanting v × Line no_memory_line
  Says BadImage = IsBadImage v.words v.holds v.kept said said' × (v.Same × v.InputSame)
  Says Trap = ImageSays Trap

  done : Heard v answer.Done → Line [] → Says Done
  done (is_usage e none same) line = absurd (cc)
  done (is_untold e same) line = absurd (cc)
  done (is_checked c is named b k i same h) line = absurd h
  done (is_written c is named b i h) line =
      inr (inl (record { command = c; asked_for = is; bytes = h.bytes; told = []; writes = writes_so v c h.bytes b h.are; printed = h.given_so; line = line }))
  done (is_ended c is named h) line = inl (record { ended = ended v c endings.Value is h; line = line })
  done (is_executed c is named x k h) line = inr (inr (image_says answer.Done (executed v c answer.Done is x k h) named line))

  unhandled : (class : List ℕ) (site : Place) (told : List ℕ) → Heard v (answer.Unhandled class site told) → Line (unhandled_line v.name class site told) → Says Unhandled
  unhandled class site told (is_usage e none same) line = absurd (cc)
  unhandled class site told (is_untold e same) line = absurd (cc)
  unhandled class site told (is_checked c is named b k i same h) line = absurd h
  unhandled class site told (is_written c is named b i h) line = absurd h
  unhandled class site told (is_ended c is named h) line =
      let P : List ℕ → List ℕ → Type 0 = λ name class. WasGiven said (unhandled_line name class site told) said' in
      inl (record {
        class = h.class;
        site = site;
        ended = ended v c (endings.Unhandled h.class site) is h.ends;
        told = told;
        tells = h.tells;
        line = subst (P (name_of c)) h.named (subst (λ name. P name class) named line);
      })
  unhandled class site told (is_executed c is named x k h) line = absurd h

  unhandled_class : (class : ℕ) (site : Option Place) → Heard v (answer.UnhandledClass class site) → Line (line_of v.name (answer.UnhandledClass class site)) → Says Unhandled
  unhandled_class class site (is_usage e none same) line = absurd (cc)
  unhandled_class class site (is_untold e same) line = absurd (cc)
  unhandled_class class site (is_checked c is named b k i same h) line = absurd h
  unhandled_class class site (is_written c is named b i h) line = absurd h
  unhandled_class class site (is_ended c is named h) line = absurd h
  unhandled_class class site (is_executed c is named x k h) line = inr (image_says (answer.UnhandledClass class site) (executed v c (answer.UnhandledClass class site) is x k h) named line)

  usage : (word : Option (List ℕ)) → Heard v (answer.Usage word) → Line (usage_line word) → Says Usage
  usage word (is_usage e none same) line =
      let same_word : word ≡ wrong_word v.words = cc in
      (record { asked_for = none; line = subst (λ (w : Option (List ℕ)). Line (usage_line w)) same_word line }, same.1)
  usage word (is_untold e same) line = absurd (cc)
  usage word (is_checked c is named b k i same h) line = absurd h
  usage word (is_written c is named b i h) line = absurd h
  usage word (is_ended c is named h) line = absurd h
  usage word (is_executed c is named x k h) line = absurd h

  abbrev refused_so : Refusal → (text name : List ℕ) → Type 0
  refused_so r text name = Line (refusal_lines name text r)

  refused : (r : Refusal) (text : List ℕ) → Heard v (answer.Refused r text) → Line (refusal_lines v.name text r) → Says Refused
  refused r text (is_usage e none same) line = absurd (cc)
  refused r text (is_untold e same) line = absurd (cc)
  refused r text (is_checked c is named b k i same h) line =
      (record { command = c; asked_for = is; refusal = r; text = text; offends = subst (λ (x : Action). Offends x (v.holds c.file) r text) (sym b) h; line = subst (refused_so r text) named line }, same, i, k)
  refused r text (is_written c is named b i h) line =
      (record { command = c; asked_for = is; refusal = r; text = text; offends = subst (λ (x : Action). Offends x (v.holds c.file) r text) (sym b) h.0; line = subst (refused_so r text) named line }, h.1.0, i, h.1.1)
  refused r text (is_ended c is named h) line =
      (record { command = c; asked_for = is; refusal = r; text = text; offends = h.0; line = subst (refused_so r text) named line }, h.1.0.0, h.1.0.1, h.1.1)
  refused r text (is_executed c is named x k h) line = absurd h

  arena_full : (wanted room : ℕ) → Heard v (answer.ArenaFull wanted room) → Line (arena_full_line wanted room) → Says ArenaFull
  arena_full wanted room (is_usage e none same) line = absurd (cc)
  arena_full wanted room (is_untold e same) line = absurd (cc)
  arena_full wanted room (is_checked c is named b k i same h) line = absurd h
  arena_full wanted room (is_written c is named b i h) line = absurd h
  arena_full wanted room (is_ended c is named (inl h)) line =
      inl (record { wanted = wanted; room = room; ended = ended v c (endings.Full wanted room) is h; line = line })
  arena_full wanted room (is_ended c is named (inr h)) line =
      let words : ℕ = length h.0.large.is_large.built.image.words in
      let P : ℕ → ℕ → Type 0 = λ n m. WasGiven said (arena_full_line n m) said' in
      inr (inr (
        inl (record {
          command = c;
          asked_for = is;
          runs = h.0.runs;
          large = h.0.large;
          line = subst (λ m. P words m) h.0.room_is (subst (λ n. P n room) h.0.wanted_is line);
        }),
        h.1,
      ))
  arena_full wanted room (is_executed c is named x k (inl h)) line = inr (inl (image_says (answer.ArenaFull wanted room) (executed v c (answer.ArenaFull wanted room) is x k h) named line))
  arena_full wanted room (is_executed c is named x k (inr h)) line =
      let words : ℕ = length h.0.large.file.image.words in
      let P : ℕ → ℕ → Type 0 = λ n m. WasGiven said (arena_full_line n m) said' in
      inr (inr (
        inr (record {
          command = c;
          asked_for = is;
          is_exec = x;
          unkept = k;
          large = h.0.large;
          line = subst (λ m. P words m) h.0.room_is (subst (λ n. P n room) h.0.wanted_is line);
        }),
        h.1,
      ))

  budget : (n : ℕ) → Heard v (answer.Budget n) → Line (budget_line n) → Says Budget
  budget n (is_usage e none same) line = absurd (cc)
  budget n (is_untold e same) line = absurd (cc)
  budget n (is_checked c is named b k i same h) line = absurd h
  budget n (is_written c is named b i h) line = absurd h
  budget n (is_ended c is named h) line =
      let P : ℕ → Type 0 = λ m. WasGiven said (budget_line m) said' in
      inl (record { ended = ended v c endings.More is h.1; line = subst P h.0 line })
  budget n (is_executed c is named x k h) line = inr (inr (image_says (answer.Budget n) (executed v c (answer.Budget n) is x k h) named line))

  spent : Heard v answer.Spent → Line spent_line → Says Budget
  spent (is_usage e none same) line = absurd (cc)
  spent (is_untold e same) line = absurd (cc)
  spent (is_checked c is named b k i same h) line = absurd h
  spent (is_written c is named b i h) line = absurd h
  spent (is_ended c is named h) line = inr (inl (record { ended = ended v c endings.Spent is h; line = line }))
  spent (is_executed c is named x k h) line = absurd h

  file_fault : Heard v answer.FileFault → Line file_fault_line → Says FileFault
  file_fault (is_usage e none same) line = absurd (cc)
  file_fault (is_untold e same) line = absurd (cc)
  file_fault (is_checked c is named b k i same h) line = (h, same, i, k, line)
  file_fault (is_written c is named b i h) line = (h.0, h.1.0, i, h.1.1, line)
  file_fault (is_ended c is named h) line = (h.0, h.1.0.0, h.1.0.1, h.1.1, line)
  file_fault (is_executed c is named x k h) line = (h.0, h.1.0, h.1.1, k, line)

  read_fault : Heard v answer.ReadFault → Line read_fault_line → Says ReadFault
  read_fault (is_usage e none same) line = absurd (cc)
  read_fault (is_untold e same) line = absurd (cc)
  read_fault (is_checked c is named b k i same h) line = absurd h
  read_fault (is_written c is named b i h) line = absurd h
  read_fault (is_ended c is named h) line = (h.0, inl (record { ended = ended v c endings.ReadFault is h.1; line = line }))
  read_fault (is_executed c is named x k h) line = (h.0, inr (image_says answer.ReadFault (executed v c answer.ReadFault is x k h.1) named line))

  bad_image : (r : ImageFault) → Heard v (answer.BadImage r) → Line (bad_image_line r) → Says BadImage
  bad_image r (is_usage e none same) line = absurd (cc)
  bad_image r (is_untold e same) line = absurd (cc)
  bad_image r (is_checked c is named b k i same h) line = absurd h
  bad_image r (is_written c is named b i h) line = absurd h
  bad_image r (is_ended c is named h) line = absurd h
  bad_image r (is_executed c is named x k h) line =
      (record { command = c; asked_for = is; is_exec = x; unkept = k; reason = r; bad = h.0; line = line }, h.1)

  trap : (kind : TrapKind) (address : ℕ) → Heard v (answer.Trap kind address) → Line (line_of v.name (answer.Trap kind address)) → Says Trap
  trap kind address (is_usage e none same) line = absurd (cc)
  trap kind address (is_untold e same) line = absurd (cc)
  trap kind address (is_checked c is named b k i same h) line = absurd h
  trap kind address (is_written c is named b i h) line = absurd h
  trap kind address (is_ended c is named h) line = absurd h
  trap kind address (is_executed c is named x k h) line = image_says (answer.Trap kind address) (executed v c (answer.Trap kind address) is x k h) named line

  says : (a : CommandAnswer) → is_checked_answer a ≡ false → Heard v a → Line (line_of v.name a) → Says (status_of a)
  says (answer.Checked lines) other w line = absurd (cc)
  says answer.Done other w line = done w line
  says (answer.Unhandled class site told) other w line = unhandled class site told w line
  says (answer.Usage word) other w line = usage word w line
  says (answer.Refused x text) other w line = refused x text w line
  says (answer.ArenaFull wanted room) other w line = arena_full wanted room w line
  says (answer.Budget n) other w line = budget n w line
  says answer.Spent other w line = spent w line
  says answer.FileFault other w line = file_fault w line
  says answer.ReadFault other w line = read_fault w line
  says answer.WriteFault other w line = tt
  says answer.NoMemory other w line = (wanting v w, line)
  says (answer.UnhandledClass class site) other w line = unhandled_class class site w line
  says (answer.BadImage r) other w line = bad_image r w line
  says (answer.Trap kind address) other w line = trap kind address w line

-- what it says without its line
module _ (v : View) where
  -- the output was cut off
  abbrev Cut : Type 0
  Cut = IsCutOff v.words v.holds v.kept v.left v.left' v.sent ⊎ (IsWrittenCutOff v.words v.holds v.kept v.sent ⊎ ExecutedSo v answer.WriteFault)

  -- a run or an evaluation came to an end of which a line is to be written
  abbrev Untold : Type 0
  Untold = IsUntold v.words v.holds v.kept v.left v.left' v.sent ⊎ (IsBroken v.words v.holds v.kept v.left v.left' v.sent ⊎ IsExecutedUntold v.words v.holds v.kept v.left v.left' v.sent)

  untold : (end : EvaluationEnd) → HasLine end → EndedSo v end → Untold
  untold end l h = inl (record { end = end; has_line = l; ended = h })

  image_untold : (told : CommandAnswer) → ((name : List ℕ) → line_of name told ≢ []) → ExecutedSo v told → Untold
  image_untold told l h = inr (inr (record { told = told; executed = h; has_line = l (name_of h.command) }))

  cut : Heard v answer.WriteFault → v.Rises × Cut
  cut (is_usage e none same) = absurd (cc)
  cut (is_untold e same) = absurd (cc)
  cut (is_checked c is named b k i same h) = absurd h
  cut (is_written c is named b i h) =
      (h.0, inr (inl (record { command = c; asked_for = is; bytes = h.1.bytes; told = []; writes = writes_so v c h.1.bytes b h.1.are; printed = h.1.given_so })))
  cut (is_ended c is named h) = (h.0, inl (record { ended = ended v c endings.WriteFault is h.1 }))
  cut (is_executed c is named x k h) = (h.0, inr (inr (executed v c answer.WriteFault is x k h.1)))

  -- the outside stays where the words, the text or the image file are refused, or the shelf fails
  usage_same : (word : Option (List ℕ)) → Heard v (answer.Usage word) → v.Same × v.InputSame
  usage_same word (is_usage e none same) = same
  usage_same word (is_untold e same) = same
  usage_same word (is_checked c is named b k i same h) = absurd h
  usage_same word (is_written c is named b i h) = absurd h
  usage_same word (is_ended c is named h) = absurd h
  usage_same word (is_executed c is named x k h) = absurd h

  refused_same : (r : Refusal) (text : List ℕ) → Heard v (answer.Refused r text) → v.Same × v.InputSame
  refused_same r text (is_usage e none same) = same
  refused_same r text (is_untold e same) = same
  refused_same r text (is_checked c is named b k i same h) = (same, i)
  refused_same r text (is_written c is named b i h) = (h.1.0, i)
  refused_same r text (is_ended c is named h) = h.1.0
  refused_same r text (is_executed c is named x k h) = absurd h

  file_fault_same : Heard v answer.FileFault → v.Same × v.InputSame
  file_fault_same (is_usage e none same) = same
  file_fault_same (is_untold e same) = same
  file_fault_same (is_checked c is named b k i same h) = (same, i)
  file_fault_same (is_written c is named b i h) = (h.1.0, i)
  file_fault_same (is_ended c is named h) = h.1.0
  file_fault_same (is_executed c is named x k h) = h.1

  bad_image_same : (r : ImageFault) → Heard v (answer.BadImage r) → v.Same × v.InputSame
  bad_image_same r (is_usage e none same) = same
  bad_image_same r (is_untold e same) = same
  bad_image_same r (is_checked c is named b k i same h) = absurd h
  bad_image_same r (is_written c is named b i h) = absurd h
  bad_image_same r (is_ended c is named h) = absurd h
  bad_image_same r (is_executed c is named x k h) = h.1

  -- a write fault is one of a line with nothing touched before it, one of the output, or one of the line of a run or of an evaluation
  abbrev Faults : Type 0 → Type 0
  Faults ErrRises = (ErrRises × (v.Same × v.InputSame)) ⊎ ((v.Rises × Cut) ⊎ (ErrRises × Untold))

  -- a run or an evaluation came to an end of which a line is still to be written, or nothing was touched
  unhandled_untold : (ErrRises : Type 0) (class : List ℕ) (site : Place) (told : List ℕ) → ErrRises → Heard v (answer.Unhandled class site told) → Faults ErrRises
  unhandled_untold ErrRises class site told f (is_usage e none same) = inl (f, same)
  unhandled_untold ErrRises class site told f (is_untold e same) = inl (f, same)
  unhandled_untold ErrRises class site told f (is_checked c is named b k i same h) = absurd h
  unhandled_untold ErrRises class site told f (is_written c is named b i h) = absurd h
  unhandled_untold ErrRises class site told f (is_ended c is named h) =
      inr (inr (f, untold (endings.Unhandled h.class site) tt (ended v c (endings.Unhandled h.class site) is h.ends)))
  unhandled_untold ErrRises class site told f (is_executed c is named x k h) = absurd h

  class_untold : (ErrRises : Type 0) (class : ℕ) (site : Option Place) → ErrRises → Heard v (answer.UnhandledClass class site) → Faults ErrRises
  class_untold ErrRises class site f (is_usage e none same) = inl (f, same)
  class_untold ErrRises class site f (is_untold e same) = inl (f, same)
  class_untold ErrRises class site f (is_checked c is named b k i same h) = absurd h
  class_untold ErrRises class site f (is_written c is named b i h) = absurd h
  class_untold ErrRises class site f (is_ended c is named h) = absurd h
  class_untold ErrRises class site f (is_executed c is named x k h) =
      inr (inr (f, image_untold (answer.UnhandledClass class site) (λ name. line_some (labelled (codes "unhandled class ") class ++ site_text site)) (executed v c (answer.UnhandledClass class site) is x k h)))

  full_untold : (ErrRises : Type 0) (wanted room : ℕ) → ErrRises → Heard v (answer.ArenaFull wanted room) → Faults ErrRises
  full_untold ErrRises wanted room f (is_usage e none same) = inl (f, same)
  full_untold ErrRises wanted room f (is_untold e same) = inl (f, same)
  full_untold ErrRises wanted room f (is_checked c is named b k i same h) = absurd h
  full_untold ErrRises wanted room f (is_written c is named b i h) = absurd h
  full_untold ErrRises wanted room f (is_ended c is named (inl h)) =
      inr (inr (f, untold (endings.Full wanted room) tt (ended v c (endings.Full wanted room) is h)))
  full_untold ErrRises wanted room f (is_ended c is named (inr h)) = inl (f, h.1)
  full_untold ErrRises wanted room f (is_executed c is named x k (inl h)) =
      inr (inr (f, image_untold (answer.ArenaFull wanted room) (λ name no. cc) (executed v c (answer.ArenaFull wanted room) is x k h)))
  full_untold ErrRises wanted room f (is_executed c is named x k (inr h)) = inl (f, h.1)

  budget_untold : (ErrRises : Type 0) (n : ℕ) → ErrRises → Heard v (answer.Budget n) → Faults ErrRises
  budget_untold ErrRises n f (is_usage e none same) = inl (f, same)
  budget_untold ErrRises n f (is_untold e same) = inl (f, same)
  budget_untold ErrRises n f (is_checked c is named b k i same h) = absurd h
  budget_untold ErrRises n f (is_written c is named b i h) = absurd h
  budget_untold ErrRises n f (is_ended c is named h) = inr (inr (f, untold endings.More tt (ended v c endings.More is h.1)))
  budget_untold ErrRises n f (is_executed c is named x k h) =
      inr (inr (f, image_untold (answer.Budget n) (λ name no. cc) (executed v c (answer.Budget n) is x k h)))

  spent_untold : (ErrRises : Type 0) → ErrRises → Heard v answer.Spent → Faults ErrRises
  spent_untold ErrRises f (is_usage e none same) = inl (f, same)
  spent_untold ErrRises f (is_untold e same) = inl (f, same)
  spent_untold ErrRises f (is_checked c is named b k i same h) = absurd h
  spent_untold ErrRises f (is_written c is named b i h) = absurd h
  spent_untold ErrRises f (is_ended c is named h) = inr (inr (f, untold endings.Spent tt (ended v c endings.Spent is h)))
  spent_untold ErrRises f (is_executed c is named x k h) = absurd h

  read_fault_untold : (ErrRises : Type 0) → ErrRises → Heard v answer.ReadFault → Faults ErrRises
  read_fault_untold ErrRises f (is_usage e none same) = inl (f, same)
  read_fault_untold ErrRises f (is_untold e same) = inl (f, same)
  read_fault_untold ErrRises f (is_checked c is named b k i same h) = absurd h
  read_fault_untold ErrRises f (is_written c is named b i h) = absurd h
  read_fault_untold ErrRises f (is_ended c is named h) = inr (inr (f, untold endings.ReadFault tt (ended v c endings.ReadFault is h.1)))
  read_fault_untold ErrRises f (is_executed c is named x k h) =
      inr (inr (f, image_untold answer.ReadFault (λ name no. cc) (executed v c answer.ReadFault is x k h.1)))

  trap_untold : (ErrRises : Type 0) (kind : TrapKind) (address : ℕ) → ErrRises → Heard v (answer.Trap kind address) → Faults ErrRises
  trap_untold ErrRises kind address f (is_usage e none same) = inl (f, same)
  trap_untold ErrRises kind address f (is_untold e same) = inl (f, same)
  trap_untold ErrRises kind address f (is_checked c is named b k i same h) = absurd h
  trap_untold ErrRises kind address f (is_written c is named b i h) = absurd h
  trap_untold ErrRises kind address f (is_ended c is named h) = absurd h
  trap_untold ErrRises kind address f (is_executed c is named x k h) =
      inr (inr (f, image_untold (answer.Trap kind address) (λ name. line_some (labelled (codes "trap ") (trap_number kind) ++ labelled (codes " ") address)) (executed v c (answer.Trap kind address) is x k h)))

  by_line : (ErrRises : Type 0) → ErrRises → Wanting v → Faults ErrRises
  by_line ErrRises f (inl same) = inl (f, same)
  by_line ErrRises f (inr (inl h)) = inr (inr (f, untold (endings.Unhandled h.class h.site) tt h.ended))
  by_line ErrRises f (inr (inr b)) = inr (inr (f, inr (inl b)))

  write_fault : (a : CommandAnswer) (r : Status) (ErrRises : Type 0) → is_checked_answer a ≡ false → Heard v a → r ≡ WriteFault → (r ≡ WriteFault → status_of a ≢ WriteFault → ErrRises) → (line_of v.name a ≡ [] → r ≡ status_of a) → Faults ErrRises
  write_fault (answer.Checked lines) r ErrRises other w e fault quiet = absurd (cc)
  write_fault answer.Done r ErrRises other w e fault quiet = absurd (done_is_none (sym (quiet refl) ∙ e))
    where
      done_is_none : Done ≡ WriteFault → ⊥
      done_is_none h = cc
  write_fault (answer.Unhandled class site told) r ErrRises other w e fault quiet = unhandled_untold ErrRises class site told (fault e (λ h. cc)) w
  write_fault (answer.Usage word) r ErrRises other w e fault quiet = inl (fault e (λ h. cc), usage_same word w)
  write_fault (answer.Refused x text) r ErrRises other w e fault quiet = inl (fault e (λ h. cc), refused_same x text w)
  write_fault (answer.ArenaFull wanted room) r ErrRises other w e fault quiet = full_untold ErrRises wanted room (fault e (λ h. cc)) w
  write_fault (answer.Budget n) r ErrRises other w e fault quiet = budget_untold ErrRises n (fault e (λ h. cc)) w
  write_fault answer.Spent r ErrRises other w e fault quiet = spent_untold ErrRises (fault e (λ h. cc)) w
  write_fault answer.FileFault r ErrRises other w e fault quiet = inl (fault e (λ h. cc), file_fault_same w)
  write_fault answer.ReadFault r ErrRises other w e fault quiet = read_fault_untold ErrRises (fault e (λ h. cc)) w
  write_fault answer.WriteFault r ErrRises other w e fault quiet = inr (inl (cut w))
  write_fault (answer.UnhandledClass class site) r ErrRises other w e fault quiet = class_untold ErrRises class site (fault e (λ h. cc)) w
  write_fault (answer.BadImage x) r ErrRises other w e fault quiet = inl (fault e (λ h. cc), bad_image_same x w)
  write_fault (answer.Trap kind address) r ErrRises other w e fault quiet = trap_untold ErrRises kind address (fault e (λ h. cc)) w
  write_fault answer.NoMemory r ErrRises other w e fault quiet = by_line ErrRises (fault e (λ h. cc)) (wanting v w)

  -- the line calls the text as the words do, where it calls it anything
  line_named : (a : CommandAnswer) → Told v a → line_of v.name a ≡ line_of (name_in (asked v.words)) a
  line_named a (was_usage e none shelf same i k) = subst (λ (x : CommandAnswer). line_of v.name x ≡ line_of (name_in (asked v.words)) x) (sym e) refl
  line_named a (was_untold e shelf same i k) = subst (λ (x : CommandAnswer). line_of v.name x ≡ line_of (name_in (asked v.words)) x) (sym e) refl
  line_named a (was_asked c is named o) = ap (λ name. line_of name a) (named ∙ ap name_in (sym is))

  -- where the words are no command, nothing is touched
  untouched : (a : CommandAnswer) → Told v a → asked v.words ≡ None → ((a ≡ answer.Usage (wrong_word v.words)) ⊎ (a ≡ answer.NoMemory)) × v.ShelfSame × v.Same × v.InputSame × (v.kept ≡ None)
  untouched a (was_usage e none shelf same i k) h = (inl e, shelf, same, i, k)
  untouched a (was_untold e shelf same i k) h = (inr e, shelf, same, i, k)
  untouched a (was_asked c is named o) h = absurd (cc)

  words_first : (a : CommandAnswer) (r : Status) → Told v a → (r ≢ WriteFault → r ≡ status_of a) → asked v.words ≡ None
      → ((r ≡ Usage) ⊎ ((r ≡ WriteFault) ⊎ (r ≡ NoMemory))) × v.ShelfSame × v.Same × v.InputSame × (v.kept ≡ None)
  words_first a r w written h =
      let u = untouched a w h in
      (first_status a r (wrong_word v.words) u.0 (settled r (status_of a) written), u.1, u.2, u.3, u.4)

  -- the command that was obeyed is the one that the words ask for
  module _ (command : Request) (is_asked : asked v.words ≡ Some command) where
    same_command : (c : Request) → asked v.words ≡ Some c → command ≡ c
    same_command c is = let both : Some command ≡ Some c = sym is_asked ∙ is in cc

    -- and so of what its action never does
    never : (P : Action → Type 0) (c : Request) (x : Action) → asked v.words ≡ Some c → c.action ≡ x → P command.action → P x
    never P c x is action h = subst P (ap (λ (r : Request). r.action) (same_command c is) ∙ action) h

    -- an action that runs the program of a text reads the input, and leaves its image
    reads : (x : Action) → RunsPrograms x → ReadsNothing x → ⊥
    reads Run r h = h
    reads Show r h = h
    reads Check r h = r
    reads Build r h = r
    reads Exec r h = r
    reads Plain r h = r
    reads (Make n) r h = h

    keeps : (x : Action) → RunsPrograms x → KeepsNothing x → ⊥
    keeps Run r h = h
    keeps Show r h = h
    keeps Check r h = r
    keeps Build r h = r
    keeps Exec r h = r
    keeps Plain r h = r
    keeps (Make n) r h = h

    input_same : (a : CommandAnswer) → Told v a → ReadsNothing command.action → v.InputSame
    input_same a (was_usage e none shelf same i k) h = i
    input_same a (was_untold e shelf same i k) h = i
    input_same a (was_asked c is named (was_ended r m o)) h = absurd (reads c.action r (never ReadsNothing c c.action is refl h))
    input_same a (was_asked c is named (was_plain p k o)) h = absurd (never ReadsNothing c Plain is p h)
    input_same a (was_asked c is named (was_check p i same k o)) h = i
    input_same a (was_asked c is named (was_build p i o)) h = i
    input_same a (was_asked c is named (was_exec p k o)) h = absurd (never ReadsNothing c Exec is p h)

    unkept : (a : CommandAnswer) → Told v a → KeepsNothing command.action → v.kept ≡ None
    unkept a (was_usage e none shelf same i k) h = k
    unkept a (was_untold e shelf same i k) h = k
    unkept a (was_asked c is named (was_ended r m o)) h = absurd (keeps c.action r (never KeepsNothing c c.action is refl h))
    unkept a (was_asked c is named (was_plain p k o)) h = k
    unkept a (was_asked c is named (was_check p i same k o)) h = k
    unkept a (was_asked c is named (was_build p i o)) h = absurd (never KeepsNothing c Build is p h)
    unkept a (was_asked c is named (was_exec p k o)) h = k

    shelf_same : (a : CommandAnswer) → Told v a → MakesText command.action → v.ShelfSame
    shelf_same a (was_usage e none shelf same i k) h = shelf
    shelf_same a (was_untold e shelf same i k) h = shelf
    shelf_same a (was_asked c is named (was_ended r m o)) h = m (never MakesText c c.action is refl h)
    shelf_same a (was_asked c is named (was_plain p k o)) h = absurd (never MakesText c Plain is p h)
    shelf_same a (was_asked c is named (was_check p i same k o)) h = absurd (never MakesText c Check is p h)
    shelf_same a (was_asked c is named (was_build p i o)) h = absurd (never MakesText c Build is p h)
    shelf_same a (was_asked c is named (was_exec p k o)) h = absurd (never MakesText c Exec is p h)

-- a call that answered a, which is not that of a check, and ended with the status r, whose line was written
pub record CallEnded (v : View) (ErrRises : Type 0) (said said' : Option (List ℕ)) (a : CommandAnswer) (r : Status) : Type 0 where
  pub told : WordsAnswers a v.name v.words v.holds v.kept v.left v.left' v.sent v.ShelfRises v.SourceRises v.Rises v.Same v.InputSame v.ShelfSame
  pub unchecked : is_checked_answer a ≡ false
  pub written : r ≢ WriteFault → r ≡ status_of a
  pub line : r ≢ WriteFault → WasGiven said (line_of v.name a) said'
  pub fault : r ≡ WriteFault → status_of a ≢ WriteFault → ErrRises
  pub quiet : line_of v.name a ≡ [] → r ≡ status_of a

-- what stands after it
module _ {v : View} {ErrRises : Type 0} {said said' : Option (List ℕ)} {a : CommandAnswer} {r : Status} (c : CallEnded v ErrRises said said' a r) where
  ends : (t : Status) → r ≡ t → t ≢ WriteFault → Says v said said' t
  ends t e other =
      let no_fault : r ≢ WriteFault = λ h. other (sym e ∙ h) in
      subst (Says v said said') (sym (c.written no_fault) ∙ e) (says v said said' a c.unchecked (heard v a c.told) (c.line no_fault))

  pub ends_usage : r ≡ Usage → IsUsage v.words said said' × v.InputSame
  ends_usage e = ends Usage e (λ h. cc)

  pub ends_words_first : asked v.words ≡ None → ((r ≡ Usage) ⊎ ((r ≡ WriteFault) ⊎ (r ≡ NoMemory))) × v.ShelfSame × v.Same × v.InputSame × (v.kept ≡ None)
  ends_words_first none = words_first v a r c.told c.written none

  pub ends_done : r ≡ Done → IsDone v.words v.holds v.kept v.left v.left' v.sent said said' ⊎ (IsWritten v.words v.holds v.kept v.sent said said' ⊎ IsExecutedSo v.words v.holds v.kept v.left v.left' v.sent said said' Done)
  ends_done e = ends Done e (λ h. cc)

  pub ends_unhandled : r ≡ Unhandled → IsUnhandled v.words v.holds v.kept v.left v.left' v.sent said said' ⊎ IsExecutedSo v.words v.holds v.kept v.left v.left' v.sent said said' Unhandled
  ends_unhandled e = ends Unhandled e (λ h. cc)

  pub ends_refused : r ≡ Refused → IsRefused v.words v.holds said said' × v.Same × v.InputSame × (v.kept ≡ None)
  ends_refused e = ends Refused e (λ h. cc)

  pub ends_arena_full : r ≡ ArenaFull
      → IsArenaFull v.words v.holds v.kept v.left v.left' v.sent said said' ⊎ (IsExecutedSo v.words v.holds v.kept v.left v.left' v.sent said said' ArenaFull ⊎ ((IsTooLarge v.words v.holds v.kept said said' ⊎ IsLargeImage v.words v.holds v.kept said said') × (v.Same × v.InputSame)))
  ends_arena_full e = ends ArenaFull e (λ h. cc)

  pub ends_budget : r ≡ Budget → IsBudget v.words v.holds v.kept v.left v.left' v.sent said said' ⊎ (IsSpent v.words v.holds v.kept v.left v.left' v.sent said said' ⊎ IsExecutedSo v.words v.holds v.kept v.left v.left' v.sent said said' Budget)
  ends_budget e = ends Budget e (λ h. cc)

  pub ends_file_fault : r ≡ FileFault → v.ShelfRises × v.Same × v.InputSame × (v.kept ≡ None) × WasGiven said file_fault_line said'
  ends_file_fault e = ends FileFault e (λ h. cc)

  pub ends_read_fault : r ≡ ReadFault → v.SourceRises × (IsReadFault v.words v.holds v.kept v.left v.left' v.sent said said' ⊎ IsExecutedSo v.words v.holds v.kept v.left v.left' v.sent said said' ReadFault)
  ends_read_fault e = ends ReadFault e (λ h. cc)

  pub ends_bad_image : r ≡ BadImage → IsBadImage v.words v.holds v.kept said said' × (v.Same × v.InputSame)
  ends_bad_image e = ends BadImage e (λ h. cc)

  pub ends_trap : r ≡ Trap → IsExecutedSo v.words v.holds v.kept v.left v.left' v.sent said said' Trap
  ends_trap e = ends Trap e (λ h. cc)

  pub ends_write_fault : r ≡ WriteFault
      → (ErrRises × (v.Same × v.InputSame)) ⊎ ((v.Rises × (IsCutOff v.words v.holds v.kept v.left v.left' v.sent ⊎ (IsWrittenCutOff v.words v.holds v.kept v.sent ⊎ IsExecuted v.words v.holds v.kept v.left v.left' v.sent answer.WriteFault))) ⊎ (ErrRises × (IsUntold v.words v.holds v.kept v.left v.left' v.sent ⊎ (IsBroken v.words v.holds v.kept v.left v.left' v.sent ⊎ IsExecutedUntold v.words v.holds v.kept v.left v.left' v.sent))))
  ends_write_fault e = write_fault v a r ErrRises c.unchecked (heard v a c.told) e c.fault c.quiet

  pub ends_no_memory : r ≡ NoMemory → ((v.Same × v.InputSame) ⊎ (IsUnnamed v.words v.holds v.kept v.left v.left' v.sent ⊎ IsBroken v.words v.holds v.kept v.left v.left' v.sent)) × WasGiven said no_memory_line said'
  ends_no_memory e = ends NoMemory e (λ h. cc)

  pub ends_line : r ≢ WriteFault → (told : CommandAnswer) × ((r ≡ status_of told) × WasGiven said (line_of (name_in (asked v.words)) told) said')
  ends_line other = (a, (c.written other, subst (λ text. WasGiven said text said') (line_named v a c.told) (c.line other)))

  pub ends_input : (command : Request) → asked v.words ≡ Some command → ReadsNothing command.action → v.InputSame
  ends_input command is h = input_same v command is a c.told h

  pub ends_kept : (command : Request) → asked v.words ≡ Some command → KeepsNothing command.action → v.kept ≡ None
  ends_kept command is h = unkept v command is a c.told h

  pub ends_shelf : (command : Request) → asked v.words ≡ Some command → MakesText command.action → v.ShelfSame
  ends_shelf command is h = shelf_same v command is a c.told h
