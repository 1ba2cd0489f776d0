-- From how the run of an image ended to the answer for it, and for its file.
use Rattle.std.proofs.Common.{◌≡◌, ℕ, ◌≤◌, List, length, refl, sym, subst, inl, inr, ◌↔◌, Result, Err}
use Rattle.std.specs.Prelude.{Option}
use Rattle.base.specs.declared.place.Place.{Place}
use Rattle.rv_machine.specs.declared.image.Image.{Image}
use Rattle.rv_machine.specs.declared.ending.Ending.{Ending}
use Rattle.rv_machine.specs.declared.ending.Ending.TheVariants.{Halt, Unhandled, Full, Budget, Trap, ReadFault, WriteFault}
use Rattle.rv_image_file.specs.BadText.{BadText}
use Rattle.rv_image_file.specs.declared.faults.BadImage.{BadImage}
use Rattle.rv_image_file.specs.declared.faults.ImageStop.{ImageStop}
use Rattle.rv_image_file.specs.declared.faults.ImageStop.TheVariants as stop
use Rattle.rv_image_file.specs.declared.reading.ImageFile.{ImageFile}
use Rattle.top_lines.specs.declared.status.CommandAnswer.{CommandAnswer}
use Rattle.top_lines.specs.declared.status.CommandAnswer.TheVariants as answer
use Rattle.top_exec.specs.declared.image_run.ImageEnd.{ImageEnd}
use Rattle.top_exec.specs.Runs.{Sent, ImageComes, FaultTells}
use Rattle.top_exec.specs.Loads.{IsImageTaken}
use Rattle.top_exec.specs.Executes.{answer_of_stop, told_of, IsImageFile, Executes, ImageAnswers, ExecAnswers}

-- the run of an image with these sites, which fits the arena
module _ (image : Image) (sites : List Place) (arena steps : ℕ) (left left' : Option (List ℕ)) (sent : Sent) (SourceRises Rises Same : Type 0) (fits : length image.words ≤ arena) where
  abbrev Answers : CommandAnswer → Type 0
  Answers a = ImageAnswers a image sites arena steps left left' sent SourceRises Rises Same

  -- this is told of the run
  abbrev Tells : CommandAnswer → Type 0
  Tells told = (length image.words ≤ arena) × ((end : ImageEnd) × (ImageComes image arena steps left left' sent end × (told ≡ told_of sites end.site steps end.ending)))

  of_end : (e : ImageEnd) (ending : Ending) → Tells (told_of sites e.site steps ending) → FaultTells ending SourceRises Rises → Answers (told_of sites e.site steps ending)
  of_end e (Halt word) h t = h
  of_end e (Unhandled class) h t = h
  of_end e (Full wanted room) h t = inl h
  of_end e Budget h t = h
  of_end e (Trap kind address) h t = h
  of_end e ReadFault h t = (t, h)
  of_end e WriteFault h t = (t, h)

  -- the answer of an end is that of its image
  pub of_run : (a : CommandAnswer) (e : ImageEnd) → a ≡ told_of sites e.site steps e.ending → ImageComes image arena steps left left' sent e → FaultTells e.ending SourceRises Rises → Answers a
  of_run a e is h t = subst Answers (sym is) (of_end e e.ending (fits, (e, (h, refl))) t)

-- the image and its sites stand in a file
module _ (held : Option (List ℕ)) (file : IsImageFile held) (arena steps : ℕ) (left left' : Option (List ℕ)) (sent : Sent) (ShelfRises SourceRises Rises Same : Type 0) where
  abbrev OfFile : CommandAnswer → Type 0
  OfFile a = ExecAnswers a held arena steps left left' sent ShelfRises SourceRises Rises Same

  executes : (told : CommandAnswer) → (length file.image.words ≤ arena) × ((end : ImageEnd) × (ImageComes file.image arena steps left left' sent end × (told ≡ told_of file.sites end.site steps end.ending)))
      → Executes held arena steps left left' sent told
  executes told h = record { file = file; fits = h.0; end = h.1.0; comes = h.1.1.0; told_is = h.1.1.1 }

  pub of_image : (a : CommandAnswer) → ImageAnswers a file.image file.sites arena steps left left' sent SourceRises Rises Same → OfFile a
  of_image answer.Done h = executes answer.Done h
  of_image (answer.UnhandledClass class site) h = executes (answer.UnhandledClass class site) h
  of_image (answer.ArenaFull wanted room) (inl h) = inl (executes (answer.ArenaFull wanted room) h)
  of_image (answer.ArenaFull wanted room) (inr h) =
      inr (record { large = record { file = file; large = h.0.0 }; wanted_is = h.0.1.0; room_is = h.0.1.1 }, h.1)
  of_image (answer.Budget n) h = executes (answer.Budget n) h
  of_image (answer.Trap kind address) h = executes (answer.Trap kind address) h
  of_image answer.ReadFault h = (h.0, executes answer.ReadFault h.1)
  of_image answer.WriteFault h = (h.0, executes answer.WriteFault h.1)
  of_image (answer.BadImage reason) h = absurd h.0
  of_image answer.FileFault h = absurd h.0
  of_image answer.NoMemory h = h
  of_image (answer.Unhandled class site told) h = absurd h
  of_image (answer.Usage word) h = absurd h
  of_image (answer.Checked warnings) h = absurd h
  of_image (answer.Refused r text) h = absurd h
  of_image answer.Spent h = absurd h

-- no image was read of the bytes that were taken of a file
abbrev pub stopped : ImageStop → Result ImageFile ImageStop
stopped s = Err s

pub of_stop : (a : CommandAnswer) (s : ImageStop) (held : Option (List ℕ)) (bytes : List ℕ) (arena steps : ℕ) (left left' : Option (List ℕ)) (sent : Sent) (ShelfRises SourceRises Rises Same : Type 0)
    → a ≡ answer_of_stop s → IsImageTaken held bytes → Same → ((reason : BadImage) → (stopped s ≡ stopped (stop.Bad reason)) ↔ BadText bytes reason)
    → ExecAnswers a held arena steps left left' sent ShelfRises SourceRises Rises Same
of_stop a (stop.Bad reason) held bytes arena steps left left' sent ShelfRises SourceRises Rises Same is taken same h =
    subst (λ b. ExecAnswers b held arena steps left left' sent ShelfRises SourceRises Rises Same) (sym is)
    (record { bytes = bytes; taken = taken; bad = (h reason).0 refl }, same)
of_stop a stop.NoMemory held bytes arena steps left left' sent ShelfRises SourceRises Rises Same is taken same h =
    subst (λ b. ExecAnswers b held arena steps left left' sent ShelfRises SourceRises Rises Same) (sym is) same
