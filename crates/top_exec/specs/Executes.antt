-- **What is answered of an image file that is run**, by the bytes that were taken of it and the run of its image alone.
use Rattle.std.specs.Prelude.{◌≡◌, ◌⊎◌, ◌<◌, ◌≤◌, ◌-◌, ◌==◌, if◌then◌else◌, ℕ, List, length, slice_get, Option, None}
use Rattle.base.specs.declared.place.Place.{Place}
use Rattle.rv_machine.specs.declared.image.Image.{Image}
use Rattle.rv_machine.specs.declared.ending.Ending.{Ending}
use Rattle.rv_machine.specs.declared.ending.Ending.TheVariants as machine
use Rattle.rv_image_file.specs.ImageText.{ImageText}
use Rattle.rv_image_file.specs.BadText.{BadText}
use Rattle.rv_image_file.specs.declared.faults.BadImage.{BadImage}
use Rattle.rv_image_file.specs.declared.faults.ImageStop.{ImageStop}
use Rattle.rv_image_file.specs.declared.faults.ImageStop.TheVariants as stop
use Rattle.top_lines.specs.declared.status.CommandAnswer.{CommandAnswer}
use Rattle.top_lines.specs.declared.status.CommandAnswer.TheVariants as answer
use Rattle.top_exec.specs.declared.image_run.ImageEnd.{ImageEnd}
use Rattle.top_exec.specs.Loads.{IsImageTaken}
use Rattle.top_exec.specs.Runs.{Sent, ImageComes}

-- the place of a site of the file by its number, from 1 on; none where there is no such site
abbrev pub site_of : List Place → ℕ → Option Place
site_of sites number = if number == 0 then None else slice_get sites (number - 1)

-- what is told of a run of so many instructions that ended so, with this number in register 11
abbrev pub told_of : List Place → (site steps : ℕ) → Ending → CommandAnswer
told_of sites site steps (machine.Halt word) = answer.Done
told_of sites site steps (machine.Unhandled class) = answer.UnhandledClass class (site_of sites site)
told_of sites site steps (machine.Full wanted room) = answer.ArenaFull wanted room
told_of sites site steps machine.Budget = answer.Budget steps
told_of sites site steps (machine.Trap kind address) = answer.Trap kind address
told_of sites site steps machine.ReadFault = answer.ReadFault
told_of sites site steps machine.WriteFault = answer.WriteFault

-- the bytes that were taken of a file are the text of an image with its sites
pub record IsImageFile (held : Option (List ℕ)) : Type 0 where
  pub bytes : List ℕ
  pub taken : IsImageTaken held bytes
  pub version : ℕ
  pub image : Image
  pub sites : List Place
  pub text : ImageText bytes version image sites

-- its image fits the arena, and this is told of the end to which its run came
pub record Executes (held : Option (List ℕ)) (arena steps : ℕ) (left left' : Option (List ℕ)) (sent : Sent) (told : CommandAnswer) : Type 0 where
  pub file : IsImageFile held
  pub fits : length file.image.words ≤ arena
  pub end : ImageEnd
  pub comes : ImageComes file.image arena steps left left' sent end
  pub told_is : told ≡ told_of file.sites end.site steps end.ending

-- its image has more words than the arena
pub record IsLargeFile (held : Option (List ℕ)) (arena : ℕ) : Type 0 where
  pub file : IsImageFile held
  pub large : arena < length file.image.words

-- the bytes that were taken of a file are no image file, for this reason
pub record IsBadFile (held : Option (List ℕ)) (reason : BadImage) : Type 0 where
  pub bytes : List ℕ
  pub taken : IsImageTaken held bytes
  pub bad : BadText bytes reason

-- the answer for a file of which no image was read
abbrev pub answer_of_stop : ImageStop → CommandAnswer
answer_of_stop (stop.Bad reason) = answer.BadImage reason
answer_of_stop stop.NoMemory = answer.NoMemory

-- an answer by what it tells: where this is told of a run, where the image is too large, which faults the file has, and where the shelf,
-- the source or the output rose in faults, or the outside is the same
abbrev pub AnswersOf : CommandAnswer → (Runs : CommandAnswer → Type 0) → (Large : ℕ → ℕ → Type 0) → (Bad : BadImage → Type 0) → (ShelfRises SourceRises Rises Same : Type 0) → Type 0
AnswersOf answer.Done Runs Large Bad ShelfRises SourceRises Rises Same = Runs answer.Done
AnswersOf (answer.UnhandledClass class site) Runs Large Bad ShelfRises SourceRises Rises Same = Runs (answer.UnhandledClass class site)
AnswersOf (answer.ArenaFull wanted room) Runs Large Bad ShelfRises SourceRises Rises Same =
    Runs (answer.ArenaFull wanted room) ⊎ (Large wanted room × Same)
AnswersOf (answer.Budget n) Runs Large Bad ShelfRises SourceRises Rises Same = Runs (answer.Budget n)
AnswersOf (answer.Trap kind address) Runs Large Bad ShelfRises SourceRises Rises Same = Runs (answer.Trap kind address)
AnswersOf answer.ReadFault Runs Large Bad ShelfRises SourceRises Rises Same = SourceRises × Runs answer.ReadFault
AnswersOf answer.WriteFault Runs Large Bad ShelfRises SourceRises Rises Same = Rises × Runs answer.WriteFault
AnswersOf (answer.BadImage reason) Runs Large Bad ShelfRises SourceRises Rises Same = Bad reason × Same
AnswersOf answer.FileFault Runs Large Bad ShelfRises SourceRises Rises Same = ShelfRises × Same
AnswersOf answer.NoMemory Runs Large Bad ShelfRises SourceRises Rises Same = Same
AnswersOf (answer.Unhandled class site told) Runs Large Bad ShelfRises SourceRises Rises Same = ⊥
AnswersOf (answer.Usage word) Runs Large Bad ShelfRises SourceRises Rises Same = ⊥
AnswersOf (answer.Checked warnings) Runs Large Bad ShelfRises SourceRises Rises Same = ⊥
AnswersOf (answer.Refused r text) Runs Large Bad ShelfRises SourceRises Rises Same = ⊥
AnswersOf answer.Spent Runs Large Bad ShelfRises SourceRises Rises Same = ⊥

-- an image of more words than the arena, as is told
abbrev pub IsTooLarge : Image → (arena wanted room : ℕ) → Type 0
IsTooLarge image arena wanted room = (arena < length image.words) × ((wanted ≡ length image.words) × (room ≡ arena))

-- the answer for an image with its sites
abbrev pub ImageAnswers : CommandAnswer → Image → List Place → (arena steps : ℕ) → (left left' : Option (List ℕ)) → Sent → (SourceRises Rises Same : Type 0) → Type 0
ImageAnswers a image sites arena steps left left' sent SourceRises Rises Same =
    AnswersOf a
    (λ told. (length image.words ≤ arena) × ((end : ImageEnd) × (ImageComes image arena steps left left' sent end × (told ≡ told_of sites end.site steps end.ending))))
    (IsTooLarge image arena) (λ r. ⊥) ⊥ SourceRises Rises Same

-- the image of a file has more words than the arena, as is told
pub record FileIsTooLarge (held : Option (List ℕ)) (arena wanted room : ℕ) : Type 0 where
  pub large : IsLargeFile held arena
  pub wanted_is : wanted ≡ length large.file.image.words
  pub room_is : room ≡ arena

-- the answer for a file
abbrev pub ExecAnswers : CommandAnswer → (held : Option (List ℕ)) → (arena steps : ℕ) → (left left' : Option (List ℕ)) → Sent → (ShelfRises SourceRises Rises Same : Type 0) → Type 0
ExecAnswers a held arena steps left left' sent ShelfRises SourceRises Rises Same =
    AnswersOf a (Executes held arena steps left left' sent) (FileIsTooLarge held arena) (IsBadFile held) ShelfRises SourceRises Rises Same
