-- From the verdict on a text to the answer of an action that runs nothing.
use Rattle.std.proofs.Common.{◌≡◌, ℕ, List, refl, sym, subst, Some, None}
use Rattle.std.specs.Prelude.{Option}
use Rattle.base.specs.Given.{WasGiven, WasGivenFront}
use Rattle.base.specs.declared.reason.Refusal.{Refusal}
use Rattle.base.specs.declared.reason.Stop.{Stop}
use Rattle.base.specs.declared.reason.Stop.TheVariants as stop
use Rattle.rv_machine.specs.declared.image.Image.{Image}
use Rattle.rv_image_file.specs.ImageText.{ImageText}
use Rattle.front_files.specs.Verdicts.{IsNoProgram}
use Rattle.lang_meaning.specs.declared.program.ProgramRows.{ProgramRows}
use Rattle.top_command.specs.declared.command.Action.TheVariants.{Check, Build}
use Rattle.top_lines.specs.Lines.{answer_of_stop}
use Rattle.top_lines.specs.declared.status.CommandAnswer.{CommandAnswer}
use Rattle.top_lines.specs.declared.status.CommandAnswer.TheVariants as answer
use Rattle.top_main.specs.Images.{IsImageOf}
use Rattle.top_main.specs.Answers.{Wrote, WrittenAnswers, WriteAnswers, CheckAnswers, IsWarnedOf, BytesAnswers, BuildAnswers}
use Rattle.top_main.specs.Theorem.{library, mode_of, IsTextOf, IsWhole, Offends, IsFileOf, FileBuilds}

-- an answer, where each thing that it may tell is told in other words
module _ (All All' Front Front' : Type 0) (Bad Bad' : Refusal → List ℕ → Type 0) (ShelfRises ShelfRises' Rises Same Same' Unkept Unkept' : Type 0) (all : All → All') (front : Front → Front') (bad : (r : Refusal) (text : List ℕ) → Bad r text → Bad' r text) (shelf : ShelfRises → ShelfRises') (same : Same → Same') (unkept : Unkept → Unkept') where
  pub rewritten : (a : CommandAnswer) → WrittenAnswers a All Front Bad ShelfRises Rises Same Unkept → WrittenAnswers a All' Front' Bad' ShelfRises' Rises Same' Unkept'
  rewritten answer.Done h = all h
  rewritten answer.WriteFault h = (h.0, front h.1)
  rewritten (answer.Refused r text) h = (bad r text h.0, (same h.1.0, unkept h.1.1))
  rewritten answer.FileFault h = (shelf h.0, (same h.1.0, unkept h.1.1))
  rewritten answer.NoMemory h = same h
  rewritten (answer.Budget n) h = absurd h
  rewritten (answer.Usage word) h = absurd h
  rewritten (answer.Checked warnings) h = absurd h
  rewritten (answer.Unhandled class site told) h = absurd h
  rewritten (answer.UnhandledClass class site) h = absurd h
  rewritten (answer.ArenaFull wanted room) h = absurd h
  rewritten answer.Spent h = absurd h
  rewritten answer.ReadFault h = absurd h
  rewritten (answer.BadImage reason) h = absurd h
  rewritten (answer.Trap kind address) h = absurd h

-- these bytes were written, which are to be
module _ (Bytes : List ℕ → Type 0) (bytes : List ℕ) (are : Bytes bytes) (given given' : Option (List ℕ)) where
  wrote : (Given : Option (List ℕ) → List ℕ → Option (List ℕ) → Type 0) → Given given bytes given' → Wrote Bytes Given given given'
  wrote Given h = record { bytes = bytes; are = are; given_so = h }

  pub of_bytes : (a : CommandAnswer) (Bad : Refusal → List ℕ → Type 0) (ShelfRises Rises Same Unkept : Type 0) → BytesAnswers a bytes given given' Rises
      → WrittenAnswers a (Wrote Bytes WasGiven given given') (Wrote Bytes WasGivenFront given given') Bad ShelfRises Rises Same Unkept
  of_bytes a Bad ShelfRises Rises Same Unkept h =
      rewritten (WasGiven given bytes given') (Wrote Bytes WasGiven given given') (WasGivenFront given bytes given') (Wrote Bytes WasGivenFront given given') (λ r text. ⊥) Bad ⊥ ShelfRises Rises ⊥ Same ⊥ Unkept
      (wrote WasGiven) (wrote WasGivenFront) (λ r text x. absurd x) (λ x. absurd x) (λ x. absurd x) (λ x. absurd x) a h

-- what a program is warned of, or want of memory
pub of_warned : (a : CommandAnswer) (held : Option (List ℕ)) (text : List ℕ) (whole : IsWhole Check text) → IsTextOf Check held text
    → IsWarnedOf a whole.names whole.program → CheckAnswers a held ⊥
of_warned (answer.Checked lines) held text whole is_text h = record { text = text; is_text = is_text; whole = whole; warned = h }
of_warned answer.NoMemory held text whole is_text h = tt
of_warned answer.Done held text whole is_text h = absurd h
of_warned answer.WriteFault held text whole is_text h = absurd h
of_warned (answer.Refused r words) held text whole is_text h = absurd h
of_warned answer.FileFault held text whole is_text h = absurd h
of_warned (answer.Budget n) held text whole is_text h = absurd h
of_warned (answer.Usage word) held text whole is_text h = absurd h
of_warned (answer.Unhandled class site told) held text whole is_text h = absurd h
of_warned (answer.UnhandledClass class site) held text whole is_text h = absurd h
of_warned (answer.ArenaFull wanted room) held text whole is_text h = absurd h
of_warned answer.Spent held text whole is_text h = absurd h
of_warned answer.ReadFault held text whole is_text h = absurd h
of_warned (answer.BadImage reason) held text whole is_text h = absurd h
of_warned (answer.Trap kind address) held text whole is_text h = absurd h

-- a text that is none
pub of_unchecked : (a : CommandAnswer) (s : Stop) (held : Option (List ℕ)) (text : List ℕ) → a ≡ answer_of_stop text s → IsTextOf Check held text
    → IsNoProgram library text (mode_of Check) s → CheckAnswers a held ⊥
of_unchecked a (stop.Refused r) held text is is_text refuses =
    let offends : Offends Check held r text = record { is_text = is_text; refuses = refuses } in
    subst (λ x. CheckAnswers x held ⊥) (sym is) offends
of_unchecked a stop.NoMemory held text is is_text refuses = subst (λ x. CheckAnswers x held ⊥) (sym is) tt

-- the text was taken of the shelf
pub of_checked : (a : CommandAnswer) (held : Option (List ℕ)) (ShelfRises : Type 0) → CheckAnswers a held ⊥ → CheckAnswers a held ShelfRises
of_checked (answer.Checked lines) held ShelfRises h = h
of_checked (answer.Refused r text) held ShelfRises h = h
of_checked answer.FileFault held ShelfRises h = absurd h
of_checked answer.NoMemory held ShelfRises h = h
of_checked answer.Done held ShelfRises h = absurd h
of_checked answer.WriteFault held ShelfRises h = absurd h
of_checked (answer.Budget n) held ShelfRises h = absurd h
of_checked (answer.Usage word) held ShelfRises h = absurd h
of_checked (answer.Unhandled class site told) held ShelfRises h = absurd h
of_checked (answer.UnhandledClass class site) held ShelfRises h = absurd h
of_checked (answer.ArenaFull wanted room) held ShelfRises h = absurd h
of_checked answer.Spent held ShelfRises h = absurd h
of_checked answer.ReadFault held ShelfRises h = absurd h
of_checked (answer.BadImage reason) held ShelfRises h = absurd h
of_checked (answer.Trap kind address) held ShelfRises h = absurd h

-- the bytes of the image file of a program
pub of_file : (a : CommandAnswer) (names : List (List ℕ)) (program : ProgramRows) (image : Image) (bytes : List ℕ) (given given' : Option (List ℕ)) (Rises Same : Type 0)
    → IsImageOf names program image → ImageText bytes 2 image program.sites → BytesAnswers a bytes given given' Rises
    → BuildAnswers a names program (Some image) given given' Rises Same
of_file a names program image bytes given given' Rises Same is_image text h =
    of_bytes (IsFileOf names program (Some image)) bytes (record { built = record { image = image; is_kept = refl; is_image = is_image }; is_file = text }) given given' a (λ r text. ⊥) ⊥ Rises Same ⊥ h

-- of a text that is a whole program
module _ (held : Option (List ℕ)) (text : List ℕ) (whole : IsWhole Build text) (kept : Option Image) (given given' : Option (List ℕ)) (is_text : IsTextOf Build held text) where
  builds : (Given : Option (List ℕ) → List ℕ → Option (List ℕ) → Type 0) → Wrote (IsFileOf whole.names whole.program kept) Given given given' → Wrote (FileBuilds held kept) Given given given'
  builds Given h = record { bytes = h.bytes; are = record { text = text; is_text = is_text; whole = whole; is_file_of = h.are }; given_so = h.given_so }

  pub of_built : (a : CommandAnswer) (ShelfRises Rises Same : Type 0) → BuildAnswers a whole.names whole.program kept given given' Rises Same → WriteAnswers a held kept given given' ShelfRises Rises Same
  of_built a ShelfRises Rises Same h =
      rewritten (Wrote (IsFileOf whole.names whole.program kept) WasGiven given given') (Wrote (FileBuilds held kept) WasGiven given given')
      (Wrote (IsFileOf whole.names whole.program kept) WasGivenFront given given') (Wrote (FileBuilds held kept) WasGivenFront given given') (λ r text. ⊥) (Offends Build held) ⊥ ShelfRises Rises Same Same ⊥ (kept ≡ None)
      (builds WasGiven) (builds WasGivenFront) (λ r text x. absurd x) (λ x. absurd x) (λ x. x) (λ x. absurd x) a h

-- of a text that is none
pub of_no_program : (a : CommandAnswer) (s : Stop) (held : Option (List ℕ)) (text : List ℕ) (kept : Option Image) (given given' : Option (List ℕ)) (ShelfRises Rises Same : Type 0)
    → a ≡ answer_of_stop text s → IsTextOf Build held text → IsNoProgram library text (mode_of Build) s → Same → kept ≡ None → WriteAnswers a held kept given given' ShelfRises Rises Same
of_no_program a (stop.Refused r) held text kept given given' ShelfRises Rises Same is is_text refuses same empty =
    let offends : Offends Build held r text = record { is_text = is_text; refuses = refuses } in
    subst (λ x. WriteAnswers x held kept given given' ShelfRises Rises Same) (sym is) (offends, (same, empty))
of_no_program a stop.NoMemory held text kept given given' ShelfRises Rises Same is is_text refuses same empty =
    subst (λ x. WriteAnswers x held kept given given' ShelfRises Rises Same) (sym is) same

-- the text was taken of the shelf
pub of_shelf : (a : CommandAnswer) (held : Option (List ℕ)) (kept : Option Image) (given given' : Option (List ℕ)) (ShelfRises Rises Same : Type 0)
    → WriteAnswers a held kept given given' ⊥ Rises Same → WriteAnswers a held kept given given' ShelfRises Rises Same
of_shelf a held kept given given' ShelfRises Rises Same h =
    let All : Type 0 = Wrote (FileBuilds held kept) WasGiven given given' in
    let Front : Type 0 = Wrote (FileBuilds held kept) WasGivenFront given given' in
    rewritten All All Front Front (Offends Build held) (Offends Build held) ⊥ ShelfRises Rises Same Same (kept ≡ None) (kept ≡ None) (λ x. x) (λ x. x) (λ r text x. x) (λ x. absurd x) (λ x. x) (λ x. x) a h
