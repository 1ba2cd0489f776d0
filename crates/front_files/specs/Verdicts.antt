-- Which file is a program (ISO/IEC 13816:2007, 6, 11 and 12): the forms of a prelude and then of a file are read and judged one
-- after another, and the first offence refuses the file.
use Rattle.std.specs.Prelude.{◌≡◌, ℕ, ◌<◌, ◌≤◌, List, [], length}
use Rattle.base.specs.declared.origin.Origin.{Origin}
use Rattle.base.specs.declared.origin.Origin.TheVariants.{Prelude, File}
use Rattle.base.specs.declared.place.Place.{Place}
use Rattle.base.specs.declared.reason.Reason.TheVariants.{SourceTooLong}
use Rattle.base.specs.declared.reason.Refusal.{Refusal}
use Rattle.base.specs.declared.reason.Stop.{Stop}
use Rattle.base.specs.declared.reason.Stop.TheVariants.{Refused, NoMemory}
use Rattle.base.specs.Data.{Item}
use Rattle.base.specs.Limits.{longest_text}
use Rattle.base.specs.Names.{IsTable}
use Rattle.lang_meaning.specs.declared.program.ProgramRows.{ProgramRows}
use Rattle.front_profile.specs.declared.tables.Tables.{Tables}
use Rattle.front_reader.specs.Characters.{place_behind}
use Rattle.front_reader.specs.Gaps.{Gap}
use Rattle.front_reader.specs.Reads.{ReadsNext}
use Rattle.front_reader.specs.Readers.{first_place}
use Rattle.front_reader.specs.Stops.{StopsFirst}
use Rattle.front_profile.specs.Cuts.{opened}
use Rattle.front_scope.specs.Scopes.{rows_of, AreInitialTables, IsTaken, IsFormStopped}
use Rattle.front_files.specs.declared.mode.Mode.{Mode}
use Rattle.front_files.specs.declared.mode.Mode.TheVariants.{Run}
use Rattle.front_files.specs.Shown.{IsForm}

-- a datum of a text is taken behind the forms that gave the tables s, and gives t: of the macros, those apply that these forms have
-- defined; `after` is left of the text behind it
pub record FormTaken (names : List (List ℕ)) (origin : Origin) (mode : Mode) (s : Tables) (d : Item) (after : List ℕ) (t : Tables) : Type 0 where
  pub form : Item
  pub is_form : IsForm names mode d after form
  pub taken : IsTaken names origin (opened s) form t

-- it is refused
pub record FormRefused (names : List (List ℕ)) (origin : Origin) (mode : Mode) (s : Tables) (d : Item) (after : List ℕ) (r : Refusal) : Type 0 where
  pub form : Item
  pub is_form : IsForm names mode d after form
  pub refused : IsFormStopped names origin (opened s) form (Refused r)

-- what the forms of a text come to: all are taken and give these tables, or one is refused, or the text stops
pub data Judgement : Type 0 where
  all_taken : Tables → Judgement
  one_refused : Refusal → Judgement

-- the place behind the next datum of a text at place p
abbrev pub behind_next : (names : List (List ℕ)) (text : List ℕ) (p : Place) (d : Item) (after : List ℕ) → ReadsNext names text p d after → Place
behind_next names text p d after r = place_behind (place_behind p r.gap) r.bytes

-- `Judges names origin mode s text p j`: behind the forms that gave the tables s the forms of the text, which stands at place p, are
-- judged one after another, and come to j
pub data Judges (names : List (List ℕ)) (origin : Origin) (mode : Mode) : Tables → List ℕ → Place → Judgement → Type 0 where
  at_end : (s : Tables) (text : List ℕ) (p : Place) → Gap text [] → Judges names origin mode s text p (all_taken s)
  form_taken : (s : Tables) (text : List ℕ) (p : Place) (d : Item) (after : List ℕ) (t : Tables) (j : Judgement)
      → (r : ReadsNext names text p d after) → FormTaken names origin mode s d after t
      → Judges names origin mode t after (behind_next names text p d after r) j → Judges names origin mode s text p j
  form_refused : (s : Tables) (text : List ℕ) (p : Place) (d : Item) (after : List ℕ) (r : Refusal)
      → ReadsNext names text p d after → FormRefused names origin mode s d after r
      → Judges names origin mode s text p (one_refused r)
  text_stops : (s : Tables) (text : List ℕ) (p : Place) (r : Refusal) → StopsFirst p text r.place r.reason
      → Judges names origin mode s text p (one_refused r)

-- a whole text from its begin
abbrev pub JudgesText : List (List ℕ) → Origin → Mode → Tables → List ℕ → Judgement → Type 0
JudgesText names origin mode s text j = Judges names origin mode s text (first_place origin) j

-- what is said to a file: it is this program, or it is refused
pub data FileVerdict : Type 0 where
  accepted : ProgramRows → FileVerdict
  refused : Refusal → FileVerdict

abbrev pub too_long : Refusal
too_long = record { place = first_place File; reason = SourceTooLong }

-- the tables behind the prelude, whose forms are never shown
pub record BehindPrelude (names : List (List ℕ)) (prelude : List ℕ) (j : Judgement) : Type 0 where
  pub first : Tables
  pub is_first : AreInitialTables names first
  pub judges : JudgesText names Prelude Run first prelude j

-- `Verdict names prelude text mode v`: where symbols are numbered by the table of names, v is said to the file with this text, which
-- stands behind the prelude
pub data Verdict (names : List (List ℕ)) (prelude text : List ℕ) (mode : Mode) : FileVerdict → Type 0 where
  source_too_long : longest_text < length text → Verdict names prelude text mode (refused too_long)
  prelude_refused : (r : Refusal) → length text ≤ longest_text → BehindPrelude names prelude (one_refused r)
      → Verdict names prelude text mode (refused r)
  file_refused : (t : Tables) (r : Refusal) → length text ≤ longest_text → BehindPrelude names prelude (all_taken t)
      → JudgesText names File mode t text (one_refused r) → Verdict names prelude text mode (refused r)
  file_accepted : (t u : Tables) → length text ≤ longest_text → BehindPrelude names prelude (all_taken t)
      → JudgesText names File mode t text (all_taken u) → Verdict names prelude text mode (accepted (rows_of u))

-- what refuses the file is its length, or stands in it
pub data IsOfFile (names : List (List ℕ)) (text : List ℕ) (mode : Mode) (r : Refusal) : Type 0 where
  its_length : r ≡ too_long → IsOfFile names text mode r
  in_it : (t : Tables) → JudgesText names File mode t text (one_refused r) → IsOfFile names text mode r

-- the file is that program, with these names
pub record Accepts (prelude text : List ℕ) (mode : Mode) (names : List (List ℕ)) (program : ProgramRows) : Type 0 where
  pub table : IsTable names
  pub verdict : Verdict names prelude text mode (accepted program)

-- the file is refused, under a table of names
pub record Refuses (prelude text : List ℕ) (mode : Mode) (r : Refusal) : Type 0 where
  pub names : List (List ℕ)
  pub table : IsTable names
  pub verdict : Verdict names prelude text mode (refused r)

-- why there is no program
abbrev pub IsNoProgram : List ℕ → List ℕ → Mode → Stop → Type 0
IsNoProgram prelude text mode (Refused r) = Refuses prelude text mode r
IsNoProgram prelude text mode NoMemory = Unit {0}
