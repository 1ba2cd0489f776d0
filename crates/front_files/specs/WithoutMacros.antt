-- Files that define no macro: the forms that are taken on the way to a verdict leave tables without macros.
use Rattle.std.specs.Prelude.{◌≡◌, ℕ, List, []}
use Rattle.base.specs.declared.origin.Origin.{Origin}
use Rattle.base.specs.declared.origin.Origin.TheVariants.{Prelude, File}
use Rattle.base.specs.declared.place.Place.{Place}
use Rattle.base.specs.declared.reason.Refusal.{Refusal}
use Rattle.lang_meaning.specs.declared.program.ProgramRows.{ProgramRows}
use Rattle.front_profile.specs.declared.tables.Tables.{Tables}
use Rattle.front_reader.specs.Readers.{first_place}
use Rattle.front_files.specs.declared.mode.Mode.{Mode}
use Rattle.front_files.specs.declared.mode.Mode.TheVariants.{Run}
use Rattle.front_files.specs.Verdicts.{Judgement, Judges, at_end, form_taken, form_refused, text_stops, behind_next, FileVerdict, accepted, refused, BehindPrelude, Verdict, source_too_long, prelude_refused, file_refused, file_accepted, Accepts, Refuses}

-- tables that are such stand behind the last form that is taken: of a text, of a prelude, and of a file behind its prelude, where any is judged

module _ (Such : Tables → Type 0) (names : List (List ℕ)) where
  abbrev pub TextLeaves : (origin : Origin) (mode : Mode) (s : Tables) (text : List ℕ) (p : Place) (j : Judgement) → Judges names origin mode s text p j → Type 0
  TextLeaves origin mode s text p j (at_end s1 x1 p1 g) = Such s1
  TextLeaves origin mode s text p j (form_taken s1 x1 p1 d after t j1 r f rest) = TextLeaves origin mode t after (behind_next names x1 p1 d after r) j1 rest
  TextLeaves origin mode s text p j (form_refused s1 x1 p1 d after x r f) = Such s1
  TextLeaves origin mode s text p j (text_stops s1 x1 p1 x h) = Such s1

  abbrev pub PreludeLeaves : (prelude : List ℕ) (j : Judgement) → BehindPrelude names prelude j → Type 0
  PreludeLeaves prelude j b = TextLeaves Prelude Run b.first prelude (first_place Prelude) j b.judges

  abbrev pub VerdictLeaves : (prelude text : List ℕ) (mode : Mode) (v : FileVerdict) → Verdict names prelude text mode v → Type 0
  VerdictLeaves prelude text mode v (source_too_long l) = Unit {0}
  VerdictLeaves prelude text mode v (prelude_refused r l b) = PreludeLeaves prelude _ b
  VerdictLeaves prelude text mode v (file_refused t r l b h) = TextLeaves File mode t text (first_place File) _ h
  VerdictLeaves prelude text mode v (file_accepted t u l b h) = Such u

abbrev pub WithoutMacros : Tables → Type 0
WithoutMacros t = t.macros ≡ []

-- a verdict that is said to a file, and no form that is taken on the way to it defines a macro
pub record VerdictWithoutMacros (names : List (List ℕ)) (prelude text : List ℕ) (mode : Mode) (v : FileVerdict) : Type 0 where
  pub verdict : Verdict names prelude text mode v
  pub none : VerdictLeaves WithoutMacros names prelude text mode v verdict

-- a program that a file is, which defines no macro
pub record AcceptsWithoutMacros (prelude text : List ℕ) (mode : Mode) (names : List (List ℕ)) (program : ProgramRows) : Type 0 where
  pub accepts : Accepts prelude text mode names program
  pub none : VerdictLeaves WithoutMacros names prelude text mode (accepted program) accepts.verdict

-- a refusal of a file that defines no macro in front of it
pub record RefusesWithoutMacros (prelude text : List ℕ) (mode : Mode) (r : Refusal) : Type 0 where
  pub refuses : Refuses prelude text mode r
  pub none : VerdictLeaves WithoutMacros refuses.names prelude text mode (refused r) refuses.verdict
