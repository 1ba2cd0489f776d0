-- What the calls below `read_program` promise of their stops, where want of memory is free.
use Rattle.std.specs.Prelude.{ℕ, List}
use Rattle.base.specs.declared.origin.Origin.{Origin}
use Rattle.base.specs.declared.origin.Origin.TheVariants.{Prelude, File}
use Rattle.base.specs.declared.place.Place.{Place}
use Rattle.base.specs.declared.reason.Refusal.{Refusal}
use Rattle.base.specs.declared.reason.Stop.{Stop}
use Rattle.base.specs.declared.reason.Stop.TheVariants.{Refused, NoMemory}
use Rattle.base.specs.Data.{Item}
use Rattle.front_profile.specs.declared.tables.Tables.{Tables}
use Rattle.front_files.specs.declared.mode.Mode.{Mode}
use Rattle.front_files.specs.declared.mode.Mode.TheVariants.{Run}
use Rattle.front_files.specs.Verdicts.{FormRefused, all_taken, one_refused, Judges, JudgesText, refused, Verdict}

abbrev pub FormStops : List (List ℕ) → Origin → Mode → Tables → Item → List ℕ → Stop → Type 0
FormStops names origin mode s d after (Refused r) = FormRefused names origin mode s d after r
FormStops names origin mode s d after NoMemory = Unit {0}

abbrev pub JudgesStop : List (List ℕ) → Origin → Mode → Tables → List ℕ → Place → Stop → Type 0
JudgesStop names origin mode s text p (Refused r) = Judges names origin mode s text p (one_refused r)
JudgesStop names origin mode s text p NoMemory = Unit {0}

-- the forms of the prelude and then of the file, behind the first tables
pub record BothTaken (names : List (List ℕ)) (prelude text : List ℕ) (mode : Mode) (s u : Tables) : Type 0 where
  pub between : Tables
  pub in_prelude : JudgesText names Prelude Run s prelude (all_taken between)
  pub in_file : JudgesText names File mode between text (all_taken u)

pub data BothRefused (names : List (List ℕ)) (prelude text : List ℕ) (mode : Mode) (s : Tables) (r : Refusal) : Type 0 where
  in_prelude : JudgesText names Prelude Run s prelude (one_refused r) → BothRefused names prelude text mode s r
  in_file : (t : Tables) → JudgesText names Prelude Run s prelude (all_taken t) → JudgesText names File mode t text (one_refused r)
      → BothRefused names prelude text mode s r

abbrev pub BothStop : List (List ℕ) → List ℕ → List ℕ → Mode → Tables → Stop → Type 0
BothStop names prelude text mode s (Refused r) = BothRefused names prelude text mode s r
BothStop names prelude text mode s NoMemory = Unit {0}

abbrev pub VerdictStops : List (List ℕ) → List ℕ → List ℕ → Mode → Stop → Type 0
VerdictStops names prelude text mode (Refused r) = Verdict names prelude text mode (refused r)
VerdictStops names prelude text mode NoMemory = Unit {0}
