-- What a call of `derive` has done.
use Rattle.std.specs.Prelude.{◌≡◌, ℕ, ◌+◌, ◌<◌, List, ◌++◌, length}
use Rattle.base.specs.declared.datum.Symbol.{Symbol}
use Rattle.base.specs.declared.reason.Reason.TheVariants.{BadShape}
use Rattle.base.specs.declared.reason.Stop.{Stop}
use Rattle.base.specs.declared.reason.Stop.TheVariants.{Refused, NoMemory}
use Rattle.base.specs.Data.{Item, place_of}
use Rattle.base.specs.DataMeasures.{Formed, NamesBelow}
use Rattle.base.specs.Names.{Extends}
use Rattle.lang_derived.specs.Derived.{Derivation, plain, unfit, becomes, derivation, Derives, new_symbols}
use Rattle.lang_derived.specs.Ranks.{rank}
use Rattle.lang_derived.specs.declared.one_step.Derivation.{Derivation as Found}
use Rattle.lang_derived.specs.declared.one_step.Derivation.TheVariants.{Plain as found_plain, Unfit, Becomes}
use Rattle.lang_derived.specs.declared.one_step.Step.{Step}
use Rattle.lang_derived.specs.declared.one_step.Step.TheVariants.{Derived, Plain}

-- what the table says of the datum
abbrev pub shown : Found → Derivation
shown found_plain = plain
shown Unfit = unfit
shown (Becomes right) = becomes right

-- the datum is no derived form, and no symbol is new; or it becomes the right side of its row, and the new
-- symbols of that are appended
abbrev pub IsStep : List (List ℕ) → Item → List Symbol → Step → List Symbol → Type 0
IsStep names d fresh Plain after = (derivation names (length fresh) d ≡ plain) × (after ≡ fresh)
IsStep names d fresh (Derived d2) after =
    (n : ℕ) × (Derives names d (length fresh) d2 (length fresh + n) × (after ≡ fresh ++ new_symbols (length fresh) n))

-- the form fits no row, and is refused at its place; or there is no memory
abbrev pub IsStop : List (List ℕ) → Item → ℕ → Stop → Type 0
IsStop names d s (Refused refusal) =
    (derivation names s d ≡ unfit) × (refusal ≡ record { place = place_of d; reason = BadShape })
IsStop names d s NoMemory = Unit {0}

-- the same under this table of names and every later one
pub record StepStays (names : List (List ℕ)) (d : Item) (fresh : List Symbol) (step : Step) (after : List Symbol) : Type 0 where
  pub under : (later : List (List ℕ)) → Extends names later → IsStep later d fresh step after

pub record StopStays (names : List (List ℕ)) (d : Item) (s : ℕ) (stop : Stop) : Type 0 where
  pub under : (later : List (List ℕ)) → Extends names later → IsStop later d s stop

-- the datum that is given has a smaller rank
abbrev pub RankFalls : List (List ℕ) → ℕ → Step → Type 0
RankFalls names n Plain = Unit {0}
RankFalls names n (Derived d) = rank names d < n

-- a datum that is given is in form, and its names are below that number
abbrev pub IsWellFormedStep : ℕ → Step → Type 0
IsWellFormedStep n Plain = Unit {0}
IsWellFormedStep n (Derived d) = Formed d × NamesBelow n d
