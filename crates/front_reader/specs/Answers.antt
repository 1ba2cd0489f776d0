-- What a reader answers, and what it has left then.
use Rattle.std.specs.Prelude.{◌≡◌, ℕ, List, [], Some, None}
use Rattle.base.specs.declared.reason.Refusal.{Refusal}
use Rattle.base.specs.declared.reason.Stop.{Stop}
use Rattle.base.specs.declared.reason.Stop.TheVariants.{Refused, NoMemory}
use Rattle.base.specs.Data.{Item}
use Rattle.front_reader.specs.Characters.{place_behind}
use Rattle.front_reader.specs.Gaps.{Gap}
use Rattle.front_reader.specs.Reads.{ReadsNext}
use Rattle.front_reader.specs.Stops.{StopsFirst}
use Rattle.front_reader.specs.Readers.{ReaderState}

-- the next datum was read: just its gap and its spelling are consumed
pub record IsRead (names : List (List ℕ)) (old new : ReaderState) (d : Item) : Type 0 where
  pub fresh : old.stop ≡ None
  pub still : new.stop ≡ None
  pub reads : ReadsNext names old.rest old.place d new.rest
  pub place : new.place ≡ place_behind (place_behind old.place reads.gap) reads.bytes

-- only a gap is left
pub record IsEnded (old new : ReaderState) : Type 0 where
  pub fresh : old.stop ≡ None
  pub is_gap : Gap old.rest []
  pub same : new ≡ old

-- the text stops before a datum is whole, or stopped so before; the stop is kept
pub record IsReaderRefused (old new : ReaderState) (r : Refusal) : Type 0 where
  pub kept : new ≡ record old { stop = Some r }
  pub stops : old.stop ≡ None → StopsFirst old.place old.rest r.place r.reason
  pub again : (s : Refusal) → old.stop ≡ Some s → s ≡ r

-- after want of memory the reader stands where it was
abbrev pub IsReaderStopped : ReaderState → ReaderState → Stop → Type 0
IsReaderStopped old new (Refused r) = IsReaderRefused old new r
IsReaderStopped old new NoMemory = new ≡ old
