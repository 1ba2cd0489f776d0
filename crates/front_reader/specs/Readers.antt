-- A reader: what is left of its text, the place of that, and the stop that it repeats.
use Rattle.std.specs.Prelude.{ℕ, ◌+◌, ◌<◌, ◌^◌, List, length, Option}
use Rattle.base.specs.declared.place.Place.{Place}
use Rattle.base.specs.declared.origin.Origin.{Origin}
use Rattle.base.specs.declared.origin.Origin.TheVariants.{Prelude, File}
use Rattle.base.specs.declared.reason.Refusal.{Refusal}
use Rattle.base.specs.Limits.{longest_text}

pub record ReaderState : Type 0 where
  pub rest : List ℕ
  pub place : Place
  pub stop : Option Refusal

-- the place of a text's first byte
abbrev pub first_place : Origin → Place
first_place Prelude = record { line = 0; column = 0 }
first_place File = record { line = 1; column = 1 }

-- the places of all bytes of such a text, and of its end, fit 32 bits
abbrev pub PlacesFit : Place → List ℕ → Type 0
PlacesFit p text = 0 < p.line → (p.line + length text < 2 ^ 32) × (p.column + length text < 2 ^ 32)

-- the length that a file may have
abbrev pub MayBeRead : Origin → List ℕ → Type 0
MayBeRead Prelude text = Unit {0}
MayBeRead File text = length text < longest_text + 1
