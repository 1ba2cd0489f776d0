-- When names are told apart by their numbers as their texts are.
use Rattle.std.specs.Prelude.{◌≡◌, ◌≢◌, ℕ, ◌<◌, nat_lt, List, [], ◌∷◌, length, Option, Some, None, if◌then◌else◌}
use Rattle.base.specs.Names.{IsTable}
use Rattle.lang_meaning.specs.Lookup.{text}
use Rattle.eval_store.specs.declared.spellings.Spellings.{Spellings}

-- the number by which a name is told apart
abbrev pub number_of : Spellings → ℕ → ℕ
number_of s n = if nat_lt n s.known then n else s.blank

-- the number of the text of `t`, where the table has it
abbrev pub IsTruth : List (List ℕ) → ℕ → Option ℕ → Type 0
IsTruth names count (Some n) = (n < count) × (text names n ≡ 116 ∷ [])
IsTruth names count None = (n : ℕ) → n < count → text names n ≢ 116 ∷ []

-- that of a table: it has each text once; one number has the empty text, as have those that are not in the table, and no other name of the table has it
pub record IsSpelling (names : List (List ℕ)) (s : Spellings) : Type 0 where
  pub table : IsTable names
  pub known : s.known ≡ length names
  pub blank : text names s.blank ≡ []
  pub only : (n : ℕ) → n < length names → text names n ≡ [] → n ≡ s.blank
  pub truth : IsTruth names (length names) s.truth

-- so far as the table was searched, no other name of it has the empty text
pub record IsBlankBelow (names : List (List ℕ)) (count found : ℕ) : Type 0 where
  pub blank : text names found ≡ []
  pub only : (n : ℕ) → n < count → text names n ≡ [] → n ≡ found
