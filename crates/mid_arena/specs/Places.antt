-- Where things stand in the arena, and the word of a value there.
use Rattle.std.specs.Prelude.{◌≡◌, ℕ, ◌+◌, ◌*◌, ◌==◌, Bool, false, nat_le, List, [], ◌∷◌, ◌++◌, Option, Some, None, slice_get, if◌then◌else◌}
use Rattle.lang_meaning.specs.Values.{SymbolValue, same_symbol, Value, integer, character, symbol, nil, object, in_range}
use Rattle.mid_arena.specs.Tags.{integer_word, nil_word, character_word}

-- so many words from an address on; a pointer to them is the address with a tag
pub record Spot : Type 0 where
  pub address : ℕ
  pub words : ℕ
  pub tag : ℕ

abbrev pub end_of : Spot → ℕ
end_of s = s.address + 4 * s.words

abbrev pub pointer_to : Spot → ℕ
pointer_to s = s.address + s.tag

-- Where objects stand, by their numbers, those that were left out having no spot; where symbols with a text stand, and those that an
-- expansion made; and other spots, which code has for itself: the first one has the fixed words.
pub record Places : Type 0 where
  pub objects : List (Option Spot)
  pub symbols : List (SymbolValue × Spot)
  pub others : List Spot

-- to whom a spot belongs
pub data Owner : Type 0 where
  of_object : ℕ → Owner
  of_symbol : SymbolValue → Owner
  of_other : ℕ → Owner

abbrev pub same_owner : Owner → Owner → Bool
same_owner (of_object i) (of_object j) = i == j
same_owner (of_symbol s) (of_symbol r) = same_symbol s r
same_owner (of_other m) (of_other n) = m == n
same_owner (of_object i) (of_symbol s) = false
same_owner (of_object i) (of_other n) = false
same_owner (of_symbol s) (of_object i) = false
same_owner (of_symbol s) (of_other n) = false
same_owner (of_other n) (of_object i) = false
same_owner (of_other n) (of_symbol s) = false

-- a spot that may be left out, and may not be there
abbrev pub spot_in : Option (Option Spot) → Option Spot
spot_in None = None
spot_in (Some s) = s

abbrev pub spot_of_symbol : SymbolValue → List (SymbolValue × Spot) → Option Spot
spot_of_symbol s [] = None
spot_of_symbol s (x ∷ xs) = if same_symbol s x.0 then Some x.1 else spot_of_symbol s xs

abbrev pub spot_of : Places → Owner → Option Spot
spot_of places (of_object i) = spot_in (slice_get places.objects i)
spot_of places (of_symbol s) = spot_of_symbol s places.symbols
spot_of places (of_other n) = slice_get places.others n

-- one more object, at a spot
abbrev pub with_object : Spot → Places → Places
with_object s places = record places { objects = places.objects ++ Some s ∷ [] }

-- one more spot that code has for itself
abbrev pub with_other : Spot → Places → Places
with_other s places = record places { others = places.others ++ s ∷ [] }

abbrev pub pointer_in : Option Spot → Option ℕ
pointer_in None = None
pointer_in (Some s) = Some (pointer_to s)

-- the word of a value; none where what it is has no spot, or is no value of this profile
abbrev pub word_of : Places → Value → Option ℕ
word_of places (integer n) = if in_range n then Some (integer_word n) else None
word_of places (character c) = if nat_le c 255 then Some (character_word c) else None
word_of places (symbol s) = pointer_in (spot_of places (of_symbol s))
word_of places nil = Some nil_word
word_of places (object i) = pointer_in (spot_of places (of_object i))

-- the words of values
abbrev pub WordsOf : Places → List Value → List ℕ → Type 0
WordsOf places [] [] = Unit {0}
WordsOf places [] (w ∷ ws) = ⊥
WordsOf places (v ∷ vs) [] = ⊥
WordsOf places (v ∷ vs) (w ∷ ws) = (word_of places v ≡ Some w) × WordsOf places vs ws
