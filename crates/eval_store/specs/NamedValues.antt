-- When a table of values is the meaning's list of texts and values: a look-up finds in both the same.
use Rattle.std.specs.Prelude.{◌≡◌, ℕ, List, Option, Some, None, slice_get}
use Rattle.lang_meaning.specs.Values.{Value}
use Rattle.lang_meaning.specs.Lookup.{text, under_text}
use Rattle.eval_store.specs.declared.word.Word.{Word}
use Rattle.eval_store.specs.declared.named_values.NamedValues.{NamedValues}
use Rattle.eval_store.specs.Words.{value_or_none}
use Rattle.eval_store.specs.Spelling.{number_of, IsSpelling}

-- what stands at a place, where the list may be shorter
abbrev pub item_or_none : {X : Type 0} → Option (Option X) → Option X
item_or_none None = None
item_or_none (Some o) = o

-- the word of a name
abbrev pub word_of : NamedValues → ℕ → Option Word
word_of t n = item_or_none (slice_get t.values.items (number_of t.spellings n))

pub record Holds (names : List (List ℕ)) (t : NamedValues) (pairs : List (List ℕ × Value)) : Type 0 where
  pub spelling : IsSpelling names t.spellings
  pub found : (n : ℕ) → under_text (text names n) pairs ≡ value_or_none names (word_of t n)

-- a table with the same values and names, which may have more room
pub record IsAlike (t u : NamedValues) : Type 0 where
  pub values : (i : ℕ) → item_or_none (slice_get u.values.items i) ≡ item_or_none (slice_get t.values.items i)
  pub spellings : u.spellings ≡ t.spellings
