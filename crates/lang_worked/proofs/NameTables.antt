-- A table of names, made by putting one text after another into it.
use Rattle.std.proofs.Common.{◌≡◌, ℕ, Bool, true, nat_le, List, [], ◌∷◌, length, leb-true}
use Rattle.std.specs.List.{list_all}
use Rattle.std.proofs.lemmas.Bool.{and_parts}
use Rattle.base.specs.Names.{IsTable, with_text, IsTable-with_text}

abbrev pub with_texts : List (List ℕ) → List (List ℕ) → List (List ℕ)
with_texts names [] = names
with_texts names (t ∷ ts) = with_texts (with_text names t) ts

abbrev pub all_short : List (List ℕ) → Bool
all_short ts = list_all (λ t. nat_le (length t) 263) ts

is_table_from : (names ts : List (List ℕ)) → IsTable names → all_short ts ≡ true → IsTable (with_texts names ts)
is_table_from names [] x h = x
is_table_from names (t ∷ ts) x h =
    let both = and_parts (nat_le (length t) 263) (all_short ts) h in
    is_table_from (with_text names t) ts (IsTable-with_text names t x (leb-true (length t) 263 both.0)) both.1

no_texts : IsTable []
no_texts = record { once = λ i j t h k. absurd (cc); short = λ i t h. absurd (cc) }

pub is_table : (ts : List (List ℕ)) → all_short ts ≡ true → IsTable (with_texts [] ts)
is_table ts h = is_table_from [] ts no_texts h
