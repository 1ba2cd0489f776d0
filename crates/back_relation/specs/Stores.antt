-- Words that are stored one after another.
use Rattle.std.specs.Prelude.{◌≡◌, ⊤, ℕ, ◌%◌, List, [], ◌∷◌}
use Rattle.mid_code.specs.Arena.{Arena, word_at, with_word}

-- each is an address and a word
abbrev pub stores : List (ℕ × ℕ) → Arena → Arena
stores [] a = a
stores (p ∷ ps) a = stores ps (with_word p.0 p.1 a)

-- an address is none of theirs, and theirs are those of words
abbrev pub Differs : ℕ → List (ℕ × ℕ) → Type 0
Differs x [] = ⊤
Differs x (p ∷ ps) = (p.0 ≡ x → ⊥) × Differs x ps

abbrev pub Aligned : List (ℕ × ℕ) → Type 0
Aligned [] = ⊤
Aligned (p ∷ ps) = (p.0 % 4 ≡ 0) × Aligned ps

-- elsewhere the words are as they were
abbrev pub LawOfStores : Type 0
LawOfStores = (ps : List (ℕ × ℕ)) (a : Arena) (x : ℕ) → Aligned ps → Differs x ps → word_at (stores ps a) x ≡ word_at a x
