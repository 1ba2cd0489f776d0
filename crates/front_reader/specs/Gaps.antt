-- Gaps: blanks and comments, as many as there are.
use Rattle.std.specs.Prelude.{◌≡◌, ℕ, suc, Bool, true, false, ◌||◌, ◌&&◌, ◌==◌, List, [], ◌∷◌, ◌++◌}
use Rattle.front_reader.specs.Characters.{is_blank, begins}

-- the byte and what follows it are `#|` or `|#`
abbrev pub is_mark : ℕ → List ℕ → Bool
is_mark b bs = b == 35 && begins (λ c. c == 124) bs || b == 124 && begins (λ c. c == 35) bs

-- `Within n bs m`: in front of these bytes n block comments are open inside one another, behind them
-- m are, and where they are all closed nothing more follows
pub data WithinComment : ℕ → List ℕ → ℕ → Type 0 where
  here : (n : ℕ) → WithinComment n [] n
  opening : (n m : ℕ) (bs : List ℕ) → WithinComment (suc (suc n)) bs m → WithinComment (suc n) (35 ∷ 124 ∷ bs) m
  closing : (n m : ℕ) (bs : List ℕ) → WithinComment n bs m → WithinComment (suc n) (124 ∷ 35 ∷ bs) m
  other : (n m b : ℕ) (bs : List ℕ) → is_mark b bs ≡ false → WithinComment (suc n) bs m → WithinComment (suc n) (b ∷ bs) m

-- no byte ends a line
pub data InLine : List ℕ → Type 0 where
  no_byte : InLine []
  byte : (b : ℕ) (bs : List ℕ) → (b == 10) ≡ false → InLine bs → InLine (b ∷ bs)

-- a line ends here: at a line feed or at the end of the text
abbrev pub ends_line : List ℕ → Bool
ends_line [] = true
ends_line (b ∷ bs) = b == 10

-- `Gap g after`: the bytes g are blanks and comments, where the text goes on with `after`
pub data Gap : List ℕ → List ℕ → Type 0 where
  no_gap : (after : List ℕ) → Gap [] after
  blank : (b : ℕ) (g after : List ℕ) → is_blank b ≡ true → Gap g after → Gap (b ∷ g) after
  -- `;` up to the end of the line
  line : (bs g after : List ℕ) → InLine bs → ends_line (g ++ after) ≡ true → Gap g after
      → Gap (59 ∷ (bs ++ g)) after
  -- `#|` up to its `|#`
  block : (bs g after : List ℕ) → WithinComment 1 bs 0 → Gap g after → Gap (35 ∷ 124 ∷ (bs ++ g)) after
