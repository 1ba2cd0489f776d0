-- Lines with letters replaced, one letter more and one number more.
use Rattle.std.proofs.Common.{◌≡◌, ℕ, suc, ◌+◌, ◌<◌, List, [], ◌∷◌, ◌++◌, length, get_or, take, refl, sym, ap, ◌∙◌, append_assoc, append-nil, add-one}
use Rattle.std.proofs.Math.Seq.{take-suc}
use Rattle.top_made.specs.Text.{letter_filled, filled, lines_up_to, numbered_lines}

filled_join : (number : ℕ) (xs ys : List ℕ) → filled number (xs ++ ys) ≡ filled number xs ++ filled number ys
unfolding filled
filled_join number [] ys = refl
filled_join number (x ∷ xs) ys =
    ap (λ l. letter_filled number x ++ l) (filled_join number xs ys) ∙ sym (append_assoc (letter_filled number x) (filled number xs) (filled number ys))

filled_one : (number b : ℕ) → filled number (b ∷ []) ≡ letter_filled number b
unfolding filled
filled_one number b = append-nil (letter_filled number b)

-- nothing is there at first
pub none_filled : (number : ℕ) (text lines : List ℕ) → text ≡ text ++ filled number (take 0 lines)
unfolding filled
none_filled number text lines = sym (append-nil text)

-- a letter more
pub more_filled : (number : ℕ) (lines text before after letters : List ℕ) (i b : ℕ) → i < length lines → get_or lines i 0 ≡ b → letters ≡ letter_filled number b
    → before ≡ text ++ filled number (take i lines) → after ≡ before ++ letters → after ≡ text ++ filled number (take (i + 1) lines)
more_filled number lines text before after letters i b within is filling so_far added =
    let one : take (i + 1) lines ≡ take i lines ++ b ∷ [] = ap (λ n. take n lines) (add-one i) ∙ take-suc lines i 0 within ∙ ap (λ x. take i lines ++ x ∷ []) is in
    added
    ∙ ap (λ l. l ++ letters) so_far
    ∙ append_assoc text (filled number (take i lines)) letters
    ∙ ap (λ l. text ++ (filled number (take i lines) ++ l)) (filling ∙ sym (filled_one number b))
    ∙ ap (λ l. text ++ l) (sym (filled_join number (take i lines) (b ∷ [])) ∙ ap (filled number) (sym one))

-- the lines of no number
pub no_lines : (text : List ℕ) → text ≡ text ++ lines_up_to 0
unfolding lines_up_to
no_lines text = sym (append-nil text)

-- and of one number more
pub more_lines : (first before after : List ℕ) (n number : ℕ) → number ≡ n + 1 → before ≡ first ++ lines_up_to n → after ≡ before ++ filled number numbered_lines → after ≡ first ++ lines_up_to (n + 1)
unfolding lines_up_to
more_lines first before after n number is so_far added =
    let one : number ≡ suc n = is ∙ add-one n in
    added
    ∙ ap (λ l. l ++ filled number numbered_lines) so_far
    ∙ append_assoc first (lines_up_to n) (filled number numbered_lines)
    ∙ ap (λ m. first ++ (lines_up_to n ++ filled m numbered_lines)) one
    ∙ ap (λ m. first ++ lines_up_to m) (sym (add-one n))
