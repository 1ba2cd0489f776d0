-- The chains of tuples, each behind the one before, with their cells.
use Rattle.std.proofs.Common.{◌≡◌, ℕ, ◌+◌, ◌*◌, ◌≤◌, List, [], ◌∷◌, ◌++◌, length, map, drop, Option, Some, refl, sym, ap, subst, ◌∙◌, append_assoc, append-nil, length-append, arith}
use Rattle.std.specs.Prelude.{slice_get}
use Rattle.std.proofs.lemmas.List.{drop_all}
use Rattle.base.specs.model.DataRest.{rest_at}
use Rattle.lang_meaning.specs.Objects.{Chain}
use Rattle.back_words.specs.Generics.{words_of_chain, all_chain_words, chain_cell, chain_cells}
use Rattle.back_laying.specs.TooLarge.{DoNotFit}
use Rattle.back_laying.proofs.Large.{part_too_large}

-- what is laid, and what is to come
pub record ChainsSoFar (all rest : List (Option Chain)) (start : ℕ) (cells words : List ℕ) : Type 0 where
  pub cells_too : cells ++ chain_cells rest (start + 4 * length words) ≡ chain_cells all start
  pub words_too : words ++ all_chain_words rest ≡ all_chain_words all

pub no_chain : (all : List (Option Chain)) (start : ℕ) → ChainsSoFar all all start [] []
no_chain all start = record {
  cells_too = let same : start + 4 * 0 ≡ start = omega arith in ap (chain_cells all) same;
  words_too = refl;
}

pub chain_more : {X : Type 0} (f : X → Option Chain) (all : List (Option Chain)) (xs : List X) (i : ℕ) (x : X) (c : Option Chain) (start : ℕ) (cells words next_cells next_words : List ℕ)
    → slice_get xs i ≡ Some x → c ≡ f x
    → next_cells ≡ cells ++ chain_cell c (start + 4 * length words) ∷ [] → next_words ≡ words ++ words_of_chain c
    → ChainsSoFar all (map f (drop i xs)) start cells words → ChainsSoFar all (map f (drop (i + 1) xs)) start next_cells next_words
chain_more f all xs i x c start cells words next_cells next_words here made a b h = record {
  cells_too =
      ap (λ w. next_cells ++ chain_cells rest (start + 4 * length w)) b
      ∙ ap (λ l. l ++ chain_cells rest (start + 4 * length (words ++ words_of_chain c))) a
      ∙ append_assoc cells (chain_cell c (start + 4 * length words) ∷ []) (chain_cells rest (start + 4 * length (words ++ words_of_chain c)))
      ∙ ap (λ n. cells ++ chain_cell c (start + 4 * length words) ∷ chain_cells rest n) behind
      ∙ ap (λ l. cells ++ chain_cells l (start + 4 * length words)) left
      ∙ h.cells_too;
  words_too =
      ap (λ l. l ++ all_chain_words rest) b ∙ append_assoc words (words_of_chain c) (all_chain_words rest)
      ∙ ap (λ l. words ++ all_chain_words l) left ∙ h.words_too;
}
  where
    rest : List (Option Chain)
    rest = map f (drop (i + 1) xs)

    left : c ∷ map f (drop (i + 1) xs) ≡ map f (drop i xs)
    left = ap (λ d. d ∷ map f (drop (i + 1) xs)) made ∙ ap (map f) (sym (rest_at xs i x here))

    behind : start + 4 * length (words ++ words_of_chain c) ≡ start + 4 * length words + 4 * length (words_of_chain c)
    behind = omega (arith, length-append words (words_of_chain c))

pub chains_all : {X : Type 0} (f : X → Option Chain) (all : List (Option Chain)) (xs : List X) (i : ℕ) (start : ℕ) (cells words : List ℕ) → length xs ≤ i
    → ChainsSoFar all (map f (drop i xs)) start cells words → (cells ≡ chain_cells all start) × (words ≡ all_chain_words all)
chains_all f all xs i start cells words past h =
    let none : drop i xs ≡ [] = drop_all i xs past in (
      sym (append-nil cells) ∙ ap (λ l. cells ++ chain_cells (map f l) (start + 4 * length words)) (sym none) ∙ h.cells_too,
      sym (append-nil words) ∙ ap (λ l. words ++ all_chain_words (map f l)) (sym none) ∙ h.words_too,
    )

-- a chain that does not fit
pub chain_too_large : {X : Type 0} (f : X → Option Chain) (all : List (Option Chain)) (xs : List X) (i : ℕ) (x : X) (c : Option Chain) (start : ℕ) (cells words : List ℕ)
    → slice_get xs i ≡ Some x → c ≡ f x → DoNotFit (start + 4 * length words) (words_of_chain c)
    → ChainsSoFar all (map f (drop i xs)) start cells words → DoNotFit start (all_chain_words all)
chain_too_large f all xs i x c start cells words here made large h =
    let left : c ∷ map f (drop (i + 1) xs) ≡ map f (drop i xs) = ap (λ d. d ∷ map f (drop (i + 1) xs)) made ∙ ap (map f) (sym (rest_at xs i x here)) in
    subst (DoNotFit start) (ap (λ l. words ++ all_chain_words l) left ∙ h.words_too)
    (part_too_large start (start + 4 * length words) words (words_of_chain c) (all_chain_words (map f (drop (i + 1) xs))) refl large)
