-- Lists in which nothing that was passed asks.
use Rattle.std.proofs.Common.{◌≡◌, ℕ, suc, ◌+◌, ◌≤◌, Bool, true, false, ◌||◌, List, [], ◌∷◌, Some, length, drop, slice_get, refl, ap, sym, ◌∙◌, add-one}
use Rattle.flat_language.specs.declared.flat_core.FlatClause.{FlatClause}
use Rattle.flat_language.specs.model.View.{clauses_of, maybe_form}
use Rattle.back_lowering.specs.Sites.{asks_site, body_asks, clauses_ask}
use Rattle.back_lowering.proofs.Rests.{there, past}
use Rattle.lang_rows.proofs.Marking.{either_or_rest}

-- where the question of a list is that of its first item, or else that of the rest
module _ {X : Type 0} (ask : List X → Bool) (one : X → Bool) (next : (x : X) (xs : List X) → ask (x ∷ xs) ≡ (one x || ask xs)) where
  at_next : (xs : List X) (i : ℕ) (x : X) → slice_get xs i ≡ Some x → ask (drop i xs) ≡ (one x || ask (drop (i + 1) xs))
  at_next xs i x here =
      ap ask (there xs i x here) ∙ next x (drop (suc i) xs) ∙ sym (ap (λ (k : ℕ). one x || ask (drop k xs)) (add-one i))

  pub asks_here : (xs : List X) (i : ℕ) (x : X) → slice_get xs i ≡ Some x → one x ≡ true → ask (drop i xs) ≡ ask xs → true ≡ ask xs
  asks_here xs i x here so all = sym (at_next xs i x here ∙ ap (λ (b : Bool). b || ask (drop (i + 1) xs)) so) ∙ all

  pub asks_later : (xs : List X) (i : ℕ) (x : X) → slice_get xs i ≡ Some x → one x ≡ false → ask (drop i xs) ≡ ask xs
      → ask (drop (i + 1) xs) ≡ ask xs
  asks_later xs i x here so all = sym (at_next xs i x here ∙ ap (λ (b : Bool). b || ask (drop (i + 1) xs)) so) ∙ all

  pub asks_nowhere : (xs : List X) (i : ℕ) → length xs ≤ i → ask [] ≡ false → ask (drop i xs) ≡ ask xs → false ≡ ask xs
  asks_nowhere xs i h none all = sym (ap ask (past xs i h) ∙ none) ∙ all

-- a clause asks by its test or by its body

abbrev pub clause_asks : FlatClause → Bool
clause_asks x = asks_site x.test || body_asks (maybe_form x.body)

pub next_clause : (x : FlatClause) (xs : List FlatClause) → clauses_ask (clauses_of (x ∷ xs)) ≡ (clause_asks x || clauses_ask (clauses_of xs))
next_clause x xs = either_or_rest (asks_site x.test) (body_asks (maybe_form x.body)) (clauses_ask (clauses_of xs))
