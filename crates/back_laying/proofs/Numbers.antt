-- The first one of a group, in a list from a place on.
use Rattle.std.proofs.Common.{◌≡◌, ℕ, ◌+◌, ◌≤◌, true, false, List, length, drop, Some, ap, ◌∙◌, arith}
use Rattle.std.specs.Prelude.{not, slice_get, if◌then◌else◌}
use Rattle.std.specs.Str.{bytes_eq}
use Rattle.std.proofs.lemmas.List.{drop_all}
use Rattle.base.specs.model.DataRest.{rest_at}
use Rattle.back_words.specs.Variables.{number_among}

module _ (group : ℕ → List ℕ) (firsts : List ℕ) (n : ℕ) where
  at_place : (i x : ℕ) → slice_get firsts i ≡ Some x
      → number_among group (drop i firsts) n ≡ (if not (bytes_eq (group n) (group x)) then 1 + number_among group (drop (i + 1) firsts) n else 0)
  at_place i x e = ap (λ xs. number_among group xs n) (rest_at firsts i x e)

  pub number_here : (i x : ℕ) → slice_get firsts i ≡ Some x → bytes_eq (group n) (group x) ≡ true
      → number_among group firsts n ≡ i + number_among group (drop i firsts) n → i ≡ number_among group firsts n
  number_here i x e same before =
      let here : number_among group (drop i firsts) n ≡ 0 =
      at_place i x e ∙ ap (λ b. if not b then 1 + number_among group (drop (i + 1) firsts) n else 0) same in
      omega (arith, here, before)

  pub number_later : (i x : ℕ) → slice_get firsts i ≡ Some x → bytes_eq (group n) (group x) ≡ false
      → number_among group firsts n ≡ i + number_among group (drop i firsts) n
      → number_among group firsts n ≡ i + 1 + number_among group (drop (i + 1) firsts) n
  number_later i x e other before =
      let here : number_among group (drop i firsts) n ≡ 1 + number_among group (drop (i + 1) firsts) n =
      at_place i x e ∙ ap (λ b. if not b then 1 + number_among group (drop (i + 1) firsts) n else 0) other in
      omega (arith, here, before)

  pub number_none : (i : ℕ) → length firsts ≤ i → i ≤ length firsts → number_among group firsts n ≡ i + number_among group (drop i firsts) n
      → length firsts ≡ number_among group firsts n
  number_none i past within before =
      let none : number_among group (drop i firsts) n ≡ 0 = ap (λ xs. number_among group xs n) (drop_all i firsts past) in
      omega (arith, none, before, past, within)
