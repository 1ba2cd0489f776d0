-- What a search among the valid exits comes to, by its first exit.
use Rattle.std.proofs.Common.{◌≡◌, ℕ, suc, ◌+◌, ◌<◌, ◌≤◌, Bool, true, false, List, [], ◌∷◌, length, ap, ◌∙◌, arith}
use Rattle.std.specs.Prelude.{if◌then◌else◌}
use Rattle.lang_meaning.specs.State.{Exit}
use Rattle.flat_language.specs.FlatSignals.{search}
use Rattle.flat_language.specs.FlatState.{FlatState, FlatEvaluated, charged}
use Rattle.back_exits.specs.Searches.{Finds, Misses, IsLong}

-- units that are charged twice
pub charged_twice : (m n k : ℕ) (z : FlatState) → k ≡ n + m → charged m (charged n z) ≡ charged k z
charged_twice m n k z e =
    let same : z.state.units + n + m ≡ z.state.units + k = omega (arith, e) in
    ap (λ u. record z { state = record z.state { units = u } }) same

pub finds_first : (p : Exit → Bool) (x : Exit) (xs : List Exit) → p x ≡ true → Finds p (x ∷ xs) x 0
finds_first p x xs e go otherwise z = ap (λ b. if b then go x (charged 1 z) else search p go otherwise xs (charged 1 z)) e

pub finds_behind : (p : Exit → Bool) (y x : Exit) (xs : List Exit) (n : ℕ) → p y ≡ false → Finds p xs x n → Finds p (y ∷ xs) x (n + 1)
finds_behind p y x xs n e f go otherwise z =
    ap (λ b. if b then go y (charged 1 z) else search p go otherwise xs (charged 1 z)) e
    ∙ f go otherwise (charged 1 z)
    ∙ ap (go x) (charged_twice (n + 1) 1 (n + 1 + 1) z (omega arith))

pub misses_none : (p : Exit → Bool) → Misses p []
misses_none p go otherwise z = let same : z.state.units ≡ z.state.units + 0 = omega arith in ap (λ u. otherwise (record z { state = record z.state { units = u } })) same

pub misses_behind : (p : Exit → Bool) (y : Exit) (xs : List Exit) → p y ≡ false → Misses p xs → Misses p (y ∷ xs)
misses_behind p y xs e f go otherwise z =
    ap (λ b. if b then go y (charged 1 z) else search p go otherwise xs (charged 1 z)) e
    ∙ f go otherwise (charged 1 z)
    ∙ ap otherwise (charged_twice (length xs) 1 (length (y ∷ xs)) z (omega arith))

-- a search only charges
search_grows :
    (p : Exit → Bool) (go : Exit → FlatState → FlatEvaluated) (otherwise : FlatState → FlatEvaluated) → ((x : Exit) (y : FlatState) → y.state.units ≤ (go x y).state.state.units)
    → ((y : FlatState) → y.state.units ≤ (otherwise y).state.state.units) → (xs : List Exit) (z : FlatState) → z.state.units ≤ (search p go otherwise xs z).state.state.units
search_grows p go otherwise g h [] z = h z
search_grows p go otherwise g h (x ∷ xs) z = by (p x) (search_grows p go otherwise g h xs (charged 1 z))
  where
    by : (b : Bool) → z.state.units + 1 ≤ (search p go otherwise xs (charged 1 z)).state.state.units
        → z.state.units ≤ (if b then go x (charged 1 z) else search p go otherwise xs (charged 1 z)).state.state.units
    by true rest = let here = g x (charged 1 z) in omega (arith, here)
    by false rest = omega (arith, rest)

pub long_first : (p : Exit → Bool) (x : Exit) (xs : List Exit) → IsLong p (x ∷ xs) 0
long_first p x xs go otherwise g h z = by (p x) (search_grows p go otherwise g h xs (charged 1 z))
  where
    by : (b : Bool) → z.state.units + 1 ≤ (search p go otherwise xs (charged 1 z)).state.state.units
        → z.state.units + 0 < (if b then go x (charged 1 z) else search p go otherwise xs (charged 1 z)).state.state.units
    by true rest = let here = g x (charged 1 z) in omega (arith, here)
    by false rest = omega (arith, rest)

pub long_behind : (p : Exit → Bool) (x : Exit) (xs : List Exit) (n : ℕ) → p x ≡ false → IsLong p xs n → IsLong p (x ∷ xs) (suc n)
long_behind p x xs n e l go otherwise g h z = by (p x) e (l go otherwise g h (charged 1 z))
  where
    by : (b : Bool) → b ≡ false → z.state.units + 1 + n < (search p go otherwise xs (charged 1 z)).state.state.units
        → z.state.units + suc n < (if b then go x (charged 1 z) else search p go otherwise xs (charged 1 z)).state.state.units
    by true e rest = absurd (cc e)
    by false e rest = omega (arith, rest)
