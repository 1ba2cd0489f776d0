-- Two positions in two layouts: in the second one they are in the same order, and no further apart.
use Rattle.std.proofs.Common.{◌≡◌, ℕ, zero, suc, ◌+◌, ◌≤◌, Bool, true, false, List, [], ◌∷◌, refl, arith, eqb-true}
use Rattle.std.specs.Prelude.{◌&&◌, ◌==◌, slice_index}
use Rattle.std.proofs.lemmas.Bool.Decides.{nat_tests}
use Rattle.back_layout.specs.Sizes.{jump_size}

pub record Closer (from to from' to' : ℕ) : Type 0 where
  pub before : from ≤ to
  pub before' : from' ≤ to'
  pub closer : to' + from ≤ to + from'

pub and_then : (a b c a' b' c' : ℕ) → Closer a b a' b' → Closer b c b' c' → Closer a c a' c'
and_then a b c a' b' c' h k = record {
  before = omega (arith, h.before, k.before);
  before' = omega (arith, h.before', k.before');
  closer = omega (arith, h.closer, k.closer);
}

pub moved_on : (n n' a b a' b' : ℕ) → Closer a b a' b' → Closer (n + a) (n + b) (n' + a') (n' + b')
moved_on n n' a b a' b' h = record {
  before = omega (arith, h.before);
  before' = omega (arith, h.before');
  closer = omega (arith, h.closer);
}

pub same_place : (a a' : ℕ) → Closer a a a' a'
same_place a a' = record { before = omega arith; before' = omega arith; closer = omega arith }

-- Lists of what is left from each line on: it falls from line to line, and in the second list it falls by no more.
abbrev pub Shrunk : List ℕ → List ℕ → Type 0
Shrunk [] [] = Unit {0}
Shrunk (a ∷ us) (b ∷ vs) = Closer (slice_index us 0) a (slice_index vs 0) b × Shrunk us vs
Shrunk us vs = ⊥

pub closer_at : (us vs : List ℕ) (i j : ℕ) → Shrunk us vs → i ≤ j → Closer (slice_index us j) (slice_index us i) (slice_index vs j) (slice_index vs i)
closer_at [] [] i j h le = same_place 0 0
closer_at [] (b ∷ vs) i j h le = absurd h
closer_at (a ∷ us) [] i j h le = absurd h
closer_at (a ∷ us) (b ∷ vs) zero zero h le = same_place a b
closer_at (a ∷ us) (b ∷ vs) zero (suc j) h le =
    and_then (slice_index us j) (slice_index us 0) a (slice_index vs j) (slice_index vs 0) b (closer_at us vs 0 j h.1 (omega arith)) h.0
closer_at (a ∷ us) (b ∷ vs) (suc i) zero h le = absurd (omega (arith, le))
closer_at (a ∷ us) (b ∷ vs) (suc i) (suc j) h le = closer_at us vs i j h.1 (omega (arith, le))

pub less_at : (us vs : List ℕ) (i : ℕ) → Shrunk us vs → slice_index vs i ≤ slice_index us i
less_at [] [] i h = omega arith
less_at [] (b ∷ vs) i h = absurd h
less_at (a ∷ us) [] i h = absurd h
less_at (a ∷ us) (b ∷ vs) zero h = let k = less_at us vs 0 h.1 in omega (arith, h.0.closer, k)
less_at (a ∷ us) (b ∷ vs) (suc i) h = less_at us vs i h.1

-- a jump with what is closer is no longer

equal_tells : (a b : ℕ) → a ≡ b → (a == b) ≡ true
equal_tells a b e = by (a == b) refl
  where
    by : (t : Bool) → (a == b) ≡ t → t ≡ true
    by true h = refl
    by false h = absurd (grind (arith, nat_tests, e, h))

pub same_tests : (a b c d : ℕ) → (a ≡ b → c ≡ d) → (c ≡ d → a ≡ b) → (a == b) ≡ (c == d)
same_tests a b c d f g = by (a == b) (c == d) refl refl
  where
    by : (s t : Bool) → (a == b) ≡ s → (c == d) ≡ t → s ≡ t
    by true true h k = refl
    by false false h k = refl
    by true false h k = cc (equal_tells c d (f (eqb-true a b h)), k)
    by false true h k = cc (equal_tells a b (g (eqb-true c d k)), h)

smaller_size : (silent silent' near : Bool) → (silent ≡ true → silent' ≡ true) → jump_size silent' near ≤ jump_size silent false
smaller_size true silent' near h = by silent' (h refl)
  where
    by : (t : Bool) → t ≡ true → jump_size t near ≤ 0
    by true e = omega arith
    by false e = absurd (cc e)
smaller_size false true near h = omega arith
smaller_size false false true h = omega arith
smaller_size false false false h = omega arith

pub jump_shrunk : (c near : Bool) (u v u' v' : ℕ) → Closer u v u' v' → jump_size (c && (u' == v')) near ≤ jump_size (c && (u == v)) false
jump_shrunk true near u v u' v' h =
    smaller_size (u == v) (u' == v') near
    (λ e. equal_tells u' v' (let same = eqb-true u v e in omega (arith, same, h.before', h.closer)))
jump_shrunk false near u v u' v' h = smaller_size false false near (λ e. e)
