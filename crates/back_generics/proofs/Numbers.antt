-- Different numbers below a bound are no more than the bound.
use Rattle.std.proofs.Common.{◌≡◌, ◌⊎◌, inl, inr, ℕ, zero, suc, ◌<◌, ◌≤◌, List, [], ◌∷◌, length, sym, subst, arith}
use Rattle.std.proofs.lemmas.Bool.{cases_eq, cases_lt}
use Rattle.base.specs.AllOf.{AllOf}

abbrev pub IsNew : ℕ → List ℕ → Type 0
IsNew n [] = Unit {0}
IsNew n (m ∷ ms) = (n ≡ m → ⊥) × IsNew n ms

abbrev pub AreDifferent : List ℕ → Type 0
AreDifferent [] = Unit {0}
AreDifferent (n ∷ ns) = IsNew n ns × AreDifferent ns

-- those below the last number of the bound: at least all but one
record Below (bound : ℕ) (ns : List ℕ) : Type 0 where
  pub others : List ℕ
  pub different : AreDifferent others
  pub low : AllOf (λ n. n < bound) others
  pub many : length ns ≤ suc (length others)
  pub new : (n : ℕ) → IsNew n ns → IsNew n others

less : (bound n : ℕ) → (bound ≡ n → ⊥) → n < suc bound → n < bound
less bound n differ h = by (cases_lt n bound)
  where
    by : (n < bound) ⊎ (bound ≤ n) → n < bound
    by (inl h) = h
    by (inr more) = absurd (differ (omega (arith, h, more)))

all_below : (bound : ℕ) (ns : List ℕ) → IsNew bound ns → AllOf (λ n. n < suc bound) ns → AllOf (λ n. n < bound) ns
all_below bound [] new low = tt
all_below bound (n ∷ ns) new low = (less bound n new.0 low.0, all_below bound ns new.1 low.1)

one_less : (bound : ℕ) (ns : List ℕ) → AreDifferent ns → AllOf (λ n. n < suc bound) ns → Below bound ns
one_less bound [] different low = record { others = []; different = tt; low = tt; many = omega arith; new = λ n h. h }
one_less bound (n ∷ ns) different low = by (cases_eq bound n) (one_less bound ns different.1 low.1)
  where
    by : (bound ≡ n) ⊎ (bound ≡ n → ⊥) → Below bound ns → Below bound (n ∷ ns)
    by (inl same) rest = record {
      others = ns;
      different = different.1;
      low = all_below bound ns (subst (λ m. IsNew m ns) (sym same) different.0) low.1;
      many = omega arith;
      new = λ m h. h.1;
    }
    by (inr differ) rest = record {
      others = n ∷ rest.others;
      different = (rest.new n different.0, rest.different);
      low = (less bound n differ low.0, rest.low);
      many = let m = rest.many in omega (arith, m);
      new = λ m h. (h.0, rest.new m h.1);
    }

pub no_more : (bound : ℕ) (ns : List ℕ) → AreDifferent ns → AllOf (λ n. n < bound) ns → length ns ≤ bound
no_more zero [] different low = omega arith
no_more zero (n ∷ ns) different low = absurd (let first = low.0 in omega (arith, first))
no_more (suc bound) ns different low =
    let b = one_less bound ns different low in
    let rest = no_more bound b.others b.different b.low in
    let many = b.many in
    omega (arith, rest, many)
