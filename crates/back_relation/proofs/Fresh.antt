-- Fresh symbols stay below the number of those that were made, where objects are made or changed and the heap grows.
use Rattle.std.proofs.Common.{◌≡◌, ◌⊎◌, inl, inr, ℕ, ◌+◌, ◌<◌, ◌≤◌, List, [], ◌∷◌, ◌++◌, length, Some, subst, ⊎_elim, arith}
use Rattle.std.specs.Prelude.{slice_get}
use Rattle.base.specs.Names.{slice_get-push}
use Rattle.lang_meaning.specs.Objects.{Object, fresh_symbol}
use Rattle.back_relation.specs.Things.{FreshCounted}

-- an object that is no fresh symbol
abbrev pub IsNotFresh : Object → Type 0
IsNotFresh (fresh_symbol serial) = ⊥
IsNotFresh o = Unit {0}

-- a fresh symbol among objects with one more, which is none, was there
pub fresh_was :
    (objects : List Object) (o : Object) → IsNotFresh o → (i serial : ℕ)
    → slice_get (objects ++ o ∷ []) i ≡ Some (fresh_symbol serial) → slice_get objects i ≡ Some (fresh_symbol serial)
fresh_was objects o other i serial e =
    ⊎_elim (λ old. old) (λ new. absurd (subst IsNotFresh new.1 other)) (slice_get-push objects o i (fresh_symbol serial) e)

-- no fresh symbol is new
pub fresh_from :
    {store store' : List Object} {made made' from to : ℕ}
    → ((i serial : ℕ) → slice_get store' i ≡ Some (fresh_symbol serial) → slice_get store i ≡ Some (fresh_symbol serial))
    → made' ≡ made → from ≤ to → FreshCounted store made from → FreshCounted store' made' to
fresh_from was same grows f = record {
  below = λ i serial e. let low = f.below i serial (was i serial e) in omega (arith, low, same);
  taken = omega (arith, f.taken, same, grows);
}

-- one is: it has the next serial, and takes two words of the heap
pub fresh_made :
    {store : List Object} {made from to : ℕ} → from + 8 ≤ to → FreshCounted store made from
    → FreshCounted (store ++ fresh_symbol made ∷ []) (made + 1) to
fresh_made {store} {made} {from} {to} grows f = record {
  below = λ i serial e. below i serial (slice_get-push store (fresh_symbol made) i (fresh_symbol serial) e);
  taken = omega (arith, f.taken, grows);
}
  where
    below :
        (i serial : ℕ) → (slice_get store i ≡ Some (fresh_symbol serial)) ⊎ ((i ≡ length store) × (fresh_symbol made ≡ fresh_symbol serial))
        → serial < made + 1
    below i serial (inl old) = let low = f.below i serial old in omega (arith, low)
    below i serial (inr new) = let same : made ≡ serial = cc new.1 in omega (arith, same)
