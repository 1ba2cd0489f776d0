-- Each step of a run keeps a state fine.
use Rattle.std.proofs.Common.{◌≡◌, ℕ, zero, suc, ◌≤◌, List, [], ◌∷◌, ◌++◌, length, refl, sym, ap, subst, Option, Some, None, arith, ◌⊎◌, inl, inr}
use Rattle.std.specs.Prelude.{slice_get, slice_set}
use Rattle.base.specs.AllOf.{all_both}
use Rattle.lang_meaning.specs.Values.{Value, integer, character, symbol, nil, object}
use Rattle.lang_meaning.specs.Objects.{Object}
use Rattle.lang_meaning.specs.State.{State, stored, changed}
use Rattle.lang_meaning.specs.Lookup.{with_values, set_at}
use Rattle.lang_meaning.specs.Primitives.{change}
use Rattle.lang_reached.proofs.Live.{Setting, Live, AllLive, ObjectFine, StoreFine, StateFine, all_set}

-- no item is behind the end of a list
pub none_behind : {X : Type 0} (xs : List X) (i : ℕ) → length xs ≤ i → slice_get xs i ≡ None
none_behind [] i h = refl
none_behind (x ∷ xs) zero h = absurd (omega (arith, h))
none_behind (x ∷ xs) (suc i) h = none_behind xs i (omega (arith, h))

-- an item of a list with one more behind it
last_or_before : {X : Type 0} (xs : List X) (x y : X) (i : ℕ) → slice_get (xs ++ x ∷ []) i ≡ Some y
    → (slice_get xs i ≡ Some y) ⊎ (y ≡ x)
last_or_before [] x y zero e = inr (cc)
last_or_before [] x y (suc i) e = absurd (cc)
last_or_before (z ∷ zs) x y zero e = inl e
last_or_before (z ∷ zs) x y (suc i) e = last_or_before zs x y i e

-- an item of a list in which one is set
set_or_before : {X : Type 0} (xs : List X) (x y : X) (n i : ℕ) → slice_get (slice_set xs n x) i ≡ Some y
    → (slice_get xs i ≡ Some y) ⊎ ((y ≡ x) × (i ≡ n))
set_or_before [] x y n i e = inl e
set_or_before (z ∷ zs) x y zero zero e = inr (cc, refl)
set_or_before (z ∷ zs) x y zero (suc i) e = inl e
set_or_before (z ∷ zs) x y (suc n) zero e = inl e
set_or_before (z ∷ zs) x y (suc n) (suc i) e = by (set_or_before zs x y n i e)
  where
    by : (slice_get zs i ≡ Some y) ⊎ ((y ≡ x) × (i ≡ n)) → (slice_get zs i ≡ Some y) ⊎ ((y ≡ x) × (suc i ≡ suc n))
    by (inl f) = inl f
    by (inr p) = inr (p.0, ap suc p.1)

set_length : {X : Type 0} (xs : List X) (n : ℕ) (x : X) → length (slice_set xs n x) ≡ length xs
set_length [] n x = refl
set_length (y ∷ ys) zero x = refl
set_length (y ∷ ys) (suc n) x = ap suc (set_length ys n x)

longer_length : {X : Type 0} (xs : List X) (x : X) → length xs ≤ length (xs ++ x ∷ [])
longer_length [] x = omega arith
longer_length (y ∷ ys) x = let h = longer_length ys x in omega (arith, h)

module _ {t : Setting} where
  -- what is made is live: it is none of the start
  pub new_live : {store : List Object} → StoreFine t store → Live t (object (length store))
  new_live {store} f =
      let none : slice_get t.start (length store) ≡ None = none_behind t.start (length store) f.longer in
      rw none refl

  pub one_more : {store : List Object} → StoreFine t store → (o : Object) → ((i : ℕ) → ObjectFine t i o) → StoreFine t (store ++ o ∷ [])
  one_more {store} f o h = record {
    longer = let a = f.longer in let b = longer_length store o in omega (arith, a, b);
    each = λ i p e. by i p (last_or_before store o p i e);
  }
    where
      by : (i : ℕ) (p : Object) → (slice_get store i ≡ Some p) ⊎ (p ≡ o) → ObjectFine t i p
      by i p (inl e) = f.each i p e
      by i p (inr e) = subst (ObjectFine t i) (sym e) (h i)

  pub one_set : {store : List Object} → StoreFine t store → (n : ℕ) (o : Object) → ObjectFine t n o → StoreFine t (slice_set store n o)
  one_set {store} f n o h = record {
    longer = subst (λ m. length t.start ≤ m) (sym (set_length store n o)) f.longer;
    each = λ i p e. by i p (set_or_before store o p n i e);
  }
    where
      by : (i : ℕ) (p : Object) → (slice_get store i ≡ Some p) ⊎ ((p ≡ o) × (i ≡ n)) → ObjectFine t i p
      by i p (inl e) = f.each i p e
      by i p (inr e) = subst (ObjectFine t i) (sym e.0) (subst (λ m. ObjectFine t m o) (sym e.1) h)

  pub stored_fine : (z : State) → StateFine t z → (o : Object) → ((i : ℕ) → ObjectFine t i o) → StateFine t (stored o z)
  stored_fine z f o h = record { store = one_more f.store o h; variables = f.variables; globals = f.globals; dynamics = f.dynamics }

  pub changed_fine : (z : State) → StateFine t z → (n : ℕ) (o : Object) → ObjectFine t n o → StateFine t (changed n o z)
  changed_fine z f n o h = record { store = one_set f.store n o h; variables = f.variables; globals = f.globals; dynamics = f.dynamics }

  pub change_fine : (z : State) → StateFine t z → (v : Value) (o : Object) → ((n : ℕ) → ObjectFine t n o) → StateFine t (change v o z)
  change_fine z f (object n) o h = changed_fine z f n o (h n)
  change_fine z f (integer n) o h = f
  change_fine z f (character c) o h = f
  change_fine z f (symbol s) o h = f
  change_fine z f nil o h = f

  pub values_fine : (z : State) → StateFine t z → (vs : List Value) → AllLive t vs → StateFine t (with_values vs z)
  values_fine z f vs h =
      record { store = f.store; variables = all_both (Live t) z.variables vs f.variables h; globals = f.globals; dynamics = f.dynamics }

  pub set_fine : (z : State) → StateFine t z → (i : Option ℕ) (v : Value) → Live t v → StateFine t (set_at i v z)
  set_fine z f (Some i) v h =
      record { store = f.store; variables = all_set (Live t) z.variables i v f.variables h; globals = f.globals; dynamics = f.dynamics }
  set_fine z f None v h = f

  pub global_fine : (z : State) → StateFine t z → (name : List ℕ) (v : Value) → Live t v → StateFine t (record z { globals = (name, v) ∷ z.globals })
  global_fine z f name v h = record { store = f.store; variables = f.variables; globals = (h, f.globals); dynamics = f.dynamics }

  pub dynamic_fine : (z : State) → StateFine t z → (name : List ℕ) (v : Value) → Live t v → StateFine t (record z { dynamics = (name, v) ∷ z.dynamics })
  dynamic_fine z f name v h = record { store = f.store; variables = f.variables; globals = f.globals; dynamics = (h, f.dynamics) }
