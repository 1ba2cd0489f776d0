-- What is known of the names that are used, use by use.
use Rattle.std.proofs.Common.{◌≡◌, ℕ, zero, suc, List, [], ◌∷◌, ◌++◌, map, Some, refl, subst}
use Rattle.std.specs.Prelude.{flat_map, slice_get}
use Rattle.base.specs.AllOf.{AllOf}
use Rattle.lang_meaning.specs.declared.program.GenericRow.{GenericRow}
use Rattle.back_words.specs.Uses.{Use, as_global, as_dynamic, as_symbol, globals_among, dynamics_among, symbols_among}

pub all_front : {X : Type 0} (P : X → Type 0) (xs ys : List X) → AllOf P (xs ++ ys) → AllOf P xs
all_front P [] ys h = tt
all_front P (x ∷ xs) ys h = (h.0, all_front P xs ys h.1)

pub all_behind : {X : Type 0} (P : X → Type 0) (xs ys : List X) → AllOf P (xs ++ ys) → AllOf P ys
all_behind P [] ys h = h
all_behind P (x ∷ xs) ys h = all_behind P xs ys h.1

-- of each of a list
pub all_each : {X Y : Type 0} (P : Y → Type 0) (f : X → List Y) (xs : List X) → AllOf P (flat_map f xs) → AllOf (λ x. AllOf P (f x)) xs
all_each P f [] h = tt
all_each P f (x ∷ xs) h = (all_front P (f x) (flat_map f xs) h, all_each P f xs (all_behind P (f x) (flat_map f xs) h))

pub all_pairs : {X : Type 0} (P Q R : X → Type 0) → ((x : X) → P x → Q x → R x) → (xs : List X) → AllOf P xs → AllOf Q xs → AllOf R xs
all_pairs P Q R f [] h g = tt
all_pairs P Q R f (x ∷ xs) h g = (f x h.0 g.0, all_pairs P Q R f xs h.1 g.1)

-- what is known of each at its place
pub all_places : {X : Type 0} (P : X → Type 0) (xs : List X) → ((i : ℕ) (x : X) → slice_get xs i ≡ Some x → P x) → AllOf P xs
all_places P [] f = tt
all_places P (x ∷ xs) f = (f zero x refl, all_places P xs (λ i y e. f (suc i) y e))

module _ (Global Dynamic Symbol : ℕ → Type 0) where
  abbrev pub Known : Use → Type 0
  Known (as_global n) = Global n
  Known (as_dynamic n) = Dynamic n
  Known (as_symbol n) = Symbol n

  pub all_known : (us : List Use) → AllOf Global (globals_among us) → AllOf Dynamic (dynamics_among us) → AllOf Symbol (symbols_among us) → AllOf Known us
  all_known [] g d s = tt
  all_known (as_global n ∷ us) g d s = (g.0, all_known us g.1 d s)
  all_known (as_dynamic n ∷ us) g d s = (d.0, all_known us g d.1 s)
  all_known (as_symbol n ∷ us) g d s = (s.0, all_known us g d s.1)

-- the names of generic functions are used as symbols
pub symbol_at : (Symbol : ℕ → Type 0) (gs : List GenericRow) (i : ℕ) (g : GenericRow) → AllOf Symbol (symbols_among (map (λ (g : GenericRow). as_symbol g.name.0) gs))
    → slice_get gs i ≡ Some g → Symbol g.name.0
symbol_at Symbol [] i g h e = absurd (cc e)
symbol_at Symbol (f ∷ gs) zero g h e = let same : f ≡ g = cc e in subst (λ (k : GenericRow). Symbol k.name.0) same h.0
symbol_at Symbol (f ∷ gs) (suc i) g h e = symbol_at Symbol gs i g h.1 e

-- the symbols among uses behind others
pub symbols_behind : (Symbol : ℕ → Type 0) (us vs : List Use) → AllOf Symbol (symbols_among (us ++ vs)) → AllOf Symbol (symbols_among vs)
symbols_behind Symbol [] vs h = h
symbols_behind Symbol (as_global n ∷ us) vs h = symbols_behind Symbol us vs h
symbols_behind Symbol (as_dynamic n ∷ us) vs h = symbols_behind Symbol us vs h
symbols_behind Symbol (as_symbol n ∷ us) vs h = symbols_behind Symbol us vs h.1
