-- Lists whose conses have falling numbers, as functions make them, and objects that are changed.
use Rattle.std.proofs.Common.{◌≡◌, ◌≤◌, ◌<◌, ℕ, zero, suc, ◌+◌, ◌-◌, List, [], ◌∷◌, ◌++◌, reverse, refl, sym, ap, ◌∙◌, Some, length, slice_get, slice_set, append_assoc, le_trans, arith}
use Rattle.std.proofs.lemmas.Grind.{reverse_onto}
use Rattle.lang_meaning.specs.Values.{Value, nil, object}
use Rattle.lang_meaning.specs.Objects.{Object, cons}
use Rattle.lang_library_laws.specs.Lists.{IsListFrom}
use Rattle.lang_library_laws.specs.Applications.{IsExtended}
use Rattle.lang_library_laws.proofs.Frames.{get_kept, set_behind}

-- items in the other order in front of others
abbrev pub turned_onto : {X : Type 0} → List X → List X → List X
turned_onto [] ys = ys
turned_onto (x ∷ xs) ys = turned_onto xs (x ∷ ys)

pub turned_is_reverse : {X : Type 0} (xs ys : List X) → turned_onto xs ys ≡ reverse xs ++ ys
turned_is_reverse [] ys = refl
turned_is_reverse (x ∷ xs) ys =
    turned_is_reverse xs (x ∷ ys) ∙ sym (ap (λ us. us ++ ys) (reverse_onto xs x []) ∙ append_assoc (reverse xs) (x ∷ []) ys)

-- a proper list of these items whose conses have numbers from the first one on, each below the one before it
abbrev pub IsFalling : (first above : ℕ) → List Object → Value → List Value → Type 0
IsFalling first above store v [] = v ≡ nil
IsFalling first above store v (x ∷ xs) =
    (i : ℕ) × (d : Value) × (v ≡ object i) × (first ≤ i) × (i < above) × (slice_get store i ≡ Some (cons x d)) × IsFalling first i store d xs

pub falling_list : (store : List Object) (first above : ℕ) (v : Value) (items : List Value) → IsFalling first above store v items → IsListFrom first store v items
falling_list store first above v [] h = h
falling_list store first above v (x ∷ xs) h = (h.0, h.1, h.2, h.3, h.5, falling_list store first h.0 h.1 xs h.6)

pub falling_kept : {store now : List Object} → IsExtended Object store now → (first above higher : ℕ) (v : Value) (items : List Value) → above ≤ higher
    → IsFalling first above store v items → IsFalling first higher now v items
falling_kept {store} {now} e first above higher v [] b h = h
falling_kept {store} {now} e first above higher v (x ∷ xs) b h =
    (h.0, h.1, h.2, h.3, le_trans h.4 b, get_kept e h.0 _ h.5, falling_kept e first h.0 h.0 h.1 xs (omega arith) h.6)

-- an object is changed
pub get_other : {X : Type 0} (xs : List X) (i j : ℕ) (x : X) → (j ≡ i → ⊥) → slice_get (slice_set xs i x) j ≡ slice_get xs j
get_other [] i j x h = refl
get_other (a ∷ xs) zero zero x h = absurd (h refl)
get_other (a ∷ xs) zero (suc j) x h = refl
get_other (a ∷ xs) (suc i) zero x h = refl
get_other (a ∷ xs) (suc i) (suc j) x h = get_other xs i j x (λ e. h (ap suc e))

pub get_changed : {X : Type 0} (xs : List X) (i : ℕ) (x y : X) → slice_get xs i ≡ Some y → slice_get (slice_set xs i x) i ≡ Some x
get_changed [] i x y h = absurd (cc h)
get_changed (a ∷ xs) zero x y h = refl
get_changed (a ∷ xs) (suc i) x y h = get_changed xs i x y h

-- all that was there before stays
pub change_keeps : {kept store : List Object} → IsExtended Object kept store → (i : ℕ) → length kept ≤ i → (o : Object)
    → IsExtended Object kept (slice_set store i o)
change_keeps {kept} {store} e i b o =
    let place : i ≡ length kept + (i - length kept) = omega (arith, b) in
    record {
      added = slice_set e.added (i - length kept) o;
      is = ap (λ us. slice_set us i o) e.is ∙ ap (λ n. slice_set (kept ++ e.added) n o) place ∙ set_behind kept e.added (i - length kept) o;
    }
