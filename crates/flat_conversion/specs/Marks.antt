-- What a walk has found to be set and captured.
use Rattle.std.specs.Prelude.{◌≡◌, ℕ, Bool, not, ◌&&◌, ◌||◌, List, [], ◌∷◌, if◌then◌else◌}
use Rattle.std.specs.Ordering.{nat_cmp}
use Rattle.std.specs.BTreeSet.{BTreeSet, contains}
use Rattle.flat_language.specs.declared.place.Home.TheVariants.{Slot, Boxed}
use Rattle.flat_conversion.specs.declared.marks.Marks.{Marks}
use Rattle.flat_conversion.specs.declared.variables.Binder.{Binder}
use Rattle.flat_conversion.specs.declared.variables.NewVariable.{NewVariable}
use Rattle.flat_conversion.specs.Found.{has_variable}

-- a set of variables with those of two others
abbrev pub IsUnion : BTreeSet ℕ → BTreeSet ℕ → BTreeSet ℕ → Type 0
IsUnion one other all = (v : ℕ) → contains nat_cmp all v ≡ (contains nat_cmp one v || contains nat_cmp other v)

abbrev pub is_set : Marks → ℕ → Bool
is_set m v = contains nat_cmp m.set v

abbrev pub is_captured : Marks → ℕ → Bool
is_captured m v = contains nat_cmp m.captured v

-- which variables are marked as set and as captured, and whether the method is captured
pub record AreMarks (m : Marks) (set captured : ℕ → Bool) (method : Bool) : Type 0 where
  pub set_so : (v : ℕ) → is_set m v ≡ set v
  pub captured_so : (v : ℕ) → is_captured m v ≡ captured v
  pub method_so : m.method ≡ method

-- these marks are added
abbrev pub Adds : Marks → Marks → (ℕ → Bool) → (ℕ → Bool) → Bool → Type 0
Adds before after set captured method =
    AreMarks after (λ v. is_set before v || set v) (λ v. is_captured before v || captured v) (before.method || method)

-- those of these variables are forgotten
abbrev pub Forgets : List ℕ → Marks → Marks → Type 0
Forgets vs before after =
    AreMarks after (λ v. not (has_variable v vs) && is_set before v) (λ v. not (has_variable v vs) && is_captured before v) before.method

-- variables of a body with these marks
abbrev pub marked_variable : Marks → ℕ → NewVariable
marked_variable m v = record { var = v; home = if is_captured m v && is_set m v then Boxed else Slot; fixed = not (is_set m v) }

abbrev pub marked_variables : Marks → List ℕ → List NewVariable
marked_variables m [] = []
marked_variables m (v ∷ vs) = marked_variable m v ∷ marked_variables m vs

abbrev pub marked_binder : Marks → List ℕ → Binder
marked_binder m vs = record { variables = marked_variables m vs; keeps_method = m.method }
