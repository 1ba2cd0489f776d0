-- The superclasses that are known are there.
use Rattle.std.proofs.Common.{◌≡◌, ◌<◌, ℕ, ◌+◌, Bool, true, false, List, [], ◌∷◌, Option, Some, None, if◌then◌else◌, length, refl, arith}
use Rattle.std.specs.Prelude.{zero, suc, option_map, slice_index_or, All}
use Rattle.base.specs.declared.datum.Name.{Name}
use Rattle.lang_meaning.specs.declared.program.ClassRow.{ClassRow}
use Rattle.lang_classes.specs.InheritedClasses.{class_named}
use Rattle.lang_classes.specs.InheritedSlots.{same_name}
use Rattle.front_profile.specs.ClassShapes.{WrittenSuper}
use Rattle.front_profile.specs.ClassRows.{known_supers}

below_by : (b : Bool) (o : Option ℕ) (m c : ℕ) → ((d : ℕ) → o ≡ Some d → d < m) → (if b then Some 0 else option_map (λ k. k + 1) o) ≡ Some c → c < m + 1
below_by true o m c f h = let first : 0 ≡ c = cc in omega (arith, first)
below_by false None m c f h = absurd (cc)
below_by false (Some d) m c f h = let next : d + 1 ≡ c = cc in let below : d < m = f d refl in omega (arith, next, below)

class_there : (rows : List ClassRow) (n : Name) (c : ℕ) → class_named rows n ≡ Some c → c < length rows
class_there [] n c h = absurd (cc)
class_there (row ∷ rows) n c h =
    let below : c < length rows + 1 = below_by (same_name n row.name) (class_named rows n) (length rows) c (λ d k. class_there rows n d k) h in
    omega (arith, below)

in_front : (m d : ℕ) (ds : List ℕ) → d < m → All (λ c. c < m) ds → (k e : ℕ) → k < length (d ∷ ds) → slice_index_or (d ∷ ds) k e < m
in_front m d ds h all zero e l = h
in_front m d ds h all (suc k) e l = let below : k < length ds = omega (arith, l) in all k e below

all_by : (m : ℕ) (o : Option ℕ) (cs : List WrittenSuper) (rows : List ClassRow) (c : WrittenSuper) → class_named rows c.name ≡ o
    → ((d : ℕ) → o ≡ Some d → d < m) → All (λ d. d < m) (known_supers rows cs) → All (λ d. d < m) (known_supers rows (c ∷ cs))
all_by m None cs rows c e f all = rw e all
all_by m (Some d) cs rows c e f all = rw e (in_front m d (known_supers rows cs) (f d refl) all)

pub known_there : (rows : List ClassRow) (cs : List WrittenSuper) → All (λ c. c < length rows) (known_supers rows cs)
known_there rows [] = λ k e l. absurd (omega (arith, l))
known_there rows (c ∷ cs) =
    all_by (length rows) (class_named rows c.name) cs rows c refl (λ d h. class_there rows c.name d h) (known_there rows cs)
