-- Generic functions and the methods that they take (ISO/IEC 13816:2007, 15.3).
use Rattle.std.specs.Prelude.{◌≡◌, ℕ, zero, suc, ◌==◌, Bool, true, false, not, ◌&&◌, List, [], ◌∷◌, ◌++◌, length, map, take, Option, Some, None, slice_get}
use Rattle.std.specs.List.{list_any, list_all}
use Rattle.std.specs.Str.{bytes_eq}
use Rattle.base.specs.declared.datum.Name.{Name}
use Rattle.base.specs.declared.place.Place.{Place}
use Rattle.base.specs.declared.reason.Reason.TheVariants.{BadMethod}
use Rattle.base.specs.declared.reason.Stop.{Stop}
use Rattle.base.specs.declared.reason.Stop.TheVariants.{Refused, NoMemory}
use Rattle.lang_meaning.specs.declared.program.GenericRow.{GenericRow}
use Rattle.lang_meaning.specs.declared.program.MethodRow.{MethodRow}
use Rattle.lang_meaning.specs.Classes.{is_qualifier}
use Rattle.lang_meaning.specs.Lookup.{all_differ}

-- the names, each at the number of its generic function
abbrev pub names_of : List GenericRow → List ℕ
names_of rows = map (λ g. g.name.0) rows

-- each generic function has a name of its own
pub record HaveOwnNames (rows : List GenericRow) : Type 0 where
  pub once : (i j n : ℕ) → slice_get (names_of rows) i ≡ Some n → slice_get (names_of rows) j ≡ Some n → i ≡ j

-- a generic function without methods
abbrev pub new_row : Name → ℕ → Bool → GenericRow
new_row name required rest = record { name = name; required = required; rest = rest; methods = [] }

-- two methods with the same qualifier and classes
abbrev pub is_same : MethodRow → MethodRow → Bool
is_same m n = is_qualifier m.qualifier n.qualifier && bytes_eq m.classes n.classes

abbrev pub same_truth : Bool → Bool → Bool
same_truth true b = b
same_truth false b = not b

-- a method is congruent where it has as many required names, and a rest name where the generic function has one
abbrev pub is_congruent : GenericRow → Bool → MethodRow → Bool
is_congruent g rest m = length m.classes == g.required && same_truth rest g.rest

-- a generic function takes a congruent method whose qualifier and classes no other of its methods has
abbrev pub takes : GenericRow → Bool → MethodRow → Bool
takes g rest m = is_congruent g rest m && not (list_any (is_same m) g.methods)

abbrev pub taken_by : Option GenericRow → Bool → MethodRow → Bool
taken_by (Some g) rest m = takes g rest m
taken_by None rest m = false

abbrev pub takes_at : List GenericRow → ℕ → Bool → MethodRow → Bool
takes_at rows i rest m = taken_by (slice_get rows i) rest m

-- the rows with the method at the end of those of that generic function
abbrev pub with_method : List GenericRow → ℕ → MethodRow → List GenericRow
with_method [] i m = []
with_method (g ∷ gs) zero m = record g { methods = g.methods ++ m ∷ [] } ∷ gs
with_method (g ∷ gs) (suc i) m = g ∷ with_method gs i m

-- the methods of a generic function, by its number
abbrev pub methods_in : Option GenericRow → List MethodRow
methods_in (Some g) = g.methods
methods_in None = []

abbrev pub methods_at : List GenericRow → ℕ → List MethodRow
methods_at rows i = methods_in (slice_get rows i)

-- the rows where that generic function has its first methods alone, so many
abbrev pub with_first_methods : List GenericRow → ℕ → ℕ → List GenericRow
with_first_methods [] i n = []
with_first_methods (g ∷ gs) zero n = record g { methods = take n g.methods } ∷ gs
with_first_methods (g ∷ gs) (suc i) n = g ∷ with_first_methods gs i n

-- each method has one class for each required argument, and no two have the same qualifier and classes
abbrev pub row_is_whole : GenericRow → Bool
row_is_whole g = list_all (λ m. length m.classes == g.required) g.methods && all_differ is_same g.methods

-- a method that is not taken is refused at its place; want of memory comes only for one that is
abbrev pub IsRefusal : Place → Bool → Stop → Type 0
IsRefusal place is_taken (Refused r) = (is_taken ≡ false) × (r ≡ record { place = place; reason = BadMethod })
IsRefusal place is_taken NoMemory = is_taken ≡ true
