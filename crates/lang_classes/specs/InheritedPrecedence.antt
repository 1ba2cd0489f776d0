-- Precedence lists of a file's own classes, and below which classes they may stand (ISO/IEC 13816:2007, 15).
use Rattle.std.specs.Prelude.{ℕ, ◌==◌, Bool, not, ◌||◌, ◌&&◌, nat_le, List, [], ◌∷◌, flat_map, slice_get, if◌then◌else◌}
use Rattle.std.specs.List.{list_all, list_any}
use Rattle.lang_meaning.specs.declared.program.ClassRow.{ClassRow}
use Rattle.lang_meaning.specs.Classes.{precedence_of}
use Rattle.lang_meaning.specs.Lookup.{all_differ}
use Rattle.lang_meaning.specs.Lookup.{is_in}
use Rattle.lang_meaning.specs.Objects.{standard_object_class, built_in_classes}

abbrev pub object_class : ℕ
object_class = 0

abbrev pub error_class : ℕ
error_class = 19

abbrev pub simple_error_class : ℕ
simple_error_class = 25

-- each class kept at its last place
abbrev pub each_last : List ℕ → List ℕ
each_last [] = []
each_last (c ∷ cs) = if is_in c cs then each_last cs else c ∷ each_last cs

-- without superclasses the one superclass is `<standard-object>`
abbrev pub superclasses : List ℕ → List ℕ
superclasses [] = standard_object_class ∷ []
superclasses (s ∷ ss) = s ∷ ss

-- what stands above a class: the precedence lists of its direct superclasses joined in order, each class kept
-- at its last place
abbrev pub joined : List ClassRow → List ℕ → List ℕ
joined rows supers = flat_map (λ s. precedence_of (slice_get rows s)) supers

unfoldable pub above : List ClassRow → List ℕ → List ℕ
above rows supers = each_last (joined rows (superclasses supers))

-- the precedence list of a class: the class itself, and then what stands above it
abbrev pub precedence_below : List ClassRow → ℕ → List ℕ → List ℕ
precedence_below rows c supers = c ∷ above rows supers

-- the classes that a file's own class may have as direct superclasses: `<standard-object>`, `<error>`,
-- `<simple-error>` and the file's own classes
abbrev pub is_open : ℕ → Bool
is_open c = c == standard_object_class || c == error_class || c == simple_error_class || nat_le built_in_classes c

-- two direct superclasses may share only `<standard-object>` and `<object>`
abbrev pub is_common : ℕ → Bool
is_common c = c == standard_object_class || c == object_class

abbrev pub share_more : List ℕ → List ℕ → Bool
share_more cs ds = list_any (λ c. not (is_common c) && is_in c ds) cs

-- two direct superclasses do not go together where they are one class or share more
abbrev pub clash : List ClassRow → ℕ → ℕ → Bool
clash rows a b = a == b || share_more (precedence_of (slice_get rows a)) (precedence_of (slice_get rows b))

unfoldable pub supers_fit : List ClassRow → List ℕ → Bool
supers_fit rows supers = list_all is_open supers && all_differ (clash rows) supers
