-- The rank of a datum: nothing for what is no derived form, else the size. It falls at each step, so it measures steps
-- that are taken one after another.
use Rattle.std.specs.Prelude.{ℕ, Bool, false, List, [], ◌∷◌, Option, Some, None, if◌then◌else◌}
use Rattle.base.specs.Data.{Item, item, Content, integer, character, symbol, string, vector, nil, list, items_list}
use Rattle.base.specs.DataMeasures.{size_of}
use Rattle.base.specs.DataNames.{text_of}
use Rattle.lang_derived.specs.Table.{is_derived}

abbrev pub is_derived_name : Option (List ℕ) → Bool
is_derived_name None = false
is_derived_name (Some name) = is_derived name

abbrev pub has_derived_front : List (List ℕ) → List Item → Bool
has_derived_front names [] = false
has_derived_front names (head ∷ ds) = is_derived_name (text_of names head)

abbrev pub is_derived_content : List (List ℕ) → Content → Bool
is_derived_content names (list ds t) = has_derived_front names (items_list ds)
is_derived_content names (integer n) = false
is_derived_content names (character c) = false
is_derived_content names (symbol s) = false
is_derived_content names (string bytes) = false
is_derived_content names (vector ds) = false
is_derived_content names nil = false

-- whether the datum is a list under a derived name
abbrev pub is_derived_form : List (List ℕ) → Item → Bool
is_derived_form names (item p c) = is_derived_content names c

unfoldable pub rank : List (List ℕ) → Item → ℕ
rank names d = if is_derived_form names d then size_of d else 0
