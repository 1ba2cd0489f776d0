-- Mode Show: the value of a file's last form is printed, unless that form defines something or is a `progn`.
use Rattle.std.specs.Prelude.{◌≡◌, ℕ, Bool, true, false, List, [], ◌∷◌, Option, Some, None, slice_get, codes}
use Rattle.std.specs.List.{list_any}
use Rattle.std.specs.Str.{bytes_eq}
use Rattle.base.specs.declared.place.Place.{Place}
use Rattle.base.specs.declared.datum.Name.{Name}
use Rattle.base.specs.declared.datum.Symbol.TheVariants.{Named}
use Rattle.base.specs.Data.{Item, item, Content, integer, character, symbol, string, vector, nil, list, Items, no_item, item_and, items_of, no_tail, place_of}
use Rattle.base.specs.DataNames.{text_of}
use Rattle.front_reader.specs.Gaps.{Gap}
use Rattle.front_files.specs.declared.mode.Mode.{Mode}
use Rattle.front_files.specs.declared.mode.Mode.TheVariants.{Run, Show}

-- the name at the head of a list
abbrev pub first_text : List (List ℕ) → Items → Option (List ℕ)
first_text names no_item = None
first_text names (item_and d ds) = text_of names d

abbrev pub head_inside : List (List ℕ) → Content → Option (List ℕ)
head_inside names (integer n) = None
head_inside names (character c) = None
head_inside names (symbol s) = None
head_inside names (string bytes) = None
head_inside names (vector ds) = None
head_inside names nil = None
head_inside names (list ds t) = first_text names ds

abbrev pub head_text : List (List ℕ) → Item → Option (List ℕ)
head_text names (item p c) = head_inside names c

-- `progn` and the defining forms, whose value is not printed
abbrev pub not_shown : List (List ℕ)
not_shown =
    codes "progn"
    ∷ codes "defun"
    ∷ codes "defglobal"
    ∷ codes "defconstant"
    ∷ codes "defdynamic"
    ∷ codes "defmacro"
    ∷ codes "defclass"
    ∷ codes "defgeneric"
    ∷ codes "defmethod"
    ∷ []

abbrev pub is_among : List (List ℕ) → Option (List ℕ) → Bool
is_among texts None = false
is_among texts (Some text) = list_any (bytes_eq text) texts

unfoldable pub stays : List (List ℕ) → Item → Bool
stays names d = is_among not_shown (head_text names d)

-- `(format (standard-output) "~S~%" form)`, the new parts at the form's place
abbrev pub named_at : Place → Name → Item
named_at p n = item p (symbol (Named n))

abbrev pub list_at : Place → List Item → Item
list_at p ds = item p (list (items_of ds) no_tail)

abbrev pub printing_at : Place → Name → Name → Item → Item
printing_at p format standard_output d =
    list_at p (named_at p format ∷ list_at p (named_at p standard_output ∷ []) ∷ item p (string (codes "~S~%")) ∷ d ∷ [])

pub record IsPrinting (names : List (List ℕ)) (d e : Item) : Type 0 where
  pub format : Name
  pub standard_output : Name
  pub is_format : slice_get names format.0 ≡ Some (codes "format")
  pub is_standard_output : slice_get names standard_output.0 ≡ Some (codes "standard-output")
  pub is : e ≡ printing_at (place_of d) format standard_output d

-- `IsForm names mode d after e`: behind the datum d of a text `after` is left, and e is the form that is judged
pub data IsForm (names : List (List ℕ)) : Mode → Item → List ℕ → Item → Type 0 where
  runs : (d : Item) (after : List ℕ) → IsForm names Run d after d
  -- something follows that is no blank and no comment
  not_last : (d : Item) (after : List ℕ) → (Gap after [] → ⊥) → IsForm names Show d after d
  last_stays : (d : Item) (after : List ℕ) → stays names d ≡ true → IsForm names Show d after d
  last_shown : (d : Item) (after : List ℕ) (e : Item) → Gap after [] → stays names d ≡ false → IsPrinting names d e
      → IsForm names Show d after e
