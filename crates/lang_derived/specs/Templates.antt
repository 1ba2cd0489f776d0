-- What tells the kinds of a template apart.
use Rattle.std.specs.Prelude.{ℕ, List, [], ◌∷◌, Option, Some, None, if◌then◌else◌, codes}
use Rattle.base.specs.Data.{Item, Tail, no_tail, dotted}
use Rattle.lang_derived.specs.Asked.{is_word, list_items}

-- the one datum that is left, with no dot behind it
abbrev pub only_of : List Item → Tail → Option Item
only_of [] t = None
only_of (e ∷ []) no_tail = Some e
only_of (e ∷ []) (dotted d) = None
only_of (e ∷ d ∷ ds) t = None

-- the e of `(unquote-splicing e)`
abbrev pub spliced_by : List (List ℕ) → Option (List Item) → Option Item
spliced_by names None = None
spliced_by names (Some []) = None
spliced_by names (Some (x ∷ [])) = None
spliced_by names (Some (x ∷ e ∷ [])) = if is_word names (codes "unquote-splicing") x then Some e else None
spliced_by names (Some (x ∷ e ∷ d ∷ ds)) = None

abbrev pub splicing : List (List ℕ) → Item → Option Item
splicing names d = spliced_by names (list_items d)

-- the e of a last `unquote e`
abbrev pub last_unquoted : List (List ℕ) → Item → Option Item → Option Item
last_unquoted names x None = None
last_unquoted names x (Some e) = if is_word names (codes "unquote") x then Some e else None
