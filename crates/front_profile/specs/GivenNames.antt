-- The names of generic functions: that of a symbol, or `(setf s)` (ISO/IEC 13816:2007, 12.7 and 15.3).
use Rattle.std.specs.Prelude.{ℕ, ◌+◌, nat_le, List, [], ◌∷◌, Option, Some, None, length, if◌then◌else◌, option_map, codes}
use Rattle.std.specs.Str.{bytes_eq}
use Rattle.base.specs.declared.datum.Name.{Name}
use Rattle.base.specs.declared.datum.Symbol.{Symbol}
use Rattle.base.specs.declared.datum.Symbol.TheVariants.{Named, Fresh}
use Rattle.base.specs.Data.{Item}
use Rattle.base.specs.DataNames.{symbol_text}
use Rattle.lang_derived.specs.Asked.{list_items, is_word, setf_text}
use Rattle.front_profile.specs.Shapes.{symbol_of}

-- what stands where a name is asked: nothing that is one; a symbol of which no name is made; a name that the table of names lacks,
-- so that nothing is said of it; or a name
pub data GivenName : Type 0 where
  no_name : GivenName
  unfit : GivenName
  lacking : GivenName
  given : Name → GivenName

-- the number of a text in a table of names
abbrev pub number_of : List (List ℕ) → List ℕ → Option ℕ
number_of [] text = None
number_of (t ∷ ts) text = if bytes_eq t text then Some 0 else option_map (λ n. n + 1) (number_of ts text)

abbrev pub in_table : Option ℕ → GivenName
in_table None = lacking
in_table (Some n) = given (record { 0 = n })

-- `(setf s)`, of a symbol whose name has at most 256 bytes

abbrev pub longest_set : ℕ
longest_set = 256

abbrev pub setter_of_text : List (List ℕ) → Option (List ℕ) → GivenName
setter_of_text names None = unfit
setter_of_text names (Some text) =
    if nat_le (length text) longest_set then in_table (number_of names (setf_text text)) else unfit

abbrev pub setter_of_symbol : List (List ℕ) → Option Symbol → GivenName
setter_of_symbol names None = no_name
setter_of_symbol names (Some x) = setter_of_text names (symbol_text names x)

abbrev pub setter_in : List (List ℕ) → Option (List Item) → GivenName
setter_in names None = no_name
setter_in names (Some []) = no_name
setter_in names (Some (h ∷ [])) = no_name
setter_in names (Some (h ∷ d ∷ [])) =
    if is_word names (codes "setf") h then setter_of_symbol names (symbol_of d) else no_name
setter_in names (Some (h ∷ d ∷ e ∷ ds)) = no_name

abbrev pub named_by : List (List ℕ) → Item → Option Symbol → GivenName
named_by names d None = setter_in names (list_items d)
named_by names d (Some (Named n)) = given n
named_by names d (Some (Fresh e s)) = unfit

-- the name that a datum gives to a generic function
abbrev pub given_name : List (List ℕ) → Item → GivenName
given_name names d = named_by names d (symbol_of d)
