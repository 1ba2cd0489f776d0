-- The left sides of rows: which data may stand behind a derived name, and what they are called on the right side.
use Rattle.std.specs.Prelude.{ℕ, ◌+◌, ◌-◌, min, Bool, true, false, List, [], ◌∷◌, ◌++◌, length, take, drop, Option, Some, None, if◌then◌else◌}
use Rattle.base.specs.Data.{Item}
use Rattle.base.specs.DataNames.{text_of}
use Rattle.lang_derived.specs.Asked.{is_word, is_symbol, list_items, setter}

mutual
  -- what may stand at a place of a form: a datum x; a symbol; the symbol of a text; an operator whose place can be set;
  -- a list of such data; x*; [x]; and data x* of which each one fits
  pub data Pattern : Type 0 where
    a_datum : Pattern
    a_symbol : Pattern
    the_word : List ℕ → Pattern
    an_operator : Pattern
    inside : Patterns → Pattern
    others : Pattern
    one_at_most : Pattern
    each_fits : Patterns → Pattern

  pub data Patterns : Type 0 where
    no_pattern : Patterns
    pattern_and : Pattern → Patterns → Patterns

-- how many patterns there are
abbrev pub pattern_count : Patterns → ℕ
pattern_count no_pattern = 0
pattern_count (pattern_and x xs) = pattern_count xs + 1

-- a list of patterns as the mirror's
abbrev pub patterns : List Pattern → Patterns
patterns [] = no_pattern
patterns (x ∷ xs) = pattern_and x (patterns xs)

-- sizes by which recursions over patterns end
abbrev mutual
  pub pattern_size : Pattern → ℕ
  pattern_size a_datum = 1
  pattern_size a_symbol = 1
  pattern_size (the_word text) = 1
  pattern_size an_operator = 1
  pattern_size (inside ps) = patterns_size ps + 2
  pattern_size others = 1
  pattern_size one_at_most = 1
  pattern_size (each_fits ps) = patterns_size ps + 2

  pub patterns_size : Patterns → ℕ
  patterns_size no_pattern = 1
  patterns_size (pattern_and x xs) = pattern_size x + patterns_size xs + 1

-- of so many data that are left, how many it takes: x* leaves one datum for each pattern behind it
abbrev pub taken_by : Pattern → ℕ → ℕ
taken_by a_datum left = 1
taken_by a_symbol left = 1
taken_by (the_word text) left = 1
taken_by an_operator left = 1
taken_by (inside ps) left = 1
taken_by others left = left
taken_by one_at_most left = min 1 left
taken_by (each_fits ps) left = left

-- What a form is taken apart into: the data that each variable of the left side stands for, in the order of the variables.
abbrev pub Parts : Type 0
Parts = List (List Item)

-- these data are one part, where it holds
abbrev pub part_if : Bool → List Item → Option Parts
part_if true ds = Some (ds ∷ [])
part_if false ds = None

-- no variable, where it holds
abbrev pub nothing_if : Bool → Option Parts
nothing_if true = Some []
nothing_if false = None

-- one datum of which it holds
abbrev pub one_datum : (Item → Bool) → List Item → Bool
one_datum f [] = false
one_datum f (d ∷ []) = f d
one_datum f (d ∷ e ∷ ds) = false

abbrev pub is_none : {X : Type 0} → List X → Bool
is_none [] = true
is_none (d ∷ ds) = false

abbrev pub is_some : {X : Type 0} → Option X → Bool
is_some None = false
is_some (Some x) = true

-- it holds of each datum
abbrev pub all_data : (Item → Bool) → List Item → Bool
all_data f [] = true
all_data f (d ∷ ds) = if f d then all_data f ds else false

-- the operator's place can be set
abbrev pub has_setter : List (List ℕ) → Item → Bool
has_setter names d = is_some (setter (text_of names d))

-- the parts of both, where both fit
abbrev pub joined : Option Parts → Option Parts → Option Parts
joined None ys = None
joined (Some xs) None = None
joined (Some xs) (Some ys) = Some (xs ++ ys)

-- the parts of the items of one list
abbrev pub opened : (List Item → Option Parts) → Option (List Item) → Option Parts
opened f None = None
opened f (Some ds) = f ds

abbrev pub of_one : (List Item → Option Parts) → List Item → Option Parts
of_one f [] = None
of_one f (d ∷ []) = opened f (list_items d)
of_one f (d ∷ e ∷ ds) = None

unfoldable mutual
  -- the parts of data that a pattern takes; none where they do not fit
  pub fit : List (List ℕ) → Pattern → List Item → Option Parts
  fit names a_datum ds = part_if (one_datum (λ d. true) ds) ds
  fit names a_symbol ds = part_if (one_datum is_symbol ds) ds
  fit names (the_word text) ds = nothing_if (one_datum (is_word names text) ds)
  fit names an_operator ds = part_if (one_datum (has_setter names) ds) ds
  fit names (inside ps) ds = of_one (λ es. fit_all names ps es) ds
  fit names others ds = Some (ds ∷ [])
  fit names one_at_most ds = Some (ds ∷ [])
  fit names (each_fits ps) ds = part_if (all_data (λ d. is_some (fit_all names ps (d ∷ []))) ds) ds

  -- the parts of data that such patterns take one after the other
  pub fit_all : List (List ℕ) → Patterns → List Item → Option Parts
  fit_all names no_pattern ds = nothing_if (is_none ds)
  fit_all names (pattern_and x xs) ds =
      let n : ℕ = taken_by x (length ds - pattern_count xs) in joined (fit names x (take n ds)) (fit_all names xs (drop n ds))
