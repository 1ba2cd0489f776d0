-- The right sides of rows as they stand in the table, and the parts that a step makes of them.
use Rattle.std.specs.Prelude.{ℕ, ◌+◌, List, [], ◌∷◌, ◌++◌, length, Option, Some, None, slice_get}
use Rattle.base.specs.Data.{Item}
use Rattle.base.specs.DataNames.{text_of}
use Rattle.lang_derived.specs.Pieces.{Piece, word, made, taken, listed, all_taken}
use Rattle.lang_derived.specs.Asked.{setter}
use Rattle.lang_derived.specs.Patterns.{Patterns, Parts, fit_all}
use Rattle.lang_derived.specs.Quotation.{template}

mutual
  -- Of the variable with a number: its datum x, its data x*, how many they are, and the function that sets the place of
  -- the operator x. The symbol of a text; the new symbol of a number, the one behind those of a variable's data, and the
  -- one of the datum that a repetition has come to. The form that makes the datum of a quasiquotation. Parts in
  -- parentheses. And a repetition: for each datum of the variable that fits, with variables of its own.
  pub data Template : Type 0 where
    datum : ℕ → Template
    all_of : ℕ → Template
    the_setter : ℕ → Template
    the_quotation : ℕ → Template
    the_symbol : List ℕ → Template
    new_symbol : ℕ → Template
    new_behind : ℕ → Template
    own_symbol : Template
    group : Templates → Template
    for_each : ℕ → Patterns → Templates → Template

  pub data Templates : Type 0 where
    no_template : Templates
    template_and : Template → Templates → Templates

-- a list of them as the mirror's
abbrev pub templates : List Template → Templates
templates [] = no_template
templates (x ∷ xs) = template_and x (templates xs)

-- in parentheses
abbrev pub grouped : List Template → Template
grouped xs = group (templates xs)

-- a form: a name, and what stands behind it
abbrev pub written : List ℕ → List Template → Template
written name xs = grouped (the_symbol name ∷ xs)

-- sizes by which recursions over templates end
abbrev mutual
  pub template_size : Template → ℕ
  template_size (datum i) = 1
  template_size (all_of i) = 1
  template_size (the_setter i) = 1
  template_size (the_quotation i) = 1
  template_size (the_symbol text) = 1
  template_size (new_symbol n) = 1
  template_size (new_behind i) = 1
  template_size own_symbol = 1
  template_size (group xs) = templates_size xs + 2
  template_size (for_each i ps xs) = templates_size xs + 2

  pub templates_size : Templates → ℕ
  templates_size no_template = 1
  templates_size (template_and x xs) = template_size x + templates_size xs + 1

-- the data of a variable
abbrev pub data_or_none : Option (List Item) → List Item
data_or_none None = []
data_or_none (Some ds) = ds

abbrev pub part_of : Parts → ℕ → List Item
part_of parts i = data_or_none (slice_get parts i)

-- what is made of its datum; of none, nil
abbrev pub of_first : (Item → Piece) → List Item → Piece
of_first f [] = listed []
of_first f (d ∷ ds) = f d

-- the symbol of a text
abbrev pub word_or_none : Option (List ℕ) → Piece
word_or_none None = word []
word_or_none (Some text) = word text

abbrev pub setter_piece : List (List ℕ) → List Item → Piece
setter_piece names [] = word []
setter_piece names (d ∷ ds) = word_or_none (setter (text_of names d))

-- what is made of the parts of a datum that fits, before what is made of those behind it
abbrev pub before_others : (ℕ → Parts → List Piece) → ℕ → Option Parts → (ℕ → List Piece) → List Piece
before_others f own None more = more own
before_others f own (Some parts) more = f own parts ++ more (own + 1)

-- for each datum that fits, what is made of its parts and its new symbol
abbrev pub repeated : List (List ℕ) → Patterns → (ℕ → Parts → List Piece) → List Item → ℕ → List Piece
repeated names ps f [] own = []
repeated names ps f (d ∷ ds) own = before_others f own (fit_all names ps (d ∷ [])) (λ n. repeated names ps f ds n)

unfoldable mutual
  -- what a step writes by it, where the new symbols have the serials from s on, and the repetition has come to `own`
  pub write : List (List ℕ) → ℕ → Template → ℕ → Parts → List Piece
  write names s (datum i) own parts = of_first (λ d. taken d) (part_of parts i) ∷ []
  write names s (all_of i) own parts = all_taken (part_of parts i)
  write names s (the_setter i) own parts = setter_piece names (part_of parts i) ∷ []
  write names s (the_quotation i) own parts = of_first (template names 0) (part_of parts i) ∷ []
  write names s (the_symbol text) own parts = word text ∷ []
  write names s (new_symbol n) own parts = made (s + n) ∷ []
  write names s (new_behind i) own parts = made (s + length (part_of parts i)) ∷ []
  write names s own_symbol own parts = made own ∷ []
  write names s (group xs) own parts = listed (write_all names s xs own parts) ∷ []
  write names s (for_each i ps xs) own parts = repeated names ps (λ n found. write_all names s xs n found) (part_of parts i) s

  pub write_all : List (List ℕ) → ℕ → Templates → ℕ → Parts → List Piece
  write_all names s no_template own parts = []
  write_all names s (template_and x xs) own parts = write names s x own parts ++ write_all names s xs own parts
