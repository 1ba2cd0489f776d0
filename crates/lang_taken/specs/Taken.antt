-- The datum that a value stands for when it is the result of an expander (ISO/IEC 13816:2007, 16). All its parts have one place. Each part takes
-- of a size that is left, and inside each list and vector one level fewer may open. What is shared is taken as often as it is met.
use Rattle.std.specs.Prelude.{◌≡◌, ℕ, suc, ◌+◌, ◌/◌, ◌≤◌, ℤ, true, false, List, [], ◌∷◌, length, Some, slice_get}
use Rattle.base.specs.declared.place.Place.{Place}
use Rattle.base.specs.declared.datum.Name.{Name}
use Rattle.base.specs.declared.datum.Symbol.{Symbol}
use Rattle.base.specs.declared.datum.Symbol.TheVariants.{Named, Fresh}
use Rattle.base.specs.Data.{Item, item, Items, no_item, item_and, Tail, no_tail, dotted}
use Rattle.base.specs.Data as datum
use Rattle.base.specs.AllOf.{AllOf}
use Rattle.lang_meaning.specs.Values.{Value, named, unnamed, in_range}
use Rattle.lang_meaning.specs.Objects.{Object}
use Rattle.lang_taken.specs.Shapes.{Shape, shape_of, integer, character, symbol, new_symbol, string, vector, nil, cons, is_list}

-- characters, and so the parts of strings, are bytes
abbrev pub IsByte : ℕ → Type 0
IsByte code = code ≤ 255

-- the symbol of a datum: the name in the table that has the text, the symbol that another expansion made, or for one that this run made the one of
-- its serial and of this expansion
pub data SymbolFor (names : List (List ℕ)) (expansion : ℕ) : Shape → Symbol → Type 0 where
  of_name : (text : List ℕ) (name : Name) → slice_get names name.0 ≡ Some text → SymbolFor names expansion (symbol (named text)) (Named name)
  of_other_expansion : (other serial : ℕ) → SymbolFor names expansion (symbol (unnamed other serial)) (Fresh other serial)
  of_this_expansion : (serial : ℕ) → SymbolFor names expansion (new_symbol serial) (Fresh expansion serial)

mutual
  -- with so many levels that may open and so much left, what is of that shape stands for that datum, and so much is left behind it
  pub data TakesShape (names : List (List ℕ)) (objects : List Object) (place : Place) (expansion : ℕ) : (deep left : ℕ) → Shape → Item → ℕ → Type 0 where
    takes_integer :
        (deep left : ℕ) (n : ℤ) → in_range n ≡ true
        → TakesShape names objects place expansion deep (suc left) (integer n) (item place (datum.integer n)) left
    takes_character :
        (deep left c : ℕ) → IsByte c → TakesShape names objects place expansion deep (suc left) (character c) (item place (datum.character c)) left
    takes_symbol :
        (deep left : ℕ) (s : Shape) (one : Symbol) → SymbolFor names expansion s one
        → TakesShape names objects place expansion deep (suc left) s (item place (datum.symbol one)) left
    takes_string :
        (deep left rest : ℕ) (bytes : List ℕ) → AllOf IsByte bytes → left ≡ (length bytes + 3) / 4 + rest
        → TakesShape names objects place expansion deep (suc left) (string bytes) (item place (datum.string bytes)) rest
    takes_vector :
        (deep left rest : ℕ) (elements : List Value) (ds : Items) → TakesElements names objects place expansion deep left elements ds rest
        → TakesShape names objects place expansion (suc deep) (suc left) (vector elements) (item place (datum.vector ds)) rest
    takes_nil : (deep left : ℕ) → TakesShape names objects place expansion deep (suc left) nil (item place datum.nil) left
    takes_list :
        (deep left rest : ℕ) (car cdr : Value) (ds : Items) (tail : Tail)
        → TakesChain names objects place expansion deep left (cons car cdr) ds tail rest
        → TakesShape names objects place expansion (suc deep) (suc left) (cons car cdr) (item place (datum.list ds tail)) rest

  -- values one after another stand for data one after another
  pub data TakesElements (names : List (List ℕ)) (objects : List Object) (place : Place) (expansion : ℕ) : (deep left : ℕ) → List Value → Items → ℕ → Type 0 where
    no_element : (deep left : ℕ) → TakesElements names objects place expansion deep left [] no_item left
    an_element :
        (deep left middle rest : ℕ) (v : Value) (vs : List Value) (d : Item) (ds : Items)
        → TakesShape names objects place expansion deep left (shape_of objects v) d middle
        → TakesElements names objects place expansion deep middle vs ds rest
        → TakesElements names objects place expansion deep left (v ∷ vs) (item_and d ds) rest

  -- a chain of conses stands for the items of a list, and its end, if that is no empty list, for what stands behind the dot
  pub data TakesChain (names : List (List ℕ)) (objects : List Object) (place : Place) (expansion : ℕ) : (deep left : ℕ) → Shape → Items → Tail → ℕ → Type 0 where
    at_nil : (deep left : ℕ) → TakesChain names objects place expansion deep left nil no_item no_tail left
    at_cons :
        (deep left middle rest : ℕ) (car cdr : Value) (d : Item) (ds : Items) (tail : Tail)
        → TakesShape names objects place expansion deep left (shape_of objects car) d middle
        → TakesChain names objects place expansion deep middle (shape_of objects cdr) ds tail rest
        → TakesChain names objects place expansion deep left (cons car cdr) (item_and d ds) tail rest
    at_dot :
        (deep left rest : ℕ) (s : Shape) (d : Item) → is_list s ≡ false → TakesShape names objects place expansion deep left s d rest
        → TakesChain names objects place expansion deep left s no_item (dotted d) rest

-- the same of a value
abbrev pub Takes : List (List ℕ) → List Object → Place → (expansion deep left : ℕ) → Value → Item → ℕ → Type 0
Takes names objects place expansion deep left v d rest = TakesShape names objects place expansion deep left (shape_of objects v) d rest

-- the size that a datum of a value may have at most, and how many lists and vectors may stand inside one another
abbrev pub greatest_size : ℕ
greatest_size = 100000

abbrev pub greatest_depth : ℕ
greatest_depth = 256

-- the datum that a value stands for, at a place, where the run was that of the expansion with that number
pub record DatumOf (names : List (List ℕ)) (objects : List Object) (place : Place) (expansion : ℕ) (v : Value) (d : Item) : Type 0 where
  pub rest : ℕ
  pub taken : Takes names objects place expansion greatest_depth greatest_size v d rest
