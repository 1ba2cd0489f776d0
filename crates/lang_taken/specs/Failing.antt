-- A value that stands for no datum: the first part that is none, or that is too large or too deep.
use Rattle.std.specs.Prelude.{◌≡◌, ℕ, zero, suc, ◌<◌, true, false, List, ◌∷◌}
use Rattle.base.specs.declared.place.Place.{Place}
use Rattle.base.specs.declared.reason.Reason.{Reason}
use Rattle.base.specs.declared.reason.Reason.TheVariants.{ExpansionNotForm, ExpansionTooLarge}
use Rattle.base.specs.Data.{Item}
use Rattle.lang_meaning.specs.Values.{Value}
use Rattle.lang_meaning.specs.Objects.{Object}
use Rattle.lang_taken.specs.Shapes.{Shape, shape_of, vector, cons, no_datum, own_size, opens, is_list}
use Rattle.lang_taken.specs.Taken.{TakesShape, greatest_size, greatest_depth}

mutual
  -- with so many levels that may open and so much left, what is of that shape is refused for that reason
  pub data FailsShape (names : List (List ℕ)) (objects : List Object) (place : Place) (expansion : ℕ) : (deep left : ℕ) → Shape → Reason → Type 0 where
    is_no_datum : (deep left : ℕ) → FailsShape names objects place expansion deep left no_datum ExpansionNotForm
    is_too_large :
        (deep left : ℕ) (s : Shape) → left < own_size s → FailsShape names objects place expansion deep left s ExpansionTooLarge
    is_too_deep : (left : ℕ) (s : Shape) → opens s ≡ true → FailsShape names objects place expansion zero left s ExpansionTooLarge
    in_vector :
        (deep left : ℕ) (elements : List Value) (r : Reason) → FailsElements names objects place expansion deep left elements r
        → FailsShape names objects place expansion (suc deep) (suc left) (vector elements) r
    in_list :
        (deep left : ℕ) (car cdr : Value) (r : Reason) → FailsChain names objects place expansion deep left (cons car cdr) r
        → FailsShape names objects place expansion (suc deep) (suc left) (cons car cdr) r

  -- one of several values is refused, and those in front of it stand for data
  pub data FailsElements (names : List (List ℕ)) (objects : List Object) (place : Place) (expansion : ℕ) : (deep left : ℕ) → List Value → Reason → Type 0 where
    in_element :
        (deep left : ℕ) (v : Value) (vs : List Value) (r : Reason) → FailsShape names objects place expansion deep left (shape_of objects v) r
        → FailsElements names objects place expansion deep left (v ∷ vs) r
    behind_element :
        (deep left middle : ℕ) (v : Value) (vs : List Value) (d : Item) (r : Reason)
        → TakesShape names objects place expansion deep left (shape_of objects v) d middle
        → FailsElements names objects place expansion deep middle vs r
        → FailsElements names objects place expansion deep left (v ∷ vs) r

  -- the first element of a cons of the chain, or its end, is refused, and what stands in front of it stands for data
  pub data FailsChain (names : List (List ℕ)) (objects : List Object) (place : Place) (expansion : ℕ) : (deep left : ℕ) → Shape → Reason → Type 0 where
    in_car :
        (deep left : ℕ) (car cdr : Value) (r : Reason) → FailsShape names objects place expansion deep left (shape_of objects car) r
        → FailsChain names objects place expansion deep left (cons car cdr) r
    in_cdr :
        (deep left middle : ℕ) (car cdr : Value) (d : Item) (r : Reason)
        → TakesShape names objects place expansion deep left (shape_of objects car) d middle
        → FailsChain names objects place expansion deep middle (shape_of objects cdr) r
        → FailsChain names objects place expansion deep left (cons car cdr) r
    behind_dot :
        (deep left : ℕ) (s : Shape) (r : Reason) → is_list s ≡ false → FailsShape names objects place expansion deep left s r
        → FailsChain names objects place expansion deep left s r

-- the same of a value
abbrev pub Fails : List (List ℕ) → List Object → Place → (expansion deep left : ℕ) → Value → Reason → Type 0
Fails names objects place expansion deep left v r = FailsShape names objects place expansion deep left (shape_of objects v) r

-- a value is refused as the result of the expander of that expansion
abbrev pub DatumFails : List (List ℕ) → List Object → Place → (expansion : ℕ) → Value → Reason → Type 0
DatumFails names objects place expansion v r = Fails names objects place expansion greatest_depth greatest_size v r
