-- The text that is printed for a value, so that it can be read again, where it is a datum of few parts (ISO/IEC 13816:2007, 26.3). Each part takes of a
-- size that is left: one, and one more for four bytes begun of a string. So a circle of conses ends. What is shared is written as often as it is met.
use Rattle.std.specs.Prelude.{◌≡◌, ℕ, suc, ◌+◌, ◌<◌, true, false, List, [], ◌∷◌, ◌++◌, codes}
use Rattle.lang_meaning.specs.Values.{Value}
use Rattle.lang_meaning.specs.Objects.{Object}
use Rattle.lang_taken.specs.Shapes.{Shape, shape_of, vector, nil, cons, no_datum, own_size, is_list}
use Rattle.lang_told.specs.Spelled.{atom_text, is_atom}

-- in front of each part of a list or a vector but the first
abbrev pub blank : List ℕ
blank = 32 ∷ []

mutual
  -- where so much is left, what is of that shape is written so, and so much is left behind it
  pub data Writes (objects : List Object) : (left : ℕ) → Shape → (text : List ℕ) → (rest : ℕ) → Type 0 where
    writes_atom : (rest : ℕ) (s : Shape) → is_atom s ≡ true → Writes objects (own_size s + rest) s (atom_text s) rest
    writes_vector :
        (left rest : ℕ) (elements : List Value) (text : List ℕ) → WritesElements objects [] left elements text rest
        → Writes objects (suc left) (vector elements) (codes "#(" ++ (text ++ codes ")")) rest
    writes_list :
        (left rest : ℕ) (car cdr : Value) (text : List ℕ) → WritesChain objects [] left (cons car cdr) text rest
        → Writes objects (suc left) (cons car cdr) (codes "(" ++ (text ++ codes ")")) rest

  -- values one after another, the first behind this gap and the others behind a blank
  pub data WritesElements (objects : List Object) : (gap : List ℕ) → (left : ℕ) → List Value → (text : List ℕ) → (rest : ℕ) → Type 0 where
    no_element : (gap : List ℕ) (left : ℕ) → WritesElements objects gap left [] [] left
    an_element :
        (gap : List ℕ) (left middle rest : ℕ) (v : Value) (vs : List Value) (text texts : List ℕ)
        → Writes objects left (shape_of objects v) text middle → WritesElements objects blank middle vs texts rest
        → WritesElements objects gap left (v ∷ vs) (gap ++ (text ++ texts)) rest

  -- the elements of a chain of conses, and its end behind a dot, if that is no empty list
  pub data WritesChain (objects : List Object) : (gap : List ℕ) → (left : ℕ) → Shape → (text : List ℕ) → (rest : ℕ) → Type 0 where
    at_nil : (gap : List ℕ) (left : ℕ) → WritesChain objects gap left nil [] left
    at_cons :
        (gap : List ℕ) (left middle rest : ℕ) (car cdr : Value) (text texts : List ℕ)
        → Writes objects left (shape_of objects car) text middle → WritesChain objects blank middle (shape_of objects cdr) texts rest
        → WritesChain objects gap left (cons car cdr) (gap ++ (text ++ texts)) rest
    at_dot :
        (gap : List ℕ) (left rest : ℕ) (s : Shape) (text : List ℕ) → is_list s ≡ false → Writes objects left s text rest
        → WritesChain objects gap left s (codes " . " ++ text) rest

mutual
  -- where so much is left, what is of that shape is not written: a part is no datum, or takes more than is left
  pub data IsUnwritten (objects : List Object) : (left : ℕ) → Shape → Type 0 where
    is_no_datum : (left : ℕ) → IsUnwritten objects left no_datum
    is_too_large : (left : ℕ) (s : Shape) → left < own_size s → IsUnwritten objects left s
    in_vector : (left : ℕ) (elements : List Value) → AreUnwritten objects left elements → IsUnwritten objects (suc left) (vector elements)
    in_list : (left : ℕ) (car cdr : Value) → IsUnwrittenChain objects left (cons car cdr) → IsUnwritten objects (suc left) (cons car cdr)

  -- one of several values is not written, and those in front of it are
  pub data AreUnwritten (objects : List Object) : (left : ℕ) → List Value → Type 0 where
    in_element : (left : ℕ) (v : Value) (vs : List Value) → IsUnwritten objects left (shape_of objects v) → AreUnwritten objects left (v ∷ vs)
    behind_element :
        (left middle : ℕ) (v : Value) (vs : List Value) (text : List ℕ) → Writes objects left (shape_of objects v) text middle
        → AreUnwritten objects middle vs → AreUnwritten objects left (v ∷ vs)

  -- the first element of a cons of the chain, or its end, is not written, and what stands in front of it is
  pub data IsUnwrittenChain (objects : List Object) : (left : ℕ) → Shape → Type 0 where
    in_car : (left : ℕ) (car cdr : Value) → IsUnwritten objects left (shape_of objects car) → IsUnwrittenChain objects left (cons car cdr)
    in_cdr :
        (left middle : ℕ) (car cdr : Value) (text : List ℕ) → Writes objects left (shape_of objects car) text middle
        → IsUnwrittenChain objects middle (shape_of objects cdr) → IsUnwrittenChain objects left (cons car cdr)
    behind_dot : (left : ℕ) (s : Shape) → is_list s ≡ false → IsUnwritten objects left s → IsUnwrittenChain objects left s
