-- How a proper list lies in the store (ISO/IEC 13816:2007, 21).
use Rattle.std.specs.Prelude.{◌≡◌, ◌≤◌, ⊤, ℕ, zero, suc, List, [], ◌∷◌, ◌++◌, Some, slice_get, if◌then◌else◌}
use Rattle.lang_meaning.specs.Values.{Value, nil, object, same}
use Rattle.lang_meaning.specs.Objects.{Object, cons}

-- a proper list of these items whose conses have that number or a later one: nil, or a cons of the first item and of a
-- proper list of the others
abbrev pub IsListFrom : ℕ → List Object → Value → List Value → Type 0
IsListFrom first store v [] = v ≡ nil
IsListFrom first store v (x ∷ xs) =
    (i : ℕ) × (d : Value) × (v ≡ object i) × (first ≤ i) × (slice_get store i ≡ Some (cons x d)) × IsListFrom first store d xs

-- a proper list of these items, whatever objects its conses are
abbrev pub IsProperList : List Object → Value → List Value → Type 0
IsProperList = IsListFrom 0

-- proper lists, each with its items, and the items of all of them
abbrev pub AreProperLists : List Object → List (Value × List Value) → Type 0
AreProperLists store [] = ⊤
AreProperLists store (l ∷ ls) = IsProperList store l.0 l.1 × AreProperLists store ls

abbrev pub joined : {X : Type 0} → List (Value × List X) → List X
joined [] = []
joined (l ∷ ls) = l.1 ++ joined ls

-- a proper list of these conses, each by its number and with its item
abbrev pub HasConses : List Object → Value → List (ℕ × Value) → Type 0
HasConses store v [] = v ≡ nil
HasConses store v (c ∷ cs) =
    (d : Value) × (v ≡ object c.0) × (slice_get store c.0 ≡ Some (cons c.1 d)) × HasConses store d cs

-- the number is that of none of the conses, and each cons has that number or a later one
abbrev pub IsNoneOf : ℕ → List (ℕ × Value) → Type 0
IsNoneOf i [] = ⊤
IsNoneOf i (c ∷ cs) = (i ≡ c.0 → ⊥) × IsNoneOf i cs

abbrev pub AreFrom : (first : ℕ) → List (ℕ × Value) → Type 0
AreFrom first [] = ⊤
AreFrom first (c ∷ cs) = (first ≤ c.0) × AreFrom first cs

-- all objects but those conses are as they were, and there are no others
abbrev pub ChangesOnly : List (ℕ × Value) → (before after : List Object) → Type 0
ChangesOnly cs before after = (i : ℕ) → IsNoneOf i cs → slice_get after i ≡ slice_get before i

-- the value behind so many conses of a list
abbrev pub IsBehind : List Object → ℕ → Value → Value → Type 0
IsBehind store zero v w = w ≡ v
IsBehind store (suc n) v w =
    (i : ℕ) × (a : Value) × (d : Value) × (v ≡ object i) × (slice_get store i ≡ Some (cons a d)) × IsBehind store n d w

-- what of some items begins with the object
abbrev pub from_item : Value → List Value → List Value
from_item sought [] = []
from_item sought (x ∷ xs) = if same sought x then x ∷ xs else from_item sought xs

-- items that are conses, each with its key, which is its first part
abbrev pub HaveKeys : List Object → List (Value × Value) → Type 0
HaveKeys store [] = ⊤
HaveKeys store (e ∷ es) = ((i : ℕ) × (d : Value) × (e.0 ≡ object i) × (slice_get store i ≡ Some (cons e.1 d))) × HaveKeys store es

-- the first item with that key, and nil where there is none
abbrev pub with_key : Value → List (Value × Value) → Value
with_key key [] = nil
with_key key (e ∷ es) = if same key e.1 then e.0 else with_key key es

-- what holds of each of some items, and of each with what stands at its place among as many others
abbrev pub OfEach : {X : Type 0} → (X → Type 0) → List X → Type 0
OfEach Holds [] = ⊤
OfEach Holds (x ∷ xs) = Holds x × OfEach Holds xs

abbrev pub OfBoth : {X Y : Type 0} → (X → Y → Type 0) → List X → List Y → Type 0
OfBoth Holds [] [] = ⊤
OfBoth Holds [] (y ∷ ys) = ⊥
OfBoth Holds (x ∷ xs) [] = ⊥
OfBoth Holds (x ∷ xs) (y ∷ ys) = Holds x y × OfBoth Holds xs ys
