-- The value of what a datum makes is its last object; a datum that makes none has one value, wherever it is laid.
use Rattle.std.proofs.Common.{◌≡◌, ℕ, suc, ◌+◌, List, [], ◌∷◌, ◌++◌, length, ◌⊎◌, inl, inr, refl, sym, ◌∙◌, ap, arith}
use Rattle.std.proofs.lemmas.List.{length-append}
use Rattle.base.specs.Data.{Item, Content, item, integer, character, symbol, string, vector, nil, list, items_of, no_item, item_and, Tail, no_tail, dotted}
use Rattle.lang_meaning.specs.declared.program.ProgramRows.{ProgramRows}
use Rattle.lang_meaning.specs.Values.{Value, object}
use Rattle.lang_meaning.specs.Objects.{Object}
use Rattle.lang_meaning.specs.Literals.{Laid, no_object, after_parts, lay, lay_content, lay_list, lay_tail}
use Rattle.lang_meaning.specs.InitialHeap.{literal, stands_for, literal_value}
use Rattle.lang_meaning.specs.Recipes.{last_of}

-- at least one object, of which the last is the value
pub record HasObject (l : Laid) (n : ℕ) : Type 0 where
  pub first : Object
  pub others : List Object
  pub objects : l.objects ≡ first ∷ others
  pub value : l.value ≡ object (n + length others)

pub has_object : (n : ℕ) (parts : List Object) (o : Object) → HasObject (after_parts n parts o) n
has_object n [] o = record { first = o; others = []; objects = refl; value = refl }
has_object n (p ∷ ps) o = record {
  first = p;
  others = ps ++ o ∷ [];
  objects = refl;
  value =
      let same : n + suc (length ps) ≡ n + length (ps ++ o ∷ []) = omega (arith, length-append ps (o ∷ [])) in
      ap object same;
}

abbrev pub Shape : (ℕ → Laid) → Type 0
Shape f = ((v : Value) × ((n : ℕ) → f n ≡ no_object v)) ⊎ ((n : ℕ) → HasObject (f n) n)

mutual
  pub shape : (names : List (List ℕ)) (d : Item) → Shape (lay names d)
  shape names (item p c) = shape_of_content names c

  pub shape_of_content : (names : List (List ℕ)) (c : Content) → Shape (lay_content names c)
  shape_of_content names (integer i) = inl (_, λ n. refl)
  shape_of_content names (character c) = inl (_, λ n. refl)
  shape_of_content names (symbol s) = inl (_, λ n. refl)
  shape_of_content names (string bytes) = inr (λ n. has_object n [] _)
  shape_of_content names (vector ds) = inr (λ n. has_object n _ _)
  shape_of_content names nil = inl (_, λ n. refl)
  shape_of_content names (list no_item t) = shape_of_tail names t
  shape_of_content names (list (item_and d ds) t) = inr (λ n. has_object n _ _)

  shape_of_tail : (names : List (List ℕ)) (t : Tail) → Shape (lay_tail names t)
  shape_of_tail names no_tail = inl (_, λ n. refl)
  shape_of_tail names (dotted d) = shape names d

-- its value is the last of its objects, where it makes one
pub last_laid : (l : Laid) (n : ℕ) → HasObject l n → last_of l.objects n ≡ l.value
last_laid l n h = rw h.objects (sym h.value)

-- a proper list, which is nil where it has no items
pub list_last : (names : List (List ℕ)) (ds : List Item) (n : ℕ)
    → last_of (lay_list names (items_of ds) (lay_tail names no_tail) n).objects n ≡ (lay_list names (items_of ds) (lay_tail names no_tail) n).value
list_last names [] n = refl
list_last names (d ∷ ds) n = last_laid (lay_list names (items_of (d ∷ ds)) (lay_tail names no_tail) n) n (has_object n _ _)

-- a literal's value is what it is laid as
pub literal_laid : (names : List (List ℕ)) (program : ProgramRows) (i : ℕ) (d : Item) (n : ℕ)
    → stands_for names program (literal i) ≡ last_of (lay names d n).objects n → (lay names d n).value ≡ literal_value names program i d
literal_laid names program i d n h = elim (shape names d) [
  | inl (v, same) ↦ rw (same 0) (ap (λ (l : Laid). l.value) (same n ∙ sym (same 0)))
  | inr made ↦ rw ((made 0).objects) (sym (h ∙ last_laid (lay names d n) n (made n)))
]
