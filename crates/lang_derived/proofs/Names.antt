-- Names that a step writes in front of parts: no derived ones, but where a row has it so.
use Rattle.std.specs.Prelude.{◌≡◌, ℕ, ◌+◌, nat_le, Bool, true, false, List, [], ◌∷◌, ◌++◌, length, Option, Some, None, if◌then◌else◌, codes, refl}
use Rattle.std.specs.Str.{bytes_eq}
use Rattle.std.proofs.Common.{ap, ◌∙◌}
use Rattle.base.specs.Data.{Item}
use Rattle.base.specs.DataNames.{text_of}
use Rattle.lang_derived.specs.Pieces.{Piece, word, made, taken, parens, pieces_of, all_taken}
use Rattle.lang_derived.specs.Asked.{setter, setf_text}
use Rattle.lang_derived.specs.Patterns.{Patterns, Parts, fit_all}
use Rattle.lang_derived.specs.RightSides.{Template, datum, all_of, the_setter, the_quotation, the_symbol, new_symbol, new_behind, own_symbol, group, for_each, Templates, no_template, template_and, part_of, of_first, word_or_none, setter_piece, before_others, repeated, write, write_all}
use Rattle.lang_derived.specs.Table.{table, is_derived, conditional_rows, binding_rows, case_rows, case_using_rows, loop_rows, place_rows, function_rows, condition_rows, class_rows, quotation_rows}
use Rattle.lang_derived.specs.Ends.{has_derived_name}
use Rattle.lang_derived.specs.FormPlaces.{each, a_form, shape_of}

-- a name that is no derived one, with forms behind it
pub record Plain (name : List ℕ) : Type 0 where
  pub free : is_derived name ≡ false
  pub shape : shape_of name ≡ each a_form

abbrev PlainSome : Option (List ℕ) → Type 0
PlainSome None = Unit {0}
PlainSome (Some name) = Plain name

either_plain : (b : Bool) (name : List ℕ) (other : Option (List ℕ)) → Plain name → PlainSome other → PlainSome (if b then Some name else other)
either_plain true name other g h = g
either_plain false name other g h = h

setf_text_plain : (op : List ℕ) → Plain (setf_text op)
unfolding shape_of is_derived table conditional_rows binding_rows case_rows case_using_rows loop_rows place_rows function_rows condition_rows class_rows quotation_rows
setf_text_plain op = record { free = refl; shape = refl }

known_plain : Plain (codes "%set-car") × (Plain (codes "%set-cdr") × (Plain (codes "set-elt") × (Plain (codes "set-aref") × (Plain (codes "set-garef") × Plain []))))
unfolding shape_of is_derived table conditional_rows binding_rows case_rows case_using_rows loop_rows place_rows function_rows condition_rows class_rows quotation_rows
known_plain = (
  record { free = refl; shape = refl },
  (
    record { free = refl; shape = refl },
    (record { free = refl; shape = refl }, (record { free = refl; shape = refl }, (record { free = refl; shape = refl }, record { free = refl; shape = refl }))),
  ),
)

setter_plain : (op : Option (List ℕ)) → PlainSome (setter op)
setter_plain None = tt
setter_plain (Some op) =
    either_plain (bytes_eq op (codes "car")) (codes "%set-car") _ known_plain.0
    (either_plain (bytes_eq op (codes "cdr")) (codes "%set-cdr") _ known_plain.1.0
    (either_plain (bytes_eq op (codes "elt")) (codes "set-elt") _ known_plain.1.1.0
    (either_plain (bytes_eq op (codes "aref")) (codes "set-aref") _ known_plain.1.1.1.0
    (either_plain (bytes_eq op (codes "garef")) (codes "set-garef") _ known_plain.1.1.1.1.0
    (either_plain (nat_le (length op) 256) (setf_text op) None (setf_text_plain op) tt)))))

-- the function that sets a place is such a name
pub record PlainWord (x : Piece) : Type 0 where
  pub name : List ℕ
  pub is : x ≡ word name
  pub plain : Plain name

word_plain : (name : Option (List ℕ)) → PlainSome name → PlainWord (word_or_none name)
word_plain None h = record { name = []; is = refl; plain = known_plain.1.1.1.1.1 }
word_plain (Some name) h = record { name = name; is = refl; plain = h }

pub setter_named : (names : List (List ℕ)) (ds : List Item) → PlainWord (setter_piece names ds)
setter_named names [] = record { name = []; is = refl; plain = known_plain.1.1.1.1.1 }
setter_named names (d ∷ ds) = word_plain (setter (text_of names d)) (setter_plain (text_of names d))

-- whether what is in front can be no derived name; `rest` says it of what comes behind
abbrev mutual
  pub free_front : Templates → Bool
  free_front no_template = true
  free_front (template_and x xs) = free_before x (free_front xs)

  pub free_before : Template → Bool → Bool
  free_before (datum i) rest = true
  free_before (all_of i) rest = rest
  free_before (the_setter i) rest = true
  free_before (the_quotation i) rest = false
  free_before (the_symbol text) rest = if is_derived text then false else true
  free_before (new_symbol n) rest = true
  free_before (new_behind i) rest = true
  free_before own_symbol rest = true
  free_before (group xs) rest = true
  free_before (for_each i ps xs) rest = if free_front xs then rest else false

abbrev pub Free : List Piece → Type 0
Free xs = has_derived_name (pieces_of xs) ≡ false

pub both_true : (a b : Bool) → (if a then b else false) ≡ true → (a ≡ true) × (b ≡ true)
both_true true b h = (refl, h)
both_true false b h = absurd (cc)

not_true : (b : Bool) → (if b then false else true) ≡ true → b ≡ false
not_true true h = absurd (cc)
not_true false h = refl

free_both : (xs ys : List Piece) → Free xs → Free ys → Free (xs ++ ys)
free_both [] ys g h = h
free_both (word text ∷ xs) ys g h = g
free_both (made s ∷ xs) ys g h = refl
free_both (taken d ∷ xs) ys g h = refl
free_both (parens zs ∷ xs) ys g h = refl

free_taken : (ds : List Item) → Free (all_taken ds)
free_taken [] = refl
free_taken (d ∷ ds) = refl

free_first : (ds : List Item) (xs : List Piece) → Free (of_first (λ d. taken d) ds ∷ xs)
free_first [] xs = refl
free_first (d ∷ ds) xs = refl

free_plain : (x : Piece) (xs : List Piece) → PlainWord x → Free (x ∷ xs)
free_plain x xs w = ap (λ y. has_derived_name (pieces_of (y ∷ xs))) w.is ∙ w.plain.free

before_free : (f : ℕ → Parts → List Piece) → ((n : ℕ) (parts : Parts) → Free (f n parts)) → (own : ℕ) (found : Option Parts) (more : ℕ → List Piece)
    → ((n : ℕ) → Free (more n)) → Free (before_others f own found more)
before_free f g own None more h = h own
before_free f g own (Some parts) more h = free_both (f own parts) (more (own + 1)) (g own parts) (h (own + 1))

repeated_free : (names : List (List ℕ)) (ps : Patterns) (f : ℕ → Parts → List Piece) → ((n : ℕ) (parts : Parts) → Free (f n parts)) → (ds : List Item) (own : ℕ)
    → Free (repeated names ps f ds own)
repeated_free names ps f g [] own = refl
repeated_free names ps f g (d ∷ ds) own =
    before_free f g own (fit_all names ps (d ∷ [])) (λ n. repeated names ps f ds n) (repeated_free names ps f g ds)

pub front_free : (names : List (List ℕ)) (s : ℕ) (xs : Templates) → free_front xs ≡ true → (own : ℕ) (parts : Parts) → Free (write_all names s xs own parts)
unfolding write
front_free names s no_template h own parts = refl
front_free names s (template_and (datum i) xs) h own parts = free_first (part_of parts i) (write_all names s xs own parts)
front_free names s (template_and (all_of i) xs) h own parts =
    free_both (all_taken (part_of parts i)) (write_all names s xs own parts) (free_taken (part_of parts i)) (front_free names s xs h own parts)
front_free names s (template_and (the_setter i) xs) h own parts =
    free_plain (setter_piece names (part_of parts i)) (write_all names s xs own parts) (setter_named names (part_of parts i))
front_free names s (template_and (the_quotation i) xs) h own parts = absurd (cc)
front_free names s (template_and (the_symbol text) xs) h own parts = not_true (is_derived text) h
front_free names s (template_and (new_symbol n) xs) h own parts = refl
front_free names s (template_and (new_behind i) xs) h own parts = refl
front_free names s (template_and own_symbol xs) h own parts = refl
front_free names s (template_and (group ys) xs) h own parts = refl
front_free names s (template_and (for_each i ps ys) xs) h own parts =
    let b : (free_front ys ≡ true) × (free_front xs ≡ true) = both_true (free_front ys) (free_front xs) h in
    free_both (repeated names ps (λ n found. write_all names s ys n found) (part_of parts i) s) (write_all names s xs own parts)
    (repeated_free names ps (λ n found. write_all names s ys n found) (front_free names s ys b.0) (part_of parts i) s)
    (front_free names s xs b.1 own parts)
