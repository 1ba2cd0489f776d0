-- What stands for the initargs and the initforms of slots.
use Rattle.std.proofs.Common.{◌≡◌, ℕ, zero, suc, ◌+◌, ◌<◌, ◌==◌, Bool, true, false, List, [], ◌∷◌, length, map, refl, sym, ◌∙◌, ap, add-zero, zero-add, arith, eq-eqb}
use Rattle.std.specs.Prelude.{◌&&◌}
use Rattle.std.proofs.lemmas.Bool.{ne_eqb}
use Rattle.base.specs.Data.{item, symbol}
use Rattle.base.specs.declared.datum.Symbol.TheVariants.{Named}
use Rattle.lang_meaning.specs.declared.program.SlotRow.{SlotRow}
use Rattle.lang_meaning.specs.declared.program.ClassRow.{ClassRow}
use Rattle.lang_meaning.specs.Values.{Value, nil}
use Rattle.lang_meaning.specs.Objects.{Object}
use Rattle.lang_meaning.specs.State.{no_place}
use Rattle.lang_meaning.specs.Literals.{lay_content}
use Rattle.lang_meaning.specs.InitialHeap.{Key, part, initargs, initform, same_key, laid_out, under_key, initargs_list, initform_objects}
use Rattle.lang_meaning.specs.Recipes.{in_turn, OfSlot, slot_recipe, slots_recipe}
use Rattle.lang_meaning.proofs.RecipeKeys.{AreOthers, others_append, absent_others, first_thing, later_thing, laid_append, passed_over, none_behind}
use Rattle.lang_meaning.proofs.RecipeSegments.{initargs_thing, initform_thing, slots_of, all_slots_of, slot_count, objects_of_slots, as_many}
use Rattle.lang_meaning.proofs.RecipeShapes.{list_last}

-- what is looked up of a slot
pub data SlotPart : Type 0 where
  args : SlotPart
  form : SlotPart

abbrev pub key_of : SlotPart → (class place : ℕ) → Key
key_of args c i = initargs c i
key_of form c i = initform c i

-- how the two are read from what stands for a slot
pub record Reading {V : Type 0} (of : OfSlot V) : Type 0 where
  pub read : SlotPart → V → Value
  pub args_are : (s : SlotRow) (a f : Value) → read args (of s a f) ≡ a
  pub form_are : (s : SlotRow) (a f : Value) → read form (of s a f) ≡ f

abbrev pub value_at : {V : Type 0} → (V → Value) → List V → ℕ → Value
value_at read [] i = nil
value_at read (v ∷ vs) zero = read v
value_at read (v ∷ vs) (suc i) = value_at read vs i

abbrev pub value_in_class : {V : Type 0} → (V → Value) → List (List V) → (class place : ℕ) → Value
value_in_class read [] c i = nil
value_in_class read (vs ∷ vss) zero i = value_at read vs i
value_in_class read (vs ∷ vss) (suc c) i = value_in_class read vss c i

-- keys

inner : (which : SlotPart) (c i : ℕ) → same_key (key_of which c i) part ≡ false
inner args c i = refl
inner form c i = refl

twice : (c i d j : ℕ) → c ≡ d → i ≡ j → ((c == d) && (i == j)) ≡ true
twice c i d j e f = rw (eq-eqb c d e, eq-eqb i j f) refl

not_first : (c i d j : ℕ) → (c ≡ d → ⊥) → ((c == d) && (i == j)) ≡ false
not_first c i d j h = rw (ne_eqb c d h) refl

not_second : (c i d j : ℕ) → (i ≡ j → ⊥) → ((c == d) && (i == j)) ≡ false
not_second c i d j h = by (c == d)
  where
    by : (b : Bool) → (b && (i == j)) ≡ false
    by true = ne_eqb i j h
    by false = refl

-- a slot with another place, and one of another class
passed_args : (which : SlotPart) (c i d j : ℕ) → ((c == d) && (i == j)) ≡ false → same_key (key_of which c i) (initargs d j) ≡ false
passed_args args c i d j h = h
passed_args form c i d j h = refl

passed_form : (which : SlotPart) (c i d j : ℕ) → ((c == d) && (i == j)) ≡ false → same_key (key_of which c i) (initform d j) ≡ false
passed_form args c i d j h = refl
passed_form form c i d j h = h

others_behind : (names : List (List ℕ)) (which : SlotPart) (c i : ℕ) (slots : List SlotRow) (j : ℕ) → i < j → AreOthers (key_of which c i) (slots_of names c slots j)
others_behind names which c i [] j h = tt
others_behind names which c i (s ∷ ss) j h =
    let other : ((c == c) && (i == j)) ≡ false = not_second c i c j (λ e. omega arith) in
    (passed_args which c i c j other, (passed_form which c i c j other, others_behind names which c i ss (j + 1) (omega arith)))

others_apart : (names : List (List ℕ)) (which : SlotPart) (c i d : ℕ) (slots : List SlotRow) (j : ℕ) → (c ≡ d → ⊥) → AreOthers (key_of which c i) (slots_of names d slots j)
others_apart names which c i d [] j h = tt
others_apart names which c i d (s ∷ ss) j h =
    (passed_args which c i d j (not_first c i d j h), (passed_form which c i d j (not_first c i d j h), others_apart names which c i d ss (j + 1) h))

others_later : (names : List (List ℕ)) (which : SlotPart) (c i : ℕ) (classes : List ClassRow) (k : ℕ) → c < k → AreOthers (key_of which c i) (all_slots_of names classes k)
others_later names which c i [] k h = tt
others_later names which c i (d ∷ ds) k h =
    others_append (key_of which c i) (slots_of names k d.slots 0) (all_slots_of names ds (k + 1))
    (others_apart names which c i k d.slots 0 (λ e. omega arith)) (others_later names which c i ds (k + 1) (omega arith))

-- the slots of a class

abbrev rest_from : List (List ℕ) → (c j : ℕ) → SlotRow → List SlotRow → ℕ → ℕ
rest_from names c j s ss n = n + length ((initargs_thing names c (s, j)).objects n) + length (initform_objects s.initform)

slot_found : {V : Type 0} (of : OfSlot V) (r : Reading of) (names : List (List ℕ)) (which : SlotPart) (c : ℕ) (slots : List SlotRow) (j n i : ℕ)
    → under_key (key_of which c (j + i)) (laid_out (slots_of names c slots j) n) n ≡ value_at (r.read which) (in_turn (slot_recipe of names) slots n).1 i
slot_found of r names which c [] j n i = refl
slot_found of r names args c (s ∷ ss) j n zero =
    let next = initform_thing c (s, j) ∷ slots_of names c ss (j + 1) in
    first_thing (initargs c (j + 0)) (initargs_thing names c (s, j)) next n (ap (initargs c) (add-zero j)) (twice c (j + 0) c (j + 0) refl refl) refl
    (refl, others_behind names args c (j + 0) ss (j + 1) (omega arith))
    ∙ list_last names (map (λ a. item no_place (symbol (Named a))) s.initargs) n
    ∙ sym (r.args_are s _ _)
slot_found of r names form c (s ∷ ss) j n zero =
    let next = initform_thing c (s, j) ∷ slots_of names c ss (j + 1) in
    let m = n + length (lay_content names (initargs_list s) n).objects in
    later_thing (initform c (j + 0)) (initargs_thing names c (s, j)) next n refl refl
    ∙ first_thing (initform c (j + 0)) (initform_thing c (s, j)) (slots_of names c ss (j + 1)) m (ap (initform c) (add-zero j)) (twice c (j + 0) c (j + 0) refl refl) refl
    (others_behind names form c (j + 0) ss (j + 1) (omega arith))
    ∙ sym (r.form_are s _ _)
slot_found of r names which c (s ∷ ss) j n (suc i) =
    let next = initform_thing c (s, j) ∷ slots_of names c ss (j + 1) in
    let m = n + length (lay_content names (initargs_list s) n).objects in
    let other : ((c == c) && (j + suc i == j)) ≡ false = not_second c (j + suc i) c j (λ e. omega arith) in
    let same : j + suc i ≡ j + 1 + i = omega arith in
    later_thing (key_of which c (j + suc i)) (initargs_thing names c (s, j)) next n (passed_args which c (j + suc i) c j other) (inner which c (j + suc i))
    ∙ later_thing (key_of which c (j + suc i)) (initform_thing c (s, j)) (slots_of names c ss (j + 1)) m (passed_form which c (j + suc i) c j other) (inner which c (j + suc i))
    ∙ ap (λ k. under_key (key_of which c (j + suc i)) (laid_out (slots_of names c ss (j + 1)) k) k) (slot_count of names c j s n)
    ∙ ap (λ p. under_key (key_of which c p) (laid_out (slots_of names c ss (j + 1)) (n + length (slot_recipe of names s n).0)) (n + length (slot_recipe of names s n).0)) same
    ∙ slot_found of r names which c ss (j + 1) (n + length (slot_recipe of names s n).0) i

-- the slots of all classes
slot_found_in : {V : Type 0} (of : OfSlot V) (r : Reading of) (names : List (List ℕ)) (which : SlotPart) (classes : List ClassRow) (k n c i : ℕ)
    → under_key (key_of which (k + c) i) (laid_out (all_slots_of names classes k) n) n ≡ value_in_class (r.read which) (in_turn (slots_recipe of names) classes n).1 c i
slot_found_in of r names which [] k n c i = refl
slot_found_in of r names which (d ∷ ds) k n zero i =
    let own = slots_of names k d.slots 0 in
    let next = all_slots_of names ds (k + 1) in
    ap (λ ks. under_key (key_of which (k + 0) i) ks n) (laid_append own next n)
    ∙ none_behind (key_of which (k + 0) i) (laid_out own n) (laid_out next (n + length (laid_out own n))) n
    (absent_others (key_of which (k + 0) i) next (n + length (laid_out own n)) (inner which (k + 0) i) (others_later names which (k + 0) i ds (k + 1) (omega arith)))
    ∙ ap (λ c. under_key (key_of which c i) (laid_out own n) n) (add-zero k)
    ∙ ap (λ p. under_key (key_of which k p) (laid_out own n) n) (sym (zero-add i))
    ∙ slot_found of r names which k d.slots 0 n i
slot_found_in of r names which (d ∷ ds) k n (suc c) i =
    let own = slots_of names k d.slots 0 in
    let next = all_slots_of names ds (k + 1) in
    let same : k + suc c ≡ k + 1 + c = omega arith in
    ap (λ ks. under_key (key_of which (k + suc c) i) ks n) (laid_append own next n)
    ∙ passed_over (key_of which (k + suc c) i) (laid_out own n) (laid_out next (n + length (laid_out own n))) n
    (absent_others (key_of which (k + suc c) i) own n (inner which (k + suc c) i) (others_apart names which (k + suc c) i k d.slots 0 (λ e. omega arith)))
    ∙ ap (λ l. under_key (key_of which (k + suc c) i) (laid_out next (n + l)) (n + l)) (as_many own n ∙ ap (λ (os : List Object). length os) (objects_of_slots of names k d.slots 0 n))
    ∙ ap (λ e. under_key (key_of which e i) (laid_out next (n + length (slots_recipe of names d n).0)) (n + length (slots_recipe of names d n).0)) same
    ∙ slot_found_in of r names which ds (k + 1) (n + length (slots_recipe of names d n).0) c i

-- the values of slots are what stands under their keys
pub slot_under : {V : Type 0} (of : OfSlot V) (r : Reading of) (names : List (List ℕ)) (which : SlotPart) (classes : List ClassRow) (n c i : ℕ)
    → under_key (key_of which c i) (laid_out (all_slots_of names classes 0) n) n ≡ value_in_class (r.read which) (in_turn (slots_recipe of names) classes n).1 c i
slot_under of r names which classes n c i =
    ap (λ k. under_key (key_of which k i) (laid_out (all_slots_of names classes 0) n) n) (sym (zero-add c))
    ∙ slot_found_in of r names which classes 0 n c i
