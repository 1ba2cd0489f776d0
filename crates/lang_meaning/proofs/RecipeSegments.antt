-- The objects of the things of each kind are those that are made one after another.
use Rattle.std.proofs.Common.{◌≡◌, ℕ, ◌+◌, List, [], ◌∷◌, ◌++◌, length, map, refl, sym, ◌∙◌, ap, append_assoc, arith}
use Rattle.std.specs.Prelude.{flat_map}
use Rattle.std.proofs.lemmas.List.{length-append, length-map, map-append}
use Rattle.lang_meaning.specs.declared.program.SlotRow.{SlotRow}
use Rattle.lang_meaning.specs.declared.program.ClassRow.{ClassRow}
use Rattle.lang_meaning.specs.declared.program.LiteralRow.{LiteralRow}
use Rattle.lang_meaning.specs.declared.program.LiteralRow.TheVariants as row
use Rattle.lang_meaning.specs.Objects.{Object}
use Rattle.lang_meaning.specs.Lookup.{numbered}
use Rattle.lang_meaning.specs.Literals.{lay_content}
use Rattle.lang_meaning.specs.InitialHeap.{Thing, literal, initargs, initform, keyed, laid_out, literal_objects, initargs_list, initform_objects, slot_things}
use Rattle.lang_meaning.specs.Recipes.{Recipe, in_turn, literal_recipe, OfSlot, slot_recipe, slots_recipe}
use Rattle.lang_meaning.proofs.RecipeKeys.{object_under, keyed_objects, laid_append}

abbrev pub objects_in : List Thing → ℕ → List Object
objects_in ts n = map object_under (laid_out ts n)

pub as_many : (ts : List Thing) (n : ℕ) → length (laid_out ts n) ≡ length (objects_in ts n)
as_many ts n = sym (length-map (laid_out ts n) object_under)

pub objects_first : (t : Thing) (ts : List Thing) (n : ℕ) → objects_in (t ∷ ts) n ≡ t.objects n ++ objects_in ts (n + length (t.objects n))
objects_first t ts n =
    map-append object_under (keyed t.key (t.objects n)) (laid_out ts (n + length (t.objects n)))
    ∙ ap (λ os. os ++ objects_in ts (n + length (t.objects n))) (keyed_objects t.key (t.objects n))

pub objects_append : (ts us : List Thing) (n : ℕ) → objects_in (ts ++ us) n ≡ objects_in ts n ++ objects_in us (n + length (objects_in ts n))
objects_append ts us n =
    ap (map object_under) (laid_append ts us n)
    ∙ map-append object_under (laid_out ts n) (laid_out us (n + length (laid_out ts n)))
    ∙ ap (λ k. objects_in ts n ++ objects_in us (n + k)) (as_many ts n)

-- a thing for each
pub objects_mapped : {X V : Type 0} (f : X → Thing) (r : X → Recipe V) → ((x : X) (n : ℕ) → (f x).objects n ≡ (r x n).0)
    → (xs : List X) (n : ℕ) → objects_in (map f xs) n ≡ (in_turn r xs n).0
objects_mapped f r same [] n = refl
objects_mapped f r same (x ∷ xs) n =
    objects_first (f x) (map f xs) n
    ∙ ap (λ os. os ++ objects_in (map f xs) (n + length os)) (same x n)
    ∙ ap (λ os. (r x n).0 ++ os) (objects_mapped f r same xs (n + length (r x n).0))

-- literals
abbrev pub literal_thing : List (List ℕ) → LiteralRow × ℕ → Thing
literal_thing names r = record { key = literal r.1; objects = literal_objects names r.0 }

pub literal_same : (names : List (List ℕ)) (r : LiteralRow) (n : ℕ) → literal_objects names r n ≡ (literal_recipe names r n).0
literal_same names (row.Datum d) n = refl
literal_same names (row.Class c) n = refl
literal_same names (row.Function name) n = refl

pub objects_of_literals : (names : List (List ℕ)) (rows : List LiteralRow) (k n : ℕ)
    → objects_in (map (literal_thing names) (numbered rows k)) n ≡ (in_turn (literal_recipe names) rows n).0
objects_of_literals names [] k n = refl
objects_of_literals names (r ∷ rs) k n =
    objects_first (literal_thing names (r, k)) (map (literal_thing names) (numbered rs (k + 1))) n
    ∙ ap (λ os. os ++ objects_in (map (literal_thing names) (numbered rs (k + 1))) (n + length os)) (literal_same names r n)
    ∙ ap (λ os. (literal_recipe names r n).0 ++ os) (objects_of_literals names rs (k + 1) (n + length (literal_recipe names r n).0))

-- slots
abbrev pub initargs_thing : List (List ℕ) → (class : ℕ) → SlotRow × ℕ → Thing
initargs_thing names c s = record { key = initargs c s.1; objects = λ n. (lay_content names (initargs_list s.0) n).objects }

abbrev pub initform_thing : (class : ℕ) → SlotRow × ℕ → Thing
initform_thing c s = record { key = initform c s.1; objects = λ n. initform_objects s.0.initform }

abbrev pub slots_of : List (List ℕ) → (class : ℕ) → List SlotRow → ℕ → List Thing
slots_of names c slots j = flat_map (slot_things names c) (numbered slots j)

pub slot_count : {V : Type 0} (of : OfSlot V) (names : List (List ℕ)) (c j : ℕ) (s : SlotRow) (n : ℕ)
    → n + length ((initargs_thing names c (s, j)).objects n) + length (initform_objects s.initform) ≡ n + length (slot_recipe of names s n).0
slot_count of names c j s n = omega (arith, length-append (lay_content names (initargs_list s) n).objects (initform_objects s.initform))

pub objects_of_slots : {V : Type 0} (of : OfSlot V) (names : List (List ℕ)) (c : ℕ) (slots : List SlotRow) (j n : ℕ)
    → objects_in (slots_of names c slots j) n ≡ (in_turn (slot_recipe of names) slots n).0
objects_of_slots of names c [] j n = refl
objects_of_slots of names c (s ∷ ss) j n =
    let args = (lay_content names (initargs_list s) n).objects in
    let form = initform_objects s.initform in
    let others = slots_of names c ss (j + 1) in
    objects_first (initargs_thing names c (s, j)) (initform_thing c (s, j) ∷ others) n
    ∙ ap (λ os. args ++ os)
    (objects_first (initform_thing c (s, j)) others (n + length args)
    ∙ ap (λ k. form ++ objects_in others k) (slot_count of names c j s n)
    ∙ ap (λ os. form ++ os) (objects_of_slots of names c ss (j + 1) (n + length (slot_recipe of names s n).0)))
    ∙ sym (append_assoc args form (in_turn (slot_recipe of names) ss (n + length (slot_recipe of names s n).0)).0)

-- the slots of all classes
abbrev pub slots_of_class : List (List ℕ) → ClassRow × ℕ → List Thing
slots_of_class names c = slots_of names c.1 c.0.slots 0

abbrev pub all_slots_of : List (List ℕ) → List ClassRow → ℕ → List Thing
all_slots_of names classes k = flat_map (slots_of_class names) (numbered classes k)

pub objects_of_classes : {V : Type 0} (of : OfSlot V) (names : List (List ℕ)) (classes : List ClassRow) (k n : ℕ)
    → objects_in (all_slots_of names classes k) n ≡ (in_turn (slots_recipe of names) classes n).0
objects_of_classes of names [] k n = refl
objects_of_classes of names (c ∷ cs) k n =
    objects_append (slots_of names k c.slots 0) (all_slots_of names cs (k + 1)) n
    ∙ ap (λ os. os ++ objects_in (all_slots_of names cs (k + 1)) (n + length os)) (objects_of_slots of names k c.slots 0 n)
    ∙ ap (λ os. (slots_recipe of names c n).0 ++ os) (objects_of_classes of names cs (k + 1) (n + length (slots_recipe of names c n).0))
