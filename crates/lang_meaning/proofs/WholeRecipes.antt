-- All objects together: what was made kind by kind is the meaning's initial heap, and each word is what stands under its key.
use Rattle.std.proofs.Common.{◌≡◌, ℕ, ◌+◌, ◌-◌, ◌<◌, ◌≤◌, List, [], ◌∷◌, ◌++◌, length, refl, sym, ◌∙◌, ap, append_assoc, append-nil, zero-add, false, arith, ⊎_elim}
use Rattle.std.specs.List.{range_with_len}
use Rattle.std.proofs.lemmas.Bool.{cases_lt}
use Rattle.std.proofs.lemmas.List.{length-append}
use Rattle.lang_meaning.specs.declared.program.ProgramRows.{ProgramRows}
use Rattle.lang_meaning.specs.declared.program.FunctionRow.{FunctionRow}
use Rattle.lang_meaning.specs.declared.program.ClassRow.{ClassRow}
use Rattle.lang_meaning.specs.declared.program.LiteralRow.{LiteralRow}
use Rattle.lang_meaning.specs.Values.{Value, object}
use Rattle.lang_meaning.specs.Objects.{Object, class_object, input_stream, output_stream}
use Rattle.lang_meaning.specs.Lookup.{text, numbered}
use Rattle.lang_meaning.specs.InitialHeap.{Key, Thing, part, class, input, output, function_of, literal, initargs, initform, same_key}
use Rattle.lang_meaning.specs.InitialHeap.{single, class_things, function_things, function_object, slot_things, laid_out, under_key}
use Rattle.lang_meaning.specs.Recipes.{Recipe, both, in_turn, class_recipe, classes_recipe, function_recipe, literal_recipe, OfSlot, slots_recipe}
use Rattle.lang_meaning.proofs.RecipeKeys.{AreOthers, others_append, others_mapped, others_flat, absent_others, laid_append, passed_over, none_behind, still_found}
use Rattle.lang_meaning.proofs.RecipeSegments.{objects_in, objects_append, objects_mapped, objects_of_literals, objects_of_classes, as_many, slots_of_class, all_slots_of}
use Rattle.lang_meaning.proofs.LiteralPlaces.{literals_from}
use Rattle.lang_meaning.proofs.RecipesFound.{value_in, value_front, value_back, range_count, range_in, range_found, range_behind}

-- what stands under a key in the middle, where all before and behind have other keys
pub middle : (key : Key) (before here behind : List Thing) (n : ℕ) → same_key key part ≡ false → AreOthers key before → AreOthers key behind
    → under_key key (laid_out (before ++ here ++ behind) n) n
    ≡ under_key key (laid_out here (n + length (objects_in before n))) (n + length (objects_in before n))
middle key before here behind n inner h k =
    let m = n + length (laid_out before n) in
    ap (λ ks. under_key key ks n) (laid_append (before ++ here) behind n)
    ∙ none_behind key (laid_out (before ++ here) n) (laid_out behind (n + length (laid_out (before ++ here) n))) n (absent_others key behind (n + length (laid_out (before ++ here) n)) inner k)
    ∙ ap (λ ks. under_key key ks n) (laid_append before here n)
    ∙ passed_over key (laid_out before n) (laid_out here m) n (absent_others key before n inner h)
    ∙ ap (λ l. under_key key (laid_out here (n + l)) (n + l)) (as_many before n)

-- the objects of two lists of things
pub objects_both : {U V : Type 0} (r : Recipe U) (s : Recipe V) (ts us : List Thing)
    → ((n : ℕ) → objects_in ts n ≡ (r n).0) → ((n : ℕ) → objects_in us n ≡ (s n).0) → (n : ℕ) → objects_in (ts ++ us) n ≡ (both r s n).0
objects_both r s ts us h k n =
    objects_append ts us n
    ∙ ap (λ os. os ++ objects_in us (n + length os)) (h n)
    ∙ ap (λ os. (r n).0 ++ os) (k (n + length (r n).0))

-- the classes and the streams

abbrev pub built_in_things : ℕ → List Thing
built_in_things built_in = class_things (range_with_len 0 built_in)

abbrev pub stream_things : List Thing
stream_things = single input input_stream ∷ single output output_stream ∷ []

abbrev pub other_things : (built_in classes : ℕ) → List Thing
other_things built_in classes = class_things (range_with_len built_in (classes - built_in))

abbrev pub first_things : (built_in classes : ℕ) → List Thing
first_things built_in classes = built_in_things built_in ++ stream_things ++ other_things built_in classes

pub objects_of_range : (a len n : ℕ) → objects_in (class_things (range_with_len a len)) n ≡ (in_turn class_recipe (range_with_len a len) n).0
objects_of_range a len n = objects_mapped (λ c. single (class c) (class_object c)) class_recipe (λ c m. refl) (range_with_len a len) n

streams_count : (built_in n : ℕ) → n + length (objects_in (built_in_things built_in ++ stream_things) n) ≡ n + length (in_turn class_recipe (range_with_len 0 built_in) n).0 + 2
streams_count built_in n =
    let first = (in_turn class_recipe (range_with_len 0 built_in) n).0 in
    let same : objects_in (built_in_things built_in ++ stream_things) n ≡ first ++ input_stream ∷ output_stream ∷ [] =
    objects_append (built_in_things built_in) stream_things n ∙ ap (λ os. os ++ input_stream ∷ output_stream ∷ []) (objects_of_range 0 built_in n) in
    omega (arith, ap (λ (os : List Object). length os) same, length-append first (input_stream ∷ output_stream ∷ []))

pub objects_first_kind : (built_in classes n : ℕ) → objects_in (first_things built_in classes) n ≡ (classes_recipe built_in classes n).0
objects_first_kind built_in classes n =
    let first = (in_turn class_recipe (range_with_len 0 built_in) n).0 in
    let others = in_turn class_recipe (range_with_len built_in (classes - built_in)) in
    objects_append (built_in_things built_in ++ stream_things) (other_things built_in classes) n
    ∙ ap (λ k. objects_in (built_in_things built_in ++ stream_things) n ++ objects_in (other_things built_in classes) k) (streams_count built_in n)
    ∙ ap (λ os. objects_in (built_in_things built_in ++ stream_things) n ++ os) (objects_of_range built_in (classes - built_in) (n + length first + 2))
    ∙ ap (λ os. os ++ (others (n + length first + 2)).0)
    (objects_append (built_in_things built_in) stream_things n ∙ ap (λ os. os ++ input_stream ∷ output_stream ∷ []) (objects_of_range 0 built_in n))
    ∙ append_assoc first (input_stream ∷ output_stream ∷ []) (others (n + length first + 2)).0

-- all things

abbrev pub all_things : List (List ℕ) → (built_in : ℕ) → ProgramRows → List Thing
all_things names built_in rows =
    first_things built_in (length rows.classes) ++ function_things names rows.functions ++ literals_from names rows.literals 0 ++ all_slots_of names rows.classes 0

abbrev pub with_functions : (built_in : ℕ) → ProgramRows → Recipe ((List Value × Value × Value) × List Value)
with_functions built_in rows = both (classes_recipe built_in (length rows.classes)) (in_turn function_recipe rows.functions)

abbrev pub with_literals : List (List ℕ) → (built_in : ℕ) → ProgramRows → Recipe (((List Value × Value × Value) × List Value) × List Value)
with_literals names built_in rows = both (with_functions built_in rows) (in_turn (literal_recipe names) rows.literals)

abbrev pub all_recipe : {V : Type 0} → OfSlot V → List (List ℕ) → (built_in : ℕ) → ProgramRows
    → Recipe ((((List Value × Value × Value) × List Value) × List Value) × List (List V))
all_recipe of names built_in rows = both (with_literals names built_in rows) (in_turn (slots_recipe of names) rows.classes)

objects_with_functions : (names : List (List ℕ)) (built_in : ℕ) (rows : ProgramRows) (n : ℕ)
    → objects_in (first_things built_in (length rows.classes) ++ function_things names rows.functions) n ≡ (with_functions built_in rows n).0
objects_with_functions names built_in rows n =
    objects_both (classes_recipe built_in (length rows.classes)) (in_turn function_recipe rows.functions) (first_things built_in (length rows.classes)) (function_things names rows.functions)
    (objects_first_kind built_in (length rows.classes))
    (objects_mapped (λ (f : FunctionRow). single (function_of (text names f.name.0)) (function_object f.callee)) function_recipe (λ f m. refl) rows.functions) n

objects_with_literals : (names : List (List ℕ)) (built_in : ℕ) (rows : ProgramRows) (n : ℕ)
    → objects_in (first_things built_in (length rows.classes) ++ function_things names rows.functions ++ literals_from names rows.literals 0) n ≡ (with_literals names built_in rows n).0
objects_with_literals names built_in rows n =
    objects_both (with_functions built_in rows) (in_turn (literal_recipe names) rows.literals) (first_things built_in (length rows.classes) ++ function_things names rows.functions)
    (literals_from names rows.literals 0)
    (objects_with_functions names built_in rows) (objects_of_literals names rows.literals 0) n

pub all_objects : {V : Type 0} (of : OfSlot V) (names : List (List ℕ)) (built_in : ℕ) (rows : ProgramRows) (n : ℕ)
    → objects_in (all_things names built_in rows) n ≡ (all_recipe of names built_in rows n).0
all_objects of names built_in rows n =
    objects_both (with_literals names built_in rows) (in_turn (slots_recipe of names) rows.classes)
    (first_things built_in (length rows.classes) ++ function_things names rows.functions ++ literals_from names rows.literals 0) (all_slots_of names rows.classes 0)
    (objects_with_literals names built_in rows) (objects_of_classes of names rows.classes 0) n

-- kinds of keys

others_first : (key : Key) (built_in classes : ℕ) → ((c : ℕ) → same_key key (class c) ≡ false) → same_key key input ≡ false → same_key key output ≡ false
    → AreOthers key (first_things built_in classes)
others_first key built_in classes h i o =
    others_append key (built_in_things built_in ++ stream_things) (other_things built_in classes)
    (others_append key (built_in_things built_in) stream_things (others_mapped key _ (range_with_len 0 built_in) h) (i, (o, tt)))
    (others_mapped key _ (range_with_len built_in (classes - built_in)) h)

others_functions : (key : Key) (names : List (List ℕ)) (fs : List FunctionRow) → ((name : List ℕ) → same_key key (function_of name) ≡ false) → AreOthers key (function_things names fs)
others_functions key names fs h = others_mapped key _ fs (λ f. h (text names f.name.0))

others_literals : (key : Key) (names : List (List ℕ)) (rows : List LiteralRow) → ((i : ℕ) → same_key key (literal i) ≡ false) → AreOthers key (literals_from names rows 0)
others_literals key names rows h = others_mapped key _ (numbered rows 0) (λ r. h r.1)

others_slots : (key : Key) (names : List (List ℕ)) (classes : List ClassRow) → ((c i : ℕ) → same_key key (initargs c i) ≡ false) → ((c i : ℕ) → same_key key (initform c i) ≡ false)
    → AreOthers key (all_slots_of names classes 0)
others_slots key names classes h k =
    others_flat key (slots_of_class names) (numbered classes 0) (λ c. others_flat key (slot_things names c.1) (numbered c.0.slots 0) (λ s. (h c.1 s.1, (k c.1 s.1, tt))))

-- what stands for each kind

module _ (names : List (List ℕ)) (built_in : ℕ) (rows : ProgramRows) where
  abbrev found : Key → Value
  found key = under_key key (laid_out (all_things names built_in rows) 0) 0

  abbrev firsts : List Thing
  firsts = first_things built_in (length rows.classes)

  abbrev others : List Thing
  others = other_things built_in (length rows.classes)

  abbrev functions : List Thing
  functions = function_things names rows.functions

  abbrev literals : List Thing
  literals = literals_from names rows.literals 0

  abbrev slots : List Thing
  slots = all_slots_of names rows.classes 0

  abbrev pub at_functions : ℕ
  at_functions = 0 + length (classes_recipe built_in (length rows.classes) 0).0

  abbrev pub at_literals : ℕ
  at_literals = 0 + length (with_functions built_in rows 0).0

  abbrev pub at_slots : ℕ
  at_slots = 0 + length (with_literals names built_in rows 0).0

  pub function_whole : (name : List ℕ) → under_key (function_of name) (laid_out functions at_functions) at_functions ≡ found (function_of name)
  function_whole name =
      sym
      (ap (λ ts. under_key (function_of name) (laid_out ts 0) 0) (append_assoc (firsts ++ functions) literals slots)
      ∙ middle (function_of name) firsts functions (literals ++ slots) 0 refl
      (others_first (function_of name) built_in (length rows.classes) (λ c. refl) refl refl)
      (others_append (function_of name) literals slots (others_literals (function_of name) names rows.literals (λ i. refl))
      (others_slots (function_of name) names rows.classes (λ c i. refl) (λ c i. refl)))
      ∙ ap (λ (os : List Object). under_key (function_of name) (laid_out functions (0 + length os)) (0 + length os)) (objects_first_kind built_in (length rows.classes) 0))

  pub literal_whole : (i : ℕ) → found (literal i) ≡ under_key (literal i) (laid_out literals at_literals) at_literals
  literal_whole i =
      middle (literal i) (firsts ++ functions) literals slots 0 refl
      (others_append (literal i) firsts functions (others_first (literal i) built_in (length rows.classes) (λ c. refl) refl refl) (others_functions (literal i) names rows.functions (λ name. refl)))
      (others_slots (literal i) names rows.classes (λ c j. refl) (λ c j. refl))
      ∙ ap (λ (os : List Object). under_key (literal i) (laid_out literals (0 + length os)) (0 + length os)) (objects_with_functions names built_in rows 0)

  slot_whole : (key : Key) → same_key key part ≡ false → ((c : ℕ) → same_key key (class c) ≡ false) → same_key key input ≡ false → same_key key output ≡ false
      → ((name : List ℕ) → same_key key (function_of name) ≡ false) → ((i : ℕ) → same_key key (literal i) ≡ false)
      → under_key key (laid_out slots at_slots) at_slots ≡ found key
  slot_whole key inner c i o f l =
      sym
      (ap (λ ts. under_key key (laid_out ts 0) 0) (sym (append-nil (firsts ++ functions ++ literals ++ slots)))
      ∙ middle key (firsts ++ functions ++ literals) slots [] 0 inner
      (others_append key (firsts ++ functions) literals
      (others_append key firsts functions (others_first key built_in (length rows.classes) c i o) (others_functions key names rows.functions f))
      (others_literals key names rows.literals l))
      tt
      ∙ ap (λ (os : List Object). under_key key (laid_out slots (0 + length os)) (0 + length os)) (objects_with_literals names built_in rows 0))

  pub initargs_whole : (c i : ℕ) → under_key (initargs c i) (laid_out slots at_slots) at_slots ≡ found (initargs c i)
  initargs_whole c i = slot_whole (initargs c i) refl (λ d. refl) refl refl (λ name. refl) (λ j. refl)

  pub initform_whole : (c i : ℕ) → under_key (initform c i) (laid_out slots at_slots) at_slots ≡ found (initform c i)
  initform_whole c i = slot_whole (initform c i) refl (λ d. refl) refl refl (λ name. refl) (λ j. refl)

  -- the streams

  abbrev at_streams : ℕ
  at_streams = 0 + length (in_turn class_recipe (range_with_len 0 built_in) 0).0

  behind_streams : (key : Key) → ((c : ℕ) → same_key key (class c) ≡ false) → ((name : List ℕ) → same_key key (function_of name) ≡ false) → ((i : ℕ) → same_key key (literal i) ≡ false)
      → ((c i : ℕ) → same_key key (initargs c i) ≡ false) → ((c i : ℕ) → same_key key (initform c i) ≡ false)
      → AreOthers key (others ++ (functions ++ (literals ++ slots)))
  behind_streams key c f l a b =
      others_append key others (functions ++ (literals ++ slots)) (others_mapped key _ (range_with_len built_in (length rows.classes - built_in)) c)
      (others_append key functions (literals ++ slots) (others_functions key names rows.functions f)
      (others_append key literals slots (others_literals key names rows.literals l) (others_slots key names rows.classes a b)))

  apart : all_things names built_in rows ≡ built_in_things built_in ++ stream_things ++ (others ++ (functions ++ (literals ++ slots)))
  apart =
      append_assoc (firsts ++ functions) literals slots
      ∙ append_assoc firsts functions (literals ++ slots)
      ∙ append_assoc (built_in_things built_in ++ stream_things) others (functions ++ (literals ++ slots))

  stream_whole : (key : Key) → same_key key part ≡ false → ((c : ℕ) → same_key key (class c) ≡ false) → ((name : List ℕ) → same_key key (function_of name) ≡ false) →
      ((i : ℕ) → same_key key (literal i) ≡ false)
      → ((c i : ℕ) → same_key key (initargs c i) ≡ false) → ((c i : ℕ) → same_key key (initform c i) ≡ false)
      → found key ≡ under_key key (laid_out stream_things at_streams) at_streams
  stream_whole key inner c f l a b =
      ap (λ ts. under_key key (laid_out ts 0) 0) apart
      ∙ middle key (built_in_things built_in) stream_things (others ++ (functions ++ (literals ++ slots))) 0 inner (others_mapped key _ (range_with_len 0 built_in) c) (behind_streams key c f l a b)
      ∙ ap (λ (os : List Object). under_key key (laid_out stream_things (0 + length os)) (0 + length os)) (objects_of_range 0 built_in 0)

  pub input_whole : object at_streams ≡ found input
  input_whole = sym (stream_whole input refl (λ c. refl) (λ name. refl) (λ i. refl) (λ c i. refl) (λ c i. refl))

  pub output_whole : object (at_streams + 1) ≡ found output
  output_whole = sym (stream_whole output refl (λ c. refl) (λ name. refl) (λ i. refl) (λ c i. refl) (λ c i. refl))

  -- the classes

  built_in_whole : (c : ℕ) → c < built_in → value_in (in_turn class_recipe (range_with_len 0 built_in) 0).1 c ≡ found (class c)
  built_in_whole c h =
      let rest = stream_things ++ (others ++ (functions ++ (literals ++ slots))) in
      let own = laid_out (built_in_things built_in) 0 in
      let here : under_key (class c) own 0 ≡ object (0 + c) =
      ap (λ d. under_key (class d) own 0) (sym (zero-add c)) ∙ range_found 0 built_in c 0 ∙ range_in 0 built_in c 0 h in
      range_in 0 built_in c 0 h
      ∙ sym
      (ap (λ ts. under_key (class c) (laid_out ts 0) 0) (apart ∙ append_assoc (built_in_things built_in) stream_things (others ++ (functions ++ (literals ++ slots))))
      ∙ ap (λ ks. under_key (class c) ks 0) (laid_append (built_in_things built_in) rest 0)
      ∙ still_found (class c) own (laid_out rest (0 + length own)) 0 (0 + c) here)

  other_whole : (i : ℕ) → value_in (in_turn class_recipe (range_with_len built_in (length rows.classes - built_in)) (at_streams + 2)).1 i ≡ found (class (built_in + i))
  other_whole i =
      sym
      (ap (λ ts. under_key (class (built_in + i)) (laid_out ts 0) 0) (append_assoc (firsts ++ functions) literals slots ∙ append_assoc firsts functions (literals ++ slots))
      ∙ middle (class (built_in + i)) (built_in_things built_in ++ stream_things) others (functions ++ (literals ++ slots)) 0 refl
      (others_append (class (built_in + i)) (built_in_things built_in) stream_things (range_behind (built_in + i) 0 built_in (omega arith)) (refl, (refl, tt)))
      (others_append (class (built_in + i)) functions (literals ++ slots) (others_functions (class (built_in + i)) names rows.functions (λ name. refl))
      (others_append (class (built_in + i)) literals slots (others_literals (class (built_in + i)) names rows.literals (λ j. refl))
      (others_slots (class (built_in + i)) names rows.classes (λ c j. refl) (λ c j. refl))))
      ∙ ap (λ k. under_key (class (built_in + i)) (laid_out others k) k) (streams_count built_in 0)
      ∙ range_found built_in (length rows.classes - built_in) i (at_streams + 2))

  pub class_whole : (c : ℕ) → value_in (classes_recipe built_in (length rows.classes) 0).1.0 c ≡ found (class c)
  class_whole c =
      let first = (in_turn class_recipe (range_with_len 0 built_in) 0).1 in
      let next = (in_turn class_recipe (range_with_len built_in (length rows.classes - built_in)) (at_streams + 2)).1 in
      let many : length first ≡ built_in = range_count 0 built_in 0 in
      ⊎_elim
      (λ (h : c < built_in). value_front first next c (rw many h) ∙ built_in_whole c h)
      (λ (h : built_in ≤ c).
      let same : length first + (c - built_in) ≡ c = omega (arith, many) in
      let there : built_in + (c - built_in) ≡ c = omega arith in
      ap (value_in (first ++ next)) (sym same)
      ∙ value_back first next (c - built_in)
      ∙ other_whole (c - built_in)
      ∙ ap (λ d. found (class d)) there)
      (cases_lt c built_in)
