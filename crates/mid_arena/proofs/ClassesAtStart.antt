-- Before the first form the class objects are there: the value of each class is its class object, and no other object is.
use Rattle.std.proofs.Common.{◌≡◌, ℕ, zero, suc, ◌+◌, ◌-◌, ◌<◌, ◌≤◌, Bool, true, false, List, [], ◌∷◌, ◌++◌, length, map, Option, Some, None, refl, sym, ap, subst, ◌∙◌, arith}
use Rattle.std.specs.Prelude.{nat_lt, slice_get, flat_map, if◌then◌else◌}
use Rattle.std.specs.List.{range_with_len}
use Rattle.std.proofs.lemmas.Bool.Decides.{nat_tests}
use Rattle.std.proofs.lemmas.List.{append_assoc}
use Rattle.base.specs.Data as datum
use Rattle.base.specs.AllOf.{AllOf}
use Rattle.lang_meaning.specs.declared.program.ProgramRows.{ProgramRows}
use Rattle.lang_meaning.specs.declared.program.SlotRow.{SlotRow}
use Rattle.lang_meaning.specs.declared.program.ClassRow.{ClassRow}
use Rattle.lang_meaning.specs.declared.program.FunctionRow.{FunctionRow}
use Rattle.lang_meaning.specs.declared.program.Callee.{Callee}
use Rattle.lang_meaning.specs.declared.program.Callee.TheVariants as callee
use Rattle.lang_meaning.specs.declared.program.LiteralRow.{LiteralRow}
use Rattle.lang_meaning.specs.declared.program.LiteralRow.TheVariants as row
use Rattle.lang_meaning.specs.Lookup.{text, numbered}
use Rattle.lang_meaning.specs.Literals.{Laid, lay, lay_content, lay_items, lay_list, lay_tail}
use Rattle.lang_meaning.specs.InitialHeap.{Key, class, input, output, function_of, literal, same_key, Keyed, Thing, single, keyed, laid_out, layout, things}
use Rattle.lang_meaning.specs.InitialHeap.{class_things, function_object, function_things, literal_objects, literal_things}
use Rattle.lang_meaning.specs.InitialHeap.{initargs_list, initform_objects, slot_things, objects_at_start, under_key, class_value}
use Rattle.lang_meaning.specs.Values.{Value, object}
use Rattle.lang_meaning.specs.Objects.{Object, instance, class_object, input_stream, output_stream, built_in_classes}
use Rattle.lang_meaning.specs.State.{first_state}
use Rattle.lang_meaning.specs.Classes.{fetch}
use Rattle.mid_arena.specs.ClassesThere.{ClassesThere}

-- an object that is no class and no instance
record Ordinary (o : Object) : Type 0 where
  no_class : (c : ℕ) → o ≡ class_object c → ⊥
  no_instance : (c : ℕ) (values : List (Option Value)) (mark : Value) → o ≡ instance c values mark → ⊥

both : {X : Type 0} (P : X → Type 0) (xs ys : List X) → AllOf P xs → AllOf P ys → AllOf P (xs ++ ys)
both P [] ys e f = f
both P (x ∷ xs) ys e f = (e.0, both P xs ys e.1 f)

mapped : {X Y : Type 0} (P : Y → Type 0) (g : X → Y) → ((x : X) → P (g x)) → (xs : List X) → AllOf P (map g xs)
mapped P g h [] = tt
mapped P g h (x ∷ xs) = (h x, mapped P g h xs)

flat_mapped : {X Y : Type 0} (P : Y → Type 0) (g : X → List Y) → ((x : X) → AllOf P (g x)) → (xs : List X) → AllOf P (flat_map g xs)
flat_mapped P g h [] = tt
flat_mapped P g h (x ∷ xs) = both P (g x) (flat_map g xs) (h x) (flat_mapped P g h xs)

one_more : (os : List Object) (o : Object) → AllOf Ordinary os → Ordinary o → AllOf Ordinary (os ++ o ∷ [])
one_more os o e h = both Ordinary os (o ∷ []) e (h, tt)

-- ---- what data make

mutual
  laid : (names : List (List ℕ)) (d : datum.Item) (n : ℕ) → AllOf Ordinary (lay names d n).objects
  laid names (datum.item p c) n = content_laid names c n

  content_laid : (names : List (List ℕ)) (c : datum.Content) (n : ℕ) → AllOf Ordinary (lay_content names c n).objects
  content_laid names (datum.string bytes) n = (record { no_class = λ c e. cc e; no_instance = λ c vs m e. cc e }, tt)
  content_laid names (datum.vector ds) n =
      one_more (lay_items names ds n).0 _ (items_laid names ds n) (record { no_class = λ c e. cc e; no_instance = λ c vs m e. cc e })
  content_laid names (datum.list ds end) n = list_laid names ds (lay_tail names end) (λ m. tail_laid names end m) n
  content_laid names w n = tt

  items_laid : (names : List (List ℕ)) (ds : datum.Items) (n : ℕ) → AllOf Ordinary (lay_items names ds n).0
  items_laid names datum.no_item n = tt
  items_laid names (datum.item_and d ds) n =
      both Ordinary (lay names d n).objects _ (laid names d n) (items_laid names ds (n + length (lay names d n).objects))

  list_laid : (names : List (List ℕ)) (ds : datum.Items) (end : ℕ → Laid) → ((m : ℕ) → AllOf Ordinary (end m).objects) → (n : ℕ)
      → AllOf Ordinary (lay_list names ds end n).objects
  list_laid names datum.no_item end e n = e n
  list_laid names (datum.item_and d ds) end e n =
      one_more ((lay names d n).objects ++ (lay_list names ds end (n + length (lay names d n).objects)).objects) _
      (both Ordinary (lay names d n).objects _ (laid names d n) (list_laid names ds end e (n + length (lay names d n).objects)))
      (record { no_class = λ c e. cc e; no_instance = λ c vs m e. cc e })

  tail_laid : (names : List (List ℕ)) (t : datum.Tail) (n : ℕ) → AllOf Ordinary (lay_tail names t n).objects
  tail_laid names datum.no_tail n = tt
  tail_laid names (datum.dotted d) n = laid names d n

-- ---- where what stands

-- the number of a class object: the two streams stand behind the classes that are built in
abbrev place : ℕ → ℕ
place c = if nat_lt c built_in_classes then c else c + 2

-- what stands at a number: a class object under its key, or another object
data Entry (k : Keyed) (i : ℕ) : Type 0 where
  a_class : (c : ℕ) → k.key ≡ class c → k.object ≡ class_object c → i ≡ place c → Entry k i
  another : ((c : ℕ) → k.key ≡ class c → ⊥) → Ordinary k.object → Entry k i

abbrev Entries : List Keyed → ℕ → Type 0
Entries [] n = Unit {0}
Entries (k ∷ ks) n = Entry k n × Entries ks (n + 1)

entries_both : (ks ls : List Keyed) (n : ℕ) → Entries ks n → Entries ls (n + length ks) → Entries (ks ++ ls) n
entries_both [] ls n e f = let same : n + 0 ≡ n = omega arith in rw same at f
entries_both (k ∷ ks) ls n e f =
    let same : n + length (k ∷ ks) ≡ n + 1 + length ks = omega arith in
    (e.0, entries_both ks ls (n + 1) e.1 (rw same at f))

entry_at : (ks : List Keyed) (n i : ℕ) (k : Keyed) → Entries ks n → slice_get ks i ≡ Some k → Entry k (n + i)
entry_at [] n i k e found = absurd (cc found)
entry_at (l ∷ ks) n zero k e found =
    let same : l ≡ k = cc found in
    let here : n + 0 ≡ n = omega arith in
    rw (here, ← same) e.0
entry_at (l ∷ ks) n (suc i) k e found =
    let same : n + suc i ≡ n + 1 + i = omega arith in
    rw same (entry_at ks (n + 1) i k e.1 found)

-- a thing that is no class
record Plainly (t : Thing) : Type 0 where
  no_class : (c : ℕ) → t.key ≡ class c → ⊥
  objects : (n : ℕ) → AllOf Ordinary (t.objects n)

keyed_entries : (key : Key) (os : List Object) (n : ℕ) → ((c : ℕ) → key ≡ class c → ⊥) → AllOf Ordinary os → Entries (keyed key os) n
keyed_entries key [] n h e = tt
keyed_entries key (o ∷ []) n h e = (another h e.0, tt)
keyed_entries key (o ∷ p ∷ os) n h e = (another (λ c f. cc f) e.0, keyed_entries key (p ∷ os) (n + 1) h e.1)

keyed_length : (key : Key) (os : List Object) → length (keyed key os) ≡ length os
keyed_length key [] = refl
keyed_length key (o ∷ []) = refl
keyed_length key (o ∷ p ∷ os) = ap (λ n. suc n) (keyed_length key (p ∷ os))

plain_entries : (ts : List Thing) → AllOf Plainly ts → (n : ℕ) → Entries (laid_out ts n) n
plain_entries [] e n = tt
plain_entries (t ∷ ts) e n =
    entries_both (keyed t.key (t.objects n)) _ n (keyed_entries t.key (t.objects n) n e.0.no_class (e.0.objects n))
    (rw (keyed_length t.key (t.objects n)) (plain_entries ts e.1 (n + length (t.objects n))))

-- classes, each at its place
class_entries :
    (m a n : ℕ) (ts : List Thing) → ((i : ℕ) → i < m → n + i ≡ place (a + i)) → Entries (laid_out ts (n + m)) (n + m)
    → Entries (laid_out (class_things (range_with_len a m) ++ ts) n) n
class_entries zero a n ts at e = let same : n + 0 ≡ n = omega arith in rw same at e
class_entries (suc m) a n ts at e =
    let same : n + suc m ≡ n + 1 + m = omega arith in (
      a_class a refl refl (moved 0 (omega arith) n a (omega arith) (omega arith)),
      class_entries m (a + 1) (n + 1) ts (λ i h. moved (suc i) (omega arith) (n + 1 + i) (a + 1 + i) (omega arith) (omega arith)) (rw same at e),
    )
  where
    moved : (i : ℕ) → i < suc m → (to c : ℕ) → to ≡ n + i → a + i ≡ c → to ≡ place c
    moved i h to c first second = first ∙ at i h ∙ ap place second

-- ---- all of them

callee_ordinary : (c : Callee) → Ordinary (function_object c)
callee_ordinary (callee.Procedure p) = record { no_class = λ c e. cc e; no_instance = λ c vs m e. cc e }
callee_ordinary (callee.Generic g) = record { no_class = λ c e. cc e; no_instance = λ c vs m e. cc e }

literal_ordinary : (names : List (List ℕ)) (r : LiteralRow) (n : ℕ) → AllOf Ordinary (literal_objects names r n)
literal_ordinary names (row.Datum d) n = laid names d n
literal_ordinary names (row.Class c) n = tt
literal_ordinary names (row.Function name) n = tt

initform_ordinary : (o : Option ℕ) → AllOf Ordinary (initform_objects o)
initform_ordinary (Some p) = (record { no_class = λ c e. cc e; no_instance = λ c vs m e. cc e }, tt)
initform_ordinary None = tt

slot_plainly : (names : List (List ℕ)) (c : ℕ) (s : SlotRow × ℕ) → AllOf Plainly (slot_things names c s)
slot_plainly names c s = (
  record { no_class = λ d e. cc e; objects = λ n. content_laid names (initargs_list s.0) n },
  (record { no_class = λ d e. cc e; objects = λ n. initform_ordinary s.0.initform }, tt),
)

module _ (names : List (List ℕ)) (program : ProgramRows) where
  abbrev first_classes : List Thing
  first_classes = class_things (range_with_len 0 built_in_classes)

  abbrev streams : List Thing
  streams = single input input_stream ∷ single output output_stream ∷ []

  abbrev other_classes : List Thing
  other_classes = class_things (range_with_len built_in_classes (length program.classes - built_in_classes))

  abbrev slots_of_classes : List Thing
  slots_of_classes = flat_map (λ (c : ClassRow × ℕ). flat_map (slot_things names c.1) (numbered c.0.slots 0)) (numbered program.classes 0)

  -- what is behind the classes
  abbrev behind_classes : List Thing
  behind_classes = function_things names program.functions ++ (literal_things names program.literals ++ slots_of_classes)

  behind_plainly : AllOf Plainly behind_classes
  behind_plainly =
      both Plainly (function_things names program.functions) (literal_things names program.literals ++ slots_of_classes)
      (mapped Plainly (λ (f : FunctionRow). single (function_of (text names f.name.0)) (function_object f.callee))
      (λ f. record { no_class = λ c e. cc e; objects = λ n. (callee_ordinary f.callee, tt) }) program.functions)
      (both Plainly (literal_things names program.literals) slots_of_classes
      (mapped Plainly (λ (r : LiteralRow × ℕ). record { key = literal r.1; objects = literal_objects names r.0 })
      (λ r. record { no_class = λ c e. cc e; objects = λ n. literal_ordinary names r.0 n }) (numbered program.literals 0))
      (flat_mapped Plainly (λ (c : ClassRow × ℕ). flat_map (slot_things names c.1) (numbered c.0.slots 0))
      (λ c. flat_mapped Plainly (slot_things names c.1) (λ s. slot_plainly names c.1 s) (numbered c.0.slots 0)) (numbered program.classes 0)))

  abbrev all_in_order : List Thing
  all_in_order = first_classes ++ (streams ++ (other_classes ++ behind_classes))

  in_order : things names program ≡ all_in_order
  in_order =
      append_assoc (first_classes ++ streams ++ other_classes ++ function_things names program.functions) (literal_things names program.literals) slots_of_classes
      ∙ append_assoc (first_classes ++ streams ++ other_classes) (function_things names program.functions) (literal_things names program.literals ++ slots_of_classes)
      ∙ append_assoc (first_classes ++ streams) other_classes behind_classes
      ∙ append_assoc first_classes streams (other_classes ++ behind_classes)

  high_place : (i : ℕ) → built_in_classes ≤ i → place i ≡ i + 2
  high_place i h = let not_low : nat_lt i built_in_classes ≡ false = grind (arith, nat_tests) in rw not_low refl

  low_place : (i : ℕ) → i < built_in_classes → place i ≡ i
  low_place i h = let low : nat_lt i built_in_classes ≡ true = grind (arith, nat_tests) in rw low refl

  all_entries : Entries (layout names program) 0
  all_entries =
      subst (λ ts. Entries (laid_out ts 0) 0) (sym in_order)
      (class_entries built_in_classes 0 0 (streams ++ (other_classes ++ behind_classes)) (λ i h. omega (arith, low_place (0 + i) (omega arith))) (
        another (λ c e. cc e) (record { no_class = λ c e. cc e; no_instance = λ c vs m e. cc e }),
        (
          another (λ c e. cc e) (record { no_class = λ c e. cc e; no_instance = λ c vs m e. cc e }),
          class_entries (length program.classes - built_in_classes) built_in_classes 36 behind_classes
              (λ i h. omega (arith, high_place (built_in_classes + i) (omega arith)))
              (plain_entries behind_classes behind_plainly _),
        ),
      ))

-- ---- a class is found

class_in_front :
    (m a n i c : ℕ) (ts : List Thing) → i < m → a + i ≡ c
    → slice_get (laid_out (class_things (range_with_len a m) ++ ts) n) i ≡ Some (record { key = class c; object = class_object c })
class_in_front zero a n i c ts h e = absurd (omega arith)
class_in_front (suc m) a n zero c ts h e =
    let same : a ≡ c = omega arith in
    rw same refl
class_in_front (suc m) a n (suc i) c ts h e = class_in_front m (a + 1) (n + 1) i c ts (omega arith) (omega arith)

class_behind :
    (m a n i : ℕ) (ts : List Thing) → slice_get (laid_out (class_things (range_with_len a m) ++ ts) n) (m + i) ≡ slice_get (laid_out ts (n + m)) i
class_behind zero a n i ts =
    let none : n + 0 ≡ n = omega arith in
    let here : 0 + i ≡ i = omega arith in
    rw (none, here) refl
class_behind (suc m) a n i ts =
    let further : suc m + i ≡ suc (m + i) = omega arith in
    let last : n + suc m ≡ n + 1 + m = omega arith in
    rw (further, last) (class_behind m (a + 1) (n + 1) i ts)

class_there :
    (names : List (List ℕ)) (program : ProgramRows) (c : ℕ) → c < length program.classes
    → (i : ℕ) × (slice_get (layout names program) i ≡ Some (record { key = class c; object = class_object c }))
class_there names program c high = by (nat_lt c built_in_classes) refl
  where
    rest : List Thing
    rest = streams names program ++ (other_classes names program ++ behind_classes names program)

    moved :
        (i : ℕ) → slice_get (laid_out (all_in_order names program) 0) i ≡ Some (record { key = class c; object = class_object c })
        → (i : ℕ) × (slice_get (layout names program) i ≡ Some (record { key = class c; object = class_object c }))
    moved i e =
        (i, subst (λ ts. slice_get (laid_out ts 0) i ≡ Some (record { key = class c; object = class_object c })) (sym (in_order names program)) e)

    by : (b : Bool) → nat_lt c built_in_classes ≡ b → (i : ℕ) × (slice_get (layout names program) i ≡ Some (record { key = class c; object = class_object c }))
    by true e = moved c (class_in_front built_in_classes 0 0 c c rest (grind (arith, nat_tests)) (omega arith))
    by false e =
        let low : built_in_classes ≤ c = grind (arith, nat_tests) in
        moved (built_in_classes + suc (suc (c - built_in_classes)))
        (class_behind built_in_classes 0 0 (suc (suc (c - built_in_classes))) rest
        ∙ class_in_front (length program.classes - built_in_classes) built_in_classes 36 (c - built_in_classes) c (behind_classes names program) (omega arith) (omega arith))

-- the first object under a key
record FirstUnder (key : Key) (ks : List Keyed) (n : ℕ) : Type 0 where
  at : ℕ
  one : Keyed
  found : slice_get ks at ≡ Some one
  under : same_key key one.key ≡ true
  value : under_key key ks n ≡ object (n + at)

first_under : (key : Key) (ks : List Keyed) (n i : ℕ) (k : Keyed) → slice_get ks i ≡ Some k → same_key key k.key ≡ true → FirstUnder key ks n
first_under key [] n i k found same = absurd (cc found)
first_under key (l ∷ ks) n zero k found same =
    let it : l ≡ k = cc found in
    let under : same_key key l.key ≡ true = ap (λ x. same_key key x.key) it ∙ same in
    record { at = 0; one = l; found = refl; under = under; value = rw under (ap object (omega arith)) }
first_under key (l ∷ ks) n (suc i) k found same = by (same_key key l.key) refl (first_under key ks (n + 1) i k found same)
  where
    by : (b : Bool) → same_key key l.key ≡ b → FirstUnder key ks (n + 1) → FirstUnder key (l ∷ ks) n
    by true under f = record { at = 0; one = l; found = refl; under = under; value = rw under (ap object (omega arith)) }
    by false other f = record { at = suc f.at; one = f.one; found = f.found; under = f.under; value = rw other (f.value ∙ ap object (omega arith)) }

class_key : (c : ℕ) (key : Key) → same_key (class c) key ≡ true → key ≡ class c
class_key c (class d) e = let same : d ≡ c = grind (arith, nat_tests) in ap class same
class_key c key e = absurd (cc e)

got_mapped : (ks : List Keyed) (i : ℕ) (k : Keyed) → slice_get ks i ≡ Some k → slice_get (map (λ k. k.object) ks) i ≡ Some k.object
got_mapped [] i k e = absurd (cc e)
got_mapped (l ∷ ks) zero k e = cc e
got_mapped (l ∷ ks) (suc i) k e = got_mapped ks i k e

from_mapped : (ks : List Keyed) (i : ℕ) (o : Object) → slice_get (map (λ k. k.object) ks) i ≡ Some o → (k : Keyed) × (slice_get ks i ≡ Some k) × (k.object ≡ o)
from_mapped [] i o e = absurd (cc e)
from_mapped (l ∷ ks) zero o e = (l, refl, cc e)
from_mapped (l ∷ ks) (suc i) o e = from_mapped ks i o e

module _ (names : List (List ℕ)) (program : ProgramRows) where
  -- the number under a class's key
  record ClassNumber (c : ℕ) : Type 0 where
    number : ℕ
    value : class_value names program c ≡ object number
    stored : slice_get (objects_at_start names program) number ≡ Some (class_object c)
    place : number ≡ place c

  class_number : (c i : ℕ) (k : Keyed) → slice_get (layout names program) i ≡ Some k → k.key ≡ class c → ClassNumber c
  class_number c i k found key = by (entry_at (layout names program) 0 front.at front.one (all_entries names program) front.found)
    where
      itself : same_key (class c) (class c) ≡ true
      itself = grind (arith, nat_tests)

      front : FirstUnder (class c) (layout names program) 0
      front = first_under (class c) (layout names program) 0 i k found (ap (same_key (class c)) key ∙ itself)

      by : Entry front.one (0 + front.at) → ClassNumber c
      by (a_class d key_is object_is at) =
          let same : class d ≡ class c = sym key_is ∙ class_key c front.one.key front.under in
          let class_is : d ≡ c = cc same in
          record {
            number = 0 + front.at;
            value = front.value;
            stored =
                let here : 0 + front.at ≡ front.at = omega arith in
                ap (slice_get (objects_at_start names program)) here ∙ got_mapped (layout names program) front.at front.one front.found
                ∙ ap (λ o. Some o) object_is ∙ ap (λ d. Some (class_object d)) class_is;
            place = at ∙ ap place class_is;
          }
      by (another no_class ordinary) = absurd (no_class c (class_key c front.one.key front.under))

  pub classes_at_start : (bytes : List ℕ) → ClassesThere names program (first_state (objects_at_start names program) bytes)
  classes_at_start bytes = record {
    objects = λ c high.
        let at = class_there names program c high in
        let it = class_number c at.0 (record { key = class c; object = class_object c }) at.1 refl in
        ap (fetch (first_state (objects_at_start names program) bytes)) it.value ∙ it.stored;
    values = value_is;
    instances = λ i c values mark e.
        let k = from_mapped (layout names program) i (instance c values mark) e in
        absurd (no_instance (entry_at (layout names program) 0 i k.0 (all_entries names program) k.1) c values mark k.2);
  }
    where
      no_instance : {k : Keyed} {i : ℕ} → Entry k i → (c : ℕ) (values : List (Option Value)) (mark : Value) → k.object ≡ instance c values mark → ⊥
      no_instance (a_class d key_is object_is at) c values mark e = cc (object_is, e)
      no_instance (another no_class ordinary) c values mark e = ordinary.no_instance c values mark e

      of_entry :
          (i c : ℕ) (k : Keyed) → slice_get (layout names program) i ≡ Some k → k.object ≡ class_object c → Entry k (0 + i) → class_value names program c ≡ object i
      of_entry i c k found object_there (a_class d key_is object_is at) =
          let same : class_object d ≡ class_object c = sym object_is ∙ object_there in
          let class_is : d ≡ c = cc same in
          let it = class_number c i k found (key_is ∙ ap class class_is) in
          it.value ∙ ap object (omega (arith, it.place, at, ap place class_is))
      of_entry i c k found object_there (another no_class ordinary) = absurd (ordinary.no_class c object_there)

      value_is : (v : Value) (c : ℕ) → fetch (first_state (objects_at_start names program) bytes) v ≡ Some (class_object c) → class_value names program c ≡ v
      value_is (object i) c e =
          let k = from_mapped (layout names program) i (class_object c) e in
          of_entry i c k.0 k.1 k.2 (entry_at (layout names program) 0 i k.0 (all_entries names program) k.1)
      value_is v c e = absurd (cc e)
