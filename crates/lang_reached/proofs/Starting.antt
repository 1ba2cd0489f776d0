-- The objects at the start are fine, and what stands for classes, streams, literals, slots and kept functions is live.
use Rattle.std.proofs.Common.{◌≡◌, ℕ, zero, suc, ◌+◌, ◌-◌, Bool, true, false, List, [], ◌∷◌, ◌++◌, length, map, refl, sym, ap, subst, ◌∙◌, Option, Some, None, arith, append_assoc, add-zero, le_refl}
use Rattle.std.specs.Prelude.{⊤, not, flat_map, option_to_list, slice_get, if◌then◌else◌}
use Rattle.std.specs.List.{range_with_len}
use Rattle.std.specs.Str.{bytes_eq}
use Rattle.base.specs.AllOf.{AllOf, all_both, all_at}
use Rattle.base.specs.Data.{Item, Content, Items, Tail, item, no_item, item_and, no_tail, dotted}
use Rattle.base.specs.Data as datum
use Rattle.lang_meaning.specs.declared.program.FunctionRow.{FunctionRow}
use Rattle.lang_meaning.specs.declared.program.Callee.{Callee}
use Rattle.lang_meaning.specs.declared.program.Callee.TheVariants as callee
use Rattle.lang_meaning.specs.declared.program.ClassRow.{ClassRow}
use Rattle.lang_meaning.specs.declared.program.SlotRow.{SlotRow}
use Rattle.lang_meaning.specs.declared.program.LiteralRow.{LiteralRow}
use Rattle.lang_meaning.specs.declared.program.LiteralRow.TheVariants as row
use Rattle.lang_meaning.specs.Values.{object}
use Rattle.lang_meaning.specs.Objects.{Object, cons, string, vector, instance, function, closure, generic_function, class_object, input_stream, output_stream, built_in_classes}
use Rattle.lang_meaning.specs.Literals.{Laid, after_parts, lay, lay_content, lay_items, lay_list, lay_tail, function_row, all_slots}
use Rattle.lang_meaning.specs.Lookup.{text, numbered}
use Rattle.lang_meaning.specs.Reached.{initforms}
use Rattle.lang_meaning.specs.InitialHeap.{Key, class, input, output, function_of, literal, initargs, initform, same_key, Keyed, Thing, single, class_things, function_object, function_things, literal_objects, literal_things, initargs_list, initform_objects, slot_things, things, keyed, laid_out, under_key, literal_value, function_value}
use Rattle.lang_meaning.proofs.RecipeKeys.{object_under, others_append, others_mapped, others_flat, AreOthers}
use Rattle.lang_meaning.proofs.RecipeSegments.{objects_in, objects_first, objects_append}
use Rattle.lang_meaning.proofs.WholeRecipes.{middle}
use Rattle.lang_reached.specs.LeftOut.{is_marked, KeepsProcedure, KeepsCallee, IsClosed}
use Rattle.lang_reached.proofs.Live.{Setting, is_lost, Live, AllLive, ObjectFine, StoreFine, all_front, all_back}
use Rattle.lang_reached.proofs.Applying.{Grounded}

-- ---- lists

not_false : (b : Bool) → not b ≡ false → b ≡ true
not_false true h = refl
not_false false h = absurd (cc)

get_front : {X : Type 0} (xs ys : List X) (i : ℕ) (x : X) → slice_get xs i ≡ Some x → slice_get (xs ++ ys) i ≡ Some x
get_front [] ys i x e = absurd (cc)
get_front (y ∷ xs) ys zero x e = e
get_front (y ∷ xs) ys (suc i) x e = get_front xs ys i x e

get_back : {X : Type 0} (xs ys : List X) (i : ℕ) → slice_get (xs ++ ys) (length xs + i) ≡ slice_get ys i
get_back [] ys i = let same : 0 + i ≡ i = omega arith in ap (slice_get ys) same
get_back (x ∷ xs) ys i =
    let same : length (x ∷ xs) + i ≡ suc (length xs + i) = omega arith in
    ap (slice_get (x ∷ (xs ++ ys))) same ∙ get_back xs ys i

get_last : {X : Type 0} (xs : List X) (x : X) → slice_get (xs ++ x ∷ []) (length xs) ≡ Some x
get_last [] x = refl
get_last (y ∷ xs) x = get_last xs x

all_mapped : {X Y : Type 0} (P : Y → Type 0) (f : X → Y) → ((x : X) → P (f x)) → (xs : List X) → AllOf P (map f xs)
all_mapped P f h [] = tt
all_mapped P f h (x ∷ xs) = (h x, all_mapped P f h xs)

module _ (t : Setting) where
  abbrev NotLost : Object → Type 0
  NotLost o = is_lost t.kept (Some o) ≡ false

  -- what an object at the start holds
  abbrev Holds : Object → Type 0
  Holds (cons a d) = Live t a × Live t d
  Holds (vector vs) = AllLive t vs
  Holds (instance c slots mark) = ⊥
  Holds (closure required rest body env) = ⊥
  Holds o = ⊤

  -- objects stand at the start from a number on
  abbrev Stands : ℕ → List Object → Type 0
  Stands n os = (i : ℕ) (o : Object) → slice_get os i ≡ Some o → slice_get t.start (n + i) ≡ Some o

  front : (n : ℕ) (os ps : List Object) → Stands n (os ++ ps) → Stands n os
  front n os ps h i o e = h i o (get_front os ps i o e)

  back : (n : ℕ) (os ps : List Object) → Stands n (os ++ ps) → Stands (n + length os) ps
  back n os ps h i o e =
      let same : n + (length os + i) ≡ n + length os + i = omega arith in
      subst (λ m. slice_get t.start m ≡ Some o) same (h (length os + i) o (get_back os ps i ∙ e))

  -- one of them, if it is not lost, is live
  stands_live : (n : ℕ) (os : List Object) (i : ℕ) (o : Object) → Stands n os → slice_get os i ≡ Some o → NotLost o → Live t (object (n + i))
  stands_live n os i o h e l = let there = h i o e in rw there l

  -- ---- data

  pub record Plain (o : Object) : Type 0 where
    pub holds : Holds o
    pub kept : NotLost o

  pub record LaidFine (l : Laid) : Type 0 where
    pub value : Live t l.value
    pub objects : AllOf Plain l.objects

  after_fine : (n : ℕ) (parts : List Object) (o : Object) → Stands n (parts ++ o ∷ []) → AllOf Plain parts → Plain o → LaidFine (after_parts n parts o)
  after_fine n parts o h p q = record {
    value = stands_live n (parts ++ o ∷ []) (length parts) o h (get_last parts o) q.kept;
    objects = all_both Plain parts (o ∷ []) p (q, tt);
  }

  mutual
    item_fine : (d : Item) (n : ℕ) → Stands n (lay t.names d n).objects → LaidFine (lay t.names d n)
    item_fine (item p c) n h = content_fine c n h

    content_fine : (c : Content) (n : ℕ) → Stands n (lay_content t.names c n).objects → LaidFine (lay_content t.names c n)
    content_fine (datum.integer i) n h = record { value = tt; objects = tt }
    content_fine (datum.character c) n h = record { value = tt; objects = tt }
    content_fine (datum.symbol s) n h = record { value = tt; objects = tt }
    content_fine (datum.string bytes) n h = after_fine n [] (string bytes) h tt (record { holds = tt; kept = refl })
    content_fine (datum.vector ds) n h =
        let parts = lay_items t.names ds n in
        let inner = items_fine ds n (front n parts.0 (vector parts.1 ∷ []) h) in
        after_fine n parts.0 (vector parts.1) h inner.0 (record { holds = inner.1; kept = refl })
    content_fine datum.nil n h = record { value = tt; objects = tt }
    content_fine (datum.list ds end) n h = list_fine ds (lay_tail t.names end) (tail_fine end) n h

    items_fine : (ds : Items) (n : ℕ) → Stands n (lay_items t.names ds n).0 → AllOf Plain (lay_items t.names ds n).0 × AllLive t (lay_items t.names ds n).1
    items_fine no_item n h = (tt, tt)
    items_fine (item_and d ds) n h =
        let first = lay t.names d n in
        let others = lay_items t.names ds (n + length first.objects) in
        let a = item_fine d n (front n first.objects others.0 h) in
        let b = items_fine ds (n + length first.objects) (back n first.objects others.0 h) in
        (all_both Plain first.objects others.0 a.objects b.0, (a.value, b.1))

    list_fine : (ds : Items) (end : ℕ → Laid) → ((m : ℕ) → Stands m (end m).objects → LaidFine (end m)) → (n : ℕ)
        → Stands n (lay_list t.names ds end n).objects → LaidFine (lay_list t.names ds end n)
    list_fine no_item end e n h = e n h
    list_fine (item_and d ds) end e n h =
        let first = lay t.names d n in
        let others = lay_list t.names ds end (n + length first.objects) in
        let made = cons first.value others.value in
        let parts = front n (first.objects ++ others.objects) (made ∷ []) h in
        let a = item_fine d n (front n first.objects others.objects parts) in
        let b = list_fine ds end e (n + length first.objects) (back n first.objects others.objects parts) in
        after_fine n (first.objects ++ others.objects) made h (all_both Plain first.objects others.objects a.objects b.objects)
        (record { holds = (a.value, b.value); kept = refl })

    tail_fine : (end : Tail) (n : ℕ) → Stands n (lay_tail t.names end n).objects → LaidFine (lay_tail t.names end n)
    tail_fine no_tail n h = record { value = tt; objects = tt }
    tail_fine (dotted d) n h = item_fine d n h

  -- ---- things

  -- under every key but that of a function's name stands an object that is not lost
  abbrev KeyFine : Key → Object → Type 0
  KeyFine (function_of name) o = ⊤
  KeyFine key o = NotLost o

  abbrev EntryFine : Keyed → Type 0
  EntryFine k = KeyFine k.key k.object

  pub record ThingFine (th : Thing) : Type 0 where
    pub holds : (n : ℕ) → Stands n (th.objects n) → AllOf Holds (th.objects n)
    pub keys : (n : ℕ) → Stands n (th.objects n) → AllOf EntryFine (keyed th.key (th.objects n))

  pub record AreFine (os : List Object) (ks : List Keyed) : Type 0 where
    pub holds : AllOf Holds os
    pub keys : AllOf EntryFine ks

  things_fine : (ts : List Thing) → AllOf ThingFine ts → (n : ℕ) → Stands n (objects_in ts n) → AreFine (objects_in ts n) (laid_out ts n)
  things_fine [] f n h = record { holds = tt; keys = tt }
  things_fine (th ∷ ts) f n h =
      let m = n + length (th.objects n) in
      let both : Stands n (th.objects n ++ objects_in ts m) = subst (Stands n) (objects_first th ts n) h in
      let own = front n (th.objects n) (objects_in ts m) both in
      let others = things_fine ts f.1 m (back n (th.objects n) (objects_in ts m) both) in
      record {
        holds = subst (AllOf Holds) (sym (objects_first th ts n)) (all_both Holds (th.objects n) (objects_in ts m) (f.0.holds n own) others.holds);
        keys = all_both EntryFine (keyed th.key (th.objects n)) (laid_out ts m) (f.0.keys n own) others.keys;
      }

  -- objects of which none is lost, under a key
  keyed_fine : (key : Key) → ((o : Object) → NotLost o → KeyFine key o) → (os : List Object) → AllOf Plain os → AllOf EntryFine (keyed key os)
  keyed_fine key f [] h = tt
  keyed_fine key f (o ∷ []) h = (f o h.0.kept, tt)
  keyed_fine key f (o ∷ p ∷ os) h = (h.0.kept, keyed_fine key f (p ∷ os) h.1)

  plain_holds : (os : List Object) → AllOf Plain os → AllOf Holds os
  plain_holds [] h = tt
  plain_holds (o ∷ os) h = (h.0.holds, plain_holds os h.1)

  class_fine : (c : ℕ) → ThingFine (single (class c) (class_object c))
  class_fine c = record { holds = λ n h. (tt, tt); keys = λ n h. (refl, tt) }

  streams_fine : AllOf ThingFine (single input input_stream ∷ single output output_stream ∷ [])
  streams_fine =
      (record { holds = λ n h. (tt, tt); keys = λ n h. (refl, tt) }, (record { holds = λ n h. (tt, tt); keys = λ n h. (refl, tt) }, tt))

  callee_holds : (c : Callee) → Holds (function_object c)
  callee_holds (callee.Procedure p) = tt
  callee_holds (callee.Generic g) = tt

  function_fine : (f : FunctionRow) → ThingFine (single (function_of (text t.names f.name.0)) (function_object f.callee))
  function_fine f = record { holds = λ n h. (callee_holds f.callee, tt); keys = λ n h. (tt, tt) }

  literal_fine : (r : LiteralRow) (i : ℕ) → ThingFine (record { key = literal i; objects = literal_objects t.names r })
  literal_fine (row.Datum d) i = record {
    holds = λ n h. plain_holds (lay t.names d n).objects (item_fine d n h).objects;
    keys = λ n h. keyed_fine (literal i) (λ o l. l) (lay t.names d n).objects (item_fine d n h).objects;
  }
  literal_fine (row.Class c) i = record { holds = λ n h. tt; keys = λ n h. tt }
  literal_fine (row.Function name) i = record { holds = λ n h. tt; keys = λ n h. tt }

  abbrev SlotKept : SlotRow → Type 0
  SlotKept s = AllOf (KeepsProcedure t.kept) (option_to_list s.initform)

  kept_function : (p : ℕ) → KeepsProcedure t.kept p → NotLost (function p)
  kept_function p h = rw h refl

  initform_fine : (c i : ℕ) (o : Option ℕ) → AllOf (KeepsProcedure t.kept) (option_to_list o)
      → ThingFine (record { key = initform c i; objects = λ n. initform_objects o })
  initform_fine c i None k = record { holds = λ n h. tt; keys = λ n h. tt }
  initform_fine c i (Some p) k = record { holds = λ n h. (tt, tt); keys = λ n h. (kept_function p k.0, tt) }

  slot_fine : (c : ℕ) (s : SlotRow) (i : ℕ) → SlotKept s → AllOf ThingFine (slot_things t.names c (s, i))
  slot_fine c s i k = (
    record {
      holds = λ n h. plain_holds (lay_content t.names (initargs_list s) n).objects (content_fine (initargs_list s) n h).objects;
      keys = λ n h. keyed_fine (initargs c i) (λ o l. l) (lay_content t.names (initargs_list s) n).objects (content_fine (initargs_list s) n h).objects;
    },
    (initform_fine c i s.initform k, tt),
  )

  -- the slots of one class, and of all
  class_slots_fine : (c : ℕ) (slots : List SlotRow) (i : ℕ) → AllOf SlotKept slots → AllOf ThingFine (flat_map (slot_things t.names c) (numbered slots i))
  class_slots_fine c [] i k = tt
  class_slots_fine c (s ∷ ss) i k =
      all_both ThingFine (slot_things t.names c (s, i)) (flat_map (slot_things t.names c) (numbered ss (i + 1))) (slot_fine c s i k.0)
      (class_slots_fine c ss (i + 1) k.1)

  abbrev slots_of_classes : List ClassRow → ℕ → List Thing
  slots_of_classes classes n =
      flat_map (λ (c : ClassRow × ℕ). flat_map (slot_things t.names c.1) (numbered c.0.slots 0)) (numbered classes n)

  slots_fine : (classes : List ClassRow) (n : ℕ) → AllOf (λ (c : ClassRow). AllOf SlotKept c.slots) classes → AllOf ThingFine (slots_of_classes classes n)
  slots_fine [] n k = tt
  slots_fine (c ∷ cs) n k =
      all_both ThingFine (flat_map (slot_things t.names n) (numbered c.slots 0)) (slots_of_classes cs (n + 1)) (class_slots_fine n c.slots 0 k.0)
      (slots_fine cs (n + 1) k.1)

  literals_fine : (rows : List LiteralRow) (n : ℕ) → AllOf ThingFine (map (λ (r : LiteralRow × ℕ). record { key = literal r.1; objects = literal_objects t.names r.0 }) (numbered rows n))
  literals_fine [] n = tt
  literals_fine (r ∷ rows) n = (literal_fine r n, literals_fine rows (n + 1))

  -- ---- all of them

  abbrev firsts : List Thing
  firsts =
      class_things (range_with_len 0 built_in_classes)
      ++ (single input input_stream ∷ single output output_stream ∷ [])
      ++ class_things (range_with_len built_in_classes (length t.program.classes - built_in_classes))

  abbrev functions : List Thing
  functions = function_things t.names t.program.functions

  abbrev literals : List Thing
  literals = literal_things t.names t.program.literals

  abbrev slots : List Thing
  slots = slots_of_classes t.program.classes 0

  firsts_fine : AllOf ThingFine firsts
  firsts_fine =
      let streams = single input input_stream ∷ single output output_stream ∷ [] in
      let built_in = class_things (range_with_len 0 built_in_classes) in
      let others = class_things (range_with_len built_in_classes (length t.program.classes - built_in_classes)) in
      all_both ThingFine (built_in ++ streams) others
      (all_both ThingFine built_in streams (all_mapped ThingFine (λ c. single (class c) (class_object c)) class_fine (range_with_len 0 built_in_classes)) streams_fine)
      (all_mapped ThingFine (λ c. single (class c) (class_object c)) class_fine (range_with_len built_in_classes (length t.program.classes - built_in_classes)))

  functions_fine : AllOf ThingFine functions
  functions_fine = all_mapped ThingFine (λ (f : FunctionRow). single (function_of (text t.names f.name.0)) (function_object f.callee)) function_fine t.program.functions

  -- each slot's initform is kept
  each_kept : (slots : List SlotRow) → AllOf (KeepsProcedure t.kept) (flat_map (λ (s : SlotRow). option_to_list s.initform) slots) → AllOf SlotKept slots
  each_kept [] h = tt
  each_kept (s ∷ ss) h =
      let others = flat_map (λ (r : SlotRow). option_to_list r.initform) ss in
      (all_front (KeepsProcedure t.kept) (option_to_list s.initform) others h, each_kept ss (all_back (KeepsProcedure t.kept) (option_to_list s.initform) others h))

  of_classes : (classes : List ClassRow) → AllOf SlotKept (all_slots classes) → AllOf (λ (c : ClassRow). AllOf SlotKept c.slots) classes
  of_classes [] h = tt
  of_classes (c ∷ cs) h = (all_front SlotKept c.slots (all_slots cs) h, of_classes cs (all_back SlotKept c.slots (all_slots cs) h))

  all_fine : AllOf (KeepsProcedure t.kept) (initforms t.program) → AllOf ThingFine (things t.names t.program)
  all_fine h =
      all_both ThingFine (firsts ++ functions ++ literals) slots
      (all_both ThingFine (firsts ++ functions) literals (all_both ThingFine firsts functions firsts_fine functions_fine) (literals_fine t.program.literals 0))
      (slots_fine t.program.classes 0 (of_classes t.program.classes (each_kept (all_slots t.program.classes) h)))

  -- ---- what stands under a key

  found_live : (key : Key) → ((k : Key) (o : Object) → same_key key k ≡ true → KeyFine k o → NotLost o) → (ks : List Keyed) (n : ℕ) → AllOf EntryFine ks
      → Stands n (map object_under ks) → Live t (under_key key ks n)
  found_live key f [] n h s = tt
  found_live key f (k ∷ ks) n h s =
      by (same_key key k.key) (f k.key k.object) (found_live key f ks (n + 1) h.1 (back n (k.object ∷ []) (map object_under ks) s))
    where
      by : (b : Bool) → (b ≡ true → KeyFine k.key k.object → NotLost k.object) → Live t (under_key key ks (n + 1))
          → Live t (if b then object n else under_key key ks (n + 1))
      by true g others =
          let here : slice_get t.start n ≡ Some k.object = subst (λ m. slice_get t.start m ≡ Some k.object) (add-zero n) (s 0 k.object refl) in
          rw here (g refl h.0)
      by false g others = others

  class_key : (c : ℕ) (k : Key) (o : Object) → same_key (class c) k ≡ true → KeyFine k o → NotLost o
  class_key c (class d) o e h = h
  class_key c k o e h = absurd (cc)

  input_key : (k : Key) (o : Object) → same_key input k ≡ true → KeyFine k o → NotLost o
  input_key input o e h = h
  input_key k o e h = absurd (cc)

  output_key : (k : Key) (o : Object) → same_key output k ≡ true → KeyFine k o → NotLost o
  output_key output o e h = h
  output_key k o e h = absurd (cc)

  literal_key : (i : ℕ) (k : Key) (o : Object) → same_key (literal i) k ≡ true → KeyFine k o → NotLost o
  literal_key i (literal j) o e h = h
  literal_key i k o e h = absurd (cc)

  initargs_key : (c i : ℕ) (k : Key) (o : Object) → same_key (initargs c i) k ≡ true → KeyFine k o → NotLost o
  initargs_key c i (initargs d j) o e h = h
  initargs_key c i k o e h = absurd (cc)

  initform_key : (c i : ℕ) (k : Key) (o : Object) → same_key (initform c i) k ≡ true → KeyFine k o → NotLost o
  initform_key c i (initform d j) o e h = h
  initform_key c i k o e h = absurd (cc)

  -- the function of a name: the first row with its text
  callee_kept : (c : Callee) → KeepsCallee t.kept c → NotLost (function_object c)
  callee_kept (callee.Procedure p) h = rw h refl
  callee_kept (callee.Generic g) h = rw h refl

  named_live : (name : List ℕ) (rows : List FunctionRow) (n : ℕ) → Stands n (objects_in (function_things t.names rows) n) → (f : FunctionRow)
      → function_row t.names rows name ≡ Some f → KeepsCallee t.kept f.callee → Live t (under_key (function_of name) (laid_out (function_things t.names rows) n) n)
  named_live name [] n s f e k = tt
  named_live name (r ∷ rows) n s f e k =
      by (bytes_eq name (text t.names r.name.0)) e
      (λ e'. named_live name rows (n + 1) (back n (function_object r.callee ∷ []) (objects_in (function_things t.names rows) (n + 1)) s) f e' k)
    where
      by : (b : Bool) → (if b then Some r else function_row t.names rows name) ≡ Some f
          → (function_row t.names rows name ≡ Some f → Live t (under_key (function_of name) (laid_out (function_things t.names rows) (n + 1)) (n + 1)))
          → Live t (if b then object n else under_key (function_of name) (laid_out (function_things t.names rows) (n + 1)) (n + 1))
      by true d others =
          let same : r ≡ f = cc in
          let here : slice_get t.start n ≡ Some (function_object r.callee) =
          subst (λ m. slice_get t.start m ≡ Some (function_object r.callee)) (add-zero n) (s 0 (function_object r.callee) refl) in
          rw here (callee_kept r.callee (subst (λ (x : FunctionRow). KeepsCallee t.kept x.callee) (sym same) k))
      by false d others = others d

  others_firsts : (name : List ℕ) → AreOthers (function_of name) firsts
  others_firsts name =
      let streams = single input input_stream ∷ single output output_stream ∷ [] in
      let built_in = class_things (range_with_len 0 built_in_classes) in
      let others = class_things (range_with_len built_in_classes (length t.program.classes - built_in_classes)) in
      others_append (function_of name) (built_in ++ streams) others
      (others_append (function_of name) built_in streams
      (others_mapped (function_of name) (λ c. single (class c) (class_object c)) (range_with_len 0 built_in_classes) (λ c. refl)) (refl, (refl, tt)))
      (others_mapped (function_of name) (λ c. single (class c) (class_object c)) (range_with_len built_in_classes (length t.program.classes - built_in_classes)) (λ c. refl))

  others_behind : (name : List ℕ) → AreOthers (function_of name) (literals ++ slots)
  others_behind name =
      others_append (function_of name) literals slots (others_mapped (function_of name) _ (numbered t.program.literals 0) (λ r. refl))
      (others_flat (function_of name) _ (numbered t.program.classes 0) (λ c. others_flat (function_of name) (slot_things t.names c.1) (numbered c.0.slots 0) (λ s. (refl, (refl, tt)))))

-- ---- a setting with the objects of its program at the start

module _ (t : Setting) (closed : IsClosed t.names t.program t.kept) (at_start : t.start ≡ objects_in (things t.names t.program) 0) where
  all_stand : Stands t 0 (objects_in (things t.names t.program) 0)
  all_stand i o e =
      let same : 0 + i ≡ i = omega arith in
      subst (λ m. slice_get t.start m ≡ Some o) (sym same) (subst (λ os. slice_get os i ≡ Some o) (sym at_start) e)

  all_are_fine : AreFine t (objects_in (things t.names t.program) 0) (laid_out (things t.names t.program) 0)
  all_are_fine = things_fine t (things t.names t.program) (all_fine t closed.initforms) 0 all_stand

  under_live : (key : Key) → ((k : Key) (o : Object) → same_key key k ≡ true → KeyFine t k o → NotLost t o)
      → Live t (under_key key (laid_out (things t.names t.program) 0) 0)
  under_live key f = found_live t key f (laid_out (things t.names t.program) 0) 0 all_are_fine.keys all_stand

  holds : (i : ℕ) (o : Object) → slice_get t.start i ≡ Some o → Holds t o
  holds i o e =
      all_at (Holds t) (objects_in (things t.names t.program) 0) i o all_are_fine.holds (subst (λ os. slice_get os i ≡ Some o) at_start e)

  -- a literal: an atom, or the object under its key
  literal_is_live : (id : ℕ) (d : Item) → Live t (literal_value t.names t.program id d)
  literal_is_live id d = by (lay t.names d 0).objects refl
    where
      by : (os : List Object) → (lay t.names d 0).objects ≡ os → Live t (literal_value t.names t.program id d)
      by [] e =
          let none : Stands t 0 (lay t.names d 0).objects = subst (Stands t 0) (sym e) (λ i o f. absurd (cc)) in
          rw e (item_fine t d 0 none).value
      by (o ∷ os) e = rw e (under_live (literal id) (literal_key t id))

  -- the function of a name stands among those of functions
  function_is_live : (name : List ℕ) (f : FunctionRow) → function_row t.names t.program.functions name ≡ Some f → KeepsCallee t.kept f.callee
      → Live t (function_value t.names t.program name)
  function_is_live name f e k =
      let n = 0 + length (objects_in (firsts t) 0) in
      let behind = literals t ++ slots t in
      let apart : things t.names t.program ≡ firsts t ++ functions t ++ behind = append_assoc (firsts t ++ functions t) (literals t) (slots t) in
      let there : Stands t 0 (objects_in (firsts t ++ functions t ++ behind) 0) = subst (λ ts. Stands t 0 (objects_in ts 0)) apart all_stand in
      let split : objects_in (firsts t ++ functions t ++ behind) 0 ≡ objects_in (firsts t ++ functions t) 0 ++ objects_in behind (0 + length (objects_in (firsts t ++ functions t) 0)) =
      objects_append (firsts t ++ functions t) behind 0 in
      let two : Stands t 0 (objects_in (firsts t ++ functions t) 0) =
      front t 0 (objects_in (firsts t ++ functions t) 0) (objects_in behind (0 + length (objects_in (firsts t ++ functions t) 0))) (subst (Stands t 0) split there) in
      let own : Stands t n (objects_in (functions t) n) =
      back t 0 (objects_in (firsts t) 0) (objects_in (functions t) n) (subst (Stands t 0) (objects_append (firsts t) (functions t) 0) two) in
      let found : under_key (function_of name) (laid_out (things t.names t.program) 0) 0 ≡ under_key (function_of name) (laid_out (functions t) n) n =
      ap (λ ts. under_key (function_of name) (laid_out ts 0) 0) apart
      ∙ middle (function_of name) (firsts t) (functions t) behind 0 refl (others_firsts t name) (others_behind t name) in
      subst (Live t) (sym found) (named_live t name t.program.functions n own f e k)

  pub start_fine : StoreFine t t.start
  start_fine = record { longer = le_refl (length t.start); each = by }
    where
      by : (i : ℕ) (o : Object) → slice_get t.start i ≡ Some o → ObjectFine t i o
      by i (function p) e = λ l. not_false (is_marked t.kept.procedures p) (subst (λ o. is_lost t.kept o ≡ false) e l)
      by i (generic_function g) e = λ l. not_false (is_marked t.kept.generics g) (subst (λ o. is_lost t.kept o ≡ false) e l)
      by i (cons a d) e = holds i (cons a d) e
      by i (vector vs) e = holds i (vector vs) e
      by i (instance c slots mark) e = absurd (holds i (instance c slots mark) e)
      by i (closure required rest body env) e = absurd (holds i (closure required rest body env) e)
      by i o e = tt

  pub grounded : Grounded t
  grounded = record {
    closed = closed;
    class_live = λ c. under_live (class c) (class_key t c);
    input_live = under_live input (input_key t);
    output_live = under_live output (output_key t);
    initargs_live = λ c i. under_live (initargs c i) (initargs_key t c i);
    initform_live = λ c i. under_live (initform c i) (initform_key t c i);
    literal_live = literal_is_live;
    function_live = function_is_live;
  }
