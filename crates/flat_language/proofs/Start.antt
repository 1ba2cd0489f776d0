-- Before the first form there is no function that a form made.
use Rattle.std.proofs.Common.{◌≡◌, ℕ, zero, suc, ◌+◌, ◌-◌, List, [], ◌∷◌, ◌++◌, refl, subst, inl, Option, Some, None, length, map, arith}
use Rattle.std.specs.List.{range_with_len}
use Rattle.std.specs.Prelude.{slice_get, flat_map}
use Rattle.base.specs.Data as datum
use Rattle.base.specs.AllOf.{AllOf}
use Rattle.lang_meaning.specs.declared.program.ProgramRows.{ProgramRows}
use Rattle.lang_meaning.specs.declared.program.SlotRow.{SlotRow}
use Rattle.lang_meaning.specs.declared.program.FunctionRow.{FunctionRow}
use Rattle.lang_meaning.specs.declared.program.Callee.{Callee}
use Rattle.lang_meaning.specs.declared.program.Callee.TheVariants as callee
use Rattle.lang_meaning.specs.declared.program.LiteralRow.{LiteralRow}
use Rattle.lang_meaning.specs.declared.program.LiteralRow.TheVariants as row
use Rattle.lang_meaning.specs.Form.{Form}
use Rattle.lang_meaning.specs.declared.program.ClassRow.{ClassRow}
use Rattle.lang_meaning.specs.Lookup.{text, numbered}
use Rattle.lang_meaning.specs.Literals.{Laid, lay, lay_content, lay_items, lay_list, lay_tail}
use Rattle.lang_meaning.specs.InitialHeap.{Key, class, function_of, literal, input, output, single, Keyed, Thing, keyed, laid_out, layout, things, objects_at_start, class_things, function_things, function_object, literal_things, literal_objects, initargs_list, initform_objects, slot_things}
use Rattle.lang_meaning.specs.Objects.{Object, Environment, closure, class_object, input_stream, output_stream, built_in_classes}
use Rattle.flat_language.specs.declared.program.FlatProcedure.{FlatProcedure}
use Rattle.flat_language.proofs.Alike.{alone, Related}

record NoClosure (o : Object) : Type 0 where
  never : (required : List ℕ) (rest : Option ℕ) (body : Form) (env : Environment) → o ≡ closure required rest body env → ⊥

pub both : {X : Type 0} (P : X → Type 0) (xs ys : List X) → AllOf P xs → AllOf P ys → AllOf P (xs ++ ys)
both P [] ys e f = f
both P (x ∷ xs) ys e f = (e.0, both P xs ys e.1 f)

mapped : {X Y : Type 0} (P : Y → Type 0) (g : X → Y) → ((x : X) → P (g x)) → (xs : List X) → AllOf P (map g xs)
mapped P g h [] = tt
mapped P g h (x ∷ xs) = (h x, mapped P g h xs)

flat_mapped : {X Y : Type 0} (P : Y → Type 0) (g : X → List Y) → ((x : X) → AllOf P (g x)) → (xs : List X) → AllOf P (flat_map g xs)
flat_mapped P g h [] = tt
flat_mapped P g h (x ∷ xs) = both P (g x) (flat_map g xs) (h x) (flat_mapped P g h xs)

one_more : (os : List Object) (o : Object) → AllOf NoClosure os → NoClosure o → AllOf NoClosure (os ++ o ∷ [])
one_more os o e h = both NoClosure os (o ∷ []) e (h, tt)

mutual
  laid : (names : List (List ℕ)) (d : datum.Item) (n : ℕ) → AllOf NoClosure (lay names d n).objects
  laid names (datum.item p c) n = content_laid names c n

  content_laid : (names : List (List ℕ)) (c : datum.Content) (n : ℕ) → AllOf NoClosure (lay_content names c n).objects
  content_laid names (datum.integer i) n = tt
  content_laid names (datum.character c) n = tt
  content_laid names (datum.symbol s) n = tt
  content_laid names (datum.string bytes) n = (record { never = λ r s b e h. cc h }, tt)
  content_laid names (datum.vector ds) n = one_more (lay_items names ds n).0 _ (items_laid names ds n) (record { never = λ r s b e h. cc h })
  content_laid names datum.nil n = tt
  content_laid names (datum.list ds end) n = list_laid names ds (lay_tail names end) (λ m. tail_laid names end m) n

  items_laid : (names : List (List ℕ)) (ds : datum.Items) (n : ℕ) → AllOf NoClosure (lay_items names ds n).0
  items_laid names datum.no_item n = tt
  items_laid names (datum.item_and d ds) n =
      both NoClosure (lay names d n).objects _ (laid names d n) (items_laid names ds (n + length (lay names d n).objects))

  list_laid : (names : List (List ℕ)) (ds : datum.Items) (end : ℕ → Laid) → ((m : ℕ) → AllOf NoClosure (end m).objects) → (n : ℕ)
      → AllOf NoClosure (lay_list names ds end n).objects
  list_laid names datum.no_item end e n = e n
  list_laid names (datum.item_and d ds) end e n =
      one_more ((lay names d n).objects ++ (lay_list names ds end (n + length (lay names d n).objects)).objects) _
      (both NoClosure (lay names d n).objects _ (laid names d n) (list_laid names ds end e (n + length (lay names d n).objects)))
      (record { never = λ r s b f h. cc h })

  tail_laid : (names : List (List ℕ)) (t : datum.Tail) (n : ℕ) → AllOf NoClosure (lay_tail names t n).objects
  tail_laid names datum.no_tail n = tt
  tail_laid names (datum.dotted d) n = laid names d n

abbrev Plain : Thing → Type 0
Plain t = (n : ℕ) → AllOf NoClosure (t.objects n)

abbrev KeyedPlain : Keyed → Type 0
KeyedPlain k = NoClosure k.object

keyed_plain : (key : Key) (os : List Object) → AllOf NoClosure os → AllOf KeyedPlain (keyed key os)
keyed_plain key [] e = tt
keyed_plain key (o ∷ []) e = (e.0, tt)
keyed_plain key (o ∷ p ∷ os) e = (e.0, keyed_plain key (p ∷ os) e.1)

laid_out_plain : (ts : List Thing) → AllOf Plain ts → (n : ℕ) → AllOf KeyedPlain (laid_out ts n)
laid_out_plain [] e n = tt
laid_out_plain (t ∷ ts) e n =
    both KeyedPlain (keyed t.key (t.objects n)) _ (keyed_plain t.key (t.objects n) (e.0 n)) (laid_out_plain ts e.1 (n + length (t.objects n)))

callee_plain : (c : Callee) → NoClosure (function_object c)
callee_plain (callee.Procedure p) = record { never = λ r s b e h. cc h }
callee_plain (callee.Generic g) = record { never = λ r s b e h. cc h }

literal_plain : (names : List (List ℕ)) (r : LiteralRow) (n : ℕ) → AllOf NoClosure (literal_objects names r n)
literal_plain names (row.Datum d) n = laid names d n
literal_plain names (row.Class c) n = tt
literal_plain names (row.Function name) n = tt

initform_plain : (o : Option ℕ) → AllOf NoClosure (initform_objects o)
initform_plain (Some p) = (record { never = λ r s b e h. cc h }, tt)
initform_plain None = tt

single_plain : (key : Key) (o : Object) → NoClosure o → Plain (single key o)
single_plain key o h n = (h, tt)

classes_plain : (cs : List ℕ) → AllOf Plain (class_things cs)
classes_plain cs = mapped Plain (λ c. single (class c) (class_object c)) (λ c. single_plain (class c) (class_object c) (record { never = λ r s b e h. cc h })) cs

slot_plain : (names : List (List ℕ)) (c : ℕ) (s : SlotRow × ℕ) → AllOf Plain (slot_things names c s)
slot_plain names c s = ((λ n. content_laid names (initargs_list s.0) n), ((λ n. initform_plain s.0.initform), tt))

things_plain : (names : List (List ℕ)) (program : ProgramRows) → AllOf Plain (things names program)
things_plain names program =
    let first : List Thing = class_things (range_with_len 0 built_in_classes) in
    let streams : List Thing = single input input_stream ∷ single output output_stream ∷ [] in
    let others : List Thing = class_things (range_with_len built_in_classes (length program.classes - built_in_classes)) in
    let functions : List Thing = function_things names program.functions in
    let literals : List Thing = literal_things names program.literals in
    let slots : List Thing = flat_map (λ (c : ClassRow × ℕ). flat_map (slot_things names c.1) (numbered c.0.slots 0)) (numbered program.classes 0) in
    let streams_plain : AllOf Plain streams =
    (single_plain input input_stream (record { never = λ r s b e h. cc h }), (single_plain output output_stream (record { never = λ r s b e h. cc h }), tt)) in
    let functions_plain : AllOf Plain functions =
    mapped Plain (λ (f : FunctionRow). single (function_of (text names f.name.0)) (function_object f.callee))
    (λ f. single_plain (function_of (text names f.name.0)) (function_object f.callee) (callee_plain f.callee)) program.functions in
    let literals_plain : AllOf Plain literals =
    mapped Plain (λ (r : LiteralRow × ℕ). record { key = literal r.1; objects = literal_objects names r.0 }) (λ r n. literal_plain names r.0 n) (numbered program.literals 0) in
    let slots_plain : AllOf Plain slots =
    flat_mapped Plain (λ (c : ClassRow × ℕ). flat_map (slot_things names c.1) (numbered c.0.slots 0))
    (λ c. flat_mapped Plain (slot_things names c.1) (λ s. slot_plain names c.1 s) (numbered c.0.slots 0)) (numbered program.classes 0) in
    both Plain (first ++ streams ++ others ++ functions ++ literals) slots
    (both Plain (first ++ streams ++ others ++ functions) literals
    (both Plain (first ++ streams ++ others) functions
    (both Plain (first ++ streams) others
    (both Plain first streams (classes_plain (range_with_len 0 built_in_classes)) streams_plain)
    (classes_plain (range_with_len built_in_classes (length program.classes - built_in_classes)))) functions_plain) literals_plain) slots_plain

objects_plain : (ks : List Keyed) → AllOf KeyedPlain ks → (i : ℕ) (o : Object) → slice_get (map (λ k. k.object) ks) i ≡ Some o → NoClosure o
objects_plain [] e i o h = absurd (cc h)
objects_plain (k ∷ ks) e zero o h = subst NoClosure (let q : k.object ≡ o = cc h in q) e.0
objects_plain (k ∷ ks) e (suc i) o h = objects_plain ks e.1 i o h

-- the first state beside itself
pub first_related : (lambdas : List FlatProcedure) (names : List (List ℕ)) (program : ProgramRows)
    → Related lambdas (alone []) [] [] [] (objects_at_start names program) (objects_at_start names program) []
first_related lambdas names program = record {
  values = record {
    count = refl;
    box_count = refl;
    slot_count = refl;
    since = omega arith;
    known = λ i k h. absurd (cc h);
    slots = λ n i h. absurd (cc h);
  };
  lengths = refl;
  objects = λ i. inl (record {
    same = refl;
    plain = λ required rest body env h.
        (objects_plain (layout names program) (laid_out_plain (things names program) (things_plain names program) 0) i (closure required rest body env) h).never required rest body env refl;
    bare = λ p h. refl;
  });
}
