-- Before the first form there is no function that a `lambda` made, so the objects are the same where they are renamed.
use Rattle.std.specs.Prelude.{◌≡◌, ℕ, ◌+◌, ◌-◌, List, [], ◌∷◌, ◌++◌, Option, Some, None, length, map, flat_map, refl}
use Rattle.std.specs.List.{range_with_len}
use Rattle.std.proofs.Common.{ap, sym, ◌∙◌}
use Rattle.std.proofs.lemmas.List.{map-append}
use Rattle.base.specs.AllOf.{AllOf, all_both}
use Rattle.base.specs.Data.{Item, item, Content, Items, no_item, item_and, Tail, no_tail, dotted}
use Rattle.base.specs.Data as datum
use Rattle.lang_meaning.specs.declared.program.FunctionRow.{FunctionRow}
use Rattle.lang_meaning.specs.declared.program.Callee.{Callee}
use Rattle.lang_meaning.specs.declared.program.Callee.TheVariants as callee
use Rattle.lang_meaning.specs.declared.program.ClassRow.{ClassRow}
use Rattle.lang_meaning.specs.declared.program.LiteralRow.{LiteralRow}
use Rattle.lang_meaning.specs.declared.program.LiteralRow.TheVariants as row
use Rattle.lang_meaning.specs.declared.program.ProgramRows.{ProgramRows}
use Rattle.lang_meaning.specs.Objects.{Object, cons, vector, class_object, input_stream, output_stream, built_in_classes}
use Rattle.lang_meaning.specs.Lookup.{text, numbered}
use Rattle.lang_meaning.specs.Literals.{Laid, lay, lay_content, lay_items, lay_list, lay_tail}
use Rattle.lang_meaning.specs.InitialHeap.{class, input, output, function_of, literal, initargs_list, initform_objects, Thing, single, class_things, function_object, function_things, literal_objects, literal_things, slot_things, things, objects_at_start}
use Rattle.lang_meaning.proofs.RecipeSegments.{objects_in, objects_first}
use Rattle.lang_renamed.specs.RenamedRuns.{object_by, store_by}
use Rattle.lang_renamed.proofs.Lists.{both}

all_mapped : {X Y : Type 0} (P : Y → Type 0) (f : X → Y) → ((x : X) → P (f x)) → (xs : List X) → AllOf P (map f xs)
all_mapped P f h [] = tt
all_mapped P f h (x ∷ xs) = (h x, all_mapped P f h xs)

all_flat : {X Y : Type 0} (P : Y → Type 0) (f : X → List Y) → ((x : X) → AllOf P (f x)) → (xs : List X) → AllOf P (flat_map f xs)
all_flat P f h [] = tt
all_flat P f h (x ∷ xs) = all_both P (f x) (flat_map f xs) (h x) (all_flat P f h xs)

module _ (r : ℕ → ℕ) where
  -- these objects are the same where they are renamed
  abbrev Plain : List Object → Type 0
  Plain os = store_by r os ≡ os

  plain_both : (os ps : List Object) → Plain os → Plain ps → Plain (os ++ ps)
  plain_both os ps e g = map-append (object_by r) os ps ∙ both (λ (xs ys : List Object). xs ++ ys) _ _ _ _ e g

  module _ (names : List (List ℕ)) where
    mutual
      plain_item : (d : Item) (n : ℕ) → Plain (lay names d n).objects
      plain_item (item p c) n = plain_content c n

      plain_content : (c : Content) (n : ℕ) → Plain (lay_content names c n).objects
      plain_content (datum.integer i) n = refl
      plain_content (datum.character c) n = refl
      plain_content (datum.symbol s) n = refl
      plain_content (datum.string bytes) n = refl
      plain_content (datum.vector ds) n = plain_both (lay_items names ds n).0 (vector (lay_items names ds n).1 ∷ []) (plain_items ds n) refl
      plain_content datum.nil n = refl
      plain_content (datum.list ds end) n = plain_list ds (lay_tail names end) (plain_tail end) n

      plain_items : (ds : Items) (n : ℕ) → Plain (lay_items names ds n).0
      plain_items no_item n = refl
      plain_items (item_and d ds) n =
          plain_both (lay names d n).objects (lay_items names ds (n + length (lay names d n).objects)).0
          (plain_item d n) (plain_items ds (n + length (lay names d n).objects))

      plain_list : (ds : Items) (end : ℕ → Laid) → ((m : ℕ) → Plain (end m).objects) → (n : ℕ) → Plain (lay_list names ds end n).objects
      plain_list no_item end e n = e n
      plain_list (item_and d ds) end e n =
          let first = lay names d n in
          let others = lay_list names ds end (n + length first.objects) in
          plain_both (first.objects ++ others.objects) (cons first.value others.value ∷ [])
          (plain_both first.objects others.objects (plain_item d n) (plain_list ds end e (n + length first.objects))) refl

      plain_tail : (end : Tail) (n : ℕ) → Plain (lay_tail names end n).objects
      plain_tail no_tail n = refl
      plain_tail (dotted d) n = plain_item d n

    -- ---- things

    abbrev PlainThing : Thing → Type 0
    PlainThing t = (n : ℕ) → Plain (t.objects n)

    plain_classes : (cs : List ℕ) → AllOf PlainThing (class_things cs)
    plain_classes cs = all_mapped PlainThing (λ c. single (class c) (class_object c)) (λ c n. refl) cs

    plain_callee : (c : Callee) → Plain (function_object c ∷ [])
    plain_callee (callee.Procedure p) = refl
    plain_callee (callee.Generic g) = refl

    plain_functions : (fs : List FunctionRow) → AllOf PlainThing (function_things names fs)
    plain_functions fs = all_mapped PlainThing (λ (f : FunctionRow). single (function_of (text names f.name.0)) (function_object f.callee)) (λ f n. plain_callee f.callee) fs

    plain_literal : (x : LiteralRow) (n : ℕ) → Plain (literal_objects names x n)
    plain_literal (row.Datum d) n = plain_item d n
    plain_literal (row.Class c) n = refl
    plain_literal (row.Function name) n = refl

    plain_literals : (xs : List LiteralRow) → AllOf PlainThing (literal_things names xs)
    plain_literals xs =
        all_mapped PlainThing (λ (x : LiteralRow × ℕ). record { key = literal x.1; objects = literal_objects names x.0 }) (λ x n. plain_literal x.0 n) (numbered xs 0)

    plain_initform : (p : Option ℕ) → Plain (initform_objects p)
    plain_initform None = refl
    plain_initform (Some p) = refl

    plain_slots : (c : ClassRow × ℕ) → AllOf PlainThing (flat_map (slot_things names c.1) (numbered c.0.slots 0))
    plain_slots c =
        all_flat PlainThing (slot_things names c.1) (λ s. ((λ n. plain_content (initargs_list s.0) n), ((λ n. plain_initform s.0.initform), tt))) (numbered c.0.slots 0)

    plain_things : (p : ProgramRows) → AllOf PlainThing (things names p)
    plain_things p =
        let built_in = class_things (range_with_len 0 built_in_classes) in
        let streams = single input input_stream ∷ single output output_stream ∷ [] in
        let others = class_things (range_with_len built_in_classes (length p.classes - built_in_classes)) in
        let functions = function_things names p.functions in
        let literals = literal_things names p.literals in
        all_both PlainThing (built_in ++ streams ++ others ++ functions ++ literals) _
        (all_both PlainThing (built_in ++ streams ++ others ++ functions) literals
        (all_both PlainThing (built_in ++ streams ++ others) functions
        (all_both PlainThing (built_in ++ streams) others
        (all_both PlainThing built_in streams (plain_classes (range_with_len 0 built_in_classes)) ((λ n. refl), ((λ n. refl), tt)))
        (plain_classes (range_with_len built_in_classes (length p.classes - built_in_classes))))
        (plain_functions p.functions)) (plain_literals p.literals))
        (all_flat PlainThing (λ (c : ClassRow × ℕ). flat_map (slot_things names c.1) (numbered c.0.slots 0)) plain_slots (numbered p.classes 0))

    plain_laid : (ts : List Thing) → AllOf PlainThing ts → (n : ℕ) → Plain (objects_in ts n)
    plain_laid [] h n = refl
    plain_laid (t ∷ ts) h n =
        ap (store_by r) (objects_first t ts n)
        ∙ plain_both (t.objects n) (objects_in ts (n + length (t.objects n))) (h.0 n) (plain_laid ts h.1 (n + length (t.objects n)))
        ∙ sym (objects_first t ts n)

    pub no_closures : (p : ProgramRows) → store_by r (objects_at_start names p) ≡ objects_at_start names p
    no_closures p = plain_laid (things names p) (plain_things p) 0
