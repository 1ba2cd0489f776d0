-- The functions that are there before the first form are those of the program; and no fresh symbol is there.
use Rattle.std.proofs.Common.{◌≡◌, ℕ, zero, suc, ◌+◌, ◌-◌, ◌<◌, List, [], ◌∷◌, ◌++◌, length, map, Option, Some, None}
use Rattle.std.specs.Prelude.{⊤, flat_map}
use Rattle.std.specs.List.{range_with_len}
use Rattle.base.specs.AllOf.{AllOf, all_both}
use Rattle.base.specs.Data as datum
use Rattle.lang_meaning.specs.declared.program.Callee.{Callee}
use Rattle.lang_meaning.specs.declared.program.Callee.TheVariants as callee
use Rattle.lang_meaning.specs.declared.program.ClassRow.{ClassRow}
use Rattle.lang_meaning.specs.declared.program.FunctionRow.{FunctionRow}
use Rattle.lang_meaning.specs.declared.program.LiteralRow.{LiteralRow}
use Rattle.lang_meaning.specs.declared.program.LiteralRow.TheVariants as row
use Rattle.lang_meaning.specs.declared.program.SlotRow.{SlotRow}
use Rattle.lang_meaning.specs.InitialHeap.{Key, input, output, Keyed, Thing, single, class_things, function_object, function_things, literal_things, literal_objects, literal, initargs_list, initform_objects, slot_things, keyed, laid_out, things, objects_at_start}
use Rattle.lang_meaning.specs.Literals.{Laid, lay, lay_content, lay_items, lay_list, lay_tail}
use Rattle.lang_meaning.specs.Lookup.{numbered}
use Rattle.lang_meaning.specs.Objects.{Object, function, generic_function, fresh_symbol, input_stream, output_stream, built_in_classes}
use Rattle.flat_language.specs.declared.program.FlatProgram.{FlatProgram}
use Rattle.flat_language.specs.FlatNodes.{tables}
use Rattle.back_words.specs.Asked.{CalleeFound, InitformFound, RowsAsked}

module _ (program : FlatProgram) where
  -- a function has the number of a procedure, and a generic function that of a row; a fresh symbol is none of them
  abbrev pub ObjectFits : Object → Type 0
  ObjectFits (function p) = p < length program.procedures
  ObjectFits (generic_function g) = g < length program.generics
  ObjectFits (fresh_symbol serial) = ⊥
  ObjectFits other = ⊤

  abbrev ObjectsFit : List Object → Type 0
  ObjectsFit os = AllOf ObjectFits os

  -- data have none
  mutual
    data_fit : (names : List (List ℕ)) (d : datum.Item) (n : ℕ) → ObjectsFit (lay names d n).objects
    data_fit names (datum.item p c) n = content_fit names c n

    content_fit : (names : List (List ℕ)) (c : datum.Content) (n : ℕ) → ObjectsFit (lay_content names c n).objects
    content_fit names (datum.string bytes) n = (tt, tt)
    content_fit names (datum.vector ds) n = all_both ObjectFits (lay_items names ds n).0 _ (items_fit names ds n) (tt, tt)
    content_fit names (datum.list ds end) n = list_fit names ds (lay_tail names end) (λ m. tail_fit names end m) n
    content_fit names w n = tt

    items_fit : (names : List (List ℕ)) (ds : datum.Items) (n : ℕ) → ObjectsFit (lay_items names ds n).0
    items_fit names datum.no_item n = tt
    items_fit names (datum.item_and d ds) n =
        all_both ObjectFits (lay names d n).objects _ (data_fit names d n) (items_fit names ds (n + length (lay names d n).objects))

    list_fit : (names : List (List ℕ)) (ds : datum.Items) (end : ℕ → Laid) → ((m : ℕ) → ObjectsFit (end m).objects) → (n : ℕ)
        → ObjectsFit (lay_list names ds end n).objects
    list_fit names datum.no_item end h n = h n
    list_fit names (datum.item_and d ds) end h n =
        let first = (lay names d n).objects in
        let others = (lay_list names ds end (n + length first)).objects in
        all_both ObjectFits (first ++ others) _
        (all_both ObjectFits first others (data_fit names d n) (list_fit names ds end h (n + length first))) (tt, tt)

    tail_fit : (names : List (List ℕ)) (end : datum.Tail) (n : ℕ) → ObjectsFit (lay_tail names end n).objects
    tail_fit names datum.no_tail n = tt
    tail_fit names (datum.dotted d) n = data_fit names d n

  -- ---- things

  abbrev ThingFits : Thing → Type 0
  ThingFits t = (n : ℕ) → ObjectsFit (t.objects n)

  keyed_fit : (key : Key) (os : List Object) → ObjectsFit os → AllOf (λ (k : Keyed). ObjectFits k.object) (keyed key os)
  keyed_fit key [] h = tt
  keyed_fit key (o ∷ []) h = h
  keyed_fit key (o ∷ p ∷ os) h = (h.0, keyed_fit key (p ∷ os) h.1)

  laid_fit : (ts : List Thing) (n : ℕ) → AllOf ThingFits ts → AllOf (λ (k : Keyed). ObjectFits k.object) (laid_out ts n)
  laid_fit [] n h = tt
  laid_fit (t ∷ ts) n h =
      all_both (λ (k : Keyed). ObjectFits k.object) (keyed t.key (t.objects n)) (laid_out ts (n + length (t.objects n)))
      (keyed_fit t.key (t.objects n) (h.0 n)) (laid_fit ts (n + length (t.objects n)) h.1)

  objects_fit : (ks : List Keyed) → AllOf (λ (k : Keyed). ObjectFits k.object) ks → ObjectsFit (map (λ k. k.object) ks)
  objects_fit [] h = tt
  objects_fit (k ∷ ks) h = (h.0, objects_fit ks h.1)

  classes_fit : (cs : List ℕ) → AllOf ThingFits (class_things cs)
  classes_fit [] = tt
  classes_fit (c ∷ cs) = (λ n. (tt, tt), classes_fit cs)

  callee_fits : (c : Callee) → CalleeFound program c → ObjectFits (function_object c)
  callee_fits (callee.Procedure p) h = h
  callee_fits (callee.Generic g) h = h

  functions_fit : (names : List (List ℕ)) (fs : List FunctionRow) → AllOf (λ (f : FunctionRow). CalleeFound program f.callee) fs
      → AllOf ThingFits (function_things names fs)
  functions_fit names [] h = tt
  functions_fit names (f ∷ fs) h = (λ n. (callee_fits f.callee h.0, tt), functions_fit names fs h.1)

  literal_fits : (names : List (List ℕ)) (l : LiteralRow) (n : ℕ) → ObjectsFit (literal_objects names l n)
  literal_fits names (row.Datum d) n = data_fit names d n
  literal_fits names (row.Class c) n = tt
  literal_fits names (row.Function name) n = tt

  literals_fit : (names : List (List ℕ)) (rs : List (LiteralRow × ℕ))
      → AllOf ThingFits (map (λ (r : LiteralRow × ℕ). record { key = literal r.1; objects = literal_objects names r.0 }) rs)
  literals_fit names [] = tt
  literals_fit names (r ∷ rs) = (literal_fits names r.0, literals_fit names rs)

  initform_fits : (o : Option ℕ) → InitformFound program o → ObjectsFit (initform_objects o)
  initform_fits None h = tt
  initform_fits (Some p) h = (h, tt)

  slots_fit : (names : List (List ℕ)) (class : ℕ) (ss : List SlotRow) (m : ℕ) → AllOf (λ (s : SlotRow). InitformFound program s.initform) ss
      → AllOf ThingFits (flat_map (slot_things names class) (numbered ss m))
  slots_fit names class [] m h = tt
  slots_fit names class (s ∷ ss) m h =
      (λ n. content_fit names (initargs_list s) n, (λ n. initform_fits s.initform h.0, slots_fit names class ss (m + 1) h.1))

  all_slots_fit : (names : List (List ℕ)) (cs : List ClassRow) (m : ℕ)
      → AllOf (λ (c : ClassRow). AllOf (λ (s : SlotRow). InitformFound program s.initform) c.slots) cs
      → AllOf ThingFits (flat_map (λ (c : ClassRow × ℕ). flat_map (slot_things names c.1) (numbered c.0.slots 0)) (numbered cs m))
  all_slots_fit names [] m h = tt
  all_slots_fit names (c ∷ cs) m h =
      all_both ThingFits (flat_map (slot_things names m) (numbered c.slots 0)) _ (slots_fit names m c.slots 0 h.0) (all_slots_fit names cs (m + 1) h.1)

  pub start_fits : RowsAsked program → (names : List (List ℕ)) → ObjectsFit (objects_at_start names (tables program))
  start_fits rows names =
      let built_in : List Thing = class_things (range_with_len 0 built_in_classes) in
      let streams : List Thing = single input input_stream ∷ single output output_stream ∷ [] in
      let others : List Thing = class_things (range_with_len built_in_classes (length program.classes - built_in_classes)) in
      let functions : List Thing = function_things names program.functions in
      let literals : List Thing = literal_things names program.literals in
      let slots : List Thing =
      flat_map (λ (c : ClassRow × ℕ). flat_map (slot_things names c.1) (numbered c.0.slots 0)) (numbered program.classes 0) in
      let classes : AllOf ThingFits (built_in ++ streams) =
      all_both ThingFits built_in streams (classes_fit (range_with_len 0 built_in_classes)) (λ n. (tt, tt), (λ n. (tt, tt), tt)) in
      let with_others : AllOf ThingFits ((built_in ++ streams) ++ others) =
      all_both ThingFits (built_in ++ streams) others classes (classes_fit (range_with_len built_in_classes (length program.classes - built_in_classes))) in
      let with_functions : AllOf ThingFits (((built_in ++ streams) ++ others) ++ functions) =
      all_both ThingFits ((built_in ++ streams) ++ others) functions with_others (functions_fit names program.functions rows.callees) in
      let with_literals : AllOf ThingFits ((((built_in ++ streams) ++ others) ++ functions) ++ literals) =
      all_both ThingFits (((built_in ++ streams) ++ others) ++ functions) literals with_functions (literals_fit names (numbered program.literals 0)) in
      let all : AllOf ThingFits (things names (tables program)) =
      all_both ThingFits ((((built_in ++ streams) ++ others) ++ functions) ++ literals) slots with_literals (all_slots_fit names program.classes 0 rows.initforms) in
      objects_fit (laid_out (things names (tables program)) 0) (laid_fit (things names (tables program)) 0 all)
