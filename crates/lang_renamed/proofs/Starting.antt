-- The objects before the first form are the same in a renamed program, and so is what stands for classes, names, literals and slots.
use Rattle.std.specs.Prelude.{◌≡◌, ℕ, ◌+◌, ◌-◌, List, [], ◌∷◌, ◌++◌, Option, Some, length, map, option_map, flat_map, slice_get, refl}
use Rattle.std.specs.List.{range_with_len}
use Rattle.std.specs.Str.{bytes_eq}
use Rattle.std.specs.Option.{unwrap_or}
use Rattle.std.proofs.Common.{ap, sym, ◌∙◌}
use Rattle.std.proofs.lemmas.Option.{unwrap_or-slice_get}
use mathlib.Core.Path.{fun_ext}
use Rattle.base.specs.declared.datum.Name.{Name}
use Rattle.base.specs.declared.datum.Symbol.{Symbol}
use Rattle.base.specs.declared.datum.Symbol.TheVariants.{Named, Fresh}
use Rattle.base.specs.Data.{Item, item, Content, Items, no_item, item_and, items_of, Tail, no_tail, dotted}
use Rattle.base.specs.Data as datum
use Rattle.lang_meaning.specs.declared.program.FunctionRow.{FunctionRow}
use Rattle.lang_meaning.specs.declared.program.ClassRow.{ClassRow}
use Rattle.lang_meaning.specs.declared.program.SlotRow.{SlotRow}
use Rattle.lang_meaning.specs.declared.program.LiteralRow.{LiteralRow}
use Rattle.lang_meaning.specs.declared.program.LiteralRow.TheVariants as row
use Rattle.lang_meaning.specs.declared.program.ProgramRows.{ProgramRows}
use Rattle.lang_meaning.specs.Values.{Value, named, symbol}
use Rattle.lang_meaning.specs.Objects.{Object, cons, vector, input_stream, output_stream, built_in_classes}
use Rattle.lang_meaning.specs.State.{no_place}
use Rattle.lang_meaning.specs.Lookup.{text, numbered}
use Rattle.lang_meaning.specs.Literals.{Laid, after_parts, symbol_of, lay, lay_content, lay_items, lay_list, lay_tail, function_row}
use Rattle.lang_meaning.specs.InitialHeap.{Key, input, output, function_of, literal, initargs, initform, Keyed, Thing, single, class_things, function_object, function_things, literal_objects, literal_things, initargs_list, initform_objects, slot_things, things, laid_out, layout, objects_at_start, under_key, stands_for, literal_value}
use Rattle.lang_renamed.specs.Renaming.{KeepsTexts, name_by, names_by, symbol_by, item_by, content_by, items_by, tail_by, literal_by, function_by, slot_by, class_by, program_by}
use Rattle.lang_renamed.proofs.Lists.{both, if_by, length_by}

-- a text of one table is that of the other
pub text_by : (old new : List (List ℕ)) (m n : ℕ) → slice_get new m ≡ slice_get old n → text new m ≡ text old n
text_by old new m n e = sym (unwrap_or-slice_get new m []) ∙ ap (λ (o : Option (List ℕ)). unwrap_or o []) e ∙ unwrap_or-slice_get old n []

numbered_by : {X Y : Type 0} (f : X → Y) (xs : List X) (n : ℕ) → numbered (map f xs) n ≡ map (λ (x : X × ℕ). (f x.0, x.1)) (numbered xs n)
numbered_by f [] n = refl
numbered_by f (x ∷ xs) n = ap (λ ys. (f x, n) ∷ ys) (numbered_by f xs (n + 1))

mapped : {X Y Z : Type 0} (f : X → Y) (g : Y → Z) (h : X → Z) → ((x : X) → g (f x) ≡ h x) → (xs : List X) → map g (map f xs) ≡ map h xs
mapped f g h e [] = refl
mapped f g h e (x ∷ xs) = both (λ (y : _) (ys : List _). y ∷ ys) _ _ _ _ (e x) (mapped f g h e xs)

flat_mapped : {X Y Z : Type 0} (f : X → Y) (g : Y → List Z) (h : X → List Z) → ((x : X) → g (f x) ≡ h x) → (xs : List X) → flat_map g (map f xs) ≡ flat_map h xs
flat_mapped f g h e [] = refl
flat_mapped f g h e (x ∷ xs) = both (λ (ys zs : List _). ys ++ zs) _ _ _ _ (e x) (flat_mapped f g h e xs)

-- a cons behind its parts
abbrev joined : ℕ → Laid → Laid → Laid
joined n first others = after_parts n (first.objects ++ others.objects) (cons first.value others.value)

-- the value of a literal, by whether its datum makes objects
atom : (names : List (List ℕ)) (program : ProgramRows) (id : ℕ) (d : Item) → (lay names d 0).objects ≡ [] → literal_value names program id d ≡ (lay names d 0).value
atom names program id d e = rw e refl

of_objects : (names : List (List ℕ)) (program : ProgramRows) (id : ℕ) (d : Item) (o : Object) (os : List Object) (v : Value) → (lay names d 0).objects ≡ o ∷ os →
    stands_for names program (literal id) ≡ v → literal_value names program id d ≡ v
of_objects names program id d o os v e h = rw e h

module _ (r : ℕ → ℕ) (old new : List (List ℕ)) (w : KeepsTexts r old new) where
  -- ---- data

  symbol_text_by : (x : Symbol) → symbol_of new (symbol_by r x) ≡ symbol_of old x
  symbol_text_by (Named n) = ap named (w n.0)
  symbol_text_by (Fresh e s) = refl

  mutual
    pub lay_by : (d : Item) (n : ℕ) → lay new (item_by r d) n ≡ lay old d n
    lay_by (item p c) n = lay_content_by c n

    lay_content_by : (c : Content) (n : ℕ) → lay_content new (content_by r c) n ≡ lay_content old c n
    lay_content_by (datum.integer i) n = refl
    lay_content_by (datum.character c) n = refl
    lay_content_by (datum.symbol s) n = ap (λ x. record { objects = []; value = symbol x }) (symbol_text_by s)
    lay_content_by (datum.string bytes) n = refl
    lay_content_by (datum.vector ds) n = ap (λ (parts : List Object × List Value). after_parts n parts.0 (vector parts.1)) (lay_items_by ds n)
    lay_content_by datum.nil n = refl
    lay_content_by (datum.list ds end) n = lay_list_by ds (lay_tail new (tail_by r end)) (lay_tail old end) (lay_tail_by end) n

    lay_items_by : (ds : Items) (n : ℕ) → lay_items new (items_by r ds) n ≡ lay_items old ds n
    lay_items_by no_item n = refl
    lay_items_by (item_and d ds) n =
        ap (λ (first : Laid).
        (first.objects ++ (lay_items new (items_by r ds) (n + length first.objects)).0, first.value ∷ (lay_items new (items_by r ds) (n + length first.objects)).1)) (lay_by d n)
        ∙ ap (λ (others : List Object × List Value). ((lay old d n).objects ++ others.0, (lay old d n).value ∷ others.1)) (lay_items_by ds (n + length (lay old d n).objects))

    lay_list_by : (ds : Items) (end end2 : ℕ → Laid) → ((m : ℕ) → end m ≡ end2 m) → (n : ℕ) → lay_list new (items_by r ds) end n ≡ lay_list old ds end2 n
    lay_list_by no_item end end2 e n = e n
    lay_list_by (item_and d ds) end end2 e n =
        ap (λ (first : Laid). joined n first (lay_list new (items_by r ds) end (n + length first.objects))) (lay_by d n)
        ∙ ap (joined n (lay old d n)) (lay_list_by ds end end2 e (n + length (lay old d n).objects))

    lay_tail_by : (end : Tail) (n : ℕ) → lay_tail new (tail_by r end) n ≡ lay_tail old end n
    lay_tail_by no_tail n = refl
    lay_tail_by (dotted d) n = lay_by d n

  -- ---- things

  function_things_by : (fs : List FunctionRow) → function_things new (map (function_by r) fs) ≡ function_things old fs
  function_things_by fs = mapped (function_by r) _ _ (λ f. ap (λ name. single (function_of name) (function_object f.callee)) (w f.name.0)) fs

  literal_objects_by : (x : LiteralRow) (n : ℕ) → literal_objects new (literal_by r x) n ≡ literal_objects old x n
  literal_objects_by (row.Datum d) n = ap (λ (l : Laid). l.objects) (lay_by d n)
  literal_objects_by (row.Class c) n = refl
  literal_objects_by (row.Function name) n = refl

  literal_things_by : (xs : List LiteralRow) → literal_things new (map (literal_by r) xs) ≡ literal_things old xs
  literal_things_by xs =
      ap (map (λ (x : LiteralRow × ℕ). record { key = literal x.1; objects = literal_objects new x.0 })) (numbered_by (literal_by r) xs 0)
      ∙ mapped _ _ _ (λ (x : LiteralRow × ℕ). ap (λ (os : ℕ → List Object). record { key = literal x.1; objects = os }) (fun_ext (literal_objects_by x.0))) (numbered xs 0)

  initargs_items : (ns : List Name) → items_of (map (λ a. item no_place (datum.symbol (Named a))) (names_by r ns)) ≡ items_by r (items_of (map (λ a. item no_place (datum.symbol (Named a))) ns))
  initargs_items [] = refl
  initargs_items (n ∷ ns) = ap (λ ds. item_and (item no_place (datum.symbol (Named (name_by r n)))) ds) (initargs_items ns)

  initargs_by : (s : SlotRow) (n : ℕ) → (lay_content new (initargs_list (slot_by r s)) n).objects ≡ (lay_content old (initargs_list s) n).objects
  initargs_by s n =
      ap (λ ds. (lay_content new (datum.list ds no_tail) n).objects) (initargs_items s.initargs)
      ∙ ap (λ (l : Laid). l.objects) (lay_content_by (initargs_list s) n)

  slot_things_by : (c : ℕ) (s : SlotRow × ℕ) → slot_things new c (slot_by r s.0, s.1) ≡ slot_things old c s
  slot_things_by c s =
      ap (λ (os : ℕ → List Object). record { key = initargs c s.1; objects = os } ∷ record { key = initform c s.1; objects = λ n. initform_objects s.0.initform } ∷ [])
      (fun_ext (initargs_by s.0))

  class_slots_by : (c : ClassRow × ℕ) → flat_map (slot_things new c.1) (numbered (map (slot_by r) c.0.slots) 0) ≡ flat_map (slot_things old c.1) (numbered c.0.slots 0)
  class_slots_by c =
      ap (flat_map (slot_things new c.1)) (numbered_by (slot_by r) c.0.slots 0)
      ∙ flat_mapped (λ (s : SlotRow × ℕ). (slot_by r s.0, s.1)) (slot_things new c.1) (slot_things old c.1) (slot_things_by c.1) (numbered c.0.slots 0)

  all_slots_by : (cs : List ClassRow) →
      flat_map (λ (c : ClassRow × ℕ). flat_map (slot_things new c.1) (numbered c.0.slots 0)) (numbered (map (class_by r) cs) 0)
      ≡ flat_map (λ (c : ClassRow × ℕ). flat_map (slot_things old c.1) (numbered c.0.slots 0)) (numbered cs 0)
  all_slots_by cs =
      ap (flat_map (λ (c : ClassRow × ℕ). flat_map (slot_things new c.1) (numbered c.0.slots 0))) (numbered_by (class_by r) cs 0)
      ∙ flat_mapped (λ (c : ClassRow × ℕ). (class_by r c.0, c.1)) (λ (c : ClassRow × ℕ). flat_map (slot_things new c.1) (numbered c.0.slots 0)) _ class_slots_by (numbered cs 0)

  module _ (p : ProgramRows) where
    things_by : things new (program_by r p) ≡ things old p
    things_by =
        both (λ (ts us : List Thing). ts ++ us) _ _ _ _
        (both (λ (ts us : List Thing). ts ++ us) _ _ _ _
        (both (λ (ts us : List Thing). ts ++ us) _ _ _ _
        (ap (λ (n : ℕ). class_things (range_with_len 0 built_in_classes) ++ (single input input_stream ∷ single output output_stream ∷ []) ++ class_things (range_with_len built_in_classes (n - built_in_classes)))
        (length_by (class_by r) p.classes))
        (function_things_by p.functions)) (literal_things_by p.literals)) (all_slots_by p.classes)

    pub layout_by : layout new (program_by r p) ≡ layout old p
    layout_by = ap (λ ts. laid_out ts 0) things_by

    pub start_by : objects_at_start new (program_by r p) ≡ objects_at_start old p
    start_by = ap (map (λ (k : Keyed). k.object)) layout_by

    pub stands_by : (key : Key) → stands_for new (program_by r p) key ≡ stands_for old p key
    stands_by key = ap (λ ks. under_key key ks 0) layout_by

    pub literal_value_by : (id : ℕ) (d : Item) → literal_value new (program_by r p) id (item_by r d) ≡ literal_value old p id d
    literal_value_by id d = by (lay old d 0).objects refl
      where
        there : (lay new (item_by r d) 0).objects ≡ (lay old d 0).objects
        there = ap (λ (l : Laid). l.objects) (lay_by d 0)

        by : (os : List Object) → (lay old d 0).objects ≡ os → literal_value new (program_by r p) id (item_by r d) ≡ literal_value old p id d
        by [] e =
            atom new (program_by r p) id (item_by r d) (there ∙ e) ∙ ap (λ (l : Laid). l.value) (lay_by d 0) ∙ sym (atom old p id d e)
        by (o ∷ os) e =
            of_objects new (program_by r p) id (item_by r d) o os (stands_for old p (literal id)) (there ∙ e) (stands_by (literal id))
            ∙ sym (of_objects old p id d o os (stands_for old p (literal id)) e refl)

  -- the row of a function
  pub row_by : (fs : List FunctionRow) (name : List ℕ) → function_row new (map (function_by r) fs) name ≡ option_map (function_by r) (function_row old fs name)
  row_by [] name = refl
  row_by (f ∷ fs) name = if_by (option_map (function_by r)) (bytes_eq name (text new (r f.name.0))) (bytes_eq name (text old f.name.0)) _ _ (Some f) _ (ap (bytes_eq name) (w f.name.0)) refl (row_by fs name)
