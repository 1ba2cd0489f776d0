-- The row of the form that defines a class, for renamed data and tables.
use Rattle.std.specs.Prelude.{◌≡◌, ℕ, ◌+◌, nat_le, nat_lt, Bool, true, false, not, ◌&&◌, ◌||◌, List, [], ◌∷◌, ◌++◌, Option, Some, None, length, is_some, map, flat_map, option_map, codes, refl}
use Rattle.std.specs.List.{list_any, list_all, filter_map}
use Rattle.std.proofs.Common.{ap, sym, ◌∙◌}
use Rattle.std.proofs.lemmas.List.{map-append}
use Rattle.base.specs.declared.place.Place.{Place}
use Rattle.base.specs.declared.datum.Name.{Name}
use Rattle.base.specs.declared.datum.Symbol.{Symbol}
use Rattle.base.specs.declared.datum.Symbol.TheVariants.{Named, Fresh}
use Rattle.base.specs.declared.reason.Reason.TheVariants.{LeftOut, BadSupers, BadSlot, BadMethod}
use Rattle.base.specs.Data.{Item, item, integer, character, symbol, string, vector, nil, list, place_of}
use Rattle.base.specs.DataNames.{symbol_text}
use Rattle.lang_meaning.specs.declared.program.ClassRow.{ClassRow}
use Rattle.lang_meaning.specs.declared.program.GenericRow.{GenericRow}
use Rattle.lang_classes.specs.declared.slot_spec.SlotSpec.{SlotSpec}
use Rattle.lang_classes.specs.Given.{is_wrong}
use Rattle.lang_classes.specs.InheritedClasses.{class_named, inherited_names, slot_limit}
use Rattle.lang_classes.specs.InheritedPrecedence.{supers_fit}
use Rattle.lang_classes.specs.InheritedSlots.{same_name, each_first}
use Rattle.lang_derived.specs.Asked.{list_items, is_word}
use Rattle.front_profile.specs.declared.elaboration.Accessor.{Accessor}
use Rattle.front_profile.specs.declared.elaboration.Accessor.TheVariants.{Reads, Writes, Asks}
use Rattle.front_profile.specs.declared.elaboration.SlotFunction.{SlotFunction}
use Rattle.front_profile.specs.declared.elaboration.Elaboration.TheVariants.{OfClass}
use Rattle.front_profile.specs.declared.tables.Tables.{Tables}
use Rattle.front_profile.specs.Nodes.{StaticContext, wrong, offends, unnamed, whole}
use Rattle.front_profile.specs.Shapes.{symbol_of, name_of}
use Rattle.front_profile.specs.RowWords.{bad_shape}
use Rattle.front_profile.specs.Elaborations.{generic_named}
use Rattle.front_profile.specs.DefiningRows.{named, with_name, named_form}
use Rattle.front_profile.specs.GivenNames.{GivenName, no_name, unfit, lacking, given, given_name, setter_of_text}
use Rattle.front_profile.specs.ClassShapes.{SlotOption, wrong_option, initform_of, initarg_of, method_of, accessor_of, initarg_by, method_by, accessor_with, accessor_by, slot_option, option_and, slot_options, WrittenSlot, slot_with, name_in, slot_in_list, slot_by, slot_and, each_slot, slots_in, WrittenSuper, super_and, each_super, supers_in, ClassOption, no_option, abstract, is_nil, abstract_option, is_left_out_option, class_option, class_options, are_options, is_of_left_out, is_abstract}
use Rattle.front_profile.specs.ClassRows.{Function, for_initform, for_method, functions_of_option, functions_of, all_functions, Use, use_of, uses, is_lacking, is_of_function, is_kept_name, takes_it, row_named, fits_generic, names_differ, known_supers, unknown_names, some_twice, place_unless, first_unknown_super, are_supers, few_inherited, is_wrong_option, initform_in, initarg_in, has_wrong_options, part_of, slot_parts, class_parts, initform_from, slot_spec, slot_specs, slot_function, slot_functions, class_made, class_in_text, class_of_prelude, is_taken_class, is_reserved_class, class_checked, class_of, class_shaped, defclass_row}
use Rattle.front_profile.specs.GenericRows.{unless_unknown}
use Rattle.lang_renamed.specs.Renaming.{name_by, names_by, symbol_by, item_by, class_by, generic_by, procedure_by}
use Rattle.front_laws.specs.Renaming.{Renames}
use Rattle.front_laws.proofs.RenamedTables.{data_by, context_by, tables_by, part_by, parts_by, leaf_by, slot_function_by, spec_by, node_by}
use Rattle.lang_renamed.proofs.Lists.{both, three, if_by, if_same, and_same, or_same, any_by, all_by, length_by, get_by, flat_by, chosen_by}
use Rattle.front_laws.proofs.RenamedData.{place_by, symbol_of_by, name_of_by, list_items_by, symbol_text_by, word_by}
use Rattle.front_laws.proofs.RenamedTexts.{FindsNames}
use Rattle.front_laws.proofs.RenamedShapes.{chosen_same}
use Rattle.front_laws.proofs.RenamedNodes.{within_by, both_parts, with_name_by, named_form_by}
use Rattle.front_laws.proofs.RenamedForms.{class_named_by}
use Rattle.front_laws.proofs.RenamedBinders.{named_at, prelude_by, has_function_by, truth_by, defining_by}
use Rattle.front_laws.proofs.RenamedMethods.{given_by, setter_of_text_by, given_name_by, unknown_parts_by, keeps_by, generic_of_name}
use Rattle.front_laws.proofs.RenamedHierarchies.{fit_by_rows, inherited_by, same_name_by, each_first_by, wrong_by}

module _ (r : ℕ → ℕ) where
  abbrev pub option_by : SlotOption → SlotOption
  option_by wrong_option = wrong_option
  option_by (initform_of d) = initform_of (item_by r d)
  option_by (initarg_of n) = initarg_of (name_by r n)
  option_by (method_of k g) = method_of k (given_by r g)
  option_by (accessor_of n g) = accessor_of (name_by r n) (given_by r g)

  abbrev pub options_by : List SlotOption → List SlotOption
  options_by os = map option_by os

  abbrev pub written_slot_by : WrittenSlot → WrittenSlot
  written_slot_by x = record { place = x.place; name = name_by r x.name; options = options_by x.options }

  abbrev pub written_slots_by : List WrittenSlot → List WrittenSlot
  written_slots_by xs = map written_slot_by xs

  abbrev pub super_by : WrittenSuper → WrittenSuper
  super_by c = record { name = name_by r c.name; place = c.place }

  abbrev pub supers_by : List WrittenSuper → List WrittenSuper
  supers_by cs = map super_by cs

  abbrev pub slot_function_of : Function → Function
  slot_function_of (for_initform d) = for_initform (item_by r d)
  slot_function_of (for_method g k) = for_method (given_by r g) k

  abbrev pub use_by : Use → Use
  use_by u = record { name = name_by r u.name; arguments = u.arguments }

  -- ---- options of the class

  nil_by : (d : Item) → is_nil (item_by r d) ≡ is_nil d
  nil_by (item p (integer n)) = refl
  nil_by (item p (character c)) = refl
  nil_by (item p (symbol x)) = refl
  nil_by (item p (string bytes)) = refl
  nil_by (item p (vector ds)) = refl
  nil_by (item p nil) = refl
  nil_by (item p (list ds t)) = refl

  -- ---- functions of slots

  functions_of_option_by : (o : SlotOption) → functions_of_option (option_by o) ≡ map slot_function_of (functions_of_option o)
  functions_of_option_by wrong_option = refl
  functions_of_option_by (initform_of d) = refl
  functions_of_option_by (initarg_of n) = refl
  functions_of_option_by (method_of k g) = refl
  functions_of_option_by (accessor_of n g) = refl

  functions_of_by : (x : WrittenSlot) → functions_of (written_slot_by x) ≡ map slot_function_of (functions_of x)
  functions_of_by x = flat_by option_by slot_function_of functions_of_option functions_of_option functions_of_option_by x.options

  all_functions_by : (xs : List WrittenSlot) → all_functions (written_slots_by xs) ≡ map slot_function_of (all_functions xs)
  all_functions_by xs = flat_by written_slot_by slot_function_of functions_of functions_of functions_of_by xs

  use_of_by : (f : Function) → use_of (slot_function_of f) ≡ option_map use_by (use_of f)
  use_of_by (for_initform d) = refl
  use_of_by (for_method no_name k) = refl
  use_of_by (for_method unfit k) = refl
  use_of_by (for_method lacking k) = refl
  use_of_by (for_method (given n) k) = refl

  uses_by : (xs : List WrittenSlot) → uses (written_slots_by xs) ≡ map use_by (uses xs)
  uses_by xs = ap (filter_map use_of) (all_functions_by xs) ∙ chosen_by slot_function_of use_by use_of use_of use_of_by (all_functions xs)

  is_lacking_by : (f : Function) → is_lacking (slot_function_of f) ≡ is_lacking f
  is_lacking_by (for_initform d) = refl
  is_lacking_by (for_method no_name k) = refl
  is_lacking_by (for_method unfit k) = refl
  is_lacking_by (for_method lacking k) = refl
  is_lacking_by (for_method (given n) k) = refl

  lacking_by : (xs : List WrittenSlot) → list_any is_lacking (all_functions (written_slots_by xs)) ≡ list_any is_lacking (all_functions xs)
  lacking_by xs = ap (list_any is_lacking) (all_functions_by xs) ∙ any_by slot_function_of is_lacking is_lacking is_lacking_by (all_functions xs)

  -- ---- wrong slots

  wrong_option_by : (o : SlotOption) → is_wrong_option (option_by o) ≡ is_wrong_option o
  wrong_option_by wrong_option = refl
  wrong_option_by (initform_of d) = refl
  wrong_option_by (initarg_of n) = refl
  wrong_option_by (method_of k g) = refl
  wrong_option_by (accessor_of n g) = refl

  initform_in_by : (o : SlotOption) → initform_in (option_by o) ≡ option_map (item_by r) (initform_in o)
  initform_in_by wrong_option = refl
  initform_in_by (initform_of d) = refl
  initform_in_by (initarg_of n) = refl
  initform_in_by (method_of k g) = refl
  initform_in_by (accessor_of n g) = refl

  initarg_in_by : (o : SlotOption) → initarg_in (option_by o) ≡ option_map (name_by r) (initarg_in o)
  initarg_in_by wrong_option = refl
  initarg_in_by (initform_of d) = refl
  initarg_in_by (initarg_of n) = refl
  initarg_in_by (method_of k g) = refl
  initarg_in_by (accessor_of n g) = refl

  has_wrong_by : (x : WrittenSlot) → has_wrong_options (written_slot_by x) ≡ has_wrong_options x
  has_wrong_by x =
      or_same _ _ _ _ (any_by option_by is_wrong_option is_wrong_option wrong_option_by x.options)
      (ap (λ (n : ℕ). nat_lt 1 n)
      (ap (λ (ds : List Item). length ds) (chosen_by option_by (item_by r) initform_in initform_in initform_in_by x.options) ∙ length_by (item_by r) (filter_map initform_in x.options)))

  -- ---- what is made of slots

  part_of_by : (x : WrittenSlot) (f : Function) → part_of (written_slot_by x) (slot_function_of f) ≡ parts_by r (part_of x f)
  part_of_by x (for_initform d) = refl
  part_of_by x (for_method no_name k) = refl
  part_of_by x (for_method unfit k) = refl
  part_of_by x (for_method lacking k) = refl
  part_of_by x (for_method (given n) k) = refl

  slot_parts_of_by : (x : WrittenSlot) → flat_map (part_of (written_slot_by x)) (functions_of (written_slot_by x)) ≡ parts_by r (flat_map (part_of x) (functions_of x))
  slot_parts_of_by x =
      ap (flat_map (part_of (written_slot_by x))) (functions_of_by x)
      ∙ flat_by slot_function_of (part_by r) (part_of (written_slot_by x)) (part_of x) (part_of_by x) (functions_of x)

  initform_from_by : (p : ℕ) (fs : List Function) → initform_from p (map slot_function_of fs) ≡ initform_from p fs
  initform_from_by p [] = refl
  initform_from_by p (for_initform d ∷ fs) = refl
  initform_from_by p (for_method g k ∷ fs) = initform_from_by (p + 1) fs

  slot_spec_by : (p : ℕ) (x : WrittenSlot) → slot_spec p (written_slot_by x) ≡ spec_by r (slot_spec p x)
  slot_spec_by p x =
      both (λ (ns : List Name) (o : Option ℕ). record { place = x.place; name = name_by r x.name; initargs = ns; initform = o }) _ _ _ _
      (chosen_by option_by (name_by r) initarg_in initarg_in initarg_in_by x.options)
      (ap (initform_from p) (functions_of_by x) ∙ initform_from_by p (functions_of x))

  slot_specs_by : (p : ℕ) (xs : List WrittenSlot) → slot_specs p (written_slots_by xs) ≡ map (spec_by r) (slot_specs p xs)
  slot_specs_by p [] = refl
  slot_specs_by p (x ∷ xs) =
      both (λ (s : SlotSpec) (ss : List SlotSpec). s ∷ ss) _ _ _ _ (slot_spec_by p x)
      (ap (λ (n : ℕ). slot_specs (p + n) (written_slots_by xs)) (ap (λ (fs : List Function). length fs) (functions_of_by x) ∙ length_by slot_function_of (functions_of x))
      ∙ slot_specs_by (p + length (functions_of x)) xs)

  slot_function_by_of : (f : Function) → slot_function (slot_function_of f) ≡ map (slot_function_by r) (slot_function f)
  slot_function_by_of (for_initform d) = refl
  slot_function_by_of (for_method no_name k) = refl
  slot_function_by_of (for_method unfit k) = refl
  slot_function_by_of (for_method lacking k) = refl
  slot_function_by_of (for_method (given n) k) = refl

  slot_functions_by : (xs : List WrittenSlot) → slot_functions (written_slots_by xs) ≡ map (slot_function_by r) (slot_functions xs)
  slot_functions_by xs =
      ap (flat_map slot_function) (all_functions_by xs) ∙ flat_by slot_function_of (slot_function_by r) slot_function slot_function slot_function_by_of (all_functions xs)

module _ (r : ℕ → ℕ) (old new : List (List ℕ)) (w : Renames r old new) (table : FindsNames r old new) where
  -- ---- slots as they are written

  initarg_same : (x : Option Symbol) → initarg_by (option_map (symbol_by r) x) ≡ option_map (option_by r) (initarg_by x)
  initarg_same None = refl
  initarg_same (Some (Named n)) = refl
  initarg_same (Some (Fresh e s)) = refl

  method_same : (k : Accessor) (g : GivenName) → method_by k (given_by r g) ≡ option_map (option_by r) (method_by k g)
  method_same k no_name = refl
  method_same k unfit = refl
  method_same k lacking = refl
  method_same k (given n) = refl

  accessor_with_by : (n : Name) (g : GivenName) → accessor_with (name_by r n) (given_by r g) ≡ option_by r (accessor_with n g)
  accessor_with_by n no_name = refl
  accessor_with_by n unfit = refl
  accessor_with_by n lacking = refl
  accessor_with_by n (given m) = refl

  accessor_same : (x : Option Symbol) → accessor_by new (option_map (symbol_by r) x) ≡ option_map (option_by r) (accessor_by old x)
  accessor_same None = refl
  accessor_same (Some (Named n)) =
      ap (λ o. Some o)
      (ap (accessor_with (name_by r n)) (ap (setter_of_text new) (symbol_text_by r old new w (Named n)) ∙ setter_of_text_by r old new w table (symbol_text old (Named n)))
      ∙ accessor_with_by n (setter_of_text old (symbol_text old (Named n))))
  accessor_same (Some (Fresh e s)) = refl

  given_method : (k : Accessor) (d : Item) → method_by k (given_name new (item_by r d)) ≡ option_map (option_by r) (method_by k (given_name old d))
  given_method k d = ap (method_by k) (given_name_by r old new w table d) ∙ method_same k (given_name old d)

  slot_option_by : (o d : Item) → slot_option new (item_by r o) (item_by r d) ≡ option_map (option_by r) (slot_option old o d)
  slot_option_by o d =
      if_by (option_map (option_by r)) _ (is_word old (codes ":initform") o) _ _ (Some (initform_of d)) _ (word_by r old new w (codes ":initform") o) refl
      (if_by (option_map (option_by r)) _ (is_word old (codes ":initarg") o) _ _ _ _ (word_by r old new w (codes ":initarg") o)
      (ap initarg_by (symbol_of_by r d) ∙ initarg_same (symbol_of d))
      (if_by (option_map (option_by r)) _ (is_word old (codes ":reader") o) _ _ _ _ (word_by r old new w (codes ":reader") o) (given_method Reads d)
      (if_by (option_map (option_by r)) _ (is_word old (codes ":writer") o) _ _ _ _ (word_by r old new w (codes ":writer") o) (given_method Writes d)
      (if_by (option_map (option_by r)) _ (is_word old (codes ":boundp") o) _ _ _ _ (word_by r old new w (codes ":boundp") o) (given_method Asks d)
      (if_by (option_map (option_by r)) _ (is_word old (codes ":accessor") o) _ _ _ (Some wrong_option) (word_by r old new w (codes ":accessor") o)
      (ap (accessor_by new) (symbol_of_by r d) ∙ accessor_same (symbol_of d)) refl)))))

  option_and_by : (o : Option SlotOption) (os : Option (List SlotOption)) → option_and (option_map (option_by r) o) (option_map (options_by r) os) ≡ option_map (options_by r) (option_and o os)
  option_and_by None os = refl
  option_and_by (Some o) None = refl
  option_and_by (Some o) (Some os) = refl

  slot_options_by : (ds : List Item) → slot_options new (data_by r ds) ≡ option_map (options_by r) (slot_options old ds)
  slot_options_by [] = refl
  slot_options_by (o ∷ []) = refl
  slot_options_by (o ∷ d ∷ ds) = both option_and _ _ _ _ (slot_option_by o d) (slot_options_by ds) ∙ option_and_by (slot_option old o d) (slot_options old ds)

  slot_with_by : (p : Place) (n : Option Name) (os : Option (List SlotOption)) → slot_with p (option_map (name_by r) n) (option_map (options_by r) os) ≡ option_map (written_slot_by r) (slot_with p n os)
  slot_with_by p None os = refl
  slot_with_by p (Some n) None = refl
  slot_with_by p (Some n) (Some os) = refl

  name_in_by : (x : Option Symbol) → name_in (option_map (symbol_by r) x) ≡ option_map (name_by r) (name_in x)
  name_in_by None = refl
  name_in_by (Some x) = name_of_by r x

  name_at : (d : Item) → name_in (symbol_of (item_by r d)) ≡ option_map (name_by r) (name_in (symbol_of d))
  name_at d = ap name_in (symbol_of_by r d) ∙ name_in_by (symbol_of d)

  slot_list_by : (p : Place) (ds : Option (List Item)) → slot_in_list new p (option_map (data_by r) ds) ≡ option_map (written_slot_by r) (slot_in_list old p ds)
  slot_list_by p None = refl
  slot_list_by p (Some []) = refl
  slot_list_by p (Some (d ∷ ds)) = both (slot_with p) _ _ _ _ (name_at d) (slot_options_by ds) ∙ slot_with_by p (name_in (symbol_of d)) (slot_options old ds)

  slot_by_by : (d : Item) (x : Option Symbol) → slot_by new (item_by r d) (option_map (symbol_by r) x) ≡ option_map (written_slot_by r) (slot_by old d x)
  slot_by_by d None = both (slot_in_list new) _ _ _ _ (place_by r d) (list_items_by r d) ∙ slot_list_by (place_of d) (list_items d)
  slot_by_by d (Some x) = both (λ p o. slot_with p o (Some [])) _ _ _ _ (place_by r d) (name_of_by r x) ∙ slot_with_by (place_of d) (name_of x) (Some [])

  slot_and_by : (x : Option WrittenSlot) (xs : Option (List WrittenSlot)) →
      slot_and (option_map (written_slot_by r) x) (option_map (written_slots_by r) xs) ≡ option_map (written_slots_by r) (slot_and x xs)
  slot_and_by None xs = refl
  slot_and_by (Some x) None = refl
  slot_and_by (Some x) (Some xs) = refl

  each_slot_by : (ds : List Item) → each_slot new (data_by r ds) ≡ option_map (written_slots_by r) (each_slot old ds)
  each_slot_by [] = refl
  each_slot_by (d ∷ ds) =
      both slot_and _ _ _ _ (ap (slot_by new (item_by r d)) (symbol_of_by r d) ∙ slot_by_by d (symbol_of d)) (each_slot_by ds) ∙ slot_and_by (slot_by old d (symbol_of d)) (each_slot old ds)

  slots_of_items : (ds : Option (List Item)) → slots_in new (option_map (data_by r) ds) ≡ option_map (written_slots_by r) (slots_in old ds)
  slots_of_items None = refl
  slots_of_items (Some ds) = each_slot_by ds

  slots_in_by : (d : Item) → slots_in new (list_items (item_by r d)) ≡ option_map (written_slots_by r) (slots_in old (list_items d))
  slots_in_by d = ap (slots_in new) (list_items_by r d) ∙ slots_of_items (list_items d)

  -- ---- superclasses as they are written

  super_and_by : (p : Place) (n : Option Name) (cs : Option (List WrittenSuper)) →
      super_and p (option_map (name_by r) n) (option_map (supers_by r) cs) ≡ option_map (supers_by r) (super_and p n cs)
  super_and_by p None cs = refl
  super_and_by p (Some n) None = refl
  super_and_by p (Some n) (Some cs) = refl

  each_super_by : (ds : List Item) → each_super (data_by r ds) ≡ option_map (supers_by r) (each_super ds)
  each_super_by [] = refl
  each_super_by (d ∷ ds) =
      three super_and _ _ _ _ _ _ (place_by r d) (name_at d) (each_super_by ds) ∙ super_and_by (place_of d) (name_in (symbol_of d)) (each_super ds)

  supers_of_items : (ds : Option (List Item)) → supers_in (option_map (data_by r) ds) ≡ option_map (supers_by r) (supers_in ds)
  supers_of_items None = refl
  supers_of_items (Some ds) = each_super_by ds

  supers_in_by : (d : Item) → supers_in (list_items (item_by r d)) ≡ option_map (supers_by r) (supers_in (list_items d))
  supers_in_by d = ap supers_in (list_items_by r d) ∙ supers_of_items (list_items d)

  -- ---- options of the class

  abstract_by : (ds : List Item) → abstract_option new (data_by r ds) ≡ abstract_option old ds
  abstract_by [] = refl
  abstract_by (d ∷ []) = if_same _ _ (abstract true) _ (abstract true) _ (word_by r old new w (codes "t") d) refl (if_same _ _ (abstract false) no_option (abstract false) no_option (nil_by r d) refl refl)
  abstract_by (d ∷ e ∷ ds) = refl

  left_out_by : (h : Item) → is_left_out_option new (item_by r h) ≡ is_left_out_option old h
  left_out_by h =
      three (λ (a b c : Bool). a || b || c) _ _ _ _ _ _
      (word_by r old new w (codes ":metaclass") h) (word_by r old new w (codes ":generic-function-class") h) (word_by r old new w (codes ":method-combination") h)

  class_option_by : (ds : Option (List Item)) → class_option new (option_map (data_by r) ds) ≡ class_option old ds
  class_option_by None = refl
  class_option_by (Some []) = refl
  class_option_by (Some (h ∷ ds)) =
      if_same _ _ _ _ _ _ (word_by r old new w (codes ":abstractp") h) (abstract_by ds) (if_same _ _ _ no_option _ no_option (left_out_by h) refl refl)

  class_options_by : (ds : List Item) → class_options new (data_by r ds) ≡ class_options old ds
  class_options_by [] = refl
  class_options_by (d ∷ ds) =
      both (λ (o : ClassOption) (os : List ClassOption). o ∷ os) _ _ _ _ (ap (class_option new) (list_items_by r d) ∙ class_option_by (list_items d)) (class_options_by ds)

  -- ---- what stands in the way of a name

  of_function_by : (a : StaticContext) (s : Tables) (u : Use) → is_of_function (context_by r a) (tables_by r s) (use_by r u) ≡ is_of_function a s u
  of_function_by a s u =
      three (λ (x y z : Bool). x && not y && not (a.spot.sited && z)) _ _ _ _ _ _ (has_function_by r old new w s u.name)
      (ap (λ (o : Option ℕ). is_some o) (generic_of_name r old new w table s.generics u.name)) (prelude_by r old new w s u.name)

  kept_name_by : (a : StaticContext) (s : Tables) (u : Use) → is_kept_name new (context_by r a) (tables_by r s) (use_by r u) ≡ is_kept_name old a s u
  kept_name_by a s u =
      three (λ (x y z : Bool). x || (a.spot.sited && (y || z))) _ _ _ _ _ _ (truth_by r old new w a s u.name) (keeps_by r old new w table u.name) (prelude_by r old new w s u.name)

  takes_by : (n : ℕ) (g : Option GenericRow) → takes_it n (option_map (generic_by r) g) ≡ takes_it n g
  takes_by n None = refl
  takes_by n (Some g) = refl

  row_named_by : (gs : List GenericRow) (g : Option ℕ) → row_named (map (generic_by r) gs) g ≡ option_map (generic_by r) (row_named gs g)
  row_named_by gs None = refl
  row_named_by gs (Some g) = get_by (generic_by r) gs g

  fits_by : (s : Tables) (u : Use) → fits_generic (tables_by r s) (use_by r u) ≡ fits_generic s u
  fits_by s u =
      ap (takes_it u.arguments) (ap (row_named (map (generic_by r) s.generics)) (generic_of_name r old new w table s.generics u.name) ∙ row_named_by s.generics (generic_named s.generics u.name))
      ∙ takes_by u.arguments (row_named s.generics (generic_named s.generics u.name))

  differ_by : (us : List Use) → names_differ (map (use_by r) us) ≡ names_differ us
  differ_by [] = refl
  differ_by (u ∷ us) =
      and_same _ _ _ _
      (ap not (any_by (use_by r) (λ v. same_name (name_by r u.name) v.name) (λ v. same_name u.name v.name) (λ v. same_name_by r old new w u.name v.name) us)) (differ_by us)

  -- ---- superclasses

  known_by : (rows : List ClassRow) (cs : List WrittenSuper) → known_supers (map (class_by r) rows) (supers_by r cs) ≡ known_supers rows cs
  known_by rows cs =
      chosen_same (super_by r) (λ c. class_named (map (class_by r) rows) c.name) (λ c. class_named rows c.name) (λ c. class_named_by r old new w rows c.name) cs

  first_super_by : (rows : List ClassRow) (cs : List WrittenSuper) → first_unknown_super (map (class_by r) rows) (supers_by r cs) ≡ first_unknown_super rows cs
  first_super_by rows [] = refl
  first_super_by rows (c ∷ cs) = both (place_unless c.place) _ _ _ _ (class_named_by r old new w rows c.name) (first_super_by rows cs)

  twice_by : (ns : List Name) → some_twice (names_by r ns) ≡ some_twice ns
  twice_by [] = refl
  twice_by (n ∷ ns) = or_same _ _ _ _ (any_by (name_by r) (same_name (name_by r n)) (same_name n) (same_name_by r old new w n) ns) (twice_by ns)

  few_by : (s : Tables) (cs : List WrittenSuper) → few_inherited (tables_by r s) (supers_by r cs) ≡ few_inherited s cs
  few_by s cs =
      ap (λ (n : ℕ). nat_le n slot_limit)
      (ap (λ ns. length (each_first ns))
      (ap (inherited_names (tables_by r s).classes) (known_by s.classes.rows cs) ∙ inherited_by r s.classes (known_supers s.classes.rows cs))
      ∙ ap (λ (ns : List Name). length ns) (each_first_by r old new w (inherited_names s.classes (known_supers s.classes.rows cs)))
      ∙ length_by (name_by r) (each_first (inherited_names s.classes (known_supers s.classes.rows cs))))

  -- ---- parts

  slot_parts_by : (inherited earlier : List Name) (xs : List WrittenSlot) → slot_parts (names_by r inherited) (names_by r earlier) (written_slots_by r xs) ≡ parts_by r (slot_parts inherited earlier xs)
  slot_parts_by inherited earlier [] = refl
  slot_parts_by inherited earlier (x ∷ xs) =
      if_by (parts_by r) _ (has_wrong_options x || is_wrong x.name earlier (each_first (inherited ++ earlier))) _ _ (wrong x.place BadSlot ∷ []) _
      (or_same _ _ _ _ (has_wrong_by r x)
      (ap (is_wrong (name_by r x.name) (names_by r earlier)) (ap each_first (sym (map-append (name_by r) inherited earlier)) ∙ each_first_by r old new w (inherited ++ earlier))
      ∙ wrong_by r old new w x.name earlier (each_first (inherited ++ earlier))))
      refl
      (both_parts r _ _ (flat_map (part_of x) (functions_of x)) (slot_parts inherited (earlier ++ x.name ∷ []) xs) (slot_parts_of_by r x)
      (ap (λ ns. slot_parts (names_by r inherited) ns (written_slots_by r xs)) (sym (map-append (name_by r) earlier (x.name ∷ [])))
      ∙ slot_parts_by inherited (earlier ++ x.name ∷ []) xs))

  class_parts_by : (s : Tables) (cs : List WrittenSuper) (xs : List WrittenSlot) → class_parts (tables_by r s) (supers_by r cs) (written_slots_by r xs) ≡ parts_by r (class_parts s cs xs)
  class_parts_by s cs xs =
      both (λ p ns. unless_unknown p (slot_parts ns [] (written_slots_by r xs))) _ _ _ _ (first_super_by s.classes.rows cs)
      (ap (inherited_names (tables_by r s).classes) (known_by s.classes.rows cs) ∙ inherited_by r s.classes (known_supers s.classes.rows cs))
      ∙ unknown_parts_by r old new w table (first_unknown_super s.classes.rows cs) _ (slot_parts (inherited_names s.classes (known_supers s.classes.rows cs)) [] xs)
      (slot_parts_by (inherited_names s.classes (known_supers s.classes.rows cs)) [] xs)

  -- ---- defclass

  class_made_by : (a : StaticContext) (s : Tables) (d : Item) (n : Name) (cs : List WrittenSuper) (xs : List WrittenSlot) (os : List ClassOption) →
      class_made (context_by r a) (tables_by r s) (item_by r d) (name_by r n) (supers_by r cs) (written_slots_by r xs) os ≡ node_by r (class_made a s d n cs xs os)
  class_made_by a s d n cs xs os =
      let count : length (map (procedure_by r) s.procedures) ≡ length s.procedures = length_by (procedure_by r) s.procedures in
      let class = three (λ (ks : List ℕ) (ss : List SlotSpec) (fs : List SlotFunction).
      record { name = name_by r n; supers = ks; abstract_class = is_abstract os; slots = ss; functions = fs }) _ _ _ _ _ _
      (known_by s.classes.rows cs)
      (ap (λ (i : ℕ). slot_specs i (written_slots_by r xs)) count ∙ slot_specs_by r (length s.procedures) xs) (slot_functions_by r xs) in
      three (λ c (i : ℕ) l. whole (context_by r a) (context_by r a) (with_name a.spot.sited (item_by r d) (tables_by r s)) (class_parts (tables_by r s) (supers_by r cs) (written_slots_by r xs))
      (record { site = None; making = OfClass c i a.spot.sited l })) _ _ _ _ _ _ class count (named_form_by r a.spot.sited s)
      ∙ both (λ t ys. whole (context_by r a) (context_by r a) t ys
      (record {
        site = None;
        making = OfClass (record {
          name = name_by r n;
          supers = known_supers s.classes.rows cs;
          abstract_class = is_abstract os;
          slots = map (spec_by r) (slot_specs (length s.procedures) xs);
          functions = map (slot_function_by r) (slot_functions xs);
        }) (length s.procedures) a.spot.sited (leaf_by r (named_form a.spot.sited s));
      })) _ _ _ _ (with_name_by r a.spot.sited d s) (class_parts_by s cs xs)

  taken_class_by : (a : StaticContext) (s : Tables) (n : Name) → is_taken_class (context_by r a) (tables_by r s) (name_by r n) ≡ is_taken_class a s n
  taken_class_by a s n = ap (class_in_text a.spot.sited s.prelude_classes) (class_named_by r old new w s.classes.rows n)

  reserved_class_by : (a : StaticContext) (s : Tables) (n : Name) → is_reserved_class (context_by r a) (tables_by r s) (name_by r n) ≡ is_reserved_class a s n
  reserved_class_by a s n =
      or_same _ _ _ _ (truth_by r old new w a s n) (ap (λ c. a.spot.sited && class_of_prelude s.prelude_classes c) (class_named_by r old new w s.classes.rows n))

  unless_known : (o : Option ℕ) (n : Name) (ns : List Name) →
      (elim o as (λ x. List Name) [ None ↦ name_by r n ∷ [] | Some i ↦ [] ]) ++ names_by r ns ≡ names_by r ((elim o as (λ x. List Name) [ None ↦ n ∷ [] | Some i ↦ [] ]) ++ ns)
  unless_known None n ns = refl
  unless_known (Some i) n ns = refl

  unknown_names_by : (rows : List ClassRow) (cs : List WrittenSuper) → unknown_names (map (class_by r) rows) (supers_by r cs) ≡ names_by r (unknown_names rows cs)
  unknown_names_by rows [] = refl
  unknown_names_by rows (c ∷ cs) =
      both (λ (o : Option ℕ) (ns : List Name). (elim o as (λ x. List Name) [ None ↦ name_by r c.name ∷ [] | Some i ↦ [] ]) ++ ns) _ _ _ _
      (class_named_by r old new w rows c.name) (unknown_names_by rows cs)
      ∙ unless_known (class_named rows c.name) c.name (unknown_names rows cs)

  are_supers_by : (s : Tables) (cs : List WrittenSuper) → are_supers (tables_by r s) (supers_by r cs) ≡ are_supers s cs
  are_supers_by s cs =
      and_same _ _ _ _
      (ap (supers_fit (map (class_by r) s.classes.rows)) (known_by s.classes.rows cs) ∙ fit_by_rows r s.classes.rows (known_supers s.classes.rows cs))
      (ap not (ap some_twice (unknown_names_by s.classes.rows cs) ∙ twice_by (unknown_names s.classes.rows cs)))

  checked_by : (a : StaticContext) (s : Tables) (p : Place) (d : Item) (n : Name) (cs : List WrittenSuper) (xs : List WrittenSlot) (os : List ClassOption) →
      class_checked (context_by r a) (tables_by r s) p (item_by r d) (name_by r n) (supers_by r cs) (written_slots_by r xs) os ≡ node_by r (class_checked a s p d n cs xs os)
  checked_by a s p d n cs xs os =
      if_by (node_by r) (list_any is_of_left_out os) (list_any is_of_left_out os) _ _ (offends p LeftOut) _ refl refl
      (within_by r 1 a p _ _
      (if_by (node_by r) _ (not (are_supers s cs)) _ _ (offends p BadSupers) _ (ap not (are_supers_by s cs)) refl
      (if_by (node_by r) _ (not (few_inherited s cs)) _ _ (offends p BadSlot) _ (ap not (few_by s cs)) refl
      (if_by (node_by r) _ (list_all (fits_generic s) (uses xs) && names_differ (uses xs)) _ _ _ (offends p BadMethod)
      (and_same _ _ _ _
      (ap (list_all (fits_generic (tables_by r s))) (uses_by r xs) ∙ all_by (use_by r) (fits_generic (tables_by r s)) (fits_generic s) (fits_by s) (uses xs))
      (ap names_differ (uses_by r xs) ∙ differ_by (uses xs)))
      (class_made_by a s d n cs xs os) refl))))

  class_of_by : (a : StaticContext) (s : Tables) (p : Place) (d : Item) (n : Name) (cs : List WrittenSuper) (xs : List WrittenSlot) (os : List ClassOption) →
      class_of new (context_by r a) (tables_by r s) p (item_by r d) (name_by r n) (supers_by r cs) (written_slots_by r xs) os ≡ node_by r (class_of old a s p d n cs xs os)
  class_of_by a s p d n cs xs os =
      if_by (node_by r) _ (list_any is_lacking (all_functions xs)) _ _ unnamed _ (lacking_by r xs) refl
      (defining_by r old new w a p _ _ _ _ _ (class_checked a s p d n cs xs os)
      (or_same _ _ _ _ (taken_class_by a s n)
      (ap (list_any (is_of_function (context_by r a) (tables_by r s))) (uses_by r xs)
      ∙ any_by (use_by r) (is_of_function (context_by r a) (tables_by r s)) (is_of_function a s) (of_function_by a s) (uses xs)))
      (or_same _ _ _ _ (reserved_class_by a s n)
      (ap (list_any (is_kept_name new (context_by r a) (tables_by r s))) (uses_by r xs)
      ∙ any_by (use_by r) (is_kept_name new (context_by r a) (tables_by r s)) (is_kept_name old a s) (kept_name_by a s) (uses xs)))
      (checked_by a s p d n cs xs os))

  shaped_by : (a : StaticContext) (s : Tables) (p : Place) (d : Item) (n : Option Name) (cs : Option (List WrittenSuper)) (xs : Option (List WrittenSlot)) (os : List ClassOption) →
      class_shaped new (context_by r a) (tables_by r s) p (item_by r d) (option_map (name_by r) n) (option_map (supers_by r) cs) (option_map (written_slots_by r) xs) os
      ≡ node_by r (class_shaped old a s p d n cs xs os)
  shaped_by a s p d None cs xs os = refl
  shaped_by a s p d (Some n) None xs os = refl
  shaped_by a s p d (Some n) (Some cs) None os = refl
  shaped_by a s p d (Some n) (Some cs) (Some xs) os =
      if_by (node_by r) (are_options os) (are_options os) _ _ _ (bad_shape p) refl (class_of_by a s p d n cs xs os) refl

  pub defclass_by : (a : StaticContext) (s : Tables) (p : Place) (ds : List Item) → defclass_row new (context_by r a) (tables_by r s) p (data_by r ds) ≡ node_by r (defclass_row old a s p ds)
  defclass_by a s p [] = refl
  defclass_by a s p (d ∷ []) = refl
  defclass_by a s p (d ∷ cs ∷ []) = refl
  defclass_by a s p (d ∷ cs ∷ xs ∷ os) =
      three (λ n ks ys. class_shaped new (context_by r a) (tables_by r s) p (item_by r d) n ks ys (class_options new (data_by r os))) _ _ _ _ _ _
      (named_at r old new w d) (supers_in_by cs) (slots_in_by xs)
      ∙ ap (class_shaped new (context_by r a) (tables_by r s) p (item_by r d) (option_map (name_by r) (named (symbol_of d))) (option_map (supers_by r) (supers_in (list_items cs)))
      (option_map (written_slots_by r) (slots_in old (list_items xs)))) (class_options_by os)
      ∙ shaped_by a s p d (named (symbol_of d)) (supers_in (list_items cs)) (slots_in old (list_items xs)) (class_options old os)
