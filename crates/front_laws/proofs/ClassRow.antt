-- The row of the form that defines a class offends at places of the form.
use Rattle.std.specs.Prelude.{ℕ, Bool, true, false, not, ◌&&◌, ◌||◌, List, [], ◌∷◌, ◌++◌, Option, Some, None, if◌then◌else◌, flat_map, codes}
use Rattle.std.specs.List.{list_any, list_all}
use Rattle.base.specs.declared.place.Place.{Place}
use Rattle.base.specs.declared.datum.Name.{Name}
use Rattle.base.specs.declared.datum.Symbol.{Symbol}
use Rattle.base.specs.declared.datum.Symbol.TheVariants.{Named, Fresh}
use Rattle.base.specs.Data.{Item, place_of}
use Rattle.base.specs.DataNames.{symbol_text}
use Rattle.base.specs.AllOf.{AllOf, all_both}
use Rattle.lang_meaning.specs.declared.program.ClassRow.{ClassRow}
use Rattle.lang_classes.specs.Given.{is_wrong}
use Rattle.lang_classes.specs.InheritedClasses.{class_named, inherited_names}
use Rattle.lang_classes.specs.InheritedSlots.{each_first}
use Rattle.lang_derived.specs.Asked.{list_items, is_word}
use Rattle.front_profile.specs.declared.elaboration.Accessor.{Accessor}
use Rattle.front_profile.specs.declared.elaboration.Accessor.TheVariants.{Reads, Writes, Asks}
use Rattle.front_profile.specs.declared.tables.Tables.{Tables}
use Rattle.front_profile.specs.Nodes.{StaticContext, Part}
use Rattle.front_profile.specs.Shapes.{symbol_of, name_of}
use Rattle.front_profile.specs.DefiningRows.{named}
use Rattle.front_profile.specs.GivenNames.{GivenName, no_name, unfit, lacking, given, given_name, setter_of_text}
use Rattle.front_profile.specs.ClassShapes.{SlotOption, wrong_option, initform_of, initarg_of, method_of, accessor_of, initarg_by, method_by, accessor_with, accessor_by, slot_option, option_and, slot_options, WrittenSlot, slot_with, name_in, slot_in_list, slot_by, slot_and, each_slot, slots_in, WrittenSuper, super_and, each_super, supers_in, ClassOption, class_options, are_options, is_of_left_out}
use Rattle.front_profile.specs.ClassRows.{Function, for_initform, for_method, functions_of_option, functions_of, all_functions, uses, is_lacking, fits_generic, names_differ, known_supers, place_unless, first_unknown_super, are_supers, few_inherited, has_wrong_options, part_of, slot_parts, class_parts, class_checked, class_of, class_shaped, defclass_row}
use Rattle.front_laws.proofs.AllPlaces.{AllPlaces}
use Rattle.front_laws.proofs.Parts.{its_place, MaybeAll, list_all_places}
use Rattle.front_laws.proofs.Nodes.{PlacesOfPart, PlacesOfNode, either, within, both}
use Rattle.front_laws.proofs.BinderRows.{defining_in}
use Rattle.front_laws.proofs.MethodRows.{MaybePlace, unless_unknown_in}

module _ (P : Place → Type 0) where
  -- ---- slots: their places, and their initforms

  abbrev PlacesOfOption : SlotOption → Type 0
  PlacesOfOption wrong_option = Unit {0}
  PlacesOfOption (initform_of d) = AllPlaces P d
  PlacesOfOption (initarg_of x) = Unit {0}
  PlacesOfOption (method_of k g) = Unit {0}
  PlacesOfOption (accessor_of x g) = Unit {0}

  abbrev MaybeOption : Option SlotOption → Type 0
  MaybeOption None = Unit {0}
  MaybeOption (Some o) = PlacesOfOption o

  abbrev MaybeOptions : Option (List SlotOption) → Type 0
  MaybeOptions None = Unit {0}
  MaybeOptions (Some os) = AllOf PlacesOfOption os

  abbrev PlacesOfSlot : WrittenSlot → Type 0
  PlacesOfSlot x = P x.place × AllOf PlacesOfOption x.options

  abbrev MaybeSlot : Option WrittenSlot → Type 0
  MaybeSlot None = Unit {0}
  MaybeSlot (Some x) = PlacesOfSlot x

  abbrev MaybeSlots : Option (List WrittenSlot) → Type 0
  MaybeSlots None = Unit {0}
  MaybeSlots (Some xs) = AllOf PlacesOfSlot xs

  either_option : (b : Bool) (x y : Option SlotOption) → MaybeOption x → MaybeOption y → MaybeOption (if b then x else y)
  either_option true x y g h = g
  either_option false x y g h = h

  initarg_in : (x : Option Symbol) → MaybeOption (initarg_by x)
  initarg_in None = tt
  initarg_in (Some (Named m)) = tt
  initarg_in (Some (Fresh e s)) = tt

  method_by_in : (k : Accessor) (x : GivenName) → MaybeOption (method_by k x)
  method_by_in k no_name = tt
  method_by_in k unfit = tt
  method_by_in k lacking = tt
  method_by_in k (given m) = tt

  accessor_with_in : (m : Name) (x : GivenName) → PlacesOfOption (accessor_with m x)
  accessor_with_in m no_name = tt
  accessor_with_in m unfit = tt
  accessor_with_in m lacking = tt
  accessor_with_in m (given k) = tt

  accessor_in : (names : List (List ℕ)) (x : Option Symbol) → MaybeOption (accessor_by names x)
  accessor_in names None = tt
  accessor_in names (Some (Named m)) = accessor_with_in m (setter_of_text names (symbol_text names (Named m)))
  accessor_in names (Some (Fresh e s)) = tt

  slot_option_in : (names : List (List ℕ)) (o d : Item) → AllPlaces P d → MaybeOption (slot_option names o d)
  slot_option_in names o d g =
      either_option (is_word names (codes ":initform") o) (Some (initform_of d)) _ g
      (either_option (is_word names (codes ":initarg") o) (initarg_by (symbol_of d)) _ (initarg_in (symbol_of d))
      (either_option (is_word names (codes ":reader") o) (method_by Reads (given_name names d)) _ (method_by_in Reads (given_name names d))
      (either_option (is_word names (codes ":writer") o) (method_by Writes (given_name names d)) _ (method_by_in Writes (given_name names d))
      (either_option (is_word names (codes ":boundp") o) (method_by Asks (given_name names d)) _ (method_by_in Asks (given_name names d))
      (either_option (is_word names (codes ":accessor") o) (accessor_by names (symbol_of d)) (Some wrong_option) (accessor_in names (symbol_of d)) tt)))))

  one_option_more : (o : Option SlotOption) (os : Option (List SlotOption)) → MaybeOption o → MaybeOptions os → MaybeOptions (option_and o os)
  one_option_more None os g h = tt
  one_option_more (Some o) None g h = tt
  one_option_more (Some o) (Some os) g h = (g, h)

  slot_options_in : (names : List (List ℕ)) (ds : List Item) → AllOf (AllPlaces P) ds → MaybeOptions (slot_options names ds)
  slot_options_in names [] g = tt
  slot_options_in names (o ∷ []) g = tt
  slot_options_in names (o ∷ d ∷ ds) g =
      one_option_more (slot_option names o d) (slot_options names ds) (slot_option_in names o d g.1.0) (slot_options_in names ds g.1.1)

  slot_with_in : (p : Place) (x : Option Name) (os : Option (List SlotOption)) → P p → MaybeOptions os → MaybeSlot (slot_with p x os)
  slot_with_in p None os q g = tt
  slot_with_in p (Some x) None q g = tt
  slot_with_in p (Some x) (Some os) q g = (q, g)

  slot_list_in : (names : List (List ℕ)) (p : Place) (ds : Option (List Item)) → P p → MaybeAll P ds → MaybeSlot (slot_in_list names p ds)
  slot_list_in names p None q g = tt
  slot_list_in names p (Some []) q g = tt
  slot_list_in names p (Some (d ∷ ds)) q g = slot_with_in p (name_in (symbol_of d)) (slot_options names ds) q (slot_options_in names ds g.1)

  slot_in : (names : List (List ℕ)) (d : Item) (x : Option Symbol) → AllPlaces P d → MaybeSlot (slot_by names d x)
  slot_in names d None g = slot_list_in names (place_of d) (list_items d) (its_place P d g) (list_all_places P d g)
  slot_in names d (Some x) g = slot_with_in (place_of d) (name_of x) (Some []) (its_place P d g) tt

  one_slot_more : (x : Option WrittenSlot) (xs : Option (List WrittenSlot)) → MaybeSlot x → MaybeSlots xs → MaybeSlots (slot_and x xs)
  one_slot_more None xs g h = tt
  one_slot_more (Some x) None g h = tt
  one_slot_more (Some x) (Some xs) g h = (g, h)

  each_slot_in : (names : List (List ℕ)) (ds : List Item) → AllOf (AllPlaces P) ds → MaybeSlots (each_slot names ds)
  each_slot_in names [] g = tt
  each_slot_in names (d ∷ ds) g =
      one_slot_more (slot_by names d (symbol_of d)) (each_slot names ds) (slot_in names d (symbol_of d) g.0) (each_slot_in names ds g.1)

  slots_in_too : (names : List (List ℕ)) (ds : Option (List Item)) → MaybeAll P ds → MaybeSlots (slots_in names ds)
  slots_in_too names None g = tt
  slots_in_too names (Some ds) g = each_slot_in names ds g

  -- ---- the functions of slots

  abbrev PlacesOfSlotFunction : Function → Type 0
  PlacesOfSlotFunction (for_initform d) = AllPlaces P d
  PlacesOfSlotFunction (for_method g k) = Unit {0}

  option_functions_in : (o : SlotOption) → PlacesOfOption o → AllOf PlacesOfSlotFunction (functions_of_option o)
  option_functions_in wrong_option g = tt
  option_functions_in (initform_of d) g = (g, tt)
  option_functions_in (initarg_of x) g = tt
  option_functions_in (method_of k x) g = (tt, tt)
  option_functions_in (accessor_of x y) g = (tt, (tt, tt))

  functions_in : (os : List SlotOption) → AllOf PlacesOfOption os → AllOf PlacesOfSlotFunction (flat_map functions_of_option os)
  functions_in [] g = tt
  functions_in (o ∷ os) g =
      all_both PlacesOfSlotFunction (functions_of_option o) (flat_map functions_of_option os) (option_functions_in o g.0) (functions_in os g.1)

  part_in : (x : WrittenSlot) (f : Function) → PlacesOfSlotFunction f → AllOf (PlacesOfPart P) (part_of x f)
  part_in x (for_initform d) g = (g, tt)
  part_in x (for_method no_name k) g = tt
  part_in x (for_method unfit k) g = tt
  part_in x (for_method lacking k) g = tt
  part_in x (for_method (given m) k) g = (tt, tt)

  each_part_in : (x : WrittenSlot) (fs : List Function) → AllOf PlacesOfSlotFunction fs → AllOf (PlacesOfPart P) (flat_map (part_of x) fs)
  each_part_in x [] g = tt
  each_part_in x (f ∷ fs) g = both P (part_of x f) (flat_map (part_of x) fs) (part_in x f g.0) (each_part_in x fs g.1)

  either_parts : (b : Bool) (xs ys : List Part) → AllOf (PlacesOfPart P) xs → AllOf (PlacesOfPart P) ys → AllOf (PlacesOfPart P) (if b then xs else ys)
  either_parts true xs ys g h = g
  either_parts false xs ys g h = h

  slot_parts_in : (inherited earlier : List Name) (xs : List WrittenSlot) → AllOf PlacesOfSlot xs → AllOf (PlacesOfPart P) (slot_parts inherited earlier xs)
  slot_parts_in inherited earlier [] g = tt
  slot_parts_in inherited earlier (x ∷ xs) g =
      either_parts (has_wrong_options x || is_wrong x.name earlier (each_first (inherited ++ earlier))) _ _ (g.0.0, tt)
      (both P (flat_map (part_of x) (functions_of x)) (slot_parts inherited (earlier ++ x.name ∷ []) xs)
      (each_part_in x (functions_of x) (functions_in x.options g.0.1))
      (slot_parts_in inherited (earlier ++ x.name ∷ []) xs g.1))

  -- ---- superclasses: their places

  abbrev PlaceOfSuper : WrittenSuper → Type 0
  PlaceOfSuper c = P c.place

  abbrev MaybeSupers : Option (List WrittenSuper) → Type 0
  MaybeSupers None = Unit {0}
  MaybeSupers (Some cs) = AllOf PlaceOfSuper cs

  one_super_more : (p : Place) (n : Option Name) (cs : Option (List WrittenSuper)) → P p → MaybeSupers cs → MaybeSupers (super_and p n cs)
  one_super_more p None cs q g = tt
  one_super_more p (Some n) None q g = tt
  one_super_more p (Some n) (Some cs) q g = (q, g)

  each_super_in : (ds : List Item) → AllOf (AllPlaces P) ds → MaybeSupers (each_super ds)
  each_super_in [] g = tt
  each_super_in (d ∷ ds) g = one_super_more (place_of d) (name_in (symbol_of d)) (each_super ds) (its_place P d g.0) (each_super_in ds g.1)

  supers_in_too : (ds : Option (List Item)) → MaybeAll P ds → MaybeSupers (supers_in ds)
  supers_in_too None g = tt
  supers_in_too (Some ds) g = each_super_in ds g

  place_unless_in : (p : Place) (c : Option ℕ) (more : Option Place) → P p → MaybePlace P more → MaybePlace P (place_unless p c more)
  place_unless_in p None more q h = q
  place_unless_in p (Some c) more q h = h

  unknown_super_in : (rows : List ClassRow) (cs : List WrittenSuper) → AllOf PlaceOfSuper cs → MaybePlace P (first_unknown_super rows cs)
  unknown_super_in rows [] g = tt
  unknown_super_in rows (c ∷ cs) g = place_unless_in c.place (class_named rows c.name) (first_unknown_super rows cs) g.0 (unknown_super_in rows cs g.1)

  class_parts_in : (s : Tables) (cs : List WrittenSuper) (xs : List WrittenSlot) → AllOf PlaceOfSuper cs → AllOf PlacesOfSlot xs → AllOf (PlacesOfPart P) (class_parts s cs xs)
  class_parts_in s cs xs f g =
      unless_unknown_in P (first_unknown_super s.classes.rows cs) _ (unknown_super_in s.classes.rows cs f)
      (slot_parts_in (inherited_names s.classes (known_supers s.classes.rows cs)) [] xs g)

  -- ---- defclass

  checked_in : (a : StaticContext) (s : Tables) (p : Place) (d : Item) (name : Name) (cs : List WrittenSuper) (xs : List WrittenSlot) (os : List ClassOption) → P p →
      AllOf PlaceOfSuper cs → AllOf PlacesOfSlot xs → PlacesOfNode P (class_checked a s p d name cs xs os)
  checked_in a s p d name cs xs os q f g =
      either P (list_any is_of_left_out os) _ _ q
      (within P 1 a p _ q
      (either P (not (are_supers s cs)) _ _ q
      (either P (not (few_inherited s cs)) _ _ q
      (either P (list_all (fits_generic s) (uses xs) && names_differ (uses xs)) _ _ (class_parts_in s cs xs f g) q))))

  class_of_in : (names : List (List ℕ)) (a : StaticContext) (s : Tables) (p : Place) (d : Item) (name : Name) (cs : List WrittenSuper) (xs : List WrittenSlot) (os : List ClassOption) →
      P p → AllOf PlaceOfSuper cs → AllOf PlacesOfSlot xs → PlacesOfNode P (class_of names a s p d name cs xs os)
  class_of_in names a s p d name cs xs os q f g =
      either P (list_any is_lacking (all_functions xs)) _ _ tt (defining_in P a p _ _ _ q (checked_in a s p d name cs xs os q f g))

  shaped_in : (names : List (List ℕ)) (a : StaticContext) (s : Tables) (p : Place) (d : Item) (name : Option Name) (cs : Option (List WrittenSuper)) (xs : Option (List WrittenSlot))
      (os : List ClassOption) → P p → MaybeSupers cs → MaybeSlots xs → PlacesOfNode P (class_shaped names a s p d name cs xs os)
  shaped_in names a s p d None cs xs os q f g = q
  shaped_in names a s p d (Some name) None xs os q f g = q
  shaped_in names a s p d (Some name) (Some cs) None os q f g = q
  shaped_in names a s p d (Some name) (Some cs) (Some xs) os q f g = either P (are_options os) _ _ (class_of_in names a s p d name cs xs os q f g) q

  pub defclass_in : (names : List (List ℕ)) (a : StaticContext) (s : Tables) (p : Place) (ds : List Item) → P p → AllOf (AllPlaces P) ds → PlacesOfNode P (defclass_row names a s p ds)
  defclass_in names a s p [] q g = q
  defclass_in names a s p (d ∷ []) q g = q
  defclass_in names a s p (d ∷ cs ∷ []) q g = q
  defclass_in names a s p (d ∷ cs ∷ xs ∷ os) q g =
      shaped_in names a s p d (named (symbol_of d)) (supers_in (list_items cs)) (slots_in names (list_items xs)) (class_options names os) q
      (supers_in_too (list_items cs) (list_all_places P cs g.1.0)) (slots_in_too names (list_items xs) (list_all_places P xs g.1.1.0))
