-- The rows of definitions of generic functions and methods offend at places of the form.
use Rattle.std.specs.Prelude.{ℕ, Bool, true, false, not, List, [], ◌∷◌, Option, Some, None, if◌then◌else◌, slice_get}
use Rattle.std.specs.List.{list_any}
use Rattle.base.specs.declared.place.Place.{Place}
use Rattle.base.specs.declared.datum.Name.{Name}
use Rattle.base.specs.declared.datum.Symbol.{Symbol}
use Rattle.base.specs.declared.datum.Symbol.TheVariants.{Named, Fresh}
use Rattle.base.specs.Data.{Item}
use Rattle.base.specs.AllOf.{AllOf}
use Rattle.lang_meaning.specs.declared.program.ClassRow.{ClassRow}
use Rattle.lang_meaning.specs.declared.program.Qualifier.{Qualifier}
use Rattle.lang_classes.specs.InheritedClasses.{class_named}
use Rattle.lang_derived.specs.Asked.{list_items}
use Rattle.front_profile.specs.declared.parameters.Parameters.{Parameters}
use Rattle.front_profile.specs.declared.tables.ReservedWords.{ReservedWords}
use Rattle.front_profile.specs.declared.tables.Tables.{Tables}
use Rattle.front_profile.specs.Nodes.{StaticContext, Part}
use Rattle.front_profile.specs.Shapes.{parameters_in, parameter_in, symbol_of, is_rest_word, behind_rest, with_required, all_symbols, all_differ, only_if}
use Rattle.front_profile.specs.Elaborations.{generic_named}
use Rattle.front_profile.specs.DefiningRows.{is_taken, is_reserved}
use Rattle.front_profile.specs.GivenNames.{GivenName, no_name, unfit, lacking, given, given_name}
use Rattle.front_profile.specs.MethodShapes.{Asked, any_object, of_class, Specialised, Taken, asked_by, taken, taken_in, taken_by, without_classes, maybe_parameters, with_taken, specialised_of, where_they_differ, specialised_of_items, specialised_in, some_fresh_class, unless_known, first_unknown, WrittenMethod, written, method_in}
use Rattle.front_profile.specs.GenericRows.{unless_unknown, method_function, specialised_parts, method_parts, GenericOption, no_option, left_out, standard, of_method, method_option, is_standard, is_left_out_option, option_of, options_of, is_no_option, is_of_left_out, methods_among, all_fit, fits, generic_row, each_method, generic_with, generic_of, generic_named_as, defgeneric_row, keeps, is_closed, method_for, method_of, method_named_as, method_as, defmethod_row}
use Rattle.front_laws.proofs.AllPlaces.{AllPlaces}
use Rattle.front_laws.proofs.Parts.{its_place, MaybeAll, list_all_places}
use Rattle.front_laws.proofs.Nodes.{PlacesOfPart, PlacesOfNode, either, within, both}
use Rattle.front_laws.proofs.BinderRows.{defining_in}

module _ (P : Place → Type 0) where
  -- a place, where there is one
  abbrev pub MaybePlace : Option Place → Type 0
  MaybePlace None = Unit {0}
  MaybePlace (Some p) = P p

  -- ---- the classes of parameters

  abbrev PlaceAsked : Asked → Type 0
  PlaceAsked any_object = Unit {0}
  PlaceAsked (of_class n p) = P p

  abbrev MaybeAsked : Option Asked → Type 0
  MaybeAsked None = Unit {0}
  MaybeAsked (Some c) = PlaceAsked c

  abbrev MaybeTaken : Option Taken → Type 0
  MaybeTaken None = Unit {0}
  MaybeTaken (Some t) = PlaceAsked t.class

  abbrev MaybeSpecialised : Option Specialised → Type 0
  MaybeSpecialised None = Unit {0}
  MaybeSpecialised (Some m) = AllOf PlaceAsked m.classes

  asked_in : (d : Item) (x : Option Symbol) → AllPlaces P d → MaybeAsked (asked_by d x)
  asked_in d None g = tt
  asked_in d (Some (Named n)) g = its_place P d g
  asked_in d (Some (Fresh e s)) g = tt

  taken_with : (x : Option Symbol) (c : Option Asked) → MaybeAsked c → MaybeTaken (taken x c)
  taken_with None c g = tt
  taken_with (Some x) None g = tt
  taken_with (Some x) (Some c) g = g

  taken_of_items : (w : ReservedWords) (ds : Option (List Item)) → MaybeAll P ds → MaybeTaken (taken_in w ds)
  taken_of_items w None g = tt
  taken_of_items w (Some []) g = tt
  taken_of_items w (Some (d ∷ [])) g = tt
  taken_of_items w (Some (d ∷ c ∷ [])) g = taken_with (parameter_in w (symbol_of d)) (asked_by c (symbol_of c)) (asked_in c (symbol_of c) g.1.0)
  taken_of_items w (Some (d ∷ c ∷ e ∷ ds)) g = tt

  taken_by_in : (w : ReservedWords) (d : Item) (x : Option Symbol) → AllPlaces P d → MaybeTaken (taken_by w d x)
  taken_by_in w d None g = taken_of_items w (list_items d) (list_all_places P d g)
  taken_by_in w d (Some x) g = taken_with (parameter_in w (Some x)) (Some any_object) tt

  without_in : (ps : Option Parameters) → MaybeSpecialised (without_classes ps)
  without_in None = tt
  without_in (Some ps) = tt

  maybe_in : (ps : Option Parameters) (cs : List Asked) → AllOf PlaceAsked cs → MaybeSpecialised (maybe_parameters ps cs)
  maybe_in None cs g = tt
  maybe_in (Some ps) cs g = g

  with_taken_in : (t : Option Taken) (more : Option Specialised) → MaybeTaken t → MaybeSpecialised more → MaybeSpecialised (with_taken t more)
  with_taken_in None more g h = tt
  with_taken_in (Some t) None g h = tt
  with_taken_in (Some t) (Some more) g h = maybe_in (with_required t.variable (Some more.parameters)) (t.class ∷ more.classes) (g, h)

  one_of : (b : Bool) (x y : Option Specialised) → MaybeSpecialised x → MaybeSpecialised y → MaybeSpecialised (if b then x else y)
  one_of true x y g h = g
  one_of false x y g h = h

  specialised_too : (w : ReservedWords) (ds : List Item) → AllOf (AllPlaces P) ds → MaybeSpecialised (specialised_of w ds)
  specialised_too w [] g = tt
  specialised_too w (d ∷ ds) g =
      one_of (is_rest_word w (symbol_of d)) (without_classes (behind_rest w ds)) (with_taken (taken_by w d (symbol_of d)) (specialised_of w ds))
      (without_in (behind_rest w ds))
      (with_taken_in (taken_by w d (symbol_of d)) (specialised_of w ds) (taken_by_in w d (symbol_of d) g.0) (specialised_too w ds g.1))

  where_so : (b : Bool) (m : Specialised) → AllOf PlaceAsked m.classes → MaybeSpecialised (only_if b m)
  where_so true m g = g
  where_so false m g = tt

  where_differ : (m : Option Specialised) → MaybeSpecialised m → MaybeSpecialised (where_they_differ m)
  where_differ None g = tt
  where_differ (Some m) g = where_so (all_differ (all_symbols m.parameters)) m g

  specialised_of_list : (w : ReservedWords) (ds : Option (List Item)) → MaybeAll P ds → MaybeSpecialised (specialised_of_items w ds)
  specialised_of_list w None g = tt
  specialised_of_list w (Some ds) g = where_differ (specialised_of w ds) (specialised_too w ds g)

  specialised_in_too : (w : ReservedWords) (d : Item) → AllPlaces P d → MaybeSpecialised (specialised_in w d)
  specialised_in_too w d g = specialised_of_list w (list_items d) (list_all_places P d g)

  -- the first class that is not known

  unless_known_in : (p : Place) (c : Option ℕ) (more : Option Place) → P p → MaybePlace more → MaybePlace (unless_known p c more)
  unless_known_in p None more q h = q
  unless_known_in p (Some c) more q h = h

  unknown_in : (rows : List ClassRow) (cs : List Asked) → AllOf PlaceAsked cs → MaybePlace (first_unknown rows cs)
  unknown_in rows [] g = tt
  unknown_in rows (any_object ∷ cs) g = unknown_in rows cs g.1
  unknown_in rows (of_class n p ∷ cs) g = unless_known_in p (class_named rows n) (first_unknown rows cs) g.0 (unknown_in rows cs g.1)

  -- ---- methods as they are written

  abbrev PlacesOfMethod : WrittenMethod → Type 0
  PlacesOfMethod m = AllPlaces P m.list × AllOf (AllPlaces P) m.body

  abbrev MaybeMethod : Option WrittenMethod → Type 0
  MaybeMethod None = Unit {0}
  MaybeMethod (Some m) = PlacesOfMethod m

  written_in : (names : List (List ℕ)) (d : Item) (x : Option Symbol) (l : Item) (fs : List Item) → AllPlaces P d → AllPlaces P l → AllOf (AllPlaces P) fs →
      PlacesOfMethod (written names d x l fs)
  written_in names d None l fs f g h = (f, (g, h))
  written_in names d (Some x) l fs f g h = (g, h)

  method_in_too : (names : List (List ℕ)) (ds : List Item) → AllOf (AllPlaces P) ds → MaybeMethod (method_in names ds)
  method_in_too names [] g = tt
  method_in_too names (d ∷ []) g = (g.0, tt)
  method_in_too names (d ∷ l ∷ fs) g = written_in names d (symbol_of d) l fs g.0 g.1.0 g.1.1

  -- ---- the parts of a method

  method_function_in : (m : Name) (q : Option Qualifier) (ps : Parameters) (fs : List Item) → AllOf (AllPlaces P) fs → AllOf (PlacesOfPart P) (method_function m q ps fs)
  method_function_in m None ps fs g = tt
  method_function_in m (Some q) ps fs g = (g, tt)

  pub unless_unknown_in : (p : Option Place) (xs : List Part) → MaybePlace p → AllOf (PlacesOfPart P) xs → AllOf (PlacesOfPart P) (unless_unknown p xs)
  unless_unknown_in None xs q g = g
  unless_unknown_in (Some p) xs q g = (q, tt)

  specialised_parts_in : (s : Tables) (name : Name) (m : WrittenMethod) (ps : Option Specialised) → PlacesOfMethod m → MaybeSpecialised ps →
      AllOf (PlacesOfPart P) (specialised_parts s name m ps)
  specialised_parts_in s name m None g h = (its_place P m.list g.0, tt)
  specialised_parts_in s name m (Some ps) g h =
      unless_unknown_in (first_unknown s.classes.rows ps.classes) _ (unknown_in s.classes.rows ps.classes h)
      (method_function_in name m.qualifier ps.parameters m.body g.1)

  method_parts_in : (s : Tables) (name : Name) (m : WrittenMethod) → PlacesOfMethod m → AllOf (PlacesOfPart P) (method_parts s name m)
  method_parts_in s name m g = specialised_parts_in s name m (specialised_in s.words m.list) g (specialised_in_too s.words m.list g.0)

  -- ---- the methods among options

  abbrev PlacesOfOption : GenericOption → Type 0
  PlacesOfOption no_option = Unit {0}
  PlacesOfOption left_out = Unit {0}
  PlacesOfOption standard = Unit {0}
  PlacesOfOption (of_method m) = PlacesOfMethod m

  either_option : (b : Bool) (o p : GenericOption) → PlacesOfOption o → PlacesOfOption p → PlacesOfOption (if b then o else p)
  either_option true o p g h = g
  either_option false o p g h = h

  method_option_in : (m : Option WrittenMethod) → MaybeMethod m → PlacesOfOption (method_option m)
  method_option_in None g = tt
  method_option_in (Some m) g = either_option (some_fresh_class (list_items m.list)) no_option (of_method m) tt g

  option_in : (names : List (List ℕ)) (ds : Option (List Item)) → MaybeAll P ds → PlacesOfOption (option_of names ds)
  option_in names None g = tt
  option_in names (Some []) g = tt
  option_in names (Some (h ∷ ds)) g =
      either_option _ _ _ (method_option_in (method_in names ds) (method_in_too names ds g.1))
      (either_option (is_left_out_option names h) left_out _ tt
      (either_option _ _ no_option (either_option (is_standard names ds) standard left_out tt tt) tt))

  with_option : (o : GenericOption) (os : List GenericOption) → PlacesOfOption o → AllOf PlacesOfMethod (methods_among os) → AllOf PlacesOfMethod (methods_among (o ∷ os))
  with_option no_option os g h = h
  with_option left_out os g h = h
  with_option standard os g h = h
  with_option (of_method m) os g h = (g, h)

  options_in : (names : List (List ℕ)) (ds : List Item) → AllOf (AllPlaces P) ds → AllOf PlacesOfMethod (methods_among (options_of names ds))
  options_in names [] g = tt
  options_in names (d ∷ ds) g = with_option _ (options_of names ds) (option_in names (list_items d) (list_all_places P d g.0)) (options_in names ds g.1)

  each_method_in : (s : Tables) (name : Name) (ms : List WrittenMethod) → AllOf PlacesOfMethod ms → AllOf (PlacesOfPart P) (each_method s name ms)
  each_method_in s name [] g = tt
  each_method_in s name (m ∷ ms) g = both P (method_parts s name m) (each_method s name ms) (method_parts_in s name m g.0) (each_method_in s name ms g.1)

  -- ---- defgeneric

  generic_with_in : (a : StaticContext) (s : Tables) (d : Item) (name : Name) (l : Item) (ms : List WrittenMethod) (ps : Option Parameters) → AllPlaces P l →
      AllOf PlacesOfMethod ms → PlacesOfNode P (generic_with a s d name l ms ps)
  generic_with_in a s d name l ms None b g = its_place P l b
  generic_with_in a s d name l ms (Some ps) b g = each_method_in s name ms g

  generic_of_in : (names : List (List ℕ)) (a : StaticContext) (s : Tables) (p : Place) (d l : Item) (os : List GenericOption) (name : Name) → P p → AllPlaces P l →
      AllOf PlacesOfMethod (methods_among os) → PlacesOfNode P (generic_of names a s p d l os name)
  generic_of_in names a s p d l os name q b g =
      defining_in P a p (is_taken a.spot.sited s name) (is_reserved (keeps names name) a s name) _ q
      (either P (list_any is_of_left_out os) _ _ q
      (within P 1 a p _ q
      (either P (all_fit s (generic_row name (parameters_in s.words l)) (methods_among os)) _ _
      (generic_with_in a s d name l (methods_among os) (parameters_in s.words l) b g) q)))

  generic_as_in : (names : List (List ℕ)) (a : StaticContext) (s : Tables) (p : Place) (d l : Item) (os : List GenericOption) (x : GivenName) → P p → AllPlaces P l →
      AllOf PlacesOfMethod (methods_among os) → PlacesOfNode P (generic_named_as names a s p d l os x)
  generic_as_in names a s p d l os no_name q b g = q
  generic_as_in names a s p d l os unfit q b g = q
  generic_as_in names a s p d l os lacking q b g = tt
  generic_as_in names a s p d l os (given name) q b g = generic_of_in names a s p d l os name q b g

  pub defgeneric_in : (names : List (List ℕ)) (a : StaticContext) (s : Tables) (p : Place) (ds : List Item) → P p → AllOf (AllPlaces P) ds → PlacesOfNode P (defgeneric_row names a s p ds)
  defgeneric_in names a s p [] q g = q
  defgeneric_in names a s p (d ∷ []) q g = q
  defgeneric_in names a s p (d ∷ l ∷ ds) q g =
      either P (list_any is_no_option (options_of names ds)) _ _ q
      (generic_as_in names a s p d l (options_of names ds) (given_name names d) q g.1.0 (options_in names ds g.1.1))

  -- ---- defmethod

  method_for_in : (a : StaticContext) (s : Tables) (p : Place) (d : Item) (name : Name) (m : WrittenMethod) (i : Option ℕ) → P p → PlacesOfMethod m →
      PlacesOfNode P (method_for a s p d name m i)
  method_for_in a s p d name m None q g = q
  method_for_in a s p d name m (Some i) q g = either P (fits s (slice_get s.generics i) m) _ _ (method_parts_in s name m g) q

  method_of_in : (names : List (List ℕ)) (a : StaticContext) (s : Tables) (p : Place) (d : Item) (m : WrittenMethod) (name : Name) → P p → PlacesOfMethod m →
      PlacesOfNode P (method_of names a s p d m name)
  method_of_in names a s p d m name q g =
      either P (not a.spot.top) _ _ q
      (either P (is_closed names a s d name) _ _ q
      (within P 1 a p _ q (method_for_in a s p d name m (generic_named s.generics name) q g)))

  method_named_in : (names : List (List ℕ)) (a : StaticContext) (s : Tables) (p : Place) (d : Item) (m : WrittenMethod) (x : GivenName) → P p → PlacesOfMethod m →
      PlacesOfNode P (method_named_as names a s p d m x)
  method_named_in names a s p d m no_name q g = q
  method_named_in names a s p d m unfit q g = q
  method_named_in names a s p d m lacking q g = tt
  method_named_in names a s p d m (given name) q g = method_of_in names a s p d m name q g

  method_as_in : (names : List (List ℕ)) (a : StaticContext) (s : Tables) (p : Place) (d : Item) (m : Option WrittenMethod) → P p → MaybeMethod m →
      PlacesOfNode P (method_as names a s p d m)
  method_as_in names a s p d None q g = q
  method_as_in names a s p d (Some m) q g =
      either P (some_fresh_class (list_items m.list)) _ _ q (method_named_in names a s p d m (given_name names d) q g)

  pub defmethod_in : (names : List (List ℕ)) (a : StaticContext) (s : Tables) (p : Place) (ds : List Item) → P p → AllOf (AllPlaces P) ds → PlacesOfNode P (defmethod_row names a s p ds)
  defmethod_in names a s p [] q g = q
  defmethod_in names a s p (d ∷ ds) q g = method_as_in names a s p d (method_in names ds) q (method_in_too names ds g.1)
