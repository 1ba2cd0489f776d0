-- How the rows of forms that define begin.
use Rattle.std.proofs.Common.{◌+◌, ℕ, Bool, true, false, not, ◌&&◌, ◌||◌, List, [], ◌∷◌, slice_get, Option, Some, None, if◌then◌else◌, refl, sym, ap, ◌∙◌, ◌≡◌, inl, inr, length, arith}
use Rattle.std.specs.List.{list_any, list_all}
use Rattle.base.specs.declared.place.Place.{Place}
use Rattle.base.specs.declared.datum.Name.{Name}
use Rattle.base.specs.declared.reason.Reason.TheVariants.{NotTopLevel}
use Rattle.base.specs.Data.{Item}
use Rattle.lang_derived.specs.Asked.{list_items}
use Rattle.lang_derived.specs.Derived.{unfit}
use Rattle.front_profile.specs.declared.parameters.Parameters.{Parameters}
use Rattle.front_profile.specs.declared.tables.Tables.{Tables}
use Rattle.front_profile.specs.declared.elaboration.DefinedAs.{DefinedAs}
use Rattle.front_profile.specs.declared.elaboration.Elaboration.{Elaboration}
use Rattle.front_profile.specs.declared.elaboration.ElaboratedPart.{ElaboratedPart}
use Rattle.lang_meaning.specs.declared.program.GenericRow.{GenericRow}
use Rattle.lang_classes.specs.Keeping.{KeepsNames}
use Rattle.front_profile.specs.Nodes.{StaticContext, Part, Written, initform, accessor, method, Node, offends}
use Rattle.front_profile.specs.Shapes.{symbol_of, parameters_in}
use Rattle.front_profile.specs.DefiningRows.{named, has_function, is_of_prelude, with_name, has_global, has_dynamic, is_set, is_taken, is_truth, is_reserved, defining_offence, unless_offending, global_as, global_row, defdynamic_as, defdynamic_row, defun_with, defun_as, defun_row}
use Rattle.front_profile.specs.GivenNames.{GivenName, no_name, unfit, lacking, given, given_name}
use Rattle.front_profile.specs.MethodShapes.{some_fresh_class, WrittenMethod, method_in}
use Rattle.front_profile.specs.GenericRows.{fits, method_parts, each_method, name_datum, keeps, GenericOption, options_of, is_no_option, is_of_left_out, methods_among, all_fit, generic_row, generic_with, generic_named_as, defgeneric_row, is_closed, method_for, method_named_as, method_as, defmethod_row}
use Rattle.front_profile.specs.ClassShapes.{WrittenSlot, slots_in, WrittenSuper, supers_in, ClassOption, class_options, are_options, is_abstract, is_of_left_out as is_left_out_class}
use Rattle.front_profile.specs.ClassRows.{class_parts, class_made, all_functions, uses, is_lacking, is_of_function, is_kept_name, fits_generic, names_differ, are_supers, few_inherited, is_taken_class, is_reserved_class, class_of as defined_class, class_shaped, defclass_row}
use Rattle.front_profile.specs.FunctionNodes.{variables_of as new_variables, with_accessor, function_node}
use Rattle.front_profile.specs.Elaborations.{generic_named, finish}
use Rattle.front_profile.specs.Marks.{TablesGrow}
use Rattle.front_profile.specs.Suits.{Suits}
use Rattle.front_profile.specs.bridge.Growing.{tables_grow_transitive, tables_grow_reflexive}
use Rattle.front_profile.specs.Below.{SameNames, NothingDefined}
use Rattle.front_profile.specs.Known.{KnownTables}
use Rattle.front_profile.proofs.MethodViews.{AllRight}
use Rattle.front_profile.proofs.Joining.{AllFunctions}
use Rattle.front_profile.proofs.DefiningRows.{fresh_name}
use Rattle.front_profile.proofs.Slots.{MaybeSlots, named_slots}
use Rattle.front_profile.proofs.GenericRows.{method_functions, each_functions, named_there}
use Rattle.front_profile.proofs.ClassRows.{class_functions, Judged, judged}
use Rattle.front_profile.proofs.SuitedMethods.{new_suits, there_suits}
use Rattle.front_profile.proofs.SuitedClasses.{class_suits}
use Rattle.front_profile.proofs.Starting.{grows_literal, grows_numbers, grows_name, names_then, NodeBegins, none_defined, none_name, Suited, StartsWhole, Starts, starts_if, starts_within}
use Rattle.front_profile.proofs.StartingForms.{starts_one}

-- forms that define

starts_defining : (s : Tables) (p : Place) (top taken reserved : Bool) (x : Node) → (top ≡ true → taken ≡ false → reserved ≡ false → Starts s top x)
    → Starts s top (unless_offending p (defining_offence top taken reserved) x)
starts_defining s p top true reserved x h = tt
starts_defining s p false false reserved x h = tt
starts_defining s p true false true x h = tt
starts_defining s p true false false x h = h refl refl refl

-- by what a test says
starts_test : (s : Tables) (top b : Bool) (x y : Node) → (b ≡ true → Starts s top x) → (b ≡ false → Starts s top y) → Starts s top (if b then x else y)
starts_test s top true x y g h = g refl
starts_test s top false x y g h = h refl

-- what stands at top level defines
starts_top : (s : Tables) (top : Bool) (o i : StaticContext) (t : Tables) (xs : List Part) (k : Elaboration) → TablesGrow s t → NothingDefined s t → Suited s t xs k → top ≡ true
    → StartsWhole s top o i t xs k
starts_top s top o i t xs k g n j e = record { grows = g; names = n.names; suited = j; low = λ l. absurd (cc (e, l)) }

-- a definition, whose name is a literal in a file
starts_joining : (s : Tables) (a : StaticContext) (d : Item) (xs : List Part) (k : Elaboration) → AllFunctions xs
    → (KeepsNames → KnownTables s → (u : Tables) (rs : List ElaboratedPart) → SameNames s u → AllRight xs → Suits k u × KnownTables (finish k rs u)) → a.spot.top ≡ true
    → StartsWhole s a.spot.top a a (with_name a.spot.sited d s) xs k
starts_joining s a d xs k f h e =
    let t : Tables = with_name a.spot.sited d s in
    let n : NothingDefined s t = none_name a.spot.sited d s in
    starts_top s a.spot.top a a t xs k (grows_name a.spot.sited d s) n
    (inr (record { functions = f; suits = λ keep w u rs same r. h keep w u rs (names_then s t u n.names same) r })) e

starts_global_as : (s : Tables) (constant : Bool) (a : StaticContext) (p : Place) (n : Option Name) (x : Item) → Starts s a.spot.top (global_as constant a s p n x)
starts_global_as s constant a p None x = tt
starts_global_as s constant a p (Some n) x =
    starts_defining s p a.spot.top (has_global a.spot.sited s n) (is_truth a s n) _
    (λ e taken reserved. starts_if s a.spot.top (constant && is_set s n) _ _ tt (starts_one s a p s _ x (tables_grow_reflexive s) (none_defined s) (λ l. absurd (cc (e, l)))))

pub starts_global : (s : Tables) (constant : Bool) (a : StaticContext) (p : Place) (ds : List Item) → Starts s a.spot.top (global_row constant a s p ds)
starts_global s constant a p (d ∷ x ∷ []) = starts_global_as s constant a p (named (symbol_of d)) x
starts_global s constant a p [] = tt
starts_global s constant a p (d ∷ []) = tt
starts_global s constant a p (d ∷ x ∷ e ∷ ds) = tt

starts_defdynamic_as : (s : Tables) (a : StaticContext) (p : Place) (n : Option Name) (x : Item) → Starts s a.spot.top (defdynamic_as a s p n x)
starts_defdynamic_as s a p None x = tt
starts_defdynamic_as s a p (Some n) x = starts_defining s p a.spot.top (has_dynamic a.spot.sited s n) (is_truth a s n) _ (λ e taken reserved. starts_one s a p s _ x (tables_grow_reflexive s) (none_defined s) (λ l. absurd (cc (e, l))))

pub starts_defdynamic : (s : Tables) (a : StaticContext) (p : Place) (ds : List Item) → Starts s a.spot.top (defdynamic_row a s p ds)
starts_defdynamic s a p (d ∷ x ∷ []) = starts_defdynamic_as s a p (named (symbol_of d)) x
starts_defdynamic s a p [] = tt
starts_defdynamic s a p (d ∷ []) = tt
starts_defdynamic s a p (d ∷ x ∷ e ∷ ds) = tt

starts_defun_with : (s : Tables) (k : DefinedAs) (a : StaticContext) (n : Name) (d l : Item) (fs : List Item) (ps : Option Parameters) → a.spot.top ≡ true → Starts s a.spot.top (defun_with k a s n d l fs ps)
starts_defun_with s k a n d l fs None e = tt
starts_defun_with s k a n d l fs (Some ps) e = starts_top s a.spot.top _ _ _ _ _ (grows_name a.spot.sited d s) (none_name a.spot.sited d s) (inl tt) e

starts_defun_as : (s : Tables) (k : DefinedAs) (kept : Bool) (a : StaticContext) (p : Place) (d l : Item) (fs : List Item) (n : Option Name) → Starts s a.spot.top (defun_as k kept a s p d l fs n)
starts_defun_as s k kept a p d l fs None = tt
starts_defun_as s k kept a p d l fs (Some n) =
    starts_defining s p a.spot.top (is_taken a.spot.sited s n) (is_reserved kept a s n) _
    (λ e taken reserved. starts_within s 1 a p _ (starts_defun_with s k a n d l fs (parameters_in s.words l) e))

pub starts_defun : (s : Tables) (k : DefinedAs) (kept : Bool) (a : StaticContext) (p : Place) (ds : List Item) → Starts s a.spot.top (defun_row k kept a s p ds)
starts_defun s k kept a p [] = tt
starts_defun s k kept a p (d ∷ []) = tt
starts_defun s k kept a p (d ∷ l ∷ fs) = starts_defun_as s k kept a p d l fs (named (symbol_of d))

-- classes and generic functions

starts_generic_with : (s : Tables) (a : StaticContext) (d : Item) (n : Name) (l : Item) (ms : List WrittenMethod) (ps : Option Parameters) → has_function s n ≡ false
    → all_fit s (generic_row n ps) ms ≡ true → a.spot.top ≡ true → Starts s a.spot.top (generic_with a s d n l ms ps)
starts_generic_with s a d n l ms None fresh f e = tt
starts_generic_with s a d n l ms (Some ps) fresh f e =
    starts_joining s a (name_datum d n) (each_method s n ms) _ (each_functions s n ms)
    (λ keep w u rs same r. new_suits s n ps ms (length s.procedures) a.spot.sited u w same fresh f r) e

starts_generic_as : (names : List (List ℕ)) (s : Tables) (a : StaticContext) (p : Place) (d l : Item) (os : List GenericOption) (n : GivenName) → Starts s a.spot.top (generic_named_as names a s p d l os n)
starts_generic_as names s a p d l os no_name = tt
starts_generic_as names s a p d l os unfit = tt
starts_generic_as names s a p d l os lacking = tt
starts_generic_as names s a p d l os (given n) =
    starts_defining s p a.spot.top (is_taken a.spot.sited s n) (is_reserved (keeps names n) a s n) _
    (λ e taken reserved. starts_if s a.spot.top (list_any is_of_left_out os) _ _ tt
    (starts_within s 1 a p _
    (starts_test s a.spot.top (all_fit s (generic_row n (parameters_in s.words l)) (methods_among os)) _ _ (λ f.
    starts_generic_with s a d n l (methods_among os) (parameters_in s.words l)
    (fresh_name a.spot.sited (has_function s n) (is_of_prelude s n) (is_truth a s n) (keeps names n) taken reserved) f e) (λ f. tt))))

pub starts_defgeneric : (names : List (List ℕ)) (s : Tables) (a : StaticContext) (p : Place) (ds : List Item) → Starts s a.spot.top (defgeneric_row names a s p ds)
starts_defgeneric names s a p [] = tt
starts_defgeneric names s a p (d ∷ []) = tt
starts_defgeneric names s a p (d ∷ l ∷ ds) =
    starts_if s a.spot.top (list_any is_no_option (options_of names ds)) _ _ tt (starts_generic_as names s a p d l (options_of names ds) (given_name names d))

starts_method_for : (s : Tables) (a : StaticContext) (p : Place) (d : Item) (n : Name) (m : WrittenMethod) (g : Option ℕ) → generic_named s.generics n ≡ g → a.spot.top ≡ true
    → Starts s a.spot.top (method_for a s p d n m g)
starts_method_for s a p d n m None h e = tt
starts_method_for s a p d n m (Some g) h e =
    let there : (x : GenericRow) × (slice_get s.generics g ≡ Some x) = named_there s.generics n g h in
    starts_test s a.spot.top (fits s (slice_get s.generics g) m) _ _ (λ f.
    starts_joining s a (name_datum d n) (method_parts s n m) _ (method_functions s n m)
    (λ keep w u rs same r. there_suits s n g m there.0 (length s.procedures) a.spot.sited u w same there.1 (ap (λ o. fits s o m) (sym there.1) ∙ f) r) e) (λ f. tt)

starts_at_top : (s : Tables) (top : Bool) (p : Place) (x : Node) → (top ≡ true → Starts s top x) → Starts s top (if not top then offends p NotTopLevel else x)
starts_at_top s true p x h = h refl
starts_at_top s false p x h = tt

starts_method_named : (names : List (List ℕ)) (s : Tables) (a : StaticContext) (p : Place) (d : Item) (m : WrittenMethod) (n : GivenName) → Starts s a.spot.top (method_named_as names a s p d m n)
starts_method_named names s a p d m no_name = tt
starts_method_named names s a p d m unfit = tt
starts_method_named names s a p d m lacking = tt
starts_method_named names s a p d m (given n) =
    starts_at_top s a.spot.top p _
    (λ e. starts_if s a.spot.top (is_closed names a s d n) _ _ tt (starts_within s 1 a p _ (starts_method_for s a p d n m (generic_named s.generics n) refl e)))

starts_method_as : (names : List (List ℕ)) (s : Tables) (a : StaticContext) (p : Place) (d : Item) (m : Option WrittenMethod) → Starts s a.spot.top (method_as names a s p d m)
starts_method_as names s a p d None = tt
starts_method_as names s a p d (Some m) = starts_if s a.spot.top (some_fresh_class (list_items m.list)) _ _ tt (starts_method_named names s a p d m (given_name names d))

pub starts_defmethod : (names : List (List ℕ)) (s : Tables) (a : StaticContext) (p : Place) (ds : List Item) → Starts s a.spot.top (defmethod_row names a s p ds)
starts_defmethod names s a p [] = tt
starts_defmethod names s a p (d ∷ ds) = starts_method_as names s a p d (method_in names ds)

starts_class_made : (s : Tables) (a : StaticContext) (d : Item) (n : Name) (cs : List WrittenSuper) (xs : List WrittenSlot) (os : List ClassOption) → (KnownTables s → Judged s n cs xs)
    → a.spot.top ≡ true → Starts s a.spot.top (class_made a s d n cs xs os)
starts_class_made s a d n cs xs os j e =
    starts_joining s a d (class_parts s cs xs) _ (class_functions s cs xs)
    (λ keep w u rs same r. class_suits keep s n cs xs (is_abstract os) (length s.procedures) a.spot.sited u w same (j w) r) e

starts_new_class : (names : List (List ℕ)) (s : Tables) (a : StaticContext) (p : Place) (d : Item) (n : Name) (cs : List WrittenSuper) (xs : List WrittenSlot) (os : List ClassOption)
    → MaybeSlots (Some xs) → Starts s a.spot.top (defined_class names a s p d n cs xs os)
starts_new_class names s a p d n cs xs os written =
    starts_test s a.spot.top (list_any is_lacking (all_functions xs)) _ _ (λ l. tt) (λ there.
    starts_defining s p a.spot.top (is_taken_class a s n || list_any (is_of_function a s) (uses xs)) (is_reserved_class a s n || list_any (is_kept_name names a s) (uses xs)) _
    (λ e taken reserved. starts_if s a.spot.top (list_any is_left_out_class os) _ _ tt
    (starts_within s 1 a p _
    (starts_test s a.spot.top (not (are_supers s cs)) _ _ (λ h. tt) (λ supers.
    starts_test s a.spot.top (not (few_inherited s cs)) _ _ (λ h. tt) (λ few.
    starts_test s a.spot.top (list_all (fits_generic s) (uses xs) && names_differ (uses xs)) _ _ (λ fit.
    starts_class_made s a d n cs xs os (λ w. judged names a s n cs xs w written there taken reserved supers few fit) e) (λ h. tt)))))))

starts_new_class_as : (names : List (List ℕ)) (s : Tables) (a : StaticContext) (p : Place) (d : Item) (n : Option Name) (cs : Option (List WrittenSuper)) (xs : Option (List WrittenSlot)) (os : List ClassOption)
    → MaybeSlots xs → Starts s a.spot.top (class_shaped names a s p d n cs xs os)
starts_new_class_as names s a p d None cs xs os w = tt
starts_new_class_as names s a p d (Some n) None xs os w = tt
starts_new_class_as names s a p d (Some n) (Some cs) None os w = tt
starts_new_class_as names s a p d (Some n) (Some cs) (Some xs) os w = starts_if s a.spot.top (are_options os) _ _ (starts_new_class names s a p d n cs xs os w) tt

pub starts_defclass : (names : List (List ℕ)) (s : Tables) (a : StaticContext) (p : Place) (ds : List Item) → Starts s a.spot.top (defclass_row names a s p ds)
starts_defclass names s a p [] = tt
starts_defclass names s a p (d ∷ []) = tt
starts_defclass names s a p (d ∷ cs ∷ []) = tt
starts_defclass names s a p (d ∷ cs ∷ xs ∷ os) =
    starts_new_class_as names s a p d (named (symbol_of d)) (supers_in (list_items cs)) (slots_in names (list_items xs)) (class_options names os) (named_slots names (list_items xs))

-- functions of definitions
pub begins_function_node : (s : Tables) (o : StaticContext) (w : Written) → NodeBegins s (function_node o s w)
begins_function_node s o (initform d) = tables_grow_reflexive s
begins_function_node s o (accessor n k d) =
    let numbers : Tables = record s { variables = s.variables + new_variables k } in
    tables_grow_transitive s numbers (with_accessor k d s) (grows_numbers s (s.variables + new_variables k) s.exits (omega arith) (omega arith)) (grows_literal numbers _)
begins_function_node s o (method n has_next ps fs) = tables_grow_reflexive s
