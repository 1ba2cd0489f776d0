-- The rows of definitions of generic functions, methods and classes stay under every later table of names, unless the earlier one lacks a name.
use Rattle.std.proofs.Common.{◌≡◌, ℕ, Bool, true, false, not, ◌&&◌, ◌||◌, List, [], ◌∷◌, ◌++◌, ◌⊎◌, inl, inr, ⊎_elim, Option, Some, None, if◌then◌else◌, length, refl, sym, ap, subst, ◌∙◌}
use Rattle.std.specs.Prelude.{flat_map, filter_map, map, codes, slice_get}
use Rattle.std.specs.List.{list_any, list_all}
use Rattle.base.specs.declared.place.Place.{Place}
use Rattle.base.specs.declared.datum.Name.{Name}
use Rattle.base.specs.declared.datum.Symbol.{Symbol}
use Rattle.base.specs.declared.datum.Symbol.TheVariants.{Named, Fresh}
use Rattle.base.specs.declared.reason.Reason.TheVariants.{NotTopLevel, ReservedName, LeftOut, BadMethod}
use Rattle.base.specs.Names.{Extends}
use Rattle.base.specs.Data.{Item, place_of}
use Rattle.base.specs.DataNames.{symbol_text, text_of}
use Rattle.base.specs.AllOf.{AllOf}
use Rattle.base.specs.WellFormedData.{WellFormed}
use Rattle.lang_meaning.specs.declared.program.Qualifier.{Qualifier}
use Rattle.lang_meaning.specs.declared.program.Qualifier.TheVariants.{Before, After, Around as AroundMethod}
use Rattle.lang_derived.specs.Asked.{list_items, is_word, is_text}
use Rattle.front_profile.specs.declared.tables.Tables.{Tables}
use Rattle.front_profile.specs.Nodes.{StaticContext, Node, offends, unnamed, NodeStays}
use Rattle.front_profile.specs.Shapes.{symbol_of}
use Rattle.front_profile.specs.RowWords.{within_depth, bad_shape}
use Rattle.front_profile.specs.Elaborations.{generic_named}
use Rattle.front_profile.specs.DefiningRows.{defining, is_taken, is_reserved}
use Rattle.front_profile.specs.GivenNames.{GivenName, no_name, unfit, lacking, given, given_name}
use Rattle.front_profile.specs.MethodShapes.{some_fresh_class, WrittenMethod, qualifier_of, written, method_in}
use Rattle.front_profile.specs.GenericRows.{keeps, kept_by, GenericOption, no_option, left_out, standard, method_option, is_standard, is_left_out_option, option_of, options_of, is_no_option, is_of_left_out, methods_among, generic_checked, generic_named_as, defgeneric_row, takes_methods, is_closed, method_for, method_of, method_named_as, method_as, defmethod_row}
use Rattle.front_profile.specs.bridge.WellFormedParts.{MaybeGood, good_parts}
use Rattle.front_profile.specs.bridge.LaterNames.{same_text, same_word, GivenLater, given_later, GivenKept, given_kept}

pub stays_if : (b : Bool) (x y z w : Node) → NodeStays x y → NodeStays z w → NodeStays (if b then x else z) (if b then y else w)
stays_if true x y z w g h = g
stays_if false x y z w g h = h

-- methods as they are written

qualifier_later : (old new : List (List ℕ)) (d : Item) → Extends old new → WellFormed (length old) d → qualifier_of old d ≡ qualifier_of new d
qualifier_later old new d e g =
    ap (λ t. if is_text (codes ":before") t then Some Before else if is_text (codes ":after") t then Some After else if is_text (codes ":around") t then Some AroundMethod else None)
    (same_text old new d e g)

written_later : (old new : List (List ℕ)) (d : Item) (x : Option Symbol) (l : Item) (fs : List Item) → Extends old new → WellFormed (length old) d →
    written old d x l fs ≡ written new d x l fs
written_later old new d None l fs e g = refl
written_later old new d (Some x) l fs e g =
    ap (λ (q : Option Qualifier). record { qualifier = q; list = l; body = fs }) (qualifier_later old new d e g)

method_later : (old new : List (List ℕ)) (ds : List Item) → Extends old new → AllOf (WellFormed (length old)) ds → method_in old ds ≡ method_in new ds
method_later old new [] e g = refl
method_later old new (d ∷ []) e g = refl
method_later old new (d ∷ l ∷ fs) e g = ap (λ m. Some m) (written_later old new d (symbol_of d) l fs e g.0)

-- options of defgeneric

standard_later : (old new : List (List ℕ)) (ds : List Item) → Extends old new → AllOf (WellFormed (length old)) ds → is_standard old ds ≡ is_standard new ds
standard_later old new [] e g = refl
standard_later old new (d ∷ []) e g = same_word old new (codes "standard") d e g.0
standard_later old new (d ∷ f ∷ ds) e g = refl

option_later : (old new : List (List ℕ)) (ds : Option (List Item)) → Extends old new → MaybeGood (length old) ds → option_of old ds ≡ option_of new ds
option_later old new None e g = refl
option_later old new (Some []) e g = refl
option_later old new (Some (h ∷ ds)) e g =
    ap (λ t. if is_text (codes ":method") t then method_option (method_in old ds)
    else if is_text (codes ":metaclass") t || is_text (codes ":generic-function-class") t then left_out
    else if is_text (codes ":method-combination") t then (if is_standard old ds then standard else left_out)
    else no_option) (same_text old new h e g.0)
    ∙ ap (λ m. if is_word new (codes ":method") h then method_option m
    else if is_left_out_option new h then left_out
    else if is_word new (codes ":method-combination") h then (if is_standard old ds then standard else left_out)
    else no_option) (method_later old new ds e g.1)
    ∙ ap (λ (b : Bool). if is_word new (codes ":method") h then method_option (method_in new ds)
    else if is_left_out_option new h then left_out
    else if is_word new (codes ":method-combination") h then (if b then standard else left_out)
    else no_option) (standard_later old new ds e g.1)

options_later : (old new : List (List ℕ)) (ds : List Item) → Extends old new → AllOf (WellFormed (length old)) ds → options_of old ds ≡ options_of new ds
options_later old new [] e g = refl
options_later old new (d ∷ ds) e g =
    ap (λ o. o ∷ options_of old ds) (option_later old new (list_items d) e (good_parts (length old) d g.0))
    ∙ ap (λ os. option_of new (list_items d) ∷ os) (options_later old new ds e g.1)

-- defgeneric

keeps_later : (old new : List (List ℕ)) (n : Name) → slice_get old n.0 ≡ slice_get new n.0 → keeps old n ≡ keeps new n
keeps_later old new n h = ap kept_by h

generic_later : (old new : List (List ℕ)) (a : StaticContext) (s : Tables) (p : Place) (d l : Item) (os : List GenericOption) (x : GivenName) → GivenKept old new x →
    generic_named_as old a s p d l os x ≡ generic_named_as new a s p d l os x
generic_later old new a s p d l os no_name h = refl
generic_later old new a s p d l os unfit h = refl
generic_later old new a s p d l os lacking h = refl
generic_later old new a s p d l os (given n) h =
    ap (λ (k : Bool). defining a p (is_taken a.spot.sited s n) (is_reserved k a s n)
    (if list_any is_of_left_out os then offends p LeftOut
    else within_depth 1 a p (generic_checked a s p d l os n))) (keeps_later old new n h)

generic_given : (old new : List (List ℕ)) (a : StaticContext) (s : Tables) (p : Place) (d l : Item) (os : List GenericOption) (x y : GivenName) → GivenLater x y → GivenKept old new x →
    NodeStays (generic_named_as old a s p d l os x) (generic_named_as new a s p d l os y)
generic_given old new a s p d l os x y h k =
    ⊎_elim (λ lacks. inl (ap (generic_named_as old a s p d l os) lacks.0))
    (λ same. inr (generic_later old new a s p d l os x k ∙ ap (generic_named_as new a s p d l os) same)) h

pub defgeneric_later : (old new : List (List ℕ)) (a : StaticContext) (s : Tables) (p : Place) (ds : List Item) → Extends old new → AllOf (WellFormed (length old)) ds →
    NodeStays (defgeneric_row old a s p ds) (defgeneric_row new a s p ds)
defgeneric_later old new a s p [] e g = inr refl
defgeneric_later old new a s p (d ∷ []) e g = inr refl
defgeneric_later old new a s p (d ∷ l ∷ ds) e g =
    subst (λ (os : List GenericOption). NodeStays (defgeneric_row old a s p (d ∷ l ∷ ds)) (if list_any is_no_option os then bad_shape p else generic_named_as new a s p d l os (given_name new d)))
    (options_later old new ds e g.1.1)
    (stays_if (list_any is_no_option (options_of old ds)) _ _ _ _ (inr refl)
    (generic_given old new a s p d l (options_of old ds) (given_name old d) (given_name new d) (given_later old new d e g.0) (given_kept old new d e g.0)))

-- defmethod

method_name_later : (old new : List (List ℕ)) (a : StaticContext) (s : Tables) (p : Place) (d : Item) (m : WrittenMethod) (x : GivenName) → Extends old new → WellFormed (length old) d → GivenKept old new x →
    method_named_as old a s p d m x ≡ method_named_as new a s p d m x
method_name_later old new a s p d m no_name e g h = refl
method_name_later old new a s p d m unfit e g h = refl
method_name_later old new a s p d m lacking e g h = refl
method_name_later old new a s p d m (given n) e g h =
    ap (λ (k : Bool). if not a.spot.top then offends p NotTopLevel
    else if is_reserved k a s n && not (takes_methods old d) then offends p ReservedName
    else within_depth 1 a p (method_for a s p d n m (generic_named s.generics n))) (keeps_later old new n h)
    ∙ ap (λ (t : Option (List ℕ)). if not a.spot.top then offends p NotTopLevel
    else if is_reserved (keeps new n) a s n && not (is_text (codes "initialize-object") t || is_text (codes "report-condition") t) then offends p ReservedName
    else within_depth 1 a p (method_for a s p d n m (generic_named s.generics n))) (same_text old new d e g)

method_given : (old new : List (List ℕ)) (a : StaticContext) (s : Tables) (p : Place) (d : Item) (m : WrittenMethod) (x y : GivenName) → Extends old new → WellFormed (length old) d → GivenLater x y → GivenKept old new x →
    NodeStays (method_named_as old a s p d m x) (method_named_as new a s p d m y)
method_given old new a s p d m x y e g h k =
    ⊎_elim (λ lacks. inl (ap (method_named_as old a s p d m) lacks.0))
    (λ same. inr (method_name_later old new a s p d m x e g k ∙ ap (method_named_as new a s p d m) same)) h

method_as_later : (old new : List (List ℕ)) (a : StaticContext) (s : Tables) (p : Place) (d : Item) (m : Option WrittenMethod) → Extends old new → WellFormed (length old) d →
    NodeStays (method_as old a s p d m) (method_as new a s p d m)
method_as_later old new a s p d None e g = inr refl
method_as_later old new a s p d (Some m) e g =
    stays_if (some_fresh_class (list_items m.list)) _ _ _ _ (inr refl)
    (method_given old new a s p d m (given_name old d) (given_name new d) e g (given_later old new d e g) (given_kept old new d e g))

pub defmethod_later : (old new : List (List ℕ)) (a : StaticContext) (s : Tables) (p : Place) (ds : List Item) → Extends old new → AllOf (WellFormed (length old)) ds →
    NodeStays (defmethod_row old a s p ds) (defmethod_row new a s p ds)
defmethod_later old new a s p [] e g = inr refl
defmethod_later old new a s p (d ∷ ds) e g =
    subst (λ (m : Option WrittenMethod). NodeStays (defmethod_row old a s p (d ∷ ds)) (method_as new a s p d m)) (method_later old new ds e g.1)
    (method_as_later old new a s p d (method_in old ds) e g.0)
