-- The rows of forms that define generic functions and methods are apt.
use Rattle.std.proofs.Common.{◌+◌, ◌≡◌, ◌≤◌, ◌<◌, ℕ, Bool, true, false, not, ◌&&◌, List, [], ◌∷◌, ◌++◌, length, slice_get, is_some, Option, Some, None, if◌then◌else◌, refl, sym, ap, subst, ◌∙◌, append-nil, add-one, option_map, arith}
use Rattle.std.specs.List.{list_any}
use Rattle.std.proofs.lemmas.Bool.{and_parts, and_from}
use Rattle.std.proofs.lemmas.Option.{slice_get_within}
use Rattle.base.specs.declared.place.Place.{Place}
use Rattle.base.specs.declared.datum.Name.{Name}
use Rattle.base.specs.declared.reason.Reason.TheVariants.{NotTopLevel}
use Rattle.base.specs.Data.{Item}
use Rattle.base.specs.AllOf.{AllOf, all_both}
use Rattle.base.specs.WellFormedData.{WellFormed}
use Rattle.base.specs.Names.{slice_get-behind}
use Rattle.lang_meaning.specs.declared.program.GenericRow.{GenericRow}
use Rattle.lang_meaning.specs.declared.program.FunctionRow.{FunctionRow}
use Rattle.lang_meaning.specs.declared.program.Qualifier.{Qualifier}
use Rattle.lang_derived.specs.Asked.{list_items}
use Rattle.front_profile.specs.declared.tables.Tables.{Tables}
use Rattle.front_profile.specs.declared.parameters.Parameters.{Parameters}
use Rattle.front_profile.specs.declared.elaboration.MethodHead.{MethodHead}
use Rattle.front_profile.specs.declared.elaboration.Taker.TheVariants.{New, There}
use Rattle.front_profile.specs.declared.elaboration.Elaboration.TheVariants.{OfMethods}
use Rattle.front_profile.specs.Nodes.{StaticContext, Part, method, Node, offends}
use Rattle.front_profile.specs.Shapes.{parameters_in}
use Rattle.front_profile.specs.Elaborations.{with_generic, with_method_at, with_methods, generic_named}
use Rattle.front_profile.specs.DefiningRows.{is_that, has_function, is_taken, is_of_prelude, is_truth, is_reserved, named_form}
use Rattle.front_profile.specs.GivenNames.{GivenName, no_name, unfit, lacking, given, given_name}
use Rattle.front_profile.specs.MethodShapes.{Specialised, specialised_in, some_fresh_class, first_unknown, WrittenMethod, method_in, may_have_next}
use Rattle.front_profile.specs.GenericRows.{fits_by_number, is_there, fits, method_function, unless_unknown, specialised_parts, method_parts, heads_of, written_head, written_heads, name_datum, keeps, GenericOption, options_of, is_no_option, is_of_left_out, methods_among, with_head, all_fit, generic_row, each_method, all_heads, generic_with, generic_named_as, defgeneric_row, is_closed, method_for, method_named_as, method_as, defmethod_row}
use Rattle.front_profile.specs.bridge.SoundDefinitions.{sound_defgeneric, sound_defmethod}
use Rattle.lang_meaning.specs.Facts.{method_fits, same_method}
use Rattle.lang_classes.specs.InheritedClasses.{Hierarchy}
use Rattle.lang_classes.specs.InheritedSlots.{same_name}
use Rattle.front_profile.specs.Definitions.{Definitions, defined, rows_of, SoundDefinitions}
use Rattle.front_profile.proofs.Procedures.{IsProcedureOf, MadeFrom}
use Rattle.front_profile.proofs.Wanted.{AptAt, Stage}
use Rattle.front_profile.proofs.DefiningRows.{no_function, fresh_name}
use Rattle.front_profile.proofs.Adding.{new_row, plus_method, method_of, tables_with, get_with, later_generic, sound_generic, TakesMethod, StandsBelow, stands_generic, stands_next, all_stand_below}
use Rattle.front_profile.proofs.MethodViews.{AllRight, each_front, each_behind, MethodView, method_view}
use Rattle.front_profile.proofs.Methods.{none_alike, SameGeneric, alike_same, alike_more, FitsRow, fits_row, method_fits_there, Joined, joined_same, joined_then, method_defined, joined_method}
use Rattle.front_profile.proofs.Joining.{IsFunctionPart, AllFunctions, Joins, FunctionsCame, WhereSound, where_test, where_within, where_defining, apt_joining}

-- methods have functions alone

function_functions : (n : Name) (q : Option Qualifier) (ps : Parameters) (fs : List Item) → AllFunctions (method_function n q ps fs)
function_functions n None ps fs = tt
function_functions n (Some q) ps fs = (tt, tt)

pub unless_functions : (p : Option Place) (xs : List Part) → AllFunctions xs → AllFunctions (unless_unknown p xs)
unless_functions None xs f = f
unless_functions (Some p) xs f = (tt, tt)

specialised_functions : (s : Tables) (n : Name) (m : WrittenMethod) (ps : Option Specialised) → AllFunctions (specialised_parts s n m ps)
specialised_functions s n m None = (tt, tt)
specialised_functions s n m (Some ps) =
    unless_functions (first_unknown s.classes.rows ps.classes) (method_function n m.qualifier ps.parameters m.body) (function_functions n m.qualifier ps.parameters m.body)

pub method_functions : (s : Tables) (n : Name) (m : WrittenMethod) → AllFunctions (method_parts s n m)
method_functions s n m = specialised_functions s n m (specialised_in s.words m.list)

pub each_functions : (s : Tables) (n : Name) (ms : List WrittenMethod) → AllFunctions (each_method s n ms)
each_functions s n [] = tt
each_functions s n (m ∷ ms) = all_both IsFunctionPart (method_parts s n m) (each_method s n ms) (method_functions s n m) (each_functions s n ms)

-- a method that fits has a qualifier
pub some_qualifier : (x : GenericRow) (s : Tables) (m : WrittenMethod) → fits s (Some x) m ≡ true → is_some m.qualifier ≡ true
some_qualifier x s m f =
    let number : Bool = fits_by_number x (specialised_in s.words m.list) in
    let e : ((is_some m.qualifier && number) ≡ true) × (not (is_there x (written_head s m)) ≡ true) = and_parts _ _ f in
    (and_parts (is_some m.qualifier) number e.0).0

-- the generic function of that number takes the methods one after another
methods_joined : (s : Tables) (n : Name) (i : ℕ) (ms : List WrittenMethod) (x y : GenericRow) (t : Tables) (p : ℕ) → 0 < length s.classes.rows
    → SoundDefinitions (defined t) → t.classes ≡ s.classes → slice_get t.generics i ≡ Some y → SameGeneric x y → all_fit s (Some x) ms ≡ true
    → AllRight (each_method s n ms) → MadeFrom p (each_method s n ms) t.procedures → Joins p (defined t) (defined (with_methods i (all_heads s ms) p t))
methods_joined s n i [] x y t p l w c g a f r m = record { joined = joined_same (defined t) w; stand = all_stand_below p (defined t) m }
methods_joined s n i (m ∷ ms) x y t p l w c g a f r made =
    let e : (fits s (Some x) m ≡ true) × (all_fit s (with_head (Some x) (written_head s m)) ms ≡ true) = and_parts _ _ f in
    let v : MethodView s n m = method_view s n m (some_qualifier x s m e.0) l (each_front _ (method_parts s n m) (each_method s n ms) r) in
    let h : MethodHead = record { qualifier = v.qualifier; classes = v.classes } in
    let k : FitsRow x s n m v = fits_row x s n m v e.0 in
    let here : IsProcedureOf (method n (may_have_next v.qualifier) v.takes.parameters m.body) t.procedures p × MadeFrom (p + 1) (each_method s n ms) t.procedures =
    subst (λ (xs : List Part). MadeFrom p (xs ++ each_method s n ms) t.procedures) v.parts made in
    let takes : TakesMethod (defined t) i (method_of h p) = record {
      takes = λ z q.
          let same : y ≡ z = cc (g, q) in
          subst (λ (z : GenericRow). (method_fits (rows_of (defined t)) z (method_of h p) ≡ true) × (list_any (λ j. same_method j (method_of h p)) z.methods ≡ false)) same (
            method_fits_there (rows_of (defined t)) s n m x y p v k a (ap (λ (k : Hierarchy). length k.rows) c) here.0,
            none_alike (method_of h p) y.methods (a.same (method_of h p) ∙ k.other),
          );
    } in
    let u : Tables = with_method_at i h p t in
    let one : Joined (defined t) (defined u) = joined_method t i h p w takes in
    let there : slice_get u.generics i ≡ Some (plus_method y (method_of h p)) =
    ap (λ gs. slice_get gs i) (tables_with t t.generics i h p) ∙ get_with t.generics i (method_of h p) y g in
    let rest : Joins (p + 1) (defined u) (defined (with_methods i (all_heads s ms) (p + 1) u)) =
    methods_joined s n i ms (plus_method x (method_of h 0)) (plus_method y (method_of h p)) u (p + 1) l one.sound c there (alike_more x y h p a)
    (ap (λ o. all_fit s (with_head (Some x) o) ms) (sym v.head) ∙ e.1) (each_behind _ (method_parts s n m) (each_method s n ms) r) here.1 in
    subst (λ (hs : List MethodHead). Joins p (defined t) (defined (with_methods i (hs ++ all_heads s ms) p t))) (sym (ap heads_of v.head)) (record {
      joined = joined_then (defined t) (defined u) _ one rest.joined;
      stand = λ b.
          rest.stand (subst (λ (g : Definitions). StandsBelow (p + 1) g) (method_defined t i h p)
          (stands_next p (defined t) i (method_of h p) (slice_get_within t.generics i y g) refl b));
    })

-- a generic function of a new name, with its methods
new_joined : (s : Tables) (n : Name) (ps : Parameters) (ms : List WrittenMethod) (of_file : Bool) (u : Tables) → 0 < length s.classes.rows → has_function s n ≡ false
    → all_fit s (generic_row n (Some ps)) ms ≡ true → FunctionsCame s (each_method s n ms) u
    → Joins (length s.procedures) (defined u) (defined (with_methods (length u.generics) (all_heads s ms) (length s.procedures) (with_generic n (length ps.required) (is_some ps.rest) of_file u)))
new_joined s n ps ms of_file u l fresh f c =
    let t : Tables = with_generic n (length ps.required) (is_some ps.rest) of_file u in
    let new : list_any (λ (f : FunctionRow). is_that n f.name) u.functions ≡ false = ap (λ fs. list_any (λ (f : FunctionRow). is_that n f.name) fs) c.same.functions ∙ no_function s n fresh in
    let w : SoundDefinitions (defined t) = sound_generic (defined u) n (length ps.required) (is_some ps.rest) c.sound new in
    let x : GenericRow = new_row n (length ps.required) (is_some ps.rest) in
    let rest : Joins (length s.procedures) (defined t) (defined (with_methods (length u.generics) (all_heads s ms) (length s.procedures) t)) =
    methods_joined s n (length u.generics) ms x x t (length s.procedures) l w c.same.classes (slice_get-behind u.generics x) (alike_same x) f c.right c.made in
    record {
      joined = joined_then (defined u) (defined t) _ (record {
        sound = w;
        later = later_generic (defined u) n (length ps.required) (is_some ps.rest);
        literals = refl;
        procedures = refl;
        main = refl;
        sites = refl;
      }) rest.joined;
      stand = λ b. rest.stand (stands_generic (length s.procedures) (defined u) n (length ps.required) (is_some ps.rest) b);
    }

-- there are classes
some_class : (s : Tables) → SoundDefinitions (defined s) → 0 < length s.classes.rows
some_class s w = omega (arith, w.classes.hierarchy.enough)

-- defgeneric

generic_apt : (n : ℕ) (a : StaticContext) (s : Tables) (d : Item) (name : Name) (l : Item) (ms : List WrittenMethod) (ps : Option Parameters) → Stage a s → a.spot.top ≡ true
    → has_function s name ≡ false → a.spot.depth + 1 ≤ 1000 → all_fit s (generic_row name ps) ms ≡ true → WhereSound n a s (generic_with a s d name l ms ps)
generic_apt n a s d name l ms None b top fresh k f = λ q. tt
generic_apt n a s d name l ms (Some ps) b top fresh k f =
    apt_joining n a s (name_datum d name) (each_method s name ms)
    (OfMethods (New name (length ps.required) (is_some ps.rest)) (all_heads s ms) (length s.procedures) a.spot.sited (named_form a.spot.sited s)) b refl top k
    (each_functions s name ms) (λ rs. refl) (λ u rs c. new_joined s name ps ms a.spot.sited u (some_class s b.whole) fresh f c)

generic_named_apt : (names : List (List ℕ)) (n : ℕ) (a : StaticContext) (s : Tables) (p : Place) (d l : Item) (os : List GenericOption) (name : GivenName) → Stage a s
    → WhereSound n a s (generic_named_as names a s p d l os name)
generic_named_apt names n a s p d l os no_name b = λ q. tt
generic_named_apt names n a s p d l os unfit b = λ q. tt
generic_named_apt names n a s p d l os lacking b = λ q. tt
generic_named_apt names n a s p d l os (given name) b =
    where_defining n a s p a.spot.top (is_taken a.spot.sited s name) (is_reserved (keeps names name) a s name) _ (λ top taken reserved.
    where_test n a s (list_any is_of_left_out os) _ _ (λ e q. tt) (λ e.
    where_within n a s p _ (λ k.
    where_test n a s (all_fit s (generic_row name (parameters_in s.words l)) (methods_among os)) _ _ (λ f.
    generic_apt n a s d name l (methods_among os) (parameters_in s.words l) b top
    (fresh_name a.spot.sited (has_function s name) (is_of_prelude s name) (is_truth a s name) (keeps names name) taken reserved) k f) (λ f q. tt))))

defgeneric_apt : (names : List (List ℕ)) (n : ℕ) (a : StaticContext) (s : Tables) (p : Place) (ds : List Item) → Stage a s → WhereSound n a s (defgeneric_row names a s p ds)
defgeneric_apt names n a s p [] b = λ q. tt
defgeneric_apt names n a s p (d ∷ []) b = λ q. tt
defgeneric_apt names n a s p (d ∷ l ∷ ds) b =
    where_test n a s (list_any is_no_option (options_of names ds)) _ _ (λ e q. tt) (λ e. generic_named_apt names n a s p d l (options_of names ds) (given_name names d) b)

pub apt_defgeneric : (names : List (List ℕ)) (n : ℕ) (a : StaticContext) (s : Tables) (p : Place) (ds : List Item) → Stage a s → AllOf (WellFormed n) ds → AptAt n a s (defgeneric_row names a s p ds)
apt_defgeneric names n a s p ds b g = defgeneric_apt names n a s p ds b (sound_defgeneric names n a s p ds g)

-- defmethod

-- a method of a generic function that is there
there_joined : (s : Tables) (n : Name) (i : ℕ) (m : WrittenMethod) (x : GenericRow) (u : Tables) → 0 < length s.classes.rows → slice_get s.generics i ≡ Some x
    → fits s (Some x) m ≡ true → FunctionsCame s (method_parts s n m) u
    → Joins (length s.procedures) (defined u) (defined (with_methods i (written_heads s m) (length s.procedures) u))
there_joined s n i m x u l e f c =
    let alone : each_method s n (m ∷ []) ≡ method_parts s n m = append-nil (method_parts s n m) in
    let all : Joins (length s.procedures) (defined u) (defined (with_methods i (all_heads s (m ∷ [])) (length s.procedures) u)) =
    methods_joined s n i (m ∷ []) x x u (length s.procedures) l c.sound c.same.classes (ap (λ gs. slice_get gs i) c.same.generics ∙ e) (alike_same x) (and_from _ _ f refl)
    (subst AllRight (sym alone) c.right) (subst (λ (xs : List Part). MadeFrom (length s.procedures) xs u.procedures) (sym alone) c.made) in
    subst (λ (hs : List MethodHead). Joins (length s.procedures) (defined u) (defined (with_methods i hs (length s.procedures) u))) (append-nil (written_heads s m)) all

-- a generic function that is named is there
pub named_there : (gs : List GenericRow) (n : Name) (i : ℕ) → generic_named gs n ≡ Some i → (x : GenericRow) × (slice_get gs i ≡ Some x)
named_there [] n i e = absurd (cc e)
named_there (g ∷ gs) n i e = by_test (same_name n g.name) (generic_named gs n) (named_there gs n) e
  where
    by_test : (b : Bool) (o : Option ℕ) → ((j : ℕ) → o ≡ Some j → (x : GenericRow) × (slice_get gs j ≡ Some x)) → (if b then Some 0 else option_map (λ k. k + 1) o) ≡ Some i
        → (x : GenericRow) × (slice_get (g ∷ gs) i ≡ Some x)
    by_test true o more h = let k : 0 ≡ i = cc h in (g, ap (slice_get (g ∷ gs)) (sym k))
    by_test false None more h = absurd (cc h)
    by_test false (Some j) more h =
        let k : j + 1 ≡ i = cc h in
        let r : (x : GenericRow) × (slice_get gs j ≡ Some x) = more j refl in
        (r.0, ap (slice_get (g ∷ gs)) (sym k ∙ add-one j) ∙ r.1)

method_for_apt : (n : ℕ) (a : StaticContext) (s : Tables) (p : Place) (d : Item) (name : Name) (m : WrittenMethod) (i : Option ℕ) → Stage a s → a.spot.top ≡ true
    → a.spot.depth + 1 ≤ 1000 → generic_named s.generics name ≡ i → WhereSound n a s (method_for a s p d name m i)
method_for_apt n a s p d name m None b top k e = λ q. tt
method_for_apt n a s p d name m (Some i) b top k e =
    let there : (x : GenericRow) × (slice_get s.generics i ≡ Some x) = named_there s.generics name i e in
    where_test n a s (fits s (slice_get s.generics i) m) _ _ (λ f.
    apt_joining n a s (name_datum d name) (method_parts s name m)
    (OfMethods (There i) (written_heads s m) (length s.procedures) a.spot.sited (named_form a.spot.sited s)) b refl top k (method_functions s name m) (λ rs. refl)
    (λ u rs c. there_joined s name i m there.0 u (some_class s b.whole) there.1 (ap (λ o. fits s o m) (sym there.1) ∙ f) c)) (λ f q. tt)

where_top : (n : ℕ) (a : StaticContext) (s : Tables) (top : Bool) (p : Place) (x : Node) → (top ≡ true → WhereSound n a s x) → WhereSound n a s (if not top then offends p NotTopLevel else x)
where_top n a s true p x h = h refl
where_top n a s false p x h = λ q. tt

method_named_apt : (names : List (List ℕ)) (n : ℕ) (a : StaticContext) (s : Tables) (p : Place) (d : Item) (m : WrittenMethod) (name : GivenName) → Stage a s
    → WhereSound n a s (method_named_as names a s p d m name)
method_named_apt names n a s p d m no_name b = λ q. tt
method_named_apt names n a s p d m unfit b = λ q. tt
method_named_apt names n a s p d m lacking b = λ q. tt
method_named_apt names n a s p d m (given name) b =
    where_top n a s a.spot.top p _ (λ top.
    where_test n a s (is_closed names a s d name) _ _ (λ e q. tt) (λ e.
    where_within n a s p _ (λ k. method_for_apt n a s p d name m (generic_named s.generics name) b top k refl)))

method_as_apt : (names : List (List ℕ)) (n : ℕ) (a : StaticContext) (s : Tables) (p : Place) (d : Item) (m : Option WrittenMethod) → Stage a s
    → WhereSound n a s (method_as names a s p d m)
method_as_apt names n a s p d None b = λ q. tt
method_as_apt names n a s p d (Some m) b =
    where_test n a s (some_fresh_class (list_items m.list)) _ _ (λ e q. tt) (λ e. method_named_apt names n a s p d m (given_name names d) b)

defmethod_apt : (names : List (List ℕ)) (n : ℕ) (a : StaticContext) (s : Tables) (p : Place) (ds : List Item) → Stage a s → WhereSound n a s (defmethod_row names a s p ds)
defmethod_apt names n a s p [] b = λ q. tt
defmethod_apt names n a s p (d ∷ ds) b = method_as_apt names n a s p d (method_in names ds) b

pub apt_defmethod : (names : List (List ℕ)) (n : ℕ) (a : StaticContext) (s : Tables) (p : Place) (ds : List Item) → Stage a s → AllOf (WellFormed n) ds → AptAt n a s (defmethod_row names a s p ds)
apt_defmethod names n a s p ds b g = defmethod_apt names n a s p ds b (sound_defmethod names n a s p ds g)
