-- The rows of forms that define generic functions and methods have sound parts; so has each function of a definition.
use Rattle.std.proofs.Common.{◌≡◌, ℕ, ◌+◌, ◌-◌, ◌<◌, ◌≤◌, Bool, true, false, not, ◌&&◌, List, [], ◌∷◌, ◌++◌, Option, Some, None, if◌then◌else◌, refl, arith}
use Rattle.std.specs.Prelude.{slice_get, map}
use Rattle.std.specs.List.{list_any}
use Rattle.base.specs.declared.place.Place.{Place}
use Rattle.base.specs.declared.datum.Name.{Name}
use Rattle.base.specs.declared.datum.Symbol.{Symbol}
use Rattle.base.specs.Data.{Item}
use Rattle.base.specs.AllOf.{AllOf}
use Rattle.base.specs.WellFormedData.{WellFormed}
use Rattle.lang_meaning.specs.declared.program.Qualifier.{Qualifier}
use Rattle.lang_derived.specs.Asked.{list_items, is_word}
use Rattle.front_profile.specs.declared.parameters.Parameters.{Parameters}
use Rattle.front_profile.specs.declared.spot.Spot.{Spot}
use Rattle.front_profile.specs.declared.tables.Tables.{Tables}
use Rattle.front_profile.specs.Nodes.{StaticContext, Part, Written, initform, accessor, method, Node}
use Rattle.front_profile.specs.FunctionNodes.{function_node}
use Rattle.front_profile.specs.Shapes.{parameters_in, symbol_of}
use Rattle.front_profile.specs.RowWords.{alone}
use Rattle.front_profile.specs.Elaborations.{generic_named}
use Rattle.front_profile.specs.DefiningRows.{is_taken, is_reserved}
use Rattle.front_profile.specs.GivenNames.{GivenName, no_name, unfit, lacking, given, given_name}
use Rattle.front_profile.specs.MethodShapes.{Specialised, specialised_in, some_fresh_class, first_unknown, WrittenMethod, written, method_in}
use Rattle.front_profile.specs.GenericRows.{unless_unknown, method_function, specialised_parts, method_parts, GenericOption, no_option, left_out, standard, of_method, method_option, is_standard, is_left_out_option, option_of, options_of, is_no_option, is_of_left_out, methods_among, all_fit, fits, generic_row, each_method, generic_with, generic_of, generic_named_as, defgeneric_row, keeps, is_closed, method_for, method_of, method_named_as, method_as, defmethod_row}
use Rattle.front_profile.specs.Sound.{weight, AllSound, SoundFunction, SoundNode}
use Rattle.front_profile.specs.bridge.WellFormedParts.{MaybeGood, good_parts}
use Rattle.front_profile.specs.bridge.SoundParts.{sound_if, sound_within, both_sound}
use Rattle.front_profile.specs.bridge.SoundBinders.{sound_variables, sound_defining}

-- a definition at top level lies above its functions

above_functions : (d : ℕ) (top : Bool) → top ≡ true → 1001 < (1001 - d) + (if top then 1002 else 0)
above_functions d true e = omega arith
above_functions d false e = absurd (cc)

pub at_top_level : (spot : Spot) → spot.top ≡ true → 1001 < weight spot
at_top_level spot e = above_functions spot.depth spot.top e

-- each function of a definition has sound parts
pub sound_function_node : (n w : ℕ) (o : StaticContext) (s : Tables) (f : Written) → SoundFunction n w f → SoundNode n 1001 (function_node o s f)
sound_function_node n w o s (initform d) g = ((g.0, omega arith), tt)
sound_function_node n w o s (accessor m k d) g = tt
sound_function_node n w o s (method m has_next ps fs) g =
    sound_variables n 1001 (alone has_next o) (alone has_next o) ps fs (omega arith) g.0

-- methods as they are written

abbrev pub MaybeMethod : ℕ → Option WrittenMethod → Type 0
MaybeMethod n None = Unit {0}
MaybeMethod n (Some m) = AllOf (WellFormed n) m.body

good_written : (names : List (List ℕ)) (n : ℕ) (d : Item) (x : Option Symbol) (l : Item) (fs : List Item) → WellFormed n l → AllOf (WellFormed n) fs →
    MaybeMethod n (Some (written names d x l fs))
good_written names n d None l fs g h = (g, h)
good_written names n d (Some x) l fs g h = h

pub good_method : (names : List (List ℕ)) (n : ℕ) (ds : List Item) → AllOf (WellFormed n) ds → MaybeMethod n (method_in names ds)
good_method names n [] g = tt
good_method names n (d ∷ []) g = tt
good_method names n (d ∷ l ∷ fs) g = good_written names n d (symbol_of d) l fs g.1.0 g.1.1

sound_method_function : (n w : ℕ) (o i : StaticContext) (m : Name) (q : Option Qualifier) (ps : Parameters) (fs : List Item) → AllOf (WellFormed n) fs → 1001 < w →
    AllSound n w o i (method_function m q ps fs)
sound_method_function n w o i m None ps fs g h = tt
sound_method_function n w o i m (Some q) ps fs g h = ((g, h), tt)

pub sound_unless_unknown : (n w : ℕ) (o i : StaticContext) (p : Option Place) (xs : List Part) → AllSound n w o i xs → AllSound n w o i (unless_unknown p xs)
sound_unless_unknown n w o i None xs g = g
sound_unless_unknown n w o i (Some p) xs g = (tt, tt)

sound_specialised : (n w : ℕ) (o i : StaticContext) (s : Tables) (name : Name) (m : WrittenMethod) (ps : Option Specialised) → AllOf (WellFormed n) m.body → 1001 < w →
    AllSound n w o i (specialised_parts s name m ps)
sound_specialised n w o i s name m None g h = (tt, tt)
sound_specialised n w o i s name m (Some ps) g h =
    sound_unless_unknown n w o i (first_unknown s.classes.rows ps.classes) _
    (sound_method_function n w o i name m.qualifier ps.parameters m.body g h)

sound_method_parts : (n w : ℕ) (o i : StaticContext) (s : Tables) (name : Name) (m : WrittenMethod) → AllOf (WellFormed n) m.body → 1001 < w →
    AllSound n w o i (method_parts s name m)
sound_method_parts n w o i s name m g h = sound_specialised n w o i s name m (specialised_in s.words m.list) g h

-- the methods among options

abbrev pub WellFormedMethods : ℕ → List WrittenMethod → Type 0
WellFormedMethods n [] = Unit {0}
WellFormedMethods n (m ∷ ms) = AllOf (WellFormed n) m.body × WellFormedMethods n ms

abbrev pub WellFormedOption : ℕ → GenericOption → Type 0
WellFormedOption n no_option = Unit {0}
WellFormedOption n left_out = Unit {0}
WellFormedOption n standard = Unit {0}
WellFormedOption n (of_method m) = AllOf (WellFormed n) m.body

good_if : (n : ℕ) (b : Bool) (o p : GenericOption) → WellFormedOption n o → WellFormedOption n p → WellFormedOption n (if b then o else p)
good_if n true o p g h = g
good_if n false o p g h = h

good_method_option : (n : ℕ) (m : Option WrittenMethod) → MaybeMethod n m → WellFormedOption n (method_option m)
good_method_option n None g = tt
good_method_option n (Some m) g = good_if n (some_fresh_class (list_items m.list)) no_option (of_method m) tt g

good_option : (names : List (List ℕ)) (n : ℕ) (ds : Option (List Item)) → MaybeGood n ds → WellFormedOption n (option_of names ds)
good_option names n None g = tt
good_option names n (Some []) g = tt
good_option names n (Some (h ∷ ds)) g =
    good_if n _ _ _ (good_method_option n (method_in names ds) (good_method names n ds g.1))
    (good_if n (is_left_out_option names h) left_out _ tt
    (good_if n _ _ no_option (good_if n (is_standard names ds) standard left_out tt tt) tt))

with_option : (n : ℕ) (o : GenericOption) (os : List GenericOption) → WellFormedOption n o → WellFormedMethods n (methods_among os) → WellFormedMethods n (methods_among (o ∷ os))
with_option n no_option os g h = h
with_option n left_out os g h = h
with_option n standard os g h = h
with_option n (of_method m) os g h = (g, h)

good_options : (names : List (List ℕ)) (n : ℕ) (ds : List Item) → AllOf (WellFormed n) ds → WellFormedMethods n (methods_among (options_of names ds))
good_options names n [] g = tt
good_options names n (d ∷ ds) g =
    with_option n _ (options_of names ds) (good_option names n (list_items d) (good_parts n d g.0)) (good_options names n ds g.1)

sound_each_method : (n w : ℕ) (o i : StaticContext) (s : Tables) (name : Name) (ms : List WrittenMethod) → WellFormedMethods n ms → 1001 < w →
    AllSound n w o i (each_method s name ms)
sound_each_method n w o i s name [] g h = tt
sound_each_method n w o i s name (m ∷ ms) g h =
    both_sound n w o i (method_parts s name m) (each_method s name ms) (sound_method_parts n w o i s name m g.0 h)
    (sound_each_method n w o i s name ms g.1 h)

-- defgeneric

sound_generic_with : (n w : ℕ) (a : StaticContext) (s : Tables) (d : Item) (name : Name) (l : Item) (ms : List WrittenMethod) (ps : Option Parameters) →
    WellFormedMethods n ms → 1001 < w → SoundNode n w (generic_with a s d name l ms ps)
sound_generic_with n w a s d name l ms None g h = tt
sound_generic_with n w a s d name l ms (Some ps) g h = sound_each_method n w a a s name ms g h

sound_generic_of : (names : List (List ℕ)) (n : ℕ) (a : StaticContext) (s : Tables) (p : Place) (d l : Item) (os : List GenericOption) (name : Name) →
    WellFormedMethods n (methods_among os) → SoundNode n (weight a.spot) (generic_of names a s p d l os name)
sound_generic_of names n a s p d l os name g =
    sound_defining n (weight a.spot) a p (is_taken a.spot.sited s name) (is_reserved (keeps names name) a s name) _ (λ top.
    sound_if n (weight a.spot) (list_any is_of_left_out os) _ _ tt
    (sound_within n (weight a.spot) 1 a p _ (λ h.
    sound_if n (weight a.spot) (all_fit s (generic_row name (parameters_in s.words l)) (methods_among os)) _ _
    (sound_generic_with n (weight a.spot) a s d name l (methods_among os) (parameters_in s.words l) g (at_top_level a.spot top)) tt)))

sound_generic_as : (names : List (List ℕ)) (n : ℕ) (a : StaticContext) (s : Tables) (p : Place) (d l : Item) (os : List GenericOption) (x : GivenName) →
    WellFormedMethods n (methods_among os) → SoundNode n (weight a.spot) (generic_named_as names a s p d l os x)
sound_generic_as names n a s p d l os no_name g = tt
sound_generic_as names n a s p d l os unfit g = tt
sound_generic_as names n a s p d l os lacking g = tt
sound_generic_as names n a s p d l os (given name) g = sound_generic_of names n a s p d l os name g

pub sound_defgeneric : (names : List (List ℕ)) (n : ℕ) (a : StaticContext) (s : Tables) (p : Place) (ds : List Item) → AllOf (WellFormed n) ds →
    SoundNode n (weight a.spot) (defgeneric_row names a s p ds)
sound_defgeneric names n a s p [] g = tt
sound_defgeneric names n a s p (d ∷ []) g = tt
sound_defgeneric names n a s p (d ∷ l ∷ ds) g =
    sound_if n (weight a.spot) (list_any is_no_option (options_of names ds)) _ _ tt
    (sound_generic_as names n a s p d l (options_of names ds) (given_name names d) (good_options names n ds g.1.1))

-- defmethod

sound_method_for : (n : ℕ) (a : StaticContext) (s : Tables) (p : Place) (d : Item) (name : Name) (m : WrittenMethod) (i : Option ℕ) → AllOf (WellFormed n) m.body →
    1001 < weight a.spot → SoundNode n (weight a.spot) (method_for a s p d name m i)
sound_method_for n a s p d name m None g h = tt
sound_method_for n a s p d name m (Some i) g h =
    sound_if n (weight a.spot) (fits s (slice_get s.generics i) m) _ _ (sound_method_parts n (weight a.spot) a a s name m g h) tt

where_at_top : (n w : ℕ) (top : Bool) (x y : Node) → SoundNode n w x → (top ≡ true → SoundNode n w y) → SoundNode n w (if not top then x else y)
where_at_top n w true x y g h = h refl
where_at_top n w false x y g h = g

sound_method_of : (names : List (List ℕ)) (n : ℕ) (a : StaticContext) (s : Tables) (p : Place) (d : Item) (m : WrittenMethod) (name : Name) → AllOf (WellFormed n) m.body →
    SoundNode n (weight a.spot) (method_of names a s p d m name)
sound_method_of names n a s p d m name g =
    where_at_top n (weight a.spot) a.spot.top _ _ tt (λ top.
    sound_if n (weight a.spot) (is_closed names a s d name) _ _ tt
    (sound_within n (weight a.spot) 1 a p _ (λ h.
    sound_method_for n a s p d name m (generic_named s.generics name) g (at_top_level a.spot top))))

sound_method_named : (names : List (List ℕ)) (n : ℕ) (a : StaticContext) (s : Tables) (p : Place) (d : Item) (m : WrittenMethod) (x : GivenName) →
    AllOf (WellFormed n) m.body → SoundNode n (weight a.spot) (method_named_as names a s p d m x)
sound_method_named names n a s p d m no_name g = tt
sound_method_named names n a s p d m unfit g = tt
sound_method_named names n a s p d m lacking g = tt
sound_method_named names n a s p d m (given name) g = sound_method_of names n a s p d m name g

sound_method_as : (names : List (List ℕ)) (n : ℕ) (a : StaticContext) (s : Tables) (p : Place) (d : Item) (m : Option WrittenMethod) → MaybeMethod n m →
    SoundNode n (weight a.spot) (method_as names a s p d m)
sound_method_as names n a s p d None g = tt
sound_method_as names n a s p d (Some m) g =
    sound_if n (weight a.spot) (some_fresh_class (list_items m.list)) _ _ tt
    (sound_method_named names n a s p d m (given_name names d) g)

pub sound_defmethod : (names : List (List ℕ)) (n : ℕ) (a : StaticContext) (s : Tables) (p : Place) (ds : List Item) → AllOf (WellFormed n) ds →
    SoundNode n (weight a.spot) (defmethod_row names a s p ds)
sound_defmethod names n a s p [] g = tt
sound_defmethod names n a s p (d ∷ ds) g = sound_method_as names n a s p d (method_in names ds) (good_method names n ds g.1)
