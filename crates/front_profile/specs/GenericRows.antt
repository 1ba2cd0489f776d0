-- The rows of forms that define generic functions and methods (ISO/IEC 13816:2007, 15.3.1 and 15.3.2).
use Rattle.std.specs.Prelude.{ℕ, ◌+◌, ◌==◌, Bool, true, false, not, ◌&&◌, ◌||◌, List, [], ◌∷◌, ◌++◌, Option, Some, None, if◌then◌else◌, length, is_some, map, slice_get, codes}
use Rattle.std.specs.List.{list_any}
use Rattle.base.specs.declared.place.Place.{Place}
use Rattle.base.specs.declared.datum.Name.{Name}
use Rattle.base.specs.declared.datum.Symbol.TheVariants.{Named}
use Rattle.base.specs.declared.reason.Reason.TheVariants.{NotTopLevel, ReservedName, LeftOut, UnknownClass, UnknownGeneric, BadMethod, BadBinding}
use Rattle.base.specs.Data.{Item, item, symbol, place_of}
use Rattle.lang_meaning.specs.declared.program.GenericRow.{GenericRow}
use Rattle.lang_meaning.specs.declared.program.Qualifier.{Qualifier}
use Rattle.lang_classes.specs.InheritedClasses.{Hierarchy}
use Rattle.lang_derived.specs.Asked.{list_items, is_word}
use Rattle.lang_dispatch.specs.Methods.{new_row, same_truth, is_same}
use Rattle.front_profile.specs.declared.tables.Tables.{Tables}
use Rattle.front_profile.specs.declared.parameters.Parameters.{Parameters}
use Rattle.front_profile.specs.declared.elaboration.MethodHead.{MethodHead}
use Rattle.front_profile.specs.declared.elaboration.Leaf.{Leaf}
use Rattle.front_profile.specs.declared.elaboration.Taker.{Taker}
use Rattle.front_profile.specs.declared.elaboration.Taker.TheVariants.{New, There}
use Rattle.front_profile.specs.declared.elaboration.Elaboration.TheVariants.{OfMethods}
use Rattle.front_profile.specs.Words.{is_reserved_text}
use Rattle.front_profile.specs.Nodes.{StaticContext, Part, wrong, function, method, Node, offends, unnamed, whole}
use Rattle.front_profile.specs.Shapes.{parameters_in, symbol_of}
use Rattle.front_profile.specs.RowWords.{within_depth, bad_shape, bad_binding}
use Rattle.front_profile.specs.Elaborations.{generic_named}
use Rattle.front_profile.specs.DefiningRows.{defining, is_taken, is_reserved, is_truth, is_of_prelude, with_name, named_form}
use Rattle.front_profile.specs.GivenNames.{GivenName, no_name, unfit, lacking, given, given_name}
use Rattle.front_profile.specs.MethodShapes.{Asked, Specialised, specialised_in, some_fresh_class, classes_asked, first_unknown, WrittenMethod, method_in, may_have_next}

-- methods as they are judged: one whose list of parameters is not allowed, or that names a class that is not known, is judged by what is
-- known of it

abbrev pub head_with : Qualifier → Option (List ℕ) → Option MethodHead
head_with q None = None
head_with q (Some cs) = Some (record { qualifier = q; classes = cs })

abbrev pub head_of : Tables → Option Qualifier → Option Specialised → Option MethodHead
head_of s None ps = None
head_of s (Some q) None = None
head_of s (Some q) (Some ps) = head_with q (classes_asked s.classes.rows ps.classes)

abbrev pub has_rest : Specialised → Bool
has_rest ps = is_some ps.parameters.rest

-- as many required parameters as the generic function has, and a rest parameter where it has one
abbrev pub as_many : GenericRow → Specialised → Bool
as_many g ps = length ps.classes == g.required && same_truth (has_rest ps) g.rest

abbrev pub fits_by_number : GenericRow → Option Specialised → Bool
fits_by_number g None = true
fits_by_number g (Some ps) = as_many g ps

-- no other method of it has the same qualifier and classes
abbrev pub is_there : GenericRow → Option MethodHead → Bool
is_there g None = false
is_there g (Some h) =
    list_any (λ m. is_same (record { qualifier = h.qualifier; classes = h.classes; procedure = 0 }) m) g.methods

abbrev pub fits : Tables → Option GenericRow → WrittenMethod → Bool
fits s None m = is_some m.qualifier
fits s (Some g) m =
    is_some m.qualifier && fits_by_number g (specialised_in s.words m.list)
    && not (is_there g (head_of s m.qualifier (specialised_in s.words m.list)))

-- the parts of a method: the offence of its list of parameters or of the first class that is not known, or its function

abbrev pub method_function : Name → Option Qualifier → Parameters → List Item → List Part
method_function n None ps fs = []
method_function n (Some q) ps fs = function (method n (may_have_next q) ps fs) ∷ []

abbrev pub unless_unknown : Option Place → List Part → List Part
unless_unknown None xs = xs
unless_unknown (Some p) xs = wrong p UnknownClass ∷ []

abbrev pub specialised_parts : Tables → Name → WrittenMethod → Option Specialised → List Part
specialised_parts s n m None = wrong (place_of m.list) BadBinding ∷ []
specialised_parts s n m (Some ps) =
    unless_unknown (first_unknown s.classes.rows ps.classes) (method_function n m.qualifier ps.parameters m.body)

abbrev pub method_parts : Tables → Name → WrittenMethod → List Part
method_parts s n m = specialised_parts s n m (specialised_in s.words m.list)

-- the head of a method all of which is known
abbrev pub heads_of : Option MethodHead → List MethodHead
heads_of None = []
heads_of (Some h) = h ∷ []

abbrev pub written_head : Tables → WrittenMethod → Option MethodHead
written_head s m = head_of s m.qualifier (specialised_in s.words m.list)

abbrev pub written_heads : Tables → WrittenMethod → List MethodHead
written_heads s m = heads_of (written_head s m)

-- a definition of a file stands for the symbol of its name
abbrev pub name_datum : Item → Name → Item
name_datum d n = item (place_of d) (symbol (Named n))

-- the definition of methods that have these parts
abbrev pub methods_of : StaticContext → Tables → Item → Name → Taker → List Part → List MethodHead → Node
methods_of a s d n t xs hs =
    whole a a (with_name a.spot.sited (name_datum d n) s) xs
    (record {
      site = None;
      making = OfMethods t hs (length s.procedures) a.spot.sited (named_form a.spot.sited s);
    })

-- whether the language keeps the text of the name
abbrev pub kept_by : Option (List ℕ) → Bool
kept_by None = false
kept_by (Some text) = is_reserved_text text

abbrev pub keeps : List (List ℕ) → Name → Bool
keeps names n = kept_by (slice_get names n.0)

-- (defgeneric name lambda-list option*): each option is a list, `(:method [qualifier] parameters f*)` or
-- `(:method-combination standard)`; some others are left out

pub data GenericOption : Type 0 where
  no_option : GenericOption
  left_out : GenericOption
  standard : GenericOption
  of_method : WrittenMethod → GenericOption

abbrev pub method_option : Option WrittenMethod → GenericOption
method_option None = no_option
method_option (Some m) = if some_fresh_class (list_items m.list) then no_option else of_method m

abbrev pub is_standard : List (List ℕ) → List Item → Bool
is_standard names [] = false
is_standard names (d ∷ []) = is_word names (codes "standard") d
is_standard names (d ∷ e ∷ ds) = false

abbrev pub is_left_out_option : List (List ℕ) → Item → Bool
is_left_out_option names h = is_word names (codes ":metaclass") h || is_word names (codes ":generic-function-class") h

abbrev pub option_of : List (List ℕ) → Option (List Item) → GenericOption
option_of names None = no_option
option_of names (Some []) = no_option
option_of names (Some (h ∷ ds)) =
    if is_word names (codes ":method") h then method_option (method_in names ds)
    else if is_left_out_option names h then left_out
    else if is_word names (codes ":method-combination") h then (if is_standard names ds then standard else left_out)
    else no_option

abbrev pub options_of : List (List ℕ) → List Item → List GenericOption
options_of names ds = map (λ d. option_of names (list_items d)) ds

abbrev pub is_no_option : GenericOption → Bool
is_no_option no_option = true
is_no_option left_out = false
is_no_option standard = false
is_no_option (of_method m) = false

abbrev pub is_of_left_out : GenericOption → Bool
is_of_left_out left_out = true
is_of_left_out no_option = false
is_of_left_out standard = false
is_of_left_out (of_method m) = false

abbrev pub methods_among : List GenericOption → List WrittenMethod
methods_among [] = []
methods_among (no_option ∷ os) = methods_among os
methods_among (left_out ∷ os) = methods_among os
methods_among (standard ∷ os) = methods_among os
methods_among (of_method m ∷ os) = m ∷ methods_among os

-- each method is judged with those in front of it there
abbrev pub with_head : Option GenericRow → Option MethodHead → Option GenericRow
with_head None h = None
with_head (Some g) None = Some g
with_head (Some g) (Some h) =
    Some (record g { methods = g.methods ++ (record { qualifier = h.qualifier; classes = h.classes; procedure = 0 }) ∷ [] })

abbrev pub all_fit : Tables → Option GenericRow → List WrittenMethod → Bool
all_fit s g [] = true
all_fit s g (m ∷ ms) = fits s g m && all_fit s (with_head g (written_head s m)) ms

abbrev pub generic_row : Name → Option Parameters → Option GenericRow
generic_row n None = None
generic_row n (Some ps) = Some (new_row n (length ps.required) (is_some ps.rest))

abbrev pub each_method : Tables → Name → List WrittenMethod → List Part
each_method s n [] = []
each_method s n (m ∷ ms) = method_parts s n m ++ each_method s n ms

abbrev pub all_heads : Tables → List WrittenMethod → List MethodHead
all_heads s [] = []
all_heads s (m ∷ ms) = written_heads s m ++ all_heads s ms

abbrev pub generic_with : StaticContext → Tables → Item → Name → Item → List WrittenMethod → Option Parameters → Node
generic_with a s d n l ms None = bad_binding l
generic_with a s d n l ms (Some ps) =
    methods_of a s d n (New n (length ps.required) (is_some ps.rest)) (each_method s n ms) (all_heads s ms)

abbrev pub generic_checked : StaticContext → Tables → Place → Item → Item → List GenericOption → Name → Node
generic_checked a s p d l os n =
    if all_fit s (generic_row n (parameters_in s.words l)) (methods_among os)
    then generic_with a s d n l (methods_among os) (parameters_in s.words l)
    else offends p BadMethod

abbrev pub generic_of : List (List ℕ) → StaticContext → Tables → Place → Item → Item → List GenericOption → Name → Node
generic_of names a s p d l os n =
    defining a p (is_taken a.spot.sited s n) (is_reserved (keeps names n) a s n)
    (if list_any is_of_left_out os then offends p LeftOut
    else within_depth 1 a p (generic_checked a s p d l os n))

abbrev pub generic_named_as : List (List ℕ) → StaticContext → Tables → Place → Item → Item → List GenericOption → GivenName → Node
generic_named_as names a s p d l os no_name = bad_shape p
generic_named_as names a s p d l os unfit = bad_shape p
generic_named_as names a s p d l os lacking = unnamed
generic_named_as names a s p d l os (given n) = generic_of names a s p d l os n

abbrev pub defgeneric_row : List (List ℕ) → StaticContext → Tables → Place → List Item → Node
defgeneric_row names a s p [] = bad_shape p
defgeneric_row names a s p (d ∷ []) = bad_shape p
defgeneric_row names a s p (d ∷ l ∷ ds) =
    if list_any is_no_option (options_of names ds) then bad_shape p
    else generic_named_as names a s p d l (options_of names ds) (given_name names d)

-- (defmethod name [qualifier] parameters f*): the generic function is there; two of the prelude take methods of a file

abbrev pub takes_methods : List (List ℕ) → Item → Bool
takes_methods names d = is_word names (codes "initialize-object") d || is_word names (codes "report-condition") d

abbrev pub is_closed : List (List ℕ) → StaticContext → Tables → Item → Name → Bool
is_closed names a s d n = is_reserved (keeps names n) a s n && not (takes_methods names d)

abbrev pub method_for : StaticContext → Tables → Place → Item → Name → WrittenMethod → Option ℕ → Node
method_for a s p d n m None = offends p UnknownGeneric
method_for a s p d n m (Some g) =
    if fits s (slice_get s.generics g) m
    then methods_of a s d n (There g) (method_parts s n m) (written_heads s m)
    else offends p BadMethod

abbrev pub method_of : List (List ℕ) → StaticContext → Tables → Place → Item → WrittenMethod → Name → Node
method_of names a s p d m n =
    if not a.spot.top then offends p NotTopLevel
    else if is_closed names a s d n then offends p ReservedName
    else within_depth 1 a p (method_for a s p d n m (generic_named s.generics n))

abbrev pub method_named_as : List (List ℕ) → StaticContext → Tables → Place → Item → WrittenMethod → GivenName → Node
method_named_as names a s p d m no_name = bad_shape p
method_named_as names a s p d m unfit = bad_shape p
method_named_as names a s p d m lacking = unnamed
method_named_as names a s p d m (given n) = method_of names a s p d m n

abbrev pub method_as : List (List ℕ) → StaticContext → Tables → Place → Item → Option WrittenMethod → Node
method_as names a s p d None = bad_shape p
method_as names a s p d (Some m) =
    if some_fresh_class (list_items m.list) then bad_shape p
    else method_named_as names a s p d m (given_name names d)

abbrev pub defmethod_row : List (List ℕ) → StaticContext → Tables → Place → List Item → Node
defmethod_row names a s p [] = bad_shape p
defmethod_row names a s p (d ∷ ds) = method_as names a s p d (method_in names ds)
