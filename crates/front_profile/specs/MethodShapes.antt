-- Methods as they are written: a qualifier, parameters with their classes, a body (ISO/IEC 13816:2007, 15.3.2).
use Rattle.std.specs.Prelude.{ℕ, Bool, true, false, List, [], ◌∷◌, Option, Some, None, if◌then◌else◌, codes}
use Rattle.std.specs.List.{list_any}
use Rattle.base.specs.declared.place.Place.{Place}
use Rattle.base.specs.declared.datum.Name.{Name}
use Rattle.base.specs.declared.datum.Symbol.{Symbol}
use Rattle.base.specs.declared.datum.Symbol.TheVariants.{Named, Fresh}
use Rattle.base.specs.Data.{Item, place_of}
use Rattle.lang_meaning.specs.declared.program.ClassRow.{ClassRow}
use Rattle.lang_meaning.specs.declared.program.Qualifier.{Qualifier}
use Rattle.lang_meaning.specs.declared.program.Qualifier.TheVariants.{Primary, Around, Before, After}
use Rattle.lang_classes.specs.InheritedClasses.{class_named}
use Rattle.lang_classes.specs.InheritedPrecedence.{object_class}
use Rattle.lang_derived.specs.Asked.{list_items, is_word}
use Rattle.front_profile.specs.declared.tables.ReservedWords.{ReservedWords}
use Rattle.front_profile.specs.declared.parameters.Parameters.{Parameters}
use Rattle.front_profile.specs.Shapes.{symbol_of, parameter_in, is_rest_word, behind_rest, with_required, all_symbols, all_differ, only_if}

-- the class of a parameter: `<object>` where none is written, else that of a name, which stands at a place
pub data Asked : Type 0 where
  any_object : Asked
  of_class : Name → Place → Asked

-- the parameters of a method, with a class for each required one
pub record Specialised : Type 0 where
  pub parameters : Parameters
  pub classes : List Asked

-- a parameter: a variable, or a list of a variable and a class

pub record Taken : Type 0 where
  pub variable : Symbol
  pub class : Asked

abbrev pub asked_by : Item → Option Symbol → Option Asked
asked_by d None = None
asked_by d (Some (Named n)) = Some (of_class n (place_of d))
asked_by d (Some (Fresh e s)) = None

abbrev pub taken : Option Symbol → Option Asked → Option Taken
taken None c = None
taken (Some x) None = None
taken (Some x) (Some c) = Some (record { variable = x; class = c })

abbrev pub taken_in : ReservedWords → Option (List Item) → Option Taken
taken_in w None = None
taken_in w (Some []) = None
taken_in w (Some (d ∷ [])) = None
taken_in w (Some (d ∷ c ∷ [])) = taken (parameter_in w (symbol_of d)) (asked_by c (symbol_of c))
taken_in w (Some (d ∷ c ∷ e ∷ ds)) = None

abbrev pub taken_by : ReservedWords → Item → Option Symbol → Option Taken
taken_by w d None = taken_in w (list_items d)
taken_by w d (Some x) = taken (parameter_in w (Some x)) (Some any_object)

-- all parameters: the required ones, and a rest variable behind `:rest` or `&rest`

abbrev pub without_classes : Option Parameters → Option Specialised
without_classes None = None
without_classes (Some ps) = Some (record { parameters = ps; classes = [] })

abbrev pub maybe_parameters : Option Parameters → List Asked → Option Specialised
maybe_parameters None cs = None
maybe_parameters (Some ps) cs = Some (record { parameters = ps; classes = cs })

abbrev pub with_taken : Option Taken → Option Specialised → Option Specialised
with_taken None more = None
with_taken (Some t) None = None
with_taken (Some t) (Some more) = maybe_parameters (with_required t.variable (Some more.parameters)) (t.class ∷ more.classes)

abbrev pub specialised_of : ReservedWords → List Item → Option Specialised
specialised_of w [] = Some (record { parameters = record { required = []; rest = None }; classes = [] })
specialised_of w (d ∷ ds) =
    if is_rest_word w (symbol_of d) then without_classes (behind_rest w ds)
    else with_taken (taken_by w d (symbol_of d)) (specialised_of w ds)

abbrev pub where_they_differ : Option Specialised → Option Specialised
where_they_differ None = None
where_they_differ (Some m) = only_if (all_differ (all_symbols m.parameters)) m

abbrev pub specialised_of_items : ReservedWords → Option (List Item) → Option Specialised
specialised_of_items w None = None
specialised_of_items w (Some ds) = where_they_differ (specialised_of w ds)

-- the parameters of a method, none where the list is not allowed
abbrev pub specialised_in : ReservedWords → Item → Option Specialised
specialised_in w d = specialised_of_items w (list_items d)

-- whether a new symbol stands for the class of a parameter

abbrev pub is_fresh : Option Symbol → Bool
is_fresh None = false
is_fresh (Some (Named n)) = false
is_fresh (Some (Fresh e s)) = true

abbrev pub has_fresh_class : Option (List Item) → Bool
has_fresh_class None = false
has_fresh_class (Some []) = false
has_fresh_class (Some (d ∷ [])) = false
has_fresh_class (Some (d ∷ c ∷ [])) = is_fresh (symbol_of c)
has_fresh_class (Some (d ∷ c ∷ e ∷ ds)) = false

abbrev pub some_fresh_class : Option (List Item) → Bool
some_fresh_class None = false
some_fresh_class (Some ds) = list_any (λ d. has_fresh_class (list_items d)) ds

-- the numbers of the classes, where all are known, and the place of the first name that none has

abbrev pub number_and : Option ℕ → Option (List ℕ) → Option (List ℕ)
number_and None cs = None
number_and (Some c) None = None
number_and (Some c) (Some cs) = Some (c ∷ cs)

abbrev pub class_asked : List ClassRow → Asked → Option ℕ
class_asked rows any_object = Some object_class
class_asked rows (of_class n p) = class_named rows n

abbrev pub classes_asked : List ClassRow → List Asked → Option (List ℕ)
classes_asked rows [] = Some []
classes_asked rows (c ∷ cs) = number_and (class_asked rows c) (classes_asked rows cs)

abbrev pub unless_known : Place → Option ℕ → Option Place → Option Place
unless_known p None more = Some p
unless_known p (Some c) more = more

abbrev pub first_unknown : List ClassRow → List Asked → Option Place
first_unknown rows [] = None
first_unknown rows (any_object ∷ cs) = first_unknown rows cs
first_unknown rows (of_class n p ∷ cs) = unless_known p (class_named rows n) (first_unknown rows cs)

-- a method behind its name: a symbol with something behind it is a qualifier; any other than these three is wrong
pub record WrittenMethod : Type 0 where
  pub qualifier : Option Qualifier
  pub list : Item
  pub body : List Item

abbrev pub qualifier_of : List (List ℕ) → Item → Option Qualifier
qualifier_of names d =
    if is_word names (codes ":before") d then Some Before
    else if is_word names (codes ":after") d then Some After
    else if is_word names (codes ":around") d then Some Around
    else None

abbrev pub written : List (List ℕ) → Item → Option Symbol → Item → List Item → WrittenMethod
written names d None l fs = record { qualifier = Some Primary; list = d; body = l ∷ fs }
written names d (Some x) l fs = record { qualifier = qualifier_of names d; list = l; body = fs }

abbrev pub method_in : List (List ℕ) → List Item → Option WrittenMethod
method_in names [] = None
method_in names (d ∷ []) = Some (record { qualifier = Some Primary; list = d; body = [] })
method_in names (d ∷ l ∷ fs) = Some (written names d (symbol_of d) l fs)

-- a next method is there in a primary and in an around method
abbrev pub may_have_next : Qualifier → Bool
may_have_next Primary = true
may_have_next Around = true
may_have_next Before = false
may_have_next After = false
