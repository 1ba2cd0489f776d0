-- What contracts see of names and methods as the code reads them.
use Rattle.std.specs.Prelude.{ℕ, List, map, Option, Some, None}
use Rattle.std.specs.Borrow.{Bor}
use Rattle.front_syntax.specs.declared.naming.GivenName.{GivenName as ReadName}
use Rattle.front_syntax.specs.declared.naming.GivenName.TheVariants as read
use Rattle.front_syntax.specs.declared.methods.Asked.{Asked as ReadAsked}
use Rattle.front_syntax.specs.declared.methods.Asked.TheVariants as class
use Rattle.front_syntax.specs.declared.methods.Taken.{Taken as ReadTaken}
use Rattle.front_syntax.specs.declared.methods.Specialised.{Specialised as ReadSpecialised}
use Rattle.front_syntax.specs.declared.methods.WrittenMethod.{WrittenMethod as ReadMethod}
use Rattle.front_profile.specs.GivenNames.{GivenName, no_name, unfit, lacking, given, number_of, in_table}
use Rattle.front_profile.specs.MethodShapes.{Asked, any_object, of_class, Taken, Specialised, WrittenMethod}

-- what a borrow is of, where there is one
abbrev pub borrowed : {X : Type 0} → Option (Bor X) → Option X
borrowed None = None
borrowed (Some x) = Some x.now

-- names

abbrev pub view_given : ReadName → GivenName
view_given read.NoName = no_name
view_given read.Unfit = unfit
view_given read.Lacking = lacking
view_given (read.Given n) = given n

-- the name of a text, where there is one
abbrev pub made_of_text : List (List ℕ) → Option (List ℕ) → GivenName
made_of_text names None = unfit
made_of_text names (Some text) = in_table (number_of names text)

-- methods

abbrev pub view_asked : ReadAsked → Asked
view_asked class.AnyObject = any_object
view_asked (class.OfClass n p) = of_class n p

abbrev pub view_all_asked : List ReadAsked → List Asked
view_all_asked cs = map view_asked cs

abbrev pub maybe_asked : Option ReadAsked → Option Asked
maybe_asked None = None
maybe_asked (Some c) = Some (view_asked c)

abbrev pub maybe_taken : Option ReadTaken → Option Taken
maybe_taken None = None
maybe_taken (Some t) = Some (record { variable = t.variable; class = view_asked t.class })

abbrev pub view_specialised : ReadSpecialised → Specialised
view_specialised m = record { parameters = m.parameters; classes = view_all_asked m.classes }

abbrev pub maybe_specialised : Option ReadSpecialised → Option Specialised
maybe_specialised None = None
maybe_specialised (Some m) = Some (view_specialised m)

abbrev pub view_method : ReadMethod → WrittenMethod
view_method m = record { qualifier = m.qualifier; list = m.list.now; body = m.body.now }

abbrev pub maybe_method : Option ReadMethod → Option WrittenMethod
maybe_method None = None
maybe_method (Some m) = Some (view_method m)

abbrev pub view_methods : List ReadMethod → List WrittenMethod
view_methods ms = map view_method ms
