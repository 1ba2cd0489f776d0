-- The rows of forms that bind: variables, dynamic variables, functions and local functions (ISO/IEC 13816:2007, 12.7, 14.2 and
-- 14.3). What stands in the place of a list of bindings is judged behind the form.
use Rattle.std.specs.Prelude.{ℕ, ◌+◌, Bool, true, false, List, [], ◌∷◌, ◌++◌, Option, Some, None, length, map, is_some}
use Rattle.base.specs.declared.place.Place.{Place}
use Rattle.base.specs.declared.datum.Name.{Name}
use Rattle.base.specs.declared.datum.Symbol.{Symbol}
use Rattle.base.specs.declared.reason.Reason.TheVariants.{ReservedName}
use Rattle.base.specs.Data.{Item}
use Rattle.front_profile.specs.declared.bound.Bound.{Bound}
use Rattle.front_profile.specs.declared.bound.Bound.TheVariants.{Function}
use Rattle.front_profile.specs.declared.tables.Tables.{Tables}
use Rattle.front_profile.specs.declared.parameters.Parameters.{Parameters}
use Rattle.front_profile.specs.Names.{variable_of, parts_around}
use Rattle.front_profile.specs.declared.elaboration.Elaboration.TheVariants.{OfVariables, OfDynamics, OfFunction, InSequence}
use Rattle.front_profile.specs.Nodes.{StaticContext, Node, offends, Part, form}
use Rattle.front_profile.specs.Shapes.{Pair, pairs_in, parameters_in, all_symbols, symbol_of, name_of}
use Rattle.front_profile.specs.RowWords.{deeper, with_all, within_depth, made_of, each_below, each_inner, each_bound, each_parameter, bad_shape, bad_binding}

-- (let ((v x)*) f*)

abbrev pub let_as : StaticContext → Tables → Place → Item → List Item → Option (List Pair) → Node
let_as a s p bs fs None = bad_binding bs
let_as a s p bs fs (Some ps) = made_of a (deeper 2 a) p s (each_bound ps ++ each_inner fs) OfVariables

abbrev pub let_row : StaticContext → Tables → Place → List Item → Node
let_row a s p [] = bad_shape p
let_row a s p (bs ∷ fs) = within_depth 2 a p (let_as a s p bs fs (pairs_in s.words bs))

-- (dynamic-let ((v x)*) f*): dynamic variables have names

abbrev pub name_and : Option Name → Option (List Name) → Option (List Name)
name_and None ns = None
name_and (Some n) None = None
name_and (Some n) (Some ns) = Some (n ∷ ns)

abbrev pub names_of : List Pair → Option (List Name)
names_of [] = Some []
names_of (q ∷ qs) = name_and (name_of q.name) (names_of qs)

abbrev pub values_of : List Pair → List Part
values_of ps = map (λ q. form q.datum) ps

abbrev pub dynamics_as : StaticContext → Tables → Place → List Item → List Pair → Option (List Name) → Node
dynamics_as a s p fs ps None = bad_shape p
dynamics_as a s p fs ps (Some ns) =
    within_depth 2 a p (made_of a (deeper 1 a) p s (values_of ps ++ each_below fs) (OfDynamics ns))

abbrev pub dynamic_let_as : StaticContext → Tables → Place → Item → List Item → Option (List Pair) → Node
dynamic_let_as a s p bs fs None = within_depth 2 a p (bad_binding bs)
dynamic_let_as a s p bs fs (Some ps) = dynamics_as a s p fs ps (names_of ps)

abbrev pub dynamic_let_row : StaticContext → Tables → Place → List Item → Node
dynamic_let_row a s p [] = bad_shape p
dynamic_let_row a s p (bs ∷ fs) = dynamic_let_as a s p bs fs (pairs_in s.words bs)

-- (lambda lambda-list f*)

abbrev pub lambda_as : StaticContext → Tables → Place → Item → List Item → Option Parameters → Node
lambda_as a s p l fs None = bad_binding l
lambda_as a s p l fs (Some ps) =
    made_of a (deeper 2 a) p s (each_parameter (all_symbols ps) ++ each_inner fs)
    (OfFunction (length ps.required) (is_some ps.rest) (parts_around a.bound a.spot.in_method))

abbrev pub lambda_row : StaticContext → Tables → Place → List Item → Node
lambda_row a s p [] = bad_shape p
lambda_row a s p (l ∷ fs) = within_depth 2 a p (lambda_as a s p l fs (parameters_in s.words l))

-- (%with-functions ((g v)*) f*): in the body each g is the function that is the value of the variable v

abbrev pub function_and : Symbol → Option ℕ → Option (List Bound) → Option (List Bound)
function_and g None bs = None
function_and g (Some v) None = None
function_and g (Some v) (Some bs) = Some (Function g v ∷ bs)

abbrev pub variable_that_is : StaticContext → Option Symbol → Option ℕ
variable_that_is a None = None
variable_that_is a (Some x) = variable_of a.bound x

abbrev pub functions_of : StaticContext → List Pair → Option (List Bound)
functions_of a [] = Some []
functions_of a (q ∷ qs) = function_and q.name (variable_that_is a (symbol_of q.datum)) (functions_of a qs)

abbrev pub functions_as : StaticContext → Tables → Place → List Item → Bool → Option (List Bound) → Node
functions_as a s p fs kept None = bad_shape p
functions_as a s p fs true (Some bs) = offends p ReservedName
functions_as a s p fs false (Some bs) =
    within_depth 1 a p (made_of a (with_all bs (deeper 1 a)) p s (each_inner fs) InSequence)

abbrev pub with_functions_as : Bool → StaticContext → Tables → Place → Item → List Item → Option (List Pair) → Node
with_functions_as kept a s p bs fs None = within_depth 1 a p (bad_binding bs)
with_functions_as kept a s p bs fs (Some ps) = functions_as a s p fs kept (functions_of a ps)

-- where one of these names is kept by the language or not
abbrev pub with_functions_row : Bool → StaticContext → Tables → Place → List Item → Node
with_functions_row kept a s p [] = bad_shape p
with_functions_row kept a s p (bs ∷ fs) = with_functions_as kept a s p bs fs (pairs_in s.words bs)
