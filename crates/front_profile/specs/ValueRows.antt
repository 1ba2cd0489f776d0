-- The rows of what has no part of its own, of variables, and of forms that evaluate all their parts where they stand
-- (ISO/IEC 13816:2007, 12.2 to 12.4, 14.1, 14.2, 14.3 and 14.6).
use Rattle.std.specs.Prelude.{ℕ, ◌+◌, ◌==◌, Bool, ◌&&◌, List, [], ◌∷◌, ◌++◌, Option, Some, None, if◌then◌else◌, length, map, is_some}
use Rattle.std.specs.List.{list_any}
use Rattle.base.specs.declared.place.Place.{Place}
use Rattle.base.specs.declared.datum.Name.{Name}
use Rattle.base.specs.declared.datum.Symbol.{Symbol}
use Rattle.base.specs.declared.datum.Symbol.TheVariants.{Named, Fresh}
use Rattle.base.specs.declared.reason.Reason.TheVariants.{ConstantSet, UnknownClass}
use Rattle.base.specs.Data.{Item, item, integer, character, symbol, string, vector, nil, list, place_of}
use Rattle.lang_meaning.specs.declared.program.LiteralRow.TheVariants as row
use Rattle.lang_classes.specs.InheritedClasses.{class_named}
use Rattle.front_profile.specs.declared.tables.Tables.{Tables}
use Rattle.front_profile.specs.declared.tables.GlobalRow.{GlobalRow}
use Rattle.front_profile.specs.declared.tables.ReservedWords.{ReservedWords}
use Rattle.front_profile.specs.Names.{variable_of, function_of}
use Rattle.front_profile.specs.declared.elaboration.Leaf.{Leaf}
use Rattle.front_profile.specs.declared.elaboration.One.{One}
use Rattle.lang_meaning.specs.declared.kinds.OverTwo.{OverTwo}
use Rattle.front_profile.specs.declared.elaboration.Leaf.TheVariants.{Local, Global, Dynamic}
use Rattle.front_profile.specs.declared.elaboration.One.TheVariants.{SetVariable, SetGlobal, SetDynamic}
use Rattle.front_profile.specs.declared.elaboration.Elaboration.TheVariants.{OfOne, OfTwo, OfBody, InSequence, OfClauses}
use Rattle.front_profile.specs.Nodes.{StaticContext, Node, offends, form, Part}
use Rattle.front_profile.specs.Shapes.{symbol_of, name_of, is_true, ClauseParts, clauses_in}
use Rattle.front_profile.specs.RowWords.{deeper, deeper_at_top, within_depth, made_of, made_at_once, unsited, literal_node, each_below, each_inner, bad_shape}

-- a symbol: `t`, a variable around, or a global variable

abbrev pub free_symbol : StaticContext → Place → Tables → Symbol → Node
free_symbol a p s (Named n) = made_at_once a p s (Global n)
free_symbol a p s (Fresh e serial) = bad_shape p

abbrev pub symbol_as : StaticContext → Place → Tables → Symbol → Option ℕ → Node
symbol_as a p s x (Some v) = unsited a p s (Local v)
symbol_as a p s x None = free_symbol a p s x

abbrev pub symbol_node : StaticContext → Place → Tables → Symbol → Node
symbol_node a p s x =
    if is_true s.words x then literal_node a p s (row.Datum (item p (symbol x)))
    else symbol_as a p s x (variable_of a.bound x)

-- (quote d)
abbrev pub quote_row : StaticContext → Tables → Place → List Item → Node
quote_row a s p (d ∷ []) = literal_node a p s (row.Datum d)
quote_row a s p [] = bad_shape p
quote_row a s p (d ∷ e ∷ ds) = bad_shape p

-- (setq v x)

abbrev pub is_constant_row : Name → GlobalRow → Bool
is_constant_row n g = g.constant && (n.0 == g.name.0)

abbrev pub is_constant : Tables → Name → Bool
is_constant s n = list_any (is_constant_row n) s.globals

abbrev pub with_set : Name → Tables → Tables
with_set n s = record s { set = s.set ++ n ∷ [] }

abbrev pub one_part : StaticContext → Place → Tables → One → Item → Node
one_part a p s k d = within_depth 1 a p (made_of a (deeper 1 a) p s (form d ∷ []) (OfOne k))

abbrev pub set_free : StaticContext → Tables → Place → Symbol → Item → Node
set_free a s p (Named n) d = if is_constant s n then offends p ConstantSet else one_part a p (with_set n s) (SetGlobal n) d
set_free a s p (Fresh e serial) d = bad_shape p

abbrev pub set_as : StaticContext → Tables → Place → Symbol → Option ℕ → Item → Node
set_as a s p x (Some v) d = one_part a p s (SetVariable v) d
set_as a s p x None d = set_free a s p x d

abbrev pub set_symbol : StaticContext → Tables → Place → Symbol → Item → Node
set_symbol a s p x d = if is_true s.words x then offends p ConstantSet else set_as a s p x (variable_of a.bound x) d

-- what is set: `nil` is a constant too
abbrev pub set_datum : StaticContext → Tables → Place → Item → Item → Node
set_datum a s p (item q (symbol x)) d = set_symbol a s p x d
set_datum a s p (item q nil) d = offends p ConstantSet
set_datum a s p (item q (integer n)) d = bad_shape p
set_datum a s p (item q (character c)) d = bad_shape p
set_datum a s p (item q (string bytes)) d = bad_shape p
set_datum a s p (item q (vector ds)) d = bad_shape p
set_datum a s p (item q (list ds t)) d = bad_shape p

abbrev pub setq_row : StaticContext → Tables → Place → List Item → Node
setq_row a s p (v ∷ x ∷ []) = set_datum a s p v x
setq_row a s p [] = bad_shape p
setq_row a s p (d ∷ []) = bad_shape p
setq_row a s p (d ∷ e ∷ f ∷ ds) = bad_shape p

-- (progn f*), whose forms stand at top level where it does
abbrev pub progn_row : StaticContext → Tables → Place → List Item → Node
progn_row a s p ds = within_depth 1 a p (made_of a (deeper_at_top a) p s (each_inner ds) InSequence)

-- (cond (x f*)*)

abbrev pub length_if : List Item → Option ℕ
length_if [] = None
length_if (d ∷ ds) = Some (length ds + 1)

abbrev pub clause_length : ClauseParts → Option ℕ
clause_length c = length_if c.body

abbrev pub clause_lengths : List ClauseParts → List (Option ℕ)
clause_lengths cs = map clause_length cs

abbrev pub clause_parts : List ClauseParts → List Part
clause_parts [] = []
clause_parts (c ∷ cs) = form c.test ∷ (each_below c.body ++ clause_parts cs)

-- a clause with a body is one form deeper by it
abbrev pub own_depth : List ClauseParts → ℕ
own_depth cs = if list_any (λ c. is_some (clause_length c)) cs then 2 else 1

abbrev pub cond_as : StaticContext → Tables → Place → Option (List ClauseParts) → Node
cond_as a s p None = bad_shape p
cond_as a s p (Some cs) =
    within_depth (own_depth cs) a p (made_of a (deeper 1 a) p s (clause_parts cs) (OfClauses (clause_lengths cs)))

abbrev pub cond_row : StaticContext → Tables → Place → List Item → Node
cond_row a s p ds = cond_as a s p (clauses_in ds)

-- two forms: (throw x x), (%apply x x)
abbrev pub two_parts : StaticContext → Tables → Place → OverTwo → Item → Item → Node
two_parts a s p k d e =
    within_depth 1 a p (made_of a (deeper 1 a) p s (form d ∷ form e ∷ []) (OfTwo k))

abbrev pub two_row : OverTwo → StaticContext → Tables → Place → List Item → Node
two_row k a s p (d ∷ e ∷ []) = two_parts a s p k d e
two_row k a s p [] = bad_shape p
two_row k a s p (d ∷ []) = bad_shape p
two_row k a s p (d ∷ e ∷ f ∷ ds) = bad_shape p

-- a form and a body: (while x f*), (catch x f*), (unwind-protect x f*), (with-handler x f*)
abbrev pub body_row : OverTwo → StaticContext → Tables → Place → List Item → Node
body_row k a s p [] = bad_shape p
body_row k a s p (d ∷ ds) =
    within_depth 2 a p (made_of a (deeper 1 a) p s (form d ∷ each_below ds) (OfBody k))

-- dynamic variables: (dynamic v) and (set-dynamic x v), where v has a name and is not `t`

abbrev pub dynamic_name : ReservedWords → Option Symbol → Option Name
dynamic_name w None = None
dynamic_name w (Some x) = if is_true w x then None else name_of x

abbrev pub dynamic_as : StaticContext → Tables → Place → Option Name → Node
dynamic_as a s p None = bad_shape p
dynamic_as a s p (Some n) = made_at_once a p s (Dynamic n)

abbrev pub dynamic_row : StaticContext → Tables → Place → List Item → Node
dynamic_row a s p (v ∷ []) = dynamic_as a s p (dynamic_name s.words (symbol_of v))
dynamic_row a s p [] = bad_shape p
dynamic_row a s p (d ∷ e ∷ ds) = bad_shape p

abbrev pub set_dynamic_as : StaticContext → Tables → Place → Option Name → Item → Node
set_dynamic_as a s p None d = bad_shape p
set_dynamic_as a s p (Some n) d = one_part a p s (SetDynamic n) d

abbrev pub set_dynamic_row : StaticContext → Tables → Place → List Item → Node
set_dynamic_row a s p (x ∷ v ∷ []) = set_dynamic_as a s p (dynamic_name s.words (symbol_of v)) x
set_dynamic_row a s p [] = bad_shape p
set_dynamic_row a s p (d ∷ []) = bad_shape p
set_dynamic_row a s p (d ∷ e ∷ f ∷ ds) = bad_shape p

-- (function g): the value of a local function, or the function of a name

abbrev pub function_named : StaticContext → Tables → Place → Symbol → Node
function_named a s p (Named n) = literal_node a p s (row.Function n)
function_named a s p (Fresh e serial) = bad_shape p

abbrev pub function_as : StaticContext → Tables → Place → Symbol → Option ℕ → Node
function_as a s p x (Some v) = unsited a p s (Local v)
function_as a s p x None = function_named a s p x

abbrev pub function_symbol : StaticContext → Tables → Place → Option Symbol → Node
function_symbol a s p None = bad_shape p
function_symbol a s p (Some x) = function_as a s p x (function_of a.bound x)

abbrev pub function_row : StaticContext → Tables → Place → List Item → Node
function_row a s p (d ∷ []) = function_symbol a s p (symbol_of d)
function_row a s p [] = bad_shape p
function_row a s p (d ∷ e ∷ ds) = bad_shape p

-- (call-next-method) and (next-method-p), in a method that may have a next one
abbrev pub method_row : Leaf → StaticContext → Tables → Place → List Item → Node
method_row l a s p [] = if a.spot.in_method then made_at_once a p s l else bad_shape p
method_row l a s p (d ∷ ds) = bad_shape p

-- (class c): a class that is defined earlier

abbrev pub class_of : Place → StaticContext → Tables → Place → Option ℕ → Node
class_of q a s p None = offends q UnknownClass
class_of q a s p (Some c) = literal_node a p s (row.Class c)

abbrev pub class_symbol : Place → StaticContext → Tables → Place → Symbol → Node
class_symbol q a s p (Named n) = class_of q a s p (class_named s.classes.rows n)
class_symbol q a s p (Fresh e serial) = bad_shape p

abbrev pub class_datum : Place → StaticContext → Tables → Place → Option Symbol → Node
class_datum q a s p None = bad_shape p
class_datum q a s p (Some x) = class_symbol q a s p x

abbrev pub class_row : StaticContext → Tables → Place → List Item → Node
class_row a s p (d ∷ []) = class_datum (place_of d) a s p (symbol_of d)
class_row a s p [] = bad_shape p
class_row a s p (d ∷ e ∷ ds) = bad_shape p
