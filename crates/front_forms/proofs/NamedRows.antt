-- A form whose names are all in the table of names is not left open: something is said of it.
use Rattle.std.proofs.Common.{◌≡◌, ℕ, ◌+◌, nat_le, Bool, true, false, not, ◌&&◌, List, [], ◌∷◌, Option, Some, None, if◌then◌else◌, refl}
use Rattle.std.specs.List.{list_any, list_all}
use Rattle.base.specs.declared.place.Place.{Place}
use Rattle.base.specs.declared.datum.Name.{Name}
use Rattle.base.specs.declared.datum.Symbol.{Symbol}
use Rattle.base.specs.declared.datum.Symbol.TheVariants.{Named, Fresh}
use Rattle.base.specs.declared.reason.Reason.{Reason}
use Rattle.base.specs.Data.{Item, item, integer, character, symbol, string, vector, nil, list, items_list, no_tail, dotted}
use Rattle.base.specs.DataNames.{symbol_text}
use Rattle.lang_derived.specs.Asked.{list_items}
use Rattle.front_profile.specs.declared.bound.Bound.{Bound}
use Rattle.front_profile.specs.declared.parameters.Parameters.{Parameters}
use Rattle.front_profile.specs.declared.bound.Target.{Target}
use Rattle.front_profile.specs.declared.elaboration.DefinedAs.{DefinedAs}
use Rattle.front_profile.specs.declared.elaboration.DefinedAs.TheVariants.{Function, Macro}
use Rattle.front_profile.specs.declared.elaboration.Leaf.{Leaf}
use Rattle.front_profile.specs.declared.special.Special.{Special}
use Rattle.front_profile.specs.declared.special.Special.TheVariants as name
use Rattle.front_profile.specs.declared.tables.Tables.{Tables}
use Rattle.lang_meaning.specs.declared.kinds.OverTwo.{OverTwo}
use Rattle.front_profile.specs.Nodes.{StaticContext, Node, unnamed}
use Rattle.front_profile.specs.Shapes.{symbol_of, is_true, Pair, ClauseParts, name_of, pairs_in, parameters_in, clauses_in, all_differ, tags_in}
use Rattle.front_profile.specs.Names.{variable_of, function_of, block_of, tag_of}
use Rattle.front_profile.specs.Words.{is_left_out}
use Rattle.front_profile.specs.RowWords.{within_depth, no_such}
use Rattle.front_profile.specs.ValueRows as value
use Rattle.front_profile.specs.BindingRows as binding
use Rattle.front_profile.specs.ExitRows as exit
use Rattle.front_profile.specs.DefiningRows as defining
use Rattle.front_profile.specs.GenericRows as generic
use Rattle.front_profile.specs.MethodShapes.{WrittenMethod, method_in, some_fresh_class}
use Rattle.front_profile.specs.ClassShapes.{WrittenSlot, WrittenSuper, ClassOption, are_options, supers_in, slots_in, class_options, is_of_left_out}
use Rattle.front_profile.specs.ClassRows as class
use Rattle.front_profile.specs.GivenNames.{GivenName, no_name, unfit, lacking, given, given_name}
use Rattle.front_profile.specs.Elaborations.{generic_named as number_named}
use Rattle.front_profile.specs.Rows.{special_row, special_of, headed_as, headed_by, call_as, call_symbol, list_node, is_lambda, plain_node, functions_kept, first_reserved}
use Rattle.front_drafts.specs.Drafts.{is_unnamed}
use Rattle.front_syntax.specs.Lacking.{is_lacking_name, slots_lack, class_lacks, first_lacks, special_in, behind_first, headed_lacks, form_lacks}

-- something is said of it
record Said (x : Node) : Type 0 where
  pub said : is_unnamed x ≡ false

if_said : (b : Bool) (x y : Node) → Said x → Said y → Said (if b then x else y)
if_said true x y g h = g
if_said false x y g h = h

within_said : (n : ℕ) (a : StaticContext) (p : Place) (x : Node) → Said x → Said (within_depth n a p x)
within_said n a p x h = if_said (nat_le (a.spot.depth + n) 1000) x _ h (record { said = refl })

unless_said : (p : Place) (o : Option Reason) (x : Node) → Said x → Said (defining.unless_offending p o x)
unless_said p None x h = h
unless_said p (Some r) x h = record { said = refl }

-- values

free_said : (a : StaticContext) (p : Place) (s : Tables) (x : Symbol) → Said (value.free_symbol a p s x)
free_said a p s (Named n) = within_said 1 a p _ (record { said = refl })
free_said a p s (Fresh e k) = record { said = refl }

variable_said : (a : StaticContext) (p : Place) (s : Tables) (x : Symbol) (v : Option ℕ) → Said (value.symbol_as a p s x v)
variable_said a p s x (Some v) = within_said 1 a p _ (record { said = refl })
variable_said a p s x None = free_said a p s x

symbol_said : (a : StaticContext) (p : Place) (s : Tables) (x : Symbol) → Said (value.symbol_node a p s x)
symbol_said a p s x =
    if_said (is_true s.words x) _ _ (within_said 1 a p _ (record { said = refl })) (variable_said a p s x (variable_of a.bound x))

quote_said : (a : StaticContext) (s : Tables) (p : Place) (ds : List Item) → Said (value.quote_row a s p ds)
quote_said a s p [] = record { said = refl }
quote_said a s p (d ∷ []) = within_said 1 a p _ (record { said = refl })
quote_said a s p (d ∷ e ∷ ds) = record { said = refl }

set_free_said : (a : StaticContext) (s : Tables) (p : Place) (x : Symbol) (d : Item) → Said (value.set_free a s p x d)
set_free_said a s p (Named n) d = if_said (value.is_constant s n) _ _ (record { said = refl }) (within_said 1 a p _ (record { said = refl }))
set_free_said a s p (Fresh e k) d = record { said = refl }

set_as_said : (a : StaticContext) (s : Tables) (p : Place) (x : Symbol) (v : Option ℕ) (d : Item) → Said (value.set_as a s p x v d)
set_as_said a s p x (Some v) d = within_said 1 a p _ (record { said = refl })
set_as_said a s p x None d = set_free_said a s p x d

set_said : (a : StaticContext) (s : Tables) (p : Place) (v d : Item) → Said (value.set_datum a s p v d)
set_said a s p (item q (symbol x)) d = if_said (is_true s.words x) _ _ (record { said = refl }) (set_as_said a s p x (variable_of a.bound x) d)
set_said a s p (item q nil) d = record { said = refl }
set_said a s p (item q (integer n)) d = record { said = refl }
set_said a s p (item q (character c)) d = record { said = refl }
set_said a s p (item q (string bytes)) d = record { said = refl }
set_said a s p (item q (vector ds)) d = record { said = refl }
set_said a s p (item q (list ds t)) d = record { said = refl }

setq_said : (a : StaticContext) (s : Tables) (p : Place) (ds : List Item) → Said (value.setq_row a s p ds)
setq_said a s p [] = record { said = refl }
setq_said a s p (d ∷ []) = record { said = refl }
setq_said a s p (v ∷ x ∷ []) = set_said a s p v x
setq_said a s p (d ∷ e ∷ f ∷ ds) = record { said = refl }

cond_said : (a : StaticContext) (s : Tables) (p : Place) (cs : Option (List ClauseParts)) → Said (value.cond_as a s p cs)
cond_said a s p None = record { said = refl }
cond_said a s p (Some cs) = within_said (value.own_depth cs) a p _ (record { said = refl })

two_said : (k : OverTwo) (a : StaticContext) (s : Tables) (p : Place) (ds : List Item) → Said (value.two_row k a s p ds)
two_said k a s p [] = record { said = refl }
two_said k a s p (d ∷ []) = record { said = refl }
two_said k a s p (d ∷ e ∷ []) = within_said 1 a p _ (record { said = refl })
two_said k a s p (d ∷ e ∷ f ∷ ds) = record { said = refl }

body_said : (k : OverTwo) (a : StaticContext) (s : Tables) (p : Place) (ds : List Item) → Said (value.body_row k a s p ds)
body_said k a s p [] = record { said = refl }
body_said k a s p (d ∷ ds) = within_said 2 a p _ (record { said = refl })

dynamic_as_said : (a : StaticContext) (s : Tables) (p : Place) (n : Option Name) → Said (value.dynamic_as a s p n)
dynamic_as_said a s p None = record { said = refl }
dynamic_as_said a s p (Some n) = within_said 1 a p _ (record { said = refl })

dynamic_said : (a : StaticContext) (s : Tables) (p : Place) (ds : List Item) → Said (value.dynamic_row a s p ds)
dynamic_said a s p [] = record { said = refl }
dynamic_said a s p (v ∷ []) = dynamic_as_said a s p (value.dynamic_name s.words (symbol_of v))
dynamic_said a s p (d ∷ e ∷ ds) = record { said = refl }

set_dynamic_as_said : (a : StaticContext) (s : Tables) (p : Place) (n : Option Name) (d : Item) → Said (value.set_dynamic_as a s p n d)
set_dynamic_as_said a s p None d = record { said = refl }
set_dynamic_as_said a s p (Some n) d = within_said 1 a p _ (record { said = refl })

set_dynamic_said : (a : StaticContext) (s : Tables) (p : Place) (ds : List Item) → Said (value.set_dynamic_row a s p ds)
set_dynamic_said a s p [] = record { said = refl }
set_dynamic_said a s p (d ∷ []) = record { said = refl }
set_dynamic_said a s p (x ∷ v ∷ []) = set_dynamic_as_said a s p (value.dynamic_name s.words (symbol_of v)) x
set_dynamic_said a s p (d ∷ e ∷ f ∷ ds) = record { said = refl }

function_as_said : (a : StaticContext) (s : Tables) (p : Place) (x : Symbol) (v : Option ℕ) → Said (value.function_as a s p x v)
function_as_said a s p x (Some v) = within_said 1 a p _ (record { said = refl })
function_as_said a s p (Named n) None = within_said 1 a p _ (record { said = refl })
function_as_said a s p (Fresh e k) None = record { said = refl }

function_symbol_said : (a : StaticContext) (s : Tables) (p : Place) (x : Option Symbol) → Said (value.function_symbol a s p x)
function_symbol_said a s p None = record { said = refl }
function_symbol_said a s p (Some x) = function_as_said a s p x (function_of a.bound x)

function_said : (a : StaticContext) (s : Tables) (p : Place) (ds : List Item) → Said (value.function_row a s p ds)
function_said a s p [] = record { said = refl }
function_said a s p (d ∷ []) = function_symbol_said a s p (symbol_of d)
function_said a s p (d ∷ e ∷ ds) = record { said = refl }

next_said : (l : Leaf) (a : StaticContext) (s : Tables) (p : Place) (ds : List Item) → Said (value.method_row l a s p ds)
next_said l a s p [] = if_said a.spot.in_method _ _ (within_said 1 a p _ (record { said = refl })) (record { said = refl })
next_said l a s p (d ∷ ds) = record { said = refl }

class_as_said : (q : Place) (a : StaticContext) (s : Tables) (p : Place) (c : Option ℕ) → Said (value.class_of q a s p c)
class_as_said q a s p None = record { said = refl }
class_as_said q a s p (Some c) = within_said 1 a p _ (record { said = refl })

class_datum_said : (q : Place) (a : StaticContext) (s : Tables) (p : Place) (x : Option Symbol) → Said (value.class_datum q a s p x)
class_datum_said q a s p None = record { said = refl }
class_datum_said q a s p (Some (Named n)) = class_as_said q a s p _
class_datum_said q a s p (Some (Fresh e k)) = record { said = refl }

class_said : (a : StaticContext) (s : Tables) (p : Place) (ds : List Item) → Said (value.class_row a s p ds)
class_said a s p [] = record { said = refl }
class_said a s p (d ∷ []) = class_datum_said _ a s p (symbol_of d)
class_said a s p (d ∷ e ∷ ds) = record { said = refl }

-- bindings

let_as_said : (a : StaticContext) (s : Tables) (p : Place) (bs : Item) (fs : List Item) (ps : Option (List Pair)) → Said (binding.let_as a s p bs fs ps)
let_as_said a s p bs fs None = record { said = refl }
let_as_said a s p bs fs (Some ps) = record { said = refl }

let_said : (a : StaticContext) (s : Tables) (p : Place) (ds : List Item) → Said (binding.let_row a s p ds)
let_said a s p [] = record { said = refl }
let_said a s p (bs ∷ fs) = within_said 2 a p _ (let_as_said a s p bs fs (pairs_in s.words bs))

dynamics_said : (a : StaticContext) (s : Tables) (p : Place) (fs : List Item) (ps : List Pair) (ns : Option (List Name)) → Said (binding.dynamics_as a s p fs ps ns)
dynamics_said a s p fs ps None = record { said = refl }
dynamics_said a s p fs ps (Some ns) = within_said 2 a p _ (record { said = refl })

dynamic_let_as_said : (a : StaticContext) (s : Tables) (p : Place) (bs : Item) (fs : List Item) (ps : Option (List Pair)) → Said (binding.dynamic_let_as a s p bs fs ps)
dynamic_let_as_said a s p bs fs None = within_said 2 a p _ (record { said = refl })
dynamic_let_as_said a s p bs fs (Some ps) = dynamics_said a s p fs ps (binding.names_of ps)

dynamic_let_said : (a : StaticContext) (s : Tables) (p : Place) (ds : List Item) → Said (binding.dynamic_let_row a s p ds)
dynamic_let_said a s p [] = record { said = refl }
dynamic_let_said a s p (bs ∷ fs) = dynamic_let_as_said a s p bs fs (pairs_in s.words bs)

lambda_as_said : (a : StaticContext) (s : Tables) (p : Place) (l : Item) (fs : List Item) (ps : Option Parameters) → Said (binding.lambda_as a s p l fs ps)
lambda_as_said a s p l fs None = record { said = refl }
lambda_as_said a s p l fs (Some ps) = record { said = refl }

lambda_said : (a : StaticContext) (s : Tables) (p : Place) (ds : List Item) → Said (binding.lambda_row a s p ds)
lambda_said a s p [] = record { said = refl }
lambda_said a s p (l ∷ fs) = within_said 2 a p _ (lambda_as_said a s p l fs (parameters_in s.words l))

functions_as_said : (a : StaticContext) (s : Tables) (p : Place) (fs : List Item) (kept : Bool) (bs : Option (List Bound)) → Said (binding.functions_as a s p fs kept bs)
functions_as_said a s p fs kept None = record { said = refl }
functions_as_said a s p fs true (Some bs) = record { said = refl }
functions_as_said a s p fs false (Some bs) = within_said 1 a p _ (record { said = refl })

with_functions_as_said : (kept : Bool) (a : StaticContext) (s : Tables) (p : Place) (bs : Item) (fs : List Item) (ps : Option (List Pair)) → Said (binding.with_functions_as kept a s p bs fs ps)
with_functions_as_said kept a s p bs fs None = within_said 1 a p _ (record { said = refl })
with_functions_as_said kept a s p bs fs (Some ps) = functions_as_said a s p fs kept (binding.functions_of a ps)

with_functions_said : (kept : Bool) (a : StaticContext) (s : Tables) (p : Place) (ds : List Item) → Said (binding.with_functions_row kept a s p ds)
with_functions_said kept a s p [] = record { said = refl }
with_functions_said kept a s p (bs ∷ fs) = with_functions_as_said kept a s p bs fs (pairs_in s.words bs)

-- exits

block_as_said : (a : StaticContext) (s : Tables) (p : Place) (x : Option Symbol) (fs : List Item) → Said (exit.block_as a s p x fs)
block_as_said a s p None fs = record { said = refl }
block_as_said a s p (Some x) fs = within_said 2 a p _ (record { said = refl })

block_said : (a : StaticContext) (s : Tables) (p : Place) (ds : List Item) → Said (exit.block_row a s p ds)
block_said a s p [] = record { said = refl }
block_said a s p (d ∷ fs) = block_as_said a s p (symbol_of d) fs

no_such_said : (p : Place) (r : Reason) (n : Option Name) → Said (no_such p r n)
no_such_said p r None = record { said = refl }
no_such_said p r (Some n) = record { said = refl }

return_to_said : (a : StaticContext) (s : Tables) (p : Place) (x : Symbol) (e : Option ℕ) (d : Item) → Said (exit.return_to_exit a s p x e d)
return_to_said a s p x None d = no_such_said p _ (name_of x)
return_to_said a s p x (Some e) d = within_said 1 a p _ (record { said = refl })

return_as_said : (a : StaticContext) (s : Tables) (p : Place) (x : Option Symbol) (d : Item) → Said (exit.return_as a s p x d)
return_as_said a s p None d = record { said = refl }
return_as_said a s p (Some x) d = return_to_said a s p x (block_of a.bound x) d

return_said : (a : StaticContext) (s : Tables) (p : Place) (ds : List Item) → Said (exit.return_from_row a s p ds)
return_said a s p [] = record { said = refl }
return_said a s p (x ∷ []) = record { said = refl }
return_said a s p (x ∷ d ∷ []) = return_as_said a s p (symbol_of x) d
return_said a s p (x ∷ d ∷ e ∷ ds) = record { said = refl }

go_to_said : (a : StaticContext) (s : Tables) (p : Place) (x : Symbol) (t : Option Target) → Said (exit.go_to a s p x t)
go_to_said a s p x None = no_such_said p _ (name_of x)
go_to_said a s p x (Some t) = within_said 1 a p _ (record { said = refl })

go_as_said : (a : StaticContext) (s : Tables) (p : Place) (x : Option Symbol) → Said (exit.go_as a s p x)
go_as_said a s p None = record { said = refl }
go_as_said a s p (Some x) = go_to_said a s p x (tag_of a.bound x)

go_said : (a : StaticContext) (s : Tables) (p : Place) (ds : List Item) → Said (exit.go_row a s p ds)
go_said a s p [] = record { said = refl }
go_said a s p (d ∷ []) = go_as_said a s p (symbol_of d)
go_said a s p (d ∷ e ∷ ds) = record { said = refl }

-- definitions

global_as_said : (constant : Bool) (a : StaticContext) (s : Tables) (p : Place) (n : Option Name) (x : Item) → Said (defining.global_as constant a s p n x)
global_as_said constant a s p None x = record { said = refl }
global_as_said constant a s p (Some n) x =
    unless_said p _ _ (if_said (constant && defining.is_set s n) _ _ (record { said = refl }) (within_said 1 a p _ (record { said = refl })))

global_said : (constant : Bool) (a : StaticContext) (s : Tables) (p : Place) (ds : List Item) → Said (defining.global_row constant a s p ds)
global_said constant a s p [] = record { said = refl }
global_said constant a s p (d ∷ []) = record { said = refl }
global_said constant a s p (d ∷ x ∷ []) = global_as_said constant a s p (defining.named (symbol_of d)) x
global_said constant a s p (d ∷ x ∷ e ∷ ds) = record { said = refl }

defdynamic_as_said : (a : StaticContext) (s : Tables) (p : Place) (n : Option Name) (x : Item) → Said (defining.defdynamic_as a s p n x)
defdynamic_as_said a s p None x = record { said = refl }
defdynamic_as_said a s p (Some n) x = unless_said p _ _ (within_said 1 a p _ (record { said = refl }))

defdynamic_said : (a : StaticContext) (s : Tables) (p : Place) (ds : List Item) → Said (defining.defdynamic_row a s p ds)
defdynamic_said a s p [] = record { said = refl }
defdynamic_said a s p (d ∷ []) = record { said = refl }
defdynamic_said a s p (d ∷ x ∷ []) = defdynamic_as_said a s p (defining.named (symbol_of d)) x
defdynamic_said a s p (d ∷ x ∷ e ∷ ds) = record { said = refl }

defun_with_said : (k : DefinedAs) (a : StaticContext) (s : Tables) (n : Name) (d l : Item) (fs : List Item) (ps : Option Parameters) → Said (defining.defun_with k a s n d l fs ps)
defun_with_said k a s n d l fs None = record { said = refl }
defun_with_said k a s n d l fs (Some ps) = record { said = refl }

defun_as_said : (k : DefinedAs) (kept : Bool) (a : StaticContext) (s : Tables) (p : Place) (d l : Item) (fs : List Item) (n : Option Name) → Said (defining.defun_as k kept a s p d l fs n)
defun_as_said k kept a s p d l fs None = record { said = refl }
defun_as_said k kept a s p d l fs (Some n) =
    unless_said p _ _ (within_said 1 a p _ (defun_with_said k a s n d l fs (parameters_in s.words l)))

defun_said : (k : DefinedAs) (kept : Bool) (a : StaticContext) (s : Tables) (p : Place) (ds : List Item) → Said (defining.defun_row k kept a s p ds)
defun_said k kept a s p [] = record { said = refl }
defun_said k kept a s p (d ∷ []) = record { said = refl }
defun_said k kept a s p (d ∷ l ∷ fs) = defun_as_said k kept a s p d l fs (defining.named (symbol_of d))

-- generic functions and methods

generic_with_said : (a : StaticContext) (s : Tables) (d : Item) (n : Name) (l : Item) (ms : List WrittenMethod) (ps : Option Parameters) → Said (generic.generic_with a s d n l ms ps)
generic_with_said a s d n l ms None = record { said = refl }
generic_with_said a s d n l ms (Some ps) = record { said = refl }

generic_checked_said : (a : StaticContext) (s : Tables) (p : Place) (d l : Item) (os : List generic.GenericOption) (n : Name) → Said (generic.generic_checked a s p d l os n)
generic_checked_said a s p d l os n =
    if_said (generic.all_fit s (generic.generic_row n (parameters_in s.words l)) (generic.methods_among os)) _ _
    (generic_with_said a s d n l (generic.methods_among os) (parameters_in s.words l)) (record { said = refl })

generic_of_said : (names : List (List ℕ)) (a : StaticContext) (s : Tables) (p : Place) (d l : Item) (os : List generic.GenericOption) (n : Name) → Said (generic.generic_of names a s p d l os n)
generic_of_said names a s p d l os n =
    unless_said p _ _ (if_said (list_any generic.is_of_left_out os) _ _ (record { said = refl }) (within_said 1 a p _ (generic_checked_said a s p d l os n)))

generic_named_said : (names : List (List ℕ)) (a : StaticContext) (s : Tables) (p : Place) (d l : Item) (os : List generic.GenericOption) (g : GivenName) → is_lacking_name g ≡ false
    → Said (generic.generic_named_as names a s p d l os g)
generic_named_said names a s p d l os no_name h = record { said = refl }
generic_named_said names a s p d l os unfit h = record { said = refl }
generic_named_said names a s p d l os lacking h = absurd (cc)
generic_named_said names a s p d l os (given n) h = generic_of_said names a s p d l os n

defgeneric_said : (names : List (List ℕ)) (a : StaticContext) (s : Tables) (p : Place) (ds : List Item) → first_lacks ds names ≡ false → Said (generic.defgeneric_row names a s p ds)
defgeneric_said names a s p [] h = record { said = refl }
defgeneric_said names a s p (d ∷ []) h = record { said = refl }
defgeneric_said names a s p (d ∷ l ∷ ds) h =
    if_said (list_any generic.is_no_option (generic.options_of names ds)) _ _ (record { said = refl })
    (generic_named_said names a s p d l (generic.options_of names ds) (given_name names d) h)

method_for_said : (a : StaticContext) (s : Tables) (p : Place) (d : Item) (n : Name) (m : WrittenMethod) (g : Option ℕ) → Said (generic.method_for a s p d n m g)
method_for_said a s p d n m None = record { said = refl }
method_for_said a s p d n m (Some g) = if_said (generic.fits s _ m) _ _ (record { said = refl }) (record { said = refl })

method_of_said : (names : List (List ℕ)) (a : StaticContext) (s : Tables) (p : Place) (d : Item) (m : WrittenMethod) (n : Name) → Said (generic.method_of names a s p d m n)
method_of_said names a s p d m n =
    if_said (not a.spot.top) _ _ (record { said = refl })
    (if_said (generic.is_closed names a s d n) _ _ (record { said = refl }) (within_said 1 a p _ (method_for_said a s p d n m (number_named s.generics n))))

method_named_said : (names : List (List ℕ)) (a : StaticContext) (s : Tables) (p : Place) (d : Item) (m : WrittenMethod) (g : GivenName) → is_lacking_name g ≡ false
    → Said (generic.method_named_as names a s p d m g)
method_named_said names a s p d m no_name h = record { said = refl }
method_named_said names a s p d m unfit h = record { said = refl }
method_named_said names a s p d m lacking h = absurd (cc)
method_named_said names a s p d m (given n) h = method_of_said names a s p d m n

method_as_said : (names : List (List ℕ)) (a : StaticContext) (s : Tables) (p : Place) (d : Item) (m : Option WrittenMethod) → is_lacking_name (given_name names d) ≡ false
    → Said (generic.method_as names a s p d m)
method_as_said names a s p d None h = record { said = refl }
method_as_said names a s p d (Some m) h =
    if_said (some_fresh_class (list_items m.list)) _ _ (record { said = refl }) (method_named_said names a s p d m (given_name names d) h)

defmethod_said : (names : List (List ℕ)) (a : StaticContext) (s : Tables) (p : Place) (ds : List Item) → first_lacks ds names ≡ false → Said (generic.defmethod_row names a s p ds)
defmethod_said names a s p [] h = record { said = refl }
defmethod_said names a s p (d ∷ ds) h = method_as_said names a s p d (method_in names ds) h

-- classes

unless_lacking : (b : Bool) (x : Node) → b ≡ false → Said x → Said (if b then unnamed else x)
unless_lacking true x b h = absurd (cc)
unless_lacking false x b h = h

class_checked_said : (a : StaticContext) (s : Tables) (p : Place) (d : Item) (n : Name) (cs : List WrittenSuper) (xs : List WrittenSlot) (os : List ClassOption)
    → Said (class.class_checked a s p d n cs xs os)
class_checked_said a s p d n cs xs os =
    if_said (list_any is_of_left_out os) _ _ (record { said = refl })
    (within_said 1 a p _
    (if_said (not (class.are_supers s cs)) _ _ (record { said = refl })
    (if_said (not (class.few_inherited s cs)) _ _ (record { said = refl })
    (if_said (list_all (class.fits_generic s) (class.uses xs) && class.names_differ (class.uses xs)) _ _ (record { said = refl }) (record { said = refl })))))

class_of_said : (names : List (List ℕ)) (a : StaticContext) (s : Tables) (p : Place) (d : Item) (n : Name) (cs : List WrittenSuper) (xs : List WrittenSlot) (os : List ClassOption)
    → list_any class.is_lacking (class.all_functions xs) ≡ false → Said (class.class_of names a s p d n cs xs os)
class_of_said names a s p d n cs xs os h =
    unless_lacking (list_any class.is_lacking (class.all_functions xs)) _ h (unless_said p _ _ (class_checked_said a s p d n cs xs os))

class_shaped_said : (names : List (List ℕ)) (a : StaticContext) (s : Tables) (p : Place) (d : Item) (n : Option Name) (cs : Option (List WrittenSuper)) (xs : Option (List WrittenSlot)) (os : List ClassOption)
    → slots_lack xs ≡ false → Said (class.class_shaped names a s p d n cs xs os)
class_shaped_said names a s p d None cs xs os h = record { said = refl }
class_shaped_said names a s p d (Some n) None xs os h = record { said = refl }
class_shaped_said names a s p d (Some n) (Some cs) None os h = record { said = refl }
class_shaped_said names a s p d (Some n) (Some cs) (Some xs) os h =
    if_said (are_options os) _ _ (class_of_said names a s p d n cs xs os h) (record { said = refl })

defclass_said : (names : List (List ℕ)) (a : StaticContext) (s : Tables) (p : Place) (ds : List Item) → class_lacks ds names ≡ false → Said (class.defclass_row names a s p ds)
defclass_said names a s p [] h = record { said = refl }
defclass_said names a s p (d ∷ []) h = record { said = refl }
defclass_said names a s p (d ∷ cs ∷ []) h = record { said = refl }
defclass_said names a s p (d ∷ cs ∷ xs ∷ os) h =
    class_shaped_said names a s p d (defining.named (symbol_of d)) (supers_in (list_items cs)) (slots_in names (list_items xs)) (class_options names os) h

-- forms

special_said : (names : List (List ℕ)) (x : Special) (a : StaticContext) (s : Tables) (p : Place) (ds : List Item) → headed_lacks names (Some x) (Some ds) ≡ false
    → Said (special_row names x a s p ds)
special_said names name.Quote a s p ds h = quote_said a s p ds
special_said names name.Setq a s p ds h = setq_said a s p ds
special_said names name.Cond a s p ds h = cond_said a s p (clauses_in ds)
special_said names name.Progn a s p ds h = within_said 1 a p _ (record { said = refl })
special_said names name.Let a s p ds h = let_said a s p ds
special_said names name.Lambda a s p ds h = lambda_said a s p ds
special_said names name.Apply a s p ds h = two_said _ a s p ds
special_said names name.While a s p ds h = body_said _ a s p ds
special_said names name.Block a s p ds h = block_said a s p ds
special_said names name.ReturnFrom a s p ds h = return_said a s p ds
special_said names name.Tagbody a s p ds h = if_said (all_differ (tags_in ds)) _ _ (within_said 2 a p _ (record { said = refl })) (record { said = refl })
special_said names name.Go a s p ds h = go_said a s p ds
special_said names name.Catch a s p ds h = body_said _ a s p ds
special_said names name.Throw a s p ds h = two_said _ a s p ds
special_said names name.UnwindProtect a s p ds h = body_said _ a s p ds
special_said names name.DynamicLet a s p ds h = dynamic_let_said a s p ds
special_said names name.Dynamic a s p ds h = dynamic_said a s p ds
special_said names name.SetDynamic a s p ds h = set_dynamic_said a s p ds
special_said names name.WithHandler a s p ds h = body_said _ a s p ds
special_said names name.Function a s p ds h = function_said a s p ds
special_said names name.Class a s p ds h = class_said a s p ds
special_said names name.CallNextMethod a s p ds h = next_said _ a s p ds
special_said names name.NextMethodP a s p ds h = next_said _ a s p ds
special_said names name.WithFunctions a s p ds h = with_functions_said (functions_kept names ds) a s p ds
special_said names name.Defglobal a s p ds h = global_said false a s p ds
special_said names name.Defconstant a s p ds h = global_said true a s p ds
special_said names name.Defdynamic a s p ds h = defdynamic_said a s p ds
special_said names name.Defun a s p ds h = defun_said Function (first_reserved names ds) a s p ds
special_said names name.Defmacro a s p ds h = defun_said Macro (first_reserved names ds) a s p ds
special_said names name.Defclass a s p ds h = defclass_said names a s p ds h
special_said names name.Defgeneric a s p ds h = defgeneric_said names a s p ds h
special_said names name.Defmethod a s p ds h = defmethod_said names a s p ds h

call_symbol_said : (x : Symbol) (text : Option (List ℕ)) (a : StaticContext) (s : Tables) (p : Place) (ds : List Item) → Said (call_symbol x text a s p ds)
call_symbol_said x None a s p ds = record { said = refl }
call_symbol_said (Named n) (Some text) a s p ds = if_said (is_left_out text) _ _ (record { said = refl }) (within_said 1 a p _ (record { said = refl }))
call_symbol_said (Fresh e k) (Some text) a s p ds = record { said = refl }

call_said : (x : Symbol) (text : Option (List ℕ)) (v : Option ℕ) (a : StaticContext) (s : Tables) (p : Place) (ds : List Item) → Said (call_as x text v a s p ds)
call_said x text (Some v) a s p ds = within_said 2 a p _ (record { said = refl })
call_said x text None a s p ds = call_symbol_said x text a s p ds

headed_said : (names : List (List ℕ)) (x : Symbol) (o : Option Special) (a : StaticContext) (s : Tables) (p : Place) (ds : List Item) → headed_lacks names o (Some ds) ≡ false
    → Said (headed_as names x o a s p ds no_tail)
headed_said names x (Some special) a s p ds h = special_said names special a s p ds h
headed_said names x None a s p ds h = call_said x (symbol_text names x) (function_of a.bound x) a s p ds

head_dotted_said : (names : List (List ℕ)) (x : Symbol) (o : Option Special) (a : StaticContext) (s : Tables) (p : Place) (ds : List Item) (d : Item)
    → Said (headed_as names x o a s p ds (dotted d))
head_dotted_said names x (Some special) a s p ds d = record { said = refl }
head_dotted_said names x None a s p ds d = record { said = refl }

by_head_said : (names : List (List ℕ)) (h : Item) (x : Option Symbol) (a : StaticContext) (s : Tables) (p : Place) (ds : List Item) (d : Item)
    → Said (headed_by names h x a s p ds (dotted d))
by_head_said names h (Some x) a s p ds d = head_dotted_said names x (special_of (symbol_text names x)) a s p ds d
by_head_said names h None a s p ds d = if_said (is_lambda names h) _ _ (record { said = refl }) (record { said = refl })

dotted_said : (names : List (List ℕ)) (a : StaticContext) (s : Tables) (p : Place) (ds : List Item) (d : Item) → Said (list_node names a s p ds (dotted d))
dotted_said names a s p [] d = record { said = refl }
dotted_said names a s p (h ∷ ds) d = by_head_said names h (symbol_of h) a s p ds d

list_said : (names : List (List ℕ)) (a : StaticContext) (s : Tables) (p : Place) (ds : List Item) → headed_lacks names (special_in names (Some ds)) (behind_first (Some ds)) ≡ false
    → Said (list_node names a s p ds no_tail)
list_said names a s p [] h = record { said = refl }
list_said names a s p (item q (symbol x) ∷ ds) h = headed_said names x (special_of (symbol_text names x)) a s p ds h
list_said names a s p (item q (integer n) ∷ ds) h = record { said = refl }
list_said names a s p (item q (character c) ∷ ds) h = record { said = refl }
list_said names a s p (item q (string bytes) ∷ ds) h = record { said = refl }
list_said names a s p (item q (vector es) ∷ ds) h = record { said = refl }
list_said names a s p (item q nil ∷ ds) h = record { said = refl }
list_said names a s p (item q (list es t) ∷ ds) h = if_said (is_lambda names (item q (list es t))) _ _ (within_said 1 a p _ (record { said = refl })) (record { said = refl })

datum_said : (names : List (List ℕ)) (a : StaticContext) (s : Tables) (d : Item) → form_lacks d names ≡ false → Said (plain_node names a s d)
datum_said names a s (item p (list ds no_tail)) h = list_said names a s p (items_list ds) h
datum_said names a s (item p (list ds (dotted d))) h = dotted_said names a s p (items_list ds) d
datum_said names a s (item p (symbol x)) h = symbol_said a p s x
datum_said names a s (item p (integer n)) h = within_said 1 a p _ (record { said = refl })
datum_said names a s (item p (character c)) h = within_said 1 a p _ (record { said = refl })
datum_said names a s (item p (string bytes)) h = within_said 1 a p _ (record { said = refl })
datum_said names a s (item p (vector ds)) h = within_said 1 a p _ (record { said = refl })
datum_said names a s (item p nil) h = within_said 1 a p _ (record { said = refl })

pub form_said : (names : List (List ℕ)) (a : StaticContext) (s : Tables) (d : Item) → form_lacks d names ≡ false → is_unnamed (plain_node names a s d) ≡ false
form_said names a s d h = (datum_said names a s d h).said
