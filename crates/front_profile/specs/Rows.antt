-- What each datum is where it stands: the row of its form (ISO/IEC 13816:2007, 12 to 16). The text of its head decides, and whether a macro has
-- its name.
use Rattle.std.specs.Prelude.{ℕ, ◌+◌, ◌||◌, nat_le, Bool, true, false, List, [], ◌∷◌, Option, Some, None, if◌then◌else◌, length, is_some, option_map, take, codes}
use Rattle.std.specs.List.{list_any}
use Rattle.base.specs.declared.place.Place.{Place}
use Rattle.base.specs.declared.datum.Name.{Name}
use Rattle.base.specs.declared.datum.Symbol.{Symbol}
use Rattle.base.specs.declared.datum.Symbol.TheVariants.{Named, Fresh}
use Rattle.base.specs.declared.reason.Reason.{Reason}
use Rattle.base.specs.declared.reason.Reason.TheVariants.{NotAForm, LeftOut, BadShape, UnknownClass, TooManyExpansions, ExpansionDepth}
use Rattle.base.specs.declared.reason.Refusal.{Refusal}
use Rattle.base.specs.Data.{Item, item, integer, character, symbol, string, vector, nil, list, items_list, Tail, no_tail, dotted, place_of}
use Rattle.base.specs.DataNames.{symbol_text, text_of}
use Rattle.lang_meaning.specs.declared.program.LiteralRow.TheVariants as row
use Rattle.lang_classes.specs.InheritedClasses.{class_named}
use Rattle.lang_derived.specs.Asked.{list_items, is_word}
use Rattle.lang_derived.specs.Derived.{Derivation, plain, unfit, becomes, derivation}
use Rattle.front_profile.specs.declared.special.Special.{Special}
use Rattle.front_profile.specs.declared.special.Special.TheVariants as name
use Rattle.front_profile.specs.declared.tables.Tables.{Tables}
use Rattle.front_profile.specs.declared.tables.MacroRow.{MacroRow}
use Rattle.front_profile.specs.Words.{special_named, is_left_out, is_kept, is_reserved_text}
use Rattle.front_profile.specs.Names.{function_of}
use Rattle.front_profile.specs.declared.elaboration.Leaf.TheVariants.{NextMethod, HasNext}
use Rattle.lang_meaning.specs.declared.kinds.OverTwo.TheVariants.{Apply, While, Catch, Throw, Unwind, WithHandler}
use Rattle.front_profile.specs.declared.elaboration.DefinedAs.TheVariants.{Function, Macro}
use Rattle.front_profile.specs.declared.elaboration.Elaboration.TheVariants.{CallOfValue}
use Rattle.front_profile.specs.Nodes.{StaticContext, Node, offends, steps, calls}
use Rattle.front_profile.specs.Shapes.{symbol_of}
use Rattle.front_profile.specs.RowWords.{literal_node, bad_shape}
use Rattle.front_profile.specs.ValueRows.{symbol_node, quote_row, setq_row, progn_row, cond_row, two_row, body_row, dynamic_row, set_dynamic_row, function_row, method_row, class_row}
use Rattle.front_profile.specs.BindingRows.{let_row, dynamic_let_row, lambda_row, with_functions_row}
use Rattle.front_profile.specs.ExitRows.{block_row, return_from_row, tagbody_row, go_row}
use Rattle.front_profile.specs.DefiningRows.{is_that, global_row, defdynamic_row, defun_row}
use Rattle.front_profile.specs.GenericRows.{defgeneric_row, defmethod_row}
use Rattle.front_profile.specs.ClassRows.{defclass_row}
use Rattle.front_profile.specs.CallRows.{all_parts, local_call, named_call}

-- whether the language keeps the name that a symbol has

abbrev pub kept_text : Option (List ℕ) → Bool
kept_text None = false
kept_text (Some text) = is_kept text

abbrev pub reserved_text : Option (List ℕ) → Bool
reserved_text None = false
reserved_text (Some text) = is_reserved_text text

-- whether it keeps that of a definition, and that of a local function in a list of them

abbrev pub first_reserved : List (List ℕ) → List Item → Bool
first_reserved names [] = false
first_reserved names (d ∷ ds) = reserved_text (text_of names d)

abbrev pub first_kept : List (List ℕ) → Option (List Item) → Bool
first_kept names None = false
first_kept names (Some []) = false
first_kept names (Some (d ∷ ds)) = kept_text (text_of names d)

abbrev pub some_kept : List (List ℕ) → Option (List Item) → Bool
some_kept names None = false
some_kept names (Some ds) = list_any (λ d. first_kept names (list_items d)) ds

abbrev pub functions_kept : List (List ℕ) → List Item → Bool
functions_kept names [] = false
functions_kept names (d ∷ ds) = some_kept names (list_items d)

-- the row of a special or defining form, by what stands behind its name
abbrev pub special_row : List (List ℕ) → Special → StaticContext → Tables → Place → List Item → Node
special_row names name.Quote a s p ds = quote_row a s p ds
special_row names name.Setq a s p ds = setq_row a s p ds
special_row names name.Cond a s p ds = cond_row a s p ds
special_row names name.Progn a s p ds = progn_row a s p ds
special_row names name.Let a s p ds = let_row a s p ds
special_row names name.Lambda a s p ds = lambda_row a s p ds
special_row names name.Apply a s p ds = two_row Apply a s p ds
special_row names name.While a s p ds = body_row While a s p ds
special_row names name.Block a s p ds = block_row a s p ds
special_row names name.ReturnFrom a s p ds = return_from_row a s p ds
special_row names name.Tagbody a s p ds = tagbody_row a s p ds
special_row names name.Go a s p ds = go_row a s p ds
special_row names name.Catch a s p ds = body_row Catch a s p ds
special_row names name.Throw a s p ds = two_row Throw a s p ds
special_row names name.UnwindProtect a s p ds = body_row Unwind a s p ds
special_row names name.DynamicLet a s p ds = dynamic_let_row a s p ds
special_row names name.Dynamic a s p ds = dynamic_row a s p ds
special_row names name.SetDynamic a s p ds = set_dynamic_row a s p ds
special_row names name.WithHandler a s p ds = body_row WithHandler a s p ds
special_row names name.Function a s p ds = function_row a s p ds
special_row names name.Class a s p ds = class_row a s p ds
special_row names name.CallNextMethod a s p ds = method_row NextMethod a s p ds
special_row names name.NextMethodP a s p ds = method_row HasNext a s p ds
special_row names name.WithFunctions a s p ds = with_functions_row (functions_kept names ds) a s p ds
special_row names name.Defglobal a s p ds = global_row false a s p ds
special_row names name.Defconstant a s p ds = global_row true a s p ds
special_row names name.Defdynamic a s p ds = defdynamic_row a s p ds
special_row names name.Defun a s p ds = defun_row Function (first_reserved names ds) a s p ds
special_row names name.Defmacro a s p ds = defun_row Macro (first_reserved names ds) a s p ds
special_row names name.Defclass a s p ds = defclass_row names a s p ds
special_row names name.Defgeneric a s p ds = defgeneric_row names a s p ds
special_row names name.Defmethod a s p ds = defmethod_row names a s p ds

-- such a form has no dot
abbrev pub special_node : List (List ℕ) → Special → StaticContext → Tables → Place → List Item → Tail → Node
special_node names x a s p ds no_tail = special_row names x a s p ds
special_node names x a s p ds (dotted d) = bad_shape p

-- any other list without a dot is a call
abbrev pub without_dot : Place → Tail → Node → Node
without_dot p no_tail x = x
without_dot p (dotted d) x = offends p NotAForm

-- a call by a name that is no local function's
abbrev pub call_named : Name → List ℕ → StaticContext → Tables → Place → List Item → Node
call_named n text a s p ds = if is_left_out text then offends p LeftOut else named_call n text a s p ds

abbrev pub call_symbol : Symbol → Option (List ℕ) → StaticContext → Tables → Place → List Item → Node
call_symbol x None a s p ds = bad_shape p
call_symbol (Named n) (Some text) a s p ds = call_named n text a s p ds
call_symbol (Fresh e serial) (Some text) a s p ds = bad_shape p

abbrev pub call_as : Symbol → Option (List ℕ) → Option ℕ → StaticContext → Tables → Place → List Item → Node
call_as x text (Some v) a s p ds = local_call v a s p ds
call_as x text None a s p ds = call_symbol x text a s p ds

abbrev pub special_of : Option (List ℕ) → Option Special
special_of None = None
special_of (Some text) = special_named text

abbrev pub headed_as : List (List ℕ) → Symbol → Option Special → StaticContext → Tables → Place → List Item → Tail → Node
headed_as names x (Some special) a s p ds t = special_node names special a s p ds t
headed_as names x None a s p ds t =
    without_dot p t (call_as x (symbol_text names x) (function_of a.bound x) a s p ds)

-- a list with that symbol in front
abbrev pub headed : List (List ℕ) → Symbol → StaticContext → Tables → Place → List Item → Tail → Node
headed names x a s p ds t = headed_as names x (special_of (symbol_text names x)) a s p ds t

-- a lambda form: a list with `lambda` in front
abbrev pub is_lambda_name : Option Special → Bool
is_lambda_name None = false
is_lambda_name (Some name.Lambda) = true
is_lambda_name (Some x) = false

abbrev pub is_lambda_items : List (List ℕ) → List Item → Bool
is_lambda_items names [] = false
is_lambda_items names (d ∷ ds) = is_lambda_name (special_of (text_of names d))

abbrev pub is_lambda : List (List ℕ) → Item → Bool
is_lambda names (item q (list ds t)) = is_lambda_items names (items_list ds)
is_lambda names (item q (integer n)) = false
is_lambda names (item q (character c)) = false
is_lambda names (item q (symbol x)) = false
is_lambda names (item q (string bytes)) = false
is_lambda names (item q (vector ds)) = false
is_lambda names (item q nil) = false

-- a list whose head is no symbol: the call of a lambda form, the operator first
abbrev pub headed_by_form : List (List ℕ) → Item → StaticContext → Tables → Place → List Item → Tail → Node
headed_by_form names h a s p ds t =
    if is_lambda names h then without_dot p t (all_parts CallOfValue a s p (h ∷ ds)) else offends p NotAForm

abbrev pub headed_by : List (List ℕ) → Item → Option Symbol → StaticContext → Tables → Place → List Item → Tail → Node
headed_by names h (Some x) a s p ds t = headed names x a s p ds t
headed_by names h None a s p ds t = headed_by_form names h a s p ds t

abbrev pub list_node : List (List ℕ) → StaticContext → Tables → Place → List Item → Tail → Node
list_node names a s p [] t = offends p NotAForm
list_node names a s p (h ∷ ds) t = headed_by names h (symbol_of h) a s p ds t

-- what is neither a derived form nor a call of a macro
abbrev pub plain_node : List (List ℕ) → StaticContext → Tables → Item → Node
plain_node names a s (item p (list ds t)) = list_node names a s p (items_list ds) t
plain_node names a s (item p (symbol x)) = symbol_node a p s x
plain_node names a s (item p (integer n)) = literal_node a p s (row.Datum (item p (integer n)))
plain_node names a s (item p (character c)) = literal_node a p s (row.Datum (item p (character c)))
plain_node names a s (item p (string bytes)) = literal_node a p s (row.Datum (item p (string bytes)))
plain_node names a s (item p (vector ds)) = literal_node a p s (row.Datum (item p (vector ds)))
plain_node names a s (item p nil) = literal_node a p s (row.Datum (item p nil))

-- (the c x): the class is judged in front of the step

abbrev pub class_offence : Tables → Option Symbol → Option Reason
class_offence s None = Some BadShape
class_offence s (Some (Named n)) = if is_some (class_named s.classes.rows n) then None else Some UnknownClass
class_offence s (Some (Fresh e serial)) = Some BadShape

abbrev pub class_refusal : Place → Option Reason → Option Refusal
class_refusal q None = None
class_refusal q (Some r) = Some (record { place = q; reason = r })

abbrev pub class_in_front : List (List ℕ) → Tables → Option (List Item) → Option Refusal
class_in_front names s None = None
class_in_front names s (Some []) = None
class_in_front names s (Some (h ∷ [])) = None
class_in_front names s (Some (h ∷ c ∷ [])) = None
class_in_front names s (Some (h ∷ c ∷ x ∷ [])) =
    if is_word names (codes "the") h then class_refusal (place_of c) (class_offence s (symbol_of c)) else None
class_in_front names s (Some (h ∷ c ∷ x ∷ y ∷ ds)) = None

abbrev pub unless_refused : Option Refusal → Node → Node
unless_refused None x = x
unless_refused (Some r) x = offends r.place r.reason

-- calls of macros (ISO/IEC 13816:2007, 16): a list without a dot under the name of a macro that was defined before this top-level form. Neither a
-- special form is such a call, nor is the call of a local function.

-- the number of the macro of a name
abbrev pub macro_named : List MacroRow → Name → Option ℕ
macro_named [] n = None
macro_named (m ∷ ms) n = if is_that n m.name then Some 0 else option_map (λ i. i + 1) (macro_named ms n)

-- those that apply
abbrev pub macros_before : Tables → List MacroRow
macros_before s = take s.before.macros s.macros

abbrev pub macro_of_symbol : List (List ℕ) → StaticContext → Tables → Option Symbol → Option ℕ
macro_of_symbol names a s None = None
macro_of_symbol names a s (Some (Fresh e serial)) = None
macro_of_symbol names a s (Some (Named n)) =
    if is_some (special_of (symbol_text names (Named n))) || is_some (function_of a.bound (Named n)) then None
    else macro_named (macros_before s) n

abbrev pub macro_of_items : List (List ℕ) → StaticContext → Tables → Option (List Item) → Option ℕ
macro_of_items names a s None = None
macro_of_items names a s (Some []) = None
macro_of_items names a s (Some (h ∷ ds)) = macro_of_symbol names a s (symbol_of h)

abbrev pub macro_called : List (List ℕ) → StaticContext → Tables → Item → Option ℕ
macro_called names a s d = macro_of_items names a s (list_items d)

-- a file has so many expansions at most, and each but the last in a row of so many is itself a call
abbrev pub most_expansions : ℕ
most_expansions = 5000

abbrev pub most_in_row : ℕ
most_in_row = 200

abbrev pub called_as : ℕ → StaticContext → Tables → Item → Node
called_as m a s d =
    if nat_le most_expansions s.expansions then offends (place_of d) TooManyExpansions
    else if nat_le most_in_row a.spot.in_row then offends (place_of d) ExpansionDepth
    else calls a s m d

abbrev pub called_or : Option ℕ → StaticContext → Tables → Item → Node → Node
called_or None a s d x = x
called_or (Some m) a s d x = called_as m a s d

-- what is no derived form: the call of a macro, or what its row says
abbrev pub settled_node : List (List ℕ) → StaticContext → Tables → Item → Node
settled_node names a s d = called_or (macro_called names a s d) a s d (plain_node names a s d)

abbrev pub derived_as : List (List ℕ) → Derivation → StaticContext → Tables → Item → Node
derived_as names plain a s d = settled_node names a s d
derived_as names unfit a s d = bad_shape (place_of d)
derived_as names (becomes r) a s d = steps a s d

-- the node of a datum that stands there, with these tables
unfoldable pub node : List (List ℕ) → StaticContext → Tables → Item → Node
node names a s d = unless_refused (class_in_front names s (list_items d)) (derived_as names (derivation names (length s.fresh) d) a s d)
