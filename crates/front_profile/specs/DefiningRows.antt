-- The rows of forms that define, which stand at top level (ISO/IEC 13816:2007, 12.7, 12.8, 14.3 and 16). A definition counts
-- for what comes after it, and not for its own parts.
use Rattle.std.specs.Prelude.{◌+◌, ◌==◌, Bool, true, false, not, ◌&&◌, ◌||◌, List, [], ◌∷◌, ◌++◌, Option, Some, None, if◌then◌else◌, length, is_some}
use Rattle.std.specs.List.{list_any}
use Rattle.base.specs.declared.place.Place.{Place}
use Rattle.base.specs.declared.datum.Name.{Name}
use Rattle.base.specs.declared.datum.Symbol.{Symbol}
use Rattle.base.specs.declared.reason.Reason.{Reason}
use Rattle.base.specs.declared.reason.Reason.TheVariants.{DuplicateName, NotTopLevel, ReservedName, ConstantSet}
use Rattle.base.specs.Data.{Item}
use Rattle.lang_meaning.specs.declared.program.LiteralRow.TheVariants as row
use Rattle.front_profile.specs.declared.tables.Tables.{Tables}
use Rattle.front_profile.specs.declared.tables.GlobalRow.{GlobalRow}
use Rattle.front_profile.specs.declared.tables.DynamicRow.{DynamicRow}
use Rattle.front_profile.specs.declared.elaboration.Leaf.{Leaf}
use Rattle.front_profile.specs.declared.elaboration.Leaf.TheVariants.{Literal, Nothing}
use Rattle.front_profile.specs.declared.elaboration.One.TheVariants.{DefineGlobal, DefineDynamic}
use Rattle.front_profile.specs.declared.elaboration.DefinedAs.{DefinedAs}
use Rattle.front_profile.specs.declared.elaboration.Elaboration.TheVariants.{OfFunctionNamed}
use Rattle.front_profile.specs.declared.parameters.Parameters.{Parameters}
use Rattle.front_profile.specs.Nodes.{StaticContext, Node, offends}
use Rattle.front_profile.specs.Shapes.{symbol_of, name_of, parameters_in}
use Rattle.front_profile.specs.RowWords.{within_depth, with_literal, bad_shape, bad_binding}
use Rattle.front_profile.specs.FunctionNodes.{body_alone, function_parts}
use Rattle.front_profile.specs.ValueRows.{one_part}

-- the name that a definition gives: a symbol with a name
abbrev pub named : Option Symbol → Option Name
named None = None
named (Some x) = name_of x

abbrev pub is_that : Name → Name → Bool
is_that n m = n.0 == m.0

-- what was defined before, in each namespace

-- for a definition of a file, what a prelude defined does not count
abbrev pub counts : (of_file before : Bool) → Bool
counts of_file before = not of_file || before

abbrev pub has_global : Bool → Tables → Name → Bool
has_global of_file s n = list_any (λ g. is_that n g.name && counts of_file g.of_file) s.globals

abbrev pub has_dynamic : Bool → Tables → Name → Bool
has_dynamic of_file s n = list_any (λ v. is_that n v.name && counts of_file v.of_file) s.dynamics

abbrev pub is_of_prelude : Tables → Name → Bool
is_of_prelude s n = list_any (is_that n) s.prelude

-- functions and macros share a namespace
abbrev pub has_function : Tables → Name → Bool
has_function s n = list_any (λ f. is_that n f.name) s.functions || list_any (λ m. is_that n m.name) s.macros

-- a file names no function and no macro of the prelude; a name is taken by what the same text defined before
abbrev pub is_taken : Bool → Tables → Name → Bool
is_taken of_file s n = has_function s n && not (of_file && is_of_prelude s n)

abbrev pub is_set : Tables → Name → Bool
is_set s n = list_any (is_that n) s.set

-- the lowest of the reasons that all definitions share, where the name is already taken, and where it is reserved
abbrev pub defining_offence : Bool → Bool → Bool → Option Reason
defining_offence top taken reserved =
    if taken then Some DuplicateName
    else if not top then Some NotTopLevel
    else if reserved then Some ReservedName
    else None

abbrev pub unless_offending : Place → Option Reason → Node → Node
unless_offending p None x = x
unless_offending p (Some r) x = offends p r

abbrev pub defining : StaticContext → Place → Bool → Bool → Node → Node
defining a p taken reserved x = unless_offending p (defining_offence a.spot.top taken reserved) x

-- nothing of a file is defined under the name `t`
abbrev pub is_truth : StaticContext → Tables → Name → Bool
is_truth a s n = a.spot.sited && is_that n s.words.truth

-- (defglobal name x) and (defconstant name x): a constant is not set before

abbrev pub global_variable : StaticContext → Name → Bool → GlobalRow
global_variable a n constant = record { name = n; constant = constant; of_file = a.spot.sited }

abbrev pub global_as : Bool → StaticContext → Tables → Place → Option Name → Item → Node
global_as constant a s p None x = bad_shape p
global_as constant a s p (Some n) x =
    defining a p (has_global a.spot.sited s n) (is_truth a s n)
    (if constant && is_set s n then offends p ConstantSet else one_part a p s (DefineGlobal (global_variable a n constant)) x)

abbrev pub global_row : Bool → StaticContext → Tables → Place → List Item → Node
global_row constant a s p (d ∷ x ∷ []) = global_as constant a s p (named (symbol_of d)) x
global_row constant a s p [] = bad_shape p
global_row constant a s p (d ∷ []) = bad_shape p
global_row constant a s p (d ∷ x ∷ e ∷ ds) = bad_shape p

-- (defdynamic name x)

abbrev pub dynamic_variable : StaticContext → Name → DynamicRow
dynamic_variable a n = record { name = n; of_file = a.spot.sited }

abbrev pub defdynamic_as : StaticContext → Tables → Place → Option Name → Item → Node
defdynamic_as a s p None x = bad_shape p
defdynamic_as a s p (Some n) x =
    defining a p (has_dynamic a.spot.sited s n) (is_truth a s n) (one_part a p s (DefineDynamic (dynamic_variable a n)) x)

abbrev pub defdynamic_row : StaticContext → Tables → Place → List Item → Node
defdynamic_row a s p (d ∷ x ∷ []) = defdynamic_as a s p (named (symbol_of d)) x
defdynamic_row a s p [] = bad_shape p
defdynamic_row a s p (d ∷ []) = bad_shape p
defdynamic_row a s p (d ∷ x ∷ e ∷ ds) = bad_shape p

-- (defun name lambda-list f*) and (defmacro name lambda-list f*): in a file the definition stands for the symbol of its name, whose literal is
-- met first

abbrev pub with_name : Bool → Item → Tables → Tables
with_name true d s = with_literal (row.Datum d) s
with_name false d s = s

abbrev pub named_form : Bool → Tables → Leaf
named_form true s = Literal (length s.literals)
named_form false s = Nothing

abbrev pub defun_of : DefinedAs → StaticContext → Tables → Name → Item → List Item → Parameters → Node
defun_of k a s n d fs ps =
    body_alone false a (with_name a.spot.sited d s) (function_parts ps fs)
    (OfFunctionNamed k n (length ps.required) (is_some ps.rest) a.spot.sited (named_form a.spot.sited s))

abbrev pub defun_with : DefinedAs → StaticContext → Tables → Name → Item → Item → List Item → Option Parameters → Node
defun_with k a s n d l fs None = bad_binding l
defun_with k a s n d l fs (Some ps) = defun_of k a s n d fs ps

-- a name is reserved where the language keeps it, where it is `t`, and where the prelude has a function or a macro of it
abbrev pub is_reserved : Bool → StaticContext → Tables → Name → Bool
is_reserved kept a s n = is_truth a s n || (a.spot.sited && (kept || is_of_prelude s n))

abbrev pub defun_as : DefinedAs → Bool → StaticContext → Tables → Place → Item → Item → List Item → Option Name → Node
defun_as k kept a s p d l fs None = bad_shape p
defun_as k kept a s p d l fs (Some n) =
    defining a p (is_taken a.spot.sited s n) (is_reserved kept a s n)
    (within_depth 1 a p (defun_with k a s n d l fs (parameters_in s.words l)))

-- where the language keeps the name or not
abbrev pub defun_row : DefinedAs → Bool → StaticContext → Tables → Place → List Item → Node
defun_row k kept a s p [] = bad_shape p
defun_row k kept a s p (d ∷ []) = bad_shape p
defun_row k kept a s p (d ∷ l ∷ fs) = defun_as k kept a s p d l fs (named (symbol_of d))
