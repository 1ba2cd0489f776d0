-- The rows of calls: of local functions, of primitives, of function objects, and of names (ISO/IEC 13816:2007, 12.7 and 29.2).
use Rattle.std.specs.Prelude.{ℕ, Bool, ◌&&◌, List, Option, Some, None, if◌then◌else◌, length, nat_eq, nat_le, codes}
use Rattle.std.specs.Str.{bytes_eq}
use Rattle.base.specs.declared.place.Place.{Place}
use Rattle.base.specs.declared.datum.Name.{Name}
use Rattle.base.specs.Data.{Item}
use Rattle.lang_meaning.specs.declared.primitive.Primitive.{Primitive}
use Rattle.front_profile.specs.declared.tables.Tables.{Tables}
use Rattle.front_profile.specs.Primitives.{primitive_called}
use Rattle.front_profile.specs.declared.elaboration.Elaboration.{Elaboration}
use Rattle.lang_meaning.specs.declared.kinds.OverTwo.TheVariants.{Signal, Continue}
use Rattle.front_profile.specs.declared.elaboration.Elaboration.TheVariants.{OfTwo, CallOf, CallOfValue, CallOfLocal, CallOfPrimitive}
use Rattle.front_profile.specs.Nodes.{StaticContext, Node}
use Rattle.front_profile.specs.RowWords.{deeper, within_depth, made_of, each_form}

-- all parts stand where the form stands
abbrev pub all_parts : Elaboration → StaticContext → Tables → Place → List Item → Node
all_parts m a s p ds = within_depth 1 a p (made_of a (deeper 1 a) p s (each_form ds) m)

-- a local function is a variable, and its name a form of its own inside the call
abbrev pub local_call : ℕ → StaticContext → Tables → Place → List Item → Node
local_call v a s p ds = within_depth 2 a p (made_of a (deeper 1 a) p s (each_form ds) (CallOfLocal v))

-- what a call of a name is, by its arguments: a direct call of a function object, a signal, a primitive, or a call of the
-- function of that name

abbrev pub named_making : Name → Option Primitive → Elaboration
named_making n None = CallOf n
named_making n (Some p) = CallOfPrimitive p

-- `funcall` with an operator
abbrev pub is_value_call : List ℕ → ℕ → Bool
is_value_call text count = bytes_eq text (codes "funcall") && nat_le 1 count

-- that name with two arguments
abbrev pub is_pair_call : List ℕ → List ℕ → ℕ → Bool
is_pair_call text name count = bytes_eq text name && nat_eq count 2

-- the first of these that it is
abbrev pub call_making : Name → List ℕ → ℕ → Elaboration
call_making n text count =
    if is_value_call text count then CallOfValue
    else if is_pair_call text (codes "signal-condition") count then OfTwo Signal
    else if is_pair_call text (codes "continue-condition") count then OfTwo Continue
    else named_making n (primitive_called text count)

abbrev pub named_call : Name → List ℕ → StaticContext → Tables → Place → List Item → Node
named_call n text a s p ds = all_parts (call_making n text (length ds)) a s p ds
