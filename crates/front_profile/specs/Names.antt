-- What a name is bound to around a form: the innermost that has the name, in the namespace asked (ISO/IEC 13816:2007, 11).
use Rattle.std.specs.Prelude.{ℕ, ◌+◌, ◌==◌, Bool, true, false, ◌&&◌, List, [], ◌∷◌, ◌++◌, Option, Some, None, if◌then◌else◌}
use Rattle.std.specs.List.{filter_map}
use Rattle.base.specs.declared.datum.Symbol.{Symbol}
use Rattle.base.specs.declared.datum.Symbol.TheVariants.{Named, Fresh}
use Rattle.lang_meaning.specs.declared.capture.Capture.{Capture}
use Rattle.lang_meaning.specs.declared.capture.Capture.TheVariants as part
use Rattle.front_profile.specs.declared.bound.Target.{Target}
use Rattle.front_profile.specs.declared.bound.Bound.{Bound}
use Rattle.front_profile.specs.declared.bound.Bound.TheVariants.{Variable, Function, Block, Tags}

abbrev pub same_symbol : Symbol → Symbol → Bool
same_symbol (Named n) (Named m) = n.0 == m.0
same_symbol (Named n) (Fresh e s) = false
same_symbol (Fresh e s) (Named n) = false
same_symbol (Fresh e s) (Fresh f t) = (e == f) && (s == t)

-- a number where both symbols are the same
abbrev pub given_by : Symbol → Symbol → ℕ → Option ℕ
given_by x y n = if same_symbol x y then Some n else None

-- what is bound to the symbol, in each namespace

abbrev pub as_variable : Symbol → Bound → Option ℕ
as_variable x (Variable y v) = given_by x y v
as_variable x (Function y v) = None
as_variable x (Block y e) = None
as_variable x (Tags ys e) = None

abbrev pub as_function : Symbol → Bound → Option ℕ
as_function x (Function y v) = given_by x y v
as_function x (Variable y v) = None
as_function x (Block y e) = None
as_function x (Tags ys e) = None

abbrev pub as_block : Symbol → Bound → Option ℕ
as_block x (Block y e) = given_by x y e
as_block x (Variable y v) = None
as_block x (Function y v) = None
as_block x (Tags ys e) = None

-- the segment behind the tag, where the first tag stands in front of segment n
abbrev pub target_among : Symbol → ℕ → ℕ → List Symbol → Option Target
target_among x e n [] = None
target_among x e n (y ∷ ys) = if same_symbol x y then Some (record { exit = e; segment = n }) else target_among x e (n + 1) ys

abbrev pub as_tag : Symbol → Bound → Option Target
as_tag x (Tags ys e) = target_among x e 1 ys
as_tag x (Variable y v) = None
as_tag x (Function y v) = None
as_tag x (Block y e) = None

-- the last of a list that has something to give
abbrev pub or_first : {X : Type 0} → Option X → Option X → Option X
or_first None y = y
or_first (Some x) y = Some x

abbrev pub innermost : {X : Type 0} → (Bound → Option X) → List Bound → Option X
innermost f [] = None
innermost f (b ∷ bs) = or_first (innermost f bs) (f b)

abbrev pub variable_of : List Bound → Symbol → Option ℕ
variable_of bs x = innermost (as_variable x) bs

abbrev pub function_of : List Bound → Symbol → Option ℕ
function_of bs x = innermost (as_function x) bs

abbrev pub block_of : List Bound → Symbol → Option ℕ
block_of bs x = innermost (as_block x) bs

abbrev pub tag_of : List Bound → Symbol → Option Target
tag_of bs x = innermost (as_tag x) bs

-- the parts of the static context that a function made there can capture: variables, exits and the method part, in this order

abbrev pub variable_part : Bound → Option Capture
variable_part (Variable y v) = Some (part.Variable v)
variable_part (Function y v) = None
variable_part (Block y e) = None
variable_part (Tags ys e) = None

abbrev pub exit_part : Bound → Option Capture
exit_part (Block y e) = Some (part.Exit e)
exit_part (Tags ys e) = Some (part.Exit e)
exit_part (Variable y v) = None
exit_part (Function y v) = None

abbrev pub method_part : Bool → List Capture
method_part true = part.Method ∷ []
method_part false = []

abbrev pub parts_around : List Bound → Bool → List Capture
parts_around bs in_method = filter_map variable_part bs ++ (filter_map exit_part bs ++ method_part in_method)
