-- The nodes of functions of definitions: each stands alone, takes its variables and literals when it is met, and its procedure takes
-- the next number (ISO/IEC 13816:2007, 12.7 and 15.1.2).
use Rattle.std.specs.Prelude.{ℕ, ◌+◌, Bool, false, List, [], ◌∷◌, ◌++◌, Some, None, length, is_some}
use Rattle.base.specs.Data.{Item}
use Rattle.lang_meaning.specs.declared.program.LiteralRow.TheVariants as row
use Rattle.front_profile.specs.declared.tables.Tables.{Tables}
use Rattle.front_profile.specs.declared.parameters.Parameters.{Parameters}
use Rattle.front_profile.specs.declared.elaboration.Accessor.{Accessor}
use Rattle.front_profile.specs.declared.elaboration.Accessor.TheVariants.{Reads, Writes, Asks}
use Rattle.front_profile.specs.declared.elaboration.Elaboration.{Elaboration}
use Rattle.front_profile.specs.declared.elaboration.Elaboration.TheVariants.{OfProcedure, OfAccessor}
use Rattle.front_profile.specs.Nodes.{StaticContext, Part, inner, Written, initform, accessor, method, Node, whole}
use Rattle.front_profile.specs.Shapes.{all_symbols}
use Rattle.front_profile.specs.RowWords.{alone, with_literal, each_inner, each_parameter}

-- a function whose body stands alone
abbrev pub body_alone : Bool → StaticContext → Tables → List Part → Elaboration → Node
body_alone has_next a s xs m = whole (alone has_next a) (alone has_next a) s xs (record { site = None; making = m })

-- the parameters of a function and its body
abbrev pub function_parts : Parameters → List Item → List Part
function_parts ps fs = each_parameter (all_symbols ps) ++ each_inner fs

-- the instance is a variable, and the new value of a writer one in front of it; the name of the slot is a literal
abbrev pub variables_of : Accessor → ℕ
variables_of Reads = 1
variables_of Writes = 2
variables_of Asks = 1

abbrev pub with_accessor : Accessor → Item → Tables → Tables
with_accessor k d s = with_literal (row.Datum d) (record s { variables = s.variables + variables_of k })

abbrev pub function_node : StaticContext → Tables → Written → Node
function_node a s (initform d) = body_alone false a s (inner d ∷ []) (OfProcedure None 0 false)
function_node a s (accessor n k d) =
    whole a a (with_accessor k d s) [] (record { site = None; making = OfAccessor n k s.variables (length s.literals) })
function_node a s (method n has_next ps fs) =
    body_alone has_next a s (function_parts ps fs) (OfProcedure (Some n) (length ps.required) (is_some ps.rest))
