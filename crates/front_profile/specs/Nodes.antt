-- What judging meets: a node that offends, a derived form that stands for its step, a call of a macro that stands for its expansion, or a core form
-- with its parts, which stand where the whole stands, or where what it binds is bound (ISO/IEC 13816:2007, 12 and 16).
use Rattle.std.specs.Prelude.{◌≡◌, ◌⊎◌, ℕ, Bool, List, [], ◌∷◌, ◌++◌}
use Rattle.base.specs.declared.place.Place.{Place}
use Rattle.base.specs.declared.reason.Reason.{Reason}
use Rattle.base.specs.declared.datum.Name.{Name}
use Rattle.base.specs.declared.datum.Symbol.{Symbol}
use Rattle.base.specs.Data.{Item}
use Rattle.lang_meaning.specs.Form.{Form}
use Rattle.front_profile.specs.declared.bound.Bound.{Bound}
use Rattle.front_profile.specs.declared.bound.Bound.TheVariants.{Variable}
use Rattle.front_profile.specs.declared.spot.Spot.{Spot}
use Rattle.front_profile.specs.declared.elaboration.ElaboratedPart.{ElaboratedPart}
use Rattle.front_profile.specs.declared.elaboration.ElaboratedPart.TheVariants.{Value, Binding, Parameter}
use Rattle.front_profile.specs.declared.elaboration.Accessor.{Accessor}
use Rattle.front_profile.specs.declared.elaboration.Made.{Made}
use Rattle.front_profile.specs.declared.parameters.Parameters.{Parameters}
use Rattle.front_profile.specs.declared.tables.Tables.{Tables}

-- where a form stands: what is bound there, the innermost last, and the rest
pub record StaticContext : Type 0 where
  pub bound : List Bound
  pub spot : Spot

-- the functions of definitions that define more than one: of an initform; of a slot's option, under the name of its generic function, with
-- the slot's name; of a method, whose body may have a next method or not
pub data Written : Type 0 where
  initform : Item → Written
  accessor : Name → Accessor → Item → Written
  method : Name → (has_next : Bool) → Parameters → List Item → Written

-- the parts of a form, in the order in which they are met
pub data Part : Type 0 where
  -- a form outside, a form of a body there, and a form inside, where what the whole binds is bound
  form : Item → Part
  below : Item → Part
  inner : Item → Part
  -- a variable, which takes the next number and is bound inside for the parts behind it, with its value, which stands
  -- outside, or as a parameter
  bind : Symbol → Item → Part
  parameter : Symbol → Part
  -- an offence that stands behind the parts in front of it
  wrong : Place → Reason → Part
  -- a function of a definition, which stands alone
  function : Written → Part

pub data Node : Type 0 where
  -- its own offence, the lowest reason
  offends : Place → Reason → Node
  -- it asks for a name that the table of names lacks: nothing is said of it
  unnamed : Node
  -- a derived form, there and with these tables
  steps : StaticContext → Tables → Item → Node
  -- a call of the macro of that number, there and with these tables
  calls : StaticContext → Tables → (macro : ℕ) → Item → Node
  -- the parts stand there, outside and inside
  whole : StaticContext → StaticContext → Tables → List Part → Made → Node

-- what a form is under a table of names, and under a later one: the same, unless the earlier table lacks a name
abbrev pub NodeStays : Node → Node → Type 0
NodeStays x y = (x ≡ unnamed) ⊎ (x ≡ y)

-- how judging ends before all parts are judged: with the first offence
pub data EarlyEnd : Type 0 where
  refused : Place → Reason → EarlyEnd

pub record Standing : Type 0 where
  pub form : Form
  pub tables : Tables

-- the core form and the tables behind it, or an end before
pub data Verdict : Type 0 where
  stands : Standing → Verdict
  ended : EarlyEnd → Verdict

-- the variable of a part is bound where the parts behind it stand

abbrev pub with_bound : Bound → StaticContext → StaticContext
with_bound b i = record i { bound = i.bound ++ b ∷ [] }

abbrev pub behind : StaticContext → Tables → Part → StaticContext
behind i s (form d) = i
behind i s (below d) = i
behind i s (inner d) = i
behind i s (bind x d) = with_bound (Variable x s.variables) i
behind i s (parameter x) = with_bound (Variable x s.variables) i
behind i s (wrong p r) = i
behind i s (function w) = i

-- what is recorded of a part of which that form was found
abbrev pub recorded : Tables → Part → Form → ElaboratedPart
recorded s (form d) f = Value f
recorded s (below d) f = Value f
recorded s (inner d) f = Value f
recorded s (bind x d) f = Binding s.variables f
recorded s (parameter x) f = Parameter s.variables
recorded s (wrong p r) f = Value f
recorded s (function w) f = Value f
