-- What contracts see of parts, which borrow the data that they are, and of a plan.
use Rattle.std.specs.Prelude.{◌≡◌, List, ◌++◌, map, Result, IfOk}
use Rattle.std.specs.Borrow.{Bor}
use Rattle.base.specs.declared.datum.Symbol.TheVariants.{Named}
use Rattle.base.specs.declared.faults.NoMemory.{NoMemory}
use Rattle.base.specs.Data.{Item, item, symbol}
use Rattle.front_profile.specs.declared.bound.Bound.{Bound}
use Rattle.front_profile.specs.declared.spot.Spot.{Spot}
use Rattle.front_profile.specs.declared.tables.Tables.{Tables}
use Rattle.front_drafts.specs.declared.plan.Written.{Written as WrittenFunction}
use Rattle.front_drafts.specs.declared.plan.Written.TheVariants as kind
use Rattle.front_drafts.specs.declared.plan.Part.{Part as WrittenPart}
use Rattle.front_drafts.specs.declared.plan.Part.TheVariants as written
use Rattle.front_drafts.specs.declared.plan.Plan.{Plan}
use Rattle.front_drafts.specs.declared.plan.Plan.TheVariants.{Offends, Whole}
use Rattle.front_profile.specs.Marks.{TablesGrow}
use Rattle.front_profile.specs.Nodes.{StaticContext, Part, form, below, inner, bind, parameter, wrong, function, Written as Defined, initform, accessor, method, Node, offends, whole}

-- parts; a slot's name is a datum where the slot stands

abbrev pub view_function : WrittenFunction → Defined
view_function (kind.Initform d) = initform d.now
view_function (kind.Accessor n k p slot) = accessor n k (item p (symbol (Named slot)))
view_function (kind.Method n has_next ps fs) = method n has_next ps fs.now

abbrev pub view_part : WrittenPart → Part
view_part (written.Form d) = form d.now
view_part (written.Below d) = below d.now
view_part (written.Bind x d) = bind x d.now
view_part (written.Parameter x) = parameter x
view_part (written.Wrong p r) = wrong p r
view_part (written.Function w) = function (view_function w)

abbrev pub view_parts : List WrittenPart → List Part
view_parts xs = map view_part xs

abbrev pub view_inner : List (Bor Item) → List Part
view_inner ds = map (λ d. inner d.now) ds

-- where a form stands
abbrev pub at : List Bound → Spot → StaticContext
at bound spot = record { bound = bound; spot = spot }

-- what a plan is for a node, with these things bound around and these tables
abbrev pub shown : List Bound → Tables → Plan → Node
shown bound s (Offends p r) = offends p r
shown bound s (Whole w) =
    whole (at bound w.outside) (at (bound ++ w.binds) w.inside) s (view_parts w.parts ++ view_inner w.inner) w.made

-- a plan for a node, where these things are bound: with the tables then it shows the node; the tables have grown from those before, where
-- memory was wanting too
abbrev pub IsPlan : List Bound → Tables → Tables → Node → Result Plan NoMemory → Type 0
IsPlan bound old new node result = IfOk result (λ plan. shown bound new plan ≡ node) × TablesGrow old new
