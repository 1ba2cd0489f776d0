-- What rows are written with: where parts stand, sites, depth, literals, offences (ISO/IEC 13816:2007, 12).
use Rattle.std.specs.Prelude.{ℕ, ◌+◌, Bool, true, false, List, [], ◌∷◌, ◌++◌, Option, Some, None, if◌then◌else◌, length, nat_le, map}
use Rattle.base.specs.declared.place.Place.{Place}
use Rattle.base.specs.declared.datum.Name.{Name}
use Rattle.base.specs.declared.datum.Symbol.{Symbol}
use Rattle.base.specs.declared.reason.Reason.{Reason}
use Rattle.base.specs.declared.reason.Reason.TheVariants.{BadShape, BadBinding, DepthLimit}
use Rattle.base.specs.Data.{Item, place_of}
use Rattle.lang_meaning.specs.declared.program.LiteralRow.{LiteralRow}
use Rattle.front_profile.specs.declared.bound.Bound.{Bound}
use Rattle.front_profile.specs.declared.spot.Spot.{Spot}
use Rattle.front_profile.specs.declared.tables.Tables.{Tables}
use Rattle.front_profile.specs.declared.elaboration.Leaf.{Leaf}
use Rattle.front_profile.specs.declared.elaboration.Leaf.TheVariants.{Literal}
use Rattle.front_profile.specs.declared.elaboration.Elaboration.{Elaboration}
use Rattle.front_profile.specs.declared.elaboration.Elaboration.TheVariants.{Ready}
use Rattle.front_profile.specs.Nodes.{StaticContext, Part, form, below, inner, bind, parameter, Node, offends, whole}
use Rattle.front_profile.specs.Shapes.{Pair}

-- so many core forms deeper, and below top level; each part of a form begins a row of expansions anew
abbrev pub deeper_spot : ℕ → Spot → Spot
deeper_spot n spot = record spot { depth = spot.depth + n; top = false; in_row = 0 }

abbrev pub deeper : ℕ → StaticContext → StaticContext
deeper n a = record a { spot = deeper_spot n a.spot }

-- the parts of a top-level `progn` stand at top level
abbrev pub deeper_at_top_spot : Spot → Spot
deeper_at_top_spot spot = record spot { depth = spot.depth + 1; in_row = 0 }

abbrev pub deeper_at_top : StaticContext → StaticContext
deeper_at_top a = record a { spot = deeper_at_top_spot a.spot }

abbrev pub with_all : List Bound → StaticContext → StaticContext
with_all bs a = record a { bound = a.bound ++ bs }

-- where the forms of a definition's body stand: its depth begins anew. At top level nothing is bound.
abbrev pub alone_spot : Bool → Spot → Spot
alone_spot in_method spot = record spot { depth = 1; top = false; in_method = in_method; in_row = 0 }

abbrev pub alone : Bool → StaticContext → StaticContext
alone in_method a = record a { spot = alone_spot in_method a.spot }

-- sites, counted from 1

abbrev pub with_site_if : Bool → Place → Tables → Tables
with_site_if true p s = record s { sites = s.sites ++ p ∷ [] }
with_site_if false p s = s

abbrev pub with_site : StaticContext → Place → Tables → Tables
with_site a p s = with_site_if a.spot.sited p s

abbrev pub site_if : Bool → ℕ → Option ℕ
site_if true n = Some (n + 1)
site_if false n = None

abbrev pub next_site : StaticContext → Tables → Option ℕ
next_site a s = site_if a.spot.sited (length s.sites)

-- so many core forms, inside one another, are of the form's own; none may stand inside 1,000 others
abbrev pub within_depth : ℕ → StaticContext → Place → Node → Node
within_depth n a p x = if nat_le (a.spot.depth + n) 1000 then x else offends p DepthLimit

-- a core form at its place, whose parts stand outside and inside
abbrev pub made_of : StaticContext → StaticContext → Place → Tables → List Part → Elaboration → Node
made_of a i p s xs m = whole (deeper 1 a) i (with_site a p s) xs (record { site = next_site a s; making = m })

-- a core form that has no parts
abbrev pub made_at_once : StaticContext → Place → Tables → Leaf → Node
made_at_once a p s l = within_depth 1 a p (made_of a (deeper 1 a) p s [] (Ready l))

-- the same without a site, as that of a literal and of a variable
abbrev pub unsited : StaticContext → Place → Tables → Leaf → Node
unsited a p s l = within_depth 1 a p (whole a a s [] (record { site = None; making = Ready l }))

abbrev pub with_literal : LiteralRow → Tables → Tables
with_literal row s = record s { literals = s.literals ++ row ∷ [] }

abbrev pub literal_node : StaticContext → Place → Tables → LiteralRow → Node
literal_node a p s row = unsited a p (with_literal row s) (Literal (length s.literals))

-- parts

abbrev pub each_form : List Item → List Part
each_form ds = map (λ d. form d) ds

abbrev pub each_below : List Item → List Part
each_below ds = map (λ d. below d) ds

abbrev pub each_inner : List Item → List Part
each_inner ds = map (λ d. inner d) ds

abbrev pub each_bound : List Pair → List Part
each_bound ps = map (λ p. bind p.name p.datum) ps

abbrev pub each_parameter : List Symbol → List Part
each_parameter xs = map (λ x. parameter x) xs

-- offences

abbrev pub bad_shape : Place → Node
bad_shape p = offends p BadShape

abbrev pub bad_binding : Item → Node
bad_binding d = offends (place_of d) BadBinding

-- the number that a symbol stands for, where it has to stand for one: a fresh symbol that does not is a bad shape
abbrev pub no_such : Place → Reason → Option Name → Node
no_such p r None = bad_shape p
no_such p r (Some n) = offends p r
