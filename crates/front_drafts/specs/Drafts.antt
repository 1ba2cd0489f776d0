-- What contracts see of drafts: the node that a draft is for, where a form stands.
use Rattle.std.specs.Prelude.{◌≡◌, ◌++◌, Bool, true, false, None, length, Result, IfOk}
use Rattle.base.specs.declared.faults.NoMemory.{NoMemory}
use Rattle.front_drafts.specs.declared.draft.Draft.{Draft}
use Rattle.front_drafts.specs.declared.draft.Draft.TheVariants.{Offends, Unnamed, Literal, Unsited, Sited, Defines, DefinesMethods, DefinesClass}
use Rattle.front_drafts.specs.declared.draft.Note.{Note}
use Rattle.front_drafts.specs.declared.draft.Note.TheVariants.{Nothing, Set, Exit}
use Rattle.front_drafts.specs.declared.here.FormContext.{FormContext}
use Rattle.front_drafts.specs.Views.{at, view_parts, view_inner}
use Rattle.front_profile.specs.declared.elaboration.Elaboration.TheVariants.{OfFunctionNamed, OfMethods, OfClass}
use Rattle.front_profile.specs.declared.tables.Tables.{Tables}
use Rattle.front_profile.specs.Nodes.{StaticContext, Node, offends, unnamed, steps, calls, whole}
use Rattle.front_profile.specs.RowWords.{alone, literal_node, unsited, with_site, next_site}
use Rattle.front_profile.specs.ValueRows.{with_set}
use Rattle.front_profile.specs.ExitRows.{with_exit}
use Rattle.front_profile.specs.DefiningRows.{with_name, named_form}
use Rattle.base.specs.declared.place.Place.{Place}
use Rattle.base.specs.declared.datum.Symbol.TheVariants.{Named}
use Rattle.base.specs.Data.{item, symbol}

-- what is around a form that stands there
abbrev pub around : FormContext → StaticContext
around x = at x.bound.now x.spot

-- the tables with such a note
abbrev pub noting : Note → Tables → Tables
noting Nothing s = s
noting (Set n) s = with_set n s
noting Exit s = with_exit s

-- the node that a draft is for
abbrev pub drawn : StaticContext → Place → Tables → Draft → Node
drawn a p s (Offends q r) = offends q r
drawn a p s Unnamed = unnamed
drawn a p s (Literal row) = literal_node a p s row
drawn a p s (Unsited l) = unsited a p s l
drawn a p s (Sited b) =
    whole (at a.bound b.outside) (at (a.bound ++ b.binds) b.inside) (with_site a p (noting b.note s)) (view_parts b.parts ++ view_inner b.inner)
    (record { site = next_site a (noting b.note s); making = b.making })
drawn a p s (Defines f) =
    whole (alone false a) (alone false a) (with_name a.spot.sited f.datum.now s) (view_parts f.parts ++ view_inner f.inner)
    (record { site = None; making = OfFunctionNamed f.kind f.name f.required f.rest a.spot.sited (named_form a.spot.sited s) })
drawn a p s (DefinesMethods m) =
    whole a a (with_name a.spot.sited (item m.place (symbol (Named m.name))) s) (view_parts m.parts)
    (record { site = None; making = OfMethods m.taker m.heads (length s.procedures) a.spot.sited (named_form a.spot.sited s) })
drawn a p s (DefinesClass c) =
    whole a a (with_name a.spot.sited c.datum.now s) (view_parts c.parts)
    (record { site = None; making = OfClass c.class (length s.procedures) a.spot.sited (named_form a.spot.sited s) })

-- the same where a form stands
abbrev pub shows : FormContext → Draft → Node
shows x d = drawn (around x) x.place x.tables.now d

-- a draft, where there is one, for that node
abbrev pub Draws : FormContext → Node → Result Draft NoMemory → Type 0
Draws x node result = IfOk result (λ draft. shows x draft ≡ node)

-- whether a node asks for a name that is lacking
abbrev pub is_unnamed : Node → Bool
is_unnamed unnamed = true
is_unnamed (offends p r) = false
is_unnamed (steps a s d) = false
is_unnamed (calls a s m d) = false
is_unnamed (whole a i s xs m) = false
