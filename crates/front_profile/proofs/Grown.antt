-- What judging leaves stands behind the tables that were in front.
use Rattle.std.proofs.Common.{◌+◌, ℕ, List, arith}
use Rattle.front_profile.specs.declared.tables.Tables.{Tables}
use Rattle.front_profile.specs.declared.elaboration.Made.{Made}
use Rattle.front_profile.specs.Nodes.{StaticContext, Part, form, below, inner, bind, parameter, wrong, function, Node, offends, unnamed, steps, calls, whole, Standing, Verdict, stands as comes_to, ended, behind, recorded}
use Rattle.front_profile.specs.RowWords.{deeper}
use Rattle.front_profile.specs.Rows.{node}
use Rattle.front_profile.specs.Judged.{with_fresh, with_expansion, again, with_variable, subject, Verdicts, all_stand, one_ended, in_front, made_verdict, Elaborates, offence, step, expanded, expansion_stops, made, ElaboratesAll, ends, goes, stops}
use Rattle.front_profile.specs.Marks.{TablesGrow}
use Rattle.front_profile.specs.bridge.Growing.{tables_grow_transitive, tables_grow_reflexive, finish_grows}
use Rattle.front_profile.proofs.Starting.{grows_fresh, grows_expansion, grows_numbers, NodeBegins}
use Rattle.front_profile.proofs.StartingDefinitions.{begins_function_node}
use Rattle.front_profile.proofs.Growing.{begins_node}

abbrev pub GrowsTo : Tables → Verdict → Type 0
GrowsTo s (comes_to m) = TablesGrow s m.tables
GrowsTo s (ended e) = Unit {0}

abbrev pub AllGrow : Tables → Verdicts → Type 0
AllGrow s (all_stand r) = TablesGrow s r.tables
AllGrow s (one_ended e) = Unit {0}

from_front : (s t : Tables) (v : Verdict) → TablesGrow s t → GrowsTo t v → GrowsTo s v
from_front s t (comes_to m) g h = tables_grow_transitive s t m.tables g h
from_front s t (ended e) g h = tt

made_grows : (s : Tables) (m : Made) (w : Verdicts) → AllGrow s w → GrowsTo s (made_verdict m w)
made_grows s m (all_stand r) g = finish_grows s r.tables m.making r.found g
made_grows s m (one_ended e) g = tt

more_grows : (s : Tables) (x : Part) (m : Standing) (w : Verdicts) → TablesGrow s m.tables → AllGrow m.tables w → AllGrow s (in_front (recorded s x m.form) w)
more_grows s x m (all_stand r) g h = tables_grow_transitive s m.tables r.tables g h
more_grows s x m (one_ended e) g h = tt

begins_from : (s t : Tables) (x : Node) → TablesGrow s t → NodeBegins t x → NodeBegins s x
begins_from s t (offends p r) g h = tt
begins_from s t unnamed g h = tt
begins_from s t (steps a u d) g h = tables_grow_transitive s t u g h
begins_from s t (calls a u m d) g h = tables_grow_transitive s t u g h
begins_from s t (whole o i u xs m) g h = tables_grow_transitive s t u g h

grows_variable : (s : Tables) → TablesGrow s (with_variable s)
grows_variable s = grows_numbers s (s.variables + 1) s.exits (omega arith) (omega arith)

pub begins_part : (names : List (List ℕ)) (o i : StaticContext) (s : Tables) (x : Part) → NodeBegins s (subject names o i s x)
begins_part names o i s (form d) = begins_node names s o d
begins_part names o i s (below d) = begins_node names s (deeper 1 o) d
begins_part names o i s (inner d) = begins_node names s i d
begins_part names o i s (bind x d) = begins_from s (with_variable s) _ (grows_variable s) (begins_node names (with_variable s) o d)
begins_part names o i s (parameter x) = grows_variable s
begins_part names o i s (wrong p r) = tt
begins_part names o i s (function w) = begins_function_node s o w

mutual
  pub node_grows : (names : List (List ℕ)) (x : Node) (v : Verdict) → Elaborates names x v → (s : Tables) → NodeBegins s x → GrowsTo s v
  node_grows names x v (offence p r) s b = tt
  node_grows names x v (step a t d d2 n v2 h c) s b =
      from_front s (with_fresh n t) v2 (tables_grow_transitive s t (with_fresh n t) b (grows_fresh t n))
      (node_grows names (node names a (with_fresh n t) d2) v2 c (with_fresh n t) (begins_node names (with_fresh n t) a d2))
  node_grows names x v (expanded a t macro d e v2 h c) s b =
      from_front s (with_expansion t) v2 (tables_grow_transitive s t (with_expansion t) b (grows_expansion t))
      (node_grows names (node names (again a) (with_expansion t) e) v2 c (with_expansion t) (begins_node names (with_expansion t) (again a) e))
  node_grows names x v (expansion_stops a t macro d r h) s b = tt
  node_grows names x v (made o i t xs m w g) s b =
      from_front s t (made_verdict m w) b (made_grows t m w (all_grow names o i t xs w g))

  all_grow : (names : List (List ℕ)) (o i : StaticContext) (s : Tables) (xs : List Part) (w : Verdicts) → ElaboratesAll names o i s xs w → AllGrow s w
  all_grow names o i s xs w (ends o2 i2 s2) = tables_grow_reflexive s2
  all_grow names o i s xs w (goes o2 i2 s2 x ys m w2 c g) =
      more_grows s2 x m w2 (node_grows names (subject names o2 i2 s2 x) (comes_to m) c s2 (begins_part names o2 i2 s2 x))
      (all_grow names o2 (behind i2 s2 x) m.tables ys w2 g)
  all_grow names o i s xs w (stops o2 i2 s2 x ys e c) = tt
