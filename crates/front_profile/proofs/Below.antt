-- Below top level nothing is defined, and a function of a definition leaves one procedure.
use Rattle.std.proofs.Common.{◌≡◌, ◌+◌, ⊎_elim, inl, inr, ℕ, Bool, false, List, [], ◌∷◌, ◌++◌, length, Some, None, is_some, refl, ap, ◌∙◌, arith}
use Rattle.base.specs.Data.{Item}
use Rattle.front_profile.specs.declared.tables.Tables.{Tables}
use Rattle.front_profile.specs.declared.elaboration.ElaboratedPart.{ElaboratedPart}
use Rattle.front_profile.specs.declared.elaboration.Made.{Made}
use Rattle.front_profile.specs.declared.elaboration.Elaboration.{Elaboration}
use Rattle.lang_meaning.specs.declared.program.Procedure.{Procedure}
use Rattle.base.specs.declared.datum.Symbol.{Symbol}
use Rattle.base.specs.AllOf.{all_both}
use Rattle.front_profile.specs.Elaborations.{finish, with_procedure, procedure_found, accessor_procedure}
use Rattle.front_profile.specs.Nodes.{StaticContext, Part, form, below, inner, bind, parameter, wrong, function, Written, initform, accessor, method, Node, offends, unnamed, steps, calls, whole, Standing, Verdict, stands as comes_to, ended, behind, recorded}
use Rattle.front_profile.specs.RowWords.{deeper, each_inner, each_parameter}
use Rattle.front_profile.specs.Shapes.{all_symbols}
use Rattle.front_profile.specs.FunctionNodes.{function_parts, variables_of, with_accessor, function_node}
use Rattle.front_profile.specs.Rows.{node}
use Rattle.front_profile.specs.Judged.{with_fresh, with_expansion, again, with_variable, subject, Verdicts, all_stand, one_ended, in_front, made_verdict, Elaborates, offence, step, expanded, expansion_stops, made, ElaboratesAll, ends, goes, stops}
use Rattle.front_profile.specs.Marks.{TablesGrow}
use Rattle.front_profile.specs.bridge.Growing.{tables_grow_transitive}
use Rattle.front_profile.specs.Below.{SameNames, NothingDefined, OneProcedure}
use Rattle.front_profile.proofs.Procedures.{IsOrdinary, AllOrdinary, IsLow, AllLow, all_low, inner_ordinary}
use Rattle.front_profile.proofs.Starting.{grows_numbers, names_then, none_defined, none_then, none_literal, none_numbers, none_fresh, none_expansion, LowWhole, JoinsSuited, Starts}
use Rattle.front_profile.proofs.Known.{known_same}
use Rattle.front_profile.proofs.Growing.{starts_node}

abbrev DefinesNothing : Tables → Verdict → Type 0
DefinesNothing s (comes_to m) = NothingDefined s m.tables
DefinesNothing s (ended e) = Unit {0}

abbrev AllDefineNothing : Tables → Verdicts → Type 0
AllDefineNothing s (all_stand r) = NothingDefined s r.tables
AllDefineNothing s (one_ended e) = Unit {0}

from_front : (s t : Tables) (v : Verdict) → NothingDefined s t → DefinesNothing t v → DefinesNothing s v
from_front s t (comes_to m) n h = none_then s t m.tables n h
from_front s t (ended e) n h = tt

more_behind : (s : Tables) (x : Part) (m : Standing) (w : Verdicts) → NothingDefined s m.tables → AllDefineNothing m.tables w
    → AllDefineNothing s (in_front (recorded s x m.form) w)
more_behind s x m (all_stand r) n h = none_then s m.tables r.tables n h
more_behind s x m (one_ended e) n h = tt

made_nothing : (s t : Tables) (o i : StaticContext) (xs : List Part) (m : Made) (w : Verdicts) → LowWhole s o i t xs m.making → AllDefineNothing t w
    → DefinesNothing s (made_verdict m w)
made_nothing s t o i xs m (all_stand r) l h = none_then s t _ l.defined (none_then t r.tables _ h (l.makes r.found r.tables))
made_nothing s t o i xs m (one_ended e) l h = tt

-- a node that stands below top level
record NodeIsBelow (s : Tables) (x : Node) : Type 0 where
  top : Bool
  low : top ≡ false
  starts : Starts s top x

starts_from : (s t : Tables) (top : Bool) (x : Node) → TablesGrow s t → NothingDefined s t → Starts t top x → Starts s top x
starts_from s t top (offends p r) g n h = tt
starts_from s t top unnamed g n h = tt
starts_from s t top (steps a u d) g n h = record {
  grows = tables_grow_transitive s t u g h.grows;
  names = names_then s t u n.names h.names;
  low = λ e. let l : (a.spot.top ≡ false) × NothingDefined t u = h.low e in (l.0, none_then s t u n l.1);
}
starts_from s t top (calls a u m d) g n h = (
  record {
    grows = tables_grow_transitive s t u g h.0.grows;
    names = names_then s t u n.names h.0.names;
    low = λ e. let l : (a.spot.top ≡ false) × NothingDefined t u = h.0.low e in (l.0, none_then s t u n l.1);
  },
  λ e. h.1 (ap (λ b. b.macros) g.before ∙ e),
)
starts_from s t top (whole o i u xs m) g n h = record {
  grows = tables_grow_transitive s t u g h.grows;
  names = names_then s t u n.names h.names;
  suited = ⊎_elim inl (λ (j : JoinsSuited t u xs m.making). inr (record { functions = j.functions; suits = λ keep w. j.suits keep (known_same s t n.names w) })) h.suited;
  low = λ e.
      let l : LowWhole t o i u xs m.making = h.low e in
      record { defined = none_then s t u n l.defined; parts = l.parts; ordinary = l.ordinary; makes = l.makes };
}

grows_variable : (s : Tables) → TablesGrow s (with_variable s)
grows_variable s = grows_numbers s (s.variables + 1) s.exits (omega arith) (omega arith)

none_variable : (s : Tables) → NothingDefined s (with_variable s)
none_variable s = none_numbers s (s.variables + 1) s.exits

part_below : (names : List (List ℕ)) (o i : StaticContext) (s : Tables) (x : Part) → IsLow o.spot.top i.spot.top x → IsOrdinary x → NodeIsBelow s (subject names o i s x)
part_below names o i s (form d) l p = record { top = o.spot.top; low = l; starts = starts_node names s o d }
part_below names o i s (below d) l p = record { top = false; low = refl; starts = starts_node names s (deeper 1 o) d }
part_below names o i s (inner d) l p = record { top = i.spot.top; low = l; starts = starts_node names s i d }
part_below names o i s (bind x d) l p = record {
  top = o.spot.top;
  low = l;
  starts = starts_from s (with_variable s) o.spot.top (node names o (with_variable s) d) (grows_variable s) (none_variable s) (starts_node names (with_variable s) o d);
}
part_below names o i s (parameter x) l p = record {
  top = false;
  low = refl;
  starts = record { grows = grows_variable s; names = (none_variable s).names; suited = inl tt; low = λ e. record { defined = none_variable s; parts = tt; ordinary = tt; makes = λ rs u. none_defined u } };
}
part_below names o i s (wrong q r) l p = record { top = false; low = refl; starts = tt }
part_below names o i s (function w) l p = absurd p

same_low : (o i : StaticContext) (s : Tables) (x : Part) (xs : List Part) → AllLow o.spot.top i.spot.top xs → AllLow o.spot.top (behind i s x).spot.top xs
same_low o i s (form d) xs l = l
same_low o i s other xs l = l

mutual
  node_nothing : (names : List (List ℕ)) (x : Node) (v : Verdict) → Elaborates names x v → (s : Tables) → NodeIsBelow s x → DefinesNothing s v
  node_nothing names x v (offence p r) s b = tt
  node_nothing names x v (step a t d d2 n v2 h c) s b =
      let l : (a.spot.top ≡ false) × NothingDefined s t = b.starts.low b.low in
      from_front s (with_fresh n t) v2 (none_then s t (with_fresh n t) l.1 (none_fresh t n))
      (node_nothing names (node names a (with_fresh n t) d2) v2 c (with_fresh n t)
      (record { top = a.spot.top; low = l.0; starts = starts_node names (with_fresh n t) a d2 }))
  node_nothing names x v (expanded a t macro d e v2 h c) s b =
      let l : (a.spot.top ≡ false) × NothingDefined s t = b.starts.0.low b.low in
      from_front s (with_expansion t) v2 (none_then s t (with_expansion t) l.1 (none_expansion t))
      (node_nothing names (node names (again a) (with_expansion t) e) v2 c (with_expansion t)
      (record { top = a.spot.top; low = l.0; starts = starts_node names (with_expansion t) (again a) e }))
  node_nothing names x v (expansion_stops a t macro d r h) s b = tt
  node_nothing names x v (made o i t xs m w g) s b =
      let l : LowWhole s o i t xs m.making = b.starts.low b.low in
      made_nothing s t o i xs m w l (all_nothing names o i t xs w g l.parts l.ordinary)

  all_nothing : (names : List (List ℕ)) (o i : StaticContext) (s : Tables) (xs : List Part) (w : Verdicts) → ElaboratesAll names o i s xs w → AllLow o.spot.top i.spot.top xs
      → AllOrdinary xs → AllDefineNothing s w
  all_nothing names o i s xs w (ends o2 i2 s2) l p = none_defined s2
  all_nothing names o i s xs w (goes o2 i2 s2 x ys m w2 c g) l p =
      more_behind s2 x m w2 (node_nothing names (subject names o2 i2 s2 x) (comes_to m) c s2 (part_below names o2 i2 s2 x l.0 p.0))
      (all_nothing names o2 (behind i2 s2 x) m.tables ys w2 g (same_low o2 i2 s2 x ys l.1) p.1)
  all_nothing names o i s xs w (stops o2 i2 s2 x ys e c) l p = tt

pub form_defines_nothing : (names : List (List ℕ)) (a : StaticContext) (s : Tables) (d : Item) (m : Standing) → a.spot.top ≡ false → Elaborates names (node names a s d) (comes_to m)
    → NothingDefined s m.tables
form_defines_nothing names a s d m low c =
    node_nothing names (node names a s d) (comes_to m) c s (record { top = a.spot.top; low = low; starts = starts_node names s a d })

-- functions of definitions

record OneWhole (s : Tables) (o i : StaticContext) (t : Tables) (xs : List Part) (k : Elaboration) : Type 0 where
  defined : NothingDefined s t
  parts : AllLow o.spot.top i.spot.top xs
  ordinary : AllOrdinary xs
  makes : (rs : List ElaboratedPart) (u : Tables) → OneProcedure u (finish k rs u)

abbrev LeavesOne : Tables → Node → Type 0
LeavesOne s (offends p r) = ⊥
LeavesOne s unnamed = ⊥
LeavesOne s (steps a t d) = ⊥
LeavesOne s (calls a t m d) = ⊥
LeavesOne s (whole o i t xs m) = OneWhole s o i t xs m.making

abbrev LeftOne : Tables → Verdict → Type 0
LeftOne s (comes_to m) = OneProcedure s m.tables
LeftOne s (ended e) = Unit {0}

then_one : (s t u : Tables) → NothingDefined s t → OneProcedure t u → OneProcedure s u
then_one s t u n o = record {
  names = names_then s t u n.names o.names;
  procedure = o.procedure;
  procedures = o.procedures ∙ ap (λ ps. ps ++ o.procedure ∷ []) n.procedures;
}

made_one : (s t : Tables) (o i : StaticContext) (xs : List Part) (m : Made) (w : Verdicts) → OneWhole s o i t xs m.making → AllDefineNothing t w → LeftOne s (made_verdict m w)
made_one s t o i xs m (all_stand r) l h = then_one s t _ l.defined (then_one t r.tables _ h (l.makes r.found r.tables))
made_one s t o i xs m (one_ended e) l h = tt

node_one : (names : List (List ℕ)) (x : Node) (v : Verdict) → Elaborates names x v → (s : Tables) → LeavesOne s x → LeftOne s v
node_one names x v (offence p r) s l = absurd l
node_one names x v (step a t d d2 n v2 h c) s l = absurd l
node_one names x v (expanded a t macro d e v2 h c) s l = absurd l
node_one names x v (expansion_stops a t macro d r h) s l = absurd l
node_one names x v (made o i t xs m w g) s l = made_one s t o i xs m w l (all_nothing names o i t xs w g l.parts l.ordinary)

parameters_ordinary : (ps : List Symbol) → AllOrdinary (each_parameter ps)
parameters_ordinary [] = tt
parameters_ordinary (p ∷ ps) = (tt, parameters_ordinary ps)

one_names : (u : Tables) (p : Procedure) → SameNames u (with_procedure p u)
one_names u p = record { words = refl; classes = refl; prelude_classes = refl; generics = refl; functions = refl; macros = refl; prelude = refl; globals = refl; dynamics = refl; main = refl }

one_more : (u : Tables) (p : Procedure) → OneProcedure u (with_procedure p u)
one_more u p = record { names = one_names u p; procedure = p; procedures = refl }

function_one : (o : StaticContext) (s : Tables) (w : Written) → LeavesOne s (function_node o s w)
function_one o s (initform d) = record {
  defined = none_defined s;
  parts = (refl, tt);
  ordinary = (tt, tt);
  makes = λ rs u. one_more u (procedure_found None 0 false rs);
}
function_one o s (accessor n k d) =
    let numbers : Tables = record s { variables = s.variables + variables_of k } in
    record {
      defined = none_then s numbers (with_accessor k d s) (none_numbers s (s.variables + variables_of k) s.exits) (none_literal numbers _);
      parts = tt;
      ordinary = tt;
      makes = λ rs u. one_more u (accessor_procedure n k s.variables (length s.literals));
    }
function_one o s (method n has_next ps fs) =
    let xs : List Part = function_parts ps fs in
    record {
      defined = none_defined s;
      parts = all_low false false xs refl refl;
      ordinary = all_both IsOrdinary (each_parameter (all_symbols ps)) (each_inner fs) (parameters_ordinary (all_symbols ps)) (inner_ordinary fs);
      makes = λ rs u. one_more u (procedure_found (Some n) (length ps.required) (is_some ps.rest) rs);
    }

pub function_leaves_one : (names : List (List ℕ)) (a : StaticContext) (s : Tables) (w : Written) (m : Standing) → Elaborates names (function_node a s w) (comes_to m)
    → OneProcedure s m.tables
function_leaves_one names a s w m c = node_one names (function_node a s w) (comes_to m) c s (function_one a s w)
