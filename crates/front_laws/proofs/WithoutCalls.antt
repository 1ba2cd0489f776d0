-- Where no macro applies no node is a call of one, and none applies behind what it comes to.
use Rattle.std.specs.Prelude.{◌≡◌, ℕ, Bool, List}
use Rattle.std.proofs.Common.{ap, ◌∙◌}
use Rattle.base.specs.Data.{Item}
use Rattle.front_profile.specs.declared.mark.Mark.{Mark}
use Rattle.front_profile.specs.declared.tables.Tables.{Tables}
use Rattle.front_profile.specs.Nodes.{StaticContext, Part, form, below, inner, bind, parameter, wrong, function, Written, initform, accessor, method, Node, offends, unnamed, steps, calls, whole, Standing, stands}
use Rattle.front_profile.specs.FunctionNodes.{function_node}
use Rattle.front_profile.specs.RowWords.{deeper}
use Rattle.front_profile.specs.Rows.{node}
use Rattle.front_profile.specs.Judged.{with_variable, subject, Elaborates}
use Rattle.front_profile.specs.Marks.{TablesGrow}
use Rattle.front_profile.proofs.Starting.{Starts}
use Rattle.front_profile.proofs.Growing.{starts_node}
use Rattle.front_profile.proofs.Grown.{node_grows, begins_part}

abbrev pub NoneApplies : Tables → Type 0
NoneApplies s = s.before.macros ≡ 0

abbrev pub IsWithoutCalls : Node → Type 0
IsWithoutCalls (offends p r) = Unit {0}
IsWithoutCalls unnamed = Unit {0}
IsWithoutCalls (steps a s d) = NoneApplies s
IsWithoutCalls (calls a s m d) = ⊥
IsWithoutCalls (whole o i s xs m) = NoneApplies s

none_later : (s t : Tables) → TablesGrow s t → NoneApplies s → NoneApplies t
none_later s t g e = ap (λ (m : Mark). m.macros) g.before ∙ e

starts_without : (s : Tables) (top : Bool) (x : Node) → Starts s top x → NoneApplies s → IsWithoutCalls x
starts_without s top (offends p r) h e = tt
starts_without s top unnamed h e = tt
starts_without s top (steps a t d) h e = none_later s t h.grows e
starts_without s top (calls a t m d) h e = absurd (h.1 e)
starts_without s top (whole o i t xs m) h e = none_later s t h.grows e

pub node_without : (names : List (List ℕ)) (a : StaticContext) (s : Tables) (d : Item) → NoneApplies s → IsWithoutCalls (node names a s d)
node_without names a s d e = starts_without s a.spot.top (node names a s d) (starts_node names s a d) e

function_without : (o : StaticContext) (s : Tables) (f : Written) → NoneApplies s → IsWithoutCalls (function_node o s f)
function_without o s (initform d) e = e
function_without o s (accessor n k d) e = e
function_without o s (method n has_next ps fs) e = e

pub subject_without : (names : List (List ℕ)) (o i : StaticContext) (s : Tables) (x : Part) → NoneApplies s → IsWithoutCalls (subject names o i s x)
subject_without names o i s (form d) e = node_without names o s d e
subject_without names o i s (below d) e = node_without names (deeper 1 o) s d e
subject_without names o i s (inner d) e = node_without names i s d e
subject_without names o i s (bind x d) e = node_without names o (with_variable s) d e
subject_without names o i s (parameter x) e = e
subject_without names o i s (wrong p r) e = tt
subject_without names o i s (function f) e = function_without o s f e

-- behind a part that stands
pub none_behind : (names : List (List ℕ)) (o i : StaticContext) (s : Tables) (x : Part) (m : Standing) → Elaborates names (subject names o i s x) (stands m) → NoneApplies s → NoneApplies m.tables
none_behind names o i s x m c e = none_later s m.tables (node_grows names (subject names o i s x) (stands m) c s (begins_part names o i s x)) e
