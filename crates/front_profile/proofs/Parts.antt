-- What a part has to come to and where it stands, and that its node is apt.
use Rattle.std.proofs.Common.{◌≡◌, ◌+◌, ℕ, Bool, true, List, [], ◌∷◌, ◌++◌, refl, ap, subst, ◌∙◌, arith}
use Rattle.lang_meaning.specs.Counts.{all_nodes}
use Rattle.front_profile.specs.declared.tables.Tables.{Tables}
use Rattle.front_profile.specs.declared.elaboration.Made.{Made}
use Rattle.front_profile.specs.Nodes.{StaticContext, Part, form, below, inner, bind, parameter, wrong, function, Standing, Verdict, stands as comes_to, ended}
use Rattle.front_profile.specs.declared.spot.Spot.{Spot}
use Rattle.front_profile.specs.RowWords.{deeper}
use Rattle.front_profile.specs.Judged.{again, with_variable, subject, Verdicts, all_stand, one_ended, made_verdict}
use Rattle.front_profile.specs.Definitions.{Definitions, defined, SoundDefinitions}
use Rattle.front_profile.specs.Places.{EmptyContext, WellFormedContext}
use Rattle.front_profile.specs.Right.{NodesCounted}
use Rattle.front_profile.proofs.Definitions.{later_same, later_then, Entered, entered_same, entered_numbers, behind_entered, counted_then, counted_more}
use Rattle.front_profile.specs.Numbers.{Numbered}
use Rattle.front_profile.proofs.Numbers.{AllNumbered, numbered_wider}
use Rattle.front_profile.proofs.Good.{good_later, good_deeper}
use Rattle.front_profile.proofs.Wanted.{AllCame, AptPart, counted_nodes, Want, nothing, never, right_at, one_procedure, Wanted, wanted_nodes, LeavesAs, AptWhole, Apt, came_leaves}
use Rattle.front_profile.specs.Nodes.{Written}
use Rattle.front_profile.proofs.Procedures.{OneProcedureMore}
use Rattle.front_profile.proofs.Functions.{apt_function_node}
use Rattle.front_profile.proofs.ClassRules.{ClassRules}
use Rattle.front_profile.proofs.AllRows.{apt_node}

-- what a node came to
pub record CameAs (Q : Want) (spot : Spot) (g : Definitions) (m : Standing) : Type 0 where
  pub right : Wanted Q (defined m.tables) m.form
  pub leaves : LeavesAs Q spot.top g (defined m.tables)
  pub counted : NodesCounted spot.sited g (defined m.tables) (wanted_nodes Q m.form)
  pub numbered : Numbered g (defined m.tables) m.form

abbrev pub CameTo : Want → Spot → Definitions → Verdict → Type 0
CameTo Q spot g (comes_to m) = CameAs Q spot g m
CameTo Q spot g (ended e) = Unit {0}

abbrev pub AllCameTo : StaticContext → StaticContext → Definitions → List Part → Verdicts → Type 0
AllCameTo o i g xs (all_stand r) = AllCame o i g xs r.found (defined r.tables) × NodesCounted o.spot.sited g (defined r.tables) (counted_nodes xs r.found)
    × AllNumbered g (defined r.tables) r.found
AllCameTo o i g xs (one_ended e) = Unit {0}

-- what a part has to come to, and where it stands
abbrev pub part_place : StaticContext → StaticContext → Part → Want
part_place o i (form d) = right_at o
part_place o i (below d) = right_at (deeper 1 o)
part_place o i (inner d) = right_at i
part_place o i (bind x d) = right_at o
part_place o i (parameter x) = nothing
part_place o i (wrong p r) = never
part_place o i (function w) = one_procedure w

abbrev pub part_spot : StaticContext → StaticContext → Part → Spot
part_spot o i (below d) = (deeper 1 o).spot
part_spot o i (inner d) = i.spot
part_spot o i other = o.spot

-- the tables with the variable that the part takes
abbrev pub part_tables : Tables → Part → Tables
part_tables s (bind x d) = with_variable s
part_tables s (parameter x) = with_variable s
part_tables s other = s

-- from a derived form to its step

pub moved : (b : StaticContext) (g h : Definitions) (v : Verdict) → Entered g h → NodesCounted b.spot.sited g h 0 → CameTo (right_at b) b.spot h v → CameTo (right_at b) b.spot g v
moved b g h (comes_to m) e n c = record {
  right = c.right;
  leaves = behind_entered b.spot.top g h (defined m.tables) e c.leaves;
  counted = counted_more b.spot.sited g (defined m.tables) (0 + all_nodes m.form) (all_nodes m.form) (omega arith)
      (counted_then b.spot.sited g h (defined m.tables) 0 (all_nodes m.form) n c.counted);
  numbered = numbered_wider h g (defined m.tables) (defined m.tables) m.form e.later (later_same (defined m.tables)) c.numbered;
}
moved b g h (ended x) e n c = tt

-- from a call to its expansion, which stands there as a whole
pub came_again : (b : StaticContext) (g : Definitions) (v : Verdict) → CameTo (right_at (again b)) (again b).spot g v → CameTo (right_at b) b.spot g v
came_again b g (comes_to m) c = record { right = c.right; leaves = c.leaves; counted = c.counted; numbered = c.numbered }
came_again b g (ended x) c = tt

-- at the place that is wanted
pub as_wanted : (b : StaticContext) (Q : Want) (spot : Spot) (g : Definitions) (v : Verdict) → right_at b ≡ Q → b.spot ≡ spot → CameTo (right_at b) b.spot g v → CameTo Q spot g v
as_wanted b Q spot g v e f c =
    subst (λ (q : Want). CameTo q spot g v) e (subst (λ (t : Spot). CameTo (right_at b) t g v) f c)

-- from all parts to the whole

one_more_entered : (w : Written) (g h k : Definitions) → Entered g h → OneProcedureMore w h k → OneProcedureMore w g k
one_more_entered w g h k e o = record {
  later = later_then g h k e.later o.later;
  whole = o.whole;
  main = o.main ∙ e.main;
  same = record {
    classes = o.same.classes ∙ e.same.classes;
    generics = o.same.generics ∙ e.same.generics;
    functions = o.same.functions ∙ e.same.functions;
  };
  procedure = o.procedure;
  procedures = o.procedures ∙ ap (λ ps. ps ++ o.procedure ∷ []) e.same.procedures;
  is = o.is;
}

as_entered : (Q : Want) (top : Bool) (g h k : Definitions) → Entered g h → LeavesAs Q top h k → LeavesAs Q top g k
as_entered nothing top g h k e l = behind_entered top g h k e l
as_entered never top g h k e l = behind_entered top g h k e l
as_entered (right_at a) top g h k e l = behind_entered top g h k e l
as_entered (one_procedure w) top g h k e l = one_more_entered w g h k e l

pub whole_came : (Q : Want) (spot : Spot) (n : ℕ) (g : Definitions) (o i : StaticContext) (s : Tables) (xs : List Part) (m : Made) (w : Verdicts)
    → AptWhole Q spot n g o i s xs m → AllCameTo o i (defined s) xs w → CameTo Q spot g (made_verdict m w)
whole_came Q spot n g o i s xs m (all_stand r) a c = record {
  right = a.right r.tables r.found c.0;
  leaves = as_entered Q spot.top g (defined s) _ a.entered (a.leaves r.tables r.found c.0);
  counted = a.counted r.tables r.found c.0
      (subst (λ (b : Bool). NodesCounted b (defined s) (defined r.tables) (counted_nodes xs r.found)) a.sited.0 c.1);
  numbered = a.numbered r.tables r.found c.0 c.2;
}
whole_came Q spot n g o i s xs m (one_ended e) a c = tt

-- the node of a part

pub variable_entered : (s : Tables) → SoundDefinitions (defined s) → Entered (defined s) (defined (with_variable s))
variable_entered s w = entered_numbers (defined s) (s.variables + 1) s.exits (omega arith) (omega arith) w

pub part_apt : (rules : ClassRules) (names : List (List ℕ)) (n : ℕ) (o i : StaticContext) (s : Tables) (x : Part) → SoundDefinitions (defined s) → WellFormedContext (defined s) o → WellFormedContext (defined s) i
    → (i.spot.top ≡ true → EmptyContext o) → i.spot.sited ≡ o.spot.sited → AptPart n i x
    → Apt (part_place o i x) (part_spot o i x) n (defined (part_tables s x)) (subject names o i s x)
part_apt rules names n o i s (form d) w go gi level same a = apt_node rules names n o s d (record { good = go; whole = w }) a
part_apt rules names n o i s (below d) w go gi level same a = apt_node rules names n (deeper 1 o) s d (record { good = good_deeper (defined s) 1 o go; whole = w }) a
part_apt rules names n o i s (inner d) w go gi level same a = apt_node rules names n i s d (record { good = gi; whole = w }) a
part_apt rules names n o i s (bind x d) w go gi level same a =
    let e : Entered (defined s) (defined (with_variable s)) = variable_entered s w in
    apt_node rules names n o (with_variable s) d (record { good = good_later (defined s) (defined (with_variable s)) o e.later go; whole = e.whole }) a.0
part_apt rules names n o i s (parameter x) w go gi level same a =
    let e : Entered (defined s) (defined (with_variable s)) = variable_entered s w in
    record {
      entered = entered_same (defined (with_variable s)) e.whole;
      outside = good_later (defined s) (defined (with_variable s)) o e.later go;
      inside = good_later (defined s) (defined (with_variable s)) i e.later gi;
      level = level;
      sited = (refl, same);
      parts = tt;
      right = λ t rs c. tt;
      leaves = λ t rs c. came_leaves o.spot.top o i (defined (with_variable s)) [] rs (defined t) (λ k. (k, a)) tt c;
      counted = λ t rs c k. k;
      numbered = λ t rs c k. record { numbers = refl };
    }
part_apt rules names n o i s (wrong p r) w go gi level same a = tt
part_apt rules names n o i s (function f) w go gi level same a = apt_function_node n o s f w go (level a.1) a.0
