-- The first offence of a form stands at a place of the form: by induction over what nodes come to.
use Rattle.std.specs.Prelude.{ℕ, ◌+◌, List, length}
use Rattle.base.specs.declared.place.Place.{Place}
use Rattle.base.specs.declared.reason.Reason.{Reason}
use Rattle.base.specs.Data.{Item}
use Rattle.base.specs.AllOf.{AllOf}
use Rattle.front_profile.specs.declared.elaboration.ElaboratedPart.{ElaboratedPart}
use Rattle.front_profile.specs.declared.elaboration.Made.{Made}
use Rattle.front_profile.specs.declared.tables.Tables.{Tables}
use Rattle.front_profile.specs.Nodes.{StaticContext, Part, form, below, inner, bind, parameter, wrong, function, Written, initform, accessor, method, Node, EarlyEnd, refused, Verdict, stands, ended, behind, recorded}
use Rattle.front_profile.specs.RowWords.{deeper}
use Rattle.front_profile.specs.FunctionNodes.{function_node}
use Rattle.front_profile.specs.Rows.{node}
use Rattle.front_profile.specs.Judged.{with_fresh, with_expansion, again, with_variable, subject, Verdicts, all_stand, one_ended, in_front, made_verdict, Elaborates, offence, step, expanded, expansion_stops, made, ElaboratesAll, ends, goes, stops}
use Rattle.front_laws.specs.Places.{IsPlaceIn}
use Rattle.front_laws.proofs.AllPlaces.{AllPlaces}
use Rattle.front_laws.proofs.Parts.{its_place, each_then_all}
use Rattle.front_laws.proofs.Steps.{step_too}
use Rattle.front_laws.proofs.Expanded.{expansion_too}
use Rattle.front_laws.proofs.Nodes.{PlacesOfFunction, PlacesOfPart, PlacesOfNode, function_too}
use Rattle.front_laws.proofs.Rows.{node_in}

module _ (P : Place → Type 0) where
  -- it holds of the place of an offence
  abbrev PlaceOfEnd : EarlyEnd → Type 0
  PlaceOfEnd (refused p r) = P p

  abbrev pub PlaceOfVerdict : Verdict → Type 0
  PlaceOfVerdict (stands m) = Unit {0}
  PlaceOfVerdict (ended e) = PlaceOfEnd e

  abbrev PlaceOfVerdicts : Verdicts → Type 0
  PlaceOfVerdicts (all_stand all) = Unit {0}
  PlaceOfVerdicts (one_ended e) = PlaceOfEnd e

  function_node_in : (a : StaticContext) (s : Tables) (f : Written) → PlacesOfFunction P f → PlacesOfNode P (function_node a s f)
  function_node_in a s (initform d) g = (g, tt)
  function_node_in a s (accessor n k d) g = tt
  function_node_in a s (method n has_next ps fs) g = function_too P ps fs g

  subject_in : (names : List (List ℕ)) (o i : StaticContext) (s : Tables) (x : Part) → PlacesOfPart P x → PlacesOfNode P (subject names o i s x)
  subject_in names o i s (form d) g = node_in P names o s d g
  subject_in names o i s (below d) g = node_in P names (deeper 1 o) s d g
  subject_in names o i s (inner d) g = node_in P names i s d g
  subject_in names o i s (bind x d) g = node_in P names o (with_variable s) d g
  subject_in names o i s (parameter x) g = tt
  subject_in names o i s (wrong p r) g = g
  subject_in names o i s (function f) g = function_node_in o s f g

  made_in : (m : Made) (w : Verdicts) → PlaceOfVerdicts w → PlaceOfVerdict (made_verdict m w)
  made_in m (all_stand all) h = tt
  made_in m (one_ended e) h = h

  in_front_in : (r : ElaboratedPart) (w : Verdicts) → PlaceOfVerdicts w → PlaceOfVerdicts (in_front r w)
  in_front_in r (all_stand all) h = tt
  in_front_in r (one_ended e) h = h

  mutual
    verdict_in : (names : List (List ℕ)) (x : Node) (v : Verdict) → Elaborates names x v → PlacesOfNode P x → PlaceOfVerdict v
    verdict_in names _ _ (offence p r) g = g
    verdict_in names _ _ (step a s d d2 n v x e) g =
        verdict_in names (node names a (with_fresh n s) d2) v e
        (node_in P names a (with_fresh n s) d2 (step_too P names d (length s.fresh) d2 (length s.fresh + n) g x))
    verdict_in names _ _ (expanded a s m d e v x c) g =
        verdict_in names (node names (again a) (with_expansion s) e) v c
        (node_in P names (again a) (with_expansion s) e (expansion_too P names s m d (s.expansions + 1) e (its_place P d g) x))
    verdict_in names _ _ (expansion_stops a s m d r x) g = its_place P d g
    verdict_in names _ _ (made o i s xs m w e) g = made_in m w (verdicts_in names o i s xs w e g)

    verdicts_in : (names : List (List ℕ)) (o i : StaticContext) (s : Tables) (xs : List Part) (w : Verdicts) → ElaboratesAll names o i s xs w → AllOf (PlacesOfPart P) xs →
        PlaceOfVerdicts w
    verdicts_in names _ _ _ _ _ (ends o i s) g = tt
    verdicts_in names _ _ _ _ _ (goes o i s x xs m w e rest) g =
        in_front_in (recorded s x m.form) w (verdicts_in names o (behind i s x) m.tables xs w rest g.1)
    verdicts_in names _ _ _ _ _ (stops o i s x xs e end) g =
        verdict_in names (subject names o i s x) (ended e) end (subject_in names o i s x g.0)

  -- what holds of all places of a form holds of that of its offence
  pub offence_too : (names : List (List ℕ)) (a : StaticContext) (s : Tables) (d : Item) (p : Place) (r : Reason) → AllPlaces P d →
      Elaborates names (node names a s d) (ended (refused p r)) → P p
  offence_too names a s d p r g e = verdict_in names (node names a s d) (ended (refused p r)) e (node_in P names a s d g)

pub offence_in_form : (names : List (List ℕ)) (a : StaticContext) (s : Tables) (d : Item) (p : Place) (r : Reason) →
    Elaborates names (node names a s d) (ended (refused p r)) → IsPlaceIn p d
offence_in_form names a s d p r e =
    let P : Place → Type 0 = λ q. IsPlaceIn q d in offence_too P names a s d p r (each_then_all P d (λ q h. h)) e
