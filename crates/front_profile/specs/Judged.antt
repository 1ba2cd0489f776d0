-- What a node comes to: the core form that it stands for, or the first offence in preorder (ISO/IEC 13816:2007, 12 and 16). Whatever
-- is numbered has its number from the tables when it is met, so all numbers are those of the preorder, those of expansions too.
use Rattle.std.specs.Prelude.{ℕ, ◌+◌, List, [], ◌∷◌, ◌++◌, length, None}
use Rattle.base.specs.declared.place.Place.{Place}
use Rattle.base.specs.declared.reason.Reason.{Reason}
use Rattle.base.specs.Data.{Item, place_of}
use Rattle.lang_derived.specs.Derived.{Derives, new_symbols}
use Rattle.front_profile.specs.declared.spot.Spot.{Spot}
use Rattle.front_profile.specs.declared.tables.Tables.{Tables}
use Rattle.front_profile.specs.declared.elaboration.ElaboratedPart.{ElaboratedPart}
use Rattle.front_profile.specs.declared.elaboration.Made.{Made}
use Rattle.front_profile.specs.declared.elaboration.Leaf.TheVariants.{Nothing}
use Rattle.front_profile.specs.declared.elaboration.Elaboration.TheVariants.{Ready}
use Rattle.front_profile.specs.Nodes.{StaticContext, Part, form, below, inner, bind, parameter, wrong, function, Node, offends, steps, calls, whole, EarlyEnd, refused, Standing, Verdict, stands, ended, behind, recorded}
use Rattle.front_profile.specs.Elaborations.{made_form, finished}
use Rattle.front_profile.specs.RowWords.{deeper}
use Rattle.front_profile.specs.FunctionNodes.{function_node}
use Rattle.front_profile.specs.Expansions.{Expands, ExpansionStops}
use Rattle.front_profile.specs.Rows.{node}

abbrev pub with_fresh : ℕ → Tables → Tables
with_fresh n s = record s { fresh = s.fresh ++ new_symbols (length s.fresh) n }

-- an expansion takes the next number, and what it gives as a whole is one more in a row

abbrev pub with_expansion : Tables → Tables
with_expansion s = record s { expansions = s.expansions + 1 }

abbrev pub again_spot : Spot → Spot
again_spot spot = record spot { in_row = spot.in_row + 1 }

abbrev pub again : StaticContext → StaticContext
again a = record a { spot = again_spot a.spot }

-- a variable takes the next number
abbrev pub with_variable : Tables → Tables
with_variable s = record s { variables = s.variables + 1 }

-- the node of a part: that of its form, where it stands; a parameter stands for itself
abbrev pub subject : List (List ℕ) → StaticContext → StaticContext → Tables → Part → Node
subject names o i s (form d) = node names o s d
subject names o i s (below d) = node names (deeper 1 o) s d
subject names o i s (inner d) = node names i s d
subject names o i s (bind x d) = node names o (with_variable s) d
subject names o i s (parameter x) = whole o i (with_variable s) [] (record { site = None; making = Ready Nothing })
subject names o i s (wrong p r) = offends p r
subject names o i s (function w) = function_node o s w

-- what all parts came to
pub record AllFound : Type 0 where
  pub found : List ElaboratedPart
  pub tables : Tables

pub data Verdicts : Type 0 where
  all_stand : AllFound → Verdicts
  one_ended : EarlyEnd → Verdicts

-- one part more in front
abbrev pub in_front : ElaboratedPart → Verdicts → Verdicts
in_front r (all_stand more) = all_stand (record { found = r ∷ more.found; tables = more.tables })
in_front r (one_ended e) = one_ended e

-- a form is made of what was found of its parts
abbrev pub made_verdict : Made → Verdicts → Verdict
made_verdict m (all_stand all) =
    stands (record { form = made_form m all.found; tables = finished m all.found all.tables })
made_verdict m (one_ended e) = ended e

mutual
  pub data Elaborates (names : List (List ℕ)) : Node → Verdict → Type 0 where
    offence : (p : Place) (r : Reason) → Elaborates names (offends p r) (ended (refused p r))
    -- a derived form stands for what its step stands for
    step : (a : StaticContext) (s : Tables) (d d2 : Item) (n : ℕ) (v : Verdict) →
        Derives names d (length s.fresh) d2 (length s.fresh + n) →
        Elaborates names (node names a (with_fresh n s) d2) v →
        Elaborates names (steps a s d) v
    -- a call of a macro stands for what it expands to; the expansions of a file are numbered from 1
    expanded : (a : StaticContext) (s : Tables) (macro : ℕ) (d e : Item) (v : Verdict) →
        Expands names s macro d (s.expansions + 1) e →
        Elaborates names (node names (again a) (with_expansion s) e) v →
        Elaborates names (calls a s macro d) v
    expansion_stops : (a : StaticContext) (s : Tables) (macro : ℕ) (d : Item) (r : Reason) →
        ExpansionStops names s macro d (s.expansions + 1) r →
        Elaborates names (calls a s macro d) (ended (refused (place_of d) r))
    made : (o i : StaticContext) (s : Tables) (xs : List Part) (m : Made) (w : Verdicts) →
        ElaboratesAll names o i s xs w →
        Elaborates names (whole o i s xs m) (made_verdict m w)

  pub data ElaboratesAll (names : List (List ℕ)) : StaticContext → StaticContext → Tables → List Part → Verdicts → Type 0 where
    ends : (o i : StaticContext) (s : Tables) → ElaboratesAll names o i s [] (all_stand (record { found = []; tables = s }))
    goes : (o i : StaticContext) (s : Tables) (x : Part) (xs : List Part) (m : Standing) (w : Verdicts) →
        Elaborates names (subject names o i s x) (stands m) →
        ElaboratesAll names o (behind i s x) m.tables xs w →
        ElaboratesAll names o i s (x ∷ xs) (in_front (recorded s x m.form) w)
    stops : (o i : StaticContext) (s : Tables) (x : Part) (xs : List Part) (e : EarlyEnd) →
        Elaborates names (subject names o i s x) (ended e) →
        ElaboratesAll names o i s (x ∷ xs) (one_ended e)
