-- What a node has to say so that what it comes to is right: its parts are good and stand at good places, and what is made of
-- right forms is right.
-- right forms is right.
use Rattle.std.proofs.Common.{◌≡◌, ◌+◌, ◌≤◌, ℕ, Bool, true, false, List, [], ◌∷◌, length, arith}
use Rattle.base.specs.Data.{Item}
use Rattle.base.specs.DataFormed.{is_formed}
use Rattle.base.specs.AllOf.{AllOf}
use Rattle.base.specs.WellFormedData.{WellFormed}
use Rattle.lang_meaning.specs.Form.{Form}
use Rattle.lang_meaning.specs.Counts.{all_nodes}
use Rattle.lang_meaning.specs.Standing.{with_bound}
use Rattle.front_profile.specs.declared.spot.Spot.{Spot}
use Rattle.front_profile.specs.declared.tables.Tables.{Tables}
use Rattle.front_profile.specs.declared.elaboration.ElaboratedPart.{ElaboratedPart}
use Rattle.front_profile.specs.declared.elaboration.Made.{Made}
use Rattle.front_profile.specs.Nodes.{StaticContext, Part, form, below, inner, bind, parameter, wrong, function, Written, initform, accessor, method, Node, offends, unnamed, steps, calls, whole}
use Rattle.front_profile.specs.Elaborations.{made_form, finished}
use Rattle.front_profile.specs.Definitions.{Definitions, defined, Later, Undefined, SoundDefinitions, EachStands}
use Rattle.front_profile.specs.Numbers.{Numbered}
use Rattle.front_profile.specs.Places.{scope_of, EmptyContext, WellFormedContext}
use Rattle.front_profile.specs.Right.{RightAt, Behind, NodesCounted}
use Rattle.front_profile.proofs.Definitions.{Entered}
use Rattle.front_profile.proofs.Procedures.{MadeFrom, Same, OneProcedureMore, IsOrdinary, AllOrdinary, AllLow, all_low}
use Rattle.front_profile.proofs.Nodes.{nodes_of, found_nodes}
use Rattle.front_profile.proofs.Numbers.{AllNumbered}
use Rattle.front_profile.proofs.Matches.{new_variables, Spots, AllMatch}

-- where the parts of a form were found
abbrev pub spots : Definitions → StaticContext → StaticContext → List ElaboratedPart → Spots
spots g o i rs = record {
  defined = g;
  outside = scope_of o;
  depth = o.spot.depth;
  inside = with_bound (new_variables rs) (scope_of i);
  inner_depth = i.spot.depth;
}

-- what all parts came to
pub record AllCame (o i : StaticContext) (g : Definitions) (xs : List Part) (rs : List ElaboratedPart) (h : Definitions) : Type 0 where
  pub whole : SoundDefinitions h
  pub later : Later g h
  pub main : h.main ≡ g.main
  pub same : AllLow o.spot.top i.spot.top xs → Same g h
  pub made : AllLow o.spot.top i.spot.top xs → MadeFrom (length g.procedures) xs h.procedures
  pub undefined : AllOrdinary xs → AllLow o.spot.top i.spot.top xs → Undefined g h
  pub stand : AllOrdinary xs → EachStands g → EachStands h
  pub newer : AllOf (λ v. g.variables ≤ v) (new_variables rs)
  pub match : AllMatch (spots h o i rs) xs rs

-- what functions of definitions are of
abbrev pub AptFunction : ℕ → Written → Type 0
AptFunction n (initform d) = WellFormed n d
AptFunction n (accessor m k d) = is_formed d ≡ true
AptFunction n (method m has_next ps fs) = AllOf (WellFormed n) fs

-- data are good, variables are bound below top level, and functions of definitions stand at top level
abbrev pub AptPart : ℕ → StaticContext → Part → Type 0
AptPart n i (form d) = WellFormed n d
AptPart n i (below d) = WellFormed n d
AptPart n i (inner d) = WellFormed n d
AptPart n i (bind x d) = WellFormed n d × (i.spot.top ≡ false)
AptPart n i (parameter x) = i.spot.top ≡ false
AptPart n i (wrong p r) = Unit {0}
AptPart n i (function w) = AptFunction n w × (i.spot.top ≡ true)

abbrev pub AllApt : ℕ → StaticContext → List Part → Type 0
AllApt n i [] = Unit {0}
AllApt n i (x ∷ xs) = AptPart n i x × AllApt n i xs

part_ordinary : (n : ℕ) (i : StaticContext) (x : Part) → i.spot.top ≡ false → AptPart n i x → IsOrdinary x
part_ordinary n i (function w) e a = absurd (cc (e, a.1))
part_ordinary n i other e a = tt

-- below top level all parts are ordinary
pub all_ordinary : (n : ℕ) (i : StaticContext) (xs : List Part) → i.spot.top ≡ false → AllApt n i xs → AllOrdinary xs
all_ordinary n i [] e a = tt
all_ordinary n i (x ∷ xs) e a = (part_ordinary n i x e a.0, all_ordinary n i xs e a.1)

-- nodes that are counted where the whole stands: those of a function of a definition are counted by its procedure

abbrev pub part_nodes : Part → ElaboratedPart → ℕ
part_nodes (function w) r = 0
part_nodes other r = nodes_of r

abbrev pub counted_nodes : List Part → List ElaboratedPart → ℕ
counted_nodes [] rs = 0
counted_nodes (x ∷ xs) [] = 0
counted_nodes (x ∷ xs) (r ∷ rs) = part_nodes x r + counted_nodes xs rs

part_at_most : (x : Part) (r : ElaboratedPart) → part_nodes x r ≤ nodes_of r
part_at_most (form d) r = omega arith
part_at_most other r = omega arith

pub counted_at_most : (xs : List Part) (rs : List ElaboratedPart) → counted_nodes xs rs ≤ found_nodes rs
counted_at_most [] rs = omega arith
counted_at_most (x ∷ xs) [] = omega arith
counted_at_most (x ∷ xs) (r ∷ rs) = both_at_most _ _ _ _ (part_at_most x r) (counted_at_most xs rs)
  where
    both_at_most : (a b c d : ℕ) → a ≤ b → c ≤ d → a + c ≤ b + d
    both_at_most a b c d h k = omega (arith, h, k)

-- what a node has to come to: nothing, or what never stands, or a form that is right at a place, or the procedure of a function
pub data Want : Type 0 where
  nothing : Want
  never : Want
  right_at : StaticContext → Want
  one_procedure : Written → Want

abbrev pub Wanted : Want → Definitions → Form → Type 0
Wanted nothing h f = Unit {0}
Wanted never h f = ⊥
Wanted (right_at a) h f = RightAt h a f
Wanted (one_procedure w) h f = Unit {0}

abbrev pub wanted_nodes : Want → Form → ℕ
wanted_nodes nothing f = 0
wanted_nodes never f = 0
wanted_nodes (right_at a) f = all_nodes f
wanted_nodes (one_procedure w) f = 0

-- what it leaves
abbrev pub LeavesAs : Want → Bool → Definitions → Definitions → Type 0
LeavesAs nothing top g h = Behind top g h
LeavesAs never top g h = Behind top g h
LeavesAs (right_at a) top g h = Behind top g h
LeavesAs (one_procedure w) top g h = OneProcedureMore w g h

-- a node, where what it comes to has to be so, and what it began with
pub record AptSteps (Q : Want) (spot : Spot) (n : ℕ) (g : Definitions) (a : StaticContext) (s : Tables) (d : Item) : Type 0 where
  pub entered : Entered g (defined s)
  pub good : WellFormedContext (defined s) a
  pub datum : WellFormed n d
  pub wanted : right_at a ≡ Q
  pub same_spot : a.spot ≡ spot
  pub start : NodesCounted spot.sited g (defined s) 0

pub record AptWhole (Q : Want) (spot : Spot) (n : ℕ) (g : Definitions) (o i : StaticContext) (s : Tables) (xs : List Part) (m : Made) : Type 0 where
  pub entered : Entered g (defined s)
  pub outside : WellFormedContext (defined s) o
  pub inside : WellFormedContext (defined s) i
  pub level : i.spot.top ≡ true → EmptyContext o
  pub sited : (o.spot.sited ≡ spot.sited) × (i.spot.sited ≡ spot.sited)
  pub parts : AllApt n i xs
  pub right : (t : Tables) (rs : List ElaboratedPart) → AllCame o i (defined s) xs rs (defined t) → Wanted Q (defined (finished m rs t)) (made_form m rs)
  pub leaves : (t : Tables) (rs : List ElaboratedPart) → AllCame o i (defined s) xs rs (defined t) → LeavesAs Q spot.top (defined s) (defined (finished m rs t))
  pub counted : (t : Tables) (rs : List ElaboratedPart) → AllCame o i (defined s) xs rs (defined t) → NodesCounted spot.sited (defined s) (defined t) (counted_nodes xs rs)
      → NodesCounted spot.sited g (defined (finished m rs t)) (wanted_nodes Q (made_form m rs))
  pub numbered : (t : Tables) (rs : List ElaboratedPart) → AllCame o i (defined s) xs rs (defined t) → AllNumbered (defined s) (defined t) rs
      → Numbered g (defined (finished m rs t)) (made_form m rs)

abbrev pub Apt : Want → Spot → ℕ → Definitions → Node → Type 0
Apt Q spot n g (offends p r) = Unit {0}
Apt Q spot n g unnamed = Unit {0}
Apt Q spot n g (steps a s d) = AptSteps Q spot n g a s d
Apt Q spot n g (calls a s m d) = AptSteps Q spot n g a s d
Apt Q spot n g (whole o i s xs m) = AptWhole Q spot n g o i s xs m

-- ordinary parts leave no definition below top level, and all procedures stand
pub came_leaves : (top : Bool) (o i : StaticContext) (g : Definitions) (xs : List Part) (rs : List ElaboratedPart) (h : Definitions) → (top ≡ false → (o.spot.top ≡ false) × (i.spot.top ≡ false))
    → AllOrdinary xs → AllCame o i g xs rs h → Behind top g h
came_leaves top o i g xs rs h low plain c = record {
  later = c.later;
  sound = c.whole;
  main = c.main;
  inside = λ e. let l : (o.spot.top ≡ false) × (i.spot.top ≡ false) = low e in c.undefined plain (all_low o.spot.top i.spot.top xs l.0 l.1);
  stand = c.stand plain;
}

-- the node of a datum at a place, beside these tables
abbrev pub AptAt : ℕ → StaticContext → Tables → Node → Type 0
AptAt n a s x = Apt (right_at a) a.spot n (defined s) x

-- a good place beside whole tables
pub record Stage (a : StaticContext) (s : Tables) : Type 0 where
  pub good : WellFormedContext (defined s) a
  pub whole : SoundDefinitions (defined s)
