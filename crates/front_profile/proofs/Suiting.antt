-- What nodes make suits the tables behind their parts, and the tables behind a form are known.
use Rattle.std.proofs.Common.{◌+◌, ⊎_elim, inl, ℕ, Bool, true, false, List, [], ◌∷◌, None, subst, arith}
use Rattle.base.specs.Data.{Item}
use Rattle.base.specs.Names.{Extends-same}
use Rattle.lang_classes.specs.Keeping.{KeepsNames}
use Rattle.front_profile.specs.declared.tables.Tables.{Tables}
use Rattle.front_profile.specs.declared.elaboration.ElaboratedPart.{ElaboratedPart}
use Rattle.front_profile.specs.declared.elaboration.Made.{Made}
use Rattle.front_profile.specs.declared.elaboration.One.{One}
use Rattle.front_profile.specs.declared.elaboration.One.TheVariants.{SetVariable}
use Rattle.front_profile.specs.declared.elaboration.Elaboration.{Elaboration}
use Rattle.front_profile.specs.declared.elaboration.DefinedAs.TheVariants.{Function, Macro}
use Rattle.front_profile.specs.declared.elaboration.Leaf.TheVariants.{Nothing}
use Rattle.front_profile.specs.declared.elaboration.Elaboration.TheVariants.{Ready, OfOne, OfFunctionNamed, OfMethods, OfClass}
use Rattle.front_profile.specs.Nodes.{StaticContext, Part, form, below, inner, bind, parameter, wrong, function, Written, initform, accessor, method, Node, offends, unnamed, steps, calls, whole, Standing, Verdict, stands as comes_to, ended, behind, recorded}
use Rattle.front_profile.specs.RowWords.{deeper}
use Rattle.front_profile.specs.FunctionNodes.{variables_of, with_accessor, function_node}
use Rattle.front_profile.specs.Elaborations.{finish, finish_one}
use Rattle.front_profile.specs.Rows.{node, plain_node}
use Rattle.front_profile.specs.Judged.{with_fresh, with_expansion, again, with_variable, subject, Verdicts, all_stand, one_ended, in_front, made_verdict, Elaborates, offence, step, expanded, expansion_stops, made, ElaboratesAll, ends, goes, stops}
use Rattle.front_profile.specs.Walks.{PartTaken, Through}
use Rattle.front_profile.specs.Suits.{Suits}
use Rattle.front_profile.specs.bridge.Turns.{front_all}
use Rattle.front_profile.specs.Below.{SameNames, OneProcedure}
use Rattle.front_profile.specs.Known.{KnownTables, MakesSuited, SuitsNode}
use Rattle.front_profile.proofs.MethodViews.{IsRight, AllRight}
use Rattle.front_profile.proofs.Joining.{IsFunctionPart, AllFunctions}
use Rattle.front_profile.proofs.Known.{known_same, known_function}
use Rattle.front_profile.proofs.Starting.{grows_numbers, names_same, names_then, none_defined, none_then, none_literal, none_numbers, IsSimple, JoinsSuited, Starts}
use Rattle.front_profile.proofs.StartingDefinitions.{begins_function_node}
use Rattle.front_profile.proofs.Growing.{starts_plain_node, starts_node}
use Rattle.front_profile.proofs.Below.{function_leaves_one}

-- functions of definitions that all stand: none is wrong, and they leave names as they are

abbrev IsOffence : Node → Type 0
IsOffence (offends p r) = Unit {0}
IsOffence unnamed = ⊥
IsOffence (steps a t d) = ⊥
IsOffence (calls a t m d) = ⊥
IsOffence (whole o i t xs m) = ⊥

abbrev Ends : Verdict → Type 0
Ends (comes_to m) = ⊥
Ends (ended e) = Unit {0}

-- an offence does not stand
offence_ends : (names : List (List ℕ)) (x : Node) (v : Verdict) → Elaborates names x v → IsOffence x → Ends v
offence_ends names x v (offence p r) h = tt
offence_ends names x v (step a s d d2 n v2 k c) h = absurd h
offence_ends names x v (expanded a s macro d e v2 k c) h = absurd h
offence_ends names x v (expansion_stops a s macro d r k) h = absurd h
offence_ends names x v (made o i s xs m w g) h = absurd h

-- one function that stands
function_stands : (names : List (List ℕ)) (o i : StaticContext) (s : Tables) (x : Part) (m : Standing) → Elaborates names (subject names o i s x) (comes_to m) → IsFunctionPart x
    → IsRight x × SameNames s m.tables
function_stands names o i s (wrong p r) m c f = absurd (offence_ends names (offends p r) (comes_to m) c tt)
function_stands names o i s (function w) m c f = let one : OneProcedure s m.tables = function_leaves_one names o s w m c in (tt, one.names)
function_stands names o i s other m c f = absurd f

abbrev FunctionsStand : Tables → List Part → Verdicts → Type 0
FunctionsStand s xs (all_stand r) = AllRight xs × SameNames s r.tables
FunctionsStand s xs (one_ended e) = Unit {0}

-- with those behind it
one_more : (s : Tables) (x : Part) (xs : List Part) (m : Standing) (w : Verdicts) → IsRight x × SameNames s m.tables → FunctionsStand m.tables xs w
    → FunctionsStand s (x ∷ xs) (in_front (recorded s x m.form) w)
one_more s x xs m (all_stand r) h k = ((h.0, k.0), names_then s m.tables r.tables h.1 k.1)
one_more s x xs m (one_ended e) h k = tt

-- all of them
functions_stand : (names : List (List ℕ)) (o i : StaticContext) (s : Tables) (xs : List Part) (w : Verdicts) → ElaboratesAll names o i s xs w → AllFunctions xs → FunctionsStand s xs w
functions_stand names o i s xs w (ends o2 i2 s2) f = (tt, names_same s2)
functions_stand names o i s xs w (goes o2 i2 s2 x ys m w2 c g) f =
    one_more s2 x ys m w2 (function_stands names o2 i2 s2 x m c f.0) (functions_stand names o2 (behind i2 s2 x) m.tables ys w2 g f.1)
functions_stand names o i s xs w (stops o2 i2 s2 x ys e c) f = tt

-- any other form suits all tables, and leaves what is known

simple_suits : (k : Elaboration) → IsSimple k → (u : Tables) → Suits k u
simple_suits (OfMethods t hs p of_file l) h u = absurd h
simple_suits (OfClass c p of_file l) h u = absurd h
simple_suits other h u = tt

one_known : (k : One) (u : Tables) → KnownTables u → KnownTables (finish_one k u)
one_known (SetVariable v) u w = w
one_known other u w = w

simple_known : (k : Elaboration) → IsSimple k → (rs : List ElaboratedPart) (u : Tables) → KnownTables u → KnownTables (finish k rs u)
simple_known (OfOne k) h rs u w = one_known k u w
simple_known (OfFunctionNamed Function name n rest of_file l) h rs u w = known_function u _ w
simple_known (OfFunctionNamed Macro name n rest of_file l) h rs u w = w
simple_known (OfMethods t hs p of_file l) h rs u w = absurd h
simple_known (OfClass c p of_file l) h rs u w = absurd h
simple_known other h rs u w = w

-- nodes

-- by how a node begins
suits_so : (s : Tables) (top : Bool) (x : Node) → Starts s top x → KeepsNames → KnownTables s → SuitsNode x
suits_so s top (offends p r) h keep w = tt
suits_so s top unnamed h keep w = tt
suits_so s top (steps a t d) h keep w = known_same s t h.names w
suits_so s top (calls a t m d) h keep w = known_same s t h.0.names w
suits_so s top (whole o i t xs m) h keep w = record {
  known = known_same s t h.names w;
  suits = λ names all g. ⊎_elim (λ e. simple_suits m.making e all.tables)
      (λ (j : JoinsSuited s t xs m.making).
      let f : AllRight xs × SameNames t all.tables = functions_stand names o i t xs (all_stand all) g j.functions in
      (j.suits keep w all.tables all.found f.1 f.0).0)
      h.suited;
}

-- that of a datum
pub node_suits : KeepsNames → (names : List (List ℕ)) (a : StaticContext) (s : Tables) (d : Item) → KnownTables s → SuitsNode (node names a s d)
node_suits keep names a s d w = suits_so s a.spot.top (node names a s d) (starts_node names s a d) keep w

-- that of a datum that is no derived form
pub plain_suits : KeepsNames → (names : List (List ℕ)) (a : StaticContext) (s : Tables) (d : Item) → KnownTables s → SuitsNode (plain_node names a s d)
plain_suits keep names a s d w = suits_so s a.spot.top (plain_node names a s d) (starts_plain_node names s a d) keep w

-- how the node of a function of a definition begins
pub starts_function_node : (s : Tables) (o : StaticContext) (w : Written) → Starts s true (function_node o s w)
starts_function_node s o (initform d) = record { grows = begins_function_node s o (initform d); names = names_same s; suited = inl tt; low = λ e. absurd (cc e) }
starts_function_node s o (accessor n k d) =
    let numbers : Tables = record s { variables = s.variables + variables_of k } in
    record {
      grows = begins_function_node s o (accessor n k d);
      names = (none_then s numbers (with_accessor k d s) (none_numbers s (s.variables + variables_of k) s.exits) (none_literal numbers _)).names;
      suited = inl tt;
      low = λ e. absurd (cc e);
    }
starts_function_node s o (method n has_next ps fs) = record {
  grows = begins_function_node s o (method n has_next ps fs);
  names = names_same s;
  suited = inl tt;
  low = λ e. absurd (cc e);
}

-- that of a function of a definition
pub function_suits : KeepsNames → (o : StaticContext) (s : Tables) (w : Written) → KnownTables s → SuitsNode (function_node o s w)
function_suits keep o s w k = suits_so s true (function_node o s w) (starts_function_node s o w) keep k

-- parts that all were met: what they come to
through_goes : (names : List (List ℕ)) (o i : StaticContext) (s : Tables) (xs : List Part) (rs : List ElaboratedPart) (i2 : StaticContext) (t : Tables) → Through names o i s xs rs i2 t []
    → ElaboratesAll names o i s xs (all_stand (record { found = rs; tables = t }))
through_goes names o i s xs rs i2 t g = subst (λ v. ElaboratesAll names o i s xs v) (front_all rs t) (g.under names (Extends-same names) _ (ends o i2 t))

-- what is made of them
pub through_suits : (names : List (List ℕ)) (o i : StaticContext) (t : Tables) (xs : List Part) (m : Made) (rs : List ElaboratedPart) (i2 : StaticContext) (u : Tables) → MakesSuited o i t xs m
    → Through names o i t xs rs i2 u [] → Suits m.making u
through_suits names o i t xs m rs i2 u h g =
    h.suits names (record { found = rs; tables = u }) (through_goes names o i t xs rs i2 u g)

-- the tables behind a form are known

abbrev KnownBehind : Verdict → Type 0
KnownBehind (comes_to m) = KnownTables m.tables
KnownBehind (ended e) = Unit {0}

abbrev AllKnown : Verdicts → Type 0
AllKnown (all_stand r) = KnownTables r.tables
AllKnown (one_ended e) = Unit {0}

-- a node that begins behind known tables
record Begun (x : Node) : Type 0 where
  tables : Tables
  top : Bool
  known : KnownTables tables
  starts : Starts tables top x

-- a form that is made of its parts
made_known : (keep : KeepsNames) (names : List (List ℕ)) (s : Tables) (top : Bool) (o i : StaticContext) (t : Tables) (xs : List Part) (m : Made) (w : Verdicts) → KnownTables s
    → Starts s top (whole o i t xs m) → ElaboratesAll names o i t xs w → AllKnown w → KnownBehind (made_verdict m w)
made_known keep names s top o i t xs m (all_stand r) k h g a =
    ⊎_elim (λ e. simple_known m.making e r.found r.tables a)
    (λ (j : JoinsSuited s t xs m.making).
    let f : AllRight xs × SameNames t r.tables = functions_stand names o i t xs (all_stand r) g j.functions in
    (j.suits keep k r.tables r.found f.1 f.0).1)
    h.suited
made_known keep names s top o i t xs m (one_ended e) k h g a = tt

-- a part more in front
more_known : (r : ElaboratedPart) (w : Verdicts) → AllKnown w → AllKnown (in_front r w)
more_known r (all_stand more) a = a
more_known r (one_ended e) a = tt

-- that of a parameter
pub starts_parameter : (s : Tables) (o i : StaticContext) → Starts s false (whole o i (with_variable s) [] (record { site = None; making = Ready Nothing }))
starts_parameter s o i = record {
  grows = grows_numbers s (s.variables + 1) s.exits (omega arith) (omega arith);
  names = (none_numbers s (s.variables + 1) s.exits).names;
  suited = inl tt;
  low = λ e. record { defined = none_numbers s (s.variables + 1) s.exits; parts = tt; ordinary = tt; makes = λ rs u. none_defined u };
}

-- the node of a part
part_begun : (names : List (List ℕ)) (o i : StaticContext) (s : Tables) (x : Part) → KnownTables s → Begun (subject names o i s x)
part_begun names o i s (form d) k = record { tables = s; top = o.spot.top; known = k; starts = starts_node names s o d }
part_begun names o i s (below d) k = record { tables = s; top = false; known = k; starts = starts_node names s (deeper 1 o) d }
part_begun names o i s (inner d) k = record { tables = s; top = i.spot.top; known = k; starts = starts_node names s i d }
part_begun names o i s (bind x d) k = record { tables = with_variable s; top = o.spot.top; known = k; starts = starts_node names (with_variable s) o d }
part_begun names o i s (parameter x) k = record { tables = s; top = false; known = k; starts = starts_parameter s o i }
part_begun names o i s (wrong p r) k = record { tables = s; top = false; known = k; starts = tt }
part_begun names o i s (function w) k = record { tables = s; top = true; known = k; starts = starts_function_node s o w }

module _ (keep : KeepsNames) where
  mutual
    node_known : (names : List (List ℕ)) (x : Node) (v : Verdict) → Elaborates names x v → Begun x → KnownBehind v
    node_known names x v (offence p r) b = tt
    node_known names x v (step a t d d2 n v2 h c) b =
        node_known names (node names a (with_fresh n t) d2) v2 c (record {
          tables = with_fresh n t;
          top = a.spot.top;
          known = known_same b.tables t b.starts.names b.known;
          starts = starts_node names (with_fresh n t) a d2;
        })
    node_known names x v (expanded a t macro d e v2 h c) b =
        node_known names (node names (again a) (with_expansion t) e) v2 c (record {
          tables = with_expansion t;
          top = a.spot.top;
          known = known_same b.tables t b.starts.0.names b.known;
          starts = starts_node names (with_expansion t) (again a) e;
        })
    node_known names x v (expansion_stops a t macro d r h) b = tt
    node_known names x v (made o i t xs m w g) b =
        made_known keep names b.tables b.top o i t xs m w b.known b.starts g (all_known names o i t xs w g (known_same b.tables t b.starts.names b.known))

    all_known : (names : List (List ℕ)) (o i : StaticContext) (s : Tables) (xs : List Part) (w : Verdicts) → ElaboratesAll names o i s xs w → KnownTables s → AllKnown w
    all_known names o i s xs w (ends o2 i2 s2) k = k
    all_known names o i s xs w (goes o2 i2 s2 x ys m w2 c g) k =
        more_known (recorded s2 x m.form) w2
        (all_known names o2 (behind i2 s2 x) m.tables ys w2 g (node_known names (subject names o2 i2 s2 x) (comes_to m) c (part_begun names o2 i2 s2 x k)))
    all_known names o i s xs w (stops o2 i2 s2 x ys e c) k = tt

  -- behind a datum
  pub form_known : (names : List (List ℕ)) (a : StaticContext) (s : Tables) (d : Item) (m : Standing) → KnownTables s → Elaborates names (node names a s d) (comes_to m)
      → KnownTables m.tables
  form_known names a s d m k c =
      node_known names (node names a s d) (comes_to m) c (record { tables = s; top = a.spot.top; known = k; starts = starts_node names s a d })

  -- behind a datum that is no derived form
  pub plain_known : (names : List (List ℕ)) (a : StaticContext) (s : Tables) (d : Item) (m : Standing) → KnownTables s → Elaborates names (plain_node names a s d) (comes_to m)
      → KnownTables m.tables
  plain_known names a s d m k c =
      node_known names (plain_node names a s d) (comes_to m) c (record { tables = s; top = a.spot.top; known = k; starts = starts_plain_node names s a d })

  -- behind a function of a definition
  pub function_known : (names : List (List ℕ)) (o : StaticContext) (s : Tables) (w : Written) (m : Standing) → KnownTables s → Elaborates names (function_node o s w) (comes_to m)
      → KnownTables m.tables
  function_known names o s w m k c =
      node_known names (function_node o s w) (comes_to m) c (record { tables = s; top = true; known = k; starts = starts_function_node s o w })

  -- behind a part
  pub part_known : (names : List (List ℕ)) (o i : StaticContext) (s : Tables) (x : Part) (rs : List ElaboratedPart) (i2 : StaticContext) (t : Tables) (rs2 : List ElaboratedPart) → KnownTables s
      → PartTaken names o i s x rs i2 t rs2 → KnownTables t
  part_known names o i s x rs i2 t rs2 k p =
      node_known names (subject names o i s x) _ (p.part.under names (Extends-same names)) (part_begun names o i s x k)

  -- behind parts that all were met
  pub through_known : (names : List (List ℕ)) (o i : StaticContext) (s : Tables) (xs : List Part) (rs : List ElaboratedPart) (i2 : StaticContext) (t : Tables) → KnownTables s
      → Through names o i s xs rs i2 t [] → KnownTables t
  through_known names o i s xs rs i2 t k g = all_known names o i s xs _ (through_goes names o i s xs rs i2 t g) k
