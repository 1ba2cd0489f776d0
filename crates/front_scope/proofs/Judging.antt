-- From what a function of the walk promises to what the function around it does.
use Rattle.std.proofs.Common.{◌≡◌, ℕ, ◌<◌, Bool, false, List, [], ◌∷◌, ◌++◌, length, Result, Ok, Err, IfErr, IfOk, OnOk, ap, subst, sym, ◌∙◌, ⊎_elim, arith}
use Rattle.base.specs.Names.{Extends, Extends-then}
use Rattle.base.specs.Data.{Item}
use Rattle.base.specs.AllOf.{AllOf}
use Rattle.base.specs.WellFormedData.{WellFormed}
use Rattle.base.specs.declared.datum.Symbol.{Symbol}
use Rattle.base.specs.declared.place.Place.{Place}
use Rattle.base.specs.declared.reason.Reason.{Reason}
use Rattle.base.specs.declared.reason.Stop.{Stop}
use Rattle.base.specs.declared.reason.Stop.TheVariants.{Refused, NoMemory}
use Rattle.front_profile.specs.declared.bound.Bound.{Bound}
use Rattle.front_profile.specs.declared.elaboration.ElaboratedPart.{ElaboratedPart}
use Rattle.front_profile.specs.declared.elaboration.Made.{Made}
use Rattle.front_profile.specs.declared.spot.Spot.{Spot}
use Rattle.front_profile.specs.declared.tables.Tables.{Tables}
use Rattle.front_profile.specs.FunctionNodes.{function_node}
use Rattle.front_profile.specs.Nodes.{StaticContext, Part, Written, initform, accessor, method, Node, offends, unnamed, whole, Verdict, ended, refused}
use Rattle.front_profile.specs.Judged.{with_variable, Elaborates, offence}
use Rattle.front_profile.specs.Promises.{FormComes, FormStops, PlainComes, PlainStops}
use Rattle.front_profile.specs.Rows.{plain_node}
use Rattle.front_profile.specs.RowWords.{alone, each_inner, each_parameter}
use Rattle.front_profile.specs.Shapes.{all_symbols}
use Rattle.front_profile.specs.Sound.{weight, SoundFunction, SoundNode, AllSound}
use Rattle.front_profile.specs.Suits.{Suits}
use Rattle.front_profile.specs.Walks.{Through, WholeComes, WholeStops}
use Rattle.front_profile.specs.bridge.Later.{plain_later}
use Rattle.front_profile.specs.bridge.SoundRows.{sound_node}
use Rattle.front_profile.specs.Known.{KnownTables, MakesSuited, SuitsNode}
use Rattle.front_forms.specs.Settled.{with_symbols}
use Rattle.front_drafts.specs.Views.{at}
use Rattle.front_scope.specs.Calls.{Settled}
use Rattle.front_scope.specs.Walk.{AllFound, NodeComes, NodeStops}

-- what holds of the error or of the value, with what follows from it

pub err_map : {T E : Type 0} (r : Result T E) (P Q : E → Type 0) → ((e : E) → P e → Q e) → IfErr r P → IfErr r Q
err_map (Ok x) P Q f h = tt
err_map (Err e) P Q f h = f e h

pub ok_map : {T E : Type 0} (r : Result T E) (P Q : T → Type 0) → ((x : T) → P x → Q x) → IfOk r P → IfOk r Q
ok_map (Ok x) P Q f h = f x h
ok_map (Err e) P Q f h = tt

-- a stop of what the form leads to is that of the form
pub settled_stops : (names more : List (List ℕ)) (a : StaticContext) (s : Tables) (d : Item) (b : StaticContext) (t : Tables) (e : Item) (stop : Stop) →
    Extends names more → Settled names a s d b t e → PlainStops more b t e stop → FormStops more a s d stop
settled_stops names more a s d b t e (Refused r) x h p = record {
  under = λ later y. h.leads.under later (Extends-then names more later x y) _ (p.under later y);
}
settled_stops names more a s d b t e NoMemory x h p = tt

-- what that comes to, the form does
pub settled_comes : (names more : List (List ℕ)) (a : StaticContext) (s : Tables) (d : Item) (b : StaticContext) (t : Tables) (e : Item) (v : Verdict) →
    Extends names more → Settled names a s d b t e → PlainComes more b t e v → FormComes more a s d v
settled_comes names more a s d b t e v x h p = record {
  under = λ later y. h.leads.under later (Extends-then names more later x y) v (p.under later y);
}

-- a form is its row, also under a later table of names, where that asks for no name that is missing

row_comes : (names more : List (List ℕ)) (a : StaticContext) (s : Tables) (d : Item) (x : Node) (v : Verdict) → WellFormed (length names) d →
    x ≡ plain_node names a s d → (x ≡ unnamed → ⊥) → Extends names more → ((later : List (List ℕ)) → Extends more later → Elaborates later x v) → PlainComes more a s d v
row_comes names more a s d x v g same there e h = record {
  under = λ later y.
      ⊎_elim
      (λ missing. absurd (there (same ∙ missing)))
      (λ stays. subst (λ (n : Node). Elaborates later n v) (same ∙ stays) (h later y))
      (plain_later names later a s d (Extends-then names more later e y) g);
}

pub whole_comes : (names more : List (List ℕ)) (a : StaticContext) (s : Tables) (d : Item) (o i : StaticContext) (t : Tables) (xs : List Part) (m : Made) (v : Verdict) →
    WellFormed (length names) d → whole o i t xs m ≡ plain_node names a s d → Extends names more → WholeComes more o i t xs m v → PlainComes more a s d v
whole_comes names more a s d o i t xs m v g same e h =
    row_comes names more a s d (whole o i t xs m) v g same (λ missing. absurd (cc missing)) e (λ later y. h.under later y)

pub whole_stop : (names more : List (List ℕ)) (a : StaticContext) (s : Tables) (d : Item) (o i : StaticContext) (t : Tables) (xs : List Part) (m : Made) (stop : Stop) →
    WellFormed (length names) d → whole o i t xs m ≡ plain_node names a s d → Extends names more → WholeStops more o i t xs m stop → PlainStops more a s d stop
whole_stop names more a s d o i t xs m (Refused r) g same e h = whole_comes names more a s d o i t xs m _ g same e h
whole_stop names more a s d o i t xs m NoMemory g same e h = tt

pub offends_there : (names : List (List ℕ)) (a : StaticContext) (s : Tables) (d : Item) (p : Place) (r : Reason) → WellFormed (length names) d →
    offends p r ≡ plain_node names a s d → Extends names names → PlainComes names a s d (ended (refused p r))
offends_there names a s d p r g same e =
    row_comes names names a s d (offends p r) _ g same (λ missing. absurd (cc missing)) e (λ later y. offence p r)

-- its parts are sound
pub row_sound : (names : List (List ℕ)) (a : StaticContext) (s : Tables) (d : Item) (o i : StaticContext) (t : Tables) (xs : List Part) (m : Made) →
    WellFormed (length names) d → whole o i t xs m ≡ plain_node names a s d → AllSound (length names) (weight a.spot) o i xs
row_sound names a s d o i t xs m g same =
    subst (λ (n : Node). SoundNode (length names) (weight a.spot) n) (sym same) (sound_node names (length names) a s d g)

-- what is made of them suits the tables
pub row_suited : (x : Node) (o i : StaticContext) (t : Tables) (xs : List Part) (m : Made) → whole o i t xs m ≡ x → SuitsNode x → MakesSuited o i t xs m
row_suited x o i t xs m same h = subst (λ (n : Node). SuitsNode n) (sym same) h

-- the law of what was found of parts one after another
abbrev pub SuitsWalks : Type 0
SuitsWalks =
    (names : List (List ℕ)) (o i : StaticContext) (s : Tables) (xs : List Part) (m : Made) (rs : List ElaboratedPart) (i2 : StaticContext) (t : Tables) →
    MakesSuited o i s xs m → Through names o i s xs rs i2 t [] → Suits m.making t

pub found_suits : {T : Type 0} (law : SuitsWalks) (w : Result T Stop) (names : List (List ℕ)) (o i : StaticContext) (s t : Tables) (xs : List Part) (m : Made) (rs : List ElaboratedPart) →
    MakesSuited o i s xs m → IfOk w (λ _. AllFound names o i s xs rs t) → OnOk w (Suits m.making t)
found_suits law (Ok x) names o i s t xs m rs suited h = law names o i s xs m rs h.behind t suited h.through
found_suits law (Err e) names o i s t xs m rs suited h = tt

-- the steps of a form leave tables known
pub symbols_known : (s t : Tables) → t ≡ with_symbols t.fresh s → KnownTables s → KnownTables t
symbols_known s t same known =
    let classes : t.classes ≡ s.classes = ap (λ (u : Tables). u.classes) same in
    let functions : t.functions ≡ s.functions = ap (λ (u : Tables). u.functions) same in
    let generics : t.generics ≡ s.generics = ap (λ (u : Tables). u.generics) same in
    rw (classes, functions, generics) known

pub variable_known : (s t : Tables) → t ≡ with_variable s → KnownTables s → KnownTables t
variable_known s t same known = subst (λ (u : Tables). KnownTables u) (sym same) known

-- a function of a definition: its body is at most as deep as may be

pub function_weight : (n w : ℕ) (f : Written) → SoundFunction n w f → 1001 < w
function_weight n w (initform d) h = h.1
function_weight n w (accessor m k d) h = h
function_weight n w (method m has_next ps fs) h = h.1

alone_below : (in_method : Bool) (a : StaticContext) → weight (alone in_method a).spot < 1001
alone_below in_method a = omega arith

inner_forms_sound : (n : ℕ) (in_method : Bool) (a : StaticContext) (fs : List Item) → AllOf (WellFormed n) fs →
    AllSound n 1001 (alone in_method a) (alone in_method a) (each_inner fs)
inner_forms_sound n in_method a [] h = tt
inner_forms_sound n in_method a (f ∷ fs) h = ((h.0, alone_below in_method a), inner_forms_sound n in_method a fs h.1)

behind_parameters : (n w : ℕ) (o i : StaticContext) (xs : List Symbol) (ys : List Part) → AllSound n w o i ys → AllSound n w o i (each_parameter xs ++ ys)
behind_parameters n w o i [] ys h = h
behind_parameters n w o i (x ∷ xs) ys h = (tt, behind_parameters n w o i xs ys h)

function_sound : (n w : ℕ) (a : StaticContext) (s : Tables) (f : Written) → SoundFunction n w f → SoundNode n 1001 (function_node a s f)
function_sound n w a s (initform d) h = ((h.0, alone_below false a), tt)
function_sound n w a s (accessor m k d) h = tt
function_sound n w a s (method m has_next ps fs) h =
    behind_parameters n 1001 (alone has_next a) (alone has_next a) (all_symbols ps) (each_inner fs) (inner_forms_sound n has_next a fs h.0)

pub work_sound : (n w : ℕ) (a : StaticContext) (s : Tables) (f : Written) (o i : StaticContext) (t : Tables) (xs : List Part) (m : Made) → SoundFunction n w f →
    whole o i t xs m ≡ function_node a s f → AllSound n 1001 o i xs
work_sound n w a s f o i t xs m h same = subst (λ (x : Node). SoundNode n 1001 x) (sym same) (function_sound n w a s f h)

pub work_comes : (names : List (List ℕ)) (x : Node) (o i : StaticContext) (t : Tables) (xs : List Part) (m : Made) (v : Verdict) →
    whole o i t xs m ≡ x → WholeComes names o i t xs m v → NodeComes names x v
work_comes names x o i t xs m v same h = record { under = λ later y. subst (λ (n : Node). Elaborates later n v) same (h.under later y) }

pub work_stops : (names : List (List ℕ)) (x : Node) (o i : StaticContext) (t : Tables) (xs : List Part) (m : Made) (stop : Stop) →
    whole o i t xs m ≡ x → WholeStops names o i t xs m stop → NodeStops names x stop
work_stops names x o i t xs m (Refused r) same h = work_comes names x o i t xs m _ same h
work_stops names x o i t xs m NoMemory same h = tt

-- what is bound for the forms inside
pub bound_there : (names : List (List ℕ)) (o i : StaticContext) (s : Tables) (xs : List Part) (rs : List ElaboratedPart) (bs cs before now : List Bound) (spot : Spot) (t : Tables) (ys : List Part) →
    before ≡ bs → now ≡ before ++ cs → Through names o i s xs rs (at (bs ++ cs) spot) t ys → Through names o i s xs rs (at now spot) t ys
bound_there names o i s xs rs bs cs before now spot t ys p q h =
    subst (λ (b : List Bound). Through names o i s xs rs (at b spot) t ys) (sym (q ∙ ap (λ b. b ++ cs) p)) h
