-- What the functions of the walk keep, with what they answer.
use Rattle.std.specs.Prelude.{◌≡◌, ◌⊎◌, None, List, [], ◌∷◌, ◌++◌, ℕ, Result, Ok, Err, OnOk, IfOk, IfErr, MatchResult}
use Rattle.base.specs.declared.datum.Symbol.{Symbol}
use Rattle.base.specs.declared.reason.Stop.{Stop}
use Rattle.base.specs.declared.reason.Stop.TheVariants.{Refused, NoMemory}
use Rattle.base.specs.Data.{Item}
use Rattle.base.specs.Names.{Extends}
use Rattle.lang_meaning.specs.Form.{Form}
use Rattle.front_profile.specs.declared.bound.Bound.{Bound}
use Rattle.front_profile.specs.declared.bound.Bound.TheVariants.{Variable}
use Rattle.front_profile.specs.declared.elaboration.ElaboratedPart.{ElaboratedPart}
use Rattle.front_profile.specs.declared.elaboration.ElaboratedPart.TheVariants.{Value, Binding, Parameter}
use Rattle.front_profile.specs.declared.elaboration.Made.{Made}
use Rattle.front_profile.specs.declared.elaboration.Elaboration.{Elaboration}
use Rattle.front_profile.specs.declared.spot.Spot.{Spot}
use Rattle.front_profile.specs.declared.tables.Tables.{Tables}
use Rattle.front_profile.specs.Elaborations.{made_form, finished}
use Rattle.front_profile.specs.Marks.{TablesGrow}
use Rattle.front_profile.specs.FunctionNodes.{function_node}
use Rattle.front_profile.specs.Nodes.{StaticContext, Part, Written, Node, whole, refused, Verdict, stands, ended}
use Rattle.front_profile.specs.Judged.{with_variable, Elaborates}
use Rattle.front_profile.specs.Promises.{FormComes, PlainComes}
use Rattle.front_profile.specs.Walks.{Through, PartsStop, WholeComes}
use Rattle.front_drafts.specs.declared.plan.Work.{Work}
use Rattle.front_drafts.specs.Views.{at, view_parts, view_inner}
use Rattle.front_elaboration.specs.Stopping.{LeavesTables}

-- names are only gained and tables only grow; on Ok what is bound is as before and the value is such a one, else the stop is
pub record Walked {T : Type 0} (old new : List (List ℕ)) (s t : Tables) (before after : List Bound) (result : Result T Stop) (Stands : T → Type 0) (Stops : Stop → Type 0) : Type 0 where
  pub names : Extends old new
  pub grows : TablesGrow s t
  pub bound : OnOk result (after ≡ before)
  pub stands : IfOk result Stands
  pub stops : IfErr result Stops

-- a form, with the tables behind it

abbrev pub FormGives : List (List ℕ) → StaticContext → Tables → Item → Tables → Form → Type 0
FormGives names a s d t f = FormComes names a s d (stands (record { form = f; tables = t }))

abbrev pub PlainGives : List (List ℕ) → StaticContext → Tables → Item → Tables → Form → Type 0
PlainGives names a s d t f = PlainComes names a s d (stands (record { form = f; tables = t }))

abbrev pub WholeGives : List (List ℕ) → StaticContext → StaticContext → Tables → List Part → Made → Tables → Form → Type 0
WholeGives names o i s xs m t f = WholeComes names o i s xs m (stands (record { form = f; tables = t }))

-- a node, under a table of names and every later one
pub record NodeComes (names : List (List ℕ)) (x : Node) (v : Verdict) : Type 0 where
  pub under : (later : List (List ℕ)) → Extends names later → Elaborates later x v

abbrev pub NodeGives : List (List ℕ) → Node → Tables → Form → Type 0
NodeGives names x t f = NodeComes names x (stands (record { form = f; tables = t }))

abbrev pub NodeStops : List (List ℕ) → Node → Stop → Type 0
NodeStops names x (Refused r) = NodeComes names x (ended (refused r.place r.reason))
NodeStops names x NoMemory = Unit {0}

-- the node that work is, where these things are bound, and with these tables
abbrev pub node_of : List Bound → Tables → Work → Node
node_of bound t w =
    whole (at bound w.outside) (at (bound ++ w.binds) w.inside) t (view_parts w.parts ++ view_inner w.inner) w.made

-- work that stands there, without a site, and binds nothing itself
pub record StandsAlone (spot : Spot) (xs : List Part) (m : Elaboration) (w : Work) : Type 0 where
  pub outside : w.outside ≡ spot
  pub inside : w.inside ≡ spot
  pub binds : w.binds ≡ []
  pub parts : view_parts w.parts ++ view_inner w.inner ≡ xs
  pub made : w.made ≡ record { site = None; making = m }

-- the work of a function of a definition, which stands there, with what it has taken of the tables
pub record IsWorkOf (spot : Spot) (s t : Tables) (f : Written) (w : Work) : Type 0 where
  pub node : (bound : List Bound) → node_of bound t w ≡ function_node (at bound spot) s f

-- a form is found behind the others
pub record ValueFound (names : List (List ℕ)) (a : StaticContext) (s : Tables) (d : Item) (rs : List ElaboratedPart) (t : Tables) (rs2 : List ElaboratedPart) : Type 0 where
  pub form : Form
  pub comes : FormGives names a s d t form
  pub found : rs2 ≡ rs ++ Value form ∷ []

-- all parts of a form are found
pub record AllFound (names : List (List ℕ)) (o i : StaticContext) (s : Tables) (xs : List Part) (rs : List ElaboratedPart) (t : Tables) : Type 0 where
  pub behind : StaticContext
  pub through : Through names o i s xs rs behind t []

-- parts in front of any others are found, or one of them has stopped

abbrev pub PartsFound : List (List ℕ) → StaticContext → StaticContext → Tables → List Part → List ElaboratedPart → StaticContext → Tables → Type 0
PartsFound names o i s xs rs i2 t = (zs : List Part) → Through names o i s (xs ++ zs) rs i2 t zs

abbrev pub PartsEnded : List (List ℕ) → StaticContext → StaticContext → Tables → List Part → Stop → Type 0
PartsEnded names o i s xs stop = (zs : List Part) → PartsStop names o i s (xs ++ zs) stop

-- the same of parts behind any others

abbrev pub InnerFound : List (List ℕ) → List (List ℕ) → StaticContext → Tables → List Part → List ElaboratedPart → List ElaboratedPart → Tables → Type 0
InnerFound names names' i2 s ys rs rs2 t =
    (o : StaticContext) (u : Tables) (xs : List Part) (i : StaticContext) → Through names o i u xs rs i2 s ys → Through names' o i u xs rs2 i2 t []

abbrev pub InnerEnded : List (List ℕ) → List (List ℕ) → StaticContext → Tables → List Part → List ElaboratedPart → Stop → Type 0
InnerEnded names names' i2 s ys rs stop =
    (o : StaticContext) (u : Tables) (xs : List Part) (i : StaticContext) → Through names o i u xs rs i2 s ys → PartsStop names' o i u xs stop

-- a form's value is kept behind what was found, or the form has stopped, or memory was wanting
abbrev pub KeepsValue : Result Form Stop → List ElaboratedPart → {T : Type 0} → Result T Stop → List ElaboratedPart → Type 0
KeepsValue form rs result rs2 =
    MatchResult result (λ _. (f : Form) × (form ≡ Ok f) × (rs2 ≡ rs ++ Value f ∷ [])) (λ stop. (form ≡ Err stop) ⊎ (stop ≡ NoMemory))

-- the same of a variable with its value
abbrev pub KeepsBinding : Symbol → ℕ → Result Form Stop → List Bound → List ElaboratedPart → {T : Type 0} → Result T Stop → List Bound → List ElaboratedPart → Type 0
KeepsBinding x v form cs rs result cs2 rs2 =
    MatchResult result
    (λ _. (f : Form) × (form ≡ Ok f) × (cs2 ≡ cs ++ Variable x v ∷ []) × (rs2 ≡ rs ++ Binding v f ∷ []))
    (λ stop. (form ≡ Err stop) ⊎ (stop ≡ NoMemory))

-- the next variable is a parameter, or memory was wanting
abbrev pub TakesParameter : Symbol → Tables → List Bound → List ElaboratedPart → {T : Type 0} → Result T Stop → Tables → List Bound → List ElaboratedPart → Type 0
TakesParameter x s cs rs result t cs2 rs2 =
    MatchResult result
    (λ _. (t ≡ with_variable s) × (cs2 ≡ cs ++ Variable x s.variables ∷ []) × (rs2 ≡ rs ++ Parameter s.variables ∷ []))
    (λ stop. stop ≡ NoMemory)

-- the core form is made of what was found, or the walk has stopped, or memory was wanting and the tables may have more of what
-- is defined
abbrev pub Completes : {T : Type 0} → Result T Stop → Made → List ElaboratedPart → Tables → Result Form Stop → Tables → Type 0
Completes (Err stop) m rs s result t = (result ≡ Err stop) × (t ≡ s)
Completes (Ok x) m rs s result t =
    MatchResult result (λ f. (f ≡ made_form m rs) × (t ≡ finished m rs s)) (λ stop. (stop ≡ NoMemory) × LeavesTables m.making s t)
