-- What functions of the walk keep, from one to the one around it.
use Rattle.std.proofs.Common.{◌≡◌, ℕ, List, [], ◌∷◌, ◌++◌, length, take, Result, Ok, Err, refl, ap, subst, sym, ◌∙◌, inl, inr}
use Rattle.std.proofs.Math.Seq.{take-append_seam}
use Rattle.base.specs.Names.{Extends, Extends-same, Extends-then}
use Rattle.base.specs.Data.{Item}
use Rattle.base.specs.declared.datum.Symbol.{Symbol}
use Rattle.base.specs.declared.place.Place.{Place}
use Rattle.base.specs.declared.reason.Reason.{Reason}
use Rattle.base.specs.declared.reason.Stop.{Stop}
use Rattle.base.specs.declared.reason.Stop.TheVariants.{Refused, NoMemory}
use Rattle.lang_meaning.specs.Form.{Form}
use Rattle.front_profile.specs.declared.bound.Bound.{Bound}
use Rattle.front_profile.specs.declared.elaboration.ElaboratedPart.{ElaboratedPart}
use Rattle.front_profile.specs.declared.elaboration.ElaboratedPart.TheVariants.{Value}
use Rattle.front_profile.specs.declared.elaboration.Made.{Made}
use Rattle.front_profile.specs.declared.spot.Spot.{Spot}
use Rattle.front_profile.specs.declared.tables.Tables.{Tables}
use Rattle.front_profile.specs.FunctionNodes.{function_node}
use Rattle.front_profile.specs.Judged.{with_variable, offence}
use Rattle.front_profile.specs.Marks.{TablesGrow}
use Rattle.front_profile.specs.Nodes.{StaticContext, Part, Written, form, below, bind, parameter, wrong, function}
use Rattle.front_profile.specs.Promises.{FormStops}
use Rattle.front_profile.specs.RowWords.{deeper}
use Rattle.front_profile.specs.Walks.{PartTaken, PartStops, PartsStop, WholeStops}
use Rattle.front_profile.specs.bridge.Growing.{tables_grow_reflexive, tables_grow_transitive, finish_grows}
use Rattle.front_profile.specs.bridge.Turns.{whole_stands, whole_stops}
use Rattle.front_elaboration.specs.bridge.Leaving.{leaves_grow}
use Rattle.front_drafts.specs.Views.{at}
use Rattle.front_scope.specs.Walk.{Walked, FormGives, WholeGives, NodeGives, NodeStops, ValueFound, AllFound, KeepsValue, KeepsBinding, TakesParameter, Completes}
use Rattle.front_scope.proofs.Judging.{err_map, ok_map}
use Rattle.front_scope.proofs.Walking.{form_taken, below_taken, bind_taken, parameter_taken, form_stops, below_stops, bind_stops, function_stops}

-- what is kept behind steps that keep it too, with what follows from the answer
pub walked_then :
    {T : Type 0} (n n1 n2 : List (List ℕ)) (s t u : Tables) (bs cs : List Bound) (r : Result T Stop) (P Q : T → Type 0) (A B : Stop → Type 0) →
    Extends n n1 → TablesGrow s t → Walked n1 n2 t u bs cs r P A → ((x : T) → P x → Q x) → ((e : Stop) → A e → B e) → Walked n n2 s u bs cs r Q B
walked_then n n1 n2 s t u bs cs r P Q A B e g h f k = record {
  names = Extends-then n n1 n2 e h.names;
  grows = tables_grow_transitive s t u g h.grows;
  bound = h.bound;
  stands = ok_map r P Q f h.stands;
  stops = err_map r A B k h.stops;
}

-- the same with nothing in front
pub walked_as :
    {T : Type 0} (n n1 : List (List ℕ)) (s t : Tables) (bs cs : List Bound) (r : Result T Stop) (P Q : T → Type 0) (A B : Stop → Type 0) →
    Walked n n1 s t bs cs r P A → ((x : T) → P x → Q x) → ((e : Stop) → A e → B e) → Walked n n1 s t bs cs r Q B
walked_as n n1 s t bs cs r P Q A B h f k =
    walked_then n n n1 s s t bs cs r P Q A B (Extends-same n) (tables_grow_reflexive s) h f k

-- what is bound is cut back
pub cut_back :
    (bs b1 b2 b3 b4 cs : List Bound) (k : ℕ) → b1 ≡ bs → k ≡ length b1 → b2 ≡ b1 ++ cs → b3 ≡ b2 → b4 ≡ take k b3 → b4 ≡ bs
cut_back bs b1 b2 b3 b4 cs k p l q r t =
    t ∙ (ap (λ n. take n b3) l ∙ (ap (take (length b1)) (r ∙ q) ∙ (take-append_seam b1 cs ∙ p)))

-- a value that is kept behind what was found
kept_walked :
    {T : Type 0} (n n1 : List (List ℕ)) (s t : Tables) (bs cs : List Bound) (judged : Result Form Stop) (rs rs2 : List ElaboratedPart) (r : Result T Stop) (P : Form → Type 0) (B : Stop → Type 0) →
    B NoMemory → Walked n n1 s t bs cs judged P B → KeepsValue judged rs r rs2 →
    Walked n n1 s t bs cs r (λ _. (f : Form) × P f × (rs2 ≡ rs ++ Value f ∷ [])) B
kept_walked n n1 s t bs cs judged rs rs2 (Ok x) P B want h k =
    let w : Walked n n1 s t bs cs (Ok k.0) P B = subst (λ (y : Result Form Stop). Walked n n1 s t bs cs y P B) k.1 h in
    record { names = h.names; grows = h.grows; bound = w.bound; stands = (k.0, w.stands, k.2); stops = tt }
kept_walked n n1 s t bs cs judged rs rs2 (Err e) P B want h k = elim k [
  | inl same ↦
      let w : Walked n n1 s t bs cs (Err e) P B = subst (λ (y : Result Form Stop). Walked n n1 s t bs cs y P B) same h in
      record { names = h.names; grows = h.grows; bound = tt; stands = tt; stops = w.stops }
  | inr wanting ↦ record { names = h.names; grows = h.grows; bound = tt; stands = tt; stops = subst (λ (x : Stop). B x) (sym wanting) want }
]

-- a form that is kept
pub value_walked :
    {T : Type 0} (n n1 : List (List ℕ)) (a : StaticContext) (s t : Tables) (d : Item) (bs cs : List Bound) (judged : Result Form Stop) (rs rs2 : List ElaboratedPart) (r : Result T Stop) →
    Walked n n1 s t bs cs judged (FormGives n1 a s d t) (FormStops n1 a s d) → KeepsValue judged rs r rs2 →
    Walked n n1 s t bs cs r (λ _. ValueFound n1 a s d rs t rs2) (FormStops n1 a s d)
value_walked n n1 a s t d bs cs judged rs rs2 r h k =
    walked_as n n1 s t bs cs r _ _ _ _ (kept_walked n n1 s t bs cs judged rs rs2 r (FormGives n1 a s d t) (FormStops n1 a s d) tt h k)
    (λ x v. record { form = v.0; comes = v.1; found = v.2 })
    (λ e q. q)

-- a function of a definition
pub function_walked :
    {T : Type 0} (n n1 : List (List ℕ)) (o i : StaticContext) (s t : Tables) (f : Written) (bs cs : List Bound) (judged : Result Form Stop) (rs rs2 : List ElaboratedPart) (r : Result T Stop) →
    Walked n n1 s t bs cs judged (NodeGives n1 (function_node o s f) t) (NodeStops n1 (function_node o s f)) → KeepsValue judged rs r rs2 →
    Walked n n1 s t bs cs r (λ _. PartTaken n1 o i s (function f) rs i t rs2) (PartStops n1 o i s (function f))
function_walked n n1 o i s t f bs cs judged rs rs2 r h k =
    walked_as n n1 s t bs cs r _ _ _ _
    (kept_walked n n1 s t bs cs judged rs rs2 r (NodeGives n1 (function_node o s f) t) (NodeStops n1 (function_node o s f)) tt h k)
    (λ x v. record { form = v.0; part = record { under = v.1.under }; found = v.2; around = refl })
    (λ e q. function_stops n1 o i s f e q)

-- an offence behind the parts in front of it
pub wrong_walked :
    {T : Type 0} (n : List (List ℕ)) (o i : StaticContext) (s : Tables) (p : Place) (e : Reason) (bs cs : List Bound) (P : T → Type 0) (r : Result T Stop) →
    r ≡ Err (Refused (record { place = p; reason = e })) → Walked n n s s bs cs r P (PartStops n o i s (wrong p e))
wrong_walked n o i s p e bs cs P r same =
    rw same (
    record {
      names = Extends-same n;
      grows = tables_grow_reflexive s;
      bound = tt;
      stands = tt;
      stops = record { under = λ later y. offence p e };
    }
    )

-- a form as the part that it is

pub form_walked :
    {T : Type 0} (n n1 : List (List ℕ)) (o i : StaticContext) (s t : Tables) (d : Item) (bs cs : List Bound) (rs rs2 : List ElaboratedPart) (r : Result T Stop) →
    Walked n n1 s t bs cs r (λ _. ValueFound n1 o s d rs t rs2) (FormStops n1 o s d) →
    Walked n n1 s t bs cs r (λ _. PartTaken n1 o i s (form d) rs i t rs2) (PartStops n1 o i s (form d))
form_walked n n1 o i s t d bs cs rs rs2 r h =
    walked_as n n1 s t bs cs r _ _ _ _ h
    (λ x v. subst (λ (qs : List ElaboratedPart). PartTaken n1 o i s (form d) rs i t qs) (sym v.found) (form_taken n1 o i s t d v.form rs v.comes))
    (λ e q. form_stops n1 o i s d e q)

pub below_walked :
    {T : Type 0} (n n1 : List (List ℕ)) (o i : StaticContext) (s t : Tables) (d : Item) (bs cs : List Bound) (rs rs2 : List ElaboratedPart) (r : Result T Stop) →
    Walked n n1 s t bs cs r (λ _. ValueFound n1 (deeper 1 o) s d rs t rs2) (FormStops n1 (deeper 1 o) s d) →
    Walked n n1 s t bs cs r (λ _. PartTaken n1 o i s (below d) rs i t rs2) (PartStops n1 o i s (below d))
below_walked n n1 o i s t d bs cs rs rs2 r h =
    walked_as n n1 s t bs cs r _ _ _ _ h
    (λ x v. subst (λ (qs : List ElaboratedPart). PartTaken n1 o i s (below d) rs i t qs) (sym v.found) (below_taken n1 o i s t d v.form rs v.comes))
    (λ e q. below_stops n1 o i s d e q)

-- a variable with its value
pub binding_walked :
    {T : Type 0} (n n1 : List (List ℕ)) (o : StaticContext) (bs bs2 cs cs2 : List Bound) (spot : Spot) (s s1 t : Tables) (x : Symbol) (v : ℕ) (d : Item) (judged : Result Form Stop) (rs rs2 : List ElaboratedPart) (r : Result T Stop) →
    s1 ≡ with_variable s → v ≡ s.variables → TablesGrow s s1 → Walked n n1 s1 t bs bs2 judged (FormGives n1 o s1 d t) (FormStops n1 o s1 d) →
    KeepsBinding x v judged cs rs r cs2 rs2 →
    Walked n n1 s t bs bs2 r (λ _. PartTaken n1 o (at (bs ++ cs) spot) s (bind x d) rs (at (bs ++ cs2) spot) t rs2) (PartStops n1 o (at (bs ++ cs) spot) s (bind x d))
binding_walked n n1 o bs bs2 cs cs2 spot s s1 t x v d judged rs rs2 (Ok y) p q g h k =
    let w : Walked n n1 s1 t bs bs2 (Ok k.0) (FormGives n1 o s1 d t) (FormStops n1 o s1 d) =
    subst (λ (z : Result Form Stop). Walked n n1 s1 t bs bs2 z (FormGives n1 o s1 d t) (FormStops n1 o s1 d)) k.1 h in
    let comes : FormGives n1 o (with_variable s) d t k.0 = subst (λ (z : Tables). FormGives n1 o z d t k.0) p w.stands in
    record {
      names = h.names;
      grows = tables_grow_transitive s s1 t g h.grows;
      bound = w.bound;
      stands = rw (k.2, k.3, q) (bind_taken n1 o bs cs spot s t x d k.0 rs comes);
      stops = tt;
    }
binding_walked n n1 o bs bs2 cs cs2 spot s s1 t x v d judged rs rs2 (Err NoMemory) p q g h k =
    record { names = h.names; grows = tables_grow_transitive s s1 t g h.grows; bound = tt; stands = tt; stops = tt }
binding_walked n n1 o bs bs2 cs cs2 spot s s1 t x v d judged rs rs2 (Err (Refused e)) p q g h k = elim k [
  | inl same ↦
      let w : Walked n n1 s1 t bs bs2 (Err (Refused e)) (FormGives n1 o s1 d t) (FormStops n1 o s1 d) =
      subst (λ (y : Result Form Stop). Walked n n1 s1 t bs bs2 y (FormGives n1 o s1 d t) (FormStops n1 o s1 d)) same h in
      let stopped : FormStops n1 o (with_variable s) d (Refused e) = subst (λ (z : Tables). FormStops n1 o z d (Refused e)) p w.stops in
      record {
        names = h.names;
        grows = tables_grow_transitive s s1 t g h.grows;
        bound = tt;
        stands = tt;
        stops = bind_stops n1 o (at (bs ++ cs) spot) s x d (Refused e) stopped;
      }
  | inr wanting ↦ absurd (cc)
]

-- a parameter
pub parameter_walked :
    {T : Type 0} (n : List (List ℕ)) (o : StaticContext) (bs cs cs2 : List Bound) (spot : Spot) (s t : Tables) (x : Symbol) (rs rs2 : List ElaboratedPart) (r : Result T Stop) →
    TablesGrow s t → TakesParameter x s cs rs r t cs2 rs2 →
    Walked n n s t bs bs r (λ _. PartTaken n o (at (bs ++ cs) spot) s (parameter x) rs (at (bs ++ cs2) spot) t rs2) (PartStops n o (at (bs ++ cs) spot) s (parameter x))
parameter_walked n o bs cs cs2 spot s t x rs rs2 (Ok y) g k = record {
  names = Extends-same n;
  grows = g;
  bound = refl;
  stands = rw (k.0, k.1, k.2) (parameter_taken n o bs cs spot s x rs);
  stops = tt;
}
parameter_walked n o bs cs cs2 spot s t x rs rs2 (Err e) g k =
    record { names = Extends-same n; grows = g; bound = tt; stands = tt; stops = rw k tt }

-- the core form of all parts
pub whole_walked :
    {T : Type 0} (n n1 : List (List ℕ)) (o i : StaticContext) (s t u : Tables) (xs : List Part) (m : Made) (rs : List ElaboratedPart) (bs cs : List Bound) (w : Result T Stop) (r : Result Form Stop) →
    Walked n n1 s t bs cs w (λ _. AllFound n1 o i s xs rs t) (PartsStop n1 o i s xs) → Completes w m rs t r u →
    Walked n n1 s u bs cs r (WholeGives n1 o i s xs m u) (WholeStops n1 o i s xs m)
whole_walked n n1 o i s t u xs m rs bs cs (Err e) r h k =
    rw (k.0, k.1) (record { names = h.names; grows = h.grows; bound = tt; stands = tt; stops = whole_stops n1 o i s xs m e h.stops })
whole_walked n n1 o i s t u xs m rs bs cs (Ok x) (Ok f) h k =
    rw (k.0, k.1) (
    record {
      names = h.names;
      grows = finish_grows s t m.making rs h.grows;
      bound = h.bound;
      stands = whole_stands n1 o i s xs m rs h.stands.behind t h.stands.through;
      stops = tt;
    }
    )
whole_walked n n1 o i s t u xs m rs bs cs (Ok x) (Err e) h k =
    rw k.0 (record { names = h.names; grows = tables_grow_transitive s t u h.grows (leaves_grow m.making t u k.1); bound = tt; stands = tt; stops = tt })
