-- A node comes to at most one verdict, where no macro applies, or where a call has one expansion and both verdicts are exact.
use Rattle.std.proofs.Common.{◌≡◌, ◌+◌, ◌⊎◌, ⊎_elim, inl, inr, List, length, refl, ap, subst, sym, ◌∙◌, arith}
use Rattle.std.specs.Prelude.{ℕ, Bool}
use Rattle.base.specs.declared.place.Place.{Place}
use Rattle.base.specs.declared.reason.Reason.{Reason}
use Rattle.base.specs.Data.{Item, place_of}
use Rattle.lang_derived.specs.Derived.{Derives}
use Rattle.front_profile.specs.declared.tables.Tables.{Tables}
use Rattle.front_profile.specs.declared.elaboration.ElaboratedPart.{ElaboratedPart}
use Rattle.front_profile.specs.declared.elaboration.Made.{Made}
use Rattle.front_profile.specs.Nodes.{StaticContext, Part, form, below, inner, bind, parameter, wrong, function, Written, initform, accessor, method, Node, offends, unnamed, steps, calls, whole, refused, Standing, Verdict, stands, ended, behind, recorded}
use Rattle.front_profile.specs.FunctionNodes.{function_node}
use Rattle.front_profile.specs.RowWords.{deeper}
use Rattle.front_profile.specs.Rows.{node}
use Rattle.front_profile.specs.Judged.{with_fresh, with_expansion, again, with_variable, subject, Verdicts, all_stand, one_ended, in_front, made_verdict, Elaborates, offence, step, expanded, expansion_stops, made, ElaboratesAll, ends, goes, stops}
use Rattle.front_profile.specs.Exact.{IsForWant, IsExactEnd, IsExact, OneExpansion}
use Rattle.front_profile.specs.Marks.{TablesGrow}
use Rattle.front_profile.proofs.Starting.{Starts}
use Rattle.front_profile.proofs.Growing.{starts_node}
use Rattle.front_profile.proofs.Grown.{node_grows, begins_part}

-- a datum has one step, under that table of names
abbrev pub OneStep : List (List ℕ) → Type 0
OneStep names =
    (d : Item) (s : ℕ) (d2 e2 : Item) (s2 t2 : ℕ) → Derives names d s d2 s2 → Derives names d s e2 t2 → (d2 ≡ e2) × (s2 ≡ t2)

-- with these tables no macro applies; or calls have one expansion, and two verdicts are exact

abbrev TellsOne : List (List ℕ) → Tables → Type 0 → Type 0 → Type 0
TellsOne names s A B = (s.before.macros ≡ 0) ⊎ (OneExpansion names × (A × B))

abbrev NodeTold : List (List ℕ) → Node → Type 0 → Type 0 → Type 0
NodeTold names (offends p r) A B = Unit {0}
NodeTold names unnamed A B = Unit {0}
NodeTold names (steps a s d) A B = TellsOne names s A B
NodeTold names (calls a s m d) A B = OneExpansion names × (A × B)
NodeTold names (whole o i s xs m) A B = TellsOne names s A B

told_of : (names : List (List ℕ)) (s : Tables) (A B C D : Type 0) → (A → C) → (B → D) → TellsOne names s A B → TellsOne names s C D
told_of names s A B C D f g t = ⊎_elim (λ e. inl e) (λ (o : OneExpansion names × (A × B)). inr (o.0, (f o.1.0, g o.1.1))) t

told_later : (names : List (List ℕ)) (s t : Tables) (A B : Type 0) → TablesGrow s t → TellsOne names s A B → TellsOne names t A B
told_later names s t A B g h = ⊎_elim (λ e. inl (ap (λ b. b.macros) g.before ∙ e)) (λ o. inr o) h

starts_told : (names : List (List ℕ)) (s : Tables) (top : Bool) (x : Node) (A B : Type 0) → Starts s top x → TellsOne names s A B → NodeTold names x A B
starts_told names s top (offends p r) A B h t = tt
starts_told names s top unnamed A B h t = tt
starts_told names s top (steps a u d) A B h t = told_later names s u A B h.grows t
starts_told names s top (calls a u m d) A B h t = ⊎_elim (λ e. absurd (h.1 e)) (λ o. o) t
starts_told names s top (whole o i u xs m) A B h t = told_later names s u A B h.grows t

node_told : (names : List (List ℕ)) (a : StaticContext) (s : Tables) (d : Item) (A B : Type 0) → TellsOne names s A B → NodeTold names (node names a s d) A B
node_told names a s d A B t = starts_told names s a.spot.top (node names a s d) A B (starts_node names s a d) t

function_told : (names : List (List ℕ)) (o : StaticContext) (s : Tables) (w : Written) (A B : Type 0) → TellsOne names s A B → NodeTold names (function_node o s w) A B
function_told names o s (initform d) A B t = t
function_told names o s (accessor n k d) A B t = t
function_told names o s (method n has_next ps fs) A B t = t

part_told : (names : List (List ℕ)) (o i : StaticContext) (s : Tables) (x : Part) (A B : Type 0) → TellsOne names s A B → NodeTold names (subject names o i s x) A B
part_told names o i s (form d) A B t = node_told names o s d A B t
part_told names o i s (below d) A B t = node_told names (deeper 1 o) s d A B t
part_told names o i s (inner d) A B t = node_told names i s d A B t
part_told names o i s (bind x d) A B t = node_told names o (with_variable s) d A B t
part_told names o i s (parameter x) A B t = t
part_told names o i s (wrong p r) A B t = tt
part_told names o i s (function w) A B t = function_told names o s w A B t

-- of several verdicts

abbrev AllExact : Verdicts → Type 0
AllExact (all_stand r) = Unit {0}
AllExact (one_ended e) = IsExactEnd e

made_exact : (m : Made) (w : Verdicts) → IsExact (made_verdict m w) → AllExact w
made_exact m (all_stand r) h = tt
made_exact m (one_ended e) h = h

front_exact : (r : ElaboratedPart) (w : Verdicts) → AllExact (in_front r w) → AllExact w
front_exact r (all_stand more) h = tt
front_exact r (one_ended e) h = h

-- the node of an equal step, with as many new symbols
same_step : (names : List (List ℕ)) (a : StaticContext) (s : Tables) (d e : Item) (n m : ℕ) (w : Verdict) → d ≡ e → n ≡ m →
    Elaborates names (node names a (with_fresh m s) e) w → Elaborates names (node names a (with_fresh n s) d) w
same_step names a s d e n m w p q c =
    subst (λ x. Elaborates names (node names a (with_fresh n s) x) w) (sym p)
    (subst (λ k. Elaborates names (node names a (with_fresh k s) e) w) (sym q) c)

-- that of an equal expansion
same_expansion : (names : List (List ℕ)) (a : StaticContext) (s : Tables) (d e : Item) (w : Verdict) → d ≡ e → Elaborates names (node names a s e) w
    → Elaborates names (node names a s d) w
same_expansion names a s d e w p c = subst (λ x. Elaborates names (node names a s x) w) (sym p) c

same_number : (l n m : ℕ) → l + n ≡ l + m → n ≡ m
same_number l n m e = omega arith

same_standing : (m k : Standing) → stands m ≡ stands k → m ≡ k
same_standing m k e = cc

-- the parts behind a part that stands
same_behind : (names : List (List ℕ)) (o i : StaticContext) (m k : Standing) (xs : List Part) (w : Verdicts) → m ≡ k →
    ElaboratesAll names o i k.tables xs w → ElaboratesAll names o i m.tables xs w
same_behind names o i m k xs w e g = subst (λ (x : Standing). ElaboratesAll names o i x.tables xs w) (sym e) g

-- two refusals of a call
same_refusal : (p : Place) (q r : Reason) → (IsForWant q → ⊥) → (IsForWant r → ⊥) → (q ≡ r) ⊎ (IsForWant q ⊎ IsForWant r) → ended (refused p q) ≡ ended (refused p r)
same_refusal p q r g h c =
    ⊎_elim (λ e. ap (λ x. ended (refused p x)) e) (λ k. absurd (⊎_elim g h k)) c

mutual
  pub one_verdict : (names : List (List ℕ)) → OneStep names → (x : Node) (v w : Verdict) → Elaborates names x v → Elaborates names x w
      → NodeTold names x (IsExact v) (IsExact w) → v ≡ w
  one_verdict names one x v w (offence p r) (offence q r2) t = refl
  one_verdict names one x v w (step a s d d2 n v2 h c) (step b u e e2 m w2 k c2) t =
      let both : (d2 ≡ e2) × (length s.fresh + n ≡ length s.fresh + m) = one d (length s.fresh) d2 e2 _ _ h k in
      one_verdict names one _ v2 w2 c (same_step names a s d2 e2 n m w2 both.0 (same_number (length s.fresh) n m both.1) c2)
      (node_told names a (with_fresh n s) d2 (IsExact v2) (IsExact w2) t)
  one_verdict names one x v w (expanded a s m d e v2 h c) (expanded b u n d2 f w2 k c2) t =
      let same : e ≡ f = t.0.datum s m d _ e f h k in
      one_verdict names one _ v2 w2 c (same_expansion names (again a) (with_expansion s) e f w2 same c2)
      (node_told names (again a) (with_expansion s) e (IsExact v2) (IsExact w2) (inr t))
  one_verdict names one x v w (expanded a s m d e v2 h c) (expansion_stops b u n d2 r k) t = absurd (t.1.1 (t.0.either s m d _ e r h k))
  one_verdict names one x v w (expansion_stops b u n d2 r k) (expanded a s m d e v2 h c) t = absurd (t.1.0 (t.0.either s m d _ e r h k))
  one_verdict names one x v w (expansion_stops a s m d q h) (expansion_stops b u n d2 r k) t =
      same_refusal (place_of d) q r t.1.0 t.1.1 (t.0.reason s m d _ q r h k)
  one_verdict names one x v w (made o i s xs m v2 g) (made o2 i2 s2 xs2 m2 w2 g2) t =
      ap (made_verdict m) (one_of_all names one o i s xs v2 w2 g g2
      (told_of names s (IsExact (made_verdict m v2)) (IsExact (made_verdict m w2)) (AllExact v2) (AllExact w2) (made_exact m v2) (made_exact m w2) t))

  one_of_all : (names : List (List ℕ)) → OneStep names → (o i : StaticContext) (s : Tables) (xs : List Part) (v w : Verdicts) →
      ElaboratesAll names o i s xs v → ElaboratesAll names o i s xs w → TellsOne names s (AllExact v) (AllExact w) → v ≡ w
  one_of_all names one o i s xs v w (ends o1 i1 s1) (ends o2 i2 s2) t = refl
  one_of_all names one o i s xs v w (goes o1 i1 s1 y ys m v2 c g) (goes o2 i2 s2 z zs k w2 c2 g2) t =
      let here : NodeTold names (subject names o1 i1 s1 y) (IsExact (stands m)) (IsExact (stands k)) =
      part_told names o1 i1 s1 y (IsExact (stands m)) (IsExact (stands k)) (told_of names s1 _ _ (IsExact (stands m)) (IsExact (stands k)) (λ a. tt) (λ b. tt) t) in
      let same : m ≡ k = same_standing m k (one_verdict names one _ _ _ c c2 here) in
      let grown : TablesGrow s1 m.tables = node_grows names (subject names o1 i1 s1 y) (stands m) c s1 (begins_part names o1 i1 s1 y) in
      let more : TellsOne names m.tables (AllExact v2) (AllExact w2) =
      told_later names s1 m.tables (AllExact v2) (AllExact w2) grown
      (told_of names s1 (AllExact (in_front (recorded s1 y m.form) v2)) (AllExact (in_front (recorded s1 y k.form) w2)) (AllExact v2) (AllExact w2)
      (front_exact (recorded s1 y m.form) v2) (front_exact (recorded s1 y k.form) w2) t) in
      let rest : v2 ≡ w2 = one_of_all names one o1 (behind i1 s1 y) m.tables ys v2 w2 g (same_behind names o1 (behind i1 s1 y) m k ys w2 same g2) more in
      cc
  one_of_all names one o i s xs v w (goes o1 i1 s1 y ys m v2 c g) (stops o2 i2 s2 z zs e c2) t =
      let here : NodeTold names (subject names o1 i1 s1 y) (IsExact (stands m)) (IsExact (ended e)) =
      part_told names o1 i1 s1 y (IsExact (stands m)) (IsExact (ended e)) (told_of names s1 _ _ (IsExact (stands m)) (IsExact (ended e)) (λ a. tt) (λ b. b) t) in
      absurd (cc (one_verdict names one _ _ _ c c2 here))
  one_of_all names one o i s xs v w (stops o1 i1 s1 y ys e c) (goes o2 i2 s2 z zs k w2 c2 g2) t =
      let here : NodeTold names (subject names o1 i1 s1 y) (IsExact (ended e)) (IsExact (stands k)) =
      part_told names o1 i1 s1 y (IsExact (ended e)) (IsExact (stands k)) (told_of names s1 _ _ (IsExact (ended e)) (IsExact (stands k)) (λ a. a) (λ b. tt) t) in
      absurd (cc (one_verdict names one _ _ _ c c2 here))
  one_of_all names one o i s xs v w (stops o1 i1 s1 y ys e c) (stops o2 i2 s2 z zs f c2) t =
      let here : NodeTold names (subject names o1 i1 s1 y) (IsExact (ended e)) (IsExact (ended f)) =
      part_told names o1 i1 s1 y (IsExact (ended e)) (IsExact (ended f)) t in
      let same : ended e ≡ ended f = one_verdict names one _ _ _ c c2 here in cc

-- of a datum
pub form_once : (names : List (List ℕ)) → OneStep names → (a : StaticContext) (s : Tables) (d : Item) (v w : Verdict) → Elaborates names (node names a s d) v
    → Elaborates names (node names a s d) w → TellsOne names s (IsExact v) (IsExact w) → v ≡ w
form_once names one a s d v w c c2 t = one_verdict names one (node names a s d) v w c c2 (node_told names a s d (IsExact v) (IsExact w) t)
