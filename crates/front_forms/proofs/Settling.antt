-- Steps one after another: what the last datum comes to, the first does.
use Rattle.std.proofs.Common.{◌≡◌, ℕ, ◌+◌, List, [], ◌∷◌, ◌++◌, Option, Some, None, length, refl, sym, ap, ◌∙◌, subst}
use Rattle.std.specs.Prelude.{if◌then◌else◌, codes}
use Rattle.base.specs.declared.datum.Symbol.{Symbol}
use Rattle.base.specs.declared.reason.Reason.TheVariants.{BadShape}
use Rattle.base.specs.declared.reason.Stop.{Stop}
use Rattle.base.specs.declared.reason.Stop.TheVariants.{Refused, NoMemory}
use Rattle.base.specs.Names.{Extends, Extends-same, Extends-then}
use Rattle.base.specs.Data.{Item, place_of}
use Rattle.base.specs.DataNames.{text_same}
use Rattle.base.specs.declared.reason.Refusal.{Refusal}
use Rattle.base.specs.DataMeasures.{Formed, NamesBelow}
use Rattle.base.specs.WellFormedData.{WellFormed, good_stays}
use Rattle.lang_derived.specs.Asked.{list_items, is_text}
use Rattle.lang_derived.specs.Derived.{Derives, plain, unfit, derivation, new_symbols}
use Rattle.lang_derived.specs.Steps.{IsStep, IsStop, StepStays, StopStays, IsWellFormedStep}
use Rattle.lang_derived.specs.declared.one_step.Step.{Step}
use Rattle.lang_derived.specs.declared.one_step.Step.TheVariants.{Derived, Plain}
use Rattle.front_profile.specs.declared.tables.Tables.{Tables}
use Rattle.front_profile.specs.Nodes.{StaticContext, Verdict, refused, ended}
use Rattle.front_profile.specs.Rows.{class_offence, class_refusal, class_in_front, node, settled_node}
use Rattle.front_profile.specs.Judged.{Elaborates, step, offence, with_fresh}
use Rattle.front_profile.specs.Marks.{TablesGrow}
use Rattle.front_profile.specs.Shapes.{symbol_of}
use Rattle.front_profile.specs.bridge.WellFormedParts.{MaybeGood, good_parts}
use Rattle.front_profile.specs.Promises.{Settles, StepsStop}
use Rattle.front_forms.specs.Settled.{with_symbols}
use Rattle.front_profile.specs.bridge.Growing.{tables_grow_reflexive, nothing_added, grows_by}

-- the steps so far: whatever the second comes to, with these tables, the first does
pub record StepsLead (names : List (List ℕ)) (s : Tables) (d : Item) (t : Tables) (e : Item) : Type 0 where
  pub under : (later : List (List ℕ)) → Extends names later → (a : StaticContext) (v : Verdict) →
      Elaborates later (node later a t e) v → Elaborates later (node later a s d) v

pub leads_same : (names : List (List ℕ)) (s : Tables) (d : Item) → StepsLead names s d s d
leads_same names s d = record { under = λ later x a v h. h }

-- what the loop keeps
pub record Led (old names : List (List ℕ)) (s : Tables) (d : Item) (t : Tables) (e : Item) : Type 0 where
  pub later : Extends old names
  pub good : WellFormed (length names) e
  pub leads : StepsLead names s d t e
  pub kept : t ≡ with_symbols t.fresh s
  pub grows : TablesGrow s t

-- the class of a `the` is refused or not, under every later table of names

pub record NoClass (names : List (List ℕ)) (t : Tables) (e : Item) : Type 0 where
  pub under : (later : List (List ℕ)) → Extends names later → class_in_front later t (list_items e) ≡ None

class_later : (old new : List (List ℕ)) (t : Tables) (ds : Option (List Item)) → Extends old new → MaybeGood (length old) ds →
    class_in_front old t ds ≡ class_in_front new t ds
class_later old new t None e g = refl
class_later old new t (Some []) e g = refl
class_later old new t (Some (h ∷ [])) e g = refl
class_later old new t (Some (h ∷ c ∷ [])) e g = refl
class_later old new t (Some (h ∷ c ∷ x ∷ [])) e g =
    ap (λ (word : Option (List ℕ)). if is_text (codes "the") word then class_refusal (place_of c) (class_offence t (symbol_of c)) else None)
    (text_same old new e h g.0.named)
class_later old new t (Some (h ∷ c ∷ x ∷ y ∷ ds)) e g = refl

pub no_class : (names : List (List ℕ)) (t : Tables) (e : Item) → WellFormed (length names) e → class_in_front names t (list_items e) ≡ None → NoClass names t e
no_class names t e g h = record {
  under = λ later x. sym (class_later names later t (list_items e) x (good_parts (length names) e g)) ∙ h;
}

class_comes : (later : List (List ℕ)) (a : StaticContext) (t : Tables) (e : Item) (r : Refusal) → class_in_front later t (list_items e) ≡ Some r
    → Elaborates later (node later a t e) (ended (refused r.place r.reason))
unfolding node
class_comes later a t e r h = rw h (offence r.place r.reason)

pub class_stops : (names : List (List ℕ)) (s : Tables) (d : Item) (t : Tables) (e : Item) (r : Refusal)
    → StepsLead names s d t e → WellFormed (length names) e → class_in_front names t (list_items e) ≡ Some r → StepsStop names s d (Refused r)
class_stops names s d t e r l g h a = record { under = under }
  where
    under : (later : List (List ℕ)) → Extends names later → Elaborates later (node later a s d) (ended (refused r.place r.reason))
    under later x =
        l.under later x a _
        (class_comes later a t e r (sym (class_later names later t (list_items e) x (good_parts (length names) e g)) ∙ h))

-- a derived form comes to what its step comes to
step_comes : (later : List (List ℕ)) (a : StaticContext) (t : Tables) (e e2 : Item) (n : ℕ) (v : Verdict)
    → class_in_front later t (list_items e) ≡ None → Derives later e (length t.fresh) e2 (length t.fresh + n)
    → Elaborates later (node later a (with_fresh n t) e2) v → Elaborates later (node later a t e) v
unfolding node
step_comes later a t e e2 n v p h k = rw (p, h.fits) (step a t e e2 n v h k)

pub leads_step : (names more : List (List ℕ)) (s : Tables) (d : Item) (t : Tables) (e e2 : Item) (after : List Symbol)
    → StepsLead names s d t e → NoClass names t e → Extends names more → StepStays more e t.fresh (Derived e2) after
    → StepsLead more s d (with_symbols after t) e2
leads_step names more s d t e e2 after l c x h = record { under = under }
  where
    under : (later : List (List ℕ)) → Extends more later → (a : StaticContext) (v : Verdict) →
        Elaborates later (node later a (with_symbols after t) e2) v → Elaborates later (node later a s d) v
    under later y a v k =
        let taken : IsStep later e t.fresh (Derived e2) after = h.under later y in
        let P : List Symbol → Type 0 = λ f. Elaborates later (node later a (with_symbols f t) e2) v in
        l.under later (Extends-then names more later x y) a v (step_comes later a t e e2 taken.0 v (c.under later (Extends-then names more later x y)) taken.1.0 (subst P taken.1.1 k))

-- what is no derived form comes to what its row says
plain_comes : (later : List (List ℕ)) (a : StaticContext) (t : Tables) (e : Item) (v : Verdict) → class_in_front later t (list_items e) ≡ None → derivation later (length t.fresh) e ≡ plain
    → Elaborates later (settled_node later a t e) v → Elaborates later (node later a t e) v
unfolding node
plain_comes later a t e v p h k = rw (p, h) k

pub settles_there : (names more : List (List ℕ)) (s : Tables) (d : Item) (t : Tables) (e : Item) (after : List Symbol)
    → StepsLead names s d t e → NoClass names t e → Extends names more → StepStays more e t.fresh Plain after
    → Settles more s d (with_symbols after t) e
settles_there names more s d t e after l c x h = record { under = under }
  where
    under : (later : List (List ℕ)) → Extends more later → (a : StaticContext) (v : Verdict) →
        Elaborates later (settled_node later a (with_symbols after t) e) v → Elaborates later (node later a s d) v
    under later y a v k =
        let taken : IsStep later e t.fresh Plain after = h.under later y in
        let P : List Symbol → Type 0 = λ f. Elaborates later (settled_node later a (with_symbols f t) e) v in
        l.under later (Extends-then names more later x y) a v (plain_comes later a t e v (c.under later (Extends-then names more later x y)) taken.0 (subst P taken.1 k))

-- a form that fits no row offends
unfit_comes : (later : List (List ℕ)) (a : StaticContext) (t : Tables) (e : Item) → class_in_front later t (list_items e) ≡ None → derivation later (length t.fresh) e ≡ unfit
    → Elaborates later (node later a t e) (ended (refused (place_of e) BadShape))
unfolding node
unfit_comes later a t e p h = rw (p, h) (offence (place_of e) BadShape)

pub stops_there : (names more : List (List ℕ)) (s : Tables) (d : Item) (t : Tables) (e : Item) (stop : Stop)
    → StepsLead names s d t e → NoClass names t e → Extends names more → StopStays more e (length t.fresh) stop
    → StepsStop more s d stop
stops_there names more s d t e (Refused r) l c x h a = record { under = under }
  where
    under : (later : List (List ℕ)) → Extends more later → Elaborates later (node later a s d) (ended (refused r.place r.reason))
    under later y =
        let found : IsStop later e (length t.fresh) (Refused r) = h.under later y in
        let place : r.place ≡ place_of e = cc found.1 in
        let reason : r.reason ≡ BadShape = cc found.1 in
        rw (place, reason)
        (l.under later (Extends-then names more later x y) a (ended (refused (place_of e) BadShape)) (unfit_comes later a t e (c.under later (Extends-then names more later x y)) found.0))
stops_there names more s d t e NoMemory l c x h a = tt

-- the tables grow by new symbols

pub fresh_grows : (mark t : Tables) (added : List Symbol) → TablesGrow mark t → TablesGrow mark (with_symbols (t.fresh ++ added) t)
fresh_grows mark t added g = grows_by mark t (record nothing_added { fresh = Some added }) g

no_class_of : (names : List (List ℕ)) (t : Tables) (e last : Item) → WellFormed (length names) e → last ≡ e → class_in_front names t (list_items last) ≡ None → NoClass names t e
no_class_of names t e last g same c = no_class names t e g (subst (λ i. class_in_front names t (list_items i) ≡ None) same c)

-- a turn of the loop

pub led_same : (names : List (List ℕ)) (s : Tables) (d : Item) → WellFormed (length names) d → Led names names s d s d
led_same names s d g = record { later = Extends-same names; good = g; leads = leads_same names s d; kept = refl; grows = tables_grow_reflexive s }

pub led_step : (old names more : List (List ℕ)) (s : Tables) (d : Item) (t : Tables) (e last e2 : Item) (taken : Step) (after : List Symbol)
    → Led old names s d t e → last ≡ e → class_in_front names t (list_items last) ≡ None → taken ≡ Derived e2 → Extends names more → StepStays more last t.fresh taken after
    → IsWellFormedStep (length more) taken → Led old more s d (with_symbols after t) e2
led_step old names more s d t e last e2 taken after l same c is x h w =
    let Q : Item → Type 0 = λ i. StepStays more i t.fresh taken after in
    let R : Step → Type 0 = λ r. StepStays more e t.fresh r after in
    let stays : StepStays more e t.fresh (Derived e2) after = subst R is (subst Q same h) in
    let whole : Formed e2 × NamesBelow (length more) e2 = subst (IsWellFormedStep (length more)) is w in
    let there : IsStep more e t.fresh (Derived e2) after = stays.under more (Extends-same more) in
    let P : List Symbol → Type 0 = λ f. TablesGrow s (with_symbols f t) in
    record {
      later = Extends-then old names more l.later x;
      good = record { formed = whole.0; named = whole.1 };
      leads = leads_step names more s d t e e2 after l.leads (no_class_of names t e last l.good same c) x stays;
      kept = ap (with_symbols after) l.kept;
      grows = subst P (sym there.1.1) (fresh_grows s t (new_symbols (length t.fresh) there.0) l.grows);
    }

-- the end of the loop
pub record StepsEnded (old more : List (List ℕ)) (s : Tables) (d : Item) (t : Tables) (e : Item) : Type 0 where
  pub later : Extends old more
  pub good : WellFormed (length more) e
  pub settles : Settles more s d t e
  pub kept : t ≡ with_symbols t.fresh s
  pub grows : TablesGrow s t

pub led_ends : (old names more : List (List ℕ)) (s : Tables) (d : Item) (t : Tables) (e last : Item) (taken : Step) (after : List Symbol)
    → Led old names s d t e → last ≡ e → class_in_front names t (list_items last) ≡ None → taken ≡ Plain → Extends names more → StepStays more last t.fresh taken after
    → StepsEnded old more s d (with_symbols after t) e
led_ends old names more s d t e last taken after l same c is x h =
    let Q : Item → Type 0 = λ i. StepStays more i t.fresh taken after in
    let R : Step → Type 0 = λ r. StepStays more e t.fresh r after in
    let stays : StepStays more e t.fresh Plain after = subst R is (subst Q same h) in
    let there : IsStep more e t.fresh Plain after = stays.under more (Extends-same more) in
    let P : List Symbol → Type 0 = λ f. TablesGrow s (with_symbols f t) in
    record {
      later = Extends-then old names more l.later x;
      good = good_stays names more e x l.good;
      settles = settles_there names more s d t e after l.leads (no_class_of names t e last l.good same c) x stays;
      kept = ap (with_symbols after) l.kept;
      grows = subst P (sym there.1) l.grows;
    }

-- a stop in the loop
pub record Stopped (old more : List (List ℕ)) (s : Tables) (d : Item) (t : Tables) (stop : Stop) : Type 0 where
  pub later : Extends old more
  pub stops : StepsStop more s d stop
  pub kept : t ≡ with_symbols t.fresh s
  pub grows : TablesGrow s t

pub led_stops : (old names more : List (List ℕ)) (s : Tables) (d : Item) (t : Tables) (e last : Item) (stop : Stop) (after : List Symbol)
    → Led old names s d t e → last ≡ e → class_in_front names t (list_items last) ≡ None → Extends names more → StopStays more last (length t.fresh) stop → after ≡ t.fresh
    → Stopped old more s d (with_symbols after t) stop
led_stops old names more s d t e last stop after l same c x h unchanged =
    let Q : Item → Type 0 = λ i. StopStays more i (length t.fresh) stop in
    let P : List Symbol → Type 0 = λ f. TablesGrow s (with_symbols f t) in
    record {
      later = Extends-then old names more l.later x;
      stops = stops_there names more s d t e stop l.leads (no_class_of names t e last l.good same c) x (subst Q same h);
      kept = ap (with_symbols after) l.kept;
      grows = subst P (sym unchanged) l.grows;
    }

-- the class of a `the` stops the loop
pub led_refused : (old names : List (List ℕ)) (s : Tables) (d : Item) (t : Tables) (e last : Item) (found : Option Refusal) (r : Refusal)
    → Led old names s d t e → last ≡ e → found ≡ class_in_front names t (list_items last) → found ≡ Some r → StepsStop names s d (Refused r)
led_refused old names s d t e last found r l same is some =
    class_stops names s d t e r l.leads l.good (subst (λ i. class_in_front names t (list_items i) ≡ Some r) same (sym is ∙ some))

-- where there is no refusal
pub no_refusal : (found asked : Option Refusal) → found ≡ asked → ((r : Refusal) → found ≡ Some r → ⊥) → asked ≡ None
no_refusal None asked e h = sym e
no_refusal (Some r) asked e h = absurd (h r refl)
