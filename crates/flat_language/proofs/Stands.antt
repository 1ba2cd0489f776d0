-- What a form is made stands where it stood.
use Rattle.std.proofs.Common.{◌≡◌, ◌≤◌, ℕ, suc, ◌+◌, Bool, true, false, List, [], ◌∷◌, ◌++◌, refl, sym, ap, subst, ◌∙◌, Option, Some, length, arith, length-append, le_refl}
use Rattle.std.specs.Prelude.{slice_get}
use Rattle.base.specs.AllOf.{AllOf}
use Rattle.lang_meaning.specs.declared.capture.Capture.{Capture}
use Rattle.lang_meaning.specs.declared.capture.Capture.TheVariants.{Variable, Exit, Method}
use Rattle.lang_meaning.specs.Form.{Form, Forms, ClauseForms, MaybeForm, BindingForms, DynamicForms, parameters}
use Rattle.lang_meaning.specs.Form as core
use Rattle.lang_meaning.specs.Meaning.{bound_variables}
use Rattle.flat_language.specs.declared.place.CapturedKind.{CapturedKind}
use Rattle.flat_language.specs.declared.place.Home.{Home}
use Rattle.flat_language.specs.declared.place.Home.TheVariants as home
use Rattle.flat_language.specs.declared.place.VariablePlace.{VariablePlace}
use Rattle.flat_language.specs.declared.place.VariablePlace.TheVariants.{Slot, SlotBox, CapturedValue, CapturedBox}
use Rattle.flat_language.specs.declared.place.ExitPlace.{ExitPlace}
use Rattle.flat_language.specs.declared.place.ExitPlace.TheVariants as exit_place
use Rattle.flat_language.specs.declared.place.MethodPlace.{MethodPlace}
use Rattle.flat_language.specs.declared.place.MethodPlace.TheVariants as method_place
use Rattle.flat_language.specs.declared.program.FlatProcedure.{FlatProcedure}
use Rattle.flat_language.specs.FlatNodes.{homes}
use Rattle.flat_language.specs.FlatState.{under, kind_of_place}
use Rattle.flat_language.specs.FlatStanding.{FlatScope, with_homes, with_exit, VariableStands, IsNoCapturedValue, ExitStands, MethodStands, PartsStand, Stands, StandForms, StandClauses, StandBody, StandValues, StandDynamics, LambdasStand}
use Rattle.flat_language.specs.declared.place.Known.{Known}
use Rattle.flat_language.specs.Scope.{Scope, no_scope, homes_of, home_of, slot_at, in_slots, with_bound, with_around, known_or, known_of, exit_or, method_or, flat_parts, kind_of, kinds_of, captured_place, captured_known, captured_variables, captured_exits, captured_method, seen}
use Rattle.flat_language.specs.Flatten.{functions, functions_of_values, functions_of_body, functions_of_dynamics, flat, flat_forms, flat_clauses, flat_body, flat_bindings, flat_dynamics, flat_procedure, body_scope, inner_procedures, procedures_of_forms, procedures_of_clauses, procedures_of_body, procedures_of_values, procedures_of_dynamics}
use Rattle.flat_language.proofs.Alike.{KeepsValue, PartIsThere, Sound, SoundForms, SoundClauses, SoundBody, SoundValues, SoundDynamics}
use Rattle.flat_language.proofs.Applied.{all_homes}
use Rattle.flat_language.proofs.Environments.{equal_or_not, under_first, under_after, some_same, length-homes}
use Rattle.flat_language.proofs.Forms.{homes_same}
use Rattle.flat_language.proofs.Lists.{in_front, behind}
use Rattle.flat_language.specs.bridge.Counted.{joined, all_counted, body_counted, values_counted, dynamics_counted}

-- what is known of a variable in a scope is so where the flat form stands
pub record KnownStands (t : FlatScope) (k : Known) : Type 0 where
  pub stands : VariableStands t k.place
  pub settable : k.fixed ≡ false → IsNoCapturedValue k.place

pub record ScopeStands (t : FlatScope) (s : Scope) : Type 0 where
  pub variables : (v : ℕ) (k : Known) → under v s.variables ≡ Some k → KnownStands t k
  pub exits : (x : ℕ) (p : ExitPlace) → under x s.exits ≡ Some p → ExitStands t p
  pub method : (p : MethodPlace) → s.method ≡ Some p → MethodStands t p
  pub slots : length t.homes ≡ s.slots
  pub own : t.exits ≡ s.own_exits

variable_more : (t : FlatScope) (hs : List Home) (p : VariablePlace) → VariableStands t p → VariableStands (with_homes hs t) p
variable_more t hs (Slot n) h = in_front t.homes hs n home.Slot h
variable_more t hs (SlotBox n) h = in_front t.homes hs n home.Boxed h
variable_more t hs (CapturedValue n) h = h
variable_more t hs (CapturedBox n) h = h

variable_exit : (t : FlatScope) (p : VariablePlace) → VariableStands t p → VariableStands (with_exit t) p
variable_exit t (Slot n) h = h
variable_exit t (SlotBox n) h = h
variable_exit t (CapturedValue n) h = h
variable_exit t (CapturedBox n) h = h

exit_homes : (t : FlatScope) (hs : List Home) (p : ExitPlace) → ExitStands t p → ExitStands (with_homes hs t) p
exit_homes t hs (exit_place.Own n) h = h
exit_homes t hs (exit_place.Captured n) h = h

exit_more : (t : FlatScope) (p : ExitPlace) → ExitStands t p → ExitStands (with_exit t) p
exit_more t (exit_place.Own n) h = omega (arith, h)
exit_more t (exit_place.Captured n) h = h

method_homes : (t : FlatScope) (hs : List Home) (p : MethodPlace) → MethodStands t p → MethodStands (with_homes hs t) p
method_homes t hs method_place.Own h = h
method_homes t hs (method_place.Captured n) h = h

method_exit : (t : FlatScope) (p : MethodPlace) → MethodStands t p → MethodStands (with_exit t) p
method_exit t method_place.Own h = h
method_exit t (method_place.Captured n) h = h

at_home : (t : FlatScope) (h : Home) (n : ℕ) → slice_get t.homes n ≡ Some h → VariableStands t (slot_at h n)
at_home t home.Slot n g = g
at_home t home.Boxed n g = g

no_captured : (h : Home) (n : ℕ) → IsNoCapturedValue (slot_at h n)
no_captured home.Slot n = tt
no_captured home.Boxed n = tt

new_stands : (t : FlatScope) (known : List (ℕ × Known)) (body : Form) → ((v : ℕ) (k : Known) → under v known ≡ Some k → KnownStands t k)
    → (vs : List ℕ) (n : ℕ) → ((j : ℕ) (h : Home) → slice_get (homes_of vs body) j ≡ Some h → slice_get t.homes (n + j) ≡ Some h)
    → (v : ℕ) (k : Known) → under v (in_slots vs body n ++ known) ≡ Some k → KnownStands t k
new_stands t known body rest [] n at v k u = rest v k u
new_stands t known body rest (x ∷ vs) n at v k u =
    equal_or_not v x
    (λ is b.
    subst (λ (q : Known). KnownStands t q) (some_same (sym (under_first v x _ (in_slots vs body (n + 1) ++ known) b) ∙ u))
    (record {
      stands = at_home t (home_of x body) n (let q : n + 0 ≡ n = omega arith in subst (λ m. slice_get t.homes m ≡ Some (home_of x body)) q (at 0 (home_of x body) refl));
      settable = λ f. no_captured (home_of x body) n;
    }))
    (λ b.
    new_stands t known body rest vs (n + 1)
    (λ j h g. let q : n + suc j ≡ (n + 1) + j = omega arith in subst (λ m. slice_get t.homes m ≡ Some h) q (at (suc j) h g))
    v k (sym (under_after v x _ (in_slots vs body (n + 1) ++ known) b) ∙ u))

pub bound_stands : (t : FlatScope) (s : Scope) → ScopeStands t s → (vs : List ℕ) (body : Form) → ScopeStands (with_homes (homes_of vs body) t) (with_bound vs body s)
bound_stands t s c vs body = record {
  variables = new_stands (with_homes (homes_of vs body) t) s.variables body
      (λ v k u. record { stands = variable_more t (homes_of vs body) k.place (c.variables v k u).stands; settable = (c.variables v k u).settable })
      vs s.slots
      (λ j h g. subst (λ m. slice_get (t.homes ++ homes_of vs body) (m + j) ≡ Some h) c.slots (behind t.homes (homes_of vs body) j ∙ g));
  exits = λ x p u. exit_homes t (homes_of vs body) p (c.exits x p u);
  method = λ p u. method_homes t (homes_of vs body) p (c.method p u);
  slots = length-append t.homes (homes_of vs body) ∙ ap (λ n. n + length (homes_of vs body)) c.slots ∙ ap (λ n. s.slots + n) (length-homes vs body);
  own = c.own;
}

pub around_stands : (t : FlatScope) (s : Scope) → ScopeStands t s → (x : ℕ) → ScopeStands (with_exit t) (with_around x s)
around_stands t s c x = record {
  variables = λ v k u. record { stands = variable_exit t k.place (c.variables v k u).stands; settable = (c.variables v k u).settable };
  exits = λ y p u. equal_or_not y x
      (λ is b. subst (λ q. ExitStands (with_exit t) q) (some_same (sym (under_first y x _ s.exits b) ∙ u)) (let own : t.exits ≡ s.own_exits = c.own in omega (arith, own)))
      (λ b. exit_more t p (c.exits y p (sym (under_after y x _ s.exits b) ∙ u)));
  method = λ p u. method_exit t p (c.method p u);
  slots = c.slots;
  own = ap (λ n. n + 1) c.own;
}

-- a function's scope
captured_stands : (inside : FlatScope) (p : VariablePlace) (n : ℕ) → slice_get inside.captured n ≡ Some (kind_of_place p) → VariableStands inside (captured_place p n)
captured_stands inside (Slot m) n h = h
captured_stands inside (SlotBox m) n h = h
captured_stands inside (CapturedValue m) n h = h
captured_stands inside (CapturedBox m) n h = h

-- a captured value is no variable that is set
captured_settable : (p : VariablePlace) (n : ℕ) (fixed : Bool) → KeepsValue p fixed → (fixed ≡ false → IsNoCapturedValue p) → fixed ≡ false → IsNoCapturedValue (captured_place p n)
captured_settable (Slot m) n fixed h g f = absurd (let q : true ≡ false = sym h ∙ f in cc q)
captured_settable (SlotBox m) n fixed h g f = tt
captured_settable (CapturedValue m) n fixed h g f = g f
captured_settable (CapturedBox m) n fixed h g f = tt

-- the kinds of these parts stand from the n-th on
abbrev From : FlatScope → Scope → ℕ → List Capture → Type 0
From inside s n parts = (j : ℕ) (k : CapturedKind) → slice_get (kinds_of s parts) j ≡ Some k → slice_get inside.captured (n + j) ≡ Some k

first_kind : (inside : FlatScope) (s : Scope) (n : ℕ) (p : Capture) (ps : List Capture) → From inside s n (p ∷ ps) → slice_get inside.captured n ≡ Some (kind_of s p)
first_kind inside s n p ps f =
    let q : n + 0 ≡ n = omega arith in subst (λ l. slice_get inside.captured l ≡ Some (kind_of s p)) q (f 0 (kind_of s p) refl)

after_first : (inside : FlatScope) (s : Scope) (n : ℕ) (p : Capture) (ps : List Capture) → From inside s n (p ∷ ps) → From inside s (n + 1) ps
after_first inside s n p ps f j k h =
    let q : n + suc j ≡ (n + 1) + j = omega arith in subst (λ l. slice_get inside.captured l ≡ Some k) q (f (suc j) k h)

variables_stand : (t inside : FlatScope) (s : Scope) → ScopeStands t s → (parts : List Capture) → AllOf (PartIsThere s) parts → (n : ℕ) → From inside s n parts
    → (v : ℕ) (k : Known) → under v (captured_variables s parts n) ≡ Some k → KnownStands inside k
variables_stand t inside s c [] e n f v k u = absurd (cc u)
variables_stand t inside s c (Exit x ∷ ps) e n f v k u = variables_stand t inside s c ps e.1 (n + 1) (after_first inside s n (Exit x) ps f) v k u
variables_stand t inside s c (Method ∷ ps) e n f v k u = variables_stand t inside s c ps e.1 (n + 1) (after_first inside s n Method ps f) v k u
variables_stand t inside s c (Variable x ∷ ps) e n f v k u =
    equal_or_not v x
    (λ is b.
    let there : under x s.variables ≡ Some e.0.known = e.0.there in
    let known : known_of s x ≡ e.0.known = ap known_or there in
    subst (λ (q : Known). KnownStands inside q)
    (ap (λ (q : Known). captured_known q n) (sym known) ∙ some_same (sym (under_first v x _ (captured_variables s ps (n + 1)) b) ∙ u))
    (record {
      stands = captured_stands inside e.0.known.place n (first_kind inside s n (Variable x) ps f ∙ ap (λ (q : Known). Some (kind_of_place q.place)) known);
      settable = captured_settable e.0.known.place n e.0.known.fixed e.0.keeps (c.variables x e.0.known there).settable;
    }))
    (λ b. variables_stand t inside s c ps e.1 (n + 1) (after_first inside s n (Variable x) ps f) v k
    (sym (under_after v x _ (captured_variables s ps (n + 1)) b) ∙ u))

exits_stand : (inside : FlatScope) (s : Scope) (parts : List Capture) (n : ℕ) → From inside s n parts
    → (x : ℕ) (p : ExitPlace) → under x (captured_exits parts n) ≡ Some p → ExitStands inside p
exits_stand inside s [] n f x p u = absurd (cc u)
exits_stand inside s (Variable y ∷ ps) n f x p u = exits_stand inside s ps (n + 1) (after_first inside s n (Variable y) ps f) x p u
exits_stand inside s (Method ∷ ps) n f x p u = exits_stand inside s ps (n + 1) (after_first inside s n Method ps f) x p u
exits_stand inside s (Exit y ∷ ps) n f x p u =
    equal_or_not x y
    (λ is b. subst (λ q. ExitStands inside q) (some_same (sym (under_first x y _ (captured_exits ps (n + 1)) b) ∙ u)) (first_kind inside s n (Exit y) ps f))
    (λ b. exits_stand inside s ps (n + 1) (after_first inside s n (Exit y) ps f) x p (sym (under_after x y _ (captured_exits ps (n + 1)) b) ∙ u))

method_stands : (inside : FlatScope) (s : Scope) (parts : List Capture) (n : ℕ) → From inside s n parts
    → (p : MethodPlace) → captured_method parts n ≡ Some p → MethodStands inside p
method_stands inside s [] n f p u = absurd (cc u)
method_stands inside s (Variable y ∷ ps) n f p u = method_stands inside s ps (n + 1) (after_first inside s n (Variable y) ps f) p u
method_stands inside s (Exit y ∷ ps) n f p u = method_stands inside s ps (n + 1) (after_first inside s n (Exit y) ps f) p u
method_stands inside s (Method ∷ ps) n f p u = subst (λ q. MethodStands inside q) (some_same u) (first_kind inside s n Method ps f)

seen_stands : (t : FlatScope) (s : Scope) → ScopeStands t s → (parts : List Capture) → AllOf (PartIsThere s) parts
    → ScopeStands (record { homes = []; captured = kinds_of s parts; exits = 0; in_procedure = false }) (seen s parts)
seen_stands t s c parts e =
    let inside : FlatScope = record { homes = []; captured = kinds_of s parts; exits = 0; in_procedure = false } in
    let all : From inside s 0 parts = λ j k h. let q : 0 + j ≡ j = omega arith in ap (λ l. slice_get (kinds_of s parts) l) q ∙ h in
    record {
      variables = variables_stand t inside s c parts e 0 all;
      exits = exits_stand inside s parts 0 all;
      method = method_stands inside s parts 0 all;
      slots = refl;
      own = refl;
    }

-- what is captured stands where the function is made
parts_stand : (t : FlatScope) (s : Scope) → ScopeStands t s → (parts : List Capture) → AllOf (PartIsThere s) parts → PartsStand t (flat_parts s parts) (kinds_of s parts)
parts_stand t s c [] e = tt
parts_stand t s c (Variable v ∷ ps) e = (
  (
    (let there : under v s.variables ≡ Some e.0.known = e.0.there in
        subst (λ o. VariableStands t (known_or o).place) (sym there) (c.variables v e.0.known there).stands),
    refl,
  ),
  parts_stand t s c ps e.1,
)
parts_stand t s c (Exit x ∷ ps) e = (
  ((let there : under x s.exits ≡ Some e.0.place = e.0.there in subst (λ o. ExitStands t (exit_or o)) (sym there) (c.exits x e.0.place there)), refl),
  parts_stand t s c ps e.1,
)
parts_stand t s c (Method ∷ ps) e = (
  ((let there : s.method ≡ Some e.0.place = e.0.there in subst (λ o. MethodStands t (method_or o)) (sym there) (c.method e.0.place there)), refl),
  parts_stand t s c ps e.1,
)

module _ (lambdas : List FlatProcedure) where
  mutual
    unfolding flat

    pub flat_stands : (t : FlatScope) (s : Scope) → ScopeStands t s → (first n : ℕ) → first ≤ n → (f : Form) → Sound lambdas s n f → Stands lambdas t first (flat s n f)
    flat_stands t s c first n le (core.literal i) h = tt
    flat_stands t s c first n le (core.global name) h = tt
    flat_stands t s c first n le (core.dynamic name) h = tt
    flat_stands t s c first n le (core.local v) h =
        let there : under v s.variables ≡ Some h.known = h.there in
        subst (λ o. VariableStands t (known_or o).place) (sym there) (c.variables v h.known there).stands
    flat_stands t s c first n le (core.set_local v f) h =
        let there : under v s.variables ≡ Some h.0.known = h.0.there in (
          subst (λ o. VariableStands t (known_or o).place) (sym there) (c.variables v h.0.known there).stands,
          subst (λ o. IsNoCapturedValue (known_or o).place) (sym there) ((c.variables v h.0.known there).settable h.0.free),
          flat_stands t s c first n le f h.1,
        )
    flat_stands t s c first n le (core.clauses cs) h = clauses_stand t s c first n le cs h
    flat_stands t s c first n le (core.let_form bs body) h = (
      values_stand t s c first n le body bs h.0,
      subst (λ hs. Stands lambdas (with_homes hs t) first (flat (with_bound (bound_variables bs) body s) (n + functions_of_values bs) body)) (sym (homes_same s n body bs))
          (flat_stands (with_homes (homes_of (bound_variables bs) body) t) (with_bound (bound_variables bs) body s) (bound_stands t s c (bound_variables bs) body)
          first (n + functions_of_values bs) (omega (arith, le)) body h.1),
    )
    flat_stands t s c first n le (core.lambda required rest body parts) h = record {
      procedure = flat_procedure (seen s parts) (n + 1) (kinds_of s parts) required rest body;
      there = h.1;
      above = le;
      parts_stand = parts_stand t s c parts h.0;
    }
    flat_stands t s c first n le (core.block x body) h = flat_stands (with_exit t) (with_around x s) (around_stands t s c x) first n le body h
    flat_stands t s c first n le (core.return_from x f) h = (
      (let there : under x s.exits ≡ Some h.0.place = h.0.there in subst (λ o. ExitStands t (exit_or o)) (sym there) (c.exits x h.0.place there)),
      flat_stands t s c first n le f h.1,
    )
    flat_stands t s c first n le (core.tagbody x segments) h = forms_stand (with_exit t) (with_around x s) (around_stands t s c x) first n le segments h
    flat_stands t s c first n le (core.go x segment) h =
        let there : under x s.exits ≡ Some h.place = h.there in subst (λ o. ExitStands t (exit_or o)) (sym there) (c.exits x h.place there)
    flat_stands t s c first n le (core.dynamic_let ds body) h = (
      dynamics_stand t s c first n le ds h.0,
      flat_stands t s c first (n + functions_of_dynamics ds) (omega (arith, le)) body h.1,
    )
    flat_stands t s c first n le core.next_method h =
        let there : s.method ≡ Some h.place = h.there in subst (λ o. MethodStands t (method_or o)) (sym there) (c.method h.place there)
    flat_stands t s c first n le core.has_next h =
        let there : s.method ≡ Some h.place = h.there in subst (λ o. MethodStands t (method_or o)) (sym there) (c.method h.place there)
    flat_stands t s c first n le (core.sequence fs) h = forms_stand t s c first n le fs h
    flat_stands t s c first n le (core.call name fs) h = forms_stand t s c first n le fs h
    flat_stands t s c first n le (core.call_value fs) h = forms_stand t s c first n le fs h
    flat_stands t s c first n le (core.prim which fs) h = forms_stand t s c first n le fs h
    flat_stands t s c first n le (core.set_global name f) h = flat_stands t s c first n le f h
    flat_stands t s c first n le (core.def_global name f) h = flat_stands t s c first n le f h
    flat_stands t s c first n le (core.set_dynamic name f) h = flat_stands t s c first n le f h
    flat_stands t s c first n le (core.def_dynamic name f) h = flat_stands t s c first n le f h
    flat_stands t s c first n le (core.sited site f) h = flat_stands t s c first n le f h
    flat_stands t s c first n le (core.apply f list) h = (flat_stands t s c first n le f h.0, flat_stands t s c first (n + functions f) (omega (arith, le)) list h.1)
    flat_stands t s c first n le (core.while_form test body) h = (flat_stands t s c first n le test h.0, flat_stands t s c first (n + functions test) (omega (arith, le)) body h.1)
    flat_stands t s c first n le (core.catch_form tag body) h = (flat_stands t s c first n le tag h.0, flat_stands t s c first (n + functions tag) (omega (arith, le)) body h.1)
    flat_stands t s c first n le (core.throw tag f) h = (flat_stands t s c first n le tag h.0, flat_stands t s c first (n + functions tag) (omega (arith, le)) f h.1)
    flat_stands t s c first n le (core.unwind f cleanup) h = (flat_stands t s c first n le f h.0, flat_stands t s c first (n + functions f) (omega (arith, le)) cleanup h.1)
    flat_stands t s c first n le (core.with_handler handler body) h = (flat_stands t s c first n le handler h.0, flat_stands t s c first (n + functions handler) (omega (arith, le)) body h.1)
    flat_stands t s c first n le (core.signal_form condition mark) h = (flat_stands t s c first n le condition h.0, flat_stands t s c first (n + functions condition) (omega (arith, le)) mark h.1)
    flat_stands t s c first n le (core.continue_form condition f) h = (flat_stands t s c first n le condition h.0, flat_stands t s c first (n + functions condition) (omega (arith, le)) f h.1)

    forms_stand : (t : FlatScope) (s : Scope) → ScopeStands t s → (first n : ℕ) → first ≤ n → (fs : Forms) → SoundForms lambdas s n fs → StandForms lambdas t first (flat_forms s n fs)
    forms_stand t s c first n le core.no_form h = tt
    forms_stand t s c first n le (core.form_and f fs) h =
        (flat_stands t s c first n le f h.0, forms_stand t s c first (n + functions f) (omega (arith, le)) fs h.1)

    clauses_stand : (t : FlatScope) (s : Scope) → ScopeStands t s → (first n : ℕ) → first ≤ n → (cs : ClauseForms) → SoundClauses lambdas s n cs → StandClauses lambdas t first (flat_clauses s n cs)
    clauses_stand t s c first n le core.no_clause h = tt
    clauses_stand t s c first n le (core.clause_and test body cs) h = (
      flat_stands t s c first n le test h.0,
      body_stands t s c first (n + functions test) (omega (arith, le)) body h.1,
      clauses_stand t s c first (n + (functions test + functions_of_body body)) (omega (arith, le)) cs h.2,
    )

    body_stands : (t : FlatScope) (s : Scope) → ScopeStands t s → (first n : ℕ) → first ≤ n → (b : MaybeForm) → SoundBody lambdas s n b → StandBody lambdas t first (flat_body s n b)
    body_stands t s c first n le core.no_body h = tt
    body_stands t s c first n le (core.with_body f) h = flat_stands t s c first n le f h

    values_stand : (t : FlatScope) (s : Scope) → ScopeStands t s → (first n : ℕ) → first ≤ n → (body : Form) (bs : BindingForms) → SoundValues lambdas s n bs → StandValues lambdas t first (flat_bindings s n body bs)
    values_stand t s c first n le body core.no_binding h = tt
    values_stand t s c first n le body (core.binding_and v f bs) h =
        (flat_stands t s c first n le f h.0, values_stand t s c first (n + functions f) (omega (arith, le)) body bs h.1)

    dynamics_stand : (t : FlatScope) (s : Scope) → ScopeStands t s → (first n : ℕ) → first ≤ n → (ds : DynamicForms) → SoundDynamics lambdas s n ds → StandDynamics lambdas t first (flat_dynamics s n ds)
    dynamics_stand t s c first n le core.no_dynamic h = tt
    dynamics_stand t s c first n le (core.dynamic_and name f ds) h =
        (flat_stands t s c first n le f h.0, dynamics_stand t s c first (n + functions f) (omega (arith, le)) ds h.1)

  -- the body of a procedure or a function
  pub body_of : (b : Bool) (kinds : List CapturedKind) (s : Scope) → ScopeStands (record { homes = []; captured = kinds; exits = 0; in_procedure = b }) s
      → (first n : ℕ) → first ≤ n → (required : List ℕ) (rest : Option ℕ) (body : Form) → Sound lambdas (body_scope required rest body s) n body
      → Stands lambdas (record { homes = homes (flat_procedure s n kinds required rest body); captured = kinds; exits = 0; in_procedure = b }) first (flat (body_scope required rest body s) n body)
  body_of b kinds s c first n le required rest body h =
      subst (λ hs. Stands lambdas (record { homes = hs; captured = kinds; exits = 0; in_procedure = b }) first (flat (body_scope required rest body s) n body))
      (sym (all_homes required rest body))
      (flat_stands (with_homes (homes_of (parameters required rest) body) (record { homes = []; captured = kinds; exits = 0; in_procedure = b }))
      (body_scope required rest body s) (bound_stands (record { homes = []; captured = kinds; exits = 0; in_procedure = b }) s c (parameters required rest) body) first n le body h)

  -- one list after another
  pub both_stand : (n : ℕ) (xs ys : List FlatProcedure) (k : ℕ) → length xs ≡ k → LambdasStand lambdas n xs → LambdasStand lambdas (n + k) ys → LambdasStand lambdas n (xs ++ ys)
  both_stand n [] ys k e x y = subst (λ m. LambdasStand lambdas m ys) (let q : n + 0 ≡ n = omega arith in ap (λ i. n + i) (sym e) ∙ q) y
  both_stand n (q ∷ xs) ys k e x y =
      (x.0, both_stand (n + 1) xs ys (length xs) refl x.1 (subst (λ m. LambdasStand lambdas m ys) (let i : n + suc (length xs) ≡ (n + 1) + length xs = omega arith in ap (λ i. n + i) (sym e) ∙ i) y))

  mutual
    pub inner_stand : (t : FlatScope) (s : Scope) → ScopeStands t s → (n : ℕ) (f : Form) → Sound lambdas s n f → LambdasStand lambdas n (inner_procedures s n f)
    inner_stand t s c n (core.literal i) h = tt
    inner_stand t s c n (core.local v) h = tt
    inner_stand t s c n (core.global name) h = tt
    inner_stand t s c n (core.dynamic name) h = tt
    inner_stand t s c n (core.go x segment) h = tt
    inner_stand t s c n core.next_method h = tt
    inner_stand t s c n core.has_next h = tt
    inner_stand t s c n (core.set_local v f) h = inner_stand t s c n f h.1
    inner_stand t s c n (core.return_from x f) h = inner_stand t s c n f h.1
    inner_stand t s c n (core.clauses cs) h = inner_clauses t s c n cs h
    inner_stand t s c n (core.let_form bs body) h =
        both_stand n (procedures_of_values s n bs) _ (functions_of_values bs) (values_counted s n bs) (inner_values t s c n bs h.0)
        (inner_stand (with_homes (homes_of (bound_variables bs) body) t) (with_bound (bound_variables bs) body s) (bound_stands t s c (bound_variables bs) body) (n + functions_of_values bs) body h.1)
    inner_stand t s c n (core.lambda required rest body parts) h =
        let inside : FlatScope = record { homes = []; captured = kinds_of s parts; exits = 0; in_procedure = false } in (
          body_of false (kinds_of s parts) (seen s parts) (seen_stands t s c parts h.0) (n + 1) (n + 1) (le_refl (n + 1)) required rest body h.2,
          inner_stand (with_homes (homes_of (parameters required rest) body) inside) (body_scope required rest body (seen s parts))
              (bound_stands inside (seen s parts) (seen_stands t s c parts h.0) (parameters required rest) body) (n + 1) body h.2,
        )
    inner_stand t s c n (core.block x body) h = inner_stand (with_exit t) (with_around x s) (around_stands t s c x) n body h
    inner_stand t s c n (core.tagbody x segments) h = inner_forms (with_exit t) (with_around x s) (around_stands t s c x) n segments h
    inner_stand t s c n (core.dynamic_let ds body) h =
        both_stand n (procedures_of_dynamics s n ds) _ (functions_of_dynamics ds) (dynamics_counted s n ds) (inner_dynamics t s c n ds h.0)
        (inner_stand t s c (n + functions_of_dynamics ds) body h.1)
    inner_stand t s c n (core.sequence fs) h = inner_forms t s c n fs h
    inner_stand t s c n (core.call name fs) h = inner_forms t s c n fs h
    inner_stand t s c n (core.call_value fs) h = inner_forms t s c n fs h
    inner_stand t s c n (core.prim which fs) h = inner_forms t s c n fs h
    inner_stand t s c n (core.set_global name f) h = inner_stand t s c n f h
    inner_stand t s c n (core.def_global name f) h = inner_stand t s c n f h
    inner_stand t s c n (core.set_dynamic name f) h = inner_stand t s c n f h
    inner_stand t s c n (core.def_dynamic name f) h = inner_stand t s c n f h
    inner_stand t s c n (core.sited site f) h = inner_stand t s c n f h
    inner_stand t s c n (core.apply f list) h =
        both_stand n (inner_procedures s n f) _ (functions f) (all_counted s n f) (inner_stand t s c n f h.0) (inner_stand t s c (n + functions f) list h.1)
    inner_stand t s c n (core.while_form test body) h =
        both_stand n (inner_procedures s n test) _ (functions test) (all_counted s n test) (inner_stand t s c n test h.0) (inner_stand t s c (n + functions test) body h.1)
    inner_stand t s c n (core.catch_form tag body) h =
        both_stand n (inner_procedures s n tag) _ (functions tag) (all_counted s n tag) (inner_stand t s c n tag h.0) (inner_stand t s c (n + functions tag) body h.1)
    inner_stand t s c n (core.throw tag f) h =
        both_stand n (inner_procedures s n tag) _ (functions tag) (all_counted s n tag) (inner_stand t s c n tag h.0) (inner_stand t s c (n + functions tag) f h.1)
    inner_stand t s c n (core.unwind f cleanup) h =
        both_stand n (inner_procedures s n f) _ (functions f) (all_counted s n f) (inner_stand t s c n f h.0) (inner_stand t s c (n + functions f) cleanup h.1)
    inner_stand t s c n (core.with_handler handler body) h =
        both_stand n (inner_procedures s n handler) _ (functions handler) (all_counted s n handler) (inner_stand t s c n handler h.0) (inner_stand t s c (n + functions handler) body h.1)
    inner_stand t s c n (core.signal_form condition mark) h =
        both_stand n (inner_procedures s n condition) _ (functions condition) (all_counted s n condition) (inner_stand t s c n condition h.0) (inner_stand t s c (n + functions condition) mark h.1)
    inner_stand t s c n (core.continue_form condition f) h =
        both_stand n (inner_procedures s n condition) _ (functions condition) (all_counted s n condition) (inner_stand t s c n condition h.0) (inner_stand t s c (n + functions condition) f h.1)

    inner_forms : (t : FlatScope) (s : Scope) → ScopeStands t s → (n : ℕ) (fs : Forms) → SoundForms lambdas s n fs → LambdasStand lambdas n (procedures_of_forms s n fs)
    inner_forms t s c n core.no_form h = tt
    inner_forms t s c n (core.form_and f fs) h =
        both_stand n (inner_procedures s n f) _ (functions f) (all_counted s n f) (inner_stand t s c n f h.0) (inner_forms t s c (n + functions f) fs h.1)

    inner_values : (t : FlatScope) (s : Scope) → ScopeStands t s → (n : ℕ) (bs : BindingForms) → SoundValues lambdas s n bs → LambdasStand lambdas n (procedures_of_values s n bs)
    inner_values t s c n core.no_binding h = tt
    inner_values t s c n (core.binding_and v f bs) h =
        both_stand n (inner_procedures s n f) _ (functions f) (all_counted s n f) (inner_stand t s c n f h.0) (inner_values t s c (n + functions f) bs h.1)

    inner_dynamics : (t : FlatScope) (s : Scope) → ScopeStands t s → (n : ℕ) (ds : DynamicForms) → SoundDynamics lambdas s n ds → LambdasStand lambdas n (procedures_of_dynamics s n ds)
    inner_dynamics t s c n core.no_dynamic h = tt
    inner_dynamics t s c n (core.dynamic_and name f ds) h =
        both_stand n (inner_procedures s n f) _ (functions f) (all_counted s n f) (inner_stand t s c n f h.0) (inner_dynamics t s c (n + functions f) ds h.1)

    inner_clauses : (t : FlatScope) (s : Scope) → ScopeStands t s → (n : ℕ) (cs : ClauseForms) → SoundClauses lambdas s n cs → LambdasStand lambdas n (procedures_of_clauses s n cs)
    inner_clauses t s c n core.no_clause h = tt
    inner_clauses t s c n (core.clause_and test body cs) h =
        both_stand n (inner_procedures s n test ++ procedures_of_body s (n + functions test) body) _ (functions test + functions_of_body body)
        (joined (inner_procedures s n test) (procedures_of_body s (n + functions test) body) _ _ (all_counted s n test) (body_counted s (n + functions test) body))
        (both_stand n (inner_procedures s n test) _ (functions test) (all_counted s n test) (inner_stand t s c n test h.0) (inner_body t s c (n + functions test) body h.1))
        (inner_clauses t s c (n + (functions test + functions_of_body body)) cs h.2)

    inner_body : (t : FlatScope) (s : Scope) → ScopeStands t s → (n : ℕ) (b : MaybeForm) → SoundBody lambdas s n b → LambdasStand lambdas n (procedures_of_body s n b)
    inner_body t s c n core.no_body h = tt
    inner_body t s c n (core.with_body f) h = inner_stand t s c n f h

  pub outermost_stands : ScopeStands (record { homes = []; captured = []; exits = 0; in_procedure = true }) no_scope
  outermost_stands = record {
    variables = λ v k u. absurd (cc u);
    exits = λ x p u. absurd (cc u);
    method = λ p u. subst (λ q. MethodStands (record { homes = []; captured = []; exits = 0; in_procedure = true }) q) (let e : method_place.Own ≡ p = cc u in e) refl;
    slots = refl;
    own = refl;
  }
