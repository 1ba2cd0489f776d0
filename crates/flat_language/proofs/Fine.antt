-- Forms that stand in a scope, and what is known of the variables there: what holds of a form holds of the forms right
-- inside it.
use Rattle.std.proofs.Common.{◌≡◌, ℕ, ◌+◌, ◌==◌, Bool, true, false, not, ◌&&◌, ◌||◌, List, [], ◌∷◌, ◌++◌, refl, sym, ap, subst, ◌∙◌, Option, Some, None, map, append-nil}
use Rattle.std.specs.Prelude.{filter, if◌then◌else◌}
use Rattle.std.specs.List.{list_all, list_any}
use Rattle.std.proofs.lemmas.Bool.{eqb-true}
use Rattle.std.proofs.lemmas.Map.Views.{any-filter_same}
use Rattle.base.specs.AllOf.{AllOf, all_map}
use Rattle.lang_meaning.specs.declared.capture.Capture.{Capture}
use Rattle.lang_meaning.specs.declared.capture.Capture.TheVariants.{Variable, Exit, Method}
use Rattle.lang_meaning.specs.declared.scope.ExitForm.{ExitForm}
use Rattle.lang_meaning.specs.declared.scope.NamedExit.{NamedExit}
use Rattle.lang_meaning.specs.declared.scope.LexicalScope.{LexicalScope}
use Rattle.lang_meaning.specs.Form.{Form, BindingForms, parameters}
use Rattle.lang_meaning.specs.Form as core
use Rattle.lang_meaning.specs.Subforms.{outer, inner}
use Rattle.lang_meaning.specs.bridge.Walks.{folded}
use Rattle.lang_meaning.specs.bridge.Judged.{stands_folded}
use Rattle.lang_meaning.specs.Mentions.{same_part, owns, binds, some, in_order, variables_bound}
use Rattle.lang_meaning.specs.Captured.{captures_inside, captures, sets_itself, sets}
use Rattle.lang_meaning.specs.Meaning.{bound_variables}
use Rattle.lang_meaning.specs.Standing as standing
use Rattle.lang_meaning.specs.Standing.{is_variable, exit_around, is_block, is_segment, is_bound, is_free, around_inner, stands_itself, stands}
use Rattle.flat_language.specs.declared.place.Home.TheVariants as home
use Rattle.flat_language.specs.declared.place.VariablePlace.{VariablePlace}
use Rattle.flat_language.specs.declared.place.VariablePlace.TheVariants.{Slot, SlotBox, CapturedValue, CapturedBox}
use Rattle.flat_language.specs.declared.place.ExitPlace.{ExitPlace}
use Rattle.flat_language.specs.declared.place.MethodPlace.{MethodPlace}
use Rattle.flat_language.specs.FlatState.{under}
use Rattle.flat_language.specs.declared.place.Known.{Known}
use Rattle.flat_language.specs.Scope.{Scope, no_scope, slot_at, in_slots, with_bound, with_around, known_or, captured_place, captured_known, captured_variables, captured_exits, captured_method, seen}
use Rattle.flat_language.proofs.Alike.{KeepsValue, IsKnown, IsAround, IsInMethod, PartIsThere}
use Rattle.flat_language.proofs.Environments.{under_first, under_after}
use Rattle.flat_language.proofs.Lists.{equal_or_not, unequal, some_same}

pub second_true : (a b : Bool) → (a && b) ≡ true → b ≡ true
second_true true b h = h
second_true false b h = absurd (cc h)

pub first_true : (a b : Bool) → (a && b) ≡ true → a ≡ true
first_true true b h = refl
first_true false b h = absurd (cc h)

or_first : (a b : Bool) → a ≡ true → (a || b) ≡ true
or_first true b h = refl
or_first false b h = absurd (cc h)

or_second : (a b : Bool) → b ≡ true → (a || b) ≡ true
or_second true b h = refl
or_second false b h = h

of_or : {C : Type 0} (a b : Bool) → (a || b) ≡ true → (a ≡ true → C) → (a ≡ false → b ≡ true → C) → C
of_or true b h f g = f refl
of_or false b h f g = g refl h

and_not : (a b : Bool) → a ≡ false → b ≡ true → (not a && b) ≡ true
and_not true b h k = absurd (cc h)
and_not false b h k = k

-- one of a list
record IsAmong (gs : List Form) (g : Form) : Type 0 where
  any : (P : Form → Bool) → P g ≡ true → some (map P gs) ≡ true
  all : (P : Form → Bool) → list_all P gs ≡ true → P g ≡ true

members : (gs : List Form) → AllOf (IsAmong gs) gs
members [] = tt
members (g ∷ gs) = (
  record {
    any = λ P h. or_first (P g) (some (map P gs)) h;
    all = λ P h. first_true (P g) (list_all P gs) h;
  },
  all_map _ _ (λ f a. record {
    any = λ P h. or_second (P g) (some (map P gs)) (a.any P h);
    all = λ P h. a.all P (second_true (P g) (list_all P gs) h);
  }) gs (members gs),
)

-- what is set and captured in a form, by the forms right inside
sets_folded : (v : ℕ) (f : Form) → sets v f ≡ (sets_itself v f || some (map (sets v) (outer f)) || (not (binds (Variable v) f) && some (map (sets v) (inner f))))
sets_folded v f = folded (λ g outer inner. sets_itself v g || some outer || (not (binds (Variable v) g) && some inner)) f

captures_folded : (p : Capture) (f : Form) → captures p f ≡ (some (map (captures p) (outer f)) || captures_inside p f (some (map (captures p) (inner f))))
captures_folded p f = folded (λ g outer inner. some outer || captures_inside p g (some inner)) f

-- a scope as forms stand in it, and as they are made flat in it
pub record ScopesFit (l : LexicalScope) (s : Scope) : Type 0 where
  pub variables : (v : ℕ) → is_variable l v ≡ true → IsKnown s v
  pub exits : (x : ℕ) → is_bound l (Exit x) ≡ true → IsAround s x
  pub method : l.in_method ≡ true → IsInMethod s

-- a form that stands there; what it sets does not keep its value, and what it captures has a box or keeps it
pub record Fine (l : LexicalScope) (s : Scope) (f : Form) : Type 0 where
  pub standing : stands l f ≡ true
  pub kept : (v : ℕ) (k : Known) → under v s.variables ≡ Some k → sets v f ≡ true → k.fixed ≡ false
  pub held : (v : ℕ) (k : Known) → under v s.variables ≡ Some k → captures (Variable v) f ≡ true → KeepsValue k.place k.fixed

pub itself_true : (l : LexicalScope) (f : Form) → stands l f ≡ true → stands_itself l f ≡ true
itself_true l f h =
    first_true (stands_itself l f) (list_all (stands l) (outer f))
    (first_true (stands_itself l f && list_all (stands l) (outer f)) (list_all (stands (around_inner f l)) (inner f)) (sym (stands_folded l f) ∙ h))

pub outer_true : (l : LexicalScope) (f : Form) → stands l f ≡ true → list_all (stands l) (outer f) ≡ true
outer_true l f h =
    second_true (stands_itself l f) (list_all (stands l) (outer f))
    (first_true (stands_itself l f && list_all (stands l) (outer f)) (list_all (stands (around_inner f l)) (inner f)) (sym (stands_folded l f) ∙ h))

pub inner_true : (l : LexicalScope) (f : Form) → stands l f ≡ true → list_all (stands (around_inner f l)) (inner f) ≡ true
inner_true l f h =
    second_true (stands_itself l f && list_all (stands l) (outer f)) (list_all (stands (around_inner f l)) (inner f)) (sym (stands_folded l f) ∙ h)

sets_outer : (v : ℕ) (f : Form) → some (map (sets v) (outer f)) ≡ true → sets v f ≡ true
sets_outer v f h =
    sets_folded v f
    ∙ or_first (sets_itself v f || some (map (sets v) (outer f))) _ (or_second (sets_itself v f) (some (map (sets v) (outer f))) h)

sets_inner : (v : ℕ) (f : Form) → binds (Variable v) f ≡ false → some (map (sets v) (inner f)) ≡ true → sets v f ≡ true
sets_inner v f b h =
    sets_folded v f
    ∙ or_second (sets_itself v f || some (map (sets v) (outer f))) _ (and_not (binds (Variable v) f) (some (map (sets v) (inner f))) b h)

captures_outer : (p : Capture) (f : Form) → some (map (captures p) (outer f)) ≡ true → captures p f ≡ true
captures_outer p f h = captures_folded p f ∙ or_first (some (map (captures p) (outer f))) _ h

captures_inner : (p : Capture) (f : Form) → captures_inside p f (some (map (captures p) (inner f))) ≡ true → captures p f ≡ true
captures_inner p f h = captures_folded p f ∙ or_second (some (map (captures p) (outer f))) _ h

pub outer_fine : (l : LexicalScope) (s : Scope) (f : Form) → Fine l s f → AllOf (Fine l s) (outer f)
outer_fine l s f h = all_map _ _ (λ g a. record {
  standing = a.all (stands l) (outer_true l f h.standing);
  kept = λ v k u e. h.kept v k u (sets_outer v f (a.any (sets v) e));
  held = λ v k u e. h.held v k u (captures_outer (Variable v) f (a.any (captures (Variable v)) e));
}) (outer f) (members (outer f))

-- inside a form that binds no variable
pub inner_fine : (l : LexicalScope) (s s' : Scope) (f : Form) → s'.variables ≡ s.variables → ((v : ℕ) → binds (Variable v) f ≡ false)
    → ((v : ℕ) (b : Bool) → captures_inside (Variable v) f b ≡ (not (binds (Variable v) f) && b))
    → Fine l s f → AllOf (Fine (around_inner f l) s') (inner f)
inner_fine l s s' f same none inside h = all_map _ _ (λ g a. record {
  standing = a.all (stands (around_inner f l)) (inner_true l f h.standing);
  kept = λ v k u e. h.kept v k (ap (λ vs. under v vs) (sym same) ∙ u) (sets_inner v f (none v) (a.any (sets v) e));
  held = λ v k u e. h.held v k (ap (λ vs. under v vs) (sym same) ∙ u)
      (captures_inner (Variable v) f (inside v _ ∙ and_not (binds (Variable v) f) _ (none v) (a.any (captures (Variable v)) e)));
}) (inner f) (members (inner f))

-- new variables

bound_kept : (body : Form) (known : List (ℕ × Known)) (vs : List ℕ) (n : ℕ) (v : ℕ) (k : Known)
    → (owns vs (Variable v) ≡ false → under v known ≡ Some k → k.fixed ≡ false)
    → under v (in_slots vs body n ++ known) ≡ Some k → sets v body ≡ true → k.fixed ≡ false
bound_kept body known [] n v k rest u e = rest refl u
bound_kept body known (x ∷ vs) n v k rest u e =
    equal_or_not v x
    (λ is t.
    subst (λ (q : Known). q.fixed ≡ false) (some_same (sym (under_first v x _ (in_slots vs body (n + 1) ++ known) t) ∙ u))
    (ap (λ y. not (sets y body)) (sym is) ∙ ap not e))
    (λ f.
    bound_kept body known vs (n + 1) v k
    (λ o. rest (ap (λ b. b || owns vs (Variable v)) f ∙ o))
    (sym (under_after v x _ (in_slots vs body (n + 1) ++ known) f) ∙ u) e)

held_at : (c t : Bool) (n : ℕ) → c ≡ true → KeepsValue (slot_at (if c && t then home.Boxed else home.Slot) n) (not t)
held_at true true n h = tt
held_at true false n h = refl
held_at false t n h = absurd (cc h)

bound_held : (body : Form) (known : List (ℕ × Known)) (vs : List ℕ) (n : ℕ) (v : ℕ) (k : Known)
    → (owns vs (Variable v) ≡ false → under v known ≡ Some k → KeepsValue k.place k.fixed)
    → under v (in_slots vs body n ++ known) ≡ Some k → captures (Variable v) body ≡ true → KeepsValue k.place k.fixed
bound_held body known [] n v k rest u e = rest refl u
bound_held body known (x ∷ vs) n v k rest u e =
    equal_or_not v x
    (λ is t.
    subst (λ (q : Known). KeepsValue q.place q.fixed) (some_same (sym (under_first v x _ (in_slots vs body (n + 1) ++ known) t) ∙ u))
    (held_at (captures (Variable x) body) (sets x body) n (ap (λ y. captures (Variable y) body) (sym is) ∙ e)))
    (λ f.
    bound_held body known vs (n + 1) v k
    (λ o. rest (ap (λ b. b || owns vs (Variable v)) f ∙ o))
    (sym (under_after v x _ (in_slots vs body (n + 1) ++ known) f) ∙ u) e)

abbrev KnownIn : ℕ → List (ℕ × Known) → Type 0
KnownIn v known = (k : Known) × (under v known ≡ Some k)

bound_known : (body : Form) (known : List (ℕ × Known)) (ws : List ℕ) (v : ℕ) → (list_any (λ w. v == w) ws ≡ true → KnownIn v known)
    → (vs : List ℕ) (n : ℕ) → list_any (λ w. v == w) (vs ++ ws) ≡ true → KnownIn v (in_slots vs body n ++ known)
bound_known body known ws v rest [] n h = rest h
bound_known body known ws v rest (x ∷ vs) n h =
    of_or (v == x) (list_any (λ w. v == w) (vs ++ ws)) h
    (λ t. (_, under_first v x _ (in_slots vs body (n + 1) ++ known) t))
    (λ f g. let r : KnownIn v (in_slots vs body (n + 1) ++ known) = bound_known body known ws v rest vs (n + 1) g in
    (r.0, under_after v x _ (in_slots vs body (n + 1) ++ known) f ∙ r.1))

-- captured parts

captured_known_there : (s : Scope) (v : ℕ) (parts : List Capture) (n : ℕ) → list_any (same_part (Variable v)) parts ≡ true → KnownIn v (captured_variables s parts n)
captured_known_there s v [] n h = absurd (cc h)
captured_known_there s v (Exit x ∷ ps) n h = captured_known_there s v ps (n + 1) h
captured_known_there s v (Method ∷ ps) n h = captured_known_there s v ps (n + 1) h
captured_known_there s v (Variable u ∷ ps) n h =
    of_or (v == u) (list_any (same_part (Variable v)) ps) h
    (λ t. (_, under_first v u _ (captured_variables s ps (n + 1)) t))
    (λ f g. let r : KnownIn v (captured_variables s ps (n + 1)) = captured_known_there s v ps (n + 1) g in
    (r.0, under_after v u _ (captured_variables s ps (n + 1)) f ∙ r.1))

abbrev ExitKnownIn : ℕ → List (ℕ × ExitPlace) → Type 0
ExitKnownIn x known = (p : ExitPlace) × (under x known ≡ Some p)

captured_exit_there : (x : ℕ) (parts : List Capture) (n : ℕ) → list_any (same_part (Exit x)) parts ≡ true → ExitKnownIn x (captured_exits parts n)
captured_exit_there x [] n h = absurd (cc h)
captured_exit_there x (Variable u ∷ ps) n h = captured_exit_there x ps (n + 1) h
captured_exit_there x (Method ∷ ps) n h = captured_exit_there x ps (n + 1) h
captured_exit_there x (Exit u ∷ ps) n h =
    of_or (x == u) (list_any (same_part (Exit x)) ps) h
    (λ t. (_, under_first x u _ (captured_exits ps (n + 1)) t))
    (λ f g. let r : ExitKnownIn x (captured_exits ps (n + 1)) = captured_exit_there x ps (n + 1) g in
    (r.0, under_after x u _ (captured_exits ps (n + 1)) f ∙ r.1))

captured_method_there : (parts : List Capture) (n : ℕ) → list_any (same_part Method) parts ≡ true → (p : MethodPlace) × (captured_method parts n ≡ Some p)
captured_method_there [] n h = absurd (cc h)
captured_method_there (Variable u ∷ ps) n h = captured_method_there ps (n + 1) h
captured_method_there (Exit u ∷ ps) n h = captured_method_there ps (n + 1) h
captured_method_there (Method ∷ ps) n h = (_, refl)

-- what is known of a captured variable was known where the function was made
record WasKnown (s : Scope) (v : ℕ) (k : Known) : Type 0 where
  known : Known
  number : ℕ
  there : under v s.variables ≡ Some known
  is : k ≡ captured_known known number

was_known : (s : Scope) (v : ℕ) (k : Known) (parts : List Capture) → AllOf (PartIsThere s) parts → (n : ℕ) → under v (captured_variables s parts n) ≡ Some k → WasKnown s v k
was_known s v k [] t n h = absurd (cc h)
was_known s v k (Exit x ∷ ps) t n h = was_known s v k ps t.1 (n + 1) h
was_known s v k (Method ∷ ps) t n h = was_known s v k ps t.1 (n + 1) h
was_known s v k (Variable u ∷ ps) t n h =
    equal_or_not v u
    (λ is b.
    let there : under u s.variables ≡ Some t.0.known = t.0.there in
    record {
      known = t.0.known;
      number = n;
      there = ap (λ x. under x s.variables) is ∙ there;
      is = sym (some_same (sym (under_first v u _ (captured_variables s ps (n + 1)) b) ∙ h)) ∙ ap (λ o. captured_known (known_or o) n) there;
    })
    (λ b. was_known s v k ps t.1 (n + 1) (sym (under_after v u _ (captured_variables s ps (n + 1)) b) ∙ h))

captured_holds : (p : VariablePlace) (n : ℕ) (fixed : Bool) → KeepsValue (captured_place p n) fixed
captured_holds (Slot m) n fixed = tt
captured_holds (SlotBox m) n fixed = tt
captured_holds (CapturedValue m) n fixed = tt
captured_holds (CapturedBox m) n fixed = tt

-- the parts of a function stand where it is made

same_number : (n : ℕ) → (n == n) ≡ true
same_number n = equal_or_not n n (λ is t. t) (λ f. absurd (unequal n n f refl))

parts_there : (l : LexicalScope) (s : Scope) → ScopesFit l s → (parts : List Capture) → list_all (is_bound l) parts ≡ true
    → ((v : ℕ) (k : Known) → under v s.variables ≡ Some k → list_any (same_part (Variable v)) parts ≡ true → KeepsValue k.place k.fixed)
    → AllOf (PartIsThere s) parts
parts_there l s fit [] h held = tt
parts_there l s fit (Variable v ∷ ps) h held =
    let known : IsKnown s v = fit.variables v (first_true (is_variable l v) (list_all (is_bound l) ps) h) in (
      record { known = known.known; there = known.there; keeps = held v known.known known.there (or_first (v == v) (list_any (same_part (Variable v)) ps) (same_number v)) },
      parts_there l s fit ps (second_true (is_bound l (Variable v)) (list_all (is_bound l) ps) h)
          (λ u k g e. held u k g (or_second (u == v) (list_any (same_part (Variable u)) ps) e)),
    )
parts_there l s fit (Exit x ∷ ps) h held = (
  fit.exits x (first_true (is_bound l (Exit x)) (list_all (is_bound l) ps) h),
  parts_there l s fit ps (second_true (is_bound l (Exit x)) (list_all (is_bound l) ps) h) held,
)
parts_there l s fit (Method ∷ ps) h held = (
  fit.method (first_true (is_bound l Method) (list_all (is_bound l) ps) h),
  parts_there l s fit ps (second_true (is_bound l Method) (list_all (is_bound l) ps) h) held,
)

-- exits that are around are bound
around_bound : (test : Option ExitForm → Bool) → test None ≡ false → (x : ℕ) (es : List NamedExit) → test (exit_around x es) ≡ true
    → list_any (λ (e : NamedExit). x == e.exit) es ≡ true
around_bound test none x [] h = absurd (let q : true ≡ false = sym h ∙ none in cc q)
around_bound test none x (e ∷ es) h = by (x == e.exit) (λ g. around_bound test none x es g) h
  where
    by : (b : Bool) → (test (exit_around x es) ≡ true → list_any (λ (e : NamedExit). x == e.exit) es ≡ true)
        → test (if b then Some e.around else exit_around x es) ≡ true → (b || list_any (λ (e : NamedExit). x == e.exit) es) ≡ true
    by true others g = refl
    by false others g = others g

pub block_around : (l : LexicalScope) (s : Scope) → ScopesFit l s → (x : ℕ) → is_block (exit_around x l.exits) ≡ true → IsAround s x
block_around l s fit x h = fit.exits x (around_bound is_block refl x l.exits h)

pub segment_around : (l : LexicalScope) (s : Scope) → ScopesFit l s → (x i : ℕ) → is_segment i (exit_around x l.exits) ≡ true → IsAround s x
segment_around l s fit x i h = fit.exits x (around_bound (is_segment i) refl x l.exits h)

-- scopes inside

variables_same : (bs : BindingForms) → variables_bound bs ≡ bound_variables bs
variables_same core.no_binding = refl
variables_same (core.binding_and v f bs) = ap (λ vs. v ∷ vs) (variables_same bs)

pub fit_bound : (l : LexicalScope) (s : Scope) → ScopesFit l s → (vs : List ℕ) (body : Form) → ScopesFit (standing.with_bound vs l) (with_bound vs body s)
fit_bound l s fit vs body = record {
  variables = λ v h.
      let r : KnownIn v (in_slots vs body s.slots ++ s.variables) =
      bound_known body s.variables l.variables v (λ g. ((fit.variables v g).known, (fit.variables v g).there)) vs s.slots h in
      record { known = r.0; there = r.1 };
  exits = λ x h. record { place = (fit.exits x h).place; there = (fit.exits x h).there };
  method = λ h. record { place = (fit.method h).place; there = (fit.method h).there };
}

pub fit_around : (l : LexicalScope) (s : Scope) → ScopesFit l s → (x : ℕ) (a : ExitForm) → ScopesFit (standing.with_around x a l) (with_around x s)
fit_around l s fit x a = record {
  variables = λ v h. record { known = (fit.variables v h).known; there = (fit.variables v h).there };
  exits = λ y h. of_or (y == x) (list_any (λ (e : NamedExit). y == e.exit) l.exits) h
      (λ t. record { place = _; there = under_first y x _ s.exits t })
      (λ f g. record { place = (fit.exits y g).place; there = under_after y x _ s.exits f ∙ (fit.exits y g).there });
  method = λ h. record { place = (fit.method h).place; there = (fit.method h).there };
}

filtered : {X : Type 0} (test p : X → Bool) (b : Bool) (xs : List X) → ((x : X) → test x ≡ true → p x ≡ b) → list_any test (filter p xs) ≡ true → b ≡ true
filtered test p b xs h e = first_true b (list_any test xs) (sym (any-filter_same test p b h xs) ∙ e)

pub fit_seen : (l : LexicalScope) (s : Scope) → ScopesFit l s → (parts : List Capture) → ScopesFit (standing.seen parts l) (seen s parts)
fit_seen l s fit parts = record {
  variables = λ v h.
      let r : KnownIn v (captured_variables s parts 0) =
      captured_known_there s v parts 0
      (filtered (λ w. v == w) (λ w. list_any (same_part (Variable w)) parts) (list_any (same_part (Variable v)) parts) l.variables
      (λ w e. ap (λ y. list_any (same_part (Variable y)) parts) (sym (eqb-true v w e))) h) in
      record { known = r.0; there = r.1 };
  exits = λ x h.
      let r : ExitKnownIn x (captured_exits parts 0) =
      captured_exit_there x parts 0
      (filtered (λ (e : NamedExit). x == e.exit) (λ (e : NamedExit). list_any (same_part (Exit e.exit)) parts) (list_any (same_part (Exit x)) parts) l.exits
      (λ w e. ap (λ y. list_any (same_part (Exit y)) parts) (sym (eqb-true x w.exit e))) h) in
      record { place = r.0; there = r.1 };
  method = λ h.
      let r : (p : MethodPlace) × (captured_method parts 0 ≡ Some p) = captured_method_there parts 0 (second_true l.in_method (list_any (same_part Method) parts) h) in
      record { place = r.0; there = r.1 };
}

-- the body of a `let`, and that of a function
pub let_fine : (l : LexicalScope) (s : Scope) (bs : BindingForms) (body : Form) → Fine l s (core.let_form bs body)
    → Fine (standing.with_bound (bound_variables bs) l) (with_bound (bound_variables bs) body s) body
let_fine l s bs body h = record {
  standing = subst (λ vs. stands (standing.with_bound vs l) body ≡ true) (variables_same bs)
      (first_true (stands (standing.with_bound (variables_bound bs) l) body) true (inner_true l (core.let_form bs body) h.standing));
  kept = λ v k u e. bound_kept body s.variables (bound_variables bs) s.slots v k
      (λ o g. h.kept v k g (sets_inner v (core.let_form bs body) (ap (λ vs. owns vs (Variable v)) (variables_same bs) ∙ o) (or_first (sets v body) false e))) u e;
  held = λ v k u e. bound_held body s.variables (bound_variables bs) s.slots v k
      (λ o g. h.held v k g (captures_inner (Variable v) (core.let_form bs body)
      (and_not (owns (variables_bound bs) (Variable v)) _ (ap (λ vs. owns vs (Variable v)) (variables_same bs) ∙ o) (or_first (captures (Variable v) body) false e)))) u e;
}

pub lambda_parts : (l : LexicalScope) (s : Scope) → ScopesFit l s → (required : List ℕ) (rest : Option ℕ) (body : Form) (parts : List Capture)
    → Fine l s (core.lambda required rest body parts) → AllOf (PartIsThere s) parts
lambda_parts l s fit required rest body parts h =
    parts_there l s fit parts
    (second_true (in_order parts) (list_all (is_bound l) parts)
    (first_true (in_order parts && list_all (is_bound l) parts) (list_all (is_free (parameters required rest) body) parts)
    (itself_true l (core.lambda required rest body parts) h.standing)))
    (λ v k g e. h.held v k g (captures_inner (Variable v) (core.lambda required rest body parts) e))

pub lambda_fine : (l : LexicalScope) (s : Scope) (required : List ℕ) (rest : Option ℕ) (body : Form) (parts : List Capture) → AllOf (PartIsThere s) parts
    → Fine l s (core.lambda required rest body parts)
    → Fine (standing.with_bound (parameters required rest) (standing.seen parts l)) (with_bound (parameters required rest) body (seen s parts)) body
lambda_fine l s required rest body parts there h = record {
  standing = first_true (stands (standing.with_bound (parameters required rest) (standing.seen parts l)) body) true (inner_true l (core.lambda required rest body parts) h.standing);
  kept = λ v k u e. bound_kept body (seen s parts).variables (parameters required rest) 0 v k
      (λ o g. let was : WasKnown s v k = was_known s v k parts there 0 g in
      ap (λ (q : Known). q.fixed) was.is
      ∙ h.kept v was.known was.there (sets_inner v (core.lambda required rest body parts) o (or_first (sets v body) false e))) u e;
  held = λ v k u e. bound_held body (seen s parts).variables (parameters required rest) 0 v k
      (λ o g. let was : WasKnown s v k = was_known s v k parts there 0 g in
      subst (λ (q : Known). KeepsValue q.place q.fixed) (sym was.is) (captured_holds was.known.place was.number was.known.fixed)) u e;
}

-- a body of which the variables are its own alone
pub own_fine : (vs : List ℕ) (m : Bool) (body : Form) → stands (standing.alone vs m) body ≡ true → (s : Scope) → s.variables ≡ []
    → Fine (standing.alone vs m) (with_bound vs body s) body
own_fine vs m body h s none = record {
  standing = h;
  kept = λ v k u e. bound_kept body s.variables vs s.slots v k (λ o g. absurd (let q : None ≡ Some k = ap (λ xs. under v xs) (sym none) ∙ g in cc q)) u e;
  held = λ v k u e. bound_held body s.variables vs s.slots v k (λ o g. absurd (let q : None ≡ Some k = ap (λ xs. under v xs) (sym none) ∙ g in cc q)) u e;
}

pub sets_here : (v : ℕ) (f : Form) → sets v (core.set_local v f) ≡ true
sets_here v f =
    sets_folded v (core.set_local v f)
    ∙ or_first (sets_itself v (core.set_local v f) || some (map (sets v) (outer (core.set_local v f)))) _
    (or_first (v == v) _ (same_number v))

-- the scope of a body with variables of its own alone
pub fit_alone : (vs : List ℕ) (m : Bool) (body : Form) → ScopesFit (standing.alone vs m) (with_bound vs body no_scope)
fit_alone vs m body = record {
  variables = λ v h.
      let r : KnownIn v (in_slots vs body 0 ++ []) =
      bound_known body [] [] v (λ g. absurd (cc g)) vs 0 (ap (list_any (λ w. v == w)) (append-nil vs) ∙ h) in
      record { known = r.0; there = r.1 };
  exits = λ x h. absurd (cc h);
  method = λ h. record { place = _; there = refl };
}
