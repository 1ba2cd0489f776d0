-- A form stands in each scope that binds all that the form mentions.
use Rattle.std.proofs.Common.{◌≡◌, ◌==◌, ℕ, Bool, true, false, not, ◌&&◌, ◌||◌, List, [], ◌∷◌, ◌++◌, Option, Some, None, filter, refl, sym, ap, ◌∙◌}
use Rattle.std.specs.List.{list_all, list_any}
use Rattle.std.proofs.lemmas.Bool.{eqb-true, eq-eqb}
use Rattle.std.proofs.lemmas.Map.Views.{any-filter_same}
use Rattle.std.proofs.lemmas.Bool.{and_parts, and_from, or_left, or_right, not-true, or_from}
use Rattle.base.specs.AllOf.{AllOf}
use Rattle.lang_meaning.specs.declared.capture.Capture.{Capture}
use Rattle.lang_meaning.specs.declared.capture.Capture.TheVariants.{Variable, Exit, Method}
use Rattle.lang_meaning.specs.declared.scope.ExitForm.{ExitForm}
use Rattle.lang_meaning.specs.declared.scope.ExitForm.TheVariants.{Block, Tagbody}
use Rattle.lang_meaning.specs.declared.scope.NamedExit.{NamedExit}
use Rattle.lang_meaning.specs.declared.scope.LexicalScope.{LexicalScope}
use Rattle.lang_meaning.specs.Form.{Form, local, set_local, let_form, lambda, block, return_from, tagbody, go, next_method, has_next, parameters}
use Rattle.lang_meaning.specs.Subforms.{outer, inner}
use Rattle.lang_meaning.specs.Counts.{count_forms}
use Rattle.lang_meaning.specs.Mentions.{same_part, owns, in_order, variables_bound, binds, names_part, mentions}
use Rattle.lang_meaning.specs.Standing.{with_bound, with_around, is_variable, exit_around, is_block, is_segment, is_bound, seen, is_free, around_inner, stands_itself, stands}
use Rattle.lang_meaning.specs.bridge.Walks.{by_subforms}
use Rattle.lang_meaning.specs.bridge.Judged.{mentions_folded, stands_folded}
use Rattle.front_profile.specs.Scopes.{Provides, ScopeWithin, MentionsWithin}
use Rattle.front_profile.proofs.Tests.{or_else}

pub same_number : (n : ℕ) → (n == n) ≡ true
same_number n = eq-eqb n n refl

-- what a form mentions

pub names_mentioned : (p : Capture) (f : Form) → names_part p f ≡ true → mentions p f ≡ true
names_mentioned p f h = mentions_folded p f ∙ or_left _ _ (or_left _ _ h)

pub outer_mentioned : (p : Capture) (f : Form) → list_any (mentions p) (outer f) ≡ true → mentions p f ≡ true
outer_mentioned p f h = mentions_folded p f ∙ or_left _ _ (or_right (names_part p f) _ h)

pub inner_mentioned : (p : Capture) (f : Form) → binds p f ≡ false → list_any (mentions p) (inner f) ≡ true → mentions p f ≡ true
inner_mentioned p f b h =
    mentions_folded p f ∙ or_right (names_part p f || list_any (mentions p) (outer f)) _ (and_from (not (binds p f)) _ (ap not b) h)

-- variables and exits among others

under : (v : ℕ) (vs ws us : List ℕ) → (list_any (λ w. v == w) vs ≡ false → list_any (λ w. v == w) ws ≡ true → list_any (λ w. v == w) us ≡ true)
    → list_any (λ w. v == w) (vs ++ ws) ≡ true → list_any (λ w. v == w) (vs ++ us) ≡ true
under v [] ws us f h = f refl h
under v (w ∷ vs) ws us f h =
    or_else (v == w) _ _ (λ e. under v vs ws us (λ g. f (or_from (v == w) (list_any (λ w. v == w) vs) e g))) h

pub no_exit : (vs : List ℕ) (x : ℕ) → owns vs (Exit x) ≡ false
no_exit [] x = refl
no_exit (v ∷ vs) x = no_exit vs x

pub no_method : (vs : List ℕ) → owns vs Method ≡ false
no_method [] = refl
no_method (v ∷ vs) = no_method vs

-- a variable is seen where it is bound and captured
abbrev seen_variable : List Capture → ℕ → Bool
seen_variable parts v = list_any (same_part (Variable v)) parts

abbrev seen_exit : List Capture → ℕ → Bool
seen_exit parts x = list_any (same_part (Exit x)) parts

pub seen_variables : (parts : List Capture) (s : LexicalScope) (v : ℕ)
    → is_variable (seen parts s) v ≡ (list_any (same_part (Variable v)) parts && is_variable s v)
seen_variables parts s v =
    any-filter_same (λ w. v == w) (seen_variable parts) (seen_variable parts v)
    (λ w e. ap (seen_variable parts) (sym (eqb-true v w e))) s.variables

-- a list of exits, some of which are seen

kept_front : (q : ℕ → Bool) (x : ℕ) (e : NamedExit) (es : List NamedExit) (a : ExitForm) (b c : Bool) → q e.exit ≡ b → (x == e.exit) ≡ c
    → (exit_around x (filter (λ f. q f.exit) es) ≡ Some a → (q x ≡ true) × (exit_around x es ≡ Some a))
    → exit_around x (filter (λ f. q f.exit) (e ∷ es)) ≡ Some a → (q x ≡ true) × (exit_around x (e ∷ es) ≡ Some a)
kept_front q x e es a true true k g more h =
    let same : x ≡ e.exit = eqb-true x e.exit g in (ap q same ∙ k, rw g (rw (k, g) at h))
kept_front q x e es a true false k g more h =
    let r : (q x ≡ true) × (exit_around x es ≡ Some a) = more (rw (k, g) at h) in (r.0, rw g r.1)
kept_front q x e es a false true k g more h =
    let r : (q x ≡ true) × (exit_around x es ≡ Some a) = more (rw k at h) in
    let same : x ≡ e.exit = eqb-true x e.exit g in
    let same_test : q x ≡ q e.exit = ap q same in
    absurd (cc (r.0, same_test, k))
kept_front q x e es a false false k g more h =
    let r : (q x ≡ true) × (exit_around x es ≡ Some a) = more (rw k at h) in (r.0, rw g r.1)

kept_exit : (q : ℕ → Bool) (x : ℕ) (es : List NamedExit) (a : ExitForm) → exit_around x (filter (λ e. q e.exit) es) ≡ Some a
    → (q x ≡ true) × (exit_around x es ≡ Some a)
kept_exit q x [] a h = absurd (cc h)
kept_exit q x (e ∷ es) a h = kept_front q x e es a (q e.exit) (x == e.exit) refl refl (kept_exit q x es a) h

front_kept : (q : ℕ → Bool) (x : ℕ) (e : NamedExit) (es : List NamedExit) (a : ExitForm) (b c : Bool) → q e.exit ≡ b → (x == e.exit) ≡ c → q x ≡ true
    → (exit_around x es ≡ Some a → exit_around x (filter (λ f. q f.exit) es) ≡ Some a)
    → exit_around x (e ∷ es) ≡ Some a → exit_around x (filter (λ f. q f.exit) (e ∷ es)) ≡ Some a
front_kept q x e es a true true k g t more h = rw (k, g) (rw g at h)
front_kept q x e es a true false k g t more h = rw (k, g) (more (rw g at h))
front_kept q x e es a false true k g t more h =
    let same : q x ≡ q e.exit = ap q (eqb-true x e.exit g) in absurd (cc (t, same, k))
front_kept q x e es a false false k g t more h = rw k (more (rw g at h))

pub exit_kept : (q : ℕ → Bool) (x : ℕ) (es : List NamedExit) (a : ExitForm) → q x ≡ true → exit_around x es ≡ Some a
    → exit_around x (filter (λ e. q e.exit) es) ≡ Some a
exit_kept q x [] a g h = absurd (cc h)
exit_kept q x (e ∷ es) a g h = front_kept q x e es a (q e.exit) (x == e.exit) refl refl g (exit_kept q x es a g) h

-- what is around the inner forms

seen_provides : (parts : List Capture) (s t : LexicalScope) (p : Capture) → Provides s t p → Provides (seen parts s) (seen parts t) p
seen_provides parts s t (Variable v) h = λ k.
    let e : (list_any (same_part (Variable v)) parts ≡ true) × (is_variable s v ≡ true) = and_parts _ _ (sym (seen_variables parts s v) ∙ k) in
    seen_variables parts t v ∙ and_from _ _ e.0 (h e.1)
seen_provides parts s t (Exit x) h = λ a k.
    let e : (seen_exit parts x ≡ true) × (exit_around x s.exits ≡ Some a) = kept_exit (seen_exit parts) x s.exits a k in
    exit_kept (seen_exit parts) x t.exits a e.0 (h a e.1)
seen_provides parts s t Method h = λ k.
    let e : (s.in_method ≡ true) × (list_any (same_part Method) parts ≡ true) = and_parts _ _ k in
    and_from _ _ (h e.0) e.1

bound_provides : (vs : List ℕ) (s t : LexicalScope) (p : Capture) → (owns vs p ≡ false → Provides s t p) → Provides (with_bound vs s) (with_bound vs t) p
bound_provides vs s t (Variable v) h = under v vs s.variables t.variables h
bound_provides vs s t (Exit x) h = h (no_exit vs x)
bound_provides vs s t Method h = h (no_method vs)

front_same : (x : ℕ) (kind : ExitForm) (y : ℕ) (s t : LexicalScope) (a : ExitForm) (b : Bool) → (y == x) ≡ b
    → ((y == x) ≡ false → (c : ExitForm) → exit_around y s.exits ≡ Some c → exit_around y t.exits ≡ Some c)
    → exit_around y (record { exit = x; around = kind } ∷ s.exits) ≡ Some a → exit_around y (record { exit = x; around = kind } ∷ t.exits) ≡ Some a
front_same x kind y s t a true e h k = rw e (rw e at k)
front_same x kind y s t a false e h k = rw e (h e a (rw e at k))

around_provides : (x : ℕ) (kind : ExitForm) (s t : LexicalScope) (p : Capture) → (same_part p (Exit x) ≡ false → Provides s t p)
    → Provides (with_around x kind s) (with_around x kind t) p
around_provides x kind s t (Variable v) h = h refl
around_provides x kind s t Method h = h refl
around_provides x kind s t (Exit y) h = λ a k. front_same x kind y s t a (y == x) refl h k

inner_provides : (f : Form) (s t : LexicalScope) (p : Capture) → (binds p f ≡ false → Provides s t p) → Provides (around_inner f s) (around_inner f t) p
inner_provides (let_form bs body) s t p h = bound_provides (variables_bound bs) s t p h
inner_provides (lambda required rest body parts) s t p h =
    bound_provides (parameters required rest) (seen parts s) (seen parts t) p (λ e. seen_provides parts s t p (h e))
inner_provides (block x body) s t p h = around_provides x Block s t p h
inner_provides (tagbody x segments) s t p h = around_provides x (Tagbody (count_forms segments)) s t p h
inner_provides f s t p h = h refl

-- what a form names itself

block_there : (o : Option ExitForm) → is_block o ≡ true → o ≡ Some Block
block_there None h = absurd (cc h)
block_there (Some Block) h = refl
block_there (Some (Tagbody n)) h = absurd (cc h)

exit_of_front : (x : ℕ) (e : NamedExit) (es : List NamedExit) (b : Bool) → (x == e.exit) ≡ b
    → (list_any (λ f. x == f.exit) es ≡ true → (a : ExitForm) × (exit_around x es ≡ Some a))
    → list_any (λ f. x == f.exit) (e ∷ es) ≡ true → (a : ExitForm) × (exit_around x (e ∷ es) ≡ Some a)
exit_of_front x e es true k more h = (e.around, rw k refl)
exit_of_front x e es false k more h = let r : (a : ExitForm) × (exit_around x es ≡ Some a) = more (rw k at h) in (r.0, rw k r.1)

some_exit : (x : ℕ) (es : List NamedExit) → list_any (λ e. x == e.exit) es ≡ true → (a : ExitForm) × (exit_around x es ≡ Some a)
some_exit x [] h = absurd (cc h)
some_exit x (e ∷ es) h = exit_of_front x e es (x == e.exit) refl (some_exit x es) h

front_of_exit : (x : ℕ) (e : NamedExit) (es : List NamedExit) (a : ExitForm) (b : Bool) → (x == e.exit) ≡ b
    → (exit_around x es ≡ Some a → list_any (λ f. x == f.exit) es ≡ true)
    → exit_around x (e ∷ es) ≡ Some a → list_any (λ f. x == f.exit) (e ∷ es) ≡ true
front_of_exit x e es a true k more h = or_left _ _ k
front_of_exit x e es a false k more h = or_right (x == e.exit) _ (more (rw k at h))

pub exit_some : (x : ℕ) (es : List NamedExit) (a : ExitForm) → exit_around x es ≡ Some a → list_any (λ e. x == e.exit) es ≡ true
exit_some x [] a h = absurd (cc h)
exit_some x (e ∷ es) a h = front_of_exit x e es a (x == e.exit) refl (exit_some x es a) h

pub bound_there : (s t : LexicalScope) (p : Capture) → Provides s t p → is_bound s p ≡ true → is_bound t p ≡ true
bound_there s t (Variable v) h k = h k
bound_there s t (Exit x) h k = let e : (a : ExitForm) × (exit_around x s.exits ≡ Some a) = some_exit x s.exits k in exit_some x t.exits e.0 (h e.0 e.1)
bound_there s t Method h k = h k

all_bound_there : (vs : List ℕ) (body : Form) (s t : LexicalScope) (parts : List Capture) → ((p : Capture) → is_free vs body p ≡ true → Provides s t p)
    → list_all (is_bound s) parts ≡ true → list_all (is_free vs body) parts ≡ true → list_all (is_bound t) parts ≡ true
all_bound_there vs body s t [] h k g = refl
all_bound_there vs body s t (p ∷ ps) h k g =
    let a : (is_bound s p ≡ true) × (list_all (is_bound s) ps ≡ true) = and_parts _ _ k in
    let b : (is_free vs body p ≡ true) × (list_all (is_free vs body) ps ≡ true) = and_parts _ _ g in
    and_from _ _ (bound_there s t p (h p b.0) a.0) (all_bound_there vs body s t ps h a.1 b.1)

segment_there : (segment : ℕ) (o u : Option ExitForm) → ((a : ExitForm) → o ≡ Some a → u ≡ Some a) → is_segment segment o ≡ true → is_segment segment u ≡ true
segment_there segment None u h k = absurd (cc k)
segment_there segment (Some a) u h k = ap (is_segment segment) (h a refl) ∙ k

itself : (f : Form) (s t : LexicalScope) → MentionsWithin f s t → stands_itself s f ≡ true → stands_itself t f ≡ true
itself (local v) s t m h = m.provides (Variable v) (names_mentioned (Variable v) (local v) (same_number v)) h
itself (set_local v f) s t m h = m.provides (Variable v) (names_mentioned (Variable v) (set_local v f) (same_number v)) h
itself (lambda required rest body parts) s t m h =
    let a : ((in_order parts && list_all (is_bound s) parts) ≡ true) × (list_all (is_free (parameters required rest) body) parts ≡ true) = and_parts _ _ h in
    let b : (in_order parts ≡ true) × (list_all (is_bound s) parts ≡ true) = and_parts _ _ a.0 in
    let f : Form = lambda required rest body parts in
    and_from _ _ (and_from _ _ b.0 (all_bound_there (parameters required rest) body s t parts
    (λ p k.
    let c : (not (owns (parameters required rest) p) ≡ true) × (mentions p body ≡ true) = and_parts _ _ k in
    m.provides p (inner_mentioned p f (not-true _ c.0) (or_left (mentions p body) false c.1)))
    b.1 a.1)) a.1
itself (return_from x f) s t m h =
    let there : exit_around x s.exits ≡ Some Block = block_there _ h in
    ap is_block (m.provides (Exit x) (names_mentioned (Exit x) (return_from x f) (same_number x)) Block there)
itself (go x segment) s t m h = segment_there segment _ _ (m.provides (Exit x) (names_mentioned (Exit x) (go x segment) (same_number x))) h
itself next_method s t m h = m.provides Method (names_mentioned Method next_method refl) h
itself has_next s t m h = m.provides Method (names_mentioned Method has_next refl) h
itself f s t m h = refl

-- the induction

abbrev Enough : Form → Type 0
Enough f = (s t : LexicalScope) → MentionsWithin f s t → stands s f ≡ true → stands t f ≡ true

each_enough : (s t : LexicalScope) (fs : List Form) → AllOf Enough fs → ((p : Capture) → list_any (mentions p) fs ≡ true → Provides s t p)
    → list_all (stands s) fs ≡ true → list_all (stands t) fs ≡ true
each_enough s t [] e m h = refl
each_enough s t (f ∷ fs) e m h =
    let a : (stands s f ≡ true) × (list_all (stands s) fs ≡ true) = and_parts _ _ h in
    and_from _ _ (e.0 s t (record { provides = λ p k. m p (or_left _ _ k) }) a.0)
    (each_enough s t fs e.1 (λ p k. m p (or_right (mentions p f) _ k)) a.1)

one_step : (f : Form) → AllOf Enough (outer f) → AllOf Enough (inner f) → Enough f
one_step f os is s t m h =
    let a : ((stands_itself s f && list_all (stands s) (outer f)) ≡ true) × (list_all (stands (around_inner f s)) (inner f) ≡ true) =
    and_parts _ _ (sym (stands_folded s f) ∙ h) in
    let b : (stands_itself s f ≡ true) × (list_all (stands s) (outer f) ≡ true) = and_parts _ _ a.0 in
    stands_folded t f ∙ and_from _ _
    (and_from _ _ (itself f s t m b.0) (each_enough s t (outer f) os (λ p k. m.provides p (outer_mentioned p f k)) b.1))
    (each_enough (around_inner f s) (around_inner f t) (inner f) is
    (λ p k. inner_provides f s t p (λ e. m.provides p (inner_mentioned p f e k))) a.1)

pub enough : (f : Form) (s t : LexicalScope) → MentionsWithin f s t → stands s f ≡ true → stands t f ≡ true
enough f = by_subforms Enough one_step f

pub stands_within : (s t : LexicalScope) (f : Form) → ScopeWithin s t → stands s f ≡ true → stands t f ≡ true
stands_within s t f w h = enough f s t (record { provides = λ p k. w.provides p }) h
