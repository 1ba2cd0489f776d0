-- What a function captures: just the parts around it that its body mentions, in their order; so its body stands where only
-- these are seen.
use Rattle.std.proofs.Common.{◌≡◌, ◌+◌, ◌==◌, ◌≤◌, ◌<◌, ◌⊎◌, ⊎_elim, ℕ, Bool, true, false, not, ◌&&◌, List, [], ◌∷◌, ◌++◌, filter, if◌then◌else◌, map, refl, sym, ap, subst, ◌∙◌, arith}
use Rattle.std.specs.List.{list_all, list_any, filter_map}
use Rattle.std.proofs.lemmas.Bool.{eqb-true, eq-eqb, ne_eqb, lt-ltb}
use Rattle.std.proofs.lemmas.List.Folds.{list_any-append}
use Rattle.std.proofs.lemmas.Map.Views.{any-filter_same}
use Rattle.std.proofs.lemmas.Bool.{and_parts, and_from, or_left, or_right, or_cases}
use Rattle.base.specs.AllOf.{AllOf, all_both}
use Rattle.lang_meaning.specs.declared.capture.Capture.{Capture}
use Rattle.lang_meaning.specs.declared.capture.Capture.TheVariants as part
use Rattle.lang_meaning.specs.declared.scope.LexicalScope.{LexicalScope}
use Rattle.lang_meaning.specs.Form.{Form}
use Rattle.lang_meaning.specs.Mentions.{same_part, comes_before, is_next, in_order, owns, mentions}
use Rattle.lang_meaning.specs.Standing.{with_bound, is_variable, is_bound, seen, are_captured, stands}
use Rattle.front_profile.specs.declared.bound.Bound.{Bound}
use Rattle.front_profile.specs.declared.bound.Bound.TheVariants.{Variable, Function, Block, Tags}
use Rattle.front_profile.specs.Names.{variable_part, exit_part, method_part, parts_around}
use Rattle.front_profile.specs.Nodes.{StaticContext}
use Rattle.front_profile.specs.Scopes.{Provides, MentionsWithin}
use Rattle.front_profile.specs.Definitions.{Definitions}
use Rattle.front_profile.specs.Places.{variables_around, exit_at, exit_numbers, exit_of, exits_around, scope_of, Rises, WellFormedContext}
use Rattle.front_profile.proofs.Tests.{all_more}
use Rattle.front_profile.proofs.Enough.{enough, seen_variables, exit_some, exit_kept, no_exit, no_method}
use Rattle.front_profile.proofs.Places.{any_front, any_behind}

-- parts in their order

abbrev After : Capture → List Capture → Type 0
After p ps = AllOf (λ q. comes_before p q ≡ true) ps

abbrev Ordered : List Capture → Type 0
Ordered [] = Unit {0}
Ordered (p ∷ ps) = After p ps × Ordered ps

next_after : (p : Capture) (ps : List Capture) → After p ps → is_next p ps ≡ true
next_after p [] h = refl
next_after p (q ∷ qs) h = h.0

ordered_in_order : (ps : List Capture) → Ordered ps → in_order ps ≡ true
ordered_in_order [] h = refl
ordered_in_order (p ∷ ps) h = and_from _ _ (next_after p ps h.0) (ordered_in_order ps h.1)

-- what is kept of a list

each_if : {X : Type 0} (P : X → Type 0) (b : Bool) (x : X) (xs : List X) → P x → AllOf P xs → AllOf P (if b then x ∷ xs else xs)
each_if P true x xs h e = (h, e)
each_if P false x xs h e = e

pub each_kept : {X : Type 0} (P : X → Type 0) (q : X → Bool) (xs : List X) → AllOf P xs → AllOf P (filter q xs)
each_kept P q [] e = tt
each_kept P q (x ∷ xs) e = each_if P (q x) x (filter q xs) e.0 (each_kept P q xs e.1)

ordered_if : (b : Bool) (p : Capture) (ps : List Capture) → After p ps → Ordered ps → Ordered (if b then p ∷ ps else ps)
ordered_if true p ps h o = (h, o)
ordered_if false p ps h o = o

ordered_kept : (q : Capture → Bool) (ps : List Capture) → Ordered ps → Ordered (filter q ps)
ordered_kept q [] o = tt
ordered_kept q (p ∷ ps) o = ordered_if (q p) p (filter q ps) (each_kept _ q ps o.0) (ordered_kept q ps o.1)

ordered_both : (ps qs : List Capture) → Ordered ps → Ordered qs → AllOf (λ p. After p qs) ps → Ordered (ps ++ qs)
ordered_both [] qs o r a = r
ordered_both (p ∷ ps) qs o r a = (all_both _ ps qs o.0 a.0, ordered_both ps qs o.1 r a.1)

-- the parts around by their numbers

variable_parts : (bs : List Bound) → filter_map variable_part bs ≡ map part.Variable (variables_around bs)
variable_parts [] = refl
variable_parts (Variable x v ∷ bs) = ap (λ ps. part.Variable v ∷ ps) (variable_parts bs)
variable_parts (Function x v ∷ bs) = variable_parts bs
variable_parts (Block x e ∷ bs) = variable_parts bs
variable_parts (Tags xs e ∷ bs) = variable_parts bs

exit_parts : (bs : List Bound) → filter_map exit_part bs ≡ map part.Exit (exit_numbers bs)
exit_parts [] = refl
exit_parts (Variable x v ∷ bs) = exit_parts bs
exit_parts (Function x v ∷ bs) = exit_parts bs
exit_parts (Block x e ∷ bs) = ap (λ ps. part.Exit e ∷ ps) (exit_parts bs)
exit_parts (Tags xs e ∷ bs) = ap (λ ps. part.Exit e ∷ ps) (exit_parts bs)

abbrev parts_of : List ℕ → List ℕ → Bool → List Capture
parts_of vs es m = map part.Variable vs ++ (map part.Exit es ++ method_part m)

pub parts_numbered : (bs : List Bound) (m : Bool) → parts_around bs m ≡ parts_of (variables_around bs) (exit_numbers bs) m
parts_numbered bs m =
    ap (λ ps. ps ++ (filter_map exit_part bs ++ method_part m)) (variable_parts bs)
    ∙ ap (λ ps. map part.Variable (variables_around bs) ++ (ps ++ method_part m)) (exit_parts bs)

variables_after : (v low high : ℕ) (ns : List ℕ) → v < low → Rises low ns high → After (part.Variable v) (map part.Variable ns)
variables_after v low high [] l h = tt
variables_after v low high (n ∷ ns) l h = (lt-ltb v n (omega (arith, l, h.0)), variables_after v (n + 1) high ns (omega (arith, l, h.0)) h.1)

exits_after : (v low high : ℕ) (ns : List ℕ) → v < low → Rises low ns high → After (part.Exit v) (map part.Exit ns)
exits_after v low high [] l h = tt
exits_after v low high (n ∷ ns) l h = (lt-ltb v n (omega (arith, l, h.0)), exits_after v (n + 1) high ns (omega (arith, l, h.0)) h.1)

variables_ordered : (low high : ℕ) (ns : List ℕ) → Rises low ns high → Ordered (map part.Variable ns)
variables_ordered low high [] h = tt
variables_ordered low high (n ∷ ns) h = (variables_after n (n + 1) high ns (omega arith) h.1, variables_ordered (n + 1) high ns h.1)

exits_ordered : (low high : ℕ) (ns : List ℕ) → Rises low ns high → Ordered (map part.Exit ns)
exits_ordered low high [] h = tt
exits_ordered low high (n ∷ ns) h = (exits_after n (n + 1) high ns (omega arith) h.1, exits_ordered (n + 1) high ns h.1)

method_ordered : (m : Bool) → Ordered (method_part m)
method_ordered true = (tt, tt)
method_ordered false = tt

method_after : (e : ℕ) (m : Bool) → After (part.Exit e) (method_part m)
method_after e true = (refl, tt)
method_after e false = tt

exits_before_method : (es : List ℕ) (m : Bool) → AllOf (λ p. After p (method_part m)) (map part.Exit es)
exits_before_method [] m = tt
exits_before_method (e ∷ es) m = (method_after e m, exits_before_method es m)

behind_variable : (v : ℕ) (es : List ℕ) (m : Bool) → After (part.Variable v) (map part.Exit es ++ method_part m)
behind_variable v [] true = (refl, tt)
behind_variable v [] false = tt
behind_variable v (e ∷ es) m = (refl, behind_variable v es m)

variables_first : (vs es : List ℕ) (m : Bool) → AllOf (λ p. After p (map part.Exit es ++ method_part m)) (map part.Variable vs)
variables_first [] es m = tt
variables_first (v ∷ vs) es m = (behind_variable v es m, variables_first vs es m)

parts_ordered : (vs es : List ℕ) (m : Bool) (a b : ℕ) → Rises 0 vs a → Rises 0 es b → Ordered (parts_of vs es m)
parts_ordered vs es m a b h k =
    ordered_both (map part.Variable vs) (map part.Exit es ++ method_part m) (variables_ordered 0 a vs h)
    (ordered_both (map part.Exit es) (method_part m) (exits_ordered 0 b es k) (method_ordered m) (exits_before_method es m))
    (variables_first vs es m)

-- they are bound there

abbrev captured : Form → StaticContext → List Capture
captured body a = filter (λ p. mentions p body) (parts_around a.bound a.spot.in_method)

all_variables_bound : (s : LexicalScope) (vs : List ℕ) → ((v : ℕ) → list_any (λ w. v == w) vs ≡ true → is_variable s v ≡ true)
    → list_all (is_bound s) (map part.Variable vs) ≡ true
all_variables_bound s [] f = refl
all_variables_bound s (v ∷ vs) f =
    and_from _ _ (f v (or_left (v == v) _ (eq-eqb v v refl))) (all_variables_bound s vs (λ w h. f w (or_right (w == v) _ h)))

all_exits_bound : (s : LexicalScope) (es : List ℕ) → ((e : ℕ) → list_any (λ w. e == w) es ≡ true → is_bound s (part.Exit e) ≡ true)
    → list_all (is_bound s) (map part.Exit es) ≡ true
all_exits_bound s [] f = refl
all_exits_bound s (v ∷ vs) f =
    and_from _ _ (f v (or_left (v == v) _ (eq-eqb v v refl))) (all_exits_bound s vs (λ w h. f w (or_right (w == v) _ h)))

method_bound : (s : LexicalScope) (m : Bool) → s.in_method ≡ m → list_all (is_bound s) (method_part m) ≡ true
method_bound s true e = and_from _ _ e refl
method_bound s false e = refl

all_append : {X : Type 0} (p : X → Bool) (xs ys : List X) → list_all p xs ≡ true → list_all p ys ≡ true → list_all p (xs ++ ys) ≡ true
all_append p [] ys h k = k
all_append p (x ∷ xs) ys h k = let e : (p x ≡ true) × (list_all p xs ≡ true) = and_parts _ _ h in and_from _ _ e.0 (all_append p xs ys e.1 k)

exit_number_there : (e : ℕ) (bs : List Bound) → list_any (λ w. e == w) (exit_numbers bs) ≡ true → list_any (λ x. e == x.exit) (exits_around bs) ≡ true
exit_number_there e [] h = absurd (cc h)
exit_number_there e (Variable x v ∷ bs) h = any_front (λ x. e == x.exit) (exits_around bs) [] (exit_number_there e bs h)
exit_number_there e (Function x v ∷ bs) h = any_front (λ x. e == x.exit) (exits_around bs) [] (exit_number_there e bs h)
exit_number_there e (Block x n ∷ bs) h =
    ⊎_elim (λ k. any_behind (λ x. e == x.exit) (exits_around bs) (exit_of (Block x n)) (or_left (e == n) false k))
    (λ k. any_front (λ x. e == x.exit) (exits_around bs) (exit_of (Block x n)) (exit_number_there e bs k)) (or_cases (e == n) _ h)
exit_number_there e (Tags xs n ∷ bs) h =
    ⊎_elim (λ k. any_behind (λ x. e == x.exit) (exits_around bs) (exit_of (Tags xs n)) (or_left (e == n) false k))
    (λ k. any_front (λ x. e == x.exit) (exits_around bs) (exit_of (Tags xs n)) (exit_number_there e bs k)) (or_cases (e == n) _ h)

exit_number_at : (e : ℕ) (b : Bound) → list_any (λ x. e == x.exit) (exit_of b) ≡ true → list_any (λ w. e == w) (exit_at b) ≡ true
exit_number_at e (Variable x v) h = absurd (cc h)
exit_number_at e (Function x v) h = absurd (cc h)
exit_number_at e (Block x n) h = h
exit_number_at e (Tags xs n) h = h

pub any_cases : {X : Type 0} (p : X → Bool) (xs ys : List X) → list_any p (xs ++ ys) ≡ true → (list_any p xs ≡ true) ⊎ (list_any p ys ≡ true)
any_cases p xs ys h = or_cases (list_any p xs) (list_any p ys) (sym (list_any-append p xs ys) ∙ h)

number_of_exit : (e : ℕ) (bs : List Bound) → list_any (λ x. e == x.exit) (exits_around bs) ≡ true → list_any (λ w. e == w) (exit_numbers bs) ≡ true
number_of_exit e [] h = absurd (cc h)
number_of_exit e (b ∷ bs) h =
    ⊎_elim (λ k. any_behind (λ w. e == w) (exit_at b) (exit_numbers bs) (number_of_exit e bs k))
    (λ k. any_front (λ w. e == w) (exit_at b) (exit_numbers bs) (exit_number_at e b k))
    (any_cases (λ x. e == x.exit) (exits_around bs) (exit_of b) h)

parts_bound : (a : StaticContext) → list_all (is_bound (scope_of a)) (parts_around a.bound a.spot.in_method) ≡ true
parts_bound a =
    rw (parts_numbered a.bound a.spot.in_method)
    (all_append (is_bound (scope_of a)) (map part.Variable (variables_around a.bound)) _
    (all_variables_bound (scope_of a) (variables_around a.bound) (λ v h. h))
    (all_append (is_bound (scope_of a)) (map part.Exit (exit_numbers a.bound)) (method_part a.spot.in_method)
    (all_exits_bound (scope_of a) (exit_numbers a.bound) (λ e h. exit_number_there e a.bound h))
    (method_bound (scope_of a) a.spot.in_method refl)))

-- what is bound around is one of the parts around

variable_among : (v : ℕ) (vs : List ℕ) → list_any (λ w. v == w) vs ≡ true → list_any (same_part (part.Variable v)) (map part.Variable vs) ≡ true
variable_among v [] h = h
variable_among v (w ∷ ws) h =
    ⊎_elim (λ k. or_left (v == w) _ k) (λ k. or_right (v == w) _ (variable_among v ws k)) (or_cases (v == w) _ h)

exit_among : (v : ℕ) (vs : List ℕ) → list_any (λ w. v == w) vs ≡ true → list_any (same_part (part.Exit v)) (map part.Exit vs) ≡ true
exit_among v [] h = h
exit_among v (w ∷ ws) h =
    ⊎_elim (λ k. or_left (v == w) _ k) (λ k. or_right (v == w) _ (exit_among v ws k)) (or_cases (v == w) _ h)

method_among : (m : Bool) → m ≡ true → list_any (same_part part.Method) (method_part m) ≡ true
method_among true e = refl
method_among false e = absurd (cc e)

abbrev around_parts : StaticContext → List Capture
around_parts a = parts_around a.bound a.spot.in_method

numbered_among : (a : StaticContext) (p : Capture) → list_any (same_part p) (parts_of (variables_around a.bound) (exit_numbers a.bound) a.spot.in_method) ≡ true
    → list_any (same_part p) (around_parts a) ≡ true
numbered_among a p h = ap (list_any (same_part p)) (parts_numbered a.bound a.spot.in_method) ∙ h

variable_around : (a : StaticContext) (v : ℕ) → is_variable (scope_of a) v ≡ true → list_any (same_part (part.Variable v)) (around_parts a) ≡ true
variable_around a v h =
    numbered_among a (part.Variable v) (any_front _ (map part.Variable (variables_around a.bound)) _ (variable_among v (variables_around a.bound) h))

exit_around_part : (a : StaticContext) (e : ℕ) → list_any (λ x. e == x.exit) (exits_around a.bound) ≡ true → list_any (same_part (part.Exit e)) (around_parts a) ≡ true
exit_around_part a e h =
    numbered_among a (part.Exit e) (any_behind _ (map part.Variable (variables_around a.bound)) _
    (any_front _ (map part.Exit (exit_numbers a.bound)) (method_part a.spot.in_method) (exit_among e (exit_numbers a.bound) (number_of_exit e a.bound h))))

method_around : (a : StaticContext) → a.spot.in_method ≡ true → list_any (same_part part.Method) (around_parts a) ≡ true
method_around a h =
    numbered_among a part.Method (any_behind _ (map part.Variable (variables_around a.bound)) _
    (any_behind _ (map part.Exit (exit_numbers a.bound)) (method_part a.spot.in_method) (method_among a.spot.in_method h)))

equal_parts : (p q : Capture) → same_part p q ≡ true → p ≡ q
equal_parts (part.Variable v) (part.Variable w) h = ap part.Variable (eqb-true v w h)
equal_parts (part.Variable v) (part.Exit x) h = absurd (cc h)
equal_parts (part.Variable v) part.Method h = absurd (cc h)
equal_parts (part.Exit x) (part.Variable v) h = absurd (cc h)
equal_parts (part.Exit x) (part.Exit y) h = ap part.Exit (eqb-true x y h)
equal_parts (part.Exit x) part.Method h = absurd (cc h)
equal_parts part.Method (part.Variable v) h = absurd (cc h)
equal_parts part.Method (part.Exit x) h = absurd (cc h)
equal_parts part.Method part.Method h = refl

-- what is mentioned of it is captured
captured_among : (body : Form) (a : StaticContext) (p : Capture) → mentions p body ≡ true → list_any (same_part p) (around_parts a) ≡ true
    → list_any (same_part p) (captured body a) ≡ true
captured_among body a p m h =
    any-filter_same (same_part p) (λ q. mentions q body) (mentions p body)
    (λ q e. ap (λ r. mentions r body) (sym (equal_parts p q e))) (around_parts a)
    ∙ and_from _ _ m h

-- the body stands where just these are seen

kept_variable : (v : ℕ) (vs ws us : List ℕ) → (list_any (λ w. v == w) ws ≡ true → list_any (λ w. v == w) us ≡ true)
    → list_any (λ w. v == w) (vs ++ ws) ≡ true → list_any (λ w. v == w) (vs ++ us) ≡ true
kept_variable v vs ws us f h =
    ⊎_elim (λ k. any_front (λ w. v == w) vs us k) (λ k. any_behind (λ w. v == w) vs us (f k)) (any_cases (λ w. v == w) vs ws h)

seen_enough : (body : Form) (a : StaticContext) (vs : List ℕ) → MentionsWithin body (with_bound vs (scope_of a)) (with_bound vs (seen (captured body a) (scope_of a)))
seen_enough body a vs = record { provides = provides }
  where
    provides : (p : Capture) → mentions p body ≡ true → Provides (with_bound vs (scope_of a)) (with_bound vs (seen (captured body a) (scope_of a))) p
    provides (part.Variable v) m =
        kept_variable v vs (variables_around a.bound) (seen (captured body a) (scope_of a)).variables
        (λ h. seen_variables (captured body a) (scope_of a) v ∙ and_from _ _ (captured_among body a (part.Variable v) m (variable_around a v h)) h)
    provides (part.Exit x) m = λ kind h.
        exit_kept (λ y. list_any (same_part (part.Exit y)) (captured body a)) x (exits_around a.bound) kind
        (captured_among body a (part.Exit x) m (exit_around_part a x (exit_some x (exits_around a.bound) kind h))) h
    provides part.Method m = λ h. and_from _ _ h (captured_among body a part.Method m (method_around a h))

-- none is one of the function's own variables, which are newer

newer_apart : (n low : ℕ) (vs : List ℕ) → n < low → AllOf (λ v. low ≤ v) vs → list_any (λ v. n == v) vs ≡ false
newer_apart n low [] l e = refl
newer_apart n low (v ∷ vs) l e = rw (ne_eqb n v (λ k. omega (arith, k, l, e.0))) (newer_apart n low vs l e.1)

not_owned : (vs ns : List ℕ) (low high : ℕ) → AllOf (λ v. high ≤ v) vs → Rises low ns high → list_all (λ p. not (owns vs p)) (map part.Variable ns) ≡ true
not_owned vs [] low high e h = refl
not_owned vs (n ∷ ns) low high e h =
    and_from _ _ (ap not (newer_apart n high vs (below n ns high h.1) e)) (not_owned vs ns (n + 1) high e h.1)
  where
    below : (n : ℕ) (ns : List ℕ) (high : ℕ) → Rises (n + 1) ns high → n < high
    below n [] high h = omega (arith, h)
    below n (k ∷ ks) high h = let e : k < high = below k ks high h.1 in omega (arith, e, h.0)

no_exit_owned : (vs es : List ℕ) → list_all (λ p. not (owns vs p)) (map part.Exit es) ≡ true
no_exit_owned vs [] = refl
no_exit_owned vs (e ∷ es) = and_from _ _ (ap not (no_exit vs e)) (no_exit_owned vs es)

no_method_owned : (vs : List ℕ) (m : Bool) → list_all (λ p. not (owns vs p)) (method_part m) ≡ true
no_method_owned vs true = and_from _ _ (ap not (no_method vs)) refl
no_method_owned vs false = refl

none_owned : (g : Definitions) (a : StaticContext) (vs : List ℕ) → WellFormedContext g a → AllOf (λ v. g.variables ≤ v) vs → list_all (λ p. not (owns vs p)) (around_parts a) ≡ true
none_owned g a vs o e =
    ap (list_all (λ p. not (owns vs p))) (parts_numbered a.bound a.spot.in_method)
    ∙ all_append _ (map part.Variable (variables_around a.bound)) _ (not_owned vs (variables_around a.bound) 0 g.variables e o.variables)
    (all_append _ (map part.Exit (exit_numbers a.bound)) (method_part a.spot.in_method) (no_exit_owned vs (exit_numbers a.bound)) (no_method_owned vs a.spot.in_method))

all_if : {X : Type 0} (r q : X → Bool) (b : Bool) (x : X) (xs : List X) → q x ≡ b → r x ≡ true → list_all (λ y. r y && q y) xs ≡ true
    → list_all (λ y. r y && q y) (if b then x ∷ xs else xs) ≡ true
all_if r q true x xs e h k = and_from _ _ (and_from _ _ h e) k
all_if r q false x xs e h k = k

all_kept : {X : Type 0} (r q : X → Bool) (xs : List X) → list_all r xs ≡ true → list_all (λ y. r y && q y) (filter q xs) ≡ true
all_kept r q [] h = refl
all_kept r q (x ∷ xs) h =
    let e : (r x ≡ true) × (list_all r xs ≡ true) = and_parts _ _ h in all_if r q (q x) x (filter q xs) refl e.0 (all_kept r q xs e.1)

also_kept : {X : Type 0} (r q : X → Bool) (xs : List X) → list_all r xs ≡ true → list_all r (filter q xs) ≡ true
also_kept r q xs h = all_more (λ y. r y && q y) r (λ y e. (and_parts (r y) (q y) e).0) (filter q xs) (all_kept r q xs h)

-- a function captures what it has to
pub record IsCaptured (s : LexicalScope) (vs : List ℕ) (body : Form) (parts : List Capture) : Type 0 where
  pub captured : are_captured s vs body parts ≡ true
  pub stands : stands (with_bound vs (seen parts s)) body ≡ true

pub is_captured : (g : Definitions) (a : StaticContext) (vs : List ℕ) (body : Form) → WellFormedContext g a → AllOf (λ v. g.variables ≤ v) vs
    → stands (with_bound vs (scope_of a)) body ≡ true → IsCaptured (scope_of a) vs body (filter (λ p. mentions p body) (parts_around a.bound a.spot.in_method))
is_captured g a vs body o e h = record {
  captured = and_from _ _
      (and_from _ _
      (ordered_in_order (captured body a) (ordered_kept (λ p. mentions p body) (around_parts a)
      (subst Ordered (sym (parts_numbered a.bound a.spot.in_method))
      (parts_ordered (variables_around a.bound) (exit_numbers a.bound) a.spot.in_method g.variables g.exits o.variables o.exits))))
      (also_kept (is_bound (scope_of a)) (λ p. mentions p body) (around_parts a) (parts_bound a)))
      (all_kept (λ p. not (owns vs p)) (λ p. mentions p body) (around_parts a) (none_owned g a vs o e));
  stands = enough body _ _ (seen_enough body a vs) h;
}
