-- Places: what is looked up there is bound in their scopes, and places that a form makes inside are good again.
use Rattle.std.proofs.Common.{◌≡◌, ◌+◌, ◌==◌, ◌≤◌, ◌<◌, ℕ, Bool, true, false, ◌||◌, List, [], ◌∷◌, ◌++◌, length, Option, Some, None, if◌then◌else◌, refl, sym, ap, subst, ◌∙◌, arith, append_assoc, append-nil}
use Rattle.std.specs.List.{list_any}
use Rattle.std.proofs.lemmas.Bool.{eq-eqb, ne_eqb, lt-ltb}
use Rattle.std.proofs.lemmas.Bool.{or_left, or_right}
use Rattle.base.specs.declared.datum.Symbol.{Symbol}
use Rattle.base.specs.AllOf.{AllOf}
use Rattle.lang_meaning.specs.declared.scope.ExitForm.{ExitForm as Kind}
use Rattle.lang_meaning.specs.declared.scope.ExitForm.TheVariants as exit
use Rattle.lang_meaning.specs.declared.scope.NamedExit.{NamedExit}
use Rattle.lang_meaning.specs.Standing.{exit_around, is_segment}
use Rattle.front_profile.specs.declared.bound.Bound.{Bound}
use Rattle.front_profile.specs.declared.bound.Bound.TheVariants.{Variable, Function, Block, Tags}
use Rattle.front_profile.specs.declared.bound.Target.{Target}
use Rattle.front_profile.specs.Names.{same_symbol, given_by, as_variable, as_function, as_block, as_tag, target_among, or_first, variable_of, function_of, block_of, tag_of}
use Rattle.front_profile.specs.Places.{variable_at, variables_around, exit_at, exit_numbers, exit_of, exits_around, Rises, FunctionThere}

-- numbers that rise

pub rises_longer : (low : ℕ) (ns : List ℕ) (m n : ℕ) → m ≤ n → Rises low ns m → Rises low ns n
rises_longer low [] m n l h = omega (arith, h)
rises_longer low (k ∷ ks) m n l h = (h.0, rises_longer (k + 1) ks m n l h.1)

pub rises_push : (low : ℕ) (ns : List ℕ) (n : ℕ) → Rises low ns n → Rises low (ns ++ n ∷ []) (n + 1)
rises_push low [] n h = (h, omega arith)
rises_push low (k ∷ ks) n h = (h.0, rises_push (k + 1) ks n h.1)

rest_rises : (low : ℕ) (ks ns : List ℕ) (n : ℕ) → Rises low (ks ++ ns) n → (l : ℕ) × Rises l ns n
rest_rises low [] ns n h = (low, h)
rest_rises low (k ∷ ks) ns n h = rest_rises (k + 1) ks ns n h.1

-- what is appended

pub variables_append : (bs cs : List Bound) → variables_around (bs ++ cs) ≡ variables_around bs ++ variables_around cs
variables_append [] cs = refl
variables_append (b ∷ bs) cs = ap (λ ns. variable_at b ++ ns) (variables_append bs cs) ∙ sym (append_assoc (variable_at b) (variables_around bs) (variables_around cs))

pub exit_numbers_append : (bs cs : List Bound) → exit_numbers (bs ++ cs) ≡ exit_numbers bs ++ exit_numbers cs
exit_numbers_append [] cs = refl
exit_numbers_append (b ∷ bs) cs = ap (λ ns. exit_at b ++ ns) (exit_numbers_append bs cs) ∙ sym (append_assoc (exit_at b) (exit_numbers bs) (exit_numbers cs))

pub exits_append : (bs cs : List Bound) → exits_around (bs ++ cs) ≡ exits_around cs ++ exits_around bs
exits_append [] cs = sym (append-nil (exits_around cs))
exits_append (b ∷ bs) cs = ap (λ es. es ++ exit_of b) (exits_append bs cs) ∙ append_assoc (exits_around cs) (exits_around bs) (exit_of b)

pub any_front : {X : Type 0} (p : X → Bool) (xs ys : List X) → list_any p xs ≡ true → list_any p (xs ++ ys) ≡ true
any_front p [] ys h = absurd (cc h)
any_front p (x ∷ xs) ys h = front (p x) (list_any p xs) (list_any p (xs ++ ys)) (any_front p xs ys) h
  where
    front : (a b c : Bool) → (b ≡ true → c ≡ true) → (a || b) ≡ true → (a || c) ≡ true
    front true b c f h = refl
    front false b c f h = f h

pub any_behind : {X : Type 0} (p : X → Bool) (xs ys : List X) → list_any p ys ≡ true → list_any p (xs ++ ys) ≡ true
any_behind p [] ys h = h
any_behind p (x ∷ xs) ys h = or_right (p x) _ (any_behind p xs ys h)

pub function_there_more : (vs ws : List ℕ) → ((v : ℕ) → list_any (λ w. v == w) vs ≡ true → list_any (λ w. v == w) ws ≡ true)
    → (b : Bound) → FunctionThere vs b → FunctionThere ws b
function_there_more vs ws f (Function x v) h = f v h
function_there_more vs ws f (Variable x v) h = tt
function_there_more vs ws f (Block x v) h = tt
function_there_more vs ws f (Tags x v) h = tt

-- exits behind exits

exit_front : (x : ℕ) (es fs : List NamedExit) (a : Kind) → exit_around x es ≡ Some a → exit_around x (es ++ fs) ≡ Some a
exit_front x [] fs a h = absurd (cc h)
exit_front x (e ∷ es) fs a h = front (x == e.exit) e.around (exit_around x es) (exit_around x (es ++ fs)) (exit_front x es fs a) h
  where
    front : (b : Bool) (k : Kind) (o u : Option Kind) → (o ≡ Some a → u ≡ Some a) → (if b then Some k else o) ≡ Some a → (if b then Some k else u) ≡ Some a
    front true k o u f h = h
    front false k o u f h = f h

exit_behind : (x : ℕ) (es fs : List NamedExit) → exit_around x es ≡ None → exit_around x (es ++ fs) ≡ exit_around x fs
exit_behind x [] fs h = refl
exit_behind x (e ∷ es) fs h = front (x == e.exit) e.around (exit_around x es) (exit_around x (es ++ fs)) (exit_behind x es fs) h
  where
    front : (b : Bool) (k : Kind) (o u : Option Kind) → (o ≡ None → u ≡ exit_around x fs) → (if b then Some k else o) ≡ None → (if b then Some k else u) ≡ exit_around x fs
    front true k o u f h = absurd (cc h)
    front false k o u f h = f h

differ : (x y : ℕ) → x < y → (x == y) ≡ false
differ x y l = ne_eqb x y (λ e. omega (arith, e))

one_other : (x y : ℕ) (kind : Kind) → x < y → exit_around x (record { exit = y; around = kind } ∷ []) ≡ None
one_other x y kind l = rw (differ x y l) refl

none_lower : (x low high : ℕ) (bs : List Bound) → x < low → Rises low (exit_numbers bs) high → exit_around x (exits_around bs) ≡ None
none_lower x low high [] l h = refl
none_lower x low high (Variable y v ∷ bs) l h = exit_behind x (exits_around bs) [] (none_lower x low high bs l h)
none_lower x low high (Function y v ∷ bs) l h = exit_behind x (exits_around bs) [] (none_lower x low high bs l h)
none_lower x low high (Block y e ∷ bs) l h =
    exit_behind x (exits_around bs) _ (none_lower x (e + 1) high bs (omega (arith, l, h.0)) h.1) ∙ one_other x e _ (omega (arith, l, h.0))
none_lower x low high (Tags ys e ∷ bs) l h =
    exit_behind x (exits_around bs) _ (none_lower x (e + 1) high bs (omega (arith, l, h.0)) h.1) ∙ one_other x e _ (omega (arith, l, h.0))

-- names looked up

first_cases : {X : Type 0} {C : Type 0} (o u : Option X) (x : X) → or_first o u ≡ Some x → (o ≡ Some x → C) → (u ≡ Some x → C) → C
first_cases None u x h f g = g h
first_cases (Some y) u x h f g = f h

given : (x y : Symbol) (n v : ℕ) → given_by x y n ≡ Some v → n ≡ v
given x y n v h = by_test (same_symbol x y) h
  where
    by_test : (b : Bool) → (if b then Some n else None) ≡ Some v → n ≡ v
    by_test true h = cc h
    by_test false h = absurd (cc h)

same_test : (n v : ℕ) → n ≡ v → (v == n) ≡ true
same_test n v e = rw e (same v)
  where
    same : (v : ℕ) → (v == v) ≡ true
    same v = eq-eqb v v refl

variable_given : (x : Symbol) (b : Bound) (v : ℕ) → as_variable x b ≡ Some v → list_any (λ w. v == w) (variable_at b) ≡ true
variable_given x (Variable y n) v h = or_left (v == n) false (same_test n v (given x y n v h))
variable_given x (Function y n) v h = absurd (cc h)
variable_given x (Block y n) v h = absurd (cc h)
variable_given x (Tags ys n) v h = absurd (cc h)

pub variable_there : (x : Symbol) (bs : List Bound) (v : ℕ) → variable_of bs x ≡ Some v → list_any (λ w. v == w) (variables_around bs) ≡ true
variable_there x [] v h = absurd (cc h)
variable_there x (b ∷ bs) v h =
    first_cases (variable_of bs x) (as_variable x b) v h
    (λ e. any_behind (λ w. v == w) (variable_at b) (variables_around bs) (variable_there x bs v e))
    (λ e. any_front (λ w. v == w) (variable_at b) (variables_around bs) (variable_given x b v e))

function_given : (x : Symbol) (vs : List ℕ) (b : Bound) (v : ℕ) → FunctionThere vs b → as_function x b ≡ Some v → list_any (λ w. v == w) vs ≡ true
function_given x vs (Function y n) v f h = let e : n ≡ v = given x y n v h in subst (λ (k : ℕ). list_any (λ w. k == w) vs ≡ true) e f
function_given x vs (Variable y n) v f h = absurd (cc h)
function_given x vs (Block y n) v f h = absurd (cc h)
function_given x vs (Tags ys n) v f h = absurd (cc h)

pub function_there : (x : Symbol) (vs : List ℕ) (bs : List Bound) (v : ℕ) → AllOf (FunctionThere vs) bs → function_of bs x ≡ Some v
    → list_any (λ w. v == w) vs ≡ true
function_there x vs [] v f h = absurd (cc h)
function_there x vs (b ∷ bs) v f h =
    first_cases (function_of bs x) (as_function x b) v h
    (λ e. function_there x vs bs v f.1 e) (λ e. function_given x vs b v f.0 e)

-- an exit that a bound gives, where those behind it are newer
exit_given : (b : Bound) (bs : List Bound) (low high e : ℕ) (kind : Kind) → exit_of b ≡ (record { exit = e; around = kind } ∷ []) → exit_at b ≡ (e ∷ [])
    → Rises low (exit_at b ++ exit_numbers bs) high → exit_around e (exits_around bs ++ exit_of b) ≡ Some kind
exit_given b bs low high e kind p q h =
    let r : Rises low (e ∷ exit_numbers bs) high = subst (λ ns. Rises low (ns ++ exit_numbers bs) high) q h in
    let here : exit_around e (record { exit = e; around = kind } ∷ []) ≡ Some kind = rw (same_test e e refl) refl in
    ap (λ es. exit_around e (exits_around bs ++ es)) p
    ∙ exit_behind e (exits_around bs) (record { exit = e; around = kind } ∷ []) (none_lower e (e + 1) high bs (omega arith) r.1) ∙ here

block_given : (x : Symbol) (b : Bound) (bs : List Bound) (low high e : ℕ) → as_block x b ≡ Some e → Rises low (exit_at b ++ exit_numbers bs) high
    → exit_around e (exits_around bs ++ exit_of b) ≡ Some exit.Block
block_given x (Block y n) bs low high e h r =
    let same : n ≡ e = given x y n e h in
    exit_given (Block y n) bs low high e exit.Block (ap (λ k. record { exit = k; around = exit.Block } ∷ []) same) (ap (λ k. k ∷ []) same) r
block_given x (Variable y n) bs low high e h r = absurd (cc h)
block_given x (Function y n) bs low high e h r = absurd (cc h)
block_given x (Tags ys n) bs low high e h r = absurd (cc h)

pub block_there : (x : Symbol) (bs : List Bound) (low high e : ℕ) → Rises low (exit_numbers bs) high → block_of bs x ≡ Some e
    → exit_around e (exits_around bs) ≡ Some exit.Block
block_there x [] low high e r h = absurd (cc h)
block_there x (b ∷ bs) low high e r h =
    let rest : (l : ℕ) × Rises l (exit_numbers bs) high = rest_rises low (exit_at b) (exit_numbers bs) high r in
    first_cases (block_of bs x) (as_block x b) e h
    (λ k. exit_front e (exits_around bs) (exit_of b) exit.Block (block_there x bs rest.0 high e rest.1 k))
    (λ k. block_given x b bs low high e k r)

-- a tag stands among the tags

among : (x : Symbol) (e n : ℕ) (ys : List Symbol) (t : Target) → target_among x e n ys ≡ Some t → (t.exit ≡ e) × (t.segment < n + length ys)
among x e n [] t h = absurd (cc h)
among x e n (y ∷ ys) t h = by_test (same_symbol x y) (among x e (n + 1) ys t) h
  where
    by_test : (b : Bool) → (target_among x e (n + 1) ys ≡ Some t → (t.exit ≡ e) × (t.segment < n + 1 + length ys))
        → (if b then Some (record { exit = e; segment = n }) else target_among x e (n + 1) ys) ≡ Some t → (t.exit ≡ e) × (t.segment < n + length (y ∷ ys))
    by_test true more h =
        let same : record { exit = e; segment = n } ≡ t = cc h in
        (sym (ap (λ (u : Target). u.exit) same), let k : n ≡ t.segment = ap (λ (u : Target). u.segment) same in omega (arith, k))
    by_test false more h = let r : (t.exit ≡ e) × (t.segment < n + 1 + length ys) = more h in (r.0, omega (arith, r.1))

tag_given : (x : Symbol) (b : Bound) (bs : List Bound) (low high : ℕ) (t : Target) → as_tag x b ≡ Some t → Rises low (exit_at b ++ exit_numbers bs) high
    → is_segment t.segment (exit_around t.exit (exits_around bs ++ exit_of b)) ≡ true
tag_given x (Tags ys n) bs low high t h r =
    let a : (t.exit ≡ n) × (t.segment < 1 + length ys) = among x n 1 ys t h in
    let here : exit_around t.exit (exits_around bs ++ exit_of (Tags ys n)) ≡ Some (exit.Tagbody (length ys + 1)) =
    exit_given (Tags ys n) bs low high t.exit (exit.Tagbody (length ys + 1))
    (ap (λ k. record { exit = k; around = exit.Tagbody (length ys + 1) } ∷ []) (sym a.0)) (ap (λ k. k ∷ []) (sym a.0)) r in
    ap (is_segment t.segment) here ∙ lt-ltb t.segment (length ys + 1) (omega (arith, a.1))
tag_given x (Block y n) bs low high t h r = absurd (cc h)
tag_given x (Variable y n) bs low high t h r = absurd (cc h)
tag_given x (Function y n) bs low high t h r = absurd (cc h)

segment_front : (n x : ℕ) (es fs : List NamedExit) → is_segment n (exit_around x es) ≡ true → is_segment n (exit_around x (es ++ fs)) ≡ true
segment_front n x es fs h = by_kind (exit_around x es) refl
  where
    by_kind : (o : Option Kind) → exit_around x es ≡ o → is_segment n (exit_around x (es ++ fs)) ≡ true
    by_kind None e = absurd (cc (ap (is_segment n) e, h))
    by_kind (Some a) e = ap (is_segment n) (exit_front x es fs a e ∙ sym e) ∙ h

pub tag_there : (x : Symbol) (bs : List Bound) (low high : ℕ) (t : Target) → Rises low (exit_numbers bs) high → tag_of bs x ≡ Some t
    → is_segment t.segment (exit_around t.exit (exits_around bs)) ≡ true
tag_there x [] low high t r h = absurd (cc h)
tag_there x (b ∷ bs) low high t r h =
    let rest : (l : ℕ) × Rises l (exit_numbers bs) high = rest_rises low (exit_at b) (exit_numbers bs) high r in
    first_cases (tag_of bs x) (as_tag x b) t h
    (λ k. segment_front t.segment t.exit (exits_around bs) (exit_of b) (tag_there x bs rest.0 high t rest.1 k))
    (λ k. tag_given x b bs low high t k r)
