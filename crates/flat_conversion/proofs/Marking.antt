-- Marks of forms, by those of the forms right inside them; and of the variables that a body binds.
use Rattle.std.proofs.Common.{◌≡◌, ℕ, Bool, true, false, not, ◌&&◌, ◌||◌, List, [], ◌∷◌, ◌+◌, Some, take, Option, length, ◌≤◌, refl, sym, ap, subst, ◌∙◌, arith, ⊎_elim}
use Rattle.std.specs.Prelude.{◌==◌, cond, nat_lt, slice_get}
use Rattle.std.specs.BTreeMap.{is_at}
use Rattle.std.specs.BTreeSet.{BTreeSet, contains, Updates, UpdatesBy}
use Rattle.std.specs.Ordering.{nat_cmp}
use Rattle.std.proofs.lemmas.Bool.{eq-eqb, ne_eqb, lt-ltb, le-ltb, cases_eq, cases_lt}
use Rattle.std.proofs.lemmas.List.{take_all}
use Rattle.base.specs.model.DataRest.{take_at}
use Rattle.std.specs.List.{list_any}
use Rattle.lang_meaning.specs.declared.capture.Capture.{Capture}
use Rattle.lang_meaning.specs.declared.capture.Capture.TheVariants.{Variable, Method}
use Rattle.lang_meaning.specs.Captured.{captures, sets, sets_itself}
use Rattle.lang_meaning.specs.Form.{Form, BindingForms, no_binding, binding_and, let_form, lambda, parameters}
use Rattle.lang_meaning.specs.Meaning.{bound_variables}
use Rattle.lang_meaning.specs.Mentions.{owns, variables_bound, same_part}
use Rattle.lang_meaning.specs.Subforms.{outer, inner}
use Rattle.flat_conversion.specs.declared.marks.Marks.{Marks}
use Rattle.flat_conversion.specs.Binders.{binder}
use Rattle.flat_conversion.specs.Found.{has_variable}
use Rattle.flat_conversion.specs.Listing.{BindsNothing}
use Rattle.flat_conversion.specs.Marks.{AreMarks, Adds, Forgets, IsUnion, is_set, is_captured, marked_variables, marked_binder}
use Rattle.flat_conversion.specs.NewVariables.{new_variables}
use Rattle.flat_conversion.proofs.BoxWalks.{captures_folded, sets_folded, any_of_both}

pub or_assoc : (a b c : Bool) → ((a || b) || c) ≡ (a || (b || c))
or_assoc true b c = refl
or_assoc false b c = refl

pub or_false : (a : Bool) → (a || false) ≡ a
or_false true = refl
or_false false = refl

-- one after another
pub added : (a b d : Marks) (s t : ℕ → Bool) (c k : ℕ → Bool) (m n : Bool) → Adds a b s c m → Adds b d t k n → Adds a d (λ v. s v || t v) (λ v. c v || k v) (m || n)
added a b d s t c k m n g h = record {
  set_so = λ v. h.set_so v ∙ ap (λ x. x || t v) (g.set_so v) ∙ or_assoc (is_set a v) (s v) (t v);
  captured_so = λ v. h.captured_so v ∙ ap (λ x. x || k v) (g.captured_so v) ∙ or_assoc (is_captured a v) (c v) (k v);
  method_so = h.method_so ∙ ap (λ x. x || n) g.method_so ∙ or_assoc a.method m n;
}

-- the same marks
pub same_marks : (a b : Marks) (s t : ℕ → Bool) (c k : ℕ → Bool) (m n : Bool) → ((v : ℕ) → s v ≡ t v) → ((v : ℕ) → c v ≡ k v) → m ≡ n → Adds a b s c m → Adds a b t k n
same_marks a b s t c k m n e d i g = record {
  set_so = λ v. g.set_so v ∙ ap (λ x. is_set a v || x) (e v);
  captured_so = λ v. g.captured_so v ∙ ap (λ x. is_captured a v || x) (d v);
  method_so = g.method_so ∙ ap (λ x. a.method || x) i;
}

-- nothing is added
pub unmarked : (a : Marks) → Adds a a (λ v. false) (λ v. false) false
unmarked a = record { set_so = λ v. sym (or_false (is_set a v)); captured_so = λ v. sym (or_false (is_captured a v)); method_so = sym (or_false a.method) }

-- a form that binds no variables
pub plain_marked : (f : Form) → BindsNothing f → (outs ins : List Form) → outs ≡ outer f → ins ≡ inner f → (a b d e : Marks)
    → Adds a b (λ v. sets_itself v f) (λ v. false) false
    → Adds b d (λ v. list_any (sets v) outs) (λ v. list_any (captures (Variable v)) outs) (list_any (captures Method) outs)
    → Adds d e (λ v. list_any (sets v) ins) (λ v. list_any (captures (Variable v)) ins) (list_any (captures Method) ins)
    → Adds a e (λ v. sets v f) (λ v. captures (Variable v) f) (captures Method f)
plain_marked f plain outs ins o i a b d e first second third =
    let so = λ (v : ℕ). list_any (sets v) outs in
    let si = λ (v : ℕ). list_any (sets v) ins in
    let co = λ (v : ℕ). list_any (captures (Variable v)) outs in
    let ci = λ (v : ℕ). list_any (captures (Variable v)) ins in
    let mo = list_any (captures Method) outs in
    let mi = list_any (captures Method) ins in
    same_marks a e (λ v. (sets_itself v f || so v) || si v) (λ v. sets v f) (λ v. (false || co v) || ci v) (λ v. captures (Variable v) f) ((false || mo) || mi) (captures Method f)
    (λ v. ap (λ fs. (sets_itself v f || list_any (sets v) fs) || si v) o ∙ ap (λ fs. (sets_itself v f || list_any (sets v) (outer f)) || list_any (sets v) fs) i
    ∙ ap (λ x. (sets_itself v f || list_any (sets v) (outer f)) || (not x && list_any (sets v) (inner f))) (sym (plain.free v)) ∙ sym (sets_folded v f))
    (λ v. ap (λ fs. list_any (captures (Variable v)) fs || ci v) o ∙ ap (λ fs. list_any (captures (Variable v)) (outer f) || list_any (captures (Variable v)) fs) i
    ∙ ap (λ x. list_any (captures (Variable v)) (outer f) || x) (sym (plain.inside v (list_any (captures (Variable v)) (inner f)))) ∙ sym (captures_folded (Variable v) f))
    (ap (λ fs. list_any (captures Method) fs || mi) o ∙ ap (λ fs. list_any (captures Method) (outer f) || list_any (captures Method) fs) i
    ∙ ap (λ x. list_any (captures Method) (outer f) || x) (sym (plain.method (list_any (captures Method) (inner f)))) ∙ sym (captures_folded Method f))
    (added a d e (λ v. sets_itself v f || so v) si (λ v. false || co v) ci (false || mo) mi (added a b d (λ v. sets_itself v f) so (λ v. false) co false mo first second) third)

-- the variables of bindings, as the walk and the meaning have them
same_bound : (bs : BindingForms) → bound_variables bs ≡ variables_bound bs
same_bound no_binding = refl
same_bound (binding_and v f bs) = ap (λ vs. v ∷ vs) (same_bound bs)

never_method : (vs : List ℕ) → owns vs Method ≡ false
never_method [] = refl
never_method (v ∷ vs) = never_method vs

pub let_marked : (bs : BindingForms) (body : Form) (outs : List Form) → outs ≡ outer (let_form bs body) → (a b d inside : Marks)
    → Adds a b (λ v. list_any (sets v) outs) (λ v. list_any (captures (Variable v)) outs) (list_any (captures Method) outs)
    → AreMarks inside (λ v. not (has_variable v (bound_variables bs)) && sets v body) (λ v. not (has_variable v (bound_variables bs)) && captures (Variable v) body) (captures Method body)
    → Adds b d (is_set inside) (is_captured inside) inside.method
    → Adds a d (λ v. sets v (let_form bs body)) (λ v. captures (Variable v) (let_form bs body)) (captures Method (let_form bs body))
let_marked bs body outs o a b d inside first marks second =
    let f : Form = let_form bs body in
    same_marks a d (λ v. list_any (sets v) outs || is_set inside v) (λ v. sets v f) (λ v. list_any (captures (Variable v)) outs || is_captured inside v) (λ v. captures (Variable v) f) (list_any (captures Method) outs || inside.method) (captures Method f)
    (λ v. ap (λ fs. list_any (sets v) fs || is_set inside v) o
    ∙ ap (λ x. list_any (sets v) (outer f) || x) (marks.set_so v ∙ ap (λ vs. not (has_variable v vs) && sets v body) (same_bound bs) ∙ ap (λ x. not (owns (variables_bound bs) (Variable v)) && x) (sym (or_false (sets v body))))
    ∙ sym (sets_folded v f))
    (λ v. ap (λ fs. list_any (captures (Variable v)) fs || is_captured inside v) o
    ∙ ap (λ x. list_any (captures (Variable v)) (outer f) || x) (marks.captured_so v ∙ ap (λ vs. not (has_variable v vs) && captures (Variable v) body) (same_bound bs) ∙ ap (λ x. not (owns (variables_bound bs) (Variable v)) && x) (sym (or_false (captures (Variable v) body))))
    ∙ sym (captures_folded (Variable v) f))
    (ap (λ fs. list_any (captures Method) fs || inside.method) o
    ∙ ap (λ x. list_any (captures Method) (outer f) || x) (marks.method_so ∙ ap (λ x. not x && captures Method body) (sym (never_method (variables_bound bs))) ∙ ap (λ x. not (owns (variables_bound bs) Method) && x) (sym (or_false (captures Method body))))
    ∙ sym (captures_folded Method f))
    (added a b d (λ v. list_any (sets v) outs) (is_set inside) (λ v. list_any (captures (Variable v)) outs) (is_captured inside) (list_any (captures Method) outs) inside.method first second)

pub function_marked : (required : List ℕ) (rest : Option ℕ) (body : Form) (parts : List Capture) (a b d inside : Marks)
    → AreMarks inside (λ v. not (has_variable v (parameters required rest)) && sets v body) (λ v. not (has_variable v (parameters required rest)) && captures (Variable v) body) (captures Method body)
    → Adds a b (is_set inside) (λ v. false) false
    → Adds b d (λ v. false) (λ v. list_any (same_part (Variable v)) parts) (list_any (same_part Method) parts)
    → Adds a d (λ v. sets v (lambda required rest body parts)) (λ v. captures (Variable v) (lambda required rest body parts)) (captures Method (lambda required rest body parts))
function_marked required rest body parts a b d inside marks first second =
    let f : Form = lambda required rest body parts in
    let vs = parameters required rest in
    same_marks a d (λ v. is_set inside v || false) (λ v. sets v f) (λ v. false || list_any (same_part (Variable v)) parts) (λ v. captures (Variable v) f) (false || list_any (same_part Method) parts) (captures Method f)
    (λ v. or_false (is_set inside v) ∙ marks.set_so v ∙ ap (λ x. not (owns vs (Variable v)) && x) (sym (or_false (sets v body))) ∙ sym (sets_folded v f))
    (λ v. sym (captures_folded (Variable v) f))
    (sym (captures_folded Method f))
    (added a b d (is_set inside) (λ v. false) (λ v. false) (λ v. list_any (same_part (Variable v)) parts) false (list_any (same_part Method) parts) first second)

-- the new variables of a body with these marks
marked_alike : (m : Marks) (body : Form) → ((v : ℕ) → is_set m v ≡ sets v body) → ((v : ℕ) → is_captured m v ≡ captures (Variable v) body) → (vs : List ℕ) → marked_variables m vs ≡ new_variables vs body
marked_alike m body s c [] = refl
marked_alike m body s c (v ∷ vs) = cc (s v, c v, marked_alike m body s c vs)

pub binder_made : (m : Marks) (vs : List ℕ) (body : Form) → AreMarks m (λ v. sets v body) (λ v. captures (Variable v) body) (captures Method body) → marked_binder m vs ≡ binder vs body
binder_made m vs body g = cc (marked_alike m body g.set_so g.captured_so vs, g.method_so)

-- one variable in a set of them
key_found : (a b : ℕ) → is_at (nat_cmp a) b ≡ (b == a)
key_found a b =
    ⊎_elim
    (λ l. let less : nat_lt a b ≡ true = lt-ltb a b l in let other : (b == a) ≡ false = ne_eqb b a (λ e. omega arith) in rw (less, other) refl)
    (λ g. let least : nat_lt a b ≡ false = le-ltb a b g in
    ⊎_elim
    (λ e. let one : (a == b) ≡ true = eq-eqb a b e in let two : (b == a) ≡ true = eq-eqb b a (sym e) in rw (least, one, two) refl)
    (λ n. let one : (a == b) ≡ false = ne_eqb a b n in let two : (b == a) ≡ false = ne_eqb b a (λ e. n (sym e)) in rw (least, one, two) refl)
    (cases_eq a b))
    (cases_lt a b)

or_put : (b x : Bool) → cond b true x ≡ (x || b)
or_put true true = refl
or_put true false = refl
or_put false true = refl
or_put false false = refl

in_set : (s t : BTreeSet ℕ) (w : ℕ) → Updates nat_cmp s t w true → (v : ℕ) → contains nat_cmp t v ≡ (contains nat_cmp s v || v == w)
in_set s t w u v = u.0 v ∙ ap (λ b. cond b true (contains nat_cmp s v)) (key_found w v) ∙ or_put (v == w) (contains nat_cmp s v)

pub set_marked : (m : Marks) (t : BTreeSet ℕ) (w : ℕ) → Updates nat_cmp m.set t w true → Adds m (let n : Marks = record m { set = t } in n) (λ v. v == w) (λ v. false) false
set_marked m t w u = record {
  set_so = in_set m.set t w u;
  captured_so = λ v. sym (or_false (is_captured m v));
  method_so = sym (or_false m.method);
}

pub captured_marked : (m : Marks) (t : BTreeSet ℕ) (w : ℕ) → Updates nat_cmp m.captured t w true → Adds m (let n : Marks = record m { captured = t } in n) (λ v. false) (λ v. v == w) false
captured_marked m t w u = record {
  set_so = λ v. sym (or_false (is_set m v));
  captured_so = in_set m.captured t w u;
  method_so = sym (or_false m.method);
}

or_true : (a : Bool) → (a || true) ≡ true
or_true true = refl
or_true false = refl

pub method_marked : (m : Marks) → Adds m (let n : Marks = record m { method = true } in n) (λ v. false) (λ v. false) true
method_marked m = record { set_so = λ v. sym (or_false (is_set m v)); captured_so = λ v. sym (or_false (is_captured m v)); method_so = sym (or_true m.method) }

any_more : {X : Type 0} (p : X → Bool) (xs : List X) (at : ℕ) (x : X) → slice_get xs at ≡ Some x → (list_any p (take at xs) || p x) ≡ list_any p (take (at + 1) xs)
any_more p xs at x h =
    ap (λ b. list_any p (take at xs) || b) (sym (or_false (p x))) ∙ sym (any_of_both p (take at xs) (x ∷ [])) ∙ ap (list_any p) (sym (take_at xs at x h))

-- one part more
pub part_captured : (ps : List Capture) (at : ℕ) (p : Capture) (a b d : Marks) → slice_get ps at ≡ Some p
    → Adds a b (λ v. false) (λ v. list_any (same_part (Variable v)) (take at ps)) (list_any (same_part Method) (take at ps))
    → Adds b d (λ v. false) (λ v. same_part (Variable v) p) (same_part Method p)
    → Adds a d (λ v. false) (λ v. list_any (same_part (Variable v)) (take (at + 1) ps)) (list_any (same_part Method) (take (at + 1) ps))
part_captured ps at p a b d h first second =
    same_marks a d (λ v. false || false) (λ v. false) (λ v. list_any (same_part (Variable v)) (take at ps) || same_part (Variable v) p) (λ v. list_any (same_part (Variable v)) (take (at + 1) ps))
    (list_any (same_part Method) (take at ps) || same_part Method p) (list_any (same_part Method) (take (at + 1) ps))
    (λ v. refl) (λ v. any_more (same_part (Variable v)) ps at p h) (any_more (same_part Method) ps at p h)
    (added a b d (λ v. false) (λ v. false) (λ v. list_any (same_part (Variable v)) (take at ps)) (λ v. same_part (Variable v) p) (list_any (same_part Method) (take at ps)) (same_part Method p) first second)

not_more : (a b x : Bool) → cond b false (not a && x) ≡ (not (a || b) && x)
not_more true true x = refl
not_more true false x = refl
not_more false true x = refl
not_more false false x = refl

out_of_set : (s t : BTreeSet ℕ) (w : ℕ) → UpdatesBy nat_cmp (nat_cmp w) s t false → (v : ℕ) (a x : Bool) → contains nat_cmp s v ≡ (not a && x) → contains nat_cmp t v ≡ (not (a || v == w) && x)
out_of_set s t w u v a x e =
    u.0 v ∙ ap (λ b. cond b false (contains nat_cmp s v)) (key_found w v) ∙ ap (λ y. cond (v == w) false y) e ∙ not_more a (v == w) x

-- one variable more is forgotten
pub one_forgotten : (vs : List ℕ) (at w : ℕ) (initial m : Marks) (s t : BTreeSet ℕ) → slice_get vs at ≡ Some w → Forgets (take at vs) initial m
    → UpdatesBy nat_cmp (nat_cmp w) m.set s false → UpdatesBy nat_cmp (nat_cmp w) m.captured t false
    → Forgets (take (at + 1) vs) initial (let n : Marks = record m { set = s; captured = t } in n)
one_forgotten vs at w initial m s t h g u d = record {
  set_so = λ v. out_of_set m.set s w u v (has_variable v (take at vs)) (is_set initial v) (g.set_so v) ∙ ap (λ b. not b && is_set initial v) (any_more (λ x. v == x) vs at w h);
  captured_so = λ v. out_of_set m.captured t w d v (has_variable v (take at vs)) (is_captured initial v) (g.captured_so v) ∙ ap (λ b. not b && is_captured initial v) (any_more (λ x. v == x) vs at w h);
  method_so = g.method_so;
}

pub none_forgotten : (m : Marks) → Forgets [] m m
none_forgotten m = record { set_so = λ v. refl; captured_so = λ v. refl; method_so = refl }

pub body_forgotten : (vs : List ℕ) (body : Form) (a b d : Marks) → AreMarks a (λ v. false) (λ v. false) false
    → Adds a b (λ v. sets v body) (λ v. captures (Variable v) body) (captures Method body) → Forgets vs b d
    → AreMarks d (λ v. not (has_variable v vs) && sets v body) (λ v. not (has_variable v vs) && captures (Variable v) body) (captures Method body)
body_forgotten vs body a b d none found left = record {
  set_so = λ v. left.set_so v ∙ ap (λ x. not (has_variable v vs) && x) (found.set_so v ∙ ap (λ x. x || sets v body) (none.set_so v));
  captured_so = λ v. left.captured_so v ∙ ap (λ x. not (has_variable v vs) && x) (found.captured_so v ∙ ap (λ x. x || captures (Variable v) body) (none.captured_so v));
  method_so = left.method_so ∙ found.method_so ∙ ap (λ x. x || captures Method body) none.method_so;
}

pub from_none : (body : Form) (a b : Marks) → AreMarks a (λ v. false) (λ v. false) false
    → Adds a b (λ v. sets v body) (λ v. captures (Variable v) body) (captures Method body) → AreMarks b (λ v. sets v body) (λ v. captures (Variable v) body) (captures Method body)
from_none body a b none found = record {
  set_so = λ v. found.set_so v ∙ ap (λ x. x || sets v body) (none.set_so v);
  captured_so = λ v. found.captured_so v ∙ ap (λ x. x || captures (Variable v) body) (none.captured_so v);
  method_so = found.method_so ∙ ap (λ x. x || captures Method body) none.method_so;
}

-- all parts, and all variables, when a loop is at its end
pub all_captured : (ps : List Capture) (at : ℕ) (a b : Marks) → length ps ≤ at → Adds a b (λ v. false) (λ v. list_any (same_part (Variable v)) (take at ps)) (list_any (same_part Method) (take at ps))
    → Adds a b (λ v. false) (λ v. list_any (same_part (Variable v)) ps) (list_any (same_part Method) ps)
all_captured ps at a b h g =
    let P : List Capture → Type 0 = λ qs. Adds a b (λ v. false) (λ v. list_any (same_part (Variable v)) qs) (list_any (same_part Method) qs) in subst P (take_all at ps h) g

pub all_forgotten : (vs : List ℕ) (at : ℕ) (a b : Marks) → length vs ≤ at → Forgets (take at vs) a b → Forgets vs a b
all_forgotten vs at a b h g = let P : List ℕ → Type 0 = λ us. Forgets us a b in subst P (take_all at vs h) g

or_swap : (a b : Bool) → (a || b) ≡ (b || a)
or_swap true true = refl
or_swap true false = refl
or_swap false true = refl
or_swap false false = refl

-- the same union, the other way round
pub swapped : (s t all : BTreeSet ℕ) → IsUnion t s all → IsUnion s t all
swapped s t all u = λ v. u v ∙ or_swap (contains nat_cmp t v) (contains nat_cmp s v)

-- of sets that are the same
pub same_union : (s t x y all : BTreeSet ℕ) → x ≡ s → y ≡ t → IsUnion x y all → IsUnion s t all
same_union s t x y all e d u = λ v.
    u v ∙ ap (λ (z : BTreeSet ℕ). contains nat_cmp z v || contains nat_cmp y v) e ∙ ap (λ (z : BTreeSet ℕ). contains nat_cmp s v || contains nat_cmp z v) d
