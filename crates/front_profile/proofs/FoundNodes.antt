-- What is made of what was found has at least one node more: each form that was found is one of its own.
use Rattle.std.proofs.Common.{◌≡◌, ◌+◌, ◌≤◌, ℕ, List, [], ◌∷◌, ◌++◌, map, suc, take, drop, length, Option, Some, None, refl, sym, ap, subst, ◌∙◌, arith}
use Rattle.base.specs.declared.datum.Symbol.{Symbol}
use Rattle.base.specs.Data.{Item}
use Rattle.base.specs.AllOf.{AllOf, all_both}
use Rattle.lang_meaning.specs.Form.{Form}
use Rattle.lang_meaning.specs.Subforms.{clause_list}
use Rattle.lang_meaning.specs.Counts.{all_nodes}
use Rattle.front_profile.specs.declared.elaboration.ElaboratedPart.{ElaboratedPart}
use Rattle.front_profile.specs.declared.elaboration.ElaboratedPart.TheVariants.{Value, Binding, Parameter}
use Rattle.front_profile.specs.declared.elaboration.One.{One}
use Rattle.lang_meaning.specs.declared.kinds.OverTwo.{OverTwo}
use Rattle.front_profile.specs.Nodes.{Part, form, below, inner, bind, parameter, wrong, function}
use Rattle.front_profile.specs.Elaborations.{forms_found, make_one, make_two, make_with_body, make_clauses}
use Rattle.front_profile.specs.Shapes.{Pair, ClauseParts, symbol_of, forms_in, form_unless, lengths_in, one_longer, before}
use Rattle.front_profile.specs.RowWords.{each_form, each_below, each_inner, each_parameter}
use Rattle.front_profile.specs.ValueRows.{length_if, clause_lengths, clause_parts}
use Rattle.front_profile.specs.BindingRows.{values_of}
use Rattle.front_profile.proofs.Matches.{Spots, AllMatch, BodyThen, body_then, dropped_front}
use Rattle.front_profile.proofs.Nodes.{nodes_in, added, found_nodes, body_nodes, one_nodes, two_nodes, with_body_nodes, split_nodes}

-- parts that bind no variable with a value

abbrev pub IsValuePart : Part → Type 0
IsValuePart (bind x d) = ⊥
IsValuePart (wrong p r) = ⊥
IsValuePart (function w) = ⊥
IsValuePart other = Unit {0}

abbrev pub AllPlain : List Part → Type 0
AllPlain xs = AllOf IsValuePart xs

pub both_plain : (xs ys : List Part) → AllPlain xs → AllPlain ys → AllPlain (xs ++ ys)
both_plain xs ys a b = all_both IsValuePart xs ys a b

made_plain : {X : Type 0} (f : X → Part) → ((x : X) → IsValuePart (f x)) → (xs : List X) → AllPlain (map f xs)
made_plain f h [] = tt
made_plain f h (x ∷ xs) = (h x, made_plain f h xs)

pub forms_plain : (ds : List Item) → AllPlain (each_form ds)
forms_plain ds = made_plain (λ d. form d) (λ d. tt) ds

pub below_plain : (ds : List Item) → AllPlain (each_below ds)
below_plain ds = made_plain (λ d. below d) (λ d. tt) ds

pub inner_plain : (ds : List Item) → AllPlain (each_inner ds)
inner_plain ds = made_plain (λ d. inner d) (λ d. tt) ds

pub parameters_plain : (xs : List Symbol) → AllPlain (each_parameter xs)
parameters_plain xs = made_plain (λ x. parameter x) (λ x. tt) xs

pub values_plain : (qs : List Pair) → AllPlain (values_of qs)
values_plain qs = made_plain (λ q. form q.datum) (λ q. tt) qs

pub clauses_plain : (cs : List ClauseParts) → AllPlain (clause_parts cs)
clauses_plain [] = tt
clauses_plain (c ∷ cs) = (tt, both_plain (each_below c.body) (clause_parts cs) (below_plain c.body) (clauses_plain cs))

-- of such parts only forms are counted
pub forms_counted : (p : Spots) (xs : List Part) (rs : List ElaboratedPart) → AllMatch p xs rs → AllPlain xs → found_nodes rs ≡ nodes_in (forms_found rs)
forms_counted p [] [] m a = refl
forms_counted p [] (r ∷ rs) m a = absurd m
forms_counted p (x ∷ xs) [] m a = absurd m
forms_counted p (x ∷ xs) (Value f ∷ rs) m a = ap (λ n. all_nodes f + n) (forms_counted p xs rs m.1 a.1)
forms_counted p (x ∷ xs) (Parameter v ∷ rs) m a = zero_more (found_nodes rs) _ (forms_counted p xs rs m.1 a.1)
  where
    zero_more : (n k : ℕ) → n ≡ k → 0 + n ≡ k
    zero_more n k e = omega (arith, e)
forms_counted p (form d ∷ xs) (Binding v f ∷ rs) m a = absurd m.0
forms_counted p (below d ∷ xs) (Binding v f ∷ rs) m a = absurd m.0
forms_counted p (inner d ∷ xs) (Binding v f ∷ rs) m a = absurd m.0
forms_counted p (bind x d ∷ xs) (Binding v f ∷ rs) m a = absurd a.0
forms_counted p (parameter x ∷ xs) (Binding v f ∷ rs) m a = absurd m.0
forms_counted p (wrong q k ∷ xs) (Binding v f ∷ rs) m a = absurd m.0
forms_counted p (function w ∷ xs) (Binding v f ∷ rs) m a = absurd m.0

-- no part, one, two, and one with a body

pub none_found : (p : Spots) (rs : List ElaboratedPart) → AllMatch p [] rs → found_nodes rs ≡ 0
none_found p [] m = refl
none_found p (r ∷ rs) m = absurd m

pub found_one_nodes : (p : Spots) (k : One) (d : Item) (rs : List ElaboratedPart) → AllMatch p (form d ∷ []) rs → found_nodes rs + 1 ≤ all_nodes (make_one k (forms_found rs))
found_one_nodes p k d [] m = absurd m
found_one_nodes p k d (Value f ∷ []) m = one_more (all_nodes f) _ (one_nodes k f)
  where
    one_more : (n k : ℕ) → n + 1 ≤ k → n + 0 + 1 ≤ k
    one_more n k h = omega (arith, h)
found_one_nodes p k d (Value f ∷ r ∷ rs) m = absurd m.1
found_one_nodes p k d (Binding v f ∷ rs) m = absurd m.0
found_one_nodes p k d (Parameter v ∷ rs) m = absurd m.0

pub found_two_nodes : (p : Spots) (k : OverTwo) (d e : Item) (rs : List ElaboratedPart) → AllMatch p (form d ∷ form e ∷ []) rs → found_nodes rs + 1 ≤ all_nodes (make_two k (forms_found rs))
found_two_nodes p k d e [] m = absurd m
found_two_nodes p k d e (Value f ∷ []) m = absurd m.1
found_two_nodes p k d e (Value f ∷ Value g ∷ []) m = two_more (all_nodes f) (all_nodes g) _ (two_nodes k f g)
  where
    two_more : (n m k : ℕ) → n + m + 1 ≤ k → n + (m + 0) + 1 ≤ k
    two_more n m k h = omega (arith, h)
found_two_nodes p k d e (Value f ∷ Value g ∷ r ∷ rs) m = absurd m.1.1
found_two_nodes p k d e (Value f ∷ Binding v g ∷ rs) m = absurd m.1.0
found_two_nodes p k d e (Value f ∷ Parameter v ∷ rs) m = absurd m.1.0
found_two_nodes p k d e (Binding v f ∷ rs) m = absurd m.0
found_two_nodes p k d e (Parameter v ∷ rs) m = absurd m.0

pub found_with_body_nodes : (p : Spots) (k : OverTwo) (d : Item) (ds : List Item) (rs : List ElaboratedPart) → AllMatch p (form d ∷ each_below ds) rs
    → found_nodes rs + 1 ≤ all_nodes (make_with_body k (forms_found rs))
found_with_body_nodes p k d ds [] m = absurd m
found_with_body_nodes p k d ds (Value f ∷ rs) m =
    with_body_more (all_nodes f) (found_nodes rs) (nodes_in (forms_found rs)) _ (forms_counted p (each_below ds) rs m.1 (below_plain ds)) (with_body_nodes k f (forms_found rs))
  where
    with_body_more : (n m b k : ℕ) → m ≡ b → n + b + 1 ≤ k → n + m + 1 ≤ k
    with_body_more n m b k e h = omega (arith, e, h)
found_with_body_nodes p k d ds (Binding v f ∷ rs) m = absurd m.0
found_with_body_nodes p k d ds (Parameter v ∷ rs) m = absurd m.0

-- clauses

joined_nodes : (fs gs : List Form) → nodes_in (fs ++ gs) ≡ nodes_in fs + nodes_in gs
joined_nodes [] gs = omega arith
joined_nodes (f ∷ fs) gs = joined_more (all_nodes f) (nodes_in (fs ++ gs)) (nodes_in fs) (nodes_in gs) (joined_nodes fs gs)
  where
    joined_more : (a n f g : ℕ) → n ≡ f + g → a + n ≡ a + f + g
    joined_more a n f g e = omega (arith, e)

abbrev ClauseNodes : List (Option ℕ) → List Form → Type 0
ClauseNodes ns fs = nodes_in fs ≤ nodes_in (clause_list (make_clauses ns fs))

behind_test_nodes : (p : Spots) (f : Form) (ds : List Item) (cs : List ClauseParts) (rs : List ElaboratedPart) → (b : BodyThen p (length ds) (clause_parts cs) rs)
    → ClauseNodes (clause_lengths cs) (forms_found b.rest) → ClauseNodes (length_if ds ∷ clause_lengths cs) (f ∷ forms_found rs)
behind_test_nodes p f [] cs rs b more =
    let same : forms_found rs ≡ forms_found b.rest = b.found ∙ dropped_front 0 b.body (forms_found b.rest) b.count in
    test_more (all_nodes f) (nodes_in (forms_found rs)) _ (subst (ClauseNodes (clause_lengths cs)) (sym same) more)
  where
    test_more : (a n k : ℕ) → n ≤ k → a + n ≤ a + k
    test_more a n k h = omega (arith, h)
behind_test_nodes p f (d ∷ ds) cs rs b more =
    let count : length b.body ≡ length ds + 1 = omega (arith, b.count) in
    let rest : drop (length ds + 1) (forms_found rs) ≡ forms_found b.rest =
    ap (drop (length ds + 1)) b.found ∙ dropped_front (length ds + 1) b.body (forms_found b.rest) count in
    body_more (all_nodes f) (nodes_in (forms_found rs)) (nodes_in (take (length ds + 1) (forms_found rs))) (nodes_in (drop (length ds + 1) (forms_found rs))) _ _
    (split_nodes (length ds + 1) (forms_found rs)) (body_nodes (take (length ds + 1) (forms_found rs))) (subst (ClauseNodes (clause_lengths cs)) (sym rest) more)
  where
    body_more : (a n t r b k : ℕ) → n ≡ t + r → b ≡ t + 1 → r ≤ k → a + n ≤ a + (b + k)
    body_more a n t r b k e f h = omega (arith, e, f, h)

pub found_clauses_nodes : (p : Spots) (cs : List ClauseParts) (rs : List ElaboratedPart) → AllMatch p (clause_parts cs) rs → ClauseNodes (clause_lengths cs) (forms_found rs)
found_clauses_nodes p [] [] m = omega arith
found_clauses_nodes p [] (r ∷ rs) m = absurd m
found_clauses_nodes p (c ∷ cs) [] m = absurd m
found_clauses_nodes p (c ∷ cs) (Binding v f ∷ rs) m = absurd m.0
found_clauses_nodes p (c ∷ cs) (Parameter v ∷ rs) m = absurd m.0
found_clauses_nodes p (c ∷ cs) (Value f ∷ rs) m =
    let b : BodyThen p (length c.body) (clause_parts cs) rs = body_then p c.body (clause_parts cs) rs m.1 in
    behind_test_nodes p f c.body cs rs b (found_clauses_nodes p cs b.rest b.behind)

-- segments have all forms

longer_added : (ns : List ℕ) → added (one_longer ns) ≡ added ns + 1
longer_added [] = refl
longer_added (n ∷ ns) = omega arith

before_added : (x : Option Symbol) (d : Item) (ns : List ℕ) (fs : List Item) → added ns ≡ length fs → added (before x ns) ≡ length (form_unless x d ++ fs)
before_added None d ns fs e = longer_added ns ∙ one_more (added ns) (length fs) e
  where
    one_more : (n k : ℕ) → n ≡ k → n + 1 ≡ suc k
    one_more n k e = omega (arith, e)
before_added (Some x) d ns fs e = zero_more (added ns) (length fs) e
  where
    zero_more : (n k : ℕ) → n ≡ k → 0 + n ≡ k
    zero_more n k e = omega (arith, e)

pub lengths_added : (ds : List Item) → added (lengths_in ds) ≡ length (forms_in ds)
lengths_added [] = refl
lengths_added (d ∷ ds) = before_added (symbol_of d) d (lengths_in ds) (forms_in ds) (lengths_added ds)

pub inner_as_many : (p : Spots) (ds : List Item) (rs : List ElaboratedPart) → AllMatch p (each_inner ds) rs → length (forms_found rs) ≡ length ds
inner_as_many p [] [] h = refl
inner_as_many p [] (r ∷ rs) h = absurd h
inner_as_many p (d ∷ ds) [] h = absurd h
inner_as_many p (d ∷ ds) (Value f ∷ rs) h = omega (arith, inner_as_many p ds rs h.1)
inner_as_many p (d ∷ ds) (Binding v f ∷ rs) h = absurd h.0
inner_as_many p (d ∷ ds) (Parameter v ∷ rs) h = absurd h.0

-- what is counted of the forms is enough
pub enough_nodes : (n b k : ℕ) → n ≡ b → b + 1 ≤ k → n + 1 ≤ k
enough_nodes n b k e h = omega (arith, e, h)

pub enough_more : (n b c k : ℕ) → n ≡ b → b ≤ c → c + 1 ≤ k → n + 1 ≤ k
enough_more n b c k e l h = omega (arith, e, l, h)
