-- Renamed forms: what a walk finds that sees no names, what a form mentions and captures, and what it counts.
use Rattle.std.specs.Prelude.{◌≡◌, ℕ, ◌+◌, ◌-◌, Bool, not, ◌&&◌, ◌||◌, List, [], ◌∷◌, ◌++◌, if◌then◌else◌, refl}
use Rattle.std.specs.List.{sum}
use Rattle.std.proofs.Common.{ap, ◌∙◌}
use Rattle.lang_meaning.specs.declared.capture.Capture.{Capture}
use Rattle.lang_meaning.specs.declared.capture.Capture.TheVariants.{Variable}
use Rattle.lang_meaning.specs.Form.{Form, literal, local, set_local, global, set_global, def_global, clauses, sequence, let_form, lambda, call, call_value, apply, prim, while_form, block, return_from, tagbody, go, catch_form, throw, unwind, dynamic_let, dynamic, set_dynamic, def_dynamic, with_handler, signal_form, continue_form, next_method, has_next, sited}
use Rattle.lang_meaning.specs.Form.{Forms, no_form, form_and, ClauseForms, no_clause, clause_and, MaybeForm, no_body, with_body, BindingForms, no_binding, binding_and, DynamicForms, no_dynamic, dynamic_and}
use Rattle.lang_meaning.specs.Subforms.{fold, fold_forms, fold_clauses, fold_body, fold_values, fold_dynamics}
use Rattle.lang_meaning.specs.Mentions.{variables_bound, owns, binds, names_part, some, mentions_step, mentions}
use Rattle.lang_meaning.specs.Captured.{captures_inside, captures, sets_itself, sets, has_box}
use Rattle.lang_meaning.specs.Counts.{count_forms, count_clauses, count_bindings, count_dynamics, own_nodes, is_function, parameters, nodes, all_nodes}
use Rattle.lang_renamed.specs.Renaming.{form_by, forms_by, clauses_by, body_by, bindings_by, dynamics_by}
use Rattle.lang_renamed.proofs.Lists.{both}

-- ---- a walk that sees no names

module _ (r : ℕ → ℕ) {X : Type 0} (step : Form → List X → List X → X) (e : (f : Form) (o i : List X) → step (form_by r f) o i ≡ step f o i) where
  one_outer : (f : Form) (x y : X) → x ≡ y → step (form_by r f) (x ∷ []) [] ≡ step f (y ∷ []) []
  one_outer f x y p = ap (λ z. step (form_by r f) (z ∷ []) []) p ∙ e f (y ∷ []) []

  two_outer : (f : Form) (x y u v : X) → x ≡ y → u ≡ v → step (form_by r f) (x ∷ u ∷ []) [] ≡ step f (y ∷ v ∷ []) []
  two_outer f x y u v p q = both (λ a b. step (form_by r f) (a ∷ b ∷ []) []) x y u v p q ∙ e f (y ∷ v ∷ []) []

  one_inner : (f : Form) (x y : X) → x ≡ y → step (form_by r f) [] (x ∷ []) ≡ step f [] (y ∷ [])
  one_inner f x y p = ap (λ z. step (form_by r f) [] (z ∷ [])) p ∙ e f [] (y ∷ [])

  all_of : (f : Form) (xs ys us vs : List X) → xs ≡ ys → us ≡ vs → step (form_by r f) xs us ≡ step f ys vs
  all_of f xs ys us vs p q = both (λ a b. step (form_by r f) a b) xs ys us vs p q ∙ e f ys vs

  mutual
    pub fold_by : (f : Form) → fold step (form_by r f) ≡ fold step f
    fold_by (literal i) = e (literal i) [] []
    fold_by (local v) = e (local v) [] []
    fold_by (set_local v f) = one_outer (set_local v f) _ _ (fold_by f)
    fold_by (global n) = e (global n) [] []
    fold_by (set_global n f) = one_outer (set_global n f) _ _ (fold_by f)
    fold_by (def_global n f) = one_outer (def_global n f) _ _ (fold_by f)
    fold_by (clauses cs) = all_of (clauses cs) _ _ _ _ (fold_clauses_by cs) refl
    fold_by (sequence fs) = all_of (sequence fs) _ _ _ _ (fold_forms_by fs) refl
    fold_by (let_form bs f) = all_of (let_form bs f) _ _ _ _ (fold_values_by bs) (ap (λ x. x ∷ []) (fold_by f))
    fold_by (lambda vs rest f ps) = one_inner (lambda vs rest f ps) _ _ (fold_by f)
    fold_by (call n fs) = all_of (call n fs) _ _ _ _ (fold_forms_by fs) refl
    fold_by (call_value fs) = all_of (call_value fs) _ _ _ _ (fold_forms_by fs) refl
    fold_by (apply f g) = two_outer (apply f g) _ _ _ _ (fold_by f) (fold_by g)
    fold_by (prim p fs) = all_of (prim p fs) _ _ _ _ (fold_forms_by fs) refl
    fold_by (while_form f g) = two_outer (while_form f g) _ _ _ _ (fold_by f) (fold_by g)
    fold_by (block x f) = one_inner (block x f) _ _ (fold_by f)
    fold_by (return_from x f) = one_outer (return_from x f) _ _ (fold_by f)
    fold_by (tagbody x fs) = all_of (tagbody x fs) _ _ _ _ refl (fold_forms_by fs)
    fold_by (go x n) = e (go x n) [] []
    fold_by (catch_form f g) = two_outer (catch_form f g) _ _ _ _ (fold_by f) (fold_by g)
    fold_by (throw f g) = two_outer (throw f g) _ _ _ _ (fold_by f) (fold_by g)
    fold_by (unwind f g) = two_outer (unwind f g) _ _ _ _ (fold_by f) (fold_by g)
    fold_by (dynamic_let ds f) = all_of (dynamic_let ds f) _ _ _ _ (fold_dynamics_by ds) (ap (λ x. x ∷ []) (fold_by f))
    fold_by (dynamic n) = e (dynamic n) [] []
    fold_by (set_dynamic n f) = one_outer (set_dynamic n f) _ _ (fold_by f)
    fold_by (def_dynamic n f) = one_outer (def_dynamic n f) _ _ (fold_by f)
    fold_by (with_handler f g) = two_outer (with_handler f g) _ _ _ _ (fold_by f) (fold_by g)
    fold_by (signal_form f g) = two_outer (signal_form f g) _ _ _ _ (fold_by f) (fold_by g)
    fold_by (continue_form f g) = two_outer (continue_form f g) _ _ _ _ (fold_by f) (fold_by g)
    fold_by next_method = e next_method [] []
    fold_by has_next = e has_next [] []
    fold_by (sited site f) = one_outer (sited site f) _ _ (fold_by f)

    fold_forms_by : (fs : Forms) → fold_forms step (forms_by r fs) ≡ fold_forms step fs
    fold_forms_by no_form = refl
    fold_forms_by (form_and f fs) = both (λ (x : X) (xs : List X). x ∷ xs) _ _ _ _ (fold_by f) (fold_forms_by fs)

    fold_clauses_by : (cs : ClauseForms) → fold_clauses step (clauses_by r cs) ≡ fold_clauses step cs
    fold_clauses_by no_clause = refl
    fold_clauses_by (clause_and f b cs) =
        both (λ (x : X) (xs : List X). x ∷ xs) _ _ _ _ (fold_by f) (both (λ (xs ys : List X). xs ++ ys) _ _ _ _ (fold_body_by b) (fold_clauses_by cs))

    fold_body_by : (b : MaybeForm) → fold_body step (body_by r b) ≡ fold_body step b
    fold_body_by no_body = refl
    fold_body_by (with_body f) = ap (λ x. x ∷ []) (fold_by f)

    fold_values_by : (bs : BindingForms) → fold_values step (bindings_by r bs) ≡ fold_values step bs
    fold_values_by no_binding = refl
    fold_values_by (binding_and v f bs) = both (λ (x : X) (xs : List X). x ∷ xs) _ _ _ _ (fold_by f) (fold_values_by bs)

    fold_dynamics_by : (ds : DynamicForms) → fold_dynamics step (dynamics_by r ds) ≡ fold_dynamics step ds
    fold_dynamics_by no_dynamic = refl
    fold_dynamics_by (dynamic_and n f ds) = both (λ (x : X) (xs : List X). x ∷ xs) _ _ _ _ (fold_by f) (fold_dynamics_by ds)

module _ (r : ℕ → ℕ) where
  -- ---- what a form mentions

  bound_same : (bs : BindingForms) → variables_bound (bindings_by r bs) ≡ variables_bound bs
  bound_same no_binding = refl
  bound_same (binding_and v f bs) = ap (λ (vs : List ℕ). v ∷ vs) (bound_same bs)

  binds_by : (p : Capture) (f : Form) → binds p (form_by r f) ≡ binds p f
  binds_by p (let_form bs f) = ap (λ vs. owns vs p) (bound_same bs)
  binds_by p f = refl

  names_part_by : (p : Capture) (f : Form) → names_part p (form_by r f) ≡ names_part p f
  names_part_by p (local v) = refl
  names_part_by p f = refl

  mention_by : (p : Capture) (f : Form) (o i : List Bool) → mentions_step p (form_by r f) o i ≡ mentions_step p f o i
  mention_by p f o i = both (λ (a b : Bool). a || some o || (not b && some i)) _ _ _ _ (names_part_by p f) (binds_by p f)

  pub mentions_by : (f : Form) (p : Capture) → mentions p (form_by r f) ≡ mentions p f
  mentions_by f p = fold_by r (mentions_step p) (mention_by p) f

  -- ---- nodes

  forms_count : (fs : Forms) → count_forms (forms_by r fs) ≡ count_forms fs
  forms_count no_form = refl
  forms_count (form_and f fs) = ap (λ (n : ℕ). n + 1) (forms_count fs)

  clauses_count : (cs : ClauseForms) → count_clauses (clauses_by r cs) ≡ count_clauses cs
  clauses_count no_clause = refl
  clauses_count (clause_and f b cs) = ap (λ (n : ℕ). n + 1) (clauses_count cs)

  bindings_count : (bs : BindingForms) → count_bindings (bindings_by r bs) ≡ count_bindings bs
  bindings_count no_binding = refl
  bindings_count (binding_and v f bs) = ap (λ (n : ℕ). n + 1) (bindings_count bs)

  dynamics_count : (ds : DynamicForms) → count_dynamics (dynamics_by r ds) ≡ count_dynamics ds
  dynamics_count no_dynamic = refl
  dynamics_count (dynamic_and n f ds) = ap (λ (k : ℕ). k + 1) (dynamics_count ds)

  pub own_by : (f : Form) → own_nodes (form_by r f) ≡ own_nodes f
  own_by (clauses cs) = ap (λ (n : ℕ). 1 + n) (clauses_count cs)
  own_by (let_form bs f) = ap (λ (n : ℕ). 1 + n) (bindings_count bs)
  own_by (call n fs) = ap (λ (k : ℕ). 2 + k) (forms_count fs)
  own_by (call_value fs) = ap (λ (n : ℕ). 1 + n) (forms_count fs)
  own_by (prim p fs) = ap (λ (n : ℕ). 1 + n) (forms_count fs)
  own_by (tagbody x fs) = ap (λ (n : ℕ). 2 + (n - 1)) (forms_count fs)
  own_by (dynamic_let ds f) = ap (λ (n : ℕ). 1 + n) (dynamics_count ds)
  own_by f = refl

  -- what a form counts, of what is found of its outer and its inner forms, where the bodies of functions are apart, and where they are inside
  abbrev apart : Form → List ℕ → List ℕ → ℕ
  apart f outer inner = own_nodes f + sum outer + (if is_function f then 0 else sum inner)

  abbrev inside : Form → List ℕ → List ℕ → ℕ
  inside f outer inner = own_nodes f + sum outer + (if is_function f then sum inner + parameters f + 4 else sum inner)

  inner_apart : (f : Form) (n : ℕ) → (if is_function (form_by r f) then 0 else n) ≡ (if is_function f then 0 else n)
  inner_apart (lambda vs rest f ps) n = refl
  inner_apart f n = refl

  inner_inside : (f : Form) (n : ℕ) → (if is_function (form_by r f) then n + parameters (form_by r f) + 4 else n) ≡ (if is_function f then n + parameters f + 4 else n)
  inner_inside (lambda vs rest f ps) n = refl
  inner_inside f n = refl

  pub nodes_by : (f : Form) → nodes (form_by r f) ≡ nodes f
  nodes_by f = fold_by r apart (λ g o i. both (λ (a b : ℕ). a + sum o + b) _ _ _ _ (own_by g) (inner_apart g (sum i))) f

  pub all_nodes_by : (f : Form) → all_nodes (form_by r f) ≡ all_nodes f
  all_nodes_by f = fold_by r inside (λ g o i. both (λ (a b : ℕ). a + sum o + b) _ _ _ _ (own_by g) (inner_inside g (sum i))) f

  -- ---- what a form captures and sets

  captured_inside_by : (p : Capture) (f : Form) (inner : Bool) → captures_inside p (form_by r f) inner ≡ captures_inside p f inner
  captured_inside_by p (lambda vs rest f ps) inner = refl
  captured_inside_by p f inner = ap (λ b. not b && inner) (binds_by p f)

  pub captures_by : (p : Capture) (f : Form) → captures p (form_by r f) ≡ captures p f
  captures_by p f = fold_by r (λ g outer inner. some outer || captures_inside p g (some inner)) (λ g o i. ap (λ b. some o || b) (captured_inside_by p g (some i))) f

  sets_itself_by : (v : ℕ) (f : Form) → sets_itself v (form_by r f) ≡ sets_itself v f
  sets_itself_by v (set_local w f) = refl
  sets_itself_by v f = refl

  sets_by : (v : ℕ) (f : Form) → sets v (form_by r f) ≡ sets v f
  sets_by v f =
      fold_by r (λ g outer inner. sets_itself v g || some outer || (not (binds (Variable v) g) && some inner))
      (λ g o i. both (λ (a b : Bool). a || some o || (not b && some i)) _ _ _ _ (sets_itself_by v g) (binds_by (Variable v) g)) f

  pub box_by : (v : ℕ) (f : Form) → has_box v (form_by r f) ≡ has_box v f
  box_by v f = both (λ (a b : Bool). a && b) _ _ _ _ (captures_by (Variable v) f) (sets_by v f)
