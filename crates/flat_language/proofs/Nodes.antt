-- A form that is made flat has as many nodes as before.
use Rattle.std.proofs.Common.{◌≡◌, ℕ, suc, ◌+◌, ◌-◌, List, [], ◌∷◌, ◌++◌, refl, ap, ◌∙◌, length}
use Rattle.std.specs.List.{sum}
use Rattle.std.specs.Prelude.{if◌then◌else◌}
use Rattle.lang_meaning.specs.declared.capture.Capture.{Capture}
use Rattle.lang_meaning.specs.Form.{Form, Forms, ClauseForms, MaybeForm, BindingForms, DynamicForms}
use Rattle.lang_meaning.specs.Form as core
use Rattle.lang_meaning.specs.Subforms.{fold_forms, fold_clauses, fold_body, fold_values, fold_dynamics}
use Rattle.lang_meaning.specs.Counts as core_counts
use Rattle.lang_meaning.specs.Meaning.{bound_variables}
use Rattle.flat_language.specs.FlatNodes.{count_forms, count_clauses, count_bindings, count_dynamics, counted, nodes, nodes_of_forms, nodes_of_clauses, nodes_of_body, nodes_of_values, nodes_of_dynamics}
use Rattle.flat_language.specs.Scope.{Scope, with_bound, with_around, flat_parts}
use Rattle.flat_language.specs.Flatten.{functions, functions_of_values, functions_of_body, functions_of_dynamics, flat, flat_forms, flat_clauses, flat_body, flat_bindings, flat_dynamics}

pub length-parts : (s : Scope) (ps : List Capture) → length (flat_parts s ps) ≡ length ps
length-parts s [] = refl
length-parts s (p ∷ ps) = ap suc (length-parts s ps)

mutual
  unfolding flat

  pub forms_counted : (s : Scope) (n : ℕ) (fs : Forms) → count_forms (flat_forms s n fs) ≡ core_counts.count_forms fs
  forms_counted s n core.no_form = refl
  forms_counted s n (core.form_and f fs) = ap (λ k. k + 1) (forms_counted s (n + functions f) fs)

  pub clauses_counted : (s : Scope) (n : ℕ) (cs : ClauseForms) → count_clauses (flat_clauses s n cs) ≡ core_counts.count_clauses cs
  clauses_counted s n core.no_clause = refl
  clauses_counted s n (core.clause_and test body cs) =
      ap (λ k. k + 1) (clauses_counted s (n + (functions test + functions_of_body body)) cs)

  pub bindings_counted : (s : Scope) (n : ℕ) (body : Form) (bs : BindingForms) → count_bindings (flat_bindings s n body bs) ≡ core_counts.count_bindings bs
  bindings_counted s n body core.no_binding = refl
  bindings_counted s n body (core.binding_and v f bs) = ap (λ k. k + 1) (bindings_counted s (n + functions f) body bs)

  pub dynamics_counted : (s : Scope) (n : ℕ) (ds : DynamicForms) → count_dynamics (flat_dynamics s n ds) ≡ core_counts.count_dynamics ds
  dynamics_counted s n core.no_dynamic = refl
  dynamics_counted s n (core.dynamic_and name f ds) = ap (λ k. k + 1) (dynamics_counted s (n + functions f) ds)

-- the step by which the nodes of a core form are counted
abbrev counts : Form → List ℕ → List ℕ → ℕ
counts = λ g outer inner. core_counts.own_nodes g + sum outer + (if core_counts.is_function g then 0 else sum inner)

outer_same : {own own' : ℕ} {xs ys : List ℕ} → own ≡ own' → xs ≡ ys → counted own xs [] ≡ counted own' ys []
outer_same {own} {own'} {xs} {ys} e f = ap (λ o. counted o xs []) e ∙ ap (λ us. counted own' us []) f

inner_same : {own own' : ℕ} {xs ys : List ℕ} → own ≡ own' → xs ≡ ys → counted own [] xs ≡ counted own' [] ys
inner_same {own} {own'} {xs} {ys} e f = ap (λ o. counted o [] xs) e ∙ ap (λ us. counted own' [] us) f

all_same : {own own' : ℕ} {xs ys us ws : List ℕ} → own ≡ own' → xs ≡ ys → us ≡ ws → counted own xs us ≡ counted own' ys ws
all_same {own} {own'} {xs} {ys} {us} {ws} e f g =
    ap (λ o. counted o xs us) e ∙ ap (λ zs. counted own' zs us) f ∙ ap (λ zs. counted own' ys zs) g

its : (n : ℕ) → n ≡ n
its n = refl

one : {m n : ℕ} → m ≡ n → m ∷ [] ≡ n ∷ []
one {m} {n} e = ap (λ k. k ∷ []) e

two : {m n k l : ℕ} → m ≡ n → k ≡ l → m ∷ k ∷ [] ≡ n ∷ l ∷ []
two {m} {n} {k} {l} e f = ap (λ i. i ∷ k ∷ []) e ∙ ap (λ i. n ∷ i ∷ []) f

more : {m n : ℕ} {xs ys : List ℕ} → m ≡ n → xs ≡ ys → m ∷ xs ≡ n ∷ ys
more {m} {n} {xs} {ys} e f = ap (λ i. i ∷ xs) e ∙ ap (λ zs. n ∷ zs) f

both : {xs ys us ws : List ℕ} → xs ≡ ys → us ≡ ws → xs ++ us ≡ ys ++ ws
both {xs} {ys} {us} {ws} e f = ap (λ zs. zs ++ us) e ∙ ap (λ zs. ys ++ zs) f

mutual
  unfolding flat

  pub nodes_same : (s : Scope) (n : ℕ) (f : Form) → nodes (flat s n f) ≡ core_counts.nodes f
  nodes_same s n (core.literal i) = refl
  nodes_same s n (core.local v) = refl
  nodes_same s n (core.global name) = refl
  nodes_same s n (core.go x segment) = refl
  nodes_same s n (core.dynamic name) = refl
  nodes_same s n core.next_method = refl
  nodes_same s n core.has_next = refl
  nodes_same s n (core.set_local v f) = outer_same (its 1) (one (nodes_same s n f))
  nodes_same s n (core.set_global name f) = outer_same (its 2) (one (nodes_same s n f))
  nodes_same s n (core.def_global name f) = outer_same (its 2) (one (nodes_same s n f))
  nodes_same s n (core.return_from x f) = outer_same (its 1) (one (nodes_same s n f))
  nodes_same s n (core.set_dynamic name f) = outer_same (its 2) (one (nodes_same s n f))
  nodes_same s n (core.def_dynamic name f) = outer_same (its 2) (one (nodes_same s n f))
  nodes_same s n (core.sited site f) = outer_same (its 0) (one (nodes_same s n f))
  nodes_same s n (core.apply f list) = outer_same (its 1) (two (nodes_same s n f) (nodes_same s (n + functions f) list))
  nodes_same s n (core.while_form test body) = outer_same (its 1) (two (nodes_same s n test) (nodes_same s (n + functions test) body))
  nodes_same s n (core.catch_form tag body) = outer_same (its 2) (two (nodes_same s n tag) (nodes_same s (n + functions tag) body))
  nodes_same s n (core.throw tag f) = outer_same (its 1) (two (nodes_same s n tag) (nodes_same s (n + functions tag) f))
  nodes_same s n (core.unwind f cleanup) = outer_same (its 2) (two (nodes_same s n f) (nodes_same s (n + functions f) cleanup))
  nodes_same s n (core.with_handler handler body) = outer_same (its 2) (two (nodes_same s n handler) (nodes_same s (n + functions handler) body))
  nodes_same s n (core.signal_form condition mark) = outer_same (its 1) (two (nodes_same s n condition) (nodes_same s (n + functions condition) mark))
  nodes_same s n (core.continue_form condition f) = outer_same (its 1) (two (nodes_same s n condition) (nodes_same s (n + functions condition) f))
  nodes_same s n (core.clauses cs) = outer_same (ap (λ k. 1 + k) (clauses_counted s n cs)) (clauses_same s n cs)
  nodes_same s n (core.sequence fs) = outer_same (its 1) (forms_same s n fs)
  nodes_same s n (core.call name fs) = outer_same (ap (λ k. 2 + k) (forms_counted s n fs)) (forms_same s n fs)
  nodes_same s n (core.call_value fs) = outer_same (ap (λ k. 1 + k) (forms_counted s n fs)) (forms_same s n fs)
  nodes_same s n (core.prim which fs) = outer_same (ap (λ k. 1 + k) (forms_counted s n fs)) (forms_same s n fs)
  nodes_same s n (core.let_form bs body) =
      all_same (ap (λ k. 1 + k) (bindings_counted s n body bs)) (values_same s n body bs) (one (nodes_same (with_bound (bound_variables bs) body s) (n + functions_of_values bs) body))
  nodes_same s n (core.lambda required rest body parts) = ap (λ k. counted k [] []) (ap (λ k. 1 + k) (length-parts s parts))
  nodes_same s n (core.block x body) = inner_same (its 2) (one (nodes_same (with_around x s) n body))
  nodes_same s n (core.tagbody x segments) = inner_same (ap (λ k. 2 + (k - 1)) (forms_counted (with_around x s) n segments)) (forms_same (with_around x s) n segments)
  nodes_same s n (core.dynamic_let ds body) =
      all_same (ap (λ k. 1 + k) (dynamics_counted s n ds)) (dynamics_same s n ds) (one (nodes_same s (n + functions_of_dynamics ds) body))

  forms_same : (s : Scope) (n : ℕ) (fs : Forms) → nodes_of_forms (flat_forms s n fs) ≡ fold_forms counts fs
  forms_same s n core.no_form = refl
  forms_same s n (core.form_and f fs) = more (nodes_same s n f) (forms_same s (n + functions f) fs)

  clauses_same : (s : Scope) (n : ℕ) (cs : ClauseForms) → nodes_of_clauses (flat_clauses s n cs) ≡ fold_clauses counts cs
  clauses_same s n core.no_clause = refl
  clauses_same s n (core.clause_and test body cs) =
      more (nodes_same s n test) (both (body_same s (n + functions test) body)
      (clauses_same s (n + (functions test + functions_of_body body)) cs))

  body_same : (s : Scope) (n : ℕ) (b : MaybeForm) → nodes_of_body (flat_body s n b) ≡ fold_body counts b
  body_same s n core.no_body = refl
  body_same s n (core.with_body f) = one (nodes_same s n f)

  values_same : (s : Scope) (n : ℕ) (body : Form) (bs : BindingForms) → nodes_of_values (flat_bindings s n body bs) ≡ fold_values counts bs
  values_same s n body core.no_binding = refl
  values_same s n body (core.binding_and v f bs) = more (nodes_same s n f) (values_same s (n + functions f) body bs)

  dynamics_same : (s : Scope) (n : ℕ) (ds : DynamicForms) → nodes_of_dynamics (flat_dynamics s n ds) ≡ fold_dynamics counts ds
  dynamics_same s n core.no_dynamic = refl
  dynamics_same s n (core.dynamic_and name f ds) = more (nodes_same s n f) (dynamics_same s (n + functions f) ds)
