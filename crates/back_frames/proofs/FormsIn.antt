-- A form and all forms in it.
use Rattle.std.proofs.Common.{◌≡◌, ℕ, ◌+◌, List, [], ◌∷◌, ◌++◌, refl, arith}
use Rattle.base.specs.AllOf.{AllOf}
use Rattle.flat_language.specs.FlatForm.{FlatForm, literal, local, set_local, global, set_global, def_global, clauses, sequence, let_form, make_function, call, call_value, apply, prim, while_form, block, return_from, tagbody, go, catch_form, throw, unwind, dynamic_let, dynamic, set_dynamic, def_dynamic, with_handler, signal_form, continue_form, next_method, has_next, sited}
use Rattle.flat_language.specs.FlatForm.{FlatForms, no_form, form_and, FlatClauses, no_clause, clause_and, FlatBody, no_body, with_body}
use Rattle.flat_language.specs.FlatForm.{FlatBindings, no_binding, binding_and, FlatDynamics, no_dynamic, dynamic_and}
use Rattle.flat_boxes.specs.Totals.{total, total_of_forms, total_of_clauses, total_of_body, total_of_values, total_of_dynamics}

abbrev mutual
  pub forms_in : FlatForm → List FlatForm
  forms_in (literal i) = literal i ∷ []
  forms_in (local p) = local p ∷ []
  forms_in (global n) = global n ∷ []
  forms_in (make_function p parts) = make_function p parts ∷ []
  forms_in (go x segment) = go x segment ∷ []
  forms_in (dynamic n) = dynamic n ∷ []
  forms_in (next_method m) = next_method m ∷ []
  forms_in (has_next m) = has_next m ∷ []
  forms_in (set_local p f) = set_local p f ∷ forms_in f
  forms_in (set_global n f) = set_global n f ∷ forms_in f
  forms_in (def_global n f) = def_global n f ∷ forms_in f
  forms_in (return_from x f) = return_from x f ∷ forms_in f
  forms_in (set_dynamic n f) = set_dynamic n f ∷ forms_in f
  forms_in (def_dynamic n f) = def_dynamic n f ∷ forms_in f
  forms_in (sited site f) = sited site f ∷ forms_in f
  forms_in (block body) = block body ∷ forms_in body
  forms_in (clauses cs) = clauses cs ∷ in_clauses cs
  forms_in (sequence fs) = sequence fs ∷ in_forms fs
  forms_in (call n fs) = call n fs ∷ in_forms fs
  forms_in (call_value fs) = call_value fs ∷ in_forms fs
  forms_in (prim which fs) = prim which fs ∷ in_forms fs
  forms_in (tagbody segments) = tagbody segments ∷ in_forms segments
  forms_in (let_form bs body) = let_form bs body ∷ (in_values bs ++ forms_in body)
  forms_in (dynamic_let ds body) = dynamic_let ds body ∷ (in_dynamics ds ++ forms_in body)
  forms_in (apply f list) = apply f list ∷ (forms_in f ++ forms_in list)
  forms_in (while_form test body) = while_form test body ∷ (forms_in test ++ forms_in body)
  forms_in (catch_form tag body) = catch_form tag body ∷ (forms_in tag ++ forms_in body)
  forms_in (throw tag f) = throw tag f ∷ (forms_in tag ++ forms_in f)
  forms_in (unwind f cleanup) = unwind f cleanup ∷ (forms_in f ++ forms_in cleanup)
  forms_in (with_handler handler body) = with_handler handler body ∷ (forms_in handler ++ forms_in body)
  forms_in (signal_form condition mark) = signal_form condition mark ∷ (forms_in condition ++ forms_in mark)
  forms_in (continue_form condition f) = continue_form condition f ∷ (forms_in condition ++ forms_in f)

  pub in_forms : FlatForms → List FlatForm
  in_forms no_form = []
  in_forms (form_and f fs) = forms_in f ++ in_forms fs

  pub in_clauses : FlatClauses → List FlatForm
  in_clauses no_clause = []
  in_clauses (clause_and test body cs) = forms_in test ++ (in_body body ++ in_clauses cs)

  pub in_body : FlatBody → List FlatForm
  in_body no_body = []
  in_body (with_body f) = forms_in f

  pub in_values : FlatBindings → List FlatForm
  in_values no_binding = []
  in_values (binding_and h f bs) = forms_in f ++ in_values bs

  pub in_dynamics : FlatDynamics → List FlatForm
  in_dynamics no_dynamic = []
  in_dynamics (dynamic_and n f ds) = forms_in f ++ in_dynamics ds

-- what is counted of each of a list
abbrev pub tally : (FlatForm → ℕ) → List FlatForm → ℕ
tally own [] = 0
tally own (f ∷ fs) = own f + tally own fs

tally_both : (own : FlatForm → ℕ) (fs gs : List FlatForm) → tally own (fs ++ gs) ≡ tally own fs + tally own gs
tally_both own [] gs = omega arith
tally_both own (f ∷ fs) gs = let inner = tally_both own fs gs in omega arith

mutual
  pub total_is : (own : FlatForm → ℕ) (f : FlatForm) → total own f ≡ tally own (forms_in f)
  total_is own (literal i) = omega arith
  total_is own (local p) = omega arith
  total_is own (global n) = omega arith
  total_is own (make_function p parts) = omega arith
  total_is own (go x segment) = omega arith
  total_is own (dynamic n) = omega arith
  total_is own (next_method m) = omega arith
  total_is own (has_next m) = omega arith
  total_is own (set_local p f) = let inner = total_is own f in omega arith
  total_is own (set_global n f) = let inner = total_is own f in omega arith
  total_is own (def_global n f) = let inner = total_is own f in omega arith
  total_is own (return_from x f) = let inner = total_is own f in omega arith
  total_is own (set_dynamic n f) = let inner = total_is own f in omega arith
  total_is own (def_dynamic n f) = let inner = total_is own f in omega arith
  total_is own (sited site f) = let inner = total_is own f in omega arith
  total_is own (block body) = let inner = total_is own body in omega arith
  total_is own (clauses cs) = let inner = clauses_is own cs in omega arith
  total_is own (sequence fs) = let inner = forms_is own fs in omega arith
  total_is own (call n fs) = let inner = forms_is own fs in omega arith
  total_is own (call_value fs) = let inner = forms_is own fs in omega arith
  total_is own (prim which fs) = let inner = forms_is own fs in omega arith
  total_is own (tagbody segments) = let inner = forms_is own segments in omega arith
  total_is own (let_form bs body) =
      let outer = values_is own bs in let inner = total_is own body in let both = tally_both own (in_values bs) (forms_in body) in omega arith
  total_is own (dynamic_let ds body) =
      let outer = dynamics_is own ds in let inner = total_is own body in let both = tally_both own (in_dynamics ds) (forms_in body) in omega arith
  total_is own (apply f list) =
      let first = total_is own f in let second = total_is own list in let both = tally_both own (forms_in f) (forms_in list) in omega arith
  total_is own (while_form test body) =
      let first = total_is own test in let second = total_is own body in let both = tally_both own (forms_in test) (forms_in body) in omega arith
  total_is own (catch_form tag body) =
      let first = total_is own tag in let second = total_is own body in let both = tally_both own (forms_in tag) (forms_in body) in omega arith
  total_is own (throw tag f) =
      let first = total_is own tag in let second = total_is own f in let both = tally_both own (forms_in tag) (forms_in f) in omega arith
  total_is own (unwind f cleanup) =
      let first = total_is own f in let second = total_is own cleanup in let both = tally_both own (forms_in f) (forms_in cleanup) in omega arith
  total_is own (with_handler handler body) =
      let first = total_is own handler in let second = total_is own body in let both = tally_both own (forms_in handler) (forms_in body) in omega arith
  total_is own (signal_form condition mark) =
      let first = total_is own condition in let second = total_is own mark in let both = tally_both own (forms_in condition) (forms_in mark) in omega arith
  total_is own (continue_form condition f) =
      let first = total_is own condition in let second = total_is own f in let both = tally_both own (forms_in condition) (forms_in f) in omega arith

  forms_is : (own : FlatForm → ℕ) (fs : FlatForms) → total_of_forms own fs ≡ tally own (in_forms fs)
  forms_is own no_form = refl
  forms_is own (form_and f fs) = let first = total_is own f in let more = forms_is own fs in let both = tally_both own (forms_in f) (in_forms fs) in omega arith

  clauses_is : (own : FlatForm → ℕ) (cs : FlatClauses) → total_of_clauses own cs ≡ tally own (in_clauses cs)
  clauses_is own no_clause = refl
  clauses_is own (clause_and test body cs) =
      let first = total_is own test in let second = body_is own body in let more = clauses_is own cs in
      let both = tally_both own (forms_in test) (in_body body ++ in_clauses cs) in
      let behind = tally_both own (in_body body) (in_clauses cs) in
      omega arith

  body_is : (own : FlatForm → ℕ) (b : FlatBody) → total_of_body own b ≡ tally own (in_body b)
  body_is own no_body = refl
  body_is own (with_body f) = total_is own f

  values_is : (own : FlatForm → ℕ) (bs : FlatBindings) → total_of_values own bs ≡ tally own (in_values bs)
  values_is own no_binding = refl
  values_is own (binding_and h f bs) = let first = total_is own f in let more = values_is own bs in let both = tally_both own (forms_in f) (in_values bs) in omega arith

  dynamics_is : (own : FlatForm → ℕ) (ds : FlatDynamics) → total_of_dynamics own ds ≡ tally own (in_dynamics ds)
  dynamics_is own no_dynamic = refl
  dynamics_is own (dynamic_and n f ds) = let first = total_is own f in let more = dynamics_is own ds in let both = tally_both own (forms_in f) (in_dynamics ds) in omega arith

-- what holds of the items of two lists, one behind the other, holds of those of each
pub in_front : {X : Type 0} (P : X → Type 0) (xs ys : List X) → AllOf P (xs ++ ys) → AllOf P xs
in_front P [] ys h = tt
in_front P (x ∷ xs) ys h = (h.0, in_front P xs ys h.1)

pub behind : {X : Type 0} (P : X → Type 0) (xs ys : List X) → AllOf P (xs ++ ys) → AllOf P ys
behind P [] ys h = h
behind P (x ∷ xs) ys h = behind P xs ys h.1
