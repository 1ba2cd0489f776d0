-- Nodes of forms by the forms inside them: a form counts at least one, and the forms that it is made of.
use Rattle.std.proofs.Common.{◌≡◌, ◌+◌, ◌≤◌, ℕ, zero, suc, if◌then◌else◌, List, [], ◌∷◌, take, drop, map, length, Option, refl, ap, ◌∙◌, arith}
use Rattle.std.specs.List.{sum, fold}
use Rattle.base.specs.declared.datum.Name.{Name}
use Rattle.lang_meaning.specs.declared.primitive.Primitive.{Primitive}
use Rattle.lang_meaning.specs.declared.capture.Capture.{Capture as Captured}
use Rattle.lang_meaning.specs.Form.{Form, form_and, ClauseForms, local, clauses, let_form, lambda, call, call_value, prim, block, tagbody, dynamic_let, sited}
use Rattle.lang_meaning.specs.Subforms.{forms_list, clause_list, value_list, dynamic_value_list, outer, inner}
use Rattle.lang_meaning.specs.Counts.{own_nodes, is_function, parameters, all_nodes}
use Rattle.lang_meaning.specs.model.View.{forms, forms_back}
use Rattle.lang_meaning.specs.bridge.Walks.{folded}
use Rattle.front_profile.specs.declared.elaboration.ElaboratedPart.{ElaboratedPart}
use Rattle.front_profile.specs.declared.elaboration.ElaboratedPart.TheVariants.{Value, Binding, Parameter}
use Rattle.front_profile.specs.declared.elaboration.One.{One}
use Rattle.front_profile.specs.declared.elaboration.One.TheVariants.{SetVariable}
use Rattle.lang_meaning.specs.declared.kinds.OverTwo.{OverTwo}
use Rattle.lang_meaning.specs.declared.kinds.OverTwo.TheVariants.{Apply, While, Catch, Throw, Unwind, WithHandler, Signal, Continue}
use Rattle.front_profile.specs.Elaborations.{forms_found, bindings_found, body_of, one_of, two_of, make_segments, make_dynamics, behind_dynamics}

abbrev pub nodes_in : List Form → ℕ
nodes_in [] = 0
nodes_in (f ∷ fs) = all_nodes f + nodes_in fs

fold_out : (a n : ℕ) (xs : List ℕ) → fold ◌+◌ (a + n) xs ≡ n + fold ◌+◌ a xs
fold_out a n [] = omega arith
fold_out a n (x ∷ xs) =
    let moved : a + n + x ≡ a + x + n = omega arith in
    ap (λ k. fold ◌+◌ k xs) moved ∙ fold_out (a + x) n xs

sum_more : (x : ℕ) (xs : List ℕ) → sum (x ∷ xs) ≡ x + sum xs
sum_more x xs = fold_out 0 x xs

summed : (fs : List Form) → sum (map all_nodes fs) ≡ nodes_in fs
summed [] = refl
summed (f ∷ fs) = sum_more (all_nodes f) (map all_nodes fs) ∙ ap (λ n. all_nodes f + n) (summed fs)

-- the sum of numbers
abbrev pub added : List ℕ → ℕ
added [] = 0
added (n ∷ ns) = n + added ns

-- the nodes of what was found
abbrev pub nodes_of : ElaboratedPart → ℕ
nodes_of (Value f) = all_nodes f
nodes_of (Binding v f) = all_nodes f
nodes_of (Parameter v) = 0

abbrev pub found_nodes : List ElaboratedPart → ℕ
found_nodes [] = 0
found_nodes (r ∷ rs) = nodes_of r + found_nodes rs

more_values : (a n f v : ℕ) → n ≡ f + v → a + n ≡ a + f + v
more_values a n f v e = omega (arith, e)

more_bindings : (a n f v : ℕ) → n ≡ f + v → a + n ≡ f + (a + v)
more_bindings a n f v e = omega (arith, e)

no_more : (n f v : ℕ) → n ≡ f + v → 0 + n ≡ f + v
no_more n f v e = omega (arith, e)

pub found_counted : (rs : List ElaboratedPart) → found_nodes rs ≡ nodes_in (forms_found rs) + nodes_in (value_list (bindings_found rs))
found_counted [] = refl
found_counted (Value f ∷ rs) = more_values (all_nodes f) (found_nodes rs) (nodes_in (forms_found rs)) (nodes_in (value_list (bindings_found rs))) (found_counted rs)
found_counted (Binding v f ∷ rs) = more_bindings (all_nodes f) (found_nodes rs) (nodes_in (forms_found rs)) (nodes_in (value_list (bindings_found rs))) (found_counted rs)
found_counted (Parameter v ∷ rs) = no_more (found_nodes rs) (nodes_in (forms_found rs)) (nodes_in (value_list (bindings_found rs))) (found_counted rs)

nodes_summed : (f : Form) → all_nodes f ≡ own_nodes f + sum (map all_nodes (outer f)) + (if is_function f then sum (map all_nodes (inner f)) + parameters f + 4 else sum (map all_nodes (inner f)))
nodes_summed f = folded (λ g outer inner. own_nodes g + sum outer + (if is_function g then sum inner + parameters g + 4 else sum inner)) f

pub nodes_folded : (f : Form) → all_nodes f ≡ own_nodes f + nodes_in (outer f) + (if is_function f then nodes_in (inner f) + parameters f + 4 else nodes_in (inner f))
nodes_folded f =
    nodes_summed f
    ∙ ap (λ n. own_nodes f + n + (if is_function f then sum (map all_nodes (inner f)) + parameters f + 4 else sum (map all_nodes (inner f)))) (summed (outer f))
    ∙ ap (λ n. own_nodes f + nodes_in (outer f) + (if is_function f then n + parameters f + 4 else n)) (summed (inner f))

listed_nodes : (fs : List Form) → nodes_in (forms_list (forms fs)) ≡ nodes_in fs
listed_nodes fs = ap nodes_in (forms_back fs)

pub body_nodes : (fs : List Form) → all_nodes (body_of fs) ≡ nodes_in fs + 1
body_nodes fs = omega (arith, nodes_folded (body_of fs), listed_nodes fs)

pub sequence_nodes : (fs : List Form) → nodes_in fs + 1 ≤ all_nodes (body_of fs)
sequence_nodes fs = omega (arith, body_nodes fs)

pub one_nodes : (k : One) (f : Form) → all_nodes f + 1 ≤ all_nodes (one_of k f)
one_nodes (SetVariable v) f = omega arith
one_nodes other f = omega arith

pub two_nodes : (k : OverTwo) (f g : Form) → all_nodes f + all_nodes g + 1 ≤ all_nodes (two_of k f g)
two_nodes Apply f g = omega arith
two_nodes While f g = omega arith
two_nodes Catch f g = omega arith
two_nodes Throw f g = omega arith
two_nodes Unwind f g = omega arith
two_nodes WithHandler f g = omega arith
two_nodes Signal f g = omega arith
two_nodes Continue f g = omega arith

pub with_body_nodes : (k : OverTwo) (f : Form) (fs : List Form) → all_nodes f + nodes_in fs + 1 ≤ all_nodes (two_of k f (body_of fs))
with_body_nodes k f fs = omega (arith, two_nodes k f (body_of fs), body_nodes fs)

pub call_nodes : (n : ℕ) (fs : List Form) → nodes_in fs + 1 ≤ all_nodes (call n (forms fs))
call_nodes n fs = omega (arith, nodes_folded (call n (forms fs)), listed_nodes fs)

pub call_value_nodes : (fs : List Form) → nodes_in fs + 1 ≤ all_nodes (call_value (forms fs))
call_value_nodes fs = omega (arith, nodes_folded (call_value (forms fs)), listed_nodes fs)

pub prim_nodes : (p : Primitive) (fs : List Form) → nodes_in fs + 1 ≤ all_nodes (prim p (forms fs))
prim_nodes p fs = omega (arith, nodes_folded (prim p (forms fs)), listed_nodes fs)

pub local_call_nodes : (v : ℕ) (fs : List Form) → nodes_in fs + 1 ≤ all_nodes (call_value (form_and (local v) (forms fs)))
local_call_nodes v fs =
    local_more (all_nodes (local v)) (nodes_in (forms_list (forms fs))) (nodes_in fs) _ _ (nodes_folded (call_value (form_and (local v) (forms fs)))) (listed_nodes fs)
  where
    local_more : (a n m own all : ℕ) → all ≡ 1 + own + (a + n) + 0 → n ≡ m → m + 1 ≤ all
    local_more a n m own all e f = omega (arith, e, f)

pub let_nodes : (rs : List ElaboratedPart) → found_nodes rs + 1 ≤ all_nodes (let_form (bindings_found rs) (body_of (forms_found rs)))
let_nodes rs = omega (arith, nodes_folded (let_form (bindings_found rs) (body_of (forms_found rs))), body_nodes (forms_found rs), found_counted rs)

pub lambda_nodes : (required : List ℕ) (rest : Option ℕ) (fs : List Form) (parts : List Captured) → nodes_in fs + 1 ≤ all_nodes (lambda required rest (body_of fs) parts)
lambda_nodes required rest fs parts = omega (arith, nodes_folded (lambda required rest (body_of fs) parts), body_nodes fs)

pub block_nodes : (x : ℕ) (fs : List Form) → nodes_in fs + 1 ≤ all_nodes (block x (body_of fs))
block_nodes x fs = omega (arith, nodes_folded (block x (body_of fs)), body_nodes fs)

pub clauses_nodes : (cs : ClauseForms) → nodes_in (clause_list cs) + 1 ≤ all_nodes (clauses cs)
clauses_nodes cs = omega (arith, nodes_folded (clauses cs))

dynamics_counted : (ns : List Name) (fs : List Form) → nodes_in fs ≤ nodes_in (dynamic_value_list (make_dynamics ns fs)) + nodes_in (behind_dynamics ns fs)
dynamics_counted [] fs = omega arith
dynamics_counted (n ∷ ns) [] = omega arith
dynamics_counted (n ∷ ns) (f ∷ fs) =
    more_counted (all_nodes f) (nodes_in fs) (nodes_in (dynamic_value_list (make_dynamics ns fs))) (nodes_in (behind_dynamics ns fs)) (dynamics_counted ns fs)
  where
    more_counted : (a n v b : ℕ) → n ≤ v + b → a + n ≤ a + v + b
    more_counted a n v b h = omega (arith, h)

pub dynamic_let_nodes : (ns : List Name) (fs : List Form) → nodes_in fs + 1 ≤ all_nodes (dynamic_let (make_dynamics ns fs) (body_of (behind_dynamics ns fs)))
dynamic_let_nodes ns fs =
    omega (arith, nodes_folded (dynamic_let (make_dynamics ns fs) (body_of (behind_dynamics ns fs))), body_nodes (behind_dynamics ns fs), dynamics_counted ns fs)

pub split_nodes : (n : ℕ) (fs : List Form) → nodes_in fs ≡ nodes_in (take n fs) + nodes_in (drop n fs)
split_nodes zero fs = omega arith
split_nodes (suc n) [] = refl
split_nodes (suc n) (f ∷ fs) = more_values (all_nodes f) (nodes_in fs) (nodes_in (take n fs)) (nodes_in (drop n fs)) (split_nodes n fs)

left_over : (n : ℕ) (fs : List Form) (k : ℕ) → length fs ≤ n + k → length (drop n fs) ≤ k
left_over zero fs k h = omega (arith, h)
left_over (suc n) [] k h = omega arith
left_over (suc n) (f ∷ fs) k h = left_over n fs k (omega (arith, h))

segments_nodes : (ns : List ℕ) (fs : List Form) → length fs ≤ added ns → nodes_in fs ≤ nodes_in (forms_list (make_segments ns fs))
segments_nodes [] [] h = omega arith
segments_nodes [] (f ∷ fs) h = absurd (omega (arith, h))
segments_nodes (n ∷ ns) fs h =
    omega (arith, body_nodes (take n fs), split_nodes n fs, segments_nodes ns (drop n fs) (left_over n fs (added ns) h))

pub tagbody_nodes : (x : ℕ) (ns : List ℕ) (fs : List Form) → length fs ≤ added ns → nodes_in fs + 1 ≤ all_nodes (tagbody x (make_segments ns fs))
tagbody_nodes x ns fs h = omega (arith, nodes_folded (tagbody x (make_segments ns fs)), segments_nodes ns fs h)

pub site_nodes : (site : ℕ) (f : Form) → all_nodes (sited site f) ≡ all_nodes f
site_nodes site f = omega (arith, nodes_folded (sited site f))
