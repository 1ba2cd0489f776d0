-- **Whole programs that were made flat have the forms that are asked**: a function that captures the call of the method around is known to keep
-- it, and no tagbody has more segments than a program has nodes.
use Rattle.std.proofs.Common.{◌≡◌, ◌≤◌, ◌<◌, ℕ, zero, suc, ◌+◌, ◌*◌, ◌-◌, ◌^◌, Bool, true, false, ◌&&◌, List, [], ◌∷◌, ◌++◌, map, Option, refl, sym, ap, subst, ◌∙◌, arith}
use Rattle.std.specs.Prelude.{◌||◌, not, nat_le, is_some, if◌then◌else◌}
use Rattle.std.specs.List.{list_any, sum, sum_by}
use Rattle.std.proofs.lemmas.Bool.Decides.{nat_tests}
use Rattle.std.proofs.lemmas.List.Sums.{sum_by-cons}
use Rattle.base.specs.AllOf.{AllOf}
use Rattle.lang_meaning.specs.declared.capture.Capture.{Capture}
use Rattle.lang_meaning.specs.declared.capture.Capture.TheVariants.{Variable, Exit, Method}
use Rattle.lang_meaning.specs.declared.program.Procedure.{Procedure}
use Rattle.lang_meaning.specs.declared.program.ProgramRows.{ProgramRows}
use Rattle.lang_meaning.specs.Captured.{captures_inside, captures}
use Rattle.lang_meaning.specs.Cells.{program_cells}
use Rattle.lang_meaning.specs.Counts as core_counts
use Rattle.lang_meaning.specs.Counts.{is_function, own_nodes, all_nodes, parameter_count}
use Rattle.lang_meaning.specs.Facts.{rows_fit, bodies_stand, is_whole}
use Rattle.lang_meaning.specs.Form.{Form, Forms, ClauseForms, MaybeForm, BindingForms, DynamicForms, parameters}
use Rattle.lang_meaning.specs.Form as core
use Rattle.lang_meaning.specs.Meaning.{bound_variables}
use Rattle.lang_meaning.specs.Mentions.{same_part, owns, binds, variables_bound, some}
use Rattle.lang_meaning.specs.ProgramCounts.{procedure_nodes, program_nodes}
use Rattle.lang_meaning.specs.Subforms.{outer, inner, forms_list, clause_list, value_list, dynamic_value_list}
use Rattle.lang_meaning.specs.bridge.Walks.{folded}
use Rattle.flat_language.specs.declared.place.FlatCapture.TheVariants as part
use Rattle.flat_language.specs.declared.place.MethodPlace.{MethodPlace}
use Rattle.flat_language.specs.declared.place.MethodPlace.TheVariants as method_place
use Rattle.flat_language.specs.declared.program.FlatProcedure.{FlatProcedure}
use Rattle.flat_language.specs.Scope.{Scope, no_scope, method_place_of, flat_part, flat_parts, with_bound, with_around, seen}
use Rattle.flat_language.specs.Flatten.{functions, functions_of_values, functions_of_dynamics, flat, flat_forms, flat_clauses, flat_bindings, flat_dynamics, body_scope, inner_procedures, procedures_of_forms, procedures_of_clauses, procedures_of_values, procedures_of_dynamics, functions_of_procedures, flat_procedures, inner_of_procedures, inner_of_mains, flat_mains, flat_program}
use Rattle.flat_language.proofs.Fine.{first_true, second_true}
use Rattle.flat_language.proofs.Nodes.{forms_counted}
use Rattle.flat_language.proofs.Start.{both}
use Rattle.back_words.proofs.Firsts.{or_true}
use Rattle.back_words.specs.Asked.{PartKept, Keeps, KeepForms, KeepClauses, KeepValues, KeepDynamics, FormsAsked}

-- ---- what is known of a form of a body: where it captures the method, that is kept; and it is small
abbrev Kept : Bool → Form → Type 0
Kept keeps f = (captures Method f ≡ true → keeps ≡ true) × (all_nodes f < 2 ^ 32)

some_each : (keeps : Bool) (fs : List Form) → (some (map (captures Method) fs) ≡ true → keeps ≡ true)
    → AllOf (λ f. captures Method f ≡ true → keeps ≡ true) fs
some_each keeps [] h = tt
some_each keeps (f ∷ fs) h = (
  λ e. h (ap (λ b. b || some (map (captures Method) fs)) e),
  some_each keeps fs (λ e. h (or_true (captures Method f) (some (map (captures Method) fs)) e)),
)

small_each : (fs : List Form) → sum (map all_nodes fs) < 2 ^ 32 → AllOf (λ f. all_nodes f < 2 ^ 32) fs
small_each [] h = tt
small_each (f ∷ fs) h =
    let parts : sum (map all_nodes (f ∷ fs)) ≡ all_nodes f + sum (map all_nodes fs) = sum_by-cons (λ x. x) (all_nodes f) (map all_nodes fs) in
    let here : all_nodes f < 2 ^ 32 = omega (arith, h, parts) in
    (here, small_each fs (omega (arith, h, parts)))

both_each : (keeps : Bool) (fs : List Form) → AllOf (λ f. captures Method f ≡ true → keeps ≡ true) fs → AllOf (λ f. all_nodes f < 2 ^ 32) fs
    → AllOf (Kept keeps) fs
both_each keeps [] h g = tt
both_each keeps (f ∷ fs) h g = ((h.0, g.0), both_each keeps fs h.1 g.1)

all_folded : (f : Form)
    → all_nodes f
    ≡ own_nodes f + sum (map all_nodes (outer f))
    + (if is_function f then sum (map all_nodes (inner f)) + core_counts.parameters f + 4 else sum (map all_nodes (inner f)))
all_folded f =
    folded (λ g outer inner. own_nodes g + sum outer + (if is_function g then sum inner + core_counts.parameters g + 4 else sum inner)) f

captures_folded : (f : Form)
    → captures Method f ≡ (some (map (captures Method) (outer f)) || captures_inside Method f (some (map (captures Method) (inner f))))
captures_folded f = folded (λ g outer inner. some outer || captures_inside Method g (some inner)) f

outer_kept : (keeps : Bool) (f : Form) → Kept keeps f → AllOf (Kept keeps) (outer f)
outer_kept keeps f h =
    both_each keeps (outer f)
    (some_each keeps (outer f)
    (λ e. h.0 (captures_folded f ∙ ap (λ b. b || captures_inside Method f (some (map (captures Method) (inner f)))) e)))
    (small_each (outer f) (omega (arith, h.1, all_folded f)))

-- what is inside, where the form is no function and does not bind the method
inner_kept : (keeps : Bool) (f : Form) → is_function f ≡ false → ((b : Bool) → b ≡ true → captures_inside Method f b ≡ true) → Kept keeps f
    → AllOf (Kept keeps) (inner f)
inner_kept keeps f other passes h =
    let n : ℕ = sum (map all_nodes (inner f)) in
    let same : (if is_function f then n + core_counts.parameters f + 4 else n) ≡ n =
    ap (λ (b : Bool). if b then n + core_counts.parameters f + 4 else n) other in
    both_each keeps (inner f)
    (some_each keeps (inner f)
    (λ e. h.0 (captures_folded f ∙ or_true (some (map (captures Method) (outer f))) (captures_inside Method f (some (map (captures Method) (inner f)))) (passes (some (map (captures Method) (inner f))) e))))
    (small_each (inner f) (omega (arith, h.1, all_folded f, same)))

owns_none : (vs : List ℕ) → owns vs Method ≡ false
owns_none [] = refl
owns_none (v ∷ vs) = owns_none vs

let_form_inner : (keeps : Bool) (bs : BindingForms) (body : Form) → Kept keeps (core.let_form bs body) → AllOf (Kept keeps) (body ∷ [])
let_form_inner keeps bs body h =
    inner_kept keeps (core.let_form bs body) refl (λ b e. ap (λ c. not c && b) (owns_none (variables_bound bs)) ∙ e) h

block_inner : (keeps : Bool) (x : ℕ) (body : Form) → Kept keeps (core.block x body) → AllOf (Kept keeps) (body ∷ [])
block_inner keeps x body h = inner_kept keeps (core.block x body) refl (λ b e. e) h

tagbody_inner : (keeps : Bool) (x : ℕ) (fs : Forms) → Kept keeps (core.tagbody x fs) → AllOf (Kept keeps) (forms_list fs)
tagbody_inner keeps x fs h = inner_kept keeps (core.tagbody x fs) refl (λ b e. e) h

dynamic_let_inner : (keeps : Bool) (ds : DynamicForms) (body : Form) → Kept keeps (core.dynamic_let ds body) → AllOf (Kept keeps) (body ∷ [])
dynamic_let_inner keeps ds body h = inner_kept keeps (core.dynamic_let ds body) refl (λ b e. e) h

body_small : (required : List ℕ) (rest : Option ℕ) (body : Form) (parts : List Capture) → all_nodes (core.lambda required rest body parts) < 2 ^ 32
    → all_nodes body < 2 ^ 32
body_small required rest body parts h =
    (small_each (body ∷ []) (omega (arith, h, all_folded (core.lambda required rest body parts)))).0

segments_few : (keeps : Bool) (x : ℕ) (fs : Forms) → Kept keeps (core.tagbody x fs) → core_counts.count_forms fs < 2 ^ 32
segments_few keeps x fs h = omega (arith, h.1, all_folded (core.tagbody x fs))

head_kept : (keeps : Bool) (f : Form) (fs : List Form) → AllOf (Kept keeps) (f ∷ fs) → Kept keeps f
head_kept keeps f fs h = h.0

tail_kept : (keeps : Bool) (f : Form) (fs : List Form) → AllOf (Kept keeps) (f ∷ fs) → AllOf (Kept keeps) fs
tail_kept keeps f fs h = h.1

-- parts
own_kept : (keeps : Bool) (m : MethodPlace) → keeps ≡ true → PartKept keeps (part.Method m)
own_kept keeps method_place.Own h = h
own_kept keeps (method_place.Captured n) h = tt

part_kept : (keeps : Bool) (s : Scope) (p : Capture) → (same_part Method p ≡ true → keeps ≡ true) → PartKept keeps (flat_part s p)
part_kept keeps s (Variable v) h = tt
part_kept keeps s (Exit x) h = tt
part_kept keeps s Method h = own_kept keeps (method_place_of s) (h refl)

parts_kept : (keeps : Bool) (s : Scope) (ps : List Capture) → (list_any (same_part Method) ps ≡ true → keeps ≡ true) → AllOf (PartKept keeps) (flat_parts s ps)
parts_kept keeps s [] h = tt
parts_kept keeps s (p ∷ ps) h = (
  part_kept keeps s p (λ e. h (ap (λ b. b || list_any (same_part Method) ps) e)),
  parts_kept keeps s ps (λ e. h (or_true (same_part Method p) (list_any (same_part Method) ps) e)),
)

-- ---- forms made flat

module _ (keeps : Bool) where
  mutual
    unfolding flat

    pub flat_keeps : (s : Scope) (n : ℕ) (f : Form) → Kept keeps f → Keeps keeps (flat s n f)
    flat_keeps s n (core.literal i) h = tt
    flat_keeps s n (core.local v) h = tt
    flat_keeps s n (core.set_local v f) h = flat_keeps s n f (head_kept keeps f [] (outer_kept keeps (core.set_local v f) h))
    flat_keeps s n (core.global name) h = tt
    flat_keeps s n (core.clauses cs) h = clauses_keep s n cs (outer_kept keeps (core.clauses cs) h)
    flat_keeps s n (core.sequence fs) h = forms_keep s n fs (outer_kept keeps (core.sequence fs) h)
    flat_keeps s n (core.let_form bs body) h = (
      values_keep s n body bs (outer_kept keeps (core.let_form bs body) h),
      flat_keeps (with_bound (bound_variables bs) body s) (n + functions_of_values bs) body (head_kept keeps body [] (let_form_inner keeps bs body h)),
    )
    flat_keeps s n (core.lambda required rest body parts) h = parts_kept keeps s parts h.0
    flat_keeps s n (core.call name fs) h = forms_keep s n fs (outer_kept keeps (core.call name fs) h)
    flat_keeps s n (core.call_value fs) h = forms_keep s n fs (outer_kept keeps (core.call_value fs) h)
    flat_keeps s n (core.prim which fs) h = forms_keep s n fs (outer_kept keeps (core.prim which fs) h)
    flat_keeps s n (core.block x body) h = flat_keeps (with_around x s) n body (head_kept keeps body [] (block_inner keeps x body h))
    flat_keeps s n (core.return_from x f) h = flat_keeps s n f (head_kept keeps f [] (outer_kept keeps (core.return_from x f) h))
    flat_keeps s n (core.tagbody x fs) h = (
      subst (λ k. k < 2 ^ 32) (sym (forms_counted (with_around x s) n fs)) (segments_few keeps x fs h),
      forms_keep (with_around x s) n fs (tagbody_inner keeps x fs h),
    )
    flat_keeps s n (core.go x segment) h = tt
    flat_keeps s n (core.dynamic_let ds body) h = (
      dynamics_keep s n ds (outer_kept keeps (core.dynamic_let ds body) h),
      flat_keeps s (n + functions_of_dynamics ds) body (head_kept keeps body [] (dynamic_let_inner keeps ds body h)),
    )
    flat_keeps s n (core.dynamic name) h = tt
    flat_keeps s n core.next_method h = tt
    flat_keeps s n core.has_next h = tt
    flat_keeps s n (core.sited site f) h = flat_keeps s n f (head_kept keeps f [] (outer_kept keeps (core.sited site f) h))
    flat_keeps s n (core.set_global name f) h = flat_keeps s n f (head_kept keeps f [] (outer_kept keeps (core.set_global name f) h))
    flat_keeps s n (core.def_global name f) h = flat_keeps s n f (head_kept keeps f [] (outer_kept keeps (core.def_global name f) h))
    flat_keeps s n (core.set_dynamic name f) h = flat_keeps s n f (head_kept keeps f [] (outer_kept keeps (core.set_dynamic name f) h))
    flat_keeps s n (core.def_dynamic name f) h = flat_keeps s n f (head_kept keeps f [] (outer_kept keeps (core.def_dynamic name f) h))
    flat_keeps s n (core.apply f list) h =
        let os : AllOf (Kept keeps) (f ∷ list ∷ []) = outer_kept keeps (core.apply f list) h in
        (flat_keeps s n f (head_kept keeps f (list ∷ []) os), flat_keeps s (n + functions f) list (head_kept keeps list [] (tail_kept keeps f (list ∷ []) os)))
    flat_keeps s n (core.while_form test body) h =
        let os : AllOf (Kept keeps) (test ∷ body ∷ []) = outer_kept keeps (core.while_form test body) h in
        (flat_keeps s n test (head_kept keeps test (body ∷ []) os), flat_keeps s (n + functions test) body (head_kept keeps body [] (tail_kept keeps test (body ∷ []) os)))
    flat_keeps s n (core.catch_form tag body) h =
        let os : AllOf (Kept keeps) (tag ∷ body ∷ []) = outer_kept keeps (core.catch_form tag body) h in
        (flat_keeps s n tag (head_kept keeps tag (body ∷ []) os), flat_keeps s (n + functions tag) body (head_kept keeps body [] (tail_kept keeps tag (body ∷ []) os)))
    flat_keeps s n (core.throw tag f) h =
        let os : AllOf (Kept keeps) (tag ∷ f ∷ []) = outer_kept keeps (core.throw tag f) h in
        (flat_keeps s n tag (head_kept keeps tag (f ∷ []) os), flat_keeps s (n + functions tag) f (head_kept keeps f [] (tail_kept keeps tag (f ∷ []) os)))
    flat_keeps s n (core.unwind f cleanup) h =
        let os : AllOf (Kept keeps) (f ∷ cleanup ∷ []) = outer_kept keeps (core.unwind f cleanup) h in
        (flat_keeps s n f (head_kept keeps f (cleanup ∷ []) os), flat_keeps s (n + functions f) cleanup (head_kept keeps cleanup [] (tail_kept keeps f (cleanup ∷ []) os)))
    flat_keeps s n (core.with_handler handler body) h =
        let os : AllOf (Kept keeps) (handler ∷ body ∷ []) = outer_kept keeps (core.with_handler handler body) h in
        (flat_keeps s n handler (head_kept keeps handler (body ∷ []) os), flat_keeps s (n + functions handler) body (head_kept keeps body [] (tail_kept keeps handler (body ∷ []) os)))
    flat_keeps s n (core.signal_form condition mark) h =
        let os : AllOf (Kept keeps) (condition ∷ mark ∷ []) = outer_kept keeps (core.signal_form condition mark) h in
        (flat_keeps s n condition (head_kept keeps condition (mark ∷ []) os), flat_keeps s (n + functions condition) mark (head_kept keeps mark [] (tail_kept keeps condition (mark ∷ []) os)))
    flat_keeps s n (core.continue_form condition f) h =
        let os : AllOf (Kept keeps) (condition ∷ f ∷ []) = outer_kept keeps (core.continue_form condition f) h in
        (flat_keeps s n condition (head_kept keeps condition (f ∷ []) os), flat_keeps s (n + functions condition) f (head_kept keeps f [] (tail_kept keeps condition (f ∷ []) os)))

    forms_keep : (s : Scope) (n : ℕ) (fs : Forms) → AllOf (Kept keeps) (forms_list fs) → KeepForms keeps (flat_forms s n fs)
    forms_keep s n core.no_form h = tt
    forms_keep s n (core.form_and f fs) h =
        (flat_keeps s n f (head_kept keeps f (forms_list fs) h), forms_keep s (n + functions f) fs (tail_kept keeps f (forms_list fs) h))

    clauses_keep : (s : Scope) (n : ℕ) (cs : ClauseForms) → AllOf (Kept keeps) (clause_list cs) → KeepClauses keeps (flat_clauses s n cs)
    clauses_keep s n core.no_clause h = tt
    clauses_keep s n (core.clause_and test core.no_body cs) h = (
      flat_keeps s n test (head_kept keeps test (clause_list cs) h),
      tt,
      clauses_keep s (n + (functions test + 0)) cs (tail_kept keeps test (clause_list cs) h),
    )
    clauses_keep s n (core.clause_and test (core.with_body f) cs) h =
        let rest : AllOf (Kept keeps) (f ∷ clause_list cs) = tail_kept keeps test (f ∷ clause_list cs) h in (
          flat_keeps s n test (head_kept keeps test (f ∷ clause_list cs) h),
          flat_keeps s (n + functions test) f (head_kept keeps f (clause_list cs) rest),
          clauses_keep s (n + (functions test + functions f)) cs (tail_kept keeps f (clause_list cs) rest),
        )

    values_keep : (s : Scope) (n : ℕ) (body : Form) (bs : BindingForms) → AllOf (Kept keeps) (value_list bs) → KeepValues keeps (flat_bindings s n body bs)
    values_keep s n body core.no_binding h = tt
    values_keep s n body (core.binding_and v f bs) h =
        (flat_keeps s n f (head_kept keeps f (value_list bs) h), values_keep s (n + functions f) body bs (tail_kept keeps f (value_list bs) h))

    dynamics_keep : (s : Scope) (n : ℕ) (ds : DynamicForms) → AllOf (Kept keeps) (dynamic_value_list ds) → KeepDynamics keeps (flat_dynamics s n ds)
    dynamics_keep s n core.no_dynamic h = tt
    dynamics_keep s n (core.dynamic_and name f ds) h =
        (flat_keeps s n f (head_kept keeps f (dynamic_value_list ds) h), dynamics_keep s (n + functions f) ds (tail_kept keeps f (dynamic_value_list ds) h))

abbrev BodyKeeps : FlatProcedure → Type 0
BodyKeeps q = Keeps q.keeps_method q.body

mutual
  pub inner_keep : (s : Scope) (n : ℕ) (f : Form) → Kept true f → AllOf BodyKeeps (inner_procedures s n f)
  inner_keep s n (core.literal i) h = tt
  inner_keep s n (core.local v) h = tt
  inner_keep s n (core.set_local v f) h = inner_keep s n f (head_kept true f [] (outer_kept true (core.set_local v f) h))
  inner_keep s n (core.global name) h = tt
  inner_keep s n (core.clauses cs) h = clauses_inside s n cs (outer_kept true (core.clauses cs) h)
  inner_keep s n (core.sequence fs) h = forms_inside s n fs (outer_kept true (core.sequence fs) h)
  inner_keep s n (core.let_form bs body) h =
      both BodyKeeps (procedures_of_values s n bs) _ (values_inside s n bs (outer_kept true (core.let_form bs body) h))
      (inner_keep (with_bound (bound_variables bs) body s) (n + functions_of_values bs) body (head_kept true body [] (let_form_inner true bs body h)))
  inner_keep s n (core.lambda required rest body parts) h =
      let small : all_nodes body < 2 ^ 32 = body_small required rest body parts h.1 in (
        flat_keeps (captures Method body) (body_scope required rest body (seen s parts)) (n + 1) body (λ e. e, small),
        inner_keep (body_scope required rest body (seen s parts)) (n + 1) body (λ e. refl, small),
      )
  inner_keep s n (core.call name fs) h = forms_inside s n fs (outer_kept true (core.call name fs) h)
  inner_keep s n (core.call_value fs) h = forms_inside s n fs (outer_kept true (core.call_value fs) h)
  inner_keep s n (core.prim which fs) h = forms_inside s n fs (outer_kept true (core.prim which fs) h)
  inner_keep s n (core.block x body) h = inner_keep (with_around x s) n body (head_kept true body [] (block_inner true x body h))
  inner_keep s n (core.return_from x f) h = inner_keep s n f (head_kept true f [] (outer_kept true (core.return_from x f) h))
  inner_keep s n (core.tagbody x fs) h = forms_inside (with_around x s) n fs (tagbody_inner true x fs h)
  inner_keep s n (core.go x segment) h = tt
  inner_keep s n (core.dynamic_let ds body) h =
      both BodyKeeps (procedures_of_dynamics s n ds) _ (dynamics_inside s n ds (outer_kept true (core.dynamic_let ds body) h))
      (inner_keep s (n + functions_of_dynamics ds) body (head_kept true body [] (dynamic_let_inner true ds body h)))
  inner_keep s n (core.dynamic name) h = tt
  inner_keep s n core.next_method h = tt
  inner_keep s n core.has_next h = tt
  inner_keep s n (core.sited site f) h = inner_keep s n f (head_kept true f [] (outer_kept true (core.sited site f) h))
  inner_keep s n (core.set_global name f) h = inner_keep s n f (head_kept true f [] (outer_kept true (core.set_global name f) h))
  inner_keep s n (core.def_global name f) h = inner_keep s n f (head_kept true f [] (outer_kept true (core.def_global name f) h))
  inner_keep s n (core.set_dynamic name f) h = inner_keep s n f (head_kept true f [] (outer_kept true (core.set_dynamic name f) h))
  inner_keep s n (core.def_dynamic name f) h = inner_keep s n f (head_kept true f [] (outer_kept true (core.def_dynamic name f) h))
  inner_keep s n (core.apply f list) h =
      let os : AllOf (Kept true) (f ∷ list ∷ []) = outer_kept true (core.apply f list) h in
      both BodyKeeps (inner_procedures s n f) _ (inner_keep s n f (head_kept true f (list ∷ []) os)) (inner_keep s (n + functions f) list (head_kept true list [] (tail_kept true f (list ∷ []) os)))
  inner_keep s n (core.while_form test body) h =
      let os : AllOf (Kept true) (test ∷ body ∷ []) = outer_kept true (core.while_form test body) h in
      both BodyKeeps (inner_procedures s n test) _ (inner_keep s n test (head_kept true test (body ∷ []) os)) (inner_keep s (n + functions test) body (head_kept true body [] (tail_kept true test (body ∷ []) os)))
  inner_keep s n (core.catch_form tag body) h =
      let os : AllOf (Kept true) (tag ∷ body ∷ []) = outer_kept true (core.catch_form tag body) h in
      both BodyKeeps (inner_procedures s n tag) _ (inner_keep s n tag (head_kept true tag (body ∷ []) os)) (inner_keep s (n + functions tag) body (head_kept true body [] (tail_kept true tag (body ∷ []) os)))
  inner_keep s n (core.throw tag f) h =
      let os : AllOf (Kept true) (tag ∷ f ∷ []) = outer_kept true (core.throw tag f) h in
      both BodyKeeps (inner_procedures s n tag) _ (inner_keep s n tag (head_kept true tag (f ∷ []) os)) (inner_keep s (n + functions tag) f (head_kept true f [] (tail_kept true tag (f ∷ []) os)))
  inner_keep s n (core.unwind f cleanup) h =
      let os : AllOf (Kept true) (f ∷ cleanup ∷ []) = outer_kept true (core.unwind f cleanup) h in
      both BodyKeeps (inner_procedures s n f) _ (inner_keep s n f (head_kept true f (cleanup ∷ []) os)) (inner_keep s (n + functions f) cleanup (head_kept true cleanup [] (tail_kept true f (cleanup ∷ []) os)))
  inner_keep s n (core.with_handler handler body) h =
      let os : AllOf (Kept true) (handler ∷ body ∷ []) = outer_kept true (core.with_handler handler body) h in
      both BodyKeeps (inner_procedures s n handler) _ (inner_keep s n handler (head_kept true handler (body ∷ []) os)) (inner_keep s (n + functions handler) body (head_kept true body [] (tail_kept true handler (body ∷ []) os)))
  inner_keep s n (core.signal_form condition mark) h =
      let os : AllOf (Kept true) (condition ∷ mark ∷ []) = outer_kept true (core.signal_form condition mark) h in
      both BodyKeeps (inner_procedures s n condition) _ (inner_keep s n condition (head_kept true condition (mark ∷ []) os)) (inner_keep s (n + functions condition) mark (head_kept true mark [] (tail_kept true condition (mark ∷ []) os)))
  inner_keep s n (core.continue_form condition f) h =
      let os : AllOf (Kept true) (condition ∷ f ∷ []) = outer_kept true (core.continue_form condition f) h in
      both BodyKeeps (inner_procedures s n condition) _ (inner_keep s n condition (head_kept true condition (f ∷ []) os)) (inner_keep s (n + functions condition) f (head_kept true f [] (tail_kept true condition (f ∷ []) os)))

  forms_inside : (s : Scope) (n : ℕ) (fs : Forms) → AllOf (Kept true) (forms_list fs) → AllOf BodyKeeps (procedures_of_forms s n fs)
  forms_inside s n core.no_form h = tt
  forms_inside s n (core.form_and f fs) h =
      both BodyKeeps (inner_procedures s n f) _ (inner_keep s n f (head_kept true f (forms_list fs) h)) (forms_inside s (n + functions f) fs (tail_kept true f (forms_list fs) h))

  clauses_inside : (s : Scope) (n : ℕ) (cs : ClauseForms) → AllOf (Kept true) (clause_list cs) → AllOf BodyKeeps (procedures_of_clauses s n cs)
  clauses_inside s n core.no_clause h = tt
  clauses_inside s n (core.clause_and test core.no_body cs) h =
      both BodyKeeps (inner_procedures s n test ++ []) _ (both BodyKeeps (inner_procedures s n test) [] (inner_keep s n test (head_kept true test (clause_list cs) h)) tt)
      (clauses_inside s (n + (functions test + 0)) cs (tail_kept true test (clause_list cs) h))
  clauses_inside s n (core.clause_and test (core.with_body f) cs) h =
      let rest : AllOf (Kept true) (f ∷ clause_list cs) = tail_kept true test (f ∷ clause_list cs) h in
      both BodyKeeps (inner_procedures s n test ++ inner_procedures s (n + functions test) f) _
      (both BodyKeeps (inner_procedures s n test) _ (inner_keep s n test (head_kept true test (f ∷ clause_list cs) h)) (inner_keep s (n + functions test) f (head_kept true f (clause_list cs) rest)))
      (clauses_inside s (n + (functions test + functions f)) cs (tail_kept true f (clause_list cs) rest))

  values_inside : (s : Scope) (n : ℕ) (bs : BindingForms) → AllOf (Kept true) (value_list bs) → AllOf BodyKeeps (procedures_of_values s n bs)
  values_inside s n core.no_binding h = tt
  values_inside s n (core.binding_and v f bs) h =
      both BodyKeeps (inner_procedures s n f) _ (inner_keep s n f (head_kept true f (value_list bs) h)) (values_inside s (n + functions f) bs (tail_kept true f (value_list bs) h))

  dynamics_inside : (s : Scope) (n : ℕ) (ds : DynamicForms) → AllOf (Kept true) (dynamic_value_list ds) → AllOf BodyKeeps (procedures_of_dynamics s n ds)
  dynamics_inside s n core.no_dynamic h = tt
  dynamics_inside s n (core.dynamic_and name f ds) h =
      both BodyKeeps (inner_procedures s n f) _ (inner_keep s n f (head_kept true f (dynamic_value_list ds) h)) (dynamics_inside s (n + functions f) ds (tail_kept true f (dynamic_value_list ds) h))

-- ---- all bodies

procedures_keep : (n : ℕ) (ps : List Procedure) → AllOf (λ (p : Procedure). all_nodes p.body < 2 ^ 32) ps → AllOf BodyKeeps (flat_procedures n ps)
procedures_keep n [] h = tt
procedures_keep n (p ∷ ps) h =
    (flat_keeps (captures Method p.body) (body_scope p.required p.rest p.body no_scope) n p.body (λ e. e, h.0), procedures_keep (n + functions p.body) ps h.1)

inner_procedures_keep : (n : ℕ) (ps : List Procedure) → AllOf (λ (p : Procedure). all_nodes p.body < 2 ^ 32) ps → AllOf BodyKeeps (inner_of_procedures n ps)
inner_procedures_keep n [] h = tt
inner_procedures_keep n (p ∷ ps) h =
    both BodyKeeps (inner_procedures (body_scope p.required p.rest p.body no_scope) n p.body) _
    (inner_keep (body_scope p.required p.rest p.body no_scope) n p.body (λ e. refl, h.0)) (inner_procedures_keep (n + functions p.body) ps h.1)

mains_keep : (n : ℕ) (fs : List Form) → AllOf (λ f. all_nodes f < 2 ^ 32) fs → AllOf (Keeps true) (flat_mains n fs)
mains_keep n [] h = tt
mains_keep n (f ∷ fs) h = (flat_keeps true no_scope n f (λ e. refl, h.0), mains_keep (n + functions f) fs h.1)

inner_mains_keep : (n : ℕ) (fs : List Form) → AllOf (λ f. all_nodes f < 2 ^ 32) fs → AllOf BodyKeeps (inner_of_mains n fs)
inner_mains_keep n [] h = tt
inner_mains_keep n (f ∷ fs) h =
    both BodyKeeps (inner_procedures no_scope n f) _ (inner_keep no_scope n f (λ e. refl, h.0)) (inner_mains_keep (n + functions f) fs h.1)

-- what counts no more than all together
procedures_small : (ps : List Procedure) → sum_by procedure_nodes ps ≤ 100000 → AllOf (λ (p : Procedure). all_nodes p.body < 2 ^ 32) ps
procedures_small [] h = tt
procedures_small (p ∷ ps) h =
    let parts : sum_by procedure_nodes (p ∷ ps) ≡ procedure_nodes p + sum_by procedure_nodes ps = sum_by-cons procedure_nodes p ps in
    let here : all_nodes p.body < 2 ^ 32 = omega (arith, h, parts) in
    (here, procedures_small ps (omega (arith, h, parts)))

mains_small : (fs : List Form) → sum_by all_nodes fs ≤ 100000 → AllOf (λ f. all_nodes f < 2 ^ 32) fs
mains_small [] h = tt
mains_small (f ∷ fs) h =
    let parts : sum_by all_nodes (f ∷ fs) ≡ all_nodes f + sum_by all_nodes fs = sum_by-cons all_nodes f fs in
    let here : all_nodes f < 2 ^ 32 = omega (arith, h, parts) in
    (here, mains_small fs (omega (arith, h, parts)))

pub forms_asked : (program : ProgramRows) → is_whole program ≡ true → FormsAsked (flat_program program)
forms_asked program whole =
    let sound : (rows_fit program && bodies_stand program) ≡ true = first_true (rows_fit program && bodies_stand program) (nat_le (program_cells program) 262144) whole in
    let fit : rows_fit program ≡ true = first_true (rows_fit program) (bodies_stand program) sound in
    let test : nat_le (program_nodes program) 100000 ≡ true = second_true _ (nat_le (program_nodes program) 100000) fit in
    let nodes : program_nodes program ≤ 100000 = grind (arith, nat_tests) in
    let procedures : AllOf (λ (p : Procedure). all_nodes p.body < 2 ^ 32) program.procedures = procedures_small program.procedures (omega (arith, nodes)) in
    let mains : AllOf (λ f. all_nodes f < 2 ^ 32) program.main = mains_small program.main (omega (arith, nodes)) in
    record {
      procedures = procedures_keep 0 program.procedures procedures;
      lambdas =
          both BodyKeeps (inner_of_procedures 0 program.procedures) _ (inner_procedures_keep 0 program.procedures procedures)
          (inner_mains_keep (functions_of_procedures program.procedures) program.main mains);
      main = mains_keep (functions_of_procedures program.procedures) program.main mains;
    }
