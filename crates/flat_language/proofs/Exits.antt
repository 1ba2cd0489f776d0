-- In a whole program that is made flat each exit leads to what makes it.
use Rattle.std.proofs.Common.{◌≡◌, ℕ, ◌+◌, ◌==◌, Bool, true, false, ◌||◌, List, [], ◌∷◌, ◌++◌, refl, sym, ap, subst, ◌∙◌, Option, Some, None, length, arith, length-append}
use Rattle.std.specs.Prelude.{slice_get, filter, if◌then◌else◌}
use Rattle.std.specs.List.{list_all, list_any}
use Rattle.base.specs.AllOf.{AllOf}
use Rattle.lang_meaning.specs.declared.capture.Capture.{Capture}
use Rattle.lang_meaning.specs.declared.capture.Capture.TheVariants.{Variable, Exit, Method}
use Rattle.lang_meaning.specs.declared.program.Procedure.{Procedure}
use Rattle.lang_meaning.specs.declared.program.ProgramRows.{ProgramRows}
use Rattle.lang_meaning.specs.declared.scope.ExitForm.{ExitForm}
use Rattle.lang_meaning.specs.declared.scope.ExitForm.TheVariants.{Block, Tagbody}
use Rattle.lang_meaning.specs.declared.scope.NamedExit.{NamedExit}
use Rattle.lang_meaning.specs.declared.scope.LexicalScope.{LexicalScope}
use Rattle.lang_meaning.specs.BoundNames.{BodyIsBound, IsBoundIn, NamesAreBound, LawOfNames}
use Rattle.lang_meaning.specs.Counts as core_counts
use Rattle.lang_meaning.specs.Facts.{is_whole}
use Rattle.lang_meaning.specs.Form.{Form, Forms, ClauseForms, MaybeForm, BindingForms, DynamicForms, parameters}
use Rattle.lang_meaning.specs.Form as core
use Rattle.lang_meaning.specs.Meaning.{bound_variables}
use Rattle.lang_meaning.specs.Mentions.{same_part, variables_bound}
use Rattle.lang_meaning.specs.Standing as standing
use Rattle.lang_meaning.specs.Standing.{exit_around, is_block, is_segment, around_inner, stands}
use Rattle.lang_meaning.specs.Subforms.{forms_list, clause_list, value_list, dynamic_value_list}
use Rattle.flat_language.specs.declared.place.ExitPlace.{ExitPlace}
use Rattle.flat_language.specs.declared.place.ExitPlace.TheVariants.{Own, Captured}
use Rattle.flat_language.specs.declared.program.FlatProcedure.{FlatProcedure}
use Rattle.flat_language.specs.FlatExits.{FlatExits, no_exits, of_function, with_own, some_exit, made_by, exits_of_parts, Leads, LeadForms, LeadClauses, LeadValues, LeadDynamics, FunctionsLead, ProgramLeads}
use Rattle.flat_language.specs.FlatState.{under}
use Rattle.flat_language.specs.Scope.{Scope, no_scope, with_bound, with_around, exit_or, exit_place_of, captured_exits, flat_parts, kinds_of, seen}
use Rattle.flat_language.specs.Flatten.{functions, functions_of_forms, functions_of_clauses, functions_of_values, functions_of_dynamics, flat, flat_forms, flat_clauses, flat_bindings, flat_dynamics, flat_procedure, body_scope, inner_procedures, procedures_of_forms, procedures_of_clauses, procedures_of_values, procedures_of_dynamics, functions_of_procedures, flat_procedures, inner_of_procedures, inner_of_mains, flat_mains, flat_program}
use Rattle.flat_language.proofs.Environments.{under_first, under_after}
use Rattle.flat_language.proofs.Fine.{first_true, second_true, itself_true, outer_true, inner_true}
use Rattle.flat_language.proofs.Lists.{equal_or_not, in_front, behind}
use Rattle.flat_language.proofs.Nodes.{forms_counted}
use Rattle.flat_language.proofs.Numbers.{Placed, placed_left, placed_right, placed_first, placed_rest}

-- what makes the exits of a scope of the program makes, at their places, those of a flat form
pub record ExitsAgree (e : FlatExits) (l : LexicalScope) (s : Scope) : Type 0 where
  pub around : (x : ℕ) (a : ExitForm) → exit_around x l.exits ≡ Some a → made_by e (exit_place_of s x) ≡ Some a
  pub own : length e.own ≡ s.own_exits

-- the first of exits is that of a name, or not
exit_first : (x : ℕ) (e : NamedExit) (es : List NamedExit) → (x == e.exit) ≡ true → exit_around x (e ∷ es) ≡ Some e.around
exit_first x e es h = ap (λ b. if b then Some e.around else exit_around x es) h

-- the exits behind the first one
exit_after : (x : ℕ) (e : NamedExit) (es : List NamedExit) → (x == e.exit) ≡ false → exit_around x (e ∷ es) ≡ exit_around x es
exit_after x e es h = ap (λ b. if b then Some e.around else exit_around x es) h

-- variables are no exits
agree_bound : (e : FlatExits) (l : LexicalScope) (s : Scope) → ExitsAgree e l s → (vs ws : List ℕ) (body : Form)
    → ExitsAgree e (standing.with_bound vs l) (with_bound ws body s)
agree_bound e l s c vs ws body = record { around = c.around; own = c.own }

-- an exit more
made_more : (e : FlatExits) (a : ExitForm) (p : ExitPlace) (b : ExitForm) → made_by e p ≡ Some b → made_by (with_own a e) p ≡ Some b
made_more e a (Own n) b h = in_front e.own (a ∷ []) n b h
made_more e a (Captured n) b h = h

-- and the scope inside
agree_around : (e : FlatExits) (l : LexicalScope) (s : Scope) → ExitsAgree e l s → (x : ℕ) (a : ExitForm)
    → ExitsAgree (with_own a e) (standing.with_around x a l) (with_around x s)
agree_around e l s c x a = record {
  around = λ y b h. equal_or_not y x
      (λ is t.
      let same : Some a ≡ Some b = sym (exit_first y (record { exit = x; around = a }) l.exits t) ∙ h in
      let last : length e.own + 0 ≡ length e.own = omega arith in
      subst (λ o. made_by (with_own a e) (exit_or o) ≡ Some b) (sym (under_first y x (Own s.own_exits) s.exits t))
      (subst (λ n. slice_get (e.own ++ a ∷ []) n ≡ Some b) (last ∙ c.own) (behind e.own (a ∷ []) 0 ∙ same)))
      (λ f.
      subst (λ o. made_by (with_own a e) (exit_or o) ≡ Some b) (sym (under_after y x (Own s.own_exits) s.exits f))
      (made_more e a (exit_place_of s y) b (c.around y b (sym (exit_after y (record { exit = x; around = a }) l.exits f) ∙ h))));
  own = length-append e.own (a ∷ []) ∙ ap (λ n. n + 1) c.own;
}

-- an exit that a function sees is one that it captured, and is around where the function is made
record IsSeen (parts : List Capture) (x : ℕ) (a : ExitForm) (es : List NamedExit) : Type 0 where
  captured : list_any (same_part (Exit x)) parts ≡ true
  there : exit_around x es ≡ Some a

-- whether a function captured that exit
abbrev is_captured : List Capture → NamedExit → Bool
is_captured parts e = list_any (same_part (Exit e.exit)) parts

-- the first of the exits around, and those behind it
seen_first : (parts : List Capture) (x : ℕ) (a : ExitForm) (e : NamedExit) (es : List NamedExit)
    → (exit_around x (filter (is_captured parts) es) ≡ Some a → IsSeen parts x a es)
    → (b : Bool) → is_captured parts e ≡ b
    → exit_around x (if b then e ∷ filter (is_captured parts) es else filter (is_captured parts) es) ≡ Some a → IsSeen parts x a (e ∷ es)
seen_first parts x a e es rest true q h = equal_or_not x e.exit
    (λ is t. record {
      captured = ap (λ y. list_any (same_part (Exit y)) parts) is ∙ q;
      there = exit_first x e es t ∙ (sym (exit_first x e (filter (is_captured parts) es) t) ∙ h);
    })
    (λ f. let r : IsSeen parts x a es = rest (sym (exit_after x e (filter (is_captured parts) es) f) ∙ h) in
    record { captured = r.captured; there = exit_after x e es f ∙ r.there })
seen_first parts x a e es rest false q h =
    let r : IsSeen parts x a es = rest h in
    equal_or_not x e.exit
    (λ is t. absurd (let z : true ≡ false = sym r.captured ∙ (ap (λ y. list_any (same_part (Exit y)) parts) is ∙ q) in cc z))
    (λ f. record { captured = r.captured; there = exit_after x e es f ∙ r.there })

-- an exit that is seen, of all
is_seen : (parts : List Capture) (x : ℕ) (a : ExitForm) (es : List NamedExit) → exit_around x (filter (is_captured parts) es) ≡ Some a → IsSeen parts x a es
is_seen parts x a [] h = absurd (cc h)
is_seen parts x a (e ∷ es) h = seen_first parts x a e es (λ g. is_seen parts x a es g) (is_captured parts e) refl h

-- and what made it is what is said of the place where it was captured
captured_made : (e : FlatExits) (s : Scope) (x : ℕ) (parts : List Capture) (n : ℕ) (all : List (Option ExitForm)) → list_any (same_part (Exit x)) parts ≡ true
    → Placed all n (exits_of_parts e (flat_parts s parts))
    → made_by (of_function all) (exit_or (under x (captured_exits parts n))) ≡ made_by e (exit_place_of s x)
captured_made e s x [] n all h p = absurd (cc h)
captured_made e s x (Variable v ∷ ps) n all h p =
    captured_made e s x ps (n + 1) all h (placed_rest _ (exits_of_parts e (flat_parts s ps)) p)
captured_made e s x (Method ∷ ps) n all h p =
    captured_made e s x ps (n + 1) all h (placed_rest _ (exits_of_parts e (flat_parts s ps)) p)
captured_made e s x (Exit y ∷ ps) n all h p = equal_or_not x y
    (λ is t.
    subst (λ o. made_by (of_function all) (exit_or o) ≡ made_by e (exit_place_of s x)) (sym (under_first x y (Captured n) (captured_exits ps (n + 1)) t))
    (ap some_exit (placed_first (made_by e (exit_place_of s y)) (exits_of_parts e (flat_parts s ps)) p) ∙ ap (λ z. made_by e (exit_place_of s z)) (sym is)))
    (λ f.
    subst (λ o. made_by (of_function all) (exit_or o) ≡ made_by e (exit_place_of s x)) (sym (under_after x y (Captured n) (captured_exits ps (n + 1)) f))
    (captured_made e s x ps (n + 1) all (sym (ap (λ b. b || list_any (same_part (Exit x)) ps) f) ∙ h)
    (placed_rest (made_by e (exit_place_of s y)) (exits_of_parts e (flat_parts s ps)) p)))

-- a function's scope
agree_seen : (e : FlatExits) (l : LexicalScope) (s : Scope) → ExitsAgree e l s → (parts : List Capture)
    → ExitsAgree (of_function (exits_of_parts e (flat_parts s parts))) (standing.seen parts l) (seen s parts)
agree_seen e l s c parts =
    let all : List (Option ExitForm) = exits_of_parts e (flat_parts s parts) in
    record {
      around = λ x a h.
          let r : IsSeen parts x a l.exits = is_seen parts x a l.exits h in
          captured_made e s x parts 0 all r.captured (record { at = λ j q g. let i : 0 + j ≡ j = omega arith in ap (λ m. slice_get all m) i ∙ g })
          ∙ c.around x a r.there;
      own = refl;
    }

-- what a test says of an exit around it says of that of its place
passes : (test : Option ExitForm → Bool) → test None ≡ false → (o o' : Option ExitForm) → ((a : ExitForm) → o ≡ Some a → o' ≡ Some a)
    → test o ≡ true → test o' ≡ true
passes test none None o' f h = absurd (let z : true ≡ false = sym h ∙ none in cc z)
passes test none (Some a) o' f h = subst (λ q. test q ≡ true) (sym (f a refl)) h

-- what the functions of a part of the program captured, from the n-th on, such that the exits of the part and of its functions lead
pub record Led (n k : ℕ) (A : List (List (Option ExitForm)) → Type 0) (qs : List FlatProcedure) : Type 0 where
  pub captured : List (List (Option ExitForm))
  pub count : length captured ≡ k
  pub lead : (all : List (List (Option ExitForm))) → Placed all n captured → A all × FunctionsLead all qs captured

-- a part without functions
none : {n : ℕ} {A : List (List (Option ExitForm)) → Type 0} → ((all : List (List (Option ExitForm))) → A all) → Led n 0 A []
none h = record { captured = []; count = refl; lead = λ all p. (h all, tt) }

-- the same functions
changed : {n k : ℕ} {A B : List (List (Option ExitForm)) → Type 0} {qs : List FlatProcedure} → ((all : List (List (Option ExitForm))) → A all → B all) → Led n k A qs → Led n k B qs
changed f x = record { captured = x.captured; count = x.count; lead = λ all p. (f all (x.lead all p).0, (x.lead all p).1) }

-- one part after another
both_lead : (all : List (List (Option ExitForm))) (xs ys : List FlatProcedure) (cs ds : List (List (Option ExitForm)))
    → FunctionsLead all xs cs → FunctionsLead all ys ds → FunctionsLead all (xs ++ ys) (cs ++ ds)
both_lead all [] ys [] ds x y = y
both_lead all [] ys (c ∷ cs) ds x y = absurd x
both_lead all (q ∷ xs) ys [] ds x y = absurd x
both_lead all (q ∷ xs) ys (c ∷ cs) ds x y = (x.0, both_lead all xs ys cs ds x.1 y)

-- two parts beside one another
two : {n k m : ℕ} {A B : List (List (Option ExitForm)) → Type 0} {xs ys : List FlatProcedure} → Led n k A xs → Led (n + k) m B ys
    → Led n (k + m) (λ all. A all × B all) (xs ++ ys)
two {n} {k} {m} {A} {B} {xs} {ys} x y = record {
  captured = x.captured ++ y.captured;
  count = length-append x.captured y.captured ∙ ap (λ i. i + length y.captured) x.count ∙ ap (λ i. k + i) y.count;
  lead = λ all p.
      let a : A all × FunctionsLead all xs x.captured = x.lead all (placed_left x.captured y.captured p) in
      let b : B all × FunctionsLead all ys y.captured = y.lead all (placed_right x.captured y.captured k x.count p) in
      ((a.0, b.0), both_lead all xs ys x.captured y.captured a.1 b.1);
}

-- a function, with those in its body after it
one_function : {n k : ℕ} {qs : List FlatProcedure} (captured : List (Option ExitForm)) (q : FlatProcedure)
    → Led (n + 1) k (λ all. Leads all (of_function captured) q.body) qs → Led n (k + 1) (λ all. slice_get all n ≡ Some captured) (q ∷ qs)
one_function {n} {k} {qs} captured q x = record {
  captured = captured ∷ x.captured;
  count = (let e : length x.captured ≡ k = x.count in omega (arith, e));
  lead = λ all p. (placed_first captured x.captured p, x.lead all (placed_rest captured x.captured p));
}

-- the first of a list of forms, and those after it
head_stands : (l : LexicalScope) (f : Form) (fs : List Form) → list_all (stands l) (f ∷ fs) ≡ true → stands l f ≡ true
head_stands l f fs h = first_true (stands l f) (list_all (stands l) fs) h

-- those after it
tail_stands : (l : LexicalScope) (f : Form) (fs : List Form) → list_all (stands l) (f ∷ fs) ≡ true → list_all (stands l) fs ≡ true
tail_stands l f fs h = second_true (stands l f) (list_all (stands l) fs) h

mutual
  unfolding flat

  -- the exits of a form and of the functions in it lead
  pub leads : (e : FlatExits) (l : LexicalScope) (s : Scope) → ExitsAgree e l s → (n : ℕ) (f : Form) → stands l f ≡ true
      → Led n (functions f) (λ all. Leads all e (flat s n f)) (inner_procedures s n f)
  leads e l s c n (core.literal i) h = none (λ all. tt)
  leads e l s c n (core.local v) h = none (λ all. tt)
  leads e l s c n (core.global name) h = none (λ all. tt)
  leads e l s c n (core.dynamic name) h = none (λ all. tt)
  leads e l s c n core.next_method h = none (λ all. tt)
  leads e l s c n core.has_next h = none (λ all. tt)
  leads e l s c n (core.go x segment) h =
      none (λ all. passes (is_segment segment) refl (exit_around x l.exits) (made_by e (exit_place_of s x)) (c.around x) (itself_true l (core.go x segment) h))
  leads e l s c n (core.return_from x f) h =
      changed (λ all t. (passes is_block refl (exit_around x l.exits) (made_by e (exit_place_of s x)) (c.around x) (itself_true l (core.return_from x f) h), t))
      (leads e l s c n f (head_stands l f [] (outer_true l (core.return_from x f) h)))
  leads e l s c n (core.lambda required rest body parts) h =
      let captured : List (Option ExitForm) = exits_of_parts e (flat_parts s parts) in
      one_function captured (flat_procedure (seen s parts) (n + 1) (kinds_of s parts) required rest body)
      (leads (of_function captured) (standing.with_bound (parameters required rest) (standing.seen parts l)) (body_scope required rest body (seen s parts))
      (agree_bound (of_function captured) (standing.seen parts l) (seen s parts) (agree_seen e l s c parts) (parameters required rest) (parameters required rest) body)
      (n + 1) body (first_true (stands (standing.with_bound (parameters required rest) (standing.seen parts l)) body) true (inner_true l (core.lambda required rest body parts) h)))
  leads e l s c n (core.block x body) h =
      leads (with_own Block e) (standing.with_around x Block l) (with_around x s) (agree_around e l s c x Block) n body
      (head_stands (standing.with_around x Block l) body [] (inner_true l (core.block x body) h))
  leads e l s c n (core.tagbody x segments) h =
      subst (λ k. Led n (functions_of_forms segments) (λ all. LeadForms all (with_own (Tagbody k) e) (flat_forms (with_around x s) n segments)) (procedures_of_forms (with_around x s) n segments))
      (sym (forms_counted (with_around x s) n segments))
      (forms_lead (with_own (Tagbody (core_counts.count_forms segments)) e) (standing.with_around x (Tagbody (core_counts.count_forms segments)) l) (with_around x s)
      (agree_around e l s c x (Tagbody (core_counts.count_forms segments))) n segments (inner_true l (core.tagbody x segments) h))
  leads e l s c n (core.let_form bs body) h =
      two (values_lead e l s c n body bs (outer_true l (core.let_form bs body) h))
      (leads e (standing.with_bound (variables_bound bs) l) (with_bound (bound_variables bs) body s) (agree_bound e l s c (variables_bound bs) (bound_variables bs) body)
      (n + functions_of_values bs) body (head_stands (standing.with_bound (variables_bound bs) l) body [] (inner_true l (core.let_form bs body) h)))
  leads e l s c n (core.dynamic_let ds body) h =
      two (dynamics_lead e l s c n ds (outer_true l (core.dynamic_let ds body) h))
      (leads e l s c (n + functions_of_dynamics ds) body (head_stands l body [] (inner_true l (core.dynamic_let ds body) h)))
  leads e l s c n (core.sequence fs) h = forms_lead e l s c n fs (outer_true l (core.sequence fs) h)
  leads e l s c n (core.call name fs) h = forms_lead e l s c n fs (outer_true l (core.call name fs) h)
  leads e l s c n (core.call_value fs) h = forms_lead e l s c n fs (outer_true l (core.call_value fs) h)
  leads e l s c n (core.prim which fs) h = forms_lead e l s c n fs (outer_true l (core.prim which fs) h)
  leads e l s c n (core.clauses cs) h = clauses_lead e l s c n cs (outer_true l (core.clauses cs) h)
  leads e l s c n (core.set_local v f) h = leads e l s c n f (head_stands l f [] (outer_true l (core.set_local v f) h))
  leads e l s c n (core.set_global name f) h = leads e l s c n f (head_stands l f [] (outer_true l (core.set_global name f) h))
  leads e l s c n (core.def_global name f) h = leads e l s c n f (head_stands l f [] (outer_true l (core.def_global name f) h))
  leads e l s c n (core.set_dynamic name f) h = leads e l s c n f (head_stands l f [] (outer_true l (core.set_dynamic name f) h))
  leads e l s c n (core.def_dynamic name f) h = leads e l s c n f (head_stands l f [] (outer_true l (core.def_dynamic name f) h))
  leads e l s c n (core.sited site f) h = leads e l s c n f (head_stands l f [] (outer_true l (core.sited site f) h))
  leads e l s c n (core.apply f list) h =
      let os : list_all (stands l) (f ∷ list ∷ []) ≡ true = outer_true l (core.apply f list) h in
      two (leads e l s c n f (head_stands l f (list ∷ []) os)) (leads e l s c (n + functions f) list (head_stands l list [] (tail_stands l f (list ∷ []) os)))
  leads e l s c n (core.while_form test body) h =
      let os : list_all (stands l) (test ∷ body ∷ []) ≡ true = outer_true l (core.while_form test body) h in
      two (leads e l s c n test (head_stands l test (body ∷ []) os)) (leads e l s c (n + functions test) body (head_stands l body [] (tail_stands l test (body ∷ []) os)))
  leads e l s c n (core.catch_form tag body) h =
      let os : list_all (stands l) (tag ∷ body ∷ []) ≡ true = outer_true l (core.catch_form tag body) h in
      two (leads e l s c n tag (head_stands l tag (body ∷ []) os)) (leads e l s c (n + functions tag) body (head_stands l body [] (tail_stands l tag (body ∷ []) os)))
  leads e l s c n (core.throw tag f) h =
      let os : list_all (stands l) (tag ∷ f ∷ []) ≡ true = outer_true l (core.throw tag f) h in
      two (leads e l s c n tag (head_stands l tag (f ∷ []) os)) (leads e l s c (n + functions tag) f (head_stands l f [] (tail_stands l tag (f ∷ []) os)))
  leads e l s c n (core.unwind f cleanup) h =
      let os : list_all (stands l) (f ∷ cleanup ∷ []) ≡ true = outer_true l (core.unwind f cleanup) h in
      two (leads e l s c n f (head_stands l f (cleanup ∷ []) os)) (leads e l s c (n + functions f) cleanup (head_stands l cleanup [] (tail_stands l f (cleanup ∷ []) os)))
  leads e l s c n (core.with_handler handler body) h =
      let os : list_all (stands l) (handler ∷ body ∷ []) ≡ true = outer_true l (core.with_handler handler body) h in
      two (leads e l s c n handler (head_stands l handler (body ∷ []) os)) (leads e l s c (n + functions handler) body (head_stands l body [] (tail_stands l handler (body ∷ []) os)))
  leads e l s c n (core.signal_form condition mark) h =
      let os : list_all (stands l) (condition ∷ mark ∷ []) ≡ true = outer_true l (core.signal_form condition mark) h in
      two (leads e l s c n condition (head_stands l condition (mark ∷ []) os)) (leads e l s c (n + functions condition) mark (head_stands l mark [] (tail_stands l condition (mark ∷ []) os)))
  leads e l s c n (core.continue_form condition f) h =
      let os : list_all (stands l) (condition ∷ f ∷ []) ≡ true = outer_true l (core.continue_form condition f) h in
      two (leads e l s c n condition (head_stands l condition (f ∷ []) os)) (leads e l s c (n + functions condition) f (head_stands l f [] (tail_stands l condition (f ∷ []) os)))

  forms_lead : (e : FlatExits) (l : LexicalScope) (s : Scope) → ExitsAgree e l s → (n : ℕ) (fs : Forms) → list_all (stands l) (forms_list fs) ≡ true
      → Led n (functions_of_forms fs) (λ all. LeadForms all e (flat_forms s n fs)) (procedures_of_forms s n fs)
  forms_lead e l s c n core.no_form h = none (λ all. tt)
  forms_lead e l s c n (core.form_and f fs) h =
      two (leads e l s c n f (head_stands l f (forms_list fs) h)) (forms_lead e l s c (n + functions f) fs (tail_stands l f (forms_list fs) h))

  clauses_lead : (e : FlatExits) (l : LexicalScope) (s : Scope) → ExitsAgree e l s → (n : ℕ) (cs : ClauseForms) → list_all (stands l) (clause_list cs) ≡ true
      → Led n (functions_of_clauses cs) (λ all. LeadClauses all e (flat_clauses s n cs)) (procedures_of_clauses s n cs)
  clauses_lead e l s c n core.no_clause h = none (λ all. tt)
  clauses_lead e l s c n (core.clause_and test core.no_body cs) h =
      changed (λ all t. (t.0.0, t.0.1, t.1))
      (two (two (leads e l s c n test (head_stands l test (clause_list cs) h)) (none (λ all. tt)))
      (clauses_lead e l s c (n + (functions test + 0)) cs (tail_stands l test (clause_list cs) h)))
  clauses_lead e l s c n (core.clause_and test (core.with_body f) cs) h =
      let rest : list_all (stands l) (f ∷ clause_list cs) ≡ true = tail_stands l test (f ∷ clause_list cs) h in
      changed (λ all t. (t.0.0, t.0.1, t.1))
      (two (two (leads e l s c n test (head_stands l test (f ∷ clause_list cs) h)) (leads e l s c (n + functions test) f (head_stands l f (clause_list cs) rest)))
      (clauses_lead e l s c (n + (functions test + functions f)) cs (tail_stands l f (clause_list cs) rest)))

  values_lead : (e : FlatExits) (l : LexicalScope) (s : Scope) → ExitsAgree e l s → (n : ℕ) (body : Form) (bs : BindingForms) → list_all (stands l) (value_list bs) ≡ true
      → Led n (functions_of_values bs) (λ all. LeadValues all e (flat_bindings s n body bs)) (procedures_of_values s n bs)
  values_lead e l s c n body core.no_binding h = none (λ all. tt)
  values_lead e l s c n body (core.binding_and v f bs) h =
      two (leads e l s c n f (head_stands l f (value_list bs) h)) (values_lead e l s c (n + functions f) body bs (tail_stands l f (value_list bs) h))

  dynamics_lead : (e : FlatExits) (l : LexicalScope) (s : Scope) → ExitsAgree e l s → (n : ℕ) (ds : DynamicForms) → list_all (stands l) (dynamic_value_list ds) ≡ true
      → Led n (functions_of_dynamics ds) (λ all. LeadDynamics all e (flat_dynamics s n ds)) (procedures_of_dynamics s n ds)
  dynamics_lead e l s c n core.no_dynamic h = none (λ all. tt)
  dynamics_lead e l s c n (core.dynamic_and name f ds) h =
      two (leads e l s c n f (head_stands l f (dynamic_value_list ds) h)) (dynamics_lead e l s c (n + functions f) ds (tail_stands l f (dynamic_value_list ds) h))

-- where nothing is around
none_around : (l : LexicalScope) → l.exits ≡ [] → (vs : List ℕ) (body : Form) → ExitsAgree no_exits l (with_bound vs body no_scope)
none_around l none vs body = record {
  around = λ x a h. absurd (let q : None ≡ Some a = ap (λ es. exit_around x es) (sym none) ∙ h in cc q);
  own = refl;
}

-- the procedures of a program, and its main forms
procedures_lead : (n : ℕ) (ps : List Procedure) → AllOf (λ (p : Procedure). (in_method : Bool) × BodyIsBound in_method p) ps
    → Led n (functions_of_procedures ps) (λ all. AllOf (λ (q : FlatProcedure). Leads all no_exits q.body) (flat_procedures n ps)) (inner_of_procedures n ps)
procedures_lead n [] b = none (λ all. tt)
procedures_lead n (p ∷ ps) b =
    let l : LexicalScope = standing.alone (parameters p.required p.rest) b.0.0 in
    two (leads no_exits l (body_scope p.required p.rest p.body no_scope) (none_around l refl (parameters p.required p.rest) p.body) n p.body b.0.1.itself)
    (procedures_lead (n + functions p.body) ps b.1)

functions_of_mains : List Form → ℕ
functions_of_mains [] = 0
functions_of_mains (f ∷ fs) = functions f + functions_of_mains fs

mains_lead : (n : ℕ) (fs : List Form) → AllOf (λ f. IsBoundIn (standing.alone [] false) f) fs
    → Led n (functions_of_mains fs) (λ all. AllOf (Leads all no_exits) (flat_mains n fs)) (inner_of_mains n fs)
unfolding functions_of_mains
mains_lead n [] b = none (λ all. tt)
mains_lead n (f ∷ fs) b =
    two (leads no_exits (standing.alone [] false) no_scope (record { around = λ x a h. absurd (cc h); own = refl }) n f b.0.itself)
    (mains_lead (n + functions f) fs b.1)

pub whole_leads : LawOfNames → (program : ProgramRows) → is_whole program ≡ true → ProgramLeads (flat_program program)
whole_leads law program whole =
    let bound : NamesAreBound program = law program whole in
    let k : ℕ = functions_of_procedures program.procedures in
    let after : k ≡ 0 + k = omega arith in
    let all : Led 0 (k + functions_of_mains program.main)
    (λ all. AllOf (λ (q : FlatProcedure). Leads all no_exits q.body) (flat_procedures 0 program.procedures) × AllOf (Leads all no_exits) (flat_mains k program.main))
    (inner_of_procedures 0 program.procedures ++ inner_of_mains k program.main) =
    two (procedures_lead 0 program.procedures bound.procedures)
    (subst (λ m. Led m (functions_of_mains program.main) (λ all. AllOf (Leads all no_exits) (flat_mains k program.main)) (inner_of_mains k program.main)) after
    (mains_lead k program.main bound.main)) in
    let placed : Placed all.captured 0 all.captured = record { at = λ j q h. let i : 0 + j ≡ j = omega arith in ap (λ m. slice_get all.captured m) i ∙ h } in
    record {
      functions = all.captured;
      procedures = (all.lead all.captured placed).0.0;
      lambdas = (all.lead all.captured placed).1;
      main = (all.lead all.captured placed).0.1;
    }
