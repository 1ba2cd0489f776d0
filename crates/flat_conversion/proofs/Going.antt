-- Loops that make the items of a list flat, one after another: what is made, and what is still to be made of the rest.
use Rattle.std.proofs.Common.{◌≡◌, ◌≤◌, ℕ, ◌+◌, List, [], ◌∷◌, ◌++◌, refl, sym, ap, ◌∙◌, Option, Some, None, length, drop, append_assoc}
use Rattle.std.specs.Prelude.{slice_get, option_map}
use Rattle.std.proofs.lemmas.List.{append-nil}
use Rattle.std.proofs.Math.ListN.{drop_of_length-le}
use Rattle.base.specs.model.DataRest.{rest_at}
use Rattle.lang_meaning.specs.Form.{Form}
use Rattle.lang_meaning.specs.declared.core_form.Clause.{Clause}
use Rattle.lang_meaning.specs.declared.core_form.Binding.{Binding}
use Rattle.lang_meaning.specs.declared.core_form.DynBinding.{DynBinding}
use Rattle.lang_meaning.specs.model.View.{forms, clauses_of, maybe_form, bindings_of, dynamics_of}
use Rattle.flat_language.specs.declared.flat_core.FlatClause.{FlatClause}
use Rattle.flat_language.specs.declared.flat_core.FlatBinding.{FlatBinding}
use Rattle.flat_language.specs.declared.flat_core.FlatDynBinding.{FlatDynBinding}
use Rattle.flat_language.specs.declared.program.FlatProcedure.{FlatProcedure}
use Rattle.flat_language.specs.FlatForm.{FlatForm}
use Rattle.flat_language.specs.FlatForm as flat_form
use Rattle.lang_meaning.specs.declared.program.Procedure.{Procedure}
use Rattle.flat_language.specs.Scope.{Scope, no_scope, home_of}
use Rattle.flat_language.specs.Flatten.{flat, flat_forms, flat_clauses, flat_body, flat_bindings, flat_dynamics, functions, functions_of_body, functions_of_procedures, body_scope, flat_procedure, flat_procedures, inner_of_procedures, flat_mains, inner_of_mains, inner_procedures, procedures_of_forms, procedures_of_clauses, procedures_of_body, procedures_of_values, procedures_of_dynamics}
use Rattle.flat_language.specs.bridge.Counted.{joined, all_counted, body_counted}
use Rattle.flat_language.specs.model.View as flat_view
use Rattle.lang_meaning.specs.Subforms.{fold_body, fold_clauses}
use Rattle.flat_conversion.specs.declared.progress.Progress.{Progress}
use Rattle.flat_conversion.specs.declared.variables.Binder.{Binder}
use Rattle.flat_conversion.specs.Binders.{all_before, binders_step, binders, binders_of_forms, binders_of_clauses, binders_of_body, binders_of_values, binders_of_dynamics, binders_of_function, binders_of_procedures, binders_of_mains}
use Rattle.flat_conversion.specs.Bodies.{MakesProcedures, MakesMains}
use Rattle.flat_conversion.specs.Makes.{MakesSo}
use Rattle.flat_conversion.proofs.Made.{viewed}

module _ {X Y : Type 0} (one : ℕ → X → Y) (inside : ℕ → X → List FlatProcedure) (count : X → ℕ) where
  -- what is made of a list, and the procedures of the functions inside, where the functions have numbers from a first one on
  abbrev pub all_made : ℕ → List X → List Y
  all_made n [] = []
  all_made n (x ∷ xs) = one n x ∷ all_made (n + count x) xs

  abbrev pub all_inside : ℕ → List X → List FlatProcedure
  all_inside n [] = []
  all_inside n (x ∷ xs) = inside n x ++ all_inside (n + count x) xs

-- their binders, in front of those behind
module _ {X : Type 0} (front : X → List Binder → List Binder) where
  abbrev pub all_front : List X → List Binder → List Binder
  all_front [] rest = rest
  all_front (x ∷ xs) rest = front x (all_front xs rest)

module _ {X Y : Type 0} (one : ℕ → X → Y) (inside : ℕ → X → List FlatProcedure) (count : X → ℕ) (front : X → List Binder → List Binder) (table : List Binder) where
  -- with what is made of the rest all is made
  pub record GoingSo (xs : List X) (first : Progress) (at : ℕ) (made : List Y) (now : Progress) (rest : List Binder) : Type 0 where
    pub made_so : made ++ all_made one inside count (length now.lambdas) (drop at xs) ≡ all_made one inside count (length first.lambdas) xs
    pub inside_so : now.lambdas ++ all_inside one inside count (length now.lambdas) (drop at xs) ≡ first.lambdas ++ all_inside one inside count (length first.lambdas) xs
    pub left_so : drop now.binders table ≡ all_front front (drop at xs) rest

  -- where the binders of all are the first of those that were left
  abbrev pub Going : List X → Progress → ℕ → List Y → Progress → Type 0
  Going xs first at made now = (rest : List Binder) → drop first.binders table ≡ all_front front xs rest → GoingSo xs first at made now rest

  -- before the first item, behind one more, and behind all
  pub started : (xs : List X) (first : Progress) → Going xs first 0 [] first
  started xs first = λ rest e. record { made_so = refl; inside_so = refl; left_so = e }

  pub gone_on : ((n : ℕ) (x : X) → length (inside n x) ≡ count x) → (xs : List X) (first : Progress) (at : ℕ) (made : List Y) (now after : Progress) (x : X) (y : Y) (more : List Y)
      → Going xs first at made now → slice_get xs at ≡ Some x → more ≡ made ++ y ∷ []
      → ((rest : List Binder) → drop now.binders table ≡ front x rest → MakesSo (λ n. one n x) (λ n. inside n x) table now after y rest)
      → Going xs first (at + 1) more after
  gone_on counted xs first at made now after x y more going h d item = λ rest e.
      let g = going rest e in
      let left = drop (at + 1) xs in
      let i = item (all_front front left rest) (g.left_so ∙ ap (λ ys. all_front front ys rest) (rest_at xs at x h)) in
      let n : ℕ = length now.lambdas in
      let k : length after.lambdas ≡ n + count x = ap length i.inside_so ∙ joined now.lambdas (inside n x) n (count x) refl (counted n x) in
      record {
        made_so =
            ap (λ ys. ys ++ all_made one inside count (length after.lambdas) left) (d ∙ ap (λ z. made ++ z ∷ []) i.made_so)
            ∙ append_assoc made (one n x ∷ []) (all_made one inside count (length after.lambdas) left)
            ∙ ap (λ m. made ++ (one n x ∷ all_made one inside count m left)) k
            ∙ ap (λ ys. made ++ all_made one inside count n ys) (sym (rest_at xs at x h))
            ∙ g.made_so;
        inside_so =
            ap (λ m. after.lambdas ++ all_inside one inside count m left) k
            ∙ ap (λ ys. ys ++ all_inside one inside count (n + count x) left) i.inside_so
            ∙ append_assoc now.lambdas (inside n x) (all_inside one inside count (n + count x) left)
            ∙ ap (λ ys. now.lambdas ++ all_inside one inside count n ys) (sym (rest_at xs at x h))
            ∙ g.inside_so;
        left_so = i.left_so;
      }

  pub all_gone : (xs : List X) (first : Progress) (at : ℕ) (made : List Y) (now : Progress) → Going xs first at made now → length xs ≤ at
      → (rest : List Binder) → drop first.binders table ≡ all_front front xs rest → MakesSo (λ n. all_made one inside count n xs) (λ n. all_inside one inside count n xs) table first now made rest
  all_gone xs first at made now going h = λ rest e.
      let g = going rest e in
      let none = drop_of_length-le xs h in
      record {
        made_so = sym (append-nil made) ∙ ap (λ ys. made ++ all_made one inside count (length now.lambdas) ys) (sym none) ∙ g.made_so;
        inside_so = sym (append-nil now.lambdas) ∙ ap (λ ys. now.lambdas ++ all_inside one inside count (length now.lambdas) ys) (sym none) ∙ g.inside_so;
        left_so = g.left_so ∙ ap (λ ys. all_front front ys rest) none;
      }

-- clauses, bindings and dynamic bindings
abbrev pub one_clause : Scope → ℕ → Clause → FlatClause
one_clause s n c = record { test = flat s n c.test; body = option_map (flat s (n + functions c.test)) c.body }

abbrev pub clause_inside : Scope → ℕ → Clause → List FlatProcedure
clause_inside s n c = inner_procedures s n c.test ++ procedures_of_body s (n + functions c.test) (maybe_form c.body)

abbrev pub clause_count : Clause → ℕ
clause_count c = functions c.test + functions_of_body (maybe_form c.body)

abbrev pub one_binding : Scope → Form → ℕ → Binding → FlatBinding
one_binding s body n b = record { home = home_of b.var body; value = flat s n b.value }

abbrev pub one_dynamic : Scope → ℕ → DynBinding → FlatDynBinding
one_dynamic s n b = record { name = b.name; value = flat s n b.value }

pub clause_counted : (s : Scope) (n : ℕ) (c : Clause) → length (clause_inside s n c) ≡ clause_count c
clause_counted s n c =
    joined (inner_procedures s n c.test) _ _ _ (all_counted s n c.test) (body_counted s (n + functions c.test) (maybe_form c.body))

body_same : (s : Scope) (n : ℕ) (b : Option Form) → flat_view.maybe_form (option_map (flat s n) b) ≡ flat_body s n (maybe_form b)
unfolding flat
body_same s n None = refl
body_same s n (Some f) = refl

-- the lists of contracts are the mirror's
pub forms_made : (s : Scope) (n : ℕ) (xs : List Form) → flat_view.forms (all_made (flat s) (inner_procedures s) functions n xs) ≡ flat_forms s n (forms xs)
unfolding flat
forms_made s n [] = refl
forms_made s n (x ∷ xs) = ap (flat_form.form_and (flat s n x)) (forms_made s (n + functions x) xs)

pub forms_inside : (s : Scope) (n : ℕ) (xs : List Form) → all_inside (flat s) (inner_procedures s) functions n xs ≡ procedures_of_forms s n (forms xs)
forms_inside s n [] = refl
forms_inside s n (x ∷ xs) = ap (λ ys. inner_procedures s n x ++ ys) (forms_inside s (n + functions x) xs)

pub clauses_made : (s : Scope) (n : ℕ) (xs : List Clause) → flat_view.clauses_of (all_made (one_clause s) (clause_inside s) clause_count n xs) ≡ flat_clauses s n (clauses_of xs)
unfolding flat
clauses_made s n [] = refl
clauses_made s n (c ∷ cs) =
    ap (λ b. flat_form.clause_and (flat s n c.test) b (flat_view.clauses_of (all_made (one_clause s) (clause_inside s) clause_count (n + clause_count c) cs))) (body_same s (n + functions c.test) c.body)
    ∙ ap (λ r. flat_form.clause_and (flat s n c.test) (flat_body s (n + functions c.test) (maybe_form c.body)) r) (clauses_made s (n + clause_count c) cs)

pub clauses_inside : (s : Scope) (n : ℕ) (xs : List Clause) → all_inside (one_clause s) (clause_inside s) clause_count n xs ≡ procedures_of_clauses s n (clauses_of xs)
clauses_inside s n [] = refl
clauses_inside s n (c ∷ cs) = ap (λ ys. clause_inside s n c ++ ys) (clauses_inside s (n + clause_count c) cs)

pub bindings_made : (s : Scope) (body : Form) (n : ℕ) (xs : List Binding) → flat_view.bindings_of (all_made (one_binding s body) (λ n b. inner_procedures s n b.value) (λ b. functions b.value) n xs) ≡ flat_bindings s n body (bindings_of xs)
unfolding flat
bindings_made s body n [] = refl
bindings_made s body n (b ∷ bs) = ap (flat_form.binding_and (home_of b.var body) (flat s n b.value)) (bindings_made s body (n + functions b.value) bs)

pub bindings_inside : (s : Scope) (body : Form) (n : ℕ) (xs : List Binding) → all_inside (one_binding s body) (λ n b. inner_procedures s n b.value) (λ b. functions b.value) n xs ≡ procedures_of_values s n (bindings_of xs)
bindings_inside s body n [] = refl
bindings_inside s body n (b ∷ bs) = ap (λ ys. inner_procedures s n b.value ++ ys) (bindings_inside s body (n + functions b.value) bs)

pub dynamics_made : (s : Scope) (n : ℕ) (xs : List DynBinding) → flat_view.dynamics_of (all_made (one_dynamic s) (λ n b. inner_procedures s n b.value) (λ b. functions b.value) n xs) ≡ flat_dynamics s n (dynamics_of xs)
unfolding flat
dynamics_made s n [] = refl
dynamics_made s n (b ∷ bs) = ap (flat_form.dynamic_and b.name.0 (flat s n b.value)) (dynamics_made s (n + functions b.value) bs)

pub dynamics_inside : (s : Scope) (n : ℕ) (xs : List DynBinding) → all_inside (one_dynamic s) (λ n b. inner_procedures s n b.value) (λ b. functions b.value) n xs ≡ procedures_of_dynamics s n (dynamics_of xs)
dynamics_inside s n [] = refl
dynamics_inside s n (b ∷ bs) = ap (λ ys. inner_procedures s n b.value ++ ys) (dynamics_inside s (n + functions b.value) bs)

-- their binders are those of the form
pub forms_front : (xs : List Form) (rest : List Binder) → all_front binders xs rest ≡ binders_of_forms (forms xs) rest
forms_front [] rest = refl
forms_front (x ∷ xs) rest = ap (binders x) (forms_front xs rest)

body_front : (b : Option Form) (fs : List (List Binder → List Binder)) (rest : List Binder)
    → binders_of_body (maybe_form b) (all_before fs rest) ≡ all_before (fold_body binders_step (maybe_form b) ++ fs) rest
body_front None fs rest = refl
body_front (Some f) fs rest = refl

-- of a clause, of a binding and of a dynamic one
abbrev pub clause_front : Clause → List Binder → List Binder
clause_front c rest = binders c.test (binders_of_body (maybe_form c.body) rest)

pub clauses_front : (xs : List Clause) (rest : List Binder) → all_front clause_front xs rest ≡ binders_of_clauses (clauses_of xs) rest
clauses_front [] rest = refl
clauses_front (c ∷ cs) rest =
    ap (λ r. binders c.test (binders_of_body (maybe_form c.body) r)) (clauses_front cs rest)
    ∙ ap (binders c.test) (body_front c.body (fold_clauses binders_step (clauses_of cs)) rest)

abbrev pub binding_front : Binding → List Binder → List Binder
binding_front b = binders b.value

pub bindings_front : (xs : List Binding) (rest : List Binder) → all_front binding_front xs rest ≡ binders_of_values (bindings_of xs) rest
bindings_front [] rest = refl
bindings_front (b ∷ bs) rest = ap (binders b.value) (bindings_front bs rest)

abbrev pub dynamic_front : DynBinding → List Binder → List Binder
dynamic_front b = binders b.value

pub dynamics_front : (xs : List DynBinding) (rest : List Binder) → all_front dynamic_front xs rest ≡ binders_of_dynamics (dynamics_of xs) rest
dynamics_front [] rest = refl
dynamics_front (b ∷ bs) rest = ap (binders b.value) (dynamics_front bs rest)

-- procedures and main forms of a program
abbrev pub one_procedure : ℕ → Procedure → FlatProcedure
one_procedure n p = flat_procedure no_scope n [] p.required p.rest p.body

abbrev pub procedure_inside : ℕ → Procedure → List FlatProcedure
procedure_inside n p = inner_procedures (body_scope p.required p.rest p.body no_scope) n p.body

abbrev pub procedure_count : Procedure → ℕ
procedure_count p = functions p.body

pub procedure_counted : (n : ℕ) (p : Procedure) → length (procedure_inside n p) ≡ procedure_count p
procedure_counted n p = all_counted (body_scope p.required p.rest p.body no_scope) n p.body

pub procedures_made : (n : ℕ) (xs : List Procedure) → all_made one_procedure procedure_inside procedure_count n xs ≡ flat_procedures n xs
procedures_made n [] = refl
procedures_made n (p ∷ ps) = ap (λ ys. one_procedure n p ∷ ys) (procedures_made (n + procedure_count p) ps)

pub procedures_inside : (n : ℕ) (xs : List Procedure) → all_inside one_procedure procedure_inside procedure_count n xs ≡ inner_of_procedures n xs
procedures_inside n [] = refl
procedures_inside n (p ∷ ps) = ap (λ ys. procedure_inside n p ++ ys) (procedures_inside (n + procedure_count p) ps)

pub mains_made : (n : ℕ) (xs : List Form) → all_made (flat no_scope) (inner_procedures no_scope) functions n xs ≡ flat_mains n xs
mains_made n [] = refl
mains_made n (f ∷ fs) = ap (λ ys. flat no_scope n f ∷ ys) (mains_made (n + functions f) fs)

pub mains_inside : (n : ℕ) (xs : List Form) → all_inside (flat no_scope) (inner_procedures no_scope) functions n xs ≡ inner_of_mains n xs
mains_inside n [] = refl
mains_inside n (f ∷ fs) = ap (λ ys. inner_procedures no_scope n f ++ ys) (mains_inside (n + functions f) fs)

pub inner_counted : (n : ℕ) (xs : List Procedure) → length (inner_of_procedures n xs) ≡ functions_of_procedures xs
inner_counted n [] = refl
inner_counted n (p ∷ ps) = joined (procedure_inside n p) _ _ _ (procedure_counted n p) (inner_counted (n + procedure_count p) ps)

-- the binders of procedures and of main forms
abbrev pub procedure_front : Procedure → List Binder → List Binder
procedure_front p = binders_of_function p.required p.rest p.body

pub procedures_front : (ps : List Procedure) (rest : List Binder) → all_front procedure_front ps rest ≡ binders_of_procedures ps rest
procedures_front [] rest = refl
procedures_front (p ∷ ps) rest = ap (procedure_front p) (procedures_front ps rest)

pub mains_front : (fs : List Form) (rest : List Binder) → all_front binders fs rest ≡ binders_of_mains fs rest
mains_front [] rest = refl
mains_front (f ∷ fs) rest = ap (binders f) (mains_front fs rest)

-- when a loop is at its end, all is made
pub forms_so : (s : Scope) (table : List Binder) (xs : List Form) (first : Progress) (at : ℕ) (made : List FlatForm) (now : Progress)
    → Going (flat s) (inner_procedures s) functions binders table xs first at made now → length xs ≤ at
    → (rest : List Binder) → drop first.binders table ≡ binders_of_forms (forms xs) rest
    → MakesSo (λ n. flat_forms s n (forms xs)) (λ n. procedures_of_forms s n (forms xs)) table first now (flat_view.forms made) rest
forms_so s table xs first at made now going h = λ rest e.
    viewed flat_view.forms (λ n. all_made (flat s) (inner_procedures s) functions n xs) (λ n. all_inside (flat s) (inner_procedures s) functions n xs) (λ n. flat_forms s n (forms xs)) (λ n. procedures_of_forms s n (forms xs))
    table first now made rest (λ n. forms_made s n xs) (λ n. forms_inside s n xs)
    (all_gone (flat s) (inner_procedures s) functions binders table xs first at made now going h rest (e ∙ sym (forms_front xs rest)))

pub clauses_so : (s : Scope) (table : List Binder) (xs : List Clause) (first : Progress) (at : ℕ) (made : List FlatClause) (now : Progress)
    → Going (one_clause s) (clause_inside s) clause_count clause_front table xs first at made now → length xs ≤ at
    → (rest : List Binder) → drop first.binders table ≡ binders_of_clauses (clauses_of xs) rest
    → MakesSo (λ n. flat_clauses s n (clauses_of xs)) (λ n. procedures_of_clauses s n (clauses_of xs)) table first now (flat_view.clauses_of made) rest
clauses_so s table xs first at made now going h = λ rest e.
    viewed flat_view.clauses_of (λ n. all_made (one_clause s) (clause_inside s) clause_count n xs) (λ n. all_inside (one_clause s) (clause_inside s) clause_count n xs) (λ n. flat_clauses s n (clauses_of xs)) (λ n. procedures_of_clauses s n (clauses_of xs))
    table first now made rest (λ n. clauses_made s n xs) (λ n. clauses_inside s n xs)
    (all_gone (one_clause s) (clause_inside s) clause_count clause_front table xs first at made now going h rest (e ∙ sym (clauses_front xs rest)))

abbrev pub binding_inside : Scope → ℕ → Binding → List FlatProcedure
binding_inside s n b = inner_procedures s n b.value

abbrev pub binding_count : Binding → ℕ
binding_count b = functions b.value

pub bindings_so : (s : Scope) (body : Form) (table : List Binder) (xs : List Binding) (first : Progress) (at : ℕ) (made : List FlatBinding) (now : Progress)
    → Going (one_binding s body) (binding_inside s) binding_count binding_front table xs first at made now → length xs ≤ at
    → (rest : List Binder) → drop first.binders table ≡ binders_of_values (bindings_of xs) rest
    → MakesSo (λ n. flat_bindings s n body (bindings_of xs)) (λ n. procedures_of_values s n (bindings_of xs)) table first now (flat_view.bindings_of made) rest
bindings_so s body table xs first at made now going h = λ rest e.
    viewed flat_view.bindings_of (λ n. all_made (one_binding s body) (binding_inside s) binding_count n xs) (λ n. all_inside (one_binding s body) (binding_inside s) binding_count n xs) (λ n. flat_bindings s n body (bindings_of xs)) (λ n. procedures_of_values s n (bindings_of xs))
    table first now made rest (λ n. bindings_made s body n xs) (λ n. bindings_inside s body n xs)
    (all_gone (one_binding s body) (binding_inside s) binding_count binding_front table xs first at made now going h rest (e ∙ sym (bindings_front xs rest)))

abbrev pub dynamic_inside : Scope → ℕ → DynBinding → List FlatProcedure
dynamic_inside s n b = inner_procedures s n b.value

abbrev pub dynamic_count : DynBinding → ℕ
dynamic_count b = functions b.value

pub dynamics_so : (s : Scope) (table : List Binder) (xs : List DynBinding) (first : Progress) (at : ℕ) (made : List FlatDynBinding) (now : Progress)
    → Going (one_dynamic s) (dynamic_inside s) dynamic_count dynamic_front table xs first at made now → length xs ≤ at
    → (rest : List Binder) → drop first.binders table ≡ binders_of_dynamics (dynamics_of xs) rest
    → MakesSo (λ n. flat_dynamics s n (dynamics_of xs)) (λ n. procedures_of_dynamics s n (dynamics_of xs)) table first now (flat_view.dynamics_of made) rest
dynamics_so s table xs first at made now going h = λ rest e.
    viewed flat_view.dynamics_of (λ n. all_made (one_dynamic s) (dynamic_inside s) dynamic_count n xs) (λ n. all_inside (one_dynamic s) (dynamic_inside s) dynamic_count n xs) (λ n. flat_dynamics s n (dynamics_of xs)) (λ n. procedures_of_dynamics s n (dynamics_of xs))
    table first now made rest (λ n. dynamics_made s n xs) (λ n. dynamics_inside s n xs)
    (all_gone (one_dynamic s) (dynamic_inside s) dynamic_count dynamic_front table xs first at made now going h rest (e ∙ sym (dynamics_front xs rest)))

pub procedures_so : (table : List Binder) (xs : List Procedure) (first : Progress) (at : ℕ) (made : List FlatProcedure) (now : Progress)
    → Going one_procedure procedure_inside procedure_count procedure_front table xs first at made now → length xs ≤ at → MakesProcedures xs table first now made
procedures_so table xs first at made now going h = λ rest e.
    viewed (λ ys. ys) (λ n. all_made one_procedure procedure_inside procedure_count n xs) (λ n. all_inside one_procedure procedure_inside procedure_count n xs) (λ n. flat_procedures n xs) (λ n. inner_of_procedures n xs)
    table first now made rest (λ n. procedures_made n xs) (λ n. procedures_inside n xs)
    (all_gone one_procedure procedure_inside procedure_count procedure_front table xs first at made now going h rest (e ∙ sym (procedures_front xs rest)))

pub mains_so : (table : List Binder) (xs : List Form) (first : Progress) (at : ℕ) (made : List FlatForm) (now : Progress)
    → Going (flat no_scope) (inner_procedures no_scope) functions binders table xs first at made now → length xs ≤ at → MakesMains xs table first now made
mains_so table xs first at made now going h = λ rest e.
    viewed (λ ys. ys) (λ n. all_made (flat no_scope) (inner_procedures no_scope) functions n xs) (λ n. all_inside (flat no_scope) (inner_procedures no_scope) functions n xs) (λ n. flat_mains n xs) (λ n. inner_of_mains n xs)
    table first now made rest (λ n. mains_made n xs) (λ n. mains_inside n xs)
    (all_gone (flat no_scope) (inner_procedures no_scope) functions binders table xs first at made now going h rest (e ∙ sym (mains_front xs rest)))
