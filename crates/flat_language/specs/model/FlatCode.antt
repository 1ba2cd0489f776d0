-- The code of a flat form: a tree that gives it back. Forms of one shape stand at their places in one list.
use Rattle.std.specs.Prelude.{◌≡◌, ℕ, zero, suc, List, [], ◌∷◌, get_or, refl}
use Rattle.std.specs.Coded.{Coded, code_by}
use Rattle.std.proofs.Common.{ap}
use Rattle.base.specs.model.CodedTree.{Tree, node, Trees, no_tree, tree_and, leaf, above_one, tree_code}
use Rattle.lang_meaning.specs.model.ShapeCode.{primitive_number, primitive_at, primitive_back, number_tree, one_tree, two_tree, many_tree}
use Rattle.flat_language.specs.FlatForm.{FlatForm, literal, local, set_local, global, set_global, def_global, clauses, sequence, let_form, make_function, call, call_value, apply, prim, while_form, block, return_from, tagbody, go, catch_form, throw, unwind, dynamic_let, dynamic, set_dynamic, def_dynamic, with_handler, signal_form, continue_form, next_method, has_next, sited}
use Rattle.flat_language.specs.FlatForm.{FlatForms, no_form, form_and, FlatClauses, no_clause, clause_and, FlatBody, no_body, with_body}
use Rattle.flat_language.specs.FlatForm.{FlatBindings, no_binding, binding_and, FlatDynamics, no_dynamic, dynamic_and}
use Rattle.flat_language.specs.declared.place.Home.{Home}
use Rattle.flat_language.specs.declared.place.Home.TheVariants as home
use Rattle.flat_language.specs.declared.place.VariablePlace.{VariablePlace}
use Rattle.flat_language.specs.declared.place.VariablePlace.TheVariants.{Slot, SlotBox, CapturedValue, CapturedBox}
use Rattle.flat_language.specs.declared.place.ExitPlace.{ExitPlace}
use Rattle.flat_language.specs.declared.place.ExitPlace.TheVariants as exit_place
use Rattle.flat_language.specs.declared.place.MethodPlace.{MethodPlace}
use Rattle.flat_language.specs.declared.place.MethodPlace.TheVariants as method_place
use Rattle.flat_language.specs.declared.place.FlatCapture.{FlatCapture}
use Rattle.flat_language.specs.declared.place.FlatCapture.TheVariants.{Variable, Exit, Method}

-- places, captured parts and homes
abbrev place_tree : VariablePlace → Tree
place_tree (Slot n) = above_one 0 (leaf n)
place_tree (SlotBox n) = above_one 1 (leaf n)
place_tree (CapturedValue n) = above_one 2 (leaf n)
place_tree (CapturedBox n) = above_one 3 (leaf n)

abbrev place_of : Tree → VariablePlace
place_of (node zero (tree_and (node n us) ts)) = Slot n
place_of (node (suc zero) (tree_and (node n us) ts)) = SlotBox n
place_of (node (suc (suc zero)) (tree_and (node n us) ts)) = CapturedValue n
place_of (node (suc (suc (suc m))) (tree_and (node n us) ts)) = CapturedBox n
place_of (node m no_tree) = Slot 0

place_back : (p : VariablePlace) → place_of (place_tree p) ≡ p
place_back (Slot n) = refl
place_back (SlotBox n) = refl
place_back (CapturedValue n) = refl
place_back (CapturedBox n) = refl

abbrev exit_tree : ExitPlace → Tree
exit_tree (exit_place.Own n) = above_one 0 (leaf n)
exit_tree (exit_place.Captured n) = above_one 1 (leaf n)

abbrev exit_of : Tree → ExitPlace
exit_of (node zero (tree_and (node n us) ts)) = exit_place.Own n
exit_of (node (suc m) (tree_and (node n us) ts)) = exit_place.Captured n
exit_of (node m no_tree) = exit_place.Own 0

exit_back : (p : ExitPlace) → exit_of (exit_tree p) ≡ p
exit_back (exit_place.Own n) = refl
exit_back (exit_place.Captured n) = refl

abbrev method_tree : MethodPlace → Tree
method_tree method_place.Own = leaf 0
method_tree (method_place.Captured n) = above_one 1 (leaf n)

abbrev method_of : Tree → MethodPlace
method_of (node m no_tree) = method_place.Own
method_of (node m (tree_and (node n us) ts)) = method_place.Captured n

method_back : (p : MethodPlace) → method_of (method_tree p) ≡ p
method_back method_place.Own = refl
method_back (method_place.Captured n) = refl

abbrev part_tree : FlatCapture → Tree
part_tree (Variable p) = above_one 0 (place_tree p)
part_tree (Exit p) = above_one 1 (exit_tree p)
part_tree (Method p) = above_one 2 (method_tree p)

abbrev part_of : Tree → FlatCapture
part_of (node zero (tree_and t ts)) = Variable (place_of t)
part_of (node (suc zero) (tree_and t ts)) = Exit (exit_of t)
part_of (node (suc (suc n)) (tree_and t ts)) = Method (method_of t)
part_of (node n no_tree) = Method method_place.Own

part_back : (p : FlatCapture) → part_of (part_tree p) ≡ p
part_back (Variable p) = ap Variable (place_back p)
part_back (Exit p) = ap Exit (exit_back p)
part_back (Method p) = ap Method (method_back p)

abbrev parts_trees : List FlatCapture → Trees
parts_trees [] = no_tree
parts_trees (p ∷ ps) = tree_and (part_tree p) (parts_trees ps)

abbrev parts_of : Trees → List FlatCapture
parts_of no_tree = []
parts_of (tree_and t ts) = part_of t ∷ parts_of ts

parts_back : (ps : List FlatCapture) → parts_of (parts_trees ps) ≡ ps
parts_back [] = refl
parts_back (p ∷ ps) = cc (part_back p, parts_back ps)

abbrev home_number : Home → ℕ
home_number home.Slot = 0
home_number home.Boxed = 1

abbrev home_at : ℕ → Home
home_at zero = home.Slot
home_at (suc n) = home.Boxed

home_back : (h : Home) → home_at (home_number h) ≡ h
home_back home.Slot = refl
home_back home.Boxed = refl

-- the forms of a number, of a number and a form, of two forms, of a number and forms, of a place, and of a place and a
-- form, each at its place

abbrev of_number : ℕ → ℕ → FlatForm
of_number place n = get_or (literal n ∷ global n ∷ []) place (dynamic n)

abbrev of_one : ℕ → ℕ → FlatForm → FlatForm
of_one place n f =
    get_or (set_global n f ∷ def_global n f ∷ block f ∷ set_dynamic n f ∷ def_dynamic n f ∷ []) place (sited n f)

abbrev of_two : ℕ → FlatForm → FlatForm → FlatForm
of_two place f g =
    get_or (apply f g ∷ while_form f g ∷ catch_form f g ∷ throw f g ∷ unwind f g ∷ with_handler f g ∷ signal_form f g ∷ [])
    place (continue_form f g)

abbrev of_many : ℕ → ℕ → FlatForms → FlatForm
of_many place n fs =
    get_or (sequence fs ∷ call n fs ∷ call_value fs ∷ prim (primitive_at n) fs ∷ []) place (tagbody fs)

abbrev go_of : Tree → FlatForm
go_of (node segment (tree_and t ts)) = go (exit_of t) segment
go_of (node segment no_tree) = go (exit_place.Own 0) segment

abbrev of_place : ℕ → Tree → FlatForm
of_place place t = get_or (local (place_of t) ∷ next_method (method_of t) ∷ has_next (method_of t) ∷ []) place (go_of t)

abbrev of_place_and_form : ℕ → Tree → FlatForm → FlatForm
of_place_and_form place t f = get_or (set_local (place_of t) f ∷ []) place (return_from (exit_of t) f)

abbrev of_place_tree : ℕ → Tree → Tree
of_place_tree place t = node 4 (tree_and (leaf place) (tree_and t no_tree))

abbrev place_and_form_tree : ℕ → Tree → Tree → Tree
place_and_form_tree place t u = node 9 (tree_and (leaf place) (tree_and t (tree_and u no_tree)))

abbrev mutual
  form_tree : FlatForm → Tree
  form_tree (literal i) = number_tree 0 i
  form_tree (global n) = number_tree 1 n
  form_tree (dynamic n) = number_tree 2 n
  form_tree (set_global n f) = one_tree 0 n (form_tree f)
  form_tree (def_global n f) = one_tree 1 n (form_tree f)
  form_tree (block f) = one_tree 2 0 (form_tree f)
  form_tree (set_dynamic n f) = one_tree 3 n (form_tree f)
  form_tree (def_dynamic n f) = one_tree 4 n (form_tree f)
  form_tree (sited n f) = one_tree 5 n (form_tree f)
  form_tree (apply f g) = two_tree 0 (form_tree f) (form_tree g)
  form_tree (while_form f g) = two_tree 1 (form_tree f) (form_tree g)
  form_tree (catch_form f g) = two_tree 2 (form_tree f) (form_tree g)
  form_tree (throw f g) = two_tree 3 (form_tree f) (form_tree g)
  form_tree (unwind f g) = two_tree 4 (form_tree f) (form_tree g)
  form_tree (with_handler f g) = two_tree 5 (form_tree f) (form_tree g)
  form_tree (signal_form f g) = two_tree 6 (form_tree f) (form_tree g)
  form_tree (continue_form f g) = two_tree 7 (form_tree f) (form_tree g)
  form_tree (sequence fs) = many_tree 0 0 (forms_trees fs)
  form_tree (call n fs) = many_tree 1 n (forms_trees fs)
  form_tree (call_value fs) = many_tree 2 0 (forms_trees fs)
  form_tree (prim which fs) = many_tree 3 (primitive_number which) (forms_trees fs)
  form_tree (tagbody fs) = many_tree 4 0 (forms_trees fs)
  form_tree (local p) = of_place_tree 0 (place_tree p)
  form_tree (next_method m) = of_place_tree 1 (method_tree m)
  form_tree (has_next m) = of_place_tree 2 (method_tree m)
  form_tree (go x segment) = of_place_tree 3 (node segment (tree_and (exit_tree x) no_tree))
  form_tree (clauses cs) = node 5 (clauses_trees cs)
  form_tree (let_form bs body) = node 6 (tree_and (form_tree body) (bindings_trees bs))
  form_tree (dynamic_let ds body) = node 7 (tree_and (form_tree body) (dynamics_trees ds))
  form_tree (make_function p parts) = node 8 (tree_and (leaf p) (parts_trees parts))
  form_tree (set_local p f) = place_and_form_tree 0 (place_tree p) (form_tree f)
  form_tree (return_from x f) = place_and_form_tree 1 (exit_tree x) (form_tree f)

  forms_trees : FlatForms → Trees
  forms_trees no_form = no_tree
  forms_trees (form_and f fs) = tree_and (form_tree f) (forms_trees fs)

  clauses_trees : FlatClauses → Trees
  clauses_trees no_clause = no_tree
  clauses_trees (clause_and test body cs) = tree_and (form_tree test) (tree_and (body_tree body) (clauses_trees cs))

  body_tree : FlatBody → Tree
  body_tree no_body = leaf 0
  body_tree (with_body f) = above_one 1 (form_tree f)

  bindings_trees : FlatBindings → Trees
  bindings_trees no_binding = no_tree
  bindings_trees (binding_and h f bs) = tree_and (leaf (home_number h)) (tree_and (form_tree f) (bindings_trees bs))

  dynamics_trees : FlatDynamics → Trees
  dynamics_trees no_dynamic = no_tree
  dynamics_trees (dynamic_and n f ds) = tree_and (leaf n) (tree_and (form_tree f) (dynamics_trees ds))

abbrev mutual
  form_of : Tree → FlatForm
  form_of (node zero (tree_and (node place us) (tree_and (node n vs) ts))) = of_number place n
  form_of (node (suc zero) (tree_and (node place us) (tree_and (node n vs) (tree_and t ts)))) = of_one place n (form_of t)
  form_of (node (suc (suc zero)) (tree_and (node place us) (tree_and t (tree_and u ts)))) = of_two place (form_of t) (form_of u)
  form_of (node (suc (suc (suc zero))) (tree_and (node place us) (tree_and (node n vs) ts))) = of_many place n (forms_of ts)
  form_of (node (suc (suc (suc (suc zero)))) (tree_and (node place us) (tree_and t ts))) = of_place place t
  form_of (node (suc (suc (suc (suc (suc zero))))) ts) = clauses (clauses_of_trees ts)
  form_of (node (suc (suc (suc (suc (suc (suc zero)))))) (tree_and t ts)) = let_form (bindings_of_trees ts) (form_of t)
  form_of (node (suc (suc (suc (suc (suc (suc (suc zero))))))) (tree_and t ts)) = dynamic_let (dynamics_of_trees ts) (form_of t)
  form_of (node (suc (suc (suc (suc (suc (suc (suc (suc zero)))))))) (tree_and (node p us) ts)) = make_function p (parts_of ts)
  form_of (node (suc (suc (suc (suc (suc (suc (suc (suc (suc m))))))))) (tree_and (node place us) (tree_and t (tree_and u ts)))) =
      of_place_and_form place t (form_of u)
  form_of t = literal 0

  forms_of : Trees → FlatForms
  forms_of no_tree = no_form
  forms_of (tree_and t ts) = form_and (form_of t) (forms_of ts)

  clauses_of_trees : Trees → FlatClauses
  clauses_of_trees (tree_and t (tree_and u ts)) = clause_and (form_of t) (body_of_tree u) (clauses_of_trees ts)
  clauses_of_trees ts = no_clause

  body_of_tree : Tree → FlatBody
  body_of_tree (node n no_tree) = no_body
  body_of_tree (node n (tree_and t ts)) = with_body (form_of t)

  bindings_of_trees : Trees → FlatBindings
  bindings_of_trees (tree_and (node h us) (tree_and t ts)) = binding_and (home_at h) (form_of t) (bindings_of_trees ts)
  bindings_of_trees ts = no_binding

  dynamics_of_trees : Trees → FlatDynamics
  dynamics_of_trees (tree_and (node n us) (tree_and t ts)) = dynamic_and n (form_of t) (dynamics_of_trees ts)
  dynamics_of_trees ts = no_dynamic

mutual
  form_back : (f : FlatForm) → form_of (form_tree f) ≡ f
  form_back (literal i) = refl
  form_back (global n) = refl
  form_back (dynamic n) = refl
  form_back (set_global n f) = ap (set_global n) (form_back f)
  form_back (def_global n f) = ap (def_global n) (form_back f)
  form_back (block f) = ap block (form_back f)
  form_back (set_dynamic n f) = ap (set_dynamic n) (form_back f)
  form_back (def_dynamic n f) = ap (def_dynamic n) (form_back f)
  form_back (sited n f) = ap (sited n) (form_back f)
  form_back (apply f g) = cc (form_back f, form_back g)
  form_back (while_form f g) = cc (form_back f, form_back g)
  form_back (catch_form f g) = cc (form_back f, form_back g)
  form_back (throw f g) = cc (form_back f, form_back g)
  form_back (unwind f g) = cc (form_back f, form_back g)
  form_back (with_handler f g) = cc (form_back f, form_back g)
  form_back (signal_form f g) = cc (form_back f, form_back g)
  form_back (continue_form f g) = cc (form_back f, form_back g)
  form_back (sequence fs) = ap sequence (forms_back fs)
  form_back (call n fs) = ap (call n) (forms_back fs)
  form_back (call_value fs) = ap call_value (forms_back fs)
  form_back (prim which fs) = cc (primitive_back which, forms_back fs)
  form_back (tagbody fs) = ap tagbody (forms_back fs)
  form_back (local p) = ap local (place_back p)
  form_back (next_method m) = ap next_method (method_back m)
  form_back (has_next m) = ap has_next (method_back m)
  form_back (go x segment) = ap (λ p. go p segment) (exit_back x)
  form_back (clauses cs) = ap clauses (clauses_back cs)
  form_back (let_form bs body) = cc (bindings_back bs, form_back body)
  form_back (dynamic_let ds body) = cc (dynamics_back ds, form_back body)
  form_back (make_function p parts) = ap (make_function p) (parts_back parts)
  form_back (set_local p f) = cc (place_back p, form_back f)
  form_back (return_from x f) = cc (exit_back x, form_back f)

  forms_back : (fs : FlatForms) → forms_of (forms_trees fs) ≡ fs
  forms_back no_form = refl
  forms_back (form_and f fs) = cc (form_back f, forms_back fs)

  clauses_back : (cs : FlatClauses) → clauses_of_trees (clauses_trees cs) ≡ cs
  clauses_back no_clause = refl
  clauses_back (clause_and test body cs) = cc (form_back test, body_back body, clauses_back cs)

  body_back : (b : FlatBody) → body_of_tree (body_tree b) ≡ b
  body_back no_body = refl
  body_back (with_body f) = ap with_body (form_back f)

  bindings_back : (bs : FlatBindings) → bindings_of_trees (bindings_trees bs) ≡ bs
  bindings_back no_binding = refl
  bindings_back (binding_and h f bs) = cc (home_back h, form_back f, bindings_back bs)

  dynamics_back : (ds : FlatDynamics) → dynamics_of_trees (dynamics_trees ds) ≡ ds
  dynamics_back no_dynamic = refl
  dynamics_back (dynamic_and n f ds) = cc (form_back f, dynamics_back ds)

pub form_code : Coded FlatForm
form_code = code_by Tree tree_code form_tree form_of form_back
