-- The code of a core form: a tree that gives it back. Forms of one shape stand at their places in one list.
use Rattle.std.specs.Prelude.{◌≡◌, ℕ, zero, suc, List, [], ◌∷◌, Option, Some, None, get_or, refl}
use Rattle.std.specs.Coded.{Coded, code_by}
use Rattle.std.proofs.Common.{ap}
use Rattle.base.specs.model.CodedTree.{Tree, node, Trees, no_tree, tree_and, leaf, above_one, numbers_trees, numbers_of, numbers_back, tree_code}
use Rattle.lang_meaning.specs.model.ShapeCode.{primitive_number, primitive_at, primitive_back, number_tree, one_tree, two_tree, many_tree}
use Rattle.lang_meaning.specs.Form.{Form, literal, local, set_local, global, set_global, def_global, clauses, sequence, let_form, lambda, call, call_value, apply, prim, while_form, block, return_from, tagbody, go, catch_form, throw, unwind, dynamic_let, dynamic, set_dynamic, def_dynamic, with_handler, signal_form, continue_form, next_method, has_next, sited}
use Rattle.lang_meaning.specs.Form.{Forms, no_form, form_and, ClauseForms, no_clause, clause_and, MaybeForm, no_body, with_body}
use Rattle.lang_meaning.specs.Form.{BindingForms, no_binding, binding_and, DynamicForms, no_dynamic, dynamic_and}
use Rattle.lang_meaning.specs.declared.capture.Capture.{Capture}
use Rattle.lang_meaning.specs.declared.capture.Capture.TheVariants.{Variable, Exit, Method}

-- captured parts, and a rest variable
abbrev part_tree : Capture → Tree
part_tree (Variable v) = above_one 0 (leaf v)
part_tree (Exit x) = above_one 1 (leaf x)
part_tree Method = leaf 2

abbrev part_of : Tree → Capture
part_of (node zero (tree_and (node v us) ts)) = Variable v
part_of (node (suc n) (tree_and (node x us) ts)) = Exit x
part_of (node n no_tree) = Method

part_back : (p : Capture) → part_of (part_tree p) ≡ p
part_back (Variable v) = refl
part_back (Exit x) = refl
part_back Method = refl

abbrev parts_trees : List Capture → Trees
parts_trees [] = no_tree
parts_trees (p ∷ ps) = tree_and (part_tree p) (parts_trees ps)

abbrev parts_of : Trees → List Capture
parts_of no_tree = []
parts_of (tree_and t ts) = part_of t ∷ parts_of ts

parts_back : (ps : List Capture) → parts_of (parts_trees ps) ≡ ps
parts_back [] = refl
parts_back (p ∷ ps) = cc (part_back p, parts_back ps)

abbrev rest_tree : Option ℕ → Tree
rest_tree None = leaf 0
rest_tree (Some v) = above_one 1 (leaf v)

abbrev rest_of : Tree → Option ℕ
rest_of (node n no_tree) = None
rest_of (node n (tree_and (node v us) ts)) = Some v

rest_back : (o : Option ℕ) → rest_of (rest_tree o) ≡ o
rest_back None = refl
rest_back (Some v) = refl

-- the forms of a number, of a number and a form, of two forms, and of a number and forms, each at its place

abbrev of_number : ℕ → ℕ → Form
of_number place n = get_or (literal n ∷ local n ∷ global n ∷ dynamic n ∷ next_method ∷ []) place has_next

abbrev of_one : ℕ → ℕ → Form → Form
of_one place n f =
    get_or (set_local n f ∷ set_global n f ∷ def_global n f ∷ block n f ∷ return_from n f ∷ set_dynamic n f ∷ def_dynamic n f ∷ [])
    place (sited n f)

abbrev of_two : ℕ → Form → Form → Form
of_two place f g =
    get_or (apply f g ∷ while_form f g ∷ catch_form f g ∷ throw f g ∷ unwind f g ∷ with_handler f g ∷ signal_form f g ∷ [])
    place (continue_form f g)

abbrev of_many : ℕ → ℕ → Forms → Form
of_many place n fs =
    get_or (sequence fs ∷ call n fs ∷ call_value fs ∷ prim (primitive_at n) fs ∷ []) place (tagbody n fs)

abbrev mutual
  form_tree : Form → Tree
  form_tree (literal i) = number_tree 0 i
  form_tree (local v) = number_tree 1 v
  form_tree (global n) = number_tree 2 n
  form_tree (dynamic n) = number_tree 3 n
  form_tree next_method = number_tree 4 0
  form_tree has_next = number_tree 5 0
  form_tree (set_local v f) = one_tree 0 v (form_tree f)
  form_tree (set_global n f) = one_tree 1 n (form_tree f)
  form_tree (def_global n f) = one_tree 2 n (form_tree f)
  form_tree (block x body) = one_tree 3 x (form_tree body)
  form_tree (return_from x f) = one_tree 4 x (form_tree f)
  form_tree (set_dynamic n f) = one_tree 5 n (form_tree f)
  form_tree (def_dynamic n f) = one_tree 6 n (form_tree f)
  form_tree (sited site f) = one_tree 7 site (form_tree f)
  form_tree (apply function list) = two_tree 0 (form_tree function) (form_tree list)
  form_tree (while_form test body) = two_tree 1 (form_tree test) (form_tree body)
  form_tree (catch_form tag body) = two_tree 2 (form_tree tag) (form_tree body)
  form_tree (throw tag f) = two_tree 3 (form_tree tag) (form_tree f)
  form_tree (unwind f cleanup) = two_tree 4 (form_tree f) (form_tree cleanup)
  form_tree (with_handler handler body) = two_tree 5 (form_tree handler) (form_tree body)
  form_tree (signal_form condition mark) = two_tree 6 (form_tree condition) (form_tree mark)
  form_tree (continue_form condition f) = two_tree 7 (form_tree condition) (form_tree f)
  form_tree (sequence fs) = many_tree 0 0 (forms_trees fs)
  form_tree (call n fs) = many_tree 1 n (forms_trees fs)
  form_tree (call_value fs) = many_tree 2 0 (forms_trees fs)
  form_tree (prim which fs) = many_tree 3 (primitive_number which) (forms_trees fs)
  form_tree (tagbody x segments) = many_tree 4 x (forms_trees segments)
  form_tree (go x segment) = node 4 (tree_and (leaf x) (tree_and (leaf segment) no_tree))
  form_tree (clauses cs) = node 5 (clauses_trees cs)
  form_tree (let_form bs body) = node 6 (tree_and (form_tree body) (bindings_trees bs))
  form_tree (dynamic_let ds body) = node 7 (tree_and (form_tree body) (dynamics_trees ds))
  form_tree (lambda required rest body parts) =
      node 8 (tree_and (form_tree body) (tree_and (rest_tree rest) (tree_and (node 0 (numbers_trees required)) (parts_trees parts))))

  forms_trees : Forms → Trees
  forms_trees no_form = no_tree
  forms_trees (form_and f fs) = tree_and (form_tree f) (forms_trees fs)

  clauses_trees : ClauseForms → Trees
  clauses_trees no_clause = no_tree
  clauses_trees (clause_and test body cs) = tree_and (form_tree test) (tree_and (body_tree body) (clauses_trees cs))

  body_tree : MaybeForm → Tree
  body_tree no_body = leaf 0
  body_tree (with_body f) = above_one 1 (form_tree f)

  bindings_trees : BindingForms → Trees
  bindings_trees no_binding = no_tree
  bindings_trees (binding_and v f bs) = tree_and (leaf v) (tree_and (form_tree f) (bindings_trees bs))

  dynamics_trees : DynamicForms → Trees
  dynamics_trees no_dynamic = no_tree
  dynamics_trees (dynamic_and n f ds) = tree_and (leaf n) (tree_and (form_tree f) (dynamics_trees ds))

abbrev mutual
  form_of : Tree → Form
  form_of (node zero (tree_and (node place us) (tree_and (node n vs) ts))) = of_number place n
  form_of (node (suc zero) (tree_and (node place us) (tree_and (node n vs) (tree_and t ts)))) = of_one place n (form_of t)
  form_of (node (suc (suc zero)) (tree_and (node place us) (tree_and t (tree_and u ts)))) = of_two place (form_of t) (form_of u)
  form_of (node (suc (suc (suc zero))) (tree_and (node place us) (tree_and (node n vs) ts))) = of_many place n (forms_of ts)
  form_of (node (suc (suc (suc (suc zero)))) (tree_and (node x us) (tree_and (node segment vs) ts))) = go x segment
  form_of (node (suc (suc (suc (suc (suc zero))))) ts) = clauses (clauses_of_trees ts)
  form_of (node (suc (suc (suc (suc (suc (suc zero)))))) (tree_and t ts)) = let_form (bindings_of_trees ts) (form_of t)
  form_of (node (suc (suc (suc (suc (suc (suc (suc zero))))))) (tree_and t ts)) = dynamic_let (dynamics_of_trees ts) (form_of t)
  form_of (node (suc (suc (suc (suc (suc (suc (suc (suc m)))))))) (tree_and t (tree_and u (tree_and (node n vs) ts)))) =
      lambda (numbers_of vs) (rest_of u) (form_of t) (parts_of ts)
  form_of t = has_next

  forms_of : Trees → Forms
  forms_of no_tree = no_form
  forms_of (tree_and t ts) = form_and (form_of t) (forms_of ts)

  clauses_of_trees : Trees → ClauseForms
  clauses_of_trees (tree_and t (tree_and u ts)) = clause_and (form_of t) (body_of_tree u) (clauses_of_trees ts)
  clauses_of_trees ts = no_clause

  body_of_tree : Tree → MaybeForm
  body_of_tree (node n no_tree) = no_body
  body_of_tree (node n (tree_and t ts)) = with_body (form_of t)

  bindings_of_trees : Trees → BindingForms
  bindings_of_trees (tree_and (node v us) (tree_and t ts)) = binding_and v (form_of t) (bindings_of_trees ts)
  bindings_of_trees ts = no_binding

  dynamics_of_trees : Trees → DynamicForms
  dynamics_of_trees (tree_and (node n us) (tree_and t ts)) = dynamic_and n (form_of t) (dynamics_of_trees ts)
  dynamics_of_trees ts = no_dynamic

mutual
  form_back : (f : Form) → form_of (form_tree f) ≡ f
  form_back (literal i) = refl
  form_back (local v) = refl
  form_back (global n) = refl
  form_back (dynamic n) = refl
  form_back next_method = refl
  form_back has_next = refl
  form_back (set_local v f) = ap (set_local v) (form_back f)
  form_back (set_global n f) = ap (set_global n) (form_back f)
  form_back (def_global n f) = ap (def_global n) (form_back f)
  form_back (block x body) = ap (block x) (form_back body)
  form_back (return_from x f) = ap (return_from x) (form_back f)
  form_back (set_dynamic n f) = ap (set_dynamic n) (form_back f)
  form_back (def_dynamic n f) = ap (def_dynamic n) (form_back f)
  form_back (sited site f) = ap (sited site) (form_back f)
  form_back (apply f g) = cc (form_back f, form_back g)
  form_back (while_form f g) = cc (form_back f, form_back g)
  form_back (catch_form f g) = cc (form_back f, form_back g)
  form_back (throw f g) = cc (form_back f, form_back g)
  form_back (unwind f g) = cc (form_back f, form_back g)
  form_back (with_handler f g) = cc (form_back f, form_back g)
  form_back (signal_form f g) = cc (form_back f, form_back g)
  form_back (continue_form f g) = cc (form_back f, form_back g)
  form_back (sequence fs) = ap sequence (forms_back fs)
  form_back (call n fs) = ap (call n) (forms_back fs)
  form_back (call_value fs) = ap call_value (forms_back fs)
  form_back (prim which fs) = cc (primitive_back which, forms_back fs)
  form_back (tagbody x segments) = ap (tagbody x) (forms_back segments)
  form_back (go x segment) = refl
  form_back (clauses cs) = ap clauses (clauses_back cs)
  form_back (let_form bs body) = cc (bindings_back bs, form_back body)
  form_back (dynamic_let ds body) = cc (dynamics_back ds, form_back body)
  form_back (lambda required rest body parts) = cc (numbers_back required, rest_back rest, form_back body, parts_back parts)

  forms_back : (fs : Forms) → forms_of (forms_trees fs) ≡ fs
  forms_back no_form = refl
  forms_back (form_and f fs) = cc (form_back f, forms_back fs)

  clauses_back : (cs : ClauseForms) → clauses_of_trees (clauses_trees cs) ≡ cs
  clauses_back no_clause = refl
  clauses_back (clause_and test body cs) = cc (form_back test, body_back body, clauses_back cs)

  body_back : (b : MaybeForm) → body_of_tree (body_tree b) ≡ b
  body_back no_body = refl
  body_back (with_body f) = ap with_body (form_back f)

  bindings_back : (bs : BindingForms) → bindings_of_trees (bindings_trees bs) ≡ bs
  bindings_back no_binding = refl
  bindings_back (binding_and v f bs) = cc (form_back f, bindings_back bs)

  dynamics_back : (ds : DynamicForms) → dynamics_of_trees (dynamics_trees ds) ≡ ds
  dynamics_back no_dynamic = refl
  dynamics_back (dynamic_and n f ds) = cc (form_back f, dynamics_back ds)

pub form_code : Coded Form
form_code = code_by Tree tree_code form_tree form_of form_back
