-- A list of code and its mirror have the same forms.
use Rattle.std.specs.Prelude.{◌≡◌, List, [], ◌∷◌, ◌++◌, Option, Some, None, option_to_list, refl}
use Rattle.std.proofs.Common.{◌∙◌, ap}
use Rattle.lang_meaning.specs.Form.{Form}
use Rattle.lang_meaning.specs.Subforms.{forms_list, body_list, clause_list, value_list, dynamic_value_list}
use Rattle.lang_meaning.specs.model.View.{forms, maybe_form, clauses_of, bindings_of, dynamics_of}
use Rattle.lang_meaning.specs.model.SubformsView.{clause_forms, value_forms, dynamic_forms}
use Rattle.lang_meaning.specs.declared.core_form.Clause.{Clause}
use Rattle.lang_meaning.specs.declared.core_form.Binding.{Binding}
use Rattle.lang_meaning.specs.declared.core_form.DynBinding.{DynBinding}

pub forms_listed : (xs : List Form) → xs ≡ forms_list (forms xs)
forms_listed [] = refl
forms_listed (x ∷ xs) = ap (λ ys. x ∷ ys) (forms_listed xs)

body_listed : (b : Option Form) → option_to_list b ≡ body_list (maybe_form b)
body_listed None = refl
body_listed (Some f) = refl

pub clauses_listed : (cs : List Clause) → clause_forms cs ≡ clause_list (clauses_of cs)
clauses_listed [] = refl
clauses_listed (c ∷ cs) =
    ap (λ ys. c.test ∷ (ys ++ clause_forms cs)) (body_listed c.body)
    ∙ ap (λ ys. c.test ∷ (body_list (maybe_form c.body) ++ ys)) (clauses_listed cs)

pub values_listed : (bs : List Binding) → value_forms bs ≡ value_list (bindings_of bs)
values_listed [] = refl
values_listed (b ∷ bs) = ap (λ ys. b.value ∷ ys) (values_listed bs)

pub dynamics_listed : (ds : List DynBinding) → dynamic_forms ds ≡ dynamic_value_list (dynamics_of ds)
dynamics_listed [] = refl
dynamics_listed (d ∷ ds) = ap (λ ys. d.value ∷ ys) (dynamics_listed ds)
