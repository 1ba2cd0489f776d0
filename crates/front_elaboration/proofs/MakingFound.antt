-- What is sorted so far, with what is still to be sorted behind it.
use Rattle.std.proofs.Common.{◌≡◌, ◌≤◌, ℕ, List, [], ◌∷◌, ◌++◌, length, drop, option_to_list, refl, ap, sym, ◌∙◌, append_assoc}
use Rattle.std.proofs.lemmas.List.{drop_all, append-nil}
use Rattle.lang_meaning.specs.Form.{Form, BindingForms, no_binding, binding_and}
use Rattle.lang_meaning.specs.declared.core_form.Binding.{Binding as Bound}
use Rattle.lang_meaning.specs.model.View.{bindings_of}
use Rattle.front_profile.specs.declared.elaboration.ElaboratedPart.{ElaboratedPart}
use Rattle.front_profile.specs.declared.elaboration.ElaboratedPart.TheVariants.{Value, Binding, Parameter}
use Rattle.front_profile.specs.Elaborations.{form_found, variable_found, forms_found, variables_found, bindings_found}
use Rattle.front_elaboration.specs.Sorted.{binding_found}

-- one part more

abbrev AddsForms : ElaboratedPart → Type 0
AddsForms x = (fs : List Form) (xs : List ElaboratedPart) → (fs ++ option_to_list (form_found x)) ++ forms_found xs ≡ fs ++ forms_found (x ∷ xs)

adds_forms : (x : ElaboratedPart) → AddsForms x
adds_forms (Value f) fs xs = append_assoc fs (f ∷ []) (forms_found xs)
adds_forms (Binding v f) fs xs = append_assoc fs [] (forms_found xs)
adds_forms (Parameter v) fs xs = append_assoc fs [] (forms_found xs)

pub forms_go_on : (fs whole : List Form) (x : ElaboratedPart) (xs ys : List ElaboratedPart) → xs ≡ x ∷ ys → fs ++ forms_found xs ≡ whole
    → (fs ++ option_to_list (form_found x)) ++ forms_found ys ≡ whole
forms_go_on fs whole x xs ys e h = adds_forms x fs ys ∙ ap (λ zs. fs ++ forms_found zs) (sym e) ∙ h

abbrev AddsVariables : ElaboratedPart → Type 0
AddsVariables x =
    (vs : List ℕ) (xs : List ElaboratedPart) → (vs ++ option_to_list (variable_found x)) ++ variables_found xs ≡ vs ++ variables_found (x ∷ xs)

adds_variables : (x : ElaboratedPart) → AddsVariables x
adds_variables (Value f) vs xs = append_assoc vs [] (variables_found xs)
adds_variables (Binding v f) vs xs = append_assoc vs [] (variables_found xs)
adds_variables (Parameter v) vs xs = append_assoc vs (v ∷ []) (variables_found xs)

pub variables_go_on : (vs whole : List ℕ) (x : ElaboratedPart) (xs ys : List ElaboratedPart) → xs ≡ x ∷ ys → vs ++ variables_found xs ≡ whole
    → (vs ++ option_to_list (variable_found x)) ++ variables_found ys ≡ whole
variables_go_on vs whole x xs ys e h = adds_variables x vs ys ∙ ap (λ zs. vs ++ variables_found zs) (sym e) ∙ h

abbrev pub bindings_before : List Bound → BindingForms → BindingForms
bindings_before [] rest = rest
bindings_before (b ∷ bs) rest = binding_and b.var b.value (bindings_before bs rest)

one_binding_more : (bs : List Bound) (b : Bound) (rest : BindingForms)
    → bindings_before (bs ++ b ∷ []) rest ≡ bindings_before bs (binding_and b.var b.value rest)
one_binding_more [] b rest = refl
one_binding_more (c ∷ bs) b rest = ap (λ r. binding_and c.var c.value r) (one_binding_more bs b rest)

no_binding_more : (bs : List Bound) (rest : BindingForms) → bindings_before (bs ++ []) rest ≡ bindings_before bs rest
no_binding_more bs rest = ap (λ cs. bindings_before cs rest) (append-nil bs)

abbrev AddsBindings : ElaboratedPart → Type 0
AddsBindings x =
    (bs : List Bound) (xs : List ElaboratedPart) → bindings_before (bs ++ binding_found x) (bindings_found xs) ≡ bindings_before bs (bindings_found (x ∷ xs))

adds_bindings : (x : ElaboratedPart) → AddsBindings x
adds_bindings (Value f) bs xs = no_binding_more bs (bindings_found xs)
adds_bindings (Binding v f) bs xs = one_binding_more bs (record { var = v; value = f }) (bindings_found xs)
adds_bindings (Parameter v) bs xs = no_binding_more bs (bindings_found xs)

pub bindings_go_on : (bs : List Bound) (whole : BindingForms) (x : ElaboratedPart) (xs ys : List ElaboratedPart) → xs ≡ x ∷ ys
    → bindings_before bs (bindings_found xs) ≡ whole → bindings_before (bs ++ binding_found x) (bindings_found ys) ≡ whole
bindings_go_on bs whole x xs ys e h = adds_bindings x bs ys ∙ ap (λ zs. bindings_before bs (bindings_found zs)) (sym e) ∙ h

-- nothing is left

pub forms_end : (fs whole : List Form) (xs : List ElaboratedPart) (i : ℕ) → length xs ≤ i → fs ++ forms_found (drop i xs) ≡ whole → fs ≡ whole
forms_end fs whole xs i l h = sym (append-nil fs) ∙ ap (λ zs. fs ++ forms_found zs) (sym (drop_all i xs l)) ∙ h

pub variables_end : (vs whole : List ℕ) (xs : List ElaboratedPart) (i : ℕ) → length xs ≤ i → vs ++ variables_found (drop i xs) ≡ whole → vs ≡ whole
variables_end vs whole xs i l h = sym (append-nil vs) ∙ ap (λ zs. vs ++ variables_found zs) (sym (drop_all i xs l)) ∙ h

before_none : (bs : List Bound) → bindings_of bs ≡ bindings_before bs no_binding
before_none [] = refl
before_none (b ∷ bs) = ap (λ r. binding_and b.var b.value r) (before_none bs)

pub bindings_end : (bs : List Bound) (whole : BindingForms) (xs : List ElaboratedPart) (i : ℕ) → length xs ≤ i
    → bindings_before bs (bindings_found (drop i xs)) ≡ whole → bindings_of bs ≡ whole
bindings_end bs whole xs i l h = before_none bs ∙ ap (λ zs. bindings_before bs (bindings_found zs)) (sym (drop_all i xs l)) ∙ h
