-- Forms that are counted.
use Rattle.std.proofs.Common.{◌≡◌, ℕ, true, false, List, [], ◌∷◌, ◌++◌, ◌+◌, Some, take, length, refl, sym, ap, ◌∙◌, arith}
use Rattle.std.specs.Prelude.{slice_get}
use Rattle.base.specs.model.DataRest.{take_at}
use Rattle.front_profile.specs.declared.elaboration.ElaboratedPart.{ElaboratedPart}
use Rattle.front_profile.specs.declared.elaboration.ElaboratedPart.TheVariants.{Value, Binding, Parameter}
use Rattle.front_profile.specs.Elaborations.{forms_found}
use Rattle.front_elaboration.specs.Taken.{is_form}

abbrev count : List ElaboratedPart → ℕ
count rs = length (forms_found rs)

-- one that is a form, and one that is none

form_more : (rs : List ElaboratedPart) (x : ElaboratedPart) → is_form x ≡ true → count (rs ++ x ∷ []) ≡ count rs + 1
form_more [] (Value f) e = omega arith
form_more [] (Binding v f) e = absurd (cc)
form_more [] (Parameter v) e = absurd (cc)
form_more (Value f ∷ rs) x e = omega (arith, form_more rs x e)
form_more (Binding v f ∷ rs) x e = form_more rs x e
form_more (Parameter v ∷ rs) x e = form_more rs x e

no_form_more : (rs : List ElaboratedPart) (x : ElaboratedPart) → is_form x ≡ false → count (rs ++ x ∷ []) ≡ count rs
no_form_more [] (Value f) e = absurd (cc)
no_form_more [] (Binding v f) e = refl
no_form_more [] (Parameter v) e = refl
no_form_more (Value f ∷ rs) x e = omega (arith, no_form_more rs x e)
no_form_more (Binding v f ∷ rs) x e = no_form_more rs x e
no_form_more (Parameter v ∷ rs) x e = no_form_more rs x e

pub form_counted : (rs : List ElaboratedPart) (i n : ℕ) (x : ElaboratedPart) → slice_get rs i ≡ Some x → is_form x ≡ true → n ≡ length (forms_found (take i rs))
    → n + 1 ≡ length (forms_found (take (i + 1) rs))
form_counted rs i n x h e g =
    ap (λ m. m + 1) g ∙ sym (form_more (take i rs) x e) ∙ ap count (sym (take_at rs i x h))

pub none_counted : (rs : List ElaboratedPart) (i n : ℕ) (x : ElaboratedPart) → slice_get rs i ≡ Some x → is_form x ≡ false → n ≡ length (forms_found (take i rs))
    → n ≡ length (forms_found (take (i + 1) rs))
none_counted rs i n x h e g = g ∙ sym (no_form_more (take i rs) x e) ∙ ap count (sym (take_at rs i x h))
