-- The shapes of forms and of parts that are the same.
use Rattle.std.proofs.Common.{◌≡◌, ℕ, ◌+◌, List, ◌++◌, sym, subst}
use Rattle.lang_meaning.specs.declared.core_form.CoreForm.{CoreForm}
use Rattle.lang_meaning.specs.Form.{Form, Forms, form_size, forms_size}
use Rattle.lang_meaning.specs.model.View.{view_form}
use Rattle.flat_language.specs.Flatten.{flat, flat_forms, functions, inner_procedures, procedures_of_forms}
use Rattle.flat_language.specs.Scope.{Scope}
use Rattle.flat_language.specs.FlatForm.{FlatForm}
use Rattle.flat_language.specs.declared.program.FlatProcedure.{FlatProcedure}
use Rattle.flat_conversion.specs.Binders.{binders, binders_of_forms}
use Rattle.flat_conversion.specs.declared.shapes.OverForm.{OverForm}
use Rattle.lang_meaning.specs.declared.kinds.OverTwo.{OverTwo}
use Rattle.flat_conversion.specs.declared.shapes.OverForms.{OverForms}
use Rattle.flat_conversion.specs.declared.variables.Binder.{Binder}
use Rattle.flat_conversion.specs.Shapes.{IsFlattened, over_form, over_two, over_forms}

-- of a form that is the same
pub made_at : (x y : CoreForm) (s : Scope) (made : ℕ → FlatForm) (inside : ℕ → List FlatProcedure) (front : List Binder → List Binder) → x ≡ y → IsFlattened (view_form y) s made inside front → IsFlattened (view_form x) s made inside front
made_at x y s made inside front e h = let P : CoreForm → Type 0 = λ z. IsFlattened (view_form z) s made inside front in subst P (sym e) h

-- over a form that is the same, over two, and over a list of forms
abbrev OverOne : Form → Scope → OverForm → Form → Type 0
OverOne f s kind a = (form_size f ≡ form_size a + 1) × IsFlattened f s (λ n. over_form kind (flat s n a)) (λ n. inner_procedures s n a) (binders a)

pub over_form_at : (x y : CoreForm) (s : Scope) (kind : OverForm) (a b : Form) → x ≡ y → a ≡ b → OverOne (view_form y) s kind b → OverOne (view_form x) s kind a
over_form_at x y s kind a b e d h =
    let P : CoreForm → Type 0 = λ z. OverOne (view_form z) s kind a in
    let Q : Form → Type 0 = λ z. OverOne (view_form y) s kind z in
    subst P (sym e) (subst Q (sym d) h)

abbrev OverBoth : Form → Scope → OverTwo → Form → Form → Type 0
OverBoth f s kind a b =
    (form_size f ≡ form_size a + form_size b + 1)
    × IsFlattened f s (λ n. over_two kind (flat s n a) (flat s (n + functions a) b)) (λ n. inner_procedures s n a ++ inner_procedures s (n + functions a) b) (λ rest. binders a (binders b rest))

pub over_two_at : (x y : CoreForm) (s : Scope) (kind : OverTwo) (a b d g : Form) → x ≡ y → a ≡ d → b ≡ g → OverBoth (view_form y) s kind d g → OverBoth (view_form x) s kind a b
over_two_at x y s kind a b d g e p q h =
    let P : CoreForm → Type 0 = λ z. OverBoth (view_form z) s kind a b in
    let Q : Form → Type 0 = λ z. OverBoth (view_form y) s kind z b in
    let R : Form → Type 0 = λ z. OverBoth (view_form y) s kind d z in
    subst P (sym e) (subst Q (sym p) (subst R (sym q) h))

abbrev OverAll : Form → Scope → OverForms → Forms → Type 0
OverAll f s kind fs = (form_size f ≡ forms_size fs + 1) × IsFlattened f s (λ n. over_forms kind (flat_forms s n fs)) (λ n. procedures_of_forms s n fs) (binders_of_forms fs)

pub over_forms_at : (x y : CoreForm) (s : Scope) (kind : OverForms) (fs : Forms) → x ≡ y → OverAll (view_form y) s kind fs → OverAll (view_form x) s kind fs
over_forms_at x y s kind fs e h = let P : CoreForm → Type 0 = λ z. OverAll (view_form z) s kind fs in subst P (sym e) h
