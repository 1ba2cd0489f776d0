-- Forms that are neither primitives nor at a site of their own are judged by their value.
use Rattle.std.proofs.Common.{◌≡◌, ℕ, List, Box, Global, refl}
use Rattle.lang_meaning.specs.declared.primitive.Primitive.{Primitive}
use Rattle.flat_language.specs.declared.flat_core.FlatCore.{FlatCore}
use Rattle.flat_language.specs.declared.flat_core.FlatCoreForm.{FlatCoreForm}
use Rattle.flat_language.specs.declared.flat_core.FlatCoreForm.TheVariants as kind
use Rattle.flat_language.specs.FlatForm.{FlatForm}
use Rattle.flat_language.specs.model.View.{view_form}
use Rattle.back_lowering.specs.Codes.{lower}
use Rattle.back_forms.specs.Judgings.{JudgesValue}

pub value_is_judged : (f : FlatCoreForm)
    → ((p : Primitive) (fs : List FlatForm) → f ≡ kind.Prim p fs → ⊥)
    → ((site : ℕ) (i : Box FlatCore Global) → f ≡ kind.Sited site i → ⊥)
    → JudgesValue (view_form f)
unfolding lower
value_is_judged (kind.Prim p fs) no_prim no_site names at program s d = absurd (no_prim p fs refl)
value_is_judged (kind.Sited site i) no_prim no_site names at program s d = absurd (no_site site i refl)
value_is_judged f no_prim no_site names at program s d = refl
