-- **What is to be shown of the forms that apply primitives.**
use Rattle.std.specs.Prelude.{ℕ, List}
use Rattle.lang_meaning.specs.declared.primitive.Primitive.{Primitive}
use Rattle.lang_meaning.specs.State.{DynamicContext}
use Rattle.flat_language.specs.FlatForm.{prim, FlatForms}
use Rattle.back_relation.specs.Setting.{Setting}
use Rattle.back_relation.specs.Worlds.{Standing}
use Rattle.back_relation.specs.Placed.{IsPlaced}
use Rattle.back_relation.specs.Forms.{FormDoes}
use Rattle.back_relation.specs.FormLaws.{AllDo}
use Rattle.back_primitives.specs.Calling.{PendingDoesAnywhere}

-- what a setting has for primitives: words are placed, and the routine signals what they could not do
pub record HasPrimitives (setting : Setting) (k turns : ℕ) : Type 0 where
  pub placed : IsPlaced setting
  pub pending : (rs valid : List Standing) (around : DynamicContext) → PendingDoesAnywhere setting k turns rs valid around

-- **the form of a primitive**, whose arguments do what they mean
abbrev pub LawOfPrimitiveForms : Type 0
LawOfPrimitiveForms =
    (setting : Setting) (k turns : ℕ) (which : Primitive) (fs : FlatForms) → HasPrimitives setting k turns → AllDo setting k turns fs
    → FormDoes setting k turns (prim which fs)
