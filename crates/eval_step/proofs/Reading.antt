-- Which forms and primitives read, and which forms begin as themselves.
use Rattle.std.proofs.Common.{◌≡◌, ℕ, true, false, List, refl, Box, Global as Heap}
use Rattle.flat_language.specs.declared.flat_core.FlatCore.{FlatCore}
use Rattle.lang_meaning.specs.declared.primitive.Primitive.{Primitive}
use Rattle.lang_meaning.specs.declared.primitive.Primitive.TheVariants as p
use Rattle.flat_language.specs.declared.flat_core.FlatCoreForm.{FlatCoreForm}
use Rattle.flat_language.specs.declared.flat_core.FlatCoreForm.TheVariants as form
use Rattle.flat_language.specs.FlatForm.{FlatForm}
use Rattle.flat_language.specs.model.View.{view_form}
use Rattle.eval_machine.specs.Run.{form_begins}
use Rattle.eval_primitives.specs.Groups.{is_streaming}
use Rattle.eval_step.specs.Streams.{is_reading, form_reads}

-- no other primitive reads than one of the streams
pub quiet_reads_nothing : (x : Primitive) → is_streaming x ≡ false → false ≡ is_reading x
quiet_reads_nothing p.GetByte h = absurd (cc h)
quiet_reads_nothing p.PeekByte h = absurd (cc h)
quiet_reads_nothing w h = refl

-- no other form reads than a primitive
pub other_reads_nothing : (f : FlatCoreForm) → ((which : Primitive) (fs : List FlatForm) → f ≡ form.Prim which fs → ⊥) → false ≡ form_reads (view_form f)
other_reads_nothing (form.Prim which fs) h = absurd (h which fs refl)
other_reads_nothing w h = refl

-- each form but one with a site begins as itself
pub other_begins : (f : FlatCoreForm) → ((site : ℕ) (g : Box FlatCore Heap) → f ≡ form.Sited site g → ⊥) → true ≡ form_begins (view_form f)
other_begins (form.Sited s f) h = absurd (h s f refl)
other_begins w h = refl
