-- Primitives of all groups but one read and write no stream.
use Rattle.std.proofs.Common.{◌≡◌, false, refl, ap, ◌∙◌, sym}
use Rattle.lang_meaning.specs.declared.primitive.Primitive.{Primitive}
use Rattle.eval_primitives.specs.Groups.{arithmetic_of, comparison_of, kind_of, part_of, length_primitive_of, element_of, element_set_of, search_of, zero_of, one_of, two_of, primitive_of, is_streaming}
use Rattle.eval_primitives.specs.declared.group.KindTest.{KindTest}
use Rattle.eval_primitives.specs.declared.group.KindTest.TheVariants as kind
use Rattle.eval_primitives.specs.declared.group.PartAccess.{PartAccess}
use Rattle.eval_primitives.specs.declared.group.PartAccess.TheVariants as part
use Rattle.eval_primitives.specs.declared.group.Length.{Length}
use Rattle.eval_primitives.specs.declared.group.Length.TheVariants as measured
use Rattle.eval_primitives.specs.declared.group.Arithmetic.{Arithmetic}
use Rattle.eval_primitives.specs.declared.group.Arithmetic.TheVariants as arithmetic
use Rattle.eval_primitives.specs.declared.group.Comparison.{Comparison}
use Rattle.eval_primitives.specs.declared.group.Comparison.TheVariants as comparison
use Rattle.eval_primitives.specs.declared.group.Element.{Element}
use Rattle.eval_primitives.specs.declared.group.Element.TheVariants as element
use Rattle.eval_primitives.specs.declared.group.Search.{Search}
use Rattle.eval_primitives.specs.declared.group.Search.TheVariants as searches
use Rattle.eval_primitives.specs.declared.group.ElementSet.{ElementSet}
use Rattle.eval_primitives.specs.declared.group.ElementSet.TheVariants as element_set
use Rattle.eval_primitives.specs.declared.group.Nullary.{Nullary}
use Rattle.eval_primitives.specs.declared.group.Nullary.TheVariants as zeros
use Rattle.eval_primitives.specs.declared.group.Unary.{Unary}
use Rattle.eval_primitives.specs.declared.group.Unary.TheVariants as one
use Rattle.eval_primitives.specs.declared.group.Binary.{Binary}
use Rattle.eval_primitives.specs.declared.group.Binary.TheVariants as two
use Rattle.eval_primitives.specs.declared.group.Group.{Group}
use Rattle.eval_primitives.specs.declared.group.Group.TheVariants as group

quiet_kind : (x : KindTest) → is_streaming (kind_of x) ≡ false
quiet_kind kind.Null = refl
quiet_kind w = refl

quiet_part : (x : PartAccess) → is_streaming (part_of x) ≡ false
quiet_part part.Car = refl
quiet_part w = refl

quiet_measured : (x : Length) → is_streaming (length_primitive_of x) ≡ false
quiet_measured measured.String = refl
quiet_measured measured.Vector = refl
quiet_measured measured.Slots = refl

quiet_arithmetic : (x : Arithmetic) → is_streaming (arithmetic_of x) ≡ false
quiet_arithmetic arithmetic.Add = refl
quiet_arithmetic w = refl

quiet_comparison : (x : Comparison) → is_streaming (comparison_of x) ≡ false
quiet_comparison comparison.Equal = refl
quiet_comparison w = refl

quiet_element : (x : Element) → is_streaming (element_of x) ≡ false
quiet_element element.CharAt = refl
quiet_element element.VectorRef = refl
quiet_element element.SlotRef = refl
quiet_element element.SlotBound = refl

quiet_searches : (x : Search) → is_streaming (search_of x) ≡ false
quiet_searches searches.IsSubclass = refl
quiet_searches searches.IsInstance = refl
quiet_searches searches.SlotPlace = refl

quiet_element_set : (x : ElementSet) → is_streaming (element_set_of x) ≡ false
quiet_element_set element_set.CharAt = refl
quiet_element_set element_set.VectorRef = refl
quiet_element_set element_set.Slot = refl

quiet_zeros : (x : Nullary) → is_streaming (zero_of x) ≡ false
quiet_zeros zeros.Gensym = refl
quiet_zeros zeros.StandardInput = refl
quiet_zeros zeros.StandardOutput = refl

quiet_one : (x : Unary) → is_streaming (one_of x) ≡ false
quiet_one (one.Is k) = quiet_kind k
quiet_one (one.Part x) = quiet_part x
quiet_one (one.Length x) = quiet_measured x
quiet_one w = refl

quiet_two : (x : Binary) → is_streaming (two_of x) ≡ false
quiet_two (two.Arithmetic x) = quiet_arithmetic x
quiet_two (two.Comparison x) = quiet_comparison x
quiet_two (two.Element x) = quiet_element x
quiet_two (two.Search x) = quiet_searches x
quiet_two w = refl

-- by the group of a primitive
pub zero_quiet : (g : Group) (p : Primitive) (x : Nullary) → g ≡ group.Zero x → primitive_of g ≡ p → is_streaming p ≡ false
zero_quiet g p x is e = ap is_streaming (sym e ∙ ap primitive_of is) ∙ quiet_zeros x

pub one_quiet : (g : Group) (p : Primitive) (x : Unary) → g ≡ group.One x → primitive_of g ≡ p → is_streaming p ≡ false
one_quiet g p x is e = ap is_streaming (sym e ∙ ap primitive_of is) ∙ quiet_one x

pub two_quiet : (g : Group) (p : Primitive) (x : Binary) → g ≡ group.Two x → primitive_of g ≡ p → is_streaming p ≡ false
two_quiet g p x is e = ap is_streaming (sym e ∙ ap primitive_of is) ∙ quiet_two x

pub three_quiet : (g : Group) (p : Primitive) (x : ElementSet) → g ≡ group.Three x → primitive_of g ≡ p → is_streaming p ≡ false
three_quiet g p x is e = ap is_streaming (sym e ∙ ap primitive_of is) ∙ quiet_element_set x
