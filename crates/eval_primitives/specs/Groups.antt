-- The primitives of the groups.
use Rattle.std.specs.Prelude.{Bool, true, false}
use Rattle.lang_meaning.specs.declared.primitive.Primitive.{Primitive}
use Rattle.lang_meaning.specs.declared.primitive.Primitive.TheVariants as p
use Rattle.eval_primitives.specs.declared.group.Arithmetic.{Arithmetic}
use Rattle.eval_primitives.specs.declared.group.Arithmetic.TheVariants as arithmetic
use Rattle.eval_primitives.specs.declared.group.Comparison.{Comparison}
use Rattle.eval_primitives.specs.declared.group.Comparison.TheVariants as comparison
use Rattle.eval_primitives.specs.declared.group.KindTest.{KindTest}
use Rattle.eval_primitives.specs.declared.group.KindTest.TheVariants as kind
use Rattle.eval_primitives.specs.declared.group.PartAccess.{PartAccess}
use Rattle.eval_primitives.specs.declared.group.PartAccess.TheVariants as part
use Rattle.eval_primitives.specs.declared.group.Length.{Length}
use Rattle.eval_primitives.specs.declared.group.Length.TheVariants as measured
use Rattle.eval_primitives.specs.declared.group.Element.{Element}
use Rattle.eval_primitives.specs.declared.group.Element.TheVariants as element
use Rattle.eval_primitives.specs.declared.group.ElementSet.{ElementSet}
use Rattle.eval_primitives.specs.declared.group.ElementSet.TheVariants as element_set
use Rattle.eval_primitives.specs.declared.group.Search.{Search}
use Rattle.eval_primitives.specs.declared.group.Search.TheVariants as searches
use Rattle.eval_primitives.specs.declared.group.Nullary.{Nullary}
use Rattle.eval_primitives.specs.declared.group.Nullary.TheVariants as zeros
use Rattle.eval_primitives.specs.declared.group.Unary.{Unary}
use Rattle.eval_primitives.specs.declared.group.Unary.TheVariants as one
use Rattle.eval_primitives.specs.declared.group.Binary.{Binary}
use Rattle.eval_primitives.specs.declared.group.Binary.TheVariants as two
use Rattle.eval_primitives.specs.declared.group.Stream.{Stream}
use Rattle.eval_primitives.specs.declared.group.Stream.TheVariants as stream
use Rattle.eval_primitives.specs.declared.group.Group.{Group}
use Rattle.eval_primitives.specs.declared.group.Group.TheVariants as group

abbrev pub arithmetic_of : Arithmetic → Primitive
arithmetic_of arithmetic.Add = p.Add
arithmetic_of arithmetic.Subtract = p.Subtract
arithmetic_of arithmetic.Multiply = p.Multiply
arithmetic_of arithmetic.Divide = p.Divide
arithmetic_of arithmetic.Modulo = p.Modulo

abbrev pub comparison_of : Comparison → Primitive
comparison_of comparison.Equal = p.NumberEqual
comparison_of comparison.NotEqual = p.NumberNotEqual
comparison_of comparison.Less = p.NumberLess
comparison_of comparison.AtMost = p.NumberAtMost
comparison_of comparison.Greater = p.NumberGreater
comparison_of comparison.AtLeast = p.NumberAtLeast

abbrev pub kind_of : KindTest → Primitive
kind_of kind.Null = p.IsNull
kind_of kind.Integer = p.IsInteger
kind_of kind.Character = p.IsCharacter
kind_of kind.Symbol = p.IsSymbol
kind_of kind.Cons = p.IsCons
kind_of kind.String = p.IsString
kind_of kind.Vector = p.IsVector
kind_of kind.Function = p.IsFunction
kind_of kind.Generic = p.IsGeneric

abbrev pub part_of : PartAccess → Primitive
part_of part.Car = p.Car
part_of part.Cdr = p.Cdr
part_of part.CharCode = p.CharCode
part_of part.CodeChar = p.CodeChar
part_of part.SymbolSerial = p.SymbolSerial

abbrev pub length_primitive_of : Length → Primitive
length_primitive_of measured.String = p.StringLength
length_primitive_of measured.Vector = p.VectorLength
length_primitive_of measured.Slots = p.SlotCount

abbrev pub element_of : Element → Primitive
element_of element.CharAt = p.CharAt
element_of element.VectorRef = p.VectorRef
element_of element.SlotRef = p.SlotRef
element_of element.SlotBound = p.SlotBound

abbrev pub element_set_of : ElementSet → Primitive
element_set_of element_set.CharAt = p.SetCharAt
element_set_of element_set.VectorRef = p.SetVectorRef
element_set_of element_set.Slot = p.SlotSet

abbrev pub search_of : Search → Primitive
search_of searches.IsSubclass = p.IsSubclass
search_of searches.IsInstance = p.IsInstance
search_of searches.SlotPlace = p.SlotPlace

abbrev pub zero_of : Nullary → Primitive
zero_of zeros.Gensym = p.Gensym
zero_of zeros.StandardInput = p.StandardInput
zero_of zeros.StandardOutput = p.StandardOutput

abbrev pub one_of : Unary → Primitive
one_of (one.Is k) = kind_of k
one_of (one.Part x) = part_of x
one_of (one.Length x) = length_primitive_of x
one_of one.ClassOf = p.ClassOf
one_of one.ClassName = p.ClassName
one_of one.Continuable = p.Continuable
one_of one.SymbolName = p.SymbolName
one_of one.Allocate = p.Allocate

abbrev pub two_of : Binary → Primitive
two_of (two.Arithmetic x) = arithmetic_of x
two_of (two.Comparison x) = comparison_of x
two_of two.Same = p.Same
two_of (two.Element x) = element_of x
two_of two.SlotInitargs = p.SlotInitargs
two_of two.SlotInitform = p.SlotInitform
two_of two.SetCar = p.SetCar
two_of two.SetCdr = p.SetCdr
two_of two.Cons = p.Cons
two_of two.MakeString = p.MakeString
two_of two.MakeVector = p.MakeVector
two_of (two.Search x) = search_of x

abbrev pub stream_of : Stream → Primitive
stream_of stream.PutChar = p.PutChar
stream_of stream.IsFreshLine = p.IsFreshLine
stream_of stream.GetByte = p.GetByte
stream_of stream.PeekByte = p.PeekByte

abbrev pub primitive_of : Group → Primitive
primitive_of (group.Zero x) = zero_of x
primitive_of (group.One x) = one_of x
primitive_of (group.Two x) = two_of x
primitive_of (group.Three x) = element_set_of x
primitive_of (group.Stream x) = stream_of x

-- whether a primitive reads or writes a stream
abbrev pub is_streaming : Primitive → Bool
is_streaming p.PutChar = true
is_streaming p.IsFreshLine = true
is_streaming p.GetByte = true
is_streaming p.PeekByte = true
is_streaming which = false
