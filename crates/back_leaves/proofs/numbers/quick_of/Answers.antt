-- Arm by arm, as the definition has it.
use Rattle.std.proofs.Common.{ap, sym}
use Rattle.back_leaves.specs.Quick.{quick_of}
use Rattle.back_leaves.proofs.numbers.quick_of.Goals as goal

pub returns-in-Add : goal.returns-in-Add
returns-in-Add c = ap quick_of (sym c.in-Add.is)

pub returns-in-Subtract : goal.returns-in-Subtract
returns-in-Subtract c = ap quick_of (sym c.in-Subtract.is)

pub returns-in-Multiply : goal.returns-in-Multiply
returns-in-Multiply c = ap quick_of (sym c.in-Multiply.is)

pub returns-in-Divide : goal.returns-in-Divide
returns-in-Divide c = ap quick_of (sym c.in-Divide.is)

pub returns-in-Modulo : goal.returns-in-Modulo
returns-in-Modulo c = ap quick_of (sym c.in-Modulo.is)

pub returns-in-NumberEqual : goal.returns-in-NumberEqual
returns-in-NumberEqual c = ap quick_of (sym c.in-NumberEqual.is)

pub returns-in-NumberNotEqual : goal.returns-in-NumberNotEqual
returns-in-NumberNotEqual c = ap quick_of (sym c.in-NumberNotEqual.is)

pub returns-in-NumberLess : goal.returns-in-NumberLess
returns-in-NumberLess c = ap quick_of (sym c.in-NumberLess.is)

pub returns-in-NumberAtMost : goal.returns-in-NumberAtMost
returns-in-NumberAtMost c = ap quick_of (sym c.in-NumberAtMost.is)

pub returns-in-NumberGreater : goal.returns-in-NumberGreater
returns-in-NumberGreater c = ap quick_of (sym c.in-NumberGreater.is)

pub returns-in-NumberAtLeast : goal.returns-in-NumberAtLeast
returns-in-NumberAtLeast c = ap quick_of (sym c.in-NumberAtLeast.is)

pub returns-in-Same : goal.returns-in-Same
returns-in-Same c = ap quick_of (sym c.in-Same.is)

pub returns-in-IsNull : goal.returns-in-IsNull
returns-in-IsNull c = ap quick_of (sym c.in-IsNull.is)

pub returns-in-IsCons : goal.returns-in-IsCons
returns-in-IsCons c = ap quick_of (sym c.in-IsCons.is)

pub returns-in-IsInteger : goal.returns-in-IsInteger
returns-in-IsInteger c = ap quick_of (sym c.in-IsInteger.is)

pub returns-in-IsSymbol : goal.returns-in-IsSymbol
returns-in-IsSymbol c = ap quick_of (sym c.in-IsSymbol.is)

pub returns-in-IsCharacter : goal.returns-in-IsCharacter
returns-in-IsCharacter c = ap quick_of (sym c.in-IsCharacter.is)

pub returns-in-IsString : goal.returns-in-IsString
returns-in-IsString c = ap quick_of (sym c.in-IsString.is)

pub returns-in-IsVector : goal.returns-in-IsVector
returns-in-IsVector c = ap quick_of (sym c.in-IsVector.is)

pub returns-in-IsFunction : goal.returns-in-IsFunction
returns-in-IsFunction c = ap quick_of (sym c.in-IsFunction.is)

pub returns-in-IsGeneric : goal.returns-in-IsGeneric
returns-in-IsGeneric c = ap quick_of (sym c.in-IsGeneric.is)

pub returns-in-Cons : goal.returns-in-Cons
returns-in-Cons c = ap quick_of (sym c.in-Cons.is)

pub returns-in-Car : goal.returns-in-Car
returns-in-Car c = ap quick_of (sym c.in-Car.is)

pub returns-in-Cdr : goal.returns-in-Cdr
returns-in-Cdr c = ap quick_of (sym c.in-Cdr.is)

pub returns-in-SetCar : goal.returns-in-SetCar
returns-in-SetCar c = ap quick_of (sym c.in-SetCar.is)

pub returns-in-SetCdr : goal.returns-in-SetCdr
returns-in-SetCdr c = ap quick_of (sym c.in-SetCdr.is)

pub returns-in-MakeString : goal.returns-in-MakeString
returns-in-MakeString c = ap quick_of (sym c.in-MakeString.is)

pub returns-in-MakeVector : goal.returns-in-MakeVector
returns-in-MakeVector c = ap quick_of (sym c.in-MakeVector.is)

pub returns-in-StringLength : goal.returns-in-StringLength
returns-in-StringLength c = ap quick_of (sym c.in-StringLength.is)

pub returns-in-VectorLength : goal.returns-in-VectorLength
returns-in-VectorLength c = ap quick_of (sym c.in-VectorLength.is)

pub returns-in-CharAt : goal.returns-in-CharAt
returns-in-CharAt c = ap quick_of (sym c.in-CharAt.is)

pub returns-in-VectorRef : goal.returns-in-VectorRef
returns-in-VectorRef c = ap quick_of (sym c.in-VectorRef.is)

pub returns-in-SetCharAt : goal.returns-in-SetCharAt
returns-in-SetCharAt c = ap quick_of (sym c.in-SetCharAt.is)

pub returns-in-SetVectorRef : goal.returns-in-SetVectorRef
returns-in-SetVectorRef c = ap quick_of (sym c.in-SetVectorRef.is)

pub returns-in-CharCode : goal.returns-in-CharCode
returns-in-CharCode c = ap quick_of (sym c.in-CharCode.is)

pub returns-in-CodeChar : goal.returns-in-CodeChar
returns-in-CodeChar c = ap quick_of (sym c.in-CodeChar.is)

pub returns-in-SymbolName : goal.returns-in-SymbolName
returns-in-SymbolName c = ap quick_of (sym c.in-SymbolName.is)

pub returns-in-SymbolSerial : goal.returns-in-SymbolSerial
returns-in-SymbolSerial c = ap quick_of (sym c.in-SymbolSerial.is)

pub returns-in-Gensym : goal.returns-in-Gensym
returns-in-Gensym c = ap quick_of (sym c.in-Gensym.is)

pub returns-in-ClassOf : goal.returns-in-ClassOf
returns-in-ClassOf c = ap quick_of (sym c.in-ClassOf.is)

pub returns-in-ClassName : goal.returns-in-ClassName
returns-in-ClassName c = ap quick_of (sym c.in-ClassName.is)

pub returns-in-IsSubclass : goal.returns-in-IsSubclass
returns-in-IsSubclass c = ap quick_of (sym c.in-IsSubclass.is)

pub returns-in-IsInstance : goal.returns-in-IsInstance
returns-in-IsInstance c = ap quick_of (sym c.in-IsInstance.is)

pub returns-in-Allocate : goal.returns-in-Allocate
returns-in-Allocate c = ap quick_of (sym c.in-Allocate.is)

pub returns-in-SlotCount : goal.returns-in-SlotCount
returns-in-SlotCount c = ap quick_of (sym c.in-SlotCount.is)

pub returns-in-SlotPlace : goal.returns-in-SlotPlace
returns-in-SlotPlace c = ap quick_of (sym c.in-SlotPlace.is)

pub returns-in-SlotRef : goal.returns-in-SlotRef
returns-in-SlotRef c = ap quick_of (sym c.in-SlotRef.is)

pub returns-in-SlotSet : goal.returns-in-SlotSet
returns-in-SlotSet c = ap quick_of (sym c.in-SlotSet.is)

pub returns-in-SlotBound : goal.returns-in-SlotBound
returns-in-SlotBound c = ap quick_of (sym c.in-SlotBound.is)

pub returns-in-SlotInitargs : goal.returns-in-SlotInitargs
returns-in-SlotInitargs c = ap quick_of (sym c.in-SlotInitargs.is)

pub returns-in-SlotInitform : goal.returns-in-SlotInitform
returns-in-SlotInitform c = ap quick_of (sym c.in-SlotInitform.is)

pub returns-in-Continuable : goal.returns-in-Continuable
returns-in-Continuable c = ap quick_of (sym c.in-Continuable.is)

pub returns-in-StandardInput : goal.returns-in-StandardInput
returns-in-StandardInput c = ap quick_of (sym c.in-StandardInput.is)

pub returns-in-StandardOutput : goal.returns-in-StandardOutput
returns-in-StandardOutput c = ap quick_of (sym c.in-StandardOutput.is)

pub returns-in-PutChar : goal.returns-in-PutChar
returns-in-PutChar c = ap quick_of (sym c.in-PutChar.is)

pub returns-in-IsFreshLine : goal.returns-in-IsFreshLine
returns-in-IsFreshLine c = ap quick_of (sym c.in-IsFreshLine.is)

pub returns-in-GetByte : goal.returns-in-GetByte
returns-in-GetByte c = ap quick_of (sym c.in-GetByte.is)

pub returns-in-PeekByte : goal.returns-in-PeekByte
returns-in-PeekByte c = ap quick_of (sym c.in-PeekByte.is)
