-- How many arguments each primitive takes (this profile's own).
use Rattle.std.specs.Prelude.{ℕ}
use Rattle.lang_meaning.specs.declared.primitive.Primitive.{Primitive}
use Rattle.lang_meaning.specs.declared.primitive.Primitive.TheVariants.{Add, Subtract, Multiply, Divide, Modulo, NumberEqual, NumberNotEqual, NumberLess, NumberAtMost, NumberGreater, NumberAtLeast, Same, IsNull, IsCons, IsInteger, IsSymbol, IsCharacter, IsString, IsVector, IsFunction, IsGeneric, Cons, Car, Cdr, SetCar, SetCdr, MakeString, MakeVector, StringLength, VectorLength, CharAt, VectorRef, SetCharAt, SetVectorRef, CharCode, CodeChar, SymbolName, SymbolSerial, Gensym, ClassOf, ClassName, IsSubclass, IsInstance, Allocate, SlotCount, SlotPlace, SlotRef, SlotSet, SlotBound, SlotInitargs, SlotInitform, Continuable, StandardInput, StandardOutput, PutChar, IsFreshLine, GetByte, PeekByte}

abbrev pub arity : Primitive → ℕ
arity Add = 2
arity Subtract = 2
arity Multiply = 2
arity Divide = 2
arity Modulo = 2
arity NumberEqual = 2
arity NumberNotEqual = 2
arity NumberLess = 2
arity NumberAtMost = 2
arity NumberGreater = 2
arity NumberAtLeast = 2
arity Same = 2
arity IsNull = 1
arity IsCons = 1
arity IsInteger = 1
arity IsSymbol = 1
arity IsCharacter = 1
arity IsString = 1
arity IsVector = 1
arity IsFunction = 1
arity IsGeneric = 1
arity Cons = 2
arity Car = 1
arity Cdr = 1
arity SetCar = 2
arity SetCdr = 2
arity MakeString = 2
arity MakeVector = 2
arity StringLength = 1
arity VectorLength = 1
arity CharAt = 2
arity VectorRef = 2
arity SetCharAt = 3
arity SetVectorRef = 3
arity CharCode = 1
arity CodeChar = 1
arity SymbolName = 1
arity SymbolSerial = 1
arity Gensym = 0
arity ClassOf = 1
arity ClassName = 1
arity IsSubclass = 2
arity IsInstance = 2
arity Allocate = 1
arity SlotCount = 1
arity SlotPlace = 2
arity SlotRef = 2
arity SlotSet = 3
arity SlotBound = 2
arity SlotInitargs = 2
arity SlotInitform = 2
arity Continuable = 1
arity StandardInput = 0
arity StandardOutput = 0
arity PutChar = 2
arity IsFreshLine = 0
arity GetByte = 0
arity PeekByte = 0
