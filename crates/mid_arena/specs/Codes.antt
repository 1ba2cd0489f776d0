-- The lines of each primitive, as the tables of the code have them, and the procedure that they make.
use Rattle.std.specs.Prelude.{ℕ, List, flat_map}
use Rattle.lang_meaning.specs.declared.primitive.Primitive.{Primitive}
use Rattle.lang_meaning.specs.declared.primitive.Primitive.TheVariants.{Add, Subtract, Multiply, Divide, Modulo, NumberEqual, NumberNotEqual, NumberLess, NumberAtMost, NumberGreater, NumberAtLeast, Same, IsNull, IsCons, IsInteger, IsSymbol, IsCharacter, IsString, IsVector, IsFunction, IsGeneric, Cons, Car, Cdr, SetCar, SetCdr, MakeString, MakeVector, StringLength, VectorLength, CharAt, VectorRef, SetCharAt, SetVectorRef, CharCode, CodeChar, SymbolName, SymbolSerial, Gensym, ClassOf, ClassName, IsSubclass, IsInstance, Allocate, SlotCount, SlotPlace, SlotRef, SlotSet, SlotBound, SlotInitargs, SlotInitform, Continuable, StandardInput, StandardOutput, PutChar, IsFreshLine, GetByte, PeekByte}
use Rattle.lang_meaning.specs.Arity.{arity}
use Rattle.mid_code.specs.declared.operation.Counted.TheVariants.{Turn}
use Rattle.mid_code.specs.declared.program.MidProcedure.{MidProcedure}
use Rattle.mid_code.specs.MidCode.{MidStep}
use Rattle.mid_arena.specs.declared.line.Line.{Line}
use Rattle.mid_arena.specs.declared.classes.TheConstants as classes
use Rattle.mid_arena.specs.declared.numbers.TheConstants as numbers
use Rattle.mid_arena.specs.declared.strings.TheConstants as strings
use Rattle.mid_arena.specs.declared.symbols.TheConstants as symbols
use Rattle.mid_arena.specs.declared.values.TheConstants as values
use Rattle.mid_arena.specs.declared.vectors.TheConstants as vectors
use Rattle.mid_arena.specs.Steps.{steps_of}

abbrev pub lines_of : Primitive → List Line
lines_of Add = numbers.ADD.now
lines_of Subtract = numbers.SUBTRACT.now
lines_of Multiply = numbers.MULTIPLY.now
lines_of Divide = numbers.DIVIDE.now
lines_of Modulo = numbers.MODULO.now
lines_of NumberEqual = numbers.NUMBER_EQUAL.now
lines_of NumberNotEqual = numbers.NUMBER_NOT_EQUAL.now
lines_of NumberLess = numbers.NUMBER_LESS.now
lines_of NumberAtMost = numbers.NUMBER_AT_MOST.now
lines_of NumberGreater = numbers.NUMBER_GREATER.now
lines_of NumberAtLeast = numbers.NUMBER_AT_LEAST.now
lines_of Same = values.SAME.now
lines_of IsNull = values.IS_NULL.now
lines_of IsCons = values.IS_CONS.now
lines_of IsInteger = values.IS_INTEGER.now
lines_of IsSymbol = values.IS_SYMBOL.now
lines_of IsCharacter = values.IS_CHARACTER.now
lines_of IsString = values.IS_STRING.now
lines_of IsVector = values.IS_VECTOR.now
lines_of IsFunction = values.IS_FUNCTION.now
lines_of IsGeneric = values.IS_GENERIC.now
lines_of Cons = values.MAKE_CONS.now
lines_of Car = values.TAKE_CAR.now
lines_of Cdr = values.TAKE_CDR.now
lines_of SetCar = values.SET_CAR.now
lines_of SetCdr = values.SET_CDR.now
lines_of MakeString = strings.MAKE_STRING.now
lines_of MakeVector = vectors.MAKE_VECTOR.now
lines_of StringLength = strings.STRING_LENGTH.now
lines_of VectorLength = vectors.VECTOR_LENGTH.now
lines_of CharAt = strings.CHAR_AT.now
lines_of VectorRef = vectors.VECTOR_REF.now
lines_of SetCharAt = strings.SET_CHAR_AT.now
lines_of SetVectorRef = vectors.SET_VECTOR_REF.now
lines_of CharCode = values.CHAR_CODE.now
lines_of CodeChar = values.CODE_CHAR.now
lines_of SymbolName = symbols.SYMBOL_NAME.now
lines_of SymbolSerial = symbols.SYMBOL_SERIAL.now
lines_of Gensym = symbols.GENSYM.now
lines_of ClassOf = classes.CLASS_OF.now
lines_of ClassName = classes.CLASS_NAME.now
lines_of IsSubclass = classes.IS_SUBCLASS.now
lines_of IsInstance = classes.IS_INSTANCE.now
lines_of Allocate = classes.ALLOCATE.now
lines_of SlotCount = classes.SLOT_COUNT.now
lines_of SlotPlace = classes.SLOT_PLACE.now
lines_of SlotRef = classes.SLOT_REF.now
lines_of SlotSet = classes.SLOT_SET.now
lines_of SlotBound = classes.SLOT_BOUND.now
lines_of SlotInitargs = classes.SLOT_INITARGS.now
lines_of SlotInitform = classes.SLOT_INITFORM.now
lines_of Continuable = classes.CONTINUABLE.now
lines_of StandardInput = values.STANDARD_INPUT.now
lines_of StandardOutput = values.STANDARD_OUTPUT.now
lines_of PutChar = values.PUT_CHAR.now
lines_of IsFreshLine = values.IS_FRESH_LINE.now
lines_of GetByte = values.GET_BYTE.now
lines_of PeekByte = values.PEEK_BYTE.now

abbrev pub code_of_primitive : Primitive → List MidStep
code_of_primitive which = flat_map steps_of (lines_of which)

-- how many registers the code of each primitive has, and how many words an activation of it has for itself: one for each register, and two more
abbrev pub registers : ℕ
registers = 8

abbrev pub frame_words : ℕ
frame_words = 10

-- A call of the procedure takes a turn, and so does each time that a loop in it goes on.
abbrev pub procedure_of : Primitive → MidProcedure
procedure_of which =
    record { counted = Turn; parameters = arity which; registers = registers; frame = frame_words; body = code_of_primitive which }

-- the same with a frame of its own, which code may have that lends less of it
abbrev pub procedure_in : Primitive → ℕ → MidProcedure
procedure_in which frame = record (procedure_of which) { frame = frame }
