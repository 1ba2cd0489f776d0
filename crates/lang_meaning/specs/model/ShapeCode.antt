-- The code of primitives, and of forms by their shapes: each stands at its place among those of one shape.
use Rattle.std.specs.Prelude.{◌≡◌, ℕ, List, [], ◌∷◌, get_or, refl}
use Rattle.base.specs.model.CodedTree.{Tree, node, Trees, no_tree, tree_and, leaf}
use Rattle.lang_meaning.specs.declared.primitive.Primitive.{Primitive}
use Rattle.lang_meaning.specs.declared.primitive.Primitive.TheVariants.{Add, Subtract, Multiply, Divide, Modulo, NumberEqual, NumberNotEqual, NumberLess, NumberAtMost, NumberGreater, NumberAtLeast, Same, IsNull, IsCons, IsInteger, IsSymbol, IsCharacter, IsString, IsVector, IsFunction, IsGeneric, Cons, Car, Cdr, SetCar, SetCdr, MakeString, MakeVector, StringLength, VectorLength, CharAt, VectorRef, SetCharAt, SetVectorRef, CharCode, CodeChar, SymbolName, SymbolSerial, Gensym, ClassOf, ClassName, IsSubclass, IsInstance, Allocate, SlotCount, SlotPlace, SlotRef, SlotSet, SlotBound, SlotInitargs, SlotInitform, Continuable, StandardInput, StandardOutput, PutChar, IsFreshLine, GetByte, PeekByte}

-- the number of a primitive
abbrev pub primitive_number : Primitive → ℕ
primitive_number Add = 0
primitive_number Subtract = 1
primitive_number Multiply = 2
primitive_number Divide = 3
primitive_number Modulo = 4
primitive_number NumberEqual = 5
primitive_number NumberNotEqual = 6
primitive_number NumberLess = 7
primitive_number NumberAtMost = 8
primitive_number NumberGreater = 9
primitive_number NumberAtLeast = 10
primitive_number Same = 11
primitive_number IsNull = 12
primitive_number IsCons = 13
primitive_number IsInteger = 14
primitive_number IsSymbol = 15
primitive_number IsCharacter = 16
primitive_number IsString = 17
primitive_number IsVector = 18
primitive_number IsFunction = 19
primitive_number IsGeneric = 20
primitive_number Cons = 21
primitive_number Car = 22
primitive_number Cdr = 23
primitive_number SetCar = 24
primitive_number SetCdr = 25
primitive_number MakeString = 26
primitive_number MakeVector = 27
primitive_number StringLength = 28
primitive_number VectorLength = 29
primitive_number CharAt = 30
primitive_number VectorRef = 31
primitive_number SetCharAt = 32
primitive_number SetVectorRef = 33
primitive_number CharCode = 34
primitive_number CodeChar = 35
primitive_number SymbolName = 36
primitive_number SymbolSerial = 37
primitive_number Gensym = 38
primitive_number ClassOf = 39
primitive_number ClassName = 40
primitive_number IsSubclass = 41
primitive_number IsInstance = 42
primitive_number Allocate = 43
primitive_number SlotCount = 44
primitive_number SlotPlace = 45
primitive_number SlotRef = 46
primitive_number SlotSet = 47
primitive_number SlotBound = 48
primitive_number SlotInitargs = 49
primitive_number SlotInitform = 50
primitive_number Continuable = 51
primitive_number StandardInput = 52
primitive_number StandardOutput = 53
primitive_number PutChar = 54
primitive_number IsFreshLine = 55
primitive_number GetByte = 56
primitive_number PeekByte = 57

-- the primitives, each at its number
abbrev primitives : List Primitive
primitives =
    Add ∷ Subtract ∷ Multiply ∷ Divide ∷ Modulo ∷ NumberEqual ∷
    NumberNotEqual ∷ NumberLess ∷ NumberAtMost ∷ NumberGreater ∷ NumberAtLeast ∷ Same ∷
    IsNull ∷ IsCons ∷ IsInteger ∷ IsSymbol ∷ IsCharacter ∷ IsString ∷
    IsVector ∷ IsFunction ∷ IsGeneric ∷ Cons ∷ Car ∷ Cdr ∷
    SetCar ∷ SetCdr ∷ MakeString ∷ MakeVector ∷ StringLength ∷ VectorLength ∷
    CharAt ∷ VectorRef ∷ SetCharAt ∷ SetVectorRef ∷ CharCode ∷ CodeChar ∷
    SymbolName ∷ SymbolSerial ∷ Gensym ∷ ClassOf ∷ ClassName ∷ IsSubclass ∷
    IsInstance ∷ Allocate ∷ SlotCount ∷ SlotPlace ∷ SlotRef ∷ SlotSet ∷
    SlotBound ∷ SlotInitargs ∷ SlotInitform ∷ Continuable ∷ StandardInput ∷ StandardOutput ∷
    PutChar ∷ IsFreshLine ∷ GetByte ∷ PeekByte ∷ []

abbrev pub primitive_at : ℕ → Primitive
primitive_at n = get_or primitives n Add

pub primitive_back : (p : Primitive) → primitive_at (primitive_number p) ≡ p
primitive_back Add = refl
primitive_back Subtract = refl
primitive_back Multiply = refl
primitive_back Divide = refl
primitive_back Modulo = refl
primitive_back NumberEqual = refl
primitive_back NumberNotEqual = refl
primitive_back NumberLess = refl
primitive_back NumberAtMost = refl
primitive_back NumberGreater = refl
primitive_back NumberAtLeast = refl
primitive_back Same = refl
primitive_back IsNull = refl
primitive_back IsCons = refl
primitive_back IsInteger = refl
primitive_back IsSymbol = refl
primitive_back IsCharacter = refl
primitive_back IsString = refl
primitive_back IsVector = refl
primitive_back IsFunction = refl
primitive_back IsGeneric = refl
primitive_back Cons = refl
primitive_back Car = refl
primitive_back Cdr = refl
primitive_back SetCar = refl
primitive_back SetCdr = refl
primitive_back MakeString = refl
primitive_back MakeVector = refl
primitive_back StringLength = refl
primitive_back VectorLength = refl
primitive_back CharAt = refl
primitive_back VectorRef = refl
primitive_back SetCharAt = refl
primitive_back SetVectorRef = refl
primitive_back CharCode = refl
primitive_back CodeChar = refl
primitive_back SymbolName = refl
primitive_back SymbolSerial = refl
primitive_back Gensym = refl
primitive_back ClassOf = refl
primitive_back ClassName = refl
primitive_back IsSubclass = refl
primitive_back IsInstance = refl
primitive_back Allocate = refl
primitive_back SlotCount = refl
primitive_back SlotPlace = refl
primitive_back SlotRef = refl
primitive_back SlotSet = refl
primitive_back SlotBound = refl
primitive_back SlotInitargs = refl
primitive_back SlotInitform = refl
primitive_back Continuable = refl
primitive_back StandardInput = refl
primitive_back StandardOutput = refl
primitive_back PutChar = refl
primitive_back IsFreshLine = refl
primitive_back GetByte = refl
primitive_back PeekByte = refl

-- a form of a number, of a number and a form, of two forms, and of a number and forms

abbrev pub number_tree : ℕ → ℕ → Tree
number_tree place n = node 0 (tree_and (leaf place) (tree_and (leaf n) no_tree))

abbrev pub one_tree : ℕ → ℕ → Tree → Tree
one_tree place n t = node 1 (tree_and (leaf place) (tree_and (leaf n) (tree_and t no_tree)))

abbrev pub two_tree : ℕ → Tree → Tree → Tree
two_tree place t u = node 2 (tree_and (leaf place) (tree_and t (tree_and u no_tree)))

abbrev pub many_tree : ℕ → ℕ → Trees → Tree
many_tree place n ts = node 3 (tree_and (leaf place) (tree_and (leaf n) ts))
