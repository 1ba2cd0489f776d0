-- The names under which primitives are called: each has one of its own, and some have those of functions of the standard
-- (ISO/IEC 13816:2007, 13 to 27), which call them where they have the stated number of arguments.
use Rattle.std.specs.Prelude.{ℕ, ◌||◌, nat_eq, Bool, List, [], ◌∷◌, Option, Some, None, if◌then◌else◌, codes}
use Rattle.std.specs.List.{find, list_any}
use Rattle.std.specs.Str.{bytes_eq}
use Rattle.lang_meaning.specs.declared.primitive.Primitive.{Primitive}
use Rattle.lang_meaning.specs.declared.primitive.Primitive.TheVariants.{Add, Subtract, Multiply, Divide, Modulo, NumberEqual, NumberNotEqual, NumberLess, NumberAtMost, NumberGreater, NumberAtLeast, Same, IsNull, IsCons, IsInteger, IsSymbol, IsCharacter, IsString, IsVector, IsFunction, IsGeneric, Cons, Car, Cdr, SetCar, SetCdr, MakeString, MakeVector, StringLength, VectorLength, CharAt, VectorRef, SetCharAt, SetVectorRef, CharCode, CodeChar, SymbolName, SymbolSerial, Gensym, ClassOf, ClassName, IsSubclass, IsInstance, Allocate, SlotCount, SlotPlace, SlotRef, SlotSet, SlotBound, SlotInitargs, SlotInitform, Continuable, StandardInput, StandardOutput, PutChar, IsFreshLine, GetByte, PeekByte}
use Rattle.lang_meaning.specs.Arity.{arity}

abbrev pub own_text : Primitive → List ℕ
own_text Add = codes "%add"
own_text Subtract = codes "%sub"
own_text Multiply = codes "%mul"
own_text Divide = codes "%div"
own_text Modulo = codes "%mod"
own_text NumberEqual = codes "%num="
own_text NumberNotEqual = codes "%num/="
own_text NumberLess = codes "%num<"
own_text NumberAtMost = codes "%num<="
own_text NumberGreater = codes "%num>"
own_text NumberAtLeast = codes "%num>="
own_text Same = codes "%same"
own_text IsNull = codes "%null"
own_text IsCons = codes "%consp"
own_text IsInteger = codes "%integerp"
own_text IsSymbol = codes "%symbolp"
own_text IsCharacter = codes "%characterp"
own_text IsString = codes "%stringp"
own_text IsVector = codes "%vectorp"
own_text IsFunction = codes "%functionp"
own_text IsGeneric = codes "%genericp"
own_text Cons = codes "%cons"
own_text Car = codes "%car"
own_text Cdr = codes "%cdr"
own_text SetCar = codes "%set-car"
own_text SetCdr = codes "%set-cdr"
own_text MakeString = codes "%make-string"
own_text MakeVector = codes "%make-vector"
own_text StringLength = codes "%string-length"
own_text VectorLength = codes "%vector-length"
own_text CharAt = codes "%char-at"
own_text VectorRef = codes "%vector-ref"
own_text SetCharAt = codes "%set-char-at"
own_text SetVectorRef = codes "%set-vector-ref"
own_text CharCode = codes "%char-code"
own_text CodeChar = codes "%code-char"
own_text SymbolName = codes "%symbol-name"
own_text SymbolSerial = codes "%symbol-serial"
own_text Gensym = codes "%gensym"
own_text ClassOf = codes "%class-of"
own_text ClassName = codes "%class-name"
own_text IsSubclass = codes "%subclass"
own_text IsInstance = codes "%instance"
own_text Allocate = codes "%allocate"
own_text SlotCount = codes "%slot-count"
own_text SlotPlace = codes "%slot-place"
own_text SlotRef = codes "%slot-ref"
own_text SlotSet = codes "%slot-set"
own_text SlotBound = codes "%slot-bound"
own_text SlotInitargs = codes "%slot-initargs"
own_text SlotInitform = codes "%slot-initform"
own_text Continuable = codes "%continuable"
own_text StandardInput = codes "%standard-input"
own_text StandardOutput = codes "%standard-output"
own_text PutChar = codes "%put-char"
own_text IsFreshLine = codes "%fresh"
own_text GetByte = codes "%get-byte"
own_text PeekByte = codes "%peek-byte"

abbrev pub direct_texts : Primitive → List (List ℕ)
direct_texts Add = codes "+" ∷ []
direct_texts Subtract = codes "-" ∷ []
direct_texts Multiply = codes "*" ∷ []
direct_texts Divide = codes "div" ∷ []
direct_texts Modulo = codes "mod" ∷ []
direct_texts NumberEqual = codes "=" ∷ []
direct_texts NumberNotEqual = codes "/=" ∷ []
direct_texts NumberLess = codes "<" ∷ []
direct_texts NumberAtMost = codes "<=" ∷ []
direct_texts NumberGreater = codes ">" ∷ []
direct_texts NumberAtLeast = codes ">=" ∷ []
direct_texts Same = codes "eq" ∷ codes "eql" ∷ []
direct_texts IsNull = codes "not" ∷ codes "null" ∷ []
direct_texts IsCons = codes "consp" ∷ []
direct_texts IsInteger = codes "integerp" ∷ []
direct_texts IsSymbol = codes "symbolp" ∷ []
direct_texts IsCharacter = codes "characterp" ∷ []
direct_texts IsString = codes "stringp" ∷ []
direct_texts IsVector = codes "general-vector-p" ∷ []
direct_texts IsFunction = codes "functionp" ∷ []
direct_texts IsGeneric = codes "generic-function-p" ∷ []
direct_texts Cons = codes "cons" ∷ []
direct_texts Car = codes "car" ∷ []
direct_texts Cdr = codes "cdr" ∷ []
direct_texts SetCar = codes "set-car" ∷ []
direct_texts SetCdr = codes "set-cdr" ∷ []
direct_texts MakeString = []
direct_texts MakeVector = []
direct_texts StringLength = []
direct_texts VectorLength = []
direct_texts CharAt = []
direct_texts VectorRef = []
direct_texts SetCharAt = []
direct_texts SetVectorRef = []
direct_texts CharCode = []
direct_texts CodeChar = []
direct_texts SymbolName = []
direct_texts SymbolSerial = []
direct_texts Gensym = codes "gensym" ∷ []
direct_texts ClassOf = codes "class-of" ∷ []
direct_texts ClassName = []
direct_texts IsSubclass = codes "subclassp" ∷ []
direct_texts IsInstance = codes "instancep" ∷ []
direct_texts Allocate = []
direct_texts SlotCount = []
direct_texts SlotPlace = []
direct_texts SlotRef = []
direct_texts SlotSet = []
direct_texts SlotBound = []
direct_texts SlotInitargs = []
direct_texts SlotInitform = []
direct_texts Continuable = codes "condition-continuable" ∷ []
direct_texts StandardInput = codes "standard-input" ∷ []
direct_texts StandardOutput = codes "standard-output" ∷ []
direct_texts PutChar = codes "format-char" ∷ []
direct_texts IsFreshLine = []
direct_texts GetByte = []
direct_texts PeekByte = []

abbrev pub all_primitives : List Primitive
all_primitives =
    Add ∷ Subtract ∷ Multiply ∷ Divide ∷ Modulo ∷ NumberEqual ∷ NumberNotEqual ∷ NumberLess ∷ NumberAtMost ∷ NumberGreater ∷ NumberAtLeast ∷ Same ∷ IsNull ∷ IsCons ∷ IsInteger ∷ IsSymbol ∷ IsCharacter ∷ IsString ∷ IsVector ∷ IsFunction ∷ IsGeneric ∷ Cons ∷ Car ∷ Cdr ∷ SetCar ∷ SetCdr ∷ MakeString ∷ MakeVector ∷ StringLength ∷ VectorLength ∷ CharAt ∷ VectorRef ∷ SetCharAt ∷ SetVectorRef ∷ CharCode ∷ CodeChar ∷ SymbolName ∷ SymbolSerial ∷ Gensym ∷ ClassOf ∷ ClassName ∷ IsSubclass ∷ IsInstance ∷ Allocate ∷ SlotCount ∷ SlotPlace ∷ SlotRef ∷ SlotSet ∷ SlotBound ∷ SlotInitargs ∷ SlotInitform ∷ Continuable ∷ StandardInput ∷ StandardOutput ∷ PutChar ∷ IsFreshLine ∷ GetByte ∷ PeekByte ∷ []

abbrev pub has_own_text : List ℕ → Primitive → Bool
has_own_text text p = bytes_eq (own_text p) text

abbrev pub has_direct_text : List ℕ → Primitive → Bool
has_direct_text text p = list_any (λ other. bytes_eq other text) (direct_texts p)

-- the primitive of that name
abbrev pub has_name : List ℕ → Primitive → Bool
has_name text p = has_own_text text p || has_direct_text text p

abbrev pub primitive_named : List ℕ → Option Primitive
primitive_named text = find (has_name text) all_primitives

-- the primitive that a call of that name with so many arguments is
abbrev pub taking : ℕ → Option Primitive → Option Primitive
taking n None = None
taking n (Some p) = if nat_eq n (arity p) then Some p else None

abbrev pub primitive_called : List ℕ → ℕ → Option Primitive
primitive_called text n = taking n (primitive_named text)

abbrev pub is_own_name : List ℕ → Bool
is_own_name text = list_any (has_own_text text) all_primitives

abbrev pub is_direct_name : List ℕ → Bool
is_direct_name text = list_any (has_direct_text text) all_primitives
