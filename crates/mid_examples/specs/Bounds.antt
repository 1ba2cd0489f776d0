-- What the runs of all primitives take: words of a frame, turns, and instructions.
use Rattle.std.specs.Prelude.{◌≡◌, ℕ, ◌+◌, ◌*◌, true, nat_le, List, [], ◌∷◌, length, map}
use Rattle.lang_meaning.specs.declared.primitive.Primitive.{Primitive}
use Rattle.lang_meaning.specs.declared.primitive.Primitive.TheVariants.{Add, Subtract, Multiply, Divide, Modulo, NumberEqual, NumberNotEqual, NumberLess, NumberAtMost, NumberGreater, NumberAtLeast, Same, IsNull, IsCons, IsInteger, IsSymbol, IsCharacter, IsString, IsVector, IsFunction, IsGeneric, Cons, Car, Cdr, SetCar, SetCdr, MakeString, MakeVector, StringLength, VectorLength, CharAt, VectorRef, SetCharAt, SetVectorRef, CharCode, CodeChar, SymbolName, SymbolSerial, Gensym, ClassOf, ClassName, IsSubclass, IsInstance, Allocate, SlotCount, SlotPlace, SlotRef, SlotSet, SlotBound, SlotInitargs, SlotInitform, Continuable, StandardInput, StandardOutput, PutChar, IsFreshLine, GetByte, PeekByte}
use Rattle.mid_code.specs.Arena.{activation_frame}
use Rattle.mid_code.specs.State.{MidState, no_room, MidOutcome, with_arena}
use Rattle.mid_code.specs.Meaning.{enter, levels}
use Rattle.mid_arena.specs.Tags.{nil_word, character_word}
use Rattle.mid_arena.specs.Codes.{frame_words, procedure_of}
use Rattle.mid_examples.specs.Addresses.{cons_at, object_at, number, minus, symbol_x, symbol_y, symbol_point, symbol_empty, fresh, pair, abcde, triple, a_function, input, output, object_class, lists, conses, symbols, domain_errors, points, dots, a_point, a_mishap}
use Rattle.mid_examples.specs.Ground.{with_room}
use Rattle.mid_examples.specs.Rows.{ample, seen, ended}

-- a primitive, its arguments, and how many units it is charged for: one for each word, byte or element made, and one for each class or slot
-- passed in a search
pub record Charge : Type 0 where
  pub which : Primitive
  pub arguments : List ℕ
  pub units : ℕ

abbrev pub charge : Primitive → List ℕ → ℕ → Charge
charge which arguments units = record { which = which; arguments = arguments; units = units }

-- Each primitive, with arguments where its code is longest; those that are charged, with the least charge too.
abbrev pub charges : List Charge
charges =
    charge Add (number 2 ∷ number 3 ∷ []) 0 ∷ charge Subtract (number 2 ∷ number 3 ∷ []) 0 ∷ charge Multiply (minus 2 ∷ number 3 ∷ []) 0
    ∷ charge Divide (minus 7 ∷ number 2 ∷ []) 0 ∷ charge Modulo (minus 7 ∷ number 2 ∷ []) 0
    ∷ charge NumberEqual (number 2 ∷ number 3 ∷ []) 0 ∷ charge NumberNotEqual (number 2 ∷ number 2 ∷ []) 0
    ∷ charge NumberLess (number 3 ∷ number 2 ∷ []) 0 ∷ charge NumberAtMost (number 3 ∷ number 2 ∷ []) 0
    ∷ charge NumberGreater (number 2 ∷ number 3 ∷ []) 0 ∷ charge NumberAtLeast (number 2 ∷ number 3 ∷ []) 0
    ∷ charge Same (number 2 ∷ number 3 ∷ []) 0 ∷ charge IsNull (number 2 ∷ []) 0 ∷ charge IsCons (number 2 ∷ []) 0
    ∷ charge IsInteger (nil_word ∷ []) 0 ∷ charge IsSymbol (object_at fresh ∷ []) 0 ∷ charge IsCharacter (number 2 ∷ []) 0
    ∷ charge IsString (object_at abcde ∷ []) 0 ∷ charge IsVector (object_at triple ∷ []) 0
    ∷ charge IsFunction (object_at a_function ∷ []) 0 ∷ charge IsGeneric (object_at a_function ∷ []) 0
    ∷ charge Cons (number 1 ∷ nil_word ∷ []) 2 ∷ charge Car (cons_at pair ∷ []) 0 ∷ charge Cdr (cons_at pair ∷ []) 0
    ∷ charge SetCar (number 1 ∷ cons_at pair ∷ []) 0 ∷ charge SetCdr (number 1 ∷ cons_at pair ∷ []) 0
    -- two words, and of five bytes two words more
    ∷ charge MakeString (number 0 ∷ character_word 97 ∷ []) 2 ∷ charge MakeString (number 5 ∷ character_word 97 ∷ []) (4 + 5)
    ∷ charge MakeVector (number 0 ∷ nil_word ∷ []) 2 ∷ charge MakeVector (number 5 ∷ nil_word ∷ []) 7
    ∷ charge StringLength (object_at abcde ∷ []) 0 ∷ charge VectorLength (object_at triple ∷ []) 0
    ∷ charge CharAt (object_at abcde ∷ number 4 ∷ []) 0 ∷ charge VectorRef (object_at triple ∷ number 2 ∷ []) 0
    ∷ charge SetCharAt (character_word 90 ∷ object_at abcde ∷ number 4 ∷ []) 0
    ∷ charge SetVectorRef (nil_word ∷ object_at triple ∷ number 2 ∷ []) 0
    ∷ charge CharCode (character_word 97 ∷ []) 0 ∷ charge CodeChar (number 97 ∷ []) 0
    ∷ charge SymbolName (object_at symbol_empty ∷ []) 2 ∷ charge SymbolName (object_at symbol_point ∷ []) (4 + 5)
    ∷ charge SymbolSerial (object_at fresh ∷ []) 0 ∷ charge Gensym [] 2
    ∷ charge ClassOf (object_at fresh ∷ []) 0 ∷ charge ClassOf (object_at points ∷ []) 0 ∷ charge ClassName (object_at conses ∷ []) 0
    -- found first, found last, and not found among three and among two
    ∷ charge IsSubclass (object_at conses ∷ object_at conses ∷ []) 1 ∷ charge IsSubclass (object_at dots ∷ object_at object_class ∷ []) 4
    ∷ charge IsSubclass (object_at conses ∷ object_at symbols ∷ []) 3
    ∷ charge IsInstance (object_at fresh ∷ object_at symbols ∷ []) 1 ∷ charge IsInstance (object_at a_mishap ∷ object_at object_class ∷ []) 5
    ∷ charge IsInstance (object_at input ∷ object_at lists ∷ []) 2
    ∷ charge Allocate (object_at dots ∷ []) 2 ∷ charge Allocate (object_at domain_errors ∷ []) 5
    ∷ charge SlotCount (object_at a_point ∷ []) 0
    -- found first and last; not found it makes a condition of three words
    ∷ charge SlotPlace (object_at a_point ∷ object_at symbol_x ∷ []) 1 ∷ charge SlotPlace (object_at a_point ∷ object_at symbol_y ∷ []) 2
    ∷ charge SlotPlace (object_at a_point ∷ object_at symbol_point ∷ []) (2 + 3)
    ∷ charge SlotRef (object_at a_point ∷ number 0 ∷ []) 0 ∷ charge SlotSet (number 5 ∷ object_at a_point ∷ number 1 ∷ []) 0
    ∷ charge SlotBound (object_at a_point ∷ number 1 ∷ []) 0 ∷ charge SlotInitargs (object_at a_point ∷ number 1 ∷ []) 0
    ∷ charge SlotInitform (object_at a_point ∷ number 1 ∷ []) 0 ∷ charge Continuable (object_at a_mishap ∷ []) 0
    ∷ charge StandardInput [] 0 ∷ charge StandardOutput [] 0 ∷ charge PutChar (object_at output ∷ character_word 97 ∷ []) 0
    ∷ charge IsFreshLine [] 0 ∷ charge GetByte [] 0 ∷ charge PeekByte [] 0
    -- refused: the last argument of those without units, by a condition of five words and one of three
    ∷ charge SetCharAt (character_word 90 ∷ object_at abcde ∷ nil_word ∷ []) 5 ∷ charge SetCharAt (character_word 90 ∷ object_at abcde ∷ number 5 ∷ []) 3
    ∷ charge PutChar (object_at input ∷ character_word 97 ∷ []) 5 ∷ charge Divide (number 1 ∷ number 0 ∷ []) 3 ∷ []

-- with so many turns
abbrev pub run_in_turns : ℕ → MidState → Charge → MidOutcome
run_in_turns turns z c = levels [] turns 1 (enter (procedure_of c.which) c.arguments) z

-- a caller's frame of one word more, so that with that one fewer are left than a primitive's frame takes
abbrev pub narrow : MidState
narrow =
    with_arena (record (with_room 0).arena { blocks = record { words = 5; kind = activation_frame } ∷ [] }) (with_room 0)

pub record BoundRows : Type 0 where
  -- where a word of the frame is wanting, each ends there, with nothing changed
  pub frames : map (λ c. seen (run_in_turns 0 narrow c)) charges ≡ map (λ c. ended (no_room frame_words 9) narrow) charges
  -- turns as many as units are enough: more change nothing
  pub turns : map (λ c. seen (run_in_turns c.units (with_room ample) c)) charges ≡ map (λ c. seen (run_in_turns 300 (with_room ample) c)) charges
  -- a cost of 150 at most, and 250 for each argument and each unit
  pub costs :
      map (λ c. nat_le (run_in_turns 300 (with_room ample) c).state.cost (150 + 250 * (length c.arguments + c.units))) charges
      ≡ map (λ c. true) charges
