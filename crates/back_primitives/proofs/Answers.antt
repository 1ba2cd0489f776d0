-- What the answers of primitives make and signal: no function is made, nor a fresh symbol but the next one, and conditions are of classes that
-- are built in.
use Rattle.std.proofs.Common.{◌≡◌, ℕ, Bool, true, false, List, [], ◌∷◌, refl, Option, Some, None, length}
use Rattle.std.specs.List.{position_or_len}
use Rattle.std.specs.Prelude.{ℤ, pos, ◌+ℤ◌, ◌-ℤ◌, ◌*ℤ◌, slice_get, if◌then◌else◌}
use Rattle.lang_meaning.specs.declared.primitive.Primitive.{Primitive}
use Rattle.lang_meaning.specs.declared.primitive.Primitive.TheVariants.{Add, Subtract, Multiply, Divide, Modulo, NumberEqual, NumberNotEqual, NumberLess, NumberAtMost, NumberGreater, NumberAtLeast, Same, IsNull, IsCons, IsInteger, IsSymbol, IsCharacter, IsString, IsVector, IsFunction, IsGeneric, Cons, Car, Cdr, SetCar, SetCdr, MakeString, MakeVector, StringLength, VectorLength, CharAt, VectorRef, SetCharAt, SetVectorRef, CharCode, CodeChar, SymbolName, SymbolSerial, Gensym, ClassOf, ClassName, IsSubclass, IsInstance, Allocate, SlotCount, SlotPlace, SlotRef, SlotSet, SlotBound, SlotInitargs, SlotInitform, Continuable, StandardInput, StandardOutput, PutChar, IsFreshLine, GetByte, PeekByte}
use Rattle.lang_meaning.specs.declared.program.ProgramRows.{ProgramRows}
use Rattle.lang_meaning.specs.declared.program.SlotRow.{SlotRow}
use Rattle.lang_meaning.specs.Values.{Value, in_range, int_equal}
use Rattle.lang_meaning.specs.Objects.{Object, function, generic_function}
use Rattle.lang_meaning.specs.State.{State}
use Rattle.lang_meaning.specs.Classes.{fetch, slots, is_condition}
use Rattle.lang_meaning.specs.Primitives.{Answer, result, makes, makes_symbol, fails, domain_error, needs, as_integer, as_character, as_cons, as_string, as_vector, as_class, as_instance, as_stream, as_symbol, integer_result, floor_quotient, floor_remainder, division, index_of, length_of, byte_of, can_be_made, is_slot, slot_place, slot_value, a_slot, of_none, of_one, of_two, of_three, of_integers, primitive}
use Rattle.mid_arena.proofs.Conditions.{PlainCondition, program_error, division_by_zero, integer_overflow}
use Rattle.back_relation.proofs.Fresh.{IsNotFresh}

-- an object that is no function
abbrev pub IsNoFunction : Object → Type 0
IsNoFunction (function p) = ⊥
IsNoFunction (generic_function g) = ⊥
IsNoFunction o = Unit {0}

abbrev pub IsProper : Answer → Type 0
IsProper (result v z) = Unit {0}
IsProper (makes size besides o z) = IsNoFunction o × IsNotFresh o
IsProper (makes_symbol z) = Unit {0}
IsProper (fails class vs z) = PlainCondition class × (vs ≡ [])
IsProper (domain_error v expected z) = Unit {0}

record Proper (a : Answer) : Type 0 where
  pub by : IsProper a

told : {v : Value} {z : State} → Proper (result v z)
told = record { by = tt }

wrong : {v : Value} {expected : ℕ} {z : State} → Proper (domain_error v expected z)
wrong = record { by = tt }

failing : {z : State} → Proper (fails 24 [] z)
failing = record { by = (program_error, refl) }

needed : {X : Type 0} (o : Option X) {otherwise : Answer} {next : X → Answer} → Proper otherwise → ((x : X) → Proper (next x)) → Proper (needs o otherwise next)
needed None n s = n
needed (Some x) n s = s x

either : (b : Bool) {a c : Answer} → Proper a → Proper c → Proper (if b then a else c)
either true p q = p
either false p q = q

none_proper : {f : State → Answer} → ((z : State) → Proper (f z)) → (vs : List Value) (z : State) → Proper (of_none f vs z)
none_proper h [] z = h z
none_proper h (v ∷ vs) z = told

one_proper : {f : Value → State → Answer} → ((v : Value) (z : State) → Proper (f v z)) → (vs : List Value) (z : State) → Proper (of_one f vs z)
one_proper h [] z = told
one_proper h (v ∷ []) z = h v z
one_proper h (v ∷ u ∷ us) z = told

two_proper : {f : Value → Value → State → Answer} → ((v w : Value) (z : State) → Proper (f v w z)) → (vs : List Value) (z : State) → Proper (of_two f vs z)
two_proper h [] z = told
two_proper h (v ∷ []) z = told
two_proper h (v ∷ w ∷ []) z = h v w z
two_proper h (v ∷ w ∷ u ∷ us) z = told

three_proper :
    {f : Value → Value → Value → State → Answer} → ((v w u : Value) (z : State) → Proper (f v w u z)) → (vs : List Value) (z : State)
    → Proper (of_three f vs z)
three_proper h [] z = told
three_proper h (v ∷ []) z = told
three_proper h (v ∷ w ∷ []) z = told
three_proper h (v ∷ w ∷ u ∷ []) z = h v w u z
three_proper h (v ∷ w ∷ u ∷ x ∷ us) z = told

integers_proper : {f : ℤ → ℤ → State → Answer} → ((a b : ℤ) (z : State) → Proper (f a b z)) → (vs : List Value) (z : State) → Proper (of_integers f vs z)
integers_proper h = two_proper (λ v w z. needed (as_integer v) wrong (λ a. needed (as_integer w) wrong (λ b. h a b z)))

integer_proper : (n : ℤ) (z : State) → Proper (integer_result n z)
integer_proper n z = either (in_range n) told (record { by = (integer_overflow, refl) })

division_proper : (f : ℤ → ℤ → ℤ) (a b : ℤ) (z : State) → Proper (division f a b z)
division_proper f a b z = either (int_equal b (pos 0)) (record { by = (division_by_zero, refl) }) (integer_proper (f a b) z)

place_proper : (rows : List SlotRow) (p : SlotRow → Bool) (z : State) → Proper (slot_place rows p z)
place_proper rows p z = needed (index_of (pos (position_or_len p rows)) (length rows)) failing (λ i. told)

slot_value_proper : (o : Option (Option Value)) (z : State) → Proper (slot_value o z)
slot_value_proper (Some (Some v)) z = told
slot_value_proper (Some None) z = failing
slot_value_proper None z = failing

slot_proper :
    (v w : Value) (z : State) {next : ℕ × List (Option Value) × Value → ℕ → Answer}
    → ((i : ℕ × List (Option Value) × Value) (place : ℕ) → Proper (next i place)) → Proper (a_slot v w z next)
slot_proper v w z h =
    needed (as_instance (fetch z v)) wrong (λ i.
    needed (as_integer w) wrong (λ n.
    needed (index_of n (length i.1)) failing (λ place. h i place)))

row : (names : List (List ℕ)) (program : ProgramRows) (which : Primitive) (vs : List Value) (z : State) → Proper (primitive names program which vs z)
row names program Add = integers_proper (λ a b. integer_proper (a +ℤ b))
row names program Subtract = integers_proper (λ a b. integer_proper (a -ℤ b))
row names program Multiply = integers_proper (λ a b. integer_proper (a *ℤ b))
row names program Divide = integers_proper (division_proper floor_quotient)
row names program Modulo = integers_proper (division_proper floor_remainder)
row names program NumberEqual = integers_proper (λ a b z. told)
row names program NumberNotEqual = integers_proper (λ a b z. told)
row names program NumberLess = integers_proper (λ a b z. told)
row names program NumberAtMost = integers_proper (λ a b z. told)
row names program NumberGreater = integers_proper (λ a b z. told)
row names program NumberAtLeast = integers_proper (λ a b z. told)
row names program Same = two_proper (λ v w z. told)
row names program IsNull = one_proper (λ v z. told)
row names program IsCons = one_proper (λ v z. told)
row names program IsInteger = one_proper (λ v z. told)
row names program IsSymbol = one_proper (λ v z. told)
row names program IsCharacter = one_proper (λ v z. told)
row names program IsString = one_proper (λ v z. told)
row names program IsVector = one_proper (λ v z. told)
row names program IsFunction = one_proper (λ v z. told)
row names program IsGeneric = one_proper (λ v z. told)
row names program Cons = two_proper (λ v w z. record { by = (tt, tt) })
row names program Car = one_proper (λ v z. needed (as_cons (fetch z v)) wrong (λ c. told))
row names program Cdr = one_proper (λ v z. needed (as_cons (fetch z v)) wrong (λ c. told))
row names program SetCar = two_proper (λ v w z. needed (as_cons (fetch z w)) wrong (λ c. told))
row names program SetCdr = two_proper (λ v w z. needed (as_cons (fetch z w)) wrong (λ c. told))
row names program MakeString = two_proper (λ v w z.
    needed (as_integer v) wrong (λ n. needed (as_character w) wrong (λ c. needed (length_of n) wrong (λ count. record { by = (tt, tt) }))))
row names program MakeVector = two_proper (λ v w z. needed (as_integer v) wrong (λ n. needed (length_of n) wrong (λ count. record { by = (tt, tt) })))
row names program StringLength = one_proper (λ v z. needed (as_string (fetch z v)) wrong (λ bytes. told))
row names program VectorLength = one_proper (λ v z. needed (as_vector (fetch z v)) wrong (λ vs. told))
row names program CharAt = two_proper (λ v w z.
    needed (as_string (fetch z v)) wrong (λ bytes. needed (as_integer w) wrong (λ n. needed (index_of n (length bytes)) failing (λ i. told))))
row names program VectorRef = two_proper (λ v w z.
    needed (as_vector (fetch z v)) wrong (λ us. needed (as_integer w) wrong (λ n. needed (index_of n (length us)) failing (λ i. told))))
row names program SetCharAt = three_proper (λ v w u z.
    needed (as_character v) wrong (λ c. needed (as_string (fetch z w)) wrong (λ bytes. needed (as_integer u) wrong (λ n.
    needed (index_of n (length bytes)) failing (λ i. told)))))
row names program SetVectorRef = three_proper (λ v w u z.
    needed (as_vector (fetch z w)) wrong (λ us. needed (as_integer u) wrong (λ n. needed (index_of n (length us)) failing (λ i. told))))
row names program CharCode = one_proper (λ v z. needed (as_character v) wrong (λ c. told))
row names program CodeChar = one_proper (λ v z. needed (as_integer v) wrong (λ n. needed (byte_of n) wrong (λ c. told)))
row names program SymbolName = one_proper (λ v z. needed (as_symbol z v) wrong (λ s. record { by = (tt, tt) }))
row names program SymbolSerial = one_proper (λ v z. needed (as_symbol z v) wrong (λ s. told))
row names program Gensym = none_proper (λ z. record { by = tt })
row names program ClassOf = one_proper (λ v z. told)
row names program ClassName = one_proper (λ v z. needed (as_class (fetch z v)) wrong (λ c. told))
row names program IsSubclass = two_proper (λ v w z. needed (as_class (fetch z v)) wrong (λ c. needed (as_class (fetch z w)) wrong (λ d. told)))
row names program IsInstance = two_proper (λ v w z. needed (as_class (fetch z w)) wrong (λ d. told))
row names program Allocate = one_proper (λ v z.
    needed (as_class (fetch z v)) wrong (λ c. either (can_be_made program c) (record { by = (tt, tt) }) failing))
row names program SlotCount = one_proper (λ v z. needed (as_instance (fetch z v)) wrong (λ i. told))
row names program SlotPlace = two_proper (λ v w z.
    needed (as_instance (fetch z v)) wrong (λ i. needed (as_symbol z w) wrong (λ s. place_proper (slots program i.0) (is_slot names s) z)))
row names program SlotRef = two_proper (λ v w z. slot_proper v w z (λ i place. slot_value_proper (slice_get i.1 place) z))
row names program SlotSet = three_proper (λ v w u z. slot_proper w u z (λ i place. told))
row names program SlotBound = two_proper (λ v w z. slot_proper v w z (λ i place. told))
row names program SlotInitargs = two_proper (λ v w z. slot_proper v w z (λ i place. told))
row names program SlotInitform = two_proper (λ v w z. slot_proper v w z (λ i place. told))
row names program Continuable = one_proper (λ v z.
    either (is_condition program z v) (needed (as_instance (fetch z v)) wrong (λ i. told)) wrong)
row names program StandardInput = none_proper (λ z. told)
row names program StandardOutput = none_proper (λ z. told)
row names program PutChar = two_proper (λ v w z.
    needed (as_stream (fetch z v)) wrong (λ is_output. needed (as_character w) wrong (λ c. either is_output told wrong)))
row names program IsFreshLine = none_proper (λ z. told)
row names program GetByte = none_proper (λ z. told)
row names program PeekByte = none_proper (λ z. told)

pub answers_proper :
    (names : List (List ℕ)) (program : ProgramRows) (which : Primitive) (vs : List Value) (z : State) → IsProper (primitive names program which vs z)
answers_proper names program which vs z = (row names program which vs z).by
