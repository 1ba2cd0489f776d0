-- What the primitives keep of the state.
use Rattle.std.proofs.Common.{ℕ, ◌+◌, Bool, true, false, List, [], ◌∷◌, Option, Some, None, length}
use Rattle.std.specs.List.{position_or_len}
use Rattle.std.specs.Prelude.{ℤ, pos, ◌+ℤ◌, ◌-ℤ◌, ◌*ℤ◌, slice_get, slice_set, if◌then◌else◌, ◌==◌}
use Rattle.lang_meaning.specs.declared.primitive.Primitive.{Primitive}
use Rattle.lang_meaning.specs.declared.primitive.Primitive.TheVariants.{Add, Subtract, Multiply, Divide, Modulo, NumberEqual, NumberNotEqual, NumberLess, NumberAtMost, NumberGreater, NumberAtLeast, Same, IsNull, IsCons, IsInteger, IsSymbol, IsCharacter, IsString, IsVector, IsFunction, IsGeneric, Cons, Car, Cdr, SetCar, SetCdr, MakeString, MakeVector, StringLength, VectorLength, CharAt, VectorRef, SetCharAt, SetVectorRef, CharCode, CodeChar, SymbolName, SymbolSerial, Gensym, ClassOf, ClassName, IsSubclass, IsInstance, Allocate, SlotCount, SlotPlace, SlotRef, SlotSet, SlotBound, SlotInitargs, SlotInitform, Continuable, StandardInput, StandardOutput, PutChar, IsFreshLine, GetByte, PeekByte}
use Rattle.lang_meaning.specs.declared.program.ProgramRows.{ProgramRows}
use Rattle.lang_meaning.specs.declared.program.SlotRow.{SlotRow}
use Rattle.lang_meaning.specs.Values.{Value, integer, character, symbol, nil, object, in_range, int_equal}
use Rattle.lang_meaning.specs.Objects.{Object, cons, string, vector, instance}
use Rattle.lang_meaning.specs.State.{State}
use Rattle.lang_meaning.specs.Lookup.{passed}
use Rattle.lang_meaning.specs.Classes.{fetch, class_of, precedence, slots, is_condition}
use Rattle.lang_meaning.specs.Primitives.{Answer, result, makes, makes_symbol, fails, domain_error, needs, as_integer, as_character, as_cons, as_string, as_vector, as_class, as_instance, as_stream, as_symbol, integer_result, floor_quotient, floor_remainder, division, index_of, length_of, byte_of, change, other_bytes, can_be_made, is_slot, slot_place, slot_value, a_slot, of_none, of_one, of_two, of_three, of_integers, primitive}
use Rattle.lang_meaning.proofs.Steps.{IsKeptByRules}

-- the state of an answer
abbrev pub state_of : Answer → State
state_of (result v z) = z
state_of (makes size besides o z) = z
state_of (makes_symbol z) = z
state_of (fails class vs z) = z
state_of (domain_error v expected z) = z

module _ (R : State → State → Type 0) (k : IsKeptByRules R) where
  -- an answer's state is a later one
  record Keeps (z : State) (a : Answer) : Type 0 where
    pub by : R z (state_of a)

  at : {z : State} {a : Answer} → R z (state_of a) → Keeps z a
  at r = record { by = r }

  needed : {X : Type 0} (o : Option X) {otherwise : Answer} {next : X → Answer} (z : State)
      → Keeps z otherwise → ((x : X) → Keeps z (next x)) → Keeps z (needs o otherwise next)
  needed None z n s = n
  needed (Some x) z n s = s x

  either : (b : Bool) {a c : Answer} (z : State) → Keeps z a → Keeps z c → Keeps z (if b then a else c)
  either true z p q = p
  either false z p q = q

  none_kept : {f : State → Answer} → ((z : State) → Keeps z (f z))
      → (vs : List Value) (z : State) → Keeps z (of_none f vs z)
  none_kept h [] z = h z
  none_kept h (v ∷ vs) z = at (k.none z)

  one_kept : {f : Value → State → Answer} → ((v : Value) (z : State) → Keeps z (f v z))
      → (vs : List Value) (z : State) → Keeps z (of_one f vs z)
  one_kept h [] z = at (k.none z)
  one_kept h (v ∷ []) z = h v z
  one_kept h (v ∷ u ∷ us) z = at (k.none z)

  two_kept : {f : Value → Value → State → Answer} → ((v w : Value) (z : State) → Keeps z (f v w z))
      → (vs : List Value) (z : State) → Keeps z (of_two f vs z)
  two_kept h [] z = at (k.none z)
  two_kept h (v ∷ []) z = at (k.none z)
  two_kept h (v ∷ w ∷ []) z = h v w z
  two_kept h (v ∷ w ∷ u ∷ us) z = at (k.none z)

  three_kept : {f : Value → Value → Value → State → Answer} → ((v w u : Value) (z : State) → Keeps z (f v w u z))
      → (vs : List Value) (z : State) → Keeps z (of_three f vs z)
  three_kept h [] z = at (k.none z)
  three_kept h (v ∷ []) z = at (k.none z)
  three_kept h (v ∷ w ∷ []) z = at (k.none z)
  three_kept h (v ∷ w ∷ u ∷ []) z = h v w u z
  three_kept h (v ∷ w ∷ u ∷ x ∷ us) z = at (k.none z)

  integers_kept : {f : ℤ → ℤ → State → Answer} → ((a b : ℤ) (z : State) → Keeps z (f a b z))
      → (vs : List Value) (z : State) → Keeps z (of_integers f vs z)
  integers_kept h = two_kept (λ v w z.
      needed (as_integer v) z (at (k.none z)) (λ a. needed (as_integer w) z (at (k.none z)) (λ b. h a b z)))

  integer_kept : (n : ℤ) (z : State) → Keeps z (integer_result n z)
  integer_kept n z = either (in_range n) z (at (k.none z)) (at (k.none z))

  division_kept : (f : ℤ → ℤ → ℤ) (a b : ℤ) (z : State) → Keeps z (division f a b z)
  division_kept f a b z = either (int_equal b (pos 0)) z (at (k.none z)) (integer_kept (f a b) z)

  change_kept : (v : Value) (o : Object) (z : State) → R z (change v o z)
  change_kept (object i) o z = k.change i o z
  change_kept (integer n) o z = k.none z
  change_kept (character c) o z = k.none z
  change_kept (symbol s) o z = k.none z
  change_kept nil o z = k.none z

  place_kept : (rows : List SlotRow) (p : SlotRow → Bool) (z : State) → Keeps z (slot_place rows p z)
  place_kept rows p z =
      needed (index_of (pos (position_or_len p rows)) (length rows)) z (at (k.charge (length rows) z)) (λ i. at (k.charge (i + 1) z))

  value_kept : (o : Option (Option Value)) (z : State) → Keeps z (slot_value o z)
  value_kept (Some (Some v)) z = at (k.none z)
  value_kept (Some None) z = at (k.none z)
  value_kept None z = at (k.none z)

  slot_kept : (v w : Value) (z : State) {next : ℕ × List (Option Value) × Value → ℕ → Answer}
      → ((i : ℕ × List (Option Value) × Value) (place : ℕ) → Keeps z (next i place)) → Keeps z (a_slot v w z next)
  slot_kept v w z h =
      needed (as_instance (fetch z v)) z (at (k.none z)) (λ i.
      needed (as_integer w) z (at (k.none z)) (λ n.
      needed (index_of n (length i.1)) z (at (k.none z)) (λ place. h i place)))

  row : (names : List (List ℕ)) (program : ProgramRows) (which : Primitive) (vs : List Value) (z : State)
      → Keeps z (primitive names program which vs z)
  row names program Add = integers_kept (λ a b. integer_kept (a +ℤ b))
  row names program Subtract = integers_kept (λ a b. integer_kept (a -ℤ b))
  row names program Multiply = integers_kept (λ a b. integer_kept (a *ℤ b))
  row names program Divide = integers_kept (division_kept floor_quotient)
  row names program Modulo = integers_kept (division_kept floor_remainder)
  row names program NumberEqual = integers_kept (λ a b z. at (k.none z))
  row names program NumberNotEqual = integers_kept (λ a b z. at (k.none z))
  row names program NumberLess = integers_kept (λ a b z. at (k.none z))
  row names program NumberAtMost = integers_kept (λ a b z. at (k.none z))
  row names program NumberGreater = integers_kept (λ a b z. at (k.none z))
  row names program NumberAtLeast = integers_kept (λ a b z. at (k.none z))
  row names program Same = two_kept (λ v w z. at (k.none z))
  row names program IsNull = one_kept (λ v z. at (k.none z))
  row names program IsCons = one_kept (λ v z. at (k.none z))
  row names program IsInteger = one_kept (λ v z. at (k.none z))
  row names program IsSymbol = one_kept (λ v z. at (k.none z))
  row names program IsCharacter = one_kept (λ v z. at (k.none z))
  row names program IsString = one_kept (λ v z. at (k.none z))
  row names program IsVector = one_kept (λ v z. at (k.none z))
  row names program IsFunction = one_kept (λ v z. at (k.none z))
  row names program IsGeneric = one_kept (λ v z. at (k.none z))
  row names program Cons = two_kept (λ v w z. at (k.none z))
  row names program Car = one_kept (λ v z. needed (as_cons (fetch z v)) z (at (k.none z)) (λ c. at (k.none z)))
  row names program Cdr = one_kept (λ v z. needed (as_cons (fetch z v)) z (at (k.none z)) (λ c. at (k.none z)))
  row names program SetCar = two_kept (λ v w z. needed (as_cons (fetch z w)) z (at (k.none z)) (λ c. at (change_kept w (cons v c.1) z)))
  row names program SetCdr = two_kept (λ v w z. needed (as_cons (fetch z w)) z (at (k.none z)) (λ c. at (change_kept w (cons c.0 v) z)))
  row names program MakeString = two_kept (λ v w z.
      needed (as_integer v) z (at (k.none z)) (λ n. needed (as_character w) z (at (k.none z)) (λ c.
      needed (length_of n) z (at (k.none z)) (λ count. at (k.none z)))))
  row names program MakeVector = two_kept (λ v w z.
      needed (as_integer v) z (at (k.none z)) (λ n. needed (length_of n) z (at (k.none z)) (λ count. at (k.none z))))
  row names program StringLength = one_kept (λ v z. needed (as_string (fetch z v)) z (at (k.none z)) (λ bytes. at (k.none z)))
  row names program VectorLength = one_kept (λ v z. needed (as_vector (fetch z v)) z (at (k.none z)) (λ vs. at (k.none z)))
  row names program CharAt = two_kept (λ v w z.
      needed (as_string (fetch z v)) z (at (k.none z)) (λ bytes. needed (as_integer w) z (at (k.none z)) (λ n.
      needed (index_of n (length bytes)) z (at (k.none z)) (λ i. at (k.none z)))))
  row names program VectorRef = two_kept (λ v w z.
      needed (as_vector (fetch z v)) z (at (k.none z)) (λ us. needed (as_integer w) z (at (k.none z)) (λ n.
      needed (index_of n (length us)) z (at (k.none z)) (λ i. at (k.none z)))))
  row names program SetCharAt = three_kept (λ v w u z.
      needed (as_character v) z (at (k.none z)) (λ c. needed (as_string (fetch z w)) z (at (k.none z)) (λ bytes.
      needed (as_integer u) z (at (k.none z)) (λ n.
      needed (index_of n (length bytes)) z (at (k.none z)) (λ i. at (change_kept w (string (slice_set bytes i c)) z))))))
  row names program SetVectorRef = three_kept (λ v w u z.
      needed (as_vector (fetch z w)) z (at (k.none z)) (λ us. needed (as_integer u) z (at (k.none z)) (λ n.
      needed (index_of n (length us)) z (at (k.none z)) (λ i. at (change_kept w (vector (slice_set us i v)) z)))))
  row names program CharCode = one_kept (λ v z. needed (as_character v) z (at (k.none z)) (λ c. at (k.none z)))
  row names program CodeChar = one_kept (λ v z.
      needed (as_integer v) z (at (k.none z)) (λ n. needed (byte_of n) z (at (k.none z)) (λ c. at (k.none z))))
  row names program SymbolName = one_kept (λ v z. needed (as_symbol z v) z (at (k.none z)) (λ s. at (k.none z)))
  row names program SymbolSerial = one_kept (λ v z. needed (as_symbol z v) z (at (k.none z)) (λ s. at (k.none z)))
  row names program Gensym = none_kept (λ z. at (k.none z))
  row names program ClassOf = one_kept (λ v z. at (k.none z))
  row names program ClassName = one_kept (λ v z. needed (as_class (fetch z v)) z (at (k.none z)) (λ c. at (k.none z)))
  row names program IsSubclass = two_kept (λ v w z.
      needed (as_class (fetch z v)) z (at (k.none z)) (λ c. needed (as_class (fetch z w)) z (at (k.none z)) (λ d.
      at (k.charge (passed (λ e. d == e) (precedence program c)) z))))
  row names program IsInstance = two_kept (λ v w z.
      needed (as_class (fetch z w)) z (at (k.none z)) (λ d.
      at (k.charge (passed (λ e. d == e) (precedence program (class_of z v))) z)))
  row names program Allocate = one_kept (λ v z.
      needed (as_class (fetch z v)) z (at (k.none z)) (λ c. either (can_be_made program c) z (at (k.none z)) (at (k.none z))))
  row names program SlotCount = one_kept (λ v z. needed (as_instance (fetch z v)) z (at (k.none z)) (λ i. at (k.none z)))
  row names program SlotPlace = two_kept (λ v w z.
      needed (as_instance (fetch z v)) z (at (k.none z)) (λ i. needed (as_symbol z w) z (at (k.none z)) (λ s.
      place_kept (slots program i.0) (is_slot names s) z)))
  row names program SlotRef = two_kept (λ v w z. slot_kept v w z (λ i place. value_kept (slice_get i.1 place) z))
  row names program SlotSet = three_kept (λ v w u z.
      slot_kept w u z (λ i place. at (change_kept w (instance i.0 (slice_set i.1 place (Some v)) i.2) z)))
  row names program SlotBound = two_kept (λ v w z. slot_kept v w z (λ i place. at (k.none z)))
  row names program SlotInitargs = two_kept (λ v w z. slot_kept v w z (λ i place. at (k.none z)))
  row names program SlotInitform = two_kept (λ v w z. slot_kept v w z (λ i place. at (k.none z)))
  row names program Continuable = one_kept (λ v z.
      either (is_condition program z v) z (needed (as_instance (fetch z v)) z (at (k.none z)) (λ i. at (k.none z))) (at (k.none z)))
  row names program StandardInput = none_kept (λ z. at (k.none z))
  row names program StandardOutput = none_kept (λ z. at (k.none z))
  row names program PutChar = two_kept (λ v w z.
      needed (as_stream (fetch z v)) z (at (k.none z)) (λ is_output. needed (as_character w) z (at (k.none z)) (λ c.
      either is_output z (at (k.print c z)) (at (k.none z)))))
  row names program IsFreshLine = none_kept (λ z. at (k.none z))
  row names program GetByte = none_kept (λ z. at (k.input (other_bytes z.input) z))
  row names program PeekByte = none_kept (λ z. at (k.none z))

  pub primitive_kept : (names : List (List ℕ)) (program : ProgramRows) (which : Primitive) (vs : List Value) (z : State)
      → R z (state_of (primitive names program which vs z))
  primitive_kept names program which vs z = (row names program which vs z).by
