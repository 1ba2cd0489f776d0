-- What the primitives answer: the shapes of their answers, one line a primitive.
use Rattle.std.proofs.Common.{◌≡◌, ℕ, ◌+◌, Bool, true, false, List, [], ◌∷◌, ◌++◌, refl, sym, ap, ◌∙◌, Option, Some, None, length}
use Rattle.std.specs.List.{position_or_len}
use Rattle.std.specs.Prelude.{ℤ, pos, ◌+ℤ◌, ◌-ℤ◌, ◌*ℤ◌, replicate, slice_get, slice_set, if◌then◌else◌, ◌==◌}
use Rattle.lang_meaning.specs.declared.primitive.Primitive.{Primitive}
use Rattle.lang_meaning.specs.declared.primitive.Primitive.TheVariants.{Add, Subtract, Multiply, Divide, Modulo, NumberEqual, NumberNotEqual, NumberLess, NumberAtMost, NumberGreater, NumberAtLeast, Same, IsNull, IsCons, IsInteger, IsSymbol, IsCharacter, IsString, IsVector, IsFunction, IsGeneric, Cons, Car, Cdr, SetCar, SetCdr, MakeString, MakeVector, StringLength, VectorLength, CharAt, VectorRef, SetCharAt, SetVectorRef, CharCode, CodeChar, SymbolName, SymbolSerial, Gensym, ClassOf, ClassName, IsSubclass, IsInstance, Allocate, SlotCount, SlotPlace, SlotRef, SlotSet, SlotBound, SlotInitargs, SlotInitform, Continuable, StandardInput, StandardOutput, PutChar, IsFreshLine, GetByte, PeekByte}
use Rattle.lang_meaning.specs.declared.program.ProgramRows.{ProgramRows}
use Rattle.lang_meaning.specs.declared.program.SlotRow.{SlotRow}
use Rattle.lang_meaning.specs.Values.{Value, integer, character, symbol, nil, object, in_range, int_equal}
use Rattle.lang_meaning.specs.Objects.{Object, cons, string, vector, instance}
use Rattle.lang_meaning.specs.State.{State, charged, changed}
use Rattle.lang_meaning.specs.Lookup.{passed}
use Rattle.lang_meaning.specs.Classes.{fetch, class_of, precedence, slots, is_condition}
use Rattle.lang_meaning.specs.Primitives.{Answer, result, makes, makes_symbol, fails, domain_error, needs, as_integer, as_character, as_cons, as_string, as_vector, as_class, as_instance, as_stream, as_symbol, integer_result, floor_quotient, floor_remainder, division, index_of, length_of, byte_of, change, other_bytes, can_be_made, is_slot, slot_place, slot_value, a_slot, of_none, of_one, of_two, of_three, of_integers, primitive}
use Rattle.flat_language.proofs.Lists.{length-changed}
use Rattle.flat_laws.specs.Blanks.{blank}
use Rattle.flat_laws.specs.PrimitiveKeeps.{second_argument, set_by}
use Rattle.flat_laws.proofs.Blanks.{cons_blank, string_blank, vector_blank, instance_blank}

-- what holds of each shape of answer in a state, where one object may be set
pub record HoldsOfAnswers (A : Value → State → Answer → Type 0) : Type 0 where
  -- a value: nothing else, units counted, the object changed, a byte printed, a byte read
  pub value : (set v : Value) (z : State) → A set z (result v z)
  pub counts : (set v : Value) (n : ℕ) (z : State) → A set z (result v (charged n z))
  pub changes : (v : Value) (i : ℕ) (o : Object) (z : State) → blank (slice_get z.store i) ≡ blank (Some o)
      → A (object i) z (result v (changed i o z))
  pub prints : (set v : Value) (c : ℕ) (z : State) → A set z (result v (record z { printed = z.printed ++ c ∷ [] }))
  pub reads : (set v : Value) (z : State) → A set z (result v (record z { input = other_bytes z.input }))
  -- an object that is to be made
  pub object_made : (set : Value) (size besides : ℕ) (o : Object) (z : State) → A set z (makes size besides o z)
  pub symbol_made : (set : Value) (z : State) → A set z (makes_symbol z)
  -- a condition that is to be signalled
  pub failed : (set : Value) (class : ℕ) (vs : List Value) (z : State) → A set z (fails class vs z)
  pub failed_late : (set : Value) (class : ℕ) (vs : List Value) (n : ℕ) (z : State) → A set z (fails class vs (charged n z))
  pub mistaken : (set v : Value) (expected : ℕ) (z : State) → A set z (domain_error v expected z)

module _ (A : Value → State → Answer → Type 0) (k : HoldsOfAnswers A) where
  record Holds (set : Value) (z : State) (a : Answer) : Type 0 where
    pub by : A set z a

  at : {set : Value} {z : State} {a : Answer} → A set z a → Holds set z a
  at h = record { by = h }

  -- the shapes
  told : {set v : Value} {z : State} → Holds set z (result v z)
  told {set} {v} {z} = at (k.value set v z)

  counted : {set v : Value} (n : ℕ) (z : State) → Holds set z (result v (charged n z))
  counted {set} {v} n z = at (k.counts set v n z)

  made : {set : Value} {size besides : ℕ} {o : Object} {z : State} → Holds set z (makes size besides o z)
  made {set} {size} {besides} {o} {z} = at (k.object_made set size besides o z)

  failing : {set : Value} {class : ℕ} {vs : List Value} {z : State} → Holds set z (fails class vs z)
  failing {set} {class} {vs} {z} = at (k.failed set class vs z)

  wrong : {set v : Value} {expected : ℕ} {z : State} → Holds set z (domain_error v expected z)
  wrong {set} {v} {expected} {z} = at (k.mistaken set v expected z)

  sets : (v w : Value) (o : Object) (z : State) → blank (fetch z w) ≡ blank (Some o) → Holds w z (result v (change w o z))
  sets v (object i) o z h = at (k.changes v i o z h)
  sets v (integer n) o z h = told
  sets v (character c) o z h = told
  sets v (symbol s) o z h = told
  sets v nil o z h = told

  -- an argument as what it is to be
  needed : {X : Type 0} (o : Option X) {otherwise : Answer} {next : X → Answer} {set : Value} {z : State}
      → Holds set z otherwise → ((x : X) → o ≡ Some x → Holds set z (next x)) → Holds set z (needs o otherwise next)
  needed None n s = n
  needed (Some x) n s = s x refl

  either : (b : Bool) {a c : Answer} {set : Value} {z : State} → Holds set z a → Holds set z c → Holds set z (if b then a else c)
  either true p q = p
  either false p q = q

  -- so many arguments
  none_hold : {f : State → Answer} → ((z : State) → Holds nil z (f z))
      → (vs : List Value) (z : State) → Holds nil z (of_none f vs z)
  none_hold h [] z = h z
  none_hold h (v ∷ vs) z = told

  one_holds : {f : Value → State → Answer} → ((v : Value) (z : State) → Holds nil z (f v z))
      → (vs : List Value) (z : State) → Holds nil z (of_one f vs z)
  one_holds h [] z = told
  one_holds h (v ∷ []) z = h v z
  one_holds h (v ∷ u ∷ us) z = told

  two_hold : {f : Value → Value → State → Answer} → ((v w : Value) (z : State) → Holds nil z (f v w z))
      → (vs : List Value) (z : State) → Holds nil z (of_two f vs z)
  two_hold h [] z = told
  two_hold h (v ∷ []) z = told
  two_hold h (v ∷ w ∷ []) z = h v w z
  two_hold h (v ∷ w ∷ u ∷ us) z = told

  integers_hold : {f : ℤ → ℤ → State → Answer} → ((a b : ℤ) (z : State) → Holds nil z (f a b z))
      → (vs : List Value) (z : State) → Holds nil z (of_integers f vs z)
  integers_hold h = two_hold (λ v w z. needed (as_integer v) wrong (λ a i. needed (as_integer w) wrong (λ b j. h a b z)))

  -- setters, which may set something in their second argument
  setter_of_two : {f : Value → Value → State → Answer} → ((v w : Value) (z : State) → Holds w z (f v w z))
      → (vs : List Value) (z : State) → Holds (second_argument vs) z (of_two f vs z)
  setter_of_two h [] z = told
  setter_of_two h (v ∷ []) z = told
  setter_of_two h (v ∷ w ∷ []) z = h v w z
  setter_of_two h (v ∷ w ∷ u ∷ us) z = told

  setter_of_three : {f : Value → Value → Value → State → Answer} → ((v w u : Value) (z : State) → Holds w z (f v w u z))
      → (vs : List Value) (z : State) → Holds (second_argument vs) z (of_three f vs z)
  setter_of_three h [] z = told
  setter_of_three h (v ∷ []) z = told
  setter_of_three h (v ∷ w ∷ []) z = told
  setter_of_three h (v ∷ w ∷ u ∷ []) z = h v w u z
  setter_of_three h (v ∷ w ∷ u ∷ x ∷ us) z = told

  integer_holds : (n : ℤ) (z : State) → Holds nil z (integer_result n z)
  integer_holds n z = either (in_range n) told failing

  division_holds : (f : ℤ → ℤ → ℤ) (a b : ℤ) (z : State) → Holds nil z (division f a b z)
  division_holds f a b z = either (int_equal b (pos 0)) failing (integer_holds (f a b) z)

  place_holds : (rows : List SlotRow) (p : SlotRow → Bool) (z : State) → Holds nil z (slot_place rows p z)
  place_holds rows p z =
      needed (index_of (pos (position_or_len p rows)) (length rows)) (at (k.failed_late nil _ [] (length rows) z)) (λ i h. counted (i + 1) z)

  slot_value_holds : (o : Option (Option Value)) (z : State) → Holds nil z (slot_value o z)
  slot_value_holds (Some (Some v)) z = told
  slot_value_holds (Some None) z = failing
  slot_value_holds None z = failing

  slot_holds : (v w : Value) {set : Value} (z : State) {next : ℕ × List (Option Value) × Value → ℕ → Answer}
      → ((i : ℕ × List (Option Value) × Value) (place : ℕ) → as_instance (fetch z v) ≡ Some i → Holds set z (next i place))
      → Holds set z (a_slot v w z next)
  slot_holds v w z h =
      needed (as_instance (fetch z v)) wrong (λ i e.
      needed (as_integer w) wrong (λ n j.
      needed (index_of n (length i.1)) failing (λ place g. h i place e)))

  -- a character, an element and a slot more
  string_sets : (v w : Value) (bytes : List ℕ) (i c : ℕ) (z : State) → as_string (fetch z w) ≡ Some bytes
      → Holds w z (result v (change w (string (slice_set bytes i c)) z))
  string_sets v w bytes i c z h =
      sets v w (string (slice_set bytes i c)) z
      (string_blank (fetch z w) bytes h ∙ ap (λ (n : ℕ). Some (string (replicate n 0))) (sym (length-changed bytes i c)))

  vector_sets : (v w : Value) (us : List Value) (i : ℕ) (z : State) → as_vector (fetch z w) ≡ Some us
      → Holds w z (result v (change w (vector (slice_set us i v)) z))
  vector_sets v w us i z h =
      sets v w (vector (slice_set us i v)) z
      (vector_blank (fetch z w) us h ∙ ap (λ (n : ℕ). Some (vector (replicate n nil))) (sym (length-changed us i v)))

  slot_sets : (v w : Value) (i : ℕ × List (Option Value) × Value) (place : ℕ) (z : State) → as_instance (fetch z w) ≡ Some i
      → Holds w z (result v (change w (instance i.0 (slice_set i.1 place (Some v)) i.2) z))
  slot_sets v w i place z h =
      sets v w (instance i.0 (slice_set i.1 place (Some v)) i.2) z
      (instance_blank (fetch z w) i h ∙ ap (λ (n : ℕ). Some (instance i.0 (replicate n None) nil)) (sym (length-changed i.1 place (Some v))))

  row : (names : List (List ℕ)) (program : ProgramRows) (which : Primitive) (vs : List Value) (z : State)
      → Holds (set_by which vs) z (primitive names program which vs z)
  row names program Add = integers_hold (λ a b. integer_holds (a +ℤ b))
  row names program Subtract = integers_hold (λ a b. integer_holds (a -ℤ b))
  row names program Multiply = integers_hold (λ a b. integer_holds (a *ℤ b))
  row names program Divide = integers_hold (division_holds floor_quotient)
  row names program Modulo = integers_hold (division_holds floor_remainder)
  row names program NumberEqual = integers_hold (λ a b z. told)
  row names program NumberNotEqual = integers_hold (λ a b z. told)
  row names program NumberLess = integers_hold (λ a b z. told)
  row names program NumberAtMost = integers_hold (λ a b z. told)
  row names program NumberGreater = integers_hold (λ a b z. told)
  row names program NumberAtLeast = integers_hold (λ a b z. told)
  row names program Same = two_hold (λ v w z. told)
  row names program IsNull = one_holds (λ v z. told)
  row names program IsCons = one_holds (λ v z. told)
  row names program IsInteger = one_holds (λ v z. told)
  row names program IsSymbol = one_holds (λ v z. told)
  row names program IsCharacter = one_holds (λ v z. told)
  row names program IsString = one_holds (λ v z. told)
  row names program IsVector = one_holds (λ v z. told)
  row names program IsFunction = one_holds (λ v z. told)
  row names program IsGeneric = one_holds (λ v z. told)
  row names program Cons = two_hold (λ v w z. made)
  row names program Car = one_holds (λ v z. needed (as_cons (fetch z v)) wrong (λ c h. told))
  row names program Cdr = one_holds (λ v z. needed (as_cons (fetch z v)) wrong (λ c h. told))
  row names program SetCar = setter_of_two (λ v w z.
      needed (as_cons (fetch z w)) wrong (λ c h. sets v w (cons v c.1) z (cons_blank (fetch z w) c h)))
  row names program SetCdr = setter_of_two (λ v w z.
      needed (as_cons (fetch z w)) wrong (λ c h. sets v w (cons c.0 v) z (cons_blank (fetch z w) c h)))
  row names program MakeString = two_hold (λ v w z.
      needed (as_integer v) wrong (λ n h. needed (as_character w) wrong (λ c i. needed (length_of n) wrong (λ count j. made))))
  row names program MakeVector = two_hold (λ v w z.
      needed (as_integer v) wrong (λ n h. needed (length_of n) wrong (λ count j. made)))
  row names program StringLength = one_holds (λ v z. needed (as_string (fetch z v)) wrong (λ bytes h. told))
  row names program VectorLength = one_holds (λ v z. needed (as_vector (fetch z v)) wrong (λ vs h. told))
  row names program CharAt = two_hold (λ v w z.
      needed (as_string (fetch z v)) wrong (λ bytes h. needed (as_integer w) wrong (λ n j.
      needed (index_of n (length bytes)) failing (λ i l. told))))
  row names program VectorRef = two_hold (λ v w z.
      needed (as_vector (fetch z v)) wrong (λ us h. needed (as_integer w) wrong (λ n j.
      needed (index_of n (length us)) failing (λ i l. told))))
  row names program SetCharAt = setter_of_three (λ v w u z.
      needed (as_character v) wrong (λ c g. needed (as_string (fetch z w)) wrong (λ bytes h. needed (as_integer u) wrong (λ n j.
      needed (index_of n (length bytes)) failing (λ i l. string_sets v w bytes i c z h)))))
  row names program SetVectorRef = setter_of_three (λ v w u z.
      needed (as_vector (fetch z w)) wrong (λ us h. needed (as_integer u) wrong (λ n j.
      needed (index_of n (length us)) failing (λ i l. vector_sets v w us i z h))))
  row names program CharCode = one_holds (λ v z. needed (as_character v) wrong (λ c h. told))
  row names program CodeChar = one_holds (λ v z. needed (as_integer v) wrong (λ n h. needed (byte_of n) wrong (λ c j. told)))
  row names program SymbolName = one_holds (λ v z. needed (as_symbol z v) wrong (λ s h. made))
  row names program SymbolSerial = one_holds (λ v z. needed (as_symbol z v) wrong (λ s h. told))
  row names program Gensym = none_hold (λ z. at (k.symbol_made nil z))
  row names program ClassOf = one_holds (λ v z. told)
  row names program ClassName = one_holds (λ v z. needed (as_class (fetch z v)) wrong (λ c h. told))
  row names program IsSubclass = two_hold (λ v w z.
      needed (as_class (fetch z v)) wrong (λ c h. needed (as_class (fetch z w)) wrong (λ d j.
      counted (passed (λ e. d == e) (precedence program c)) z)))
  row names program IsInstance = two_hold (λ v w z. needed (as_class (fetch z w)) wrong (λ d h.
      counted (passed (λ e. d == e) (precedence program (class_of z v))) z))
  row names program Allocate = one_holds (λ v z.
      needed (as_class (fetch z v)) wrong (λ c h. either (can_be_made program c) made failing))
  row names program SlotCount = one_holds (λ v z. needed (as_instance (fetch z v)) wrong (λ i h. told))
  row names program SlotPlace = two_hold (λ v w z.
      needed (as_instance (fetch z v)) wrong (λ i h. needed (as_symbol z w) wrong (λ s j.
      place_holds (slots program i.0) (is_slot names s) z)))
  row names program SlotRef = two_hold (λ v w z. slot_holds v w z (λ i place h. slot_value_holds (slice_get i.1 place) z))
  row names program SlotSet = setter_of_three (λ v w u z. slot_holds w u z (λ i place h. slot_sets v w i place z h))
  row names program SlotBound = two_hold (λ v w z. slot_holds v w z (λ i place h. told))
  row names program SlotInitargs = two_hold (λ v w z. slot_holds v w z (λ i place h. told))
  row names program SlotInitform = two_hold (λ v w z. slot_holds v w z (λ i place h. told))
  row names program Continuable = one_holds (λ v z.
      either (is_condition program z v) (needed (as_instance (fetch z v)) wrong (λ i h. told)) wrong)
  row names program StandardInput = none_hold (λ z. told)
  row names program StandardOutput = none_hold (λ z. told)
  row names program PutChar = two_hold (λ v w z.
      needed (as_stream (fetch z v)) wrong (λ is_output h. needed (as_character w) wrong (λ c j.
      either is_output (at (k.prints nil nil c z)) wrong)))
  row names program IsFreshLine = none_hold (λ z. told)
  row names program GetByte = none_hold (λ z. at (k.reads nil _ z))
  row names program PeekByte = none_hold (λ z. told)

  -- each answer is of one of the shapes
  pub primitive_answers : (names : List (List ℕ)) (program : ProgramRows) (which : Primitive) (vs : List Value) (z : State)
      → A (set_by which vs) z (primitive names program which vs z)
  primitive_answers names program which vs z = (row names program which vs z).by
