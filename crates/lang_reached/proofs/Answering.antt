-- Primitives: what they answer is live, and does not depend on the bodies of procedures.
use Rattle.std.proofs.Common.{◌≡◌, ℕ, ◌+◌, Bool, true, false, List, [], ◌∷◌, length, refl, subst, Option, Some, None}
use Rattle.std.specs.List.{position_or_len}
use Rattle.std.specs.Prelude.{ℤ, pos, ◌+ℤ◌, ◌-ℤ◌, ◌*ℤ◌, slice_get, slice_set, if◌then◌else◌}
use Rattle.base.specs.AllOf.{AllOf, all_at}
use Rattle.lang_meaning.specs.declared.primitive.Primitive.{Primitive}
use Rattle.lang_meaning.specs.declared.primitive.Primitive.TheVariants.{Add, Subtract, Multiply, Divide, Modulo, NumberEqual, NumberNotEqual, NumberLess, NumberAtMost, NumberGreater, NumberAtLeast, Same, IsNull, IsCons, IsInteger, IsSymbol, IsCharacter, IsString, IsVector, IsFunction, IsGeneric, Cons, Car, Cdr, SetCar, SetCdr, MakeString, MakeVector, StringLength, VectorLength, CharAt, VectorRef, SetCharAt, SetVectorRef, CharCode, CodeChar, SymbolName, SymbolSerial, Gensym, ClassOf, ClassName, IsSubclass, IsInstance, Allocate, SlotCount, SlotPlace, SlotRef, SlotSet, SlotBound, SlotInitargs, SlotInitform, Continuable, StandardInput, StandardOutput, PutChar, IsFreshLine, GetByte, PeekByte}
use Rattle.lang_meaning.specs.declared.program.SlotRow.{SlotRow}
use Rattle.lang_meaning.specs.Values.{Value, integer, character, symbol, named, unnamed, nil, object, truth, in_range, int_equal}
use Rattle.lang_meaning.specs.Objects.{Object, cons, string, vector, instance, fresh_symbol}
use Rattle.lang_meaning.specs.State.{State, DynamicContext}
use Rattle.lang_meaning.specs.Classes.{fetch, class_of, slots, is_condition}
use Rattle.lang_meaning.specs.Primitives.{Answer, result, makes, makes_symbol, fails, domain_error, needs, as_integer, as_character, as_cons, as_string, as_vector, as_class, as_instance, as_stream, as_symbol, integer_result, floor_quotient, floor_remainder, division, index_of, length_of, byte_of, first_byte, can_be_made, slot_place, slot_value, a_slot, of_none, of_one, of_two, of_three, of_integers, says, primitive}
use Rattle.lang_meaning.specs.Signals.{answered, signal}
use Rattle.lang_reached.specs.LeftOut.{without_others}
use Rattle.lang_reached.proofs.Live.{Setting, Live, AllLive, SlotLive, ObjectFine, StateFine, AroundFine, all_set, all_same, all_or}
use Rattle.lang_reached.proofs.States.{change_fine}
use Rattle.lang_reached.proofs.Agreeing.{Agrees, given, made}
use Rattle.lang_reached.proofs.Applying.{Grounded, Beside, whole, left, domain_signals, signals}

module _ (t : Setting) where
  abbrev pub AnswerFine : Answer → Type 0
  AnswerFine (result v z) = Live t v × StateFine t z
  AnswerFine (makes size besides o z) = ((i : ℕ) → ObjectFine t i o) × StateFine t z
  AnswerFine (makes_symbol z) = StateFine t z
  AnswerFine (fails class vs z) = AllLive t vs × StateFine t z
  AnswerFine (domain_error v expected z) = Live t v × StateFine t z

module _ {t : Setting} (g : Grounded t) (b : Beside t) where
  pub answers : (a : Answer) (around : DynamicContext) (y : State) → AnswerFine t a → AroundFine t around
      → Agrees t (answered (whole g b) a around y) (answered (left g b) a around y)
  answers (result v after) around y h a = given v after h.0 h.1
  answers (makes size besides o after) around y h a = made b.limit size besides o after h.1 h.0 (λ v made l f. given v made l f)
  answers (makes_symbol after) around y h a =
      made b.limit 2 0 (fresh_symbol after.symbols) after h (λ i. tt) (λ v made l f. given v (record made { symbols = made.symbols + 1 }) l f)
  answers (fails class vs after) around y h a = signals g b class vs h.0 around after a h.1
  answers (domain_error v expected after) around y h a = domain_signals g b signal (signals g b) v expected h.0 around after a h.1

module _ {t : Setting} (g : Grounded t) where
  -- what an object holds that a value is

  cons_live : (z : State) (v : Value) → StateFine t z → (c : Value × Value) → as_cons (fetch z v) ≡ Some c → Live t c.0 × Live t c.1
  cons_live z (object i) f c e = by (slice_get z.store i) (λ o h. f.store.each i o h) e
    where
      by : (o : Option Object) → ((p : Object) → o ≡ Some p → ObjectFine t i p) → as_cons o ≡ Some c → Live t c.0 × Live t c.1
      by (Some (cons a d)) h e = let same : (a, d) ≡ c = cc in subst (λ (x : Value × Value). Live t x.0 × Live t x.1) same (h (cons a d) refl)
      by o h e = absurd (cc)
  cons_live z v f c e = absurd (cc)

  vector_live : (z : State) (v : Value) → StateFine t z → (vs : List Value) → as_vector (fetch z v) ≡ Some vs → AllLive t vs
  vector_live z (object i) f vs e = by (slice_get z.store i) (λ o h. f.store.each i o h) e
    where
      by : (o : Option Object) → ((p : Object) → o ≡ Some p → ObjectFine t i p) → as_vector o ≡ Some vs → AllLive t vs
      by (Some (vector us)) h e = let same : us ≡ vs = cc in subst (AllLive t) same (h (vector us) refl)
      by o h e = absurd (cc)
  vector_live z v f vs e = absurd (cc)

  abbrev InstanceLive : ℕ × List (Option Value) × Value → Type 0
  InstanceLive i = AllOf (SlotLive t) i.1 × Live t i.2

  instance_live : (z : State) (v : Value) → StateFine t z → (i : ℕ × List (Option Value) × Value) → as_instance (fetch z v) ≡ Some i → InstanceLive i
  instance_live z (object n) f i e = by (slice_get z.store n) (λ o h. f.store.each n o h) e
    where
      by : (o : Option Object) → ((p : Object) → o ≡ Some p → ObjectFine t n p) → as_instance o ≡ Some i → InstanceLive i
      by (Some (instance c us mark)) h e = let same : (c, us, mark) ≡ i = cc in subst InstanceLive same (h (instance c us mark) refl)
      by o h e = absurd (cc)
  instance_live z v f i e = absurd (cc)

  -- combinators

  pub record Answers (a : Answer) : Type 0 where
    pub by : AnswerFine t a

  at : {a : Answer} → AnswerFine t a → Answers a
  at h = record { by = h }

  needed : {X : Type 0} (o : Option X) {otherwise : Answer} {next : X → Answer}
      → Answers otherwise → ((x : X) → o ≡ Some x → Answers (next x)) → Answers (needs o otherwise next)
  needed None n s = n
  needed (Some x) n s = s x refl

  either : (b : Bool) {a c : Answer} → Answers a → Answers c → Answers (if b then a else c)
  either true p q = p
  either false p q = q

  truth_live : (b : Bool) → Live t (truth b)
  truth_live true = tt
  truth_live false = tt

  abbrev OfNone : (State → Answer) → Type 0
  OfNone f = (z : State) → StateFine t z → Answers (f z)

  abbrev OfOne : (Value → State → Answer) → Type 0
  OfOne f = (v : Value) (z : State) → Live t v → StateFine t z → Answers (f v z)

  abbrev OfTwo : (Value → Value → State → Answer) → Type 0
  OfTwo f = (v w : Value) (z : State) → Live t v → Live t w → StateFine t z → Answers (f v w z)

  abbrev OfThree : (Value → Value → Value → State → Answer) → Type 0
  OfThree f = (v w u : Value) (z : State) → Live t v → Live t w → Live t u → StateFine t z → Answers (f v w u z)

  abbrev OfAll : (List Value → State → Answer) → Type 0
  OfAll f = (vs : List Value) (z : State) → AllLive t vs → StateFine t z → Answers (f vs z)

  none_fine : {f : State → Answer} → OfNone f → OfAll (of_none f)
  none_fine h [] z l s = h z s
  none_fine h (v ∷ vs) z l s = at (tt, s)

  one_fine : {f : Value → State → Answer} → OfOne f → OfAll (of_one f)
  one_fine h [] z l s = at (tt, s)
  one_fine h (v ∷ []) z l s = h v z l.0 s
  one_fine h (v ∷ u ∷ us) z l s = at (tt, s)

  two_fine : {f : Value → Value → State → Answer} → OfTwo f → OfAll (of_two f)
  two_fine h [] z l s = at (tt, s)
  two_fine h (v ∷ []) z l s = at (tt, s)
  two_fine h (v ∷ w ∷ []) z l s = h v w z l.0 l.1.0 s
  two_fine h (v ∷ w ∷ u ∷ us) z l s = at (tt, s)

  three_fine : {f : Value → Value → Value → State → Answer} → OfThree f → OfAll (of_three f)
  three_fine h [] z l s = at (tt, s)
  three_fine h (v ∷ []) z l s = at (tt, s)
  three_fine h (v ∷ w ∷ []) z l s = at (tt, s)
  three_fine h (v ∷ w ∷ u ∷ []) z l s = h v w u z l.0 l.1.0 l.1.1.0 s
  three_fine h (v ∷ w ∷ u ∷ x ∷ us) z l s = at (tt, s)

  integers_fine : {f : ℤ → ℤ → State → Answer} → ((a b : ℤ) (z : State) → StateFine t z → Answers (f a b z)) → OfAll (of_integers f)
  integers_fine h = two_fine (λ v w z lv lw s.
      needed (as_integer v) (at (lv, s)) (λ a e. needed (as_integer w) (at (lw, s)) (λ b e'. h a b z s)))

  integer_fine : (n : ℤ) (z : State) → StateFine t z → Answers (integer_result n z)
  integer_fine n z s = either (in_range n) (at (tt, s)) (at (tt, s))

  division_fine : (f : ℤ → ℤ → ℤ) (a b : ℤ) (z : State) → StateFine t z → Answers (division f a b z)
  division_fine f a b z s = either (int_equal b (pos 0)) (at (tt, s)) (integer_fine (f a b) z s)

  says_fine : (b : Bool) (z : State) → StateFine t z → Answers (says b z)
  says_fine b z s = at (truth_live b, s)

  place_fine : (rows : List SlotRow) (p : SlotRow → Bool) (z : State) → StateFine t z → Answers (slot_place rows p z)
  place_fine rows p z s = needed (index_of (pos (position_or_len p rows)) (length rows)) (at (tt, s)) (λ i e. (at (tt, s)))

  value_fine : (o : Option (Option Value)) (z : State) → ((x : Option Value) → o ≡ Some x → SlotLive t x) → StateFine t z → Answers (slot_value o z)
  value_fine (Some (Some v)) z h s = at (h (Some v) refl, s)
  value_fine (Some None) z h s = at (tt, s)
  value_fine None z h s = at (tt, s)

  slot_fine : (v w : Value) (z : State) {next : ℕ × List (Option Value) × Value → ℕ → Answer} → Live t v → Live t w → StateFine t z
      → ((i : ℕ × List (Option Value) × Value) (place : ℕ) → InstanceLive i → Answers (next i place)) → Answers (a_slot v w z next)
  slot_fine v w z lv lw s h =
      needed (as_instance (fetch z v)) (at (lv, s)) (λ i e.
      needed (as_integer w) (at (lw, s)) (λ n e'.
      needed (index_of n (length i.1)) (at (tt, s)) (λ place e''. h i place (instance_live z v s i e))))

  byte_live : (bytes : List ℕ) → Live t (first_byte bytes)
  byte_live [] = tt
  byte_live (c ∷ cs) = tt

  -- the serial of a symbol, or nil
  serial_fine : (v : Value) (z : State) → Live t v → StateFine t z → Answers (primitive t.names t.program SymbolSerial (v ∷ []) z)
  serial_fine (object i) z l s = by (slice_get z.store i) refl
    where
      by : (o : Option Object) → slice_get z.store i ≡ o → Answers (primitive t.names t.program SymbolSerial (object i ∷ []) z)
      by (Some (fresh_symbol n)) e = rw e (at (tt, s))
      by o e = rw e (at (l, s))
  serial_fine (symbol (named name)) z l s = at (tt, s)
  serial_fine (symbol (unnamed x n)) z l s = at (tt, s)
  serial_fine nil z l s = at (tt, s)
  serial_fine (integer n) z l s = at (l, s)
  serial_fine (character c) z l s = at (l, s)

  pub row : (which : Primitive) → OfAll (primitive t.names t.program which)
  row Add = integers_fine (λ a b. integer_fine (a +ℤ b))
  row Subtract = integers_fine (λ a b. integer_fine (a -ℤ b))
  row Multiply = integers_fine (λ a b. integer_fine (a *ℤ b))
  row Divide = integers_fine (division_fine floor_quotient)
  row Modulo = integers_fine (division_fine floor_remainder)
  row NumberEqual = integers_fine (λ a b z s. says_fine _ z s)
  row NumberNotEqual = integers_fine (λ a b z s. says_fine _ z s)
  row NumberLess = integers_fine (λ a b z s. says_fine _ z s)
  row NumberAtMost = integers_fine (λ a b z s. says_fine _ z s)
  row NumberGreater = integers_fine (λ a b z s. says_fine _ z s)
  row NumberAtLeast = integers_fine (λ a b z s. says_fine _ z s)
  row Same = two_fine (λ v w z lv lw s. says_fine _ z s)
  row IsNull = one_fine (λ v z l s. says_fine _ z s)
  row IsCons = one_fine (λ v z l s. says_fine _ z s)
  row IsInteger = one_fine (λ v z l s. says_fine _ z s)
  row IsSymbol = one_fine (λ v z l s. says_fine _ z s)
  row IsCharacter = one_fine (λ v z l s. says_fine _ z s)
  row IsString = one_fine (λ v z l s. says_fine _ z s)
  row IsVector = one_fine (λ v z l s. says_fine _ z s)
  row IsFunction = one_fine (λ v z l s. says_fine _ z s)
  row IsGeneric = one_fine (λ v z l s. says_fine _ z s)
  row Cons = two_fine (λ v w z lv lw s. at ((λ i. (lv, lw)), s))
  row Car = one_fine (λ v z l s. needed (as_cons (fetch z v)) (at (l, s)) (λ c e. at ((cons_live z v s c e).0, s)))
  row Cdr = one_fine (λ v z l s. needed (as_cons (fetch z v)) (at (l, s)) (λ c e. at ((cons_live z v s c e).1, s)))
  row SetCar = two_fine (λ v w z lv lw s.
      needed (as_cons (fetch z w)) (at (lw, s)) (λ c e. at (lv, change_fine z s w (cons v c.1) (λ n. (lv, (cons_live z w s c e).1)))))
  row SetCdr = two_fine (λ v w z lv lw s.
      needed (as_cons (fetch z w)) (at (lw, s)) (λ c e. at (lv, change_fine z s w (cons c.0 v) (λ n. ((cons_live z w s c e).0, lv)))))
  row MakeString = two_fine (λ v w z lv lw s.
      needed (as_integer v) (at (lv, s)) (λ n e. needed (as_character w) (at (lw, s)) (λ c e'.
      needed (length_of n) (at (lv, s)) (λ count e''. at ((λ i. tt), s)))))
  row MakeVector = two_fine (λ v w z lv lw s.
      needed (as_integer v) (at (lv, s)) (λ n e. needed (length_of n) (at (lv, s)) (λ count e'. at ((λ i. all_same (Live t) count w lw), s))))
  row StringLength = one_fine (λ v z l s. needed (as_string (fetch z v)) (at (l, s)) (λ bytes e. (at (tt, s))))
  row VectorLength = one_fine (λ v z l s. needed (as_vector (fetch z v)) (at (l, s)) (λ vs e. (at (tt, s))))
  row CharAt = two_fine (λ v w z lv lw s.
      needed (as_string (fetch z v)) (at (lv, s)) (λ bytes e. needed (as_integer w) (at (lw, s)) (λ n e'.
      needed (index_of n (length bytes)) (at (tt, s)) (λ i e''. (at (tt, s))))))
  row VectorRef = two_fine (λ v w z lv lw s.
      needed (as_vector (fetch z v)) (at (lv, s)) (λ us e. needed (as_integer w) (at (lw, s)) (λ n e'.
      needed (index_of n (length us)) (at (tt, s)) (λ i e''. at (all_or (Live t) us i nil (vector_live z v s us e) tt, s)))))
  row SetCharAt = three_fine (λ v w u z lv lw lu s.
      needed (as_character v) (at (lv, s)) (λ c e. needed (as_string (fetch z w)) (at (lw, s)) (λ bytes e'.
      needed (as_integer u) (at (lu, s)) (λ n e''.
      needed (index_of n (length bytes)) (at (tt, s)) (λ i e'''. at (lv, change_fine z s w (string (slice_set bytes i c)) (λ n. tt)))))))
  row SetVectorRef = three_fine (λ v w u z lv lw lu s.
      needed (as_vector (fetch z w)) (at (lw, s)) (λ us e. needed (as_integer u) (at (lu, s)) (λ n e'.
      needed (index_of n (length us)) (at (tt, s)) (λ i e''.
      at (lv, change_fine z s w (vector (slice_set us i v)) (λ n. all_set (Live t) us i v (vector_live z w s us e) lv))))))
  row CharCode = one_fine (λ v z l s. needed (as_character v) (at (l, s)) (λ c e. (at (tt, s))))
  row CodeChar = one_fine (λ v z l s.
      needed (as_integer v) (at (l, s)) (λ n e. needed (byte_of n) (at (l, s)) (λ c e'. (at (tt, s)))))
  row SymbolName = one_fine (λ v z l s. needed (as_symbol z v) (at (l, s)) (λ x e. at ((λ i. tt), s)))
  row SymbolSerial = one_fine serial_fine
  row Gensym = none_fine (λ z s. at s)
  row ClassOf = one_fine (λ v z l s. at (g.class_live (class_of z v), s))
  row ClassName = one_fine (λ v z l s. needed (as_class (fetch z v)) (at (l, s)) (λ c e. (at (tt, s))))
  row IsSubclass = two_fine (λ v w z lv lw s.
      needed (as_class (fetch z v)) (at (lv, s)) (λ c e. needed (as_class (fetch z w)) (at (lw, s)) (λ d e'. at (truth_live _, s))))
  row IsInstance = two_fine (λ v w z lv lw s. needed (as_class (fetch z w)) (at (lw, s)) (λ d e. at (truth_live _, s)))
  row Allocate = one_fine (λ v z l s. needed (as_class (fetch z v)) (at (l, s)) (λ c e.
      either (can_be_made t.program c) (at ((λ i. (all_same (SlotLive t) (length (slots t.program c)) None tt, tt)), s)) (at (tt, s))))
  row SlotCount = one_fine (λ v z l s. needed (as_instance (fetch z v)) (at (l, s)) (λ i e. (at (tt, s))))
  row SlotPlace = two_fine (λ v w z lv lw s.
      needed (as_instance (fetch z v)) (at (lv, s)) (λ i e. needed (as_symbol z w) (at (lw, s)) (λ x e'. place_fine (slots t.program i.0) _ z s)))
  row SlotRef = two_fine (λ v w z lv lw s.
      slot_fine v w z lv lw s (λ i place h. value_fine (slice_get i.1 place) z (λ x e. all_at (SlotLive t) i.1 place x h.0 e) s))
  row SlotSet = three_fine (λ v w u z lv lw lu s.
      slot_fine w u z lw lu s (λ i place h.
      at (lv, change_fine z s w (instance i.0 (slice_set i.1 place (Some v)) i.2) (λ n. (all_set (SlotLive t) i.1 place (Some v) h.0 lv, h.1)))))
  row SlotBound = two_fine (λ v w z lv lw s. slot_fine v w z lv lw s (λ i place h. says_fine _ z s))
  row SlotInitargs = two_fine (λ v w z lv lw s. slot_fine v w z lv lw s (λ i place h. at (g.initargs_live i.0 place, s)))
  row SlotInitform = two_fine (λ v w z lv lw s. slot_fine v w z lv lw s (λ i place h. at (g.initform_live i.0 place, s)))
  row Continuable = one_fine (λ v z l s.
      either (is_condition t.program z v) (needed (as_instance (fetch z v)) (at (l, s)) (λ i e. at ((instance_live z v s i e).1, s))) (at (l, s)))
  row StandardInput = none_fine (λ z s. at (g.input_live, s))
  row StandardOutput = none_fine (λ z s. at (g.output_live, s))
  row PutChar = two_fine (λ v w z lv lw s.
      needed (as_stream (fetch z v)) (at (lv, s)) (λ is_output e. needed (as_character w) (at (lw, s)) (λ c e'.
      either is_output (at (tt, s)) (at (lv, s)))))
  row IsFreshLine = none_fine (λ z s. says_fine _ z s)
  row GetByte = none_fine (λ z s. at (byte_live z.input, s))
  row PeekByte = none_fine (λ z s. at (byte_live z.input, s))

-- with another body of a procedure the answer is the same
pub same_row : (t : Setting) (which : Primitive) (vs : List Value) (z : State)
    → primitive t.names t.program which vs z ≡ primitive t.names (without_others t.kept t.program) which vs z
same_row t Add vs z = refl
same_row t which vs z = refl
