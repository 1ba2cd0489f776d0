-- What the primitives answer: one of them prints, one takes a byte, and no other changes what was printed or what is left of the
-- input; none takes units back; and what is made has words.
use Rattle.std.proofs.Common.{ℕ, ◌+◌, ◌<◌, Bool, true, false, List, [], ◌∷◌, ◌++◌, Option, Some, None, length, refl, arith}
use Rattle.std.specs.List.{position_or_len}
use Rattle.std.specs.Prelude.{⊤, ℤ, pos, ◌+ℤ◌, ◌-ℤ◌, ◌*ℤ◌, slice_get, slice_set, if◌then◌else◌}
use Rattle.lang_meaning.specs.declared.primitive.Primitive.{Primitive}
use Rattle.lang_meaning.specs.declared.primitive.Primitive.TheVariants.{Add, Subtract, Multiply, Divide, Modulo, NumberEqual, NumberNotEqual, NumberLess, NumberAtMost, NumberGreater, NumberAtLeast, Same, Cons, Car, Cdr, SetCar, SetCdr, MakeString, MakeVector, StringLength, VectorLength, CharAt, VectorRef, SetCharAt, SetVectorRef, CharCode, CodeChar, SymbolName, SymbolSerial, Gensym, ClassName, IsSubclass, IsInstance, Allocate, SlotCount, SlotPlace, SlotRef, SlotSet, SlotBound, SlotInitargs, SlotInitform, Continuable, StandardInput, StandardOutput, PutChar, IsFreshLine, GetByte, PeekByte}
use Rattle.lang_meaning.specs.declared.program.ProgramRows.{ProgramRows}
use Rattle.lang_meaning.specs.declared.program.SlotRow.{SlotRow}
use Rattle.lang_meaning.specs.Values.{Value, object, in_range, int_equal}
use Rattle.lang_meaning.specs.Objects.{Object, cons, string, vector, instance, serious_condition_class}
use Rattle.lang_meaning.specs.State.{State}
use Rattle.lang_meaning.specs.Prefixes.{IsLastOf}
use Rattle.lang_meaning.specs.Classes.{fetch, slots, is_below, is_condition}
use Rattle.lang_meaning.specs.Primitives.{Answer, result, makes, makes_symbol, fails, domain_error, needs, as_integer, as_character, as_cons, as_string, as_vector, as_class, as_instance, as_stream, as_symbol, integer_result, floor_quotient, floor_remainder, division, index_of, length_of, byte_of, change, can_be_made, is_slot, slot_place, slot_value, a_slot, of_none, of_one, of_two, of_three, of_integers, instance_words, other_bytes, primitive}
use Rattle.eval_machine.proofs.Kept.{Progress, progress, IsLater, same, counts}

-- the state of an answer; and an object is made of more words than none
abbrev pub state_of : Answer → State
state_of (result v z) = z
state_of (makes size besides o z) = z
state_of (makes_symbol z) = z
state_of (fails class vs z) = z
state_of (domain_error v expected z) = z

abbrev pub FineAnswer : Answer → Type 0
FineAnswer (makes size besides o z) = 0 < size
FineAnswer other = ⊤

-- an answer after that
pub record Answers (before : Progress) (a : Answer) : Type 0 where
  pub later : IsLater before (progress (state_of a))
  pub fine : FineAnswer a

at : {before : Progress} {a : Answer} → IsLater before (progress (state_of a)) → FineAnswer a → Answers before a
at p f = record { later = p; fine = f }

-- the words of what is made
some_words : (n : ℕ) → 0 < 2 + n
some_words n = omega arith

pub instance_has_words : (program : ProgramRows) (c n : ℕ) → 0 < instance_words program c n
instance_has_words program c n = more n (if is_below program c serious_condition_class then 1 else 0)
  where
    more : (n m : ℕ) → 0 < 2 + n + m
    more n m = omega arith

-- arguments as what they are to be, and either of two answers
needed : {X : Type 0} (o : Option X) {otherwise : Answer} {next : X → Answer} (z : State)
    → Answers (progress z) otherwise → ((x : X) → Answers (progress z) (next x)) → Answers (progress z) (needs o otherwise next)
needed None z n s = n
needed (Some x) z n s = s x

either : (b : Bool) {a c : Answer} (z : State) → Answers (progress z) a → Answers (progress z) c → Answers (progress z) (if b then a else c)
either true z p q = p
either false z p q = q

-- none, one, two or three arguments
none_kept : {f : State → Answer} → ((z : State) → Answers (progress z) (f z))
    → (vs : List Value) (z : State) → Answers (progress z) (of_none f vs z)
none_kept h [] z = h z
none_kept h (v ∷ vs) z = at (same _) tt

one_kept : {f : Value → State → Answer} → ((v : Value) (z : State) → Answers (progress z) (f v z))
    → (vs : List Value) (z : State) → Answers (progress z) (of_one f vs z)
one_kept h [] z = at (same _) tt
one_kept h (v ∷ []) z = h v z
one_kept h (v ∷ u ∷ us) z = at (same _) tt

two_kept : {f : Value → Value → State → Answer} → ((v w : Value) (z : State) → Answers (progress z) (f v w z))
    → (vs : List Value) (z : State) → Answers (progress z) (of_two f vs z)
two_kept h [] z = at (same _) tt
two_kept h (v ∷ []) z = at (same _) tt
two_kept h (v ∷ w ∷ []) z = h v w z
two_kept h (v ∷ w ∷ u ∷ us) z = at (same _) tt

three_kept : {f : Value → Value → Value → State → Answer} → ((v w u : Value) (z : State) → Answers (progress z) (f v w u z))
    → (vs : List Value) (z : State) → Answers (progress z) (of_three f vs z)
three_kept h (v ∷ w ∷ u ∷ []) z = h v w u z
three_kept h other z = at (same _) tt

integers_kept : {f : ℤ → ℤ → State → Answer} → ((a b : ℤ) (z : State) → Answers (progress z) (f a b z))
    → (vs : List Value) (z : State) → Answers (progress z) (of_integers f vs z)
integers_kept h = two_kept (λ v w z.
    needed (as_integer v) z (at (same _) tt) (λ a. needed (as_integer w) z (at (same _) tt) (λ b. h a b z)))

-- integers, changes and slots
integer_kept : (n : ℤ) (z : State) → Answers (progress z) (integer_result n z)
integer_kept n z = either (in_range n) z (at (same _) tt) (at (same _) tt)

division_kept : (f : ℤ → ℤ → ℤ) (a b : ℤ) (z : State) → Answers (progress z) (division f a b z)
division_kept f a b z = either (int_equal b (pos 0)) z (at (same _) tt) (integer_kept (f a b) z)

change_kept : (v : Value) (o : Object) (z : State) → IsLater (progress z) (progress (change v o z))
change_kept (object i) o z = same _
change_kept other o z = same _

place_kept : (rows : List SlotRow) (p : SlotRow → Bool) (z : State) → Answers (progress z) (slot_place rows p z)
place_kept rows p z =
    needed (index_of (pos (position_or_len p rows)) (length rows)) z (at (counts (length rows) z) tt) (λ i. at (counts (i + 1) z) tt)

value_kept : (o : Option (Option Value)) (z : State) → Answers (progress z) (slot_value o z)
value_kept (Some (Some v)) z = at (same _) tt
value_kept (Some None) z = at (same _) tt
value_kept None z = at (same _) tt

slot_kept : (v w : Value) (z : State) {next : ℕ × List (Option Value) × Value → ℕ → Answer}
    → ((i : ℕ × List (Option Value) × Value) (place : ℕ) → Answers (progress z) (next i place)) → Answers (progress z) (a_slot v w z next)
slot_kept v w z h =
    needed (as_instance (fetch z v)) z (at (same _) tt) (λ i.
    needed (as_integer w) z (at (same _) tt) (λ n.
    needed (index_of n (length i.1)) z (at (same _) tt) (λ place. h i place)))

-- a byte that is printed, and one that is taken
prints : (c : ℕ) (z : State) → IsLater (progress z) (progress (record z { printed = z.printed ++ c ∷ [] }))
prints c z = record { printed = record { rest = c ∷ []; is = refl }; left = record { front = []; is = refl }; units = (same (progress z)).units }

others : (bytes : List ℕ) → IsLastOf (other_bytes bytes) bytes
others [] = record { front = []; is = refl }
others (c ∷ cs) = record { front = c ∷ []; is = refl }

takes : (z : State) → IsLater (progress z) (progress (record z { input = other_bytes z.input }))
takes z = record { printed = (same (progress z)).printed; left = others z.input; units = (same (progress z)).units }

-- each primitive
pub answers : (names : List (List ℕ)) (program : ProgramRows) (which : Primitive) (vs : List Value) (z : State)
    → Answers (progress z) (primitive names program which vs z)
answers names program Add = integers_kept (λ a b. integer_kept (a +ℤ b))
answers names program Subtract = integers_kept (λ a b. integer_kept (a -ℤ b))
answers names program Multiply = integers_kept (λ a b. integer_kept (a *ℤ b))
answers names program Divide = integers_kept (division_kept floor_quotient)
answers names program Modulo = integers_kept (division_kept floor_remainder)
answers names program NumberEqual = integers_kept (λ a b z. at (same _) tt)
answers names program NumberNotEqual = integers_kept (λ a b z. at (same _) tt)
answers names program NumberLess = integers_kept (λ a b z. at (same _) tt)
answers names program NumberAtMost = integers_kept (λ a b z. at (same _) tt)
answers names program NumberGreater = integers_kept (λ a b z. at (same _) tt)
answers names program NumberAtLeast = integers_kept (λ a b z. at (same _) tt)
answers names program Same = two_kept (λ v w z. at (same _) tt)
answers names program Cons = two_kept (λ v w z. at (same _) (some_words 0))
answers names program Car = one_kept (λ v z. needed (as_cons (fetch z v)) z (at (same _) tt) (λ c. at (same _) tt))
answers names program Cdr = one_kept (λ v z. needed (as_cons (fetch z v)) z (at (same _) tt) (λ c. at (same _) tt))
answers names program SetCar = two_kept (λ v w z. needed (as_cons (fetch z w)) z (at (same _) tt) (λ c. at (change_kept w (cons v c.1) z) tt))
answers names program SetCdr = two_kept (λ v w z. needed (as_cons (fetch z w)) z (at (same _) tt) (λ c. at (change_kept w (cons c.0 v) z) tt))
answers names program MakeString = two_kept (λ v w z.
    needed (as_integer v) z (at (same _) tt) (λ n. needed (as_character w) z (at (same _) tt) (λ c.
    needed (length_of n) z (at (same _) tt) (λ count. at (same _) (some_words _)))))
answers names program MakeVector = two_kept (λ v w z.
    needed (as_integer v) z (at (same _) tt) (λ n. needed (length_of n) z (at (same _) tt) (λ count. at (same _) (some_words _))))
answers names program StringLength = one_kept (λ v z. needed (as_string (fetch z v)) z (at (same _) tt) (λ bytes. at (same _) tt))
answers names program VectorLength = one_kept (λ v z. needed (as_vector (fetch z v)) z (at (same _) tt) (λ vs. at (same _) tt))
answers names program CharAt = two_kept (λ v w z.
    needed (as_string (fetch z v)) z (at (same _) tt) (λ bytes. needed (as_integer w) z (at (same _) tt) (λ n.
    needed (index_of n (length bytes)) z (at (same _) tt) (λ i. at (same _) tt))))
answers names program VectorRef = two_kept (λ v w z.
    needed (as_vector (fetch z v)) z (at (same _) tt) (λ us. needed (as_integer w) z (at (same _) tt) (λ n.
    needed (index_of n (length us)) z (at (same _) tt) (λ i. at (same _) tt))))
answers names program SetCharAt = three_kept (λ v w u z.
    needed (as_character v) z (at (same _) tt) (λ c. needed (as_string (fetch z w)) z (at (same _) tt) (λ bytes.
    needed (as_integer u) z (at (same _) tt) (λ n.
    needed (index_of n (length bytes)) z (at (same _) tt) (λ i. at (change_kept w (string (slice_set bytes i c)) z) tt)))))
answers names program SetVectorRef = three_kept (λ v w u z.
    needed (as_vector (fetch z w)) z (at (same _) tt) (λ us. needed (as_integer u) z (at (same _) tt) (λ n.
    needed (index_of n (length us)) z (at (same _) tt) (λ i. at (change_kept w (vector (slice_set us i v)) z) tt))))
answers names program CharCode = one_kept (λ v z. needed (as_character v) z (at (same _) tt) (λ c. at (same _) tt))
answers names program CodeChar = one_kept (λ v z.
    needed (as_integer v) z (at (same _) tt) (λ n. needed (byte_of n) z (at (same _) tt) (λ c. at (same _) tt)))
answers names program SymbolName = one_kept (λ v z. needed (as_symbol z v) z (at (same _) tt) (λ s. at (same _) (some_words _)))
answers names program SymbolSerial = one_kept (λ v z. needed (as_symbol z v) z (at (same _) tt) (λ s. at (same _) tt))
answers names program Gensym = none_kept (λ z. at (same _) tt)
answers names program ClassName = one_kept (λ v z. needed (as_class (fetch z v)) z (at (same _) tt) (λ c. at (same _) tt))
answers names program IsSubclass = two_kept (λ v w z.
    needed (as_class (fetch z v)) z (at (same _) tt) (λ c. needed (as_class (fetch z w)) z (at (same _) tt) (λ d.
    at (counts _ z) tt)))
answers names program IsInstance = two_kept (λ v w z.
    needed (as_class (fetch z w)) z (at (same _) tt) (λ d.
    at (counts _ z) tt))
answers names program Allocate = one_kept (λ v z.
    needed (as_class (fetch z v)) z (at (same _) tt) (λ c. either (can_be_made program c) z (at (same _) (instance_has_words program c (length (slots program c)))) (at (same _) tt)))
answers names program SlotCount = one_kept (λ v z. needed (as_instance (fetch z v)) z (at (same _) tt) (λ i. at (same _) tt))
answers names program SlotPlace = two_kept (λ v w z.
    needed (as_instance (fetch z v)) z (at (same _) tt) (λ i. needed (as_symbol z w) z (at (same _) tt) (λ s.
    place_kept (slots program i.0) (is_slot names s) z)))
answers names program SlotRef = two_kept (λ v w z. slot_kept v w z (λ i place. value_kept (slice_get i.1 place) z))
answers names program SlotSet = three_kept (λ v w u z.
    slot_kept w u z (λ i place. at (change_kept w (instance i.0 (slice_set i.1 place (Some v)) i.2) z) tt))
answers names program SlotBound = two_kept (λ v w z. slot_kept v w z (λ i place. at (same _) tt))
answers names program SlotInitargs = two_kept (λ v w z. slot_kept v w z (λ i place. at (same _) tt))
answers names program SlotInitform = two_kept (λ v w z. slot_kept v w z (λ i place. at (same _) tt))
answers names program Continuable = one_kept (λ v z.
    either (is_condition program z v) z (needed (as_instance (fetch z v)) z (at (same _) tt) (λ i. at (same _) tt)) (at (same _) tt))
answers names program StandardInput = none_kept (λ z. at (same _) tt)
answers names program StandardOutput = none_kept (λ z. at (same _) tt)
answers names program PutChar = two_kept (λ v w z.
    needed (as_stream (fetch z v)) z (at (same _) tt) (λ is_output. needed (as_character w) z (at (same _) tt) (λ c.
    either is_output z (at (prints c z) tt) (at (same _) tt))))
answers names program IsFreshLine = none_kept (λ z. at (same _) tt)
answers names program GetByte = none_kept (λ z. at (takes z) tt)
answers names program PeekByte = none_kept (λ z. at (same _) tt)
answers names program other = one_kept (λ v z. at (same _) tt)
