-- What the primitives answer in two states that are alike.
use Rattle.std.proofs.Common.{◌≡◌, ℕ, ◌+◌, Bool, true, false, List, [], ◌∷◌, ◌++◌, refl, sym, ap, subst, ◌∙◌, ⊎_elim, Option, Some, None, length}
use Rattle.std.specs.List.{position_or_len}
use Rattle.std.specs.Prelude.{⊤, ℤ, pos, ◌+ℤ◌, ◌-ℤ◌, ◌*ℤ◌, is_some, slice_get, slice_set, replicate, if◌then◌else◌, ◌==◌}
use Rattle.lang_meaning.specs.declared.primitive.Primitive.{Primitive}
use Rattle.lang_meaning.specs.declared.primitive.Primitive.TheVariants.{Add, Subtract, Multiply, Divide, Modulo, NumberEqual, NumberNotEqual, NumberLess, NumberAtMost, NumberGreater, NumberAtLeast, Same, IsNull, IsCons, IsInteger, IsSymbol, IsCharacter, IsString, IsVector, IsFunction, IsGeneric, Cons, Car, Cdr, SetCar, SetCdr, MakeString, MakeVector, StringLength, VectorLength, CharAt, VectorRef, SetCharAt, SetVectorRef, CharCode, CodeChar, SymbolName, SymbolSerial, Gensym, ClassOf, ClassName, IsSubclass, IsInstance, Allocate, SlotCount, SlotPlace, SlotRef, SlotSet, SlotBound, SlotInitargs, SlotInitform, Continuable, StandardInput, StandardOutput, PutChar, IsFreshLine, GetByte, PeekByte}
use Rattle.lang_meaning.specs.declared.program.ProgramRows.{ProgramRows}
use Rattle.lang_meaning.specs.declared.program.SlotRow.{SlotRow}
use Rattle.lang_meaning.specs.Form.{Form}
use Rattle.lang_meaning.specs.Values.{Value, integer, character, symbol, nil, object, truth, named, unnamed, in_range, int_equal}
use Rattle.lang_meaning.specs.Objects.{Object, Environment, cons, string, vector, instance, function, closure, fresh_symbol, serious_condition_class}
use Rattle.lang_meaning.specs.State.{State, charged, changed}
use Rattle.lang_meaning.specs.Lookup.{passed}
use Rattle.lang_meaning.specs.Classes.{fetch, class_of, class_of_object, precedence, slots, is_below, is_condition}
use Rattle.lang_meaning.specs.InitialHeap.{class_value}
use Rattle.lang_meaning.specs.Primitives.{Answer, result, makes, makes_symbol, fails, domain_error, needs, as_integer, as_character, as_cons, as_string, as_vector, as_class, as_instance, as_stream, as_symbol, fresh_in, is_function, is_generic, integer_result, floor_quotient, floor_remainder, division, index_of, length_of, byte_of, change, other_bytes, first_byte, is_fresh_line, can_be_made, is_slot, slot_place, slot_value, a_slot, of_none, of_one, of_two, of_three, of_integers, primitive}
use Rattle.flat_language.specs.declared.program.FlatProcedure.{FlatProcedure}
use Rattle.flat_language.specs.FlatState.{FrameSlot, Captured}
use Rattle.flat_language.proofs.Alike.{World, SameObject, SameFunction, Related}
use Rattle.flat_language.proofs.Combined.{IsDatum, changed_related}

-- a program without its bodies
abbrev pub bare : ProgramRows → ProgramRows
bare program = record program { procedures = []; main = [] }

-- the state of an answer, and another one in its place
abbrev pub state_of : Answer → State
state_of (result v z) = z
state_of (makes size besides o z) = z
state_of (makes_symbol z) = z
state_of (fails class vs z) = z
state_of (domain_error v expected z) = z

abbrev pub moved : State → Answer → Answer
moved y (result v z) = result v y
moved y (makes size besides o z) = makes size besides o y
moved y (makes_symbol z) = makes_symbol y
moved y (fails class vs z) = fails class vs y
moved y (domain_error v expected z) = domain_error v expected y

abbrev pub MakesDatum : Answer → Type 0
MakesDatum (result v z) = ⊤
MakesDatum (makes size besides o z) = IsDatum o
MakesDatum (makes_symbol z) = ⊤
MakesDatum (fails class vs z) = ⊤
MakesDatum (domain_error v expected z) = ⊤

pub cons_datum : (a d : Value) → IsDatum (cons a d)
cons_datum a d = record { no_closure = λ r s f e h. cc h; no_function = λ p h. cc h }

pub string_datum : (bytes : List ℕ) → IsDatum (string bytes)
string_datum bytes = record { no_closure = λ r s f e h. cc h; no_function = λ p h. cc h }

pub vector_datum : (vs : List Value) → IsDatum (vector vs)
vector_datum vs = record { no_closure = λ r s f e h. cc h; no_function = λ p h. cc h }

pub instance_datum : (c : ℕ) (vs : List (Option Value)) (mark : Value) → IsDatum (instance c vs mark)
instance_datum c vs mark = record { no_closure = λ r s f e h. cc h; no_function = λ p h. cc h }

pub symbol_datum : (n : ℕ) → IsDatum (fresh_symbol n)
symbol_datum n = record { no_closure = λ r s f e h. cc h; no_function = λ p h. cc h }

-- whether a class is below another, with the search that finds it
abbrev judged : ProgramRows → ℕ → ℕ → State → Answer
judged program c d x = result (truth (is_below program c d)) (charged (passed (λ e. d == e) (precedence program c)) x)

module _ (ps : List FlatProcedure) (w : World) (frame : List FrameSlot) (cs : List (ℕ × List Captured)) where
  -- two states with variables and stores that are alike, and else the same
  pub record Twins (z y : State) : Type 0 where
    pub store : List Object
    pub boxes : List Value
    pub is : y ≡ record z { store = store; variables = boxes }
    pub related : Related ps w z.variables boxes frame z.store store cs

  pub record AnswersAlike (a a' : Answer) : Type 0 where
    pub twins : Twins (state_of a) (state_of a')
    pub same : a' ≡ moved (state_of a') a
    pub datum : MakesDatum a

  module _ {z y : State} (t : Twins z y) where
    -- what tells no function from another is the same of both objects
    pub observed : {X : Type 0} (h : Option Object → X)
        → ((required : List ℕ) (rest : Option ℕ) (body : Form) (env : Environment) (p : ℕ) → h (Some (function p)) ≡ h (Some (closure required rest body env)))
        → (v : Value) → h (fetch y v) ≡ h (fetch z v)
    observed h e v =
        subst (λ (x : State). h (fetch x v) ≡ h (fetch z v)) (sym t.is) (by v)
      where
        by : (v : Value) → h (fetch (record z { store = t.store; variables = t.boxes }) v) ≡ h (fetch z v)
        by (object i) = ⊎_elim
            (λ (s : SameObject ps (slice_get z.store i) (slice_get t.store i) _). ap h s.same)
            (λ (f : SameFunction ps w.kinds (slice_get z.store i) (slice_get t.store i) _).
            ap h f.other ∙ e f.required f.rest f.body f.env f.procedure ∙ ap h (sym f.one))
            (t.related.objects i)
        by (integer n) = refl
        by (character c) = refl
        by (symbol s) = refl
        by nil = refl

    pub class_same : (v : Value) → class_of y v ≡ class_of z v
    class_same (object i) = observed class_of_object (λ r s f e p. refl) (object i)
    class_same (integer n) = refl
    class_same (character c) = refl
    class_same (symbol s) = refl
    class_same nil = refl

    symbol_same : (v : Value) → as_symbol y v ≡ as_symbol z v
    symbol_same (object i) = observed fresh_in (λ r s f e p. refl) (object i)
    symbol_same (integer n) = refl
    symbol_same (character c) = refl
    symbol_same (symbol (named name)) = refl
    symbol_same (symbol (unnamed expansion serial)) = refl
    symbol_same nil = refl

    cons_same : (v : Value) → as_cons (fetch y v) ≡ as_cons (fetch z v)
    cons_same v = observed as_cons (λ r s f e p. refl) v

    string_same : (v : Value) → as_string (fetch y v) ≡ as_string (fetch z v)
    string_same v = observed as_string (λ r s f e p. refl) v

    vector_same : (v : Value) → as_vector (fetch y v) ≡ as_vector (fetch z v)
    vector_same v = observed as_vector (λ r s f e p. refl) v

    a_class_same : (v : Value) → as_class (fetch y v) ≡ as_class (fetch z v)
    a_class_same v = observed as_class (λ r s f e p. refl) v

    instance_same : (v : Value) → as_instance (fetch y v) ≡ as_instance (fetch z v)
    instance_same v = observed as_instance (λ r s f e p. refl) v

    stream_same : (v : Value) → as_stream (fetch y v) ≡ as_stream (fetch z v)
    stream_same v = observed as_stream (λ r s f e p. refl) v

    pub function_same : (v : Value) → is_function (fetch y v) ≡ is_function (fetch z v)
    function_same v = observed is_function (λ r s f e p. refl) v

    generic_same : (v : Value) → is_generic (fetch y v) ≡ is_generic (fetch z v)
    generic_same v = observed is_generic (λ r s f e p. refl) v

    pub condition_same : (program : ProgramRows) (v : Value) → is_condition program y v ≡ is_condition program z v
    condition_same program v = ap (λ c. is_below program c serious_condition_class) (class_same v)

    -- answers in the same states
    valued : (v v' : Value) → v' ≡ v → AnswersAlike (result v z) (result v' y)
    valued v v' e = record { twins = t; same = ap (λ u. result u y) e; datum = tt }

    at : (v : Value) → AnswersAlike (result v z) (result v y)
    at v = record { twins = t; same = refl; datum = tt }

    fail : (class : ℕ) (vs : List Value) → AnswersAlike (fails class vs z) (fails class vs y)
    fail class vs = record { twins = t; same = refl; datum = tt }

    wrong : (v : Value) (expected : ℕ) → AnswersAlike (domain_error v expected z) (domain_error v expected y)
    wrong v expected = record { twins = t; same = refl; datum = tt }

    making : (size besides : ℕ) (o : Object) → IsDatum o → AnswersAlike (makes size besides o z) (makes size besides o y)
    making size besides o d = record { twins = t; same = refl; datum = d }

    pub charge : (n : ℕ) → Twins (charged n z) (charged n y)
    charge n = record { store = t.store; boxes = t.boxes; is = ap (λ (x : State). charged n x) t.is; related = t.related }

    changes : (v : Value) (o : Object) → IsDatum o → Twins (change v o z) (change v o y)
    changes (object i) o d = record {
      store = slice_set t.store i o;
      boxes = t.boxes;
      is = ap (λ (x : State). changed i o x) t.is;
      related = changed_related i o d t.related;
    }
    changes (integer n) o d = t
    changes (character c) o d = t
    changes (symbol s) o d = t
    changes nil o d = t

  -- combinators
  either : (b : Bool) {a c a' c' : Answer} → AnswersAlike a a' → AnswersAlike c c' → AnswersAlike (if b then a else c) (if b then a' else c')
  either true p q = p
  either false p q = q

  needed : {X : Type 0} (o o' : Option X) → o' ≡ o → {otherwise otherwise' : Answer} {next next' : X → Answer}
      → AnswersAlike otherwise otherwise' → ((x : X) → AnswersAlike (next x) (next' x))
      → AnswersAlike (needs o otherwise next) (needs o' otherwise' next')
  needed {X} o o' e {otherwise} {otherwise'} {next} {next'} n s =
      subst (λ (x : Option X). AnswersAlike (needs o otherwise next) (needs x otherwise' next')) (sym e) (by o)
    where
      by : (o : Option X) → AnswersAlike (needs o otherwise next) (needs o otherwise' next')
      by None = n
      by (Some x) = s x

  none_alike : {f f' : State → Answer} → ((z y : State) → Twins z y → AnswersAlike (f z) (f' y))
      → (vs : List Value) (z y : State) → Twins z y → AnswersAlike (of_none f vs z) (of_none f' vs y)
  none_alike h [] z y t = h z y t
  none_alike h (v ∷ vs) z y t = at t nil

  one_alike : {f f' : Value → State → Answer} → ((v : Value) (z y : State) → Twins z y → AnswersAlike (f v z) (f' v y))
      → (vs : List Value) (z y : State) → Twins z y → AnswersAlike (of_one f vs z) (of_one f' vs y)
  one_alike h [] z y t = at t nil
  one_alike h (v ∷ []) z y t = h v z y t
  one_alike h (v ∷ u ∷ us) z y t = at t nil

  two_alike : {f f' : Value → Value → State → Answer} → ((v w : Value) (z y : State) → Twins z y → AnswersAlike (f v w z) (f' v w y))
      → (vs : List Value) (z y : State) → Twins z y → AnswersAlike (of_two f vs z) (of_two f' vs y)
  two_alike h [] z y t = at t nil
  two_alike h (v ∷ []) z y t = at t nil
  two_alike h (v ∷ u ∷ []) z y t = h v u z y t
  two_alike h (v ∷ u ∷ x ∷ us) z y t = at t nil

  three_alike : {f f' : Value → Value → Value → State → Answer} → ((v w u : Value) (z y : State) → Twins z y → AnswersAlike (f v w u z) (f' v w u y))
      → (vs : List Value) (z y : State) → Twins z y → AnswersAlike (of_three f vs z) (of_three f' vs y)
  three_alike h [] z y t = at t nil
  three_alike h (v ∷ []) z y t = at t nil
  three_alike h (v ∷ u ∷ []) z y t = at t nil
  three_alike h (v ∷ u ∷ x ∷ []) z y t = h v u x z y t
  three_alike h (v ∷ u ∷ x ∷ a ∷ us) z y t = at t nil

  integers_alike : {f f' : ℤ → ℤ → State → Answer} → ((a b : ℤ) (z y : State) → Twins z y → AnswersAlike (f a b z) (f' a b y))
      → (vs : List Value) (z y : State) → Twins z y → AnswersAlike (of_integers f vs z) (of_integers f' vs y)
  integers_alike h = two_alike (λ v u z y t.
      needed (as_integer v) (as_integer v) refl (wrong t _ _) (λ a. needed (as_integer u) (as_integer u) refl (wrong t _ _) (λ b. h a b z y t)))

  integer_alike : (n : ℤ) (z y : State) → Twins z y → AnswersAlike (integer_result n z) (integer_result n y)
  integer_alike n z y t = either (in_range n) (at t _) (fail t _ _)

  division_alike : (f : ℤ → ℤ → ℤ) (a b : ℤ) (z y : State) → Twins z y → AnswersAlike (division f a b z) (division f a b y)
  division_alike f a b z y t = either (int_equal b (pos 0)) (fail t _ _) (integer_alike (f a b) z y t)

  place_alike : (rows : List SlotRow) (p : SlotRow → Bool) (z y : State) → Twins z y → AnswersAlike (slot_place rows p z) (slot_place rows p y)
  place_alike rows p z y t =
      needed (index_of (pos (position_or_len p rows)) (length rows)) _ refl (fail (charge t (length rows)) 24 []) (λ i. at (charge t (i + 1)) (integer (pos i)))

  value_alike : (o : Option (Option Value)) (z y : State) → Twins z y → AnswersAlike (slot_value o z) (slot_value o y)
  value_alike (Some (Some v)) z y t = at t v
  value_alike (Some None) z y t = fail t _ _
  value_alike None z y t = fail t _ _

  slot_alike : (v u : Value) (z y : State) → Twins z y → {next next' : ℕ × List (Option Value) × Value → ℕ → Answer}
      → ((i : ℕ × List (Option Value) × Value) (place : ℕ) → AnswersAlike (next i place) (next' i place))
      → AnswersAlike (a_slot v u z next) (a_slot v u y next')
  slot_alike v u z y t h =
      needed (as_instance (fetch z v)) (as_instance (fetch y v)) (instance_same t v) (wrong t _ _) (λ i.
      needed (as_integer u) _ refl (wrong t _ _) (λ n.
      needed (index_of n (length i.1)) _ refl (fail t _ _) (λ place. h i place)))

  row : (names : List (List ℕ)) (program : ProgramRows) (which : Primitive) (vs : List Value) (z y : State) → Twins z y
      → AnswersAlike (primitive names program which vs z) (primitive names (bare program) which vs y)
  row names program Add = integers_alike (λ a b. integer_alike (a +ℤ b))
  row names program Subtract = integers_alike (λ a b. integer_alike (a -ℤ b))
  row names program Multiply = integers_alike (λ a b. integer_alike (a *ℤ b))
  row names program Divide = integers_alike (division_alike floor_quotient)
  row names program Modulo = integers_alike (division_alike floor_remainder)
  row names program NumberEqual = integers_alike (λ a b z y t. at t _)
  row names program NumberNotEqual = integers_alike (λ a b z y t. at t _)
  row names program NumberLess = integers_alike (λ a b z y t. at t _)
  row names program NumberAtMost = integers_alike (λ a b z y t. at t _)
  row names program NumberGreater = integers_alike (λ a b z y t. at t _)
  row names program NumberAtLeast = integers_alike (λ a b z y t. at t _)
  row names program Same = two_alike (λ v u z y t. at t _)
  row names program IsNull = one_alike (λ v z y t. at t _)
  row names program IsCons = one_alike (λ v z y t. valued t _ _ (ap (λ o. truth (is_some o)) (cons_same t v)))
  row names program IsInteger = one_alike (λ v z y t. at t _)
  row names program IsSymbol = one_alike (λ v z y t. valued t _ _ (ap (λ o. truth (is_some o)) (symbol_same t v)))
  row names program IsCharacter = one_alike (λ v z y t. at t _)
  row names program IsString = one_alike (λ v z y t. valued t _ _ (ap (λ o. truth (is_some o)) (string_same t v)))
  row names program IsVector = one_alike (λ v z y t. valued t _ _ (ap (λ o. truth (is_some o)) (vector_same t v)))
  row names program IsFunction = one_alike (λ v z y t. valued t _ _ (ap truth (function_same t v)))
  row names program IsGeneric = one_alike (λ v z y t. valued t _ _ (ap truth (generic_same t v)))
  row names program Cons = two_alike (λ v u z y t. making t 2 0 _ (cons_datum v u))
  row names program Car = one_alike (λ v z y t. needed (as_cons (fetch z v)) _ (cons_same t v) (wrong t _ _) (λ c. at t _))
  row names program Cdr = one_alike (λ v z y t. needed (as_cons (fetch z v)) _ (cons_same t v) (wrong t _ _) (λ c. at t _))
  row names program SetCar = two_alike (λ v u z y t. needed (as_cons (fetch z u)) _ (cons_same t u) (wrong t _ _) (λ c. at (changes t u _ (cons_datum v c.1)) v))
  row names program SetCdr = two_alike (λ v u z y t. needed (as_cons (fetch z u)) _ (cons_same t u) (wrong t _ _) (λ c. at (changes t u _ (cons_datum c.0 v)) v))
  row names program MakeString = two_alike (λ v u z y t.
      needed (as_integer v) _ refl (wrong t _ _) (λ n. needed (as_character u) _ refl (wrong t _ _) (λ c.
      needed (length_of n) _ refl (wrong t _ _) (λ count. making t _ _ _ (string_datum (replicate count c))))))
  row names program MakeVector = two_alike (λ v u z y t.
      needed (as_integer v) _ refl (wrong t _ _) (λ n. needed (length_of n) _ refl (wrong t _ _) (λ count. making t _ _ _ (vector_datum (replicate count u)))))
  row names program StringLength = one_alike (λ v z y t. needed (as_string (fetch z v)) _ (string_same t v) (wrong t _ _) (λ bytes. at t _))
  row names program VectorLength = one_alike (λ v z y t. needed (as_vector (fetch z v)) _ (vector_same t v) (wrong t _ _) (λ vs. at t _))
  row names program CharAt = two_alike (λ v u z y t.
      needed (as_string (fetch z v)) _ (string_same t v) (wrong t _ _) (λ bytes. needed (as_integer u) _ refl (wrong t _ _) (λ n.
      needed (index_of n (length bytes)) _ refl (fail t _ _) (λ i. at t _))))
  row names program VectorRef = two_alike (λ v u z y t.
      needed (as_vector (fetch z v)) _ (vector_same t v) (wrong t _ _) (λ us. needed (as_integer u) _ refl (wrong t _ _) (λ n.
      needed (index_of n (length us)) _ refl (fail t _ _) (λ i. at t _))))
  row names program SetCharAt = three_alike (λ v u x z y t.
      needed (as_character v) _ refl (wrong t _ _) (λ c. needed (as_string (fetch z u)) _ (string_same t u) (wrong t _ _) (λ bytes.
      needed (as_integer x) _ refl (wrong t _ _) (λ n.
      needed (index_of n (length bytes)) _ refl (fail t _ _) (λ i. at (changes t u _ (string_datum (slice_set bytes i c))) v)))))
  row names program SetVectorRef = three_alike (λ v u x z y t.
      needed (as_vector (fetch z u)) _ (vector_same t u) (wrong t _ _) (λ us. needed (as_integer x) _ refl (wrong t _ _) (λ n.
      needed (index_of n (length us)) _ refl (fail t _ _) (λ i. at (changes t u _ (vector_datum (slice_set us i v))) v))))
  row names program CharCode = one_alike (λ v z y t. needed (as_character v) _ refl (wrong t _ _) (λ c. at t _))
  row names program CodeChar = one_alike (λ v z y t.
      needed (as_integer v) _ refl (wrong t _ _) (λ n. needed (byte_of n) _ refl (wrong t _ _) (λ c. at t _)))
  row names program SymbolName = one_alike (λ v z y t. needed (as_symbol z v) _ (symbol_same t v) (wrong t _ _) (λ s. making t _ _ _ (string_datum _)))
  row names program SymbolSerial = one_alike (λ v z y t. needed (as_symbol z v) _ (symbol_same t v) (wrong t _ _) (λ s. at t _))
  row names program Gensym = none_alike (λ z y t. record { twins = t; same = refl; datum = tt })
  row names program ClassOf = one_alike (λ v z y t. valued t _ _ (ap (λ c. class_value names program c) (class_same t v)))
  row names program ClassName = one_alike (λ v z y t. needed (as_class (fetch z v)) _ (a_class_same t v) (wrong t _ _) (λ c. at t _))
  row names program IsSubclass = two_alike (λ v u z y t.
      needed (as_class (fetch z v)) _ (a_class_same t v) (wrong t _ _) (λ c. needed (as_class (fetch z u)) _ (a_class_same t u) (wrong t _ _) (λ d.
      at (charge t (passed (λ e. d == e) (precedence program c))) _)))
  row names program IsInstance = two_alike (λ v u z y t.
      needed (as_class (fetch z u)) _ (a_class_same t u) (wrong t _ _) (λ d.
      subst (λ c. AnswersAlike (judged program (class_of z v) d z) (judged program c d y)) (sym (class_same t v))
      (at (charge t (passed (λ e. d == e) (precedence program (class_of z v)))) _)))
  row names program Allocate = one_alike (λ v z y t.
      needed (as_class (fetch z v)) _ (a_class_same t v) (wrong t _ _) (λ c. either (can_be_made program c) (making t _ _ _ (instance_datum c _ _)) (fail t _ _)))
  row names program SlotCount = one_alike (λ v z y t. needed (as_instance (fetch z v)) _ (instance_same t v) (wrong t _ _) (λ i. at t _))
  row names program SlotPlace = two_alike (λ v u z y t.
      needed (as_instance (fetch z v)) _ (instance_same t v) (wrong t _ _) (λ i. needed (as_symbol z u) _ (symbol_same t u) (wrong t _ _) (λ s.
      place_alike (slots program i.0) (is_slot names s) z y t)))
  row names program SlotRef = two_alike (λ v u z y t. slot_alike v u z y t (λ i place. value_alike (slice_get i.1 place) z y t))
  row names program SlotSet = three_alike (λ v u x z y t.
      slot_alike u x z y t (λ i place. at (changes t u _ (instance_datum i.0 (slice_set i.1 place (Some v)) i.2)) v))
  row names program SlotBound = two_alike (λ v u z y t. slot_alike v u z y t (λ i place. at t _))
  row names program SlotInitargs = two_alike (λ v u z y t. slot_alike v u z y t (λ i place. at t _))
  row names program SlotInitform = two_alike (λ v u z y t. slot_alike v u z y t (λ i place. at t _))
  row names program Continuable = one_alike (λ v z y t.
      subst (λ c. AnswersAlike
      (if is_condition program z v then needs (as_instance (fetch z v)) (domain_error v 17 z) (λ i. result i.2 z) else domain_error v 18 z)
      (if c then needs (as_instance (fetch y v)) (domain_error v 17 y) (λ i. result i.2 y) else domain_error v 18 y))
      (sym (condition_same t program v))
      (either (is_condition program z v) (needed (as_instance (fetch z v)) _ (instance_same t v) (wrong t _ _) (λ i. at t _)) (wrong t _ _)))
  row names program StandardInput = none_alike (λ z y t. at t _)
  row names program StandardOutput = none_alike (λ z y t. at t _)
  row names program PutChar = two_alike (λ v u z y t.
      needed (as_stream (fetch z v)) _ (stream_same t v) (wrong t _ _) (λ is_output. needed (as_character u) _ refl (wrong t _ _) (λ c.
      either is_output
      (record {
        twins = record { store = t.store; boxes = t.boxes; is = ap (λ (x : State). record x { printed = x.printed ++ c ∷ [] }) t.is; related = t.related };
        same = refl;
        datum = tt;
      })
      (wrong t _ _))))
  row names program IsFreshLine = none_alike (λ z y t. valued t _ _ (ap (λ (x : State). truth (is_fresh_line x.printed)) t.is))
  row names program GetByte = none_alike (λ z y t. record {
    twins = record { store = t.store; boxes = t.boxes; is = ap (λ (x : State). record x { input = other_bytes x.input }) t.is; related = t.related };
    same = ap (λ (x : State). result (first_byte x.input) (record y { input = other_bytes y.input })) t.is;
    datum = tt;
  })
  row names program PeekByte = none_alike (λ z y t. valued t _ _ (ap (λ (x : State). first_byte x.input) t.is))

  pub primitives_alike : (names : List (List ℕ)) (program : ProgramRows) (which : Primitive) (vs : List Value) (z y : State) → Twins z y
      → AnswersAlike (primitive names program which vs z) (primitive names (bare program) which vs y)
  primitives_alike = row
