-- What primitives answer, where names are renamed: the same, with the renamed state.
use Rattle.std.specs.Prelude.{◌≡◌, ℕ, ◌+◌, ◌==◌, ℤ, pos, ◌+ℤ◌, ◌-ℤ◌, ◌*ℤ◌, int_lt, int_le, Bool, true, false, not, List, [], ◌∷◌, ◌++◌, Option, Some, None, if◌then◌else◌, length, map, replicate, option_map, is_some, slice_get, slice_set, slice_index_or, refl}
use Rattle.std.specs.List.{position_or_len}
use Rattle.std.specs.Str.{bytes_eq}
use Rattle.std.proofs.Common.{ap, ◌∙◌}
use Rattle.lang_meaning.specs.declared.primitive.Primitive.{Primitive}
use Rattle.lang_meaning.specs.declared.primitive.Primitive.TheVariants.{Add, Subtract, Multiply, Divide, Modulo, NumberEqual, NumberNotEqual, NumberLess, NumberAtMost, NumberGreater, NumberAtLeast, Same, IsNull, IsCons, IsInteger, IsSymbol, IsCharacter, IsString, IsVector, IsFunction, IsGeneric, Cons, Car, Cdr, SetCar, SetCdr, MakeString, MakeVector, StringLength, VectorLength, CharAt, VectorRef, SetCharAt, SetVectorRef, CharCode, CodeChar, SymbolName, SymbolSerial, Gensym, ClassOf, ClassName, IsSubclass, IsInstance, Allocate, SlotCount, SlotPlace, SlotRef, SlotSet, SlotBound, SlotInitargs, SlotInitform, Continuable, StandardInput, StandardOutput, PutChar, IsFreshLine, GetByte, PeekByte}
use Rattle.lang_meaning.specs.declared.program.ClassRow.{ClassRow}
use Rattle.lang_meaning.specs.declared.program.SlotRow.{SlotRow}
use Rattle.lang_meaning.specs.declared.program.ProgramRows.{ProgramRows}
use Rattle.lang_meaning.specs.Values.{Value, integer, character, symbol, named, nil, in_range, int_equal, same}
use Rattle.lang_meaning.specs.Objects.{Object, cons, string, vector, instance, vector_class, string_class, character_class, cons_class, symbol_class, integer_class, stream_class, standard_class_class, standard_object_class, serious_condition_class, division_by_zero_class, integer_overflow_class, program_error_class}
use Rattle.lang_meaning.specs.State.{State, charged}
use Rattle.lang_meaning.specs.Lookup.{is_in, passed}
use Rattle.lang_meaning.specs.Classes.{class_of, fetch, precedence, slots, is_condition}
use Rattle.lang_meaning.specs.InitialHeap.{class as class_key, initargs, initform, input, output, class_value}
use Rattle.lang_meaning.specs.Primitives.{Answer, result, makes, makes_symbol, fails, domain_error, program_error, needs, as_integer, as_character, as_cons, as_string, as_vector, as_class, as_instance, as_stream, as_symbol, Spelt, by_name, by_serial, an_integer, a_character, a_cons, a_string, a_vector, a_class, an_instance, a_symbol, an_index, integer_result, floor_quotient, floor_remainder, division, index_of, length_of, byte_of, instance_words, change, is_function, is_generic, first_byte, other_bytes, is_fresh_line, class_name, can_be_made, is_slot, slot_place, slot_value, has_value, a_slot, of_none, of_one, of_two, of_three, of_integers, says, primitive}
use Rattle.lang_renamed.specs.Renaming.{KeepsTexts, slot_by, slots_by, class_by, program_by}
use Rattle.lang_renamed.specs.RenamedRuns.{object_by, state_by}
use Rattle.lang_renamed.proofs.Lists.{both, if_same, get_by, length_by}
use Rattle.lang_renamed.proofs.Stores.{class_of_by, cons_by, string_by, vector_by, class_object_by, instance_by, stream_by, symbol_by_value, function_by_value, generic_by_value, change_by}
use Rattle.lang_renamed.proofs.Classes.{line_by, slots_of_by, slot_count_by, condition_by, made_by, instance_words_by}
use Rattle.lang_renamed.proofs.Starting.{stands_by}
use Rattle.lang_renamed.proofs.Alike.{StateRenamed, charges}

-- the place of a slot among so many
abbrev place_in : (at count : ℕ) → State → Answer
place_in at count z = needs (index_of (pos at) count) (program_error (charged count z)) (λ i. result (integer (pos i)) (charged (i + 1) z))

-- whether a class is below another, with a unit for each class that is passed
abbrev below_in : List ℕ → ℕ → State → Answer
below_in line d z = says (is_in d line) (charged (passed (λ e. d == e) line) z)

module _ (r : ℕ → ℕ) where
  abbrev pub answer_by : Answer → Answer
  answer_by (result v z) = result v (state_by r z)
  answer_by (makes size besides o z) = makes size besides (object_by r o) (state_by r z)
  answer_by (makes_symbol z) = makes_symbol (state_by r z)
  answer_by (fails c vs z) = fails c vs (state_by r z)
  answer_by (domain_error v expected z) = domain_error v expected (state_by r z)

  -- the second answer is the first, renamed
  pub record AnswerRenamed (a a' : Answer) : Type 0 where
    pub is : a' ≡ answer_by a

  abbrev Alike : (f f' : List Value → State → Answer) → Type 0
  Alike f f' = (vs : List Value) (z z' : State) → StateRenamed r z z' → AnswerRenamed (f vs z) (f' vs z')

  -- the first slot that passes has the same place
  positions : (p p' : SlotRow → Bool) → ((x : SlotRow) → p' (slot_by r x) ≡ p x) → (rows : List SlotRow) → position_or_len p' (map (slot_by r) rows) ≡ position_or_len p rows
  positions p p' e [] = refl
  positions p p' e (x ∷ xs) = if_same (not (p' (slot_by r x))) (not (p x)) _ 0 _ 0 (ap not (e x)) (ap (λ (n : ℕ). 1 + n) (positions p p' e xs)) refl

module _ {r : ℕ → ℕ} where
  -- ---- answers

  results : (v : Value) {z z' : State} → StateRenamed r z z' → AnswerRenamed r (result v z) (result v z')
  results v s = record { is = ap (result v) s.is }

  results_of : (v v' : Value) {z z' : State} → v' ≡ v → StateRenamed r z z' → AnswerRenamed r (result v z) (result v' z')
  results_of v v' e s = record { is = both result _ _ _ _ e s.is }

  objects : (size besides : ℕ) (o : Object) {z z' : State} → StateRenamed r z z' → AnswerRenamed r (makes size besides o z) (makes size besides (object_by r o) z')
  objects size besides o s = record { is = ap (makes size besides (object_by r o)) s.is }

  failing : (c : ℕ) (vs : List Value) {z z' : State} → StateRenamed r z z' → AnswerRenamed r (fails c vs z) (fails c vs z')
  failing c vs s = record { is = ap (fails c vs) s.is }

  errors : {z z' : State} → StateRenamed r z z' → AnswerRenamed r (program_error z) (program_error z')
  errors s = failing program_error_class [] s

  domains : (v : Value) (expected : ℕ) {z z' : State} → StateRenamed r z z' → AnswerRenamed r (domain_error v expected z) (domain_error v expected z')
  domains v expected s = record { is = ap (domain_error v expected) s.is }

  told : (b b' : Bool) {z z' : State} → b' ≡ b → StateRenamed r z z' → AnswerRenamed r (says b z) (says b' z')
  told true true e s = results _ s
  told false false e s = results nil s
  told true false e s = absurd (cc)
  told false true e s = absurd (cc)

  either : (b b' : Bool) {x y x' y' : Answer} → b' ≡ b → AnswerRenamed r x y → AnswerRenamed r x' y' → AnswerRenamed r (if b then x else x') (if b' then y else y')
  either true true e p p' = p
  either false false e p p' = p'
  either true false e p p' = absurd (cc)
  either false true e p p' = absurd (cc)

  needed : {X : Type 0} (o o' : Option X) {otherwise otherwise' : Answer} {next next' : X → Answer} → o' ≡ o → AnswerRenamed r otherwise otherwise' →
      ((x : X) → AnswerRenamed r (next x) (next' x)) → AnswerRenamed r (needs o otherwise next) (needs o' otherwise' next')
  needed None None e n h = n
  needed (Some x) None e n h = absurd (cc)
  needed None (Some x) e n h = absurd (cc)
  needed (Some x) (Some y) {next = next} {next' = next'} e n h =
      let it : AnswerRenamed r (next x) (next' x) = h x in
      let same : y ≡ x = cc in
      record { is = ap next' same ∙ it.is }

  -- ---- arguments as what they are to be

  integers : (v : Value) {z z' : State} {next next' : ℤ → Answer} → StateRenamed r z z' → ((n : ℤ) → AnswerRenamed r (next n) (next' n)) →
      AnswerRenamed r (an_integer v z next) (an_integer v z' next')
  integers v s c = needed (as_integer v) (as_integer v) refl (domains v integer_class s) c

  characters : (v : Value) {z z' : State} {next next' : ℕ → Answer} → StateRenamed r z z' → ((n : ℕ) → AnswerRenamed r (next n) (next' n)) →
      AnswerRenamed r (a_character v z next) (a_character v z' next')
  characters v s c = needed (as_character v) (as_character v) refl (domains v character_class s) c

  conses : (v : Value) {z z' : State} {next next' : Value × Value → Answer} → StateRenamed r z z' → ((x : Value × Value) → AnswerRenamed r (next x) (next' x)) →
      AnswerRenamed r (a_cons v z next) (a_cons v z' next')
  conses v {z} {z'} s c = needed (as_cons (fetch z v)) (as_cons (fetch z' v)) (ap (λ y. as_cons (fetch y v)) s.is ∙ cons_by r z v) (domains v cons_class s) c

  strings : (v : Value) {z z' : State} {next next' : List ℕ → Answer} → StateRenamed r z z' → ((x : List ℕ) → AnswerRenamed r (next x) (next' x)) →
      AnswerRenamed r (a_string v z next) (a_string v z' next')
  strings v {z} {z'} s c = needed (as_string (fetch z v)) (as_string (fetch z' v)) (ap (λ y. as_string (fetch y v)) s.is ∙ string_by r z v) (domains v string_class s) c

  vectors : (v : Value) {z z' : State} {next next' : List Value → Answer} → StateRenamed r z z' → ((x : List Value) → AnswerRenamed r (next x) (next' x)) →
      AnswerRenamed r (a_vector v z next) (a_vector v z' next')
  vectors v {z} {z'} s c = needed (as_vector (fetch z v)) (as_vector (fetch z' v)) (ap (λ y. as_vector (fetch y v)) s.is ∙ vector_by r z v) (domains v vector_class s) c

  classes : (v : Value) {z z' : State} {next next' : ℕ → Answer} → StateRenamed r z z' → ((x : ℕ) → AnswerRenamed r (next x) (next' x)) →
      AnswerRenamed r (a_class v z next) (a_class v z' next')
  classes v {z} {z'} s c = needed (as_class (fetch z v)) (as_class (fetch z' v)) (ap (λ y. as_class (fetch y v)) s.is ∙ class_object_by r z v) (domains v standard_class_class s) c

  instances : (v : Value) {z z' : State} {next next' : ℕ × List (Option Value) × Value → Answer} → StateRenamed r z z' →
      ((x : ℕ × List (Option Value) × Value) → AnswerRenamed r (next x) (next' x)) → AnswerRenamed r (an_instance v z next) (an_instance v z' next')
  instances v {z} {z'} s c =
      needed (as_instance (fetch z v)) (as_instance (fetch z' v)) (ap (λ y. as_instance (fetch y v)) s.is ∙ instance_by r z v) (domains v standard_object_class s) c

  symbols : (v : Value) {z z' : State} {next next' : Spelt → Answer} → StateRenamed r z z' → ((x : Spelt) → AnswerRenamed r (next x) (next' x)) →
      AnswerRenamed r (a_symbol v z next) (a_symbol v z' next')
  symbols v {z} {z'} s c = needed (as_symbol z v) (as_symbol z' v) (ap (λ y. as_symbol y v) s.is ∙ symbol_by_value r z v) (domains v symbol_class s) c

  indexes : (n : ℤ) (count : ℕ) {z z' : State} {next next' : ℕ → Answer} → StateRenamed r z z' → ((i : ℕ) → AnswerRenamed r (next i) (next' i)) →
      AnswerRenamed r (an_index n count z next) (an_index n count z' next')
  indexes n count s c = needed (index_of n count) (index_of n count) refl (errors s) c

  lengths : (n : ℤ) (v : Value) {z z' : State} {next next' : ℕ → Answer} → StateRenamed r z z' → ((i : ℕ) → AnswerRenamed r (next i) (next' i)) →
      AnswerRenamed r (needs (length_of n) (domain_error v integer_class z) next) (needs (length_of n) (domain_error v integer_class z') next')
  lengths n v s c = needed (length_of n) (length_of n) refl (domains v integer_class s) c

  slot_places : (v w : Value) {z z' : State} {next next' : ℕ × List (Option Value) × Value → ℕ → Answer} → StateRenamed r z z' →
      ((i : ℕ × List (Option Value) × Value) (place : ℕ) → AnswerRenamed r (next i place) (next' i place)) → AnswerRenamed r (a_slot v w z next) (a_slot v w z' next')
  slot_places v w s c = instances v s (λ i. integers w s (λ n. indexes n (length i.1) s (λ place. c i place)))

  numbers : (n : ℤ) {z z' : State} → StateRenamed r z z' → AnswerRenamed r (integer_result n z) (integer_result n z')
  numbers n s = either (in_range n) (in_range n) refl (results (integer n) s) (failing integer_overflow_class [] s)

  divisions : (f : ℤ → ℤ → ℤ) (a b : ℤ) {z z' : State} → StateRenamed r z z' → AnswerRenamed r (division f a b z) (division f a b z')
  divisions f a b s = either (int_equal b (pos 0)) (int_equal b (pos 0)) refl (failing division_by_zero_class [] s) (numbers (f a b) s)

  changes : (w : Value) (o : Object) {z z' : State} → StateRenamed r z z' → StateRenamed r (change w o z) (change w (object_by r o) z')
  changes w o {z} s = record { is = ap (change w (object_by r o)) s.is ∙ change_by r w o z }

  slot_values : (o : Option (Option Value)) {z z' : State} → StateRenamed r z z' → AnswerRenamed r (slot_value o z) (slot_value o z')
  slot_values (Some (Some v)) s = results v s
  slot_values (Some None) s = errors s
  slot_values None s = errors s

  -- ---- one, two or three arguments

  none_alike : {f f' : State → Answer} → ((z z' : State) → StateRenamed r z z' → AnswerRenamed r (f z) (f' z')) → Alike r (of_none f) (of_none f')
  none_alike h [] z z' s = h z z' s
  none_alike h (v ∷ vs) z z' s = results nil s

  one_alike : {f f' : Value → State → Answer} → ((v : Value) (z z' : State) → StateRenamed r z z' → AnswerRenamed r (f v z) (f' v z')) → Alike r (of_one f) (of_one f')
  one_alike h [] z z' s = results nil s
  one_alike h (v ∷ []) z z' s = h v z z' s
  one_alike h (v ∷ u ∷ us) z z' s = results nil s

  two_alike : {f f' : Value → Value → State → Answer} → ((v w : Value) (z z' : State) → StateRenamed r z z' → AnswerRenamed r (f v w z) (f' v w z')) →
      Alike r (of_two f) (of_two f')
  two_alike h [] z z' s = results nil s
  two_alike h (v ∷ []) z z' s = results nil s
  two_alike h (v ∷ w ∷ []) z z' s = h v w z z' s
  two_alike h (v ∷ w ∷ u ∷ us) z z' s = results nil s

  three_alike : {f f' : Value → Value → Value → State → Answer} → ((v w u : Value) (z z' : State) → StateRenamed r z z' → AnswerRenamed r (f v w u z) (f' v w u z')) →
      Alike r (of_three f) (of_three f')
  three_alike h [] z z' s = results nil s
  three_alike h (v ∷ []) z z' s = results nil s
  three_alike h (v ∷ w ∷ []) z z' s = results nil s
  three_alike h (v ∷ w ∷ u ∷ []) z z' s = h v w u z z' s
  three_alike h (v ∷ w ∷ u ∷ x ∷ us) z z' s = results nil s

  integers_alike : {f f' : ℤ → ℤ → State → Answer} → ((a b : ℤ) (z z' : State) → StateRenamed r z z' → AnswerRenamed r (f a b z) (f' a b z')) →
      Alike r (of_integers f) (of_integers f')
  integers_alike h = two_alike (λ v w z z' s. integers v s (λ a. integers w s (λ b. h a b z z' s)))

  -- ---- slots

  places : (at count : ℕ) {z z' : State} → StateRenamed r z z' → AnswerRenamed r (place_in at count z) (place_in at count z')
  places at count s = needed (index_of (pos at) count) (index_of (pos at) count) refl (errors (charges count s)) (λ i. results (integer (pos i)) (charges (i + 1) s))

  slot_found : (p p' : SlotRow → Bool) → ((x : SlotRow) → p' (slot_by r x) ≡ p x) → (rows : List SlotRow) {z z' : State} → StateRenamed r z z' →
      AnswerRenamed r (slot_place rows p z) (slot_place (slots_by r rows) p' z')
  slot_found p p' e rows {z} {z'} s =
      let it : AnswerRenamed r (place_in (position_or_len p rows) (length rows) z) (place_in (position_or_len p rows) (length rows) z') = places (position_or_len p rows) (length rows) s in
      record { is = both (λ (at count : ℕ). place_in at count z') _ _ _ _ (positions r p p' e rows) (length_by (slot_by r) rows) ∙ it.is }

module _ (r : ℕ → ℕ) (old new : List (List ℕ)) (w : KeepsTexts r old new) (program : ProgramRows) where
  slot_named : (s : Spelt) (x : SlotRow) → is_slot new s (slot_by r x) ≡ is_slot old s x
  slot_named (by_name name) x = ap (bytes_eq name) (w x.name.0)
  slot_named (by_serial serial) x = refl

  slot_by_name : (c : ℕ) (x : Spelt) {z z' : State} → StateRenamed r z z' →
      AnswerRenamed r (slot_place (slots program c) (is_slot old x) z) (slot_place (slots (program_by r program) c) (is_slot new x) z')
  slot_by_name c x {z} {z'} s =
      let it : AnswerRenamed r (slot_place (slots program c) (is_slot old x) z) (slot_place (slots_by r (slots program c)) (is_slot new x) z') =
      slot_found (is_slot old x) (is_slot new x) (slot_named x) (slots program c) s in
      record { is = ap (λ rows. slot_place rows (is_slot new x) z') (slots_of_by r program c) ∙ it.is }

  class_named : (o : Option ClassRow) → class_name new (option_map (class_by r) o) ≡ class_name old o
  class_named None = refl
  class_named (Some c) = w c.name.0

  class_name_by : (c : ℕ) → class_name new (slice_get (map (class_by r) program.classes) c) ≡ class_name old (slice_get program.classes c)
  class_name_by c = ap (class_name new) (get_by (class_by r) program.classes c) ∙ class_named (slice_get program.classes c)

  below_in_alike : (line : List ℕ) (d : ℕ) {z z' : State} → StateRenamed r z z' → AnswerRenamed r (below_in line d z) (below_in line d z')
  below_in_alike line d s = told (is_in d line) (is_in d line) refl (charges (passed (λ e. d == e) line) s)

  below_alike : (c c' d : ℕ) {z z' : State} → c' ≡ c → StateRenamed r z z' → AnswerRenamed r (below_in (precedence program c) d z) (below_in (precedence (program_by r program) c') d z')
  below_alike c c' d {z} {z'} e s =
      let it : AnswerRenamed r (below_in (precedence program c) d z) (below_in (precedence program c) d z') = below_in_alike (precedence program c) d s in
      record { is = ap (λ line. below_in line d z') (ap (precedence (program_by r program)) e ∙ line_by r program c) ∙ it.is }

  new_instances : (c n n' : ℕ) {z z' : State} → n' ≡ n → StateRenamed r z z' →
      AnswerRenamed r (makes (instance_words program c n) 0 (instance c (replicate n None) nil) z) (makes (instance_words (program_by r program) c n') 0 (instance c (replicate n' None) nil) z')
  new_instances c n n' {z} {z'} e s =
      let it : AnswerRenamed r (makes (instance_words program c n) 0 (instance c (replicate n None) nil) z) (makes (instance_words program c n) 0 (instance c (replicate n None) nil) z') =
      objects (instance_words program c n) 0 (instance c (replicate n None) nil) s in
      record {
        is =
            ap (λ (m : ℕ). makes (instance_words (program_by r program) c m) 0 (instance c (replicate m None) nil) z') e
            ∙ ap (λ (m : ℕ). makes m 0 (instance c (replicate n None) nil) z') (instance_words_by r program c n) ∙ it.is;
      }

  abbrev Answers : Primitive → Type 0
  Answers which = (vs : List Value) (z z' : State) → StateRenamed r z z' → AnswerRenamed r (primitive old program which vs z) (primitive new (program_by r program) which vs z')

  row : (which : Primitive) → Answers which
  row Add = integers_alike (λ a b z z' s. numbers (a +ℤ b) s)
  row Subtract = integers_alike (λ a b z z' s. numbers (a -ℤ b) s)
  row Multiply = integers_alike (λ a b z z' s. numbers (a *ℤ b) s)
  row Divide = integers_alike (λ a b z z' s. divisions floor_quotient a b s)
  row Modulo = integers_alike (λ a b z z' s. divisions floor_remainder a b s)
  row NumberEqual = integers_alike (λ a b z z' s. told (int_equal a b) (int_equal a b) refl s)
  row NumberNotEqual = integers_alike (λ a b z z' s. told (not (int_equal a b)) (not (int_equal a b)) refl s)
  row NumberLess = integers_alike (λ a b z z' s. told (int_lt a b) (int_lt a b) refl s)
  row NumberAtMost = integers_alike (λ a b z z' s. told (int_le a b) (int_le a b) refl s)
  row NumberGreater = integers_alike (λ a b z z' s. told (int_lt b a) (int_lt b a) refl s)
  row NumberAtLeast = integers_alike (λ a b z z' s. told (int_le b a) (int_le b a) refl s)
  row Same = two_alike (λ v w z z' s. told (same v w) (same v w) refl s)
  row IsNull = one_alike (λ v z z' s. told (same v nil) (same v nil) refl s)
  row IsCons = one_alike (λ v z z' s. told (is_some (as_cons (fetch z v))) (is_some (as_cons (fetch z' v))) (ap (λ y. is_some (as_cons (fetch y v))) s.is ∙ ap (λ (o : Option (Value × Value)). is_some o) (cons_by r z v)) s)
  row IsInteger = one_alike (λ v z z' s. told (is_some (as_integer v)) (is_some (as_integer v)) refl s)
  row IsSymbol = one_alike (λ v z z' s. told (is_some (as_symbol z v)) (is_some (as_symbol z' v)) (ap (λ y. is_some (as_symbol y v)) s.is ∙ ap (λ (o : Option Spelt). is_some o) (symbol_by_value r z v)) s)
  row IsCharacter = one_alike (λ v z z' s. told (is_some (as_character v)) (is_some (as_character v)) refl s)
  row IsString = one_alike (λ v z z' s. told (is_some (as_string (fetch z v))) (is_some (as_string (fetch z' v))) (ap (λ y. is_some (as_string (fetch y v))) s.is ∙ ap (λ (o : Option (List ℕ)). is_some o) (string_by r z v)) s)
  row IsVector = one_alike (λ v z z' s. told (is_some (as_vector (fetch z v))) (is_some (as_vector (fetch z' v))) (ap (λ y. is_some (as_vector (fetch y v))) s.is ∙ ap (λ (o : Option (List Value)). is_some o) (vector_by r z v)) s)
  row IsFunction = one_alike (λ v z z' s. told (is_function (fetch z v)) (is_function (fetch z' v)) (ap (λ y. is_function (fetch y v)) s.is ∙ function_by_value r z v) s)
  row IsGeneric = one_alike (λ v z z' s. told (is_generic (fetch z v)) (is_generic (fetch z' v)) (ap (λ y. is_generic (fetch y v)) s.is ∙ generic_by_value r z v) s)
  row Cons = two_alike (λ v w z z' s. objects 2 0 (cons v w) s)
  row Car = one_alike (λ v z z' s. conses v s (λ c. results c.0 s))
  row Cdr = one_alike (λ v z z' s. conses v s (λ c. results c.1 s))
  row SetCar = two_alike (λ v w z z' s. conses w s (λ c. results v (changes w (cons v c.1) s)))
  row SetCdr = two_alike (λ v w z z' s. conses w s (λ c. results v (changes w (cons c.0 v) s)))
  row MakeString = two_alike (λ v w z z' s. integers v s (λ n. characters w s (λ c. lengths n v s (λ count. objects _ _ (string (replicate count c)) s))))
  row MakeVector = two_alike (λ v w z z' s. integers v s (λ n. lengths n v s (λ count. objects _ _ (vector (replicate count w)) s)))
  row StringLength = one_alike (λ v z z' s. strings v s (λ bytes. results (integer (pos (length bytes))) s))
  row VectorLength = one_alike (λ v z z' s. vectors v s (λ vs. results (integer (pos (length vs))) s))
  row CharAt = two_alike (λ v w z z' s. strings v s (λ bytes. integers w s (λ n. indexes n (length bytes) s (λ i. results (character (slice_index_or bytes i 0)) s))))
  row VectorRef = two_alike (λ v w z z' s. vectors v s (λ vs. integers w s (λ n. indexes n (length vs) s (λ i. results (slice_index_or vs i nil) s))))
  row SetCharAt = three_alike (λ v w u z z' s.
      characters v s (λ c. strings w s (λ bytes. integers u s (λ n. indexes n (length bytes) s (λ i. results v (changes w (string (slice_set bytes i c)) s))))))
  row SetVectorRef = three_alike (λ v w u z z' s.
      vectors w s (λ vs. integers u s (λ n. indexes n (length vs) s (λ i. results v (changes w (vector (slice_set vs i v)) s)))))
  row CharCode = one_alike (λ v z z' s. characters v s (λ c. results (integer (pos c)) s))
  row CodeChar = one_alike (λ v z z' s. integers v s (λ n. needed (byte_of n) (byte_of n) refl (domains v integer_class s) (λ c. results (character c) s)))
  row SymbolName = one_alike (λ v z z' s. symbols v s (λ x. objects _ _ (string _) s))
  row SymbolSerial = one_alike (λ v z z' s. symbols v s (λ x. results _ s))
  row Gensym = none_alike (λ z z' s. record { is = ap makes_symbol s.is })
  row ClassOf = one_alike (λ v z z' s.
      results_of _ _ (ap (λ y. class_value new (program_by r program) (class_of y v)) s.is ∙ ap (class_value new (program_by r program)) (class_of_by r z v) ∙ stands_by r old new w program (class_key (class_of z v))) s)
  row ClassName = one_alike (λ v z z' s. classes v s (λ c. results_of _ _ (ap (λ name. symbol (named name)) (class_name_by c)) s))
  row IsSubclass = two_alike (λ v w z z' s. classes v s (λ c. classes w s (λ d. below_alike c c d refl s)))
  row IsInstance = two_alike (λ v w z z' s. classes w s (λ d. below_alike (class_of z v) (class_of z' v) d (ap (λ y. class_of y v) s.is ∙ class_of_by r z v) s))
  row Allocate = one_alike (λ v z z' s. classes v s (λ c.
      either (can_be_made program c) (can_be_made (program_by r program) c) (made_by r program c)
      (new_instances c (length (slots program c)) (length (slots (program_by r program) c)) (slot_count_by r program c) s) (errors s)))
  row SlotCount = one_alike (λ v z z' s. instances v s (λ i. results (integer (pos (length i.1))) s))
  row SlotPlace = two_alike (λ v w z z' s. instances v s (λ i. symbols w s (λ x. slot_by_name i.0 x s)))
  row SlotRef = two_alike (λ v w z z' s. slot_places v w s (λ i at. slot_values (slice_get i.1 at) s))
  row SlotSet = three_alike (λ v w u z z' s. slot_places w u s (λ i at. results v (changes w (instance i.0 (slice_set i.1 at (Some v)) i.2) s)))
  row SlotBound = two_alike (λ v w z z' s. slot_places v w s (λ i at. told (has_value (slice_get i.1 at)) (has_value (slice_get i.1 at)) refl s))
  row SlotInitargs = two_alike (λ v u z z' s. slot_places v u s (λ i at. results_of _ _ (stands_by r old new w program (initargs i.0 at)) s))
  row SlotInitform = two_alike (λ v u z z' s. slot_places v u s (λ i at. results_of _ _ (stands_by r old new w program (initform i.0 at)) s))
  row Continuable = one_alike (λ v z z' s.
      either (is_condition program z v) (is_condition (program_by r program) z' v) (ap (λ y. is_condition (program_by r program) y v) s.is ∙ condition_by r program z v)
      (instances v s (λ i. results i.2 s)) (domains v serious_condition_class s))
  row StandardInput = none_alike (λ z z' s. results_of _ _ (stands_by r old new w program input) s)
  row StandardOutput = none_alike (λ z z' s. results_of _ _ (stands_by r old new w program output) s)
  row PutChar = two_alike (λ v u z z' s.
      needed (as_stream (fetch z v)) (as_stream (fetch z' v)) (ap (λ y. as_stream (fetch y v)) s.is ∙ stream_by r z v) (domains v stream_class s) (λ is_output.
      characters u s (λ c.
      either is_output is_output refl (results nil (record { is = ap (λ (y : State). record y { printed = y.printed ++ c ∷ [] }) s.is })) (domains v stream_class s))))
  row IsFreshLine = none_alike (λ z z' s. told (is_fresh_line z.printed) (is_fresh_line z'.printed) (ap (λ (y : State). is_fresh_line y.printed) s.is) s)
  row GetByte = none_alike (λ z z' s.
      results_of (first_byte z.input) (first_byte z'.input) (ap (λ (y : State). first_byte y.input) s.is) (record { is = ap (λ (y : State). record y { input = other_bytes y.input }) s.is }))
  row PeekByte = none_alike (λ z z' s. results_of (first_byte z.input) (first_byte z'.input) (ap (λ (y : State). first_byte y.input) s.is) s)

  pub primitive_by : (which : Primitive) (vs : List Value) (z : State) → primitive new (program_by r program) which vs (state_by r z) ≡ answer_by r (primitive old program which vs z)
  primitive_by which vs z = (row which vs z (state_by r z) (record { is = refl })).is
