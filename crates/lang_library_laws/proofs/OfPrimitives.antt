-- How the primitives of lists and of numbers are evaluated inside an application: one rule each.
use Rattle.std.proofs.Common.{slice_get, slice_set, slice_index_or, nat_lt, pos, Some, None, arith, ◌<◌, ◌≡◌, ℕ, ◌+◌, ◌/◌, ◌==◌, replicate, ◌+ℤ◌, Bool, true, List, [], ◌∷◌, ◌++◌, refl, sym, ap, subst, ◌∙◌, length, ℤ, is_some, if◌then◌else◌}
use Rattle.std.proofs.lemmas.Bool.Decides.{nat_tests}
use Rattle.lang_meaning.specs.declared.primitive.Primitive.{Primitive}
use Rattle.lang_meaning.specs.declared.primitive.Primitive.TheVariants.{Add, Same, IsInstance, MakeString, SetCharAt, SetCdr, IsNull, IsCons, IsString, IsVector, Cons, Car, Cdr, StringLength, VectorLength, CharAt, VectorRef, PutChar}
use Rattle.lang_meaning.specs.Form.{Form, prim}
use Rattle.lang_meaning.specs.Values.{Value, nil, object, integer, character, symbol, t, truth, same, in_range}
use Rattle.lang_meaning.specs.Objects.{Object, cons, string, vector, class_object, output_stream, standard_class_class, cons_class, string_class, vector_class, stream_class, integer_overflow_class}
use Rattle.lang_meaning.specs.State.{State, changed, gives, stored, charged, with_words}
use Rattle.lang_meaning.specs.Lookup.{passed}
use Rattle.lang_meaning.specs.Classes.{class_of, class_of_object, is_below, precedence}
use Rattle.lang_meaning.specs.Primitives.{Answer, change, result, makes, as_class, fails, domain_error, program_error, primitive, as_cons, as_string, as_vector, as_stream, a_character, an_integer, an_index, integer_result, needs, says}
use Rattle.lang_meaning.specs.Signals.{answered}
use Rattle.lang_library_laws.specs.Structures.{object_in}
use Rattle.lang_library_laws.specs.Applications.{IsExtended, IsInstanceOf}
use Rattle.lang_library_laws.specs.ListBodies.{one, two}
use Rattle.lang_library_laws.specs.SequenceBodies.{three}
use Rattle.lang_library_laws.proofs.Frames.{one_more, Places, Setting, at, InFrame, kept_in_frame, Runs, After, ComesPrinting, a_form, given, weaker}
use Rattle.lang_library_laws.proofs.Evaluates.{requests, Cell, fetched, cell_in, Results, no_arguments_left, argument_and, comes_prim}

tested : (i n : ℕ) → i < n → nat_lt i n ≡ true
tested i n h = grind (arith, nat_tests)

-- an instance of a class in a state
instance_in : {s : Setting} {said : List ℕ} {frame : List Value} {store : List Object} (z : State) → InFrame s said frame store z → (class : ℕ) (x : Value)
    → IsInstanceOf s.program class store x → is_below s.program (class_of z x) class ≡ true
instance_in {s} {said} {frame} {store} z h class (object i) r =
    ap (λ os. is_below s.program (class_of_object (slice_get os i)) class) h.objects_are
    ∙ ap (λ o. is_below s.program (class_of_object o) class) r.1 ∙ r.2
instance_in {s} {said} {frame} {store} z h class nil r = r
instance_in {s} {said} {frame} {store} z h class (integer n) r = r
instance_in {s} {said} {frame} {store} z h class (character c) r = r
instance_in {s} {said} {frame} {store} z h class (symbol x) r = r

module _ {s : Setting} {said : List ℕ} {places : Places} {k : ℕ} {frame : List Value} {store : List Object} {Q : Value → List Value → List Object → Type 0} where
  -- a primitive of one argument that has a result
  pub of_one : {which : Primitive} {f : Form}
      → ComesPrinting s said said places (a_form k f) frame store (λ x fr st. (y : Value) × Results s said fr st which (x ∷ []) y × Q y fr st)
      → ComesPrinting s said said places (a_form k (prim which (one f))) frame store Q
  of_one {which} {f} c = comes_prim (argument_and (weaker c (λ x fr st r. no_arguments_left (λ around z h.
      subst (λ a. Runs s (After s said Q) (answered (at s k) a around z)) (sym (r.1 z h)) (given r.0 z h r.2)))))

  -- one of two arguments
  pub of_two : {which : Primitive} {f g : Form}
      → ComesPrinting s said said places (a_form k f) frame store (λ x fr st.
      ComesPrinting s said said places (a_form k g) fr st (λ y fr st. (w : Value) × Results s said fr st which (x ∷ y ∷ []) w × Q w fr st))
      → ComesPrinting s said said places (a_form k (prim which (two f g))) frame store Q
  of_two {which} {f} {g} c = comes_prim (argument_and (weaker c (λ x fr st d. argument_and (weaker d (λ y fr st r. no_arguments_left (λ around z h.
      subst (λ a. Runs s (After s said Q) (answered (at s k) a around z)) (sym (r.1 z h)) (given r.0 z h r.2)))))))

  pub comes_car : {f : Form} → ComesPrinting s said said places (a_form k f) frame store (λ x fr st. (c : Cell st x) × Q c.first fr st)
      → ComesPrinting s said said places (a_form k (prim Car (one f))) frame store Q
  comes_car {f} c = of_one (weaker c (λ x fr st r.
      (r.0.first, (λ z h. ap (λ o. needs (as_cons o) (domain_error x cons_class z) (λ (p : Value × Value). result p.0 z)) (fetched z h x ∙ cell_in r.0)), r.1)))

  pub comes_cdr : {f : Form} → ComesPrinting s said said places (a_form k f) frame store (λ x fr st. (c : Cell st x) × Q c.rest fr st)
      → ComesPrinting s said said places (a_form k (prim Cdr (one f))) frame store Q
  comes_cdr {f} c = of_one (weaker c (λ x fr st r.
      (r.0.rest, (λ z h. ap (λ o. needs (as_cons o) (domain_error x cons_class z) (λ (p : Value × Value). result p.1 z)) (fetched z h x ∙ cell_in r.0)), r.1)))

  pub comes_null : {f : Form} → ComesPrinting s said said places (a_form k f) frame store (λ x fr st. Q (truth (same x nil)) fr st)
      → ComesPrinting s said said places (a_form k (prim IsNull (one f))) frame store Q
  comes_null {f} c = of_one (weaker c (λ x fr st r. (truth (same x nil), (λ z h. refl), r)))

  pub comes_consp : {f : Form} → ComesPrinting s said said places (a_form k f) frame store (λ x fr st. Q (truth (is_some (as_cons (object_in st x)))) fr st)
      → ComesPrinting s said said places (a_form k (prim IsCons (one f))) frame store Q
  comes_consp {f} c = of_one (weaker c (λ x fr st r.
      (truth (is_some (as_cons (object_in st x))), (λ z h. ap (λ o. says (is_some (as_cons o)) z) (fetched z h x)), r)))

  pub comes_stringp : {f : Form} → ComesPrinting s said said places (a_form k f) frame store (λ x fr st. Q (truth (is_some (as_string (object_in st x)))) fr st)
      → ComesPrinting s said said places (a_form k (prim IsString (one f))) frame store Q
  comes_stringp {f} c = of_one (weaker c (λ x fr st r.
      (truth (is_some (as_string (object_in st x))), (λ z h. ap (λ o. says (is_some (as_string o)) z) (fetched z h x)), r)))

  pub comes_vectorp : {f : Form} → ComesPrinting s said said places (a_form k f) frame store (λ x fr st. Q (truth (is_some (as_vector (object_in st x)))) fr st)
      → ComesPrinting s said said places (a_form k (prim IsVector (one f))) frame store Q
  comes_vectorp {f} c = of_one (weaker c (λ x fr st r.
      (truth (is_some (as_vector (object_in st x))), (λ z h. ap (λ o. says (is_some (as_vector o)) z) (fetched z h x)), r)))

  pub comes_same : {f g : Form}
      → ComesPrinting s said said places (a_form k f) frame store (λ x fr st. ComesPrinting s said said places (a_form k g) fr st (λ y fr st. Q (truth (same x y)) fr st))
      → ComesPrinting s said said places (a_form k (prim Same (two f g))) frame store Q
  comes_same {f} {g} c = of_two (weaker c (λ x fr st d. weaker d (λ y fr st r. (truth (same x y), (λ z h. refl), r))))

  -- a sum in range
  pub comes_sum : {f g : Form}
      → ComesPrinting s said said places (a_form k f) frame store (λ x fr st. ComesPrinting s said said places (a_form k g) fr st (λ y fr st.
      (a : ℤ) × (b : ℤ) × (x ≡ integer a) × (y ≡ integer b) × (in_range (a +ℤ b) ≡ true) × Q (integer (a +ℤ b)) fr st))
      → ComesPrinting s said said places (a_form k (prim Add (two f g))) frame store Q
  comes_sum {f} {g} c = of_two (weaker c (λ x fr st d. weaker d (λ y fr st r. (
    integer (r.0 +ℤ r.1),
    (λ z h. ap (λ v. primitive s.names s.program Add (v ∷ y ∷ []) z) r.2 ∙ ap (λ v. primitive s.names s.program Add (integer r.0 ∷ v ∷ []) z) r.3
        ∙ ap (λ (b : Bool). if b then result (integer (r.0 +ℤ r.1)) z else fails integer_overflow_class [] z) r.4),
    r.5,
  ))))

  -- a new cons
  pub comes_cons : {f g : Form}
      → ComesPrinting s said said places (a_form k f) frame store (λ x fr st. ComesPrinting s said said places (a_form k g) fr st (λ y fr st.
      Q (object (length st)) fr (st ++ cons x y ∷ [])))
      → ComesPrinting s said said places (a_form k (prim Cons (two f g))) frame store Q
  comes_cons {f} {g} c = comes_prim (argument_and (weaker c (λ x fr st d. argument_and (weaker d (λ y fr st r. no_arguments_left (λ around z h.
      requests 2 0 z (λ entered. gives (object (length entered.store)) (stored (cons x y) (charged 2 entered))) (kept_in_frame h)
      (given (object (length z.store)) (stored (cons x y) (charged 2 (with_words 2 0 z))) (one_more 2 2 (cons x y) z h)
      (subst (λ (n : ℕ). Q (object n) fr (st ++ cons x y ∷ [])) (sym (ap length h.objects_are)) r))))))))

  -- another second part of a cons, which is none of those that are kept
  pub comes_set_cdr : {f g : Form}
      → ComesPrinting s said said places (a_form k f) frame store (λ x fr st. ComesPrinting s said said places (a_form k g) fr st (λ y fr st.
      (c : Cell st y) × IsExtended Object s.kept (slice_set st c.number (cons c.first x)) × Q x fr (slice_set st c.number (cons c.first x))))
      → ComesPrinting s said said places (a_form k (prim SetCdr (two f g))) frame store Q
  comes_set_cdr {f} {g} c = comes_prim (argument_and (weaker c (λ x fr st d. argument_and (weaker d (λ y fr st r. no_arguments_left (λ around z h.
      let now : Object = cons r.0.first x in
      let is : primitive s.names s.program SetCdr (x ∷ y ∷ []) z ≡ result x (changed r.0.number now z) =
      ap (λ o. needs (as_cons o) (domain_error y cons_class z) (λ (p : Value × Value). result x (change y (cons p.0 x) z))) (fetched z h y ∙ cell_in r.0)
      ∙ ap (λ u. result x (change u now z)) r.0.is in
      subst (λ a. Runs s (After s said Q) (answered (at s k) a around z)) (sym is)
      (given x (changed r.0.number now z)
      (record {
        objects_are = ap (λ os. slice_set os r.0.number now) h.objects_are;
        extended = r.1;
        variables_are = h.variables_are;
        printed_are = h.printed_are;
        may_be = h.may_be;
        input_is = h.input_is;
        globals_are = h.globals_are;
        dynamics_are = h.dynamics_are;
        symbols_are = h.symbols_are;
      })
      r.2)))))))

  -- one of two integers that has a result
  pub comes_integers : {which : Primitive} {f g : Form} (op : ℤ → ℤ → State → Answer)
      → ((a b : ℤ) (z : State) → primitive s.names s.program which (integer a ∷ integer b ∷ []) z ≡ op a b z)
      → ComesPrinting s said said places (a_form k f) frame store (λ x fr st. ComesPrinting s said said places (a_form k g) fr st (λ y fr st.
      (a : ℤ) × (b : ℤ) × (w : Value) × (x ≡ integer a) × (y ≡ integer b) × ((z : State) → op a b z ≡ result w z) × Q w fr st))
      → ComesPrinting s said said places (a_form k (prim which (two f g))) frame store Q
  comes_integers {which} {f} {g} op is c = of_two (weaker c (λ x fr st d. weaker d (λ y fr st r. (
    r.2,
    (λ z h. ap (λ v. primitive s.names s.program which (v ∷ y ∷ []) z) r.3 ∙ ap (λ v. primitive s.names s.program which (integer r.0 ∷ v ∷ []) z) r.4
        ∙ is r.0 r.1 z ∙ r.5 z),
    r.6,
  ))))

  -- a character of a string
  pub comes_char_at : {f g : Form}
      → ComesPrinting s said said places (a_form k f) frame store (λ x fr st. ComesPrinting s said said places (a_form k g) fr st (λ y fr st.
      (bytes : List ℕ) × (i : ℕ) × (object_in st x ≡ Some (string bytes)) × (y ≡ integer (pos i)) × (i < length bytes)
      × Q (character (slice_index_or bytes i 0)) fr st))
      → ComesPrinting s said said places (a_form k (prim CharAt (two f g))) frame store Q
  comes_char_at {f} {g} c = of_two (weaker c (λ x fr st d. weaker d (λ y fr st r. (
    character (slice_index_or r.0 r.1 0),
    (λ z h.
        let chosen : List ℕ → ℕ → Answer = λ bytes i. result (character (slice_index_or bytes i 0)) z in
        let within : nat_lt r.1 (length r.0) ≡ true = tested r.1 (length r.0) r.4 in
        ap (λ o. needs (as_string o) (domain_error x string_class z) (λ bytes. an_integer y z (λ n. an_index n (length bytes) z (chosen bytes)))) (fetched z h x ∙ r.2)
        ∙ ap (λ v. an_integer v z (λ n. an_index n (length r.0) z (chosen r.0))) r.3
        ∙ ap (λ (b : Bool). needs (if b then Some r.1 else None) (program_error z) (chosen r.0)) within),
    r.5,
  ))))

  -- the length of a string and of a vector, and an element of a vector
  pub comes_string_length : {f : Form} → ComesPrinting s said said places (a_form k f) frame store (λ x fr st.
      (bytes : List ℕ) × (object_in st x ≡ Some (string bytes)) × Q (integer (pos (length bytes))) fr st)
      → ComesPrinting s said said places (a_form k (prim StringLength (one f))) frame store Q
  comes_string_length {f} c = of_one (weaker c (λ x fr st r. (
    integer (pos (length r.0)),
    (λ z h. ap (λ o. needs (as_string o) (domain_error x string_class z) (λ bytes. result (integer (pos (length bytes))) z)) (fetched z h x ∙ r.1)),
    r.2,
  )))

  pub comes_vector_length : {f : Form} → ComesPrinting s said said places (a_form k f) frame store (λ x fr st.
      (vs : List Value) × (object_in st x ≡ Some (vector vs)) × Q (integer (pos (length vs))) fr st)
      → ComesPrinting s said said places (a_form k (prim VectorLength (one f))) frame store Q
  comes_vector_length {f} c = of_one (weaker c (λ x fr st r. (
    integer (pos (length r.0)),
    (λ z h. ap (λ o. needs (as_vector o) (domain_error x vector_class z) (λ vs. result (integer (pos (length vs))) z)) (fetched z h x ∙ r.1)),
    r.2,
  )))

  pub comes_vector_ref : {f g : Form}
      → ComesPrinting s said said places (a_form k f) frame store (λ x fr st. ComesPrinting s said said places (a_form k g) fr st (λ y fr st.
      (vs : List Value) × (i : ℕ) × (object_in st x ≡ Some (vector vs)) × (y ≡ integer (pos i)) × (i < length vs) × Q (slice_index_or vs i nil) fr st))
      → ComesPrinting s said said places (a_form k (prim VectorRef (two f g))) frame store Q
  comes_vector_ref {f} {g} c = of_two (weaker c (λ x fr st d. weaker d (λ y fr st r. (
    slice_index_or r.0 r.1 nil,
    (λ z h.
        let chosen : List Value → ℕ → Answer = λ vs i. result (slice_index_or vs i nil) z in
        let within : nat_lt r.1 (length r.0) ≡ true = tested r.1 (length r.0) r.4 in
        ap (λ o. needs (as_vector o) (domain_error x vector_class z) (λ vs. an_integer y z (λ n. an_index n (length vs) z (chosen vs)))) (fetched z h x ∙ r.2)
        ∙ ap (λ v. an_integer v z (λ n. an_index n (length r.0) z (chosen r.0))) r.3
        ∙ ap (λ (b : Bool). needs (if b then Some r.1 else None) (program_error z) (chosen r.0)) within),
    r.5,
  ))))

  -- an instance of a class
  pub comes_instance : {f g : Form}
      → ComesPrinting s said said places (a_form k f) frame store (λ x fr st. ComesPrinting s said said places (a_form k g) fr st (λ y fr st.
      (class : ℕ) × (number : ℕ) × (y ≡ object number) × (slice_get st number ≡ Some (class_object class)) × IsInstanceOf s.program class st x × Q t fr st))
      → ComesPrinting s said said places (a_form k (prim IsInstance (two f g))) frame store Q
  comes_instance {f} {g} c = comes_prim (argument_and (weaker c (λ x fr st d. argument_and (weaker d (λ y fr st r. no_arguments_left (λ around z h.
      let told : ℕ → Answer = λ d. says (is_below s.program (class_of z x) d) (charged (passed (λ e. d == e) (precedence s.program (class_of z x))) z) in
      let counted : State = charged (passed (λ e. r.0 == e) (precedence s.program (class_of z x))) z in
      let is : primitive s.names s.program IsInstance (x ∷ y ∷ []) z ≡ result t counted =
      ap (λ v. primitive s.names s.program IsInstance (x ∷ v ∷ []) z) r.2
      ∙ ap (λ o. needs (as_class o) (domain_error (object r.1) standard_class_class z) told) (ap (λ os. slice_get os r.1) h.objects_are ∙ r.3)
      ∙ ap (λ b. says b counted) (instance_in z h r.0 x r.4) in
      subst (λ a. Runs s (After s said Q) (answered (at s k) a around z)) (sym is) (given t counted h r.5)))))))

  -- a new string of so many characters, all the same
  pub comes_make_string : {f g : Form}
      → ComesPrinting s said said places (a_form k f) frame store (λ x fr st. ComesPrinting s said said places (a_form k g) fr st (λ y fr st.
      (n : ℕ) × (c : ℕ) × (x ≡ integer (pos n)) × (y ≡ character c) × Q (object (length st)) fr (st ++ string (replicate n c) ∷ [])))
      → ComesPrinting s said said places (a_form k (prim MakeString (two f g))) frame store Q
  comes_make_string {f} {g} c = comes_prim (argument_and (weaker c (λ x fr st d. argument_and (weaker d (λ y fr st r. no_arguments_left (λ around z h.
      let bytes : List ℕ = replicate r.0 r.1 in
      let made : Object = string bytes in
      let size : ℕ = 2 + (length bytes + 3) / 4 in
      let is : primitive s.names s.program MakeString (x ∷ y ∷ []) z ≡ makes size (length bytes) made z =
      ap (λ v. primitive s.names s.program MakeString (v ∷ y ∷ []) z) r.2 ∙ ap (λ v. primitive s.names s.program MakeString (integer (pos r.0) ∷ v ∷ []) z) r.3 in
      subst (λ a. Runs s (After s said Q) (answered (at s k) a around z)) (sym is)
      (requests size 0 z (λ entered. gives (object (length entered.store)) (stored made (charged (size + length bytes) entered))) (kept_in_frame h)
      (given (object (length z.store)) (stored made (charged (size + length bytes) (with_words size 0 z))) (one_more size (size + length bytes) made z h)
      (subst (λ (n : ℕ). Q (object n) fr (st ++ made ∷ [])) (sym (ap length h.objects_are)) r.4)))))))))

  -- another character of a string, which is none of those that are kept
  pub comes_set_char : {f g e : Form}
      → ComesPrinting s said said places (a_form k f) frame store (λ x fr st. ComesPrinting s said said places (a_form k g) fr st (λ y fr st.
      ComesPrinting s said said places (a_form k e) fr st (λ w fr st.
      (c : ℕ) × (number : ℕ) × (bytes : List ℕ) × (i : ℕ) × (x ≡ character c) × (y ≡ object number) × (slice_get st number ≡ Some (string bytes))
      × (w ≡ integer (pos i)) × (i < length bytes) × IsExtended Object s.kept (slice_set st number (string (slice_set bytes i c)))
      × Q (character c) fr (slice_set st number (string (slice_set bytes i c))))))
      → ComesPrinting s said said places (a_form k (prim SetCharAt (three f g e))) frame store Q
  comes_set_char {f} {g} {e} c = comes_prim (argument_and (weaker c (λ x fr st d. argument_and (weaker d (λ y fr st b. argument_and (weaker b (λ w fr st r.
      no_arguments_left (λ around z h.
      let now : Object = string (slice_set r.2 r.3 r.0) in
      let chosen : List ℕ → ℕ → Answer = λ bytes i. result (character r.0) (changed r.1 (string (slice_set bytes i r.0)) z) in
      let is : primitive s.names s.program SetCharAt (x ∷ y ∷ w ∷ []) z ≡ result (character r.0) (changed r.1 now z) =
      ap (λ v. primitive s.names s.program SetCharAt (v ∷ y ∷ w ∷ []) z) r.4
      ∙ ap (λ v. primitive s.names s.program SetCharAt (character r.0 ∷ v ∷ w ∷ []) z) r.5
      ∙ ap (λ v. primitive s.names s.program SetCharAt (character r.0 ∷ object r.1 ∷ v ∷ []) z) r.7
      ∙ ap (λ o. needs (as_string o) (domain_error (object r.1) string_class z) (λ bytes. an_index (pos r.3) (length bytes) z (chosen bytes)))
      (ap (λ os. slice_get os r.1) h.objects_are ∙ r.6)
      ∙ ap (λ (b : Bool). needs (if b then Some r.3 else None) (program_error z) (chosen r.2)) (tested r.3 (length r.2) r.8) in
      subst (λ a. Runs s (After s said Q) (answered (at s k) a around z)) (sym is)
      (given (character r.0) (changed r.1 now z)
      (record {
        objects_are = ap (λ os. slice_set os r.1 now) h.objects_are;
        extended = r.9;
        variables_are = h.variables_are;
        printed_are = h.printed_are;
        may_be = h.may_be;
        input_is = h.input_is;
        globals_are = h.globals_are;
        dynamics_are = h.dynamics_are;
        symbols_are = h.symbols_are;
      })
      r.10)))))))))

  -- a character is put
  pub comes_put : {f g : Form} {c : ℕ} → s.may (said ++ c ∷ [])
      → ComesPrinting s said said places (a_form k f) frame store (λ x fr st. ComesPrinting s said said places (a_form k g) fr st (λ y fr st.
      (object_in st x ≡ Some output_stream) × (y ≡ character c) × Q nil fr st))
      → ComesPrinting s said (said ++ c ∷ []) places (a_form k (prim PutChar (two f g))) frame store Q
  comes_put {f} {g} {c} may e = comes_prim (argument_and (weaker e (λ x fr st d. argument_and (weaker d (λ y fr st r. no_arguments_left (λ around z h.
      let is : primitive s.names s.program PutChar (x ∷ y ∷ []) z ≡ result nil (record z { printed = z.printed ++ c ∷ [] }) =
      ap (λ o. needs (as_stream o) (domain_error x stream_class z) (λ is_output. a_character y z (λ c.
      if is_output then result nil (record z { printed = z.printed ++ c ∷ [] }) else domain_error x stream_class z))) (fetched z h x ∙ r.0)
      ∙ ap (λ v. a_character v z (λ c. result nil (record z { printed = z.printed ++ c ∷ [] }))) r.1 in
      subst (λ a. Runs s (After s (said ++ c ∷ []) Q) (answered (at s k) a around z)) (sym is)
      (given nil (record z { printed = z.printed ++ c ∷ [] })
      (record {
        objects_are = h.objects_are;
        extended = h.extended;
        variables_are = h.variables_are;
        printed_are = ap (λ text. text ++ c ∷ []) h.printed_are;
        may_be = may;
        input_is = h.input_is;
        globals_are = h.globals_are;
        dynamics_are = h.dynamics_are;
        symbols_are = h.symbols_are;
      })
      r.2)))))))

-- results that are in range
pub ranged : (n c : ℤ) → n ≡ c → in_range c ≡ true → (z : State) → integer_result n z ≡ result (integer c) z
ranged n c e r z =
    ap (λ m. integer_result m z) e ∙ ap (λ (b : Bool). if b then result (integer c) z else fails integer_overflow_class [] z) r

pub said_to_be : (b c : Bool) → b ≡ c → (z : State) → says b z ≡ result (truth c) z
said_to_be b c e z = ap (λ b. says b z) e
