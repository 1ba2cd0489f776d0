-- The quick way of an element of a vector.
use Rattle.std.proofs.Common.{◌≡◌, ℕ, ◌+◌, ◌-◌, ◌*◌, ◌^◌, ◌<◌, ◌≤◌, ℤ, Bool, true, false, List, [], ◌∷◌, ◌++◌, length, Option, Some, None, refl, sym, ap, ◌∙◌, subst, arith}
use Rattle.std.specs.Prelude.{slice_set, slice_index_or, ◌==◌, ◌%◌, is_some, if◌then◌else◌}
use Rattle.std.proofs.lemmas.Bool.Decides.{nat_tests}
use Rattle.std.proofs.Math.ListN.{length-set}
use Rattle.lang_meaning.specs.Classes.{fetch}
use Rattle.lang_meaning.specs.declared.primitive.Primitive.TheVariants.{VectorRef}
use Rattle.lang_meaning.specs.Objects.{vector, vector_class, integer_class}
use Rattle.lang_meaning.specs.Primitives.{result, domain_error, program_error, needs, as_vector, as_integer, index_of}
use Rattle.lang_meaning.specs.Values.{Value, nil, in_range}
use Rattle.flat_language.specs.FlatForm.{FlatForm, no_form, form_and}
use Rattle.flat_language.specs.FlatNodes.{tables}
use Rattle.flat_language.specs.FlatSignals.{answered}
use Rattle.flat_language.specs.FlatState.{FlatEvaluated, gives}
use Rattle.mid_code.specs.declared.operation.Arithmetic.TheVariants as how
use Rattle.mid_code.specs.declared.operation.Comparison.TheVariants.{Equal, Different, LessUnsigned}
use Rattle.mid_code.specs.Arena.{word_at}
use Rattle.mid_code.specs.Meaning.{Context, exec}
use Rattle.mid_code.specs.MidCode.{MidStep, code_of}
use Rattle.mid_code.specs.State.{Registers, register, MidState}
use Rattle.mid_code.specs.State.{charged as mid_charged}
use Rattle.mid_code.specs.Words.{compares}
use Rattle.mid_arena.specs.Places.{word_of}
use Rattle.mid_arena.specs.Represents.{Represents}
use Rattle.mid_arena.specs.Tags.{object_tag, vector_header, integer_word}
use Rattle.mid_arena.proofs.Arguments.{ObjectFound, object_found, word_told}
use Rattle.mid_arena.proofs.Memory.{spot_low}
use Rattle.mid_arena.proofs.Registers.{register_here, register_beside}
use Rattle.mid_arena.proofs.Running.{and_then, none_left, costing, constant_falls, compute_known, load_falls, address_above, address_below, choose_second_falls}
use Rattle.mid_arena.proofs.Telling.{FoundByHeader, found_kind, found_other_kind, found_other_tag, vector_told, IntegerTold, integer_found, no_integer, integer_told}
use Rattle.mid_arena.proofs.WordFacts.{sum_fits, index_is, index_word, index_tested}
use Rattle.back_lowering.specs.Primitives.{element_where, where_integers, where_tag, where_likely_tag, asked_integers, known_integer}
use Rattle.back_lowering.specs.Registers.{of_code, enough_for}
use Rattle.back_lowering.specs.Steps.{Steps, constant, compute, load, load_header, where_so, if_equal, if_likely_equal, if_different}
use Rattle.back_relation.specs.Setting.{Setting}
use Rattle.back_relation.specs.Forms.{context_at, code_at}
use Rattle.back_relation.specs.Starts.{Start, EndsAt}
use Rattle.back_relation.proofs.Fitting.{registers_behind}
use Rattle.back_primitives.specs.Applying.{Applies, primitive_credit}
use Rattle.back_primitives.specs.Calling.{KnownWords}
use Rattle.back_primitives.proofs.Answered.{SignalPaid}
use Rattle.back_primitives.proofs.Choosing.{Beside, beside_none, beside_set, beside_less, beside_then, low_bits, start_beside, quick_ends, Chosen, chosen_ends, compared, in_sum}
use Rattle.back_primitives.proofs.EachCost.{quick_paid}
use Rattle.back_primitives.proofs.Quick.{named, branches_named, answer_up, meant, slow, slow_ends}
use Rattle.back_primitives.proofs.QuickKinds.{behind_steps}
use Rattle.back_primitives.proofs.QuickNumbers.{asked_by, known_tag}
use Rattle.back_primitives.proofs.Trying.{Tried, tried_none, tried_behind, tried_where, tried_likely}

module _ (setting : Setting) (k : ℕ) (a : Start setting) (v1 v2 : Value) (w1 w2 : ℕ) (f1 f2 : FlatForm)
    (g : Applies setting k a VectorRef (v1 ∷ v2 ∷ []) (w1 ∷ w2 ∷ []))
    (known : KnownWords setting.at setting.program.literals (form_and f1 (form_and f2 no_form)) (w1 ∷ w2 ∷ [])) where
  abbrev c : Context
  c = code_at setting k a.turns

  abbrev d : ℕ
  d = a.d

  abbrev t : ℕ
  t = a.d + 2

  abbrev slowly : Steps
  slowly = slow setting k a VectorRef (v1 ∷ v2 ∷ []) (w1 ∷ w2 ∷ []) g

  abbrev the_meaning : FlatEvaluated
  the_meaning = meant setting k a VectorRef (v1 ∷ v2 ∷ []) (w1 ∷ w2 ∷ []) g

  represented : Represents setting.names (tables setting.program) a.w.places a.z.state a.y
  represented = a.begins.call.things.represents

  -- the parts of the code, from the innermost on
  abbrev element : Steps
  element = compute (t + 1) how.Add d (d + 1) ∷ load d (t + 1) 6 ∷ constant t 0 ∷ []

  abbrev counted : Steps
  counted = load (t + 1) d 2 ∷ where_so LessUnsigned (d + 1) (t + 1) element [] ∷ []

  abbrev headed : List ℕ → Steps
  headed asked = load_header (t + 1) d ∷ constant (t + 2) vector_header ∷ if_equal (t + 1) (t + 2) (where_integers asked (t + 1) counted []) [] ∷ []

  abbrev front : List ℕ → Steps
  front asked = constant t 1 ∷ where_tag d (t + 1) object_tag (headed asked) []

  abbrev last : Steps
  last = constant (t + 1) 0 ∷ if_different t (t + 1) slowly [] ∷ []

  -- registers of which the first two are those of the arguments, and t says that nothing was taken
  record Ready (regs : Registers) : Type 0 where
    pub first : register d regs ≡ Some w1
    pub second : register (d + 1) regs ≡ Some w2
    pub flag : register t regs ≡ Some 1
    pub there : t + 2 < length regs

  ready_set : {regs : Registers} (r word : ℕ) → t < r → Ready regs → Ready (slice_set regs r (Some word))
  ready_set {regs} r word low h = record {
    first = register_beside regs r d (Some word) (λ e. omega (arith, e, low)) ∙ h.first;
    second = register_beside regs r (d + 1) (Some word) (λ e. omega (arith, e, low)) ∙ h.second;
    flag = register_beside regs r t (Some word) (λ e. omega (arith, e, low)) ∙ h.flag;
    there = let few = h.there in omega (arith, few, length-set regs r (Some word));
  }

  beside_two : (regs : Registers) (r word : ℕ) → t ≤ r → Beside (d + 2) regs (slice_set regs r (Some word))
  beside_two regs r word low = beside_set r word low (beside_none (d + 2) regs)

  -- the tag of a word is asked by some choice
  tag_tried_by :
      {o : Option ℕ} (most of w tag : ℕ) (choice : MidStep) (regs : Registers) (y : MidState) → Ready regs → register of regs ≡ Some w → of < t
      → ((regs' : Registers) (y' : MidState) → Ready regs' → y'.arena ≡ y.arena → register (t + 1) regs' ≡ Some (w % 4) → register (t + 1 + 1) regs' ≡ Some tag
      → Tried c d t regs' y' (most + 14) (choice ∷ []) o)
      → Tried c d t regs y (most + 36) (constant (t + 1) 3 ∷ compute (t + 1) how.And of (t + 1) ∷ constant (t + 1 + 1) tag ∷ choice ∷ []) o
  tag_tried_by {o} most of w tag choice regs y ready held low does =
      let r1 : Registers = slice_set regs (t + 1) (Some 3) in
      let r2 : Registers = slice_set r1 (t + 1) (Some (w % 4)) in
      let r3 : Registers = slice_set r2 (t + 1 + 1) (Some tag) in
      let n1 : length r1 ≡ length regs = length-set regs (t + 1) (Some 3) in
      let n2 : length r2 ≡ length r1 = length-set r1 (t + 1) (Some (w % 4)) in
      let there = ready.there in
      let of_there : register of r1 ≡ Some w = register_beside regs (t + 1) of (Some 3) (λ e. omega (arith, e, low)) ∙ held in
      let mask : register (t + 1) r1 ≡ Some 3 = register_here regs (t + 1) 3 (omega (arith, there)) in
      let left_there : register (t + 1) r3 ≡ Some (w % 4) =
      register_beside r2 (t + 1 + 1) (t + 1) (Some tag) (λ e. omega (arith, e)) ∙ register_here r1 (t + 1) (w % 4) (omega (arith, there, n1)) in
      let right_there : register (t + 1 + 1) r3 ≡ Some tag = register_here r2 (t + 1 + 1) tag (omega (arith, there, n1, n2)) in
      tried_behind c d t {most = most + 30} (constant (t + 1) 3) _ 6 regs r1 y constant_falls (beside_two regs (t + 1) 3 (omega arith)) (omega arith)
      (tried_behind c d t {most = most + 20} (compute (t + 1) how.And of (t + 1)) _ 10 r1 r2 (mid_charged 6 y) (compute_known of_there mask (low_bits w))
      (beside_two r1 (t + 1) (w % 4) (omega arith)) (omega arith)
      (tried_behind c d t {most = most + 14} (constant (t + 1 + 1) tag) _ 6 r2 r3 (mid_charged 10 (mid_charged 6 y)) constant_falls (beside_two r2 (t + 1 + 1) tag (omega arith)) (omega arith)
      (does r3 (mid_charged 6 (mid_charged 10 (mid_charged 6 y)))
      (ready_set (t + 1 + 1) tag (omega arith) (ready_set (t + 1) (w % 4) (omega arith) (ready_set (t + 1) 3 (omega arith) ready))) refl left_there right_there)))

  -- where nothing is done behind another one
  tag_tried :
      {o : Option ℕ} {most : ℕ} (of w tag : ℕ) (first : Steps) (b : Bool) (regs : Registers) (y : MidState) → Ready regs → register of regs ≡ Some w → of < t → (w % 4 == tag) ≡ b
      → ((regs' : Registers) (y' : MidState) → Ready regs' → y'.arena ≡ y.arena → Tried c d t regs' y' most (if b then first else []) o)
      → Tried c d t regs y (most + 36) (where_tag of (t + 1) tag first []) o
  tag_tried {o} {most} of w tag first b regs y ready held low so does =
      tag_tried_by most of w tag (if_equal (t + 1) (t + 1 + 1) first []) regs y ready held low
      (λ regs' y' ready' same left right.
      tried_where c d t {most = most} Equal (t + 1) (t + 1 + 1) (w % 4) tag first [] b regs' y' left right so (omega arith)
      (does regs' (mid_charged 12 y') ready' same))

  likely_tag_tried :
      {o : Option ℕ} {most : ℕ} (of w tag : ℕ) (likely : Steps) (b : Bool) (regs : Registers) (y : MidState) → Ready regs → register of regs ≡ Some w → of < t → (w % 4 == tag) ≡ b
      → ((regs' : Registers) (y' : MidState) → Ready regs' → y'.arena ≡ y.arena → Tried c d t regs' y' most (if b then likely else []) o)
      → Tried c d t regs y (most + 36) (where_likely_tag of (t + 1) tag likely []) o
  likely_tag_tried {o} {most} of w tag likely b regs y ready held low so does =
      tag_tried_by most of w tag (if_likely_equal (t + 1) (t + 1 + 1) likely []) regs y ready held low
      (λ regs' y' ready' same left right.
      tried_likely c d t {most = most} (t + 1) (t + 1 + 1) (w % 4) tag likely [] b regs' y' left right so (omega arith)
      (does regs' (mid_charged 12 y') ready' same))

  -- what was found out
  data Found (most : ℕ) (regs : Registers) (y : MidState) (code : Steps) : Type 0 where
    taken : (word : ℕ) (u : Value) → word_of a.w.places u ≡ Some word → the_meaning ≡ gives u a.z → Tried c d t regs y most code (Some word) → Found most regs y code
    not_taken : Tried c d t regs y most code None → Found most regs y code

  module _ (regs : Registers) (y : MidState) (ready : Ready regs) (same : y.arena ≡ a.y.arena) where
    -- an element of the vector
    element_tried :
        (word x : ℕ) → x ≡ w1 + w2 + 6 → x < 2 ^ 32 → word_at a.y.arena x ≡ Some word → Tried c d t regs y 24 element (Some word)
    element_tried word x is low stands =
        let r1 : Registers = slice_set regs (t + 1) (Some (w1 + w2)) in
        let r2 : Registers = slice_set r1 d (Some word) in
        let r3 : Registers = slice_set r2 t (Some 0) in
        let there = ready.there in
        let n1 : length r1 ≡ length regs = length-set regs (t + 1) (Some (w1 + w2)) in
        let n2 : length r2 ≡ length r1 = length-set r1 d (Some word) in
        record {
          regs' = r3;
          cost = 24;
          run =
              costing {n = y.cost + 24}
              (and_then (compute_known ready.first ready.second (sum_fits w1 w2 (omega (arith, is, low))))
              (and_then (load_falls (register_here regs (t + 1) (w1 + w2) (omega (arith, there))) (address_above (w1 + w2) 6 x (omega (arith, is)) low)
              (ap (λ m. word_at m x) same ∙ stands))
              (and_then constant_falls none_left)))
              (omega arith);
          within = omega arith;
          kept = (
            beside_set t 0 (omega arith) (beside_set d word (omega arith) (beside_set (t + 1) (w1 + w2) (omega arith) (beside_none d regs))),
            register_beside r2 t d (Some 0) (λ e. omega (arith, e)) ∙ register_here r1 d word (omega (arith, there, n1)),
            register_here r2 t 0 (omega (arith, there, n1, n2)),
          );
        }

    -- the number of elements is asked
    counted_tried :
        {o : Option ℕ} (count x : ℕ) (b : Bool) → x ≡ w1 + 2 → x < 2 ^ 32 → word_at a.y.arena x ≡ Some count → compares LessUnsigned w2 count ≡ b
        → ((regs' : Registers) (y' : MidState) → Ready regs' → y'.arena ≡ a.y.arena → Tried c d t regs' y' 24 (if b then element else []) o)
        → Tried c d t regs y 46 counted o
    counted_tried {o} count x b is low stands so does =
        let r1 : Registers = slice_set regs (t + 1) (Some count) in
        let there = ready.there in
        tried_behind c d t {most = 38} (load (t + 1) d 2) _ 8 regs r1 y
        (load_falls ready.first (address_above w1 2 x (omega (arith, is)) low) (ap (λ m. word_at m x) same ∙ stands)) (beside_two regs (t + 1) count (omega arith)) (omega arith)
        (tried_where c d t {most = 24} LessUnsigned (d + 1) (t + 1) w2 count element [] b r1 (mid_charged 8 y) (ready_set (t + 1) count (omega arith) ready).second
        (register_here regs (t + 1) count (omega (arith, there))) so (omega arith)
        (does r1 (mid_charged 12 (mid_charged 8 y)) (ready_set (t + 1) count (omega arith) ready) same))

    -- whether the header is a vector's
    headed_tried :
        {o : Option ℕ} (asked : List ℕ) (h : ℕ) (b : Bool) → 2 ≤ w1 → w1 < 2 ^ 32 → word_at a.y.arena (w1 - 2) ≡ Some h → (h == vector_header) ≡ b
        → ((regs' : Registers) (y' : MidState) → Ready regs' → y'.arena ≡ a.y.arena → Tried c d t regs' y' 82 (if b then where_integers asked (t + 1) counted [] else []) o)
        → Tried c d t regs y 110 (headed asked) o
    headed_tried {o} asked h b some low stands so does =
        let r1 : Registers = slice_set regs (t + 1) (Some h) in
        let r2 : Registers = slice_set r1 (t + 2) (Some vector_header) in
        let there = ready.there in
        let n1 : length r1 ≡ length regs = length-set regs (t + 1) (Some h) in
        tried_behind c d t {most = 102} (load_header (t + 1) d) _ 8 regs r1 y
        (load_falls ready.first (address_below w1 1 (w1 - 2) (omega (arith, some)) low) (ap (λ m. word_at m (w1 - 2)) same ∙ stands)) (beside_two regs (t + 1) h (omega arith)) (omega arith)
        (tried_behind c d t {most = 96} (constant (t + 2) vector_header) _ 6 r1 r2 (mid_charged 8 y) constant_falls (beside_two r1 (t + 2) vector_header (omega arith)) (omega arith)
        (tried_where c d t {most = 82} Equal (t + 1) (t + 2) h vector_header (where_integers asked (t + 1) counted []) [] b r2 (mid_charged 6 (mid_charged 8 y))
        (register_beside r1 (t + 2) (t + 1) (Some vector_header) (λ e. omega (arith, e)) ∙ register_here regs (t + 1) h (omega (arith, there)))
        (register_here r1 (t + 2) vector_header (omega (arith, there, n1))) so (omega arith)
        (does r2 (mid_charged 12 (mid_charged 6 (mid_charged 8 y)))
        (ready_set (t + 2) vector_header (omega arith) (ready_set (t + 1) h (omega arith) ready)) same)))

    tried_less : {o : Option ℕ} {few many : ℕ} {code : Steps} → few ≤ many → Tried c d t regs y few code o → Tried c d t regs y many code o
    tried_less l h = record { regs' = h.regs'; cost = h.cost; run = h.run; within = let small = h.within in omega (arith, small, l); kept = h.kept }

  -- the first steps, where the tag is the one of other objects, or not
  front_tried :
      {o : Option ℕ} (asked : List ℕ) (b : Bool) → t + 2 < length a.regs → (w1 % 4 == object_tag) ≡ b
      → ((regs' : Registers) (y' : MidState) → Ready regs' → y'.arena ≡ a.y.arena → Tried c d t regs' y' 110 (if b then headed asked else []) o)
      → Tried c d t a.regs a.y 152 (front asked) o
  front_tried asked b there so does =
      let r1 : Registers = slice_set a.regs t (Some 1) in
      let ready : Ready r1 = record {
        first = register_beside a.regs t d (Some 1) (λ e. omega (arith, e)) ∙ g.in_registers.0;
        second = register_beside a.regs t (d + 1) (Some 1) (λ e. omega (arith, e)) ∙ g.in_registers.1.0;
        flag = register_here a.regs t 1 (omega (arith, there));
        there = omega (arith, there, length-set a.regs t (Some 1));
      } in
      tried_behind c d t {most = 146} (constant t 1) _ 6 a.regs r1 a.y constant_falls (beside_two a.regs t 1 (omega arith)) (omega arith)
      (tag_tried {most = 110} d w1 object_tag (headed asked) b r1 (mid_charged 6 a.y) ready ready.first (omega arith) so (λ regs' y' ready' same. does regs' y' ready' same))

  nothing_tried : (most : ℕ) (regs : Registers) (y : MidState) → Ready regs → Tried c d t regs y most [] None
  nothing_tried most regs y ready = tried_none c d t regs y most ready.flag

  -- ---- what is found out

  -- where the first is a vector, and the second is asked as far as it is not known
  module _ (us : List Value) (is_vector : as_vector (fetch a.z.state v1) ≡ Some us)
      (it : ObjectFound setting.names (tables setting.program) a.w.places a.z.state a.y represented v1 w1 (vector us)) where
    start_low : it.spot.address + 8 + 4 * length us ≤ 2 ^ 26
    start_low = let high = spot_low represented.arena it.spot_stands in omega (arith, high, it.stands.size.words)

    -- the element is there
    counted_found :
        {o : Option ℕ} (n : ℤ) (b : Bool) → in_range n ≡ true → w2 ≡ integer_word n → is_some (index_of n (length us)) ≡ b
        → ((regs' : Registers) (y' : MidState) → Ready regs' → y'.arena ≡ a.y.arena → Tried c d t regs' y' 24 (if b then element else []) o)
        → (regs : Registers) (y : MidState) → Ready regs → y.arena ≡ a.y.arena → Tried c d t regs y 46 counted o
    counted_found n b r x so does regs y ready same =
        counted_tried regs y ready same (4 * length us) (it.spot.address + 4) b (omega (arith, it.word)) (omega (arith, start_low)) it.stands.count
        (ap (λ w. compares LessUnsigned w (4 * length us)) x ∙ index_tested n (length us) r (omega (arith, start_low)) ∙ so) does

    asked_found :
        {o : Option ℕ} (n : ℤ) (known_second : Option ℕ) → (w2 % 4 == 0) ≡ true
        → ((regs : Registers) (y : MidState) → Ready regs → y.arena ≡ a.y.arena → Tried c d t regs y 46 counted o)
        → (regs : Registers) (y : MidState) → Ready regs → y.arena ≡ a.y.arena → Tried c d t regs y 82 (where_integers (asked_by (d + 1) known_second []) (t + 1) counted []) o
    asked_found n None so does regs y ready same =
        likely_tag_tried {most = 46} (d + 1) w2 0 counted true regs y ready ready.second (omega arith) so (λ regs' y' ready' again. does regs' y' ready' (again ∙ same))
    asked_found n (Some u) so does regs y ready same = tried_less regs y ready same {few = 46} (omega arith) (does regs y ready same)

    -- what is meant where the index is right
    element_meant :
        (n : ℤ) (i : ℕ) → as_integer v2 ≡ Some n → index_of n (length us) ≡ Some i → the_meaning ≡ gives (slice_index_or us i nil) a.z
    element_meant n i e f =
        ap (λ o. answered (context_at setting k)
        (needs o (domain_error v1 vector_class a.z.state) (λ vs. needs (as_integer v2) (domain_error v2 integer_class a.z.state) (λ m.
        needs (index_of m (length vs)) (program_error a.z.state) (λ j. result (slice_index_or vs j nil) a.z.state)))) a.around a.z) is_vector
        ∙ ap (λ o. answered (context_at setting k)
        (needs o (domain_error v2 integer_class a.z.state) (λ m.
        needs (index_of m (length us)) (program_error a.z.state) (λ j. result (slice_index_or us j nil) a.z.state))) a.around a.z) e
        ∙ ap (λ o. answered (context_at setting k)
        (needs o (program_error a.z.state) (λ j. result (slice_index_or us j nil) a.z.state)) a.around a.z) f

  found_out :
      (known_second : Option ℕ) → known_integer setting.at setting.program.literals f2 ≡ known_second → t + 2 < length a.regs
      → Found 152 a.regs a.y (front (asked_by (d + 1) known_second []))
  found_out known_second is_known there = by (vector_told setting.names (tables setting.program) a.w.places a.z.state a.y represented v1 w1 g.of_values.0)
    where
      asked : List ℕ
      asked = asked_by (d + 1) known_second []

      word_low : w1 < 2 ^ 32
      word_low = word_told setting.names (tables setting.program) a.w.places a.z.state a.y represented v1 w1 g.of_values.0

      two_there : (w1 % 4 == object_tag) ≡ true → 2 ≤ w1
      two_there e = grind (arith, nat_tests)

      -- a second one that is known is an integer
      no_integer_known : (w2 % 4 == 0) ≡ false → (o : Option ℕ) → known_integer setting.at setting.program.literals f2 ≡ o → o ≡ None
      no_integer_known other None e = refl
      no_integer_known other (Some u) e =
          let so : (w2 % 4 == 0) ≡ true = ap (λ w. w % 4 == 0) (known.1.0 u e) ∙ known_tag setting.at setting.program.literals f2 u e in absurd (cc (sym other ∙ so))

      vector_found :
          (us : List Value) → as_vector (fetch a.z.state v1) ≡ Some us
          → ObjectFound setting.names (tables setting.program) a.w.places a.z.state a.y represented v1 w1 (vector us) → (w1 % 4 == object_tag) ≡ true
          → word_at a.y.arena (w1 - 2) ≡ Some vector_header → IntegerTold v2 w2 → Found 152 a.regs a.y (front asked)
      vector_found us is_vector it tag header (no_integer e other) =
          not_taken (front_tried asked true there tag (λ regs y ready same.
          headed_tried regs y ready same asked vector_header true (two_there tag) word_low header refl (λ regs' y' ready' same'.
          subst (λ o. Tried c d t regs' y' 82 (where_integers (asked_by (d + 1) o []) (t + 1) counted []) None) (sym (no_integer_known other known_second is_known))
          (likely_tag_tried {most = 46} (d + 1) w2 0 counted false regs' y' ready' ready'.second (omega arith) other (λ regs'' y'' ready'' again. nothing_tried 46 regs'' y'' ready'')))))
      vector_found us is_vector it tag header (integer_found n e f r x so) = by_index (index_of n (length us)) refl
        where
          by_index : (o : Option ℕ) → index_of n (length us) ≡ o → Found 152 a.regs a.y (front asked)
          by_index None none =
              not_taken (front_tried asked true there tag (λ regs y ready same.
              headed_tried regs y ready same asked vector_header true (two_there tag) word_low header refl
              (asked_found us is_vector it n known_second so
              (counted_found us is_vector it n false r x (ap (λ o. is_some o) none) (λ regs' y' ready' again. nothing_tried 24 regs' y' ready')))))
          by_index (Some i) some =
              let low = (index_is n (length us) i some).1 in
              let at = it.stands.values i low in
              let small = start_low us is_vector it in
              let word_is : w2 ≡ 4 * i = x ∙ index_word n (length us) i (omega (arith, small)) some in
              taken at.word (slice_index_or us i nil) at.of_value (element_meant us is_vector it n i f some)
              (front_tried asked true there tag (λ regs y ready same.
              headed_tried regs y ready same asked vector_header true (two_there tag) word_low header refl
              (asked_found us is_vector it n known_second so
              (counted_found us is_vector it n true r x (ap (λ o. is_some o) some) (λ regs' y' ready' again.
              element_tried regs' y' ready' again at.word (it.spot.address + 8 + 4 * i) (omega (arith, it.word, word_is)) (omega (arith, small, low)) at.stands)))))

      by : FoundByHeader as_vector vector (λ h. h == vector_header) a.y.arena (fetch a.z.state v1) w1 → Found 152 a.regs a.y (front asked)
      by (found_other_tag none other) = not_taken (front_tried asked false there other (λ regs y ready same. nothing_tried 110 regs y ready))
      by (found_other_kind h none tag at other) =
          not_taken (front_tried asked true there tag (λ regs y ready same.
          headed_tried regs y ready same asked h false (two_there tag) word_low at other (λ regs' y' ready' again. nothing_tried 82 regs' y' ready')))
      by (found_kind us e f tag at so) =
          vector_found us f (object_found setting.names (tables setting.program) a.w.places a.z.state a.y represented v1 w1 (vector us) g.of_values.0 e) tag at
          (integer_told setting.names (tables setting.program) a.w.places a.z.state a.y represented v2 w2 g.of_values.1.0)

  -- **an element of a vector**
  pub element_ends :
      enough_for (of_code (code_of (element_where (asked_integers setting.at setting.program.literals (d + 1) (form_and f2 no_form)) d t slowly))) ≤ length a.regs
      → EndsAt setting (primitive_credit VectorRef) a the_meaning
      (exec c (code_of (element_where (asked_integers setting.at setting.program.literals (d + 1) (form_and f2 no_form)) d t slowly)) a.regs a.y)
  element_ends enough = by (known_integer setting.at setting.program.literals f2) refl enough
    where
      up : a.z.state.units ≤ the_meaning.state.state.units
      up = answer_up setting k VectorRef (v1 ∷ v2 ∷ []) a.around a.z

      paid : SignalPaid VectorRef 728
      paid = let cost = quick_paid VectorRef refl in (omega arith, omega (arith, cost))

      by : (o : Option ℕ) → known_integer setting.at setting.program.literals f2 ≡ o → enough_for (of_code (code_of (front (asked_by (d + 1) o []) ++ last))) ≤ length a.regs
          → EndsAt setting (primitive_credit VectorRef) a the_meaning (exec c (code_of (front (asked_by (d + 1) o []) ++ last)) a.regs a.y)
      by o e enough = found (found_out o e there)
        where
          there : t + 2 < length a.regs
          there =
              let next_one : t + 1 + 1 < length a.regs = named (of_code (code_of (front (asked_by (d + 1) o []) ++ last))) 5 (t + 1 + 1) (length a.regs) refl enough in
              omega (arith, next_one)

          slow_enough : enough_for (of_code (code_of slowly)) ≤ length a.regs
          slow_enough =
              (branches_named ((t + 1) ∷ t ∷ (t + 1) ∷ []) (of_code (code_of slowly)) [] (length a.regs)
              (registers_behind (front (asked_by (d + 1) o [])) last (length a.regs) enough)).0

          found : Found 152 a.regs a.y (front (asked_by (d + 1) o [])) → EndsAt setting (primitive_credit VectorRef) a the_meaning (exec c (code_of (front (asked_by (d + 1) o []) ++ last)) a.regs a.y)
          found (taken word u of_value means h) =
              let regs : Registers = slice_set h.regs' (t + 1) (Some 0) in
              let few = h.within in
              let count : length h.regs' ≡ length a.regs = h.kept.0.count in
              behind_steps setting {c1 = 20} a c (front (asked_by (d + 1) o [])) last h.regs' h.cost the_meaning h.run h.kept.0 (omega (arith, few))
              (subst (λ r. EndsAt setting 20 (start_beside setting a h.regs' h.cost h.kept.0) r (exec c (code_of last) h.regs' (mid_charged h.cost a.y))) (sym means)
              (quick_ends setting (start_beside setting a h.regs' h.cost h.kept.0) c (code_of last) regs 20 word u
              (costing {n = a.y.cost + h.cost + 20}
              (and_then constant_falls
              (and_then (choose_second_falls (register_beside h.regs' (t + 1) t (Some 0) (λ e. omega (arith, e)) ∙ h.kept.2)
              (register_here h.regs' (t + 1) 0 (omega (arith, there, count))) refl none_left) none_left))
              (omega arith))
              (beside_set (t + 1) 0 (omega arith) (beside_none a.d h.regs'))
              (register_beside h.regs' (t + 1) d (Some 0) (λ e. omega (arith, e)) ∙ h.kept.1) of_value (omega arith)))
          found (not_taken h) =
              let regs : Registers = slice_set h.regs' (t + 1) (Some 0) in
              let few = h.within in
              let count : length h.regs' ≡ length a.regs = h.kept.0.count in
              let beside : Beside a.d a.regs h.regs' = beside_less (omega arith) h.kept.0 in
              let b : Start setting = start_beside setting a h.regs' h.cost beside in
              let chosen : Chosen setting c h.regs' (mid_charged h.cost a.y) (d + 2) 20 last slowly [] true = record {
                regs' = regs;
                cost = 18;
                run =
                    in_sum 18 (code_of slowly) regs (mid_charged 12 (mid_charged 6 (mid_charged h.cost a.y)))
                    (and_then constant_falls
                    (compared c Different t (t + 1) 1 0 slowly [] true regs (mid_charged 6 (mid_charged h.cost a.y))
                    (register_beside h.regs' (t + 1) t (Some 0) (λ e. omega (arith, e)) ∙ h.kept.1) (register_here h.regs' (t + 1) 0 (omega (arith, there, count))) refl))
                    refl (omega arith);
                beside = beside_set (t + 1) 0 (omega arith) (beside_none (d + 2) h.regs');
                within = omega arith;
              } in
              behind_steps setting {c1 = 748} a c (front (asked_by (d + 1) o [])) last h.regs' h.cost the_meaning h.run beside (omega (arith, few))
              (chosen_ends setting {c1 = 728} b c chosen (omega arith) the_meaning up (omega arith)
              (slow_ends setting k a VectorRef (v1 ∷ v2 ∷ []) (w1 ∷ w2 ∷ []) g regs (mid_charged 18 (mid_charged h.cost a.y))
              (start_beside setting b regs 18 (beside_less (omega arith) chosen.beside)).begins (beside_then h.kept.0 chosen.beside) slow_enough (omega arith) paid))
