-- The loop along two strings or two vectors by an index, as long as what stands there is the same.
use Rattle.std.proofs.Common.{◌≡◌, ◌≤◌, ◌<◌, ℕ, ◌+◌, ◌==◌, ◌+ℤ◌, Bool, true, false, ◌&&◌, List, [], ◌∷◌, ◌++◌, pos, refl, sym, ap, ◌∙◌, inl, inr, Some, length, length-append, append_assoc, arith}
use Rattle.std.specs.Prelude.{int_lt}
use Rattle.std.proofs.lemmas.Bool.Decides.{nat_tests}
use Rattle.base.specs.Data as datum
use Rattle.lang_meaning.specs.declared.primitive.Primitive.{Primitive}
use Rattle.lang_meaning.specs.declared.primitive.Primitive.TheVariants.{Add, NumberEqual, NumberLess}
use Rattle.lang_meaning.specs.Form.{Form, no_form, no_clause, local, literal, sequence, set_local, prim}
use Rattle.lang_meaning.specs.Values.{Value, nil, integer, truth as truth_of, int_equal}
use Rattle.lang_meaning.specs.Objects.{Object}
use Rattle.lang_meaning.specs.Lookup.{under_number}
use Rattle.lang_meaning.specs.Captured.{has_box}
use Rattle.lang_meaning.specs.Primitives.{integer_result, says}
use Rattle.lang_library_laws.specs.Applications.{IsExtended, HasLiteral}
use Rattle.lang_library_laws.specs.ListBodies.{one, two, clause_of, and_form}
use Rattle.lang_library_laws.specs.EqualBodies.{index_form, end_form, along, compare_body, compare}
use Rattle.lang_library_laws.proofs.Frames.{Places, Setting, Comes, a_form, in_order, some_clauses, weaker, at_frame}
use Rattle.lang_library_laws.proofs.Evaluates.{comes_local, comes_set, comes_literal, comes_sequence, then_nothing, first_then, comes_clauses, clause_taken, clause_passed, no_clause_left, body_form, no_bindings_left, value_and, comes_let}
use Rattle.lang_library_laws.proofs.OfPrimitives.{comes_integers, ranged, said_to_be}
use Rattle.lang_library_laws.proofs.Decimals.{natural_range}
use Rattle.lang_library_laws.proofs.Loops.{Turn, Turns, Stops, loops}
use Rattle.lang_library_laws.proofs.ListsKept.{here, elsewhere}

abbrev pub all_true : List Bool → Bool
all_true [] = true
all_true (b ∷ bs) = b && all_true bs

-- the variables of functions of two arguments, and with an index and an end
abbrev pub arguments : ℕ → Places
arguments v = (v, 0) ∷ (v + 1, 1) ∷ []

pub at_first : (v : ℕ) → under_number v (arguments v) ≡ Some 0
at_first v = here v 0 ((v + 1, 1) ∷ [])

pub at_second : (v : ℕ) → under_number (v + 1) (arguments v) ≡ Some 1
at_second v = elsewhere (v + 1) v 0 ((v + 1, 1) ∷ []) (grind (arith, nat_tests)) (here (v + 1) 1 [])

abbrev pub along_places : ℕ → Places
along_places v = (v + 2, 2) ∷ (v + 3, 3) ∷ arguments v

pub along_first : (v : ℕ) → under_number v (along_places v) ≡ Some 0
along_first v =
    elsewhere v (v + 2) 2 ((v + 3, 3) ∷ arguments v) (grind (arith, nat_tests)) (elsewhere v (v + 3) 3 (arguments v) (grind (arith, nat_tests)) (at_first v))

pub along_second : (v : ℕ) → under_number (v + 1) (along_places v) ≡ Some 1
along_second v =
    elsewhere (v + 1) (v + 2) 2 ((v + 3, 3) ∷ arguments v) (grind (arith, nat_tests))
    (elsewhere (v + 1) (v + 3) 3 (arguments v) (grind (arith, nat_tests)) (at_second v))

pub along_index : (v : ℕ) → under_number (v + 2) (along_places v) ≡ Some 2
along_index v = here (v + 2) 2 ((v + 3, 3) ∷ arguments v)

along_end : (v : ℕ) → under_number (v + 3) (along_places v) ≡ Some 3
along_end v = elsewhere (v + 3) (v + 2) 2 ((v + 3, 3) ∷ arguments v) (grind (arith, nat_tests)) (here (v + 3) 3 (arguments v))

module _ (s : Setting) (v increment : ℕ) (same_there : Form) (is_one : HasLiteral s.program increment (datum.integer (pos 1)))
    (first second : Value) (bs : List Bool) (small : length bs ≤ 536870911) (enough : ℕ) where
  abbrev pub frame_at : ℕ → List Value → List Value
  frame_at i others = first ∷ second ∷ integer (pos i) ∷ integer (pos (length bs)) ∷ others

  -- what the test comes to, at each index
  abbrev pub Tests : Type 1
  Tests =
      (k : ℕ) (done : List Bool) (b : Bool) (left : List Bool) (others : List Value) (store : List Object) → (k < enough → s.short)
      → done ++ b ∷ left ≡ bs → IsExtended Object s.kept store
      → (Q : Value → List Value → List Object → Type 0)
      → ((more : List Value) (st : List Object) → IsExtended Object s.kept st → Q (truth_of b) (frame_at (length done) (others ++ more)) st)
      → Comes s (along_places v) (a_form k same_there) (frame_at (length done) others) store Q

  -- before each turn all that is passed was the same
  pub record Going (left : List Bool) (frame : List Value) (store : List Object) : Type 0 where
    pub others : List Value
    pub done : List Bool
    pub frame_is : frame ≡ frame_at (length done) others
    pub all_is : done ++ left ≡ bs
    pub so_far : all_true left ≡ all_true bs
    pub kept : IsExtended Object s.kept store

  -- and behind the loop the index is the end where all is the same
  pub record Gone (nothing : Value) (frame : List Value) (store : List Object) : Type 0 where
    pub others : List Value
    pub index : ℕ
    pub frame_is : frame ≡ frame_at index others
    pub is : int_equal (pos index) (pos (length bs)) ≡ all_true bs
    pub kept : IsExtended Object s.kept store

  abbrev test : Form
  test = and_form (prim NumberLess (two (index_form v) (end_form v))) same_there

  abbrev turn : Form
  turn = sequence (one (set_local (v + 2) (prim Add (two (index_form v) (literal increment)))))

  chosen : (k : ℕ) (b : Bool) (left : List Bool) (frame : List Value) (store : List Object) (h : Going (b ∷ left) frame store) (more : List Value) (st : List Object)
      → IsExtended Object s.kept st
      → Turn s (along_places v) test turn Bool enough Going Gone k left (truth_of b) (frame_at (length h.done) (h.others ++ more)) st
  chosen k true left frame store h more st e =
      let size : length (h.done ++ true ∷ left) ≡ length h.done + length (true ∷ left) = length-append h.done (true ∷ left) in
      let total : length (h.done ++ true ∷ left) ≡ length bs = ap length h.all_is in
      let next : length (h.done ++ true ∷ []) ≡ length h.done + 1 = length-append h.done (true ∷ []) in
      inl (
        refl,
        comes_sequence (first_then (comes_set (v + 2) 2 (along_index v) (comes_integers (λ a b. integer_result (a +ℤ b)) (λ a b z. refl)
            (comes_local (v + 2) 2 (along_index v) (comes_literal increment (datum.item is_one.0 (datum.integer (pos 1))) (integer (pos 1)) is_one.1 refl (
              pos (length h.done),
              pos 1,
              integer (pos (length h.done + 1)),
              refl,
              refl,
              ranged (pos (length h.done + 1)) (pos (length h.done + 1)) refl (natural_range (length h.done + 1) (omega (arith, size, total, small))),
              then_nothing (record {
                others = h.others ++ more;
                done = h.done ++ true ∷ [];
                frame_is = ap (λ n. frame_at n (h.others ++ more)) (sym next);
                all_is = append_assoc h.done (true ∷ []) left ∙ h.all_is;
                so_far = h.so_far;
                kept = e;
              }),
            )))))),
      )
  chosen k false left frame store h more st e =
      let size : length (h.done ++ false ∷ left) ≡ length h.done + length (false ∷ left) = length-append h.done (false ∷ left) in
      let total : length (h.done ++ false ∷ left) ≡ length bs = ap length h.all_is in
      let before : length h.done < length bs = omega (arith, size, total) in
      let differs : int_equal (pos (length h.done)) (pos (length bs)) ≡ false = grind (arith, nat_tests) in
      inr (
        refl,
        record {
          others = h.others ++ more;
          index = length h.done;
          frame_is = refl;
          is = differs ∙ h.so_far;
          kept = e;
        },
      )

  module _ (tests : Tests) where
    turns : Turns s (along_places v) test turn Bool enough Going Gone
    turns k b left frame store short h =
        let size : length (h.done ++ b ∷ left) ≡ length h.done + length (b ∷ left) = length-append h.done (b ∷ left) in
        let total : length (h.done ++ b ∷ left) ≡ length bs = ap length h.all_is in
        let before : length h.done < length bs = omega (arith, size, total) in
        at_frame h.frame_is (comes_clauses (clause_taken (comes_integers (λ a b z. says (int_lt a b) z) (λ a b z. refl)
        (comes_local (v + 2) 2 (along_index v) (comes_local (v + 3) 3 (along_end v) (
          pos (length h.done),
          pos (length bs),
          truth_of true,
          refl,
          refl,
          said_to_be (int_lt (pos (length h.done)) (pos (length bs))) true (grind (arith, nat_tests)),
          (
            refl,
            body_form (comes_sequence (first_then (tests k h.done b left h.others store short h.all_is h.kept _
                (λ more st e. then_nothing (chosen k b left frame store h more st e))))),
          ),
        ))))))

    stops : Stops s (along_places v) test turn Bool enough Going Gone
    stops k frame store short h =
        let size : length (h.done ++ []) ≡ length h.done + 0 = length-append h.done [] in
        let total : length (h.done ++ []) ≡ length bs = ap length h.all_is in
        let end : length h.done ≡ length bs = omega (arith, size, total) in
        let reached : int_equal (pos (length h.done)) (pos (length bs)) ≡ true = grind (arith, nat_tests) in
        at_frame h.frame_is (comes_clauses (clause_passed (comes_integers (λ a b z. says (int_lt a b) z) (λ a b z. refl)
        (comes_local (v + 2) 2 (along_index v) (comes_local (v + 3) 3 (along_end v) (
          pos (length h.done),
          pos (length bs),
          nil,
          refl,
          refl,
          said_to_be (int_lt (pos (length h.done)) (pos (length bs))) false (grind (arith, nat_tests)),
          (
            refl,
            no_clause_left (
              refl,
              record {
                others = h.others;
                index = length h.done;
                frame_is = refl;
                is = reached ∙ h.so_far;
                kept = h.kept;
              },
            ),
          ),
        ))))))

    -- the loop, and whether the end was reached
    pub along_comes : (k : ℕ) (store : List Object) → (k < length bs + enough → s.short) → IsExtended Object s.kept store
        → Comes s (along_places v) (a_form k (along v increment same_there)) (frame_at 0 []) store (λ w fr st. w ≡ truth_of (all_true bs))
    along_comes k store short e =
        comes_sequence (first_then (weaker (loops s (along_places v) test turn Bool enough Going Gone turns stops bs k (frame_at 0 []) store short
        (record { others = []; done = []; frame_is = refl; all_is = refl; so_far = refl; kept = e }))
        (λ u fr st g. at_frame g.frame_is (first_then (comes_integers (λ a b z. says (int_equal a b) z) (λ a b z. refl)
        (comes_local (v + 2) 2 (along_index v) (comes_local (v + 3) 3 (along_end v) (
          pos g.index,
          pos (length bs),
          truth_of (all_true bs),
          refl,
          refl,
          said_to_be (int_equal (pos g.index) (pos (length bs))) (all_true bs) g.is,
          then_nothing refl,
        ))))))))

  -- the lengths, and the loop where they are equal
  pub compare_comes : (m : ℕ) → (length bs ≡ m → Tests) → (size : Primitive) (none : ℕ) → HasLiteral s.program none (datum.integer (pos 0)) → (whole : Bool)
      → ((u : ℕ) → has_box u (compare_body v size increment same_there) ≡ false)
      → (length bs ≡ m → all_true bs ≡ whole) → ((length bs ≡ m → ⊥) → false ≡ whole)
      → (k : ℕ) (store : List Object) → (k < length bs + enough → s.short) → IsExtended Object s.kept store
      → ((Q : Value → List Value → List Object → Type 0) → Q (integer (pos (length bs))) (first ∷ second ∷ []) store
      → Comes s (arguments v) (a_form k (prim size (one (local v)))) (first ∷ second ∷ []) store Q)
      → ((Q : Value → List Value → List Object → Type 0) → Q (integer (pos m)) (frame_at 0 []) store
      → Comes s (along_places v) (a_form k (prim size (one (local (v + 1))))) (frame_at 0 []) store Q)
      → Comes s (arguments v) (a_form k (compare v size none increment same_there)) (first ∷ second ∷ []) store (λ w fr st. w ≡ truth_of whole)
  compare_comes m tests size none is_none whole no_boxes equal other k store short e first_sized second_sized =
      comes_let (value_and (comes_literal none (datum.item is_none.0 (datum.integer (pos 0))) (integer (pos 0)) is_none.1 refl
      (value_and (first_sized _ (no_bindings_left no_boxes (comes_sequence (first_then (comes_clauses (by (length bs == m) refl)))))))))
    where
      by : (b : Bool) → (length bs == m) ≡ b
          → Comes s (along_places v) (some_clauses k (clause_of (prim NumberEqual (two (end_form v) (prim size (one (local (v + 1)))))) (along v increment same_there) no_clause))
          (frame_at 0 []) store (λ w fr st. Comes s (along_places v) (in_order k w no_form) fr st (λ w fr st. w ≡ truth_of whole))
      by true is =
          let same : length bs ≡ m = grind (arith, nat_tests) in
          clause_taken (comes_integers (λ a b z. says (int_equal a b) z) (λ a b z. refl) (comes_local (v + 3) 3 (along_end v) (second_sized _ (
            pos (length bs),
            pos m,
            truth_of true,
            refl,
            refl,
            said_to_be (int_equal (pos (length bs)) (pos m)) true (grind (arith, nat_tests)),
            (
              refl,
              body_form (comes_sequence (first_then (weaker (along_comes (tests same) k store short e) (λ w fr st is. then_nothing (then_nothing (is ∙ ap truth_of (equal same))))))),
            ),
          ))))
      by false is =
          let differs : length bs ≡ m → ⊥ = λ same. absurd (grind (arith, nat_tests)) in
          clause_passed (comes_integers (λ a b z. says (int_equal a b) z) (λ a b z. refl) (comes_local (v + 3) 3 (along_end v) (second_sized _ (
            pos (length bs),
            pos m,
            nil,
            refl,
            refl,
            said_to_be (int_equal (pos (length bs)) (pos m)) false (grind (arith, nat_tests)),
            (
              refl,
              no_clause_left (then_nothing (ap truth_of (other differs))),
            ),
          ))))
