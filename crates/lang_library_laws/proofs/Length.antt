-- `length`, and the loop that counts.
use Rattle.std.proofs.Common.{◌≡◌, ◌≤◌, ◌<◌, ℕ, suc, ◌+◌, ◌==◌, ◌&&◌, ◌||◌, not, Bool, true, false, List, [], ◌∷◌, refl, sym, ap, subst, inl, Option, Some, None, length, pos, is_some, slice_get, arith}
use Rattle.std.proofs.lemmas.Bool.Decides.{nat_tests}
use Rattle.base.specs.Data as datum
use Rattle.base.specs.declared.datum.Name.{Name}
use Rattle.lang_meaning.specs.declared.program.ProgramRows.{ProgramRows}
use Rattle.lang_meaning.specs.Form.{sequence}
use Rattle.lang_meaning.specs.Values.{Value, nil, integer, symbol, is_true, truth, in_range}
use Rattle.lang_meaning.specs.Objects.{Object}
use Rattle.lang_meaning.specs.State.{State, DynamicContext, Limit}
use Rattle.lang_meaning.specs.Lookup.{under_number}
use Rattle.lang_meaning.specs.Captured.{has_box}
use Rattle.lang_meaning.specs.Literals.{symbol_of}
use Rattle.lang_meaning.specs.Primitives.{as_cons, as_string, as_vector}
use Rattle.lang_meaning.specs.Signals.{Signals, apply_procedure}
use Rattle.lang_library_laws.specs.Structures.{object_in}
use Rattle.lang_library_laws.specs.Lists.{IsProperList}
use Rattle.lang_library_laws.specs.Applications.{GivesKeeping, IsExtended, Gives, at_level, HasLiteral}
use Rattle.lang_library_laws.specs.ListBodies.{one, count_test, count_turn, count_end, count_body, list_length_form, list_length, length_form}
use Rattle.lang_library_laws.specs.Laws.{LawOfLength}
use Rattle.lang_library_laws.proofs.Frames.{nothing_added, same_objects, Places, Setting, Comes, a_form, in_order, weaker, at_frame}
use Rattle.lang_library_laws.proofs.Evaluates.{cell_in, comes_local, comes_set, comes_literal, comes_sequence, then_nothing, first_then, comes_clauses, clause_taken, clause_passed, body_form, no_arguments_left, argument_and, no_bindings_left, value_and, comes_let}
use Rattle.lang_library_laws.proofs.OfPrimitives.{comes_cdr, comes_null, comes_consp, comes_stringp, comes_vectorp, comes_sum}
use Rattle.lang_library_laws.proofs.Loops.{Turns, Stops, loops}
use Rattle.lang_library_laws.proofs.Applies.{setting, applies, called, comes_call}
use Rattle.lang_library_laws.proofs.ListsKept.{cell_of, here, elsewhere}

-- what is bound and captured by nothing is captured by nothing
captured_by_nothing : (bound set : Bool) → (((not bound && false) || false) || false) && set ≡ false
captured_by_nothing true set = refl
captured_by_nothing false set = refl

-- no function is made in it, so no variable has a box
no_boxes : (v none increment truth list_class domain_error : ℕ) (u : ℕ)
    → has_box u (sequence (one (list_length_form v none increment truth list_class domain_error))) ≡ false
no_boxes v none increment truth list_class domain_error u = captured_by_nothing (u == v + 1 || (u == v + 2 || false)) _

module _ (s : Setting) (v increment total : ℕ) (list : Value) (is_one : HasLiteral s.program increment (datum.integer (pos 1))) (small : total ≤ 536870911) where
  abbrev vars : Places
  vars = (v + 1, 1) ∷ (v + 2, 2) ∷ (v, 0) ∷ []

  at_rest : under_number (v + 1) vars ≡ Some 1
  at_rest = here (v + 1) 1 ((v + 2, 2) ∷ (v, 0) ∷ [])

  at_count : under_number (v + 2) vars ≡ Some 2
  at_count = elsewhere (v + 2) (v + 1) 1 ((v + 2, 2) ∷ (v, 0) ∷ []) (grind (arith, nat_tests)) (here (v + 2) 2 ((v, 0) ∷ []))

  -- before each turn what was counted and what is left are all
  pub record Counted (left : List Value) (frame : List Value) (store : List Object) : Type 0 where
    pub rest : Value
    pub count : ℕ
    pub frame_is : frame ≡ list ∷ rest ∷ integer (pos count) ∷ []
    pub items : IsProperList store rest left
    pub all_is : count + length left ≡ total

  tests : {k : ℕ} (rest count : Value) (store : List Object) (Q : Value → List Value → List Object → Type 0)
      → Q (truth (is_some (as_cons (object_in store rest)))) (list ∷ rest ∷ count ∷ []) store
      → Comes s vars (a_form k (count_test v)) (list ∷ rest ∷ count ∷ []) store Q
  tests {k} rest count store Q q = comes_consp (comes_local (v + 1) 1 at_rest q)

  turn : {k : ℕ} (x : Value) (xs : List Value) (rest : Value) (count : ℕ) (store : List Object)
      → IsProperList store rest (x ∷ xs) → count + suc (length xs) ≡ total
      → Comes s vars (a_form k (count_turn v increment)) (list ∷ rest ∷ integer (pos count) ∷ []) store (λ ignored fr st. Counted xs fr st)
  turn {k} x xs rest count store l a =
      let fits : in_range (pos (count + 1)) ≡ true = grind (arith, nat_tests, a, small) in
      comes_sequence (first_then (comes_set (v + 1) 1 at_rest (comes_cdr (comes_local (v + 1) 1 at_rest (
        cell_of 0 rest x xs l,
        first_then (comes_set (v + 2) 2 at_count (comes_sum (comes_local (v + 2) 2 at_count
            (comes_literal increment (datum.item is_one.0 (datum.integer (pos 1))) (integer (pos 1)) is_one.1 refl (
              pos count,
              pos 1,
              refl,
              refl,
              fits,
              then_nothing (record {
                rest = l.1;
                count = count + 1;
                frame_is = refl;
                items = l.5;
                all_is = omega (arith, a);
              }),
            ))))),
      )))))

  module _ (Q : Value → List Value → List Object → Type 0)
      (ends : (store : List Object) → Q nil (list ∷ nil ∷ integer (pos total) ∷ []) store) where
    turns : Turns s vars (count_test v) (count_turn v increment) Value 0 Counted Q
    turns k x xs frame store short h =
        at_frame h.frame_is (tests h.rest (integer (pos h.count)) store _ (inl (
          ap (λ o. is_true (truth (is_some (as_cons o)))) (cell_in (cell_of 0 h.rest x xs h.items)),
          turn x xs h.rest h.count store h.items h.all_is,
        )))

    stops : Stops s vars (count_test v) (count_turn v increment) Value 0 Counted Q
    stops k frame store short h =
        let all : h.count ≡ total = omega (arith, h.all_is) in
        at_frame h.frame_is (tests h.rest (integer (pos h.count)) store _ (
          ap (λ u. is_true (truth (is_some (as_cons (object_in store u))))) h.items,
          subst (λ u. Q nil (list ∷ u ∷ integer (pos h.count) ∷ []) store) (sym h.items)
              (subst (λ n. Q nil (list ∷ nil ∷ integer (pos n) ∷ []) store) (sym all) (ends store)),
        ))

  body_comes : (truth list_class domain_error : ℕ) (k : ℕ) (items : List Value) (store : List Object) → (k < length items → s.short)
      → IsProperList store list items → length items ≡ total
      → Comes s vars (a_form k (count_body v increment truth list_class domain_error)) (list ∷ list ∷ integer (pos 0) ∷ []) store
      (λ w fr st. w ≡ integer (pos total))
  body_comes truth list_class domain_error k items store short l a =
      let Q : Value → List Value → List Object → Type 0 =
      λ u fr st. Comes s vars (in_order k u (one (count_end v truth list_class domain_error))) fr st (λ w fr st. w ≡ integer (pos total)) in
      let ends : (store : List Object) → Q nil (list ∷ nil ∷ integer (pos total) ∷ []) store = λ store.
      first_then (comes_clauses (clause_taken (comes_null (comes_local (v + 1) 1 at_rest (
        refl,
        body_form (comes_sequence (first_then
            (comes_local (v + 2) 2 at_count (then_nothing (then_nothing refl))))),
      ))))) in
      comes_sequence (first_then (loops s vars (count_test v) (count_turn v increment) Value 0 Counted Q (turns Q ends) (stops Q ends)
      items k (list ∷ list ∷ integer (pos 0) ∷ []) store (λ g. short (omega (arith, g)))
      (record { rest = list; count = 0; frame_is = refl; items = l; all_is = omega (arith, a) })))

-- what the loop gives
list_length_gives : (names : List (List ℕ)) (program : ProgramRows) (limit : Limit) (z : State) (name : Option Name) (v number : ℕ)
    (none increment truth list_class domain_error : ℕ)
    → HasLiteral program none (datum.integer (pos 0)) → HasLiteral program increment (datum.integer (pos 1))
    → slice_get program.procedures number ≡ Some (list_length name v none increment truth list_class domain_error)
    → (list : Value) (items : List Value) → IsProperList z.store list items → length items ≤ 536870911
    → (kept : List Object) → IsExtended Object kept z.store → (k : ℕ) (wrong : Signals) (around : DynamicContext)
    → GivesKeeping kept limit k (suc (length items)) z (λ w store. w ≡ integer (pos (length items)))
    (apply_procedure (at_level names program limit k) wrong number None (list ∷ []) around z)
list_length_gives names program limit z name v number none increment truth list_class domain_error is_none is_one there list items l small kept e =
    applies names program limit z kept (length items) number name (v ∷ []) (sequence (one (list_length_form v none increment truth list_class domain_error)))
    (list ∷ []) (λ w store. w ≡ integer (pos (length items))) e there (no_boxes v none increment truth list_class domain_error) refl
    (λ levels.
    let s : Setting = setting names program limit z kept (suc levels) (suc (length items)) in
    comes_sequence (first_then (comes_let (value_and (comes_local v 0 (here v 0 []) (value_and
    (comes_literal none (datum.item is_none.0 (datum.integer (pos 0))) (integer (pos 0)) is_none.1 refl
    (no_bindings_left (λ u. refl) (weaker
    (body_comes s v increment (length items) list is_one small truth list_class domain_error levels items z.store (λ g. omega (arith, g)) l refl)
    (λ w fr st e. then_nothing e))))))))))

-- a list is no string and no vector
pub no_string : (store : List Object) (v : Value) (items : List Value) → IsProperList store v items → is_true (truth (is_some (as_string (object_in store v)))) ≡ false
no_string store v [] h = ap (λ u. is_true (truth (is_some (as_string (object_in store u))))) h
no_string store v (x ∷ xs) h = ap (λ o. is_true (truth (is_some (as_string o)))) (cell_in (cell_of 0 v x xs h))

pub no_vector : (store : List Object) (v : Value) (items : List Value) → IsProperList store v items → is_true (truth (is_some (as_vector (object_in store v)))) ≡ false
no_vector store v [] h = ap (λ u. is_true (truth (is_some (as_vector (object_in store u))))) h
no_vector store v (x ∷ xs) h = ap (λ o. is_true (truth (is_some (as_vector o)))) (cell_in (cell_of 0 v x xs h))

pub law_of_length : LawOfLength
law_of_length names program name name' v v' none increment truth truth' list_class domain_error list_length_name number is_none is_one is_truth named there limit k wrong around z list items l small =
    let IsLength : Value → List Object → Type 0 = λ w store. w ≡ integer (pos (length items)) in
    let enough : suc (suc (length items)) ≡ length items + 2 = omega arith in
    subst (λ n. Gives limit k n z IsLength (apply_procedure (at_level names program limit k) wrong number None (list ∷ []) around z)) enough
    (applies names program limit z z.store (suc (length items)) number name (v ∷ []) (sequence (one (length_form v truth list_length_name)))
    (list ∷ []) IsLength (nothing_added z.store) there (λ u. refl) refl
    (λ levels.
    comes_sequence (first_then (comes_clauses
    (clause_passed (comes_stringp (comes_local v 0 (here v 0 []) (
      no_string z.store list items l,
      clause_passed (comes_vectorp (comes_local v 0 (here v 0 []) (
        no_vector z.store list items l,
        clause_taken (comes_literal truth (datum.item is_truth.1.0 (datum.symbol is_truth.0)) (symbol (symbol_of names is_truth.0)) is_truth.1.1 refl (
          refl,
          body_form (comes_sequence (first_then (comes_call (argument_and (comes_local v 0 (here v 0 []) (no_arguments_left
              (called IsLength (suc (length items)) (λ g. omega (arith, g)) z.store (nothing_added z.store) (λ w more now e g. then_nothing (then_nothing g))
              list_length_name (list_length name' v' none increment truth' list_class domain_error) named (list ∷ []) (λ now h wrong around.
              list_length_gives names program limit now name' v' named.number none increment truth' list_class domain_error is_none is_one named.there list items
              (subst (λ os. IsProperList os list items) (sym h.objects_are) l) small z.store (same_objects (sym h.objects_are)) levels wrong around)))))))),
        )),
      ))),
    )))))))
    k wrong around)
