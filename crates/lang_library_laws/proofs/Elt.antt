-- `elt`: of lists by the loop that goes along so many conses, of strings and vectors at once.
use Rattle.std.proofs.Common.{◌≡◌, ◌≤◌, ◌<◌, ℕ, suc, ◌+◌, pos, ◌-ℤ◌, true, false, List, [], ◌∷◌, ◌++◌, refl, sym, ap, subst, inl, is_some, Option, Some, None, length, length-append, slice_get, slice_index_or, arith}
use Rattle.std.specs.Prelude.{int_lt}
use Rattle.std.proofs.lemmas.Int.{ints}
use Rattle.std.proofs.lemmas.Bool.Decides.{nat_tests}
use Rattle.base.specs.Data as datum
use Rattle.base.specs.declared.datum.Name.{Name}
use Rattle.lang_meaning.specs.declared.program.ProgramRows.{ProgramRows}
use Rattle.lang_meaning.specs.Form.{form_and, local, sequence, while_form}
use Rattle.lang_meaning.specs.Values.{Value, nil, integer, character, object, symbol, is_true, truth as truth_of}
use Rattle.lang_meaning.specs.Objects.{Object}
use Rattle.lang_meaning.specs.State.{State, DynamicContext, Limit}
use Rattle.lang_meaning.specs.Literals.{symbol_of}
use Rattle.lang_meaning.specs.Captured.{has_box}
use Rattle.lang_meaning.specs.Primitives.{as_cons, as_string, as_vector, integer_result, says}
use Rattle.lang_meaning.specs.Signals.{Signals, apply_procedure}
use Rattle.lang_library_laws.specs.Lists.{IsProperList}
use Rattle.lang_library_laws.specs.Applications.{IsExtended, GivesKeeping, Gives, at_level, HasLiteral, HasTruth, HasClass, IsInstanceOf}
use Rattle.lang_library_laws.specs.ListBodies.{one, two}
use Rattle.lang_library_laws.specs.SequenceBodies.{three, assure_form, elt_form, ListFromNumbers, going_test, going_turn, going_end, least_checked, list_from}
use Rattle.lang_library_laws.specs.Laws.{LawOfEltOfList, LawOfEltOfString, LawOfEltOfVector}
use Rattle.lang_library_laws.proofs.Frames.{nothing_added, Setting, Comes, a_form, in_order, weaker, at_frame, at_store}
use Rattle.lang_library_laws.proofs.Evaluates.{Cell, cell_in, comes_local, comes_set, comes_literal, comes_sequence, then_nothing, first_then, comes_clauses, clause_taken, clause_passed, no_clause_left, body_form, no_arguments_left, argument_and}
use Rattle.lang_library_laws.proofs.OfPrimitives.{comes_car, comes_cdr, comes_consp, comes_stringp, comes_vectorp, comes_char_at, comes_vector_ref, comes_integers, ranged, said_to_be}
use Rattle.lang_library_laws.proofs.Decimals.{natural_range}
use Rattle.lang_library_laws.proofs.Loops.{Turns, Stops, loops}
use Rattle.lang_library_laws.proofs.Applies.{setting, applies, called, comes_call}
use Rattle.lang_library_laws.proofs.Assured.{none_of, comes_assured}
use Rattle.lang_library_laws.proofs.Length.{no_string, no_vector}
use Rattle.lang_library_laws.proofs.Along.{arguments, at_first, at_second}
use Rattle.lang_library_laws.proofs.ListsKept.{cell_of}

-- what stands behind so many others
pub stands_behind : {X : Type 0} (front : List X) (x : X) (behind : List X) (none : X) → slice_index_or (front ++ x ∷ behind) (length front) none ≡ x
stands_behind [] x behind none = refl
stands_behind (y ∷ front) x behind none = stands_behind front x behind none

pub is_within : {X : Type 0} (front : List X) (x : X) (behind : List X) → length front < length (front ++ x ∷ behind)
is_within front x behind = let size : length (front ++ x ∷ behind) ≡ length front + suc (length behind) = length-append front (x ∷ behind) in omega (arith, size)

module _ (s : Setting) (v : ℕ) (n : ListFromNumbers) (is_truth : HasTruth s.program n.truth)
    (is_last : HasLiteral s.program n.last (datum.integer (pos 0))) (is_one : HasLiteral s.program n.decrement (datum.integer (pos 1)))
    (others : List Value) (x : Value) (behind : List Value) where
  -- before each turn the item stands behind those that are left
  pub record Going (left : List Value) (frame : List Value) (store : List Object) : Type 0 where
    pub list : Value
    pub frame_is : frame ≡ list ∷ integer (pos (length left)) ∷ others
    pub in_front : IsProperList store list (left ++ x ∷ behind)
    pub small : length left ≤ 536870911

  -- the list begins with the item
  abbrev pub Begins : Value → List Object → Type 0
  Begins w store = (c : Cell store w) × (c.first ≡ x)

  abbrev Gone : Value → List Value → List Object → Type 0
  Gone u frame store = (list : Value) × (index : Value) × (frame ≡ list ∷ index ∷ others) × IsProperList store list (x ∷ behind)

  turn : {k : ℕ} (y : Value) (ys : List Value) (list : Value) (store : List Object) → IsProperList store list (y ∷ ys ++ x ∷ behind) → suc (length ys) ≤ 536870911
      → Comes s (arguments v) (a_form k (going_turn v n.decrement)) (list ∷ integer (pos (suc (length ys))) ∷ others) store (λ ignored fr st. Going ys fr st)
  turn {k} y ys list store l small =
      comes_sequence (first_then (comes_set v 0 (at_first v) (comes_cdr (comes_local v 0 (at_first v) (
        cell_of 0 list y (ys ++ x ∷ behind) l,
        first_then (comes_set (v + 1) 1 (at_second v) (comes_integers (λ a b. integer_result (a -ℤ b)) (λ a b z. refl)
            (comes_local (v + 1) 1 (at_second v) (comes_literal n.decrement (datum.item is_one.0 (datum.integer (pos 1))) (integer (pos 1)) is_one.1 refl (
              pos (suc (length ys)),
              pos 1,
              integer (pos (length ys)),
              refl,
              refl,
              ranged (pos (suc (length ys)) -ℤ pos 1) (pos (length ys)) (omega (arith, ints)) (natural_range (length ys) (omega (arith, small))),
              then_nothing (record { list = l.1; frame_is = refl; in_front = l.5; small = omega (arith, small) }),
            ))))),
      )))))

  turns : Turns s (arguments v) (going_test v n.last) (going_turn v n.decrement) Value 0 Going Gone
  turns k y ys frame store short h =
      at_frame h.frame_is (comes_clauses (clause_taken (comes_integers (λ a b z. says (int_lt b a) z) (λ a b z. refl)
      (comes_local (v + 1) 1 (at_second v) (comes_literal n.last (datum.item is_last.0 (datum.integer (pos 0))) (integer (pos 0)) is_last.1 refl (
        pos (suc (length ys)),
        pos 0,
        truth_of true,
        refl,
        refl,
        said_to_be (int_lt (pos 0) (pos (suc (length ys)))) true (grind (arith, nat_tests)),
        (
          refl,
          body_form (comes_sequence (first_then (comes_consp (comes_local v 0 (at_first v) (then_nothing (inl (
            ap (λ o. is_true (truth_of (is_some (as_cons o)))) (cell_in (cell_of 0 h.list y (ys ++ x ∷ behind) h.in_front)),
            turn y ys h.list store h.in_front h.small,
          ))))))),
        ),
      ))))))

  stops : Stops s (arguments v) (going_test v n.last) (going_turn v n.decrement) Value 0 Going Gone
  stops k frame store short h =
      at_frame h.frame_is (comes_clauses (clause_passed (comes_integers (λ a b z. says (int_lt b a) z) (λ a b z. refl)
      (comes_local (v + 1) 1 (at_second v) (comes_literal n.last (datum.item is_last.0 (datum.integer (pos 0))) (integer (pos 0)) is_last.1 refl (
        pos 0,
        pos 0,
        nil,
        refl,
        refl,
        said_to_be (int_lt (pos 0) (pos 0)) false refl,
        (refl, no_clause_left (refl, (h.list, integer (pos 0), refl, h.in_front))),
      ))))))

  -- the loop, and the list behind it
  pub goes : (k : ℕ) (front : List Value) (list : Value) (store : List Object) → (k < length front → s.short)
      → IsProperList store list (front ++ x ∷ behind) → length front ≤ 536870911
      → Comes s (arguments v) (in_order k nil (two (while_form (going_test v n.last) (going_turn v n.decrement)) (going_end v n)))
      (list ∷ integer (pos (length front)) ∷ others) store (λ w fr st. Begins w st)
  goes k front list store short l small =
      first_then (weaker (loops s (arguments v) (going_test v n.last) (going_turn v n.decrement) Value 0 Going Gone turns stops
      front k (list ∷ integer (pos (length front)) ∷ others) store (λ g. short (omega (arith, g)))
      (record { list = list; frame_is = refl; in_front = l; small = small }))
      (λ u fr st g. at_frame g.2 (first_then (comes_clauses (clause_taken (comes_consp (comes_local v 0 (at_first v) (
        ap (λ o. is_true (truth_of (is_some (as_cons o)))) (cell_in (cell_of 0 g.0 x behind g.3)),
        body_form (comes_sequence (first_then (comes_local v 0 (at_first v) (then_nothing (then_nothing (cell_of 0 g.0 x behind g.3, refl)))))),
      ))))))))

no_boxes : (v : ℕ) (n : ListFromNumbers) (u : ℕ)
    → has_box u (sequence (form_and (assure_form (v + 2) (local v) n.list n.domain_error)
    (form_and (assure_form (v + 3) (local (v + 1)) n.index n.domain_error)
    (three (least_checked v n) (while_form (going_test v n.last) (going_turn v n.decrement)) (going_end v n))))) ≡ false
no_boxes v n u = simp none_of

-- what of the list begins with the item
list_from_gives : (names : List (List ℕ)) (program : ProgramRows) (limit : Limit) (z : State) (name : Option Name) (v number : ℕ) (n : ListFromNumbers)
    → HasTruth program n.truth
    → HasLiteral program n.least (datum.integer (pos 0)) → HasLiteral program n.last (datum.integer (pos 0)) → HasLiteral program n.decrement (datum.integer (pos 1))
    → slice_get program.procedures number ≡ Some (list_from name v n)
    → (before : List Object) → z.store ≡ before → (list x : Value) (front behind : List Value) (class class' : ℕ)
    → HasClass names program before n.list.class class → HasClass names program before n.index.class class'
    → IsInstanceOf program class before list → IsInstanceOf program class' before (integer (pos (length front)))
    → IsProperList before list (front ++ x ∷ behind) → length front ≤ 536870911
    → (kept : List Object) → IsExtended Object kept before → (k : ℕ) (wrong : Signals) (around : DynamicContext)
    → GivesKeeping kept limit k (suc (length front)) z (λ w store. (c : Cell store w) × (c.first ≡ x))
    (apply_procedure (at_level names program limit k) wrong number None (list ∷ integer (pos (length front)) ∷ []) around z)
list_from_gives names program limit z name v number n is_truth is_least is_last is_one there before is list x front behind class class' has has' fits fits' l small kept e =
    let index : Value = integer (pos (length front)) in
    applies names program limit z kept (length front) number name (v ∷ (v + 1) ∷ []) _ (list ∷ index ∷ [])
    (λ w store. (c : Cell store w) × (c.first ≡ x)) (subst (λ os. IsExtended Object kept os) (sym is) e) there (no_boxes v n) refl
    (λ levels. at_store is
    (let s : Setting = setting names program limit z kept (suc levels) (suc (length front)) in
    comes_sequence (first_then (comes_assured v 0 (v + 2) n.list n.domain_error class list (at_first v) refl has fits
    (first_then (comes_assured (v + 1) 1 (v + 3) n.index n.domain_error class' index (at_second v) refl has' fits'
    (first_then (comes_clauses (clause_passed (comes_integers (λ a b z. says (int_lt a b) z) (λ a b z. refl)
    (comes_local (v + 1) 1 (at_second v) (comes_literal n.least (datum.item is_least.0 (datum.integer (pos 0))) (integer (pos 0)) is_least.1 refl (
      pos (length front),
      pos 0,
      nil,
      refl,
      refl,
      said_to_be (int_lt (pos (length front)) (pos 0)) false (grind (arith, nat_tests)),
      (refl, no_clause_left (goes s v n is_truth is_last is_one (list ∷ index ∷ []) x behind levels front list before (λ g. omega (arith, g)) l small)),
    )))))))))))))

pub law_of_elt_of_list : LawOfEltOfList
law_of_elt_of_list names program name name' v v' n truth list_from_name number is_truth is_truth' is_least is_last is_one named there limit k wrong around z
    list x front behind class class' has has' fits fits' l small =
    let IsItem : Value → List Object → Type 0 = λ w store. w ≡ x in
    let Begin : Value → List Object → Type 0 = λ w store. (c : Cell store w) × (c.first ≡ x) in
    let index : Value = integer (pos (length front)) in
    let enough : suc (suc (length front)) ≡ length front + 2 = omega arith in
    subst (λ n. Gives limit k n z IsItem (apply_procedure (at_level names program limit k) wrong number None (list ∷ index ∷ []) around z)) enough
    (applies names program limit z z.store (suc (length front)) number name (v ∷ (v + 1) ∷ []) (sequence (one (elt_form v truth list_from_name)))
    (list ∷ index ∷ []) IsItem (nothing_added z.store) there (λ u. refl) refl
    (λ levels.
    comes_sequence (first_then (comes_clauses
    (clause_passed (comes_stringp (comes_local v 0 (at_first v) (
      no_string z.store list (front ++ x ∷ behind) l,
      clause_passed (comes_vectorp (comes_local v 0 (at_first v) (
        no_vector z.store list (front ++ x ∷ behind) l,
        clause_taken (comes_literal truth (datum.item is_truth.1.0 (datum.symbol is_truth.0)) (symbol (symbol_of names is_truth.0)) is_truth.1.1 refl (
          refl,
          body_form (comes_sequence (first_then (comes_car (comes_call (argument_and (comes_local v 0 (at_first v) (argument_and
              (comes_local (v + 1) 1 (at_second v) (no_arguments_left
              (called Begin (suc (length front)) (λ g. omega (arith, g)) z.store (nothing_added z.store) (λ w more now e g. (g.0, then_nothing (then_nothing g.1)))
              list_from_name (list_from name' v' n) named (list ∷ index ∷ []) (λ now h wrong around.
              list_from_gives names program limit now name' v' named.number n is_truth' is_least is_last is_one named.there z.store h.objects_are
              list x front behind class class' has has' fits fits' l small z.store (nothing_added z.store) levels wrong around))))))))))),
        )),
      ))),
    )))))))
    k wrong around)

pub law_of_elt_of_string : LawOfEltOfString
law_of_elt_of_string names program name v truth list_from_name number there limit k wrong around z i c front behind is =
    let index : Value = integer (pos (length front)) in
    applies names program limit z z.store 0 number name (v ∷ (v + 1) ∷ []) (sequence (one (elt_form v truth list_from_name)))
    (object i ∷ index ∷ []) (λ w store. w ≡ character c) (nothing_added z.store) there (λ u. refl) refl
    (λ levels.
    comes_sequence (first_then (comes_clauses (clause_taken (comes_stringp (comes_local v 0 (at_first v) (
      ap (λ o. is_true (truth_of (is_some (as_string o)))) is,
      body_form (comes_sequence (first_then (comes_char_at (comes_local v 0 (at_first v) (comes_local (v + 1) 1 (at_second v) (
        front ++ c ∷ behind,
        length front,
        is,
        refl,
        is_within front c behind,
        then_nothing (then_nothing (ap character (stands_behind front c behind 0))),
      )))))),
    )))))))
    k wrong around

pub law_of_elt_of_vector : LawOfEltOfVector
law_of_elt_of_vector names program name v truth list_from_name number there limit k wrong around z i x front behind is =
    let index : Value = integer (pos (length front)) in
    applies names program limit z z.store 0 number name (v ∷ (v + 1) ∷ []) (sequence (one (elt_form v truth list_from_name)))
    (object i ∷ index ∷ []) (λ w store. w ≡ x) (nothing_added z.store) there (λ u. refl) refl
    (λ levels.
    comes_sequence (first_then (comes_clauses (clause_passed (comes_stringp (comes_local v 0 (at_first v) (
      ap (λ o. is_true (truth_of (is_some (as_string o)))) is,
      clause_taken (comes_vectorp (comes_local v 0 (at_first v) (
        ap (λ o. is_true (truth_of (is_some (as_vector o)))) is,
        body_form (comes_sequence (first_then (comes_vector_ref (comes_local v 0 (at_first v) (comes_local (v + 1) 1 (at_second v) (
          front ++ x ∷ behind,
          length front,
          is,
          refl,
          is_within front x behind,
          then_nothing (then_nothing (stands_behind front x behind nil)),
        )))))),
      ))),
    )))))))
    k wrong around
