-- `subseq` of lists, by the loop that takes the items from a start up to an end.
use Rattle.std.proofs.Common.{◌≡◌, ◌≤◌, ◌<◌, ℕ, zero, suc, ◌+◌, ◌-◌, pos, ◌+ℤ◌, Bool, true, false, List, [], ◌∷◌, ◌++◌, drop, refl, sym, ap, subst, ◌∙◌, inl, is_some, Option, Some, None, length, length-append, slice_get, arith, le_trans}
use Rattle.std.specs.Prelude.{int_lt, int_le}
use Rattle.std.proofs.lemmas.Bool.Decides.{nat_tests}
use Rattle.base.specs.Data as datum
use Rattle.base.specs.declared.datum.Name.{Name}
use Rattle.lang_meaning.specs.declared.program.ProgramRows.{ProgramRows}
use Rattle.lang_meaning.specs.Form.{no_form, form_and, no_clause, clause_and, no_body, literal, local, set_local, call, prim, sequence}
use Rattle.lang_meaning.specs.declared.primitive.Primitive.TheVariants.{Add, NumberAtMost, IsNull, IsCons, Cons, Car, Cdr}
use Rattle.lang_meaning.specs.Values.{Value, nil, integer, object, symbol, is_true, truth as truth_of, same}
use Rattle.lang_meaning.specs.Objects.{Object, cons}
use Rattle.lang_meaning.specs.State.{State, DynamicContext, Limit}
use Rattle.lang_meaning.specs.Lookup.{under_number}
use Rattle.lang_meaning.specs.Literals.{symbol_of}
use Rattle.lang_meaning.specs.Captured.{has_box}
use Rattle.lang_meaning.specs.Primitives.{as_cons, integer_result, says}
use Rattle.lang_meaning.specs.Signals.{Signals, apply_procedure}
use Rattle.lang_library_laws.specs.Structures.{object_in}
use Rattle.lang_library_laws.specs.Lists.{IsListFrom, IsProperList}
use Rattle.lang_library_laws.specs.Applications.{IsExtended, GivesKeeping, Gives, at_level, HasLiteral, HasTruth, IsNamed}
use Rattle.lang_library_laws.specs.ListBodies.{one, two, clause_of, else_clause, or_form, turn_onto, nreverse_function}
use Rattle.lang_library_laws.specs.SequenceBodies.{three, assure_form, part_test, part_turn, part_body, part_form, PartNumbers, part_of_list, CheckNumbers, check_function, listp_function, SubseqNumbers, bounds_checked, subseq_end}
use Rattle.lang_library_laws.specs.Laws.{LawOfSubseq}
use Rattle.lang_library_laws.proofs.Frames.{nothing_added, added_more, put_behind, get_last, Places, Setting, Comes, a_form, in_order, some_clauses, weaker, at_frame, at_store}
use Rattle.lang_library_laws.proofs.Evaluates.{cell_in, comes_local, comes_set, comes_literal, comes_sequence, then_nothing, first_then, comes_clauses, clause_taken, clause_passed, no_clause_left, body_form, test_value, no_arguments_left, argument_and, no_bindings_left, value_and, comes_let}
use Rattle.lang_library_laws.proofs.OfPrimitives.{comes_car, comes_cdr, comes_null, comes_cons, comes_consp, comes_integers, ranged, said_to_be}
use Rattle.lang_library_laws.proofs.Decimals.{natural_range}
use Rattle.lang_library_laws.proofs.Loops.{Turns, Stops, loops}
use Rattle.lang_library_laws.proofs.Applies.{setting, applies, called, comes_call}
use Rattle.lang_library_laws.proofs.Falling.{turned_onto, IsFalling, falling_kept}
use Rattle.lang_library_laws.proofs.NReverse.{nreverse_new_gives}
use Rattle.lang_library_laws.proofs.Assured.{none_of, class_kept, instance_kept, comes_assured}
use Rattle.lang_library_laws.proofs.ListsKept.{cell_of, cell_later, list_kept, no_shorter, here, elsewhere}

-- the variables of functions of three arguments
abbrev pub arguments : ℕ → Places
arguments v = (v, 0) ∷ (v + 1, 1) ∷ (v + 2, 2) ∷ []

pub first_of_three : (v : ℕ) → under_number v (arguments v) ≡ Some 0
first_of_three v = here v 0 ((v + 1, 1) ∷ (v + 2, 2) ∷ [])

pub second_of_three : (v : ℕ) → under_number (v + 1) (arguments v) ≡ Some 1
second_of_three v = elsewhere (v + 1) v 0 ((v + 1, 1) ∷ (v + 2, 2) ∷ []) (grind (arith, nat_tests)) (here (v + 1) 1 ((v + 2, 2) ∷ []))

pub third_of_three : (v : ℕ) → under_number (v + 2) (arguments v) ≡ Some 2
third_of_three v =
    elsewhere (v + 2) v 0 ((v + 1, 1) ∷ (v + 2, 2) ∷ []) (grind (arith, nat_tests))
    (elsewhere (v + 2) (v + 1) 1 ((v + 2, 2) ∷ []) (grind (arith, nat_tests)) (here (v + 2) 2 []))

-- and with two more
abbrev pub part_places : ℕ → Places
part_places v = (v + 3, 3) ∷ (v + 4, 4) ∷ arguments v

pub at_argument : (v w : ℕ) {i : ℕ} → w < 3 → under_number (v + w) (arguments v) ≡ Some i → under_number (v + w) (part_places v) ≡ Some i
at_argument v w h found =
    elsewhere (v + w) (v + 3) 3 ((v + 4, 4) ∷ arguments v) (grind (arith, nat_tests, h))
    (elsewhere (v + w) (v + 4) 4 (arguments v) (grind (arith, nat_tests, h)) found)

pub at_list : (v : ℕ) → under_number v (part_places v) ≡ Some 0
at_list v =
    elsewhere v (v + 3) 3 ((v + 4, 4) ∷ arguments v) (grind (arith, nat_tests)) (elsewhere v (v + 4) 4 (arguments v) (grind (arith, nat_tests)) (first_of_three v))

pub at_index : (v : ℕ) → under_number (v + 3) (part_places v) ≡ Some 3
at_index v = here (v + 3) 3 ((v + 4, 4) ∷ arguments v)

pub at_items : (v : ℕ) → under_number (v + 4) (part_places v) ≡ Some 4
at_items v = elsewhere (v + 4) (v + 3) 3 ((v + 4, 4) ∷ arguments v) (grind (arith, nat_tests)) (here (v + 4) 4 (arguments v))

-- items that are left out in front of an index
drop_front : (front part : List Value) → drop (length front) (front ++ part) ≡ part
drop_front [] part = refl
drop_front (x ∷ front) part = drop_front front part

drop_nothing : (m : ℕ) → drop {A = Value} m [] ≡ []
drop_nothing zero = refl
drop_nothing (suc m) = refl

turned_size : (xs ys : List Value) → length (turned_onto xs ys) ≡ length xs + length ys
turned_size [] ys = omega arith
turned_size (x ∷ xs) ys = let more : length (turned_onto xs (x ∷ ys)) ≡ length xs + length (x ∷ ys) = turned_size xs (x ∷ ys) in omega (arith, more)

-- one item further
drop_before : (n m : ℕ) (x : Value) (xs : List Value) → n < m → drop (m - n) (x ∷ xs) ≡ drop (m - (n + 1)) xs
drop_before n m x xs h =
    let place : m - n ≡ suc (m - (n + 1)) = omega (arith, h) in ap (λ i. drop i (x ∷ xs)) place

drop_behind : (n m : ℕ) (xs : List Value) → m ≤ n → drop (m - n) xs ≡ xs
drop_behind n m xs h = let place : m - n ≡ 0 = omega (arith, h) in ap (λ i. drop i xs) place

module _ (s : Setting) (v : ℕ) (n : PartNumbers) (is_one : HasLiteral s.program n.increment (datum.integer (pos 1))) (start end : ℕ) (part behind : List Value)
    (small : end ≤ 536870911) where
  abbrev frame_at : (list : Value) → (index : ℕ) → (items : Value) → List Value
  frame_at list index items = list ∷ integer (pos start) ∷ integer (pos end) ∷ integer (pos index) ∷ items ∷ []

  -- before each turn what is taken, and what is left from the start on, are the part
  pub record Taken (left : List Value) (frame : List Value) (store : List Object) : Type 0 where
    pub list : Value
    pub index : ℕ
    pub items : Value
    pub done : List Value
    pub frame_is : frame ≡ frame_at list index items
    pub in_front : IsProperList s.kept list (left ++ behind)
    pub taken : IsFalling (length s.kept) (length store) store items done
    pub kept : IsExtended Object s.kept store
    pub part_is : turned_onto done (drop (start - index) left) ≡ part
    pub end_is : index + length left ≡ end

  -- the rest of a turn, behind the item that is taken or not
  further : {k : ℕ} (x : Value) (xs : List Value) (list : Value) (index : ℕ) (items u : Value) (done : List Value) (store : List Object)
      → IsProperList s.kept list (x ∷ xs ++ behind) → IsFalling (length s.kept) (length store) store items done → IsExtended Object s.kept store
      → turned_onto done (drop (start - (index + 1)) xs) ≡ part → index + suc (length xs) ≡ end
      → Comes s (part_places v) (in_order k u (two (set_local v (prim Cdr (one (local v)))) (set_local (v + 3) (prim Add (two (local (v + 3)) (literal n.increment))))))
      (frame_at list index items) store (λ ignored fr st. Taken xs fr st)
  further {k} x xs list index items u done store l b e is total =
      first_then (comes_set v 0 (at_list v) (comes_cdr (comes_local v 0 (at_list v) (
        cell_later e 0 list x (xs ++ behind) l,
        first_then (comes_set (v + 3) 3 (at_index v) (comes_integers (λ a b. integer_result (a +ℤ b)) (λ a b z. refl)
            (comes_local (v + 3) 3 (at_index v) (comes_literal n.increment (datum.item is_one.0 (datum.integer (pos 1))) (integer (pos 1)) is_one.1 refl (
              pos index,
              pos 1,
              integer (pos (index + 1)),
              refl,
              refl,
              ranged (pos (index + 1)) (pos (index + 1)) refl (natural_range (index + 1) (omega (arith, total, small))),
              then_nothing (record {
                list = l.1;
                index = index + 1;
                items = items;
                done = done;
                frame_is = refl;
                in_front = l.5;
                taken = b;
                kept = e;
                part_is = is;
                end_is = omega (arith, total);
              }),
            ))))),
      ))))

  turn : {k : ℕ} (x : Value) (xs : List Value) (frame : List Value) (store : List Object) (h : Taken (x ∷ xs) frame store)
      → Comes s (part_places v) (a_form k (part_turn v n)) (frame_at h.list h.index h.items) store (λ ignored fr st. Taken xs fr st)
  turn {k} x xs frame store h =
      let l : IsProperList store h.list (x ∷ xs ++ behind) = list_kept h.kept 0 h.list (x ∷ xs ++ behind) h.in_front in
      comes_sequence (first_then (comes_clauses (clause_passed (comes_null (comes_consp (comes_local v 0 (at_list v) (
        ap (λ o. is_true (truth_of (same (truth_of (is_some (as_cons o))) nil))) (cell_in (cell_of 0 h.list x (xs ++ behind) l)),
        no_clause_left (first_then (comes_clauses (by (int_le (pos start) (pos h.index)) refl))),
      )))))))
    where
      by : (b : Bool) → int_le (pos start) (pos h.index) ≡ b
          → Comes s (part_places v) (some_clauses k (clause_of (prim NumberAtMost (two (local (v + 1)) (local (v + 3)))) (set_local (v + 4) (prim Cons (two (prim Car (one (local v))) (local (v + 4))))) no_clause))
          (frame_at h.list h.index h.items) store (λ w fr st.
          Comes s (part_places v) (in_order k w (two (set_local v (prim Cdr (one (local v)))) (set_local (v + 3) (prim Add (two (local (v + 3)) (literal n.increment)))))) fr st
          (λ ignored fr st. Taken xs fr st))
      by true is =
          let reached : start ≤ h.index = grind (arith, nat_tests) in
          let made : Object = cons x h.items in
          let now : List Object = store ++ made ∷ [] in
          let grown : IsExtended Object store now = put_behind store (made ∷ []) in
          let bigger : length store < length now = subst (λ n. length store < n) (sym (length-append store (made ∷ []))) (omega arith) in
          let all : turned_onto (x ∷ h.done) (drop (start - (h.index + 1)) xs) ≡ part =
          ap (λ us. turned_onto h.done (x ∷ us)) (drop_behind (h.index + 1) start xs (omega (arith, reached)))
          ∙ sym (ap (λ us. turned_onto h.done us) (drop_behind h.index start (x ∷ xs) reached)) ∙ h.part_is in
          clause_taken (comes_integers (λ a b z. says (int_le a b) z) (λ a b z. refl)
          (comes_local (v + 1) 1 (at_argument v 1 (omega arith) (second_of_three v)) (comes_local (v + 3) 3 (at_index v) (
            pos start,
            pos h.index,
            truth_of true,
            refl,
            refl,
            said_to_be (int_le (pos start) (pos h.index)) true is,
            (
              refl,
              body_form (comes_sequence (first_then (comes_set (v + 4) 4 (at_items v) (comes_cons (comes_car (comes_local v 0 (at_list v) (
                cell_of 0 h.list x (xs ++ behind) (list_kept h.kept 0 h.list (x ∷ xs ++ behind) h.in_front),
                comes_local (v + 4) 4 (at_items v) (then_nothing (further x xs h.list h.index (object (length store)) _ (x ∷ h.done) now h.in_front
                    (length store, h.items, refl, no_shorter h.kept, bigger, get_last store made, falling_kept grown (length s.kept) (length store) (length store) h.items h.done (omega arith) h.taken)
                    (added_more h.kept grown) all h.end_is)),
              ))))))),
            ),
          ))))
      by false is =
          let before : h.index < start = grind (arith, nat_tests) in
          let all : turned_onto h.done (drop (start - (h.index + 1)) xs) ≡ part =
          sym (ap (λ us. turned_onto h.done us) (drop_before h.index start x xs before)) ∙ h.part_is in
          clause_passed (comes_integers (λ a b z. says (int_le a b) z) (λ a b z. refl)
          (comes_local (v + 1) 1 (at_argument v 1 (omega arith) (second_of_three v)) (comes_local (v + 3) 3 (at_index v) (
            pos start,
            pos h.index,
            nil,
            refl,
            refl,
            said_to_be (int_le (pos start) (pos h.index)) false is,
            (refl, no_clause_left (further x xs h.list h.index h.items nil h.done store h.in_front h.taken h.kept all h.end_is)),
          ))))

  module _ (Q : Value → List Value → List Object → Type 0) (ends : (frame : List Value) (store : List Object) → Taken [] frame store → Q nil frame store) where
    turns : Turns s (part_places v) (part_test v) (part_turn v n) Value 0 Taken Q
    turns k x xs frame store short h =
        at_frame h.frame_is (comes_integers (λ a b z. says (int_lt a b) z) (λ a b z. refl)
        (comes_local (v + 3) 3 (at_index v) (comes_local (v + 2) 2 (at_argument v 2 (omega arith) (third_of_three v)) (
          pos h.index,
          pos end,
          truth_of true,
          refl,
          refl,
          said_to_be (int_lt (pos h.index) (pos end)) true (let before : h.index < end = omega (arith, h.end_is) in grind (arith, nat_tests)),
          inl (refl, turn x xs frame store h),
        ))))

    stops : Stops s (part_places v) (part_test v) (part_turn v n) Value 0 Taken Q
    stops k frame store short h =
        at_frame h.frame_is (comes_integers (λ a b z. says (int_lt a b) z) (λ a b z. refl)
        (comes_local (v + 3) 3 (at_index v) (comes_local (v + 2) 2 (at_argument v 2 (omega arith) (third_of_three v)) (
          pos h.index,
          pos end,
          nil,
          refl,
          refl,
          said_to_be (int_lt (pos h.index) (pos end)) false (let reached : h.index ≡ end = omega (arith, h.end_is) in grind (arith, nat_tests)),
          (refl, subst (λ fr. Q nil fr store) h.frame_is (ends frame store h)),
        ))))

  module _ (nreverse_name turn_name : Option Name) (nreverse_v turn_v turn_number no_items : ℕ)
      (turns_onto : IsNamed s.names s.program turn_number (turn_onto turn_name turn_v)) (is_nil : HasLiteral s.program no_items datum.nil)
      (turns_back : IsNamed s.names s.program n.nreverse (nreverse_function nreverse_name nreverse_v turn_number no_items)) where
    abbrev pub IsPart : Value → List Object → Type 0
    IsPart w st = IsListFrom (length s.kept) st w part

    ends : {k : ℕ} (frame : List Value) (store : List Object) → (k < length part + 2 → s.short) → Taken [] frame store
        → Comes s (part_places v) (a_form k (call n.nreverse (one (local (v + 4))))) frame store (λ w fr st. IsPart w st)
    ends {k} frame store short h =
        let IsTurned : Value → List Object → Type 0 = λ w st. IsListFrom (length s.kept) st w (turned_onto h.done []) in
        let none : drop {A = Value} (start - h.index) [] ≡ [] = drop_nothing (start - h.index) in
        let all : turned_onto h.done [] ≡ part = ap (λ us. turned_onto h.done us) (sym none) ∙ h.part_is in
        let size : length h.done ≡ length part = omega (arith, turned_size h.done [], ap length all) in
        at_frame h.frame_is (comes_call (argument_and (comes_local (v + 4) 4 (at_items v) (no_arguments_left
        (called IsTurned (suc (suc (length h.done))) (λ g. short (omega (arith, g, size))) s.kept (nothing_added s.kept)
        (λ w more st e g. subst (λ us. IsListFrom (length s.kept) st w us) all g)
        n.nreverse (nreverse_function nreverse_name nreverse_v turn_number no_items) turns_back (h.items ∷ []) (λ y g wrong around.
        nreverse_new_gives s.names s.program s.limit y nreverse_name turn_name nreverse_v turn_v turn_number no_items turns_back.number turns_onto is_nil turns_back.there
        store g.objects_are s.kept h.kept (length store) h.done h.items h.taken k wrong around))))))

    pub takes_part : (k : ℕ) (front : List Value) (list : Value) → (k < length (front ++ part) + 2 → s.short)
        → IsProperList s.kept list ((front ++ part) ++ behind) → length front ≡ start → length (front ++ part) ≡ end
        → Comes s (part_places v) (a_form k (part_body v n)) (frame_at list 0 nil) s.kept (λ w fr st. IsPart w st)
    takes_part k front list short l start_is end_is =
        let size : length (front ++ part) ≡ length front + length part = length-append front part in
        let Q : Value → List Value → List Object → Type 0 =
        λ u fr st. Comes s (part_places v) (in_order k u (one (call n.nreverse (one (local (v + 4)))))) fr st (λ w fr st. IsPart w st) in
        let behind_loop : (frame : List Value) (store : List Object) → Taken [] frame store → Q nil frame store = λ frame store h.
        first_then (weaker (ends frame store (λ g. short (omega (arith, g, size))) h) (λ w fr st g. then_nothing g)) in
        comes_sequence (first_then (loops s (part_places v) (part_test v) (part_turn v n) Value 0 Taken Q (turns Q behind_loop) (stops Q behind_loop)
        (front ++ part) k (frame_at list 0 nil) s.kept (λ g. short (omega (arith, g)))
        (record {
          list = list;
          index = 0;
          items = nil;
          done = [];
          frame_is = refl;
          in_front = l;
          taken = refl;
          kept = nothing_added s.kept;
          part_is = ap (λ i. drop i (front ++ part)) (omega (arith, start_is)) ∙ drop_front front part;
          end_is = omega (arith, end_is);
        })))

no_boxes : (v : ℕ) (n : PartNumbers) (u : ℕ) → has_box u (sequence (one (part_form v n))) ≡ false
no_boxes v n u = simp none_of

-- what the loop gives
part_gives : (names : List (List ℕ)) (program : ProgramRows) (limit : Limit) (z : State) (name nreverse_name turn_name : Option Name) (v nreverse_v turn_v number : ℕ)
    (n : PartNumbers) (turn no_items : ℕ)
    → HasLiteral program n.none (datum.integer (pos 0)) → HasLiteral program n.no_items datum.nil → HasLiteral program n.increment (datum.integer (pos 1))
    → HasLiteral program no_items datum.nil → IsNamed names program turn (turn_onto turn_name turn_v)
    → IsNamed names program n.nreverse (nreverse_function nreverse_name nreverse_v turn no_items)
    → slice_get program.procedures number ≡ Some (part_of_list name v n)
    → (list : Value) (front part behind : List Value) → IsProperList z.store list ((front ++ part) ++ behind) → length (front ++ part) ≤ 536870911
    → (k : ℕ) (wrong : Signals) (around : DynamicContext)
    → Gives limit k (suc (length (front ++ part) + 2)) z (λ w store. IsListFrom (length z.store) store w part)
    (apply_procedure (at_level names program limit k) wrong number None (list ∷ integer (pos (length front)) ∷ integer (pos (length (front ++ part))) ∷ []) around z)
part_gives names program limit z name nreverse_name turn_name v nreverse_v turn_v number n turn no_items is_none is_nothing is_one is_nil turns_onto turns_back there
    list front part behind l small =
    let start : Value = integer (pos (length front)) in
    let end : Value = integer (pos (length (front ++ part))) in
    applies names program limit z z.store (length (front ++ part) + 2) number name (v ∷ (v + 1) ∷ (v + 2) ∷ []) (sequence (one (part_form v n)))
    (list ∷ start ∷ end ∷ []) (λ w store. IsListFrom (length z.store) store w part) (nothing_added z.store) there (no_boxes v n) refl
    (λ levels.
    let s : Setting = setting names program limit z z.store (suc levels) (suc (length (front ++ part) + 2)) in
    comes_sequence (first_then (comes_let (value_and (comes_literal n.none (datum.item is_none.0 (datum.integer (pos 0))) (integer (pos 0)) is_none.1 refl
    (value_and (comes_literal n.no_items (datum.item is_nothing.0 datum.nil) nil is_nothing.1 refl (no_bindings_left (λ u. refl) (weaker
    (takes_part s v n is_one (length front) (length (front ++ part)) part behind small nreverse_name turn_name nreverse_v turn_v turn no_items turns_onto is_nil turns_back
    levels front list (λ g. omega (arith, g)) l refl refl)
    (λ w fr st g. then_nothing g))))))))))

-- a proper list is a list
listp_gives : (names : List (List ℕ)) (program : ProgramRows) (limit : Limit) (z : State) (name : Option Name) (v number truth : ℕ) → HasTruth program truth
    → slice_get program.procedures number ≡ Some (listp_function name v truth)
    → (before : List Object) → z.store ≡ before → (list : Value) (items : List Value) → IsProperList before list items
    → (kept : List Object) → IsExtended Object kept before → (k : ℕ) (wrong : Signals) (around : DynamicContext)
    → GivesKeeping kept limit k 1 z (λ w store. is_true w ≡ true) (apply_procedure (at_level names program limit k) wrong number None (list ∷ []) around z)
listp_gives names program limit z name v number truth is_truth there before is list items l kept e =
    applies names program limit z kept 0 number name (v ∷ []) (sequence (one (or_form truth (prim IsCons (one (local v))) (prim IsNull (one (local v))))))
    (list ∷ []) (λ w store. is_true w ≡ true) (subst (λ os. IsExtended Object kept os) (sym is) e) there (λ u. refl) refl
    (λ levels. at_store is (comes_sequence (first_then (comes_clauses (by (setting names program limit z kept (suc levels) 1) levels items l is_truth)))))
  where
    by : (s : Setting) (levels : ℕ) (items : List Value) → IsProperList before list items → HasTruth s.program truth
        → Comes s ((v, 0) ∷ []) (some_clauses levels (clause_and (prim IsCons (one (local v))) no_body (else_clause truth (prim IsNull (one (local v))))))
        (list ∷ []) before (λ w fr st. Comes s ((v, 0) ∷ []) (in_order levels w no_form) fr st (λ w fr st. is_true w ≡ true))
    by s levels [] l is_truth =
        clause_passed (comes_consp (comes_local v 0 (here v 0 []) (
          ap (λ u. is_true (truth_of (is_some (as_cons (object_in before u))))) l,
          clause_taken (comes_literal truth (datum.item is_truth.1.0 (datum.symbol is_truth.0)) (symbol (symbol_of s.names is_truth.0)) is_truth.1.1 refl (
            refl,
            body_form (comes_sequence (first_then (comes_null (comes_local v 0 (here v 0 []) (then_nothing (then_nothing (ap (λ u. is_true (truth_of (same u nil))) l))))))),
          )),
        )))
    by s levels (x ∷ xs) l is_truth =
        let yes : is_true (truth_of (is_some (as_cons (object_in before list)))) ≡ true = ap (λ o. is_true (truth_of (is_some (as_cons o)))) (cell_in (cell_of 0 list x xs l)) in
        clause_taken (comes_consp (comes_local v 0 (here v 0 []) (yes, test_value (then_nothing yes))))

-- and a sequence
check_gives : (names : List (List ℕ)) (program : ProgramRows) (limit : Limit) (z : State) (name listp_name : Option Name) (v listp_v number truth : ℕ) (n : CheckNumbers)
    → HasTruth program truth → IsNamed names program n.listp (listp_function listp_name listp_v truth)
    → slice_get program.procedures number ≡ Some (check_function name v n)
    → (before : List Object) → z.store ≡ before → (list : Value) (items : List Value) → IsProperList before list items
    → (kept : List Object) → IsExtended Object kept before → (k : ℕ) (wrong : Signals) (around : DynamicContext)
    → GivesKeeping kept limit k 2 z (λ w store. Unit {0}) (apply_procedure (at_level names program limit k) wrong number None (list ∷ []) around z)
check_gives names program limit z name listp_name v listp_v number truth n is_truth named there before is list items l kept e =
    applies names program limit z kept 1 number name (v ∷ []) _ (list ∷ []) (λ w store. Unit {0}) (subst (λ os. IsExtended Object kept os) (sym is) e) there (λ u. refl) refl
    (λ levels. at_store is (comes_sequence (first_then (comes_clauses (clause_taken (comes_clauses (clause_taken
    (comes_call (argument_and (comes_local v 0 (here v 0 []) (no_arguments_left
    (called (λ w store. is_true w ≡ true) 1 (λ g. omega (arith, g)) before e
    (λ w more now e yes. (yes, test_value (yes, body_form (comes_sequence (first_then (comes_local v 0 (here v 0 []) (then_nothing (then_nothing tt))))))))
    n.listp (listp_function listp_name listp_v truth) named (list ∷ []) (λ y h wrong around.
    listp_gives names program limit y listp_name listp_v named.number truth is_truth named.there before h.objects_are list items l before (nothing_added before) levels wrong around)))))))))))))

-- a list of conses from a number on is one from an earlier number on
earlier_list : (store : List Object) (first higher : ℕ) → first ≤ higher → (v : Value) (items : List Value) → IsListFrom higher store v items → IsListFrom first store v items
earlier_list store first higher f v [] h = h
earlier_list store first higher f v (x ∷ xs) h = (h.0, h.1, h.2, le_trans f h.3, h.4, earlier_list store first higher f h.1 xs h.5)

no_outer_boxes : (v : ℕ) (n : SubseqNumbers) (u : ℕ)
    → has_box u (sequence (form_and (call n.check (one (local v)))
    (form_and (assure_form (v + 3) (local (v + 1)) n.start n.domain_error)
    (three (assure_form (v + 4) (local (v + 2)) n.end n.domain_error) (bounds_checked v n) (subseq_end v n))))) ≡ false
no_outer_boxes v n u = simp none_of

-- where the start is not below 0 and the end not below the start
module _ (s : Setting) (v : ℕ) (n : SubseqNumbers) (is_truth : HasTruth s.program n.truth) (is_least : HasLiteral s.program n.least (datum.integer (pos 0)))
    (list : Value) (start end : ℕ) (in_order_of : start ≤ end) where
  bounds : {k : ℕ} {Q : Value → List Value → List Object → Type 0} (more : List Value) (store : List Object)
      → Q nil (list ∷ integer (pos start) ∷ integer (pos end) ∷ more) store
      → Comes s (arguments v) (a_form k (bounds_checked v n)) (list ∷ integer (pos start) ∷ integer (pos end) ∷ more) store Q
  bounds {k} {Q} more store q =
      comes_clauses (clause_passed (comes_clauses (clause_passed (comes_integers (λ a b z. says (int_lt a b) z) (λ a b z. refl)
      (comes_local (v + 1) 1 (second_of_three v) (comes_literal n.least (datum.item is_least.0 (datum.integer (pos 0))) (integer (pos 0)) is_least.1 refl (
        pos start,
        pos 0,
        nil,
        refl,
        refl,
        said_to_be (int_lt (pos start) (pos 0)) false (grind (arith, nat_tests)),
        (
          refl,
          clause_taken (comes_literal n.truth (datum.item is_truth.1.0 (datum.symbol is_truth.0)) (symbol (symbol_of s.names is_truth.0)) is_truth.1.1 refl (
            refl,
            body_form (comes_sequence (first_then (comes_integers (λ a b z. says (int_lt a b) z) (λ a b z. refl)
                (comes_local (v + 2) 2 (third_of_three v) (comes_local (v + 1) 1 (second_of_three v) (
                  pos end,
                  pos start,
                  nil,
                  refl,
                  refl,
                  said_to_be (int_lt (pos end) (pos start)) false (grind (arith, nat_tests)),
                  then_nothing (refl, no_clause_left q),
                )))))),
          )),
        ),
      )))))))

pub law_of_subseq : LawOfSubseq
law_of_subseq names program name check_name listp_name part_name nreverse_name turn_name v check_v listp_v part_v nreverse_v turn_v n m p listp_truth turning no_items number
    is_truth is_listp_truth is_least is_none is_one is_nothing is_nil checks checks_list lists parts turns_back turns_onto there limit k wrong around z
    list front part behind class class' has has' fits fits' l small =
    let IsPart : Value → List Object → Type 0 = λ w store. IsListFrom (length z.store) store w part in
    let size : ℕ = length (front ++ part) in
    let start : Value = integer (pos (length front)) in
    let end : Value = integer (pos size) in
    let total : size ≡ length front + length part = length-append front part in
    let items : List Value = (front ++ part) ++ behind in
    let enough : suc (suc (size + 2)) ≡ size + 4 = omega arith in
    subst (λ n. Gives limit k n z IsPart (apply_procedure (at_level names program limit k) wrong number None (list ∷ start ∷ end ∷ []) around z)) enough
    (applies names program limit z z.store (suc (size + 2)) number name (v ∷ (v + 1) ∷ (v + 2) ∷ []) _ (list ∷ start ∷ end ∷ []) IsPart (nothing_added z.store) there
    (no_outer_boxes v n) refl
    (λ levels.
    let s : Setting = setting names program limit z z.store (suc levels) (suc (suc (size + 2))) in
    comes_sequence (first_then (comes_call (argument_and (comes_local v 0 (first_of_three v) (no_arguments_left
    (called (λ w store. Unit {0}) 2 (λ g. omega (arith, g)) z.store (nothing_added z.store)
    (λ w more now e ignored.
    first_then (comes_assured (v + 1) 1 (v + 3) n.start n.domain_error class start (second_of_three v) refl (class_kept e has) (instance_kept program class e start fits)
    (first_then (comes_assured (v + 2) 2 (v + 4) n.end n.domain_error class' end (third_of_three v) refl (class_kept e has') (instance_kept program class' e end fits')
    (first_then (bounds s v n is_truth is_least list (length front) size (omega (arith, total)) _ now
    (first_then (comes_clauses (clause_taken (comes_call (argument_and (comes_local v 0 (first_of_three v) (no_arguments_left
    (called (λ w store. is_true w ≡ true) 1 (λ g. omega (arith, g)) now e
    (λ w others later e' yes. (
      yes,
      body_form (comes_sequence (first_then (comes_call (argument_and (comes_local v 0 (first_of_three v) (argument_and (comes_local (v + 1) 1 (second_of_three v)
          (argument_and (comes_local (v + 2) 2 (third_of_three v) (no_arguments_left
          (called (λ w store. IsListFrom (length later) store w part) (suc (size + 2)) (λ g. omega (arith, g)) later (added_more e e')
          (λ w ends last e'' g. then_nothing (then_nothing (earlier_list last (length z.store) (length later) (no_shorter (added_more e e')) w part g)))
          n.part_of_list (part_of_list part_name part_v p) parts (list ∷ start ∷ end ∷ []) (λ y h wrong around.
          subst (λ os. GivesKeeping os limit levels (suc (size + 2)) y (λ w store. IsListFrom (length os) store w part)
          (apply_procedure (at_level names program limit levels) wrong parts.number None (list ∷ start ∷ end ∷ []) around y)) h.objects_are
          (part_gives names program limit y part_name nreverse_name turn_name part_v nreverse_v turn_v parts.number p turning no_items is_none is_nothing is_one is_nil
          turns_onto turns_back parts.there list front part behind
          (subst (λ os. IsProperList os list items) (sym h.objects_are) (list_kept (added_more e e') 0 list items l)) small levels wrong around))))))))))))),
    ))
    n.listp (listp_function listp_name listp_v listp_truth) lists (list ∷ []) (λ y h wrong around.
    listp_gives names program limit y listp_name listp_v lists.number listp_truth is_listp_truth lists.there now h.objects_are list items
    (list_kept e 0 list items l) now (nothing_added now) levels wrong around)))))))))))))))
    n.check (check_function check_name check_v m) checks (list ∷ []) (λ y h wrong around.
    check_gives names program limit y check_name listp_name check_v listp_v checks.number listp_truth m is_listp_truth checks_list checks.there z.store h.objects_are
    list items l z.store (nothing_added z.store) levels wrong around))))))))
    k wrong around)
