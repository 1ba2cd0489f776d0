-- `string-append`, by the loop that adds lengths, the one that copies a string's characters into another, and the one that goes along the strings.
use Rattle.std.proofs.Common.{◌≡◌, ◌≤◌, ◌<◌, ℕ, zero, suc, ◌+◌, pos, ◌+ℤ◌, true, false, List, [], ◌∷◌, ◌++◌, map, replicate, refl, sym, ap, subst, ◌∙◌, inl, Option, Some, None, length, length-append, append_assoc, append-nil, slice_get, slice_set, slice_index_or, arith}
use Rattle.std.specs.Prelude.{int_lt}
use Rattle.std.proofs.lemmas.Bool.Decides.{nat_tests}
use Rattle.base.specs.Data as datum
use Rattle.base.specs.declared.datum.Name.{Name}
use Rattle.lang_meaning.specs.declared.program.ProgramRows.{ProgramRows}
use Rattle.lang_meaning.specs.Form.{local, sequence}
use Rattle.lang_meaning.specs.Values.{Value, nil, integer, character, object, is_true, truth as truth_of, same}
use Rattle.lang_meaning.specs.Objects.{Object, string}
use Rattle.lang_meaning.specs.State.{State, DynamicContext, Limit}
use Rattle.lang_meaning.specs.Lookup.{under_number}
use Rattle.lang_meaning.specs.Primitives.{integer_result, says}
use Rattle.lang_meaning.specs.Signals.{Signals, apply_procedure}
use Rattle.lang_library_laws.specs.Structures.{object_in, text, StandsFor, AreStrings}
use Rattle.lang_library_laws.specs.Lists.{IsProperList, joined}
use Rattle.lang_library_laws.specs.Applications.{IsExtended, GivesKeeping, Gives, at_level, HasLiteral, IsNamed}
use Rattle.lang_library_laws.specs.ListBodies.{one, not_null}
use Rattle.lang_library_laws.specs.StringBodies.{lengths_turn, lengths_body, length_of_all, copy_test, copy_turn, copy_body, copy_into, joining_turn, joining_body, joining_form}
use Rattle.lang_library_laws.specs.Laws.{LawOfStringAppend}
use Rattle.lang_library_laws.proofs.Frames.{nothing_added, added_more, put_behind, get_last, Places, Setting, Comes, a_form, in_order, weaker, at_frame, at_store}
use Rattle.lang_library_laws.proofs.Evaluates.{comes_local, comes_known, comes_set, comes_literal, comes_sequence, then_nothing, first_then, no_arguments_left, argument_and, no_bindings_left, value_and, comes_let}
use Rattle.lang_library_laws.proofs.OfPrimitives.{comes_car, comes_cdr, comes_null, comes_string_length, comes_char_at, comes_make_string, comes_set_char, comes_integers, ranged, said_to_be}
use Rattle.lang_library_laws.proofs.Decimals.{natural_range}
use Rattle.lang_library_laws.proofs.Loops.{Turns, Stops, loops}
use Rattle.lang_library_laws.proofs.Applies.{setting, applies, applies_to, called, comes_call}
use Rattle.lang_library_laws.proofs.Falling.{change_keeps, get_changed}
use Rattle.lang_library_laws.proofs.Structures.{stands_kept}
use Rattle.lang_library_laws.proofs.Assured.{none_of}
use Rattle.lang_library_laws.proofs.Strings.{text_in}
use Rattle.lang_library_laws.proofs.Elt.{stands_behind, is_within}
use Rattle.lang_library_laws.proofs.Subseq.{second_of_three, third_of_three, part_places, at_list, at_argument, at_index, at_items}
use Rattle.lang_library_laws.proofs.ListsKept.{cell_of, cell_later, proper_list, no_shorter, here, elsewhere}

abbrev Texts : Type 0
Texts = List (Value × List ℕ)

abbrev values_of : Texts → List Value
values_of ss = map (λ s. s.0) ss

strings_kept : {store now : List Object} → IsExtended Object store now → (ss : Texts) → AreStrings store ss → AreStrings now ss
strings_kept {store} {now} e [] h = tt
strings_kept {store} {now} e (s ∷ ss) h = (stands_kept e s.0 (text s.1) h.0, strings_kept e ss h.1)

-- the lengths
module _ (s : Setting) (v total : ℕ) (small : total ≤ 536870911) where
  abbrev sum_places : Places
  sum_places = (v + 1, 1) ∷ (v, 0) ∷ []

  at_sum : under_number (v + 1) sum_places ≡ Some 1
  at_sum = here (v + 1) 1 ((v, 0) ∷ [])

  at_strings : under_number v sum_places ≡ Some 0
  at_strings = elsewhere v (v + 1) 1 ((v, 0) ∷ []) (grind (arith, nat_tests)) (here v 0 [])

  -- before each turn what is added, and the lengths of those that are left, are all
  pub record Added (left : Texts) (frame : List Value) (store : List Object) : Type 0 where
    pub list : Value
    pub count : ℕ
    pub frame_is : frame ≡ list ∷ integer (pos count) ∷ []
    pub in_front : IsProperList store list (values_of left)
    pub strings : AreStrings store left
    pub all_is : count + length (joined left) ≡ total

  adds : {k : ℕ} (x : Value × List ℕ) (xs : Texts) (frame : List Value) (store : List Object) (h : Added (x ∷ xs) frame store)
      → Comes s sum_places (a_form k (lengths_turn v)) (h.list ∷ integer (pos h.count) ∷ []) store (λ ignored fr st. Added xs fr st)
  adds {k} x xs frame store h =
      let size : length (x.1 ++ joined xs) ≡ length x.1 + length (joined xs) = length-append x.1 (joined xs) in
      let all : h.count + length (x.1 ++ joined xs) ≡ total = h.all_is in
      comes_sequence (first_then (comes_set (v + 1) 1 at_sum (comes_integers (λ a b. integer_result (a +ℤ b)) (λ a b z. refl)
      (comes_local (v + 1) 1 at_sum (comes_string_length (comes_car (comes_local v 0 at_strings (
        cell_of 0 h.list x.0 (values_of xs) h.in_front,
        (
          x.1,
          text_in store x.0 x.1 h.strings.0,
          (
            pos h.count,
            pos (length x.1),
            integer (pos (h.count + length x.1)),
            refl,
            refl,
            ranged (pos (h.count + length x.1)) (pos (h.count + length x.1)) refl (natural_range (h.count + length x.1) (omega (arith, size, all, small))),
            first_then (comes_set v 0 at_strings (comes_cdr (comes_local v 0 at_strings (
              cell_of 0 h.list x.0 (values_of xs) h.in_front,
              then_nothing (record {
                list = h.in_front.1;
                count = h.count + length x.1;
                frame_is = refl;
                in_front = h.in_front.5;
                strings = h.strings.1;
                all_is = omega (arith, size, all);
              }),
            )))),
          ),
        ),
      ))))))))

  module _ (Q : Value → List Value → List Object → Type 0) (ends : (list : Value) (store : List Object) → Q nil (list ∷ integer (pos total) ∷ []) store) where
    adding : Turns s sum_places (not_null (local v)) (lengths_turn v) (Value × List ℕ) 0 Added Q
    adding k x xs frame store short h =
        at_frame h.frame_is (comes_null (comes_null (comes_local v 0 at_strings (inl (
          ap (λ u. is_true (truth_of (same (truth_of (same u nil)) nil))) h.in_front.2,
          adds x xs frame store h,
        )))))

    added : Stops s sum_places (not_null (local v)) (lengths_turn v) (Value × List ℕ) 0 Added Q
    added k frame store short h =
        let all : h.count ≡ total = omega (arith, h.all_is) in
        at_frame h.frame_is (comes_null (comes_null (comes_local v 0 at_strings (
          ap (λ u. is_true (truth_of (same (truth_of (same u nil)) nil))) h.in_front,
          subst (λ n. Q nil (h.list ∷ integer (pos n) ∷ []) store) (sym all) (ends h.list store),
        ))))

  lengths_come : (k : ℕ) (ss : Texts) (list : Value) (store : List Object) → (k < length ss → s.short)
      → IsProperList store list (values_of ss) → AreStrings store ss → length (joined ss) ≡ total
      → Comes s sum_places (a_form k (lengths_body v)) (list ∷ integer (pos 0) ∷ []) store (λ w fr st. w ≡ integer (pos total))
  lengths_come k ss list store short l strings is =
      let Q : Value → List Value → List Object → Type 0 = λ u fr st. Comes s sum_places (in_order k u (one (local (v + 1)))) fr st (λ w fr st. w ≡ integer (pos total)) in
      let ends : (list : Value) (store : List Object) → Q nil (list ∷ integer (pos total) ∷ []) store = λ list store. first_then (comes_local (v + 1) 1 at_sum (then_nothing refl)) in
      comes_sequence (first_then (loops s sum_places (not_null (local v)) (lengths_turn v) (Value × List ℕ) 0 Added Q (adding Q ends) (added Q ends)
      ss k (list ∷ integer (pos 0) ∷ []) store (λ g. short (omega (arith, g)))
      (record { list = list; count = 0; frame_is = refl; in_front = l; strings = strings; all_is = omega (arith, is) })))

lengths_give : (names : List (List ℕ)) (program : ProgramRows) (limit : Limit) (z : State) (name : Option Name) (v number none : ℕ)
    → HasLiteral program none (datum.integer (pos 0)) → slice_get program.procedures number ≡ Some (length_of_all name v none)
    → (before : List Object) → z.store ≡ before → (list : Value) (ss : Texts) → IsProperList before list (values_of ss) → AreStrings before ss
    → length (joined ss) ≤ 536870911
    → (kept : List Object) → IsExtended Object kept before → (k : ℕ) (wrong : Signals) (around : DynamicContext)
    → GivesKeeping kept limit k (suc (length ss)) z (λ w store. w ≡ integer (pos (length (joined ss))))
    (apply_procedure (at_level names program limit k) wrong number None (list ∷ []) around z)
lengths_give names program limit z name v number none is_none there before is list ss l strings small kept e =
    applies names program limit z kept (length ss) number name (v ∷ []) _ (list ∷ []) (λ w store. w ≡ integer (pos (length (joined ss))))
    (subst (λ os. IsExtended Object kept os) (sym is) e) there (λ u. simp none_of) refl
    (λ levels. at_store is (comes_sequence (first_then (comes_let (value_and
    (comes_literal none (datum.item is_none.0 (datum.integer (pos 0))) (integer (pos 0)) is_none.1 refl (no_bindings_left (λ u. refl) (weaker
    (lengths_come (setting names program limit z kept (suc levels) (suc (length ss))) v (length (joined ss)) small levels ss list before (λ g. omega (arith, g)) l strings refl)
    (λ w fr st g. then_nothing g)))))))))

-- another byte behind some
set_there : (xs ys : List ℕ) (g c : ℕ) → slice_set (xs ++ g ∷ ys) (length xs) c ≡ (xs ++ c ∷ []) ++ ys
set_there [] ys g c = refl
set_there (x ∷ xs) ys g c = ap (λ us. x ∷ us) (set_there xs ys g c)

-- the characters of a string are put into the gap in another one
module _ (s : Setting) (v increment increment' : ℕ) (is_one : HasLiteral s.program increment (datum.integer (pos 1)))
    (is_one' : HasLiteral s.program increment' (datum.integer (pos 1))) (whole : ℕ) (later : length s.kept ≤ whole) (from : Value) (front bytes rest : List ℕ)
    (text_is : StandsFor s.kept from (text bytes)) (small : length ((front ++ bytes) ++ rest) ≤ 536870911) where
  abbrev copy_frame : (index done : ℕ) → List Value
  copy_frame index done = object whole ∷ integer (pos index) ∷ from ∷ integer (pos done) ∷ integer (pos (length bytes)) ∷ []

  pub record Copied (left : List ℕ) (frame : List Value) (store : List Object) : Type 0 where
    pub made : List ℕ
    pub done : List ℕ
    pub gap : List ℕ
    pub frame_is : frame ≡ copy_frame (length made) (length done)
    pub made_is : made ≡ front ++ done
    pub all_is : done ++ left ≡ bytes
    pub gap_size : length gap ≡ length left
    pub there : slice_get store whole ≡ Some (string (made ++ (gap ++ rest)))
    pub kept : IsExtended Object s.kept store

  copies : {k : ℕ} (c : ℕ) (cs : List ℕ) (frame : List Value) (store : List Object) (h : Copied (c ∷ cs) frame store)
      → Comes s (part_places v) (a_form k (copy_turn v increment increment')) (copy_frame (length h.made) (length h.done)) store (λ ignored fr st. Copied cs fr st)
  copies {k} c cs frame store h = by h.gap h.gap_size h.there
    where
      by : (gap : List ℕ) → length gap ≡ suc (length cs) → slice_get store whole ≡ Some (string (h.made ++ (gap ++ rest)))
          → Comes s (part_places v) (a_form k (copy_turn v increment increment')) (copy_frame (length h.made) (length h.done)) store (λ ignored fr st. Copied cs fr st)
      by [] size there = absurd (omega (arith, size))
      by (g ∷ gap) size there =
          let now : List Object = slice_set store whole (string (slice_set (h.made ++ g ∷ (gap ++ rest)) (length h.made) c)) in
          let keeps : IsExtended Object s.kept now = change_keeps h.kept whole later (string (slice_set (h.made ++ g ∷ (gap ++ rest)) (length h.made) c)) in
          let text_there : object_in store from ≡ Some (string (h.done ++ c ∷ cs)) =
          text_in store from bytes (stands_kept h.kept from (text bytes) text_is) ∙ ap (λ us. Some (string us)) (sym h.all_is) in
          let done_next : length (h.done ++ c ∷ []) ≡ length h.done + 1 = length-append h.done (c ∷ []) in
          let made_next : length (h.made ++ c ∷ []) ≡ length h.made + 1 = length-append h.made (c ∷ []) in
          let done_size : length h.done + suc (length cs) ≡ length bytes = sym (length-append h.done (c ∷ cs)) ∙ ap length h.all_is in
          let made_size : length h.made ≡ length front + length h.done = ap length h.made_is ∙ length-append front h.done in
          let front_size : length (front ++ bytes) ≡ length front + length bytes = length-append front bytes in
          let total : length ((front ++ bytes) ++ rest) ≡ length (front ++ bytes) + length rest = length-append (front ++ bytes) rest in
          comes_sequence (first_then (comes_set_char (comes_char_at
          (comes_local (v + 2) 2 (at_argument v 2 (omega arith) (third_of_three v)) (comes_local (v + 3) 3 (at_index v) (
            h.done ++ c ∷ cs,
            length h.done,
            text_there,
            refl,
            is_within h.done c cs,
            comes_local v 0 (at_list v) (comes_local (v + 1) 1 (at_argument v 1 (omega arith) (second_of_three v)) (
              c,
              whole,
              h.made ++ g ∷ (gap ++ rest),
              length h.made,
              ap character (stands_behind h.done c cs 0),
              refl,
              there,
              refl,
              is_within h.made g (gap ++ rest),
              keeps,
              first_then (comes_set (v + 3) 3 (at_index v) (comes_integers (λ a b. integer_result (a +ℤ b)) (λ a b z. refl)
                  (comes_local (v + 3) 3 (at_index v) (comes_literal increment (datum.item is_one.0 (datum.integer (pos 1))) (integer (pos 1)) is_one.1 refl (
                    pos (length h.done),
                    pos 1,
                    integer (pos (length h.done + 1)),
                    refl,
                    refl,
                    ranged (pos (length h.done + 1)) (pos (length h.done + 1)) refl
                        (natural_range (length h.done + 1) (omega (arith, done_size, front_size, total, small))),
                    first_then (comes_set (v + 1) 1 (at_argument v 1 (omega arith) (second_of_three v)) (comes_integers (λ a b. integer_result (a +ℤ b)) (λ a b z. refl)
                        (comes_local (v + 1) 1 (at_argument v 1 (omega arith) (second_of_three v))
                        (comes_literal increment' (datum.item is_one'.0 (datum.integer (pos 1))) (integer (pos 1)) is_one'.1 refl (
                          pos (length h.made),
                          pos 1,
                          integer (pos (length h.made + 1)),
                          refl,
                          refl,
                          ranged (pos (length h.made + 1)) (pos (length h.made + 1)) refl
                              (natural_range (length h.made + 1) (omega (arith, made_size, done_size, front_size, total, small))),
                          then_nothing (record {
                            made = h.made ++ c ∷ [];
                            done = h.done ++ c ∷ [];
                            gap = gap;
                            frame_is = ap (λ n. copy_frame n (length h.done + 1)) (sym made_next) ∙ ap (λ n. copy_frame (length (h.made ++ c ∷ [])) n) (sym done_next);
                            made_is = ap (λ us. us ++ c ∷ []) h.made_is ∙ append_assoc front h.done (c ∷ []);
                            all_is = append_assoc h.done (c ∷ []) cs ∙ h.all_is;
                            gap_size = omega (arith, size);
                            there =
                                get_changed store whole (string (slice_set (h.made ++ g ∷ (gap ++ rest)) (length h.made) c)) _ there
                                ∙ ap (λ us. Some (string us)) (set_there h.made (gap ++ rest) g c);
                            kept = keeps;
                          }),
                        ))))),
                  ))))),
            )),
          ))))))

  module _ (Q : Value → List Value → List Object → Type 0) (ends : (frame : List Value) (store : List Object) → Copied [] frame store → Q nil frame store) where
    copying : Turns s (part_places v) (copy_test v) (copy_turn v increment increment') ℕ 0 Copied Q
    copying k c cs frame store short h =
        let done_size : length h.done + suc (length cs) ≡ length bytes = sym (length-append h.done (c ∷ cs)) ∙ ap length h.all_is in
        let before : length h.done < length bytes = omega (arith, done_size) in
        at_frame h.frame_is (comes_integers (λ a b z. says (int_lt a b) z) (λ a b z. refl)
        (comes_local (v + 3) 3 (at_index v) (comes_local (v + 4) 4 (at_items v) (
          pos (length h.done),
          pos (length bytes),
          truth_of true,
          refl,
          refl,
          said_to_be (int_lt (pos (length h.done)) (pos (length bytes))) true (grind (arith, nat_tests)),
          inl (refl, copies c cs frame store h),
        ))))

    copied : Stops s (part_places v) (copy_test v) (copy_turn v increment increment') ℕ 0 Copied Q
    copied k frame store short h =
        let done_size : length h.done + 0 ≡ length bytes = sym (length-append h.done []) ∙ ap length h.all_is in
        let reached : length h.done ≡ length bytes = omega (arith, done_size) in
        at_frame h.frame_is (comes_integers (λ a b z. says (int_lt a b) z) (λ a b z. refl)
        (comes_local (v + 3) 3 (at_index v) (comes_local (v + 4) 4 (at_items v) (
          pos (length h.done),
          pos (length bytes),
          nil,
          refl,
          refl,
          said_to_be (int_lt (pos (length h.done)) (pos (length bytes))) false (grind (arith, nat_tests)),
          (refl, subst (λ fr. Q nil fr store) h.frame_is (ends frame store h)),
        ))))

  -- the string with them, and the index behind
  abbrev pub IsCopied : Value → List Object → Type 0
  IsCopied w store = (w ≡ integer (pos (length (front ++ bytes)))) × (slice_get store whole ≡ Some (string ((front ++ bytes) ++ rest)))

  no_gap : (made gap : List ℕ) → length gap ≡ 0 → made ++ (gap ++ rest) ≡ made ++ rest
  no_gap made [] h = refl
  no_gap made (g ∷ gap) h = absurd (omega (arith, h))

  copy_comes : (k : ℕ) (gap : List ℕ) (store : List Object) → (k < length bytes → s.short) → length gap ≡ length bytes
      → slice_get store whole ≡ Some (string (front ++ (gap ++ rest))) → IsExtended Object s.kept store
      → Comes s (part_places v) (a_form k (copy_body v increment increment')) (copy_frame (length front) 0) store (λ w fr st. IsCopied w st)
  copy_comes k gap store short size there e =
      let Q : Value → List Value → List Object → Type 0 = λ u fr st. Comes s (part_places v) (in_order k u (one (local (v + 1)))) fr st (λ w fr st. IsCopied w st) in
      let ends : (frame : List Value) (store : List Object) → Copied [] frame store → Q nil frame store = λ frame store h.
      let made_is : h.made ≡ front ++ bytes = h.made_is ∙ ap (λ us. front ++ us) (sym (append-nil h.done) ∙ h.all_is) in
      at_frame h.frame_is (first_then (comes_local (v + 1) 1 (at_argument v 1 (omega arith) (second_of_three v)) (then_nothing (
        ap (λ us. integer (pos (length us))) made_is,
        h.there ∙ ap (λ us. Some (string us)) (no_gap h.made h.gap h.gap_size ∙ ap (λ us. us ++ rest) made_is),
      )))) in
      comes_sequence (first_then (loops s (part_places v) (copy_test v) (copy_turn v increment increment') ℕ 0 Copied Q (copying Q ends) (copied Q ends)
      bytes k (copy_frame (length front) 0) store (λ g. short (omega (arith, g)))
      (record {
        made = front;
        done = [];
        gap = gap;
        frame_is = refl;
        made_is = sym (append-nil front);
        all_is = refl;
        gap_size = size;
        there = there;
        kept = e;
      })))

copy_gives : (names : List (List ℕ)) (program : ProgramRows) (limit : Limit) (z : State) (name : Option Name) (v number none increment increment' : ℕ)
    → HasLiteral program none (datum.integer (pos 0)) → HasLiteral program increment (datum.integer (pos 1)) → HasLiteral program increment' (datum.integer (pos 1))
    → slice_get program.procedures number ≡ Some (copy_into name v none increment increment')
    → (before : List Object) → z.store ≡ before → (kept : List Object) → IsExtended Object kept before
    → (whole : ℕ) → length kept ≤ whole → (from : Value) (front bytes gap rest : List ℕ) → StandsFor kept from (text bytes)
    → length ((front ++ bytes) ++ rest) ≤ 536870911 → length gap ≡ length bytes → slice_get before whole ≡ Some (string (front ++ (gap ++ rest)))
    → (k : ℕ) (wrong : Signals) (around : DynamicContext)
    → GivesKeeping kept limit k (suc (length bytes)) z
    (λ w store. (w ≡ integer (pos (length (front ++ bytes)))) × (slice_get store whole ≡ Some (string ((front ++ bytes) ++ rest))))
    (apply_procedure (at_level names program limit k) wrong number None (object whole ∷ integer (pos (length front)) ∷ from ∷ []) around z)
copy_gives names program limit z name v number none increment increment' is_none is_one is_one' there before is kept e whole later from front bytes gap rest text_is small size whole_is =
    applies names program limit z kept (length bytes) number name (v ∷ (v + 1) ∷ (v + 2) ∷ []) _ (object whole ∷ integer (pos (length front)) ∷ from ∷ [])
    (λ w store. (w ≡ integer (pos (length (front ++ bytes)))) × (slice_get store whole ≡ Some (string ((front ++ bytes) ++ rest))))
    (subst (λ os. IsExtended Object kept os) (sym is) e) there (λ u. simp none_of) refl
    (λ levels. at_store is (comes_sequence (first_then (comes_let (value_and
    (comes_literal none (datum.item is_none.0 (datum.integer (pos 0))) (integer (pos 0)) is_none.1 refl (value_and
    (comes_string_length (comes_local (v + 2) 2 (third_of_three v) (
      bytes,
      text_in before from bytes (stands_kept e from (text bytes) text_is),
      no_bindings_left (λ u. refl) (weaker
          (copy_comes (setting names program limit z kept (suc levels) (suc (length bytes))) v increment increment' is_one is_one' whole later from front bytes rest
          text_is small levels gap before (λ g. omega (arith, g)) size whole_is e)
          (λ w fr st g. then_nothing g)),
    ))))))))))

-- what stands behind some and one more, and another one there
second_behind : (front : List Value) (x y : Value) (behind : List Value) → slice_index_or (front ++ x ∷ y ∷ behind) (suc (length front)) nil ≡ y
second_behind [] x y behind = refl
second_behind (z ∷ front) x y behind = second_behind front x y behind

second_set : (front : List Value) (x y other : Value) (behind : List Value)
    → slice_set (front ++ x ∷ y ∷ behind) (suc (length front)) other ≡ front ++ x ∷ other ∷ behind
second_set [] x y other behind = refl
second_set (z ∷ front) x y other behind = ap (λ us. z ∷ us) (second_set front x y other behind)

-- a gap for all that are left is one for the first and one for the others
splits : (first others gap : List ℕ) → length gap ≡ length (first ++ others)
    → (a : List ℕ) × (b : List ℕ) × (gap ≡ a ++ b) × (length a ≡ length first) × (length b ≡ length others)
splits [] others gap h = ([], gap, refl, refl, h)
splits (x ∷ first) others [] h = absurd (omega (arith, h))
splits (x ∷ first) others (g ∷ gap) h =
    let less : length gap ≡ length (first ++ others) = omega (arith, h) in
    let r : (a : List ℕ) × (b : List ℕ) × (gap ≡ a ++ b) × (length a ≡ length first) × (length b ≡ length others) = splits first others gap less in
    (g ∷ r.0, r.1, ap (λ us. g ∷ us) r.2, ap suc r.3, r.4)

blanks : (n c : ℕ) → length (replicate n c) ≡ n
blanks zero c = refl
blanks (suc n) c = ap suc (blanks n c)

module _ (s : Setting) (v : ℕ) (copy : ℕ) (copy_name : Option Name) (copy_v none increment increment' : ℕ)
    (is_none : HasLiteral s.program none (datum.integer (pos 0))) (is_one : HasLiteral s.program increment (datum.integer (pos 1)))
    (is_one' : HasLiteral s.program increment' (datum.integer (pos 1)))
    (copies_into : IsNamed s.names s.program copy (copy_into copy_name copy_v none increment increment'))
    (now : List Object) (since : IsExtended Object s.kept now) (whole : ℕ) (later : length now ≤ whole) (more : List Value)
    (all : List ℕ) (small : length all ≤ 536870911) where
  abbrev next_place : ℕ
  next_place = suc (length more) + 1

  next_is : next_place ≡ suc (suc (length more))
  next_is = omega arith

  abbrev joining_places : Places
  joining_places = (v + 1, suc (length more)) ∷ (v + 2, next_place) ∷ (v, 0) ∷ []

  at_whole : under_number (v + 1) joining_places ≡ Some (suc (length more))
  at_whole = here (v + 1) (suc (length more)) ((v + 2, next_place) ∷ (v, 0) ∷ [])

  at_next : under_number (v + 2) joining_places ≡ Some (next_place)
  at_next =
      elsewhere (v + 2) (v + 1) (suc (length more)) ((v + 2, next_place) ∷ (v, 0) ∷ []) (grind (arith, nat_tests))
      (here (v + 2) (next_place) ((v, 0) ∷ []))

  at_left : under_number v joining_places ≡ Some 0
  at_left =
      elsewhere v (v + 1) (suc (length more)) ((v + 2, next_place) ∷ (v, 0) ∷ []) (grind (arith, nat_tests))
      (elsewhere v (v + 2) (next_place) ((v, 0) ∷ []) (grind (arith, nat_tests)) (here v 0 []))

  abbrev joining_frame : (list index : Value) → List Value → List Value
  joining_frame list index others = list ∷ (more ++ object whole ∷ index ∷ others)

  whole_there : (list index : Value) (others : List Value) → slice_index_or (joining_frame list index others) (suc (length more)) nil ≡ object whole
  whole_there list index others = stands_behind more (object whole) (index ∷ others) nil

  next_there : (list index : Value) (others : List Value) → slice_index_or (joining_frame list index others) next_place nil ≡ index
  next_there list index others =
      ap (λ n. slice_index_or (joining_frame list index others) n nil) next_is ∙ second_behind more (object whole) index others

  next_set : (list index other : Value) (others : List Value) → slice_set (joining_frame list index others) next_place other ≡ joining_frame list other others
  next_set list index other others =
      ap (λ n. slice_set (joining_frame list index others) n other) next_is ∙ ap (λ us. list ∷ us) (second_set more (object whole) index other others)

  -- before each turn what is made, and the characters of those that are left, are all
  pub record Going (left : Texts) (frame : List Value) (store : List Object) : Type 0 where
    pub list : Value
    pub others : List Value
    pub made : List ℕ
    pub gap : List ℕ
    pub frame_is : frame ≡ joining_frame list (integer (pos (length made))) others
    pub in_front : IsProperList now list (values_of left)
    pub strings : AreStrings now left
    pub there : slice_get store whole ≡ Some (string (made ++ gap))
    pub gap_size : length gap ≡ length (joined left)
    pub all_is : made ++ joined left ≡ all
    pub kept : IsExtended Object now store

  joins : {k : ℕ} (x : Value × List ℕ) (xs : Texts) (frame : List Value) (store : List Object) → (k < suc (length all) → s.short) → (h : Going (x ∷ xs) frame store)
      → Comes s joining_places (a_form k (joining_turn v copy)) (joining_frame h.list (integer (pos (length h.made))) h.others) store (λ ignored fr st. Going xs fr st)
  joins {k} x xs frame store short h =
      let gaps : (a : List ℕ) × (b : List ℕ) × (h.gap ≡ a ++ b) × (length a ≡ length x.1) × (length b ≡ length (joined xs)) = splits x.1 (joined xs) h.gap h.gap_size in
      let index : Value = integer (pos (length h.made)) in
      let IsJoined : Value → List Object → Type 0 =
      λ w st. (w ≡ integer (pos (length (h.made ++ x.1)))) × (slice_get st whole ≡ Some (string ((h.made ++ x.1) ++ gaps.1))) in
      let first_size : length (h.made ++ x.1) ≡ length h.made + length x.1 = length-append h.made x.1 in
      let left_size : length (x.1 ++ joined xs) ≡ length x.1 + length (joined xs) = length-append x.1 (joined xs) in
      let all_size : length h.made + length (x.1 ++ joined xs) ≡ length all = sym (length-append h.made (x.1 ++ joined xs)) ∙ ap length h.all_is in
      let gap_size : length ((h.made ++ x.1) ++ gaps.1) ≡ length (h.made ++ x.1) + length gaps.1 = length-append (h.made ++ x.1) gaps.1 in
      let others_size : length gaps.1 ≡ length (joined xs) = gaps.4 in
      comes_sequence (first_then (comes_set (v + 2) (next_place) at_next (comes_call
      (argument_and (comes_known (v + 1) (suc (length more)) (object whole) at_whole (whole_there h.list index h.others)
      (argument_and (comes_known (v + 2) (next_place) index at_next (next_there h.list index h.others) (argument_and (comes_car (comes_local v 0 at_left (
        cell_later h.kept 0 h.list x.0 (values_of xs) h.in_front,
        no_arguments_left (called IsJoined (suc (length x.1)) (λ few. short (omega (arith, few, left_size, all_size))) now since
            (λ w added st e r.
            let frame_now : slice_set (h.list ∷ ((more ++ object whole ∷ index ∷ h.others) ++ added)) (next_place) w
            ≡ joining_frame h.list (integer (pos (length (h.made ++ x.1)))) (h.others ++ added) =
            ap (λ us. slice_set (h.list ∷ us) (next_place) w) (append_assoc more (object whole ∷ index ∷ h.others) added)
            ∙ next_set h.list index w (h.others ++ added) ∙ ap (λ u. joining_frame h.list u (h.others ++ added)) r.0 in
            at_frame frame_now (first_then (comes_set v 0 at_left (comes_cdr (comes_local v 0 at_left (
              cell_later e 0 h.list x.0 (values_of xs) h.in_front,
              then_nothing (record {
                list = h.in_front.1;
                others = h.others ++ added;
                made = h.made ++ x.1;
                gap = gaps.1;
                frame_is = refl;
                in_front = h.in_front.5;
                strings = h.strings.1;
                there = r.1;
                gap_size = gaps.4;
                all_is = append_assoc h.made x.1 (joined xs) ∙ h.all_is;
                kept = e;
              }),
            ))))))
            copy (copy_into copy_name copy_v none increment increment') copies_into (object whole ∷ index ∷ x.0 ∷ []) (λ y g wrong around.
            copy_gives s.names s.program s.limit y copy_name copy_v copies_into.number none increment increment' is_none is_one is_one' copies_into.there store g.objects_are
            now h.kept whole later x.0 h.made x.1 gaps.0 gaps.1 h.strings.0 (omega (arith, gap_size, first_size, left_size, all_size, others_size, small)) gaps.3
            (h.there ∙ ap (λ us. Some (string (h.made ++ us))) gaps.2) k wrong around)),
      )))))))))))

  module _ (Q : Value → List Value → List Object → Type 0) (ends : (frame : List Value) (store : List Object) → Going [] frame store → Q nil frame store) where
    joining : Turns s joining_places (not_null (local v)) (joining_turn v copy) (Value × List ℕ) (suc (length all)) Going Q
    joining k x xs frame store short h =
        at_frame h.frame_is (comes_null (comes_null (comes_local v 0 at_left (inl (
          ap (λ u. is_true (truth_of (same (truth_of (same u nil)) nil))) h.in_front.2,
          joins x xs frame store short h,
        )))))

    stopped : Stops s joining_places (not_null (local v)) (joining_turn v copy) (Value × List ℕ) (suc (length all)) Going Q
    stopped k frame store short h =
        at_frame h.frame_is (comes_null (comes_null (comes_local v 0 at_left (
          ap (λ u. is_true (truth_of (same (truth_of (same u nil)) nil))) h.in_front,
          subst (λ fr. Q nil fr store) h.frame_is (ends frame store h),
        ))))

  nothing_left : (made gap : List ℕ) → length gap ≡ 0 → made ++ gap ≡ made ++ []
  nothing_left made [] h = refl
  nothing_left made (g ∷ gap) h = absurd (omega (arith, h))

  joining_comes : (k : ℕ) (ss : Texts) (list : Value) (gap : List ℕ) (store : List Object) → (k < length ss + suc (length all) → s.short)
      → IsProperList now list (values_of ss) → AreStrings now ss → slice_get store whole ≡ Some (string gap) → length gap ≡ length (joined ss) → joined ss ≡ all
      → IsExtended Object now store
      → Comes s joining_places (a_form k (joining_body v copy)) (joining_frame list (integer (pos 0)) []) store
      (λ w fr st. (w ≡ object whole) × (slice_get st whole ≡ Some (string all)))
  joining_comes k ss list gap store short l strings there size is e =
      let Q : Value → List Value → List Object → Type 0 = λ u fr st. Comes s joining_places (in_order k u (one (local (v + 1)))) fr st
      (λ w fr st. (w ≡ object whole) × (slice_get st whole ≡ Some (string all))) in
      let ends : (frame : List Value) (store : List Object) → Going [] frame store → Q nil frame store = λ frame store h.
      at_frame h.frame_is (first_then (comes_known (v + 1) (suc (length more)) (object whole) at_whole (whole_there h.list (integer (pos (length h.made))) h.others)
      (then_nothing (refl, h.there ∙ ap (λ us. Some (string us)) (nothing_left h.made h.gap h.gap_size ∙ h.all_is))))) in
      comes_sequence (first_then (loops s joining_places (not_null (local v)) (joining_turn v copy) (Value × List ℕ) (suc (length all)) Going Q (joining Q ends) (stopped Q ends)
      ss k (joining_frame list (integer (pos 0)) []) store short
      (record {
        list = list;
        others = [];
        made = [];
        gap = gap;
        frame_is = refl;
        in_front = l;
        strings = strings;
        there = there;
        gap_size = size;
        all_is = is;
        kept = e;
      })))

pub law_of_string_append : LawOfStringAppend
law_of_string_append names program name lengths_name copy_name v lengths_v copy_v blank none none' none'' increment increment' lengths copy number
    is_blank is_none is_none' is_none'' is_one is_one' adds_lengths copies_into there limit k wrong around z ss strings small =
    let total : ℕ = length (joined ss) in
    let IsWhole : Value → List Object → Type 0 = λ w store. (i : ℕ) × (w ≡ object i) × (length z.store ≤ i) × (slice_get store i ≡ Some (string (joined ss))) in
    let enough : suc (length ss + suc total) ≡ length ss + total + 2 = omega arith in
    subst (λ n. Gives limit k n z IsWhole (apply_procedure (at_level names program limit k) wrong number None (values_of ss) around z)) enough
    (applies_to names program limit z z.store (length ss + suc total) number name [] (Some v) (sequence (one (joining_form v blank none lengths copy)))
    (values_of ss) IsWhole (nothing_added z.store) there (λ u. simp none_of) (grind (arith, nat_tests))
    (λ levels ws now g.
    let s : Setting = setting names program limit z z.store (suc levels) (suc (length ss + suc total)) in
    let list : IsProperList now g.0 (values_of ss) = proper_list now (length z.store) g.0 (values_of ss) g.2 in
    let texts : AreStrings now ss = strings_kept g.3 ss strings in
    at_frame g.1 (comes_sequence (first_then (comes_let (value_and (comes_make_string (comes_call (argument_and (comes_local v 0 (here v 0 []) (no_arguments_left
    (called (λ w store. w ≡ integer (pos total)) (suc (length ss)) (λ few. omega (arith, few)) now g.3
    (λ w more st e r.
    let gap : List ℕ = replicate total 32 in
    let made : List Object = st ++ string gap ∷ [] in
    comes_literal blank (datum.item is_blank.0 (datum.character 32)) (character 32) is_blank.1 refl (
      total,
      32,
      r,
      refl,
      value_and (comes_literal none (datum.item is_none.0 (datum.integer (pos 0))) (integer (pos 0)) is_none.1 refl
          (no_bindings_left (λ u. refl) (weaker
          (joining_comes s v copy copy_name copy_v none'' increment increment' is_none'' is_one is_one' copies_into now g.3 (length st) (no_shorter e) more
          (joined ss) small levels ss g.0 gap made (λ few. omega (arith, few)) list texts (get_last st (string gap)) (blanks total 32) refl (added_more e (put_behind st (string gap ∷ []))))
          (λ u fr last a. then_nothing (length st, a.0, no_shorter (added_more g.3 e), a.1))))),
    ))
    lengths (length_of_all lengths_name lengths_v none') adds_lengths (g.0 ∷ []) (λ y h wrong around.
    lengths_give names program limit y lengths_name lengths_v adds_lengths.number none' is_none' adds_lengths.there now h.objects_are g.0 ss list texts small
    now (nothing_added now) levels wrong around))))))))))))
    k wrong around)
