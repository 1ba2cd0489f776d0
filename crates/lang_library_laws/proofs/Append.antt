-- `append`, by the loop that turns copies of all lists but the last one onto each other, and by the one that turns them onto the last one.
use Rattle.std.proofs.Common.{◌≡◌, ◌≤◌, ◌<◌, ℕ, suc, ◌+◌, ◌==◌, ◌&&◌, ◌||◌, not, Bool, true, false, List, [], ◌∷◌, ◌++◌, map, is_some, refl, sym, ap, subst, ◌∙◌, inl, inr, Option, Some, None, length, slice_get, append-nil, length-append, arith}
use Rattle.std.proofs.lemmas.Bool.Decides.{nat_tests}
use Rattle.base.specs.Data as datum
use Rattle.base.specs.declared.datum.Name.{Name}
use Rattle.lang_meaning.specs.declared.program.ProgramRows.{ProgramRows}
use Rattle.lang_meaning.specs.declared.primitive.Primitive.TheVariants.{IsCons, Car}
use Rattle.lang_meaning.specs.Form.{no_form, no_clause, local, literal, call, prim, sequence}
use Rattle.lang_meaning.specs.Values.{Value, nil, symbol, is_true, truth as truth_of, same}
use Rattle.lang_meaning.specs.Objects.{Object}
use Rattle.lang_meaning.specs.State.{State, DynamicContext, Limit}
use Rattle.lang_meaning.specs.Lookup.{under_number}
use Rattle.lang_meaning.specs.Literals.{symbol_of}
use Rattle.lang_meaning.specs.Primitives.{as_cons}
use Rattle.lang_meaning.specs.Captured.{has_box}
use Rattle.lang_meaning.specs.Signals.{Signals, apply_procedure}
use Rattle.lang_library_laws.specs.Structures.{object_in}
use Rattle.lang_library_laws.specs.Lists.{IsProperList, AreProperLists, joined}
use Rattle.lang_library_laws.specs.Applications.{GivesKeeping, IsExtended, Gives, at_level, HasLiteral, HasTruth, IsNamed}
use Rattle.lang_library_laws.specs.ListBodies.{one, two, not_form, not_null, clause_of, and_form, is_no_list, turn_copy_onto, turn_onto, append_test, append_turn, append_end, append_body, append_form, append_all}
use Rattle.lang_library_laws.specs.Laws.{LawOfAppend}
use Rattle.lang_library_laws.proofs.Frames.{nothing_added, added_more, same_objects, Places, Setting, Comes, a_form, in_order, some_clauses, weaker, at_frame}
use Rattle.lang_library_laws.proofs.Evaluates.{cell_in, comes_local, comes_set, comes_literal, comes_sequence, then_nothing, first_then, comes_clauses, clause_taken, clause_passed, body_form, test_value, no_clause_left, while_runs, no_arguments_left, argument_and, no_bindings_left, value_and, comes_let}
use Rattle.lang_library_laws.proofs.OfPrimitives.{comes_car, comes_cdr, comes_null, comes_consp}
use Rattle.lang_library_laws.proofs.Loops.{Turns, Stops, loops}
use Rattle.lang_library_laws.proofs.Applies.{setting, applies, applies_to, called, comes_call}
use Rattle.lang_library_laws.proofs.Falling.{turned_onto, IsFalling}
use Rattle.lang_library_laws.proofs.TurnCopy.{turn_copy_gives}
use Rattle.lang_library_laws.proofs.TurnOnto.{turn_new_gives}
use Rattle.lang_library_laws.proofs.ListsKept.{list_kept, no_shorter, proper_list, cell_of, cell_later, here, elsewhere}

-- lists in stores that grow
lists_kept : {store now : List Object} → IsExtended Object store now → (ls : List (Value × List Value)) → AreProperLists store ls → AreProperLists now ls
lists_kept {store} {now} e [] h = tt
lists_kept {store} {now} e (l ∷ ls) h = (list_kept e 0 l.0 l.1 h.0, lists_kept e ls h.1)

abbrev values_of : List (Value × List Value) → List Value
values_of ls = map (λ l. l.0) ls

-- what is turned twice stands as it was
turned_twice : (xs ys zs : List Value) → turned_onto (turned_onto xs ys) zs ≡ turned_onto ys (xs ++ zs)
turned_twice [] ys zs = refl
turned_twice (x ∷ xs) ys zs = turned_twice xs (x ∷ ys) zs

turned_length : (xs ys : List Value) → length (turned_onto xs ys) ≡ length xs + length ys
turned_length [] ys = omega arith
turned_length (x ∷ xs) ys = let more : length (turned_onto xs (x ∷ ys)) ≡ length xs + length (x ∷ ys) = turned_length xs (x ∷ ys) in omega (arith, more)

module _ (s : Setting) (v : ℕ) (truth nothing list_class truth' turn_copy turn domain_error : ℕ) (copy_name onto_name : Option Name) (copy_v onto_v : ℕ)
    (is_truth : HasTruth s.program truth) (is_nothing : HasLiteral s.program nothing datum.nil) (is_truth' : HasTruth s.program truth')
    (copies : IsNamed s.names s.program turn_copy (turn_copy_onto copy_name copy_v)) (turns_onto : IsNamed s.names s.program turn (turn_onto onto_name onto_v))
    (flag : Value) (is_flag : is_true flag ≡ true) (all : List Value) where
  abbrev vars : Places
  vars = (v + 2, 2) ∷ (v, 0) ∷ (v + 1, 1) ∷ []

  at_front : under_number (v + 2) vars ≡ Some 2
  at_front = here (v + 2) 2 ((v, 0) ∷ (v + 1, 1) ∷ [])

  at_lists : under_number v vars ≡ Some 0
  at_lists = elsewhere v (v + 2) 2 ((v, 0) ∷ (v + 1, 1) ∷ []) (grind (arith, nat_tests)) (here v 0 ((v + 1, 1) ∷ []))

  at_flag : under_number (v + 1) vars ≡ Some 1
  at_flag =
      elsewhere (v + 1) (v + 2) 2 ((v, 0) ∷ (v + 1, 1) ∷ []) (grind (arith, nat_tests))
      (elsewhere (v + 1) v 0 ((v + 1, 1) ∷ []) (grind (arith, nat_tests)) (here (v + 1) 1 []))

  -- before each turn a list is left, and what is turned so far, turned onto the items of those that are left, is all
  pub record Joined (left : List (Value × List Value)) (frame : List Value) (store : List Object) : Type 0 where
    pub list : Value
    pub front : Value
    pub others : List Value
    pub done : List Value
    pub frame_is : frame ≡ list ∷ flag ∷ front ∷ others
    pub in_front : IsProperList s.kept list (values_of left)
    pub lists : AreProperLists s.kept left
    pub behind : IsFalling (length s.kept) (length store) store front done
    pub kept : IsExtended Object s.kept store
    pub all_is : turned_onto done (joined left) ≡ all
    pub size_is : length done + length (joined left) ≡ length all

  abbrev Joining : List (Value × List Value) → List Value → List Object → Type 0
  Joining [] frame store = ⊥
  Joining (l ∷ ls) frame store = Joined (l ∷ ls) frame store

  -- the test, where lists are left
  tests : {k : ℕ} (x : Value) (xs : List Value) (list : Value) (frame : List Value) (store : List Object) (l : IsProperList store list (x ∷ xs))
      (Q : Value → List Value → List Object → Type 0)
      → Q (truth_of (same (truth_of (same l.1 nil)) nil)) (list ∷ frame) store
      → Comes s vars (a_form k (append_test v truth)) (list ∷ frame) store Q
  tests {k} x xs list frame store l Q q =
      comes_null (comes_clauses (clause_passed (comes_null (comes_local v 0 at_lists (
        ap (λ u. is_true (truth_of (same u nil))) l.2,
        clause_taken (comes_literal truth (datum.item is_truth.1.0 (datum.symbol is_truth.0)) (symbol (symbol_of s.names is_truth.0)) is_truth.1.1 refl (
          refl,
          body_form (comes_sequence (first_then (comes_null (comes_cdr (comes_local v 0 at_lists (cell_of 0 list x xs l, then_nothing q)))))),
        )),
      )))))

  turn_comes : {k : ℕ} (x y : Value × List Value) (xs : List (Value × List Value)) (frame : List Value) (store : List Object) (h : Joined (x ∷ y ∷ xs) frame store)
      → (k < suc (length all) → s.short)
      → Comes s vars (a_form k (append_turn v turn_copy)) (h.list ∷ flag ∷ h.front ∷ h.others) store (λ ignored fr st. Joined (y ∷ xs) fr st)
  turn_comes {k} x y xs frame store h short =
      let l : IsProperList s.kept h.list (values_of (x ∷ y ∷ xs)) = h.in_front in
      let now : IsProperList store h.list (values_of (x ∷ y ∷ xs)) = list_kept h.kept 0 h.list (values_of (x ∷ y ∷ xs)) l in
      let size : length (x.1 ++ joined (y ∷ xs)) ≡ length x.1 + length (joined (y ∷ xs)) = length-append x.1 (joined (y ∷ xs)) in
      let total : length h.done + length (x.1 ++ joined (y ∷ xs)) ≡ length all = h.size_is in
      let IsTurned : Value → List Object → Type 0 = λ w st. IsFalling (length s.kept) (length st) st w (turned_onto x.1 h.done) in
      comes_sequence (first_then (comes_set (v + 2) 2 at_front (comes_call (argument_and (comes_car (comes_local v 0 at_lists (
        cell_of 0 h.list x.0 (values_of (y ∷ xs)) now,
        argument_and (comes_local (v + 2) 2 at_front (no_arguments_left
            (called IsTurned (suc (length x.1)) (λ g. short (omega (arith, g, size, total))) store h.kept
            (λ w more st e g.
            let later : IsExtended Object s.kept st = added_more h.kept e in
            first_then (comes_set v 0 at_lists (comes_cdr (comes_local v 0 at_lists (
              cell_later later 0 h.list x.0 (values_of (y ∷ xs)) l,
              then_nothing (record {
                list = l.1;
                front = w;
                others = h.others ++ more;
                done = turned_onto x.1 h.done;
                frame_is = refl;
                in_front = l.5;
                lists = h.lists.1;
                behind = g;
                kept = later;
                all_is = turned_twice x.1 h.done (joined (y ∷ xs)) ∙ h.all_is;
                size_is =
                    let turned : length (turned_onto x.1 h.done) ≡ length x.1 + length h.done = turned_length x.1 h.done in
                    omega (arith, turned, size, total);
              }),
            )))))
            turn_copy (turn_copy_onto copy_name copy_v) copies (x.0 ∷ h.front ∷ []) (λ z g wrong around.
            turn_copy_gives s.names s.program s.limit z copy_name copy_v copies.number copies.there (length s.kept) x.1 h.done x.0 h.front
            (subst (λ os. IsProperList os x.0 x.1) (sym g.objects_are) (list_kept h.kept 0 x.0 x.1 h.lists.0))
            (subst (λ os. IsFalling (length s.kept) (length os) os h.front h.done) (sym g.objects_are) h.behind)
            (subst (λ os. length s.kept ≤ length os) (sym g.objects_are) (no_shorter h.kept))
            store (same_objects (sym g.objects_are)) k wrong around)))),
      )))))))

  module _ (Q : Value → List Value → List Object → Type 0)
      (ends : (x : Value × List Value) (frame : List Value) (store : List Object) → Joined (x ∷ []) frame store → Q nil frame store) where
    turns : Turns s vars (append_test v truth) (append_turn v turn_copy) (Value × List Value) (suc (length all)) Joining Q
    turns k x [] frame store short h =
        let now : IsProperList store h.list (x.0 ∷ []) = list_kept h.kept 0 h.list (x.0 ∷ []) h.in_front in
        at_frame h.frame_is (tests x.0 [] h.list (flag ∷ h.front ∷ h.others) store now _ (inr (
          ap (λ u. is_true (truth_of (same (truth_of (same u nil)) nil))) now.5,
          subst (λ fr. Q nil fr store) h.frame_is (ends x frame store h),
        )))
    turns k x (y ∷ xs) frame store short h =
        let now : IsProperList store h.list (x.0 ∷ y.0 ∷ values_of xs) = list_kept h.kept 0 h.list (x.0 ∷ y.0 ∷ values_of xs) h.in_front in
        at_frame h.frame_is (tests x.0 (y.0 ∷ values_of xs) h.list (flag ∷ h.front ∷ h.others) store now _ (inl (
          ap (λ u. is_true (truth_of (same (truth_of (same u nil)) nil))) now.5.2,
          turn_comes x y xs frame store h short,
        )))

    stops : Stops s vars (append_test v truth) (append_turn v turn_copy) (Value × List Value) (suc (length all)) Joining Q
    stops k frame store short h = absurd h

  -- a proper list is a list
  listed : {k : ℕ} (list : Value) (frame : List Value) (store : List Object) (Q : Value → List Value → List Object → Type 0)
      (x : Value × List Value) → IsProperList store list (x.0 ∷ []) → IsProperList store x.0 x.1
      → ((w : Value) → is_true w ≡ false → Q w (list ∷ flag ∷ frame) store)
      → Comes s vars (a_form k (and_form (local (v + 1)) (is_no_list (prim Car (one (local v)))))) (list ∷ flag ∷ frame) store Q
  listed {k} list frame store Q x l items q =
      comes_clauses (clause_taken (comes_local (v + 1) 1 at_flag (
        is_flag,
        body_form (comes_sequence (first_then (comes_clauses (by x.1 items)))),
      )))
    where
      by : (xs : List Value) → IsProperList store x.0 xs
          → Comes s vars (some_clauses k (clause_of (not_form (prim IsCons (one (prim Car (one (local v)))))) (not_null (prim Car (one (local v)))) no_clause))
          (list ∷ flag ∷ frame) store (λ w fr st. Comes s vars (in_order k w no_form) fr st Q)
      by [] e =
          clause_taken (comes_null (comes_consp (comes_car (comes_local v 0 at_lists (
            cell_of 0 list x.0 [] l,
            (
              ap (λ u. is_true (truth_of (same (truth_of (is_some (as_cons (object_in store u)))) nil))) e,
              body_form (comes_sequence (first_then (comes_null (comes_null (comes_car (comes_local v 0 at_lists (
                cell_of 0 list x.0 [] l,
                then_nothing (then_nothing (q _ (ap (λ u. is_true (truth_of (same (truth_of (same u nil)) nil))) e))),
              ))))))),
            ),
          )))))
      by (y ∷ ys) e =
          clause_passed (comes_null (comes_consp (comes_car (comes_local v 0 at_lists (
            cell_of 0 list x.0 [] l,
            (
              ap (λ o. is_true (truth_of (same (truth_of (is_some (as_cons o))) nil))) (cell_in (cell_of 0 x.0 y ys e)),
              no_clause_left (then_nothing (q nil refl)),
            ),
          )))))

  -- behind the loop: the last list, with what is turned in front of it
  end_comes : {k : ℕ} (x : Value × List Value) (frame : List Value) (store : List Object) → Joined (x ∷ []) frame store → (k < suc (length all) → s.short)
      → Comes s vars (a_form k (append_end v nothing list_class truth' turn domain_error)) frame store (λ w fr st. IsProperList st w all)
  end_comes {k} x frame store h short =
      let now : IsProperList store h.list (x.0 ∷ []) = list_kept h.kept 0 h.list (x.0 ∷ []) h.in_front in
      let items : IsProperList store x.0 x.1 = list_kept h.kept 0 x.0 x.1 h.lists.0 in
      let same_items : turned_onto h.done x.1 ≡ all = ap (λ us. turned_onto h.done us) (sym (append-nil x.1)) ∙ h.all_is in
      let size : length (x.1 ++ []) ≡ length x.1 = ap length (append-nil x.1) in
      let IsAll : Value → List Object → Type 0 = λ w st. IsProperList st w (turned_onto h.done x.1) in
      at_frame h.frame_is (comes_clauses (clause_passed (comes_null (comes_local v 0 at_lists (
        ap (λ u. is_true (truth_of (same u nil))) now.2,
        clause_passed (listed h.list (h.front ∷ h.others) store _ x now items (λ w no. (
          no,
          clause_taken (comes_literal truth' (datum.item is_truth'.1.0 (datum.symbol is_truth'.0)) (symbol (symbol_of s.names is_truth'.0)) is_truth'.1.1 refl (
            refl,
            body_form (comes_sequence (first_then (comes_call (argument_and (comes_local (v + 2) 2 at_front (argument_and (comes_car (comes_local v 0 at_lists (
              cell_of 0 h.list x.0 [] now,
              no_arguments_left
                  (called IsAll (suc (length h.done)) (λ g. short (omega (arith, g, h.size_is))) s.kept (nothing_added s.kept)
                  (λ w more st e g. then_nothing (subst (λ us. IsProperList st w us) same_items g))
                  turn (turn_onto onto_name onto_v) turns_onto (h.front ∷ x.0 ∷ []) (λ z g wrong around.
                  turn_new_gives s.names s.program s.limit z onto_name onto_v turns_onto.number turns_onto.there store g.objects_are s.kept h.kept (length store)
                  h.done x.1 h.front x.0 h.behind h.lists.0 k wrong around)),
            ))))))))),
          )),
        ))),
      )))))

  body_comes : (k : ℕ) (ls : List (Value × List Value)) (list : Value) → (k < length ls + suc (length all) → s.short)
      → IsProperList s.kept list (values_of ls) → AreProperLists s.kept ls → joined ls ≡ all
      → Comes s vars (a_form k (append_body v truth nothing list_class truth' turn_copy turn domain_error)) (list ∷ flag ∷ nil ∷ []) s.kept
      (λ w fr st. IsProperList st w all)
  body_comes k [] list short l items a =
      comes_sequence (first_then (while_runs (comes_null (comes_clauses (clause_taken (comes_null (comes_local v 0 at_lists (
        ap (λ u. is_true (truth_of (same u nil))) l,
        test_value (inr (
          ap (λ u. is_true (truth_of (same (truth_of (same u nil)) nil))) l,
          first_then (comes_clauses (clause_taken (comes_null (comes_local v 0 at_lists (
            ap (λ u. is_true (truth_of (same u nil))) l,
            body_form (comes_sequence (first_then (comes_literal nothing (datum.item is_nothing.0 datum.nil) nil is_nothing.1 refl
                (then_nothing (then_nothing (subst (λ us. IsProperList s.kept nil us) a refl)))))),
          ))))),
        )),
      ))))))))
  body_comes k (x ∷ xs) list short l items a =
      let Q : Value → List Value → List Object → Type 0 =
      λ u fr st. Comes s vars (in_order k u (one (append_end v nothing list_class truth' turn domain_error))) fr st (λ w fr st. IsProperList st w all) in
      let ends : (x : Value × List Value) (frame : List Value) (store : List Object) → Joined (x ∷ []) frame store → Q nil frame store =
      λ x frame store h. first_then (weaker (end_comes x frame store h (λ g. short (omega (arith, g)))) (λ w fr st g. then_nothing g)) in
      comes_sequence (first_then (loops s vars (append_test v truth) (append_turn v turn_copy) (Value × List Value) (suc (length all)) Joining Q
      (turns Q ends) (stops Q ends) (x ∷ xs) k (list ∷ flag ∷ nil ∷ []) s.kept short
      (record {
        list = list;
        front = nil;
        others = [];
        done = [];
        frame_is = refl;
        in_front = l;
        lists = items;
        behind = refl;
        kept = nothing_added s.kept;
        all_is = a;
        size_is = omega (arith, ap length a);
      })))

-- what is bound and captured by nothing is captured by nothing
captured_by_nothing : (bound set : Bool) → (((not bound && false) || false) || false) && set ≡ false
captured_by_nothing true set = refl
captured_by_nothing false set = refl

no_boxes : (v no_items truth nothing list_class truth' turn_copy turn domain_error : ℕ) (u : ℕ)
    → has_box u (sequence (one (append_form v no_items truth nothing list_class truth' turn_copy turn domain_error))) ≡ false
no_boxes v no_items truth nothing list_class truth' turn_copy turn domain_error u = captured_by_nothing (u == v + 2 || false) _

-- what the loops give
append_all_gives : (names : List (List ℕ)) (program : ProgramRows) (limit : Limit) (z : State) (name copy_name onto_name : Option Name) (v copy_v onto_v number : ℕ)
    (no_items truth nothing list_class truth' turn_copy turn domain_error : ℕ)
    → HasLiteral program no_items datum.nil → HasTruth program truth → HasLiteral program nothing datum.nil → HasTruth program truth'
    → IsNamed names program turn_copy (turn_copy_onto copy_name copy_v) → IsNamed names program turn (turn_onto onto_name onto_v)
    → slice_get program.procedures number ≡ Some (append_all name v no_items truth nothing list_class truth' turn_copy turn domain_error)
    → (flag list : Value) (ls : List (Value × List Value)) → is_true flag ≡ true → IsProperList z.store list (values_of ls) → AreProperLists z.store ls
    → (k : ℕ) (wrong : Signals) (around : DynamicContext)
    → Gives limit k (suc (length ls + suc (length (joined ls)))) z (λ w store. IsProperList store w (joined ls))
    (apply_procedure (at_level names program limit k) wrong number None (list ∷ flag ∷ []) around z)
append_all_gives names program limit z name copy_name onto_name v copy_v onto_v number no_items truth nothing list_class truth' turn_copy turn domain_error
    is_nil is_truth is_nothing is_truth' copies turns_onto there flag list ls is_flag l items =
    let enough : ℕ = length ls + suc (length (joined ls)) in
    applies names program limit z z.store enough number name (v ∷ (v + 1) ∷ [])
    (sequence (one (append_form v no_items truth nothing list_class truth' turn_copy turn domain_error)))
    (list ∷ flag ∷ []) (λ w store. IsProperList store w (joined ls)) (nothing_added z.store) there
    (no_boxes v no_items truth nothing list_class truth' turn_copy turn domain_error) refl
    (λ levels.
    let s : Setting = setting names program limit z z.store (suc levels) (suc enough) in
    comes_sequence (first_then (comes_let (value_and
    (comes_literal no_items (datum.item is_nil.0 datum.nil) nil is_nil.1 refl (no_bindings_left (λ u. refl) (weaker
    (body_comes s v truth nothing list_class truth' turn_copy turn domain_error copy_name onto_name copy_v onto_v is_truth is_nothing is_truth' copies turns_onto
    flag is_flag (joined ls) levels ls list (λ g. omega (arith, g)) l items refl)
    (λ w fr st g. then_nothing g))))))))

pub law_of_append : LawOfAppend
law_of_append names program name name' copy_name onto_name v v' copy_v onto_v ends_in_list no_items truth nothing list_class truth' turn_copy turn domain_error append_all_name number
    is_end is_nil is_truth is_nothing is_truth' copies turns_onto named there limit k wrong around z ls items =
    let IsAll : Value → List Object → Type 0 = λ w store. IsProperList store w (joined ls) in
    let needs : ℕ = suc (length ls + suc (length (joined ls))) in
    let flag : Value = symbol (symbol_of names is_end.0) in
    let enough : suc needs ≡ length ls + length (joined ls) + 3 = omega arith in
    subst (λ n. Gives limit k n z IsAll (apply_procedure (at_level names program limit k) wrong number None (values_of ls) around z)) enough
    (applies_to names program limit z z.store needs number name [] (Some v) (sequence (one (call append_all_name (two (local v) (literal ends_in_list)))))
    (values_of ls) IsAll (nothing_added z.store) there (λ u. refl) (grind (arith, nat_tests))
    (λ levels ws now g. at_frame g.1 (comes_sequence (first_then (comes_call (argument_and (comes_local v 0 (here v 0 []) (argument_and
    (comes_literal ends_in_list (datum.item is_end.1.0 (datum.symbol is_end.0)) flag is_end.1.1 refl (no_arguments_left
    (called IsAll needs (λ short. omega (arith, short)) now g.3 (λ w more st e all. then_nothing all)
    append_all_name (append_all name' v' no_items truth nothing list_class truth' turn_copy turn domain_error) named (g.0 ∷ flag ∷ [])
    (λ y h wrong around.
    subst (λ os. GivesKeeping os limit levels needs y IsAll (apply_procedure (at_level names program limit levels) wrong named.number None (g.0 ∷ flag ∷ []) around y)) h.objects_are
    (append_all_gives names program limit y name' copy_name onto_name v' copy_v onto_v named.number no_items truth nothing list_class truth' turn_copy turn domain_error
    is_nil is_truth is_nothing is_truth' copies turns_onto named.there flag g.0 ls refl
    (subst (λ os. IsProperList os g.0 (values_of ls)) (sym h.objects_are) (proper_list now (length z.store) g.0 (values_of ls) g.2))
    (subst (λ os. AreProperLists os ls) (sym h.objects_are) (lists_kept g.3 ls items)) levels wrong around))))))))))))
    k wrong around)
