-- The loop that turns copies of the items of a list onto another list.
use Rattle.std.proofs.Common.{length-append, inl, ◌≡◌, ◌≤◌, ◌<◌, ℕ, suc, ◌+◌, List, [], ◌∷◌, ◌++◌, refl, sym, ap, subst, Option, Some, None, length, slice_get, arith, le_trans}
use Rattle.base.specs.declared.datum.Name.{Name}
use Rattle.lang_meaning.specs.declared.program.ProgramRows.{ProgramRows}
use Rattle.lang_meaning.specs.Form.{local, sequence}
use Rattle.lang_meaning.specs.Values.{Value, nil, object, is_true, truth, same}
use Rattle.lang_meaning.specs.Objects.{Object, cons}
use Rattle.lang_meaning.specs.State.{State, DynamicContext, Limit}
use Rattle.lang_meaning.specs.Lookup.{under_number}
use Rattle.lang_meaning.specs.Signals.{Signals, apply_procedure}
use Rattle.lang_library_laws.specs.Lists.{IsProperList}
use Rattle.lang_library_laws.specs.Applications as Applied
use Rattle.lang_library_laws.specs.Applications.{IsExtended, at_level, IsNamed}
use Rattle.lang_library_laws.specs.ListBodies.{one, two, not_null, turn_copy_turn, turn_copy_loop, turn_copy_onto}
use Rattle.lang_library_laws.proofs.Frames.{put_behind, get_last, Places, Setting, Comes, a_form, in_order, at_frame}
use Rattle.lang_library_laws.proofs.Evaluates.{comes_local, comes_set, comes_sequence, then_nothing, first_then}
use Rattle.lang_library_laws.proofs.OfPrimitives.{comes_car, comes_cdr, comes_null, comes_cons}
use Rattle.lang_library_laws.proofs.Loops.{Turns, Stops, loops}
use Rattle.lang_library_laws.proofs.Applies.{setting, applies}
use Rattle.lang_library_laws.proofs.Falling.{turned_onto, IsFalling, falling_kept}
use Rattle.lang_library_laws.proofs.ListsKept.{cell_of, list_kept, no_shorter, here, behind_first}

module _ (s : Setting) (v first : ℕ) (all : List Value) where
  abbrev vars : Places
  vars = (v, 0) ∷ (v + 1, 1) ∷ []

  at_list : under_number v vars ≡ Some 0
  at_list = here v 0 ((v + 1, 1) ∷ [])

  at_end : under_number (v + 1) vars ≡ Some 1
  at_end = behind_first v 1 0 ((v + 1, 1) ∷ []) (omega arith) (here (v + 1) 1 [])

  -- before each turn the items that are left, turned onto those that are done, are all
  pub record Turned (left : List Value) (frame : List Value) (store : List Object) : Type 0 where
    pub list : Value
    pub end : Value
    pub done : List Value
    pub frame_is : frame ≡ list ∷ end ∷ []
    pub in_front : IsProperList store list left
    pub behind : IsFalling first (length store) store end done
    pub first_is : first ≤ length store
    pub all_is : turned_onto left done ≡ all

  tests : {k : ℕ} (list end : Value) (store : List Object) (Q : Value → List Value → List Object → Type 0)
      → Q (truth (same (truth (same list nil)) nil)) (list ∷ end ∷ []) store
      → Comes s vars (a_form k (not_null (local v))) (list ∷ end ∷ []) store Q
  tests {k} list end store Q q = comes_null (comes_null (comes_local v 0 at_list q))

  turn : {k : ℕ} (x : Value) (xs : List Value) (list end : Value) (done : List Value) (store : List Object)
      → IsProperList store list (x ∷ xs) → IsFalling first (length store) store end done → first ≤ length store → turned_onto xs (x ∷ done) ≡ all
      → Comes s vars (a_form k (turn_copy_turn v)) (list ∷ end ∷ []) store (λ ignored fr st. Turned xs fr st)
  turn {k} x xs list end done store l b f a =
      let made : Object = cons x end in
      let now : List Object = store ++ made ∷ [] in
      let grown : IsExtended Object store now = put_behind store (made ∷ []) in
      let bigger : length store < length now = subst (λ n. length store < n) (sym (length-append store (made ∷ []))) (omega arith) in
      let l' : IsProperList now list (x ∷ xs) = list_kept grown 0 list (x ∷ xs) l in
      comes_sequence (first_then (comes_set (v + 1) 1 at_end
      (comes_cons (comes_car (comes_local v 0 at_list (
        cell_of 0 list x xs l,
        comes_local (v + 1) 1 at_end
            (first_then (comes_set v 0 at_list
            (comes_cdr (comes_local v 0 at_list (
              cell_of 0 list x xs l',
              then_nothing (record {
                list = l'.1;
                end = object (length store);
                done = x ∷ done;
                frame_is = refl;
                in_front = l'.5;
                behind = (length store, end, refl, f, bigger, get_last store made, falling_kept grown first (length store) (length store) end done (omega arith) b);
                first_is = le_trans f (no_shorter grown);
                all_is = a;
              }),
            ))))),
      ))))))

  module _ (Q : Value → List Value → List Object → Type 0)
      (ends : (end : Value) (store : List Object) → IsFalling first (length store) store end all → Q nil (nil ∷ end ∷ []) store) where
    turns : Turns s vars (not_null (local v)) (turn_copy_turn v) Value 0 Turned Q
    turns k x xs frame store short h =
        at_frame h.frame_is (tests h.list h.end store _ (inl (
          ap (λ u. is_true (truth (same (truth (same u nil)) nil))) h.in_front.2,
          turn x xs h.list h.end h.done store h.in_front h.behind h.first_is h.all_is,
        )))

    stops : Stops s vars (not_null (local v)) (turn_copy_turn v) Value 0 Turned Q
    stops k frame store short h =
        at_frame h.frame_is (tests h.list h.end store _ (
          ap (λ u. is_true (truth (same (truth (same u nil)) nil))) h.in_front,
          subst (λ u. Q nil (u ∷ h.end ∷ []) store) (sym h.in_front)
              (ends h.end store (subst (λ vs. IsFalling first (length store) store h.end vs) h.all_is h.behind)),
        ))

  body_comes : (k : ℕ) (items done : List Value) (list end : Value) (store : List Object) → (k < length items → s.short)
      → IsProperList store list items → IsFalling first (length store) store end done → first ≤ length store → turned_onto items done ≡ all
      → Comes s vars (a_form k (sequence (two (turn_copy_loop v) (local (v + 1))))) (list ∷ end ∷ []) store (λ w fr st. IsFalling first (length st) st w all)
  body_comes k items done list end store short l b f a =
      let Q : Value → List Value → List Object → Type 0 = λ u fr st. Comes s vars (in_order k u (one (local (v + 1)))) fr st (λ w fr st. IsFalling first (length st) st w all) in
      let ends : (end : Value) (store : List Object) → IsFalling first (length store) store end all → Q nil (nil ∷ end ∷ []) store =
      λ end store g. first_then (comes_local (v + 1) 1 at_end (then_nothing g)) in
      comes_sequence (first_then (loops s vars (not_null (local v)) (turn_copy_turn v) Value 0 Turned Q (turns Q ends) (stops Q ends)
      items k (list ∷ end ∷ []) store (λ g. short (omega (arith, g)))
      (record { list = list; end = end; done = done; frame_is = refl; in_front = l; behind = b; first_is = f; all_is = a })))

-- what the loop gives
pub turn_copy_gives : (names : List (List ℕ)) (program : ProgramRows) (limit : Limit) (z : State) (name : Option Name) (v number : ℕ)
    → slice_get program.procedures number ≡ Some (turn_copy_onto name v)
    → (first : ℕ) (items done : List Value) (list end : Value) → IsProperList z.store list items → IsFalling first (length z.store) z.store end done
    → first ≤ length z.store → (kept : List Object) → IsExtended Object kept z.store → (k : ℕ) (wrong : Signals) (around : DynamicContext)
    → Applied.GivesKeeping kept limit k (suc (length items)) z (λ w store. IsFalling first (length store) store w (turned_onto items done))
    (apply_procedure (at_level names program limit k) wrong number None (list ∷ end ∷ []) around z)
turn_copy_gives names program limit z name v number there first items done list end l b f kept e =
    applies names program limit z kept (length items) number name (v ∷ (v + 1) ∷ []) (sequence (two (turn_copy_loop v) (local (v + 1))))
    (list ∷ end ∷ []) (λ w store. IsFalling first (length store) store w (turned_onto items done)) e there (λ u. refl) refl
    (λ levels. body_comes (setting names program limit z kept (suc levels) (suc (length items))) v first (turned_onto items done) levels
    items done list end z.store (λ g. omega (arith, g)) l b f refl)
