-- The loop that turns the conses of a list onto another list.
use Rattle.std.proofs.Common.{◌≡◌, ◌<◌, ℕ, suc, ◌+◌, ◌==◌, ◌&&◌, ◌||◌, not, Bool, true, false, List, [], ◌∷◌, ◌++◌, refl, sym, ap, subst, ◌∙◌, inl, Option, Some, None, length, slice_get, slice_set, slice_index_or, arith, le_refl}
use Rattle.std.proofs.lemmas.List.{get_or_push}
use Rattle.std.proofs.lemmas.Bool.Decides.{nat_tests}
use Rattle.base.specs.declared.datum.Name.{Name}
use Rattle.lang_meaning.specs.declared.program.ProgramRows.{ProgramRows}
use Rattle.lang_meaning.specs.Form.{local, sequence}
use Rattle.lang_meaning.specs.Values.{Value, nil, is_true, truth, same}
use Rattle.lang_meaning.specs.Objects.{Object, cons}
use Rattle.lang_meaning.specs.State.{State, DynamicContext, Limit}
use Rattle.lang_meaning.specs.Lookup.{under_number}
use Rattle.lang_meaning.specs.Captured.{has_box}
use Rattle.lang_meaning.specs.Signals.{Signals, apply_procedure}
use Rattle.lang_library_laws.specs.Lists.{IsProperList, HasConses, IsNoneOf, AreFrom, ChangesOnly}
use Rattle.lang_library_laws.specs.Applications.{IsExtended, GivesKeeping, at_level}
use Rattle.lang_library_laws.specs.ListBodies.{one, two, not_null, turn_turn, turn_loop, turn_onto}
use Rattle.lang_library_laws.proofs.Frames.{Places, Setting, Comes, a_form, in_order, at_frame, at_store}
use Rattle.lang_library_laws.proofs.Evaluates.{Cell, comes_local, comes_set, comes_sequence, then_nothing, first_then, no_bindings_left, value_and, comes_let}
use Rattle.lang_library_laws.proofs.OfPrimitives.{comes_cdr, comes_null, comes_set_cdr}
use Rattle.lang_library_laws.proofs.ListsKept.{here, elsewhere, behind_first}
use Rattle.lang_library_laws.proofs.Loops.{Turns, Stops, loops}
use Rattle.lang_library_laws.proofs.Falling.{turned_onto, IsFalling, get_other, get_changed, change_keeps}
use Rattle.lang_library_laws.proofs.Conses.{Conses, items_in, items_length, items_turned, conses_list, from_nothing, AreBeyond, AreApart, conses_before, conses_falling, none_behind, conses_changed}
use Rattle.lang_library_laws.proofs.Applies.{setting, keeps_more, applies}

-- Those conses are changed, all others stay as they were before; at the end there is a list of all.
module _ (s : Setting) (v : ℕ) (before : List Object) (changing all : Conses) where
  abbrev vars : Places
  vars = (v, 0) ∷ (v + 1, 1) ∷ []

  at_list : under_number v vars ≡ Some 0
  at_list = here v 0 ((v + 1, 1) ∷ [])

  at_end : under_number (v + 1) vars ≡ Some 1
  at_end = behind_first v 1 0 ((v + 1, 1) ∷ []) (omega arith) (here (v + 1) 1 [])

  -- before each turn what is left, turned onto what is done, is all; those that are done are apart from those that are left
  pub record Turned (left : Conses) (frame : List Value) (store : List Object) : Type 0 where
    pub list : Value
    pub end : Value
    pub others : List Value
    pub done : Conses
    pub frame_is : frame ≡ list ∷ end ∷ others
    pub in_front : HasConses store list left
    pub behind : HasConses store end done
    pub apart : AreApart left done
    pub later : AreFrom (length s.kept) left
    pub kept : IsExtended Object s.kept store
    pub all_is : turned_onto left done ≡ all
    pub inside : (i : ℕ) → IsNoneOf i changing → IsNoneOf i left
    pub stay : ChangesOnly changing before store

  tests : {k : ℕ} (list : Value) (frame : List Value) (store : List Object) (Q : Value → List Value → List Object → Type 0)
      → Q (truth (same (truth (same list nil)) nil)) (list ∷ frame) store
      → Comes s vars (a_form k (not_null (local v))) (list ∷ frame) store Q
  tests {k} list frame store Q q = comes_null (comes_null (comes_local v 0 at_list q))

  turn : {k : ℕ} (c : ℕ × Value) (cs : Conses) (frame : List Value) (store : List Object) (h : Turned (c ∷ cs) frame store)
      → Comes s vars (a_form k (turn_turn v)) (h.list ∷ h.end ∷ h.others) store (λ ignored fr st. Turned cs fr st)
  turn {k} c cs frame store h =
      let l : HasConses store h.list (c ∷ cs) = h.in_front in
      let cell : Cell store h.list = record { number = c.0; first = c.1; rest = l.0; is = l.1; there = l.2 } in
      let place : ℕ = suc (suc (length h.others)) in
      let inner : Places = (v + 2, place) ∷ vars in
      let inner_list : under_number v inner ≡ Some 0 = elsewhere v (v + 2) place vars (grind (arith, nat_tests)) at_list in
      let inner_end : under_number (v + 1) inner ≡ Some 1 = elsewhere (v + 1) (v + 2) place vars (grind (arith, nat_tests)) at_end in
      let made : Object = cons c.1 h.end in
      let now : List Object = slice_set store c.0 made in
      let keeps : IsExtended Object s.kept now = change_keeps h.kept c.0 h.later.0 made in
      comes_sequence (first_then (comes_let (value_and (comes_cdr (comes_local v 0 at_list (
        cell,
        no_bindings_left (λ u. refl) (comes_sequence (first_then
            (comes_set_cdr (comes_local (v + 1) 1 inner_end (comes_local v 0 inner_list (
              cell,
              keeps,
              first_then (comes_set (v + 1) 1 inner_end (comes_local v 0 inner_list
                  (first_then (comes_set v 0 inner_list (comes_local (v + 2) place (here (v + 2) place vars)
                  (then_nothing (then_nothing (record {
                    list = slice_index_or (h.others ++ l.0 ∷ []) (length h.others) nil;
                    end = h.list;
                    others = h.others ++ l.0 ∷ [];
                    done = c ∷ h.done;
                    frame_is = refl;
                    in_front = subst (λ u. HasConses now u cs) (sym (get_or_push h.others l.0 nil (length h.others) refl))
                        (conses_changed store c.0 made l.0 cs (none_behind c cs h.done h.apart) l.3);
                    behind = (h.end, l.1, get_changed store c.0 made (cons c.1 l.0) l.2, conses_changed store c.0 made h.end h.done h.apart.0 h.behind);
                    apart = h.apart.1;
                    later = h.later.1;
                    kept = keeps;
                    all_is = h.all_is;
                    inside = λ i n. (h.inside i n).1;
                    stay = λ i n. get_other store c.0 i made (h.inside i n).0 ∙ h.stay i n;
                  })))))))),
            )))))),
      ))))))

  -- at the end
  abbrev pub Ended : Value → List Object → Type 0
  Ended w store = HasConses store w all × ChangesOnly changing before store

  module _ (Q : Value → List Value → List Object → Type 0)
      (ends : (end : Value) (others : List Value) (store : List Object) → Ended end store → Q nil (nil ∷ end ∷ others) store) where
    turns : Turns s vars (not_null (local v)) (turn_turn v) (ℕ × Value) 0 Turned Q
    turns k c cs frame store short h =
        at_frame h.frame_is (tests h.list (h.end ∷ h.others) store _ (inl (
          ap (λ u. is_true (truth (same (truth (same u nil)) nil))) h.in_front.1,
          turn c cs frame store h,
        )))

    stops : Stops s vars (not_null (local v)) (turn_turn v) (ℕ × Value) 0 Turned Q
    stops k frame store short h =
        at_frame h.frame_is (tests h.list (h.end ∷ h.others) store _ (
          ap (λ u. is_true (truth (same (truth (same u nil)) nil))) h.in_front,
          subst (λ u. Q nil (u ∷ h.end ∷ h.others) store) (sym h.in_front)
              (ends h.end h.others store (subst (λ cs. HasConses store h.end cs) h.all_is h.behind, h.stay)),
        ))

  body_comes : (k : ℕ) (cs ds : Conses) (list end : Value) (store : List Object) → (k < length cs → s.short)
      → HasConses store list cs → HasConses store end ds → AreApart cs ds → AreFrom (length s.kept) cs → IsExtended Object s.kept store
      → turned_onto cs ds ≡ all → ((i : ℕ) → IsNoneOf i changing → IsNoneOf i cs) → ChangesOnly changing before store
      → Comes s vars (a_form k (sequence (two (turn_loop v) (local (v + 1))))) (list ∷ end ∷ []) store (λ w fr st. Ended w st)
  body_comes k cs ds list end store short l b a f e is inside stay =
      let Q : Value → List Value → List Object → Type 0 = λ u fr st. Comes s vars (in_order k u (one (local (v + 1)))) fr st (λ w fr st. Ended w st) in
      let ends : (end : Value) (others : List Value) (store : List Object) → Ended end store → Q nil (nil ∷ end ∷ others) store =
      λ end others store g. first_then (comes_local (v + 1) 1 at_end (then_nothing g)) in
      comes_sequence (first_then (loops s vars (not_null (local v)) (turn_turn v) (ℕ × Value) 0 Turned Q (turns Q ends) (stops Q ends)
      cs k (list ∷ end ∷ []) store (λ g. short (omega (arith, g)))
      (record {
        list = list;
        end = end;
        others = [];
        done = ds;
        frame_is = refl;
        in_front = l;
        behind = b;
        apart = a;
        later = f;
        kept = e;
        all_is = is;
        inside = inside;
        stay = stay;
      })))

-- what is bound and captured by nothing is captured by nothing
captured_by_nothing : (bound set : Bool) → (((((((not bound && false) || false) || false) || false) || false) || false) || false) && set ≡ false
captured_by_nothing true set = refl
captured_by_nothing false set = refl

no_boxes : (v u : ℕ) → has_box u (sequence (two (turn_loop v) (local (v + 1)))) ≡ false
no_boxes v u = captured_by_nothing (u == v + 2 || false) _

-- what the loop gives: the conses of a list, turned onto those of one that is apart from it, and no other change
pub turn_gives : (names : List (List ℕ)) (program : ProgramRows) (limit : Limit) (z : State) (name : Option Name) (v number : ℕ)
    → slice_get program.procedures number ≡ Some (turn_onto name v)
    → (before : List Object) → z.store ≡ before → (cs ds : Conses) (list end : Value) → HasConses before list cs → HasConses before end ds → AreApart cs ds
    → (kept : List Object) → IsExtended Object kept before → AreFrom (length kept) cs → (k : ℕ) (wrong : Signals) (around : DynamicContext)
    → GivesKeeping kept limit k (suc (length cs)) z (λ w store. HasConses store w (turned_onto cs ds) × ChangesOnly cs before store)
    (apply_procedure (at_level names program limit k) wrong number None (list ∷ end ∷ []) around z)
turn_gives names program limit z name v number there before is cs ds list end l b a kept e f =
    applies names program limit z kept (length cs) number name (v ∷ (v + 1) ∷ []) (sequence (two (turn_loop v) (local (v + 1))))
    (list ∷ end ∷ []) (λ w store. HasConses store w (turned_onto cs ds) × ChangesOnly cs before store) (subst (λ os. IsExtended Object kept os) (sym is) e) there (no_boxes v) refl
    (λ levels. at_store is (body_comes (setting names program limit z kept (suc levels) (suc (length cs))) v before cs (turned_onto cs ds) levels
    cs ds list end before (λ g. omega (arith, g)) l b a f e refl (λ i n. n) (λ i n. refl)))

-- the same for a list of new conses and one that was there
pub turn_new_gives : (names : List (List ℕ)) (program : ProgramRows) (limit : Limit) (z : State) (name : Option Name) (v number : ℕ)
    → slice_get program.procedures number ≡ Some (turn_onto name v)
    → (before : List Object) → z.store ≡ before → (kept : List Object) → IsExtended Object kept before
    → (above : ℕ) (items done : List Value) (list end : Value) → IsFalling (length kept) above before list items → IsProperList kept end done
    → (k : ℕ) (wrong : Signals) (around : DynamicContext)
    → GivesKeeping kept limit k (suc (length items)) z (λ w store. IsProperList store w (turned_onto items done))
    (apply_procedure (at_level names program limit k) wrong number None (list ∷ end ∷ []) around z)
turn_new_gives names program limit z name v number there before is kept e above items done list end l b k wrong around =
    let cs : (cs : Conses) × (items_in cs ≡ items) × HasConses before list cs × AreFrom (length kept) cs × ((ds : Conses) → AreBeyond (length kept) above ds → AreApart cs ds) =
    conses_falling before (length kept) above list items l in
    let ds : (ds : Conses) × (items_in ds ≡ done) × HasConses before end ds × AreBeyond (length kept) above ds =
    conses_before e (length kept) above (le_refl (length kept)) end done b in
    let size : length cs.0 ≡ length items = sym (items_length cs.0) ∙ ap length cs.1 in
    let all : items_in (turned_onto cs.0 ds.0) ≡ turned_onto items done =
    items_turned cs.0 ds.0 ∙ ap (λ us. turned_onto us (items_in ds.0)) cs.1 ∙ ap (λ us. turned_onto items us) ds.1 in
    keeps_more kept limit k (suc (length items)) z (λ w store. HasConses store w (turned_onto cs.0 ds.0) × ChangesOnly cs.0 before store)
    (λ w store. IsProperList store w (turned_onto items done)) (apply_procedure (at_level names program limit k) wrong number None (list ∷ end ∷ []) around z)
    (subst (λ n. GivesKeeping kept limit k (suc n) z (λ w store. HasConses store w (turned_onto cs.0 ds.0) × ChangesOnly cs.0 before store)
    (apply_procedure (at_level names program limit k) wrong number None (list ∷ end ∷ []) around z)) size
    (turn_gives names program limit z name v number there before is cs.0 ds.0 list end cs.2 ds.2 (cs.4 ds.0 ds.3) kept e cs.3 k wrong around))
    (λ w store h. subst (λ us. IsProperList store w us) all (conses_list store 0 w (turned_onto cs.0 ds.0) (from_nothing (turned_onto cs.0 ds.0)) h.0))
