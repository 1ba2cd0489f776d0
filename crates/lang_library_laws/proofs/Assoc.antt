-- `assoc`, by the loop that seeks.
use Rattle.std.proofs.Common.{◌≡◌, ℕ, suc, ◌+◌, Bool, true, false, List, [], ◌∷◌, refl, ap, subst, ◌∙◌, Some, None, length, slice_get, arith, if◌then◌else◌}
use Rattle.base.specs.Data as datum
use Rattle.lang_meaning.specs.Form.{sequence}
use Rattle.lang_meaning.specs.Values.{Value, nil, object, symbol, is_true, truth as truth_of, same}
use Rattle.lang_meaning.specs.Objects.{Object, cons}
use Rattle.lang_meaning.specs.Literals.{symbol_of}
use Rattle.lang_meaning.specs.Signals.{apply_procedure}
use Rattle.lang_library_laws.specs.Lists.{IsProperList, HaveKeys, with_key}
use Rattle.lang_library_laws.specs.Applications.{Gives, at_level, HasLiteral, HasTruth}
use Rattle.lang_library_laws.specs.ListBodies.{two, seek, entry_key, assoc_end}
use Rattle.lang_library_laws.specs.Laws.{LawOfAssoc}
use Rattle.lang_library_laws.proofs.Frames.{nothing_added, Setting, Comes, a_form, weaker, at_frame}
use Rattle.lang_library_laws.proofs.Evaluates.{comes_local, comes_literal, comes_sequence, then_nothing, first_then, comes_clauses, clause_taken, clause_passed, body_form}
use Rattle.lang_library_laws.proofs.OfPrimitives.{comes_car, comes_null}
use Rattle.lang_library_laws.proofs.Applies.{setting, applies}
use Rattle.lang_library_laws.proofs.ListsKept.{cell_of}
use Rattle.lang_library_laws.proofs.Seek.{items_of, from_key, seek_places, at_list, Keyed, seeks}

-- the key of a cons is its first part
abbrev IsFirst : List Object → Value → Value → Type 0
IsFirst store x y = (i : ℕ) × (d : Value) × (x ≡ object i) × (slice_get store i ≡ Some (cons y d))

entry_key_comes : (s : Setting) (v : ℕ) (key : Value) (k : ℕ) (Q : Value → List Value → List Object → Type 0) (x y : Value) (xs : List Value)
    (list : Value) (store : List Object) → IsProperList store list (x ∷ xs) → IsFirst store x y → Q y (key ∷ list ∷ []) store
    → Comes s (seek_places v) (a_form k (entry_key v)) (key ∷ list ∷ []) store Q
entry_key_comes s v key k Q x y xs list store l e q =
    comes_car (comes_car (comes_local (v + 1) 1 (at_list v) (
      cell_of 0 list x xs l,
      (record { number = e.0; first = y; rest = e.1; is = e.2; there = e.3 }, q),
    )))

keyed : (store : List Object) (es : List (Value × Value)) → HaveKeys store es → Keyed IsFirst store es
keyed store [] h = tt
keyed store (e ∷ es) h = (h.0, keyed store es h.1)

-- the first of what is found is what is sought
abbrev first_item : List (Value × Value) → Value
first_item [] = nil
first_item (e ∷ es) = e.0

first_found : (key : Value) (es : List (Value × Value)) → first_item (from_key key es) ≡ with_key key es
first_found key [] = refl
first_found key (e ∷ es) = by (same key e.1) (first_found key es)
  where
    by : (b : Bool) → first_item (from_key key es) ≡ with_key key es
        → first_item (if b then e ∷ es else from_key key es) ≡ (if b then e.0 else with_key key es)
    by true others = refl
    by false others = others

module _ (s : Setting) (v truth no_entry : ℕ) (is_truth : HasTruth s.program truth) (is_nil : HasLiteral s.program no_entry datum.nil) where
  ends : (k : ℕ) (found : List (Value × Value)) (key list : Value) (store : List Object) → IsProperList store list (items_of found)
      → Comes s (seek_places v) (a_form k (assoc_end v truth no_entry)) (key ∷ list ∷ []) store (λ w fr st. w ≡ first_item found)
  ends k [] key list store l =
      comes_clauses (clause_taken (comes_null (comes_local (v + 1) 1 (at_list v) (
        ap (λ u. is_true (truth_of (same u nil))) l,
        body_form (comes_sequence (first_then (comes_literal no_entry (datum.item is_nil.0 datum.nil) nil is_nil.1 refl (then_nothing refl)))),
      ))))
  ends k (e ∷ es) key list store l =
      comes_clauses (clause_passed (comes_null (comes_local (v + 1) 1 (at_list v) (
        ap (λ u. is_true (truth_of (same u nil))) l.2,
        clause_taken (comes_literal truth (datum.item is_truth.1.0 (datum.symbol is_truth.0)) (symbol (symbol_of s.names is_truth.0)) is_truth.1.1 refl (
          refl,
          body_form (comes_sequence (first_then (comes_car (comes_local (v + 1) 1 (at_list v) (cell_of 0 list e.0 (items_of es) l, then_nothing refl))))),
        )),
      ))))

pub law_of_assoc : LawOfAssoc
law_of_assoc names program name v truth truth' no_entry number is_truth is_truth' is_nil there limit k wrong around z key list es l keys =
    let enough : suc (length es) ≡ length es + 1 = omega arith in
    subst (λ n. Gives limit k n z (λ w store. w ≡ with_key key es) (apply_procedure (at_level names program limit k) wrong number None (key ∷ list ∷ []) around z)) enough
    (applies names program limit z z.store (length es) number name (v ∷ (v + 1) ∷ []) (sequence (two (seek v truth (entry_key v)) (assoc_end v truth' no_entry)))
    (key ∷ list ∷ []) (λ w store. w ≡ with_key key es) (nothing_added z.store) there (λ u. refl) refl
    (λ levels.
    let s : Setting = setting names program limit z z.store (suc levels) (suc (length es)) in
    comes_sequence (first_then (weaker
    (seeks s v truth (entry_key v) is_truth key list IsFirst (entry_key_comes s v key) (from_key key es) levels es z.store
    (λ g. omega (arith, g)) l (keyed z.store es keys) refl)
    (λ nothing fr st f. at_frame f.frame_is (first_then (weaker (ends s v truth' no_entry is_truth' is_nil levels (from_key key es) key f.list st f.items)
    (λ w fr st e. then_nothing (e ∙ first_found key es))))))))
    k wrong around)
