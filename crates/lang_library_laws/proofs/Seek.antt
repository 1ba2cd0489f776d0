-- The loop along a list that seeks an object among the keys of its items.
use Rattle.std.proofs.Common.{◌≡◌, ◌<◌, ℕ, zero, suc, ◌+◌, Bool, true, false, List, [], ◌∷◌, map, refl, sym, ap, subst, ◌∙◌, inl, inr, Some, length, arith, if◌then◌else◌}
use Rattle.base.specs.Data as datum
use Rattle.lang_meaning.specs.Form.{Form}
use Rattle.lang_meaning.specs.Values.{Value, nil, symbol, is_true, truth, same}
use Rattle.lang_meaning.specs.Objects.{Object}
use Rattle.lang_meaning.specs.Lookup.{under_number}
use Rattle.lang_meaning.specs.Literals.{symbol_of}
use Rattle.lang_library_laws.specs.Lists.{IsProperList, IsBehind}
use Rattle.lang_library_laws.specs.Applications.{HasTruth}
use Rattle.lang_library_laws.specs.ListBodies.{seek_test, seek_turn, seek}
use Rattle.lang_library_laws.proofs.Frames.{Places, Setting, Comes, a_form, at_frame}
use Rattle.lang_library_laws.proofs.Evaluates.{Cell, comes_local, comes_set, comes_literal, comes_sequence, then_nothing, first_then, comes_clauses, clause_taken, clause_passed, body_form, test_value}
use Rattle.lang_library_laws.proofs.OfPrimitives.{comes_cdr, comes_null, comes_same}
use Rattle.lang_library_laws.proofs.Loops.{Turn, Turns, Stops, loops}
use Rattle.lang_library_laws.proofs.ListsKept.{cell_of, here, behind_first}

-- one cons further
further : (store : List Object) (n : ℕ) (v w : Value) → IsBehind store n v w → (c : Cell store w) → IsBehind store (suc n) v c.rest
further store zero v w h c = (c.number, c.first, c.rest, sym h ∙ c.is, c.there, refl)
further store (suc n) v w h c = (h.0, h.1, h.2, h.3, h.4, further store n h.2 w h.5 c)

-- items with their keys
abbrev pub items_of : List (Value × Value) → List Value
items_of es = map (λ e. e.0) es

-- from the first item on that has that key
abbrev pub from_key : Value → List (Value × Value) → List (Value × Value)
from_key sought [] = []
from_key sought (e ∷ es) = if same sought e.1 then e ∷ es else from_key sought es

-- each item has its key
abbrev pub Keyed : (List Object → Value → Value → Type 0) → List Object → List (Value × Value) → Type 0
Keyed HasKey store [] = Unit {0}
Keyed HasKey store (e ∷ es) = HasKey store e.0 e.1 × Keyed HasKey store es

-- the variables of functions of an object and a list
abbrev pub seek_places : ℕ → Places
seek_places v = (v, 0) ∷ (v + 1, 1) ∷ []

pub at_object : (v : ℕ) → under_number v (seek_places v) ≡ Some 0
at_object v = here v 0 ((v + 1, 1) ∷ [])

pub at_list : (v : ℕ) → under_number (v + 1) (seek_places v) ≡ Some 1
at_list v = behind_first v 1 0 ((v + 1, 1) ∷ []) (omega arith) (here (v + 1) 1 [])

module _ (s : Setting) (v truth_id : ℕ) (key : Form) (is_truth : HasTruth s.program truth_id) (sought whole : Value)
    (HasKey : List Object → Value → Value → Type 0)
    (key_comes : (k : ℕ) (Q : Value → List Value → List Object → Type 0) (x y : Value) (xs : List Value) (list : Value) (store : List Object)
    → IsProperList store list (x ∷ xs) → HasKey store x y → Q y (sought ∷ list ∷ []) store
    → Comes s (seek_places v) (a_form k key) (sought ∷ list ∷ []) store Q)
    (found : List (Value × Value)) where
  -- before each turn, what is found in what is left is what is found in all
  pub record Sought (left : List (Value × Value)) (frame : List Value) (store : List Object) : Type 0 where
    pub list : Value
    pub passed : ℕ
    pub frame_is : frame ≡ sought ∷ list ∷ []
    pub behind : IsBehind store passed whole list
    pub items : IsProperList store list (items_of left)
    pub keys : Keyed HasKey store left
    pub found_is : from_key sought left ≡ found

  -- at the end the list is what was sought
  pub record Found (nothing : Value) (frame : List Value) (store : List Object) : Type 0 where
    pub list : Value
    pub passed : ℕ
    pub is : nothing ≡ nil
    pub frame_is : frame ≡ sought ∷ list ∷ []
    pub behind : IsBehind store passed whole list
    pub items : IsProperList store list (items_of found)

  turns : Turns s (seek_places v) (seek_test v truth_id key) (seek_turn v) (Value × Value) 0 Sought Found
  turns k e es frame store short h =
      at_frame h.frame_is (comes_null (comes_clauses (clause_passed (comes_null (comes_local (v + 1) 1 (at_list v) (
        ap (λ u. is_true (truth (same u nil))) cell.is,
        clause_taken (comes_literal truth_id (datum.item is_truth.1.0 (datum.symbol is_truth.0)) (symbol (symbol_of s.names is_truth.0)) is_truth.1.1 refl (
          refl,
          body_form (comes_sequence (first_then (comes_same (comes_local v 0 (at_object v) (key_comes k _ e.0 e.1 (items_of es) h.list store h.items h.keys.0
              (then_nothing (by (same sought e.1) refl))))))),
        )),
      ))))))
    where
      cell : Cell store h.list
      cell = cell_of 0 h.list e.0 (items_of es) h.items

      by : (b : Bool) → same sought e.1 ≡ b
          → Turn s (seek_places v) (seek_test v truth_id key) (seek_turn v) (Value × Value) 0 Sought Found k es (truth (same (truth b) nil)) (sought ∷ h.list ∷ []) store
      by true same_one =
          let all : e ∷ es ≡ found = sym (ap (λ (b : Bool). if b then e ∷ es else from_key sought es) same_one) ∙ h.found_is in
          inr (
            refl,
            record {
              list = h.list;
              passed = h.passed;
              is = refl;
              frame_is = refl;
              behind = h.behind;
              items = subst (λ us. IsProperList store h.list (items_of us)) all h.items;
            },
          )
      by false another =
          inl (
            refl,
            comes_sequence (first_then (comes_set (v + 1) 1 (at_list v) (comes_cdr (comes_local (v + 1) 1 (at_list v) (
              cell,
              then_nothing (record {
                list = cell.rest;
                passed = suc h.passed;
                frame_is = refl;
                behind = further store h.passed whole h.list h.behind cell;
                items = h.items.5;
                keys = h.keys.1;
                found_is = sym (ap (λ (b : Bool). if b then e ∷ es else from_key sought es) another) ∙ h.found_is;
              }),
            ))))),
          )

  stops : Stops s (seek_places v) (seek_test v truth_id key) (seek_turn v) (Value × Value) 0 Sought Found
  stops k frame store short h =
      at_frame h.frame_is (comes_null (comes_clauses (clause_taken (comes_null (comes_local (v + 1) 1 (at_list v) (
        ap (λ u. is_true (truth (same u nil))) h.items,
        test_value (
          ap (λ u. is_true (truth (same (truth (same u nil)) nil))) h.items,
          record {
            list = h.list;
            passed = h.passed;
            is = refl;
            frame_is = refl;
            behind = h.behind;
            items = subst (λ us. IsProperList store h.list (items_of us)) h.found_is h.items;
          },
        ),
      ))))))

  -- the loop, from its first turn on
  pub seeks : (k : ℕ) (es : List (Value × Value)) (store : List Object) → (k < length es → s.short)
      → IsProperList store whole (items_of es) → Keyed HasKey store es → from_key sought es ≡ found
      → Comes s (seek_places v) (a_form k (seek v truth_id key)) (sought ∷ whole ∷ []) store Found
  seeks k es store short l keys f =
      loops s (seek_places v) (seek_test v truth_id key) (seek_turn v) (Value × Value) 0 Sought Found turns stops es k (sought ∷ whole ∷ []) store
      (λ g. short (omega (arith, g)))
      (record { list = whole; passed = 0; frame_is = refl; behind = refl; items = l; keys = keys; found_is = f })
