-- What is counted of a list, item by item: what was counted, and what is left.
use Rattle.std.proofs.Common.{◌≡◌, ℕ, suc, ◌+◌, ◌≤◌, List, [], ◌∷◌, ◌++◌, Some, length, drop, slice_get, ap, sym, ◌∙◌, add-one, arith}
use Rattle.flat_language.specs.declared.flat_core.FlatClause.{FlatClause}
use Rattle.flat_language.specs.declared.place.Home.{Home}
use Rattle.flat_language.specs.declared.place.Home.TheVariants.{Slot, Boxed}
use Rattle.flat_language.specs.declared.place.FlatCapture.{FlatCapture}
use Rattle.flat_language.specs.declared.place.FlatCapture.TheVariants.{Variable, Exit, Method}
use Rattle.flat_language.specs.model.View.{clauses_of, maybe_form}
use Rattle.flat_boxes.specs.Totals.{total_of_clauses, total_of_body}
use Rattle.flat_boxes.specs.Boxes.{boxes, variables_among, captures_itself, captured_variables}
use Rattle.back_lowering.proofs.Rests.{there, past}

module _ {X : Type 0} (count : List X → ℕ) (one : X → ℕ) (next : (x : X) (xs : List X) → count (x ∷ xs) ≡ one x + count xs) where
  at_next : (xs : List X) (i : ℕ) (x : X) → slice_get xs i ≡ Some x → count (drop i xs) ≡ one x + count (drop (i + 1) xs)
  at_next xs i x here = ap count (there xs i x here) ∙ next x (drop (suc i) xs) ∙ sym (ap (λ (k : ℕ). one x + count (drop k xs)) (add-one i))

  -- one more is counted
  pub more_counted : (xs : List X) (i : ℕ) (x : X) (n m sum : ℕ) → slice_get xs i ≡ Some x → m ≡ one x → sum ≡ n + m
      → n + count (drop i xs) ≡ count xs → sum + count (drop (i + 1) xs) ≡ count xs
  more_counted xs i x n m sum here h s before = let e = at_next xs i x here in omega (arith, e, h, s, before)

  -- just what there is
  pub next_counted : (xs : List X) (i : ℕ) (x : X) (n m : ℕ) → slice_get xs i ≡ Some x → m ≡ one x → n + count (drop i xs) ≡ count xs
      → n + m + count (drop (i + 1) xs) ≡ count xs
  next_counted xs i x n m here h before = let e = at_next xs i x here in omega (arith, e, h, before)

  pub all_counted : (xs : List X) (i n : ℕ) → length xs ≤ i → count [] ≡ 0 → n + count (drop i xs) ≡ count xs → n ≡ count xs
  all_counted xs i n end none before = let e = ap count (past xs i end) ∙ none in omega (arith, e, before)

-- boxes, captured variables and clauses, item by item

pub next_box : (h : Home) (hs : List Home) → boxes (h ∷ hs) ≡ boxes (h ∷ []) + boxes hs
next_box Slot hs = omega arith
next_box Boxed hs = omega arith

pub boxes_behind : (hs ks : List Home) → boxes (hs ++ ks) ≡ boxes hs + boxes ks
boxes_behind [] ks = omega arith
boxes_behind (Slot ∷ hs) ks = boxes_behind hs ks
boxes_behind (Boxed ∷ hs) ks = let e = boxes_behind hs ks in omega (arith, e)

pub next_variable : (p : FlatCapture) (ps : List FlatCapture) → variables_among (p ∷ ps) ≡ variables_among (p ∷ []) + variables_among ps
next_variable (Variable v) ps = omega arith
next_variable (Exit x) ps = omega arith
next_variable (Method m) ps = omega arith

abbrev pub of_clause : FlatClause → ℕ
of_clause c = captured_variables c.test + total_of_body captures_itself (maybe_form c.body)

pub next_clause : (c : FlatClause) (cs : List FlatClause)
    → total_of_clauses captures_itself (clauses_of (c ∷ cs)) ≡ of_clause c + total_of_clauses captures_itself (clauses_of cs)
next_clause c cs = omega arith
