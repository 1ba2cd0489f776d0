-- All that is reached is kept, and so the program that is left keeps what is reached.
use Rattle.std.proofs.Common.{◌≡◌, ◌⊎◌, inl, inr, ℕ, zero, suc, ◌+◌, ◌<◌, Bool, true, false, List, [], ◌∷◌, length, refl, sym, ap, subst, ◌∙◌, arith, Some, None, Option}
use Rattle.std.proofs.lemmas.Option.{slice_get_within}
use Rattle.std.specs.Prelude.{slice_get, if◌then◌else◌}
use Rattle.base.specs.AllOf.{AllOf}
use Rattle.lang_meaning.specs.declared.program.FunctionRow.{FunctionRow}
use Rattle.lang_meaning.specs.declared.program.GenericRow.{GenericRow}
use Rattle.lang_meaning.specs.declared.program.MethodRow.{MethodRow}
use Rattle.lang_meaning.specs.declared.program.LiteralRow.{LiteralRow}
use Rattle.lang_meaning.specs.declared.program.LiteralRow.TheVariants as row
use Rattle.lang_meaning.specs.declared.program.Callee.{Callee}
use Rattle.lang_meaning.specs.declared.program.Callee.TheVariants as callee
use Rattle.lang_meaning.specs.declared.program.Procedure.{Procedure}
use Rattle.lang_meaning.specs.declared.program.ProgramRows.{ProgramRows}
use Rattle.lang_meaning.specs.Form.{Form, literal, call}
use Rattle.lang_meaning.specs.Inside.{inside_form}
use Rattle.lang_meaning.specs.Literals.{function_row}
use Rattle.lang_meaning.specs.Lookup.{text}
use Rattle.lang_meaning.specs.Reached.{initforms}
use Rattle.lang_reached.specs.declared.kept.Kept.{Kept}
use Rattle.lang_reached.specs.LeftOut.{is_marked, emptied, procedures_left, without_others, KeepsProcedure, KeepsCallee, KeepsRow, KeepsLiteral, KeepsItself, KeepsForm, IsClosed}
use Rattle.lang_reached.specs.Mentioned.{AnyOf, OneHas, GenericBrings, CalleeBrings, RowBrings, LiteralBrings, Mentions, MentionsInside, IsReached, by_main, by_slot, by_body}
use Rattle.lang_reached.specs.Remaining.{IsLeft, KeepsReached}

-- where all of a list keep what they bring, and one brings it, it is kept
brought : {X : Type 0} (Keeps Brings : X → Type 0) {K : Type 0} → ((x : X) → Keeps x → Brings x → K) → (xs : List X) → AllOf Keeps xs → AnyOf Brings xs → K
brought Keeps Brings f [] k h = absurd h
brought Keeps Brings f (x ∷ xs) k (inl h) = f x k.0 h
brought Keeps Brings f (x ∷ xs) k (inr h) = brought Keeps Brings f xs k.1 h

module _ (names : List (List ℕ)) (program : ProgramRows) (kept : Kept) (closed : IsClosed names program kept) (p : ℕ) where
  -- the same procedure
  same_kept : (q : ℕ) → KeepsProcedure kept q → q ≡ p → KeepsProcedure kept p
  same_kept q k e = subst (KeepsProcedure kept) e k

  generic_brought : (g : ℕ) → is_marked kept.generics g ≡ true → GenericBrings names program (slice_get program.generics g) p → KeepsProcedure kept p
  generic_brought g k h = by (slice_get program.generics g) refl h
    where
      by : (o : Option GenericRow) → slice_get program.generics g ≡ o → GenericBrings names program o p → KeepsProcedure kept p
      by None e h = absurd h
      by (Some r) e h =
          brought (λ (m : MethodRow). KeepsProcedure kept m.procedure) (λ (m : MethodRow). m.procedure ≡ p) (λ m. same_kept m.procedure) r.methods
          (closed.methods g r e k) h

  callee_brought : (c : Callee) → KeepsCallee kept c → CalleeBrings names program c p → KeepsProcedure kept p
  callee_brought (callee.Procedure q) k h = same_kept q k h
  callee_brought (callee.Generic g) k h = generic_brought g k h

  row_brought : (o : Option FunctionRow) → KeepsRow names program kept o → RowBrings names program o p → KeepsProcedure kept p
  row_brought None k h = absurd h
  row_brought (Some f) k h = callee_brought f.callee k h

  literal_brought : (o : Option LiteralRow) → KeepsLiteral names program kept o → LiteralBrings names program o p → KeepsProcedure kept p
  literal_brought (Some (row.Function name)) k h = row_brought (function_row names program.functions (text names name.0)) k h
  literal_brought (Some (row.Datum d)) k h = absurd h
  literal_brought (Some (row.Class c)) k h = absurd h
  literal_brought None k h = absurd h

  itself_brought : (f : Form) → KeepsItself names program kept f → Mentions names program f p → KeepsProcedure kept p
  itself_brought (call n fs) k h = row_brought (function_row names program.functions (text names n)) k h
  itself_brought (literal i) k h = literal_brought (slice_get program.literals i) k h
  itself_brought f k h = absurd h

  form_brought : (f : Form) → KeepsForm names program kept f → MentionsInside names program f p → KeepsProcedure kept p
  form_brought f k h = brought (KeepsItself names program kept) (λ g. Mentions names program g p) itself_brought (inside_form f) k h

-- **all that is reached is kept**
pub reached_kept : (names : List (List ℕ)) (program : ProgramRows) (kept : Kept) → IsClosed names program kept → (p : ℕ) → IsReached names program p
    → KeepsProcedure kept p
reached_kept names program kept closed p (by_main q h) =
    brought (KeepsForm names program kept) (λ f. MentionsInside names program f p) (form_brought names program kept closed p) program.main closed.main h
reached_kept names program kept closed p (by_slot q h) =
    brought (KeepsProcedure kept) (λ q. q ≡ p) (same_kept names program kept closed p) (initforms program) closed.initforms h
reached_kept names program kept closed p (by_body q body r e h k) =
    form_brought names program kept closed p body.body (closed.bodies q body e (reached_kept names program kept closed q h)) k

-- what is left of each procedure

left_count : (marks : List Bool) (n : ℕ) (qs : List Procedure) → length (procedures_left marks n qs) ≡ length qs
left_count marks n [] = refl
left_count marks n (q ∷ qs) = let h = left_count marks (n + 1) qs in omega (arith, h)

left_at : (marks : List Bool) (n : ℕ) (qs : List Procedure) (i : ℕ) (q : Procedure) → slice_get qs i ≡ Some q
    → slice_get (procedures_left marks n qs) i ≡ Some (if is_marked marks (n + i) then q else emptied q)
left_at marks n [] i q e = absurd (cc)
left_at marks n (x ∷ xs) zero q e =
    let same : x ≡ q = cc in
    let here : n ≡ n + 0 = omega arith in
    ap (λ (r : Procedure). Some (if is_marked marks n then r else emptied r)) same ∙ ap (λ m. Some (if is_marked marks m then q else emptied q)) here
left_at marks n (x ∷ xs) (suc i) q e =
    let next : n + 1 + i ≡ n + suc i = omega arith in
    left_at marks (n + 1) xs i q e ∙ ap (λ m. Some (if is_marked marks m then q else emptied q)) next

-- **the program that is left keeps what is reached**, where all that is reached is kept and nothing else
pub keeps_reached : (names : List (List ℕ)) (program : ProgramRows) (kept : Kept) → IsClosed names program kept
    → ((p : ℕ) → p < length program.procedures → KeepsProcedure kept p → IsReached names program p)
    → KeepsReached names program (without_others kept program)
keeps_reached names program kept closed only = record {
  rows = refl;
  count = left_count kept.procedures 0 program.procedures;
  each = λ p q e.
      let at : 0 + p ≡ p = omega arith in
      by p q e (is_marked kept.procedures p) refl (left_at kept.procedures 0 program.procedures p q e ∙ ap (λ n. Some (if is_marked kept.procedures n then q else emptied q)) at);
}
  where
    by : (p : ℕ) (q : Procedure) → slice_get program.procedures p ≡ Some q → (b : Bool) → is_marked kept.procedures p ≡ b
        → slice_get (procedures_left kept.procedures 0 program.procedures) p ≡ Some (if is_marked kept.procedures p then q else emptied q)
        → IsLeft names program p q (slice_get (procedures_left kept.procedures 0 program.procedures) p)
    by p q e true m h = inl (only p (slice_get_within program.procedures p q e) m, h ∙ ap (λ b. Some (if b then q else emptied q)) m)
    by p q e false m h = inr (
      λ r. let no : false ≡ true = sym m ∙ reached_kept names program kept closed p r in absurd (cc no),
      h ∙ ap (λ b. Some (if b then q else emptied q)) m,
    )
