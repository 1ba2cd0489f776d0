-- What forms mention, step by step.
use Rattle.std.proofs.Common.{◌≡◌, ℕ, ◌≤◌, List, [], ◌∷◌, sym, subst, arith, Some, None, Option, map, inl, inr}
use Rattle.std.specs.Prelude.{flat_map, slice_get}
use Rattle.base.specs.AllOf.{AllOf, all_both, all_map}
use Rattle.lang_meaning.specs.declared.program.FunctionRow.{FunctionRow}
use Rattle.lang_meaning.specs.declared.program.LiteralRow.{LiteralRow}
use Rattle.lang_meaning.specs.declared.program.LiteralRow.TheVariants as row
use Rattle.lang_meaning.specs.declared.program.Callee.{Callee}
use Rattle.lang_meaning.specs.declared.program.Callee.TheVariants as callee
use Rattle.lang_meaning.specs.declared.program.ProgramRows.{ProgramRows}
use Rattle.lang_meaning.specs.Form.{Form, literal, call}
use Rattle.lang_meaning.specs.Inside.{inside_form}
use Rattle.lang_meaning.specs.Literals.{function_row}
use Rattle.lang_meaning.specs.Lookup.{text}
use Rattle.lang_meaning.specs.Subforms.{outer, inner}
use Rattle.lang_meaning.specs.bridge.Judged.{inside_folded}
use Rattle.lang_meaning.specs.bridge.Smaller.{sizes}
use Rattle.lang_reached.specs.declared.search.Search.{Search}
use Rattle.lang_reached.specs.LeftOut.{KeepsCallee, KeepsRow, KeepsLiteral, KeepsItself, KeepsForm}
use Rattle.lang_reached.specs.Mentioned.{AnyOf, Mentions, MentionsInside}
use Rattle.lang_reached.specs.Search.{Marks, Stays, MarksItself, MarksForm, MarksForms}
use Rattle.lang_reached.proofs.Searching.{any_front, any_back, marks_none, marks_then}

-- one of a list of forms, or of those inside them
any_inside : (P : Form → Type 0) (fs : List Form) → AnyOf (λ f. AnyOf P (inside_form f)) fs → AnyOf P (flat_map (λ gs. gs) (map inside_form fs))
any_inside P [] h = h
any_inside P (f ∷ fs) (inl h) = any_front P (inside_form f) (flat_map (λ gs. gs) (map inside_form fs)) h
any_inside P (f ∷ fs) (inr h) = any_back P (inside_form f) (flat_map (λ gs. gs) (map inside_form fs)) (any_inside P fs h)

all_inside : (P : Form → Type 0) (fs : List Form) → AllOf (λ f. AllOf P (inside_form f)) fs → AllOf P (flat_map (λ gs. gs) (map inside_form fs))
all_inside P [] h = tt
all_inside P (f ∷ fs) h = all_both P (inside_form f) (flat_map (λ gs. gs) (map inside_form fs)) h.0 (all_inside P fs h.1)

module _ (names : List (List ℕ)) (program : ProgramRows) where
  -- what is kept of a form stays kept
  callee_later : (a b : Search) → Stays a b → (c : Callee) → KeepsCallee a.kept c → KeepsCallee b.kept c
  callee_later a b s (callee.Procedure p) h = s.keeps p h
  callee_later a b s (callee.Generic g) h = s.keeps_generic g h

  row_later : (a b : Search) → Stays a b → (o : Option FunctionRow) → KeepsRow names program a.kept o → KeepsRow names program b.kept o
  row_later a b s None h = tt
  row_later a b s (Some f) h = callee_later a b s f.callee h

  literal_later : (a b : Search) → Stays a b → (o : Option LiteralRow) → KeepsLiteral names program a.kept o → KeepsLiteral names program b.kept o
  literal_later a b s (Some (row.Function name)) h = row_later a b s (function_row names program.functions (text names name.0)) h
  literal_later a b s (Some (row.Datum d)) h = tt
  literal_later a b s (Some (row.Class c)) h = tt
  literal_later a b s None h = tt

  itself_later : (a b : Search) → Stays a b → (f : Form) → KeepsItself names program a.kept f → KeepsItself names program b.kept f
  itself_later a b s (call n fs) h = row_later a b s (function_row names program.functions (text names n)) h
  itself_later a b s (literal i) h = literal_later a b s (slice_get program.literals i) h
  itself_later a b s f h = tt

  pub form_later : (a b : Search) → Stays a b → (f : Form) → KeepsForm names program a.kept f → KeepsForm names program b.kept f
  form_later a b s f h = all_map (KeepsItself names program a.kept) (KeepsItself names program b.kept) (itself_later a b s) (inside_form f) h

  pub stays_of : {M : ℕ → Type 0} (a b : Search) → Marks names program M a b → Stays a b
  stays_of a b m = record { keeps = m.keeps; keeps_generic = m.keeps_generic }

  -- a form: itself, and the forms right inside it
  pub form_marked : (f : Form) (outs ins : List Form) (a b c d : Search) → outs ≡ outer f → ins ≡ inner f → MarksItself names program f a b
      → MarksForms names program outs b c → MarksForms names program ins c d → MarksForm names program f a d
  form_marked f outs ins a b c d o i x y z =
      let folded = inside_folded f in
      record {
        marks = marks_then names program (MentionsInside names program f) (λ p. AnyOf (λ g. MentionsInside names program g p) ins) (MentionsInside names program f) a c d (λ p h. h)
            (λ p h. subst (AnyOf (λ g. Mentions names program g p)) (sym folded)
            (inr (any_back (λ g. Mentions names program g p) (flat_map (λ gs. gs) (map inside_form (outer f))) (flat_map (λ gs. gs) (map inside_form (inner f)))
            (any_inside (λ g. Mentions names program g p) (inner f) (subst (AnyOf (λ g. MentionsInside names program g p)) i h)))))
            (marks_then names program (Mentions names program f) (λ p. AnyOf (λ g. MentionsInside names program g p) outs) (MentionsInside names program f) a b c
            (λ p h. subst (AnyOf (λ g. Mentions names program g p)) (sym folded) (inl h))
            (λ p h. subst (AnyOf (λ g. Mentions names program g p)) (sym folded)
            (inr (any_front (λ g. Mentions names program g p) (flat_map (λ gs. gs) (map inside_form (outer f))) (flat_map (λ gs. gs) (map inside_form (inner f)))
            (any_inside (λ g. Mentions names program g p) (outer f) (subst (AnyOf (λ g. MentionsInside names program g p)) o h)))))
            x.marks y.marks)
            z.marks;
        keeps =
            let s = stays_of b c y.marks in
            let u = stays_of c d z.marks in
            subst (AllOf (KeepsItself names program d.kept)) (sym folded) (
              itself_later c d u f (itself_later b c s f x.keeps),
              all_both (KeepsItself names program d.kept) (flat_map (λ gs. gs) (map inside_form (outer f))) (flat_map (λ gs. gs) (map inside_form (inner f)))
                  (all_inside (KeepsItself names program d.kept) (outer f) (subst (AllOf (KeepsForm names program d.kept)) o (all_map (KeepsForm names program c.kept) (KeepsForm names program d.kept) (form_later c d u) outs y.keeps)))
                  (all_inside (KeepsItself names program d.kept) (inner f) (subst (AllOf (KeepsForm names program d.kept)) i z.keeps)),
            );
      }

  -- a list of forms, of which some are left
  pub record ToMark (all : List Form) (old now : Search) (left : List Form) : Type 0 where
    pub smaller : sizes left ≤ sizes all
    pub marks : Marks names program (λ p. AnyOf (λ f. MentionsInside names program f p) all) old now
    pub those : (p : ℕ) → AnyOf (λ f. MentionsInside names program f p) left → AnyOf (λ f. MentionsInside names program f p) all
    pub keeps : (later : Search) → Stays now later → AllOf (KeepsForm names program later.kept) left → AllOf (KeepsForm names program later.kept) all

  pub to_mark : (all : List Form) (a : Search) → ToMark all a a all
  to_mark all a = record {
    smaller = omega arith;
    marks = marks_none names program (λ p. AnyOf (λ f. MentionsInside names program f p) all) a;
    those = λ p h. h;
    keeps = λ later s h. h;
  }

  pub one_marked : (all : List Form) (a b c : Search) (f : Form) (left : List Form) → ToMark all a b (f ∷ left) → MarksForm names program f b c → ToMark all a c left
  one_marked all a b c f left x y = record {
    smaller = let h = x.smaller in omega (arith, h);
    marks = marks_then names program (λ p. AnyOf (λ g. MentionsInside names program g p) all) (MentionsInside names program f) (λ p. AnyOf (λ g. MentionsInside names program g p) all)
        a b c (λ p h. h) (λ p h. x.those p (inl h)) x.marks y.marks;
    those = λ p h. x.those p (inr h);
    keeps = λ later s h. x.keeps later (record { keeps = λ p k. s.keeps p (y.marks.keeps p k); keeps_generic = λ n k. s.keeps_generic n (y.marks.keeps_generic n k) })
        (form_later c later s f y.keeps, h);
  }

  pub all_marked : (all : List Form) (a b : Search) → ToMark all a b [] → MarksForms names program all a b
  all_marked all a b x = record { marks = x.marks; keeps = x.keeps b (record { keeps = λ p h. h; keeps_generic = λ n h. h }) tt }
