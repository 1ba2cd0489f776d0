-- A program that is whole, and whose names are in the table, has rows that fit.
use Rattle.std.proofs.Common.{◌≡◌, ℕ, zero, suc, ◌^◌, ◌<◌, ◌≤◌, Bool, true, false, List, [], ◌∷◌, length, Option, Some, None, refl, sym, ◌∙◌, ap, subst, arith}
use Rattle.std.specs.Prelude.{◌&&◌, nat_lt, nat_le, slice_get}
use Rattle.std.specs.List.{list_all, sum_by}
use Rattle.std.proofs.lemmas.List.Sums.{sum_by-cons}
use Rattle.std.proofs.lemmas.Bool.Decides.{nat_tests}
use Rattle.std.proofs.lemmas.Option.{slice_get_within}
use Rattle.base.specs.declared.datum.Name.{Name}
use Rattle.base.specs.DataFormed.{formed_told}
use Rattle.lang_meaning.specs.declared.program.ProgramRows.{ProgramRows}
use Rattle.lang_meaning.specs.declared.program.Procedure.{Procedure}
use Rattle.lang_meaning.specs.declared.program.ClassRow.{ClassRow}
use Rattle.lang_meaning.specs.declared.program.SlotRow.{SlotRow}
use Rattle.lang_meaning.specs.declared.program.Callee.{Callee}
use Rattle.lang_meaning.specs.declared.program.Callee.TheVariants as callee
use Rattle.lang_meaning.specs.declared.program.LiteralRow.{LiteralRow}
use Rattle.lang_meaning.specs.declared.program.LiteralRow.TheVariants as row
use Rattle.lang_meaning.specs.Facts.{literal_fits, initform_fits, class_fits, callee_fits, rows_fit, bodies_stand, is_whole}
use Rattle.lang_meaning.specs.ProgramCounts.{procedure_nodes, program_nodes}
use Rattle.lang_meaning.specs.Standing.{is_alone}
use Rattle.mid_start.specs.Rows.{CalleeFits, LiteralFits, SlotFits, ClassFits, RowsFit, NamesThere}

first_true : (a b : Bool) → (a && b) ≡ true → a ≡ true
first_true true b h = refl
first_true false b h = absurd (cc h)

second_true : (a b : Bool) → (a && b) ≡ true → b ≡ true
second_true true b h = h
second_true false b h = absurd (cc h)

all_at : {X : Type 0} (p : X → Bool) (xs : List X) (i : ℕ) (x : X) → list_all p xs ≡ true → slice_get xs i ≡ Some x → p x ≡ true
all_at p [] i x h e = absurd (cc e)
all_at p (y ∷ ys) zero x h e = let same : y ≡ x = cc e in ap p (sym same) ∙ first_true (p y) (list_all p ys) h
all_at p (y ∷ ys) (suc i) x h e = all_at p ys i x (second_true (p y) (list_all p ys) h) e

procedures_within : (ps : List Procedure) → length ps ≤ sum_by procedure_nodes ps
procedures_within [] = omega arith
procedures_within (p ∷ ps) =
    let others : length ps ≤ sum_by procedure_nodes ps = procedures_within ps in
    omega (arith, others, sum_by-cons procedure_nodes p ps)

alone_there : (ps : List Procedure) (p : ℕ) → is_alone false (slice_get ps p) ≡ true → p < length ps
alone_there ps p h = by (slice_get ps p) refl h
  where
    by : (o : Option Procedure) → slice_get ps p ≡ o → is_alone false o ≡ true → p < length ps
    by None e g = absurd (cc g)
    by (Some q) e g = slice_get_within ps p q e

le_told : (m n : ℕ) → nat_le m n ≡ true → m ≤ n
le_told m n h = grind (arith, nat_tests)

lt_told : (m n : ℕ) → nat_lt m n ≡ true → m < n
lt_told m n h = grind (arith, nat_tests)

module _ (names : List (List ℕ)) (true_name : Name) (program : ProgramRows) (whole : is_whole program ≡ true) (there : NamesThere names true_name program) where
  rows : rows_fit program ≡ true
  rows = first_true (rows_fit program) (bodies_stand program) (first_true (rows_fit program && bodies_stand program) _ whole)

  bodies : bodies_stand program ≡ true
  bodies = second_true (rows_fit program) (bodies_stand program) (first_true (rows_fit program && bodies_stand program) _ whole)

  few_nodes : nat_le (program_nodes program) 100000 ≡ true
  few_nodes = second_true _ (nat_le (program_nodes program) 100000) rows

  nodes_within : program_nodes program ≤ 100000
  nodes_within = le_told (program_nodes program) 100000 few_nodes

  procedure_number : (p : ℕ) → p < length program.procedures → p < 2 ^ 28
  procedure_number p h = omega (arith, nodes_within, procedures_within program.procedures)

  -- functions

  callees : list_all (λ f. callee_fits program f.callee) program.functions ≡ true
  callees = second_true _ (list_all (λ f. callee_fits program f.callee) program.functions) (first_true _ _ (first_true _ _ bodies))

  generics_within : (g : ℕ) → g < length program.generics → g < 2 ^ 28
  generics_within g h = omega (arith, nodes_within)

  callee_told : (f : Callee) → callee_fits program f ≡ true → CalleeFits f
  callee_told (callee.Procedure p) h = procedure_number p (alone_there program.procedures p h)
  callee_told (callee.Generic g) h = generics_within g (lt_told g (length program.generics) h)

  -- classes

  class_there : (i : ℕ) (c : ClassRow) → slice_get program.classes i ≡ Some c → class_fits program c ≡ true
  class_there i c e = all_at (class_fits program) program.classes i c (first_true _ _ (first_true _ _ (first_true _ _ (first_true _ _ bodies)))) e

  initform_told : (initform : Option ℕ) → initform_fits program initform ≡ true → (p : ℕ) → initform ≡ Some p → p < 2 ^ 28
  initform_told None h p e = absurd (cc e)
  initform_told (Some q) h p e =
      let same : q ≡ p = cc e in
      subst (λ n. n < 2 ^ 28) same (procedure_number q (alone_there program.procedures q h))

  slot_told : (i j : ℕ) (c : ClassRow) (s : SlotRow) → slice_get program.classes i ≡ Some c → slice_get c.slots j ≡ Some s → SlotFits (length names) s
  slot_told i j c s e f =
      let fits : list_all (λ (r : SlotRow). initform_fits program r.initform) c.slots ≡ true = second_true _ _ (first_true _ _ (class_there i c e)) in
      record {
        name = there.slots i j c s e f;
        initargs = λ k a g. there.initargs i j k c s a e f g;
        initform = initform_told s.initform (all_at (λ (r : SlotRow). initform_fits program r.initform) c.slots j s fits f);
      }

  class_told : (i : ℕ) (c : ClassRow) → slice_get program.classes i ≡ Some c → ClassFits (length names) (length program.classes) c
  class_told i c e =
      let fits : list_all (λ d. nat_lt d (length program.classes)) c.precedence ≡ true = first_true _ _ (first_true _ _ (class_there i c e)) in
      record {
        name = there.classes i c e;
        precedence = λ j d f. lt_told d (length program.classes) (all_at (λ k. nat_lt k (length program.classes)) c.precedence j d fits f);
        slots = λ j s f. slot_told i j c s e f;
      }

  -- literals

  literal_told : (i : ℕ) (l : LiteralRow) → slice_get program.literals i ≡ Some l → literal_fits program l ≡ true → LiteralFits (length names) l
  literal_told i (row.Datum d) e h = record { formed = formed_told d h; named = there.literals i d e }
  literal_told i (row.Class c) e h = tt
  literal_told i (row.Function name) e h = tt

  literals_fit : list_all (literal_fits program) program.literals ≡ true
  literals_fit = second_true _ _ (first_true _ _ (first_true _ _ (first_true _ _ (first_true _ _ rows))))

  pub whole_rows : RowsFit names true_name program.classes program.functions program.literals
  whole_rows = record {
    true_text = there.true_text;
    no_nil = there.no_nil;
    built_in = first_true _ _ (first_true _ _ (first_true _ _ (first_true _ _ (first_true _ _ rows))));
    class_rows = λ i c e. class_told i c e;
    function_rows = λ i f e. callee_told f.callee (all_at (λ g. callee_fits program g.callee) program.functions i f callees e);
    literal_rows = λ i l e. literal_told i l e (all_at (literal_fits program) program.literals i l literals_fit e);
  }
