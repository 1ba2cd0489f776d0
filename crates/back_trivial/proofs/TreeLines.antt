-- In each procedure of a program that finds its frames, the frame is found at each line, whether it is there or not.
use Rattle.std.proofs.Common.{◌≡◌, ℕ, zero, suc, ◌+◌, ◌<◌, true, List, [], ◌∷◌, length, Option, Some, None, option_map, refl, sym, ap, ◌∙◌, subst, arith}
use Rattle.std.specs.Prelude.{slice_get}
use Rattle.std.proofs.lemmas.Option.{slice_get-map}
use Rattle.mid_code.specs.declared.program.MidProcedure.{MidProcedure}
use Rattle.mid_code.specs.declared.program.MidProgram.{MidProgram}
use Rattle.mid_code.specs.MidCode.{code_of}
use Rattle.mid_lines.specs.declared.line.Line.{Line}
use Rattle.mid_lines.specs.declared.line.LineProcedure.{LineProcedure}
use Rattle.mid_lines.specs.Lines.{lines_in, line_of}
use Rattle.mid_lines.specs.Flattened.{code_lines, procedure_lines, program_lines}
use Rattle.mid_lines.specs.StaticRecords.{StaticRecord, code_records, records_in, procedure_records}
use Rattle.mid_lines.proofs.Conjunctions.{front_true, back_true}
use Rattle.mid_lines.proofs.Lying.{has_all, code_length}
use Rattle.back_places.specs.Places.{Way, from_stack}
use Rattle.back_places.proofs.LinesInForm.{all_at}
use Rattle.back_trivial.specs.FrameFound.{reaches_all, code_finds, procedure_finds, finds_frames}
use Rattle.back_trivial.proofs.Counting.{code_count}
use Rattle.back_trivial.proofs.Finding.{at, Inside, LineFinds, AllFind, find_at, reached, code_find}

-- past the end of one list is past that of another that is as long
past_both : {X Y : Type 0} (xs : List X) (ys : List Y) (i : ℕ) → length xs ≡ length ys → slice_get ys i ≡ None → slice_get xs i ≡ None
past_both [] ys i e h = refl
past_both (x ∷ xs) [] i e h = absurd (omega (arith, e))
past_both (x ∷ xs) (y ∷ ys) zero e h = absurd (cc h)
past_both (x ∷ xs) (y ∷ ys) (suc i) e h = past_both xs ys i (omega (arith, e)) h

-- what is found in a procedure of so many registers, with these records at its lines
pub record Found (all : List (List StaticRecord)) (registers frame : ℕ) (listed : List Line) : Type 0 where
  pub at_line : (line : ℕ) (x : Line) → slice_get listed line ≡ Some x → LineFinds all registers frame line x
  pub everywhere : (line : ℕ) → (way : Way) × Inside all registers frame (at all registers frame line) way
  pub enough : registers < frame

-- a procedure that finds its frame
module _ (p : MidProcedure) (h : procedure_finds p ≡ true) where
  abbrev records : List (List StaticRecord)
  records = code_records 0 (code_of p.body) []

  abbrev tree_lines : List Line
  tree_lines = code_lines 0 (code_of p.body)

  begins : reaches_all p.registers p.frame (from_stack 0) ≡ true
  begins = front_true (reaches_all p.registers p.frame (from_stack 0)) (code_finds p.registers p.frame (from_stack 0) (code_of p.body)) h

  outside : Inside records p.registers p.frame [] (from_stack 0)
  outside = record { way_is = refl; within = reached records p.registers p.frame (from_stack 0) begins; landings = tt }

  each : AllFind records p.registers p.frame 0 tree_lines
  each =
      code_find records p.registers p.frame (code_of p.body) 0 [] (from_stack 0) (has_all records []) outside
      (back_true (reaches_all p.registers p.frame (from_stack 0)) (code_finds p.registers p.frame (from_stack 0) (code_of p.body)) h)

  at_each : (line : ℕ) (x : Line) → slice_get tree_lines line ≡ Some x → LineFinds records p.registers p.frame line x
  at_each line x e =
      let same : 0 + line ≡ line = omega arith in
      subst (λ n. LineFinds records p.registers p.frame n x) same (find_at records p.registers p.frame 0 line tree_lines x each e)

  anywhere : (line : ℕ) (o : Option Line) → slice_get tree_lines line ≡ o → (way : Way) × Inside records p.registers p.frame (at records p.registers p.frame line) way
  anywhere line (Some x) e = let f = at_each line x e in (f.way, f.inside)
  anywhere line None e =
      let same : length records ≡ length tree_lines = code_count (code_of p.body) 0 [] ∙ sym (code_length (code_of p.body) 0) in
      let none : at records p.registers p.frame line ≡ [] = ap records_in (past_both records tree_lines line same e) in
      (from_stack 0, subst (λ rs. Inside records p.registers p.frame rs (from_stack 0)) (sym none) outside)

  found : Found (procedure_records (Some p)) p.registers p.frame tree_lines
  found = record {
    at_line = at_each;
    everywhere = λ line. anywhere line (slice_get tree_lines line) refl;
    enough = reached records p.registers p.frame (from_stack 0) begins;
  }

module _ (program : MidProgram) where
  -- the procedure of a tree whose line this is
  pub record OfTree (number line : ℕ) (x : Line) : Type 0 where
    pub tree : MidProcedure
    pub there : slice_get program.procedures number ≡ Some tree
    pub line_there : slice_get (code_lines 0 (code_of tree.body)) line ≡ Some x

  pub of_tree : (number line : ℕ) (x : Line) → line_of (program_lines program) number line ≡ Some x → OfTree number line x
  of_tree number line x e = by (slice_get program.procedures number) refl
    where
      by : (o : Option MidProcedure) → slice_get program.procedures number ≡ o → OfTree number line x
      by o h = from o h (sym (ap (λ u. slice_get (lines_in u) line) (slice_get-map procedure_lines program.procedures number ∙ ap (option_map procedure_lines) h)) ∙ e)
        where
          from : (o : Option MidProcedure) → slice_get program.procedures number ≡ o → slice_get (lines_in (option_map procedure_lines o)) line ≡ Some x → OfTree number line x
          from None h i = absurd (cc i)
          from (Some p) h i = record { tree = p; there = h; line_there = i }

  -- the procedure of a tree whose lines are those of this one
  pub record ProcedureOfTree (number : ℕ) (p : LineProcedure) : Type 0 where
    pub tree : MidProcedure
    pub there : slice_get program.procedures number ≡ Some tree
    pub same : procedure_lines tree ≡ p

  pub procedure_of_tree : (number : ℕ) (p : LineProcedure) → slice_get (program_lines program).procedures number ≡ Some p → ProcedureOfTree number p
  procedure_of_tree number p e = by (slice_get program.procedures number) refl (sym (slice_get-map procedure_lines program.procedures number) ∙ e)
    where
      by : (o : Option MidProcedure) → slice_get program.procedures number ≡ o → option_map procedure_lines o ≡ Some p → ProcedureOfTree number p
      by None h i = absurd (cc i)
      by (Some q) h i = record { tree = q; there = h; same = cc i }

  pub found_at :
      (number : ℕ) (p : MidProcedure) → finds_frames program ≡ true → slice_get program.procedures number ≡ Some p
      → Found (procedure_records (slice_get program.procedures number)) p.registers p.frame (code_lines 0 (code_of p.body))
  found_at number p finds h =
      subst (λ o. Found (procedure_records o) p.registers p.frame (code_lines 0 (code_of p.body))) (sym h)
      (found p (all_at procedure_finds program.procedures number p finds h))
