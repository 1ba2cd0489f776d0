-- The most of lines and of procedures, and the words of tables, with one more.
use Rattle.std.proofs.Common.{◌≡◌, ℕ, zero, suc, ◌+◌, ◌≤◌, max, List, [], ◌∷◌, ◌++◌, length, map, take, Some, refl, ap, ◌∙◌, arith, length-append}
use Rattle.std.specs.Prelude.{slice_get}
use Rattle.mid_code.specs.declared.program.MidProcedure.{MidProcedure}
use Rattle.mid_code.specs.declared.program.MidProgram.{MidProgram}
use Rattle.mid_code.specs.declared.operation.Operation.TheVariants as operation
use Rattle.mid_lines.specs.declared.line.Line.{Line}
use Rattle.mid_lines.specs.declared.line.Line.TheVariants.{Do}
use Rattle.mid_lines.specs.declared.line.LineProcedure.{LineProcedure}
use Rattle.mid_lines.specs.Flattened.{procedure_lines, program_lines}
use Rattle.back_allocation.specs.declared.placing.RegisterPlaces.{RegisterPlaces}
use Rattle.back_allocation.specs.ProgramPlaces.{places_for}
use Rattle.back_layout.specs.ChosenPlaces.{arguments_passed, most_in_lines, most_arguments}
use Rattle.back_layout.specs.Sizes.{switch_targets, all_targets}
use Rattle.back_emit.specs.Fits.{passed_by}
use Rattle.back_program_code.specs.declared.shapes.Shape.{Shape}
use Rattle.back_program_code.specs.Joined.{joined}
use Rattle.back_program_code.specs.Shapes.{shape_of, shapes_of, procedure_of}

pub most_next :
    (i n : ℕ) (x : Line) (xs : List Line) → n ≡ i + 1 → slice_get xs i ≡ Some x → most_in_lines (take n xs) ≡ max (most_in_lines (take i xs)) (arguments_passed x)
most_next i n x [] e h = absurd (cc h)
most_next i zero x (y ∷ ys) e h = absurd (omega (arith, e))
most_next zero (suc n) x (y ∷ ys) e h =
    let none : n ≡ 0 = omega (arith, e) in
    let same : y ≡ x = cc h in
    ap (λ k. max (arguments_passed y) (most_in_lines (take k ys))) none ∙ ap (λ z. max (arguments_passed z) 0) same ∙ omega arith
most_next (suc i) (suc n) x (y ∷ ys) e h =
    let k = most_next i n x ys (omega (arith, e)) h in
    omega (arith, k)

pub most_of_next :
    (i n : ℕ) (s : Shape) (ss : List Shape) → n ≡ i + 1 → slice_get ss i ≡ Some s
    → most_arguments (map procedure_of (take n ss)) ≡ max (most_arguments (map procedure_of (take i ss))) (max s.procedure.parameters (most_in_lines s.procedure.lines))
most_of_next i n s [] e h = absurd (cc h)
most_of_next i zero s (y ∷ ys) e h = absurd (omega (arith, e))
most_of_next zero (suc n) s (y ∷ ys) e h =
    let none : n ≡ 0 = omega (arith, e) in
    let same : y ≡ s = cc h in
    ap (λ k. max (max y.procedure.parameters (most_in_lines y.procedure.lines)) (most_arguments (map procedure_of (take k ys)))) none
    ∙ ap (λ z. max (max z.procedure.parameters (most_in_lines z.procedure.lines)) 0) same ∙ omega arith
most_of_next (suc i) (suc n) s (y ∷ ys) e h =
    let k = most_of_next i n s ys (omega (arith, e)) h in
    omega (arith, k)

pub tables_next :
    (i n : ℕ) (x : Line) (xs : List Line) → n ≡ i + 1 → slice_get xs i ≡ Some x → length (all_targets (take n xs)) ≡ length (all_targets (take i xs)) + length (switch_targets x)
tables_next i n x [] e h = absurd (cc h)
tables_next i zero x (y ∷ ys) e h = absurd (omega (arith, e))
tables_next zero (suc n) x (y ∷ ys) e h =
    let none : n ≡ 0 = omega (arith, e) in
    let same : y ≡ x = cc h in
    ap (λ k. length (switch_targets y ++ all_targets (take k ys))) none ∙ length-append (switch_targets y) [] ∙ ap (λ z. length (switch_targets z) + 0) same ∙ omega arith
tables_next (suc i) (suc n) x (y ∷ ys) e h =
    let k = tables_next i n x ys (omega (arith, e)) h in
    let a = length-append (switch_targets y) (all_targets (take n ys)) in
    let b = length-append (switch_targets y) (all_targets (take i ys)) in
    omega (arith, k, a, b)

-- what a line, and a procedure, passes is among the most
passed_same : (x : Line) → passed_by x ≡ arguments_passed x
passed_same (Do (operation.Call to callee arguments)) = refl
passed_same (Do o) = refl
passed_same x = refl

most_of_line : (xs : List Line) (i : ℕ) (x : Line) → slice_get xs i ≡ Some x → arguments_passed x ≤ most_in_lines xs
most_of_line [] i x h = absurd (cc h)
most_of_line (y ∷ ys) zero x h =
    let same : y ≡ x = cc h in
    let e = ap arguments_passed same in
    omega (arith, e)
most_of_line (y ∷ ys) (suc i) x h = let k = most_of_line ys i x h in omega (arith, k)

pub passed_within : (xs : List Line) (i : ℕ) (x : Line) → slice_get xs i ≡ Some x → passed_by x ≤ most_in_lines xs
passed_within xs i x h = let k = most_of_line xs i x h in let e = passed_same x in omega (arith, k, e)

pub most_of_procedure : (ps : List LineProcedure) (n : ℕ) (p : LineProcedure) → slice_get ps n ≡ Some p → max p.parameters (most_in_lines p.lines) ≤ most_arguments ps
most_of_procedure [] n p h = absurd (cc h)
most_of_procedure (q ∷ qs) zero p h =
    let same : q ≡ p = cc h in
    let e = ap (λ z. max z.parameters (most_in_lines z.lines)) same in
    omega (arith, e)
most_of_procedure (q ∷ qs) (suc n) p h = let k = most_of_procedure qs n p h in omega (arith, k)

pub tables_within :
    (i : ℕ) (x : Line) (xs : List Line) → slice_get xs i ≡ Some x → length (all_targets (take i xs)) + length (switch_targets x) ≤ length (all_targets xs)
tables_within i x [] h = absurd (cc h)
tables_within zero x (y ∷ ys) h =
    let same : y ≡ x = cc h in
    let n = ap (λ z. length (switch_targets z)) same in
    let a = length-append (switch_targets y) (all_targets ys) in
    omega (arith, n, a)
tables_within (suc i) x (y ∷ ys) h =
    let k = tables_within i x ys h in
    let a = length-append (switch_targets y) (all_targets (take i ys)) in
    let b = length-append (switch_targets y) (all_targets ys) in
    omega (arith, k, a, b)

-- the lines of the shapes of a program are those of the program, whatever is chosen
module _ (chosen : List RegisterPlaces) where
  procedures_same : (from : ℕ) (ps : List MidProcedure) → map procedure_of (joined (λ number p. shape_of (places_for chosen number) p ∷ []) from ps) ≡ map procedure_lines ps
  procedures_same from [] = refl
  procedures_same from (p ∷ ps) = ap (λ r. procedure_lines p ∷ r) (procedures_same (from + 1) ps)

  long : (from : ℕ) (ps : List MidProcedure) → length (joined (λ number p. shape_of (places_for chosen number) p ∷ []) from ps) ≡ length (map procedure_lines ps)
  long from [] = refl
  long from (p ∷ ps) = ap suc (long (from + 1) ps)

  pub most_of_shapes :
      (program : MidProgram) (shapes : List Shape) → shapes ≡ shapes_of program chosen
      → most_arguments (map procedure_of shapes) ≡ most_arguments (program_lines program).procedures
  most_of_shapes program shapes e = ap (λ ss. most_arguments (map procedure_of ss)) e ∙ ap most_arguments (procedures_same 0 program.procedures)

  pub count_of_shapes : (program : MidProgram) (shapes : List Shape) → shapes ≡ shapes_of program chosen → length shapes ≡ length (program_lines program).procedures
  count_of_shapes program shapes e = ap length e ∙ long 0 program.procedures
