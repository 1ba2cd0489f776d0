-- Whole procedures, programs and images.
use Rattle.std.proofs.Common.{◌≡◌, ℕ, suc, ◌+◌, ◌≤◌, List, [], ◌∷◌, length, map, Some, refl, sym, ap, ◌∙◌, arith, length-append}
use Rattle.std.specs.Prelude.{slice_get, slice_index}
use Rattle.std.proofs.lemmas.List.{length-map}
use Rattle.mid_code.specs.declared.program.MidProcedure.{MidProcedure}
use Rattle.mid_code.specs.MidCode.{code_of}
use Rattle.mid_arena.specs.CodeCosts.{procedure_cost}
use Rattle.mid_lines.specs.declared.line.Line.{Line}
use Rattle.mid_lines.specs.declared.line.LineProcedure.{LineProcedure}
use Rattle.mid_lines.specs.Flattened.{code_lines, procedure_lines, program_lines}
use Rattle.back_places.specs.Places.{Located}
use Rattle.back_trivial.proofs.TreeLines.{procedure_of_tree}
use Rattle.back_allocation.specs.Places.{place_at}
use Rattle.back_allocation.specs.ProgramPlaces.{places_for}
use Rattle.back_allocation.proofs.Parameters.{count_of}
use Rattle.back_layout.specs.Sizes.{unplaced, rests, switch_targets, all_targets, procedure_size, code_size}
use Rattle.back_layout.specs.Layout.{with_near}
use Rattle.back_layout.specs.ChosenPlaces.{placed_decided}
use Rattle.back_sizes.specs.Laws.{procedures_cost, LawOfSizes, LawOfPlacedSize}
use Rattle.back_sizes.proofs.LineSizes.{size_length, entry_length}
use Rattle.back_sizes.proofs.TreeSizes.{lines_cost, code_costs}

-- the lines of a procedure, with their tables
rests_cost : (l : Located) (number frame line : ℕ) (xs : List Line) → slice_index (rests l number frame line xs) 0 + length (all_targets xs) ≤ lines_cost xs
rests_cost l number frame line [] = omega arith
rests_cost l number frame line (x ∷ xs) =
    let left = rests l number frame (line + 1) xs in
    omega (arith, rests_cost l number frame (line + 1) xs, size_length l number frame line x left, length-append (switch_targets x) (all_targets xs))

procedure_words : (l : Located) (number : ℕ) (p : MidProcedure) → length (l.parameters number) ≡ p.parameters → procedure_size l number (procedure_lines p) ≤ procedure_cost p
procedure_words l number p h =
    omega (arith, h, entry_length (unplaced l) number p.frame, rests_cost l number p.frame 0 (code_lines 0 (code_of p.body)), code_costs 0 (code_of p.body))

all_words :
    (l : Located) (number : ℕ) (ps : List MidProcedure)
    → ((i : ℕ) (p : LineProcedure) → slice_get (map procedure_lines ps) i ≡ Some p → length (l.parameters (number + i)) ≡ p.parameters)
    → code_size l number (map procedure_lines ps) ≤ procedures_cost ps
all_words l number [] h = omega arith
all_words l number (p ∷ ps) h =
    let first : number + 0 ≡ number = omega arith in
    let here : length (l.parameters number) ≡ p.parameters = ap (λ n. length (l.parameters n)) (sym first) ∙ h 0 (procedure_lines p) refl in
    let rest = all_words l (number + 1) ps (λ i q e.
    let on : number + 1 + i ≡ number + suc i = omega arith in ap (λ n. length (l.parameters n)) on ∙ h (suc i) q e) in
    omega (arith, procedure_words l number p here, rest)

pub law_of_sizes : LawOfSizes
law_of_sizes program l h =
    let lines = program_lines program in
    let n = with_near lines l in
    let all = all_words n 0 program.procedures (λ i p e. let same : 0 + i ≡ i = omega arith in ap (λ k. length (l.parameters k)) same ∙ h i p e) in
    omega (arith, all, length-map program.procedures procedure_lines)

pub law_of_placed_size : LawOfPlacedSize
law_of_placed_size program chosen fit =
    law_of_sizes program (placed_decided program chosen) (λ number p e.
    let o = procedure_of_tree program number p e in
    let stand = (fit.each number o.tree o.there).stand in
    ap length stand.entry ∙ count_of (place_at (places_for chosen number).places) stand.enters 0 o.tree.parameters ∙ ap (λ q. q.parameters) o.same)
