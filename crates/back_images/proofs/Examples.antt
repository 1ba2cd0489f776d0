-- The worked program does what it means, by the law.
use Rattle.std.proofs.Common.{◌≡◌, ◌≤◌, [], ◌∷◌, refl, sym, subst, ◌∙◌, arith}
use Rattle.base.specs.Arithmetic.{low_word}
use Rattle.mid_code.specs.State.{MidState, MidOutcome, returns, go_on, with_some, choose_by, with_registers, landed}
use Rattle.mid_code.specs.Meaning.{called, leaves, exec, exec_step, exec_number, turns, levels, at_top, runs}
use Rattle.mid_lines.specs.Flattened.{program_lines}
use Rattle.back_places.specs.Places.{Located}
use Rattle.back_layout.specs.ChosenPlaces.{placed_decided, placed_laid_out}
use Rattle.back_layout.specs.Laws.{AreGood}
use Rattle.back_layout.proofs.ChosenPlaces.{law_of_placed_laid_out}
use Rattle.back_runs.specs.Ends.{IsSaid, EndsAs}
use Rattle.back_runs.specs.Images.{IsFirst, first_state}
use Rattle.back_images.specs.Laws.{LaidAreWords, emitted}
use Rattle.back_images.specs.Worked.{printing, in_registers, machine_run, BytesPrinted}
use Rattle.back_images.proofs.ExamplePlaces.{places_fit}
use Rattle.back_images.proofs.Images.{placed_well, law_of_first_states, law_of_emitted_runs}

abbrev l : Located
l = placed_laid_out printing in_registers

abbrev z : MidState
z = first_state [] l.code_to 128 []

abbrev r : MidOutcome
r = runs printing 0 3 0 [] z

end_is : r.end ≡ returns 68
unfolding low_word go_on with_some choose_by with_registers landed called leaves exec exec_step exec_number turns levels at_top runs
end_is = refl

cost_is : r.state.cost ≡ 160
unfolding low_word go_on with_some choose_by with_registers landed called leaves exec exec_step exec_number turns levels at_top runs
cost_is = refl

printed_is : r.state.printed ≡ 65 ∷ 66 ∷ 67 ∷ []
unfolding low_word go_on with_some choose_by with_registers landed called leaves exec exec_step exec_number turns levels at_top runs
printed_is = refl

small : l.code_to ≤ 128
small = omega arith

none_laid : LaidAreWords []
none_laid i = omega arith

decided : AreGood (program_lines printing) l
decided = law_of_placed_laid_out printing in_registers places_fit (omega (arith, small))

begins : IsFirst l (emitted printing in_registers 0) 128 [] z
begins =
    law_of_first_states (program_lines printing) (placed_decided printing in_registers) decided.known 0 128 []
    (placed_well (program_lines printing) l decided.known decided.good) (omega (arith, small)) none_laid small (omega arith) none_laid

ends : EndsAs r.end r.state machine_run
ends =
    let e = law_of_emitted_runs printing in_registers 0 128 [] z _ refl places_fit (omega (arith, small)) none_laid refl begins in
    e.runs_as.in_time 160 0 3 (subst (λ x. IsSaid x) (sym end_is) tt) (omega (arith, cost_is))

pub bytes_printed : BytesPrinted
bytes_printed =
    let e : EndsAs (returns 68) r.state machine_run = subst (λ x. EndsAs x r.state machine_run) end_is ends in
    (e.0, e.1.printed ∙ printed_is)
