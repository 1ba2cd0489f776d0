-- The shapes of a program in form, whose frames are found, fit.
use Rattle.std.proofs.Common.{inl, inr, ◌⊎◌, get_or, ◌≡◌, ◌≤◌, ℕ, zero, suc, ◌+◌, ◌^◌, ◌<◌, Bool, true, List, length, Some, None, sym, ap, subst, ◌∙◌, arith}
use Rattle.std.specs.Prelude.{slice_get, nat_lt, nat_le}
use Rattle.std.specs.List.{list_all}
use Rattle.std.proofs.lemmas.Bool.Decides.{nat_tests}
use Rattle.std.proofs.lemmas.Option.{slice_get_cases, slice_get_within}
use Rattle.mid_code.specs.declared.program.MidProcedure.{MidProcedure}
use Rattle.mid_code.specs.declared.program.MidProgram.{MidProgram}
use Rattle.mid_code.specs.Checked.{is_checked_program}
use Rattle.mid_code.specs.MidCode.{code_of}
use Rattle.mid_lines.specs.Flattened.{procedure_lines, program_lines}
use Rattle.mid_lines.specs.LinesChecked.{line_fits, line_calls, is_sound_in}
use Rattle.mid_lines.proofs.Checking.{law_of_form}
use Rattle.mid_lines.proofs.Conjunctions.{front_true, back_true}
use Rattle.back_places.specs.Places.{from_stack}
use Rattle.back_places.proofs.LinesInForm.{all_at}
use Rattle.back_places.specs.declared.place.Place.{Place}
use Rattle.back_places.specs.Facts.{IsPlace}
use Rattle.back_trivial.specs.FrameFound.{code_finds}
use Rattle.back_allocation.specs.declared.placing.RegisterPlaces.{RegisterPlaces}
use Rattle.back_allocation.specs.Allocated.{parameter_places}
use Rattle.back_allocation.specs.Places.{place_at}
use Rattle.back_allocation.specs.ProgramPlaces.{places_for, PlacesFit}
use Rattle.back_allocation.proofs.Parameters.{nowhere_placed, count_of, each_place}
use Rattle.back_program_code.specs.declared.front.Front.{Front}
use Rattle.back_program_code.specs.declared.shapes.Shape.{Shape}
use Rattle.back_program_code.specs.Shapes.{shapes_of, chosen_in, front_of, first_position, is_near_shape, FitsShape, EachShapeFits}
use Rattle.back_program_code.proofs.Joined.{joined_length}
use Rattle.back_allocation.specs.Names.{read_name, given_name}
use Rattle.back_emit.specs.Fits.{passed_by}
use Rattle.back_program_code.proofs.NamedLines.{there_of, named_fits, passed_named}
use Rattle.back_program_code.proofs.Agreeing.{procedure_there, shape, shape_there}
use Rattle.back_program_code.proofs.Most.{passed_within, most_of_procedure}

-- where the entry brings a parameter is a place; behind the last one nothing is
parameter_placed :
    (spot : ℕ → Place) (enters : ℕ → Bool) (n : ℕ) → ((v : ℕ) → IsPlace n (spot v)) → (from count i : ℕ)
    → IsPlace n (place_at (parameter_places spot enters from count) i)
parameter_placed spot enters n all from zero i = nowhere_placed n
parameter_placed spot enters n all from (suc count) zero = each_place spot enters (IsPlace n) from (nowhere_placed n) (λ k. all from)
parameter_placed spot enters n all from (suc count) (suc i) = parameter_placed spot enters n all (from + 1) count i

module _ (program : MidProgram) (chosen : List RegisterPlaces) (checked : is_checked_program program ≡ true) (fit : PlacesFit program chosen) (low : first_position (front_of program) < 2 ^ 24) where
  fits_one : (number : ℕ) (p : MidProcedure) → slice_get program.procedures number ≡ Some p → is_near_shape (shape program chosen number p) ≡ true → FitsShape (front_of program) (shape program chosen number p)
  fits_one number p h near =
      let q = procedure_lines p in
      let a = places_for chosen number in
      let slots = a.slots in
      let procedures = (program_lines program).procedures in
      let there = procedure_there program number p h in
      let fits = fit.each number p h in
      let stand = fits.stand.stand in
      let named = fits.stand.named in
      let spot = place_at a.places in
      let enters : ℕ → Bool = fits.stand.enters in
      let enough = front_true (nat_lt slots p.frame) (code_finds slots p.frame (from_stack 0) (code_of p.body)) fits.finds in
      let more : slots < p.frame = grind (arith, nat_tests, enough) in
      let sound = all_at (is_sound_in procedures) procedures number q (law_of_form program checked) there in
      let rest = back_true (nat_le q.parameters q.registers) _ sound in
      let small = front_true (nat_lt q.frame (2 ^ 24)) _ rest in
      let framed : p.frame < 2 ^ 24 = grind (arith, nat_tests, small) in
      let both = back_true (nat_lt q.frame (2 ^ 24)) _ rest in
      let lines = front_true (list_all (line_fits q.registers (length q.lines)) q.lines) (list_all (line_calls procedures) q.lines) both in
      let most = most_of_procedure procedures number q there in
      let count = ap length fits.stand.entry ∙ count_of spot enters 0 p.parameters in
      record {
        low = low;
        arguments_low = omega (arith, low);
        procedures_low = omega (arith, low);
        few = omega (arith, more, framed);
        framed = omega (arith, framed);
        ways = near;
        placed = stand.places;
        entered = λ v.
            subst (λ ps. IsPlace (slots + 1) (place_at ps v)) (sym fits.stand.entry) (parameter_placed spot enters (slots + 1) stand.places 0 p.parameters v);
        parameters = omega (arith, most, low, count);
        names = fits.stand.names;
        lines = λ line y g.
            let x = there_of a.lines q.lines line y (sym named.count) g in
            let n = named.each line x.0 y x.1 g in
            subst (λ z. line_fits fits.stand.names (length q.lines) z ≡ true) (sym n.is)
            (named_fits q.registers fits.stand.names (read_name x.0 y) (given_name y) (length q.lines) x.0
            (all_at (line_fits q.registers (length q.lines)) q.lines line x.0 lines x.1) (λ v h. (n.reads v h).1) (λ to h. (n.gives to h).1));
        passed = λ line y g.
            let x = there_of a.lines q.lines line y (sym named.count) g in
            let n = named.each line x.0 y x.1 g in
            let w = passed_within q.lines line x.0 x.1 in
            let same : passed_by y ≡ passed_by x.0 = ap passed_by n.is ∙ passed_named (read_name x.0 y) (given_name y) x.0 in
            omega (arith, most, low, w, same);
      }

  fits_there :
      (number : ℕ) (s : Shape) → list_all is_near_shape (shapes_of program chosen) ≡ true → slice_get (shapes_of program chosen) number ≡ Some s
      → FitsShape (front_of program) s
  fits_there number s near e = by (slice_get_cases program.procedures number).1
    where
      by :
          ((p : MidProcedure) × (number < length program.procedures) × (slice_get program.procedures number ≡ Some p) × (get_or program.procedures number p ≡ p))
          ⊎ ((length program.procedures ≤ number) × (slice_get program.procedures number ≡ None)) → FitsShape (front_of program) s
      by (inr k) =
          let within = slice_get_within (shapes_of program chosen) number s e in
          let count = joined_length (shape program chosen) 0 program.procedures in
          let past = k.0 in
          absurd (omega (arith, within, count, past))
      by (inl k) =
          let p = k.0 in
          let there = shape_there program chosen number p k.2 in
          let both : Some (shape program chosen number p) ≡ Some s = sym there ∙ e in
          let same : shape program chosen number p ≡ s = cc both in
          subst (FitsShape (front_of program)) same
          (fits_one number p k.2 (all_at is_near_shape (shapes_of program chosen) number (shape program chosen number p) near there))

pub shapes_fit :
    (program : MidProgram) (front : Front) (shapes : List Shape) → is_checked_program program ≡ true → PlacesFit program (chosen_in shapes)
    → shapes ≡ shapes_of program (chosen_in shapes) → front ≡ front_of program → first_position front < 2 ^ 24 → list_all is_near_shape shapes ≡ true
    → EachShapeFits front shapes
shapes_fit program front shapes checked fit same front_is low near number s e =
    subst (λ f. FitsShape f s) (sym front_is)
    (fits_there program (chosen_in shapes) checked fit (subst (λ f. first_position f < 2 ^ 24) front_is low) number s (sym (ap (list_all is_near_shape) same) ∙ near)
    (sym (ap (λ ss. slice_get ss number) same) ∙ e))
