-- When a program is too large: what does not fit otherwise is large with all jumps far, or has deep records.
use Rattle.std.proofs.Common.{inl, inr, ◌≡◌, ◌≤◌, ◌⊎◌, ℕ, suc, ◌+◌, ◌*◌, ◌^◌, ◌<◌, Bool, true, false, List, [], ◌∷◌, ◌++◌, Some, refl, sym, ap, subst, ◌∙◌, arith}
use Rattle.std.specs.Prelude.{slice_get, nat_lt, nat_le, ◌&&◌, if◌then◌else◌}
use Rattle.std.specs.List.{list_any, list_all}
use Rattle.std.proofs.lemmas.Bool.Decides.{nat_tests}
use Rattle.mid_code.specs.declared.program.MidProcedure.{MidProcedure}
use Rattle.mid_code.specs.declared.program.MidProgram.{MidProgram}
use Rattle.mid_code.specs.Checked.{is_checked_program}
use Rattle.mid_code.specs.MidCode.{code_of}
use Rattle.mid_lines.specs.Flattened.{program_lines}
use Rattle.mid_lines.proofs.Checking.{law_of_form}
use Rattle.back_places.specs.Places.{reachable}
use Rattle.back_places.proofs.LinesInForm.{frame_is_small}
use Rattle.back_allocation.specs.declared.placing.RegisterPlaces.{RegisterPlaces}
use Rattle.back_allocation.specs.ProgramPlaces.{places_for, PlacesFit}
use Rattle.back_allocation.proofs.TreePlaces.{found_alone}
use Rattle.back_emit.specs.declared.ways.FrameWay.{FrameWay}
use Rattle.back_emit.specs.declared.ways.FrameWay.TheVariants.{FromStack, PastLent, NoWay}
use Rattle.back_emit.specs.Ways.{way_of}
use Rattle.back_emit.specs.TreeWays.{is_deep, has_deep, code_ways}
use Rattle.back_emit.proofs.Deep.{deep_head, deep_tail, either_front, either_back}
use Rattle.back_layout.specs.Layout.{with_front}
use Rattle.back_layout.specs.ChosenPlaces.{placed_decided}
use Rattle.back_layout.proofs.Rests.{code_smaller}
use Rattle.back_emit.specs.declared.errors.EmitError.{EmitError}
use Rattle.back_emit.specs.declared.errors.EmitError.TheVariants as emit
use Rattle.back_program_code.specs.declared.errors.ImageError.{ImageError}
use Rattle.back_program_code.specs.declared.errors.ImageError.TheVariants as image
use Rattle.back_program_code.specs.Errors.{image_error}
use Rattle.back_program_code.specs.declared.front.Front.{Front}
use Rattle.back_program_code.specs.declared.shapes.Shape.{Shape}
use Rattle.back_program_code.specs.Joined.{joined}
use Rattle.back_program_code.specs.Shapes.{shapes_of, chosen_in, front_of, is_near_way, is_near_shape, near_lefts, all_lefts, code_end, first_position}
use Rattle.back_program_code.specs.ShapesMade.{AreShapesOf}
use Rattle.back_program_code.specs.TooLarge.{far_end, is_deep_procedure, has_deep_records, IsTooLarge}
use Rattle.back_program_code.proofs.Agreeing.{end_same, procedure_there, shape}
use Rattle.back_program_code.proofs.Long.{from_large}
use Rattle.back_program_code.proofs.Shaped.{places_fit}
use Rattle.back_program_code.proofs.Ways.{way_past}
use Rattle.back_program_code.proofs.ShapedImage.{far, far_is, near, near_is, nears}

module _ (program : MidProgram) (chosen : List RegisterPlaces) (checked : is_checked_program program ≡ true) (fit : PlacesFit program chosen) where
  pub far_end_is :
      far_end program chosen ≡ code_end (front_of program) (all_lefts (front_of program) [] (shapes_of program chosen)) (shapes_of program chosen)
  far_end_is = end_same program chosen (far program chosen checked fit) [] (far_is program chosen checked fit) fit

  pub first_before : first_position (front_of program) ≤ far_end program chosen
  first_before = let e = far_end_is in omega (arith, e)

  -- with near jumps the image is no longer
  pub near_before : code_end (front_of program) (near_lefts (front_of program) (shapes_of program chosen)) (shapes_of program chosen) ≤ far_end program chosen
  near_before =
      let P = program_lines program in
      let e = end_same program chosen (near program chosen checked fit) (nears program chosen checked fit) (near_is program chosen checked fit) fit in
      let l = with_front P (placed_decided program chosen) in
      let smaller = code_smaller l (near program chosen checked fit) 0 P.procedures in
      omega (arith, e, smaller)

-- where code ends in what a plan is made of
module _ (program : MidProgram) (chosen : List RegisterPlaces) (checked : is_checked_program program ≡ true) (fit : PlacesFit program chosen) (f : Front) (shapes : List Shape) (front_is : f ≡ front_of program) (shapes_are : shapes ≡ shapes_of program chosen) where
  pub far_long : (lefts : List (List ℕ)) → lefts ≡ all_lefts f [] shapes → 2 ^ 24 ≤ code_end f lefts shapes → 2 ^ 24 ≤ far_end program chosen
  far_long lefts e long =
      let same =
      ap (λ l. code_end f l shapes) e ∙ ap (λ k. code_end k (all_lefts k [] shapes) shapes) front_is
      ∙ ap (λ ss. code_end (front_of program) (all_lefts (front_of program) [] ss) ss) shapes_are in
      let far_is_end = far_end_is program chosen checked fit in
      omega (arith, same, far_is_end, long)

  pub near_long : (lefts : List (List ℕ)) → lefts ≡ near_lefts f shapes → 2 ^ 24 ≤ code_end f lefts shapes → 2 ^ 24 ≤ far_end program chosen
  near_long lefts e long =
      let same =
      ap (λ l. code_end f l shapes) e ∙ ap (λ k. code_end k (near_lefts k shapes) shapes) front_is
      ∙ ap (λ ss. code_end (front_of program) (near_lefts (front_of program) ss) ss) shapes_are in
      let before = near_before program chosen checked fit in
      omega (arith, same, before, long)

-- a way that is not near is deep, where the frame is found
abbrev Either : (slots frame : ℕ) → FrameWay → Type 0
Either slots frame way = (is_near_way slots frame way ≡ true) ⊎ (is_deep way ≡ true)

both_true : (a b : Bool) → a ≡ true → b ≡ true → (a && b) ≡ true
both_true true b e g = g
both_true false b e g = absurd (cc e)

below : (a b : ℕ) → a < b → nat_lt a b ≡ true
below a b h = grind (arith, nat_tests, h)

reach_small : (t : Bool) (slots frame : ℕ) → slots < (if t then frame else 0) → t ≡ true
reach_small true slots frame h = refl
reach_small false slots frame h = absurd (omega (arith, h))

way_either : (slots frame : ℕ) (way : FrameWay) → frame < 2 ^ 24 → slots < reachable (way_of way) frame → Either slots frame way
way_either slots frame (FromStack depth) low h = by (nat_le (2 ^ 29) depth) refl
  where
    by : (t : Bool) → nat_le (2 ^ 29) depth ≡ t → Either slots frame (FromStack depth)
    by true e = inr e
    by false e =
        let few : depth < 2 ^ 29 = grind (arith, nat_tests, e) in
        inl (both_true _ _ (below (depth + slots) (2 ^ 30) (omega (arith, few, low, h))) (below (depth + frame) (2 ^ 30) (omega (arith, few, low))))
way_either slots frame (PastLent depth) low h =
    let t = reach_small (nat_le (4 * (depth + frame)) 2048) slots frame h in
    let few : 4 * (depth + frame) ≤ 2048 = grind (arith, nat_tests, t) in
    let within = ap (λ b. if b then frame else 0) t in
    inl (both_true _ _ (below (depth + slots) (2 ^ 10) (omega (arith, few, h, within))) (below (depth + frame) (2 ^ 30) (omega (arith, few, low))))
way_either slots frame NoWay low h = inl (below frame (2 ^ 30) (omega (arith, low)))

either_way : (slots frame : ℕ) (w : FrameWay) (ways : List FrameWay) → Either slots frame w → (is_near_way slots frame w ≡ true → has_deep ways ≡ true) → has_deep (w ∷ ways) ≡ true
either_way slots frame w ways (inl k) rest = deep_tail w ways (rest k)
either_way slots frame w ways (inr k) rest = deep_head w ways k

deep_some :
    (slots frame : ℕ) (ways : List FrameWay) → ((i : ℕ) (way : FrameWay) → slice_get ways i ≡ Some way → Either slots frame way)
    → list_all (is_near_way slots frame) (ways ++ FromStack 0 ∷ []) ≡ false → slots < 2 ^ 24 → frame < 2 ^ 24 → has_deep ways ≡ true
deep_some slots frame [] h e few low =
    absurd (cc (sym e ∙ both_true _ true (both_true _ _ (below (0 + slots) (2 ^ 30) (omega (arith, few))) (below (0 + frame) (2 ^ 30) (omega (arith, low)))) refl))
deep_some slots frame (w ∷ ways) h e few low =
    either_way slots frame w ways (h 0 w refl)
    (λ k.
    deep_some slots frame ways (λ i way g. h (suc i) way g) (sym (ap (λ b. b && list_all (is_near_way slots frame) (ways ++ FromStack 0 ∷ [])) k) ∙ e) few low)

module _ (program : MidProgram) (chosen : List RegisterPlaces) (checked : is_checked_program program ≡ true) (fit : PlacesFit program chosen) where
  abbrev slots : ℕ → ℕ
  slots number = (places_for chosen number).slots

  one_either :
      (number i : ℕ) (p : MidProcedure) (way : FrameWay) → slice_get program.procedures number ≡ Some p → slice_get (code_ways (FromStack 0) (code_of p.body)) i ≡ Some way
      → Either (slots number) p.frame way
  one_either number i p way h e =
      let f = (found_alone (record p { registers = slots number }) (fit.each number p h).finds).everywhere i in
      let same : f.0 ≡ way_of way = sym f.1.way_is ∙ way_past p i way e in
      way_either (slots number) p.frame way (frame_is_small (program_lines program) number _ (law_of_form program checked) (procedure_there program number p h))
      (subst (λ w. slots number < reachable w p.frame) same f.1.within)

  not_near : (number : ℕ) (p : MidProcedure) → slice_get program.procedures number ≡ Some p → is_near_shape (shape program chosen number p) ≡ false → is_deep_procedure p ≡ true
  not_near number p h e =
      let low = frame_is_small (program_lines program) number _ (law_of_form program checked) (procedure_there program number p h) in
      let more = (found_alone (record p { registers = slots number }) (fit.each number p h).finds).enough in
      deep_some (slots number) p.frame (code_ways (FromStack 0) (code_of p.body)) (λ i way g. one_either number i p way h g) e (omega (arith, more, low)) low

  one_deep :
      (p : MidProcedure) (ps : List MidProcedure) (s : Shape) (t : Bool) → is_near_shape s ≡ t → (is_near_shape s ≡ false → is_deep_procedure p ≡ true)
      → (is_near_shape s ≡ true → list_any is_deep_procedure ps ≡ true) → list_any is_deep_procedure (p ∷ ps) ≡ true
  one_deep p ps s true k here rest = either_back (is_deep_procedure p) (list_any is_deep_procedure ps) (rest k)
  one_deep p ps s false k here rest = either_front (is_deep_procedure p) (list_any is_deep_procedure ps) (here k)

  some_deep :
      (from : ℕ) (ps : List MidProcedure)
      → ((i number : ℕ) (p : MidProcedure) → number ≡ from + i → slice_get ps i ≡ Some p → is_near_shape (shape program chosen number p) ≡ false → is_deep_procedure p ≡ true)
      → list_all is_near_shape (joined (λ number p. shape program chosen number p ∷ []) from ps) ≡ false → list_any is_deep_procedure ps ≡ true
  some_deep from [] h e = absurd (cc e)
  some_deep from (p ∷ ps) h e =
      one_deep p ps (shape program chosen from p) (is_near_shape (shape program chosen from p)) refl (h 0 from p (omega arith) refl)
      (λ k.
      some_deep (from + 1) ps (λ i number q g. h (suc i) number q (omega (arith, g)))
      (sym (ap (λ b. b && list_all is_near_shape (joined (λ number p. shape program chosen number p ∷ []) (from + 1) ps)) k) ∙ e))

  pub near_or_deep : (shapes : List Shape) → shapes ≡ shapes_of program chosen → list_all is_near_shape shapes ≡ false → has_deep_records program ≡ true
  near_or_deep shapes same e =
      some_deep 0 program.procedures
      (λ i number p g h. let place : number ≡ i = omega (arith, g) in not_near number p (ap (slice_get program.procedures) place ∙ h))
      (sym (ap (list_all is_near_shape) same) ∙ e)

-- the errors of what a plan is made of
pub deep_large : (program : MidProgram) (e : ImageError) → (e ≡ image.TooLarge → has_deep_records program ≡ true) → e ≡ image.TooLarge → IsTooLarge program
deep_large program e h large = inr (h large)

module _ (program : MidProgram) (shapes : List Shape) (a : AreShapesOf program.procedures shapes) (from : EmitError) (e : ImageError) (is : e ≡ image_error from) where
  pub far_large : (from ≡ emit.TooLarge → 2 ^ 24 ≤ far_end program (chosen_in shapes)) → e ≡ image.TooLarge → IsTooLarge program
  far_large h large = inl (record { chosen = chosen_in shapes; fit = places_fit program shapes a; long = h (from_large from e is large) })

  pub front_large : is_checked_program program ≡ true → 2 ^ 24 ≤ first_position (front_of program) → e ≡ image.TooLarge → IsTooLarge program
  front_large checked h large =
      let b = first_before program (chosen_in shapes) checked (places_fit program shapes a) in
      inl (record { chosen = chosen_in shapes; fit = places_fit program shapes a; long = omega (arith, b, h) })
