-- The main forms and the start stand behind all other procedures.
use Rattle.std.proofs.Common.{◌≡◌, ℕ, ◌+◌, [], ◌∷◌, ◌++◌, length, map, Some, refl, ap, ◌∙◌, arith}
use Rattle.std.specs.Prelude.{slice_get}
use Rattle.std.proofs.lemmas.List.{length-map}
use Rattle.base.specs.Names.{slice_get-front}
use Rattle.mid_code.specs.declared.program.MidProcedure.{MidProcedure}
use Rattle.back_lowering.specs.Placement.{primitive_count}
use Rattle.back_lowering.specs.Routines.{routine_count}
use Rattle.back_lowering.specs.Program.{main_form, mains_from, start, lowered}
use Rattle.back_relation.specs.Setting.{Setting}
use Rattle.back_relation.specs.Placed.{IsPlaced}
use Rattle.back_calling.proofs.Numbers.{behind_front, mapped, in_parts, the_entries, the_lambda_entries, the_bodies, the_lambda_bodies, the_primitives, the_routines, the_rest, primitives_count, entries_many, lambda_entries_many, bodies_many, lambda_bodies_many}
use Rattle.back_levels.specs.Numbers.{LawOfMainNumbers}

module _ (setting : Setting) (placed : IsPlaced setting) where
  routines_many : length (the_routines setting) ≡ routine_count
  routines_many = refl

  abbrev p0 : ℕ
  p0 = setting.at.procedures

  abbrev l0 : ℕ
  l0 = setting.at.lambdas

  rest_found : (i : ℕ) (p : MidProcedure) → slice_get (the_rest setting) i ≡ Some p
      → slice_get (lowered setting.names setting.at setting.program) (mains_from setting.names setting.at setting.program + i) ≡ Some p
  rest_found i p e =
      let e0 = entries_many setting placed in
      let e1 = lambda_entries_many setting placed in
      let e2 = bodies_many setting placed in
      let e3 = lambda_bodies_many setting placed in
      let e4 = primitives_count setting in
      let e5 = routines_many in
      ap (λ ps. slice_get ps (mains_from setting.names setting.at setting.program + i)) (in_parts setting)
      ∙ behind_front (the_entries setting) _ (l0 + (p0 + (l0 + (primitive_count + (routine_count + i))))) (mains_from setting.names setting.at setting.program + i) p (omega (arith, e0))
      (behind_front (the_lambda_entries setting) _ (p0 + (l0 + (primitive_count + (routine_count + i)))) (l0 + (p0 + (l0 + (primitive_count + (routine_count + i))))) p (omega (arith, e1))
      (behind_front (the_bodies setting) _ (l0 + (primitive_count + (routine_count + i))) (p0 + (l0 + (primitive_count + (routine_count + i)))) p (omega (arith, e2))
      (behind_front (the_lambda_bodies setting) _ (primitive_count + (routine_count + i)) (l0 + (primitive_count + (routine_count + i))) p (omega (arith, e3))
      (behind_front (the_primitives setting) (the_routines setting ++ the_rest setting) (routine_count + i) (primitive_count + (routine_count + i)) p (omega (arith, e4))
      (behind_front (the_routines setting) (the_rest setting) i (routine_count + i) p (omega (arith, e5)) e)))))

pub main_numbers_law : (setting : Setting) → LawOfMainNumbers setting
main_numbers_law setting = record {
  main = λ i f placed e. rest_found setting placed i _
      (slice_get-front (map (main_form setting.names setting.at setting.program) setting.program.main) (start setting.names setting.at setting.program ∷ []) i _
      (mapped (main_form setting.names setting.at setting.program) setting.program.main i f e));
  start = λ placed. rest_found setting placed (length setting.program.main) _
      (let many = length-map setting.program.main (main_form setting.names setting.at setting.program) in
      behind_front (map (main_form setting.names setting.at setting.program) setting.program.main) (start setting.names setting.at setting.program ∷ []) 0 (length setting.program.main) _ (omega (arith, many)) refl);
}
