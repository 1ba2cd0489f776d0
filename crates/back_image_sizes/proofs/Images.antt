-- **How many words an image has**: all together.
use Rattle.std.proofs.Common.{◌≡◌, ℕ, ◌+◌, ◌*◌, ◌≤◌, List, [], ◌∷◌, ◌++◌, length, map, refl, arith, length-append}
use Rattle.std.specs.Prelude.{flat_map}
use Rattle.std.proofs.lemmas.List.{length-map, length-replicate}
use Rattle.std.proofs.lemmas.List.Sums.{sum_by-append}
use Rattle.lang_meaning.specs.declared.program.GenericRow.{GenericRow}
use Rattle.lang_meaning.specs.Lookup.{text}
use Rattle.flat_language.specs.declared.program.FlatProcedure.{FlatProcedure}
use Rattle.flat_language.specs.declared.program.FlatProgram.{FlatProgram}
use Rattle.mid_code.specs.declared.program.MidProcedure.{MidProcedure}
use Rattle.mid_arena.specs.Tags.{unbound_word}
use Rattle.mid_start.specs.Rows.{unit_words}
use Rattle.back_lowering.specs.declared.placement.Placement.{Placement}
use Rattle.back_lowering.specs.Program.{itself, body_of, entries_from, lambda_entries_from, bodies_from, lambda_bodies, main_form, start, primitives, routines, lowered}
use Rattle.back_sizes.proofs.Sizes.{law_of_placed_size}
use Rattle.back_code_sizes.specs.Sizes.{function_words}
use Rattle.back_code_sizes.proofs.Programs.{law_of_code_sizes}
use Rattle.back_words.specs.Uses.{as_symbol, globals_among, dynamics_among, symbols_among, uses, program_uses}
use Rattle.back_words.specs.Variables.{variable_count, low_words}
use Rattle.back_words.specs.Start.{wanted_names}
use Rattle.back_image_sizes.specs.Sizes.{uses_words}
use Rattle.back_image_sizes.specs.Laws.{code_beside, LawOfImageSizes}
use Rattle.back_image_sizes.proofs.Arguments.{arguments_within}
use Rattle.back_image_sizes.proofs.Further.{law_of_further_sizes}
use Rattle.back_image_sizes.proofs.Programs.{uses_counted, one_of_each_count, generic_uses, functions_paid, mains_paid, literals_paid, classes_paid}
use Rattle.back_image_sizes.proofs.Uses.{both_uses}

module _ (names : List (List ℕ)) (at : Placement) (program : FlatProgram) where
  -- how many procedures a lowered program has

  entries_count : (p : ℕ) (qs : List FlatProcedure) → length (entries_from names at program p qs) ≡ length qs
  entries_count p [] = refl
  entries_count p (q ∷ qs) = let h = entries_count (p + 1) qs in omega (arith, h)

  lambda_entries_count : (p : ℕ) (qs : List FlatProcedure) → length (lambda_entries_from names at program p qs) ≡ length qs
  lambda_entries_count p [] = refl
  lambda_entries_count p (q ∷ qs) = let h = lambda_entries_count (p + 1) qs in omega (arith, h)

  bodies_count : (p : ℕ) (qs : List FlatProcedure) → length (bodies_from names at program p qs) ≡ length qs
  bodies_count p [] = refl
  bodies_count p (q ∷ qs) = let h = bodies_count (p + 1) qs in omega (arith, h)

  primitives_count : length (primitives names at program) ≡ 58
  primitives_count = refl

  routines_count : length (routines names at program) ≡ 21
  routines_count = refl

  procedures_count : length (lowered names at program) ≡ 2 * (length program.procedures + length program.lambdas) + length program.main + 80
  unfolding lowered
  procedures_count =
      let entries = entries_from names at program 0 program.procedures in
      let lambda_entries = lambda_entries_from names at program (length program.procedures) program.lambdas in
      let bodies = bodies_from names at program 0 program.procedures in
      let lambda_ones = lambda_bodies names at program program.lambdas in
      let fixed = primitives names at program in
      let mains = map (main_form names at program) program.main in
      let last : List MidProcedure = start names at program ∷ [] in
      omega (
        arith,
        length-append entries (lambda_entries ++ (bodies ++ (lambda_ones ++ (fixed ++ (routines names at program ++ (mains ++ last)))))),
        length-append lambda_entries (bodies ++ (lambda_ones ++ (fixed ++ (routines names at program ++ (mains ++ last))))),
        length-append bodies (lambda_ones ++ (fixed ++ (routines names at program ++ (mains ++ last)))),
        length-append lambda_ones (fixed ++ (routines names at program ++ (mains ++ last))),
        length-append fixed (routines names at program ++ (mains ++ last)),
        length-append (routines names at program) (mains ++ last),
        length-append mains last,
        entries_count 0 program.procedures,
        lambda_entries_count (length program.procedures) program.lambdas,
        bodies_count 0 program.procedures,
        length-map program.lambdas (body_of names at program itself),
        length-map program.main (main_form names at program),
        primitives_count,
        routines_count,
      )

module _ (names : List (List ℕ)) (program : FlatProgram) where
  -- the words of names: those of variables, and of symbols that conditions may have
  names_words :
      variable_count names program + unit_words * length (wanted_names names program) ≤ uses_words (program_uses names program)
  names_words =
      let us = program_uses names program in
      let wanted : length (wanted_names names program) ≡ length (symbols_among us) = length-map (symbols_among us) _ in
      omega (
        arith,
        uses_counted us,
        one_of_each_count (text names) [] (globals_among us),
        one_of_each_count (text names) [] (dynamics_among us),
        wanted,
      )

  program_uses_counted :
      uses_words (program_uses names program)
      ≡ uses_words (flat_map (λ (q : FlatProcedure). uses names program q.body) program.procedures)
      + uses_words (flat_map (λ (q : FlatProcedure). uses names program q.body) program.lambdas)
      + uses_words (flat_map (uses names program) program.main)
      + unit_words * length program.generics
  program_uses_counted =
      let procedures = flat_map (λ (q : FlatProcedure). uses names program q.body) program.procedures in
      let lambdas = flat_map (λ (q : FlatProcedure). uses names program q.body) program.lambdas in
      let mains = flat_map (uses names program) program.main in
      let generics = map (λ (g : GenericRow). as_symbol g.name.0) program.generics in
      omega (
        arith,
        both_uses procedures (lambdas ++ (mains ++ generics)),
        both_uses lambdas (mains ++ generics),
        both_uses mains generics,
        generic_uses program.generics,
      )

  low_count : length (low_words names program) ≡ 9 + variable_count names program
  low_count = let h = length-replicate (variable_count names program) unbound_word in omega (arith, h)

-- **the law of images**
pub law_of_image_sizes : LawOfImageSizes
law_of_image_sizes names at program symbols address laid chosen fits within places =
    let code = code_beside names at program laid in
    omega (
      arith,
      within,
      law_of_placed_size code chosen places,
      arguments_within (lowered names at program),
      procedures_count names at program,
      law_of_code_sizes names at program fits,
      sum_by-append function_words program.procedures program.lambdas,
      functions_paid names program program.procedures fits.procedures,
      functions_paid names program program.lambdas fits.lambdas,
      mains_paid names program program.main fits.main,
      literals_paid program.literals,
      classes_paid program.classes,
      names_words names program,
      program_uses_counted names program,
      low_count names program,
      law_of_further_sizes program symbols address,
      length-append program.procedures program.lambdas,
    )
