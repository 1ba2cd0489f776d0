-- A program that is made flat has as many nodes, main forms and rows as before.
use Rattle.std.proofs.Common.{◌≡◌, ℕ, ◌+◌, List, [], ◌∷◌, length, refl, arith}
use Rattle.lang_meaning.specs.Form.{Form}
use Rattle.flat_language.specs.Flatten.{functions, functions_of_procedures, flat_mains}
use Rattle.flat_nodes.proofs.Programs.{law_of_flat_program_nodes}
use Rattle.back_image_sizes.specs.Laws.{LawOfProgramImageSizes}

mains_count : (n : ℕ) (fs : List Form) → length (flat_mains n fs) ≡ length fs
mains_count n [] = refl
mains_count n (f ∷ fs) = let h = mains_count (n + functions f) fs in omega (arith, h)

pub law_of_program_image_sizes : LawOfProgramImageSizes
law_of_program_image_sizes program =
    omega (arith, law_of_flat_program_nodes program, mains_count (functions_of_procedures program.procedures) program.main)
