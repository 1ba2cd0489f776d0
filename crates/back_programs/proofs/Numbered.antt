-- The table of primitives is in the order of their numbers.
use Rattle.std.proofs.Common.{◌≡◌, ℕ, List, [], ◌∷◌, map, refl, ap, sym, ◌∙◌}
use Rattle.lang_meaning.specs.model.ShapeCode.{primitive_at}
use Rattle.flat_language.specs.declared.program.FlatProgram.{FlatProgram}
use Rattle.mid_arena.specs.Codes.{procedure_of}
use Rattle.back_lowering.specs.declared.placement.Placement.{Placement}
use Rattle.back_lowering.specs.Placement.{primitive_count}
use Rattle.back_lowering.specs.Program.{numbers_below, primitives}
use Rattle.back_programs.specs.declared.primitives.TheConstants.{PRIMITIVES}
use Rattle.back_programs.specs.Parts.{written}

fused : {X Y Z : Type 0} (f : Y → Z) (g : X → Y) (xs : List X) → map f (map g xs) ≡ map (λ x. f (g x)) xs
fused f g [] = refl
fused f g (x ∷ xs) = ap (λ zs. f (g x) ∷ zs) (fused f g xs)

listed : (names : List (List ℕ)) (at : Placement) (program : FlatProgram) → map primitive_at (numbers_below names at program primitive_count) ≡ PRIMITIVES.now
listed names at program = refl

pub primitives_are : (names : List (List ℕ)) (at : Placement) (program : FlatProgram) → written PRIMITIVES.now ≡ primitives names at program
primitives_are names at program = ap written (sym (listed names at program)) ∙ fused procedure_of primitive_at (numbers_below names at program primitive_count)
