-- The steps that take an element of a vector, part by part.
use Rattle.std.specs.Prelude.{ℕ, ◌+◌, List, [], ◌∷◌}
use Rattle.mid_code.specs.declared.operation.Arithmetic.TheVariants as which
use Rattle.mid_code.specs.declared.operation.Comparison.TheVariants.{LessUnsigned}
use Rattle.mid_arena.specs.Tags.{vector_header}
use Rattle.back_lowering.specs.Steps.{Steps, constant, compute, load, load_header, where_so, if_equal}
use Rattle.back_lowering.specs.Primitives.{where_integers}

-- the index is below the number of elements: the element comes to d, and t is 0
abbrev pub element_at : (d t : ℕ) → Steps
element_at d t =
    load (t + 1) d 2
    ∷ where_so LessUnsigned (d + 1) (t + 1) (compute (t + 1) which.Add d (d + 1) ∷ load d (t + 1) 6 ∷ constant t 0 ∷ []) [] ∷ []

-- an object: where it is a vector and the index an integer, so
abbrev pub element_of_object : (asked : List ℕ) → (d t : ℕ) → Steps
element_of_object asked d t =
    load_header (t + 1) d ∷ constant (t + 2) vector_header
    ∷ if_equal (t + 1) (t + 2) (where_integers asked (t + 1) (element_at d t) []) [] ∷ []
