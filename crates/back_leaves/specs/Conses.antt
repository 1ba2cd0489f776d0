-- The steps that make a cons.
use Rattle.std.specs.Prelude.{ℕ, ◌+◌, List, [], ◌∷◌}
use Rattle.mid_code.specs.declared.operation.Arithmetic.TheVariants as which
use Rattle.mid_arena.specs.Tags.{cons_tag}
use Rattle.back_lowering.specs.Steps.{Steps, constant, compute, store, request}

-- the word in d and the list in t are a cons, which comes to t
abbrev pub consed : (d t : ℕ) → Steps
consed d t =
    constant (t + 1) 2 ∷ request (t + 1) (t + 1) ∷ store d (t + 1) 0 ∷ store t (t + 1) 4
    ∷ constant (t + 2) cons_tag ∷ compute t which.Add (t + 1) (t + 2) ∷ []
