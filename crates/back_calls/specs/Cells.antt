-- The steps that lay the cells of dynamic bindings, cell by cell.
use Rattle.std.specs.Prelude.{ℕ, ◌+◌, ◌*◌, Bool, true, false, List, [], ◌∷◌, ◌++◌}
use Rattle.flat_language.specs.FlatForm.{FlatDynamics, no_dynamic, dynamic_and}
use Rattle.flat_language.specs.declared.program.FlatProgram.{FlatProgram}
use Rattle.mid_code.specs.declared.operation.Arithmetic.TheVariants as which
use Rattle.back_lowering.specs.declared.placement.Placement.{Placement}
use Rattle.back_lowering.specs.ControlWords.{bindings_address, binding_variable, binding_value, binding_outer, binding_words}
use Rattle.back_lowering.specs.Placement.{dynamic_address}
use Rattle.back_lowering.specs.Steps.{Steps, move, constant, compute, load, store, store_far}
use Rattle.back_lowering.specs.Codes.{bindings_laid, innermost}

-- whether no binding is left
abbrev pub no_more : FlatDynamics → Bool
no_more no_dynamic = true
no_more (dynamic_and name f ds) = false

-- the address of the cell behind one at an offset, or of the one that was there, comes to t
abbrev pub outer_into : (last : Bool) → (b old t offset : ℕ) → Steps
outer_into true b old t offset = move t old ∷ []
outer_into false b old t offset = constant t (offset + 4 * binding_words) ∷ compute t which.Add t b ∷ []

-- the cell of a binding of the word in d
abbrev pub cell_laid : Placement → (name : ℕ) → (last : Bool) → (d b old t offset : ℕ) → Steps
cell_laid at name last d b old t offset =
    constant t (dynamic_address at name)
    ∷ (store_far t b (t + 1) (offset + binding_variable)
    ++ (store_far d b (t + 1) (offset + binding_value)
    ++ (outer_into last b old t offset
    ++ store_far t b (t + 1) (offset + binding_outer))))

-- the bindings are the innermost ones
abbrev pub bindings_entered : List (List ℕ) → Placement → FlatProgram → (d count : ℕ) → FlatDynamics → Steps
bindings_entered names at program d count ds =
    constant (d + count + 2) 0 ∷ load (d + count + 1) (d + count + 2) bindings_address
    ∷ (bindings_laid names at program d (d + count) (d + count + 1) (d + count + 2) 0 ds
    ++ (constant (d + count + 2) 0 ∷ store (innermost (d + count) (d + count + 1) ds) (d + count + 2) bindings_address ∷ []))
