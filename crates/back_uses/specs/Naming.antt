-- What a form names itself, and in which of its parts names are to be found.
use Rattle.std.specs.Prelude.{◌≡◌, ℕ, ◌+◌, List, [], ◌++◌, slice_get}
use Rattle.flat_language.specs.declared.program.FlatProgram.{FlatProgram}
use Rattle.flat_language.specs.FlatForm.{FlatForm, form_size, forms_size, clauses_size, bindings_size, dynamics_size}
use Rattle.flat_language.specs.model.View.{forms, clauses_of, bindings_of, dynamics_of}
use Rattle.back_words.specs.Uses.{Use, of_global, of_dynamic, of_function, of_literal, uses, uses_of_forms, uses_of_clauses, uses_of_values, uses_of_dynamics}
use Rattle.back_uses.specs.declared.naming.Naming.{Naming}
use Rattle.back_uses.specs.declared.naming.Naming.TheVariants as naming

-- these are the uses of a form, in each program
abbrev pub HasUses : FlatForm → (List (List ℕ) → FlatProgram → List Use) → Type 0
HasUses f us = (names : List (List ℕ)) (program : FlatProgram) → uses names program f ≡ us names program

-- and it is as large as its parts together, and one more
abbrev pub IsNaming : FlatForm → Naming → Type 0
IsNaming f naming.Nothing = HasUses f (λ names program. [])
IsNaming f (naming.Literal i) = HasUses f (λ names program. of_literal names program (slice_get program.literals i))
IsNaming f (naming.Global n) = HasUses f (λ names program. of_global n.0)
IsNaming f (naming.Dynamic n) = HasUses f (λ names program. of_dynamic n.0)
IsNaming f (naming.GlobalAnd n value) =
    (form_size f ≡ form_size value.now + 1) × HasUses f (λ names program. of_global n.0 ++ uses names program value.now)
IsNaming f (naming.DynamicAnd n value) =
    (form_size f ≡ form_size value.now + 1) × HasUses f (λ names program. of_dynamic n.0 ++ uses names program value.now)
IsNaming f (naming.FunctionAnd n list) =
    (form_size f ≡ forms_size (forms list.now) + 1)
    × HasUses f (λ names program. of_function names program n.0 ++ uses_of_forms names program (forms list.now))
IsNaming f (naming.One inner) = (form_size f ≡ form_size inner.now + 1) × HasUses f (λ names program. uses names program inner.now)
IsNaming f (naming.Two first second) =
    (form_size f ≡ form_size first.now + form_size second.now + 1)
    × HasUses f (λ names program. uses names program first.now ++ uses names program second.now)
IsNaming f (naming.Forms list) =
    (form_size f ≡ forms_size (forms list.now) + 1) × HasUses f (λ names program. uses_of_forms names program (forms list.now))
IsNaming f (naming.Clauses list) =
    (form_size f ≡ clauses_size (clauses_of list.now) + 1) × HasUses f (λ names program. uses_of_clauses names program (clauses_of list.now))
IsNaming f (naming.Let list body) =
    (form_size f ≡ bindings_size (bindings_of list.now) + form_size body.now + 1)
    × HasUses f (λ names program. uses_of_values names program (bindings_of list.now) ++ uses names program body.now)
IsNaming f (naming.DynamicLet list body) =
    (form_size f ≡ dynamics_size (dynamics_of list.now) + form_size body.now + 1)
    × HasUses f (λ names program. uses_of_dynamics names program (dynamics_of list.now) ++ uses names program body.now)
