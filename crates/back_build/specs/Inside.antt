-- What a form captures itself, or its parts: how many variables the functions made in it capture is told by those.
use Rattle.std.specs.Prelude.{◌≡◌, ◌+◌}
use Rattle.flat_language.specs.FlatForm.{FlatForm, form_size, forms_size, clauses_size, bindings_size, dynamics_size}
use Rattle.flat_language.specs.model.View.{forms, clauses_of, bindings_of, dynamics_of}
use Rattle.flat_boxes.specs.Totals.{total_of_forms, total_of_clauses, total_of_values, total_of_dynamics}
use Rattle.flat_boxes.specs.Boxes.{variables_among, captures_itself, captured_variables}
use Rattle.back_build.specs.declared.inside.Inside.{Inside}
use Rattle.back_build.specs.declared.inside.Inside.TheVariants as inside

-- and it is as large as its parts together, and one more
abbrev pub IsInside : FlatForm → Inside → Type 0
IsInside f inside.Nothing = captured_variables f ≡ 0
IsInside f (inside.Captures parts) = captured_variables f ≡ variables_among parts.now
IsInside f (inside.One inner) = (form_size f ≡ form_size inner.now + 1) × (captured_variables f ≡ captured_variables inner.now)
IsInside f (inside.Two first second) =
    (form_size f ≡ form_size first.now + form_size second.now + 1)
    × (captured_variables f ≡ captured_variables first.now + captured_variables second.now)
IsInside f (inside.Forms list) =
    (form_size f ≡ forms_size (forms list.now) + 1) × (captured_variables f ≡ total_of_forms captures_itself (forms list.now))
IsInside f (inside.Clauses list) =
    (form_size f ≡ clauses_size (clauses_of list.now) + 1) × (captured_variables f ≡ total_of_clauses captures_itself (clauses_of list.now))
IsInside f (inside.Let list body) =
    (form_size f ≡ bindings_size (bindings_of list.now) + form_size body.now + 1)
    × (captured_variables f ≡ total_of_values captures_itself (bindings_of list.now) + captured_variables body.now)
IsInside f (inside.DynamicLet list body) =
    (form_size f ≡ dynamics_size (dynamics_of list.now) + form_size body.now + 1)
    × (captured_variables f ≡ total_of_dynamics captures_itself (dynamics_of list.now) + captured_variables body.now)
