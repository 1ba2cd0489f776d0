-- Of what parts a flat form is, and the code behind its parts.
use Rattle.std.specs.Prelude.{◌≡◌, ℕ, ◌+◌, ◌∷◌, slice_get}
use Rattle.flat_language.specs.FlatForm.{FlatForm, form_size, forms_size, clauses_size, bindings_size, dynamics_size, literal, local, set_local, global, set_global, def_global, clauses, sequence, let_form, make_function, call, call_value, apply, prim, while_form, block, return_from, tagbody, go, catch_form, throw, unwind, dynamic_let, dynamic, set_dynamic, def_dynamic, with_handler, signal_form, continue_form, next_method, has_next, sited}
use Rattle.flat_language.specs.model.View.{forms, clauses_of, bindings_of, dynamics_of}
use Rattle.back_lowering.specs.declared.scope.Scope.{Scope}
use Rattle.back_lowering.specs.Steps.{Steps, constant}
use Rattle.back_lowering.specs.Leaves.{variable_into, variable_from}
use Rattle.back_lowering.specs.Codes.{literal_code, global_code, set_global_code, def_global_code, dynamic_code, set_dynamic_code, def_dynamic_code, exit_code, next_code, has_next_code}
use Rattle.mid_arena.specs.Tags.{nil_word}
use Rattle.back_calls.specs.declared.given.Given.{Given}
use Rattle.back_forms.specs.declared.shapes.Leaf.{Leaf}
use Rattle.back_forms.specs.declared.shapes.Leaf.TheVariants as leaf
use Rattle.back_forms.specs.declared.shapes.OverForm.{OverForm}
use Rattle.back_forms.specs.declared.shapes.OverForm.TheVariants as one
use Rattle.back_forms.specs.declared.shapes.OverTwo.{OverTwo}
use Rattle.back_forms.specs.declared.shapes.OverTwo.TheVariants as two
use Rattle.back_forms.specs.declared.shapes.Shape.{Shape}
use Rattle.back_forms.specs.declared.shapes.Shape.TheVariants as shape

abbrev pub leaf_form : Leaf → FlatForm
leaf_form (leaf.Literal id) = literal id
leaf_form (leaf.Local place) = local place
leaf_form (leaf.Global name) = global name.0
leaf_form (leaf.Go place segment) = go place segment
leaf_form (leaf.Dynamic name) = dynamic name.0
leaf_form (leaf.NextMethod place) = next_method place
leaf_form (leaf.HasNext place) = has_next place

abbrev pub over_form : OverForm → FlatForm → FlatForm
over_form (one.SetLocal place) f = set_local place f
over_form (one.SetGlobal name) f = set_global name.0 f
over_form (one.DefGlobal name) f = def_global name.0 f
over_form (one.Return place) f = return_from place f
over_form (one.SetDynamic name) f = set_dynamic name.0 f
over_form (one.DefDynamic name) f = def_dynamic name.0 f

abbrev pub over_two : OverTwo → FlatForm → FlatForm → FlatForm
over_two two.Apply f g = apply f g
over_two two.Throw f g = throw f g
over_two two.Signal f g = signal_form f g
over_two two.Continue f g = continue_form f g

-- how many routines stand before the one that is called
abbrev pub routine_of : OverTwo → ℕ
routine_of two.Apply = 11
routine_of two.Throw = 2
routine_of two.Signal = 5
routine_of two.Continue = 3

-- of that shape, and as large as its parts together, and one more
abbrev pub IsShape : FlatForm → Shape → Type 0
IsShape f (shape.Alone l) = f ≡ leaf_form l
IsShape f (shape.Function number parts) = f ≡ make_function number parts.now
IsShape f (shape.OverForm kind inner) = (form_size f ≡ form_size inner.now + 1) × (f ≡ over_form kind inner.now)
IsShape f (shape.OverTwo kind first second) = (form_size f ≡ form_size first.now + form_size second.now + 1) × (f ≡ over_two kind first.now second.now)
IsShape f (shape.Clauses list) = (form_size f ≡ clauses_size (clauses_of list.now) + 1) × (f ≡ clauses (clauses_of list.now))
IsShape f (shape.Sequence list) = (form_size f ≡ forms_size (forms list.now) + 1) × (f ≡ sequence (forms list.now))
IsShape f (shape.Let list body) = (form_size f ≡ bindings_size (bindings_of list.now) + form_size body.now + 1) × (f ≡ let_form (bindings_of list.now) body.now)
IsShape f (shape.Call name list) = (form_size f ≡ forms_size (forms list.now) + 1) × (f ≡ call name.0 (forms list.now))
IsShape f (shape.CallValue list) = (form_size f ≡ forms_size (forms list.now) + 1) × (f ≡ call_value (forms list.now))
IsShape f (shape.Prim which list) = (form_size f ≡ forms_size (forms list.now) + 1) × (f ≡ prim which (forms list.now))
IsShape f (shape.While test body) = (form_size f ≡ form_size test.now + form_size body.now + 1) × (f ≡ while_form test.now body.now)
IsShape f (shape.Block body) = (form_size f ≡ form_size body.now + 1) × (f ≡ block body.now)
IsShape f (shape.Tagbody list) = (form_size f ≡ forms_size (forms list.now) + 1) × (f ≡ tagbody (forms list.now))
IsShape f (shape.Catch tag body) = (form_size f ≡ form_size tag.now + form_size body.now + 1) × (f ≡ catch_form tag.now body.now)
IsShape f (shape.Unwind form cleanup) = (form_size f ≡ form_size form.now + form_size cleanup.now + 1) × (f ≡ unwind form.now cleanup.now)
IsShape f (shape.DynamicLet list body) = (form_size f ≡ dynamics_size (dynamics_of list.now) + form_size body.now + 1) × (f ≡ dynamic_let (dynamics_of list.now) body.now)
IsShape f (shape.WithHandler handler body) = (form_size f ≡ form_size handler.now + form_size body.now + 1) × (f ≡ with_handler handler.now body.now)
IsShape f (shape.Sited site inner) = (form_size f ≡ form_size inner.now + 1) × (f ≡ sited site inner.now)

-- the code of a form with no forms inside
abbrev pub leaf_code : Given → Scope → (d : ℕ) → Leaf → Steps
leaf_code g s d (leaf.Literal id) =
    literal_code g.names.now g.at.now g.program.now s.site d id (slice_get g.program.now.literals id)
leaf_code g s d (leaf.Local place) = variable_into s d place
leaf_code g s d (leaf.Global name) = global_code g.names.now g.at.now g.program.now s.site d name.0
leaf_code g s d (leaf.Go place segment) = constant d nil_word ∷ exit_code g.names.now g.at.now g.program.now s d segment place
leaf_code g s d (leaf.Dynamic name) = dynamic_code g.names.now g.at.now g.program.now s.site d name.0
leaf_code g s d (leaf.NextMethod place) = next_code g.names.now g.at.now g.program.now s d place
leaf_code g s d (leaf.HasNext place) = has_next_code g.names.now g.at.now g.program.now s d place

-- the code behind that of the one form inside
abbrev pub behind_form : Given → Scope → (d : ℕ) → OverForm → Steps
behind_form g s d (one.SetLocal place) = variable_from s d (d + 1) place
behind_form g s d (one.SetGlobal name) = set_global_code g.names.now g.at.now g.program.now s.site d name.0
behind_form g s d (one.DefGlobal name) = def_global_code g.names.now g.at.now g.program.now d name.0
behind_form g s d (one.Return place) = exit_code g.names.now g.at.now g.program.now s d 0 place
behind_form g s d (one.SetDynamic name) = set_dynamic_code g.names.now g.at.now g.program.now s.site d name.0
behind_form g s d (one.DefDynamic name) = def_dynamic_code g.names.now g.at.now g.program.now d name.0
