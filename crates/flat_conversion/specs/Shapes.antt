-- Of what parts a form is, and the flat form of what is made of them.
use Rattle.std.specs.Prelude.{◌≡◌, ℕ, ◌+◌, List, [], ◌++◌}
use Rattle.lang_meaning.specs.Form.{Form, form_size, forms_size}
use Rattle.lang_meaning.specs.Form as core
use Rattle.lang_meaning.specs.model.View.{forms, clauses_of, bindings_of, dynamics_of}
use Rattle.flat_language.specs.FlatForm.{FlatForm, FlatForms, literal, local, set_local, global, set_global, def_global, sequence, call, call_value, apply, prim, while_form, return_from, go, catch_form, throw, unwind, dynamic, set_dynamic, def_dynamic, with_handler, signal_form, continue_form, next_method, has_next, sited}
use Rattle.flat_language.specs.Scope.{Scope}
use Rattle.flat_language.specs.Flatten.{functions, flat, flat_forms, inner_procedures, procedures_of_forms}
use Rattle.flat_language.specs.declared.program.FlatProcedure.{FlatProcedure}
use Rattle.flat_conversion.specs.Binders.{binders, binders_of_forms}
use Rattle.flat_conversion.specs.declared.shapes.Leaf.{Leaf}
use Rattle.flat_conversion.specs.declared.shapes.Leaf.TheVariants as leaf
use Rattle.flat_conversion.specs.declared.shapes.OverForm.{OverForm}
use Rattle.flat_conversion.specs.declared.shapes.OverForm.TheVariants as one
use Rattle.flat_conversion.specs.declared.shapes.OverForms.{OverForms}
use Rattle.flat_conversion.specs.declared.shapes.OverForms.TheVariants as many
use Rattle.lang_meaning.specs.declared.kinds.OverTwo.{OverTwo}
use Rattle.lang_meaning.specs.declared.kinds.OverTwo.TheVariants as two
use Rattle.flat_conversion.specs.declared.shapes.Shape.{Shape}
use Rattle.flat_conversion.specs.declared.shapes.Shape.TheVariants as shape
use Rattle.flat_conversion.specs.declared.variables.Binder.{Binder}

abbrev pub leaf_form : Leaf → FlatForm
leaf_form (leaf.Literal id) = literal id
leaf_form (leaf.Local place) = local place
leaf_form (leaf.Global name) = global name.0
leaf_form (leaf.Go place segment) = go place segment
leaf_form (leaf.Dynamic name) = dynamic name.0
leaf_form (leaf.NextMethod place) = next_method place
leaf_form (leaf.HasNext place) = has_next place

-- over one form, over two, and over a list of forms
abbrev pub over_form : OverForm → FlatForm → FlatForm
over_form (one.SetLocal place) f = set_local place f
over_form (one.SetGlobal name) f = set_global name.0 f
over_form (one.DefGlobal name) f = def_global name.0 f
over_form (one.Return place) f = return_from place f
over_form (one.SetDynamic name) f = set_dynamic name.0 f
over_form (one.DefDynamic name) f = def_dynamic name.0 f
over_form (one.Sited site) f = sited site f

abbrev pub over_two : OverTwo → FlatForm → FlatForm → FlatForm
over_two two.Apply f g = apply f g
over_two two.While f g = while_form f g
over_two two.Catch f g = catch_form f g
over_two two.Throw f g = throw f g
over_two two.Unwind f g = unwind f g
over_two two.WithHandler f g = with_handler f g
over_two two.Signal f g = signal_form f g
over_two two.Continue f g = continue_form f g

abbrev pub over_forms : OverForms → FlatForms → FlatForm
over_forms many.Sequence fs = sequence fs
over_forms (many.Call name) fs = call name.0 fs
over_forms many.CallValue fs = call_value fs
over_forms (many.Prim which) fs = prim which fs

-- in that scope the translation has this form, these procedures of the functions inside, and these binders before the rest
pub record IsFlattened (f : Form) (s : Scope) (made : ℕ → FlatForm) (inside : ℕ → List FlatProcedure) (front : List Binder → List Binder) : Type 0 where
  pub same : (n : ℕ) → made n ≡ flat s n f
  pub alike : (n : ℕ) → inside n ≡ inner_procedures s n f
  pub ahead : (rest : List Binder) → binders f rest ≡ front rest

abbrev pub IsShape : Form → Scope → Shape → Type 0
IsShape f s (shape.Alone l) = IsFlattened f s (λ n. leaf_form l) (λ n. []) (λ rest. rest)
IsShape f s (shape.OverForm kind inner) =
    (form_size f ≡ form_size inner.now + 1)
    × IsFlattened f s (λ n. over_form kind (flat s n inner.now)) (λ n. inner_procedures s n inner.now) (binders inner.now)
IsShape f s (shape.OverTwo kind first second) =
    (form_size f ≡ form_size first.now + form_size second.now + 1)
    × IsFlattened f s (λ n. over_two kind (flat s n first.now) (flat s (n + functions first.now) second.now))
    (λ n. inner_procedures s n first.now ++ inner_procedures s (n + functions first.now) second.now) (λ rest. binders first.now (binders second.now rest))
IsShape f s (shape.OverForms kind list) =
    (form_size f ≡ forms_size (forms list.now) + 1)
    × IsFlattened f s (λ n. over_forms kind (flat_forms s n (forms list.now))) (λ n. procedures_of_forms s n (forms list.now)) (binders_of_forms (forms list.now))
IsShape f s (shape.Clauses list) = f ≡ core.clauses (clauses_of list.now)
IsShape f s (shape.Let list body) = f ≡ core.let_form (bindings_of list.now) body.now
IsShape f s (shape.Lambda required rest body parts) = f ≡ core.lambda required.now rest body.now parts.now
IsShape f s (shape.Block exit body) = f ≡ core.block exit body.now
IsShape f s (shape.Tagbody exit list) = f ≡ core.tagbody exit (forms list.now)
IsShape f s (shape.DynamicLet list body) = f ≡ core.dynamic_let (dynamics_of list.now) body.now
