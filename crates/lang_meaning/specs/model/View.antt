-- The form that contracts see in a core form: one level of the view.
use Rattle.std.specs.Prelude.{◌≡◌, List, [], ◌∷◌, Option, Some, None, refl}
use Rattle.std.proofs.Common.{ap}
use Rattle.lang_meaning.specs.Form.{Form, literal, local, set_local, global, set_global, def_global, clauses, sequence, let_form, lambda, call, call_value, apply, prim, while_form, block, return_from, tagbody, go, catch_form, throw, unwind, dynamic_let, dynamic, set_dynamic, def_dynamic, with_handler, signal_form, continue_form, next_method, has_next, sited}
use Rattle.lang_meaning.specs.Form.{Forms, no_form, form_and, ClauseForms, no_clause, clause_and, MaybeForm, no_body, with_body}
use Rattle.lang_meaning.specs.Form.{BindingForms, no_binding, binding_and, DynamicForms, no_dynamic, dynamic_and}
use Rattle.lang_meaning.specs.Subforms.{forms_list}
use Rattle.lang_meaning.specs.declared.core_form.Clause.{Clause}
use Rattle.lang_meaning.specs.declared.core_form.Binding.{Binding}
use Rattle.lang_meaning.specs.declared.core_form.DynBinding.{DynBinding}
use Rattle.lang_meaning.specs.declared.core_form.CoreForm.{CoreForm}
use Rattle.lang_meaning.specs.declared.core_form.CoreForm.TheVariants.{Literal, Local, SetLocal, Global, SetGlobal, DefGlobal, Clauses, Sequence, Let, Lambda, Call, CallValue, Apply, Prim, While, Block, Return, Tagbody, Go, Catch, Throw, Unwind, DynamicLet, Dynamic, SetDynamic, DefDynamic, WithHandler, Signal, Continue, NextMethod, HasNext, Sited}

-- a list of forms as the mirror's
abbrev pub forms : List Form → Forms
forms [] = no_form
forms (x ∷ xs) = form_and x (forms xs)

abbrev pub maybe_form : Option Form → MaybeForm
maybe_form None = no_body
maybe_form (Some f) = with_body f

-- a list of clauses as the mirror's
abbrev pub clauses_of : List Clause → ClauseForms
clauses_of [] = no_clause
clauses_of (c ∷ cs) = clause_and c.test (maybe_form c.body) (clauses_of cs)

-- lists of bindings as the mirror's
abbrev pub bindings_of : List Binding → BindingForms
bindings_of [] = no_binding
bindings_of (b ∷ bs) = binding_and b.var b.value (bindings_of bs)

abbrev pub dynamics_of : List DynBinding → DynamicForms
dynamics_of [] = no_dynamic
dynamics_of (b ∷ bs) = dynamic_and b.name.0 b.value (dynamics_of bs)

abbrev pub view_form : CoreForm → Form
view_form (Literal id) = literal id
view_form (Local var) = local var
view_form (SetLocal var value) = set_local var value.value
view_form (Global name) = global name.0
view_form (SetGlobal name value) = set_global name.0 value.value
view_form (DefGlobal name value) = def_global name.0 value.value
view_form (Clauses list) = clauses (clauses_of list)
view_form (Sequence list) = sequence (forms list)
view_form (Let bindings body) = let_form (bindings_of bindings) body.value
view_form (Lambda required rest body parts) = lambda required rest body.value parts
view_form (Call name list) = call name.0 (forms list)
view_form (CallValue list) = call_value (forms list)
view_form (Apply function list) = apply function.value list.value
view_form (Prim which list) = prim which (forms list)
view_form (While test body) = while_form test.value body.value
view_form (Block exit body) = block exit body.value
view_form (Return exit value) = return_from exit value.value
view_form (Tagbody exit segments) = tagbody exit (forms segments)
view_form (Go exit segment) = go exit segment
view_form (Catch tag body) = catch_form tag.value body.value
view_form (Throw tag value) = throw tag.value value.value
view_form (Unwind form cleanup) = unwind form.value cleanup.value
view_form (DynamicLet bindings body) = dynamic_let (dynamics_of bindings) body.value
view_form (Dynamic name) = dynamic name.0
view_form (SetDynamic name value) = set_dynamic name.0 value.value
view_form (DefDynamic name value) = def_dynamic name.0 value.value
view_form (WithHandler handler body) = with_handler handler.value body.value
view_form (Signal condition continuable) = signal_form condition.value continuable.value
view_form (Continue condition value) = continue_form condition.value value.value
view_form NextMethod = next_method
view_form HasNext = has_next
view_form (Sited site inner) = sited site inner.value

pub forms_back : (xs : List Form) → forms_list (forms xs) ≡ xs
forms_back [] = refl
forms_back (x ∷ xs) = ap (λ ys. x ∷ ys) (forms_back xs)
