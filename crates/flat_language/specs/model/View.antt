-- The form that contracts see in a flat form: one level of the view.
use Rattle.std.specs.Prelude.{List, [], ◌∷◌, Option, Some, None}
use Rattle.flat_language.specs.FlatForm.{FlatForm, literal, local, set_local, global, set_global, def_global, clauses, sequence, let_form, make_function, call, call_value, apply, prim, while_form, block, return_from, tagbody, go, catch_form, throw, unwind, dynamic_let, dynamic, set_dynamic, def_dynamic, with_handler, signal_form, continue_form, next_method, has_next, sited}
use Rattle.flat_language.specs.FlatForm.{FlatForms, no_form, form_and, FlatClauses, no_clause, clause_and, FlatBody, no_body, with_body}
use Rattle.flat_language.specs.FlatForm.{FlatBindings, no_binding, binding_and, FlatDynamics, no_dynamic, dynamic_and}
use Rattle.flat_language.specs.declared.flat_core.FlatClause.{FlatClause}
use Rattle.flat_language.specs.declared.flat_core.FlatBinding.{FlatBinding}
use Rattle.flat_language.specs.declared.flat_core.FlatDynBinding.{FlatDynBinding}
use Rattle.flat_language.specs.declared.flat_core.FlatCoreForm.{FlatCoreForm}
use Rattle.flat_language.specs.declared.flat_core.FlatCoreForm.TheVariants.{Literal, Local, SetLocal, Global, SetGlobal, DefGlobal, Clauses, Sequence, Let, MakeFunction, Call, CallValue, Apply, Prim, While, Block, Return, Tagbody, Go, Catch, Throw, Unwind, DynamicLet, Dynamic, SetDynamic, DefDynamic, WithHandler, Signal, Continue, NextMethod, HasNext, Sited}

-- a list of forms as the mirror's
abbrev pub forms : List FlatForm → FlatForms
forms [] = no_form
forms (x ∷ xs) = form_and x (forms xs)

abbrev pub maybe_form : Option FlatForm → FlatBody
maybe_form None = no_body
maybe_form (Some f) = with_body f

-- a list of clauses as the mirror's
abbrev pub clauses_of : List FlatClause → FlatClauses
clauses_of [] = no_clause
clauses_of (c ∷ cs) = clause_and c.test (maybe_form c.body) (clauses_of cs)

-- lists of bindings as the mirror's
abbrev pub bindings_of : List FlatBinding → FlatBindings
bindings_of [] = no_binding
bindings_of (b ∷ bs) = binding_and b.home b.value (bindings_of bs)

abbrev pub dynamics_of : List FlatDynBinding → FlatDynamics
dynamics_of [] = no_dynamic
dynamics_of (b ∷ bs) = dynamic_and b.name.0 b.value (dynamics_of bs)

abbrev pub view_form : FlatCoreForm → FlatForm
view_form (Literal id) = literal id
view_form (Local var) = local var
view_form (SetLocal var value) = set_local var value.value
view_form (Global name) = global name.0
view_form (SetGlobal name value) = set_global name.0 value.value
view_form (DefGlobal name value) = def_global name.0 value.value
view_form (Clauses list) = clauses (clauses_of list)
view_form (Sequence list) = sequence (forms list)
view_form (Let bindings body) = let_form (bindings_of bindings) body.value
view_form (MakeFunction procedure parts) = make_function procedure parts
view_form (Call name list) = call name.0 (forms list)
view_form (CallValue list) = call_value (forms list)
view_form (Apply function list) = apply function.value list.value
view_form (Prim which list) = prim which (forms list)
view_form (While test body) = while_form test.value body.value
view_form (Block body) = block body.value
view_form (Return exit value) = return_from exit value.value
view_form (Tagbody segments) = tagbody (forms segments)
view_form (Go exit segment) = go exit segment
view_form (Catch tag body) = catch_form tag.value body.value
view_form (Throw tag value) = throw tag.value value.value
view_form (Unwind form cleanup) = unwind form.value cleanup.value
view_form (DynamicLet bindings body) = dynamic_let (dynamics_of bindings) body.value
view_form (Dynamic name) = dynamic name.0
view_form (SetDynamic name value) = set_dynamic name.0 value.value
view_form (DefDynamic name value) = def_dynamic name.0 value.value
view_form (WithHandler handler body) = with_handler handler.value body.value
view_form (Signal condition continuable) = signal_form condition.value continuable.value
view_form (Continue condition value) = continue_form condition.value value.value
view_form (NextMethod place) = next_method place
view_form (HasNext place) = has_next place
view_form (Sited site inner) = sited site inner.value
