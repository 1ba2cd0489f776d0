-- Each child of a core form is smaller than the form.
use Rattle.std.specs.Prelude.{◌+◌, ◌≤◌, max, List, [], ◌∷◌, Option, Some, None}
use Rattle.std.proofs.Common.{arith}
use denote.Param.Weighed.{most}
use Rattle.lang_meaning.specs.Form.{Form, form_size, forms_size, clauses_size, maybe_size, bindings_size, dynamics_size}
use Rattle.lang_meaning.specs.model.View.{forms, clauses_of, maybe_form, bindings_of, dynamics_of, view_form}
use Rattle.lang_meaning.specs.declared.core_form.Clause.{Clause}
use Rattle.lang_meaning.specs.declared.core_form.Binding.{Binding}
use Rattle.lang_meaning.specs.declared.core_form.DynBinding.{DynBinding}
use Rattle.lang_meaning.specs.declared.core_form.CoreForm.{CoreForm}
use Rattle.lang_meaning.specs.declared.core_form.CoreForm.TheVariants.{Literal, Local, SetLocal, Global, SetGlobal, DefGlobal, Clauses, Sequence, Let, Lambda, Call, CallValue, Apply, Prim, While, Block, Return, Tagbody, Go, Catch, Throw, Unwind, DynamicLet, Dynamic, SetDynamic, DefDynamic, WithHandler, Signal, Continue, NextMethod, HasNext, Sited}
use Rattle.lang_meaning.specs.declared.core_form.Core.TheDeep.{deep-CoreForm, deep-Clause, deep-Binding, deep-DynBinding}

forms_fall : (xs : List Form) → most (λ x. form_size x + 1) xs ≤ forms_size (forms xs)
forms_fall [] = omega arith
forms_fall (x ∷ xs) = omega (arith, forms_fall xs)

body_falls : (t : Form) (b : Option Form)
    → deep-Clause (record { test = t; body = b }) ≤ form_size t + maybe_size (maybe_form b) + 2
body_falls t None = omega arith
body_falls t (Some f) = omega arith

clauses_fall : (cs : List Clause) → most deep-Clause cs ≤ clauses_size (clauses_of cs)
clauses_fall [] = omega arith
clauses_fall (c ∷ cs) = omega (arith, body_falls c.test c.body, clauses_fall cs)

bindings_fall : (bs : List Binding) → most deep-Binding bs ≤ bindings_size (bindings_of bs)
bindings_fall [] = omega arith
bindings_fall (b ∷ bs) = omega (arith, bindings_fall bs)

dynamics_fall : (bs : List DynBinding) → most deep-DynBinding bs ≤ dynamics_size (dynamics_of bs)
dynamics_fall [] = omega arith
dynamics_fall (b ∷ bs) = omega (arith, dynamics_fall bs)

pub falls : (f : CoreForm) → max (deep-CoreForm f) 0 ≤ form_size (view_form f)
falls (Literal id) = omega arith
falls (Local var) = omega arith
falls (SetLocal var value) = omega arith
falls (Global name) = omega arith
falls (SetGlobal name value) = omega arith
falls (DefGlobal name value) = omega arith
falls (Clauses list) = omega (arith, clauses_fall list)
falls (Sequence list) = omega (arith, forms_fall list)
falls (Let bindings body) = omega (arith, bindings_fall bindings)
falls (Lambda required rest body parts) = omega arith
falls (Call name list) = omega (arith, forms_fall list)
falls (CallValue list) = omega (arith, forms_fall list)
falls (Apply function list) = omega arith
falls (Prim which list) = omega (arith, forms_fall list)
falls (While test body) = omega arith
falls (Block exit body) = omega arith
falls (Return exit value) = omega arith
falls (Tagbody exit segments) = omega (arith, forms_fall segments)
falls (Go exit segment) = omega arith
falls (Catch tag body) = omega arith
falls (Throw tag value) = omega arith
falls (Unwind form cleanup) = omega arith
falls (DynamicLet bindings body) = omega (arith, dynamics_fall bindings)
falls (Dynamic name) = omega arith
falls (SetDynamic name value) = omega arith
falls (DefDynamic name value) = omega arith
falls (WithHandler handler body) = omega arith
falls (Signal condition continuable) = omega arith
falls (Continue condition value) = omega arith
falls NextMethod = omega arith
falls HasNext = omega arith
falls (Sited site inner) = omega arith
