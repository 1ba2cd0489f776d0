-- The forms right inside a form are smaller than it: a recursion over forms ends.
use Rattle.std.specs.Prelude.{◌≡◌, ℕ, ◌+◌, ◌*◌, ◌<◌, ◌≤◌, Bool, List, [], ◌∷◌}
use Rattle.std.proofs.Common.{ap, arith}
use Rattle.lang_meaning.specs.Form.{Form, literal, local, set_local, global, set_global, def_global, clauses, sequence, let_form, lambda, call, call_value, apply, prim, while_form, block, return_from, tagbody, go, catch_form, throw, unwind, dynamic_let, dynamic, set_dynamic, def_dynamic, with_handler, signal_form, continue_form, next_method, has_next, sited}
use Rattle.lang_meaning.specs.Form.{Forms, no_form, form_and, ClauseForms, no_clause, clause_and, no_body, with_body}
use Rattle.lang_meaning.specs.Form.{BindingForms, no_binding, binding_and, DynamicForms, no_dynamic, dynamic_and}
use Rattle.lang_meaning.specs.Form.{form_size, forms_size, clauses_size, bindings_size, dynamics_size}
use Rattle.lang_meaning.specs.Subforms.{forms_list, clause_list, value_list, dynamic_value_list, outer, inner}

-- the sizes of forms together
abbrev pub sizes : List Form → ℕ
sizes [] = 0
sizes (f ∷ fs) = form_size f + sizes fs

-- what is asked of all forms right inside one is left to see of these
pub record IsLeft (asked : List Form → Bool) (all left : List Form) : Type 0 where
  pub smaller : sizes left ≤ sizes all
  pub same : asked left ≡ asked all

-- the measures by which a walk ends: of what it finds of a form, of the inner forms of one, and of forms right inside one
abbrev pub form_measure : Form → ℕ
form_measure f = 3 * form_size f + 1

abbrev pub inner_measure : Form → ℕ
inner_measure f = 3 * form_size f

abbrev pub forms_measure : List Form → ℕ
forms_measure fs = 3 * sizes fs + 2

forms_larger : (fs : Forms) → sizes (forms_list fs) < forms_size fs
forms_larger no_form = omega arith
forms_larger (form_and f fs) = omega (arith, forms_larger fs)

clauses_larger : (cs : ClauseForms) → sizes (clause_list cs) < clauses_size cs
clauses_larger no_clause = omega arith
clauses_larger (clause_and test no_body cs) = omega (arith, clauses_larger cs)
clauses_larger (clause_and test (with_body f) cs) = omega (arith, clauses_larger cs)

values_larger : (bs : BindingForms) → sizes (value_list bs) < bindings_size bs
values_larger no_binding = omega arith
values_larger (binding_and v f bs) = omega (arith, values_larger bs)

dynamics_larger : (ds : DynamicForms) → sizes (dynamic_value_list ds) < dynamics_size ds
dynamics_larger no_dynamic = omega arith
dynamics_larger (dynamic_and n f ds) = omega (arith, dynamics_larger ds)

insides_smaller : (f : Form) → sizes (outer f) + sizes (inner f) < form_size f
insides_smaller (clauses cs) = omega (arith, clauses_larger cs)
insides_smaller (sequence fs) = omega (arith, forms_larger fs)
insides_smaller (let_form bs body) = omega (arith, values_larger bs)
insides_smaller (call n fs) = omega (arith, forms_larger fs)
insides_smaller (call_value fs) = omega (arith, forms_larger fs)
insides_smaller (prim which fs) = omega (arith, forms_larger fs)
insides_smaller (tagbody x segments) = omega (arith, forms_larger segments)
insides_smaller (dynamic_let ds body) = omega (arith, dynamics_larger ds)
insides_smaller (apply function list) = omega arith
insides_smaller (while_form test body) = omega arith
insides_smaller (catch_form tag body) = omega arith
insides_smaller (throw tag f) = omega arith
insides_smaller (unwind f cleanup) = omega arith
insides_smaller (with_handler handler body) = omega arith
insides_smaller (signal_form condition mark) = omega arith
insides_smaller (continue_form condition f) = omega arith
insides_smaller (set_local v f) = omega arith
insides_smaller (set_global n f) = omega arith
insides_smaller (def_global n f) = omega arith
insides_smaller (lambda required rest body parts) = omega arith
insides_smaller (block x body) = omega arith
insides_smaller (return_from x f) = omega arith
insides_smaller (set_dynamic n f) = omega arith
insides_smaller (def_dynamic n f) = omega arith
insides_smaller (sited site f) = omega arith
insides_smaller (literal i) = omega arith
insides_smaller (local v) = omega arith
insides_smaller (global n) = omega arith
insides_smaller (go x segment) = omega arith
insides_smaller (dynamic n) = omega arith
insides_smaller next_method = omega arith
insides_smaller has_next = omega arith

pub outer_is_smaller : (f : Form) (fs : List Form) → fs ≡ outer f → sizes fs < form_size f
outer_is_smaller f fs e = omega (arith, ap sizes e, insides_smaller f)

pub inner_is_smaller : (f : Form) (fs : List Form) → fs ≡ inner f → sizes fs < form_size f
inner_is_smaller f fs e = omega (arith, ap sizes e, insides_smaller f)
