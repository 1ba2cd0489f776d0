-- The words of the stack that applications take, which are counted once for a program.
use Rattle.std.specs.Prelude.{◌≡◌, ℕ, ◌+◌, map, Option, Some, None}
use Rattle.std.specs.List.{sum}
use Rattle.lang_meaning.specs.Counts.{application_words}
use Rattle.flat_language.specs.declared.flat_core.FlatClause.{FlatClause}
use Rattle.flat_language.specs.declared.flat_core.FlatBinding.{FlatBinding}
use Rattle.flat_language.specs.declared.flat_core.FlatDynBinding.{FlatDynBinding}
use Rattle.flat_language.specs.declared.program.FlatProcedure.{FlatProcedure}
use Rattle.flat_language.specs.declared.program.FlatProgram.{FlatProgram}
use Rattle.flat_language.specs.FlatForm.{FlatForm, set_local, set_global, def_global, clauses, sequence, let_form, call, call_value, apply, prim, while_form, block, return_from, tagbody, catch_form, throw, unwind, dynamic_let, set_dynamic, def_dynamic, with_handler, signal_form, continue_form, sited}
use Rattle.flat_language.specs.FlatNodes.{nodes, nodes_of_forms, nodes_of_clauses, nodes_of_values, nodes_of_dynamics}
use Rattle.eval_state.specs.declared.sizes.Sizes.{Sizes}

-- the nodes of the forms right inside a form
abbrev pub nodes_inside : FlatForm → ℕ
nodes_inside (set_local v f) = nodes f
nodes_inside (set_global n f) = nodes f
nodes_inside (def_global n f) = nodes f
nodes_inside (clauses cs) = sum (nodes_of_clauses cs)
nodes_inside (sequence fs) = sum (nodes_of_forms fs)
nodes_inside (let_form bs body) = sum (nodes_of_values bs) + nodes body
nodes_inside (call n fs) = sum (nodes_of_forms fs)
nodes_inside (call_value fs) = sum (nodes_of_forms fs)
nodes_inside (apply f list) = nodes f + nodes list
nodes_inside (prim which fs) = sum (nodes_of_forms fs)
nodes_inside (while_form test body) = nodes test + nodes body
nodes_inside (block body) = nodes body
nodes_inside (return_from x f) = nodes f
nodes_inside (tagbody segments) = sum (nodes_of_forms segments)
nodes_inside (catch_form tag body) = nodes tag + nodes body
nodes_inside (throw tag f) = nodes tag + nodes f
nodes_inside (unwind f cleanup) = nodes f + nodes cleanup
nodes_inside (dynamic_let ds body) = sum (nodes_of_dynamics ds) + nodes body
nodes_inside (set_dynamic n f) = nodes f
nodes_inside (def_dynamic n f) = nodes f
nodes_inside (with_handler handler body) = nodes handler + nodes body
nodes_inside (signal_form condition mark) = nodes condition + nodes mark
nodes_inside (continue_form condition f) = nodes condition + nodes f
nodes_inside (sited site f) = nodes f
nodes_inside f = 0

-- the nodes of the body of a clause, if it has one; of a clause; and of the values of bindings
abbrev pub maybe_nodes : Option FlatForm → ℕ
maybe_nodes None = 0
maybe_nodes (Some f) = nodes f

abbrev pub clause_nodes : FlatClause → ℕ
clause_nodes c = nodes c.test + maybe_nodes c.body

abbrev pub value_nodes : FlatBinding → ℕ
value_nodes b = nodes b.value

abbrev pub dynamic_nodes : FlatDynBinding → ℕ
dynamic_nodes b = nodes b.value

-- the words of the stack of an application whose body that form is, and of a procedure
abbrev pub form_words : FlatForm → ℕ
form_words f = application_words (nodes f)

abbrev pub procedure_words : FlatProcedure → ℕ
procedure_words p = form_words p.body

-- those of a program
pub record AreSizes (program : FlatProgram) (s : Sizes) : Type 0 where
  pub procedures : s.procedures ≡ map procedure_words program.procedures
  pub lambdas : s.lambdas ≡ map procedure_words program.lambdas
