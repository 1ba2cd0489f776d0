-- How often forms name variables, list by list.
use Rattle.std.specs.Prelude.{ℕ, ◌+◌, Option, Some, None}
use Rattle.flat_language.specs.declared.flat_core.FlatClause.{FlatClause}
use Rattle.flat_language.specs.declared.flat_core.FlatBinding.{FlatBinding}
use Rattle.flat_language.specs.declared.flat_core.FlatDynBinding.{FlatDynBinding}
use Rattle.flat_language.specs.FlatForm.{FlatForm, set_local, set_global, def_global, clauses, sequence, let_form, call, call_value, apply, prim, while_form, block, return_from, tagbody, catch_form, throw, unwind, dynamic_let, set_dynamic, def_dynamic, with_handler, signal_form, continue_form, sited}
use Rattle.flat_boxes.specs.Totals.{total_of_forms, total_of_clauses, total_of_values, total_of_dynamics}
use Rattle.back_lowering.specs.Mentions.{own_mentions, mentions}

-- the forms right inside a form
abbrev pub mentions_inside : FlatForm → ℕ
mentions_inside (set_local v f) = mentions f
mentions_inside (set_global n f) = mentions f
mentions_inside (def_global n f) = mentions f
mentions_inside (clauses cs) = total_of_clauses own_mentions cs
mentions_inside (sequence fs) = total_of_forms own_mentions fs
mentions_inside (let_form bs body) = total_of_values own_mentions bs + mentions body
mentions_inside (call n fs) = total_of_forms own_mentions fs
mentions_inside (call_value fs) = total_of_forms own_mentions fs
mentions_inside (apply f list) = mentions f + mentions list
mentions_inside (prim which fs) = total_of_forms own_mentions fs
mentions_inside (while_form test body) = mentions test + mentions body
mentions_inside (block body) = mentions body
mentions_inside (return_from x f) = mentions f
mentions_inside (tagbody segments) = total_of_forms own_mentions segments
mentions_inside (catch_form tag body) = mentions tag + mentions body
mentions_inside (throw tag f) = mentions tag + mentions f
mentions_inside (unwind f cleanup) = mentions f + mentions cleanup
mentions_inside (dynamic_let ds body) = total_of_dynamics own_mentions ds + mentions body
mentions_inside (set_dynamic n f) = mentions f
mentions_inside (def_dynamic n f) = mentions f
mentions_inside (with_handler handler body) = mentions handler + mentions body
mentions_inside (signal_form condition mark) = mentions condition + mentions mark
mentions_inside (continue_form condition f) = mentions condition + mentions f
mentions_inside (sited site f) = mentions f
mentions_inside f = 0

-- the body of a clause, if it has one; a clause; and the values of bindings
abbrev pub maybe_mentions : Option FlatForm → ℕ
maybe_mentions None = 0
maybe_mentions (Some f) = mentions f

abbrev pub clause_mentions : FlatClause → ℕ
clause_mentions c = mentions c.test + maybe_mentions c.body

abbrev pub value_mentions : FlatBinding → ℕ
value_mentions b = mentions b.value

abbrev pub dynamic_mentions : FlatDynBinding → ℕ
dynamic_mentions b = mentions b.value
