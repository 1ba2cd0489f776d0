-- The words of the names that forms use, by the forms that use them, and what forms pay by their nodes.
use Rattle.std.proofs.Common.{◌≡◌, ℕ, ◌+◌, ◌*◌, ◌≤◌, Bool, true, false, List, [], ◌∷◌, ◌++◌, Option, Some, None, is_some, slice_get, arith}
use Rattle.std.specs.Prelude.{if◌then◌else◌}
use Rattle.lang_meaning.specs.declared.program.LiteralRow.{LiteralRow}
use Rattle.lang_meaning.specs.declared.program.LiteralRow.TheVariants as row
use Rattle.lang_meaning.specs.Literals.{function_row}
use Rattle.lang_meaning.specs.Lookup.{text}
use Rattle.flat_language.specs.declared.program.FlatProgram.{FlatProgram}
use Rattle.flat_language.specs.FlatFits.{Fits}
use Rattle.flat_language.specs.FlatForm.{FlatForm, literal, local, set_local, global, set_global, def_global, clauses, sequence, let_form, make_function, call, call_value, apply, prim, while_form, block, return_from, tagbody, go, catch_form, throw, unwind, dynamic_let, dynamic, set_dynamic, def_dynamic, with_handler, signal_form, continue_form, next_method, has_next, sited}
use Rattle.flat_language.specs.FlatForm.{FlatForms, no_form, form_and, FlatClauses, no_clause, clause_and, no_body, with_body}
use Rattle.flat_language.specs.FlatForm.{FlatBindings, no_binding, binding_and, FlatDynamics, no_dynamic, dynamic_and}
use Rattle.flat_language.specs.FlatNodes.{own_nodes, count_dynamics}
use Rattle.flat_boxes.specs.Totals.{total, total_of_forms, total_of_clauses, total_of_values, total_of_dynamics}
use Rattle.mid_start.specs.Rows.{unit_words}
use Rattle.back_code_sizes.specs.Sizes.{own_words, words_of_node}
use Rattle.back_words.specs.Uses.{Use, as_symbol, of_function, of_literal, uses, uses_of_forms, uses_of_clauses, uses_of_values, uses_of_dynamics}
use Rattle.back_image_sizes.specs.Sizes.{uses_words}
use Rattle.back_image_sizes.specs.Laws.{LawOfUseSizes}
use Rattle.back_image_sizes.proofs.Nodes.{nodes_total, total_paid}

-- the words of the names that a form itself uses
abbrev own_uses : FlatForm → ℕ
own_uses (literal i) = unit_words
own_uses (global n) = 1 + unit_words
own_uses (set_global n f) = 1 + unit_words
own_uses (def_global n f) = 1 + unit_words
own_uses (call n fs) = unit_words
own_uses (dynamic_let ds body) = count_dynamics ds
own_uses (dynamic n) = 1 + unit_words
own_uses (set_dynamic n f) = 1 + unit_words
own_uses (def_dynamic n f) = 1 + unit_words
own_uses f = 0

pub both_uses : (us ws : List Use) → uses_words (us ++ ws) ≡ uses_words us + uses_words ws
both_uses [] ws = omega arith
both_uses (u ∷ us) ws = let h = both_uses us ws in omega (arith, h)

module _ (names : List (List ℕ)) (program : FlatProgram) where
  one_if : (b : Bool) (n : ℕ) → uses_words (if b then [] else as_symbol n ∷ []) ≤ unit_words
  one_if true n = omega arith
  one_if false n = omega arith

  function_use : (n : ℕ) → uses_words (of_function names program n) ≤ unit_words
  function_use n = one_if (is_some (function_row names program.functions (text names n))) n

  literal_use : (l : Option LiteralRow) → uses_words (of_literal names program l) ≤ unit_words
  literal_use None = omega arith
  literal_use (Some (row.Datum d)) = omega arith
  literal_use (Some (row.Class c)) = omega arith
  literal_use (Some (row.Function name)) = function_use name.0

  mutual
    pub uses_within : (f : FlatForm) → uses_words (uses names program f) ≤ total own_uses f
    uses_within (literal i) = literal_use (slice_get program.literals i)
    uses_within (local p) = omega arith
    uses_within (set_local p f) = let h = uses_within f in omega (arith, h)
    uses_within (global n) = omega arith
    uses_within (set_global n f) = let h = uses_within f in omega (arith, h)
    uses_within (def_global n f) = let h = uses_within f in omega (arith, h)
    uses_within (clauses cs) = let h = clauses_within cs in omega (arith, h)
    uses_within (sequence fs) = let h = forms_within fs in omega (arith, h)
    uses_within (let_form bs body) = omega (arith, values_within bs, uses_within body, both_uses (uses_of_values names program bs) (uses names program body))
    uses_within (make_function p parts) = omega arith
    uses_within (call n fs) = omega (arith, function_use n, forms_within fs, both_uses (of_function names program n) (uses_of_forms names program fs))
    uses_within (call_value fs) = let h = forms_within fs in omega (arith, h)
    uses_within (apply f list) = omega (arith, uses_within f, uses_within list, both_uses (uses names program f) (uses names program list))
    uses_within (prim which fs) = let h = forms_within fs in omega (arith, h)
    uses_within (while_form test body) = omega (arith, uses_within test, uses_within body, both_uses (uses names program test) (uses names program body))
    uses_within (block body) = let h = uses_within body in omega (arith, h)
    uses_within (return_from x f) = let h = uses_within f in omega (arith, h)
    uses_within (tagbody segments) = let h = forms_within segments in omega (arith, h)
    uses_within (go x segment) = omega arith
    uses_within (catch_form tag body) = omega (arith, uses_within tag, uses_within body, both_uses (uses names program tag) (uses names program body))
    uses_within (throw tag f) = omega (arith, uses_within tag, uses_within f, both_uses (uses names program tag) (uses names program f))
    uses_within (unwind f cleanup) = omega (arith, uses_within f, uses_within cleanup, both_uses (uses names program f) (uses names program cleanup))
    uses_within (dynamic_let ds body) = omega (arith, dynamics_within ds, uses_within body, both_uses (uses_of_dynamics names program ds) (uses names program body))
    uses_within (dynamic n) = omega arith
    uses_within (set_dynamic n f) = let h = uses_within f in omega (arith, h)
    uses_within (def_dynamic n f) = let h = uses_within f in omega (arith, h)
    uses_within (with_handler handler body) = omega (arith, uses_within handler, uses_within body, both_uses (uses names program handler) (uses names program body))
    uses_within (signal_form condition mark) = omega (arith, uses_within condition, uses_within mark, both_uses (uses names program condition) (uses names program mark))
    uses_within (continue_form condition f) = omega (arith, uses_within condition, uses_within f, both_uses (uses names program condition) (uses names program f))
    uses_within (next_method m) = omega arith
    uses_within (has_next m) = omega arith
    uses_within (sited site f) = let h = uses_within f in omega (arith, h)

    forms_within : (fs : FlatForms) → uses_words (uses_of_forms names program fs) ≤ total_of_forms own_uses fs
    forms_within no_form = omega arith
    forms_within (form_and f fs) = omega (arith, uses_within f, forms_within fs, both_uses (uses names program f) (uses_of_forms names program fs))

    clauses_within : (cs : FlatClauses) → uses_words (uses_of_clauses names program cs) ≤ total_of_clauses own_uses cs
    clauses_within no_clause = omega arith
    clauses_within (clause_and test no_body cs) =
        omega (arith, uses_within test, clauses_within cs, both_uses (uses names program test) (uses_of_clauses names program cs))
    clauses_within (clause_and test (with_body f) cs) =
        omega (
          arith,
          uses_within test,
          uses_within f,
          clauses_within cs,
          both_uses (uses names program test) (uses names program f ++ uses_of_clauses names program cs),
          both_uses (uses names program f) (uses_of_clauses names program cs),
        )

    values_within : (bs : FlatBindings) → uses_words (uses_of_values names program bs) ≤ total_of_values own_uses bs
    values_within no_binding = omega arith
    values_within (binding_and home f bs) = omega (arith, uses_within f, values_within bs, both_uses (uses names program f) (uses_of_values names program bs))

    -- each dynamic variable that is bound has a word
    dynamics_within : (ds : FlatDynamics) → uses_words (uses_of_dynamics names program ds) ≤ count_dynamics ds + total_of_dynamics own_uses ds
    dynamics_within no_dynamic = omega arith
    dynamics_within (dynamic_and n f ds) = omega (arith, uses_within f, dynamics_within ds, both_uses (uses names program f) (uses_of_dynamics names program ds))

-- each form pays for its code and its names
both_paid : (program : FlatProgram) (f : FlatForm) → Fits program f → own_words f + own_uses f ≤ words_of_node * own_nodes f
both_paid program (literal i) h = omega arith
both_paid program (local p) h = omega arith
both_paid program (set_local p f) h = omega arith
both_paid program (global n) h = omega arith
both_paid program (set_global n f) h = omega arith
both_paid program (def_global n f) h = omega arith
both_paid program (clauses cs) h = omega arith
both_paid program (sequence fs) h = omega arith
both_paid program (let_form bs body) h = omega arith
both_paid program (make_function p parts) h = omega arith
both_paid program (call n fs) h = omega arith
both_paid program (call_value fs) h = omega arith
both_paid program (apply f list) h = omega arith
both_paid program (prim which fs) h = omega arith
both_paid program (while_form test body) h = omega arith
both_paid program (block body) h = omega arith
both_paid program (return_from x f) h = omega arith
both_paid program (tagbody segments) h = omega (arith, h.0)
both_paid program (go x segment) h = omega arith
both_paid program (catch_form tag body) h = omega arith
both_paid program (throw tag f) h = omega arith
both_paid program (unwind f cleanup) h = omega arith
both_paid program (dynamic_let ds body) h = omega arith
both_paid program (dynamic n) h = omega arith
both_paid program (set_dynamic n f) h = omega arith
both_paid program (def_dynamic n f) h = omega arith
both_paid program (with_handler handler body) h = omega arith
both_paid program (signal_form condition mark) h = omega arith
both_paid program (continue_form condition f) h = omega arith
both_paid program (next_method m) h = omega arith
both_paid program (has_next m) h = omega arith
both_paid program (sited site f) h = omega arith

-- **the law of uses**
pub law_of_use_sizes : LawOfUseSizes
law_of_use_sizes names program f h =
    omega (arith, total_paid program own_words own_uses (both_paid program) f h, nodes_total f, uses_within names program f)
