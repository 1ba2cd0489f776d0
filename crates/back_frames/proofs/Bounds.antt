-- Heights and words of forms are bounded by their nodes.
use Rattle.std.proofs.Common.{ℕ, ◌+◌, ◌*◌, ◌<◌, ◌≤◌, Bool, true, false, List, ◌++◌, Option, Some, None, arith, length}
use Rattle.std.specs.Prelude.{min, slice_get, is_some, if◌then◌else◌}
use Rattle.base.specs.AllOf.{AllOf}
use Rattle.lang_meaning.specs.declared.program.Callee.{Callee}
use Rattle.lang_meaning.specs.declared.program.Callee.TheVariants.{Procedure, Generic}
use Rattle.lang_meaning.specs.declared.program.FunctionRow.{FunctionRow}
use Rattle.lang_meaning.specs.declared.program.LiteralRow.{LiteralRow}
use Rattle.lang_meaning.specs.declared.program.LiteralRow.TheVariants as row
use Rattle.flat_language.specs.declared.program.FlatProgram.{FlatProgram}
use Rattle.flat_language.specs.FlatForm.{FlatForm, literal, local, set_local, global, set_global, def_global, clauses, sequence, let_form, make_function, call, call_value, apply, prim, while_form, block, return_from, tagbody, go, catch_form, throw, unwind, dynamic_let, dynamic, set_dynamic, def_dynamic, with_handler, signal_form, continue_form, next_method, has_next, sited}
use Rattle.flat_language.specs.FlatForm.{FlatForms, no_form, form_and, FlatClauses, no_clause, clause_and, FlatBody, no_body, with_body}
use Rattle.flat_language.specs.FlatForm.{FlatBindings, no_binding, binding_and, FlatDynamics, no_dynamic, dynamic_and}
use Rattle.flat_language.specs.FlatNodes.{own_nodes, count_forms}
use Rattle.back_lowering.specs.Mentions.{own_mentions}
use Rattle.back_relation.specs.Room.{row_of, words_for_literal, words_for_callee, words_for_call, words_for, words_for_forms, words_for_clauses, words_for_body, words_for_values, words_for_dynamics}
use Rattle.flat_boxes.specs.Totals.{total, total_of_forms, total_of_clauses, total_of_body, total_of_values, total_of_dynamics}
use Rattle.back_frames.specs.Heights.{height, height_of_forms, height_of_arguments, height_of_clauses, height_of_body, height_of_values, height_of_dynamics}
use Rattle.back_frames.proofs.FormsIn.{forms_in, in_forms, in_clauses, in_body, in_values, in_dynamics, in_front, behind}

-- the registers of its surroundings that a form names: that of a variable, or the two of an exit; for each captured part two, one of which is
-- that of the variable's box
abbrev pub own_names : FlatForm → ℕ
own_names (local p) = 1
own_names (set_local p f) = 1
own_names (make_function p parts) = 2 * length parts
own_names (return_from x f) = 2
own_names (go x segment) = 2
own_names f = 0

-- the same, with those variables that a form names counted once more: the words of parameters in an entry
abbrev pub own_marks : FlatForm → ℕ
own_marks f = own_names f + own_mentions f

-- the forms for which more words than others are needed
abbrev pub IsPaid : (spare : ℕ) → FlatForm → Type 0
IsPaid spare (call_value no_form) = 58 ≤ spare
IsPaid spare (next_method m) = 54 ≤ spare
IsPaid spare f = Unit {0}

-- so many nodes are enough for so many names, a height, and words
pub record Bounded (spare nodes names height words : ℕ) : Type 0 where
  pub few : names + min 1 nodes ≤ 3 * nodes
  pub low : names + height ≤ 6 * nodes
  pub paid : names + words < 16 * nodes + spare
  pub both : names + height + words ≤ 16 * nodes + spare

pub some_nodes : (f : FlatForm) → 1 ≤ total own_nodes f
some_nodes (literal i) = omega arith
some_nodes (local p) = omega arith
some_nodes (global n) = omega arith
some_nodes (make_function p parts) = omega arith
some_nodes (go x segment) = omega arith
some_nodes (dynamic n) = omega arith
some_nodes (next_method m) = omega arith
some_nodes (has_next m) = omega arith
some_nodes (set_local p f) = omega arith
some_nodes (set_global n f) = omega arith
some_nodes (def_global n f) = omega arith
some_nodes (return_from x f) = omega arith
some_nodes (set_dynamic n f) = omega arith
some_nodes (def_dynamic n f) = omega arith
some_nodes (sited site f) = let inner = some_nodes f in omega arith
some_nodes (block body) = omega arith
some_nodes (clauses cs) = omega arith
some_nodes (sequence fs) = omega arith
some_nodes (call n fs) = omega arith
some_nodes (call_value fs) = omega arith
some_nodes (prim which fs) = omega arith
some_nodes (tagbody segments) = omega arith
some_nodes (let_form bs body) = omega arith
some_nodes (dynamic_let ds body) = omega arith
some_nodes (apply f list) = omega arith
some_nodes (while_form test body) = omega arith
some_nodes (catch_form tag body) = omega arith
some_nodes (throw tag f) = omega arith
some_nodes (unwind f cleanup) = omega arith
some_nodes (with_handler handler body) = omega arith
some_nodes (signal_form condition mark) = omega arith
some_nodes (continue_form condition f) = omega arith

module _ (names : List (List ℕ)) (program : FlatProgram) where
  literal_words : (o : Option LiteralRow) → words_for_literal names program o ≤ 52
  literal_words (Some (row.Function name)) = by (is_some (row_of names program name.0))
    where
      by : (b : Bool) → (if b then 0 else 52) ≤ 52
      by true = omega arith
      by false = omega arith
  literal_words (Some (row.Datum d)) = omega arith
  literal_words (Some (row.Class c)) = omega arith
  literal_words None = omega arith

  call_words : (o : Option FunctionRow) (count : ℕ) → words_for_call names program o count ≤ count + 69
  call_words None count = omega arith
  call_words (Some f) count = by f.callee
    where
      by : (c : Callee) → words_for_callee names program c count ≤ count + 69
      by (Procedure p) = omega arith
      by (Generic g) = omega arith

  module _ (spare : ℕ) (enough : 42 ≤ spare) where
    abbrev pub FormBounded : FlatForm → Type 0
    FormBounded f = Bounded spare (total own_nodes f) (total own_marks f) (height f) (words_for names program f)

    mutual
      pub bounded : (f : FlatForm) → AllOf (IsPaid spare) (forms_in f) → FormBounded f
      bounded (literal i) h =
          let words = literal_words (slice_get program.literals i) in
          record { few = omega arith; low = omega arith; paid = omega arith; both = omega arith }
      bounded (local p) h =
          record { few = omega arith; low = omega arith; paid = omega arith; both = omega arith }
      bounded (global n) h =
          record { few = omega arith; low = omega arith; paid = omega arith; both = omega arith }
      bounded (make_function p parts) h =
          record { few = omega arith; low = omega arith; paid = omega arith; both = omega arith }
      bounded (go x segment) h =
          record { few = omega arith; low = omega arith; paid = omega arith; both = omega arith }
      bounded (dynamic n) h =
          record { few = omega arith; low = omega arith; paid = omega arith; both = omega arith }
      bounded (has_next m) h =
          record { few = omega arith; low = omega arith; paid = omega arith; both = omega arith }
      bounded (next_method m) h =
          let most = h.0 in
          record { few = omega arith; low = omega arith; paid = omega arith; both = omega arith }
      bounded (set_local p f) h =
          let inner = bounded f h.1 in
          let some = some_nodes f in
          record { few = omega arith; low = omega arith; paid = omega arith; both = omega arith }
      bounded (set_global n f) h =
          let inner = bounded f h.1 in
          let some = some_nodes f in
          record { few = omega arith; low = omega arith; paid = omega arith; both = omega arith }
      bounded (def_global n f) h =
          let inner = bounded f h.1 in
          let some = some_nodes f in
          record { few = omega arith; low = omega arith; paid = omega arith; both = omega arith }
      bounded (return_from x f) h =
          let inner = bounded f h.1 in
          let some = some_nodes f in
          record { few = omega arith; low = omega arith; paid = omega arith; both = omega arith }
      bounded (set_dynamic n f) h =
          let inner = bounded f h.1 in
          let some = some_nodes f in
          record { few = omega arith; low = omega arith; paid = omega arith; both = omega arith }
      bounded (def_dynamic n f) h =
          let inner = bounded f h.1 in
          let some = some_nodes f in
          record { few = omega arith; low = omega arith; paid = omega arith; both = omega arith }
      bounded (sited site f) h = let inner = bounded f h.1 in record { few = omega arith; low = omega arith; paid = omega arith; both = omega arith }
      bounded (block body) h =
          let inner = bounded body h.1 in
          let some = some_nodes body in
          record { few = omega arith; low = omega arith; paid = omega arith; both = omega arith }
      bounded (clauses cs) h =
          let inner = clauses_bounded cs h.1 in
          record { few = omega arith; low = omega arith; paid = omega arith; both = omega arith }
      bounded (sequence fs) h =
          let inner = forms_bounded fs h.1 in
          record { few = omega arith; low = omega arith; paid = omega arith; both = omega arith }
      bounded (call n fs) h =
          let inner = arguments_bounded fs h.1 in
          let words = call_words (row_of names program n) (count_forms fs) in
          record { few = omega arith; low = omega arith; paid = omega arith; both = omega arith }
      bounded (call_value no_form) h =
          let most = h.0 in
          record { few = omega arith; low = omega arith; paid = omega arith; both = omega arith }
      bounded (call_value (form_and f fs)) h =
          let inner = arguments_bounded (form_and f fs) h.1 in
          let some = some_nodes f in
          record { few = omega arith; low = omega arith; paid = omega arith; both = omega arith }
      bounded (prim which fs) h =
          let inner = arguments_bounded fs h.1 in
          record { few = omega arith; low = omega arith; paid = omega arith; both = omega arith }
      bounded (tagbody segments) h =
          let inner = forms_bounded segments h.1 in
          record { few = omega arith; low = omega arith; paid = omega arith; both = omega arith }
      bounded (let_form bs body) h =
          let outer = values_bounded bs (in_front (IsPaid spare) (in_values bs) (forms_in body) h.1) in
          let inner = bounded body (behind (IsPaid spare) (in_values bs) (forms_in body) h.1) in
          let some = some_nodes body in
          record { few = omega arith; low = omega arith; paid = omega arith; both = omega arith }
      bounded (dynamic_let ds body) h =
          let outer = dynamics_bounded ds (in_front (IsPaid spare) (in_dynamics ds) (forms_in body) h.1) in
          let inner = bounded body (behind (IsPaid spare) (in_dynamics ds) (forms_in body) h.1) in
          let some = some_nodes body in
          record { few = omega arith; low = omega arith; paid = omega arith; both = omega arith }
      bounded (apply f list) h =
          let first = bounded f (in_front (IsPaid spare) (forms_in f) (forms_in list) h.1) in
          let second = bounded list (behind (IsPaid spare) (forms_in f) (forms_in list) h.1) in
          let some = some_nodes f in
          let more = some_nodes list in
          record { few = omega arith; low = omega arith; paid = omega arith; both = omega arith }
      bounded (while_form test body) h =
          let first = bounded test (in_front (IsPaid spare) (forms_in test) (forms_in body) h.1) in
          let second = bounded body (behind (IsPaid spare) (forms_in test) (forms_in body) h.1) in
          let some = some_nodes test in
          let more = some_nodes body in
          record { few = omega arith; low = omega arith; paid = omega arith; both = omega arith }
      bounded (catch_form tag body) h =
          let first = bounded tag (in_front (IsPaid spare) (forms_in tag) (forms_in body) h.1) in
          let second = bounded body (behind (IsPaid spare) (forms_in tag) (forms_in body) h.1) in
          let some = some_nodes tag in
          let more = some_nodes body in
          record { few = omega arith; low = omega arith; paid = omega arith; both = omega arith }
      bounded (throw tag f) h =
          let first = bounded tag (in_front (IsPaid spare) (forms_in tag) (forms_in f) h.1) in
          let second = bounded f (behind (IsPaid spare) (forms_in tag) (forms_in f) h.1) in
          let some = some_nodes tag in
          let more = some_nodes f in
          record { few = omega arith; low = omega arith; paid = omega arith; both = omega arith }
      bounded (unwind f cleanup) h =
          let first = bounded f (in_front (IsPaid spare) (forms_in f) (forms_in cleanup) h.1) in
          let second = bounded cleanup (behind (IsPaid spare) (forms_in f) (forms_in cleanup) h.1) in
          let some = some_nodes f in
          let more = some_nodes cleanup in
          record { few = omega arith; low = omega arith; paid = omega arith; both = omega arith }
      bounded (with_handler handler body) h =
          let first = bounded handler (in_front (IsPaid spare) (forms_in handler) (forms_in body) h.1) in
          let second = bounded body (behind (IsPaid spare) (forms_in handler) (forms_in body) h.1) in
          let some = some_nodes handler in
          let more = some_nodes body in
          record { few = omega arith; low = omega arith; paid = omega arith; both = omega arith }
      bounded (signal_form condition mark) h =
          let first = bounded condition (in_front (IsPaid spare) (forms_in condition) (forms_in mark) h.1) in
          let second = bounded mark (behind (IsPaid spare) (forms_in condition) (forms_in mark) h.1) in
          let some = some_nodes condition in
          let more = some_nodes mark in
          record { few = omega arith; low = omega arith; paid = omega arith; both = omega arith }
      bounded (continue_form condition f) h =
          let first = bounded condition (in_front (IsPaid spare) (forms_in condition) (forms_in f) h.1) in
          let second = bounded f (behind (IsPaid spare) (forms_in condition) (forms_in f) h.1) in
          let some = some_nodes condition in
          let more = some_nodes f in
          record { few = omega arith; low = omega arith; paid = omega arith; both = omega arith }

      pub forms_bounded : (fs : FlatForms) → AllOf (IsPaid spare) (in_forms fs) → Bounded spare (total_of_forms own_nodes fs) (total_of_forms own_marks fs) (height_of_forms fs) (words_for_forms names program fs)
      forms_bounded no_form h = record { few = omega arith; low = omega arith; paid = omega arith; both = omega arith }
      forms_bounded (form_and f fs) h =
          let first = bounded f (in_front (IsPaid spare) (forms_in f) (in_forms fs) h) in
          let rest = forms_bounded fs (behind (IsPaid spare) (forms_in f) (in_forms fs) h) in
          let some = some_nodes f in
          record { few = omega arith; low = omega arith; paid = omega arith; both = omega arith }

      pub arguments_bounded : (fs : FlatForms) → AllOf (IsPaid spare) (in_forms fs) → Bounded spare (total_of_forms own_nodes fs) (total_of_forms own_marks fs) (height_of_arguments fs) (words_for_forms names program fs)
      arguments_bounded no_form h = record { few = omega arith; low = omega arith; paid = omega arith; both = omega arith }
      arguments_bounded (form_and f fs) h =
          let first = bounded f (in_front (IsPaid spare) (forms_in f) (in_forms fs) h) in
          let rest = arguments_bounded fs (behind (IsPaid spare) (forms_in f) (in_forms fs) h) in
          let some = some_nodes f in
          record { few = omega arith; low = omega arith; paid = omega arith; both = omega arith }

      pub values_bounded : (bs : FlatBindings) → AllOf (IsPaid spare) (in_values bs) → Bounded spare (total_of_values own_nodes bs) (total_of_values own_marks bs) (height_of_values bs) (words_for_values names program bs)
      values_bounded no_binding h = record { few = omega arith; low = omega arith; paid = omega arith; both = omega arith }
      values_bounded (binding_and v f bs) h =
          let first = bounded f (in_front (IsPaid spare) (forms_in f) (in_values bs) h) in
          let rest = values_bounded bs (behind (IsPaid spare) (forms_in f) (in_values bs) h) in
          let some = some_nodes f in
          record { few = omega arith; low = omega arith; paid = omega arith; both = omega arith }

      pub dynamics_bounded : (ds : FlatDynamics) → AllOf (IsPaid spare) (in_dynamics ds) → Bounded spare (total_of_dynamics own_nodes ds) (total_of_dynamics own_marks ds) (height_of_dynamics ds) (words_for_dynamics names program ds)
      dynamics_bounded no_dynamic h = record { few = omega arith; low = omega arith; paid = omega arith; both = omega arith }
      dynamics_bounded (dynamic_and n f ds) h =
          let first = bounded f (in_front (IsPaid spare) (forms_in f) (in_dynamics ds) h) in
          let rest = dynamics_bounded ds (behind (IsPaid spare) (forms_in f) (in_dynamics ds) h) in
          let some = some_nodes f in
          record { few = omega arith; low = omega arith; paid = omega arith; both = omega arith }

      pub clauses_bounded : (cs : FlatClauses) → AllOf (IsPaid spare) (in_clauses cs)
          → Bounded spare (1 + total_of_clauses own_nodes cs) (total_of_clauses own_marks cs) (height_of_clauses cs) (words_for_clauses names program cs)
      clauses_bounded no_clause h = record { few = omega arith; low = omega arith; paid = omega arith; both = omega arith }
      clauses_bounded (clause_and test body cs) h =
          let first = bounded test (in_front (IsPaid spare) (forms_in test) (in_body body ++ in_clauses cs) h) in
          let others : AllOf (IsPaid spare) (in_body body ++ in_clauses cs) = behind (IsPaid spare) (forms_in test) (in_body body ++ in_clauses cs) h in
          let second = body_bounded body (in_front (IsPaid spare) (in_body body) (in_clauses cs) others) in
          let rest = clauses_bounded cs (behind (IsPaid spare) (in_body body) (in_clauses cs) others) in
          record { few = omega arith; low = omega arith; paid = omega arith; both = omega arith }

      pub body_bounded : (b : FlatBody) → AllOf (IsPaid spare) (in_body b)
          → Bounded spare (total_of_body own_nodes b) (total_of_body own_marks b) (height_of_body b) (words_for_body names program b)
      body_bounded no_body h = record { few = omega arith; low = omega arith; paid = omega arith; both = omega arith }
      body_bounded (with_body f) h = bounded f h
