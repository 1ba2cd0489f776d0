-- **The registers that the code of a form names**: those of its surroundings that its forms name by places, and those from its first one up to its
-- height.
use Rattle.std.proofs.Common.{◌≡◌, ℕ, ◌+◌, ◌≤◌, Bool, true, false, List, [], ◌++◌, length, Option, Some, None, refl, arith}
use Rattle.std.specs.Prelude.{slice_get}
use Rattle.base.specs.AllOf.{AllOf, all_both}
use Rattle.flat_language.specs.declared.program.FlatProgram.{FlatProgram}
use Rattle.flat_language.specs.FlatForm.{FlatForm, literal, local, set_local, global, set_global, def_global, clauses, sequence, let_form, make_function, call, call_value, apply, prim, while_form, block, return_from, tagbody, go, catch_form, throw, unwind, dynamic_let, dynamic, set_dynamic, def_dynamic, with_handler, signal_form, continue_form, next_method, has_next, sited}
use Rattle.flat_language.specs.FlatForm.{FlatForms, no_form, form_and, FlatClauses, no_clause, clause_and, no_body, with_body}
use Rattle.flat_language.specs.FlatForm.{FlatBindings, no_binding, binding_and, FlatDynamics, no_dynamic, dynamic_and}
use Rattle.flat_language.specs.FlatMeaning.{binding_homes}
use Rattle.flat_language.specs.FlatNodes.{count_forms, count_bindings, count_dynamics}
use Rattle.lang_meaning.specs.Literals.{function_row}
use Rattle.lang_meaning.specs.Lookup.{text}
use Rattle.mid_code.specs.declared.operation.Test.{Test}
use Rattle.mid_code.specs.MidCode.{choose, code_of}
use Rattle.back_lowering.specs.Registers.{of_code, of_codes}
use Rattle.back_lowering.specs.Scope.{with_slots, with_exit, inside_cleanup, in_cleanup, at_site, registers_from}
use Rattle.back_lowering.specs.declared.scope.Scope.{Scope}
use Rattle.back_lowering.specs.declared.placement.Placement.{Placement}
use Rattle.back_lowering.specs.Routines.{throw_routine, continue_routine, signal_routine, apply_routine}
use Rattle.back_lowering.specs.Steps.{Steps}
use Rattle.back_lowering.specs.Codes.{Lowered, by_value, known_truth, lower, lower_sequence, lower_behind, lower_arguments, lower_segments, lower_clauses, lower_clause, lower_bindings, lower_dynamics}
use Rattle.back_frames.specs.Heights.{height, height_of_forms, height_of_arguments, height_of_clauses, height_of_values, height_of_dynamics}
use Rattle.back_frames.proofs.FormsIn.{forms_in, in_forms, in_clauses, in_values, in_dynamics, in_front, behind}
use Rattle.back_frames.proofs.Naming.{StepNames, Names, CodesName, Range, narrowed, those, none, ◌▸◌, ◌⊹◌, moves, constants, repeats}
use Rattle.back_frames.proofs.Surroundings.{Around, PlacesAllowed, AllPlaces, Keeps, all_kept, slots_keep, exit_keeps, inside_keeps, cleanup_keeps}
use Rattle.back_frames.proofs.LeafNames.{variable_names, variable_from_names, boxes_names, boxed_in_range}
use Rattle.back_frames.proofs.RecordNames.{block_names, catch_names, tagbody_names, unwind_names}
use Rattle.back_frames.proofs.CallNames.{call_names, call_value_names}
use Rattle.back_frames.proofs.PrimitiveNames.{JudgedNames, applied_names, judged_names}
use Rattle.back_frames.proofs.FormParts.{literal_names, global_names, set_global_names, def_global_names, dynamic_names, set_dynamic_names, def_dynamic_names, function_names, next_names, has_next_names, exit_code_names, dynamic_let_names, two_names, handler_names}

pub record LoweredNames (P : ℕ → Type 0) (l : Lowered) : Type 0 where
  pub value : Names P l.value
  pub judged : JudgedNames P l.judged

chooses_test : {P : ℕ → Type 0} {t : Test} {first second : Steps} → P t.first → P t.second → Names P first → Names P second
    → StepNames P (choose t (code_of first) (code_of second))
chooses_test {P} {t} {first} {second} x y one other =
    record { all = (x, (y, all_both P (of_code (code_of first)) (of_code (code_of second)) one.all other.all)) }

by_value_names : {P : ℕ → Type 0} (d : ℕ) (steps : Steps) → P d → P (d + 1) → Names P steps → LoweredNames P (by_value d steps)
by_value_names d steps a b inner = record { value = inner; judged = record { ready = inner ⊹ constants b ▸ none; first = a; second = b } }

some_height : (cs : FlatClauses) → 2 ≤ height_of_clauses cs
some_height no_clause = omega arith
some_height (clause_and test body cs) = let inner = some_height cs in omega arith

homes_counted : (bs : FlatBindings) → length (binding_homes bs) ≡ count_bindings bs
homes_counted no_binding = refl
homes_counted (binding_and h f bs) = let inner = homes_counted bs in omega arith

module _ (P : ℕ → Type 0) (s : Scope) (around : Around P s) where
  around_slots : (rs : List ℕ) → Around P (with_slots rs s)
  around_slots rs = record { function = around.function; method = around.method; site = around.site }

  around_exit : (e r : ℕ) → Around P (with_exit e r s)
  around_exit e r = record { function = around.function; method = around.method; site = around.site }

  around_inside : Around P (inside_cleanup s)
  around_inside = record { function = around.function; method = around.method; site = around.site }

  around_cleanup : Around P (in_cleanup s)
  around_cleanup = record { function = around.function; method = around.method; site = around.site }

  around_site : (n : ℕ) → Around P (at_site n s)
  around_site n = record { function = around.function; method = around.method; site = tt }

site_keeps : (P : ℕ → Type 0) (s : Scope) (n : ℕ) → Keeps P s (at_site n s)
site_keeps P s n = record { slots = λ m h. h; exits = λ m h. h }

module _ (names : List (List ℕ)) (at : Placement) (program : FlatProgram) (P : ℕ → Type 0) where
  -- a clause in front of others, without a body and with one
  alone_clause_names :
      (s : Scope) (d : ℕ) (known : Option Bool) (test : Lowered) (others : Steps) → LoweredNames P test → Names P others → P d → P (d + 1)
      → Names P (lower_clause names at program s d known test no_body others)
  unfolding lower
  alone_clause_names s d (Some true) test others one more d0 d1 = one.value
  alone_clause_names s d (Some false) test others one more d0 d1 = more
  alone_clause_names s d None test others one more d0 d1 = (one.value ⊹ constants d1 ▸ none) ⊹ chooses_test {first = []} d0 d1 none more ▸ none

  body_clause_names :
      (s : Scope) (d : ℕ) (known : Option Bool) (test : Lowered) (f : FlatForm) (others : Steps) → LoweredNames P test
      → Names P (lower names at program s d f).value → Names P others → Names P (lower_clause names at program s d known test (with_body f) others)
  unfolding lower
  body_clause_names s d (Some true) test f others one body more = body
  body_clause_names s d (Some false) test f others one body more = more
  body_clause_names s d None test f others one body more = one.judged.ready ⊹ chooses_test one.judged.first one.judged.second body more ▸ none

  mutual
    unfolding lower

    pub form_names : (s : Scope) (d : ℕ) (f : FlatForm) → Around P s → AllPlaces P s f → Range P d (height f) → LoweredNames P (lower names at program s d f)
    form_names s d (literal i) around h all =
        let d0 : P d = all d (omega arith) (omega arith) in
        let d1 : P (d + 1) = all (d + 1) (omega arith) (omega arith) in
        by_value_names d _ d0 d1
        (literal_names names at program s.site d i (slice_get program.literals i) around.site d0 d1)
    form_names s d (local p) around h all =
        let d0 : P d = all d (omega arith) (omega arith) in
        let d1 : P (d + 1) = all (d + 1) (omega arith) (omega arith) in
        by_value_names d _ d0 d1
        (variable_names s d p around.function h.0 d0)
    form_names s d (set_local p f) around h all =
        let d0 : P d = all d (omega arith) (omega arith) in
        let d1 : P (d + 1) = all (d + 1) (omega arith) (omega arith) in
        let inner = form_names s (d) f around h.1 (narrowed d (height (set_local p f)) (d) (height f) all (omega arith) (omega arith)) in
        by_value_names d _ d0 d1
        (inner.value ⊹ variable_from_names s d (d + 1) p around.function h.0 d0 d1)
    form_names s d (global n) around h all =
        let d0 : P d = all d (omega arith) (omega arith) in
        let d1 : P (d + 1) = all (d + 1) (omega arith) (omega arith) in
        by_value_names d _ d0 d1
        (global_names names at program s.site d n around.site d0 d1)
    form_names s d (set_global n f) around h all =
        let d0 : P d = all d (omega arith) (omega arith) in
        let d1 : P (d + 1) = all (d + 1) (omega arith) (omega arith) in
        let inner = form_names s (d) f around h.1 (narrowed d (height (set_global n f)) (d) (height f) all (omega arith) (omega arith)) in
        let d2 : P (d + 2) = all (d + 2) (omega arith) (omega arith) in
        by_value_names d _ d0 d1
        (inner.value ⊹ set_global_names names at program s.site d n around.site d0 d1 d2)
    form_names s d (def_global n f) around h all =
        let d0 : P d = all d (omega arith) (omega arith) in
        let d1 : P (d + 1) = all (d + 1) (omega arith) (omega arith) in
        let inner = form_names s (d) f around h.1 (narrowed d (height (def_global n f)) (d) (height f) all (omega arith) (omega arith)) in
        by_value_names d _ d0 d1
        (inner.value ⊹ def_global_names names at program d n d0 d1)
    form_names s d (clauses cs) around h all =
        let some = some_height cs in
        let d0 : P d = all d (omega arith) (omega arith) in
        let d1 : P (d + 1) = all (d + 1) (omega arith) (omega arith) in
        by_value_names d _ d0 d1 (clauses_names s d cs around h.1 all)
    form_names s d (sequence fs) around h all =
        let d0 : P d = all d (omega arith) (omega arith) in
        let d1 : P (d + 1) = all (d + 1) (omega arith) (omega arith) in
        by_value_names d _ d0 d1
        (sequence_names s d fs around h.1 d0 (narrowed d (height (sequence fs)) d (height_of_forms fs) all (omega arith) (omega arith)))
    form_names s d (let_form bs body) around h all =
        let count = homes_counted bs in
        let d0 : P d = all d (omega arith) (omega arith) in
        let d1 : P (d + 1) = all (d + 1) (omega arith) (omega arith) in
        let there : Range P d (length (binding_homes bs)) = narrowed d (height (let_form bs body)) d (length (binding_homes bs)) all (omega arith) (omega arith) in
        let t0 : P (d + length (binding_homes bs)) = all (d + length (binding_homes bs)) (omega arith) (omega arith) in
        let t1 : P (d + length (binding_homes bs) + 1) = all (d + length (binding_homes bs) + 1) (omega arith) (omega arith) in
        let inside : Scope = with_slots (registers_from d (length (binding_homes bs))) s in
        let keeps : Keeps P s inside = slots_keep P s (registers_from d (length (binding_homes bs))) (those d (length (binding_homes bs)) there) in
        let inner =
        form_names inside (d + length (binding_homes bs)) body (around_slots P s around (registers_from d (length (binding_homes bs))))
        (all_kept P s inside keeps (forms_in body) (behind (PlacesAllowed P s) (in_values bs) (forms_in body) h.1))
        (narrowed d (height (let_form bs body)) (d + length (binding_homes bs)) (height body) all (omega arith) (omega arith))
        in
        by_value_names d _ d0 d1
        (values_names s d bs around (in_front (PlacesAllowed P s) (in_values bs) (forms_in body) h.1)
        (narrowed d (height (let_form bs body)) d (height_of_values bs) all (omega arith) (omega arith))
        ⊹ boxes_names (binding_homes bs) d (d + length (binding_homes bs)) (boxed_in_range (binding_homes bs) d there) t0 t1
        ⊹ inner.value ⊹ moves d0 t0 ▸ none)
    form_names s d (make_function p parts) around h all =
        let d0 : P d = all d (omega arith) (omega arith) in
        let d1 : P (d + 1) = all (d + 1) (omega arith) (omega arith) in
        let d2 : P (d + 1 + 1) = all (d + 1 + 1) (omega arith) (omega arith) in
        by_value_names d _ d0 d1
        (function_names names at program s d p parts around h.0 d0 d1 d2)
    form_names s d (call n fs) around h all =
        let d0 : P d = all d (omega arith) (omega arith) in
        let d1 : P (d + 1) = all (d + 1) (omega arith) (omega arith) in
        by_value_names d _ d0 d1
        (arguments_names s d fs around h.1 (narrowed d (height (call n fs)) d (height_of_arguments fs) all (omega arith) (omega arith))
        ⊹ call_names at program n (function_row names program.functions (text names n)) (count_forms fs) d s.site around.site (narrowed d (height (call n fs)) d (count_forms fs + 3) all (omega arith) (omega arith)))
    form_names s d (call_value no_form) around h all =
        let d0 : P d = all d (omega arith) (omega arith) in
        let d1 : P (d + 1) = all (d + 1) (omega arith) (omega arith) in
        by_value_names d _ d0 d1
        (constants d0 ▸ none)
    form_names s d (call_value (form_and f fs)) around h all =
        let d0 : P d = all d (omega arith) (omega arith) in
        let d1 : P (d + 1) = all (d + 1) (omega arith) (omega arith) in
        let inner = form_names s d f around (in_front (PlacesAllowed P s) (forms_in f) (in_forms fs) h.1) (narrowed d (height (call_value (form_and f fs))) d (height f) all (omega arith) (omega arith)) in
        by_value_names d _ d0 d1
        (inner.value
        ⊹ arguments_names s (d + 1) fs around (behind (PlacesAllowed P s) (forms_in f) (in_forms fs) h.1) (narrowed d (height (call_value (form_and f fs))) (d + 1) (height_of_arguments fs) all (omega arith) (omega arith))
        ⊹ call_value_names at program (count_forms fs) d s.site around.site (narrowed d (height (call_value (form_and f fs))) d (count_forms fs + 4) all (omega arith) (omega arith)))
    form_names s d (apply f list) around h all =
        let d0 : P d = all d (omega arith) (omega arith) in
        let d1 : P (d + 1) = all (d + 1) (omega arith) (omega arith) in
        let first = form_names s (d) f around (in_front (PlacesAllowed P s) (forms_in f) (forms_in list) h.1) (narrowed d (height (apply f list)) (d) (height f) all (omega arith) (omega arith)) in
        let second = form_names s (d + 1) list around (behind (PlacesAllowed P s) (forms_in f) (forms_in list) h.1) (narrowed d (height (apply f list)) (d + 1) (height list) all (omega arith) (omega arith)) in
        by_value_names d _ d0 d1
        (first.value ⊹ second.value ⊹ two_names names at program s.site d (apply_routine at) around.site (narrowed d (height (apply f list)) d 4 all (omega arith) (omega arith)))
    form_names s d (throw tag f) around h all =
        let d0 : P d = all d (omega arith) (omega arith) in
        let d1 : P (d + 1) = all (d + 1) (omega arith) (omega arith) in
        let first = form_names s (d) tag around (in_front (PlacesAllowed P s) (forms_in tag) (forms_in f) h.1) (narrowed d (height (throw tag f)) (d) (height tag) all (omega arith) (omega arith)) in
        let second = form_names s (d + 1) f around (behind (PlacesAllowed P s) (forms_in tag) (forms_in f) h.1) (narrowed d (height (throw tag f)) (d + 1) (height f) all (omega arith) (omega arith)) in
        by_value_names d _ d0 d1
        (first.value ⊹ second.value ⊹ two_names names at program s.site d (throw_routine at) around.site (narrowed d (height (throw tag f)) d 4 all (omega arith) (omega arith)))
    form_names s d (signal_form condition mark) around h all =
        let d0 : P d = all d (omega arith) (omega arith) in
        let d1 : P (d + 1) = all (d + 1) (omega arith) (omega arith) in
        let first = form_names s (d) condition around (in_front (PlacesAllowed P s) (forms_in condition) (forms_in mark) h.1) (narrowed d (height (signal_form condition mark)) (d) (height condition) all (omega arith) (omega arith)) in
        let second = form_names s (d + 1) mark around (behind (PlacesAllowed P s) (forms_in condition) (forms_in mark) h.1) (narrowed d (height (signal_form condition mark)) (d + 1) (height mark) all (omega arith) (omega arith)) in
        by_value_names d _ d0 d1
        (first.value ⊹ second.value ⊹ two_names names at program s.site d (signal_routine at) around.site (narrowed d (height (signal_form condition mark)) d 4 all (omega arith) (omega arith)))
    form_names s d (continue_form condition f) around h all =
        let d0 : P d = all d (omega arith) (omega arith) in
        let d1 : P (d + 1) = all (d + 1) (omega arith) (omega arith) in
        let first = form_names s (d) condition around (in_front (PlacesAllowed P s) (forms_in condition) (forms_in f) h.1) (narrowed d (height (continue_form condition f)) (d) (height condition) all (omega arith) (omega arith)) in
        let second = form_names s (d + 1) f around (behind (PlacesAllowed P s) (forms_in condition) (forms_in f) h.1) (narrowed d (height (continue_form condition f)) (d + 1) (height f) all (omega arith) (omega arith)) in
        by_value_names d _ d0 d1
        (first.value ⊹ second.value ⊹ two_names names at program s.site d (continue_routine at) around.site (narrowed d (height (continue_form condition f)) d 4 all (omega arith) (omega arith)))
    form_names s d (prim which fs) around h all =
        let there : Range P d (count_forms fs + 3) = narrowed d (height (prim which fs)) d (count_forms fs + 3) all (omega arith) (omega arith) in
        let arguments =
        arguments_names s d fs around h.1 (narrowed d (height (prim which fs)) d (height_of_arguments fs) all (omega arith) (omega arith))
        in
        let judged = judged_names at program.literals P fs d s.site around.site there which in
        record {
          value = arguments ⊹ applied_names at program.literals P fs d s.site around.site there which;
          judged = record { ready = arguments ⊹ judged.ready; first = judged.first; second = judged.second };
        }
    form_names s d (while_form test body) around h all =
        let d0 : P d = all d (omega arith) (omega arith) in
        let d1 : P (d + 1) = all (d + 1) (omega arith) (omega arith) in
        let first = form_names s (d) test around (in_front (PlacesAllowed P s) (forms_in test) (forms_in body) h.1) (narrowed d (height (while_form test body)) (d) (height test) all (omega arith) (omega arith)) in
        let second = form_names s (d) body around (behind (PlacesAllowed P s) (forms_in test) (forms_in body) h.1) (narrowed d (height (while_form test body)) (d) (height body) all (omega arith) (omega arith)) in
        by_value_names d _ d0 d1
        (repeats first.judged.first first.judged.second first.judged.ready second.value ▸ constants d0 ▸ none)
    form_names s d (block body) around h all =
        let d0 : P d = all d (omega arith) (omega arith) in
        let d1 : P (d + 1) = all (d + 1) (omega arith) (omega arith) in
        let keeps : Keeps P s (with_exit d (d + 1) s) = exit_keeps P s d (d + 1) d0 d1 in
        let inner = form_names (with_exit d (d + 1) s) (d + 6) body (around_exit P s around d (d + 1)) (all_kept P s (with_exit d (d + 1) s) keeps (forms_in body) h.1) (narrowed d (height (block body)) (d + 6) (height body) all (omega arith) (omega arith)) in
        by_value_names d _ d0 d1
        (block_names d _ (narrowed d (height (block body)) d 8 all (omega arith) (omega arith)) inner.value)
    form_names s d (return_from x f) around h all =
        let d0 : P d = all d (omega arith) (omega arith) in
        let d1 : P (d + 1) = all (d + 1) (omega arith) (omega arith) in
        let inner = form_names s (d) f around h.1 (narrowed d (height (return_from x f)) (d) (height f) all (omega arith) (omega arith)) in
        by_value_names d _ d0 d1
        (inner.value ⊹ exit_code_names names at program s d 0 x around h.0 (narrowed d (height (return_from x f)) d 4 all (omega arith) (omega arith)))
    form_names s d (tagbody segments) around h all =
        let d0 : P d = all d (omega arith) (omega arith) in
        let d1 : P (d + 1) = all (d + 1) (omega arith) (omega arith) in
        let keeps : Keeps P s (with_exit d (d + 1) s) = exit_keeps P s d (d + 1) d0 d1 in
        by_value_names d _ d0 d1
        (tagbody_names d (count_forms segments) _ (narrowed d (height (tagbody segments)) d 9 all (omega arith) (omega arith))
        (segments_names (with_exit d (d + 1) s) (d + 7) segments (around_exit P s around d (d + 1)) (all_kept P s (with_exit d (d + 1) s) keeps (in_forms segments) h.1)
        (narrowed d (height (tagbody segments)) (d + 7) (height_of_forms segments) all (omega arith) (omega arith))))
    form_names s d (go x segment) around h all =
        let d0 : P d = all d (omega arith) (omega arith) in
        let d1 : P (d + 1) = all (d + 1) (omega arith) (omega arith) in
        by_value_names d _ d0 d1
        (constants d0 ▸ exit_code_names names at program s d segment x around h.0 all)
    form_names s d (catch_form tag body) around h all =
        let d0 : P d = all d (omega arith) (omega arith) in
        let d1 : P (d + 1) = all (d + 1) (omega arith) (omega arith) in
        let first = form_names s (d) tag around (in_front (PlacesAllowed P s) (forms_in tag) (forms_in body) h.1) (narrowed d (height (catch_form tag body)) (d) (height tag) all (omega arith) (omega arith)) in
        let second = form_names s (d + 6) body around (behind (PlacesAllowed P s) (forms_in tag) (forms_in body) h.1) (narrowed d (height (catch_form tag body)) (d + 6) (height body) all (omega arith) (omega arith)) in
        by_value_names d _ d0 d1
        (first.value ⊹ catch_names d _ (narrowed d (height (catch_form tag body)) d 8 all (omega arith) (omega arith)) second.value)
    form_names s d (unwind f cleanup) around h all =
        let d0 : P d = all d (omega arith) (omega arith) in
        let d1 : P (d + 1) = all (d + 1) (omega arith) (omega arith) in
        let first = form_names (inside_cleanup s) (d + 6) f (around_inside P s around) (all_kept P s (inside_cleanup s) (inside_keeps P s) (forms_in f) (in_front (PlacesAllowed P s) (forms_in f) (forms_in cleanup) h.1)) (narrowed d (height (unwind f cleanup)) (d + 6) (height f) all (omega arith) (omega arith)) in
        let second = form_names (in_cleanup s) (d + 3) cleanup (around_cleanup P s around) (all_kept P s (in_cleanup s) (cleanup_keeps P s) (forms_in cleanup) (behind (PlacesAllowed P s) (forms_in f) (forms_in cleanup) h.1)) (narrowed d (height (unwind f cleanup)) (d + 3) (height cleanup) all (omega arith) (omega arith)) in
        by_value_names d _ d0 d1
        (unwind_names at d _ _ (narrowed d (height (unwind f cleanup)) d 8 all (omega arith) (omega arith)) first.value second.value)
    form_names s d (dynamic_let ds body) around h all =
        let d0 : P d = all d (omega arith) (omega arith) in
        let d1 : P (d + 1) = all (d + 1) (omega arith) (omega arith) in
        let inner = form_names s (d + count_dynamics ds + 2) body around (behind (PlacesAllowed P s) (in_dynamics ds) (forms_in body) h.1) (narrowed d (height (dynamic_let ds body)) (d + count_dynamics ds + 2) (height body) all (omega arith) (omega arith)) in
        by_value_names d _ d0 d1
        (dynamics_names s d ds around (in_front (PlacesAllowed P s) (in_dynamics ds) (forms_in body) h.1) (narrowed d (height (dynamic_let ds body)) d (height_of_dynamics ds) all (omega arith) (omega arith))
        ⊹ dynamic_let_names names at program d ds _ (narrowed d (height (dynamic_let ds body)) d (count_dynamics ds + 4) all (omega arith) (omega arith)) inner.value)
    form_names s d (dynamic n) around h all =
        let d0 : P d = all d (omega arith) (omega arith) in
        let d1 : P (d + 1) = all (d + 1) (omega arith) (omega arith) in
        by_value_names d _ d0 d1
        (dynamic_names names at program s.site d n around.site d0 d1)
    form_names s d (set_dynamic n f) around h all =
        let d0 : P d = all d (omega arith) (omega arith) in
        let d1 : P (d + 1) = all (d + 1) (omega arith) (omega arith) in
        let inner = form_names s (d) f around h.1 (narrowed d (height (set_dynamic n f)) (d) (height f) all (omega arith) (omega arith)) in
        let d2 : P (d + 2) = all (d + 2) (omega arith) (omega arith) in
        let d3 : P (d + 3) = all (d + 3) (omega arith) (omega arith) in
        by_value_names d _ d0 d1
        (inner.value ⊹ set_dynamic_names names at program s.site d n around.site d0 d1 d2 d3)
    form_names s d (def_dynamic n f) around h all =
        let d0 : P d = all d (omega arith) (omega arith) in
        let d1 : P (d + 1) = all (d + 1) (omega arith) (omega arith) in
        let inner = form_names s (d) f around h.1 (narrowed d (height (def_dynamic n f)) (d) (height f) all (omega arith) (omega arith)) in
        by_value_names d _ d0 d1
        (inner.value ⊹ def_dynamic_names names at program d n d0 d1)
    form_names s d (with_handler handler body) around h all =
        let d0 : P d = all d (omega arith) (omega arith) in
        let d1 : P (d + 1) = all (d + 1) (omega arith) (omega arith) in
        let first = form_names s (d) handler around (in_front (PlacesAllowed P s) (forms_in handler) (forms_in body) h.1) (narrowed d (height (with_handler handler body)) (d) (height handler) all (omega arith) (omega arith)) in
        let second = form_names s (d + 3) body around (behind (PlacesAllowed P s) (forms_in handler) (forms_in body) h.1) (narrowed d (height (with_handler handler body)) (d + 3) (height body) all (omega arith) (omega arith)) in
        by_value_names d _ d0 d1
        (first.value ⊹ handler_names names at program s.site d _ around.site (narrowed d (height (with_handler handler body)) d 4 all (omega arith) (omega arith)) second.value)
    form_names s d (next_method m) around h all =
        let d0 : P d = all d (omega arith) (omega arith) in
        let d1 : P (d + 1) = all (d + 1) (omega arith) (omega arith) in
        by_value_names d _ d0 d1
        (next_names names at program s d m around all)
    form_names s d (has_next m) around h all =
        let d0 : P d = all d (omega arith) (omega arith) in
        let d1 : P (d + 1) = all (d + 1) (omega arith) (omega arith) in
        by_value_names d _ d0 d1
        (has_next_names names at program s d m around all)
    form_names s d (sited site f) around h all =
        form_names (at_site site s) d f (around_site P s around site) (all_kept P s (at_site site s) (site_keeps P s site) (forms_in f) h.1) all

    pub sequence_names : (s : Scope) (d : ℕ) (fs : FlatForms) → Around P s → AllOf (PlacesAllowed P s) (in_forms fs) → P d → Range P d (height_of_forms fs)
        → Names P (lower_sequence names at program s d fs)
    sequence_names s d no_form around h d0 all = constants d0 ▸ none
    sequence_names s d (form_and f fs) around h d0 all =
        let first =
        form_names s d f around (in_front (PlacesAllowed P s) (forms_in f) (in_forms fs) h)
        (narrowed d (height_of_forms (form_and f fs)) d (height f) all (omega arith) (omega arith))
        in
        let more =
        behind_names s d fs around (behind (PlacesAllowed P s) (forms_in f) (in_forms fs) h)
        (narrowed d (height_of_forms (form_and f fs)) d (height_of_forms fs) all (omega arith) (omega arith))
        in
        first.value ⊹ more

    pub behind_names : (s : Scope) (d : ℕ) (fs : FlatForms) → Around P s → AllOf (PlacesAllowed P s) (in_forms fs) → Range P d (height_of_forms fs) → Names P (lower_behind names at program s d fs)
    behind_names s d no_form around h all = none
    behind_names s d (form_and f fs) around h all =
        let first = form_names s d f around (in_front (PlacesAllowed P s) (forms_in f) (in_forms fs) h) (narrowed d (height_of_forms (form_and f fs)) d (height f) all (omega arith) (omega arith)) in
        let more =
        behind_names s (d) fs around (behind (PlacesAllowed P s) (forms_in f) (in_forms fs) h)
        (narrowed d (height_of_forms (form_and f fs)) (d) (height_of_forms fs) all (omega arith) (omega arith))
        in
        first.value ⊹ more

    pub arguments_names : (s : Scope) (d : ℕ) (fs : FlatForms) → Around P s → AllOf (PlacesAllowed P s) (in_forms fs) → Range P d (height_of_arguments fs) → Names P (lower_arguments names at program s d fs)
    arguments_names s d no_form around h all = none
    arguments_names s d (form_and f fs) around h all =
        let first = form_names s d f around (in_front (PlacesAllowed P s) (forms_in f) (in_forms fs) h) (narrowed d (height_of_arguments (form_and f fs)) d (height f) all (omega arith) (omega arith)) in
        let more =
        arguments_names s (d + 1) fs around (behind (PlacesAllowed P s) (forms_in f) (in_forms fs) h)
        (narrowed d (height_of_arguments (form_and f fs)) (d + 1) (height_of_arguments fs) all (omega arith) (omega arith))
        in
        first.value ⊹ more

    pub values_names : (s : Scope) (d : ℕ) (bs : FlatBindings) → Around P s → AllOf (PlacesAllowed P s) (in_values bs) → Range P d (height_of_values bs) → Names P (lower_bindings names at program s d bs)
    values_names s d no_binding around h all = none
    values_names s d (binding_and v f bs) around h all =
        let first = form_names s d f around (in_front (PlacesAllowed P s) (forms_in f) (in_values bs) h) (narrowed d (height_of_values (binding_and v f bs)) d (height f) all (omega arith) (omega arith)) in
        let more =
        values_names s (d + 1) bs around (behind (PlacesAllowed P s) (forms_in f) (in_values bs) h)
        (narrowed d (height_of_values (binding_and v f bs)) (d + 1) (height_of_values bs) all (omega arith) (omega arith))
        in
        first.value ⊹ more

    pub dynamics_names : (s : Scope) (d : ℕ) (ds : FlatDynamics) → Around P s → AllOf (PlacesAllowed P s) (in_dynamics ds) → Range P d (height_of_dynamics ds) → Names P (lower_dynamics names at program s d ds)
    dynamics_names s d no_dynamic around h all = none
    dynamics_names s d (dynamic_and n f ds) around h all =
        let first = form_names s d f around (in_front (PlacesAllowed P s) (forms_in f) (in_dynamics ds) h) (narrowed d (height_of_dynamics (dynamic_and n f ds)) d (height f) all (omega arith) (omega arith)) in
        let more =
        dynamics_names s (d + 1) ds around (behind (PlacesAllowed P s) (forms_in f) (in_dynamics ds) h)
        (narrowed d (height_of_dynamics (dynamic_and n f ds)) (d + 1) (height_of_dynamics ds) all (omega arith) (omega arith))
        in
        first.value ⊹ more

    pub segments_names : (s : Scope) (d : ℕ) (fs : FlatForms) → Around P s → AllOf (PlacesAllowed P s) (in_forms fs) → Range P d (height_of_forms fs) → CodesName P (lower_segments names at program s d fs)
    segments_names s d no_form around h all = record { all = tt }
    segments_names s d (form_and f fs) around h all =
        let first = form_names s d f around (in_front (PlacesAllowed P s) (forms_in f) (in_forms fs) h) (narrowed d (height_of_forms (form_and f fs)) d (height f) all (omega arith) (omega arith)) in
        let more =
        segments_names s (d) fs around (behind (PlacesAllowed P s) (forms_in f) (in_forms fs) h)
        (narrowed d (height_of_forms (form_and f fs)) (d) (height_of_forms fs) all (omega arith) (omega arith))
        in
        record {
          all =
              all_both P (of_code (code_of (lower names at program s d f).value)) (of_codes (lower_segments names at program s d fs)) first.value.all more.all;
        }

    pub clauses_names : (s : Scope) (d : ℕ) (cs : FlatClauses) → Around P s → AllOf (PlacesAllowed P s) (in_clauses cs) → Range P d (height_of_clauses cs)
        → Names P (lower_clauses names at program s d cs)
    clauses_names s d no_clause around h all = constants (all d (omega arith) (omega arith)) ▸ none
    clauses_names s d (clause_and test no_body cs) around h all =
        let some = some_height cs in
        let d0 : P d = all d (omega arith) (omega arith) in
        let d1 : P (d + 1) = all (d + 1) (omega arith) (omega arith) in
        let first =
        form_names s d test around (in_front (PlacesAllowed P s) (forms_in test) (in_clauses cs) h)
        (narrowed d (height_of_clauses (clause_and test no_body cs)) d (height test) all (omega arith) (omega arith))
        in
        let more =
        clauses_names s d cs around (behind (PlacesAllowed P s) (forms_in test) (in_clauses cs) h)
        (narrowed d (height_of_clauses (clause_and test no_body cs)) d (height_of_clauses cs) all (omega arith) (omega arith))
        in
        alone_clause_names s d (known_truth at program.literals test) (lower names at program s d test) (lower_clauses names at program s d cs) first more d0 d1
    clauses_names s d (clause_and test (with_body f) cs) around h all =
        let others : AllOf (PlacesAllowed P s) (forms_in f ++ in_clauses cs) = behind (PlacesAllowed P s) (forms_in test) (forms_in f ++ in_clauses cs) h in
        let first =
        form_names s d test around (in_front (PlacesAllowed P s) (forms_in test) (forms_in f ++ in_clauses cs) h)
        (narrowed d (height_of_clauses (clause_and test (with_body f) cs)) d (height test) all (omega arith) (omega arith))
        in
        let second =
        form_names s d f around (in_front (PlacesAllowed P s) (forms_in f) (in_clauses cs) others)
        (narrowed d (height_of_clauses (clause_and test (with_body f) cs)) d (height f) all (omega arith) (omega arith))
        in
        let more =
        clauses_names s d cs around (behind (PlacesAllowed P s) (forms_in f) (in_clauses cs) others)
        (narrowed d (height_of_clauses (clause_and test (with_body f) cs)) d (height_of_clauses cs) all (omega arith) (omega arith))
        in
        body_clause_names s d (known_truth at program.literals test) (lower names at program s d test) f (lower_clauses names at program s d cs) first
        second.value more
