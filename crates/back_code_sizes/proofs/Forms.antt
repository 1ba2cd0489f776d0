-- **The code of each form costs no more than its words**, and neither does what is judged where a form branches on it, with six more.
use Rattle.std.proofs.Common.{◌≡◌, ℕ, ◌+◌, ◌*◌, ◌≤◌, Bool, true, false, List, [], ◌∷◌, ◌++◌, length, slice_get, Option, Some, None, refl, arith}
use Rattle.lang_meaning.specs.Lookup.{text}
use Rattle.lang_meaning.specs.Literals.{function_row}
use Rattle.flat_language.specs.declared.program.FlatProgram.{FlatProgram}
use Rattle.flat_language.specs.FlatFits.{Fits, FitForms, FitClauses, FitValues, FitDynamics}
use Rattle.flat_language.specs.FlatForm.{FlatForm, literal, local, set_local, global, set_global, def_global, clauses, sequence, let_form, make_function, call, call_value, apply, prim, while_form, block, return_from, tagbody, go, catch_form, throw, unwind, dynamic_let, dynamic, set_dynamic, def_dynamic, with_handler, signal_form, continue_form, next_method, has_next, sited}
use Rattle.flat_language.specs.FlatForm.{FlatForms, no_form, form_and, FlatClauses, no_clause, clause_and, no_body, with_body}
use Rattle.flat_language.specs.FlatForm.{FlatBindings, no_binding, binding_and, FlatDynamics, no_dynamic, dynamic_and}
use Rattle.flat_language.specs.FlatMeaning.{binding_homes}
use Rattle.flat_language.specs.FlatNodes.{count_forms, count_clauses, count_bindings, count_dynamics}
use Rattle.mid_code.specs.declared.operation.Counted.TheVariants.{Level}
use Rattle.mid_code.specs.MidCode.{MidCodes, repeat, choose, no_step, code_of}
use Rattle.mid_arena.specs.CodeCosts.{codes_cost}
use Rattle.mid_arena.specs.Tags.{nil_word}
use Rattle.back_lowering.specs.Scope.{with_slots, with_exit, inside_cleanup, in_cleanup, at_site, registers_from}
use Rattle.back_lowering.specs.declared.placement.Placement.{Placement}
use Rattle.back_lowering.specs.declared.scope.Scope.{Scope}
use Rattle.back_lowering.specs.Routines.{throw_routine, continue_routine, signal_routine, apply_routine}
use Rattle.back_lowering.specs.Steps.{Steps, move, constant}
use Rattle.back_lowering.specs.Leaves.{boxes_made}
use Rattle.back_lowering.specs.Primitives.{Judged, value_judged}
use Rattle.back_lowering.specs.Records.{block_code, catch_code, tagbody_code, unwind_code}
use Rattle.back_lowering.specs.Codes.{Lowered, by_value, behind_arguments, exit_code, dynamic_let_code, with_handler_code, known_truth, lower, lower_sequence, lower_behind, lower_arguments, lower_call_value, lower_segments, lower_clauses, lower_clause, lower_bindings, lower_dynamics}
use Rattle.flat_boxes.specs.Totals.{total_of_forms, total_of_clauses, total_of_values, total_of_dynamics}
use Rattle.back_code_sizes.specs.Passed.{codes_pass}
use Rattle.back_code_sizes.specs.Sizes.{own_words, form_words}
use Rattle.back_code_sizes.specs.Laws.{LawOfFormSizes}
use Rattle.back_code_sizes.proofs.Costs.{cost, append_cost}
use Rattle.back_code_sizes.proofs.Leaves.{variable_into_cost, variable_from_cost, boxes_cost}
use Rattle.back_code_sizes.proofs.Records.{block_cost, catch_cost, tagbody_cost, unwind_cost}
use Rattle.back_code_sizes.proofs.Calls.{name_cost, value_call_cost}
use Rattle.back_code_sizes.proofs.Primitives.{applied_cost, judged_cost}
use Rattle.back_code_sizes.proofs.Codes.{literal_cost, global_cost, set_global_cost, def_global_cost, dynamic_cost, set_dynamic_cost, def_dynamic_cost, function_cost, next_cost, has_next_cost, exit_cost, dynamic_let_cost, handler_cost, two_cost}

-- the code of a form that has so many words
pub record Within (l : Lowered) (n : ℕ) : Type 0 where
  pub value : cost l.value ≤ n
  pub judged : cost l.judged.ready ≤ n + 6

-- the value itself is judged
by_value_within : (d : ℕ) (steps : Steps) (n : ℕ) → cost steps ≤ n → Within (by_value d steps) n
by_value_within d steps n h = record { value = h; judged = omega (arith, h, append_cost steps (value_judged d).ready) }

-- what comes behind the value of one form, or of two
behind_one :
    (d : ℕ) (l : Lowered) (n own : ℕ) (more : Steps) → Within l n → cost more ≤ own → Within (by_value d (l.value ++ more)) (own + n)
behind_one d l n own more w h = by_value_within d (l.value ++ more) (own + n) (omega (arith, h, w.value, append_cost l.value more))

behind_two :
    (d : ℕ) (l k : Lowered) (n m own : ℕ) (more : Steps) → Within l n → Within k m → cost more ≤ own
    → Within (by_value d (l.value ++ (k.value ++ more))) (own + (n + m))
behind_two d l k n m own more v w h =
    by_value_within d (l.value ++ (k.value ++ more)) (own + (n + m))
    (omega (arith, h, v.value, w.value, append_cost l.value (k.value ++ more), append_cost k.value more))

-- what comes behind the values of several
behind_all :
    (d : ℕ) (values more : Steps) (n own : ℕ) → cost values ≤ n → cost more ≤ own → Within (by_value d (values ++ more)) (own + n)
behind_all d values more n own g h = by_value_within d (values ++ more) (own + n) (omega (arith, g, h, append_cost values more))

block_within : (d : ℕ) (l : Lowered) (n : ℕ) → Within l n → Within (by_value d (block_code d l.value)) (242 + n)
block_within d l n w = by_value_within d (block_code d l.value) (242 + n) (omega (arith, w.value, block_cost d l.value))

-- a form whose value is used as it is, at another site
same_within : (l : Lowered) (n : ℕ) → Within l n → Within l (0 + n)
same_within l n w = record { value = omega (arith, w.value); judged = omega (arith, w.judged) }

catch_within : (d : ℕ) (l k : Lowered) (n m : ℕ) → Within l n → Within k m → Within (by_value d (l.value ++ catch_code d k.value)) (250 + (n + m))
catch_within d l k n m v w =
    by_value_within d (l.value ++ catch_code d k.value) (250 + (n + m))
    (omega (arith, v.value, w.value, append_cost l.value (catch_code d k.value), catch_cost d k.value))

unwind_within :
    (at : Placement) (d : ℕ) (l k : Lowered) (n m : ℕ) → Within l n → Within k m → Within (by_value d (unwind_code at d l.value k.value)) (306 + (n + m))
unwind_within at d l k n m v w =
    by_value_within d (unwind_code at d l.value k.value) (306 + (n + m)) (omega (arith, v.value, w.value, unwind_cost at d l.value k.value))

tagbody_within :
    (d count : ℕ) (bodies : MidCodes) (n : ℕ) → codes_cost bodies + codes_pass bodies ≤ n + 3 * count → Within (by_value d (tagbody_code d count bodies)) (330 + 3 * count + n)
tagbody_within d count bodies n h =
    by_value_within d (tagbody_code d count bodies) (330 + 3 * count + n) (omega (arith, h, tagbody_cost d count bodies))

while_within :
    (d : ℕ) (l k : Lowered) (n m : ℕ) → Within l n → Within k m
    → Within (by_value d (repeat Level (code_of l.judged.ready) l.judged.test (code_of k.value) ∷ constant d nil_word ∷ [])) (26 + (n + m))
while_within d l k n m v w =
    by_value_within d (repeat Level (code_of l.judged.ready) l.judged.test (code_of k.value) ∷ constant d nil_word ∷ []) (26 + (n + m))
    (omega (arith, v.judged, w.value))

prim_within :
    (arguments applied : Steps) (judged : Judged) (n count : ℕ) → cost arguments ≤ n → cost applied ≤ 122 + 128 * count
    → cost judged.ready ≤ 128 + 128 * count → Within (behind_arguments arguments applied judged) (122 + 128 * count + n)
prim_within arguments applied judged n count f g h = record {
  value = omega (arith, f, g, append_cost arguments applied);
  judged = omega (arith, f, h, append_cost arguments judged.ready);
}

let_within :
    (d to : ℕ) (values boxes : Steps) (l : Lowered) (m n count : ℕ) → cost values ≤ m → cost boxes ≤ 40 * count → Within l n
    → Within (by_value d (values ++ (boxes ++ (l.value ++ (move d to ∷ []))))) (6 + 40 * count + (m + n))
let_within d to values boxes l m n count f g w =
    by_value_within d (values ++ (boxes ++ (l.value ++ (move d to ∷ [])))) (6 + 40 * count + (m + n))
    (omega (
      arith,
      f,
      g,
      w.value,
      append_cost values (boxes ++ (l.value ++ (move d to ∷ []))),
      append_cost boxes (l.value ++ (move d to ∷ [])),
      append_cost l.value (move d to ∷ []),
    ))

dynamic_let_within :
    (d : ℕ) (values : Steps) (code : Steps → Steps) (l : Lowered) (m n count : ℕ) → cost values ≤ m
    → ((body : Steps) → cost (code body) ≤ 106 + 94 * count + cost body) → Within l n
    → Within (by_value d (values ++ code l.value)) (106 + 94 * count + (m + n))
dynamic_let_within d values code l m n count f g w =
    by_value_within d (values ++ code l.value) (106 + 94 * count + (m + n)) (omega (arith, f, g l.value, w.value, append_cost values (code l.value)))

handler_within :
    (d : ℕ) (l : Lowered) (code : Steps → Steps) (k : Lowered) (n m : ℕ) → Within l n → ((body : Steps) → cost (code body) ≤ 271 + cost body)
    → Within k m → Within (by_value d (l.value ++ code k.value)) (271 + (n + m))
handler_within d l code k n m v g w =
    by_value_within d (l.value ++ code k.value) (271 + (n + m)) (omega (arith, v.value, g k.value, w.value, append_cost l.value (code k.value)))

homes_count : (bs : FlatBindings) → length (binding_homes bs) ≡ count_bindings bs
homes_count no_binding = refl
homes_count (binding_and h f bs) = let e = homes_count bs in omega (arith, e)

-- the value of one form and then those of others
first_and : (l : Lowered) (rest : Steps) (n m : ℕ) → Within l n → cost rest ≤ m → cost (l.value ++ rest) ≤ n + m
first_and l rest n m w h = omega (arith, w.value, h, append_cost l.value rest)

-- a value that is called with others
called :
    (l : Lowered) (arguments : Steps) (n m count : ℕ) (applied : Steps) → Within l n → cost arguments ≤ m → cost applied ≤ 145 + 24 * count
    → cost (l.value ++ (arguments ++ applied)) ≤ 145 + 24 * (count + 1) + (n + m)
called l arguments n m count applied w f g = omega (arith, w.value, f, g, append_cost l.value (arguments ++ applied), append_cost arguments applied)

-- clauses in front of others
value_clause :
    (d : ℕ) (l : Lowered) (others : Steps) (n m count : ℕ) → Within l n → cost others ≤ 6 + 22 * count + m
    → cost (l.value ++ (value_judged d).ready ++ (choose (value_judged d).test no_step (code_of others) ∷ [])) ≤ 6 + 22 * (count + 1) + (n + (0 + m))
value_clause d l others n m count w h =
    omega (
      arith,
      w.value,
      h,
      append_cost (l.value ++ (value_judged d).ready) (choose (value_judged d).test no_step (code_of others) ∷ []),
      append_cost l.value (value_judged d).ready,
    )

body_clause :
    (l k : Lowered) (others : Steps) (n o m count : ℕ) → Within l n → Within k o → cost others ≤ 6 + 22 * count + m
    → cost (l.judged.ready ++ (choose l.judged.test (code_of k.value) (code_of others) ∷ [])) ≤ 6 + 22 * (count + 1) + (n + (o + m))
body_clause l k others n o m count v w h =
    omega (arith, v.judged, w.value, h, append_cost l.judged.ready (choose l.judged.test (code_of k.value) (code_of others) ∷ []))

module _ (names : List (List ℕ)) (at : Placement) (program : FlatProgram) where
  value_clause_known :
      (s : Scope) (d : ℕ) (known : Option Bool) (l : Lowered) (others : Steps) (n m count : ℕ) → Within l n → cost others ≤ 6 + 22 * count + m
      → cost (lower_clause names at program s d known l no_body others) ≤ 6 + 22 * (count + 1) + (n + (0 + m))
  unfolding lower
  value_clause_known s d (Some true) l others n m count w h = omega (arith, w.value)
  value_clause_known s d (Some false) l others n m count w h = omega (arith, h)
  value_clause_known s d None l others n m count w h = value_clause d l others n m count w h

  body_clause_known :
      (s : Scope) (d : ℕ) (known : Option Bool) (l : Lowered) (f : FlatForm) (others : Steps) (n o m count : ℕ) → Within l n
      → Within (lower names at program s d f) o → cost others ≤ 6 + 22 * count + m
      → cost (lower_clause names at program s d known l (with_body f) others) ≤ 6 + 22 * (count + 1) + (n + (o + m))
  unfolding lower
  body_clause_known s d (Some true) l f others n o m count v w h = omega (arith, w.value)
  body_clause_known s d (Some false) l f others n o m count v w h = omega (arith, h)
  body_clause_known s d None l f others n o m count v w h = body_clause l (lower names at program s d f) others n o m count v w h

  mutual
    unfolding lower

    pub form_within : (s : Scope) (d : ℕ) (f : FlatForm) → Fits program f → Within (lower names at program s d f) (form_words f)
    form_within s d (literal i) h = by_value_within d _ 86 (literal_cost names at program s.site d i (slice_get program.literals i))
    form_within s d (local p) h = by_value_within d _ 32 (variable_into_cost s d p)
    form_within s d (set_local p f) h = behind_one d _ _ 32 _ (form_within s d f h) (variable_from_cost s d (d + 1) p)
    form_within s d (global n) h = by_value_within d _ 122 (global_cost names at program s.site d n)
    form_within s d (set_global n f) h = behind_one d _ _ 136 _ (form_within s d f h) (set_global_cost names at program s.site d n)
    form_within s d (def_global n f) h = behind_one d _ _ 20 _ (form_within s d f h) (def_global_cost names at program d n)
    form_within s d (clauses cs) h = by_value_within d _ _ (clauses_cost s d cs h)
    form_within s d (sequence fs) h = by_value_within d _ _ (sequence_cost s d fs h)
    form_within s d (let_form bs body) h =
        let n = length (binding_homes bs) in
        let c = boxes_cost (binding_homes bs) d (d + n) in
        let e = homes_count bs in
        let boxes : cost (boxes_made (binding_homes bs) d (d + n)) ≤ 40 * count_bindings bs = omega (arith, c, e) in
        let_within d (d + n) _ _ _ _ _ (count_bindings bs) (values_cost s d bs h.0) boxes
        (form_within (with_slots (registers_from d n) s) (d + n) body h.1)
    form_within s d (make_function p parts) h = by_value_within d _ (70 + 62 * length parts) (function_cost names at program s d p parts)
    form_within s d (call n fs) h =
        behind_all d _ _ _ (159 + 58 * count_forms fs) (arguments_cost s d fs h)
        (name_cost at program n (function_row names program.functions (text names n)) (count_forms fs) d s.site)
    form_within s d (call_value fs) h = by_value_within d _ _ (called_cost s d fs h.1)
    form_within s d (apply f list) h =
        behind_two d _ _ _ _ 74 _ (form_within s d f h.0) (form_within s (d + 1) list h.1) (two_cost names at program s.site d (apply_routine at))
    form_within s d (prim which fs) h =
        prim_within _ _ _ _ (count_forms fs) (arguments_cost s d fs h.1) (applied_cost at program.literals which fs (count_forms fs) d s.site h.0)
        (judged_cost at program.literals which fs (count_forms fs) d s.site h.0)
    form_within s d (while_form test body) h = while_within d _ _ _ _ (form_within s d test h.0) (form_within s d body h.1)
    form_within s d (block body) h = block_within d _ _ (form_within (with_exit d (d + 1) s) (d + 6) body h)
    form_within s d (return_from x f) h = behind_one d _ _ 111 _ (form_within s d f h) (exit_cost names at program s d 0 x)
    form_within s d (tagbody segments) h =
        tagbody_within d (count_forms segments) _ _ (segments_cost (with_exit d (d + 1) s) (d + 7) segments h.1)
    form_within s d (go x segment) h =
        by_value_within d (constant d nil_word ∷ exit_code names at program s d segment x) 117
        (let c = exit_cost names at program s d segment x in omega (arith, c))
    form_within s d (catch_form tag body) h = catch_within d _ _ _ _ (form_within s d tag h.0) (form_within s (d + 6) body h.1)
    form_within s d (throw tag f) h =
        behind_two d _ _ _ _ 74 _ (form_within s d tag h.0) (form_within s (d + 1) f h.1) (two_cost names at program s.site d (throw_routine at))
    form_within s d (unwind f cleanup) h =
        unwind_within at d _ _ _ _ (form_within (inside_cleanup s) (d + 6) f h.0) (form_within (in_cleanup s) (d + 3) cleanup h.1)
    form_within s d (dynamic_let ds body) h =
        dynamic_let_within d _ (dynamic_let_code names at program d (count_dynamics ds) ds) _ _ _ (count_dynamics ds) (dynamics_cost s d ds h.0)
        (dynamic_let_cost names at program d (count_dynamics ds) ds)
        (form_within s (d + count_dynamics ds + 2) body h.1)
    form_within s d (dynamic n) h = by_value_within d _ 169 (dynamic_cost names at program s.site d n)
    form_within s d (set_dynamic n f) h = behind_one d _ _ 177 _ (form_within s d f h) (set_dynamic_cost names at program s.site d n)
    form_within s d (def_dynamic n f) h = behind_one d _ _ 20 _ (form_within s d f h) (def_dynamic_cost names at program d n)
    form_within s d (with_handler handler body) h =
        handler_within d _ (with_handler_code names at program s.site d) _ _ _ (form_within s d handler h.0) (handler_cost names at program s.site d)
        (form_within s (d + 3) body h.1)
    form_within s d (signal_form condition mark) h =
        behind_two d _ _ _ _ 74 _ (form_within s d condition h.0) (form_within s (d + 1) mark h.1) (two_cost names at program s.site d (signal_routine at))
    form_within s d (continue_form condition f) h =
        behind_two d _ _ _ _ 74 _ (form_within s d condition h.0) (form_within s (d + 1) f h.1) (two_cost names at program s.site d (continue_routine at))
    form_within s d (next_method m) h = by_value_within d _ 165 (next_cost names at program s d m)
    form_within s d (has_next m) h = by_value_within d _ 162 (has_next_cost names at program s d m)
    form_within s d (sited site f) h = same_within _ _ (form_within (at_site site s) d f h.2)

    -- forms in order
    sequence_cost : (s : Scope) (d : ℕ) (fs : FlatForms) → FitForms program fs → cost (lower_sequence names at program s d fs) ≤ 6 + total_of_forms own_words fs
    sequence_cost s d no_form h = omega arith
    sequence_cost s d (form_and f fs) h =
        let c =
        first_and (lower names at program s d f) (lower_behind names at program s d fs) (form_words f) (total_of_forms own_words fs) (form_within s d f h.0)
        (rest_cost s d fs h.1) in
        omega (arith, c)

    rest_cost : (s : Scope) (d : ℕ) (fs : FlatForms) → FitForms program fs → cost (lower_behind names at program s d fs) ≤ total_of_forms own_words fs
    rest_cost s d no_form h = omega arith
    rest_cost s d (form_and f fs) h = first_and _ _ _ _ (form_within s d f h.0) (rest_cost s d fs h.1)

    arguments_cost : (s : Scope) (d : ℕ) (fs : FlatForms) → FitForms program fs → cost (lower_arguments names at program s d fs) ≤ total_of_forms own_words fs
    arguments_cost s d no_form h = omega arith
    arguments_cost s d (form_and f fs) h = first_and _ _ _ _ (form_within s d f h.0) (arguments_cost s (d + 1) fs h.1)

    called_cost :
        (s : Scope) (d : ℕ) (fs : FlatForms) → FitForms program fs
        → cost (lower_call_value names at program s d fs) ≤ 145 + 24 * count_forms fs + total_of_forms own_words fs
    called_cost s d no_form h = omega arith
    called_cost s d (form_and f fs) h =
        called _ _ _ _ (count_forms fs) _ (form_within s d f h.0) (arguments_cost s (d + 1) fs h.1) (value_call_cost at program (count_forms fs) d s.site)

    segments_cost :
        (s : Scope) (d : ℕ) (fs : FlatForms) → FitForms program fs
        → codes_cost (lower_segments names at program s d fs) + codes_pass (lower_segments names at program s d fs)
        ≤ total_of_forms own_words fs + 3 * count_forms fs
    segments_cost s d no_form h = omega arith
    segments_cost s d (form_and f fs) h = let w = form_within s d f h.0 in omega (arith, w.value, segments_cost s d fs h.1)

    clauses_cost :
        (s : Scope) (d : ℕ) (cs : FlatClauses) → FitClauses program cs
        → cost (lower_clauses names at program s d cs) ≤ 6 + 22 * count_clauses cs + total_of_clauses own_words cs
    clauses_cost s d no_clause h = omega arith
    clauses_cost s d (clause_and test no_body cs) h =
        value_clause_known s d (known_truth at program.literals test) (lower names at program s d test) (lower_clauses names at program s d cs) _ _
        (count_clauses cs) (form_within s d test h.0) (clauses_cost s d cs h.2)
    clauses_cost s d (clause_and test (with_body f) cs) h =
        body_clause_known s d (known_truth at program.literals test) (lower names at program s d test) f (lower_clauses names at program s d cs) _ _ _
        (count_clauses cs) (form_within s d test h.0) (form_within s d f h.1) (clauses_cost s d cs h.2)

    values_cost : (s : Scope) (d : ℕ) (bs : FlatBindings) → FitValues program bs → cost (lower_bindings names at program s d bs) ≤ total_of_values own_words bs
    values_cost s d no_binding h = omega arith
    values_cost s d (binding_and home f bs) h = first_and _ _ _ _ (form_within s d f h.0) (values_cost s (d + 1) bs h.1)

    dynamics_cost : (s : Scope) (d : ℕ) (ds : FlatDynamics) → FitDynamics program ds → cost (lower_dynamics names at program s d ds) ≤ total_of_dynamics own_words ds
    dynamics_cost s d no_dynamic h = omega arith
    dynamics_cost s d (dynamic_and n f ds) h = first_and _ _ _ _ (form_within s d f h.0) (dynamics_cost s (d + 1) ds h.1)

-- the law of the sizes of forms
pub law_of_form_sizes : LawOfFormSizes
law_of_form_sizes names at program s d f h = let w = form_within names at program s d f h in w.value
