-- Whole programs: entries, bodies and main forms.
use Rattle.std.proofs.Common.{◌≡◌, ℕ, ◌+◌, ◌*◌, ◌≤◌, Bool, true, false, List, [], ◌∷◌, ◌++◌, length, is_some, map, arith, length-append}
use Rattle.std.specs.Prelude.{if◌then◌else◌, sum_by, ◌||◌, option_to_list}
use Rattle.std.proofs.lemmas.List.Sums.{sum_by-cons, sum_by-append}
use Rattle.base.specs.AllOf.{AllOf}
use Rattle.flat_language.specs.declared.program.FlatProcedure.{FlatProcedure}
use Rattle.flat_language.specs.declared.program.FlatProgram.{FlatProgram}
use Rattle.flat_language.specs.FlatForm.{FlatForm}
use Rattle.flat_language.specs.FlatFits.{Fits, ProgramFits}
use Rattle.flat_language.specs.FlatNodes.{homes}
use Rattle.mid_code.specs.declared.program.MidProcedure.{MidProcedure}
use Rattle.mid_code.specs.MidCode.{return_word, halt_with}
use Rattle.mid_arena.specs.CodeCosts.{procedure_cost}
use Rattle.back_lowering.specs.ControlWords.{site_address}
use Rattle.back_lowering.specs.Scope.{registers_from}
use Rattle.back_lowering.specs.declared.placement.Placement.{Placement}
use Rattle.back_lowering.specs.Placement.{functions}
use Rattle.back_lowering.specs.Sites.{asks_site}
use Rattle.back_lowering.specs.Steps.{Steps, call, load_from, words_loaded}
use Rattle.back_lowering.specs.Leaves.{boxes_made}
use Rattle.back_lowering.specs.Codes.{lower}
use Rattle.back_lowering.specs.Program.{Extra, nothing, its_method, itself, extra_count, level_judged, rest_made, method_kept, entry_extras, rest_register, entry, site_register, scope_of, site_taken, body_of, extra_of, entries_from, lambda_entries_from, bodies_from, lambda_bodies, main_scope, main_form, mains_called, mains_from, start, primitives, routines, lowered}
use Rattle.back_code_sizes.specs.Sizes.{form_words, function_words, main_words, program_words}
use Rattle.back_sizes.specs.Laws.{procedures_cost}
use Rattle.back_code_sizes.specs.Laws.{LawOfCodeSizes}
use Rattle.back_code_sizes.specs.Passed.{procedure_passes, procedures_pass}
use Rattle.back_code_sizes.proofs.Costs.{cost, append_cost, if_cost, load_from_cost, words_loaded_cost}
use Rattle.back_code_sizes.proofs.Leaves.{boxes_cost}
use Rattle.back_code_sizes.proofs.Calls.{registers_count}
use Rattle.back_code_sizes.proofs.Forms.{form_within}
use Rattle.back_code_sizes.proofs.Routines.{primitives_cost, routines_cost}

-- what a procedure, and procedures, cost, with one more for each argument that they take and pass
abbrev full : MidProcedure → ℕ
full p = procedure_cost p + procedure_passes p

abbrev all_full : List MidProcedure → ℕ
all_full ps = procedures_cost ps + procedures_pass ps

both_cost : (ps qs : List MidProcedure) → all_full (ps ++ qs) ≡ all_full ps + all_full qs
both_cost [] qs = omega arith
both_cost (p ∷ ps) qs = let h = both_cost ps qs in omega (arith, h)

extras_count : (extra : Extra) → extra_count extra ≤ 3
extras_count nothing = omega arith
extras_count its_method = omega arith
extras_count itself = omega arith

entry_extras_count : (names : List (List ℕ)) (at : Placement) (program : FlatProgram) (extra : Extra) → length (entry_extras names at program extra) ≤ 3
entry_extras_count names at program nothing = omega arith
entry_extras_count names at program its_method = omega arith
entry_extras_count names at program itself = omega arith

-- steps that are there or not
if_there : (n : ℕ) (b : Bool) (steps : Steps) → cost steps ≤ n → cost (if b then steps else []) ≤ n
if_there n b steps h = if_cost n b steps [] h (omega arith)

module _ (names : List (List ℕ)) (at : Placement) (program : FlatProgram) where
  -- what an entry does before its parameters are loaded
  level_cost : (q : FlatProcedure) → cost (level_judged names at program q) ≤ 40
  level_cost q = if_there 40 (is_some q.rest || q.keeps_method) _ (omega arith)

  rest_cost : (q : FlatProcedure) → cost (rest_made names at program q) ≤ 86
  rest_cost q = if_there 86 (is_some q.rest) _ (omega arith)

  method_cost : (q : FlatProcedure) → cost (method_kept names at program q) ≤ 83
  method_cost q = if_there 83 q.keeps_method _ (omega arith)

  rest_register_count : (q : FlatProcedure) → length (rest_register names at program q) ≤ 1
  rest_register_count q = by (is_some q.rest)
    where
      by : (b : Bool) → length {A = ℕ} (if b then 4 ∷ [] else []) ≤ 1
      by true = omega arith
      by false = omega arith

  entry_costs : (body : ℕ) (extra : Extra) (q : FlatProcedure) → full (entry names at program body extra q) ≤ 339 + 31 * length (homes q)
  entry_costs body extra q =
      let handed : List ℕ = registers_from 7 (length q.required) ++ (rest_register names at program q ++ entry_extras names at program extra) in
      let last : Steps = call 4 body handed ∷ return_word 4 ∷ [] in
      let loaded : Steps = words_loaded (length q.required) 7 3 0 in
      omega (
        arith,
        append_cost (level_judged names at program q) (rest_made names at program q ++ (method_kept names at program q ++ (loaded ++ last))),
        append_cost (rest_made names at program q) (method_kept names at program q ++ (loaded ++ last)),
        append_cost (method_kept names at program q) (loaded ++ last),
        append_cost loaded last,
        level_cost q,
        rest_cost q,
        method_cost q,
        words_loaded_cost (length q.required) 7 3 0,
        length-append (registers_from 7 (length q.required)) (rest_register names at program q ++ entry_extras names at program extra),
        length-append (rest_register names at program q) (entry_extras names at program extra),
        registers_count 7 (length q.required),
        rest_register_count q,
        entry_extras_count names at program extra,
        length-append q.required (option_to_list q.rest),
      )

  site_taken_cost : (extra : Extra) (q : FlatProcedure) → cost (site_taken names at program extra q) ≤ 14
  site_taken_cost extra q =
      if_there 14 (asks_site q.body) (load_from (site_register names at program extra q) (site_register names at program extra q) site_address)
      (load_from_cost (site_register names at program extra q) (site_register names at program extra q) site_address)

  body_costs :
      (extra : Extra) (q : FlatProcedure) → Fits program q.body
      → full (body_of names at program extra q) ≤ 69 + 47 * length (homes q) + form_words q.body
  body_costs extra q h =
      let r = site_register names at program extra q in
      let inside : Steps = (lower names at program (scope_of names at program extra q) (r + 1) q.body).value in
      let boxes : Steps = boxes_made (homes q) 0 (r + 1) in
      let last : Steps = return_word (r + 1) ∷ [] in
      let w = form_within names at program (scope_of names at program extra q) (r + 1) q.body h in
      omega (
        arith,
        w.value,
        append_cost (site_taken names at program extra q) (boxes ++ (inside ++ last)),
        append_cost boxes (inside ++ last),
        append_cost inside last,
        site_taken_cost extra q,
        boxes_cost (homes q) 0 (r + 1),
        extras_count extra,
      )

  main_costs : (f : FlatForm) → Fits program f → full (main_form names at program f) ≤ 258 + form_words f
  main_costs f h =
      let w = form_within names at program (main_scope names at program) 8 f h in
      omega (arith, w.value, append_cost (lower names at program (main_scope names at program) 8 f).value (return_word 8 ∷ []))

  -- entries and bodies of the program's procedures, and of the functions of its forms

  procedures_cost_within :
      (p : ℕ) (qs : List FlatProcedure) → AllOf (λ q. Fits program q.body) qs
      → all_full (entries_from names at program p qs) + all_full (bodies_from names at program p qs) ≤ sum_by function_words qs
  procedures_cost_within p [] h = omega arith
  procedures_cost_within p (q ∷ qs) h =
      omega (
        arith,
        entry_costs (functions at + p) (extra_of names at program p) q,
        body_costs (extra_of names at program p) q h.0,
        procedures_cost_within (p + 1) qs h.1,
        sum_by-cons function_words q qs,
      )

  lambdas_cost_within :
      (p : ℕ) (qs : List FlatProcedure) → AllOf (λ q. Fits program q.body) qs
      → all_full (lambda_entries_from names at program p qs) + all_full (lambda_bodies names at program qs) ≤ sum_by function_words qs
  lambdas_cost_within p [] h = omega arith
  lambdas_cost_within p (q ∷ qs) h =
      omega (
        arith,
        entry_costs (functions at + p) itself q,
        body_costs itself q h.0,
        lambdas_cost_within (p + 1) qs h.1,
        sum_by-cons function_words q qs,
      )

  -- main forms and the start

  mains_cost :
      (fs : List FlatForm) → AllOf (Fits program) fs
      → all_full (map (main_form names at program) fs) + 40 * length fs ≤ sum_by main_words fs
  mains_cost [] h = omega arith
  mains_cost (f ∷ fs) h = omega (arith, main_costs f h.0, mains_cost fs h.1, sum_by-cons main_words f fs)

  mains_called_cost : (n : ℕ) (fs : List FlatForm) → cost (mains_called names at program n fs) ≡ 40 * length fs
  mains_called_cost n [] = omega arith
  mains_called_cost n (f ∷ fs) = let h = mains_called_cost (n + 1) fs in omega (arith, h)

  start_cost : full (start names at program) ≡ 32 + 40 * length program.main
  start_cost =
      let called : Steps = mains_called names at program (mains_from names at program) program.main in
      omega (arith, append_cost called (halt_with 0 ∷ []), mains_called_cost (mains_from names at program) program.main)

  -- all together
  all_cost : ProgramFits program → all_full (lowered names at program) ≤ program_words program
  unfolding lowered
  all_cost h =
      let entries = entries_from names at program 0 program.procedures in
      let lambda_entries = lambda_entries_from names at program (length program.procedures) program.lambdas in
      let bodies = bodies_from names at program 0 program.procedures in
      let lambda_ones = lambda_bodies names at program program.lambdas in
      let fixed = primitives names at program in
      let mains = map (main_form names at program) program.main in
      let last : List MidProcedure = start names at program ∷ [] in
      omega (
        arith,
        both_cost entries (lambda_entries ++ (bodies ++ (lambda_ones ++ (fixed ++ (routines names at program ++ (mains ++ last)))))),
        both_cost lambda_entries (bodies ++ (lambda_ones ++ (fixed ++ (routines names at program ++ (mains ++ last))))),
        both_cost bodies (lambda_ones ++ (fixed ++ (routines names at program ++ (mains ++ last)))),
        both_cost lambda_ones (fixed ++ (routines names at program ++ (mains ++ last))),
        both_cost fixed (routines names at program ++ (mains ++ last)),
        both_cost (routines names at program) (mains ++ last),
        both_cost mains last,
        procedures_cost_within 0 program.procedures h.procedures,
        lambdas_cost_within (length program.procedures) program.lambdas h.lambdas,
        primitives_cost names at program,
        routines_cost names at program,
        mains_cost program.main h.main,
        start_cost,
        sum_by-append function_words program.procedures program.lambdas,
      )

-- **the law of the sizes of code**
pub law_of_code_sizes : LawOfCodeSizes
law_of_code_sizes names at program h = all_cost names at program h
