-- What calls cost, by how many arguments they have.
use Rattle.std.proofs.Common.{◌≡◌, ℕ, zero, suc, ◌+◌, ◌-◌, ◌*◌, ◌≤◌, Bool, true, false, List, [], ◌∷◌, ◌++◌, Option, Some, None, length, is_some, slice_get, refl, arith, length-append}
use Rattle.std.specs.Prelude.{if◌then◌else◌}
use Rattle.std.proofs.lemmas.Bool.{leb-true}
use Rattle.lang_meaning.specs.declared.program.GenericRow.{GenericRow}
use Rattle.lang_meaning.specs.declared.program.FunctionRow.{FunctionRow}
use Rattle.lang_meaning.specs.declared.program.Callee.{Callee}
use Rattle.lang_meaning.specs.declared.program.Callee.TheVariants as callee
use Rattle.lang_meaning.specs.Objects.{program_error_class, undefined_function_class}
use Rattle.lang_meaning.specs.Signals.{takes}
use Rattle.flat_language.specs.declared.program.FlatProcedure.{FlatProcedure}
use Rattle.flat_language.specs.declared.program.FlatProgram.{FlatProgram}
use Rattle.mid_code.specs.declared.operation.Arithmetic.TheVariants as which
use Rattle.mid_arena.specs.Tags.{cons_tag}
use Rattle.back_lowering.specs.Scope.{registers_from}
use Rattle.back_lowering.specs.declared.scope.SitePlace.{SitePlace}
use Rattle.back_lowering.specs.Placement.{body_of_procedure, symbol_word}
use Rattle.back_lowering.specs.declared.placement.Placement.{Placement}
use Rattle.back_lowering.specs.Routines.{function_routine, generic_routine}
use Rattle.back_lowering.specs.Sites.{asks_site}
use Rattle.back_lowering.specs.Steps.{Steps, constant, compute, load, store, request, call, words_stored}
use Rattle.back_lowering.specs.Leaves.{site_stored, failing}
use Rattle.back_lowering.specs.Calls.{is_method, site_for, no_method, list_of, with_words, enter_body, wrong_number, call_with_rest, call_procedure, call_generic, call_callee, call_name, call_value_code}
use Rattle.back_code_sizes.proofs.Costs.{cost, append_cost, words_stored_cost}
use Rattle.back_code_sizes.proofs.Leaves.{site_cost, failing_cost, failing_with_cost}

pub registers_count : (d n : ℕ) → length (registers_from d n) ≡ n
registers_count d zero = refl
registers_count d (suc n) = let h = registers_count (d + 1) n in omega (arith, h)

site_for_cost : (asks : Bool) (site : SitePlace) (d t : ℕ) → cost (site_for asks site d t) ≤ 20
site_for_cost true site d t = site_cost site d t
site_for_cost false site d t = omega arith

no_method_count : (is : Bool) (t : ℕ) → length (no_method is t) ≤ 3
no_method_count true t = omega arith
no_method_count false t = omega arith

list_cost : (n d t : ℕ) → cost (list_of n d t) ≡ 6 + 58 * n
list_cost zero d t = omega arith
list_cost (suc n) d t =
    omega (
      arith,
      append_cost (list_of n (d + 1) t)
          (constant (t + 1) 2 ∷ request (t + 1) (t + 1) ∷ store d (t + 1) 0 ∷ store t (t + 1) 4
          ∷ constant (t + 2) cons_tag ∷ compute t which.Add (t + 1) (t + 2) ∷ []),
      list_cost n (d + 1) t,
    )

takes_with_rest : (required count : ℕ) → takes required true count ≡ true → required ≤ count
takes_with_rest required count h = leb-true required count h

module _ (at : Placement) (program : FlatProgram) where
  -- words of a block around steps
  pub words_cost : (n d : ℕ) (steps : Steps) → cost (with_words at program n d steps) ≤ 58 + 24 * n + cost steps
  words_cost n d steps =
      omega (arith, append_cost (words_stored n d (d + n) (d + n + 1) 0) steps, words_stored_cost n d (d + n) (d + n + 1) 0)

  pub enter_cost :
      (p : ℕ) (q : FlatProcedure) (variables : List ℕ) (d t : ℕ) (site : SitePlace)
      → cost (enter_body at program p q variables d t site) ≤ 87 + 7 * length variables
  enter_cost p q variables d t site =
      let own = no_method (is_method program p) t in
      omega (
        arith,
        append_cost (site_for (asks_site q.body) site t (t + 1)) (constant t 0 ∷ call d (body_of_procedure at p) (variables ++ own) ∷ []),
        site_for_cost (asks_site q.body) site t (t + 1),
        length-append variables own,
        no_method_count (is_method program p) t,
      )

  wrong_cost : (d : ℕ) (site : SitePlace) → cost (wrong_number at program d site) ≤ 113
  wrong_cost d site = omega (arith, failing_cost at site d program_error_class)

  rest_cost :
      (p : ℕ) (q : FlatProcedure) (count d : ℕ) (site : SitePlace) → length q.required ≤ count
      → cost (call_with_rest at program p q count d site) ≤ 140 + 58 * count
  rest_cost p q count d site h =
      let required = length q.required in
      let variables = registers_from d required ++ (d + count) ∷ [] in
      let entered = enter_body at program p q variables d (d + count + 1) site in
      omega (
        arith,
        h,
        append_cost (list_of (count - required) (d + required) (d + count)) entered,
        list_cost (count - required) (d + required) (d + count),
        enter_cost p q variables d (d + count + 1) site,
        length-append (registers_from d required) ((d + count) ∷ []),
        registers_count d required,
      )

  procedure_call_cost :
      (p : ℕ) (q : Option FlatProcedure) (count d : ℕ) (site : SitePlace) → cost (call_procedure at program p q count d site) ≤ 159 + 58 * count
  procedure_call_cost p None count d site = omega arith
  procedure_call_cost p (Some q) count d site = by (is_some q.rest) (takes (length q.required) (is_some q.rest) count) refl
    where
      by : (more taken : Bool) → takes (length q.required) more count ≡ taken
          → cost (if taken then (if more then call_with_rest at program p q count d site else enter_body at program p q (registers_from d count) d (d + count) site) else wrong_number at program d site)
          ≤ 159 + 58 * count
      by more false e = omega (arith, wrong_cost d site)
      by false true e = omega (arith, enter_cost p q (registers_from d count) d (d + count) site, registers_count d count)
      by true true e = omega (arith, rest_cost p q count d site (takes_with_rest (length q.required) count e))

  generic_call_cost :
      (g : ℕ) (row : Option GenericRow) (count d : ℕ) (site : SitePlace) → cost (call_generic at program g row count d site) ≤ 159 + 58 * count
  generic_call_cost g None count d site = omega arith
  generic_call_cost g (Some row) count d site = by (takes row.required row.rest count)
    where
      asked : Steps
      asked =
          constant (d + count + 1) (at.generics + 4 * g) ∷ load (d + count + 1) (d + count + 1) 0 ∷ constant (d + count + 2) count
          ∷ call d (generic_routine at) ((d + count + 1) ∷ (d + count + 2) ∷ (d + count) ∷ []) ∷ []

      by : (taken : Bool)
          → cost (if taken then with_words at program count d (site_stored site (d + count + 1) (d + count + 2) ++ asked) else failing at site d program_error_class)
          ≤ 159 + 58 * count
      by false = omega (arith, failing_cost at site d program_error_class)
      by true =
          omega (
            arith,
            words_cost count d (site_stored site (d + count + 1) (d + count + 2) ++ asked),
            append_cost (site_stored site (d + count + 1) (d + count + 2)) asked,
            site_cost site (d + count + 1) (d + count + 2),
          )

  pub name_cost :
      (name : ℕ) (f : Option FunctionRow) (count d : ℕ) (site : SitePlace) → cost (call_name at program name f count d site) ≤ 159 + 58 * count
  name_cost name None count d site = omega (arith, failing_with_cost at site d undefined_function_class (symbol_word at name))
  name_cost name (Some f) count d site = by f.callee
    where
      by : (c : Callee) → cost (call_callee at program c count d site) ≤ 159 + 58 * count
      by (callee.Procedure p) = procedure_call_cost p (slice_get program.procedures p) count d site
      by (callee.Generic g) = generic_call_cost g (slice_get program.generics g) count d site

  pub value_call_cost : (count d : ℕ) (site : SitePlace) → cost (call_value_code at program count d site) ≤ 145 + 24 * count
  value_call_cost count d site =
      let asked : Steps = constant (d + count + 2) count ∷ call d (function_routine at) (d ∷ (d + count + 2) ∷ (d + 1 + count) ∷ []) ∷ [] in
      omega (
        arith,
        words_cost count (d + 1) (site_stored site (d + count + 2) (d + count + 3) ++ asked),
        append_cost (site_stored site (d + count + 2) (d + count + 3)) asked,
        site_cost site (d + count + 2) (d + count + 3),
      )
