-- The registers that the code of calls names.
use Rattle.std.proofs.Common.{◌≡◌, ℕ, zero, suc, ◌+◌, ◌-◌, ◌≤◌, Bool, true, false, List, [], ◌∷◌, ◌++◌, Option, Some, None, length, refl, arith}
use Rattle.std.specs.Prelude.{slice_get, is_some, if◌then◌else◌}
use Rattle.std.proofs.lemmas.Bool.Decides.{nat_tests}
use Rattle.base.specs.AllOf.{AllOf, all_both}
use Rattle.lang_meaning.specs.declared.program.GenericRow.{GenericRow}
use Rattle.lang_meaning.specs.declared.program.FunctionRow.{FunctionRow}
use Rattle.lang_meaning.specs.declared.program.Callee.{Callee}
use Rattle.lang_meaning.specs.declared.program.Callee.TheVariants as callee
use Rattle.lang_meaning.specs.Objects.{program_error_class, undefined_function_class}
use Rattle.lang_meaning.specs.Signals.{takes}
use Rattle.flat_language.specs.declared.program.FlatProcedure.{FlatProcedure}
use Rattle.flat_language.specs.declared.program.FlatProgram.{FlatProgram}
use Rattle.back_lowering.specs.Scope.{registers_from}
use Rattle.back_lowering.specs.declared.scope.SitePlace.{SitePlace}
use Rattle.back_lowering.specs.Placement.{symbol_word}
use Rattle.back_lowering.specs.declared.placement.Placement.{Placement}
use Rattle.back_lowering.specs.Sites.{asks_site}
use Rattle.back_lowering.specs.Steps.{Steps}
use Rattle.back_lowering.specs.Calls.{is_method, site_for, no_method, list_of, with_words, enter_body, wrong_number, call_with_rest, call_procedure, call_generic, call_callee, call_name, call_value_code}
use Rattle.back_frames.proofs.Naming.{Names, Range, narrowed, those, none, ◌▸◌, ◌⊹◌, either, constants, computes, loads, stores, requests, calls, blocks}
use Rattle.back_frames.proofs.Surroundings.{SiteAllowed}
use Rattle.back_frames.proofs.LeafNames.{site_names, failing_names, failing_with_names, words_stored_names}

site_for_names : {P : ℕ → Type 0} (asks : Bool) (site : SitePlace) (d t : ℕ) → SiteAllowed P site → P d → P t → Names P (site_for asks site d t)
site_for_names true site d t s a b = site_names site d t s a b
site_for_names false site d t s a b = none

no_method_allowed : (P : ℕ → Type 0) (b : Bool) (t : ℕ) → P t → AllOf P (no_method b t)
no_method_allowed P true t a = (a, (a, (a, tt)))
no_method_allowed P false t a = tt

list_names : {P : ℕ → Type 0} (count d t : ℕ) → Range P d count → P t → P (t + 1) → P (t + 2) → Names P (list_of count d t)
list_names zero d t all a b c = constants a ▸ none
list_names (suc n) d t all a b c =
    list_names n (d + 1) t (narrowed d (suc n) (d + 1) n all (omega arith) (omega arith)) a b c
    ⊹ constants b ▸ requests b b ▸ stores (all d (omega arith) (omega arith)) b ▸ stores a b ▸ constants c ▸ computes a b c ▸ none

module _ (at : Placement) (program : FlatProgram) where
  with_words_names : {P : ℕ → Type 0} (count d : ℕ) (steps : Steps) → Range P d (count + 2) → Names P steps → Names P (with_words at program count d steps)
  with_words_names count d steps all inner =
      let base = all (d + count) (omega arith) (omega arith) in
      blocks base (all d (omega arith) (omega arith))
      (words_stored_names count d (d + count) (d + count + 1) 0 (narrowed d (count + 2) d count all (omega arith) (omega arith)) base
      (all (d + count + 1) (omega arith) (omega arith))
      ⊹ inner)
      none
      ▸ none

  enter_names : {P : ℕ → Type 0} (p : ℕ) (q : FlatProcedure) (variables : List ℕ) (d t : ℕ) (site : SitePlace) → SiteAllowed P site → AllOf P variables
      → P d → P t → P (t + 1) → Names P (enter_body at program p q variables d t site)
  enter_names {P} p q variables d t site s all a b c =
      site_for_names (asks_site q.body) site t (t + 1) s b c
      ⊹ constants b ▸ calls a (all_both P variables (no_method (is_method program p) t) all (no_method_allowed P (is_method program p) t b)) ▸ none

  wrong_names : {P : ℕ → Type 0} (d : ℕ) (site : SitePlace) → SiteAllowed P site → P d → P (d + 1) → Names P (wrong_number at program d site)
  wrong_names d site s a b = calls a tt ▸ failing_names at site d program_error_class s a b

  rest_names : {P : ℕ → Type 0} (p : ℕ) (q : FlatProcedure) (count d : ℕ) (site : SitePlace) → length q.required ≤ count → SiteAllowed P site → Range P d (count + 3)
      → Names P (call_with_rest at program p q count d site)
  rest_names {P} p q count d site few s all =
      let t = all (d + count) (omega arith) (omega arith) in
      calls t tt
      ▸ list_names (count - length q.required) (d + length q.required) (d + count)
      (narrowed d (count + 3) (d + length q.required) (count - length q.required) all (omega arith) (omega arith)) t
      (all (d + count + 1) (omega arith) (omega arith)) (all (d + count + 2) (omega arith) (omega arith))
      ⊹ enter_names p q (registers_from d (length q.required) ++ (d + count) ∷ []) d (d + count + 1) site s
      (all_both P (registers_from d (length q.required)) ((d + count) ∷ [])
      (those d (length q.required) (narrowed d (count + 3) d (length q.required) all (omega arith) (omega arith))) (t, tt))
      (all d (omega arith) (omega arith)) (all (d + count + 1) (omega arith) (omega arith)) (all (d + count + 1 + 1) (omega arith) (omega arith))

  taken : (required : ℕ) (rest : Bool) (count : ℕ) → takes required rest count ≡ true → required ≤ count
  taken required true count e = grind (arith, nat_tests)
  taken required false count e = grind (arith, nat_tests)

  procedure_names : {P : ℕ → Type 0} (p : ℕ) (o : Option FlatProcedure) (count d : ℕ) (site : SitePlace) → SiteAllowed P site → Range P d (count + 3)
      → Names P (call_procedure at program p o count d site)
  procedure_names p None count d site s all = calls (all d (omega arith) (omega arith)) tt ▸ constants (all d (omega arith) (omega arith)) ▸ none
  procedure_names {P} p (Some q) count d site s all = by (takes (length q.required) (is_some q.rest) count) refl
    where
      by : (b : Bool) → takes (length q.required) (is_some q.rest) count ≡ b
          → Names P (if b then (if is_some q.rest then call_with_rest at program p q count d site else enter_body at program p q (registers_from d count) d (d + count) site)
          else wrong_number at program d site)
      by true e =
          either (is_some q.rest) (call_with_rest at program p q count d site) (enter_body at program p q (registers_from d count) d (d + count) site)
          (rest_names p q count d site (taken (length q.required) (is_some q.rest) count e) s all)
          (enter_names p q (registers_from d count) d (d + count) site s (those d count (narrowed d (count + 3) d count all (omega arith) (omega arith)))
          (all d (omega arith) (omega arith)) (all (d + count) (omega arith) (omega arith)) (all (d + count + 1) (omega arith) (omega arith)))
      by false e = wrong_names d site s (all d (omega arith) (omega arith)) (all (d + 1) (omega arith) (omega arith))

  generic_names : {P : ℕ → Type 0} (g : ℕ) (o : Option GenericRow) (count d : ℕ) (site : SitePlace) → SiteAllowed P site → Range P d (count + 3)
      → Names P (call_generic at program g o count d site)
  generic_names g None count d site s all = constants (all d (omega arith) (omega arith)) ▸ none
  generic_names g (Some row) count d site s all =
      let d0 = all d (omega arith) (omega arith) in
      let c0 = all (d + count) (omega arith) (omega arith) in
      let c1 = all (d + count + 1) (omega arith) (omega arith) in
      let c2 = all (d + count + 2) (omega arith) (omega arith) in
      either (takes row.required row.rest count) _ _
      (with_words_names count d _ (narrowed d (count + 3) d (count + 2) all (omega arith) (omega arith))
      (site_names site (d + count + 1) (d + count + 2) s c1 c2 ⊹ constants c1 ▸ loads c1 c1 ▸ constants c2 ▸ calls d0 (c1, (c2, (c0, tt))) ▸ none))
      (failing_names at site d program_error_class s d0 (all (d + 1) (omega arith) (omega arith)))

  pub call_names : {P : ℕ → Type 0} (name : ℕ) (o : Option FunctionRow) (count d : ℕ) (site : SitePlace) → SiteAllowed P site → Range P d (count + 3)
      → Names P (call_name at program name o count d site)
  call_names name None count d site s all =
      failing_with_names at site d undefined_function_class (symbol_word at name) s (all d (omega arith) (omega arith)) (all (d + 1) (omega arith) (omega arith))
  call_names {P} name (Some f) count d site s all = by f.callee
    where
      by : (c : Callee) → Names P (call_callee at program c count d site)
      by (callee.Procedure p) = procedure_names p (slice_get program.procedures p) count d site s all
      by (callee.Generic g) = generic_names g (slice_get program.generics g) count d site s all

  pub call_value_names : {P : ℕ → Type 0} (count d : ℕ) (site : SitePlace) → SiteAllowed P site → Range P d (count + 4) → Names P (call_value_code at program count d site)
  call_value_names count d site s all =
      let d0 = all d (omega arith) (omega arith) in
      let c1 = all (d + 1 + count) (omega arith) (omega arith) in
      let c2 = all (d + count + 2) (omega arith) (omega arith) in
      let c3 = all (d + count + 3) (omega arith) (omega arith) in
      with_words_names count (d + 1) _ (narrowed d (count + 4) (d + 1) (count + 2) all (omega arith) (omega arith))
      (site_names site (d + count + 2) (d + count + 3) s c2 c3 ⊹ constants c2 ▸ calls d0 (d0, (c2, (c1, tt))) ▸ none)
