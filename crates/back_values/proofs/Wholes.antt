-- From points in one scope to all of them.
use Rattle.std.proofs.Common.{◌≡◌, ℕ, ◌+◌, ◌<◌, ◌≤◌, List, [], ◌∷◌, ◌++◌, length, refl, subst, arith, sym, ◌∙◌}
use Rattle.std.proofs.Common.{Bool, true, false}
use Rattle.std.specs.Prelude.{nat_le, if◌then◌else◌}
use Rattle.lang_meaning.specs.Objects.{unbound_variable_class}
use Rattle.lang_meaning.specs.State.{DynamicContext}
use Rattle.flat_language.specs.declared.place.VariablePlace.{VariablePlace}
use Rattle.flat_language.specs.declared.place.VariablePlace.TheVariants.{Slot, SlotBox, CapturedValue, CapturedBox}
use Rattle.flat_language.specs.FlatExits.{FlatExits, LeadForms, LeadValues}
use Rattle.flat_language.specs.FlatFits.{FitForms, FitValues}
use Rattle.flat_language.specs.FlatForm.{FlatForm, FlatBindings, no_binding, binding_and, prim, sited}
use Rattle.flat_language.specs.FlatMeaning.{binding_homes}
use Rattle.flat_language.specs.FlatStanding.{FlatScope, StandForms, StandValues}
use Rattle.flat_language.specs.FlatState.{FlatEnvironment, FlatState}
use Rattle.mid_code.specs.MidCode.{MidStep, code_of}
use Rattle.mid_code.specs.State.{Registers, MidState}
use Rattle.back_lowering.specs.Codes.{lower, lower_bindings, by_value}
use Rattle.back_lowering.specs.Leaves.{boxes_made, variable_from, failing_with}
use Rattle.back_lowering.specs.Placement.{global_address, symbol_word}
use Rattle.mid_arena.specs.Tags.{unbound_word, nil_word}
use Rattle.back_lowering.specs.Registers.{of_step, of_code, enough_for}
use Rattle.back_lowering.specs.Scope.{registers_from}
use Rattle.back_lowering.specs.declared.scope.Scope.{Scope}
use Rattle.back_lowering.specs.Steps.{Steps, constant, move, store, if_equal, load_from, store_to}
use Rattle.back_relation.specs.Setting.{Setting}
use Rattle.back_relation.specs.Worlds.{World, Standing}
use Rattle.back_relation.specs.Activation.{FormScope, with_slots}
use Rattle.back_relation.specs.Forms.{Begins}
use Rattle.back_relation.specs.Placed.{PlacedForms, PlacedValues}
use Rattle.back_relation.specs.Room.{words_for_forms, words_for_values}
use Rattle.back_relation.specs.Points.{Point}
use Rattle.back_relation.proofs.Fitting.{enough_front, enough_behind, registers_front, registers_behind}
use Rattle.back_relation.proofs.Judging.{judging_law}
use Rattle.back_relation.proofs.Points.{does_here}
use Rattle.back_values.proofs.Lists.{arguments_here}
use Rattle.back_values.proofs.Functions.{functions_law}
use Rattle.back_values.proofs.Globals.{globals_law, setting_globals_law, definitions_law}
use Rattle.back_values.specs.Bindings.{forms_of}
use Rattle.back_values.specs.Variables.{KnownPlace}
use Rattle.back_values.proofs.Bindings.{bindings_steps, bindings_law}
use Rattle.back_values.proofs.CapturedWords.{by_functions}
use Rattle.back_values.proofs.SetVariables.{setting_law}
use Rattle.back_values.proofs.Variables.{variables_law}
use Rattle.back_values.specs.Wholes.{PointsKnown, LawOfWholeVariables, LawOfWholeSetting, LawOfWholeBindings, LawOfWholeFunctions, LawOfWholeGlobals, LawOfWholeSettingGlobals, LawOfWholeDefinitions, LawOfWholeJudging, LawOfJudgedForms, IsByValue}
use Rattle.back_values.proofs.Failing.{unbound_built_in, fails_here}

pub step_fits : (s : MidStep) (ss : Steps) (size : ℕ) → enough_for (of_code (code_of (s ∷ ss))) ≤ size → enough_for (of_step s) ≤ size
step_fits s ss size h = let l = enough_front (of_step s) (of_code (code_of ss)) in omega (arith, h, l)

pub rest_fits : (s : MidStep) (ss : Steps) (size : ℕ) → enough_for (of_code (code_of (s ∷ ss))) ≤ size → enough_for (of_code (code_of ss)) ≤ size
rest_fits s ss size h = let l = enough_behind (of_step s) (of_code (code_of ss)) in omega (arith, h, l)

-- a word that is stored names the register that is used
stored_fits : (d address size : ℕ) → enough_for (of_code (code_of (store_to d (d + 1) address))) ≤ size → d + 1 < size
stored_fits d address size h = by (nat_le address 2047) h
  where
    by :
        (b : Bool)
        → enough_for (of_code (code_of (if b then constant (d + 1) 0 ∷ store d (d + 1) address ∷ [] else constant (d + 1) address ∷ store d (d + 1) 0 ∷ []))) ≤ size
        → d + 1 < size
    by true h = omega (arith, h)
    by false h = omega (arith, h)

-- ---- bindings as forms

module _ (setting : Setting) where
  stand_forms : (s : FlatScope) (first : ℕ) (bs : FlatBindings) → StandValues setting.program.lambdas s first bs → StandForms setting.program.lambdas s first (forms_of bs)
  stand_forms s first no_binding h = tt
  stand_forms s first (binding_and x f bs) h = (h.0, stand_forms s first bs h.1)

  fit_forms : (bs : FlatBindings) → FitValues setting.program bs → FitForms setting.program (forms_of bs)
  fit_forms no_binding h = tt
  fit_forms (binding_and x f bs) h = (h.0, fit_forms bs h.1)

  lead_forms : (e : FlatExits) (bs : FlatBindings) → LeadValues setting.leads.functions e bs → LeadForms setting.leads.functions e (forms_of bs)
  lead_forms e no_binding h = tt
  lead_forms e (binding_and x f bs) h = (h.0, lead_forms e bs h.1)

  placed_forms : (s : FormScope) (bs : FlatBindings) → PlacedValues setting s.keeps_method bs → PlacedForms setting s.keeps_method (forms_of bs)
  placed_forms s no_binding h = tt
  placed_forms s (binding_and x f bs) h = (h.0, placed_forms s bs h.1)

  words_forms : (bs : FlatBindings) → words_for_forms setting.names setting.program (forms_of bs) ≡ words_for_values setting.names setting.program bs
  words_forms no_binding = refl
  words_forms (binding_and x f bs) = let inner = words_forms bs in omega (arith, inner)

-- all points are known
pub points_known : (setting : Setting) → PointsKnown setting
points_known setting = record {
  functions = λ s d m size q. by_functions setting q.begins.call.things;
  homes = λ s d m size q. q.begins.activation.home_count ∙ sym q.begins.activation.slot_count;
}

module _ (setting : Setting) (k turns : ℕ) where
  -- a point of its own scope
  abbrev pub point :
      (rs valid : List Standing) (s : FormScope) (d n : ℕ) (w : World) (env : FlatEnvironment) (around : DynamicContext) (z : FlatState) (regs : Registers) (y : MidState)
      → Begins setting rs valid s d n w env around z regs y → Point setting s d n (length regs)
  point rs valid s d n w env around z regs y begins =
      record { rs = rs; valid = valid; w = w; env = env; around = around; z = z; regs = regs; y = y; begins = begins; count = refl }

  known_place : PointsKnown setting → (s : FormScope) (d m size : ℕ) (p : VariablePlace) → KnownPlace setting s d m size p
  known_place known s d m size (Slot i) = tt
  known_place known s d m size (SlotBox i) = tt
  known_place known s d m size (CapturedValue i) = known.functions s d m size
  known_place known s d m size (CapturedBox i) = known.functions s d m size

  pub whole_variables : LawOfWholeVariables setting k turns
  whole_variables p rs valid s d n first w env around z regs y stands begins registers words =
      variables_law setting s d n (length regs) k turns p stands.stands (known_place (points_known setting) s d n (length regs) p) (point rs valid s d n w env around z regs y begins)

  pub whole_setting : LawOfWholeSetting setting k turns
  unfolding lower
  whole_setting p f placed does rs valid s d n first w env around z regs y stands begins registers words =
      let one : Steps = (lower setting.names setting.at setting.program s.code d f).value in
      let others : Steps = variable_from s.code d (d + 1) p in
      setting_law setting s d n (length regs) k turns p f placed stands.stands.0 stands.stands.1 (known_place (points_known setting) s d n (length regs) p) (registers_behind one others (length regs) registers)
      (does_here setting s d n (length regs) k turns f first does (record { stands = stands.stands.2; fits = stands.fits; leads = stands.leads; placed = stands.placed; forms_known = stands.forms_known })
      (registers_front one others (length regs) registers) words)
      (point rs valid s d n w env around z regs y begins)

  pub whole_bindings : LawOfWholeBindings setting k turns
  unfolding lower
  whole_bindings bs body placed all does rs valid s d n first w env around z regs y stands begins registers words =
      let size : ℕ = length regs in
      let many : ℕ = length (binding_homes bs) in
      let values : Steps = lower_bindings setting.names setting.at setting.program s.code d bs in
      let boxes : Steps = boxes_made (binding_homes bs) d (d + many) in
      let inside : FormScope = with_slots (binding_homes bs) (registers_from d many) s in
      let body_steps : Steps = (lower setting.names setting.at setting.program inside.code (d + many) body).value in
      let last : Steps = move d (d + many) ∷ [] in
      let behind_values = registers_behind values (boxes ++ (body_steps ++ last)) size registers in
      let behind_boxes = registers_behind boxes (body_steps ++ last) size behind_values in
      let end_fits = step_fits (move d (d + many)) [] size (registers_behind body_steps last size behind_boxes) in
      let there : d + many < size = omega (arith, end_fits) in
      let values_fit = registers_front values (boxes ++ (body_steps ++ last)) size registers in
      let known : PointsKnown setting = points_known setting in
      bindings_law setting s d n size k turns bs body placed (known.homes s d n size (point rs valid s d n w env around z regs y begins)) there
      (registers_front boxes (body_steps ++ last) size behind_values)
      (arguments_here setting s n size k turns first d (forms_of bs) all (stand_forms setting s.flat first bs stands.stands.0) (fit_forms setting bs stands.fits.0)
      (lead_forms setting s.exits bs stands.leads.0) (placed_forms setting s bs stands.placed.0) stands.forms_known
      (subst (λ ss. enough_for (of_code (code_of ss)) ≤ size) (bindings_steps setting s.code d bs) values_fit) (omega (arith, words, words_forms setting bs)))
      (does_here setting inside (d + many) n size k turns body first does (record { stands = stands.stands.1; fits = stands.fits.1; leads = stands.leads.1; placed = stands.placed.1; forms_known = stands.forms_known })
      (registers_front body_steps last size behind_boxes) (omega (arith, words)))
      (point rs valid s d n w env around z regs y begins)

  pub whole_functions : LawOfWholeFunctions setting k turns
  unfolding lower
  whole_functions p parts placed rs valid s d n first w env around z regs y stands begins registers words =
      let known : PointsKnown setting = points_known setting in
      functions_law setting s d n (length regs) k turns first p parts placed stands.stands stands.leads stands.placed (known.functions s d n (length regs)) registers
      (point rs valid s d n w env around z regs y begins)

  pub whole_globals : LawOfWholeGlobals setting k turns
  unfolding lower
  whole_globals name placed fails rs valid s d n first w env around z regs y stands begins registers words =
      let size : ℕ = length regs in
      let looked : Steps = load_from d d (global_address setting.at name) in
      let failing : Steps = failing_with setting.at s.code.site d unbound_variable_class (symbol_word setting.at name) in
      let tested : Steps = constant (d + 1) unbound_word ∷ if_equal d (d + 1) failing [] ∷ [] in
      let one = step_fits (constant (d + 1) unbound_word) (if_equal d (d + 1) failing [] ∷ []) size (registers_behind looked tested size registers) in
      let there : d + 1 < size = omega (arith, one) in
      globals_law setting s d n size k turns name placed stands.placed.0 there (fails_here setting k turns unbound_variable_class fails unbound_built_in s d n size name stands.placed.1 there words)
      (point rs valid s d n w env around z regs y begins)

  pub whole_setting_globals : LawOfWholeSettingGlobals setting k turns
  unfolding lower
  whole_setting_globals name f placed fails does rs valid s d n first w env around z regs y stands begins registers words =
      let size : ℕ = length regs in
      let value : Steps = (lower setting.names setting.at setting.program s.code d f).value in
      let looked : Steps = load_from (d + 1) (d + 1) (global_address setting.at name) in
      let failing : Steps = failing_with setting.at s.code.site d unbound_variable_class (symbol_word setting.at name) in
      let choice : Steps = if_equal (d + 1) (d + 2) failing (store_to d (d + 1) (global_address setting.at name)) ∷ [] in
      let tested : Steps = constant (d + 2) unbound_word ∷ choice in
      let one = step_fits (constant (d + 2) unbound_word) choice size (registers_behind looked tested size (registers_behind value (looked ++ tested) size registers)) in
      let there : d + 2 < size = omega (arith, one) in
      setting_globals_law setting s d n size k turns name f placed stands.placed.0 there (fails_here setting k turns unbound_variable_class fails unbound_built_in s d n size name stands.placed.1 (omega (arith, there)) (omega (arith, words)))
      (does_here setting s d n size k turns f first does (record { stands = stands.stands; fits = stands.fits; leads = stands.leads; placed = stands.placed.2; forms_known = stands.forms_known })
      (registers_front value (looked ++ tested) size registers) (omega (arith, words)))
      (point rs valid s d n w env around z regs y begins)

  pub whole_definitions : LawOfWholeDefinitions setting k turns
  unfolding lower
  whole_definitions name f placed does rs valid s d n first w env around z regs y stands begins registers words =
      let size : ℕ = length regs in
      let value : Steps = (lower setting.names setting.at setting.program s.code d f).value in
      let stored : Steps = store_to d (d + 1) (global_address setting.at name) in
      let symbol_steps : Steps = constant d (symbol_word setting.at name) ∷ [] in
      let there : d + 1 < size = stored_fits d (global_address setting.at name) size (registers_front stored symbol_steps size (registers_behind value (stored ++ symbol_steps) size registers)) in
      definitions_law setting s d n size k turns name f placed stands.placed.0 stands.placed.1 there
      (does_here setting s d n size k turns f first does (record { stands = stands.stands; fits = stands.fits; leads = stands.leads; placed = stands.placed.2; forms_known = stands.forms_known })
      (registers_front value (stored ++ symbol_steps) size registers) words)
      (point rs valid s d n w env around z regs y begins)

  pub whole_judging : LawOfWholeJudging setting k turns
  whole_judging f same does rs valid s d n first w env around z regs y stands begins registers words =
      let size : ℕ = length regs in
      let value : Steps = (lower setting.names setting.at setting.program s.code d f).value in
      let ready : Steps = constant (d + 1) nil_word ∷ [] in
      let fits : enough_for (of_code (code_of (value ++ ready))) ≤ size =
      subst (λ l. enough_for (of_code (code_of l.judged.ready)) ≤ size) (same s.code d) registers in
      let one = step_fits (constant (d + 1) nil_word) [] size (registers_behind value ready size fits) in
      judging_law setting s d n size k turns f value (omega (arith, one)) (same s.code d)
      (does_here setting s d n size k turns f first does stands (registers_front value ready size fits) words)
      (point rs valid s d n w env around z regs y begins)

by_value_is :
    (setting : Setting) (f : FlatForm) → IsByValue f → (s : Scope) (d : ℕ)
    → lower setting.names setting.at setting.program s d f ≡ by_value d (lower setting.names setting.at setting.program s d f).value
unfolding lower
by_value_is setting (prim which fs) h s d = absurd h
by_value_is setting (sited n f) h s d = absurd h
by_value_is setting f h s d = refl

pub judged_forms : (setting : Setting) (k turns : ℕ) → LawOfJudgedForms setting k turns
judged_forms setting k turns f h does = whole_judging setting k turns f (by_value_is setting f h) does
