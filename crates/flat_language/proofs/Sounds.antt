-- Each form of a program can be made flat in its scope.
use Rattle.std.proofs.Common.{ℕ, ◌+◌, List, [], ◌++◌, refl}
use Rattle.base.specs.AllOf.{AllOf}
use Rattle.lang_meaning.specs.declared.scope.ExitForm.TheVariants as around
use Rattle.lang_meaning.specs.declared.scope.LexicalScope.{LexicalScope}
use Rattle.lang_meaning.specs.Counts as core_counts
use Rattle.lang_meaning.specs.Form.{Form, Forms, ClauseForms, MaybeForm, BindingForms, DynamicForms, parameters}
use Rattle.lang_meaning.specs.Form as core
use Rattle.lang_meaning.specs.Meaning.{bound_variables}
use Rattle.lang_meaning.specs.Standing as standing
use Rattle.lang_meaning.specs.Subforms.{forms_list, clause_list, value_list, dynamic_value_list}
use Rattle.flat_language.specs.declared.program.FlatProcedure.{FlatProcedure}
use Rattle.flat_language.specs.Scope.{Scope, with_bound, with_around, kinds_of, seen}
use Rattle.flat_language.specs.Flatten.{functions, functions_of_values, functions_of_dynamics, flat_procedure, body_scope, inner_procedures, procedures_of_forms, procedures_of_clauses, procedures_of_values, procedures_of_dynamics}
use Rattle.flat_language.proofs.Alike.{Sound, SoundForms, SoundClauses, SoundValues, SoundDynamics, CanBeSet, IsKnown}
use Rattle.flat_language.proofs.Fine.{ScopesFit, Fine, itself_true, outer_fine, inner_fine, block_around, segment_around, fit_bound, fit_around, fit_seen, let_fine, lambda_parts, lambda_fine, sets_here}
use Rattle.flat_language.specs.bridge.Counted.{joined, all_counted, values_counted, dynamics_counted}
use Rattle.flat_language.proofs.Numbers.{Placed, placed_left, placed_right, placed_first, placed_rest}

settable : (l : LexicalScope) (s : Scope) (v : ℕ) (f : Form) → ScopesFit l s → Fine l s (core.set_local v f) → CanBeSet s v
settable l s v f fit h =
    let known : IsKnown s v = fit.variables v (itself_true l (core.set_local v f) h.standing) in
    record { known = known.known; there = known.there; free = h.kept v known.known known.there (sets_here v f) }

module _ {lambdas : List FlatProcedure} where
  mutual
    pub sounds : (l : LexicalScope) (s : Scope) (n : ℕ) (f : Form) → ScopesFit l s → Fine l s f → Placed lambdas n (inner_procedures s n f) → Sound lambdas s n f
    sounds l s n (core.literal i) fit h p = tt
    sounds l s n (core.global name) fit h p = tt
    sounds l s n (core.dynamic name) fit h p = tt
    sounds l s n (core.local v) fit h p = fit.variables v (itself_true l (core.local v) h.standing)
    sounds l s n (core.set_local v f) fit h p = (
      settable l s v f fit h,
      sounds l s n f fit (outer_fine l s (core.set_local v f) h).0 p,
    )
    sounds l s n core.next_method fit h p = fit.method (itself_true l core.next_method h.standing)
    sounds l s n core.has_next fit h p = fit.method (itself_true l core.has_next h.standing)
    sounds l s n (core.return_from x f) fit h p = (
      block_around l s fit x (itself_true l (core.return_from x f) h.standing),
      sounds l s n f fit (outer_fine l s (core.return_from x f) h).0 p,
    )
    sounds l s n (core.go x segment) fit h p = segment_around l s fit x segment (itself_true l (core.go x segment) h.standing)
    sounds l s n (core.set_global name f) fit h p = sounds l s n f fit (outer_fine l s (core.set_global name f) h).0 p
    sounds l s n (core.def_global name f) fit h p = sounds l s n f fit (outer_fine l s (core.def_global name f) h).0 p
    sounds l s n (core.set_dynamic name f) fit h p = sounds l s n f fit (outer_fine l s (core.set_dynamic name f) h).0 p
    sounds l s n (core.def_dynamic name f) fit h p = sounds l s n f fit (outer_fine l s (core.def_dynamic name f) h).0 p
    sounds l s n (core.sited site f) fit h p = sounds l s n f fit (outer_fine l s (core.sited site f) h).0 p
    sounds l s n (core.apply f list) fit h p = (
      sounds l s n f fit (outer_fine l s (core.apply f list) h).0 (placed_left (inner_procedures s n f) (inner_procedures s (n + functions f) list) p),
      sounds l s (n + functions f) list fit (outer_fine l s (core.apply f list) h).1.0 (placed_right (inner_procedures s n f) (inner_procedures s (n + functions f) list) (functions f) (all_counted s n f) p),
    )
    sounds l s n (core.while_form test body) fit h p = (
      sounds l s n test fit (outer_fine l s (core.while_form test body) h).0 (placed_left (inner_procedures s n test) (inner_procedures s (n + functions test) body) p),
      sounds l s (n + functions test) body fit (outer_fine l s (core.while_form test body) h).1.0 (placed_right (inner_procedures s n test) (inner_procedures s (n + functions test) body) (functions test) (all_counted s n test) p),
    )
    sounds l s n (core.catch_form tag body) fit h p = (
      sounds l s n tag fit (outer_fine l s (core.catch_form tag body) h).0 (placed_left (inner_procedures s n tag) (inner_procedures s (n + functions tag) body) p),
      sounds l s (n + functions tag) body fit (outer_fine l s (core.catch_form tag body) h).1.0 (placed_right (inner_procedures s n tag) (inner_procedures s (n + functions tag) body) (functions tag) (all_counted s n tag) p),
    )
    sounds l s n (core.throw tag f) fit h p = (
      sounds l s n tag fit (outer_fine l s (core.throw tag f) h).0 (placed_left (inner_procedures s n tag) (inner_procedures s (n + functions tag) f) p),
      sounds l s (n + functions tag) f fit (outer_fine l s (core.throw tag f) h).1.0 (placed_right (inner_procedures s n tag) (inner_procedures s (n + functions tag) f) (functions tag) (all_counted s n tag) p),
    )
    sounds l s n (core.unwind f cleanup) fit h p = (
      sounds l s n f fit (outer_fine l s (core.unwind f cleanup) h).0 (placed_left (inner_procedures s n f) (inner_procedures s (n + functions f) cleanup) p),
      sounds l s (n + functions f) cleanup fit (outer_fine l s (core.unwind f cleanup) h).1.0 (placed_right (inner_procedures s n f) (inner_procedures s (n + functions f) cleanup) (functions f) (all_counted s n f) p),
    )
    sounds l s n (core.with_handler handler body) fit h p = (
      sounds l s n handler fit (outer_fine l s (core.with_handler handler body) h).0 (placed_left (inner_procedures s n handler) (inner_procedures s (n + functions handler) body) p),
      sounds l s (n + functions handler) body fit (outer_fine l s (core.with_handler handler body) h).1.0 (placed_right (inner_procedures s n handler) (inner_procedures s (n + functions handler) body) (functions handler) (all_counted s n handler) p),
    )
    sounds l s n (core.signal_form condition mark) fit h p = (
      sounds l s n condition fit (outer_fine l s (core.signal_form condition mark) h).0 (placed_left (inner_procedures s n condition) (inner_procedures s (n + functions condition) mark) p),
      sounds l s (n + functions condition) mark fit (outer_fine l s (core.signal_form condition mark) h).1.0 (placed_right (inner_procedures s n condition) (inner_procedures s (n + functions condition) mark) (functions condition) (all_counted s n condition) p),
    )
    sounds l s n (core.continue_form condition f) fit h p = (
      sounds l s n condition fit (outer_fine l s (core.continue_form condition f) h).0 (placed_left (inner_procedures s n condition) (inner_procedures s (n + functions condition) f) p),
      sounds l s (n + functions condition) f fit (outer_fine l s (core.continue_form condition f) h).1.0 (placed_right (inner_procedures s n condition) (inner_procedures s (n + functions condition) f) (functions condition) (all_counted s n condition) p),
    )
    sounds l s n (core.sequence fs) fit h p = forms_sound l s n fs fit (outer_fine l s (core.sequence fs) h) p
    sounds l s n (core.call name fs) fit h p = forms_sound l s n fs fit (outer_fine l s (core.call name fs) h) p
    sounds l s n (core.call_value fs) fit h p = forms_sound l s n fs fit (outer_fine l s (core.call_value fs) h) p
    sounds l s n (core.prim which fs) fit h p = forms_sound l s n fs fit (outer_fine l s (core.prim which fs) h) p
    sounds l s n (core.clauses cs) fit h p = clauses_sound l s n cs fit (outer_fine l s (core.clauses cs) h) p
    sounds l s n (core.let_form bs body) fit h p =
        let inside : Scope = with_bound (bound_variables bs) body s in (
          values_sound l s n bs fit (outer_fine l s (core.let_form bs body) h) (placed_left (procedures_of_values s n bs) (inner_procedures inside (n + functions_of_values bs) body) p),
          sounds (standing.with_bound (bound_variables bs) l) inside (n + functions_of_values bs) body
              (fit_bound l s fit (bound_variables bs) body) (let_fine l s bs body h)
              (placed_right (procedures_of_values s n bs) (inner_procedures inside (n + functions_of_values bs) body) (functions_of_values bs) (values_counted s n bs) p),
        )
    sounds l s n (core.lambda required rest body parts) fit h p =
        let inside : Scope = body_scope required rest body (seen s parts) in
        let one : FlatProcedure = flat_procedure (seen s parts) (n + 1) (kinds_of s parts) required rest body in (
          lambda_parts l s fit required rest body parts h,
          placed_first one (inner_procedures inside (n + 1) body) p,
          sounds (standing.with_bound (parameters required rest) (standing.seen parts l)) inside (n + 1) body
              (fit_bound (standing.seen parts l) (seen s parts) (fit_seen l s fit parts) (parameters required rest) body)
              (lambda_fine l s required rest body parts (lambda_parts l s fit required rest body parts h) h)
              (placed_rest one (inner_procedures inside (n + 1) body) p),
        )
    sounds l s n (core.block x body) fit h p =
        sounds (standing.with_around x around.Block l) (with_around x s) n body (fit_around l s fit x around.Block)
        (inner_fine l s (with_around x s) (core.block x body) refl (λ v. refl) (λ v b. refl) h).0 p
    sounds l s n (core.tagbody x segments) fit h p =
        forms_sound (standing.with_around x (around.Tagbody (core_counts.count_forms segments)) l) (with_around x s) n segments (fit_around l s fit x _)
        (inner_fine l s (with_around x s) (core.tagbody x segments) refl (λ v. refl) (λ v b. refl) h) p
    sounds l s n (core.dynamic_let ds body) fit h p = (
      dynamics_sound l s n ds fit (outer_fine l s (core.dynamic_let ds body) h) (placed_left (procedures_of_dynamics s n ds) (inner_procedures s (n + functions_of_dynamics ds) body) p),
      sounds l s (n + functions_of_dynamics ds) body fit
          (inner_fine l s s (core.dynamic_let ds body) refl (λ v. refl) (λ v b. refl) h).0
          (placed_right (procedures_of_dynamics s n ds) (inner_procedures s (n + functions_of_dynamics ds) body) (functions_of_dynamics ds) (dynamics_counted s n ds) p),
    )

    forms_sound : (l : LexicalScope) (s : Scope) (n : ℕ) (fs : Forms) → ScopesFit l s → AllOf (Fine l s) (forms_list fs) → Placed lambdas n (procedures_of_forms s n fs) → SoundForms lambdas s n fs
    forms_sound l s n core.no_form fit h p = tt
    forms_sound l s n (core.form_and f fs) fit h p = (
      sounds l s n f fit h.0 (placed_left (inner_procedures s n f) (procedures_of_forms s (n + functions f) fs) p),
      forms_sound l s (n + functions f) fs fit h.1 (placed_right (inner_procedures s n f) (procedures_of_forms s (n + functions f) fs) (functions f) (all_counted s n f) p),
    )

    values_sound : (l : LexicalScope) (s : Scope) (n : ℕ) (bs : BindingForms) → ScopesFit l s → AllOf (Fine l s) (value_list bs) → Placed lambdas n (procedures_of_values s n bs) → SoundValues lambdas s n bs
    values_sound l s n core.no_binding fit h p = tt
    values_sound l s n (core.binding_and v f bs) fit h p = (
      sounds l s n f fit h.0 (placed_left (inner_procedures s n f) (procedures_of_values s (n + functions f) bs) p),
      values_sound l s (n + functions f) bs fit h.1 (placed_right (inner_procedures s n f) (procedures_of_values s (n + functions f) bs) (functions f) (all_counted s n f) p),
    )

    dynamics_sound : (l : LexicalScope) (s : Scope) (n : ℕ) (ds : DynamicForms) → ScopesFit l s → AllOf (Fine l s) (dynamic_value_list ds) → Placed lambdas n (procedures_of_dynamics s n ds) → SoundDynamics lambdas s n ds
    dynamics_sound l s n core.no_dynamic fit h p = tt
    dynamics_sound l s n (core.dynamic_and name f ds) fit h p = (
      sounds l s n f fit h.0 (placed_left (inner_procedures s n f) (procedures_of_dynamics s (n + functions f) ds) p),
      dynamics_sound l s (n + functions f) ds fit h.1 (placed_right (inner_procedures s n f) (procedures_of_dynamics s (n + functions f) ds) (functions f) (all_counted s n f) p),
    )

    clauses_sound : (l : LexicalScope) (s : Scope) (n : ℕ) (cs : ClauseForms) → ScopesFit l s → AllOf (Fine l s) (clause_list cs) → Placed lambdas n (procedures_of_clauses s n cs) → SoundClauses lambdas s n cs
    clauses_sound l s n core.no_clause fit h p = tt
    clauses_sound l s n (core.clause_and test core.no_body cs) fit h p =
        let first : List FlatProcedure = inner_procedures s n test ++ [] in
        let rest : List FlatProcedure = procedures_of_clauses s (n + (functions test + 0)) cs in (
          sounds l s n test fit h.0 (placed_left (inner_procedures s n test) [] (placed_left first rest p)),
          tt,
          clauses_sound l s (n + (functions test + 0)) cs fit h.1
              (placed_right first rest (functions test + 0) (joined (inner_procedures s n test) [] _ _ (all_counted s n test) refl) p),
        )
    clauses_sound l s n (core.clause_and test (core.with_body f) cs) fit h p =
        let bodies : List FlatProcedure = inner_procedures s (n + functions test) f in
        let first : List FlatProcedure = inner_procedures s n test ++ bodies in
        let rest : List FlatProcedure = procedures_of_clauses s (n + (functions test + functions f)) cs in (
          sounds l s n test fit h.0 (placed_left (inner_procedures s n test) bodies (placed_left first rest p)),
          sounds l s (n + functions test) f fit h.1.0
              (placed_right (inner_procedures s n test) bodies (functions test) (all_counted s n test) (placed_left first rest p)),
          clauses_sound l s (n + (functions test + functions f)) cs fit h.1.1
              (placed_right first rest (functions test + functions f)
              (joined (inner_procedures s n test) bodies _ _ (all_counted s n test) (all_counted s (n + functions test) f)) p),
        )

-- the procedures of a program and of it made flat
