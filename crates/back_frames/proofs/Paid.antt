-- Which forms are paid with how many spare words: all with so many, and with a few less those that fit.
use Rattle.std.proofs.Common.{List, [], ◌∷◌, ◌++◌, arith}
use Rattle.base.specs.AllOf.{AllOf, all_both}
use Rattle.flat_language.specs.declared.program.FlatProgram.{FlatProgram}
use Rattle.flat_language.specs.FlatForm.{FlatForm, literal, local, set_local, global, set_global, def_global, clauses, sequence, let_form, make_function, call, call_value, apply, prim, while_form, block, return_from, tagbody, go, catch_form, throw, unwind, dynamic_let, dynamic, set_dynamic, def_dynamic, with_handler, signal_form, continue_form, next_method, has_next, sited}
use Rattle.flat_language.specs.FlatForm.{FlatForms, no_form, form_and, FlatClauses, no_clause, clause_and, FlatBody, no_body, with_body}
use Rattle.flat_language.specs.FlatForm.{FlatBindings, no_binding, binding_and, FlatDynamics, no_dynamic, dynamic_and}
use Rattle.flat_language.specs.FlatFits.{Fits, FitForms, FitClauses, FitBody, FitValues, FitDynamics}
use Rattle.back_frames.proofs.FormsIn.{forms_in, in_forms, in_clauses, in_body, in_values, in_dynamics}
use Rattle.back_frames.proofs.Bounds.{IsPaid}

paid : (f : FlatForm) → IsPaid 58 f
paid (call_value no_form) = omega arith
paid (next_method m) = omega arith
paid f = tt

pub all_paid : (fs : List FlatForm) → AllOf (IsPaid 58) fs
all_paid [] = tt
all_paid (f ∷ fs) = (paid f, all_paid fs)

module _ (program : FlatProgram) where
  abbrev P : FlatForm → Type 0
  P = IsPaid 54

  mutual
    pub fit_paid : (f : FlatForm) → Fits program f → AllOf (IsPaid 54) (forms_in f)
    fit_paid (next_method m) h = (omega arith, tt)
    fit_paid (literal i) h = (tt, tt)
    fit_paid (local p) h = (tt, tt)
    fit_paid (global n) h = (tt, tt)
    fit_paid (make_function p parts) h = (tt, tt)
    fit_paid (go x segment) h = (tt, tt)
    fit_paid (dynamic n) h = (tt, tt)
    fit_paid (has_next m) h = (tt, tt)
    fit_paid (set_local p f) h = (tt, fit_paid f h)
    fit_paid (set_global n f) h = (tt, fit_paid f h)
    fit_paid (def_global n f) h = (tt, fit_paid f h)
    fit_paid (return_from x f) h = (tt, fit_paid f h)
    fit_paid (set_dynamic n f) h = (tt, fit_paid f h)
    fit_paid (def_dynamic n f) h = (tt, fit_paid f h)
    fit_paid (sited site f) h = (tt, fit_paid f h.2)
    fit_paid (block body) h = (tt, fit_paid body h)
    fit_paid (clauses cs) h = (tt, clauses_paid cs h)
    fit_paid (sequence fs) h = (tt, forms_paid fs h)
    fit_paid (call n fs) h = (tt, forms_paid fs h)
    fit_paid (call_value no_form) h = absurd (omega (arith, h.0))
    fit_paid (call_value (form_and f fs)) h = (tt, forms_paid (form_and f fs) h.1)
    fit_paid (prim which fs) h = (tt, forms_paid fs h.1)
    fit_paid (tagbody segments) h = (tt, forms_paid segments h.1)
    fit_paid (let_form bs body) h = (tt, all_both P (in_values bs) (forms_in body) (values_paid bs h.0) (fit_paid body h.1))
    fit_paid (dynamic_let ds body) h = (tt, all_both P (in_dynamics ds) (forms_in body) (dynamics_paid ds h.0) (fit_paid body h.1))
    fit_paid (apply f list) h = (tt, all_both P (forms_in f) (forms_in list) (fit_paid f h.0) (fit_paid list h.1))
    fit_paid (while_form test body) h = (tt, all_both P (forms_in test) (forms_in body) (fit_paid test h.0) (fit_paid body h.1))
    fit_paid (catch_form tag body) h = (tt, all_both P (forms_in tag) (forms_in body) (fit_paid tag h.0) (fit_paid body h.1))
    fit_paid (throw tag f) h = (tt, all_both P (forms_in tag) (forms_in f) (fit_paid tag h.0) (fit_paid f h.1))
    fit_paid (unwind f cleanup) h = (tt, all_both P (forms_in f) (forms_in cleanup) (fit_paid f h.0) (fit_paid cleanup h.1))
    fit_paid (with_handler handler body) h = (tt, all_both P (forms_in handler) (forms_in body) (fit_paid handler h.0) (fit_paid body h.1))
    fit_paid (signal_form condition mark) h = (tt, all_both P (forms_in condition) (forms_in mark) (fit_paid condition h.0) (fit_paid mark h.1))
    fit_paid (continue_form condition f) h = (tt, all_both P (forms_in condition) (forms_in f) (fit_paid condition h.0) (fit_paid f h.1))

    forms_paid : (fs : FlatForms) → FitForms program fs → AllOf (IsPaid 54) (in_forms fs)
    forms_paid no_form h = tt
    forms_paid (form_and f fs) h = all_both P (forms_in f) (in_forms fs) (fit_paid f h.0) (forms_paid fs h.1)

    clauses_paid : (cs : FlatClauses) → FitClauses program cs → AllOf (IsPaid 54) (in_clauses cs)
    clauses_paid no_clause h = tt
    clauses_paid (clause_and test body cs) h =
        all_both P (forms_in test) (in_body body ++ in_clauses cs) (fit_paid test h.0)
        (all_both P (in_body body) (in_clauses cs) (body_paid body h.1) (clauses_paid cs h.2))

    body_paid : (b : FlatBody) → FitBody program b → AllOf (IsPaid 54) (in_body b)
    body_paid no_body h = tt
    body_paid (with_body f) h = fit_paid f h

    values_paid : (bs : FlatBindings) → FitValues program bs → AllOf (IsPaid 54) (in_values bs)
    values_paid no_binding h = tt
    values_paid (binding_and v f bs) h = all_both P (forms_in f) (in_values bs) (fit_paid f h.0) (values_paid bs h.1)

    dynamics_paid : (ds : FlatDynamics) → FitDynamics program ds → AllOf (IsPaid 54) (in_dynamics ds)
    dynamics_paid no_dynamic h = tt
    dynamics_paid (dynamic_and n f ds) h = all_both P (forms_in f) (in_dynamics ds) (fit_paid f h.0) (dynamics_paid ds h.1)
