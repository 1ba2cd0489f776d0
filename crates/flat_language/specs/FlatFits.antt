-- What each flat form says of itself: literals and sites that are there, as many arguments as are taken, and at least one segment
-- in a `tagbody`.
use Rattle.std.specs.Prelude.{◌≡◌, ◌≤◌, ◌<◌, ⊤, length}
use Rattle.base.specs.AllOf.{AllOf}
use Rattle.lang_meaning.specs.Arity.{arity}
use Rattle.flat_language.specs.declared.program.FlatProgram.{FlatProgram}
use Rattle.flat_language.specs.FlatForm.{FlatForm, literal, local, set_local, global, set_global, def_global, clauses, sequence, let_form, make_function, call, call_value, apply, prim, while_form, block, return_from, tagbody, go, catch_form, throw, unwind, dynamic_let, dynamic, set_dynamic, def_dynamic, with_handler, signal_form, continue_form, next_method, has_next, sited}
use Rattle.flat_language.specs.FlatForm.{FlatForms, no_form, form_and, FlatClauses, no_clause, clause_and, FlatBody, no_body, with_body}
use Rattle.flat_language.specs.FlatForm.{FlatBindings, no_binding, binding_and, FlatDynamics, no_dynamic, dynamic_and}
use Rattle.flat_language.specs.FlatNodes.{count_forms}

module _ (program : FlatProgram) where
  abbrev mutual
    pub Fits : FlatForm → Type 0
    Fits (literal i) = i < length program.literals
    Fits (local p) = ⊤
    Fits (set_local p f) = Fits f
    Fits (global name) = ⊤
    Fits (clauses cs) = FitClauses cs
    Fits (sequence fs) = FitForms fs
    Fits (let_form bs body) = FitValues bs × Fits body
    Fits (make_function p parts) = ⊤
    Fits (call name fs) = FitForms fs
    Fits (call_value fs) = 1 ≤ count_forms fs × FitForms fs
    Fits (prim which fs) = count_forms fs ≡ arity which × FitForms fs
    Fits (block body) = Fits body
    Fits (return_from x f) = Fits f
    Fits (tagbody segments) = 1 ≤ count_forms segments × FitForms segments
    Fits (go x segment) = ⊤
    Fits (dynamic_let ds body) = FitDynamics ds × Fits body
    Fits (dynamic name) = ⊤
    Fits (next_method m) = ⊤
    Fits (has_next m) = ⊤
    Fits (sited site f) = 1 ≤ site × site ≤ length program.sites × Fits f
    Fits (set_global name f) = Fits f
    Fits (def_global name f) = Fits f
    Fits (set_dynamic name f) = Fits f
    Fits (def_dynamic name f) = Fits f
    Fits (apply f list) = Fits f × Fits list
    Fits (while_form test body) = Fits test × Fits body
    Fits (catch_form tag body) = Fits tag × Fits body
    Fits (throw tag f) = Fits tag × Fits f
    Fits (unwind f cleanup) = Fits f × Fits cleanup
    Fits (with_handler handler body) = Fits handler × Fits body
    Fits (signal_form condition mark) = Fits condition × Fits mark
    Fits (continue_form condition f) = Fits condition × Fits f

    pub FitForms : FlatForms → Type 0
    FitForms no_form = ⊤
    FitForms (form_and f fs) = Fits f × FitForms fs

    pub FitClauses : FlatClauses → Type 0
    FitClauses no_clause = ⊤
    FitClauses (clause_and test body cs) = Fits test × FitBody body × FitClauses cs

    pub FitBody : FlatBody → Type 0
    FitBody no_body = ⊤
    FitBody (with_body f) = Fits f

    pub FitValues : FlatBindings → Type 0
    FitValues no_binding = ⊤
    FitValues (binding_and h f bs) = Fits f × FitValues bs

    pub FitDynamics : FlatDynamics → Type 0
    FitDynamics no_dynamic = ⊤
    FitDynamics (dynamic_and name f ds) = Fits f × FitDynamics ds

-- all bodies of a program
pub record ProgramFits (program : FlatProgram) : Type 0 where
  pub procedures : AllOf (λ p. Fits program p.body) program.procedures
  pub lambdas : AllOf (λ p. Fits program p.body) program.lambdas
  pub main : AllOf (Fits program) program.main
