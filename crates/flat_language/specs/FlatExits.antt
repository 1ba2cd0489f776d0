-- Where exits lead (ISO/IEC 13816:2007, 14.8.1): a `return-from` of a flat program leaves a block, and a `go` names a segment that
-- its tagbody has. An exit that a function captured is what it was where the function was made.
use Rattle.std.specs.Prelude.{◌≡◌, ⊤, true, List, [], ◌∷◌, ◌++◌, Option, Some, None, slice_get}
use Rattle.base.specs.AllOf.{AllOf}
use Rattle.lang_meaning.specs.declared.scope.ExitForm.{ExitForm}
use Rattle.lang_meaning.specs.declared.scope.ExitForm.TheVariants.{Block, Tagbody}
use Rattle.lang_meaning.specs.Standing.{is_block, is_segment}
use Rattle.flat_language.specs.declared.place.ExitPlace.{ExitPlace}
use Rattle.flat_language.specs.declared.place.ExitPlace.TheVariants.{Own, Captured}
use Rattle.flat_language.specs.declared.place.FlatCapture.{FlatCapture}
use Rattle.flat_language.specs.declared.place.FlatCapture.TheVariants as part
use Rattle.flat_language.specs.declared.program.FlatProcedure.{FlatProcedure}
use Rattle.flat_language.specs.declared.program.FlatProgram.{FlatProgram}
use Rattle.flat_language.specs.FlatForm.{FlatForm, literal, local, set_local, global, set_global, def_global, clauses, sequence, let_form, make_function, call, call_value, apply, prim, while_form, block, return_from, tagbody, go, catch_form, throw, unwind, dynamic_let, dynamic, set_dynamic, def_dynamic, with_handler, signal_form, continue_form, next_method, has_next, sited}
use Rattle.flat_language.specs.FlatForm.{FlatForms, no_form, form_and, FlatClauses, no_clause, clause_and, FlatBody, no_body, with_body}
use Rattle.flat_language.specs.FlatForm.{FlatBindings, no_binding, binding_and, FlatDynamics, no_dynamic, dynamic_and}
use Rattle.flat_language.specs.FlatNodes.{count_forms}

-- the forms that make the exits which a flat form sees: those around it in its procedure, the outermost one first; and for each
-- thing that the function captured the form that made it, if it is an exit
pub record FlatExits : Type 0 where
  pub own : List ExitForm
  pub captured : List (Option ExitForm)

abbrev pub no_exits : FlatExits
no_exits = record { own = []; captured = [] }

-- the exits of a function's body
abbrev pub of_function : List (Option ExitForm) → FlatExits
of_function captured = record { own = []; captured = captured }

-- an exit more
abbrev pub with_own : ExitForm → FlatExits → FlatExits
with_own a e = record e { own = e.own ++ a ∷ [] }

abbrev pub some_exit : Option (Option ExitForm) → Option ExitForm
some_exit None = None
some_exit (Some a) = a

-- the form that made the exit of a place
abbrev pub made_by : FlatExits → ExitPlace → Option ExitForm
made_by e (Own n) = slice_get e.own n
made_by e (Captured n) = some_exit (slice_get e.captured n)

-- what a function captures, by the places where it is made
abbrev pub exit_of_part : FlatExits → FlatCapture → Option ExitForm
exit_of_part e (part.Variable p) = None
exit_of_part e (part.Exit p) = made_by e p
exit_of_part e (part.Method p) = None

abbrev pub exits_of_parts : FlatExits → List FlatCapture → List (Option ExitForm)
exits_of_parts e [] = []
exits_of_parts e (p ∷ ps) = exit_of_part e p ∷ exits_of_parts e ps

-- forms in a program in which each function captured these exits
module _ (functions : List (List (Option ExitForm))) where
  abbrev mutual
    pub Leads : FlatExits → FlatForm → Type 0
    Leads e (literal i) = ⊤
    Leads e (local p) = ⊤
    Leads e (global name) = ⊤
    Leads e (dynamic name) = ⊤
    Leads e (next_method m) = ⊤
    Leads e (has_next m) = ⊤
    Leads e (make_function p parts) = slice_get functions p ≡ Some (exits_of_parts e parts)
    Leads e (block body) = Leads (with_own Block e) body
    Leads e (return_from x f) = is_block (made_by e x) ≡ true × Leads e f
    Leads e (tagbody segments) = LeadForms (with_own (Tagbody (count_forms segments)) e) segments
    Leads e (go x segment) = is_segment segment (made_by e x) ≡ true
    Leads e (clauses cs) = LeadClauses e cs
    Leads e (sequence fs) = LeadForms e fs
    Leads e (let_form bs body) = LeadValues e bs × Leads e body
    Leads e (call name fs) = LeadForms e fs
    Leads e (call_value fs) = LeadForms e fs
    Leads e (prim which fs) = LeadForms e fs
    Leads e (dynamic_let ds body) = LeadDynamics e ds × Leads e body
    Leads e (set_local p f) = Leads e f
    Leads e (set_global name f) = Leads e f
    Leads e (def_global name f) = Leads e f
    Leads e (set_dynamic name f) = Leads e f
    Leads e (def_dynamic name f) = Leads e f
    Leads e (sited site f) = Leads e f
    Leads e (apply f list) = Leads e f × Leads e list
    Leads e (while_form test body) = Leads e test × Leads e body
    Leads e (catch_form tag body) = Leads e tag × Leads e body
    Leads e (throw tag f) = Leads e tag × Leads e f
    Leads e (unwind f cleanup) = Leads e f × Leads e cleanup
    Leads e (with_handler handler body) = Leads e handler × Leads e body
    Leads e (signal_form condition mark) = Leads e condition × Leads e mark
    Leads e (continue_form condition f) = Leads e condition × Leads e f

    pub LeadForms : FlatExits → FlatForms → Type 0
    LeadForms e no_form = ⊤
    LeadForms e (form_and f fs) = Leads e f × LeadForms e fs

    pub LeadClauses : FlatExits → FlatClauses → Type 0
    LeadClauses e no_clause = ⊤
    LeadClauses e (clause_and test body cs) = Leads e test × LeadBody e body × LeadClauses e cs

    pub LeadBody : FlatExits → FlatBody → Type 0
    LeadBody e no_body = ⊤
    LeadBody e (with_body f) = Leads e f

    pub LeadValues : FlatExits → FlatBindings → Type 0
    LeadValues e no_binding = ⊤
    LeadValues e (binding_and h f bs) = Leads e f × LeadValues e bs

    pub LeadDynamics : FlatExits → FlatDynamics → Type 0
    LeadDynamics e no_dynamic = ⊤
    LeadDynamics e (dynamic_and name f ds) = Leads e f × LeadDynamics e ds

  -- functions, each with what it captured
  abbrev pub FunctionsLead : List FlatProcedure → List (List (Option ExitForm)) → Type 0
  FunctionsLead [] [] = ⊤
  FunctionsLead [] (c ∷ cs) = ⊥
  FunctionsLead (q ∷ qs) [] = ⊥
  FunctionsLead (q ∷ qs) (c ∷ cs) = Leads (of_function c) q.body × FunctionsLead qs cs

-- all bodies of a program: each function captured the same exits wherever it is made
pub record ProgramLeads (program : FlatProgram) : Type 0 where
  pub functions : List (List (Option ExitForm))
  pub procedures : AllOf (λ p. Leads functions no_exits p.body) program.procedures
  pub lambdas : FunctionsLead functions program.lambdas functions
  pub main : AllOf (Leads functions no_exits) program.main
