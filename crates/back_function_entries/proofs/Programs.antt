-- What a whole program says of the body of a function.
use Rattle.std.proofs.Common.{◌≡◌, inl, inr, ℕ, zero, suc, ◌+◌, Bool, true, false, List, [], ◌∷◌, Option, Some, refl, sym, subst, arith}
use Rattle.std.specs.Prelude.{slice_get, if◌then◌else◌}
use Rattle.base.specs.AllOf.{all_at}
use Rattle.lang_meaning.specs.declared.scope.ExitForm.{ExitForm}
use Rattle.flat_language.specs.declared.place.CapturedKind.{CapturedKind}
use Rattle.flat_language.specs.declared.program.FlatProcedure.{FlatProcedure}
use Rattle.flat_language.specs.FlatExits.{of_function, no_exits, Leads, FunctionsLead}
use Rattle.flat_language.specs.FlatFits.{Fits}
use Rattle.flat_language.specs.FlatNodes.{homes}
use Rattle.flat_language.specs.FlatStanding.{Stands, LambdasStand, ProcedureStands}
use Rattle.flat_language.specs.FlatState.{Captured}
use Rattle.back_lowering.specs.Calls.{is_method}
use Rattle.back_lowering.specs.Placement.{entry_of_lambda, body_of_procedure}
use Rattle.back_lowering.specs.Program.{Extra, nothing, its_method, itself, extra_of, scope_of, body_of, lowered}
use Rattle.back_relation.specs.Setting.{Setting}
use Rattle.back_relation.specs.Worlds.{World}
use Rattle.back_relation.specs.Placed.{Placed}
use Rattle.back_relation.specs.Things.{AreOfKinds, AreMadeBy}
use Rattle.back_relation.specs.Activation.{FormScope}
use Rattle.back_relation.specs.Forms.{FormStands}
use Rattle.back_relation.specs.Procedures.{IsFunction, CapturedFits}
use Rattle.back_relation.specs.Procedures.{BodyPaid}
use Rattle.back_relation.specs.Right.{ProgramIsRight}
use Rattle.back_calling.proofs.Numbers.{numbers_law}

-- where the form of a body stands
abbrev pub body_scope : (setting : Setting) → Extra → FlatProcedure → List CapturedKind → List (Option ExitForm) → (in_procedure : Bool) → FormScope
body_scope setting extra q kinds forms inside = record {
  flat = record { homes = homes q; captured = kinds; exits = 0; in_procedure = inside };
  exits = of_function forms;
  keeps_method = q.keeps_method;
  code = scope_of setting.names setting.at setting.program extra q;
}

pub record BodyStands (setting : Setting) (entry : ℕ) (extra : Extra) (q : FlatProcedure) (cs : List Captured) (w : World) : Type 0 where
  pub kinds : List CapturedKind
  pub forms : List (Option ExitForm)
  pub in_procedure : Bool
  pub first : ℕ
  pub stands : FormStands setting (body_scope setting extra q kinds forms in_procedure) first q.body
  pub of_kinds : AreOfKinds kinds cs
  pub made_by : AreMadeBy w cs forms
  pub paid : BodyPaid setting extra q
  pub there : slice_get (lowered setting.names setting.at setting.program) (body_of_procedure setting.at entry) ≡ Some (body_of setting.names setting.at setting.program extra q)

lambda_stands : (setting : Setting) (n p : ℕ) (qs : List FlatProcedure) (q : FlatProcedure) → LambdasStand setting.program.lambdas n qs → slice_get qs p ≡ Some q
    → Stands setting.program.lambdas (record { homes = homes q; captured = q.captured; exits = 0; in_procedure = false }) (n + p + 1) q.body
lambda_stands setting n p [] q h e = absurd (cc e)
lambda_stands setting n zero (x ∷ qs) q h e =
    let same : x ≡ q = cc e in
    let number : n + 1 ≡ n + 0 + 1 = omega arith in
    subst (λ m. Stands setting.program.lambdas (record { homes = homes q; captured = q.captured; exits = 0; in_procedure = false }) m q.body) number
    (subst (λ (u : FlatProcedure). Stands setting.program.lambdas (record { homes = homes u; captured = u.captured; exits = 0; in_procedure = false }) (n + 1) u.body) same h.0)
lambda_stands setting n (suc p) (x ∷ qs) q h e =
    let number : n + 1 + p + 1 ≡ n + suc p + 1 = omega arith in
    subst (λ m. Stands setting.program.lambdas (record { homes = homes q; captured = q.captured; exits = 0; in_procedure = false }) m q.body) number
    (lambda_stands setting (n + 1) p qs q h.1 e)

pub record LambdaLeads (functions : List (List (Option ExitForm))) (all : List (List (Option ExitForm))) (p : ℕ) (q : FlatProcedure) : Type 0 where
  pub forms : List (Option ExitForm)
  pub there : slice_get all p ≡ Some forms
  pub leads : Leads functions (of_function forms) q.body

lambda_leads : (functions : List (List (Option ExitForm))) (qs : List FlatProcedure) (all : List (List (Option ExitForm))) (p : ℕ) (q : FlatProcedure) → FunctionsLead functions qs all → slice_get qs p ≡ Some q
    → LambdaLeads functions all p q
lambda_leads functions [] all p q h e = absurd (cc e)
lambda_leads functions (x ∷ qs) [] p q h e = absurd h
lambda_leads functions (x ∷ qs) (c ∷ all) zero q h e =
    let same : x ≡ q = cc e in record { forms = c; there = refl; leads = subst (λ (u : FlatProcedure). Leads functions (of_function c) u.body) same h.0 }
lambda_leads functions (x ∷ qs) (c ∷ all) (suc p) q h e =
    let rest = lambda_leads functions qs all p q h.1 e in record { forms = rest.forms; there = rest.there; leads = rest.leads }

module _ (setting : Setting) (right : ProgramIsRight setting) where
  procedure_stands : (entry : ℕ) (q : FlatProcedure) (cs : List Captured) (w : World) → slice_get setting.program.procedures entry ≡ Some q → cs ≡ []
      → BodyStands setting entry (extra_of setting.names setting.at setting.program entry) q cs w
  procedure_stands entry q cs w there none = record {
    kinds = [];
    forms = [];
    in_procedure = true;
    first = 0;
    stands = record {
      stands = all_at (ProcedureStands setting.program.lambdas) setting.program.procedures entry q right.stands.procedures there;
      fits = all_at (λ (u : FlatProcedure). Fits setting.program u.body) setting.program.procedures entry q right.fits.procedures there;
      leads = all_at (λ (u : FlatProcedure). Leads setting.leads.functions no_exits u.body) setting.program.procedures entry q setting.leads.procedures there;
      placed = all_at (λ (u : FlatProcedure). Placed setting u.keeps_method u.body) setting.program.procedures entry q right.placed.procedures there;
      forms_known = refl;
    };
    of_kinds = subst (λ us. AreOfKinds [] us) (sym none) tt;
    made_by = subst (λ us. AreMadeBy w us []) (sym none) tt;
    paid = right.frames_paid.procedures entry q there;
    there = (numbers_law setting).body entry q right.placed.placed there;
  }

  lambda_body_stands : (p : ℕ) (q : FlatProcedure) (cs : List Captured) (w : World) → slice_get setting.program.lambdas p ≡ Some q
      → CapturedFits setting w (entry_of_lambda setting.at p) itself q cs → BodyStands setting (entry_of_lambda setting.at p) itself q cs w
  lambda_body_stands p q cs w there fits =
      let lead = lambda_leads setting.leads.functions setting.program.lambdas setting.leads.functions p q setting.leads.lambdas there in
      record {
        kinds = q.captured;
        forms = lead.forms;
        in_procedure = false;
        first = 0 + p + 1;
        stands = record {
          stands = lambda_stands setting 0 p setting.program.lambdas q right.stands.lambdas there;
          fits = all_at (λ (u : FlatProcedure). Fits setting.program u.body) setting.program.lambdas p q right.fits.lambdas there;
          leads = lead.leads;
          placed = all_at (λ (u : FlatProcedure). Placed setting u.keeps_method u.body) setting.program.lambdas p q right.placed.lambdas there;
          forms_known = refl;
        };
        of_kinds = fits.0;
        made_by = fits.1 p lead.forms refl lead.there;
        paid = all_at (BodyPaid setting itself) setting.program.lambdas p q right.frames_paid.lambdas there;
        there = (numbers_law setting).lambda_body p q right.placed.placed there;
      }

  -- a definition captured nothing
  none_captured : (entry : ℕ) (q : FlatProcedure) (cs : List Captured) (w : World) → CapturedFits setting w entry (extra_of setting.names setting.at setting.program entry) q cs → cs ≡ []
  none_captured entry q cs w h = by (is_method setting.program entry) h
    where
      by : (b : Bool) → CapturedFits setting w entry (if b then its_method else nothing) q cs → cs ≡ []
      by true h = h
      by false h = h

  -- **what is known of a body**
  pub body_stands : (entry : ℕ) (extra : Extra) (q : FlatProcedure) (cs : List Captured) (w : World) → IsFunction setting entry extra q → CapturedFits setting w entry extra q cs
      → BodyStands setting entry extra q cs w
  body_stands entry extra q cs w (inl h) fits =
      subst (λ e. BodyStands setting entry e q cs w) (sym h.1)
      (procedure_stands entry q cs w h.0 (none_captured entry q cs w (subst (λ e. CapturedFits setting w entry e q cs) h.1 fits)))
  body_stands entry extra q cs w (inr h) fits =
      subst (λ e. BodyStands setting entry e q cs w) (sym h.3)
      (subst (λ n. BodyStands setting n itself q cs w) (sym h.2)
      (lambda_body_stands h.0 q cs w h.1
      (subst (λ n. CapturedFits setting w n itself q cs) h.2 (subst (λ e. CapturedFits setting w entry e q cs) h.3 fits))))
