-- What the code of a flat program may rest on: each place is there and of its kind where it is named, a captured value is
-- never set, and a function has a number above that of the function in which it is made.
use Rattle.std.specs.Prelude.{◌≡◌, ◌≤◌, ◌<◌, ⊤, ℕ, ◌+◌, Bool, true, false, List, [], ◌∷◌, ◌++◌, Some, slice_get}
use Rattle.base.specs.AllOf.{AllOf}
use Rattle.flat_language.specs.declared.place.CapturedKind.{CapturedKind}
use Rattle.flat_language.specs.declared.place.CapturedKind.TheVariants as kind
use Rattle.flat_language.specs.declared.place.Home.{Home}
use Rattle.flat_language.specs.declared.place.Home.TheVariants as home
use Rattle.flat_language.specs.declared.place.VariablePlace.{VariablePlace}
use Rattle.flat_language.specs.declared.place.VariablePlace.TheVariants.{Slot, SlotBox, CapturedValue, CapturedBox}
use Rattle.flat_language.specs.declared.place.ExitPlace.{ExitPlace}
use Rattle.flat_language.specs.declared.place.ExitPlace.TheVariants as exit_place
use Rattle.flat_language.specs.declared.place.MethodPlace.{MethodPlace}
use Rattle.flat_language.specs.declared.place.MethodPlace.TheVariants as method_place
use Rattle.flat_language.specs.declared.place.FlatCapture.{FlatCapture}
use Rattle.flat_language.specs.declared.place.FlatCapture.TheVariants as part
use Rattle.flat_language.specs.declared.program.FlatProcedure.{FlatProcedure}
use Rattle.flat_language.specs.declared.program.FlatProgram.{FlatProgram}
use Rattle.flat_language.specs.FlatForm.{FlatForm, literal, local, set_local, global, set_global, def_global, clauses, sequence, let_form, make_function, call, call_value, apply, prim, while_form, block, return_from, tagbody, go, catch_form, throw, unwind, dynamic_let, dynamic, set_dynamic, def_dynamic, with_handler, signal_form, continue_form, next_method, has_next, sited}
use Rattle.flat_language.specs.FlatForm.{FlatForms, no_form, form_and, FlatClauses, no_clause, clause_and, FlatBody, no_body, with_body}
use Rattle.flat_language.specs.FlatForm.{FlatBindings, no_binding, binding_and, FlatDynamics, no_dynamic, dynamic_and}
use Rattle.flat_language.specs.FlatMeaning.{binding_homes}
use Rattle.flat_language.specs.FlatNodes.{homes}
use Rattle.flat_language.specs.FlatState.{kind_of_place}

-- where a flat form stands: the homes of the slots that have their values there, what the function captured, how many blocks and
-- tagbodies are around, and whether it is the body of a procedure
pub record FlatScope : Type 0 where
  pub homes : List Home
  pub captured : List CapturedKind
  pub exits : ℕ
  pub in_procedure : Bool

abbrev pub with_homes : List Home → FlatScope → FlatScope
with_homes hs s = record s { homes = s.homes ++ hs }

abbrev pub with_exit : FlatScope → FlatScope
with_exit s = record s { exits = s.exits + 1 }

-- places
abbrev pub VariableStands : FlatScope → VariablePlace → Type 0
VariableStands s (Slot n) = slice_get s.homes n ≡ Some home.Slot
VariableStands s (SlotBox n) = slice_get s.homes n ≡ Some home.Boxed
VariableStands s (CapturedValue n) = slice_get s.captured n ≡ Some kind.Value
VariableStands s (CapturedBox n) = slice_get s.captured n ≡ Some kind.Boxed

abbrev pub IsNoCapturedValue : VariablePlace → Type 0
IsNoCapturedValue (Slot n) = ⊤
IsNoCapturedValue (SlotBox n) = ⊤
IsNoCapturedValue (CapturedValue n) = ⊥
IsNoCapturedValue (CapturedBox n) = ⊤

abbrev pub ExitStands : FlatScope → ExitPlace → Type 0
ExitStands s (exit_place.Own n) = n < s.exits
ExitStands s (exit_place.Captured n) = slice_get s.captured n ≡ Some kind.Exit

abbrev pub MethodStands : FlatScope → MethodPlace → Type 0
MethodStands s method_place.Own = s.in_procedure ≡ true
MethodStands s (method_place.Captured n) = slice_get s.captured n ≡ Some kind.Method

-- what a function captures, by the kinds that its procedure says
abbrev pub PartStands : FlatScope → FlatCapture → CapturedKind → Type 0
PartStands s (part.Variable p) k = VariableStands s p × k ≡ kind_of_place p
PartStands s (part.Exit p) k = ExitStands s p × k ≡ kind.Exit
PartStands s (part.Method p) k = MethodStands s p × k ≡ kind.Method

abbrev pub PartsStand : FlatScope → List FlatCapture → List CapturedKind → Type 0
PartsStand s [] [] = ⊤
PartsStand s [] (k ∷ ks) = ⊥
PartsStand s (p ∷ ps) [] = ⊥
PartsStand s (p ∷ ps) (k ∷ ks) = PartStands s p k × PartsStand s ps ks

-- a function of the program, with a number from one on
pub record FunctionStands (lambdas : List FlatProcedure) (s : FlatScope) (first number : ℕ) (parts : List FlatCapture) : Type 0 where
  pub procedure : FlatProcedure
  pub there : slice_get lambdas number ≡ Some procedure
  pub above : first ≤ number
  pub parts_stand : PartsStand s parts procedure.captured

-- forms in which functions have numbers from a first one on
module _ (lambdas : List FlatProcedure) where
  abbrev mutual
    pub Stands : FlatScope → ℕ → FlatForm → Type 0
    Stands s first (literal i) = ⊤
    Stands s first (global name) = ⊤
    Stands s first (dynamic name) = ⊤
    Stands s first (local p) = VariableStands s p
    Stands s first (set_local p f) = VariableStands s p × IsNoCapturedValue p × Stands s first f
    Stands s first (clauses cs) = StandClauses s first cs
    Stands s first (sequence fs) = StandForms s first fs
    Stands s first (let_form bs body) = StandValues s first bs × Stands (with_homes (binding_homes bs) s) first body
    Stands s first (make_function p parts) = FunctionStands lambdas s first p parts
    Stands s first (call name fs) = StandForms s first fs
    Stands s first (call_value fs) = StandForms s first fs
    Stands s first (prim which fs) = StandForms s first fs
    Stands s first (block body) = Stands (with_exit s) first body
    Stands s first (return_from x f) = ExitStands s x × Stands s first f
    Stands s first (tagbody segments) = StandForms (with_exit s) first segments
    Stands s first (go x segment) = ExitStands s x
    Stands s first (dynamic_let ds body) = StandDynamics s first ds × Stands s first body
    Stands s first (next_method m) = MethodStands s m
    Stands s first (has_next m) = MethodStands s m
    Stands s first (set_global name f) = Stands s first f
    Stands s first (def_global name f) = Stands s first f
    Stands s first (set_dynamic name f) = Stands s first f
    Stands s first (def_dynamic name f) = Stands s first f
    Stands s first (sited site f) = Stands s first f
    Stands s first (apply f list) = Stands s first f × Stands s first list
    Stands s first (while_form test body) = Stands s first test × Stands s first body
    Stands s first (catch_form tag body) = Stands s first tag × Stands s first body
    Stands s first (throw tag f) = Stands s first tag × Stands s first f
    Stands s first (unwind f cleanup) = Stands s first f × Stands s first cleanup
    Stands s first (with_handler handler body) = Stands s first handler × Stands s first body
    Stands s first (signal_form condition mark) = Stands s first condition × Stands s first mark
    Stands s first (continue_form condition f) = Stands s first condition × Stands s first f

    pub StandForms : FlatScope → ℕ → FlatForms → Type 0
    StandForms s first no_form = ⊤
    StandForms s first (form_and f fs) = Stands s first f × StandForms s first fs

    pub StandClauses : FlatScope → ℕ → FlatClauses → Type 0
    StandClauses s first no_clause = ⊤
    StandClauses s first (clause_and test body cs) = Stands s first test × StandBody s first body × StandClauses s first cs

    pub StandBody : FlatScope → ℕ → FlatBody → Type 0
    StandBody s first no_body = ⊤
    StandBody s first (with_body f) = Stands s first f

    pub StandValues : FlatScope → ℕ → FlatBindings → Type 0
    StandValues s first no_binding = ⊤
    StandValues s first (binding_and h f bs) = Stands s first f × StandValues s first bs

    pub StandDynamics : FlatScope → ℕ → FlatDynamics → Type 0
    StandDynamics s first no_dynamic = ⊤
    StandDynamics s first (dynamic_and name f ds) = Stands s first f × StandDynamics s first ds

  -- the body of a procedure, which captured nothing; and that of a function, with the numbers of the functions in it above its own
  abbrev pub ProcedureStands : FlatProcedure → Type 0
  ProcedureStands p = Stands (record { homes = homes p; captured = []; exits = 0; in_procedure = true }) 0 p.body

  abbrev pub LambdasStand : ℕ → List FlatProcedure → Type 0
  LambdasStand n [] = ⊤
  LambdasStand n (q ∷ qs) =
      Stands (record { homes = homes q; captured = q.captured; exits = 0; in_procedure = false }) (n + 1) q.body
      × LambdasStand (n + 1) qs

  abbrev pub MainStands : FlatForm → Type 0
  MainStands f = Stands (record { homes = []; captured = []; exits = 0; in_procedure = true }) 0 f

-- all bodies of a program
pub record ProgramStands (program : FlatProgram) : Type 0 where
  pub procedures : AllOf (ProcedureStands program.lambdas) program.procedures
  pub lambdas : LambdasStand program.lambdas 0 program.lambdas
  pub main : AllOf (MainStands program.lambdas) program.main
