-- That every name is bound where it stands (ISO/IEC 13816:2007, 11 and 14.8): in the bodies of a program, and in the
-- functions inside them.
use Rattle.std.specs.Prelude.{◌≡◌, ⊤, ℕ, Bool, true, false, List, [], Option, Some, None, slice_get}
use Rattle.std.specs.List.{list_all}
use Rattle.base.specs.AllOf.{AllOf}
use Rattle.lang_meaning.specs.declared.capture.Capture.{Capture}
use Rattle.lang_meaning.specs.declared.program.Procedure.{Procedure}
use Rattle.lang_meaning.specs.declared.program.Callee.{Callee}
use Rattle.lang_meaning.specs.declared.program.Callee.TheVariants as callee
use Rattle.lang_meaning.specs.declared.program.ProgramRows.{ProgramRows}
use Rattle.lang_meaning.specs.declared.scope.LexicalScope.{LexicalScope}
use Rattle.lang_meaning.specs.Form.{Form, lambda, parameters}
use Rattle.lang_meaning.specs.Inside.{inside_form}
use Rattle.lang_meaning.specs.Signals.{variables}
use Rattle.lang_meaning.specs.Standing.{alone, with_bound, seen, is_bound, stands}
use Rattle.lang_meaning.specs.Facts.{knows_next, is_whole}

-- a function is made in a scope where what it captures is bound, and its body stands in the scope of just that and
-- its own variables
pub record FunctionStands (required : List ℕ) (rest : Option ℕ) (body : Form) (parts : List Capture) : Type 0 where
  pub around : LexicalScope
  pub captured : list_all (is_bound around) parts ≡ true
  pub inside : stands (with_bound (parameters required rest) (seen parts around)) body ≡ true

-- a form that is a `lambda` stands so
abbrev pub StandsAsFunction : Form → Type 0
StandsAsFunction (lambda required rest body parts) = FunctionStands required rest body parts
StandsAsFunction f = ⊤

-- a body stands in a scope, and each function inside it stands
pub record IsBoundIn (s : LexicalScope) (body : Form) : Type 0 where
  pub itself : stands s body ≡ true
  pub functions : AllOf StandsAsFunction (inside_form body)

-- the body of a procedure stands where its own variables are bound, and a next method where it may have one
abbrev pub BodyIsBound : Bool → Procedure → Type 0
BodyIsBound in_method p = IsBoundIn (alone (variables p) in_method) p.body

-- a procedure is there, and its body is bound
abbrev pub ProcedureIsBound : Bool → Option Procedure → Type 0
ProcedureIsBound in_method None = ⊥
ProcedureIsBound in_method (Some p) = BodyIsBound in_method p

abbrev pub CalleeIsBound : ProgramRows → Callee → Type 0
CalleeIsBound rows (callee.Procedure p) = ProcedureIsBound false (slice_get rows.procedures p)
CalleeIsBound rows (callee.Generic g) = ⊤

abbrev pub InitformIsBound : ProgramRows → Option ℕ → Type 0
InitformIsBound rows None = ⊤
InitformIsBound rows (Some p) = ProcedureIsBound false (slice_get rows.procedures p)

-- all bodies of a program: those that functions, methods and initforms name, those that nothing names, and the main
-- forms
pub record NamesAreBound (rows : ProgramRows) : Type 0 where
  pub functions : AllOf (λ f. CalleeIsBound rows f.callee) rows.functions
  pub methods : AllOf (λ g. AllOf (λ m. ProcedureIsBound (knows_next m.qualifier) (slice_get rows.procedures m.procedure)) g.methods) rows.generics
  pub initforms : AllOf (λ c. AllOf (λ s. InitformIsBound rows s.initform) c.slots) rows.classes
  pub procedures : AllOf (λ p. (in_method : Bool) × BodyIsBound in_method p) rows.procedures
  pub main : AllOf (λ f. IsBoundIn (alone [] false) f) rows.main

-- the law of names
abbrev pub LawOfNames : Type 0
LawOfNames = (rows : ProgramRows) → is_whole rows ≡ true → NamesAreBound rows
