-- **A program without what is not reached.** Some procedures and generic functions are kept: at least those that the main forms mention, directly or
-- through others. Of a procedure that is not kept the body is left out; it takes as many arguments as before.
use Rattle.std.specs.Prelude.{◌≡◌, ⊤, ℕ, ◌+◌, Bool, true, List, [], ◌∷◌, Option, Some, None, slice_get, slice_index_or, if◌then◌else◌}
use Rattle.base.specs.AllOf.{AllOf}
use Rattle.lang_meaning.specs.declared.program.LiteralRow.{LiteralRow}
use Rattle.lang_meaning.specs.declared.program.LiteralRow.TheVariants as row
use Rattle.lang_meaning.specs.declared.program.Procedure.{Procedure}
use Rattle.lang_meaning.specs.declared.program.GenericRow.{GenericRow}
use Rattle.lang_meaning.specs.declared.program.MethodRow.{MethodRow}
use Rattle.lang_meaning.specs.declared.program.FunctionRow.{FunctionRow}
use Rattle.lang_meaning.specs.declared.program.Callee.{Callee}
use Rattle.lang_meaning.specs.declared.program.Callee.TheVariants as callee
use Rattle.lang_meaning.specs.declared.program.ProgramRows.{ProgramRows}
use Rattle.lang_meaning.specs.Form.{Form, literal, call, sequence, no_form}
use Rattle.lang_meaning.specs.Inside.{inside_form}
use Rattle.lang_meaning.specs.Literals.{function_row}
use Rattle.lang_meaning.specs.Lookup.{text}
use Rattle.lang_meaning.specs.Reached.{initforms}
use Rattle.lang_reached.specs.declared.kept.Kept.{Kept}

-- a number is marked by its flag; one without a flag is marked too
abbrev pub is_marked : List Bool → ℕ → Bool
is_marked marks n = slice_index_or marks n true

abbrev pub KeepsProcedure : Kept → ℕ → Type 0
KeepsProcedure kept p = is_marked kept.procedures p ≡ true

abbrev pub KeepsGeneric : Kept → ℕ → Type 0
KeepsGeneric kept g = is_marked kept.generics g ≡ true

abbrev pub KeepsCallee : Kept → Callee → Type 0
KeepsCallee kept (callee.Procedure p) = KeepsProcedure kept p
KeepsCallee kept (callee.Generic g) = KeepsGeneric kept g

-- ---- what has to be kept

module _ (names : List (List ℕ)) (program : ProgramRows) (kept : Kept) where
  abbrev pub KeepsRow : Option FunctionRow → Type 0
  KeepsRow None = ⊤
  KeepsRow (Some f) = KeepsCallee kept f.callee

  -- the function of a name, where there is one
  abbrev pub KeepsNamed : ℕ → Type 0
  KeepsNamed n = KeepsRow (function_row names program.functions (text names n))

  abbrev pub KeepsLiteral : Option LiteralRow → Type 0
  KeepsLiteral (Some (row.Function name)) = KeepsNamed name.0
  KeepsLiteral (Some (row.Datum d)) = ⊤
  KeepsLiteral (Some (row.Class c)) = ⊤
  KeepsLiteral None = ⊤

  -- what a form mentions by itself, and with all forms inside it
  abbrev pub KeepsItself : Form → Type 0
  KeepsItself (call n fs) = KeepsNamed n
  KeepsItself (literal i) = KeepsLiteral (slice_get program.literals i)
  KeepsItself f = ⊤

  abbrev pub KeepsForm : Form → Type 0
  KeepsForm f = AllOf KeepsItself (inside_form f)

  abbrev pub KeepsMethods : GenericRow → Type 0
  KeepsMethods g = AllOf (λ (m : MethodRow). KeepsProcedure kept m.procedure) g.methods

  -- what main forms mention, and the procedures of initforms, are kept, and so is what is mentioned in what is kept; a generic function brings
  -- all its methods
  pub record IsClosed : Type 0 where
    pub main : AllOf KeepsForm program.main
    pub initforms : AllOf (KeepsProcedure kept) (initforms program)
    pub bodies : (p : ℕ) (q : Procedure) → slice_get program.procedures p ≡ Some q → KeepsProcedure kept p → KeepsForm q.body
    pub methods : (g : ℕ) (row : GenericRow) → slice_get program.generics g ≡ Some row → KeepsGeneric kept g → KeepsMethods row

-- ---- what is left

-- a procedure with an empty body
abbrev pub emptied : Procedure → Procedure
emptied q = record q { body = sequence no_form }

-- the procedures from a number on
abbrev pub procedures_left : List Bool → ℕ → List Procedure → List Procedure
procedures_left marks n [] = []
procedures_left marks n (q ∷ qs) = (if is_marked marks n then q else emptied q) ∷ procedures_left marks (n + 1) qs

-- the program without the bodies of procedures that are not kept
abbrev pub without_others : Kept → ProgramRows → ProgramRows
without_others kept program = record program { procedures = procedures_left kept.procedures 0 program.procedures }
