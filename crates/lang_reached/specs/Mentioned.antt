-- **What is reached**: procedures that main forms mention, or that are those of initforms, directly or through others.
use Rattle.std.specs.Prelude.{◌≡◌, ◌⊎◌, ℕ, List, [], ◌∷◌, Option, Some, None, slice_get}
use Rattle.lang_meaning.specs.declared.program.LiteralRow.{LiteralRow}
use Rattle.lang_meaning.specs.declared.program.LiteralRow.TheVariants as row
use Rattle.lang_meaning.specs.declared.program.Procedure.{Procedure}
use Rattle.lang_meaning.specs.declared.program.GenericRow.{GenericRow}
use Rattle.lang_meaning.specs.declared.program.MethodRow.{MethodRow}
use Rattle.lang_meaning.specs.declared.program.FunctionRow.{FunctionRow}
use Rattle.lang_meaning.specs.declared.program.Callee.{Callee}
use Rattle.lang_meaning.specs.declared.program.Callee.TheVariants as callee
use Rattle.lang_meaning.specs.declared.program.ProgramRows.{ProgramRows}
use Rattle.lang_meaning.specs.Form.{Form, literal, call}
use Rattle.lang_meaning.specs.Inside.{inside_form}
use Rattle.lang_meaning.specs.Literals.{function_row}
use Rattle.lang_meaning.specs.Lookup.{text}
use Rattle.lang_meaning.specs.Reached.{initforms}

-- one of a list has it
abbrev pub AnyOf : {X : Type 0} → (X → Type 0) → List X → Type 0
AnyOf P [] = ⊥
AnyOf P (x ∷ xs) = P x ⊎ AnyOf P xs

-- one of these methods has that procedure
abbrev pub OneHas : List MethodRow → ℕ → Type 0
OneHas methods p = AnyOf (λ (m : MethodRow). m.procedure ≡ p) methods

module _ (names : List (List ℕ)) (program : ProgramRows) where
  -- a generic function brings all its methods
  abbrev pub GenericBrings : Option GenericRow → ℕ → Type 0
  GenericBrings None p = ⊥
  GenericBrings (Some g) p = OneHas g.methods p

  abbrev pub CalleeBrings : Callee → ℕ → Type 0
  CalleeBrings (callee.Procedure q) p = q ≡ p
  CalleeBrings (callee.Generic g) p = GenericBrings (slice_get program.generics g) p

  abbrev pub RowBrings : Option FunctionRow → ℕ → Type 0
  RowBrings None p = ⊥
  RowBrings (Some f) p = CalleeBrings f.callee p

  abbrev pub NameBrings : ℕ → ℕ → Type 0
  NameBrings n p = RowBrings (function_row names program.functions (text names n)) p

  abbrev pub LiteralBrings : Option LiteralRow → ℕ → Type 0
  LiteralBrings (Some (row.Function name)) p = NameBrings name.0 p
  LiteralBrings (Some (row.Datum d)) p = ⊥
  LiteralBrings (Some (row.Class c)) p = ⊥
  LiteralBrings None p = ⊥

  -- a form mentions a procedure itself, or one inside it does
  abbrev pub Mentions : Form → ℕ → Type 0
  Mentions (call n fs) p = NameBrings n p
  Mentions (literal i) p = LiteralBrings (slice_get program.literals i) p
  Mentions f p = ⊥

  abbrev pub MentionsInside : Form → ℕ → Type 0
  MentionsInside f p = AnyOf (λ g. Mentions g p) (inside_form f)

  pub data IsReached : ℕ → Type 0 where
    by_main : (p : ℕ) → AnyOf (λ f. MentionsInside f p) program.main → IsReached p
    by_slot : (p : ℕ) → AnyOf (λ q. q ≡ p) (initforms program) → IsReached p
    by_body : (q : ℕ) (body : Procedure) (p : ℕ) → slice_get program.procedures q ≡ Some body → IsReached q → MentionsInside body.body p → IsReached p
