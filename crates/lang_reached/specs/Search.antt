-- The search for what is reached, step by step: what a step marks waits to be looked at.
use Rattle.std.specs.Prelude.{◌≡◌, ◌⊎◌, ◌<◌, ℕ, false, List, [], ◌∷◌, ◌++◌, length, Option, Some, None, flat_map, option_to_list, slice_get}
use Rattle.lang_meaning.specs.declared.program.GenericRow.{GenericRow}
use Rattle.lang_meaning.specs.declared.program.MethodRow.{MethodRow}
use Rattle.lang_meaning.specs.declared.program.ProgramRows.{ProgramRows}
use Rattle.lang_reached.specs.declared.search.Search.{Search}
use Rattle.base.specs.AllOf.{AllOf}
use Rattle.lang_meaning.specs.declared.program.Procedure.{Procedure}
use Rattle.lang_meaning.specs.declared.program.SlotRow.{SlotRow}
use Rattle.lang_meaning.specs.Form.{Form}
use Rattle.lang_rows.specs.Numbered.{AreNumbered}
use Rattle.lang_reached.specs.declared.given.Given.{Given}
use Rattle.lang_reached.specs.LeftOut.{is_marked, KeepsProcedure, KeepsGeneric, KeepsMethods, KeepsItself, KeepsForm}
use Rattle.lang_reached.specs.Mentioned.{AnyOf, OneHas, Mentions, MentionsInside, IsReached}

-- a procedure waits
abbrev pub Waits : ℕ → Search → Type 0
Waits p search = AnyOf (λ q. q ≡ p) search.pending

-- from one search to a later one, in which only what the step brings was marked besides, and waits
pub record Marks (names : List (List ℕ)) (program : ProgramRows) (Brings : ℕ → Type 0) (old new : Search) : Type 0 where
  pub procedures : length new.kept.procedures ≡ length old.kept.procedures
  pub generics : length new.kept.generics ≡ length old.kept.generics
  pub keeps : (p : ℕ) → KeepsProcedure old.kept p → KeepsProcedure new.kept p
  pub keeps_generic : (g : ℕ) → KeepsGeneric old.kept g → KeepsGeneric new.kept g
  pub waits : (p : ℕ) → Waits p old → Waits p new
  pub fresh : (p : ℕ) → KeepsProcedure new.kept p → KeepsProcedure old.kept p ⊎ (Waits p new × Brings p)
  pub waiting : (p : ℕ) → Waits p new → Waits p old ⊎ Brings p
  pub methods :
      (g : ℕ) (row : GenericRow) → slice_get program.generics g ≡ Some row → KeepsGeneric new.kept g
      → KeepsGeneric old.kept g ⊎ KeepsMethods names program new.kept row

-- the rows are the functions of names
abbrev pub IsGiven : Given → Type 0
IsGiven given = AreNumbered given.names.now given.program.now.functions given.rows.now

-- **what is known at each time**: what a procedure that is marked mentions is marked too, or the procedure waits; all that is marked, or waits, is reached
pub record IsSearched (names : List (List ℕ)) (program : ProgramRows) (search : Search) : Type 0 where
  pub procedures : length search.kept.procedures ≡ length program.procedures
  pub bodies :
      (p : ℕ) (q : Procedure) → slice_get program.procedures p ≡ Some q → KeepsProcedure search.kept p
      → Waits p search ⊎ KeepsForm names program search.kept q.body
  pub methods :
      (g : ℕ) (row : GenericRow) → slice_get program.generics g ≡ Some row → KeepsGeneric search.kept g → KeepsMethods names program search.kept row
  pub marked : (p : ℕ) → p < length program.procedures → KeepsProcedure search.kept p → IsReached names program p
  pub waiting : (p : ℕ) → Waits p search → IsReached names program p

-- what was marked stays marked
pub record Stays (old new : Search) : Type 0 where
  pub keeps : (p : ℕ) → KeepsProcedure old.kept p → KeepsProcedure new.kept p
  pub keeps_generic : (g : ℕ) → KeepsGeneric old.kept g → KeepsGeneric new.kept g

-- all methods of a list were marked
pub record MarksMethods (names : List (List ℕ)) (program : ProgramRows) (rows : List MethodRow) (old new : Search) : Type 0 where
  pub marks : Marks names program (OneHas rows) old new
  pub each : AllOf (λ (m : MethodRow). KeepsProcedure new.kept m.procedure) rows

-- what a form mentions was marked: itself, and with all forms inside it; and so of a list
pub record MarksItself (names : List (List ℕ)) (program : ProgramRows) (f : Form) (old new : Search) : Type 0 where
  pub marks : Marks names program (Mentions names program f) old new
  pub keeps : KeepsItself names program new.kept f

pub record MarksForm (names : List (List ℕ)) (program : ProgramRows) (f : Form) (old new : Search) : Type 0 where
  pub marks : Marks names program (MentionsInside names program f) old new
  pub keeps : KeepsForm names program new.kept f

pub record MarksForms (names : List (List ℕ)) (program : ProgramRows) (fs : List Form) (old new : Search) : Type 0 where
  pub marks : Marks names program (λ p. AnyOf (λ f. MentionsInside names program f p) fs) old new
  pub keeps : AllOf (KeepsForm names program new.kept) fs

-- all of these procedures were marked
pub record MarksAll (names : List (List ℕ)) (program : ProgramRows) (ps : List ℕ) (old new : Search) : Type 0 where
  pub marks : Marks names program (λ p. AnyOf (λ q. q ≡ p) ps) old new
  pub keeps : AllOf (KeepsProcedure new.kept) ps

-- the last procedure that waits is taken, where there is one
abbrev pub Takes : Search → Search → Option ℕ → Type 0
Takes old new None = (new ≡ old) × (old.pending ≡ [])
Takes old new (Some p) = (new.kept ≡ old.kept) × (old.pending ≡ new.pending ++ p ∷ [])

-- what the body of a procedure mentions was marked, where it is there
abbrev pub MarksBody : (names : List (List ℕ)) (program : ProgramRows) → Option Procedure → Search → Search → Type 0
MarksBody names program None old new = new ≡ old
MarksBody names program (Some q) old new = MarksForm names program q.body old new

-- the search is on its way, and at its end nothing waits
pub record IsUnderWay (names : List (List ℕ)) (program : ProgramRows) (old new : Search) : Type 0 where
  pub searched : IsSearched names program new
  pub stays : Stays old new

pub record Ends (names : List (List ℕ)) (program : ProgramRows) (old new : Search) : Type 0 where
  pub searched : IsSearched names program new
  pub stays : Stays old new
  pub none : new.pending ≡ []

-- nothing is marked yet, and nothing waits
pub record IsBegun (program : ProgramRows) (search : Search) : Type 0 where
  pub procedures : length search.kept.procedures ≡ length program.procedures
  pub none : (p : ℕ) → p < length program.procedures → is_marked search.kept.procedures p ≡ false
  pub no_generic : (g : ℕ) → g < length program.generics → is_marked search.kept.generics g ≡ false
  pub pending : search.pending ≡ []

-- the procedures of the initforms of slots
abbrev pub slots_bring : List SlotRow → List ℕ
slots_bring slots = flat_map (λ s. option_to_list s.initform) slots
