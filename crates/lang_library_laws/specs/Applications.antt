-- What the application of a function comes to, with any number of levels and of words.
use Rattle.std.specs.Prelude.{◌≡◌, ◌<◌, ⊤, ℕ, true, zero, suc, List, ◌++◌, Some, slice_get}
use Rattle.base.specs.Data as datum
use Rattle.base.specs.declared.datum.Symbol.{Symbol}
use Rattle.base.specs.declared.place.Place.{Place}
use Rattle.lang_meaning.specs.declared.program.LiteralRow.TheVariants as row
use Rattle.lang_meaning.specs.declared.program.Procedure.{Procedure}
use Rattle.lang_meaning.specs.declared.program.FunctionRow.{FunctionRow}
use Rattle.lang_meaning.specs.declared.program.ProgramRows.{ProgramRows}
use Rattle.lang_meaning.specs.declared.program.Callee.TheVariants as callee
use Rattle.lang_meaning.specs.Values.{Value, nil, integer, character, symbol, object}
use Rattle.lang_meaning.specs.Objects.{Object, string, class_object, output_stream, null_class, integer_class, character_class, symbol_class}
use Rattle.lang_meaning.specs.State.{State, Outcome, value, exit, full, more, Evaluated, Limit, words, unlimited}
use Rattle.lang_meaning.specs.Lookup.{text}
use Rattle.lang_meaning.specs.Literals.{function_row}
use Rattle.lang_meaning.specs.Classes.{class_of_object, is_below}
use Rattle.lang_meaning.specs.InitialHeap.{class_value, literal_value}
use Rattle.lang_meaning.specs.Signals.{Context, Task, Evaluation}
use Rattle.lang_meaning.specs.Meaning.{none_below, context_of, meaning_at}

-- others may stand behind those that were there
pub record IsExtended (X : Type 0) (before after : List X) : Type 0 where
  pub added : List X
  pub is : after ≡ before ++ added

-- a later state, in which these objects and all variables that were there are as they were, nothing was read, and nothing was
-- defined. What is printed by then is that.
pub record KeepsPrinting (IsPrinted : List ℕ → Type 0) (kept : List Object) (before after : State) : Type 0 where
  pub objects : IsExtended Object kept after.store
  pub variables : IsExtended Value before.variables after.variables
  pub printed : IsPrinted after.printed
  pub input : after.input ≡ before.input
  pub globals : after.globals ≡ before.globals
  pub dynamics : after.dynamics ≡ before.dynamics
  pub symbols : after.symbols ≡ before.symbols

-- the same, where nothing is printed
abbrev pub Keeps : List Object → State → State → Type 0
Keeps kept before after = KeepsPrinting (λ printed. printed ≡ before.printed) kept before after

-- an evaluation has a value of which that holds, or it is full or ran out of levels, and that holds then; it makes no transfer
abbrev pub EndsAs : (at_full at_more : State → Type 0) → (Value → State → Type 0) → Outcome → State → Type 0
EndsAs at_full at_more Q (value v) z = Q v z
EndsAs at_full at_more Q (exit e v landing) z = ⊥
EndsAs at_full at_more Q (full asked left) z = at_full z
EndsAs at_full at_more Q more z = at_more z

abbrev pub Ends : (at_full at_more : State → Type 0) → (Value → State → Type 0) → Evaluated → Type 0
Ends at_full at_more Q r = EndsAs at_full at_more Q r.outcome r.state

-- there are only so many words
abbrev pub IsLimited : Limit → Type 0
IsLimited (words w) = ⊤
IsLimited unlimited = ⊥

-- from a state, with so many levels: a value of which that holds in the store behind; or it is full, where words are limited, or
-- runs out of levels, where they are not enough. These objects are kept. With a value all of that text is printed; else what
-- is printed by then may be that.
abbrev pub GivesPrinting : (MayBePrinted : List ℕ → Type 0) → (printed : List ℕ) → List Object → Limit → (levels enough : ℕ) → State
    → (Value → List Object → Type 0) → Evaluated → Type 0
GivesPrinting MayBePrinted printed kept limit levels enough z Q r =
    Ends (λ after. IsLimited limit × KeepsPrinting MayBePrinted kept z after) (λ after. (levels < enough) × KeepsPrinting MayBePrinted kept z after)
    (λ v after. KeepsPrinting (λ text. text ≡ printed) kept z after × Q v after.store) r

-- behind a text a beginning of another one
abbrev pub IsBegun : (before whole : List ℕ) → List ℕ → Type 0
IsBegun before whole text = (begun : List ℕ) × (others : List ℕ) × (text ≡ before ++ begun) × (begun ++ others ≡ whole)

-- with a value that text is printed, and else a beginning of it
abbrev pub Prints : List Object → Limit → (levels enough : ℕ) → State → (whole : List ℕ) → Evaluated → Type 0
Prints kept limit levels enough z whole r =
    GivesPrinting (IsBegun z.printed whole) (z.printed ++ whole) kept limit levels enough z (λ v store. ⊤) r

-- the same, where nothing is printed
abbrev pub GivesKeeping : List Object → Limit → (levels enough : ℕ) → State → (Value → List Object → Type 0) → Evaluated → Type 0
GivesKeeping kept limit levels enough z Q r = GivesPrinting (λ text. text ≡ z.printed) z.printed kept limit levels enough z Q r

-- the same, where all objects that were there are kept
abbrev pub Gives : Limit → (levels enough : ℕ) → State → (Value → List Object → Type 0) → Evaluated → Type 0
Gives limit levels enough z Q r = GivesKeeping z.store limit levels enough z Q r

-- the meaning below a level, and what a form is evaluated in with so many levels
abbrev pub below_level : List (List ℕ) → ProgramRows → Limit → ℕ → Task → Evaluation
below_level names program limit zero = none_below
below_level names program limit (suc k) = meaning_at names program limit k

abbrev pub at_level : List (List ℕ) → ProgramRows → Limit → ℕ → Context
at_level names program limit k = context_of names program limit (below_level names program limit k)

-- the literal is that datum, or the symbol t, which is any symbol here
abbrev pub HasLiteral : ProgramRows → ℕ → datum.Content → Type 0
HasLiteral program id content = (place : Place) × (slice_get program.literals id ≡ Some (row.Datum (datum.item place content)))

abbrev pub HasTruth : ProgramRows → ℕ → Type 0
HasTruth program id = (x : Symbol) × HasLiteral program id (datum.symbol x)

-- the literal is that string, and the object that stands for it is still there as it was made
pub record HasText (names : List (List ℕ)) (program : ProgramRows) (store : List Object) (id : ℕ) (bytes : List ℕ) : Type 0 where
  pub place : Place
  pub number : ℕ
  pub row : slice_get program.literals id ≡ Some (row.Datum (datum.item place (datum.string bytes)))
  pub is : literal_value names program id (datum.item place (datum.string bytes)) ≡ object number
  pub there : slice_get store number ≡ Some (string bytes)

-- the literal is that class, and the object that stands for it is still there
pub record HasClass (names : List (List ℕ)) (program : ProgramRows) (store : List Object) (id : ℕ) (class : ℕ) : Type 0 where
  pub number : ℕ
  pub row : slice_get program.literals id ≡ Some (row.Class class)
  pub is : class_value names program class ≡ object number
  pub there : slice_get store number ≡ Some (class_object class)

-- the value is an instance of that class: its own class is that one, or below it
abbrev pub IsInstanceOf : ProgramRows → (class : ℕ) → List Object → Value → Type 0
IsInstanceOf program class store (object i) =
    (o : Object) × (slice_get store i ≡ Some o) × (is_below program (class_of_object (Some o)) class ≡ true)
IsInstanceOf program class store nil = is_below program null_class class ≡ true
IsInstanceOf program class store (integer n) = is_below program integer_class class ≡ true
IsInstanceOf program class store (character c) = is_below program character_class class ≡ true
IsInstanceOf program class store (symbol x) = is_below program symbol_class class ≡ true

-- the value is the standard output
abbrev pub IsOutput : List Object → Value → Type 0
IsOutput store v = (i : ℕ) × (v ≡ object i) × (slice_get store i ≡ Some output_stream)

-- the name is that of a function which is this procedure
pub record IsNamed (names : List (List ℕ)) (program : ProgramRows) (name : ℕ) (procedure : Procedure) : Type 0 where
  pub row : FunctionRow
  pub number : ℕ
  pub found : function_row names program.functions (text names name) ≡ Some row
  pub callee : row.callee ≡ callee.Procedure number
  pub there : slice_get program.procedures number ≡ Some procedure
