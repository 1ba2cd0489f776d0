-- What is known of places: facts, that the word of a register is at a place when a line begins, and how they flow from line to line.
use Rattle.std.specs.Prelude.{◌≡◌, ◌≢◌, ◌≤◌, ◌<◌, ◌⊎◌, ℕ, ◌+◌, ◌^◌, true, false, List, [], ◌∷◌, length, slice_get, Some}
use Rattle.mid_code.specs.declared.operation.Callee.{Callee}
use Rattle.mid_code.specs.declared.operation.Callee.TheVariants.{Procedure, Word}
use Rattle.mid_code.specs.declared.operation.Operation.{Operation}
use Rattle.mid_code.specs.declared.operation.Operation.TheVariants as operation
use Rattle.mid_lines.specs.declared.line.Line.{Line}
use Rattle.mid_lines.specs.declared.line.Line.TheVariants.{Do, Branch, Switch, Jump, Lay, Landed, GiveBack, Lend, GiveBackLent, Return, Cut, Halt, Unhandled}
use Rattle.back_places.specs.declared.place.Place.{Place}
use Rattle.back_places.specs.declared.place.Place.TheVariants.{InRegister, InSlot, AsConstant}
use Rattle.back_places.specs.Places.{StaticRecord, with_landing, only_lent, Located, way_at, is_from_stack, argument_register}

-- A place that values may have, in a frame of so many words whose first one is the return address. Registers 0 to 7 and those of
-- environment calls have uses of their own.
abbrev pub IsPlace : (frame : ℕ) → Place → Type 0
IsPlace frame (InRegister r) = (7 < r) × (r < 32) × (r ≢ 10) × (r ≢ 11) × (r ≢ 17)
IsPlace frame (InSlot k) = (0 < k) × (k < frame)
IsPlace frame (AsConstant w) = w < 2 ^ 32

-- a word that is given to one place leaves what is at the other; constants are nowhere
abbrev pub Apart : (kept written : Place) → Type 0
Apart (InRegister r) (InRegister q) = r ≢ q
Apart (InSlot k) (InSlot j) = k ≢ j
Apart p q = Unit {0}

-- what outlasts calls
abbrev pub Outlasts : Place → Type 0
Outlasts (InRegister r) = ⊥
Outlasts (InSlot k) = Unit {0}
Outlasts (AsConstant w) = Unit {0}

-- a place where a word can be given, and a constant where it is given that word
abbrev pub IsSomewhere : Place → Type 0
IsSomewhere (InRegister r) = Unit {0}
IsSomewhere (InSlot k) = Unit {0}
IsSomewhere (AsConstant w) = ⊥

abbrev pub CanHold : Place → (word : ℕ) → Type 0
CanHold (InRegister r) word = Unit {0}
CanHold (InSlot k) word = Unit {0}
CanHold (AsConstant c) word = c ≡ word

-- the register of a call that has the number of the procedure
abbrev pub callee_registers : Callee → List ℕ
callee_registers (Procedure n) = []
callee_registers (Word r) = r ∷ []

-- facts of a program: by procedure, line, register and place
abbrev pub Facts : Type 1
Facts = (number line register : ℕ) → Place → Type 0

module _ (l : Located) (Fact : (number line register : ℕ) → Place → Type 0) where
  -- the registers that a line reads are where it reads them
  abbrev pub Reads : (number line : ℕ) → List ℕ → Type 0
  Reads number line [] = Unit {0}
  Reads number line (v ∷ more) = Fact number line v (l.source number line v) × Reads number line more

  -- From a line to another, at which a word was given to a register: what is known there is of that word, or was known and stays.
  abbrev pub Gives : (number line to next : ℕ) → Type 0
  Gives number line to next =
      (v : ℕ) (p : Place) → Fact number next v p
      → ((v ≡ to) × (p ≡ l.target number line)) ⊎ ((v ≢ to) × Fact number line v p × Apart p (l.target number line))

  -- from a line to another with the same registers
  pub record Keeps (number line next : ℕ) : Type 0 where
    pub facts : (v : ℕ) (p : Place) → Fact number next v p → Fact number line v p
    pub linked : l.linked number next ≡ true → l.linked number line ≡ true
    pub records : l.records number next ≡ l.records number line

  abbrev pub KeepsEach : (number line : ℕ) → (next : List ℕ) → Type 0
  KeepsEach number line [] = Unit {0}
  KeepsEach number line (next ∷ more) = Keeps number line next × KeepsEach number line more

  -- the landings of the records that stand at a line find their facts, wherever a cut comes from
  pub record ToLanding (number line words landing : ℕ) (outside : List StaticRecord) : Type 0 where
    pub facts : (v : ℕ) (p : Place) → Fact number landing v p → Fact number line v p × Outlasts p
    pub unlinked : l.linked number landing ≡ false
    pub records : l.records number landing ≡ with_landing words landing ∷ outside

  abbrev pub ToLandings : (number line : ℕ) → List StaticRecord → Type 0
  ToLandings number line [] = Unit {0}
  ToLandings number line (with_landing words landing ∷ records) = ToLanding number line words landing records × ToLandings number line records
  ToLandings number line (only_lent ∷ records) = ToLandings number line records

  -- an operation that gives a word to a register
  pub record GivesWord (number line to : ℕ) (read : List ℕ) : Type 0 where
    pub reads : Reads number line read
    pub flows : Gives number line to (line + 1)
    pub linked : l.linked number (line + 1) ≡ true → l.linked number line ≡ true
    pub records : l.records number (line + 1) ≡ l.records number line

  -- one that gives none
  pub record OnlyReads (number line : ℕ) (read : List ℕ) : Type 0 where
    pub reads : Reads number line read
    pub keeps : Keeps number line (line + 1)

  -- a call: what is known behind it but its result outlasts calls
  pub record GoodCall (number line to : ℕ) (callee : Callee) (arguments : List ℕ) : Type 0 where
    pub reads : Reads number line arguments
    pub reads_callee : Reads number line (callee_registers callee)
    pub few : length arguments ≤ l.argument_words
    pub flows :
        (v : ℕ) (p : Place) → Fact number (line + 1) v p
        → ((v ≡ to) × (p ≡ l.target number line)) ⊎ ((v ≢ to) × Fact number line v p × Outlasts p × Apart p (l.target number line))
    pub unlinked : l.linked number (line + 1) ≡ false
    pub saves : l.saves number ≡ true
    pub landings : ToLandings number line (l.records number line)
    pub records : l.records number (line + 1) ≡ l.records number line
    pub somewhere : IsSomewhere (l.target number line)

  -- an operation that computes a word, which needs a place
  pub record Computes (number line to : ℕ) (read : List ℕ) : Type 0 where
    pub gives : GivesWord number line to read
    pub somewhere : IsSomewhere (l.target number line)

  abbrev pub GoodOperation : (number line : ℕ) → Operation → Type 0
  GoodOperation number line (operation.Move to from) = Computes number line to (from ∷ [])
  GoodOperation number line (operation.Constant to word) = GivesWord number line to [] × CanHold (l.target number line) word
  GoodOperation number line (operation.Compute to which first second) = Computes number line to (first ∷ second ∷ [])
  GoodOperation number line (operation.Load to base offset) = Computes number line to (base ∷ [])
  GoodOperation number line (operation.Store from base offset) = OnlyReads number line (from ∷ base ∷ [])
  GoodOperation number line (operation.Request to words) = Computes number line to (words ∷ [])
  GoodOperation number line (operation.Draw to base offset) = Computes number line to (base ∷ [])
  GoodOperation number line (operation.Put from) = OnlyReads number line (from ∷ [])
  GoodOperation number line (operation.Get to) = Computes number line to []
  GoodOperation number line (operation.Call to callee arguments) = GoodCall number line to callee arguments

  -- a line behind which one record more stands, whose address is given to a register
  pub record GoodLay (number line block : ℕ) (read : List ℕ) (s : StaticRecord) : Type 0 where
    pub reads : Reads number line read
    pub flows : Gives number line block (line + 1)
    pub linked : l.linked number (line + 1) ≡ true → l.linked number line ≡ true
    pub records : l.records number (line + 1) ≡ s ∷ l.records number line
    pub somewhere : IsSomewhere (l.target number line)

  -- the head of a landing, which gives the word of the cut to a register
  pub record GoodLanded (number line to : ℕ) : Type 0 where
    pub flows : Gives number line to (line + 1)
    pub unlinked : l.linked number (line + 1) ≡ false
    pub saves : l.saves number ≡ true
    pub records : l.records number (line + 1) ≡ l.records number line
    pub somewhere : IsSomewhere (l.target number line)

  -- a record is given back
  pub record GoodGiveBack (number line : ℕ) : Type 0 where
    pub facts : (v : ℕ) (p : Place) → Fact number (line + 1) v p → Fact number line v p
    pub linked : l.linked number (line + 1) ≡ true → l.linked number line ≡ true
    pub record_is : StaticRecord
    pub records : l.records number line ≡ record_is ∷ l.records number (line + 1)

  -- a return, where the frame is found from the stack pointer
  pub record GoodReturn (number line result : ℕ) : Type 0 where
    pub reads : Reads number line (result ∷ [])
    pub link : (l.linked number line ≡ true) ⊎ (l.saves number ≡ true)
    pub way : is_from_stack (way_at l number line) ≡ true

  -- a cut: whatever record of its activation it goes to finds its facts
  pub record GoodCut (number line block word : ℕ) : Type 0 where
    pub reads : Reads number line (block ∷ word ∷ [])
    pub landings : ToLandings number line (l.records number line)
    pub saves : l.saves number ≡ true

  abbrev pub GoodLine : (number line : ℕ) → Line → Type 0
  GoodLine number line (Do o) = GoodOperation number line o
  GoodLine number line (Branch t otherwise) = OnlyReads number line (t.first ∷ t.second ∷ []) × Keeps number line otherwise
  GoodLine number line (Switch r targets) = Reads number line (r ∷ []) × KeepsEach number line targets
  GoodLine number line (Jump to) = Keeps number line to
  GoodLine number line (Lay block words landing) = GoodLay number line block [] (with_landing words landing)
  GoodLine number line (Landed r) = GoodLanded number line r
  GoodLine number line (GiveBack words) = GoodGiveBack number line
  GoodLine number line (Lend block words) = GoodLay number line block (words ∷ []) only_lent
  GoodLine number line GiveBackLent = GoodGiveBack number line
  GoodLine number line (Return r) = GoodReturn number line r
  GoodLine number line (Cut block word) = GoodCut number line block word
  GoodLine number line (Halt r) = Reads number line (r ∷ [])
  GoodLine number line (Unhandled class site condition) = Reads number line (class ∷ site ∷ condition ∷ [])

  -- The entry: parameters stay in the registers where they are passed, or are put into slots, each into one of its own. What is known at the
  -- first line of a register that is no parameter is of no word.
  abbrev pub IsParameterPlace : (i : ℕ) → Place → Type 0
  IsParameterPlace i (InRegister r) = (i < 14) × (r ≡ argument_register i)
  IsParameterPlace i (InSlot k) = Unit {0}
  IsParameterPlace i (AsConstant w) = Unit {0}

  abbrev pub AreParameterPlaces : (i : ℕ) → List Place → Type 0
  AreParameterPlaces i [] = Unit {0}
  AreParameterPlaces i (p ∷ more) = IsParameterPlace i p × AreParameterPlaces (i + 1) more

  abbrev pub AllApart : Place → List Place → Type 0
  AllApart p [] = Unit {0}
  AllApart p (q ∷ more) = Apart p q × AllApart p more

  abbrev pub EachApart : List Place → Type 0
  EachApart [] = Unit {0}
  EachApart (p ∷ more) = AllApart p more × EachApart more

  pub record GoodEntry (number frame parameters : ℕ) : Type 0 where
    pub as_many : length (l.parameters number) ≡ parameters
    pub few : parameters ≤ l.argument_words
    pub places : AreParameterPlaces 0 (l.parameters number)
    pub in_frame : (i : ℕ) (p : Place) → slice_get (l.parameters number) i ≡ Some p → IsPlace frame p
    pub apart : EachApart (l.parameters number)
    pub facts :
        (v : ℕ) (p : Place) → Fact number 0 v p
        → (parameters ≤ v) ⊎ ((v < 14) × (p ≡ InRegister (argument_register v))) ⊎ ((slice_get (l.parameters number) v ≡ Some p) × IsSomewhere p)
    pub no_records : l.records number 0 ≡ []
