-- Lines with names in the place of their registers. A register may have several names, one after the other, so that each has a place of its own: a
-- line reads a register by a name, and gives its word to a name.
use Rattle.std.specs.Prelude.{◌≡◌, ◌≢◌, ◌⊎◌, ◌<◌, ℕ, ◌+◌, ◌==◌, Bool, true, List, [], ◌∷◌, map, length, slice_get, Option, Some, None, if◌then◌else◌}
use Rattle.std.specs.List.{list_any}
use Rattle.mid_code.specs.declared.operation.Callee.{Callee}
use Rattle.mid_code.specs.declared.operation.Callee.TheVariants.{Procedure, Word}
use Rattle.mid_code.specs.declared.operation.Operation.{Operation}
use Rattle.mid_code.specs.declared.operation.Operation.TheVariants as operation
use Rattle.mid_code.specs.declared.operation.Test.{Test}
use Rattle.mid_lines.specs.declared.line.Line.{Line}
use Rattle.mid_lines.specs.declared.line.Line.TheVariants.{Do, Branch, Switch, Jump, Lay, Landed, GiveBack, Lend, GiveBackLent, Return, Cut, Halt, Unhandled}
use Rattle.back_places.specs.declared.place.Place.{Place}
use Rattle.back_places.specs.declared.place.Place.TheVariants.{InRegister}
use Rattle.back_places.specs.Places.{argument_register}
use Rattle.back_allocation.specs.LineSteps.{line_reads, line_gives}

-- a line with these names, of the registers that it reads and of the one to which it gives a word
module _ (read given : ℕ → ℕ) where
  abbrev pub named_callee : Callee → Callee
  named_callee (Procedure n) = Procedure n
  named_callee (Word r) = Word (read r)

  abbrev pub named_operation : Operation → Operation
  named_operation (operation.Move to from) = operation.Move (given to) (read from)
  named_operation (operation.Constant to word) = operation.Constant (given to) word
  named_operation (operation.Compute to which first second) = operation.Compute (given to) which (read first) (read second)
  named_operation (operation.Load to base offset) = operation.Load (given to) (read base) offset
  named_operation (operation.Store from base offset) = operation.Store (read from) (read base) offset
  named_operation (operation.Request to words) = operation.Request (given to) (read words)
  named_operation (operation.Draw to base offset) = operation.Draw (given to) (read base) offset
  named_operation (operation.Put from) = operation.Put (read from)
  named_operation (operation.Get to) = operation.Get (given to)
  named_operation (operation.Call to callee arguments) = operation.Call (given to) (named_callee callee) (map read arguments)

  abbrev pub named_test : Test → Test
  named_test t = record t { first = read t.first; second = read t.second }

  abbrev pub named_line : Line → Line
  named_line (Do o) = Do (named_operation o)
  named_line (Branch t otherwise) = Branch (named_test t) otherwise
  named_line (Switch r targets) = Switch (read r) targets
  named_line (Jump to) = Jump to
  named_line (Lay block words landing) = Lay (given block) words landing
  named_line (Landed r) = Landed (given r)
  named_line (GiveBack words) = GiveBack words
  named_line (Lend block words) = Lend (given block) (read words)
  named_line GiveBackLent = GiveBackLent
  named_line (Return r) = Return (read r)
  named_line (Cut block word) = Cut (read block) (read word)
  named_line (Halt r) = Halt (read r)
  named_line (Unhandled class site condition) = Unhandled (read class) (read site) (read condition)

-- the name by which a line reads a register: where the register stands among those that it reads, so does its name
abbrev pub name_among : (registers names : List ℕ) → (register : ℕ) → ℕ
name_among [] names v = v
name_among (r ∷ registers) [] v = v
name_among (r ∷ registers) (w ∷ names) v = if r == v then w else name_among registers names v

abbrev pub read_name : (line named : Line) → (register : ℕ) → ℕ
read_name x y v = name_among (line_reads x) (line_reads y) v

-- and the one to which it gives its word
abbrev pub name_or_none : Option ℕ → ℕ
name_or_none None = 0
name_or_none (Some w) = w

abbrev pub given_name : (named : Line) → (register : ℕ) → ℕ
given_name y to = name_or_none (line_gives y)

-- A line with names of its registers: each name is of so many, and has an owner, the register that it is a name of.
pub record IsNaming (owner : (name : ℕ) → ℕ) (names : ℕ) (x y : Line) : Type 0 where
  pub is : y ≡ named_line (read_name x y) (given_name y) x
  pub reads : (v : ℕ) → list_any (λ r. r == v) (line_reads x) ≡ true → (owner (read_name x y v) ≡ v) × (read_name x y v < names)
  pub gives : (to : ℕ) → line_gives x ≡ Some to → (owner (given_name y to) ≡ to) × (given_name y to < names)

-- and all lines of a procedure
pub record AreNamings (owner : (name : ℕ) → ℕ) (names : ℕ) (lines named : List Line) : Type 0 where
  pub count : length named ≡ length lines
  pub each : (line : ℕ) (x y : Line) → slice_get lines line ≡ Some x → slice_get named line ≡ Some y → IsNaming owner names x y

-- the place in which a parameter is passed, where that is a register
abbrev pub IsPassedIn : (parameter : ℕ) → Place → Type 0
IsPassedIn v p = (v < 14) × (p ≡ InRegister (argument_register v))

-- Names say what registers have: where a test tells names that may be alive, no other name of the same register is behind a line that gives a
-- word to a name. The first names are those of registers by themselves, and any other one that is alive at the entry stands where its
-- register is passed: there its word is until it is overwritten, wherever the entry brings it besides.
pub record NamesStand
    (named : List Line) (registers : ℕ) (owner : (name : ℕ) → ℕ) (names : ℕ) (spot : (name : ℕ) → Place) (alive : (name line : ℕ) → Bool) : Type 0 where
  pub alone :
      (line to w : ℕ) (y : Line) → slice_get named line ≡ Some y → line_gives y ≡ Some to → w < names → alive w (line + 1) ≡ true → w ≢ to
      → owner w ≢ owner to
  pub entry : (w : ℕ) → w < names → alive w 0 ≡ true → (w < registers) ⊎ IsPassedIn (owner w) (spot w)
  pub own : (w : ℕ) → w < registers → owner w ≡ w
