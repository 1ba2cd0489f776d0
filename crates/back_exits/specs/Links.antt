-- The search of an exit by its number: a loop of a routine along the links, where numbers fall, with a turn for each exit that it passes.
use Rattle.std.specs.Prelude.{◌≡◌, ◌⊎◌, ℕ, ◌+◌, ◌*◌, ◌^◌, ◌<◌, ◌≤◌, ◌==◌, Bool, false, List, [], ◌∷◌, length, Option, Some}
use Rattle.lang_meaning.specs.State.{Exit}
use Rattle.mid_code.specs.declared.operation.Comparison.TheVariants.{LessUnsigned}
use Rattle.mid_code.specs.declared.operation.Counted.TheVariants.{Turn}
use Rattle.mid_code.specs.declared.program.MidProcedure.{MidProcedure}
use Rattle.mid_code.specs.Meaning.{Task, context_of, exec_step, turns}
use Rattle.mid_code.specs.MidCode.{MidStep, repeat, code_of}
use Rattle.mid_code.specs.State.{Registers, falls, ends, MidState, MidOutcome}
use Rattle.back_lowering.specs.ControlWords.{record_serial, record_link}
use Rattle.back_lowering.specs.Steps.{load, test_of}
use Rattle.back_relation.specs.Worlds.{World, Standing, IsIn, Links, EndsAtEnd, record_of_exit}
use Rattle.back_relation.specs.StackWords.{RecordAt}
use Rattle.back_relation.specs.Walks.{costing}
use Rattle.back_exits.specs.Searches.{Finds, Misses, IsLong}

-- the exit's number is in register 0, the record of a valid exit in 4
abbrev pub along_links : MidStep
along_links = repeat Turn (code_of (load 5 4 record_serial ∷ [])) (test_of LessUnsigned 0 5) (code_of (load 4 4 record_link ∷ []))

-- the registers of the routine, at a record
abbrev pub link_registers : (number word landing at : ℕ) → (r5 r6 : Option ℕ) → Registers
link_registers number word landing at r5 r6 = Some number ∷ Some word ∷ Some landing ∷ Some 0 ∷ Some at ∷ r5 ∷ r6 ∷ []

abbrev pub has_number : ℕ → Exit → Bool
has_number n x = x.number == n

-- the valid exit with the number was found, and its record; or there is none, and the search stopped at a smaller number
pub data NumberSought (number : ℕ) (xs : List Exit) (vs : List Standing) (passed at serial : ℕ) : Type 0 where
  found :
      (x : Exit) (v : Standing) → x.number ≡ number → serial ≡ number → at ≡ v.address → record_of_exit number xs vs ≡ Some v
      → Finds (has_number number) xs x passed → NumberSought number xs vs passed at serial
  missing : (serial == number) ≡ false → passed < length xs → Misses (has_number number) xs → NumberSought number xs vs passed at serial

-- each exit that it passes costs 30, and the last one 20
pub record LinksWalked (procedures : List MidProcedure) (below : Task → MidState → MidOutcome) (n number word landing : ℕ) (r6 : Option ℕ) (y : MidState) (a : ℕ) (r5 : Option ℕ) (cost : ℕ) (xs : List Exit) (vs : List Standing) : Type 0 where
  pub passed : ℕ
  pub at : ℕ
  pub serial : ℕ
  pub total : ℕ
  pub run :
      exec_step (context_of procedures below (turns procedures below n)) along_links (link_registers number word landing a r5 r6) (costing y cost)
      ≡ ends falls (link_registers number word landing at (Some serial) r6) (costing y total)
  pub cost_is : total ≡ cost + 30 * passed + 20
  pub sought : NumberSought number xs vs passed at serial

-- the loop finds what the meaning finds, or the meaning charges more units than there are turns
abbrev pub LawOfLinks : Type 0
LawOfLinks =
    (procedures : List MidProcedure) (below : Task → MidState → MidOutcome) (number word landing : ℕ) (r6 : Option ℕ) (w : World) (y : MidState) (rs : List Standing)
    (xs : List Exit) (vs : List Standing) (n a most : ℕ) (r5 : Option ℕ) (cost : ℕ)
    → length y.arena.memory ≤ 2 ^ 24 → ((r : Standing) → IsIn r rs → RecordAt w y r) → Links rs a most xs vs → EndsAtEnd xs
    → LinksWalked procedures below n number word landing r6 y a r5 cost xs vs ⊎ IsLong (has_number number) xs n
