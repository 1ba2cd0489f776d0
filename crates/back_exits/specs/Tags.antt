-- The search of an exit by its kind and its tag: a loop of a routine along the links, with a turn for each exit that it looks at.
use Rattle.std.specs.Prelude.{◌≡◌, ◌⊎◌, ℕ, ◌+◌, ◌*◌, ◌^◌, ◌<◌, ◌≤◌, ◌==◌, Bool, true, false, List, [], ◌∷◌, length, Option, Some}
use Rattle.lang_meaning.specs.State.{Exit, end_exit}
use Rattle.mid_code.specs.declared.program.MidProcedure.{MidProcedure}
use Rattle.mid_code.specs.Arena.{word_at}
use Rattle.mid_code.specs.Meaning.{Task, context_of, exec_step, turns}
use Rattle.mid_code.specs.MidCode.{MidStep}
use Rattle.mid_code.specs.State.{Registers, falls, ends, MidState, MidOutcome}
use Rattle.back_lowering.specs.ControlWords.{record_kind, record_link, record_tag, end_kind}
use Rattle.back_lowering.specs.RoutineCodes.{turns_while}
use Rattle.back_lowering.specs.Steps.{constant, load, if_equal}
use Rattle.back_relation.specs.Worlds.{World, Standing, for_exit, IsIn, Links, EndsAtEnd, record_of_exit}
use Rattle.back_relation.specs.StackWords.{RecordAt, kind_number}
use Rattle.back_relation.specs.Walks.{costing}
use Rattle.back_exits.specs.Searches.{Finds, Misses, IsLong}

-- the tag is in register 0, the record of a valid exit in 3, and 2 is 0
abbrev pub along_tags : (kind : ℕ) → MidStep
along_tags kind =
    turns_while
    (constant 6 1 ∷ load 4 3 record_kind ∷ constant 5 kind
    ∷ if_equal 4 5
    (load 5 3 record_tag ∷ if_equal 5 0 (constant 6 0 ∷ []) [] ∷ [])
    (constant 5 end_kind ∷ if_equal 4 5 (constant 6 0 ∷ constant 3 0 ∷ []) [] ∷ [])
    ∷ [])
    6 2 (load 3 3 record_link ∷ [])

-- the registers of the routine, at a record
abbrev pub tag_registers : (tag word at : ℕ) → (r4 r5 r6 : Option ℕ) → Registers
tag_registers tag word at r4 r5 r6 = Some tag ∷ Some word ∷ Some 0 ∷ Some at ∷ r4 ∷ r5 ∷ r6 ∷ []

-- what the words of the record of an exit say of its kind and its tag
pub data TagTells (kind tag : ℕ) (p : Exit → Bool) (y : MidState) (x : Exit) (v : Standing) : Type 0 where
  of_kind :
      kind_number (for_exit x) ≡ kind → (x.kind ≡ end_exit → ⊥) → (word : ℕ) → word_at y.arena (v.address + record_tag) ≡ Some word
      → (word == tag) ≡ p x → TagTells kind tag p y x v
  of_end : (kind_number (for_exit x) == kind) ≡ false → x.kind ≡ end_exit → p x ≡ false → TagTells kind tag p y x v
  of_other :
      (kind_number (for_exit x) == kind) ≡ false → (kind_number (for_exit x) == end_kind) ≡ false → (x.kind ≡ end_exit → ⊥) → p x ≡ false
      → TagTells kind tag p y x v

-- The innermost valid exit of the kind with the tag was found, and its record, whose number is below so much; or there is none, and the
-- register is 0.
pub data TagSought (p : Exit → Bool) (rs : List Standing) (most : ℕ) (xs : List Exit) (vs : List Standing) (passed at : ℕ) : Type 0 where
  found :
      (x : Exit) (v : Standing) → p x ≡ true → x.number < most → at ≡ v.address → IsIn v rs → v.role ≡ for_exit x → record_of_exit x.number xs vs ≡ Some v
      → Finds p xs x passed → TagSought p rs most xs vs passed at
  missing : at ≡ 0 → passed + 1 ≡ length xs → Misses p xs → TagSought p rs most xs vs passed at

-- each exit that it looks at costs at most 78
pub record TagsWalked (procedures : List MidProcedure) (below : Task → MidState → MidOutcome) (n kind tag word : ℕ) (p : Exit → Bool) (y : MidState) (rs : List Standing) (most a : ℕ) (r4 r5 r6 : Option ℕ) (cost : ℕ) (xs : List Exit) (vs : List Standing) : Type 0 where
  pub passed : ℕ
  pub at : ℕ
  pub total : ℕ
  pub last4 : Option ℕ
  pub last5 : Option ℕ
  pub last6 : Option ℕ
  pub run :
      exec_step (context_of procedures below (turns procedures below n)) (along_tags kind) (tag_registers tag word a r4 r5 r6) (costing y cost)
      ≡ ends falls (tag_registers tag word at last4 last5 last6) (costing y total)
  pub within : total ≤ cost + 78 * (passed + 1)
  pub sought : TagSought p rs most xs vs passed at

-- the loop finds what the meaning finds, or the meaning charges more units than there are turns
abbrev pub LawOfTags : Type 0
LawOfTags =
    (procedures : List MidProcedure) (below : Task → MidState → MidOutcome) (kind tag word : ℕ) (p : Exit → Bool) (w : World) (y : MidState) (rs : List Standing)
    (xs : List Exit) (vs : List Standing) (n a most : ℕ) (r4 r5 r6 : Option ℕ) (cost : ℕ)
    → length y.arena.memory ≤ 2 ^ 24 → ((r : Standing) → IsIn r rs → RecordAt w y r)
    → ((x : Exit) (v : Standing) → IsIn v rs → v.role ≡ for_exit x → TagTells kind tag p y x v) → Links rs a most xs vs → EndsAtEnd xs
    → TagsWalked procedures below n kind tag word p y rs most a r4 r5 r6 cost xs vs ⊎ IsLong p xs n
