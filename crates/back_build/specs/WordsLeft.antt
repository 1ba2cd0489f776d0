-- What the machine's memory tells of the arena with which a run ended.
use Rattle.std.specs.Prelude.{◌≡◌, ◌<◌, ℕ, ◌/◌, ◌^◌, List, slice_get, slice_index, Some}
use Rattle.rv_machine.specs.Memory.{bytes_of}
use Rattle.rv_machine.specs.Run.{Moment}
use Rattle.rv_machine.specs.State as machine
use Rattle.mid_code.specs.Arena.{word_at}
use Rattle.mid_code.specs.State.{MidState}
use Rattle.back_runs.specs.Ends.{Leaves}

-- words of 32 bits whose bytes are the memory of the machine
pub record AreWordsOf (s : machine.State) (words : List ℕ) : Type 0 where
  pub memory : bytes_of words ≡ s.memory
  pub small : (i : ℕ) → slice_index words i < 2 ^ 32

-- the law of the words left: at each address that is lent they are those of the arena
abbrev pub LawOfWordsLeft : Type 0
LawOfWordsLeft =
    (z : MidState) (m : Moment) → Leaves z m → (words : List ℕ) → AreWordsOf m.state words
    → (address stored : ℕ) → word_at z.arena address ≡ Some stored → slice_get words (address / 4) ≡ Some stored
