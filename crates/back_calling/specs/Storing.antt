-- A control word is stored: all else that words say goes on being said.
use Rattle.std.specs.Prelude.{◌≡◌, ℕ, ◌%◌, ◌<◌, ◌≤◌}
use Rattle.flat_language.specs.FlatState.{FlatState}
use Rattle.mid_code.specs.Arena.{stack_from, with_word}
use Rattle.mid_code.specs.State.{MidState}
use Rattle.back_lowering.specs.ControlWords.{control_address, variables_address, serials_address, end_address}
use Rattle.back_relation.specs.Setting.{Setting}
use Rattle.back_relation.specs.Worlds.{World}
use Rattle.back_relation.specs.StackWords.{HasWordAt}
use Rattle.back_relation.specs.Things.{Things}
use Rattle.back_relation.specs.Ends.{WorldKept}
use Rattle.back_relation.specs.Cuts.{world_cut}

-- a control word, but not the one of serial numbers
pub record IsControl (address : ℕ) : Type 0 where
  pub low : control_address ≤ address
  pub high : address < variables_address
  pub no_serial : address ≡ serials_address → ⊥

-- the state where a word was stored, and so much was paid
abbrev pub stored_at : (address word cost : ℕ) → MidState → MidState
stored_at address word cost y = record y { arena = with_word address word y.arena; cost = cost }

-- The world as far as the stack stands: nothing is said of bindings below it, of which there are none. So words below the stack may change.
abbrev pub standing_world : World → MidState → World
standing_world w y = world_cut (stack_from y.arena) w

-- the word is there, and the world goes on
abbrev pub LawOfStoring : Setting → Type 0
LawOfStoring setting =
    (w : World) (z : FlatState) (y : MidState) (address word cost : ℕ) → Things setting w z y → IsControl address → address % 4 ≡ 0 → (address ≡ end_address → ⊥)
    → HasWordAt (stored_at address word cost y) address word × WorldKept setting w (standing_world w y) z z y (stored_at address word cost y)
