-- **Where words were lent for the arguments of an application, before it is entered**. A list may have any number of elements, so no reserve has their
-- words: they are paid by the words that the application is charged, more than that many. So they are counted where the room for what is entered is.
use Rattle.std.specs.Prelude.{ℕ, ◌+◌, ◌*◌, List, length}
use Rattle.lang_meaning.specs.State.{State, DynamicContext}
use Rattle.flat_language.specs.FlatState.{FlatState}
use Rattle.mid_code.specs.State.{MidState}
use Rattle.back_relation.specs.Setting.{Setting}
use Rattle.back_relation.specs.Around.{RoomFor, AroundStands}
use Rattle.back_relation.specs.Room.{lent_words, words_for_handler}
use Rattle.back_relation.specs.Things.{Things}
use Rattle.back_relation.specs.Worlds.{World, Standing}

-- the words of a block for so many arguments are counted as charged
abbrev pub with_lent : ℕ → State → State
with_lent count z = record z { stack = z.stack + lent_words count }

-- such an application begins: with the words of the block, so many are left
pub record LentBegins (setting : Setting) (rs valid : List Standing) (most count : ℕ) (w : World) (around : DynamicContext) (z : FlatState) (y : MidState) : Type 0 where
  pub things : Things setting w z y
  pub around_stands : AroundStands setting w rs valid around z y
  pub room : RoomFor setting.limit (most + words_for_handler * length around.handlers) (with_lent count z.state) y
