-- **What is around**: the control records that stand, the exits that are valid, handlers and dynamic bindings; and what words are left.
use Rattle.std.specs.Prelude.{◌≡◌, ⊤, ℕ, ◌+◌, ◌*◌, ◌≤◌, List, Some, None, length, slice_get}
use Rattle.lang_meaning.specs.State.{State, DynamicContext, Limit, words, unlimited}
use Rattle.flat_language.specs.FlatState.{FlatState}
use Rattle.mid_code.specs.Arena.{left, stack_from}
use Rattle.mid_code.specs.State.{MidState}
use Rattle.back_lowering.specs.ControlWords.{current_address, link_address, handlers_address, bindings_address, site_address, end_address}
use Rattle.back_relation.specs.Setting.{Setting}
use Rattle.back_relation.specs.Room.{words_for_handler}
use Rattle.back_relation.specs.Worlds.{World, Standing, IsIn, Chain, Links, EndsAtEnd, TagsLand, record_of_exit}
use Rattle.back_relation.specs.StackWords.{HasWordAt, RecordAt, HandlersAt, BindingsAt}
use Rattle.back_relation.specs.Things.{Things, SiteIs}

-- so many words are left for the code where the meaning has so many words
abbrev pub RoomFor : Limit → ℕ → State → MidState → Type 0
RoomFor unlimited n z y = ⊤
RoomFor (words m) n z y = m + n ≤ left y.arena + z.heap + z.stack

module _ (setting : Setting) where
  pub record AroundStands (w : World) (rs valid : List Standing) (around : DynamicContext) (z : FlatState) (y : MidState) : Type 0 where
    pub current : ℕ
    pub link : ℕ
    pub handlers_cell : ℕ
    pub bindings_cell : ℕ
    pub current_word : HasWordAt y current_address current
    pub link_word : HasWordAt y link_address link
    pub handlers_word : HasWordAt y handlers_address handlers_cell
    pub bindings_word : HasWordAt y bindings_address bindings_cell
    pub chain : Chain (stack_from y.arena) current rs
    pub records : (r : Standing) → IsIn r rs → RecordAt w y r
    pub links : Links rs link z.state.exits around.exits valid
    pub handlers : HandlersAt w y handlers_cell around.handlers
    pub bindings : BindingsAt setting w y bindings_cell around.bindings
    -- the end of the program
    pub ends_at_end : EndsAtEnd around.exits
    pub end_record : Standing
    pub end_valid : record_of_exit 0 around.exits valid ≡ Some end_record
    pub end_word : HasWordAt y end_address end_record.address
    -- no block and no tagbody made it, nor the exits of catches and of signals
    pub end_form : slice_get w.exit_forms 0 ≡ Some None
    pub tags_land : TagsLand w rs

  -- **where a call begins**, with so many words of the stack that it may lay, and those that each handler put aside
  pub record CallBegins (rs valid : List Standing) (n : ℕ) (w : World) (around : DynamicContext) (z : FlatState) (y : MidState) : Type 0 where
    pub things : Things setting w z y
    pub around_stands : AroundStands w rs valid around z y
    pub room : RoomFor setting.limit (n + words_for_handler * length around.handlers) z.state y

  -- the site is stored where what is called looks for it
  abbrev pub SiteStored : DynamicContext → MidState → Type 0
  SiteStored around y = (n : ℕ) × HasWordAt y site_address n × SiteIs setting n around.site
