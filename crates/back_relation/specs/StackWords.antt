-- What words of the stack say: control records, handlers and dynamic bindings; and which of them stay.
use Rattle.std.specs.Prelude.{◌≡◌, ⊤, ℕ, ◌+◌, ◌*◌, ◌<◌, ◌≤◌, List, [], ◌∷◌, Some, length, slice_get}
use Rattle.lang_meaning.specs.Values.{Value}
use Rattle.lang_meaning.specs.State.{ExitKind, block_exit, tagbody_exit, catch_exit, signal_exit, end_exit}
use Rattle.lang_meaning.specs.Lookup.{text}
use Rattle.mid_code.specs.Arena.{Block, stack_from, blocks_from, word_at}
use Rattle.mid_code.specs.State.{MidState}
use Rattle.mid_arena.specs.Standing.{ValueAt}
use Rattle.back_lowering.specs.ControlWords.{record_serial, record_kind, record_outer, record_link, record_tag, record_mark, exit_kind, catch_kind, cleanup_kind, signal_kind, end_kind}
use Rattle.back_lowering.specs.ControlWords.{handler_function, handler_outer, binding_variable, binding_value, binding_outer}
use Rattle.back_lowering.specs.Placement.{dynamic_address}
use Rattle.back_relation.specs.Setting.{Setting}
use Rattle.back_relation.specs.Placed.{HasDynamic}
use Rattle.back_relation.specs.Worlds.{World, on_stack, Plain, Standing, RecordRole, for_cleanup, for_exit, record_bytes}

-- The words of the stack that stood and still stand, as blocks may have ended by a cut, are as they were, but for values of bindings; and such
-- bindings stand.
pub record StackKept (w w' : World) (y y' : MidState) : Type 0 where
  pub words : (x : ℕ) → stack_from y.arena ≤ x → stack_from y'.arena ≤ x → Plain w x → word_at y'.arena x ≡ word_at y.arena x
  pub bindings :
      (i a : ℕ) → slice_get w.boxes i ≡ Some (on_stack a) → stack_from y.arena ≤ a → stack_from y'.arena ≤ a → slice_get w'.boxes i ≡ Some (on_stack a)

abbrev pub HasWordAt : MidState → ℕ → ℕ → Type 0
HasWordAt y x word = word_at y.arena x ≡ Some word

-- ---- control records

abbrev pub kind_number : RecordRole → ℕ
kind_number for_cleanup = cleanup_kind
kind_number (for_exit x) = by x.kind
  where
    by : ExitKind → ℕ
    by block_exit = exit_kind
    by tagbody_exit = exit_kind
    by (catch_exit tag) = catch_kind
    by (signal_exit c mark) = signal_kind
    by end_exit = end_kind

abbrev pub TagsAt : World → MidState → ℕ → ExitKind → Type 0
TagsAt w y a block_exit = ⊤
TagsAt w y a tagbody_exit = ⊤
TagsAt w y a (catch_exit tag) = ValueAt w.places y.arena (a + record_tag) tag
TagsAt w y a (signal_exit c mark) = ValueAt w.places y.arena (a + record_tag) c × ValueAt w.places y.arena (a + record_mark) mark
TagsAt w y a end_exit = ⊤

abbrev pub UseAt : World → MidState → Standing → RecordRole → Type 0
UseAt w y r for_cleanup = ⊤
UseAt w y r (for_exit x) =
    HasWordAt y (r.address + record_serial) x.number × HasWordAt y (r.address + record_link) r.link × TagsAt w y r.address x.kind

-- a record is that of an open block, from which so many are outside
pub record BlockStands (y : MidState) (r : Standing) : Type 0 where
  pub blocks : List Block
  pub found : blocks_from (length y.arena.memory) y.arena.blocks r.address ≡ Some blocks
  pub count : length blocks ≡ r.outside + 1

-- what the words of a record say; the end of the program has no exit outside it, and no link
pub record RecordAt (w : World) (y : MidState) (r : Standing) : Type 0 where
  pub block : BlockStands y r
  pub low : stack_from y.arena ≤ r.address
  pub high : r.address + record_bytes ≤ 4 * length y.arena.memory
  pub plain : (k : ℕ) → k < record_bytes → Plain w (r.address + k)
  pub kind : HasWordAt y (r.address + record_kind) (kind_number r.role)
  pub outer : HasWordAt y (r.address + record_outer) r.outer
  pub role : UseAt w y r r.role

-- ---- handlers

abbrev pub HandlersAt : World → MidState → ℕ → List Value → Type 0
HandlersAt w y a [] = a ≡ 0
HandlersAt w y a (h ∷ hs) =
    ValueAt w.places y.arena (a + handler_function) h × (stack_from y.arena ≤ a) × Plain w (a + handler_function) × Plain w (a + handler_outer)
    × (1 ≤ a) × ((outer : ℕ) × HasWordAt y (a + handler_outer) outer × HandlersAt w y outer hs)

-- ---- dynamic bindings

module _ (setting : Setting) where
  -- a variable is told by the address of its outermost value
  abbrev pub VariableAt : MidState → ℕ → List ℕ → Type 0
  VariableAt y a name = (n : ℕ) × (text setting.names n ≡ name) × HasDynamic setting n × HasWordAt y a (dynamic_address setting.at n)

  abbrev pub BindingsAt : World → MidState → ℕ → List (List ℕ × ℕ) → Type 0
  BindingsAt w y a [] = a ≡ 0
  BindingsAt w y a (b ∷ bs) =
      VariableAt y (a + binding_variable) b.0 × (slice_get w.boxes b.1 ≡ Some (on_stack (a + binding_value))) × (stack_from y.arena ≤ a)
      × Plain w (a + binding_variable) × Plain w (a + binding_outer) × (1 ≤ a)
      × ((outer : ℕ) × HasWordAt y (a + binding_outer) outer × BindingsAt w y outer bs)
