-- **Inside a control record**: what is said where it was laid, and the code inside it is next.
use Rattle.std.specs.Prelude.{◌≡◌, ℕ, ◌+◌, ◌<◌, ◌≤◌, List, ◌∷◌, length, Some, None, slice_get}
use Rattle.lang_meaning.specs.declared.scope.ExitForm.{ExitForm}
use Rattle.lang_meaning.specs.State.{DynamicContext, Exit, end_exit}
use Rattle.flat_language.specs.FlatState.{FlatEnvironment, FlatState}
use Rattle.mid_code.specs.Arena.{Arena, record_of, lent_from, left, stack_from, word_at, with_new_block}
use Rattle.mid_code.specs.State.{Registers, register, MidState}
use Rattle.back_lowering.specs.ControlWords.{record_words, record_kind, record_outer}
use Rattle.back_lowering.specs.declared.scope.OwnExit.{OwnExit}
use Rattle.back_relation.specs.Setting.{Setting}
use Rattle.back_relation.specs.Worlds.{World, on_stack, RecordRole, for_cleanup, for_exit, Standing, Links, IsTagged}
use Rattle.back_relation.specs.StackWords.{HasWordAt, kind_number, UseAt}
use Rattle.back_relation.specs.Around.{AroundStands}
use Rattle.back_relation.specs.Activation.{FormScope, ScopeStands, ExitReached}
use Rattle.back_relation.specs.Ends.{WorldKept}
use Rattle.back_relation.specs.Forms.{Begins}
use Rattle.back_relation.specs.Starts.{Start}
use Rattle.back_exits.specs.RecordSteps.{ControlSays}

-- ---- with other exits around

abbrev pub scope_with : (count : ℕ) → List ExitForm → List OwnExit → FormScope → FormScope
scope_with count forms exits s = record s { flat = record s.flat { exits = count }; exits = record s.exits { own = forms }; code = record s.code { exits = exits } }

abbrev pub environment_with : List ℕ → FlatEnvironment → FlatEnvironment
environment_with exits env = record env { exits = exits }

abbrev pub around_with : List Exit → DynamicContext → DynamicContext
around_with exits around = record around { exits = exits }

-- the exits of an activation, as what is known when code is written says
pub record ExitsStand (own : List OwnExit) (count : ℕ) (forms : List ExitForm) (numbers : List ℕ) (rs valid : List Standing) (exits : List Exit) (w : World) (regs : Registers) : Type 0 where
  pub exit_count : length own ≡ length numbers
  pub flat_count : count ≡ length numbers
  pub reached :
      (n : ℕ) (x : OwnExit) → slice_get own n ≡ Some x
      → (e : ℕ) × (slice_get numbers n ≡ Some e) × (register x.serial regs ≡ Some e)
      × ExitReached x.reach rs valid exits e (register x.record_register regs)
  pub exit_forms : (n e : ℕ) → slice_get numbers n ≡ Some e → slice_get w.exit_forms e ≡ Some (slice_get forms n)

module _ (setting : Setting) (a : Start setting) where
  abbrev pub around_at : AroundStands setting a.w a.rs a.valid a.around a.z a.y
  around_at = a.begins.call.around_stands

  -- the arena where the record was laid, its address, and the record
  abbrev pub arena_inside : Arena
  arena_inside = with_new_block (record_of record_words) a.y.arena

  abbrev pub address_inside : ℕ
  address_inside = lent_from (length arena_inside.memory) arena_inside.blocks

  abbrev pub record_inside : RecordRole → Standing
  record_inside role =
      record { address = address_inside; outside = length a.y.arena.blocks; outer = around_at.current; link = around_at.link; role = role }

  -- So many units were charged and this was paid since the point at which the form begins, and the record is for this. The innermost valid exit is at
  -- the link. Bindings stand only outside, and the words there are as they were.
  pub record LaidAt (units cost : ℕ) (role : RecordRole) (link : ℕ) (w : World) (z : FlatState) (regs : Registers) (y : MidState) : Type 0 where
    pub room : 8 ≤ left a.y.arena
    pub world : WorldKept setting a.w w a.z z a.y y
    pub blocks : y.arena.blocks ≡ record_of record_words ∷ a.y.arena.blocks
    pub heap_to : y.arena.heap_to ≡ a.y.arena.heap_to
    pub paid : y.cost ≡ a.y.cost + cost
    pub units_there : z.state.units ≡ a.z.state.units + units
    pub heap : z.state.heap ≡ a.z.state.heap
    pub stack : z.state.stack ≡ a.z.state.stack
    pub frame : z.frame ≡ a.z.frame
    pub captured : z.captured ≡ a.z.captured
    pub bindings : (i x : ℕ) → slice_get w.boxes i ≡ Some (on_stack x) → stack_from a.y.arena ≤ x
    pub words : (x : ℕ) → stack_from a.y.arena ≤ x → word_at y.arena x ≡ word_at a.y.arena x
    pub kind : HasWordAt y (address_inside + record_kind) (kind_number role)
    pub outer : HasWordAt y (address_inside + record_outer) around_at.current
    pub role_words : UseAt w y (record_inside role) role
    pub control : ControlSays y.arena address_inside link around_at.handlers_cell around_at.bindings_cell
    pub count : length regs ≡ length a.regs
    pub same : (i : ℕ) → i < a.d → slice_get regs i ≡ slice_get a.regs i
    pub address_held : register (a.d + 1) regs ≡ Some address_inside
    pub current_held : register (a.d + 1 + 1) regs ≡ Some around_at.current
    pub link_held : register (a.d + 1 + 2) regs ≡ Some around_at.link
    pub handlers_held : register (a.d + 1 + 3) regs ≡ Some around_at.handlers_cell
    pub bindings_held : register (a.d + 1 + 4) regs ≡ Some around_at.bindings_cell

  -- an exit is the innermost one: its number is behind those of all that are valid, and no form that transfers name made that of a catch or a signal
  pub record IsInnermost (x : Exit) (w : World) (z : FlatState) : Type 0 where
    pub some : 1 ≤ x.number
    pub made : x.number < z.state.exits
    pub no_end : x.kind ≡ end_exit → ⊥
    pub links : Links a.rs around_at.link x.number a.around.exits a.valid
    pub unnamed : IsTagged x.kind → slice_get w.exit_forms x.number ≡ Some None

  -- **what is around**: one record more, and where it is an exit's, one valid exit more
  pub record LawOfSurroundings : Type 0 where
    pub of_exit :
        (units cost : ℕ) (x : Exit) (w : World) (z : FlatState) (regs : Registers) (y : MidState) → LaidAt units cost (for_exit x) address_inside w z regs y → IsInnermost x w z
        → AroundStands setting w (record_inside (for_exit x) ∷ a.rs) (record_inside (for_exit x) ∷ a.valid) (around_with (x ∷ a.around.exits) a.around) z y
    pub of_cleanup :
        (units cost : ℕ) (w : World) (z : FlatState) (regs : Registers) (y : MidState) → LaidAt units cost for_cleanup around_at.link w z regs y
        → AroundStands setting w (record_inside for_cleanup ∷ a.rs) a.valid a.around z y

  -- **where the body begins**, in its scope and with its exits
  pub record LawOfBodies : Type 0 where
    pub of_exit :
        (units cost n m : ℕ) (x : Exit) (forms : List ExitForm) (own : List OwnExit) (count : ℕ) (numbers : List ℕ) (w : World) (z : FlatState) (regs : Registers) (y : MidState)
        → LaidAt units cost (for_exit x) address_inside w z regs y → IsInnermost x w z → ScopeStands (scope_with count forms own a.s).code (a.d + n) → 8 + m ≤ a.n
        → a.d + n < length a.regs
        → ExitsStand own count forms numbers (record_inside (for_exit x) ∷ a.rs) (record_inside (for_exit x) ∷ a.valid) (x ∷ a.around.exits) w regs
        → Begins setting (record_inside (for_exit x) ∷ a.rs) (record_inside (for_exit x) ∷ a.valid) (scope_with count forms own a.s) (a.d + n) m w (environment_with numbers a.env)
        (around_with (x ∷ a.around.exits) a.around) z regs y
    pub of_cleanup :
        (units cost n m : ℕ) (forms : List ExitForm) (own : List OwnExit) (count : ℕ) (numbers : List ℕ) (w : World) (z : FlatState) (regs : Registers) (y : MidState)
        → LaidAt units cost for_cleanup around_at.link w z regs y → ScopeStands (scope_with count forms own a.s).code (a.d + n) → 8 + m ≤ a.n → a.d + n < length a.regs
        → ExitsStand own count forms numbers (record_inside for_cleanup ∷ a.rs) a.valid a.around.exits w regs
        → Begins setting (record_inside for_cleanup ∷ a.rs) a.valid (scope_with count forms own a.s) (a.d + n) m w (environment_with numbers a.env) a.around z regs y
