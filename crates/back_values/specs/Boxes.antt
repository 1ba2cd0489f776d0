-- The law of boxes: new variables whose words are in registers, of which some get boxes, one after another.
use Rattle.std.specs.Prelude.{◌≡◌, ⊤, ℕ, ◌+◌, ◌<◌, ◌≤◌, List, [], ◌∷◌, ◌++◌, Some, length, slice_get}
use Rattle.lang_meaning.specs.Values.{Value}
use Rattle.flat_language.specs.declared.place.Home.{Home}
use Rattle.flat_language.specs.FlatSignals.{with_boxes}
use Rattle.flat_language.specs.FlatState.{FrameSlot, FlatState, FlatEvaluated, new_slots, new_boxes}
use Rattle.mid_code.specs.Arena.{stack_from}
use Rattle.mid_code.specs.Meaning.{exec}
use Rattle.mid_code.specs.MidCode.{code_of}
use Rattle.mid_code.specs.State.{Registers, register, MidState, MidOutcome, Next}
use Rattle.mid_arena.specs.Places.{WordsOf}
use Rattle.back_lowering.specs.Leaves.{boxes_made}
use Rattle.back_lowering.specs.Registers.{of_code, enough_for}
use Rattle.back_lowering.specs.Steps.{Steps}
use Rattle.back_relation.specs.Setting.{Setting}
use Rattle.back_relation.specs.Placed.{IsPlaced}
use Rattle.back_relation.specs.Worlds.{World, on_stack}
use Rattle.back_relation.specs.Things.{Things}
use Rattle.back_relation.specs.Around.{RoomFor}
use Rattle.back_relation.specs.Activation.{SlotIs}
use Rattle.back_relation.specs.Ends.{WorldKept, Around, FullThere, Stopped}
use Rattle.back_relation.specs.Forms.{code_at}
use Rattle.back_relation.specs.Starts.{FlatGrown}
use Rattle.back_values.specs.Arguments.{WordsIn}

-- all places on the stack are in blocks that stand
abbrev pub Clean : World → MidState → Type 0
Clean w y = (i a : ℕ) → slice_get w.boxes i ≡ Some (on_stack a) → stack_from y.arena ≤ a

-- what the code of a box costs at most, for which its unit pays
abbrev pub box_cost : ℕ
box_cost = 40

-- a state with other variables
abbrev pub extended : List Value → FlatState → FlatState
extended vs z = record z { state = record z.state { variables = vs } }

-- slots stand in registers one after another
abbrev pub SlotsIn : World → ℕ → List FrameSlot → Registers → Type 0
SlotsIn w d [] regs = ⊤
SlotsIn w d (f ∷ fs) regs = ((word : ℕ) × (register d regs ≡ Some word) × SlotIs w word f) × SlotsIn w (d + 1) fs regs

module _ (setting : Setting) where
  -- The boxes were made, and the slots of the new variables are in registers from d on. In between, the meaning has the words of boxes, but
  -- not the variables yet.
  pub record BoxesMade (hs : List Home) (vs : List Value) (d : ℕ) (before : List Value) (w w' : World) (z z' : FlatState) (regs regs' : Registers) (y y' : MidState) : Type 0 where
    pub variables : List Value
    pub are : variables ≡ before ++ new_boxes hs vs
    pub world : WorldKept setting w w' (extended before z) (extended variables z') y y'
    pub back : Around setting 0 (extended before z) (extended variables z') y y'
    pub clean : Clean w' y'
    pub slots : SlotsIn w' d (new_slots hs vs (length before)) regs'
    pub count : length regs' ≡ length regs
    pub below : (r : ℕ) → r < d → slice_get regs' r ≡ slice_get regs r
    pub frame : z'.frame ≡ z.frame
    pub captured : z'.captured ≡ z.captured
    pub same_variables : z'.state.variables ≡ z.state.variables
    pub up : z.state.units ≤ z'.state.units

  -- what new variables with boxes come to: what goes on where they were made; or the meaning has no words left; or the code has none
  pub data BoxesEnd (hs : List Home) (vs : List Value) (d : ℕ) (w : World) (z : FlatState) (regs : Registers) (y : MidState) (next : FlatState → FlatEvaluated) (rest : Next) (r : FlatEvaluated) (q : MidOutcome) : Type 0 where
    made : (w' : World) (z' : FlatState) (regs' : Registers) (y' : MidState) → BoxesMade hs vs d z.state.variables w w' z z' regs regs' y y' → r ≡ next z' → q ≡ rest regs' y'
        → BoxesEnd hs vs d w z regs y next rest r q
    no_words : FullThere setting r q → BoxesEnd hs vs d w z regs y next rest r q
    no_space : Stopped setting box_cost z y r q → BoxesEnd hs vs d w z regs y next rest r q

  abbrev pub LawOfBoxes : Type 0
  LawOfBoxes =
      (k n room : ℕ) (hs : List Home) (vs : List Value) (ws : List ℕ) (d t : ℕ) (w : World) (z : FlatState) (regs : Registers) (y : MidState) (rest : Steps)
      (next : FlatState → FlatEvaluated) → IsPlaced setting → Things setting w z y → Clean w y → RoomFor setting.limit room z.state y → length vs ≡ length hs
      → WordsOf w.places vs ws → WordsIn d ws regs → d + length hs ≤ t → enough_for (of_code (code_of (boxes_made hs d t))) ≤ length regs → ((z : FlatState) → FlatGrown z (next z).state)
      → BoxesEnd hs vs d w z regs y next (λ g x. exec (code_at setting k n) (code_of rest) g x) (with_boxes setting.limit hs z next)
      (exec (code_at setting k n) (code_of (boxes_made hs d t ++ rest)) regs y)
