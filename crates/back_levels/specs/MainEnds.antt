-- **What the code of a main form comes to**, from what its form comes to: the word is returned, or the run ends with what the
-- words of the condition say, or the code stopped.
use Rattle.std.specs.Prelude.{◌≡◌, ℕ, ◌+◌, ◌^◌, ◌<◌, ◌≤◌, [], ◌∷◌, ◌++◌, length, Option, Some, List}
use Rattle.lang_meaning.specs.State.{main_context, Landing, value, exit}
use Rattle.lang_meaning.specs.Values.{Value}
use Rattle.lang_meaning.specs.Counts.{unit_cost}
use Rattle.flat_language.specs.FlatForm.{FlatForm}
use Rattle.flat_language.specs.FlatMeaning.{mean}
use Rattle.flat_language.specs.FlatState.{no_environment, FlatState, FlatEvaluated}
use Rattle.flat_language.specs.FlatState.{charged as flat_charged}
use Rattle.mid_code.specs.declared.operation.Arithmetic.TheVariants as which
use Rattle.mid_code.specs.Arena.{Block, record_of, closed_record, with_blocks}
use Rattle.mid_code.specs.Meaning.{exec_step}
use Rattle.mid_code.specs.MidCode.{MidStep, with_block, return_word, code_of}
use Rattle.mid_code.specs.State.{Registers, returns, unhandled, ends, MidState, MidOutcome, with_arena}
use Rattle.mid_code.specs.State.{charged as mid_charged}
use Rattle.mid_code.specs.Words.{computed}
use Rattle.mid_arena.specs.Places.{word_of}
use Rattle.back_lowering.specs.Codes.{lower}
use Rattle.back_lowering.specs.ControlWords.{record_words, end_address}
use Rattle.back_lowering.specs.Program.{main_scope}
use Rattle.back_lowering.specs.Steps.{Steps}
use Rattle.back_relation.specs.Setting.{Setting}
use Rattle.back_relation.specs.Placed.{IsPlaced}
use Rattle.back_relation.specs.Room.{words_for}
use Rattle.back_relation.specs.Worlds.{World, Later}
use Rattle.back_relation.specs.StackWords.{HasWordAt}
use Rattle.back_relation.specs.Things.{Things}
use Rattle.back_relation.specs.Around.{RoomFor}
use Rattle.back_relation.specs.Ends.{PaidFrom, ChargedFrom, ControlBack, LandingIs, Ends, form_credit}
use Rattle.back_relation.specs.Forms.{HasRegisters, FormStands, value_code, DoesForm, context_at, code_at}
use Rattle.back_levels.specs.Beginning.{NothingAround, end_there}
use Rattle.back_levels.specs.MainSteps.{end_laid, end_landed}
use Rattle.back_levels.specs.Surroundings.{main_form_scope}

-- the record of the end with the form inside
abbrev pub main_step : Steps → MidStep
main_step form = with_block 0 record_words 5 (code_of (end_laid ++ (form ++ (return_word 8 ∷ [])))) (code_of end_landed)

-- the state where the record of the end is closed
abbrev pub end_closed : List Block → MidState → MidState
end_closed bs y = with_arena (with_blocks (record (record_of record_words) { kind = closed_record } ∷ bs) y.arena) y

module _ (setting : Setting) where
  -- The form gave a value, whose word is returned; the block of the record is the innermost one still. The first unit of the form pays for it.
  pub record MainValue (current link : ℕ) (w : World) (z : FlatState) (y : MidState) (r : FlatEvaluated) (q : MidOutcome) : Type 0 where
    pub result : Value
    pub outcome : r.outcome ≡ value result
    pub word : ℕ
    pub end : q.end ≡ returns word
    pub w' : World
    pub later : Later w w'
    pub things : Things setting w' r.state q.state
    pub of_value : word_of w'.places result ≡ Some word
    pub control : ControlBack (end_there current link y) q.state
    pub end_kept : (n : ℕ) → HasWordAt (end_there current link y) end_address n → HasWordAt q.state end_address n
    pub charged : ChargedFrom z (end_there current link y) r.state q.state
    pub blocks : q.state.arena.blocks ≡ record_of record_words ∷ y.arena.blocks
    pub same_size : length q.state.arena.memory ≡ length y.arena.memory
    pub frame : length r.state.frame ≡ 0
    pub paid : PaidFrom (form_credit + 156) (flat_charged 1 z) y r.state q.state

  -- The form transferred to the end, from a state in which all things stand. Where the words of the condition are there, the record of the end is
  -- closed, and the run ends with them.
  pub record MainLeft (z : FlatState) (y : MidState) (r : FlatEvaluated) (q : MidOutcome) : Type 0 where
    pub result : Value
    pub landing : Landing
    pub outcome : r.outcome ≡ exit 0 result landing
    pub there : MidState
    pub w' : World
    pub things : Things setting w' r.state there
    pub blocks : there.arena.blocks ≡ record_of record_words ∷ y.arena.blocks
    pub word : ℕ
    pub of_value : word_of w'.places result ≡ Some word
    pub landing_word : ℕ
    pub landing_is : LandingIs setting landing_word landing
    pub paid : PaidFrom (form_credit + 142) (flat_charged 1 z) y r.state there
    pub ends :
        (class number : ℕ) → word + 2 < 2 ^ 32 → class + 2 < 2 ^ 32 → HasWordAt there (word + 2) class → HasWordAt there (class + 2) number
        → (regs : Registers)
        × (q ≡ ends (unhandled (computed which.ShiftRight number 2) landing_word word) regs (mid_charged 60 (end_closed y.arena.blocks there)))

-- **from the form**, in a state where nothing is around
abbrev pub LawOfMainEnds : Type 0
LawOfMainEnds =
    (setting : Setting) (k turns current link n first : ℕ) (f : FlatForm) (w : World) (z : FlatState) (y : MidState) (tail : Registers) (r0 r1 r2 r3 r4 r5 r6 r7 r8 : Option ℕ)
    → IsPlaced setting → NothingAround setting current link w z y → RoomFor setting.limit (8 + n) z.state y → z.frame ≡ []
    → FormStands setting (main_form_scope setting) first f
    → HasRegisters (value_code setting (main_form_scope setting) 8 f) (r0 ∷ r1 ∷ r2 ∷ r3 ∷ r4 ∷ r5 ∷ r6 ∷ r7 ∷ r8 ∷ tail)
    → words_for setting.names setting.program f ≤ n → DoesForm setting turns (context_at setting k) (code_at setting k turns) f
    → Ends setting (form_credit + 142 + unit_cost) (MainValue setting current link w z y (mean (context_at setting k) f no_environment main_context z)
    (exec_step (code_at setting k turns) (main_step (lower setting.names setting.at setting.program (main_scope setting.names setting.at setting.program) 8 f).value)
    (r0 ∷ r1 ∷ r2 ∷ r3 ∷ r4 ∷ r5 ∷ r6 ∷ r7 ∷ r8 ∷ tail) y))
    (MainLeft setting z y (mean (context_at setting k) f no_environment main_context z)
    (exec_step (code_at setting k turns) (main_step (lower setting.names setting.at setting.program (main_scope setting.names setting.at setting.program) 8 f).value)
    (r0 ∷ r1 ∷ r2 ∷ r3 ∷ r4 ∷ r5 ∷ r6 ∷ r7 ∷ r8 ∷ tail) y))
    turns (flat_charged 1 z) y (mean (context_at setting k) f no_environment main_context z)
    (exec_step (code_at setting k turns) (main_step (lower setting.names setting.at setting.program (main_scope setting.names setting.at setting.program) 8 f).value)
    (r0 ∷ r1 ∷ r2 ∷ r3 ∷ r4 ∷ r5 ∷ r6 ∷ r7 ∷ r8 ∷ tail) y)
