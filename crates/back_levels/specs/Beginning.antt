-- **Where the form of a main form begins**: the block of the record is laid, its words and control words are stored,
-- what words said goes on being said, and the record of the end stands.
use Rattle.std.specs.Prelude.{◌≡◌, ℕ, ◌+◌, ◌≤◌, [], ◌∷◌, length, slice_get, Option, Some, None}
use Rattle.flat_language.specs.FlatState.{no_environment, FlatState}
use Rattle.lang_meaning.specs.State.{main_context}
use Rattle.mid_code.specs.Arena.{Arena, record_of, lent_from, left, with_new_block}
use Rattle.mid_code.specs.Costs.{record_cost}
use Rattle.mid_code.specs.Meaning.{Context, exec}
use Rattle.mid_code.specs.MidCode.{code_of}
use Rattle.mid_code.specs.State.{Registers, falls, ends, MidState, charged, with_arena}
use Rattle.back_lowering.specs.ControlWords.{record_words, current_address, link_address, handlers_address, bindings_address}
use Rattle.back_relation.specs.Setting.{Setting}
use Rattle.back_relation.specs.Placed.{IsPlaced}
use Rattle.back_relation.specs.Worlds.{World, Later, for_exit, Standing}
use Rattle.back_relation.specs.StackWords.{HasWordAt}
use Rattle.back_relation.specs.Things.{Things}
use Rattle.back_relation.specs.Around.{RoomFor}
use Rattle.back_relation.specs.Forms.{Begins}
use Rattle.back_exits.specs.RecordSteps.{with_stores}
use Rattle.back_levels.specs.MainSteps.{end_laid, end_stores}
use Rattle.back_levels.specs.Surroundings.{the_end, EndStands, main_form_scope}

-- the arena where the block of the record is laid, and the record's address
abbrev pub arena_laid : Arena → Arena
arena_laid a = with_new_block (record_of record_words) a

abbrev pub laid_at : Arena → ℕ
laid_at a = lent_from (length (arena_laid a).memory) (arena_laid a).blocks

-- the state where the block of the record was laid, and behind the steps
abbrev pub block_laid : MidState → MidState
block_laid y = with_arena (arena_laid y.arena) (charged record_cost y)

abbrev pub end_there : (current link : ℕ) → MidState → MidState
end_there current link y = with_stores (end_stores (laid_at y.arena) current link) 106 (block_laid y)

-- the record of the end
abbrev pub end_record : (current link : ℕ) → MidState → Standing
end_record current link y =
    record { address = laid_at y.arena; outside = length y.arena.blocks; outer = current; link = link; role = for_exit the_end }

module _ (setting : Setting) where
  -- before the record is laid, nothing is around, and the control words have these words
  pub record NothingAround (current link : ℕ) (w : World) (z : FlatState) (y : MidState) : Type 0 where
    pub things : Things setting w z y
    pub current_word : HasWordAt y current_address current
    pub link_word : HasWordAt y link_address link
    pub no_handler : HasWordAt y handlers_address 0
    pub no_binding : HasWordAt y bindings_address 0
    pub end_form : slice_get w.exit_forms 0 ≡ Some None
    pub room : 8 ≤ left y.arena

  pub record EndBegins (current link n : ℕ) (w : World) (z : FlatState) (y : MidState) (tail : Registers) (r1 r2 r3 r4 r5 r6 r7 r8 : Option ℕ) : Type 0 where
    -- the steps run
    pub runs :
        (c : Context)
        → exec c (code_of end_laid) (Some (laid_at y.arena) ∷ r1 ∷ r2 ∷ r3 ∷ r4 ∷ r5 ∷ r6 ∷ r7 ∷ r8 ∷ tail) (block_laid y)
        ≡ ends falls (Some (laid_at y.arena) ∷ Some current ∷ Some link ∷ Some 0 ∷ Some 0 ∷ r5 ∷ Some 0 ∷ Some 0 ∷ r8 ∷ tail) (end_there current link y)
    pub w' : World
    pub later : Later w w'
    pub things : Things setting w' z (end_there current link y)
    pub stands : EndStands w' (end_there current link y) (end_record current link y)
    -- and the form begins
    pub begins :
        RoomFor setting.limit (8 + n) z.state y → z.frame ≡ []
        → Begins setting (end_record current link y ∷ []) (end_record current link y ∷ []) (main_form_scope setting) 8 n w' no_environment main_context z
        (Some (laid_at y.arena) ∷ Some current ∷ Some link ∷ Some 0 ∷ Some 0 ∷ r5 ∷ Some 0 ∷ Some 0 ∷ r8 ∷ tail) (end_there current link y)

-- **the steps do what is wanted**
abbrev pub LawOfBeginnings : Type 0
LawOfBeginnings =
    (setting : Setting) (current link n : ℕ) (w : World) (z : FlatState) (y : MidState) (tail : Registers) (r1 r2 r3 r4 r5 r6 r7 r8 : Option ℕ) → IsPlaced setting
    → NothingAround setting current link w z y → EndBegins setting current link n w z y tail r1 r2 r3 r4 r5 r6 r7 r8
