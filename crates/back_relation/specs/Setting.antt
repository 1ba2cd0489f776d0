-- What is fixed while a lowered program runs.
use Rattle.std.specs.Prelude.{◌≡◌, ⊤, ℕ, ◌+◌, ◌*◌, ◌≤◌, List, [], ◌∷◌, Some, slice_get}
use Rattle.lang_meaning.specs.State.{Limit}
use Rattle.lang_meaning.specs.Values.{SymbolValue}
use Rattle.flat_language.specs.declared.program.FlatProgram.{FlatProgram}
use Rattle.flat_language.specs.FlatExits.{ProgramLeads}
use Rattle.mid_code.specs.declared.program.MidProcedure.{MidProcedure}
use Rattle.mid_arena.specs.Places.{Spot}
use Rattle.back_lowering.specs.ControlWords.{control_address, control_words}
use Rattle.back_lowering.specs.declared.placement.Placement.{Placement}
use Rattle.back_lowering.specs.Program.{lowered}

-- a procedure that is used with a frame of its own, which is at most the one that was given
pub record WithinFrame (given used : MidProcedure) : Type 0 where
  pub same : used ≡ record given { frame = used.frame }
  pub frame : used.frame ≤ given.frame

abbrev pub FramesWithin : List MidProcedure → List MidProcedure → Type 0
FramesWithin [] [] = ⊤
FramesWithin [] (p ∷ ps) = ⊥
FramesWithin (g ∷ gs) [] = ⊥
FramesWithin (g ∷ gs) (p ∷ ps) = WithinFrame g p × FramesWithin gs ps

-- the texts of names; the program, and the forms to which its exits lead; the words that there are for its meaning; where words are laid; how many words of variables stand behind
-- the control words; the words that stand behind all objects, and from where on; the symbols that are laid before the run, with their spots;
-- the procedures, with the frames that are used; and how many turns there are at each level
pub record Setting : Type 0 where
  pub names : List (List ℕ)
  pub program : FlatProgram
  pub leads : ProgramLeads program
  pub limit : Limit
  pub at : Placement
  pub variable_words : ℕ
  pub further : List ℕ
  pub further_at : ℕ
  pub symbols : List (SymbolValue × Spot)
  pub procedures : List MidProcedure
  pub frames : FramesWithin (lowered names at program) procedures
  pub turns_each : ℕ

-- The spots that code has for itself before the first form, by their numbers: the fixed words (0), the control words with the words of
-- variables behind them (1), and the words behind all objects (2), where there are any. Those that a run adds come behind.

abbrev pub control_spot : Setting → Spot
control_spot setting = record { address = control_address; words = control_words + setting.variable_words; tag = 0 }

abbrev pub spots_at_start : List ℕ → ℕ
spots_at_start [] = 2
spots_at_start (w ∷ ws) = 3

module _ (setting : Setting) where
  -- a word behind all objects, which no code changes
  pub record ConstantAt (address word : ℕ) : Type 0 where
    pub number : ℕ
    pub here : address ≡ setting.further_at + 4 * number
    pub found : slice_get setting.further number ≡ Some word

  abbrev pub ConstantsAt : ℕ → List ℕ → Type 0
  ConstantsAt address [] = ⊤
  ConstantsAt address (w ∷ ws) = ConstantAt address w × ConstantsAt (address + 4) ws
