-- **The main forms that are left**: each is called where the one before it gave a value, and behind the last one the run halts with its word.
use Rattle.std.specs.Prelude.{◌≡◌, ℕ, ◌+◌, ◌≤◌, List, ◌∷◌, Some, length, slice_get}
use Rattle.lang_meaning.specs.Values.{Value}
use Rattle.flat_language.specs.FlatForm.{FlatForm}
use Rattle.flat_language.specs.FlatMeaning.{mean_mains}
use Rattle.flat_language.specs.FlatState.{FlatState, FlatEvaluated}
use Rattle.mid_code.specs.Meaning.{exec}
use Rattle.mid_code.specs.State.{Registers, MidState, MidOutcome}
use Rattle.mid_arena.specs.Places.{word_of}
use Rattle.back_lowering.specs.Program.{mains_from}
use Rattle.back_relation.specs.Ends.{PaidFrom, Ends}
use Rattle.back_relation.specs.Forms.{code_at}
use Rattle.back_relation.specs.Room.{main_reserve}
use Rattle.back_relation.specs.Setting.{Setting}
use Rattle.back_relation.specs.Worlds.{World}
use Rattle.back_claims.specs.Mains.{MainBegins, Unhandled, MainDoes}
use Rattle.back_claims.specs.Program.{start_credit, Halted}
use Rattle.back_levels.specs.StartSteps.{mains_code}

-- what is paid before the first main form is called
abbrev pub entry_paid : ℕ
entry_paid = 26

module _ (setting : Setting) where
  -- **the premise**: all main forms do what is claimed of them
  abbrev pub MainsDo : (k turns : ℕ) → Type 0
  MainsDo k turns = (number : ℕ) (f : FlatForm) → slice_get setting.program.main number ≡ Some f → MainDoes setting k turns number f

  -- some forms are main forms from a number on
  abbrev pub AreFrom : ℕ → List FlatForm → Type 0
  AreFrom number fs = (i : ℕ) (f : FlatForm) → slice_get fs i ≡ Some f → slice_get setting.program.main (number + i) ≡ Some f

  -- the run came so far from where it began: no more was paid than the units that were charged pay, and the arena is as large
  pub record CameFrom (z0 : FlatState) (y0 : MidState) (z : FlatState) (y : MidState) : Type 0 where
    pub paid : PaidFrom entry_paid z0 y0 z y
    pub units : z0.state.units ≤ z.state.units
    pub same_size : length y.arena.memory ≡ length y0.arena.memory

  -- what a run comes to that began there
  abbrev pub RunFrom : (turns : ℕ) → FlatState → MidState → FlatEvaluated → MidOutcome → Type 0
  RunFrom turns z y r q = Ends setting start_credit (Halted setting z y r q) (Unhandled setting start_credit z y r q) turns z y r q

-- **from any main form on**
abbrev pub LawOfMainsLeft : Type 0
LawOfMainsLeft =
    (setting : Setting) (k turns number : ℕ) (fs : List FlatForm) (last : Value) (word : ℕ) (tail : Registers) (w : World) (z0 z : FlatState) (y0 y : MidState)
    → MainsDo setting k turns → AreFrom setting number fs → CameFrom setting z0 y0 z y → MainBegins setting main_reserve w z y → word_of w.places last ≡ Some word
    → RunFrom setting turns z0 y0 (mean_mains setting.names setting.program setting.limit k fs last z)
    (exec (code_at setting k turns) (mains_code setting (mains_from setting.names setting.at setting.program + number) fs) (Some word ∷ tail) y)
