-- What images of lowered programs do, in words of the meaning of flat programs.
use Rattle.std.specs.Prelude.{◌≡◌, ◌⊎◌, ⊤, ◌<◌, ◌≤◌, ℕ, ◌+◌, ◌*◌, ◌^◌, Bool, true, List, length, slice_get, slice_index, Some}
use Rattle.base.specs.declared.place.Place.{Place}
use Rattle.lang_meaning.specs.Counts.{bound}
use Rattle.lang_meaning.specs.Meaning.{Meant, End, ended_value, ended_unhandled, ended_full, ended_more, class_in}
use Rattle.lang_meaning.specs.Prefixes.{IsPrefix}
use Rattle.lang_meaning.specs.State.{Limit, words, unlimited}
use Rattle.lang_meaning.specs.Values.{Value}
use Rattle.flat_language.specs.FlatMeaning.{flat_meaning}
use Rattle.rv_machine.specs.declared.ending.Ending.TheVariants.{Budget, Halt, Unhandled, Full}
use Rattle.rv_machine.specs.Run.{Ended, run_of}
use Rattle.mid_code.specs.declared.program.MidProgram.{MidProgram}
use Rattle.mid_code.specs.Checked.{is_checked_program}
use Rattle.mid_code.specs.State.{MidState}
use Rattle.mid_arena.specs.Places.{word_of}
use Rattle.mid_lines.specs.declared.line.LineProcedure.{LineProcedure}
use Rattle.mid_lines.specs.Flattened.{program_lines}
use Rattle.back_lowering.specs.Program.{start_number}
use Rattle.back_relation.specs.Setting.{Setting}
use Rattle.back_relation.specs.Worlds.{World}
use Rattle.back_relation.specs.Things.{Things, SiteIs}
use Rattle.back_relation.specs.Right.{ProgramIsRight}
use Rattle.back_claims.specs.Program.{ProgramBegins, meant_by, the_meaning, IsFullEnd, LoweringIsRight}
use Rattle.back_places.specs.declared.place.Place.{Place as WordPlace}
use Rattle.back_places.specs.Places.{Located}
use Rattle.back_places.specs.Good.{IsGood}
use Rattle.back_places.specs.StepLaw.{Known}
use Rattle.back_runs.specs.Ends.{Leaves}
use Rattle.back_runs.specs.Images.{HasStart, IsFirst}

-- a setting with another limit of words for its meaning, and with so many turns
abbrev pub with_limits : Setting → Limit → (turns : ℕ) → Setting
with_limits base limit turns = record base { limit = limit; turns_each = turns }

-- the code of a setting, with words laid beside it, and the procedure with which it begins
abbrev pub code_of_setting : Setting → (laid : List ℕ) → MidProgram
code_of_setting base laid = record { procedures = base.procedures; laid = laid }

abbrev pub entry_of : Setting → ℕ
entry_of base = start_number base.names base.at base.program

-- a run of the machine has halted with the word of the value of the program, with so many levels, and has printed the same
pub record HaltsAs (setting : Setting) (input : List ℕ) (k : ℕ) (y : MidState) (x : Ended) (word : ℕ) : Type 0 where
  pub result : Value
  pub end : (the_meaning setting input k y).end ≡ ended_value result
  pub world : World
  pub state : MidState
  pub things : Things setting world (meant_by setting input k).state state
  pub of_value : word_of world.places result ≡ Some word
  pub leaves : Leaves state x.at
  pub printed : x.at.printed ≡ (the_meaning setting input k y).printed

-- it has ended with the class, the site and the word of the condition that the program did not handle, and has printed the same
pub record UnhandledAs (setting : Setting) (input : List ℕ) (k : ℕ) (y : MidState) (x : Ended) (class : ℕ) : Type 0 where
  pub condition : Value
  pub place : Place
  pub end : (the_meaning setting input k y).end ≡ ended_unhandled condition place
  pub class_is : class ≡ class_in (the_meaning setting input k y).store condition
  pub site_is : SiteIs setting (slice_index x.at.state.registers 11) place
  pub world : World
  pub state : MidState
  pub things : Things setting world (meant_by setting input k).state state
  pub of_condition : word_of world.places condition ≡ Some (slice_index x.at.state.registers 12)
  pub leaves : Leaves state x.at
  pub printed : x.at.printed ≡ (the_meaning setting input k y).printed

-- the ways in which a run that has ended may have ended
abbrev pub EndsWell : Setting → List ℕ → (k : ℕ) → MidState → Ended → Type 0
EndsWell setting input k y x =
    ((word : ℕ) × (x.ending ≡ Halt word) × HaltsAs setting input k y x word)
    ⊎ ((class : ℕ) × (x.ending ≡ Unhandled class) × UnhandledAs setting input k y x class)
    ⊎ ((asked : ℕ) × (left_then : ℕ) × (x.ending ≡ Full asked left_then))

-- turns enough for a program with so many levels
abbrev pub HasTurns : Setting → List ℕ → (k : ℕ) → MidState → Type 0
HasTurns setting input k y = 16 * (the_meaning setting input k y).units + length y.arena.memory < setting.turns_each

-- the program goes on for so many levels, or it has an end of its own and is charged more than so many instructions
abbrev pub IsOwnEnd : End → Type 0
IsOwnEnd (ended_value v) = ⊤
IsOwnEnd (ended_unhandled c place) = ⊤
IsOwnEnd (ended_full asked left_then) = ⊥
IsOwnEnd ended_more = ⊥

abbrev pub GoesOn : Meant → (instructions : ℕ) → Type 0
GoesOn m n = (m.end ≡ ended_more) ⊎ (IsOwnEnd m.end × (n < bound m.units))

-- what so many instructions of an image have done, in words of the meaning
pub record MeantRuns (base : Setting) (image : List ℕ) (at arena : ℕ) (input : List ℕ) (w : World) (y : MidState) : Type 0 where
  -- with no limit of words, and as many levels
  pub prefix :
      (n : ℕ) → IsPrefix (run_of image (4 * at) arena input n).at.printed (flat_meaning base.names base.program input n unlimited).printed
  pub ends :
      (n : ℕ)
      → ((run_of image (4 * at) arena input n).ending ≡ Budget)
      ⊎ ((turns : ℕ) × EndsWell (with_limits base unlimited turns) input n y (run_of image (4 * at) arena input n))
  -- where they go on, the program does, with no limit of words and as many levels, or it is charged more
  pub paid :
      (n : ℕ) → n < 2 ^ 32 → (run_of image (4 * at) arena input n).ending ≡ Budget
      → GoesOn (flat_meaning base.names base.program input n unlimited) n
  -- Where there was no room, the program has no end of its own within the words with which it begins so, with as many levels or more.
  pub full :
      (n asked left_then : ℕ) → (run_of image (4 * at) arena input n).ending ≡ Full asked left_then
      → (m k turns : ℕ) → ProgramBegins (with_limits base (words m) turns) input w y → HasTurns (with_limits base (words m) turns) input k y → n ≤ k → n ≤ turns
      → IsFullEnd (with_limits base (words m) turns) input k y (the_meaning (with_limits base (words m) turns) input k y).end
  -- with so many words, and any number of levels: within the charged count
  pub in_time :
      (m k turns n : ℕ) → ProgramBegins (with_limits base (words m) turns) input w y → HasTurns (with_limits base (words m) turns) input k y
      → bound (the_meaning (with_limits base (words m) turns) input k y).units < 2 ^ 32
      → bound (the_meaning (with_limits base (words m) turns) input k y).units ≤ n
      → ((v : Value) → (the_meaning (with_limits base (words m) turns) input k y).end ≡ ended_value v
      → (word : ℕ) × ((run_of image (4 * at) arena input n).ending ≡ Halt word)
      × HaltsAs (with_limits base (words m) turns) input k y (run_of image (4 * at) arena input n) word)
      × ((c : Value) (place : Place) → (the_meaning (with_limits base (words m) turns) input k y).end ≡ ended_unhandled c place
      → (class : ℕ) × ((run_of image (4 * at) arena input n).ending ≡ Unhandled class)
      × UnhandledAs (with_limits base (words m) turns) input k y (run_of image (4 * at) arena input n) class)

-- **The image of a lowered program does what the program means**, where lowering is right.
abbrev pub LawOfMeantRuns : Type 0
LawOfMeantRuns =
    LoweringIsRight
    → (base : Setting) (laid : List ℕ) (l : Located) (known : (number line register : ℕ) → WordPlace → Bool)
    → ((limit : Limit) (turns : ℕ) → ProgramIsRight (with_limits base limit turns))
    → is_checked_program (code_of_setting base laid) ≡ true → IsGood (program_lines (code_of_setting base laid)) l (Known known)
    → (at : ℕ) (image : List ℕ) (arena : ℕ) (input : List ℕ) (w : World) (y : MidState) (p : LineProcedure)
    → HasStart (program_lines (code_of_setting base laid)) l at (entry_of base) image → IsFirst l image arena input y
    → slice_get (program_lines (code_of_setting base laid)).procedures (entry_of base) ≡ Some p
    → ((turns : ℕ) → ProgramBegins (with_limits base unlimited turns) input w y)
    → MeantRuns base image at arena input w y
