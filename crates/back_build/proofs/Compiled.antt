-- The image of a whole program does what the program means.
use Rattle.std.proofs.Common.{◌≡◌, ℕ, ◌*◌, ◌^◌, ◌≤◌, List, length, refl, Some}
use Rattle.std.specs.Prelude.{Bool, slice_get}
use Rattle.lang_meaning.specs.declared.program.ProgramRows.{ProgramRows}
use Rattle.lang_meaning.specs.State.{Limit, words, unlimited}
use Rattle.flat_language.specs.Flatten.{flat_program}
use Rattle.flat_language.specs.FlatExits.{ProgramLeads}
use Rattle.flat_language.specs.Law.{LawOfFlatPrograms}
use Rattle.mid_code.specs.declared.program.MidProcedure.{MidProcedure}
use Rattle.mid_code.specs.State.{MidState}
use Rattle.mid_arena.specs.Layouts.{AreBytes}
use Rattle.mid_lines.specs.declared.line.LineProcedure.{LineProcedure}
use Rattle.mid_lines.specs.Flattened.{program_lines}
use Rattle.back_places.specs.declared.place.Place.{Place}
use Rattle.back_places.specs.Places.{Located}
use Rattle.back_places.specs.Good.{IsGood}
use Rattle.back_places.specs.StepLaw.{Known}
use Rattle.back_relation.specs.Setting.{Setting}
use Rattle.back_relation.specs.Worlds.{World}
use Rattle.back_claims.specs.Program.{at_start, ProgramBegins, LoweringIsRight}
use Rattle.back_words.specs.Start.{world_at_start}
use Rattle.back_words.specs.Laws.{LawOfBeginnings, LawOfWholePrograms}
use Rattle.back_levels.specs.Laid.{LawOfRightPrograms}
use Rattle.back_lowered.specs.declared.lowering.LoweredProgram.{LoweredProgram}
use Rattle.back_runs.specs.Images.{HasStart, IsFirst, first_state}
use Rattle.back_meant.specs.Laws.{LawOfMeantRuns}
use Rattle.back_build.specs.Built.{code_with, entry_of, symbols_of}
use Rattle.back_build.specs.Laws.{LawOfWholeMeaning}
use Rattle.back_build.specs.Means.{Holds, ImageMeans}
use Rattle.back_build.specs.Compiled.{IsCompiled, LawOfCompiled}
use Rattle.back_build.proofs.Lowered.{setting_of, starts_with, is_laid}
use Rattle.back_build.proofs.First.{begins_with, room_for}

-- the laws that this rests on
pub record Laws : Type 0 where
  pub flat_programs : LawOfFlatPrograms
  pub whole_programs : LawOfWholePrograms
  pub right_programs : LawOfRightPrograms
  pub beginnings : LawOfBeginnings
  pub lowering : LoweringIsRight
  pub meant_runs : LawOfMeantRuns
  pub whole_meaning : LawOfWholeMeaning

module _ (laws : Laws) (names : List (List ℕ)) (program : ProgramRows) (l : LoweredProgram) (used : List MidProcedure)
    (is : IsCompiled names program l used) where
  leads : ProgramLeads (flat_program program)
  leads = (laws.flat_programs program is.whole).2

  abbrev setting : Limit → (turns : ℕ) → Setting
  setting limit turns = setting_of names program l is.lowered leads used is.frames limit turns

  module _ (image : List ℕ) (arena : ℕ) (input : List ℕ) (front : length l.words.data.arena.words ≤ length image) (room : length image ≤ arena)
      (small : arena ≤ 2 ^ 24) (bytes : AreBytes input) where
    abbrev y : MidState
    y = first_state l.words.data.arena.words (length image) arena input

    abbrev world : World
    world = world_at_start is.lowered.words.start.places

    begins_free : (turns : ℕ) → ProgramBegins (setting unlimited turns) input world y
    begins_free turns =
        laws.beginnings (setting unlimited turns) l.words.data (starts_with names program l is.lowered leads used is.frames unlimited turns) is.table (laws.whole_programs program is.whole).0 input y bytes
        (begins_with l.words.data.arena image arena input is.lowered.words.start.first front room small) refl tt

    begins_in : (charge turns : ℕ) → Holds arena image charge → ProgramBegins (setting (words charge) turns) input world y
    begins_in charge turns holds =
        laws.beginnings (setting (words charge) turns) l.words.data (starts_with names program l is.lowered leads used is.frames (words charge) turns) is.table (laws.whole_programs program is.whole).0 input y bytes
        (begins_with l.words.data.arena image arena input is.lowered.words.start.first front room small) refl
        (room_for l.words.data.arena image arena input is.lowered.words.start.first front room small charge (at_start (setting (words charge) turns) input).state holds)

    pub means :
        (d : Located) (known : (number line register : ℕ) → Place → Bool) → IsGood (program_lines (code_with l used)) d (Known known)
        → (at : ℕ) (p : LineProcedure) → HasStart (program_lines (code_with l used)) d at (entry_of names (flat_program program) l) image
        → slice_get (program_lines (code_with l used)).procedures (entry_of names (flat_program program) l) ≡ Some p
        → IsFirst d image arena input y → ImageMeans names program (symbols_of l) image (4 * at) arena input
    means d known good at p starts there first =
        laws.whole_meaning program (setting unlimited 0) (symbols_of l) is.whole refl is.lowered.words.start.stands.listed is.lowered.words.start.stands.once at image arena input world y (λ charge turns holds. begins_in charge turns holds)
        (laws.meant_runs laws.lowering (setting unlimited 0) l.words.data.arena.words d known
        (λ limit turns. laws.right_programs program (setting limit turns) l.words.data
        (is_laid names program l is.lowered leads used is.frames is.whole is.boxes is.table is.asked is.low limit turns))
        is.checked good at image arena input world y p starts first there begins_free)

pub compiled_law : Laws → LawOfCompiled
compiled_law laws names program l used is d known good at image arena input p starts there front room small first bytes =
    means laws names program l used is image arena input front room small bytes d known good at p starts there first
