-- Images have what a start asks for, and do what programs mean.
use Rattle.std.proofs.Common.{ℕ, ◌≤◌, [], refl, sym, subst, arith}
use Rattle.std.specs.Prelude.{Bool}
use Rattle.mid_lines.specs.declared.line.LineProgram.{LineProgram}
use Rattle.mid_lines.specs.Flattened.{program_lines}
use Rattle.back_places.specs.declared.place.Place.{Place}
use Rattle.back_places.specs.Places.{Located}
use Rattle.back_places.specs.Good.{IsGood}
use Rattle.back_places.specs.StepLaw.{Known}
use Rattle.back_trivial.specs.OwnSlots.{IsPlacedWell}
use Rattle.back_layout.specs.Layout.{start_at, laid_out}
use Rattle.back_layout.specs.Image.{image}
use Rattle.back_layout.specs.ChosenPlaces.{placed_decided, placed_laid_out}
use Rattle.back_layout.proofs.Words.{law_of_words}
use Rattle.back_layout.proofs.ChosenPlaces.{law_of_placed_laid_out}
use Rattle.back_runs.proofs.Programs.{law_of_known_runs}
use Rattle.back_runs.specs.Images.{IsFirst, first_state}
use Rattle.back_runs.proofs.Starting.{law_of_first}
use Rattle.back_runs.proofs.Images.{law_of_image_runs}
use Rattle.back_images.specs.Laws.{LawOfImages, LawOfFirstStates, LawOfEmittedRuns}

pub law_of_images : LawOfImages
law_of_images program l known entry placed low laid =
    let i = law_of_words program l known entry placed in
    record {
      code = i.program_there;
      start = i.start;
      behind = refl;
      are_words = i.small laid low;
      whole = let e = i.long in omega (arith, e);
      arguments = omega arith;
    }

pub law_of_first_states : LawOfFirstStates
law_of_first_states program l known entry arena input placed low laid room small bytes =
    let e = (law_of_words program l known entry placed).long in
    let i = law_of_images program l known entry placed low laid in
    subst (λ n. IsFirst (laid_out program l) (image program (laid_out program l) entry) arena input (first_state program.laid n arena input)) e
    (law_of_first program (laid_out program l) (start_at program l) entry (image program (laid_out program l) entry) program.laid _ arena input i refl (omega arith)
    (subst (λ n. n ≤ arena) (sym e) room) small bytes)

-- good decisions are good but for positions
pub placed_well :
    (program : LineProgram) (l : Located) (known : (number line register : ℕ) → Place → Bool) → IsGood program l (Known known)
    → IsPlacedWell program l (Known known)
placed_well program l known g = record {
  lines = g.lines;
  entries = g.entries;
  placed = g.placed;
  sources = g.sources;
  targets = g.targets;
  behind = g.behind;
  frames = g.frames;
}

pub law_of_emitted_runs : LawOfEmittedRuns
law_of_emitted_runs program chosen entry arena input z p checked fit low laid there first =
    let lines = program_lines program in
    let l = placed_laid_out program chosen in
    let decided = law_of_placed_laid_out program chosen fit low in
    let known = decided.known in
    let i = law_of_images lines (placed_decided program chosen) known entry (placed_well lines l known decided.good) low laid in
    let r =
    law_of_image_runs program l known checked decided.good (start_at lines (placed_decided program chosen)) entry (image lines l entry) arena input z p i first there in
    record {
      known = known;
      runs_as = r;
      lawful = λ n k turns_each le lt h.
          r.does n k turns_each le lt (law_of_known_runs program l known z.arena.blocks entry [] z r.started.moment n k turns_each le lt h);
    }
