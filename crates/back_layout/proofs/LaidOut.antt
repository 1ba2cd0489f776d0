-- The layout is good: code stands line behind line, near jumps are near enough, and with own slots all is decided well.
use Rattle.std.proofs.Common.{ℕ, sym, ap, ◌∙◌}
use Rattle.mid_lines.specs.declared.line.LineProgram.{LineProgram}
use Rattle.mid_lines.specs.Lines.{line_of}
use Rattle.back_places.specs.declared.place.Place.{Place}
use Rattle.back_places.specs.Places.{Located}
use Rattle.back_places.specs.Good.{IsGood}
use Rattle.back_places.specs.StepLaw.{Known}
use Rattle.back_trivial.specs.OwnSlots.{IsPlacedWell, IsLaidWell}
use Rattle.back_layout.specs.Layout.{with_front, near_in, far_placed, with_near, laid_out}
use Rattle.back_layout.specs.Laws.{LawOfPositions, LawOfLaidOut, LawOfLayout}
use Rattle.back_layout.proofs.Positions.{entry_is, back_is, behind_is, line_within, positions_are}
use Rattle.back_layout.proofs.Near.{reaches}

pub law_of_positions : LawOfPositions
law_of_positions program l = positions_are program (with_near program l)

pub law_of_laid_out : LawOfLaidOut
law_of_laid_out program l low = record {
  laid = λ number line x e. record {
    back = back_is program (with_near program l) number line x e;
    behind = behind_is program (with_near program l) number line x e;
    reaches = λ h.
        reaches program (with_front program l) (λ number line. near_in (far_placed program l) number line (line_of program number line)) number line x e
        (sym (ap (near_in (far_placed program l) number line) e) ∙ h);
  };
  begins = entry_is program (with_near program l);
  within = line_within program (with_near program l);
  low = low;
}

pub good_with :
    (program : LineProgram) (l : Located) (Fact : (number line register : ℕ) → Place → Type 0) → IsPlacedWell program l Fact → IsLaidWell program l
    → IsGood program l Fact
good_with program l Fact placed laid = record {
  lines = placed.lines;
  laid = laid.laid;
  entries = placed.entries;
  begins = laid.begins;
  placed = placed.placed;
  sources = placed.sources;
  targets = placed.targets;
  behind = placed.behind;
  frames = placed.frames;
  within = laid.within;
  low = laid.low;
}

pub law_of_layout : LawOfLayout
law_of_layout program l known placed low = good_with program (laid_out program l) (Known known) placed (law_of_laid_out program l low)
