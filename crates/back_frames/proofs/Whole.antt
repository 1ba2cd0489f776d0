-- **All frames of a program are paid.**
use Rattle.base.specs.AllOf.{all_at, all_map}
use Rattle.flat_language.specs.FlatFits.{Fits}
use Rattle.back_lowering.specs.Program.{itself, extra_of}
use Rattle.back_relation.specs.Procedures.{BodyPaid}
use Rattle.flat_boxes.specs.Boxes.{BoxesAreCaptured}
use Rattle.back_frames.specs.Laws.{MainPaid, LawOfFramesPaid}
use Rattle.back_frames.proofs.Bodies.{bodies_paid, mains_paid}

pub frames_paid : LawOfFramesPaid
frames_paid setting fits boxes = record {
  procedures =
      λ p q there. bodies_paid setting (extra_of setting.names setting.at setting.program p) q (all_at BoxesAreCaptured setting.program.procedures p q boxes.procedures there);
  lambdas = all_map BoxesAreCaptured (BodyPaid setting itself) (λ q captured. bodies_paid setting itself q captured) setting.program.lambdas boxes.lambdas;
  main = all_map (Fits setting.program) (MainPaid setting) (λ f fit. mains_paid setting f fit) setting.program.main fits.main;
}
