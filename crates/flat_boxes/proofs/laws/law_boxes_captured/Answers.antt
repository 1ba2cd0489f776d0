use Rattle.flat_boxes.proofs.Whole.{boxes_captured}
use Rattle.flat_boxes.proofs.laws.law_boxes_captured.Goals as goal

pub returns : goal.returns
returns c = boxes_captured
