use Rattle.back_values.proofs.BoxesMade.{boxes_law}
use Rattle.back_values.proofs.laws.law_boxes.Goals as goal

pub returns : goal.returns
returns c = boxes_law
