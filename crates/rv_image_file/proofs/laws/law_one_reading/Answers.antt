use Rattle.rv_image_file.proofs.OneText.{one_text}
use Rattle.rv_image_file.proofs.SeenText.{whole_text, not_bad}
use Rattle.rv_image_file.proofs.laws.law_one_reading.Goals as goal

pub returns-clause-same : goal.returns-clause-same
returns-clause-same c = one_text

pub returns-clause-apart : goal.returns-clause-apart
returns-clause-apart c = λ bytes version image sites reason h bad. not_bad bytes reason (whole_text bytes version image sites h) bad
