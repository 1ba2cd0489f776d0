use Rattle.rv_image_file.proofs.OneText.{one_text}
use Rattle.rv_image_file.proofs.SeenText.{whole_text, not_bad}
use Rattle.rv_image_file.proofs.reading.read_image.Goals as goal

pub returns-in-Some-clause-every_image : goal.returns-in-Some-clause-every_image
returns-in-Some-clause-every_image c = λ version image sites h. absurd (not_bad c.args.bytes.now c.in-Some.reason (whole_text c.args.bytes.now version image sites h) c.in-Some.ensures)

pub returns-clause-every_image : goal.returns-clause-every_image
returns-clause-every_image c = λ version image sites h.
    let e = c.in_ok-file_of.ensures in
    let p = one_text c.args.bytes.now _ version _ image _ sites e h in (p.1, p.2, p.3)
